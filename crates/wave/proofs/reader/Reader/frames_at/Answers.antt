use Rattle.std.proofs.Common.{arith, ap, sym, subst, ◌∙◌, ◌≡◌, ◌≤◌, ◌*◌, ◌+◌, ◌-◌, ◌/◌, min, take, drop, length, length-take, List, ℤ, IfOk}
use Rattle.std.proofs.lemmas.List.{take_at}
use Rattle.pcm_mix.specs.Layouts.{width, count}
use Rattle.wave.proofs.Known.{known_map, ok_map}
use Rattle.wave.proofs.FrameLaws.{frames_are, frames_back, few_frames, positive}
use Rattle.wave.proofs.reader.Reader.frames_at.Goals as goal

pub returns-clause-value : goal.returns-clause-value
returns-clause-value g c =
    known_map (g.R.Media.all_bytes c.args.self.now.media) (λ bytes filled.
    let head = c.args.self.now.head in
    let b = width head.layout.depth * count head.layout.channels in
    let block : c.width.result * c.count.result ≡ b = cc (c.width.ensures, c.count.ensures) in
    let first : c.min-first.result ≡ min c.args.from (head.frames * b / b) = c.min-first.ensures ∙ ap (min c.args.from) (sym (frames_back head.layout head.frames)) in
    let frame_count : c.min-frame_count.result ≡ min c.args.n (head.frames * b / b - c.min-first.result) =
    c.min-frame_count.ensures ∙ ap (λ all. min c.args.n (all - c.min-first.result)) (sym (frames_back head.layout head.frames)) in
    let long : length c.read_at.new.buf ≡ c.min-frame_count.result * (c.width.result * c.count.result) = omega (arith, c.read_at.auto.buf, c.deref_mut.ensures.len, c.in_ok-bytes.ensures.len) in
    let slice : c.as_slice.result.now ≡ c.read_at.new.buf = c.as_slice.ensures.value ∙ take_at c.read_at.new.buf _ _ (omega (arith, c.read_at.auto.buf, c.deref_mut.ensures.len, c.in_ok-bytes.bytes.ok.0)) in
    let read : take c.in_ok-got.got c.as_slice.result.now ≡ take (c.min-frame_count.result * b) (drop (head.offset + c.min-first.result * b) bytes) =
    ap (take c.in_ok-got.got) slice ∙ filled ∙ ap (λ k. take k (drop (head.offset + c.min-first.result * (c.width.result * c.count.result)) bytes)) long
    ∙ ap (λ n. take (c.min-frame_count.result * n) (drop (head.offset + c.min-first.result * n) bytes)) block in
    subst (λ (xs : List (List ℤ)). IfOk c.decoded-frames.result (λ frames. frames.items ≡ xs))
    (frames_are head.layout.depth head.layout.channels (take c.in_ok-got.got c.as_slice.result.now) bytes head.offset (head.frames * b) c.args.from c.args.n c.min-first.result c.min-frame_count.result
    (positive head.layout.depth head.layout.channels) first frame_count read)
    c.decoded-frames.ensures.value) c.in_ok-got.ensures.value

pub returns-clause-count : goal.returns-clause-count
returns-clause-count g c =
    let layout = c.args.self.now.head.layout in
    let b = width layout.depth * count layout.channels in
    let block : c.width.result * c.count.result ≡ b = cc (c.width.ensures, c.count.ensures) in
    let long : length c.read_at.new.buf ≡ c.min-frame_count.result * (c.width.result * c.count.result) = omega (arith, c.read_at.auto.buf, c.deref_mut.ensures.len, c.in_ok-bytes.ensures.len) in
    let few : length (take c.in_ok-got.got c.as_slice.result.now) ≤ c.min-frame_count.result * b =
    simp length-take (omega (arith, c.in_ok-got.ensures.bound, long ∙ ap (λ n. c.min-frame_count.result * n) block)) in
    ok_map c.decoded-frames.result (λ frames e. rw e (omega (arith, few_frames layout (take c.in_ok-got.got c.as_slice.result.now) c.min-frame_count.result few))) c.decoded-frames.ensures.value
