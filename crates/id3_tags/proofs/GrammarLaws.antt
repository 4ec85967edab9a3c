-- The frames that are read are those that the bytes are made of.
use Rattle.std.proofs.Common.{ℕ, zero, suc, ◌≤◌, ◌≡◌, List, [], ◌∷◌, ◌++◌, length, take, drop, Bool, true, false, cond, refl, sym, ap, subst, ◌∙◌, arith, length-take-le, length-append, Option, Some, None, IfSome, ◌&&◌, nat_le}
use Rattle.std.proofs.lemmas.Bool.Decides.{nat_tests}
use Rattle.std.proofs.lemmas.List.{take_at, drop_at, take-append-drop}
use Rattle.id3_tags.specs.declared.tag.Version.{Version}
use Rattle.id3_tags.specs.Frames.{Id3Frame, header_len, identifier_len, is_identifier, frame_size, frame_flags, frame_of, first_frame, frames}
use Rattle.id3_tags.specs.Grammar.{StartsWithFrame, AreFrames}
use Rattle.id3_tags.proofs.FrameLaws.{frames_some, frames_none, rest_shorter, none_of_nothing}

abbrev made : List ℕ → ℕ → List ℕ → Id3Frame
made identifier flags body = record { identifier = identifier; flags = flags; body = body }

same_frame : (a b : Id3Frame) → a.identifier ≡ b.identifier → a.flags ≡ b.flags → a.body ≡ b.body → a ≡ b
same_frame a b e f g = ap (λ x. made x a.flags a.body) e ∙ ap (λ n. made b.identifier n a.body) f ∙ ap (λ x. made b.identifier b.flags x) g

-- what a test lets through
let_through : {X : Type 0} (b : Bool) (x y : X) → cond b (Some x) None ≡ Some y → (b ≡ true) × (x ≡ y)
let_through true x y e = (refl, cc)
let_through false x y e = absurd cc

let_on : {X : Type 0} (b : Bool) (found : Option X) (y : X) → cond b found None ≡ Some y → (b ≡ true) × (found ≡ Some y)
let_on true found y e = (refl, e)
let_on false found y e = absurd cc

both_hold : (a b : Bool) → (a && b) ≡ true → (a ≡ true) × (b ≡ true)
both_hold true b e = (refl, e)
both_hold false b e = absurd cc

-- the frame of a header, its bytes and the rest
of_parts : (version : Version) (header : List ℕ) (frame : Id3Frame) (rest : List ℕ) → frame.identifier ≡ take (identifier_len version) header → is_identifier frame.identifier ≡ true → frame.flags ≡ frame_flags version header
    → frame_of version header (Some (length frame.body)) (frame.body ++ rest) ≡ Some (frame, rest)
of_parts version header frame rest name good flags =
    let fits : nat_le (length frame.body) (length (frame.body ++ rest)) ≡ true =
    let room : length frame.body ≤ length (frame.body ++ rest) = simp length-append (omega arith) in grind (arith, nat_tests) in
    let called : is_identifier (take (identifier_len version) header) ≡ true = ap is_identifier (sym name) ∙ good in
    let body : take (length frame.body) (frame.body ++ rest) ≡ frame.body = take_at frame.body rest (length frame.body) refl in
    let last : drop (length frame.body) (frame.body ++ rest) ≡ rest = drop_at frame.body rest (length frame.body) refl in
    let first : made (take (identifier_len version) header) (frame_flags version header) (take (length frame.body) (frame.body ++ rest)) ≡ frame =
    same_frame (made (take (identifier_len version) header) (frame_flags version header) (take (length frame.body) (frame.body ++ rest))) frame (sym name) (sym flags) body in
    let found : Id3Frame × List ℕ = (made (take (identifier_len version) header) (frame_flags version header) (take (length frame.body) (frame.body ++ rest)), drop (length frame.body) (frame.body ++ rest)) in
    ap (λ b. cond (b && is_identifier (take (identifier_len version) header)) (Some found) None) fits
    ∙ ap (λ b. cond b (Some found) None) called
    ∙ ap (λ (x : Id3Frame). Some (x, drop (length frame.body) (frame.body ++ rest))) first ∙ ap (λ (x : List ℕ). Some (frame, x)) last

pub reads_frame : (version : Version) (bytes : List ℕ) (frame : Id3Frame) (rest : List ℕ) → StartsWithFrame version bytes frame rest → first_frame version bytes ≡ Some (frame, rest)
unfolding first_frame
reads_frame version bytes frame rest (header, e, len, name, good, size, flags) =
    let head : take (header_len version) bytes ≡ header = ap (take (header_len version)) e ∙ take_at header (frame.body ++ rest) (header_len version) len in
    let tail : drop (header_len version) bytes ≡ frame.body ++ rest = ap (drop (header_len version)) e ∙ drop_at header (frame.body ++ rest) (header_len version) len in
    let long : header_len version ≤ length bytes = rw e (simp length-append (omega arith)) in
    let test : nat_le (header_len version) (length bytes) ≡ true = grind (arith, nat_tests) in
    ap (λ b. cond b (frame_of version (take (header_len version) bytes) (frame_size version (take (header_len version) bytes)) (drop (header_len version) bytes)) None) test
    ∙ ap (λ xs. frame_of version xs (frame_size version xs) (drop (header_len version) bytes)) head
    ∙ ap (frame_of version header (frame_size version header)) tail
    ∙ ap (λ n. frame_of version header n (frame.body ++ rest)) size
    ∙ of_parts version header frame rest name good flags

parts_of : (version : Version) (header tail : List ℕ) (size : Option ℕ) (frame : Id3Frame) (rest : List ℕ) → frame_of version header size tail ≡ Some (frame, rest)
    → (tail ≡ frame.body ++ rest) × (frame.identifier ≡ take (identifier_len version) header) × (is_identifier frame.identifier ≡ true) × (size ≡ Some (length frame.body)) × (frame.flags ≡ frame_flags version header)
parts_of version header tail None frame rest e = absurd cc
parts_of version header tail (Some n) frame rest e =
    let got = let_through (nat_le n (length tail) && is_identifier (take (identifier_len version) header))
    (made (take (identifier_len version) header) (frame_flags version header) (take n tail), drop n tail) (frame, rest) e in
    let tests = both_hold (nat_le n (length tail)) (is_identifier (take (identifier_len version) header)) got.0 in
    let is : made (take (identifier_len version) header) (frame_flags version header) (take n tail) ≡ frame = ap (λ (x : Id3Frame × List ℕ). x.0) got.1 in
    let last : drop n tail ≡ rest = ap (λ (x : Id3Frame × List ℕ). x.1) got.1 in
    let name : take (identifier_len version) header ≡ frame.identifier = ap (λ (x : Id3Frame). x.identifier) is in
    let body : take n tail ≡ frame.body = ap (λ (x : Id3Frame). x.body) is in
    let fits : n ≤ length tail = let t = tests.0 in grind (arith, nat_tests) in
    let size : n ≡ length frame.body = sym (length-take-le n tail fits) ∙ ap length body in (
      sym (take-append-drop n tail) ∙ ap (λ xs. xs ++ drop n tail) body ∙ ap (λ xs. frame.body ++ xs) last,
      sym name,
      ap is_identifier (sym name) ∙ tests.1,
      ap (λ k. Some k) size,
      ap (λ (x : Id3Frame). x.flags) (sym is),
    )

pub frame_is_read : (version : Version) (bytes : List ℕ) (frame : Id3Frame) (rest : List ℕ) → first_frame version bytes ≡ Some (frame, rest) → StartsWithFrame version bytes frame rest
unfolding first_frame
frame_is_read version bytes frame rest e =
    let got = let_on (nat_le (header_len version) (length bytes)) (frame_of version (take (header_len version) bytes) (frame_size version (take (header_len version) bytes)) (drop (header_len version) bytes)) (frame, rest) e in
    let long : header_len version ≤ length bytes = let t = got.0 in grind (arith, nat_tests) in
    let parts = parts_of version (take (header_len version) bytes) (drop (header_len version) bytes) (frame_size version (take (header_len version) bytes)) frame rest got.1 in (
      take (header_len version) bytes,
      sym (take-append-drop (header_len version) bytes) ∙ ap (λ xs. take (header_len version) bytes ++ xs) parts.0,
      length-take-le (header_len version) bytes long,
      parts.1,
      parts.2,
      parts.3,
      parts.4,
    )

some_or_none : {X Y : Type 0} (found : Option X) → (found ≡ None → Y) → ((x : X) → found ≡ Some x → Y) → Y
some_or_none None f g = f refl
some_or_none (Some x) f g = g x refl

are_none : (version : Version) (bytes : List ℕ) → first_frame version bytes ≡ None → AreFrames version bytes (frames version bytes)
are_none version bytes none =
    subst (AreFrames version bytes) (sym (frames_none version bytes none)) (λ frame rest starts. let e = reads_frame version bytes frame rest starts in cc)

are : (most : ℕ) (version : Version) (bytes : List ℕ) → length bytes ≤ most → AreFrames version bytes (frames version bytes)
are zero version bytes h = are_none version bytes (none_of_nothing version bytes h)
are (suc most) version bytes h = some_or_none (first_frame version bytes)
    (λ none. are_none version bytes none)
    (λ found e.
    let short : length found.1 ≤ most = subst (λ o. IfSome o (λ x. length x.1 ≤ most)) e (rest_shorter version bytes most h) in
    subst (AreFrames version bytes) (sym (frames_some version bytes found.0 found.1 e))
    (found.1, frame_is_read version bytes found.0 found.1 e, are most version found.1 short))

pub frames_are : (version : Version) (bytes : List ℕ) → AreFrames version bytes (frames version bytes)
frames_are version bytes = are (length bytes) version bytes (omega arith)

-- and no others are
pub frames_only : (version : Version) (found : List Id3Frame) (bytes : List ℕ) → AreFrames version bytes found → found ≡ frames version bytes
frames_only version [] bytes none = some_or_none (first_frame version bytes)
    (λ e. sym (frames_none version bytes e))
    (λ found e. absurd (none found.0 found.1 (frame_is_read version bytes found.0 found.1 e)))
frames_only version (frame ∷ more) bytes (rest, starts, others) =
    ap (λ fs. frame ∷ fs) (frames_only version more rest others) ∙ sym (frames_some version bytes frame rest (reads_frame version bytes frame rest starts))
