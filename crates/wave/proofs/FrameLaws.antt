-- Frames that lie in a part of the data.
use Rattle.std.proofs.Common.{ℕ, ◌+◌, ◌-◌, ◌*◌, ◌/◌, ◌%◌, ◌<◌, ◌≤◌, ◌≡◌, List, length, take, drop, get_or, min, map, Bool, true, false, ltb, refl, sym, ap, ◌∙◌, arith, length-drop, length-take, ℤ}
use Rattle.std.proofs.lemmas.List.{get_or-take, get_or-drop, same_lists, drop-take, drop-drop, take-take, take_all}
use Rattle.std.proofs.lemmas.Bool.{ltb-true, ltb-false}
use Rattle.std.proofs.lemmas.Nat.{mul-le, div-mul-add, div-add-mod'}
use Rattle.std.proofs.Math.Nat.{mod-lt, div-mul-le_self, le-div_iff_mul-le, div-le_of_le-mul, mul-div_cancel}
use Rattle.std.proofs.lemmas.List.FromFn.{length-map-range_with_len, get_or-map-range_with_len}
use Rattle.std.specs.List.{range_with_len}
use Rattle.pcm_mix.specs.declared.layout.Depth.{Depth}
use Rattle.pcm_mix.specs.declared.layout.Depth.TheVariants.{Eight, Sixteen, TwentyFour}
use Rattle.pcm_mix.specs.declared.layout.Channels.{Channels}
use Rattle.pcm_mix.specs.declared.layout.Channels.TheVariants.{Mono, Stereo}
use Rattle.wave.specs.declared.format.Layout.{Layout}
use Rattle.wave.specs.Formats.{block, frames_of}
use Rattle.pcm_mix.specs.Layouts.{width, count, sample_at, frame_at}

-- two lists hold the same sample at two offsets
pub sample_same : (depth : Depth) (xs ys : List ℕ) (p q : ℕ) → ((j : ℕ) → j < width depth → get_or xs (p + j) 0 ≡ get_or ys (q + j) 0) → sample_at depth xs p ≡ sample_at depth ys q
sample_same Eight xs ys p q h =
    let a : get_or xs p 0 ≡ get_or ys q 0 = grind (arith, h 0 (omega arith)) in rw a refl
sample_same Sixteen xs ys p q h =
    let a : get_or xs p 0 ≡ get_or ys q 0 = grind (arith, h 0 (omega arith)) in
    let b : get_or xs (p + 1) 0 ≡ get_or ys (q + 1) 0 = h 1 (omega arith) in rw (a, b) refl
sample_same TwentyFour xs ys p q h =
    let a : get_or xs p 0 ≡ get_or ys q 0 = grind (arith, h 0 (omega arith)) in
    let b : get_or xs (p + 1) 0 ≡ get_or ys (q + 1) 0 = h 1 (omega arith) in
    let c : get_or xs (p + 2) 0 ≡ get_or ys (q + 2) 0 = h 2 (omega arith) in rw (a, b, c) refl

div_is : (x b k : ℕ) → k * b ≤ x → x < (k + 1) * b → x / b ≡ k
div_is x b k low high =
    let e : x ≡ k * b + (x - k * b) = omega arith in
    ap (λ n. n / b) e ∙ div-mul-add k b (x - k * b) (omega arith)

by_test : {P : Type 0} (a b : ℕ) (t : Bool) → ltb a b ≡ t → (a < b → P) → (b ≤ a → P) → P
by_test a b true e f g = f (ltb-true a b e)
by_test a b false e f g = g (ltb-false a b e)

from_start : (w f t b d : ℕ) → 0 < b → (d + f) * b ≤ t → t < (d + f + 1) * b → min (w * b) (t - f * b) / b ≡ min w d
from_start w f t b d h low high =
    by_test d w (ltb d w) refl
    (λ less.
    let e : min w d ≡ d = omega arith in
    let m = mul-le d b w b (omega arith) (omega arith) in
    rw e (div_is _ b d (omega arith) (omega arith)))
    (λ most.
    let e : min w d ≡ w = omega arith in
    let m = mul-le w b d b most (omega arith) in
    rw e (div_is _ b w (omega arith) (omega arith)))

from_any : (w f t b n : ℕ) → 0 < b → n * b ≤ t → t < (n + 1) * b → min (w * b) (t - f * b) / b ≡ min w (n - f)
from_any w f t b n h low high =
    by_test n f (ltb n f) refl
    (λ past.
    let m = mul-le (n + 1) b f b (omega arith) (omega arith) in
    let e : min w (n - f) ≡ 0 = omega arith in
    rw e (div_is _ b 0 (omega arith) (omega arith)))
    (λ within.
    let e : n ≡ (n - f) + f = omega arith in
    from_start w f t b (n - f) h (rw (← e) low) (rw (← e) high))

-- how many whole frames a read of w frames from frame f on gets, where the data has t bytes
pub whole_frames : (w f t b : ℕ) → 0 < b → min (w * b) (t - f * b) / b ≡ min w (t / b - f)
whole_frames w f t b h =
    let less : t % b < b = mod-lt t h in
    let whole : t / b * b + t % b ≡ t = div-add-mod' t b in
    from_any w f t b (t / b) h (omega arith) (omega arith)

-- a frame in a part of the data is the one that lies further on in all of it
pub frame_same : (depth : Depth) (channels : Channels) (xs ys : List ℕ) (from k got : ℕ) →
    (k + 1) * (width depth * count channels) ≤ got →
    ((p : ℕ) → p < got → get_or xs p 0 ≡ get_or ys (from * (width depth * count channels) + p) 0) →
    frame_at depth channels xs k ≡ frame_at depth channels ys (from + k)
frame_same Eight Mono xs ys from k got h same =
    let a = sample_same Eight xs ys (k * 1) ((from + k) * 1) (λ j i. same (k * 1 + j) (omega arith) ∙ ap (λ n. get_or ys n 0) (omega arith)) in rw a refl
frame_same Eight Stereo xs ys from k got h same =
    let a = sample_same Eight xs ys (k * 2) ((from + k) * 2) (λ j i. same (k * 2 + j) (omega arith) ∙ ap (λ n. get_or ys n 0) (omega arith)) in
    let b = sample_same Eight xs ys (k * 2 + 1) ((from + k) * 2 + 1) (λ j i. same (k * 2 + 1 + j) (omega arith) ∙ ap (λ n. get_or ys n 0) (omega arith)) in rw (a, b) refl
frame_same Sixteen Mono xs ys from k got h same =
    let a = sample_same Sixteen xs ys (k * 2) ((from + k) * 2) (λ j i. same (k * 2 + j) (omega arith) ∙ ap (λ n. get_or ys n 0) (omega arith)) in rw a refl
frame_same Sixteen Stereo xs ys from k got h same =
    let a = sample_same Sixteen xs ys (k * 4) ((from + k) * 4) (λ j i. same (k * 4 + j) (omega arith) ∙ ap (λ n. get_or ys n 0) (omega arith)) in
    let b = sample_same Sixteen xs ys (k * 4 + 2) ((from + k) * 4 + 2) (λ j i. same (k * 4 + 2 + j) (omega arith) ∙ ap (λ n. get_or ys n 0) (omega arith)) in rw (a, b) refl
frame_same TwentyFour Mono xs ys from k got h same =
    let a = sample_same TwentyFour xs ys (k * 3) ((from + k) * 3) (λ j i. same (k * 3 + j) (omega arith) ∙ ap (λ n. get_or ys n 0) (omega arith)) in rw a refl
frame_same TwentyFour Stereo xs ys from k got h same =
    let a = sample_same TwentyFour xs ys (k * 6) ((from + k) * 6) (λ j i. same (k * 6 + j) (omega arith) ∙ ap (λ n. get_or ys n 0) (omega arith)) in
    let b = sample_same TwentyFour xs ys (k * 6 + 3) ((from + k) * 6 + 3) (λ j i. same (k * 6 + 3 + j) (omega arith) ∙ ap (λ n. get_or ys n 0) (omega arith)) in rw (a, b) refl

-- the frames of the bytes read are the ones asked for
pub part_is : (depth : Depth) (channels : Channels) (read samples : List ℕ) (frames : List (List ℤ)) (from n : ℕ) →
    read ≡ take (n * (width depth * count channels)) (drop (from * (width depth * count channels)) samples) →
    0 < width depth * count channels →
    frames ≡ map (frame_at depth channels read) (range_with_len 0 (length read / (width depth * count channels))) →
    frames ≡ take n (drop from (map (frame_at depth channels samples) (range_with_len 0 (length samples / (width depth * count channels)))))
part_is depth channels read samples frames from n e h f =
    let b = width depth * count channels in
    let got : length read ≡ min (n * b) (length samples - from * b) = rw e (simp (length-take, length-drop) refl) in
    let number : length read / b ≡ min n (length samples / b - from) = rw got (whole_frames n from (length samples) b h) in
    let many : length frames ≡ length read / b = rw f (length-map-range_with_len (frame_at depth channels read) 0 (length read / b)) in
    let long : length (take n (drop from (map (frame_at depth channels samples) (range_with_len 0 (length samples / b))))) ≡ min n (length samples / b - from) =
    simp (length-take, length-drop, length-map-range_with_len) refl in
    same_lists frames _ (many ∙ number ∙ sym long) (λ k d within.
    let inside : k < length read / b = omega arith in
    let most = mul-le (k + 1) b (length read / b) b (omega arith) (omega arith) in
    let fits = div-mul-le_self (length read) b in
    let left : get_or frames k d ≡ frame_at depth channels read k = rw f (get_or-map-range_with_len (frame_at depth channels read) 0 (length read / b) k k d inside (omega arith)) in
    let right : get_or (take n (drop from (map (frame_at depth channels samples) (range_with_len 0 (length samples / b))))) k d ≡ frame_at depth channels samples (from + k) =
    get_or-take n _ k d (omega arith) ∙ get_or-drop from _ k d ∙ get_or-map-range_with_len (frame_at depth channels samples) 0 (length samples / b) (from + k) (from + k) d (omega arith) (omega arith) in
    left ∙ frame_same depth channels read samples from k (length read) (omega arith)
    (λ p h. let w : p < n * b = omega arith in ap (λ xs. get_or xs p 0) e ∙ get_or-take (n * b) (drop (from * b) samples) p 0 w ∙ get_or-drop (from * b) samples p 0) ∙ sym right)

-- asking for more than there is changes nothing
pub clamped : (frames : List (List ℤ)) (from n first frame_count all : ℕ) → length frames ≤ all → first ≡ min from all → frame_count ≡ min n (all - first) → take frame_count (drop first frames) ≡ take n (drop from frames)
clamped frames from n first frame_count all h e f =
    let long : length (take frame_count (drop first frames)) ≡ min frame_count (length frames - first) = simp (length-take, length-drop) refl in
    let other : length (take n (drop from frames)) ≡ min n (length frames - from) = simp (length-take, length-drop) refl in
    same_lists (take frame_count (drop first frames)) (take n (drop from frames)) (long ∙ omega arith ∙ sym other) (λ k d within.
    get_or-take frame_count _ k d (omega arith) ∙ get_or-drop first frames k d ∙ ap (λ p. get_or frames p d) (omega arith)
    ∙ sym (get_or-drop from frames k d) ∙ sym (get_or-take n _ k d (omega arith)))

-- the bytes read lie in the data
pub read_is : (read bytes : List ℕ) (offset len first frame_count b : ℕ) → (frame_count + first) * b ≤ len →
    read ≡ take (frame_count * b) (drop (offset + first * b) bytes) → read ≡ take (frame_count * b) (drop (first * b) (take len (drop offset bytes)))
read_is read bytes offset len first frame_count b h e =
    let whole : len ≡ first * b + (len - first * b) = omega arith in
    let part : drop (first * b) (take len (drop offset bytes)) ≡ take (len - first * b) (drop (first * b) (drop offset bytes)) =
    ap (λ n. drop (first * b) (take n (drop offset bytes))) whole ∙ drop-take (first * b) (len - first * b) (drop offset bytes) in
    e ∙ ap (take (frame_count * b)) (sym (drop-drop (first * b) offset bytes)) ∙ sym (take-take (frame_count * b) (len - first * b) (drop (first * b) (drop offset bytes)) (omega arith)) ∙ ap (take (frame_count * b)) (sym part)

pub fits_in : (len b first frame_count from n : ℕ) → first ≡ min from (len / b) → frame_count ≡ min n (len / b - first) → (frame_count + first) * b ≤ len
fits_in len b first frame_count from n e f =
    let m = mul-le (frame_count + first) b (len / b) b (omega arith) (omega arith) in
    let d = div-mul-le_self len b in omega arith

pub frames_are : (depth : Depth) (channels : Channels) (read bytes : List ℕ) (offset len from n first frame_count : ℕ) →
    0 < width depth * count channels → first ≡ min from (len / (width depth * count channels)) → frame_count ≡ min n (len / (width depth * count channels) - first) →
    read ≡ take (frame_count * (width depth * count channels)) (drop (offset + first * (width depth * count channels)) bytes) →
    map (frame_at depth channels read) (range_with_len 0 (length read / (width depth * count channels)))
    ≡ take n (drop from (map (frame_at depth channels (take len (drop offset bytes))) (range_with_len 0 (length (take len (drop offset bytes)) / (width depth * count channels)))))
frames_are depth channels read bytes offset len from n first frame_count h e f r =
    let b = width depth * count channels in
    let samples = take len (drop offset bytes) in
    let fits : (frame_count + first) * b ≤ len = fits_in len b first frame_count from n e f in
    let inside : read ≡ take (frame_count * b) (drop (first * b) samples) = read_is read bytes offset len first frame_count b fits r in
    let short : length samples ≤ len = simp length-take (omega arith) in
    let fewer : length samples / b ≤ len / b = (le-div_iff_mul-le h).1 (omega (arith, div-mul-le_self (length samples) b)) in
    let all : length (map (frame_at depth channels samples) (range_with_len 0 (length samples / b))) ≤ len / b = rw (length-map-range_with_len (frame_at depth channels samples) 0 (length samples / b)) fewer in
    part_is depth channels read samples _ first frame_count inside h refl ∙ clamped (map (frame_at depth channels samples) (range_with_len 0 (length samples / b))) from n first frame_count (len / b) all e f

pub positive : (depth : Depth) (channels : Channels) → 0 < width depth * count channels
positive Eight Mono = omega arith
positive Eight Stereo = omega arith
positive Sixteen Mono = omega arith
positive Sixteen Stereo = omega arith
positive TwentyFour Mono = omega arith
positive TwentyFour Stereo = omega arith

-- the whole frames of some bytes lie in as many bytes as they take
abbrev frames : Layout → List ℕ → List (List ℤ)
frames layout samples = frames_of layout samples

length_frames : (layout : Layout) (samples : List ℕ) → length (frames layout samples) ≡ length samples / block layout
length_frames layout samples = length-map-range_with_len (frame_at layout.depth layout.channels samples) 0 (length samples / block layout)

whole_part : (layout : Layout) (samples : List ℕ) (n : ℕ) → n ≡ length samples / block layout → frames layout (take (n * block layout) samples) ≡ frames layout samples
whole_part layout samples n e =
    let none : 0 * block layout ≡ 0 = omega arith in
    let zeroth : take (n * block layout) samples ≡ take (n * block layout) (drop (0 * block layout) samples) = rw none refl in
    part_is layout.depth layout.channels (take (n * block layout) samples) samples _ 0 n zeroth (positive layout.depth layout.channels) refl
    ∙ take_all n (frames layout samples) (rw (length_frames layout samples) (omega arith))

pub samples_whole : (layout : Layout) (offset len : ℕ) (bytes : List ℕ) → length (take len (drop offset bytes)) ≡ len
    → (frames_of layout (take (len / block layout * block layout) (drop offset bytes)) ≡ frames_of layout (take len (drop offset bytes)))
    × (length (frames_of layout (take (len / block layout * block layout) (drop offset bytes))) ≡ len / block layout)
samples_whole layout offset len bytes h =
    let samples = take len (drop offset bytes) in
    let n = len / block layout in
    let fits : n * block layout ≤ len = div-mul-le_self len (block layout) in
    let part : take (n * block layout) (drop offset bytes) ≡ take (n * block layout) samples = sym (take-take (n * block layout) len (drop offset bytes) fits) in
    let same : frames layout (take (n * block layout) (drop offset bytes)) ≡ frames layout samples =
    ap (frames layout) part ∙ whole_part layout samples n (ap (λ m. m / block layout) (sym h)) in
    (same, ap length same ∙ length_frames layout samples ∙ ap (λ m. m / block layout) h)

-- as many frames as there is room for in some bytes
pub few_frames : (layout : Layout) (samples : List ℕ) (frame_count : ℕ) → length samples ≤ frame_count * block layout → length (frames_of layout samples) ≤ frame_count
few_frames layout samples frame_count h =
    rw (length_frames layout samples) (div-le_of_le-mul (block layout) (omega arith))

pub frames_back : (layout : Layout) (n : ℕ) → n * block layout / block layout ≡ n
frames_back layout n = mul-div_cancel n (positive layout.depth layout.channels)
