-- As much of a chunk as its tag takes.
use Rattle.std.proofs.Common.{ℕ, zero, suc, ◌+◌, ◌-◌, ◌<◌, ◌≤◌, ◌≡◌, List, [], ◌∷◌, length, take, drop, min, get_or, Bool, true, false, cond, ltb, refl, sym, ap, ◌∙◌, arith, length-take, Option, Some, None, ◌&&◌, nat_le, nat_eq, slice_index, codes}
use Rattle.std.proofs.lemmas.Bool.Decides.{nat_tests}
use Rattle.std.proofs.lemmas.Bool.{ltb-true, ltb-false}
use Rattle.std.proofs.lemmas.List.{get_or-take, take-take, drop-take}
use Rattle.std.specs.List.{starts_with}
use Rattle.id3_tags.specs.declared.tag.Version.{Version}
use Rattle.id3_tags.specs.Tags.{Id3Tag, number_at, is_syncsafe, syncsafe_at, version_of, is_read, says_unsynchronised, frames_in, tag_of, begins_tag, tag_in, with_head, tag_len}
use Rattle.id3_tags.specs.Texts.{id3_texts, tag_texts}

by_test : {P : Type 0} (a b : ℕ) (t : Bool) → ltb a b ≡ t → (a < b → P) → (b ≤ a → P) → P
by_test a b true e f g = f (ltb-true a b e)
by_test a b false e f g = g (ltb-false a b e)

by_lt : {P : Type 0} (a b : ℕ) → (a < b → P) → (b ≤ a → P) → P
by_lt a b f g = by_test a b (ltb a b) refl f g

by_bool : {P : Type 0} (b : Bool) → (b ≡ true → P) → (b ≡ false → P) → P
by_bool true f g = f refl
by_bool false f g = g refl

-- fewer than ten bytes begin no tag
short_begins : (chunk : List ℕ) → length chunk < 10 → begins_tag chunk ≡ false
short_begins chunk h =
    let e : nat_le 10 (length chunk) ≡ false = grind (arith, nat_tests) in
    ap (λ b. b && starts_with nat_eq chunk (codes "ID3")) e

-- the first ten bytes say whether a tag begins
same_begins : (n : ℕ) (chunk : List ℕ) → 10 ≤ n → begins_tag (take n chunk) ≡ begins_tag chunk
same_begins n chunk h =
    let letters : take 3 (take n chunk) ≡ take 3 chunk = take-take 3 n chunk (omega arith) in
    let long : nat_le 10 (length (take n chunk)) ≡ nat_le 10 (length chunk) =
    by_lt (length chunk) 10
    (λ short.
    let a : length (take n chunk) < 10 = simp length-take (omega arith) in
    let b : nat_le 10 (length (take n chunk)) ≡ false = grind (arith, nat_tests) in
    let c : nat_le 10 (length chunk) ≡ false = grind (arith, nat_tests) in b ∙ sym c)
    (λ long.
    let a : 10 ≤ length (take n chunk) = simp length-take (omega arith) in
    let b : nat_le 10 (length (take n chunk)) ≡ true = grind (arith, nat_tests) in
    let c : nat_le 10 (length chunk) ≡ true = grind (arith, nat_tests) in b ∙ sym c) in
    rw (long, letters) refl

same_byte : (n : ℕ) (chunk : List ℕ) (i : ℕ) → 10 ≤ n → i < 10 → slice_index (take n chunk) i ≡ slice_index chunk i
same_byte n chunk i h k = get_or-take n chunk i 0 (omega arith)

same_size : (n : ℕ) (chunk : List ℕ) → 10 ≤ n → syncsafe_at (take n chunk) 6 ≡ syncsafe_at chunk 6
same_size n chunk h =
    rw (same_byte n chunk 6 h (omega arith), same_byte n chunk 7 h (omega arith), same_byte n chunk 8 h (omega arith), same_byte n chunk 9 h (omega arith)) refl

-- the body of a tag of this size
same_body : (n size : ℕ) (chunk : List ℕ) → 10 + size ≤ n → take size (drop 10 (take n chunk)) ≡ take size (drop 10 chunk)
same_body n size chunk h =
    let e : n ≡ 10 + (n - 10) = omega arith in
    ap (λ k. take size (drop 10 (take k chunk))) e ∙ ap (take size) (drop-take 10 (n - 10) chunk) ∙ take-take size (n - 10) (drop 10 chunk) (omega arith)

same_tag : (version : Option Version) (flags n : ℕ) (size : Option ℕ) (chunk : List ℕ) → with_head size ≤ n → tag_of version flags size (drop 10 (take n chunk)) ≡ tag_of version flags size (drop 10 chunk)
same_tag (Some version) flags n (Some size) chunk h =
    ap (λ body. cond (is_read version flags) (Some (record { version = version; unsynchronised = says_unsynchronised version flags; frames = frames_in version flags body })) None) (same_body n size chunk h)
same_tag (Some version) flags n None chunk h = refl
same_tag None flags n size chunk h = refl

no_size : (version : Option Version) (flags : ℕ) (rest : List ℕ) → tag_of version flags None rest ≡ None
no_size (Some version) flags rest = refl
no_size None flags rest = refl

-- no tag begins
none_begins : (chunk : List ℕ) → begins_tag chunk ≡ false → tag_in chunk ≡ None
unfolding tag_in
none_begins chunk e = rw e refl

one_begins : (chunk : List ℕ) → begins_tag chunk ≡ true → tag_in chunk ≡ tag_of (version_of (slice_index chunk 3)) (slice_index chunk 5) (syncsafe_at chunk 6) (drop 10 chunk)
unfolding tag_in
one_begins chunk e = rw e refl

len_of_one : (chunk : List ℕ) → begins_tag chunk ≡ true → tag_len chunk ≡ with_head (syncsafe_at chunk 6)
unfolding tag_len
len_of_one chunk e = rw e refl

-- ten bytes at least are left
of_head : (n : ℕ) (chunk : List ℕ) → 10 ≤ n → begins_tag chunk ≡ true → with_head (syncsafe_at chunk 6) ≤ n → tag_in (take n chunk) ≡ tag_in chunk
of_head n chunk h e k =
    one_begins (take n chunk) (same_begins n chunk h ∙ e)
    ∙ ap (λ a. tag_of (version_of a) (slice_index (take n chunk) 5) (syncsafe_at (take n chunk) 6) (drop 10 (take n chunk))) (same_byte n chunk 3 h (omega arith))
    ∙ ap (λ a. tag_of (version_of (slice_index chunk 3)) a (syncsafe_at (take n chunk) 6) (drop 10 (take n chunk))) (same_byte n chunk 5 h (omega arith))
    ∙ ap (λ size. tag_of (version_of (slice_index chunk 3)) (slice_index chunk 5) size (drop 10 (take n chunk))) (same_size n chunk h)
    ∙ same_tag (version_of (slice_index chunk 3)) (slice_index chunk 5) n (syncsafe_at chunk 6) chunk k
    ∙ sym (one_begins chunk e)

-- no ten bytes are left, and so no size is said
without_head : (n : ℕ) (chunk : List ℕ) (size : Option ℕ) → n < 10 → begins_tag chunk ≡ true → syncsafe_at chunk 6 ≡ size → with_head size ≤ n → tag_in (take n chunk) ≡ tag_in chunk
without_head n chunk (Some size) h e f k = absurd (omega arith)
without_head n chunk None h e f k =
    let short : length (take n chunk) < 10 = simp length-take (omega arith) in
    none_begins (take n chunk) (short_begins (take n chunk) short)
    ∙ sym (one_begins chunk e ∙ ap (λ size. tag_of (version_of (slice_index chunk 3)) (slice_index chunk 5) size (drop 10 chunk)) f ∙ no_size (version_of (slice_index chunk 3)) (slice_index chunk 5) (drop 10 chunk))

nothing : (n : ℕ) (chunk : List ℕ) → begins_tag chunk ≡ false → tag_in (take n chunk) ≡ tag_in chunk
nothing n chunk e =
    let none : begins_tag (take n chunk) ≡ false =
    by_lt n 10
    (λ short. let few : length (take n chunk) < 10 = simp length-take (omega arith) in short_begins (take n chunk) few)
    (λ long. same_begins n chunk long ∙ e) in
    none_begins (take n chunk) none ∙ sym (none_begins chunk e)

enough : (n : ℕ) (chunk : List ℕ) → tag_len (take 10 chunk) ≤ n → tag_in (take n chunk) ≡ tag_in chunk
enough n chunk h =
    by_bool (begins_tag chunk)
    (λ one.
    let len : tag_len (take 10 chunk) ≡ with_head (syncsafe_at chunk 6) =
    len_of_one (take 10 chunk) (same_begins 10 chunk (omega arith) ∙ one) ∙ ap with_head (same_size 10 chunk (omega arith)) in
    let room : with_head (syncsafe_at chunk 6) ≤ n = rw (← len) h in
    by_lt n 10
    (λ short. without_head n chunk (syncsafe_at chunk 6) short one refl room)
    (λ long. of_head n chunk long one room))
    (λ none. nothing n chunk none)

pub texts_of_start : (chunk : List ℕ) (n : ℕ) → tag_len (take 10 chunk) ≤ n → id3_texts (take n chunk) ≡ id3_texts chunk
unfolding id3_texts
texts_of_start chunk n h = ap tag_texts (enough n chunk h)
