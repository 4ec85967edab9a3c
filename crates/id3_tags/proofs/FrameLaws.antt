-- Frames one after another.
use Rattle.std.proofs.Common.{ℕ, zero, suc, ◌≤◌, ◌≡◌, List, [], ◌∷◌, length, take, drop, Bool, true, false, cond, refl, sym, ap, ◌∙◌, arith, length-drop, Option, Some, None, IfSome, ◌&&◌, nat_le}
use Rattle.id3_tags.specs.declared.tag.Version.{Version}
use Rattle.id3_tags.specs.declared.tag.Version.TheVariants.{Two, Three, Four}
use Rattle.id3_tags.specs.Frames.{Id3Frame, header_len, identifier_len, is_identifier, frame_size, frame_flags, frame_of, first_frame, before_more, frames_up_to, frames}

-- a property of what a test lets through
passes : {X : Type 0} (P : X → Type 0) (b : Bool) (found : Option X) → IfSome found P → IfSome (cond b found None) P
passes P true found h = h
passes P false found h = tt

header_takes : (version : Version) → 1 ≤ header_len version
header_takes Two = omega arith
header_takes Three = omega arith
header_takes Four = omega arith

of_size : (version : Version) (header : List ℕ) (size : Option ℕ) (rest : List ℕ) (m : ℕ) → length rest ≤ m → IfSome (frame_of version header size rest) (λ found. length found.1 ≤ m)
of_size version header None rest m h = tt
of_size version header (Some size) rest m h =
    passes (λ (found : Id3Frame × List ℕ). length found.1 ≤ m) (nat_le size (length rest) && is_identifier (take (identifier_len version) header))
    (Some (record { identifier = take (identifier_len version) header; flags = frame_flags version header; body = take size rest }, drop size rest)) (simp length-drop (omega arith))

-- a frame takes bytes
pub rest_shorter : (version : Version) (bytes : List ℕ) (m : ℕ) → length bytes ≤ suc m → IfSome (first_frame version bytes) (λ found. length found.1 ≤ m)
unfolding first_frame
rest_shorter version bytes m h =
    let least = header_takes version in
    let short : length (drop (header_len version) bytes) ≤ m = simp length-drop (omega arith) in
    passes (λ (found : Id3Frame × List ℕ). length found.1 ≤ m) (nat_le (header_len version) (length bytes))
    (frame_of version (take (header_len version) bytes) (frame_size version (take (header_len version) bytes)) (drop (header_len version) bytes))
    (of_size version (take (header_len version) bytes) (frame_size version (take (header_len version) bytes)) (drop (header_len version) bytes) m short)

none_in_nothing : (version : Version) → first_frame version [] ≡ None
unfolding first_frame
none_in_nothing Two = refl
none_in_nothing Three = refl
none_in_nothing Four = refl

same_more : (f g : List ℕ → List Id3Frame) (found : Option (Id3Frame × List ℕ)) → IfSome found (λ x. f x.1 ≡ g x.1) → before_more f found ≡ before_more g found
same_more f g None h = refl
same_more f g (Some found) h = ap (λ more. found.0 ∷ more) h

both : (P Q R : Id3Frame × List ℕ → Type 0) (found : Option (Id3Frame × List ℕ)) → ((x : Id3Frame × List ℕ) → P x → Q x → R x) → IfSome found P → IfSome found Q → IfSome found R
both P Q R None f p q = tt
both P Q R (Some x) f p q = f x p q

same : (m n : ℕ) (version : Version) (bytes : List ℕ) → length bytes ≤ m → length bytes ≤ n → frames_up_to m version bytes ≡ frames_up_to n version bytes
unfolding frames_up_to
same zero zero version bytes h k = refl
same zero (suc n) version [] h k = sym (ap (before_more (frames_up_to n version)) (none_in_nothing version))
same zero (suc n) version (b ∷ bs) h k = absurd (omega arith)
same (suc m) zero version [] h k = ap (before_more (frames_up_to m version)) (none_in_nothing version)
same (suc m) zero version (b ∷ bs) h k = absurd (omega arith)
same (suc m) (suc n) version bytes h k =
    same_more (frames_up_to m version) (frames_up_to n version) (first_frame version bytes)
    (both (λ x. length x.1 ≤ m) (λ x. length x.1 ≤ n) (λ x. frames_up_to m version x.1 ≡ frames_up_to n version x.1) (first_frame version bytes)
    (λ x p q. same m n version x.1 p q) (rest_shorter version bytes m h) (rest_shorter version bytes n k))

-- the frames are the first and those after it
frames_next : (version : Version) (bytes : List ℕ) → frames version bytes ≡ before_more (frames version) (first_frame version bytes)
unfolding frames frames_up_to
frames_next version bytes =
    same (length bytes) (suc (length bytes)) version bytes (omega arith) (omega arith)
    ∙ same_more (frames_up_to (length bytes) version) (frames version) (first_frame version bytes)
    (both (λ x. length x.1 ≤ length bytes) (λ x. length x.1 ≤ length bytes) (λ x. frames_up_to (length bytes) version x.1 ≡ frames version x.1) (first_frame version bytes)
    (λ x p q. same (length bytes) (length x.1) version x.1 p (omega arith)) (rest_shorter version bytes (length bytes) (omega arith)) (rest_shorter version bytes (length bytes) (omega arith)))

pub frames_none : (version : Version) (bytes : List ℕ) → first_frame version bytes ≡ None → frames version bytes ≡ []
frames_none version bytes e = frames_next version bytes ∙ ap (before_more (frames version)) e

pub frames_some : (version : Version) (bytes : List ℕ) (frame : Id3Frame) (rest : List ℕ) → first_frame version bytes ≡ Some (frame, rest) → frames version bytes ≡ frame ∷ frames version rest
frames_some version bytes frame rest e = frames_next version bytes ∙ ap (before_more (frames version)) e

nothing_is : (bytes : List ℕ) → length bytes ≤ 0 → bytes ≡ []
nothing_is [] h = refl
nothing_is (b ∷ bs) h = absurd (omega arith)

pub none_of_nothing : (version : Version) (bytes : List ℕ) → length bytes ≤ 0 → first_frame version bytes ≡ None
none_of_nothing version bytes h = ap (first_frame version) (nothing_is bytes h) ∙ none_in_nothing version
