-- Two tags are one where their names are.
use Rattle.std.proofs.Common.{◌≡◌, Bool, true, false, List, Some, rules, ap, sym, ◌∙◌, inl, inr}
use Rattle.std.specs.List.{list_any}
use Rattle.std.proofs.lemmas.Bool.{cases_Bool}
use Rattle.std.proofs.lemmas.Slice.Eq.{bytes_eq-Decides}
use denote.Enum.Bare.{sameb, same_true, same_false}
use Rattle.known_tags.specs.contracts.known_tag.KnownTag.{the_type}
use Rattle.known_tags.specs.declared.known_tag.KnownTag.{KnownTag}
use Rattle.known_tags.specs.KnownTags.{tag_of, text_of}
use Rattle.known_tags.proofs.ReadBack.{read-back}
use Rattle.selections.specs.Groupings.{same_tag, is_among}

named_alike : (a b : KnownTag) → same_tag a b ≡ true → a ≡ b
named_alike a b e =
    let names : text_of a ≡ text_of b = (bytes_eq-Decides (text_of a) (text_of b)).0 e in
    let read : Some a ≡ Some b = sym (read-back a) ∙ ap (λ name. tag_of name) names ∙ read-back b in
    cc

other : (a b : KnownTag) → sameb the_type a b ≡ false → same_tag a b ≡ false
other a b e = elim (cases_Bool (same_tag a b)) [ inl same ↦ absurd (same_false the_type a b e (named_alike a b same)) | inr different ↦ different ]

pub same : (a b : KnownTag) → sameb the_type a b ≡ same_tag a b
same a b =
    elim (cases_Bool (sameb the_type a b)) [
      | inl e ↦ e ∙ sym ((bytes_eq-Decides (text_of a) (text_of b)).1 (ap (λ tag. text_of tag) (same_true the_type (search rules) a b e)))
      | inr e ↦ e ∙ sym (other a b e)
    ]

pub among : (tags : List KnownTag) (tag : KnownTag) → list_any (λ other. sameb the_type other tag) tags ≡ is_among tags tag
among tags tag = ap (λ (p : KnownTag → Bool). list_any p tags) (λ i other. same other tag i)
