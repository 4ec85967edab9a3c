-- Bytes that a window gives.
use Rattle.std.proofs.Common.{◌≡◌, ◌∙◌, ℕ, ◌+◌, ◌-◌, ◌^◌, ◌<◌, ◌≤◌, List, ◌++◌, length, take, drop, Some, None, Option, refl, sym, ap, subst, inl, inr, arith, min, eqb}
use Rattle.std.specs.Io.KnownBytes.{Consumes, IsAtEnd}
use Rattle.std.proofs.lemmas.Bool.{cases_lt, cases_Bool, eqb-true, cond-true, cond-false}
use Rattle.std.proofs.lemmas.List.{take-append-drop, drop-drop, drop_all, length-take-le, drop-take, length-drop}
use Rattle.library_scan.specs.Windows.{whole, from_offset, StandAt, IsEnd}

gone_on : (all bytes : List ℕ) (offset n new : ℕ) → length all < 2 ^ 64 → length bytes ≡ n → take (length bytes) (drop offset all) ≡ bytes → new ≡ min (offset + n) (2 ^ 64 - 1) → drop offset all ≡ bytes ++ drop new all
gone_on all bytes offset n new short size stand is =
    sym (take-append-drop n (drop offset all))
    ∙ (λ i. (ap (λ k. take k (drop offset all)) (sym size) ∙ stand) i ++ (drop-drop n offset all ∙ same) i)
  where
    same : drop (offset + n) all ≡ drop new all
    same = elim (cases_lt (offset + n) (2 ^ 64)) [
      | inl low ↦ ap (λ k. drop k all) (let e : offset + n ≡ new = omega arith in e)
      | inr high ↦ drop_all (offset + n) all (omega arith) ∙ sym (drop_all new all (omega arith))
    ]

pub consumed : (file : Option (List ℕ)) (len offset n new : ℕ) (bytes : List ℕ) → len < 2 ^ 64 → length bytes ≡ n → StandAt file offset bytes → new ≡ min (offset + n) (2 ^ 64 - 1)
    → Consumes (from_offset offset (whole file len)) (from_offset new (whole file len)) bytes
consumed None len offset n new bytes short size stand is = tt
consumed (Some all) len offset n new bytes short size stand is = elim (cases_Bool (eqb (length all) len)) [
  | inl e ↦
      let long : length all ≡ len = eqb-true (length all) len e in
      subst (λ (o : Option (List ℕ)). Consumes (from_offset offset o) (from_offset new o) bytes) (sym (cond-true (eqb (length all) len) (Some all) None e))
      (gone_on all bytes offset n new (omega arith) size (stand all refl) is)
  | inr e ↦ subst (λ (o : Option (List ℕ)). Consumes (from_offset offset o) (from_offset new o) bytes) (sym (cond-false (eqb (length all) len) (Some all) None e)) tt
]

pub at_end : (file : Option (List ℕ)) (len offset new : ℕ) → IsEnd file len offset → offset ≤ new → IsAtEnd (from_offset new (whole file len))
at_end None len offset new end later = tt
at_end (Some all) len offset new end later = elim (cases_Bool (eqb (length all) len)) [
  | inl e ↦
      subst (λ (o : Option (List ℕ)). IsAtEnd (from_offset new o)) (sym (cond-true (eqb (length all) len) (Some all) None e))
      (let none = end all refl (eqb-true (length all) len e) in let size = length-drop offset all in let zero : length (drop offset all) ≡ 0 = ap length none in drop_all new all (omega arith))
  | inr e ↦ subst (λ (o : Option (List ℕ)). IsAtEnd (from_offset new o)) (sym (cond-false (eqb (length all) len) (Some all) None e)) tt
]

-- the rest of what was read, from another offset on
pub stands_on : (file : Option (List ℕ)) (start gone filled offset : ℕ) (bytes : List ℕ) → StandAt file start (take filled bytes) → filled ≤ length bytes → gone ≤ filled → offset ≡ start + gone
    → StandAt file offset (take (filled - gone) (drop gone bytes))
stands_on file start gone filled offset bytes stand low within is all known =
    let size : length (take filled bytes) ≡ filled = length-take-le filled bytes low in
    let part : length (take (filled - gone) (drop gone bytes)) ≡ filled - gone = length-take-le (filled - gone) (drop gone bytes) (let n = length-drop gone bytes in omega arith) in
    let whole_part : gone + (filled - gone) ≡ filled = omega arith in
    ap (λ k. take k (drop offset all)) part ∙ ap (λ k. take (filled - gone) (drop k all)) is ∙ ap (take (filled - gone)) (sym (drop-drop gone start all))
    ∙ sym (drop-take gone (filled - gone) (drop start all)) ∙ ap (λ k. drop gone (take k (drop start all))) whole_part
    ∙ ap (λ k. drop gone (take k (drop start all))) (sym size) ∙ ap (drop gone) (stand all known)
    ∙ ap (λ k. drop gone (take k bytes)) (sym whole_part) ∙ drop-take gone (filled - gone) bytes

-- what a read gives, where the file, its length and the offset stayed while bytes were made ready
module _ (file ready after : Option (List ℕ)) (len ready_len after_len offset ready_offset after_offset : ℕ) (same_ready : ready ≡ file) (same_after : after ≡ ready)
    (len_ready : ready_len ≡ len) (len_after : after_len ≡ ready_len) (offset_ready : ready_offset ≡ offset) where
  old_is : from_offset ready_offset (whole ready ready_len) ≡ from_offset offset (whole file len)
  old_is i = from_offset (offset_ready i) (whole (same_ready i) (len_ready i))

  new_is : from_offset after_offset (whole ready ready_len) ≡ from_offset after_offset (whole after after_len)
  new_is i = from_offset after_offset (whole (sym same_after i) (sym len_after i))

  pub gives : (n : ℕ) (bytes : List ℕ) → ready_len < 2 ^ 64 → length bytes ≡ n → StandAt ready ready_offset bytes → after_offset ≡ min (ready_offset + n) (2 ^ 64 - 1)
      → Consumes (from_offset offset (whole file len)) (from_offset after_offset (whole after after_len)) bytes
  gives n bytes short size stand is =
      subst (λ (o : Option (List ℕ)). Consumes o (from_offset after_offset (whole after after_len)) bytes) old_is
      (subst (λ (o : Option (List ℕ)). Consumes (from_offset ready_offset (whole ready ready_len)) o bytes) new_is (consumed ready ready_len ready_offset n after_offset bytes short size stand is))

  pub ended : IsEnd file len offset → offset ≤ after_offset → IsAtEnd (from_offset after_offset (whole after after_len))
  ended end later = subst IsAtEnd (λ i. from_offset after_offset (whole (sym (same_after ∙ same_ready) i) (sym (len_after ∙ len_ready) i))) (at_end file len offset after_offset end later)
