-- Bytes that go from a session to its writer.
use Rattle.std.proofs.Common.{◌≡◌, ℕ, ◌+◌, List, [], ◌++◌, take, drop, length, Option, None, Some, Bool, true, false, not, inl, inr, refl, sym, ap, subst, ◌∙◌, append_assoc, append-nil, arith}
use Rattle.std.specs.Prelude.{◌⊎◌}
use Rattle.std.specs.Io.KnownBytes.{Appends}
use Rattle.std.proofs.lemmas.List.{take-append-drop, drop-take, take-take}
use Rattle.std.proofs.Math.Seq.{drop-length}
use Rattle.counted_devices.specs.declared.call_counts.CallCounts.{CallCounts}
use Rattle.mpd_session.specs.declared.end.End.{End}
use Rattle.mpd_session.specs.declared.end.End.TheVariants.{WriteFault}
use Rattle.mpd_session.specs.Devices.{WritesOut}
use Rattle.mpd_session.specs.Owing.{is_nothing, owed_bytes}
use Rattle.mpd_session.specs.declared.owed.Owed.{Owed}
use Rattle.mpd_session.specs.declared.owed.Owed.TheVariants as owed
use Rattle.mpd_session.specs.Sessions.{Grows}

pub none_written : (a : Option (List ℕ)) → Appends a a []
none_written None = tt
none_written (Some x) = sym (append-nil x)

pub appends_both : (a b c : Option (List ℕ)) (bs cs : List ℕ) → Appends a b bs → Appends b c cs → Appends a c (bs ++ cs)
appends_both None b c bs cs p q = tt
appends_both (Some x) None c bs cs p q = absurd p
appends_both (Some x) (Some y) None bs cs p q = absurd q
appends_both (Some x) (Some y) (Some z) bs cs p q = q ∙ ap (λ (l : List ℕ). l ++ cs) p ∙ append_assoc x bs cs

-- nothing is written
pub only_unsent : (w : Option (List ℕ)) (unsent unsent' output : List ℕ) → unsent' ≡ unsent ++ output → Grows w unsent w unsent' output
only_unsent w unsent unsent' output e = ([], none_written w, sym e)

-- the first bytes are written
pub only_sent : (w w' : Option (List ℕ)) (items rest owed : List ℕ) (n : ℕ) → rest ≡ drop n items → Appends w w' (take n items) → Grows w (items ++ owed) w' (rest ++ owed) []
only_sent w w' items rest owed n is written = (
  take n items,
  written,
  append-nil (items ++ owed)
      ∙ ap (λ (x : List ℕ). x ++ owed) (sym (take-append-drop n items))
      ∙ append_assoc (take n items) (drop n items) owed
      ∙ ap (λ (x : List ℕ). take n items ++ (x ++ owed)) (sym is),
)

pub grows_both : (a b c : Option (List ℕ)) (u v w xs ys : List ℕ) → Grows a u b v xs → Grows b v c w ys → Grows a u c w (xs ++ ys)
grows_both a b c u v w xs ys (s, p, e) (t, q, f) = (
  s ++ t,
  appends_both a b c s t p q,
  sym (append_assoc u xs ys)
      ∙ ap (λ (x : List ℕ). x ++ ys) e
      ∙ append_assoc s v ys
      ∙ ap (λ (x : List ℕ). s ++ x) f
      ∙ sym (append_assoc s t w),
)

pub more_taken : (w w' w'' : Option (List ℕ)) (bytes : List ℕ) (n m : ℕ) → Appends w w' (take n bytes) → Appends w' w'' (take m (drop n bytes)) → Appends w w'' (take (n + m) bytes)
more_taken w w' w'' bytes n m p q =
    let first : take n (take (n + m) bytes) ≡ take n bytes = take-take n (n + m) bytes (omega arith) in
    subst (λ (x : List ℕ). Appends w w'' x)
    (ap (λ (x : List ℕ). x ++ take m (drop n bytes)) (sym first) ∙ ap (λ (x : List ℕ). take n (take (n + m) bytes) ++ x) (sym (drop-take n m bytes)) ∙ take-append-drop n (take (n + m) bytes))
    (appends_both w w' w'' (take n bytes) (take m (drop n bytes)) p q)

-- where nothing is owed there are no bytes of it
pub none_owed : (owed : Owed) → is_nothing owed ≡ true → owed_bytes owed ≡ []
none_owed owed.Nothing is = refl
none_owed (owed.Notice notice) is = cc
none_owed (owed.Line answered) is = cc
none_owed (owed.List answered unread) is = cc
none_owed owed.EmptyList is = cc
none_owed (owed.LineFault name fault) is = cc
none_owed (owed.ListFault stop) is = cc

pub told_eq : (x items owed owed' notice : List ℕ) → x ≡ items ++ owed' → owed' ≡ notice → owed ≡ [] → x ≡ (items ++ owed) ++ notice
told_eq x items owed owed' notice is same none =
    is ∙ ap (λ (y : List ℕ). items ++ y) same ∙ ap (λ (y : List ℕ). y ++ notice) (sym (append-nil items)) ∙ ap (λ (y : List ℕ). (items ++ y) ++ notice) (sym none)

-- all that is there is written
pub all_written : (bytes items rest : List ℕ) (n : ℕ) → bytes ≡ items → n ≡ length bytes → rest ≡ drop n items → rest ≡ []
all_written bytes items rest n same all is = is ∙ ap (λ (m : ℕ). drop m items) (all ∙ ap length same) ∙ drop-length items

-- what is owed for lack of memory is not written
pub owed_or_written : (owed : Owed) (e : Option End) (items : List ℕ) (w w' : CallCounts) → WritesOut e items w w' → (not (is_nothing owed) ≡ true) ⊎ WritesOut e (items ++ owed_bytes owed) w w'
owed_or_written owed.Nothing e items w w' h = inr (subst (λ (x : List ℕ). WritesOut e x w w') (sym (append-nil items)) h)
owed_or_written (owed.Notice notice) e items w w' h = inl refl
owed_or_written (owed.Line answered) e items w w' h = inl refl
owed_or_written (owed.List answered unread) e items w w' h = inl refl
owed_or_written owed.EmptyList e items w w' h = inl refl
owed_or_written (owed.LineFault name fault) e items w w' h = inl refl
owed_or_written (owed.ListFault stop) e items w w' h = inl refl

-- an open session's writer did not fail in a write that left it open
pub sound_or : (failed : Bool) (e : Option End) {X : Type 0} → (failed ≡ true → e ≡ Some WriteFault) → (failed ≡ false → X) → e ≡ None → X
sound_or true e fails sound none = absurd (let never : None ≡ Some WriteFault = sym none ∙ fails refl in cc)
sound_or false e fails sound none = sound refl
