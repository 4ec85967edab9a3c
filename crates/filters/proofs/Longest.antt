-- A fault of syntax is after the longest start with which some filter begins.
use Rattle.std.proofs.Common.{◌≡◌, ℕ, ◌+◌, Bool, true, false, ◌==◌, cond, List, [], ◌∷◌, ◌++◌, length, Option, Some, None, Result, Ok, Err, refl, ap, sym, subst, ◌∙◌, append_assoc, arith}
use Rattle.filters.specs.declared.words.Vocabulary.{Vocabulary}
use Rattle.filters.specs.declared.state.Stop.{Stop}
use Rattle.filters.specs.declared.state.Stop.TheVariants.{Syntax, UnknownTag, TooDeep, NoMemory}
use Rattle.filters.specs.declared.reading.FilterFault.{FilterFault}
use Rattle.filters.specs.declared.reading.FilterFault.TheVariants.{Syntax as Err_Syntax}
use Rattle.filters.specs.declared.state.Purpose.{Purpose}
use Rattle.filters.specs.declared.state.Purpose.TheVariants.{Whole, Negated, First, Next}
use Rattle.filters.specs.declared.state.Named.{Named}
use Rattle.filters.specs.declared.state.State.{State}
use Rattle.filters.specs.declared.state.State.TheVariants.{Start, Opened, Bang, Word, AfterAnd, Finished}
use Rattle.filters.specs.Expressions.{Expression}
use Rattle.filters.specs.Machine.{run, parsed, step, ending, word_at_end, fault_at, named_of, or_any, opened, alone, after_word}
use Rattle.filters.specs.Words.{is_word_byte}
use Rattle.filters.specs.Grammar.{Body, Spells, IsLongestStart}
use Rattle.filters.proofs.Reaching.{goes}
use Rattle.filters.proofs.GrammarRead.{spelled_is_read, allowed_loose}
use Rattle.filters.proofs.GrammarAt.{read_is_spelled}
use Rattle.filters.proofs.Live.{IsLive, IsFilter, live}
use Rattle.filters.proofs.Keeps.{StaysLive, keeps}

-- without the strict rules a byte is taken where it was, and refused where it was against the grammar
Agrees : Result (State × List Purpose) Stop → Result (State × List Purpose) Stop → Type 0
Agrees (Ok next) r = r ≡ Ok next
Agrees (Err Syntax) r = r ≡ Err Syntax
Agrees (Err (UnknownTag word)) r = Unit {0}
Agrees (Err TooDeep) r = Unit {0}
Agrees (Err NoMemory) r = Unit {0}

same : (r : Result (State × List Purpose) Stop) → Agrees r r
unfolding Agrees
same (Ok next) = refl
same (Err Syntax) = refl
same (Err (UnknownTag word)) = tt
same (Err TooDeep) = tt
same (Err NoMemory) = tt

both : (c : Bool) (x y z w : Result (State × List Purpose) Stop) → Agrees x z → Agrees y w → Agrees (cond c x y) (cond c z w)
both true x y z w h k = h
both false x y z w h k = k

at_most : (c : Bool) (next : State × List Purpose) → Agrees (cond c (Err TooDeep) (Ok next)) (Ok next)
unfolding Agrees
at_most true next = tt
at_most false next = refl

opens : (purpose : Purpose) (purposes : List Purpose) → Agrees (opened true purpose purposes) (opened false purpose purposes)
opens purpose purposes = at_most _ (Opened, purpose ∷ purposes)

names_agree : (name : Option Named) (word : List ℕ) (purposes : List Purpose) (b : ℕ) → Agrees (alone (after_word name word b) purposes) (alone (after_word (or_any name) word b) purposes)
unfolding Agrees
names_agree None word purposes b = tt
names_agree (Some name) word purposes b = same (alone (after_word (Some name) word b) purposes)

at_word : (n k : ℕ) (name : Option Named) (word : List ℕ) → word_at_end n name word ≡ Err (Err_Syntax k) → k ≡ n
at_word n k None word e = cc
at_word n k (Some name) word e = cc

stops_at : (n k : ℕ) (stop : Stop) (r : Result Expression FilterFault) → r ≡ Err (fault_at n stop) → r ≡ Err (Err_Syntax k) → (stop ≡ Syntax) × (k ≡ n)
stops_at n k Syntax r h e = (refl, cc)
stops_at n k (UnknownTag word) r h e = cc
stops_at n k TooDeep r h e = cc
stops_at n k NoMemory r h e = cc

is_filter : (r : Result Expression FilterFault) → IsFilter r → (e : Expression) × (r ≡ Ok e)
is_filter (Ok e) is = (e, refl)
is_filter (Err fault) is = elim is [ ]

-- with this vocabulary
module _ (vocabulary : Vocabulary) where
  agrees : (state : State) (purposes : List Purpose) (b : ℕ) → Agrees (step vocabulary true state purposes b) (step vocabulary false state purposes b)
  unfolding step
  agrees Start purposes b = both (b == 40) _ (Err Syntax) _ (Err Syntax) (opens Whole purposes) (same (Err Syntax))
  agrees Opened purposes b =
      both (b == 32) (Ok (Opened, purposes)) _ (Ok (Opened, purposes)) _ (same (Ok (Opened, purposes)))
      (both (b == 33) (Ok (Bang, purposes)) _ (Ok (Bang, purposes)) _ (same (Ok (Bang, purposes)))
      (both (is_word_byte vocabulary b) (Ok (Word (b ∷ []), purposes)) _ (Ok (Word (b ∷ []), purposes)) _ (same (Ok (Word (b ∷ []), purposes)))
      (both (b == 40) _ (Err Syntax) _ (Err Syntax) (opens First purposes) (same (Err Syntax)))))
  agrees Bang purposes b = both (b == 40) _ (Err Syntax) _ (Err Syntax) (opens Negated purposes) (same (Err Syntax))
  agrees (Word word) purposes b = both (is_word_byte vocabulary b) (Ok (Word (word ++ b ∷ []), purposes)) _ (Ok (Word (word ++ b ∷ []), purposes)) _ (same (Ok (Word (word ++ b ∷ []), purposes))) (names_agree (named_of vocabulary word) word purposes b)
  agrees (AfterAnd e) purposes b =
      both (b == 32) (Ok (AfterAnd e, purposes)) _ (Ok (AfterAnd e, purposes)) _ (same (Ok (AfterAnd e, purposes)))
      (both (b == 40) _ (Err Syntax) _ (Err Syntax) (opens (Next e) purposes) (same (Err Syntax)))
  agrees state purposes b = same (step vocabulary false state purposes b)

  ends_at : (n k : ℕ) (state : State) → ending vocabulary n state ≡ Err (Err_Syntax k) → k ≡ n
  ends_at n k (Finished e) h = cc
  ends_at n k (Word word) h = at_word n k (named_of vocabulary word) word h
  ends_at n k _ h = cc

  -- k bytes are the longest start with which some filter begins, where n bytes led to this state, and the text
  -- is no filter
  record Longest (n k : ℕ) (state : State) (purposes : List Purpose) (text : List ℕ) : Type 0 where
    front : List ℕ
    back : List ℕ
    parts : text ≡ front ++ back
    at : k ≡ n + length front
    rest : List ℕ
    begins : IsFilter (run vocabulary false n state purposes (front ++ rest))
    ends : (b : ℕ) (more : List ℕ) → back ≡ b ∷ more → (other : List ℕ) → IsFilter (run vocabulary false n state purposes (front ++ b ∷ other)) → ⊥
    none : IsFilter (run vocabulary false n state purposes text) → ⊥

  faulty : (n : ℕ) (state : State) (purposes : List Purpose) (b : ℕ) (bs : List ℕ) → step vocabulary false state purposes b ≡ Err Syntax → IsFilter (run vocabulary false n state purposes (b ∷ bs)) → ⊥
  faulty n state purposes b bs s is = subst IsFilter (goes vocabulary false n state purposes b bs (Err Syntax) s) is

  stuck : (n k : ℕ) (state : State) (purposes : List Purpose) (b : ℕ) (bs : List ℕ) → IsLive state purposes → step vocabulary false state purposes b ≡ Err Syntax → k ≡ n → Longest n k state purposes (b ∷ bs)
  stuck n k state purposes b bs is s at =
      let l = live vocabulary n state purposes is in
      record {
        front = [];
        back = b ∷ bs;
        parts = refl;
        at = omega arith;
        rest = l.0;
        begins = l.1;
        ends = λ c more same_byte other h. faulty n state purposes b other s (subst (λ (d : ℕ). IsFilter (run vocabulary false n state purposes (d ∷ other))) (cc) h);
        none = faulty n state purposes b bs s;
      }

  further : (n k : ℕ) (state : State) (purposes : List Purpose) (b : ℕ) (bs : List ℕ) (next : State) (more : List Purpose) → step vocabulary false state purposes b ≡ Ok (next, more)
      → Longest (n + 1) k next more bs → Longest n k state purposes (b ∷ bs)
  further n k state purposes b bs next more s l =
      record {
        front = b ∷ l.front;
        back = l.back;
        parts = ap (λ (t : List ℕ). b ∷ t) l.parts;
        at = omega (arith, l.at);
        rest = l.rest;
        begins = subst IsFilter (sym (goes vocabulary false n state purposes b (l.front ++ l.rest) (Ok (next, more)) s)) l.begins;
        ends = λ c after split other h. l.ends c after split other (subst IsFilter (goes vocabulary false n state purposes b (l.front ++ c ∷ other) (Ok (next, more)) s) h);
        none = λ h. l.none (subst IsFilter (goes vocabulary false n state purposes b bs (Ok (next, more)) s) h);
      }

  stays : (state : State) (purposes : List Purpose) (b : ℕ) (next : State) (more : List Purpose) → IsLive state purposes → step vocabulary false state purposes b ≡ Ok (next, more) → IsLive next more
  stays state purposes b next more is s = subst StaysLive s (keeps vocabulary state purposes b is)

  loose_ok : (state : State) (purposes : List Purpose) (b : ℕ) (next : State × List Purpose) → step vocabulary true state purposes b ≡ Ok next → step vocabulary false state purposes b ≡ Ok next
  unfolding Agrees
  loose_ok state purposes b next s = subst (λ (r : Result (State × List Purpose) Stop). Agrees r (step vocabulary false state purposes b)) s (agrees state purposes b)

  loose_err : (state : State) (purposes : List Purpose) (b : ℕ) → step vocabulary true state purposes b ≡ Err Syntax → step vocabulary false state purposes b ≡ Err Syntax
  unfolding Agrees
  loose_err state purposes b s = subst (λ (r : Result (State × List Purpose) Stop). Agrees r (step vocabulary false state purposes b)) s (agrees state purposes b)

  nothing_left : (n k : ℕ) (state : State) (purposes : List Purpose) → IsLive state purposes → run vocabulary true n state purposes [] ≡ Err (Err_Syntax k) → Longest n k state purposes []
  unfolding run
  nothing_left n k state purposes is e =
      let l = live vocabulary n state purposes is in
      let at = ends_at n k state e in
      record { front = []; back = []; parts = refl; at = omega arith; rest = l.0; begins = l.1; ends = λ b more empty rest h. cc; none = λ h. subst IsFilter e h }

  onward : (b : ℕ) (bs : List ℕ) (n k : ℕ) (state : State) (purposes : List Purpose) → IsLive state purposes → run vocabulary true n state purposes (b ∷ bs) ≡ Err (Err_Syntax k)
      → ((m : ℕ) (next : State) (more : List Purpose) → IsLive next more → run vocabulary true m next more bs ≡ Err (Err_Syntax k) → Longest m k next more bs)
      → (r : Result (State × List Purpose) Stop) → step vocabulary true state purposes b ≡ r → Longest n k state purposes (b ∷ bs)
  onward b bs n k state purposes is e deeper (Ok next) s =
      let loose = loose_ok state purposes b next s in
      further n k state purposes b bs next.0 next.1 loose
      (deeper (n + 1) next.0 next.1 (stays state purposes b next.0 next.1 is loose) (sym (goes vocabulary true n state purposes b bs (Ok next) s) ∙ e))
  onward b bs n k state purposes is e deeper (Err stop) s =
      let at = stops_at n k stop (run vocabulary true n state purposes (b ∷ bs)) (goes vocabulary true n state purposes b bs (Err stop) s) e in
      stuck n k state purposes b bs is (loose_err state purposes b (s ∙ ap Err at.0)) at.1

  longest : (text : List ℕ) (n k : ℕ) (state : State) (purposes : List Purpose) → IsLive state purposes → run vocabulary true n state purposes text ≡ Err (Err_Syntax k) → Longest n k state purposes text
  longest [] n k state purposes is e = nothing_left n k state purposes is e
  longest (b ∷ bs) n k state purposes is e = onward b bs n k state purposes is e (λ m next more live_there h. longest bs m k next more live_there h) (step vocabulary true state purposes b) refl

  -- some filter begins so, where the rules are not strict
  spelled : (text : List ℕ) → IsFilter (run vocabulary false 0 Start [] text) → (body : Body) × Spells vocabulary text body
  spelled text is =
      let ok = is_filter (run vocabulary false 0 Start [] text) is in
      let whole = read_is_spelled vocabulary false text ok.0 ok.1 in (whole.0, whole.1)

  read_so : (text : List ℕ) (body : Body) → Spells vocabulary text body → IsFilter (run vocabulary false 0 Start [] text)
  read_so text body is = subst IsFilter (sym (spelled_is_read vocabulary false text body is (allowed_loose vocabulary body 1) 0)) tt

  pub fault_at_longest : (text : List ℕ) (k : ℕ) → parsed vocabulary text ≡ Err (Err_Syntax k) → IsLongestStart vocabulary text k
  fault_at_longest text k e =
      let l = longest text 0 k Start [] refl e in
      record {
        front = l.front;
        back = l.back;
        parts = l.parts;
        at = (let h = l.at in omega (arith, h));
        begins = (let s = spelled (l.front ++ l.rest) l.begins in (l.rest, s.0, s.1));
        longest = (λ b more split begins. l.ends b more split begins.0 (subst (λ (t : List ℕ). IsFilter (run vocabulary false 0 Start [] t)) (append_assoc l.front (b ∷ []) begins.0) (read_so ((l.front ++ b ∷ []) ++ begins.0) begins.1 begins.2)));
        no_filter = (λ body is. l.none (read_so text body is));
      }
