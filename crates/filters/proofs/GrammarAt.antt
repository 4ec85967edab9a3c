-- What is read is spelled by the grammar: what the bytes before a state are.
use Rattle.std.proofs.Common.{◌≡◌, ◌≢◌, ◌⊎◌, inl, inr, ℕ, zero, suc, ◌+◌, ◌<◌, ◌≤◌, ◌==◌, nat_le, nat_lt, slice_index, ◌&&◌, ◌||◌, Bool, true, false, cond, List, [], ◌∷◌, ◌++◌, length, take, codes, Option, Some, None, is_some, Result, Ok, Err, refl, ap, sym, subst, ◌∙◌, append_assoc, arith}
use Rattle.std.proofs.lemmas.Bool.Decides.{nat_tests}
use Rattle.filters.specs.declared.words.Vocabulary.{Vocabulary}
use Rattle.filters.specs.declared.state.Stop.{Stop}
use Rattle.filters.specs.declared.state.Stop.TheVariants.{Syntax, UnknownTag, TooDeep, NoMemory}
use Rattle.filters.specs.declared.state.Purpose.{Purpose}
use Rattle.filters.specs.declared.state.Purpose.TheVariants.{Whole, Negated, First as FirstPurpose, Next}
use Rattle.filters.specs.declared.state.Goal.{Goal}
use Rattle.filters.specs.declared.state.Goal.TheVariants.{Compared, Base as BaseGoal}
use Rattle.filters.specs.declared.state.Named.{Named}
use Rattle.filters.specs.declared.state.Named.TheVariants.{Field as NamedField, Base as NamedBase}
use Rattle.filters.specs.declared.state.State.{State}
use Rattle.filters.specs.declared.state.State.TheVariants.{Start, Opened, Bang, Word, AfterField, Sign, Contains, NeedsSpace, BeforeText, InText, Escaped, Done, Joined, AfterJoined, And, AfterAnd, Finished}
use Rattle.filters.specs.declared.expression.Field.{Field}
use Rattle.filters.specs.declared.expression.Test.{Test}
use Rattle.filters.specs.declared.expression.Test.TheVariants.{Equals, Differs, Contains as ContainsTest}
use Rattle.filters.specs.Expressions.{Expression, Negation, Both}
use Rattle.filters.specs.Words.{is_word_byte, is_base, field_named}
use Rattle.filters.specs.Machine.{run, ending, word_at_end, fault_at, step, opened, closed, sign, after_word, named_of, names, contains_letter, and_letter, filter_for, alone}
use Rattle.filters.specs.Grammar.{Body, Comparison, Base, Not, First, Then, AreSpaces, Spaces, Gap, AreWordBytes, IsWord, IsInside, IsQuote, IsString, IsOperator, InParentheses, IsBody, is_joined, field_of, meaning, FollowsAnd, MayOpen, AreOpen, EndsWord, NamesNothing, GoesTooDeep}
use Rattle.filters.proofs.Reaching.{goes}
use Rattle.filters.specs.declared.reading.FilterFault.{FilterFault}
use Rattle.filters.specs.declared.reading.FilterFault.TheVariants.{Syntax as SyntaxFault, UnknownTag as UnknownFault, TooDeep as DeepFault, NoMemory as MemoryFault}
use Rattle.filters.proofs.GrammarRead.{Room, Allowed, from_allowed}

equal : (b c : ℕ) → (b == c) ≡ true → b ≡ c
equal b c e = grind (arith, nat_tests)

differs : (b c : ℕ) → (b == c) ≡ false → b ≢ c
differs b c e = grind (arith, nat_tests)

-- leaves
no_spaces : (text : List ℕ) → Spaces text text
no_spaces text = ([], refl, tt)

are_spaces : (spaces : List ℕ) → AreSpaces spaces → AreSpaces (spaces ++ 32 ∷ [])
are_spaces [] are = (refl, tt)
are_spaces (b ∷ bs) are = (are.0, are_spaces bs are.1)

one_space : (text rest : List ℕ) → Spaces text (32 ∷ rest) → Spaces text rest
one_space text rest s = (s.0 ++ 32 ∷ [], s.1 ∙ sym (append_assoc s.0 (32 ∷ []) rest), are_spaces s.0 s.2)

gap_more : (text rest : List ℕ) → Gap text (32 ∷ rest) → Gap text rest
gap_more text rest gap = (gap.0, gap.1, one_space gap.0 rest gap.2)

a_gap : (rest : List ℕ) → Gap (32 ∷ rest) rest
a_gap rest = (rest, refl, no_spaces rest)

gap_spaces : (text rest : List ℕ) → Gap text rest → Spaces text rest
gap_spaces text rest gap = (32 ∷ gap.2.0, gap.1 ∙ ap (λ (t : List ℕ). 32 ∷ t) gap.2.1, (refl, gap.2.2))

spaces_gap_from : (spaces rest : List ℕ) → AreSpaces spaces → Gap (spaces ++ 32 ∷ rest) rest
spaces_gap_from [] rest are = a_gap rest
spaces_gap_from (b ∷ bs) rest are = (bs ++ 32 ∷ rest, ap (λ (c : ℕ). c ∷ (bs ++ 32 ∷ rest)) are.0, one_space (bs ++ 32 ∷ rest) rest (bs, refl, are.1))

spaces_gap : (text rest : List ℕ) → Spaces text (32 ∷ rest) → Gap text rest
spaces_gap text rest s = subst (λ (t : List ℕ). Gap t rest) (sym s.1) (spaces_gap_from s.0 rest s.2)

some_push : (word : List ℕ) (b : ℕ) → 0 < length (word ++ b ∷ [])
some_push [] b = omega arith
some_push (c ∷ word) b = omega arith

inside_push : (string inside more : List ℕ) (quote c : ℕ) → (((more ≡ c ∷ []) × (c ≢ quote) × (c ≢ 92)) ⊎ (more ≡ 92 ∷ c ∷ [])) → IsInside quote inside string → IsInside quote (inside ++ more) (string ++ c ∷ [])
inside_push [] inside more quote c one is = rw is ([], one, refl)
inside_push (d ∷ string) inside more quote c one is =
    (is.0 ++ more, (elim is.1 [ inl h ↦ inl (ap (λ (t : List ℕ). t ++ more) h.0, h.1, h.2) | inr h ↦ inr (ap (λ (t : List ℕ). t ++ more) h) ]), inside_push string is.0 more quote c one is.2)

operator_space : (test : Test) (text rest : List ℕ) → IsOperator test text (32 ∷ rest) → IsOperator test text rest
operator_space Equals text rest is = (is.0, is.1, is.2, is.3, one_space is.1 rest is.4)
operator_space Differs text rest is = (is.0, is.1, is.2, is.3, one_space is.1 rest is.4)
operator_space ContainsTest text rest is = (is.0, is.1, is.2, is.3, gap_more is.1 rest is.4)

-- one more parenthesis
room_from : (strict : Bool) (n : ℕ) → (strict && nat_le 32 n) ≡ false → Room strict n
room_from true n e = λ _. grind (arith, nat_tests)
room_from false n e = λ h. cc

-- the letters of `contains` and of AND
letters_on : (read : ℕ) (rest : List ℕ) → read < 7 → take read (codes "contains") ++ slice_index (codes "contains") read ∷ rest ≡ take (read + 1) (codes "contains") ++ rest
letters_on zero rest low = refl
letters_on (suc zero) rest low = refl
letters_on (suc (suc zero)) rest low = refl
letters_on (suc (suc (suc zero))) rest low = refl
letters_on (suc (suc (suc (suc zero)))) rest low = refl
letters_on (suc (suc (suc (suc (suc zero))))) rest low = refl
letters_on (suc (suc (suc (suc (suc (suc zero)))))) rest low = refl
letters_on (suc (suc (suc (suc (suc (suc (suc read))))))) rest low = absurd (omega arith)

both_tests : (read b c : ℕ) → (nat_lt read 7 && (b == c)) ≡ true → (read < 7) × (b ≡ c)
both_tests read b c e = (grind (arith, nat_tests), grind (arith, nat_tests))

two_tests : (read n b c : ℕ) → ((read == n) && (b == c)) ≡ true → (read ≡ n) × (b ≡ c)
two_tests read n b c e = (grind (arith, nat_tests), grind (arith, nat_tests))

a_quote : (b : ℕ) → ((b == 34) || (b == 39)) ≡ true → IsQuote b
a_quote b e = grind (arith, nat_tests)

word_ends : (n : ℕ) (name : Option Named) (word : List ℕ) (e : Expression) → word_at_end n name word ≡ Ok e → ⊥
word_ends n None word e h = cc
word_ends n (Some name) word e h = cc

full : (n : ℕ) → (true && nat_le 32 n) ≡ true → n ≤ 32 → n ≡ 32
full n e low = let high : 32 ≤ n = grind (arith, nat_tests) in omega (arith, high)

none_full : (n : ℕ) → n ≡ 0 → (true && nat_le 32 n) ≡ true → ⊥
none_full n none e = let high : 32 ≤ n = grind (arith, nat_tests) in omega (arith, high, none)

-- with this vocabulary
module _ (vocabulary : Vocabulary) where
  -- the text goes up to a J that means this, and then on
  record Joins (strict : Bool) (level : ℕ) (e : Expression) (text rest : List ℕ) : Type 0 where
    body : Body
    is : IsBody vocabulary body text rest
    joined : is_joined body ≡ true
    means : meaning vocabulary body ≡ e
    allowed : Allowed vocabulary strict level body

  -- the text goes up to right after these open parentheses, and spaces
  Opens : Bool → List Purpose → List ℕ → List ℕ → Type 0
  Opens strict [] text rest = ⊥
  Opens strict (Whole ∷ purposes) text rest = (inner : List ℕ) × (purposes ≡ []) × (text ≡ 40 ∷ inner) × Spaces inner rest
  Opens strict (Negated ∷ purposes) text rest = (outer more inner : List ℕ) × Opens strict purposes text outer × (outer ≡ 33 ∷ more) × (more ≡ 40 ∷ inner) × Spaces inner rest × Room strict (length purposes)
  Opens strict (FirstPurpose ∷ purposes) text rest = (outer inner : List ℕ) × Opens strict purposes text outer × (outer ≡ 40 ∷ inner) × Spaces inner rest × Room strict (length purposes)
  Opens strict (Next e ∷ purposes) text rest =
      (outer gap word second_gap next inner : List ℕ) × Opens strict purposes text outer × Joins strict (length purposes) e outer gap × Gap gap word × (word ≡ codes "AND" ++ second_gap) × Gap second_gap next × (next ≡ 40 ∷ inner) × Spaces inner rest × Room strict (length purposes)

  -- a tag's word is there, and then the rest
  record Tags (strict : Bool) (field : Field) (purposes : List Purpose) (text rest : List ℕ) : Type 0 where
    outer : List ℕ
    word : List ℕ
    opens : Opens strict purposes text outer
    is : outer ≡ word ++ rest
    a_word : IsWord vocabulary false word
    names_it : field_of (field_named vocabulary word) ≡ field
    known : strict ≡ true → is_some (field_named vocabulary word) ≡ true

  -- what is before a text in quotes
  data Leads (strict : Bool) (goal : Goal) (purposes : List Purpose) (text rest : List ℕ) : Type 0 where
    Operates : (field : Field) (test : Test) (operator : List ℕ) → goal ≡ Compared field test → Tags strict field purposes text operator → IsOperator test operator rest → Leads strict goal purposes text rest
    Bases : (outer word gap : List ℕ) → goal ≡ BaseGoal → Opens strict purposes text outer → outer ≡ word ++ gap → IsWord vocabulary true word → Gap gap rest → Leads strict goal purposes text rest

  -- between quotes
  record Quotes (strict : Bool) (goal : Goal) (quote : ℕ) (string : List ℕ) (purposes : List Purpose) (text rest : List ℕ) : Type 0 where
    quoted : List ℕ
    inside : List ℕ
    leads : Leads strict goal purposes text quoted
    is_quote : IsQuote quote
    is : quoted ≡ quote ∷ (inside ++ rest)
    in_quotes : IsInside quote inside string

  -- a B that is no J
  record Ends (strict : Bool) (e : Expression) (purposes : List Purpose) (text rest : List ℕ) : Type 0 where
    outer : List ℕ
    end : List ℕ
    body : Body
    opens : Opens strict purposes text outer
    is : IsBody vocabulary body outer end
    spaces : Spaces end rest
    means : meaning vocabulary body ≡ e
    allowed : Allowed vocabulary strict (length purposes) body

  -- a J
  record Chains (strict : Bool) (e : Expression) (purposes : List Purpose) (text rest : List ℕ) : Type 0 where
    outer : List ℕ
    opens : Opens strict purposes text outer
    joins : Joins strict (length purposes) e outer rest

  record Whole_filter (strict : Bool) (e : Expression) (text rest : List ℕ) : Type 0 where
    body : Body
    is : InParentheses (IsBody vocabulary body) text rest
    means : meaning vocabulary body ≡ e
    allowed : Allowed vocabulary strict 1 body

  -- what the text is up to a state, before the rest
  At : Bool → State → List Purpose → List ℕ → List ℕ → Type 0
  At strict Start purposes text rest = (purposes ≡ []) × (text ≡ rest)
  At strict Opened purposes text rest = Opens strict purposes text rest
  At strict Bang purposes text rest = (outer : List ℕ) × Opens strict purposes text outer × (outer ≡ 33 ∷ rest)
  At strict (Word word) purposes text rest = (outer : List ℕ) × Opens strict purposes text outer × (outer ≡ word ++ rest) × AreWordBytes vocabulary word × (0 < length word)
  At strict (AfterField field) purposes text rest = (gap : List ℕ) × Tags strict field purposes text gap × Gap gap rest
  At strict (Sign field Equals) purposes text rest = (operator word : List ℕ) × Tags strict field purposes text operator × Spaces operator word × (word ≡ 61 ∷ rest)
  At strict (Sign field Differs) purposes text rest = (operator word : List ℕ) × Tags strict field purposes text operator × Spaces operator word × (word ≡ 33 ∷ rest)
  At strict (Sign field ContainsTest) purposes text rest = ⊥
  At strict (Contains field read) purposes text rest = (gap word : List ℕ) × Tags strict field purposes text gap × Gap gap word × (word ≡ take read (codes "contains") ++ rest) × (1 ≤ read) × (read ≤ 7)
  At strict (NeedsSpace goal) purposes text rest = (field : Field) × (gap word : List ℕ) × (goal ≡ Compared field ContainsTest) × Tags strict field purposes text gap × Gap gap word × (word ≡ codes "contains" ++ rest)
  At strict (BeforeText goal) purposes text rest = Leads strict goal purposes text rest
  At strict (InText goal quote string) purposes text rest = Quotes strict goal quote string purposes text rest
  At strict (Escaped goal quote string) purposes text rest = Quotes strict goal quote string purposes text (92 ∷ rest)
  At strict (Done e) purposes text rest = Ends strict e purposes text rest
  At strict (Joined e) purposes text rest = Chains strict e purposes text rest
  At strict (AfterJoined e) purposes text rest = (gap : List ℕ) × Chains strict e purposes text gap × Gap gap rest
  At strict (And e read) purposes text rest = (gap word : List ℕ) × Chains strict e purposes text gap × Gap gap word × (word ≡ take read (codes "AND") ++ rest) × (1 ≤ read) × (read ≤ 3)
  At strict (AfterAnd e) purposes text rest = (gap word second_gap : List ℕ) × Chains strict e purposes text gap × Gap gap word × (word ≡ codes "AND" ++ second_gap) × Gap second_gap rest
  At strict (Finished e) purposes text rest = Whole_filter strict e text rest

  -- what the step leads to has this property of the rest
  KeptNext : Bool → List ℕ → List ℕ → Result (State × List Purpose) Stop → Type 0
  KeptNext strict text rest (Ok next) = At strict next.0 next.1 text rest
  KeptNext strict text rest (Err stop) = Unit {0}

  record Kept (strict : Bool) (text rest : List ℕ) (r : Result (State × List Purpose) Stop) : Type 0 where
    is : KeptNext strict text rest r

  to : (strict : Bool) (text rest : List ℕ) (state : State) (purposes : List Purpose) → At strict state purposes text rest → Kept strict text rest (Ok (state, purposes))
  unfolding KeptNext
  to strict text rest state purposes at = record { is = at }

  stop : (strict : Bool) (text rest : List ℕ) (s : Stop) → Kept strict text rest (Err s)
  unfolding KeptNext
  stop strict text rest s = record { is = tt }

  when : (strict : Bool) (text rest : List ℕ) (c : Bool) (x y : Result (State × List Purpose) Stop) → (c ≡ true → Kept strict text rest x) → (c ≡ false → Kept strict text rest y) → Kept strict text rest (cond c x y)
  when strict text rest true x y h k = h refl
  when strict text rest false x y h k = k refl

  when_alone : (strict : Bool) (text rest : List ℕ) (purposes : List Purpose) (c : Bool) (x y : Result State Stop) → (c ≡ true → Kept strict text rest (alone x purposes)) → (c ≡ false → Kept strict text rest (alone y purposes)) → Kept strict text rest (alone (cond c x y) purposes)
  when_alone strict text rest purposes true x y h k = h refl
  when_alone strict text rest purposes false x y h k = k refl

  letters_push : (word : List ℕ) (b : ℕ) → AreWordBytes vocabulary word → is_word_byte vocabulary b ≡ true → AreWordBytes vocabulary (word ++ b ∷ [])
  letters_push [] b are is = (is, tt)
  letters_push (c ∷ word) b are is = (are.0, letters_push word b are.1 is)

  opens_space : (strict : Bool) (purposes : List Purpose) (text rest : List ℕ) → Opens strict purposes text (32 ∷ rest) → Opens strict purposes text rest
  unfolding Opens
  opens_space strict [] text rest o = o
  opens_space strict (Whole ∷ purposes) text rest o = (o.0, o.1, o.2, one_space o.0 rest o.3)
  opens_space strict (Negated ∷ purposes) text rest o = (o.0, o.1, o.2, o.3, o.4, o.5, one_space o.2 rest o.6, o.7)
  opens_space strict (FirstPurpose ∷ purposes) text rest o = (o.0, o.1, o.2, o.3, one_space o.1 rest o.4, o.5)
  opens_space strict (Next e ∷ purposes) text rest o = (o.0, o.1, o.2, o.3, o.4, o.5, o.6, o.7, o.8, o.9, o.10, o.11, one_space o.5 rest o.12, o.13)

  leads_space : (strict : Bool) (goal : Goal) (purposes : List Purpose) (text rest : List ℕ) → Leads strict goal purposes text (32 ∷ rest) → Leads strict goal purposes text rest
  leads_space strict goal purposes text rest (Operates field test operator e tags is) = Operates field test operator e tags (operator_space test operator rest is)
  leads_space strict goal purposes text rest (Bases outer word gap e opens is a_word spaces) = Bases outer word gap e opens is a_word (gap_more gap rest spaces)

  opened_kept : (strict : Bool) (purpose : Purpose) (purposes : List Purpose) (text rest : List ℕ) → (Room strict (length purposes) → Opens strict (purpose ∷ purposes) text rest) → Kept strict text rest (opened strict purpose purposes)
  unfolding At
  opened_kept strict purpose purposes text rest h =
      when strict text rest (strict && nat_le 32 (length purposes)) _ _ (λ _. stop strict text rest TooDeep) (λ e. to strict text rest Opened (purpose ∷ purposes) (h (room_from strict (length purposes) e)))

  -- the parenthesis around a B
  parentheses : (body : Body) (text inner start end rest : List ℕ) → text ≡ 40 ∷ inner → Spaces inner start → IsBody vocabulary body start end → Spaces end (41 ∷ rest) → InParentheses (IsBody vocabulary body) text rest
  parentheses body text inner start end rest is before b after = (inner, start, end, 41 ∷ rest, is, before, b, after, refl)

  closed_kept : (strict : Bool) (e : Expression) (purposes : List Purpose) (text rest : List ℕ) → Ends strict e purposes text (41 ∷ rest) → Kept strict text rest (closed e purposes)
  unfolding At Opens
  closed_kept strict e [] text rest ends = stop strict text rest Syntax
  closed_kept strict e (Whole ∷ purposes) text rest ends =
      let o = ends.opens in
      to strict text rest (Finished e) purposes (record {
        body = ends.body;
        is = parentheses ends.body text o.0 ends.outer ends.end rest o.2 o.3 ends.is ends.spaces;
        means = ends.means;
        allowed = subst (λ (fs : List Purpose). Allowed vocabulary strict (length (Whole ∷ fs)) ends.body) o.1 ends.allowed;
      })
  closed_kept strict e (Negated ∷ purposes) text rest ends =
      let o = ends.opens in
      to strict text rest (Done (Negation e)) purposes (record {
        outer = o.0;
        end = rest;
        body = Not ends.body;
        opens = o.3;
        is = (o.1, o.4, parentheses ends.body o.1 o.2 ends.outer ends.end rest o.5 o.6 ends.is ends.spaces);
        spaces = no_spaces rest;
        means = ap Negation ends.means;
        allowed = (o.7, ends.allowed);
      })
  closed_kept strict e (FirstPurpose ∷ purposes) text rest ends =
      let o = ends.opens in
      to strict text rest (Joined e) purposes (record {
        outer = o.0;
        opens = o.2;
        joins = record { body = First ends.body; is = parentheses ends.body o.0 o.1 ends.outer ends.end rest o.3 o.4 ends.is ends.spaces; joined = refl; means = ends.means; allowed = (o.5, ends.allowed) };
      })
  closed_kept strict e (Next f ∷ purposes) text rest ends =
      let o = ends.opens in
      let j = o.7 in
      to strict text rest (Joined (Both f e)) purposes (record {
        outer = o.0;
        opens = o.6;
        joins = record {
          body = Then j.body ends.body;
          is = (j.joined, o.1, o.2, o.3, o.4, j.is, o.8, o.9, o.10, parentheses ends.body o.4 o.5 ends.outer ends.end rest o.11 o.12 ends.is ends.spaces);
          joined = refl;
          means = (λ i. Both (j.means i) (ends.means i));
          allowed = (j.allowed, o.13, ends.allowed);
        };
      })

  chain_ends : (strict : Bool) (e : Expression) (purposes : List Purpose) (text gap rest : List ℕ) → Chains strict e purposes text gap → Spaces gap rest → Ends strict e purposes text rest
  chain_ends strict e purposes text gap rest chains spaces =
      record { outer = chains.outer; end = gap; body = chains.joins.body; opens = chains.opens; is = chains.joins.is; spaces = spaces; means = chains.joins.means; allowed = chains.joins.allowed }

  -- what a tag's word names
  named_field : (strict based : Bool) (word : List ℕ) (name : Option Field) (field : Field) → is_base word ≡ based → field_named vocabulary word ≡ name → names vocabulary strict word ≡ Some (NamedField field)
      → (based ≡ false) × (field_of name ≡ field) × (strict ≡ true → is_some name ≡ true)
  unfolding named_of
  named_field true true word name field base named e = let n : Some NamedBase ≡ Some (NamedField field) = rw base at e in cc
  named_field false true word name field base named e = let n : Some NamedBase ≡ Some (NamedField field) = rw base at e in cc
  named_field true false word None field base named e = let n : None ≡ Some (NamedField field) = rw (base, named) at e in cc
  named_field true false word (Some other) field base named e = let n : Some (NamedField other) ≡ Some (NamedField field) = rw (base, named) at e in (refl, cc, (λ _. refl))
  named_field false false word None field base named e = let n : Some (NamedField (field_of None)) ≡ Some (NamedField field) = rw (base, named) at e in (refl, cc, (λ h. cc))
  named_field false false word (Some other) field base named e = let n : Some (NamedField other) ≡ Some (NamedField field) = rw (base, named) at e in (refl, cc, (λ _. refl))

  named_base : (strict based : Bool) (word : List ℕ) (name : Option Field) → is_base word ≡ based → field_named vocabulary word ≡ name → names vocabulary strict word ≡ Some NamedBase → based ≡ true
  unfolding named_of
  named_base strict true word name base named e = refl
  named_base true false word None base named e = let n : None ≡ Some NamedBase = rw (base, named) at e in cc
  named_base true false word (Some other) base named e = let n : Some (NamedField other) ≡ Some NamedBase = rw (base, named) at e in cc
  named_base false false word None base named e = let n : Some (NamedField (field_of None)) ≡ Some NamedBase = rw (base, named) at e in cc
  named_base false false word (Some other) base named e = let n : Some (NamedField other) ≡ Some NamedBase = rw (base, named) at e in cc

  -- after a tag's word
  sign_kept : (strict : Bool) (field : Field) (purposes : List Purpose) (text operator : List ℕ) (b : ℕ) (rest : List ℕ) → Tags strict field purposes text operator → Spaces operator (b ∷ rest) → (b ≡ 99 → Gap operator (b ∷ rest))
      → Kept strict text rest (alone (sign field b) purposes)
  unfolding At
  sign_kept strict field purposes text operator b rest tags spaces gap =
      when_alone strict text rest purposes (b == 32) _ _ (λ e. to strict text rest (AfterField field) purposes (operator, tags, spaces_gap operator rest (subst (λ (c : ℕ). Spaces operator (c ∷ rest)) (equal b 32 e) spaces))) (λ _.
      when_alone strict text rest purposes (b == 61) _ _ (λ e. to strict text rest (Sign field Equals) purposes (operator, b ∷ rest, tags, spaces, ap (λ (c : ℕ). c ∷ rest) (equal b 61 e))) (λ _.
      when_alone strict text rest purposes (b == 33) _ _ (λ e. to strict text rest (Sign field Differs) purposes (operator, b ∷ rest, tags, spaces, ap (λ (c : ℕ). c ∷ rest) (equal b 33 e))) (λ _.
      when_alone strict text rest purposes (b == 99) _ _ (λ e. to strict text rest (Contains field 1) purposes (operator, b ∷ rest, tags, gap (equal b 99 e), ap (λ (c : ℕ). c ∷ rest) (equal b 99 e), omega arith, omega arith)) (λ _.
      stop strict text rest Syntax))))

  no_letter : (b : ℕ) → is_word_byte vocabulary b ≡ false → b ≡ 99 → ⊥
  no_letter b other e = grind (arith, nat_tests)

  word_kept : (strict : Bool) (word : List ℕ) (purposes : List Purpose) (text outer : List ℕ) (b : ℕ) (rest : List ℕ) (name : Option Named) → names vocabulary strict word ≡ name → is_word_byte vocabulary b ≡ false → Opens strict purposes text outer → outer ≡ word ++ b ∷ rest
      → AreWordBytes vocabulary word → 0 < length word → Kept strict text rest (alone (after_word name word b) purposes)
  unfolding At
  word_kept strict word purposes text outer b rest None named other opens is letters some = stop strict text rest (UnknownTag word)
  word_kept strict word purposes text outer b rest (Some (NamedField field)) named other opens is letters some =
      let meant = named_field strict (is_base word) word (field_named vocabulary word) field refl refl named in
      let tags : Tags strict field purposes text (b ∷ rest) = record { outer = outer; word = word; opens = opens; is = is; a_word = (some, letters, meant.0); names_it = meant.1; known = meant.2 } in
      sign_kept strict field purposes text (b ∷ rest) b rest tags (no_spaces (b ∷ rest)) (λ e. absurd (no_letter b other e))
  word_kept strict word purposes text outer b rest (Some NamedBase) named other opens is letters some =
      when_alone strict text rest purposes (b == 32) _ _ (λ e. to strict text rest (BeforeText BaseGoal) purposes
      (Bases outer word (b ∷ rest) refl opens is (some, letters, named_base strict (is_base word) word (field_named vocabulary word) refl refl named) (subst (λ (c : ℕ). Gap (c ∷ rest) rest) (sym (equal b 32 e)) (a_gap rest)))) (λ _. stop strict text rest Syntax)

  contains_kept : (strict : Bool) (field : Field) (read : ℕ) (purposes : List Purpose) (text : List ℕ) (b : ℕ) (rest : List ℕ) → At strict (Contains field read) purposes text (b ∷ rest) → Kept strict text rest (alone (contains_letter field read b) purposes)
  unfolding At
  contains_kept strict field read purposes text b rest at =
      when_alone strict text rest purposes (nat_lt read 7 && (b == slice_index (codes "contains") read)) _ _ (λ e.
      let tests = both_tests read b (slice_index (codes "contains") read) e in
      to strict text rest (Contains field (read + 1)) purposes (at.0, at.1, at.2, at.3, at.4 ∙ ap (λ (c : ℕ). take read (codes "contains") ++ c ∷ rest) tests.1 ∙ letters_on read rest tests.0, omega arith, (let low = tests.0 in omega (arith, low)))) (λ _.
      when_alone strict text rest purposes ((read == 7) && (b == 115)) _ _ (λ e.
      let tests = two_tests read 7 b 115 e in
      to strict text rest (NeedsSpace (Compared field ContainsTest)) purposes (
        field,
        at.0,
        at.1,
        refl,
        at.2,
        at.3,
        at.4 ∙ ap (λ (n : ℕ). take n (codes "contains") ++ b ∷ rest) tests.0 ∙ ap (λ (c : ℕ). take 7 (codes "contains") ++ c ∷ rest) tests.1,
      )) (λ _. stop strict text rest Syntax))

  and_kept : (strict : Bool) (e : Expression) (read : ℕ) (purposes : List Purpose) (text : List ℕ) (b : ℕ) (rest : List ℕ) → At strict (And e read) purposes text (b ∷ rest) → Kept strict text rest (alone (and_letter e read b) purposes)
  unfolding At
  and_kept strict e read purposes text b rest at =
      when_alone strict text rest purposes ((read == 1) && (b == 78)) _ _ (λ h.
      let tests = two_tests read 1 b 78 h in
      to strict text rest (And e 2) purposes (at.0, at.1, at.2, at.3, at.4 ∙ ap (λ (n : ℕ). take n (codes "AND") ++ b ∷ rest) tests.0 ∙ ap (λ (c : ℕ). take 1 (codes "AND") ++ c ∷ rest) tests.1, omega arith, omega arith)) (λ _.
      when_alone strict text rest purposes ((read == 2) && (b == 68)) _ _ (λ h.
      let tests = two_tests read 2 b 68 h in
      to strict text rest (And e 3) purposes (at.0, at.1, at.2, at.3, at.4 ∙ ap (λ (n : ℕ). take n (codes "AND") ++ b ∷ rest) tests.0 ∙ ap (λ (c : ℕ). take 2 (codes "AND") ++ c ∷ rest) tests.1, omega arith, omega arith)) (λ _.
      when_alone strict text rest purposes ((read == 3) && (b == 32)) _ _ (λ h.
      let tests = two_tests read 3 b 32 h in
      to strict text rest (AfterAnd e) purposes (at.0, at.1, b ∷ rest, at.2, at.3, at.4 ∙ ap (λ (n : ℕ). take n (codes "AND") ++ b ∷ rest) tests.0, subst (λ (c : ℕ). Gap (c ∷ rest) rest) (sym tests.1) (a_gap rest))) (λ _.
      stop strict text rest Syntax)))

  -- texts in quotes
  string_ends_by : (strict : Bool) (goal : Goal) (string : List ℕ) (purposes : List Purpose) (text rest quoted : List ℕ) → Leads strict goal purposes text quoted → IsString string quoted rest → Ends strict (filter_for goal string) purposes text rest
  string_ends_by strict goal string purposes text rest quoted (Operates field test operator e tags operates) s =
      record {
        outer = tags.outer;
        end = rest;
        body = Comparison tags.word test string;
        opens = tags.opens;
        is = (operator, quoted, tags.is, tags.a_word, operates, s);
        spaces = no_spaces rest;
        means = ap (λ (f : Field). filter_for (Compared f test) string) tags.names_it ∙ ap (λ (g : Goal). filter_for g string) (sym e);
        allowed = tags.known;
      }
  string_ends_by strict goal string purposes text rest quoted (Bases outer word gap e opens is a_word spaces) s =
      record { outer = outer; end = rest; body = Base string; opens = opens; is = (word, gap, quoted, is, a_word, spaces, s); spaces = no_spaces rest; means = ap (λ (g : Goal). filter_for g string) (sym e); allowed = tt }

  string_ends : (strict : Bool) (goal : Goal) (quote : ℕ) (string : List ℕ) (purposes : List Purpose) (text rest : List ℕ) → Quotes strict goal quote string purposes text (quote ∷ rest) → Ends strict (filter_for goal string) purposes text rest
  string_ends strict goal quote string purposes text rest q = string_ends_by strict goal string purposes text rest q.quoted q.leads (quote, q.inside, q.is_quote, q.is, q.in_quotes)

  string_goes : (strict : Bool) (goal : Goal) (quote : ℕ) (string : List ℕ) (purposes : List Purpose) (text rest more : List ℕ) (c : ℕ) → (((more ≡ c ∷ []) × (c ≢ quote) × (c ≢ 92)) ⊎ (more ≡ 92 ∷ c ∷ []))
      → Quotes strict goal quote string purposes text (more ++ rest) → Quotes strict goal quote (string ++ c ∷ []) purposes text rest
  string_goes strict goal quote string purposes text rest more c one q =
      record {
        quoted = q.quoted;
        inside = q.inside ++ more;
        leads = q.leads;
        is_quote = q.is_quote;
        is = q.is ∙ ap (λ (t : List ℕ). quote ∷ t) (sym (append_assoc q.inside more rest));
        in_quotes = inside_push string q.inside more quote c one q.in_quotes;
      }

  signed : (strict : Bool) (field : Field) (test : Test) (purposes : List Purpose) (text : List ℕ) (b : ℕ) (rest : List ℕ) → At strict (Sign field test) purposes text (b ∷ rest) → b ≡ 61 → Leads strict (Compared field test) purposes text rest
  unfolding At
  signed strict field Equals purposes text b rest at e = Operates field Equals at.0 refl at.2 (at.1, rest, at.3, at.4 ∙ ap (λ (c : ℕ). 61 ∷ c ∷ rest) e, no_spaces rest)
  signed strict field Differs purposes text b rest at e = Operates field Differs at.0 refl at.2 (at.1, rest, at.3, at.4 ∙ ap (λ (c : ℕ). 33 ∷ c ∷ rest) e, no_spaces rest)
  signed strict field ContainsTest purposes text b rest at e = absurd at

  kept : (strict : Bool) (state : State) (purposes : List Purpose) (text : List ℕ) (b : ℕ) (rest : List ℕ) → At strict state purposes text (b ∷ rest) → Kept strict text rest (step vocabulary strict state purposes b)
  unfolding step At Opens
  kept strict Start purposes text b rest at =
      when strict text rest (b == 40) _ _ (λ e. opened_kept strict Whole purposes text rest (λ room. (rest, at.0, at.1 ∙ ap (λ (c : ℕ). c ∷ rest) (equal b 40 e), no_spaces rest))) (λ _. stop strict text rest Syntax)
  kept strict Opened purposes text b rest at =
      when strict text rest (b == 32) _ _ (λ e. to strict text rest Opened purposes (opens_space strict purposes text rest (subst (λ (c : ℕ). Opens strict purposes text (c ∷ rest)) (equal b 32 e) at))) (λ _.
      when strict text rest (b == 33) _ _ (λ e. to strict text rest Bang purposes (b ∷ rest, at, ap (λ (c : ℕ). c ∷ rest) (equal b 33 e))) (λ _.
      when strict text rest (is_word_byte vocabulary b) _ _ (λ e. to strict text rest (Word (b ∷ [])) purposes (b ∷ rest, at, refl, (e, tt), omega arith)) (λ _.
      when strict text rest (b == 40) _ _ (λ e. opened_kept strict FirstPurpose purposes text rest (λ room. (b ∷ rest, rest, at, ap (λ (c : ℕ). c ∷ rest) (equal b 40 e), no_spaces rest, room))) (λ _. stop strict text rest Syntax))))
  kept strict Bang purposes text b rest at =
      when strict text rest (b == 40) _ _ (λ e. opened_kept strict Negated purposes text rest (λ room. (at.0, b ∷ rest, rest, at.1, at.2, ap (λ (c : ℕ). c ∷ rest) (equal b 40 e), no_spaces rest, room))) (λ _. stop strict text rest Syntax)
  kept strict (Word word) purposes text b rest at =
      when strict text rest (is_word_byte vocabulary b) _ _ (λ e. to strict text rest (Word (word ++ b ∷ [])) purposes (at.0, at.1, at.2 ∙ sym (append_assoc word (b ∷ []) rest), letters_push word b at.3 e, some_push word b))
      (λ e. word_kept strict word purposes text at.0 b rest (names vocabulary strict word) refl e at.1 at.2 at.3 at.4)
  kept strict (AfterField field) purposes text b rest at = sign_kept strict field purposes text at.0 b rest at.1 (gap_spaces at.0 (b ∷ rest) at.2) (λ _. at.2)
  kept strict (Sign field test) purposes text b rest at =
      when strict text rest (b == 61) _ _ (λ e. to strict text rest (BeforeText (Compared field test)) purposes (signed strict field test purposes text b rest at (equal b 61 e))) (λ _. stop strict text rest Syntax)
  kept strict (Contains field read) purposes text b rest at = contains_kept strict field read purposes text b rest at
  kept strict (NeedsSpace goal) purposes text b rest at =
      when strict text rest (b == 32) _ _ (λ e. to strict text rest (BeforeText goal) purposes
      (Operates at.0 ContainsTest at.1 at.3 at.4 (at.2, b ∷ rest, at.5, at.6, subst (λ (c : ℕ). Gap (c ∷ rest) rest) (sym (equal b 32 e)) (a_gap rest)))) (λ _. stop strict text rest Syntax)
  kept strict (BeforeText goal) purposes text b rest at =
      when strict text rest (b == 32) _ _ (λ e. to strict text rest (BeforeText goal) purposes (leads_space strict goal purposes text rest (subst (λ (c : ℕ). Leads strict goal purposes text (c ∷ rest)) (equal b 32 e) at))) (λ _.
      when strict text rest ((b == 34) || (b == 39)) _ _ (λ e. to strict text rest (InText goal b []) purposes (record { quoted = b ∷ rest; inside = []; leads = at; is_quote = a_quote b e; is = refl; in_quotes = refl })) (λ _.
      stop strict text rest Syntax))
  kept strict (InText goal quote string) purposes text b rest at =
      when strict text rest (b == quote) _ _ (λ e. to strict text rest (Done (filter_for goal string)) purposes
      (string_ends strict goal quote string purposes text rest (subst (λ (c : ℕ). Quotes strict goal quote string purposes text (c ∷ rest)) (equal b quote e) at))) (λ not_quote.
      when strict text rest (b == 92) _ _ (λ e. to strict text rest (Escaped goal quote string) purposes (subst (λ (c : ℕ). Quotes strict goal quote string purposes text (c ∷ rest)) (equal b 92 e) at)) (λ not_escape.
      to strict text rest (InText goal quote (string ++ b ∷ [])) purposes (string_goes strict goal quote string purposes text rest (b ∷ []) b (inl (refl, differs b quote not_quote, differs b 92 not_escape)) at)))
  kept strict (Escaped goal quote string) purposes text b rest at = to strict text rest (InText goal quote (string ++ b ∷ [])) purposes (string_goes strict goal quote string purposes text rest (92 ∷ b ∷ []) b (inr refl) at)
  kept strict (Done e) purposes text b rest at =
      when strict text rest (b == 32) _ _ (λ h. to strict text rest (Done e) purposes (record {
        outer = at.outer;
        end = at.end;
        body = at.body;
        opens = at.opens;
        is = at.is;
        spaces = one_space at.end rest (subst (λ (c : ℕ). Spaces at.end (c ∷ rest)) (equal b 32 h) at.spaces);
        means = at.means;
        allowed = at.allowed;
      })) (λ _.
      when strict text rest (b == 41) _ _ (λ h. closed_kept strict e purposes text rest (subst (λ (c : ℕ). Ends strict e purposes text (c ∷ rest)) (equal b 41 h) at)) (λ _. stop strict text rest Syntax))
  kept strict (Joined e) purposes text b rest at =
      when strict text rest (b == 32) _ _ (λ h. to strict text rest (AfterJoined e) purposes (b ∷ rest, at, subst (λ (c : ℕ). Gap (c ∷ rest) rest) (sym (equal b 32 h)) (a_gap rest))) (λ _.
      when strict text rest (b == 41) _ _ (λ h. closed_kept strict e purposes text rest (chain_ends strict e purposes text (b ∷ rest) (41 ∷ rest) at (subst (λ (c : ℕ). Spaces (b ∷ rest) (c ∷ rest)) (equal b 41 h) (no_spaces (b ∷ rest))))) (λ _. stop strict text rest Syntax))
  kept strict (AfterJoined e) purposes text b rest at =
      when strict text rest (b == 32) _ _ (λ h. to strict text rest (AfterJoined e) purposes (at.0, at.1, gap_more at.0 rest (subst (λ (c : ℕ). Gap at.0 (c ∷ rest)) (equal b 32 h) at.2))) (λ _.
      when strict text rest (b == 65) _ _ (λ h. to strict text rest (And e 1) purposes (at.0, b ∷ rest, at.1, at.2, ap (λ (c : ℕ). c ∷ rest) (equal b 65 h), omega arith, omega arith)) (λ _.
      when strict text rest (b == 41) _ _ (λ h. closed_kept strict e purposes text rest (chain_ends strict e purposes text at.0 (41 ∷ rest) at.1 (gap_spaces at.0 (41 ∷ rest) (subst (λ (c : ℕ). Gap at.0 (c ∷ rest)) (equal b 41 h) at.2)))) (λ _. stop strict text rest Syntax)))
  kept strict (And e read) purposes text b rest at = and_kept strict e read purposes text b rest at
  kept strict (AfterAnd e) purposes text b rest at =
      when strict text rest (b == 32) _ _ (λ h. to strict text rest (AfterAnd e) purposes (at.0, at.1, at.2, at.3, at.4, at.5, gap_more at.2 rest (subst (λ (c : ℕ). Gap at.2 (c ∷ rest)) (equal b 32 h) at.6))) (λ _.
      when strict text rest (b == 40) _ _ (λ h. opened_kept strict (Next e) purposes text rest (λ room.
      (at.3.outer, at.0, at.1, at.2, b ∷ rest, rest, at.3.opens, at.3.joins, at.4, at.5, at.6, ap (λ (c : ℕ). c ∷ rest) (equal b 40 h), no_spaces rest, room))) (λ _. stop strict text rest Syntax))
  kept strict (Finished e) purposes text b rest at = stop strict text rest Syntax

  -- what a whole text gives is the meaning of a form that the text is
  ended : (strict : Bool) (n : ℕ) (state : State) (purposes : List Purpose) (text : List ℕ) (e : Expression) → At strict state purposes text [] → ending vocabulary n state ≡ Ok e → Whole_filter strict e text []
  unfolding At
  ended strict n (Finished f) purposes text e at h = let same : f ≡ e = cc in subst (λ (g : Expression). Whole_filter strict g text []) same at
  ended strict n (Word word) purposes text e at h = absurd (word_ends n (named_of vocabulary word) word e h)
  ended strict n _ purposes text e at h = cc

  onward : (strict : Bool) (n : ℕ) (state : State) (purposes : List Purpose) (text : List ℕ) (b : ℕ) (rest : List ℕ) (e : Expression) (r : Result (State × List Purpose) Stop) → step vocabulary strict state purposes b ≡ r → Kept strict text rest (step vocabulary strict state purposes b)
      → run vocabulary strict n state purposes (b ∷ rest) ≡ Ok e → ((next : State) (more : List Purpose) → At strict next more text rest → run vocabulary strict (n + 1) next more rest ≡ Ok e → Whole_filter strict e text []) → Whole_filter strict e text []
  unfolding KeptNext
  onward strict n state purposes text b rest e (Ok next) s k h go =
      go next.0 next.1 (subst (KeptNext strict text rest) s k.is) (sym (goes vocabulary strict n state purposes b rest (Ok next) s) ∙ h)
  onward strict n state purposes text b rest e (Err fault) s k h go = let failed : Err (fault_at n fault) ≡ Ok e = sym (goes vocabulary strict n state purposes b rest (Err fault) s) ∙ h in cc

  run_spelled : (rest : List ℕ) (strict : Bool) (n : ℕ) (state : State) (purposes : List Purpose) (text : List ℕ) (e : Expression) → At strict state purposes text rest → run vocabulary strict n state purposes rest ≡ Ok e → Whole_filter strict e text []
  unfolding run
  run_spelled [] strict n state purposes text e at h = ended strict n state purposes text e at h
  run_spelled (b ∷ rest) strict n state purposes text e at h =
      onward strict n state purposes text b rest e (step vocabulary strict state purposes b) refl (kept strict state purposes text b rest at) h (λ next more at_next ok. run_spelled rest strict (n + 1) next more text e at_next ok)

  -- what is read whole is spelled so
  pub read_is_spelled : (strict : Bool) (text : List ℕ) (e : Expression) → run vocabulary strict 0 Start [] text ≡ Ok e → (body : Body) × InParentheses (IsBody vocabulary body) text [] × (meaning vocabulary body ≡ e) × Allowed vocabulary strict 1 body
  unfolding At
  read_is_spelled strict text e h = let whole = run_spelled text strict 0 Start [] text e (refl, refl) h in (whole.body, whole.is, whole.means, whole.allowed)

  -- as the definitions count what is open
  may_open : (purposes : List Purpose) (strict : Bool) (text before rest : List ℕ) → Opens strict purposes text before → ((before ≡ rest) ⊎ ((before ≡ 33 ∷ rest) ⊎ FollowsAnd vocabulary (length purposes) before rest)) → MayOpen vocabulary (length purposes) before rest
  unfolding Opens
  may_open [] strict text before rest o way = absurd o
  may_open (purpose ∷ purposes) strict text before rest o way = way

  follows_and : (level : ℕ) (e : Expression) (text gap word second_gap rest : List ℕ) → level ≤ 32 → Joins true level e text gap → Gap gap word → word ≡ codes "AND" ++ second_gap → Gap second_gap rest → FollowsAnd vocabulary level text rest
  follows_and level e text gap word second_gap rest low joins before is after =
      let fit = from_allowed vocabulary joins.body level low joins.allowed in (joins.body, gap, word, second_gap, joins.is, joins.joined, fit.0, fit.1, before, is, after)

  are_open : (purposes : List Purpose) (text rest : List ℕ) → Opens true purposes text rest → AreOpen vocabulary (length purposes) text rest × (1 ≤ length purposes) × (length purposes ≤ 32)
  unfolding Opens
  are_open [] text rest o = absurd o
  are_open (Whole ∷ purposes) text rest o =
      let none : length purposes ≡ 0 = ap length o.1 in
      (subst (λ (n : ℕ). AreOpen vocabulary (suc n) text rest) (sym none) (text, text, o.0, refl, refl, o.2, o.3), omega arith, omega (arith, none))
  are_open (Negated ∷ purposes) text rest o =
      let outer = are_open purposes text o.0 o.3 in let room = o.7 refl in
      ((o.0, o.1, o.2, outer.0, may_open purposes true text o.0 o.1 o.3 (inr (inl o.4)), o.5, o.6), omega arith, omega (arith, room))
  are_open (FirstPurpose ∷ purposes) text rest o =
      let outer = are_open purposes text o.0 o.2 in let room = o.5 refl in
      ((o.0, o.0, o.1, outer.0, may_open purposes true text o.0 o.0 o.2 (inl refl), o.3, o.4), omega arith, omega (arith, room))
  are_open (Next e ∷ purposes) text rest o =
      let outer = are_open purposes text o.0 o.6 in let room = o.13 refl in let low = outer.2 in
      ((o.0, o.4, o.5, outer.0, may_open purposes true text o.0 o.4 o.6 (inr (inr (follows_and (length purposes) e o.0 o.1 o.2 o.3 o.4 low o.7 o.8 o.9 o.10))), o.11, o.12), omega arith, omega (arith, room))

  -- why a step of the strict rules stops
  CausesNext : List ℕ → Result (State × List Purpose) Stop → Type 0
  CausesNext text (Ok next) = Unit {0}
  CausesNext text (Err Syntax) = Unit {0}
  CausesNext text (Err (UnknownTag word)) = NamesNothing vocabulary text word
  CausesNext text (Err TooDeep) = GoesTooDeep vocabulary text
  CausesNext text (Err NoMemory) = ⊥

  record Causes (text : List ℕ) (r : Result (State × List Purpose) Stop) : Type 0 where
    is : CausesNext text r

  goes_on_so : (text : List ℕ) (next : State × List Purpose) → Causes text (Ok next)
  unfolding CausesNext
  goes_on_so text next = record { is = tt }

  syntax_so : (text : List ℕ) → Causes text (Err Syntax)
  unfolding CausesNext
  syntax_so text = record { is = tt }

  caused_when : (text : List ℕ) (c : Bool) (x y : Result (State × List Purpose) Stop) → (c ≡ true → Causes text x) → (c ≡ false → Causes text y) → Causes text (cond c x y)
  caused_when text true x y h k = h refl
  caused_when text false x y h k = k refl

  caused_alone : (text : List ℕ) (purposes : List Purpose) (c : Bool) (x y : Result State Stop) → Causes text (alone x purposes) → Causes text (alone y purposes) → Causes text (alone (cond c x y) purposes)
  caused_alone text purposes true x y h k = h
  caused_alone text purposes false x y h k = k

  opened_causes : (purpose : Purpose) (purposes : List Purpose) (text before outer rest : List ℕ) (b : ℕ) → b ≡ 40 → Opens true purposes text before → ((before ≡ outer) ⊎ ((before ≡ 33 ∷ outer) ⊎ FollowsAnd vocabulary (length purposes) before outer)) → outer ≡ b ∷ rest → Causes text (opened true purpose purposes)
  unfolding CausesNext
  opened_causes purpose purposes text before outer rest b e o way is =
      let open_at = are_open purposes text before o in
      caused_when text (true && nat_le 32 (length purposes)) _ _ (λ h.
      let n = full (length purposes) h open_at.2 in
      record { is = (before, outer, rest, subst (λ (k : ℕ). AreOpen vocabulary k text before) n open_at.0, subst (λ (k : ℕ). MayOpen vocabulary k before outer) n (may_open purposes true text before outer o way), is ∙ ap (λ (c : ℕ). c ∷ rest) e) }) (λ _. goes_on_so text _)

  sign_causes : (field : Field) (purposes : List Purpose) (text : List ℕ) (b : ℕ) → Causes text (alone (sign field b) purposes)
  sign_causes field purposes text b =
      caused_alone text purposes (b == 32) _ _ (goes_on_so text _) (caused_alone text purposes (b == 61) _ _ (goes_on_so text _)
      (caused_alone text purposes (b == 33) _ _ (goes_on_so text _) (caused_alone text purposes (b == 99) _ _ (goes_on_so text _) (syntax_so text))))

  nameless : (based : Bool) (word : List ℕ) (name : Option Field) → is_base word ≡ based → field_named vocabulary word ≡ name → named_of vocabulary word ≡ None → (based ≡ false) × (name ≡ None)
  unfolding named_of
  nameless true word name base named e = let n : Some NamedBase ≡ None = rw base at e in cc
  nameless false word None base named e = (refl, refl)
  nameless false word (Some field) base named e = let n : Some (NamedField field) ≡ None = rw (base, named) at e in cc

  names_nothing : (word : List ℕ) (purposes : List Purpose) (text outer rest : List ℕ) → named_of vocabulary word ≡ None → Opens true purposes text outer → outer ≡ word ++ rest → AreWordBytes vocabulary word → 0 < length word → EndsWord vocabulary rest → NamesNothing vocabulary text word
  names_nothing word purposes text outer rest named o is letters some ends =
      let open_at = are_open purposes text outer o in
      let none = nameless (is_base word) word (field_named vocabulary word) refl refl named in
      record { count = length purposes; outer = outer; rest = rest; some_open = (open_at.1, open_at.2); open_there = open_at.0; there = is; is_word = (some, letters, none.0); ends = ends; unknown = none.1 }

  word_causes : (word : List ℕ) (purposes : List Purpose) (text outer : List ℕ) (b : ℕ) (rest : List ℕ) (name : Option Named) → named_of vocabulary word ≡ name → is_word_byte vocabulary b ≡ false → Opens true purposes text outer → outer ≡ word ++ b ∷ rest
      → AreWordBytes vocabulary word → 0 < length word → Causes text (alone (after_word name word b) purposes)
  unfolding CausesNext
  word_causes word purposes text outer b rest None named other o is letters some = record { is = names_nothing word purposes text outer (b ∷ rest) named o is letters some other }
  word_causes word purposes text outer b rest (Some (NamedField field)) named other o is letters some = sign_causes field purposes text b
  word_causes word purposes text outer b rest (Some NamedBase) named other o is letters some = caused_alone text purposes (b == 32) _ _ (goes_on_so text _) (syntax_so text)

  closed_causes : (e : Expression) (purposes : List Purpose) (text : List ℕ) → Causes text (closed e purposes)
  closed_causes e [] text = syntax_so text
  closed_causes e (Whole ∷ purposes) text = goes_on_so text _
  closed_causes e (Negated ∷ purposes) text = goes_on_so text _
  closed_causes e (FirstPurpose ∷ purposes) text = goes_on_so text _
  closed_causes e (Next first ∷ purposes) text = goes_on_so text _

  one_test : (text : List ℕ) (c : Bool) (next : State × List Purpose) → Causes text (cond c (Ok next) (Err Syntax))
  one_test text c next = caused_when text c _ _ (λ _. goes_on_so text next) (λ _. syntax_so text)

  closes_or_not : (text : List ℕ) (c : Bool) (e : Expression) (purposes : List Purpose) → Causes text (cond c (closed e purposes) (Err Syntax))
  closes_or_not text c e purposes = caused_when text c _ _ (λ _. closed_causes e purposes text) (λ _. syntax_so text)

  caused : (state : State) (purposes : List Purpose) (text : List ℕ) (b : ℕ) (rest : List ℕ) → At true state purposes text (b ∷ rest) → Causes text (step vocabulary true state purposes b)
  unfolding step At
  caused Start purposes text b rest at =
      caused_when text (b == 40) _ _ (λ _. caused_when text (true && nat_le 32 (length purposes)) _ _ (λ h. absurd (none_full (length purposes) (ap length at.0) h)) (λ _. goes_on_so text _)) (λ _. syntax_so text)
  caused Opened purposes text b rest at =
      caused_when text (b == 32) _ _ (λ _. goes_on_so text _) (λ _. caused_when text (b == 33) _ _ (λ _. goes_on_so text _) (λ _. caused_when text (is_word_byte vocabulary b) _ _ (λ _. goes_on_so text _) (λ _.
      caused_when text (b == 40) _ _ (λ e. opened_causes FirstPurpose purposes text (b ∷ rest) (b ∷ rest) rest b (equal b 40 e) at (inl refl) refl) (λ _. syntax_so text))))
  caused Bang purposes text b rest at =
      caused_when text (b == 40) _ _ (λ e. opened_causes Negated purposes text at.0 (b ∷ rest) rest b (equal b 40 e) at.1 (inr (inl at.2)) refl) (λ _. syntax_so text)
  caused (Word word) purposes text b rest at =
      caused_when text (is_word_byte vocabulary b) _ _ (λ _. goes_on_so text _) (λ other. word_causes word purposes text at.0 b rest (named_of vocabulary word) refl other at.1 at.2 at.3 at.4)
  caused (AfterField field) purposes text b rest at = sign_causes field purposes text b
  caused (Sign field test) purposes text b rest at = one_test text (b == 61) _
  caused (Contains field read) purposes text b rest at =
      caused_alone text purposes (nat_lt read 7 && (b == slice_index (codes "contains") read)) _ _ (goes_on_so text _) (caused_alone text purposes ((read == 7) && (b == 115)) _ _ (goes_on_so text _) (syntax_so text))
  caused (NeedsSpace goal) purposes text b rest at = one_test text (b == 32) _
  caused (BeforeText goal) purposes text b rest at = caused_when text (b == 32) _ _ (λ _. goes_on_so text _) (λ _. one_test text ((b == 34) || (b == 39)) _)
  caused (InText goal quote string) purposes text b rest at = caused_when text (b == quote) _ _ (λ _. goes_on_so text _) (λ _. caused_when text (b == 92) _ _ (λ _. goes_on_so text _) (λ _. goes_on_so text _))
  caused (Escaped goal quote string) purposes text b rest at = goes_on_so text _
  caused (Done e) purposes text b rest at = caused_when text (b == 32) _ _ (λ _. goes_on_so text _) (λ _. closes_or_not text (b == 41) e purposes)
  caused (Joined e) purposes text b rest at = caused_when text (b == 32) _ _ (λ _. goes_on_so text _) (λ _. closes_or_not text (b == 41) e purposes)
  caused (AfterJoined e) purposes text b rest at = caused_when text (b == 32) _ _ (λ _. goes_on_so text _) (λ _. caused_when text (b == 65) _ _ (λ _. goes_on_so text _) (λ _. closes_or_not text (b == 41) e purposes))
  caused (And e read) purposes text b rest at =
      caused_alone text purposes ((read == 1) && (b == 78)) _ _ (goes_on_so text _) (caused_alone text purposes ((read == 2) && (b == 68)) _ _ (goes_on_so text _) (caused_alone text purposes ((read == 3) && (b == 32)) _ _ (goes_on_so text _) (syntax_so text)))
  caused (AfterAnd e) purposes text b rest at =
      caused_when text (b == 32) _ _ (λ _. goes_on_so text _) (λ _. caused_when text (b == 40) _ _ (λ h.
      let open_at = are_open purposes text at.3.outer at.3.opens in
      opened_causes (Next e) purposes text at.3.outer (b ∷ rest) rest b (equal b 40 h) at.3.opens (inr (inr (follows_and (length purposes) e at.3.outer at.0 at.1 at.2 (b ∷ rest) open_at.2 at.3.joins at.4 at.5 at.6))) refl) (λ _. syntax_so text))
  caused (Finished e) purposes text b rest at = syntax_so text

  -- why a text of the strict rules is no filter, where it is not for syntax
  abbrev pub HasCause : List ℕ → FilterFault → Type 0
  HasCause text (SyntaxFault k) = Unit {0}
  HasCause text (UnknownFault word) = NamesNothing vocabulary text word
  HasCause text DeepFault = GoesTooDeep vocabulary text
  HasCause text MemoryFault = ⊥

  fault_cause : (n : ℕ) (text : List ℕ) (s : Stop) → CausesNext text (Err s) → HasCause text (fault_at n s)
  unfolding CausesNext
  fault_cause n text Syntax h = tt
  fault_cause n text (UnknownTag word) h = h
  fault_cause n text TooDeep h = h
  fault_cause n text NoMemory h = h

  word_end_cause : (n : ℕ) (name : Option Named) (word : List ℕ) (purposes : List Purpose) (text outer : List ℕ) (fault : FilterFault) → named_of vocabulary word ≡ name → Opens true purposes text outer → outer ≡ word ++ [] → AreWordBytes vocabulary word → 0 < length word
      → word_at_end n name word ≡ Err fault → HasCause text fault
  word_end_cause n None word purposes text outer fault named o is letters some e =
      let same : UnknownFault word ≡ fault = cc in subst (HasCause text) same (names_nothing word purposes text outer [] named o is letters some tt)
  word_end_cause n (Some name) word purposes text outer fault named o is letters some e = let same : SyntaxFault n ≡ fault = cc in subst (HasCause text) same tt

  end_cause : (n : ℕ) (state : State) (purposes : List Purpose) (text : List ℕ) (fault : FilterFault) → At true state purposes text [] → ending vocabulary n state ≡ Err fault → HasCause text fault
  unfolding At
  end_cause n (Finished e) purposes text fault at h = cc
  end_cause n (Word word) purposes text fault at h = word_end_cause n (named_of vocabulary word) word purposes text at.0 fault refl at.1 at.2 at.3 at.4 h
  end_cause n _ purposes text fault at h = let same : SyntaxFault n ≡ fault = cc in subst (HasCause text) same tt

  step_cause : (n : ℕ) (state : State) (purposes : List Purpose) (text : List ℕ) (b : ℕ) (rest : List ℕ) (fault : FilterFault) (r : Result (State × List Purpose) Stop) → step vocabulary true state purposes b ≡ r → Causes text (step vocabulary true state purposes b) → Kept true text rest (step vocabulary true state purposes b)
      → run vocabulary true n state purposes (b ∷ rest) ≡ Err fault → ((next : State) (more : List Purpose) → At true next more text rest → run vocabulary true (n + 1) next more rest ≡ Err fault → HasCause text fault) → HasCause text fault
  unfolding KeptNext
  step_cause n state purposes text b rest fault (Ok next) s c k h go = go next.0 next.1 (subst (KeptNext true text rest) s k.is) (sym (goes vocabulary true n state purposes b rest (Ok next) s) ∙ h)
  step_cause n state purposes text b rest fault (Err why) s c k h go =
      let same : fault_at n why ≡ fault = (let failed : Err (fault_at n why) ≡ Err fault = sym (goes vocabulary true n state purposes b rest (Err why) s) ∙ h in cc) in
      subst (HasCause text) same (fault_cause n text why (subst (CausesNext text) s c.is))

  run_cause : (rest : List ℕ) (n : ℕ) (state : State) (purposes : List Purpose) (text : List ℕ) (fault : FilterFault) → At true state purposes text rest → run vocabulary true n state purposes rest ≡ Err fault → HasCause text fault
  unfolding run
  run_cause [] n state purposes text fault at h = end_cause n state purposes text fault at h
  run_cause (b ∷ rest) n state purposes text fault at h =
      step_cause n state purposes text b rest fault (step vocabulary true state purposes b) refl (caused state purposes text b rest at) (kept true state purposes text b rest at) h (λ next more at_next failed. run_cause rest (n + 1) next more text fault at_next failed)

  pub refused_for : (text : List ℕ) (fault : FilterFault) → run vocabulary true 0 Start [] text ≡ Err fault → HasCause text fault
  unfolding At
  refused_for text fault h = run_cause text 0 Start [] text fault (refl, refl) h
