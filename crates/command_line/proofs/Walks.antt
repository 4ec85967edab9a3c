-- What a walk over words keeps that nothing refuses.
use Rattle.std.proofs.Common.{◌≡◌, ◌⊎◌, ◌&&◌, ℕ, Bool, cond, true, false, zero, suc, refl, subst, inl, inr, List, [], ◌∷◌, length, drop, fold, Option, Some, None, is_some}
use Rattle.std.specs.Prelude.{⊤, find, codes, encode_utf8, slice_get}
use Rattle.std.specs.Option.{option_map_or}
use Rattle.std.specs.Str.{bytes_eq, chars}
use Rattle.clap.specs.Lexer.{long_of, short_of}
use Rattle.clap.specs.Kinds.{Kinds, or_else}
use Rattle.clap.specs.Faults.{bundle_step_fault, flag_word_fault, flags_fault, long_fault, option_fault, other_fault, positional_fault, react_fault, settle_fault, short_fault, step_fault, stray_fault, use_fault, walk_fault, word_fault}
use Rattle.clap.specs.Simple.{Shape}
use Rattle.clap.specs.Walk.{Held, Names, Outcome, Rule, Row, Step, Text, Waiting, Walk, after_flag, after_step, arg_by_id, arg_by_index, arg_by_long, arg_by_short, attached_value, bundle_met, bundle_step, done, flag_met, idle, long_met, long_or_other, next, option, option_met, option_word, plain, plain_word, positional, reacted, refused, settled, settled_rows, short_met, short_or_plain, subcommand, subcommand_met, subcommand_or_other, takes_several, takes_values, to_positional, trailing, is_pending, used, used_by_id, value, waits, walked, walked_from, word_met}
use Rattle.clap.specs.declared.error.kind.ErrorKind.{ErrorKind}
use Rattle.clap.specs.declared.error.kind.ErrorKind.TheVariants.{TooManyValues}

pub not_none : (k : ErrorKind) (ks : Kinds) → k ∷ ks ≡ [] → ⊥
not_none k ks e = cc

-- both steps pass where neither has a kind
pub both_pass : (a b : Kinds) → or_else a b ≡ [] → (a ≡ []) × (b ≡ [])
both_pass [] b e = (refl, e)
both_pass (k ∷ ks) b e = absurd (not_none k ks e)

abbrev pub IsIn : Rule → List Rule → Type 0
IsIn a [] = ⊥
IsIn a (x ∷ xs) = (x ≡ a) ⊎ IsIn a xs

some_same : {X : Type 0} (x y : X) → Some x ≡ Some y → x ≡ y
some_same x y e = cc

found : (p : Rule → Bool) (c : List Rule) (a : Rule) → find p c ≡ Some a → IsIn a c
found p [] a e = cc
found p (x ∷ xs) a e = go (p x) e (found p xs a)
  where
    go : (b : Bool) → cond b (Some x) (find p xs) ≡ Some a → (find p xs ≡ Some a → IsIn a xs) → (x ≡ a) ⊎ IsIn a xs
    go true e rest = inl (some_same x a e)
    go false e rest = inr (rest e)

-- ---- the rows

module _ (s : Shape) (P : List Row → Type 0)
    (keeps : (a : Rule) → IsIn a s.rules → (values : List Text) (rows : List Row) → P rows → use_fault s.args_override_self a values rows ≡ [] → P (used a values rows)) where
  abbrev c : List Rule
  c = s.rules

  abbrev again : Bool
  again = s.args_override_self

  use_keeps : (o : Option Rule) → ((a : Rule) → o ≡ Some a → IsIn a c) → (values : List Text) (rows : List Row) → P rows
      → option_map_or (λ a. use_fault again a values rows) o [] ≡ [] → P (used_by_id o values rows)
  use_keeps None is_in values rows holds e = holds
  use_keeps (Some a) is_in values rows holds e = keeps a (is_in a refl) values rows holds e

  settle_keeps : (p : Option (Text × List Text)) (rows : List Row) → P rows
      → option_map_or (λ p. option_map_or (λ a. use_fault again a p.1 rows) (arg_by_id c p.0) []) p [] ≡ [] → P (settled_rows c p rows)
  settle_keeps None rows holds e = holds
  settle_keeps (Some p) rows holds e = use_keeps (arg_by_id c p.0) (found (λ a. bytes_eq a.id p.0) c) p.1 rows holds e

  pub settled_keeps : (h : Held) → P h.rows → settle_fault c again h ≡ [] → P (settled c h).rows
  settled_keeps h holds e = settle_keeps h.pending h.rows holds e

  reacted_keeps : (a : Rule) → IsIn a c → (values : List Text) (h : Held) → P h.rows → react_fault c again a values h ≡ [] → P (reacted c a values h).rows
  reacted_keeps a is_in values h holds e =
      let each = both_pass _ _ e in
      keeps a is_in values (settled c h).rows (settled_keeps h holds each.0) each.1

  option_keeps : (a : Rule) → IsIn a c → (v : Option Text) (h : Held) → P h.rows → option_fault c again a v h ≡ [] → P (option_met c a v h).0.rows
  option_keeps a is_in (Some v) h holds e = reacted_keeps a is_in (v ∷ []) h holds e
  option_keeps a is_in None h holds e = settled_keeps h holds e

  flag_keeps : (a : Rule) → IsIn a c → (v : Option Text) (h : Held) → P h.rows → cond (is_some v) (TooManyValues ∷ []) (react_fault c again a [] h) ≡ []
      → P (flag_met c a v h).0.rows
  flag_keeps a is_in (Some v) h holds e = holds
  flag_keeps a is_in None h holds e = reacted_keeps a is_in [] h holds e

  long_keeps : (o : Option Rule) → ((a : Rule) → o ≡ Some a → IsIn a c) → (v : Option Text) (h : Held) → P h.rows → long_fault c again o v h ≡ [] → P (long_met c o v h).0.rows
  long_keeps None is_in v h holds e = holds
  long_keeps (Some a) is_in v h holds e = go (takes_values a) e
    where
      go : (b : Bool) → cond b (option_fault c again a v h) (cond (is_some v) (TooManyValues ∷ []) (react_fault c again a [] h)) ≡ []
          → P (cond b (option_met c a v h) (flag_met c a v h)).0.rows
      go true e = option_keeps a (is_in a refl) v h holds e
      go false e = flag_keeps a (is_in a refl) v h holds e

  short_keeps : (o : Option Rule) → ((a : Rule) → o ≡ Some a → IsIn a c) → (rest : Text) (h : Held) (on : Held → Held × Outcome) (fault : Held → Kinds)
      → ((k : Held) → P k.rows → fault k ≡ [] → P (on k).0.rows) → P h.rows → short_fault c again o rest h fault ≡ [] → P (short_met c o rest h on).0.rows
  short_keeps None is_in rest h on fault goes_on holds e = holds
  short_keeps (Some a) is_in rest h on fault goes_on holds e = go (takes_values a) e
    where
      go : (b : Bool) → cond b (option_fault c again a (attached_value rest) h) (or_else (react_fault c again a [] h) (fault (reacted c a [] h))) ≡ []
          → P (cond b (option_met c a (attached_value rest) h) (on (reacted c a [] h))).0.rows
      go true e = option_keeps a (is_in a refl) (attached_value rest) h holds e
      go false e =
          let each = both_pass _ _ e in
          goes_on (reacted c a [] h) (reacted_keeps a (is_in a refl) [] h holds each.0) each.1

  character_keeps : (o : Option ℕ) (flags : Text) (skip : ℕ) (so_far : Outcome) (h : Held) (on : Text → ℕ → Outcome → Held → Held × Outcome) (fault : Text → ℕ → Held → Kinds)
      → ((rest : Text) (k : ℕ) (come : Outcome) (g : Held) → P g.rows → fault rest k g ≡ [] → P (on rest k come g).0.rows) → P h.rows
      → bundle_step_fault c again o flags skip h fault ≡ [] → P (bundle_step c o flags skip so_far h on).0.rows
  character_keeps None flags skip so_far h on fault goes_on holds e = holds
  character_keeps (Some x) flags zero so_far h on fault goes_on holds e =
      let rest = drop (length (encode_utf8 x)) flags in
      short_keeps (arg_by_short c x) (found _ c) rest h (on rest 0 done) (fault rest 0) (λ k holds e. goes_on rest 0 done k holds e) holds e
  character_keeps (Some x) flags (suc skip) so_far h on fault goes_on holds e = goes_on (drop (length (encode_utf8 x)) flags) skip so_far h holds e

  bundle_keeps : (k : ℕ) (flags : Text) (skip : ℕ) (so_far : Outcome) (h : Held) → P h.rows → flags_fault c again k flags skip h ≡ [] → P (bundle_met c k flags skip so_far h).0.rows
  unfolding bundle_met flags_fault
  bundle_keeps zero flags skip so_far h holds e = holds
  bundle_keeps (suc k) flags skip so_far h holds e =
      character_keeps (slice_get (chars flags) 0) flags skip so_far h (bundle_met c k) (flags_fault c again k) (λ rest n come g holds e. bundle_keeps k rest n come g holds e) holds e

  -- ---- one word

  value_keeps : (o : Option Rule) (id word : Text) (h : Held) → P h.rows → P (option_word o id word h).0.rows
  value_keeps None id word h holds = holds
  value_keeps (Some a) id word h holds = holds

  plain_keeps : (waiting : Waiting) (word : Text) (h : Held) → P h.rows → P (plain_word c waiting word h).0.rows
  plain_keeps (option id) word h holds = value_keeps (arg_by_id c id) id word h holds
  plain_keeps idle word h holds = holds
  plain_keeps positional word h holds = holds

  after_keeps : (waiting : Waiting) (word : Text) (h : Held) (come : Outcome) → P h.rows → P (after_flag c waiting word h come).0.rows
  after_keeps waiting word h done holds = holds
  after_keeps waiting word h (waits id) holds = holds
  after_keeps waiting word h plain holds = plain_keeps waiting word h holds
  after_keeps waiting word h refused holds = plain_keeps waiting word h holds

  short_word_keeps : (o : Option Text) (waiting : Waiting) (word : Text) (h : Held) → P h.rows
      → option_map_or (λ flags. flags_fault c again (length flags) flags h.skip (record h { skip = 0 })) o [] ≡ [] → P (short_or_plain c waiting word o h).0.rows
  short_word_keeps None waiting word h holds e = plain_keeps waiting word h holds
  short_word_keeps (Some flags) waiting word h holds e =
      let met = bundle_met c (length flags) flags h.skip plain (record h { skip = 0 }) in
      after_keeps waiting word met.0 met.1 (bundle_keeps (length flags) flags h.skip plain (record h { skip = 0 }) holds e)

  flag_word_keeps : (o : Option (Text × Option Text)) (waiting : Waiting) (word : Text) (h : Held) → P h.rows → flag_word_fault c again o word h ≡ []
      → P (long_or_other c waiting word o h).0.rows
  flag_word_keeps None waiting word h holds e = short_word_keeps (short_of word) waiting word h holds e
  flag_word_keeps (Some p) waiting word h holds e =
      let met = long_met c (arg_by_long c p.0) p.1 h in
      after_keeps waiting word met.0 met.1 (long_keeps (arg_by_long c p.0) (found _ c) p.1 h holds e)

  other_keeps : (o : Option Text) (waiting : Waiting) (position : ℕ) (word : Text) (h : Held) → P h.rows → other_fault s o word h ≡ []
      → P (subcommand_or_other c o waiting position word h).0.rows
  other_keeps (Some name) waiting position word h holds e = holds
  other_keeps None waiting position word h holds e = go (bytes_eq word (45 ∷ 45 ∷ [])) e
    where
      go : (b : Bool) → cond b [] (flag_word_fault c again (long_of word) word h) ≡ [] → P (cond b (h, trailing position) (long_or_other c waiting word (long_of word) h)).0.rows
      go true e = holds
      go false e = flag_word_keeps (long_of word) waiting word h holds e

  word_keeps : (names : Names) (is_trailing : Bool) (waiting : Waiting) (position : ℕ) (word : Text) (h : Held) → P h.rows → word_fault s names is_trailing waiting word h ≡ []
      → P (word_met c names is_trailing waiting position word h).0.rows
  word_keeps names true waiting position word h holds e = holds
  word_keeps names false waiting position word h holds e = other_keeps (subcommand_met names waiting word) waiting position word h holds e

  positional_keeps : (o : Option Rule) (word : Text) (w : Walk) (h : Held) → P h.rows
      → option_map_or (λ a. positional_fault c again a h) o (stray_fault s) ≡ []
      → P (to_positional c o word w h).held.rows
  positional_keeps None word w h holds e = holds
  positional_keeps (Some a) word w h holds e = go (is_pending a h.pending && takes_several a) e
    where
      go : (b : Bool) → cond b [] (settle_fault c again h) ≡ [] → P (cond b h (settled c h)).rows
      go true e = holds
      go false e = settled_keeps h holds e

  step_keeps : (word : Text) (w : Walk) (h : Held) (step : Step) → P h.rows → step_fault s w.position h step ≡ [] → P (after_step c word w h step).held.rows
  step_keeps word w h (next waiting) holds e = holds
  step_keeps word w h (trailing position) holds e = holds
  step_keeps word w h (subcommand name) holds e = holds
  step_keeps word w h value holds e = positional_keeps (arg_by_index c w.position) word w h holds e

  turn_keeps : (names : Names) (stop : Option (Text × List Text)) (w : Walk) (word : Text) → P w.held.rows
      → (let met = word_met c names w.is_trailing w.waiting w.position word w.held in
      cond (is_some stop) [] (or_else (word_fault s names w.is_trailing w.waiting word w.held) (step_fault s w.position met.0 met.1)) ≡ [])
      → P (walked_from c names stop w word).held.rows
  turn_keeps names (Some p) w word holds e = holds
  turn_keeps names None w word holds e =
      let each = both_pass _ _ e in
      let met = word_met c names w.is_trailing w.waiting w.position word w.held in
      step_keeps word w met.0 met.1 (word_keeps names w.is_trailing w.waiting w.position word w.held holds each.0) each.1

  pub walk_keeps : (names : Names) (w : Walk) (words : List Text) → P w.held.rows → walk_fault s names w words ≡ [] → P (fold (walked c names) w words).held.rows
  unfolding walk_fault walked
  walk_keeps names w [] holds e = holds
  walk_keeps names w (word ∷ rest) holds e =
      let each = both_pass _ _ e in
      walk_keeps names (walked c names w word) rest (turn_keeps names w.stopped w word holds each.0) each.1

-- ---- the command at which a walk stops is not `help`

abbrev pub IsNotHelp : Option (Text × List Text) → Type 0
IsNotHelp None = ⊤
IsNotHelp (Some p) = bytes_eq p.0 (codes "help") ≡ false

abbrev NotToHelp : Step → Type 0
NotToHelp (subcommand name) = bytes_eq name (codes "help") ≡ false
NotToHelp _ = ⊤

module _ (s : Shape) (enabled : s.disable_help_subcommand ≡ false) where
  plain_step : (waiting : Waiting) (word : Text) (h : Held) → NotToHelp (plain_word s.rules waiting word h).1
  plain_step (option id) word h = tt
  plain_step idle word h = tt
  plain_step positional word h = tt

  flag_step : (waiting : Waiting) (word : Text) (h : Held) (come : Outcome) → NotToHelp (after_flag s.rules waiting word h come).1
  flag_step waiting word h done = tt
  flag_step waiting word h (waits id) = tt
  flag_step waiting word h plain = plain_step waiting word h
  flag_step waiting word h refused = plain_step waiting word h

  short_step : (o : Option Text) (waiting : Waiting) (word : Text) (h : Held) → NotToHelp (short_or_plain s.rules waiting word o h).1
  short_step None waiting word h = plain_step waiting word h
  short_step (Some flags) waiting word h = flag_step waiting word _ _

  long_step : (o : Option (Text × Option Text)) (waiting : Waiting) (word : Text) (h : Held) → NotToHelp (long_or_other s.rules waiting word o h).1
  long_step None waiting word h = short_step (short_of word) waiting word h
  long_step (Some p) waiting word h = flag_step waiting word _ _

  other_step : (o : Option Text) (waiting : Waiting) (position : ℕ) (word : Text) (h : Held) → other_fault s o word h ≡ []
      → NotToHelp (subcommand_or_other s.rules o waiting position word h).1
  other_step (Some name) waiting position word h e = go (bytes_eq name (codes "help")) refl
    where
      go : (b : Bool) → bytes_eq name (codes "help") ≡ b → bytes_eq name (codes "help") ≡ false
      go false is = is
      go true is = absurd (not_none _ _ (rw (is, enabled) at e))
  other_step None waiting position word h e = go (bytes_eq word (45 ∷ 45 ∷ []))
    where
      go : (b : Bool) → NotToHelp (cond b (h, trailing position) (long_or_other s.rules waiting word (long_of word) h)).1
      go true = tt
      go false = long_step (long_of word) waiting word h

  word_step : (names : Names) (is_trailing : Bool) (waiting : Waiting) (position : ℕ) (word : Text) (h : Held) → word_fault s names is_trailing waiting word h ≡ []
      → NotToHelp (word_met s.rules names is_trailing waiting position word h).1
  word_step names true waiting position word h e = tt
  word_step names false waiting position word h e = other_step (subcommand_met names waiting word) waiting position word h e

  positional_stop : (o : Option Rule) (word : Text) (w : Walk) (h : Held) → IsNotHelp w.stopped → IsNotHelp (to_positional s.rules o word w h).stopped
  positional_stop None word w h not_help = not_help
  positional_stop (Some a) word w h not_help = tt

  step_stop : (word : Text) (w : Walk) (h : Held) (step : Step) → IsNotHelp w.stopped → NotToHelp step → IsNotHelp (after_step s.rules word w h step).stopped
  step_stop word w h (next waiting) not_help e = not_help
  step_stop word w h (trailing position) not_help e = not_help
  step_stop word w h (subcommand name) not_help e = e
  step_stop word w h value not_help e = positional_stop (arg_by_index s.rules w.position) word w h not_help

  turn_stop : (names : Names) (stop : Option (Text × List Text)) (w : Walk) (word : Text) → stop ≡ w.stopped → IsNotHelp stop
      → (let met = word_met s.rules names w.is_trailing w.waiting w.position word w.held in
      cond (is_some stop) [] (or_else (word_fault s names w.is_trailing w.waiting word w.held) (step_fault s w.position met.0 met.1)) ≡ [])
      → IsNotHelp (walked_from s.rules names stop w word).stopped
  turn_stop names (Some p) w word is not_help e = not_help
  turn_stop names None w word is not_help e =
      let each = both_pass _ _ e in
      step_stop word w _ _ (subst IsNotHelp is not_help) (word_step names w.is_trailing w.waiting w.position word w.held each.0)

  pub walk_stops : (names : Names) (w : Walk) (words : List Text) → IsNotHelp w.stopped → walk_fault s names w words ≡ [] → IsNotHelp (fold (walked s.rules names) w words).stopped
  unfolding walk_fault walked
  walk_stops names w [] not_help e = not_help
  walk_stops names w (word ∷ rest) not_help e =
      let each = both_pass _ _ e in
      walk_stops names (walked s.rules names w word) rest (turn_stop names w.stopped w word refl not_help each.0) each.1
