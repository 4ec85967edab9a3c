-- The flags after an event are what is pending with one more transition.
use Rattle.std.proofs.Common.{◌≡◌, ℕ, zero, suc, ◌<◌, ◌==◌, Bool, true, false, not, ◌&&◌, ◌||◌, List, [], ◌∷◌, Option, Some, None, is_some, map, refl, ap, sym, ◌∙◌, arith, if◌then◌else◌}
use Rattle.std.specs.Prelude.{filter, insert, nat_lt}
use Rattle.std.specs.List.{flat_map, list_any, position_or_len}
use Rattle.std.proofs.lemmas.Bool.Decides.{nat_tests}
use Rattle.std.proofs.lemmas.List.Folds.{list_any-append}
use Rattle.idle_notes.specs.declared.pending.Pending.{Pending}
use Rattle.idle_notes.specs.declared.sets.Subsystems.{Subsystems}
use Rattle.idle_notes.specs.Sets.{all, none, union, is_nonempty}
use Rattle.idle_notes.specs.Notes.{everything, fresh, noted, waits, cancelled, due}
use Rattle.transitions.specs.declared.reply.Move.{Move}
use Rattle.transitions.specs.declared.reply.Move.TheVariants.{Stay, Wait, Learn, Resume, Join, Show, Enter}
use Rattle.connected_clients.specs.declared.notices.Notice.{Notice}
use Rattle.player_state.specs.declared.state.Client.{Client}
use Rattle.mpd_text.specs.declared.songs.song.TagName.{TagName}
use Rattle.connected_clients.specs.Clients.{entered, notified, is_other, at, joined, moved, newcomer, notice_to, notice_for, shown, AllAbove, Rising}
use Rattle.connected_clients.specs.Clients.{client_of}
use Rattle.partition.specs.World.{is_learning}
use Rattle.connected_clients.proofs.Rises.{at_keeps, entered_keeps, rising_filter, shown_keeps}

-- each client has this
abbrev pub Each : (Client → Type 0) → List Client → Type 0
Each P [] = Unit {0}
Each P (k ∷ ks) = P k × Each P ks

pub each_filter : (P : Client → Type 0) (p : Client → Bool) (ks : List Client) → Each P ks → Each P (filter p ks)
each_filter P p [] e = tt
each_filter P p (k ∷ ks) e =
    elim (p k) as (λ b. Each P (if b then k ∷ filter p ks else filter p ks)) [ true ↦ (e.0, each_filter P p ks e.1) | false ↦ each_filter P p ks e.1 ]

module _ (raised : Client → Subsystems) where
  -- whether a client is told
  abbrev pub told : Client → Bool
  told k = is_nonempty (due (noted (raised k) k.pending))

  -- whether a client of this number is named among the notices to some
  abbrev pub named : ℕ → List Client → Bool
  named n ks = list_any (λ x. x.client == n) (flat_map (notice_for raised) ks)

  named_one : (n : ℕ) (k : Client) → list_any (λ x. x.client == n) (notice_for raised k) ≡ (told k && (k.number == n))
  named_one n k =
      elim (told k) as (λ b. list_any (λ x. x.client == n) (notice_to k.number (if b then Some (due (noted (raised k) k.pending)) else None)) ≡ (b && (k.number == n)))
      [ true ↦ elim (k.number == n) as (λ c. (c || false) ≡ c) [ true ↦ refl | false ↦ refl ] | false ↦ refl ]

  named_more : (n : ℕ) (k : Client) (ks : List Client) → named n (k ∷ ks) ≡ ((told k && (k.number == n)) || named n ks)
  named_more n k ks =
      list_any-append (λ (x : Notice). x.client == n) (notice_for raised k) (flat_map (notice_for raised) ks) ∙ ap (λ b. b || named n ks) (named_one n k)

  both_false : (b : Bool) → (b && false) ≡ false
  both_false true = refl
  both_false false = refl

  both_true : (b : Bool) → ((b && true) || false) ≡ b
  both_true true = refl
  both_true false = refl

  unnamed : (n : ℕ) (ks : List Client) → AllAbove n ks → named n ks ≡ false
  unnamed n [] above = refl
  unnamed n (k ∷ ks) above =
      let less : n < k.number = above.0 in
      let other : (k.number == n) ≡ false = grind (arith, nat_tests) in
      named_more n k ks ∙ ap (λ b. (told k && b) || named n ks) other ∙ ap (λ b. b || named n ks) (both_false (told k)) ∙ unnamed n ks above.1

  -- one more client in front names none of those after it
  shifted : (k : Client) (all ks : List Client) → AllAbove k.number ks → Each (λ x. named x.number all ≡ told x) ks
      → Each (λ x. named x.number (k ∷ all) ≡ told x) ks
  shifted k all [] above e = tt
  shifted k all (x ∷ xs) above e =
      let less : k.number < x.number = above.0 in
      let other : (k.number == x.number) ≡ false = grind (arith, nat_tests) in (
        named_more x.number k all ∙ ap (λ b. (told k && b) || named x.number all) other ∙ ap (λ b. b || named x.number all) (both_false (told k)) ∙ e.0,
        shifted k all xs above.1 e.1,
      )

  -- by rising numbers a client is named among the notices exactly where it is told
  pub named_are_told : (ks : List Client) → Rising ks → Each (λ x. named x.number ks ≡ told x) ks
  named_are_told [] r = tt
  named_are_told (k ∷ ks) r =
      let same : (k.number == k.number) ≡ true = grind (arith, nat_tests) in (
        named_more k.number k ks ∙ ap (λ b. (told k && b) || named k.number ks) same ∙ ap (λ b. (told k && true) || b) (unnamed k.number ks r.0) ∙ both_true (told k),
        shifted k ks ks r.0 (named_are_told ks r.1),
      )

-- a client with these flags
abbrev pub flagged : (ℕ → Subsystems) → Client → Client
flagged flag k = record k { pending = record k.pending { changed = flag k.number } }

pub unchanged : (flag : ℕ → Subsystems) (k : Client) → flag k.number ≡ k.pending.changed → flagged flag k ≡ k
unchanged flag k e = ap (λ (s : Subsystems). record k { pending = record k.pending { changed = s } }) e

-- who goes to another partition does not wait, and everything is raised for it
abbrev pub MayGo : (Client → Subsystems) → ℕ → Client → Type 0
MayGo raised sender k = (k.number == sender) ≡ true → (k.pending.waiting ≡ None) × (raised k ≡ all)

or_true : (b : Bool) → (b || true) ≡ true
or_true true = refl
or_true false = refl

union_all : (s : Subsystems) → union s all ≡ all
union_all s = λ i. record {
  database = or_true s.database i;
  update = or_true s.update i;
  stored_playlist = or_true s.stored_playlist i;
  playlist = or_true s.playlist i;
  player = or_true s.player i;
  mixer = or_true s.mixer i;
  output = or_true s.output i;
  options = or_true s.options i;
  sticker = or_true s.sticker i;
  subscription = or_true s.subscription i;
  message = or_true s.message i;
  partition = or_true s.partition i;
}

module _ (raised : Client → Subsystems) (by_number flag after : ℕ → Subsystems) (there : ℕ → Bool) (sender : ℕ) where
  -- what a client's flags are after an event that raises this, by which it begins anew or not
  abbrev grown_by : Subsystems → ℕ → Bool → Subsystems
  grown_by r n anew = if anew then none else union (flag n) r

  -- the same, where it raises what it raises for the client of this number
  abbrev pub grown : ℕ → Bool → Subsystems
  grown n anew = grown_by (by_number n) n anew

  -- the client was there, its flags were right, and what is raised for it is so by its number
  abbrev pub Right : Client → Type 0
  Right k = (there k.number ≡ true) × (k.pending.changed ≡ flag k.number) × (raised k ≡ by_number k.number)

  abbrev pub anew : List Client → Bool → ℕ → Bool
  anew ks heard n = not (there n) || (named raised n ks || ((n == sender) && heard))

  quiet : (d s : Bool) (r f : Subsystems) (p : Pending) → p.changed ≡ f
      → (if d || (s && false) then none else union f r) ≡ (if d then fresh else noted r p).changed
  quiet true s r f p e = refl
  quiet false true r f p e = ap (λ x. union x r) (sym e)
  quiet false false r f p e = ap (λ x. union x r) (sym e)

  told_now : (d s : Bool) (r f : Subsystems) (p : Pending) → p.changed ≡ f
      → (if d || (s && true) then none else union f r) ≡ (if s then fresh else (if d then fresh else noted r p)).changed
  told_now true true r f p e = refl
  told_now true false r f p e = refl
  told_now false true r f p e = refl
  told_now false false r f p e = ap (λ x. union x r) (sym e)

  module _ (heard : Bool) (ks : List Client) (is : (n : ℕ) → after n ≡ grown n (anew ks heard n)) where
    -- the flags of a client that is there, by whether it is told
    after_there : (k : Client) → Right k → named raised k.number ks ≡ told raised k
        → after k.number ≡ grown k.number (told raised k || ((k.number == sender) && heard))
    after_there k right names =
        is k.number ∙ ap (λ b. grown k.number (not b || (named raised k.number ks || ((k.number == sender) && heard)))) right.0
        ∙ ap (λ b. grown k.number (b || ((k.number == sender) && heard))) names

  -- each client of some is left as it is by its flags, once it has heard and made a move
  module _ (change : Client → Client) (heard : Bool) (ks : List Client) (is : (n : ℕ) → after n ≡ grown n (anew ks heard n))
      (keeps : (k : Client) → (change (notified raised k)).number ≡ k.number)
      (flags : (k : Client) → k.pending.changed ≡ flag k.number
      → grown_by (raised k) k.number (told raised k || ((k.number == sender) && heard)) ≡ (change (notified raised k)).pending.changed) where
    pub each_unchanged : (xs : List Client) → Each Right xs → Each (λ x. named raised x.number ks ≡ told raised x) xs
        → Each (λ k. flagged after k ≡ k) (map change (map (notified raised) xs))
    each_unchanged [] right names = tt
    each_unchanged (x ∷ xs) right names = (
      unchanged after (change (notified raised x))
          (ap after (keeps x) ∙ after_there heard ks is x right.0 names.0
          ∙ ap (λ (r : Subsystems). grown_by r x.number (told raised x || ((x.number == sender) && heard))) (sym right.0.2) ∙ flags x right.0.1),
      each_unchanged xs right.1 names.1,
    )

  same_number : (change : Pending → Pending) (k : Client) → (at sender change (notified raised k)).number ≡ k.number
  same_number change k = at_keeps sender change (notified raised k)

  same_flags : (change : Pending → Pending) → ((p : Pending) → (change p).changed ≡ p.changed) → (k : Client) → (at sender change k).pending.changed ≡ k.pending.changed
  same_flags change same k =
      elim (k.number == sender) as (λ b. (if b then record k { pending = change k.pending } else k).pending.changed ≡ k.pending.changed)
      [ true ↦ same k.pending | false ↦ refl ]

  cleared : (k : Client) → (if k.number == sender then fresh else k.pending).changed ≡ (at sender (λ p. fresh) k).pending.changed
  cleared k =
      elim (k.number == sender) as (λ b. (if b then fresh else k.pending).changed ≡ (if b then record k { pending = fresh } else k).pending.changed)
      [ true ↦ refl | false ↦ refl ]

  shown_flags : (tags : List TagName) (k : Client) → (shown sender tags k).pending.changed ≡ k.pending.changed
  shown_flags tags k =
      elim (k.number == sender) as (λ b. (if b then record k { tags = tags } else k).pending.changed ≡ k.pending.changed) [ true ↦ refl | false ↦ refl ]

  entered_flags : (index : ℕ) (k : Client) → k.pending.changed ≡ flag k.number → MayGo raised sender k
      → grown_by (raised k) k.number (told raised k || ((k.number == sender) && false)) ≡ (entered sender index (notified raised k)).pending.changed
  entered_flags index k e goes =
      let heard : Client = notified raised k in
      let cases : (b : Bool) → (k.number == sender) ≡ b
      → grown_by (raised k) k.number (told raised k || (b && false)) ≡ (if b then record heard { index = index; pending = everything } else heard).pending.changed =
      λ b. elim b as (λ b. (k.number == sender) ≡ b
      → grown_by (raised k) k.number (told raised k || (b && false)) ≡ (if b then record heard { index = index; pending = everything } else heard).pending.changed) [
        | true ↦ λ t.
            let free = goes t in
            let unheard : told raised k ≡ false = ap (λ (w : Option Subsystems). is_nonempty (due (noted (raised k) (record k.pending { waiting = w })))) free.0 in
            ap (λ b. grown_by (raised k) k.number (b || false)) unheard ∙ ap (λ (r : Subsystems). union (flag k.number) r) free.1 ∙ union_all (flag k.number)
        | false ↦ λ t. quiet (told raised k) false (raised k) (flag k.number) k.pending e
      ] in
      cases (k.number == sender) refl

  identical : (P : Client → Type 0) (xs : List Client) → Each P (map (λ k. k) xs) → Each P xs
  identical P [] e = tt
  identical P (x ∷ xs) e = (e.0, identical P xs e.1)

  module _ (ks : List Client) (rising : Rising ks) (right : Each Right ks) where
    abbrev names : Each (λ x. named raised x.number ks ≡ told raised x) ks
    names = named_are_told raised ks rising

    pub stays : ((n : ℕ) → after n ≡ grown n (anew ks false n)) → Each (λ k. flagged after k ≡ k) (map (notified raised) ks)
    stays is =
        identical (λ k. flagged after k ≡ k) (map (notified raised) ks)
        (each_unchanged (λ k. k) false ks is (λ k. refl) (λ k e. quiet (told raised k) (k.number == sender) (raised k) (flag k.number) k.pending e) ks right names)

    pub keeps_flags : (change : Pending → Pending) → ((p : Pending) → (change p).changed ≡ p.changed) → ((n : ℕ) → after n ≡ grown n (anew ks false n))
        → Each (λ k. flagged after k ≡ k) (map (at sender change) (map (notified raised) ks))
    keeps_flags change same is =
        each_unchanged (at sender change) false ks is (same_number change)
        (λ k e. quiet (told raised k) (k.number == sender) (raised k) (flag k.number) k.pending e ∙ sym (same_flags change same (notified raised k))) ks right names

    pub shows_tags : (tags : List TagName) → ((n : ℕ) → after n ≡ grown n (anew ks false n))
        → Each (λ k. flagged after k ≡ k) (map (shown sender tags) (map (notified raised) ks))
    shows_tags tags is =
        each_unchanged (shown sender tags) false ks is (λ k. shown_keeps sender tags (notified raised k))
        (λ k e. quiet (told raised k) (k.number == sender) (raised k) (flag k.number) k.pending e ∙ sym (shown_flags tags (notified raised k))) ks right names

    pub clears : ((n : ℕ) → after n ≡ grown n (anew ks true n)) → Each (λ k. flagged after k ≡ k) (map (at sender (λ p. fresh)) (map (notified raised) ks))
    clears is =
        each_unchanged (at sender (λ p. fresh)) true ks is (same_number (λ p. fresh))
        (λ k e. told_now (told raised k) (k.number == sender) (raised k) (flag k.number) k.pending e ∙ cleared (notified raised k)) ks right names

    -- each of some, of which one may go to another partition
    each_entered : (index : ℕ) → ((n : ℕ) → after n ≡ grown n (anew ks false n)) → (xs : List Client) → Each Right xs → Each (MayGo raised sender) xs
        → Each (λ x. named raised x.number ks ≡ told raised x) xs → Each (λ k. flagged after k ≡ k) (map (entered sender index) (map (notified raised) xs))
    each_entered index is [] rights goes name = tt
    each_entered index is (x ∷ xs) rights goes name = (
      unchanged after (entered sender index (notified raised x))
          (ap after (entered_keeps sender index (notified raised x)) ∙ after_there false ks is x rights.0 name.0
          ∙ ap (λ (r : Subsystems). grown_by r x.number (told raised x || ((x.number == sender) && false))) (sym rights.0.2) ∙ entered_flags index x rights.0.1 goes.0),
      each_entered index is xs rights.1 goes.1 name.1,
    )

    pub enters : (index : ℕ) → ((n : ℕ) → after n ≡ grown n (anew ks false n)) → Each (MayGo raised sender) ks
        → Each (λ k. flagged after k ≡ k) (map (entered sender index) (map (notified raised) ks))
    enters index is goes = each_entered index is ks right goes names

    each_insert : (P : Client → Type 0) (xs : List Client) (i : ℕ) (x : Client) → Each P xs → P x → Each P (insert xs i x)
    each_insert P [] zero x e p = (p, tt)
    each_insert P [] (suc i) x e p = (p, tt)
    each_insert P (y ∷ ys) zero x e p = (p, e)
    each_insert P (y ∷ ys) (suc i) x e p = (e.0, each_insert P ys i x e.1 p)

    pub joins : ((n : ℕ) → after n ≡ grown n (anew ks false n)) → (client_of sender (map (notified raised) ks) ≡ None → there sender ≡ false)
        → Each (λ k. flagged after k ≡ k) (joined sender (map (notified raised) ks))
    joins is absent =
        let heard : List Client = map (notified raised) ks in
        let new : Client = newcomer sender in
        let index : ℕ = position_or_len (λ k. nat_lt sender k.number) heard in
        let cases : (o : Option Client) → client_of sender heard ≡ o → Each (λ k. flagged after k ≡ k) (if is_some o then heard else insert heard index new) =
        λ o. elim o as (λ o. client_of sender heard ≡ o → Each (λ k. flagged after k ≡ k) (if is_some o then heard else insert heard index new)) [
          | None ↦ λ e.
              let none_yet : after sender ≡ none =
              is sender ∙ ap (λ b. grown sender (not b || (named raised sender ks || ((sender == sender) && false)))) (absent e) in
              each_insert (λ k. flagged after k ≡ k) heard index new (stays is) (unchanged after new none_yet)
          | Some k ↦ λ e. stays is
        ] in
        cases (client_of sender heard) refl

  -- whatever move the client makes
  pub each_stands : (ks : List Client) → Rising ks → Each Right ks → (move : Move) → ((index : ℕ) → move ≡ Enter index → Each (MayGo raised sender) ks)
      → ((n : ℕ) → after n ≡ grown n (anew ks (is_learning move) n))
      → (client_of sender (map (notified raised) ks) ≡ None → there sender ≡ false)
      → Each (λ k. flagged after k ≡ k) (moved sender move (map (notified raised) ks))
  each_stands ks rising right Stay goes is absent = stays ks rising right is
  each_stands ks rising right (Wait names) goes is absent = keeps_flags ks rising right (waits names) (λ p. refl) is
  each_stands ks rising right Learn goes is absent = clears ks rising right is
  each_stands ks rising right Resume goes is absent = keeps_flags ks rising right cancelled (λ p. refl) is
  each_stands ks rising right Join goes is absent = joins ks rising right is absent
  each_stands ks rising right (Show tags) goes is absent = shows_tags ks rising right tags is
  each_stands ks rising right (Enter index) goes is absent = enters ks rising right index is (goes index refl)

  -- of a client that is closed, or makes a move
  pub all_stand : (ks : List Client) → Rising ks → Each Right ks → (closed : Bool) (move : Move) → ((index : ℕ) → (if closed then Stay else move) ≡ Enter index → Each (MayGo raised sender) ks)
      → ((n : ℕ) → after n ≡ grown n (anew (if closed then filter (is_other sender) ks else ks) (is_learning (if closed then Stay else move)) n))
      → (client_of sender (map (notified raised) ks) ≡ None → there sender ≡ false)
      → Each (λ k. flagged after k ≡ k) (moved sender (if closed then Stay else move) (map (notified raised) (if closed then filter (is_other sender) ks else ks)))
  all_stand ks rising right true move goes is absent =
      stays (filter (is_other sender) ks) (rising_filter (is_other sender) ks rising) (each_filter Right (is_other sender) ks right) is
  all_stand ks rising right false move goes is absent = each_stands ks rising right move goes is absent
