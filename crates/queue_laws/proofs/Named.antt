-- What commands of the queue name: songs, positions and ids.
use Rattle.std.proofs.Common.{◌≡◌, ◌≢◌, ◌⊎◌, inl, inr, ℕ, zero, suc, ◌+◌, ◌-◌, ◌<◌, ◌≤◌, Bool, true, false, ◌||◌, nat_le, nat_lt, ◌==◌, cond, List, [], ◌∷◌, length, find, get_or, Option, Some, None, refl, ap, sym, ◌∙◌, subst, arith, codes}
use Rattle.std.specs.Prelude.{AllPairs, Contains, slice_get, option_map, position}
use Rattle.std.specs.declared.ops.Range.{Range as Positions}
use Rattle.std.proofs.lemmas.Bool.{and_parts, eqb-true, leb-true, ltb-false, ltb-true, or_cases, or_left, or_right}
use Rattle.std.proofs.lemmas.List.Quantifiers.{position-Some}
use Rattle.std.proofs.lemmas.Option.{slice_get-get_or, slice_get-map, slice_get_within}
use Rattle.command_arguments.specs.declared.forms.Position.{Position}
use Rattle.command_arguments.specs.declared.forms.Position.TheVariants.{At, After, Before}
use Rattle.mpd_text.specs.Answers.Range.{positions, within}
use Rattle.mpd_text.specs.Songs.Song.{SongData}
use Rattle.mpd_text.specs.declared.answers.answer.ErrorNumber.{ErrorNumber}
use Rattle.mpd_text.specs.declared.answers.answer.ErrorNumber.TheVariants.{Argument, PlayerSync}
use Rattle.mpd_text.specs.declared.answers.ranges.Range.{Range}
use Rattle.player_state.specs.declared.state.Library.{Library}
use Rattle.player_state.specs.declared.state.Part.{Part}
use Rattle.queue_commands.specs.Queue.{all_with_ids, all_within, alone_at, consed, count, current_position, insert, insert_where, position_after, position_before, position_in, position_of_id, position_with, within_queue}
use Rattle.queue_slots.specs.declared.entry.Entry.{Entry}
use Rattle.queue_slots.specs.declared.entry.Slot.{Slot}
use Rattle.song_db.specs.Library.{same_uri, song_of}
use Rattle.song_queue.specs.Entries.{is_named}
use Rattle.song_queue.specs.State.{QueueState, entries_of, position_of, queue_of}
use Rattle.song_queue.proofs.Same.{pointwise-refl, pointwise-true}
use Rattle.transitions.specs.CommandResults.{refusal}
use Rattle.transitions.specs.Transitions.{CommandResult}
use Rattle.transitions.specs.declared.asked.Asked.{Asked}
use Rattle.queue_laws.specs.Edits.{IsAskedFor, IsCurrent, IsSong, are_named}
use Rattle.queue_laws.specs.Positions.{is_between}
use Rattle.queue_laws.specs.Queues.{HasAt}
use Rattle.queue_laws.proofs.Ids.{one-position}
use Rattle.queue_laws.proofs.Queues.{IsRange, within-names}

-- the entry that is found by its id
has-slot : (slots : List Slot) (id at : ℕ) → position (λ s. s.entry.id == id) slots ≡ Some at → HasAt (entries_of slots) at id
has-slot [] id at h = cc
has-slot (s ∷ ss) id at h =
    let found = position-Some (λ (x : Slot). x.entry.id == id) (s ∷ ss) at s h in
    let slot : Slot = get_or (s ∷ ss) at s in
    (slot.entry, slice_get-map (λ (x : Slot). x.entry) (s ∷ ss) at ∙ ap (option_map (λ (x : Slot). x.entry)) (slice_get-get_or (s ∷ ss) at s found.0), eqb-true slot.entry.id id found.1)

pub has-at : (q : QueueState) (id at : ℕ) → position_of q id ≡ Some at → HasAt (queue_of q) at id
has-at q id at h = has-slot q.slots id at h

-- a song that is found by its URI, and one that is not
found-first : (b : Bool) (x song : SongData) (rest : Option SongData) → cond b (Some x) rest ≡ Some song → ((b ≡ true) × (x ≡ song)) ⊎ ((b ≡ false) × (rest ≡ Some song))
found-first true x song rest h = inl (refl, cc)
found-first false x song rest h = inr (refl, h)

found-song : (p : SongData → Bool) (songs : List SongData) (song : SongData) → find p songs ≡ Some song → Contains songs song × (p song ≡ true)
found-song p [] song h = cc
found-song p (x ∷ xs) song h = elim (found-first (p x) x song (find p xs) h) [
  | inl here ↦ ((0, omega arith, here.1), sym (ap p here.1) ∙ here.0)
  | inr there ↦
      let more = found-song p xs song there.1 in
      let at = more.0 in
      ((suc at.0, omega (arith, at.1), at.2), more.1)
]

lost-first : (b : Bool) (x : SongData) (rest : Option SongData) → cond b (Some x) rest ≡ None → (b ≡ false) × (rest ≡ None)
lost-first true x rest h = cc
lost-first false x rest h = (refl, h)

lost-song : (p : SongData → Bool) (songs : List SongData) (k : ℕ) (d : SongData) → find p songs ≡ None → k < length songs → p (get_or songs k d) ≡ false
lost-song p [] k d h l = absurd (omega arith)
lost-song p (x ∷ xs) zero d h l = (lost-first (p x) x (find p xs) h).0
lost-song p (x ∷ xs) (suc k) d h l = lost-song p xs k d (lost-first (p x) x (find p xs) h).1 (omega arith)

same-number : (a b : ℕ) → (a == b) ≡ true → a ≡ b
same-number a b h = eqb-true a b h

own-number : (a : ℕ) → (a == a) ≡ true
own-number a = grind arith

pub is-song : (library : Library) (uri : List ℕ) (song : SongData) → song_of library.songs uri ≡ Some song → IsSong library uri song
is-song library uri song h =
    let found = found-song (λ (x : SongData). same_uri x.uri uri) library.songs song h in
    (found.0, pointwise-true ◌==◌ same-number song.uri uri found.1)

pub no-song : (library : Library) (uri : List ℕ) → song_of library.songs uri ≡ None → (song : SongData) → IsSong library uri song → ⊥
no-song library uri h song is =
    let at = is.0 in
    let no : same_uri (get_or library.songs at.0 song).uri uri ≡ false = lost-song (λ (x : SongData). same_uri x.uri uri) library.songs at.0 song h at.1 in
    let there : same_uri (get_or library.songs at.0 song).uri uri ≡ same_uri uri uri = ap (λ (x : SongData). same_uri x.uri uri) at.2 ∙ ap (λ u. same_uri u uri) is.1 in
    let yes : same_uri uri uri ≡ true = pointwise-refl ◌==◌ own-number uri in
    let clash : false ≡ true = sym no ∙ there ∙ yes in
    cc

-- the position that is meant
by-cond : {R : Type 0} (P : R → Type 0) (b : Bool) (x y : R) → (b ≡ true → P x) → (b ≡ false → P y) → P (cond b x y)
by-cond P true x y on off = on refl
by-cond P false x y on off = off refl

current-at : (part : Part) (current : Option ℕ) (position : ℕ) → part.player.current ≡ current → position_of_id part.queue current ≡ Some position → IsCurrent part position
current-at part None position is h = cc
current-at part (Some id) position is h = (id, is, has-at part.queue id position h)

within-current : (part : Part) (position : ℕ) → IsCurrent part position → position < length (queue_of part.queue)
within-current part position current = let has = current.2 in slice_get_within (queue_of part.queue) position has.0 has.1

-- what holds of each refusal, and of songs that go to a position that is asked for, holds wherever songs go
module _ (asked : Asked) (part : Part) (songs : List SongData) (lines : List ℕ) (P : CommandResult → Type 0) (refuse : (number : ErrorNumber) (text : List ℕ) → P (refusal asked number text)) where
  abbrev Put : Option Position → Type 0
  Put position = (at : ℕ) → at ≤ length (queue_of part.queue) → IsAskedFor part position at → P (insert asked part songs at lines)

  at-position : (position : ℕ) → (position ≤ length (queue_of part.queue) → P (insert asked part songs position lines)) → P (insert_where asked part songs lines (within_queue part position))
  at-position position put = by-cond (λ r. P (insert_where asked part songs lines r)) (nat_lt (count part) position) _ _ (λ t. refuse Argument (codes "bad song index")) (λ f. put (ltb-false (count part) position f))

  after-current : (o : Option ℕ) (steps : ℕ) → current_position part ≡ o → Put (Some (After steps)) → P (insert_where asked part songs lines (position_after part o steps))
  after-current None steps is put = refuse PlayerSync (codes "no current song")
  after-current (Some position) steps is put = at-position (position + 1 + steps) (λ within. put (position + 1 + steps) within (position, current-at part part.player.current position refl is, refl))

  before-current : (o : Option ℕ) (steps : ℕ) → current_position part ≡ o → Put (Some (Before steps)) → P (insert_where asked part songs lines (position_before o steps))
  before-current None steps is put = refuse PlayerSync (codes "no current song")
  before-current (Some position) steps is put =
      let current : IsCurrent part position = current-at part part.player.current position refl is in
      let within : position < length (queue_of part.queue) = within-current part position current in
      by-cond (λ r. P (insert_where asked part songs lines r)) (nat_lt position steps) _ _ (λ t. refuse Argument (codes "bad song index"))
      (λ f. let low : steps ≤ position = ltb-false position steps f in put (position - steps) (omega arith) (position, current, omega arith))

  pub put-where : (position : Option Position) → Put position → P (insert_where asked part songs lines (position_in part position))
  put-where None put = put (count part) (omega arith) refl
  put-where (Some (At position)) put = at-position position (λ within. put position within refl)
  put-where (Some (After steps)) put = after-current (current_position part) steps refl put
  put-where (Some (Before steps)) put = before-current (current_position part) steps refl put

-- what is found for each of some things
consed-parts : {A : Type 0} (o : Option A) (p : Option (List A)) (all : List A) → consed o p ≡ Some all → (a : A) × (rest : List A) × (o ≡ Some a) × (p ≡ Some rest) × (a ∷ rest ≡ all)
consed-parts None p all h = cc
consed-parts (Some a) None all h = cc
consed-parts (Some a) (Some rest) all h = (a, rest, refl, refl, cc)

-- the positions of ranges are those that they name
pub ranges-named : (len : ℕ) (ranges : List Range) (all : List (Positions ℕ)) → all_within len ranges ≡ Some all → (k : ℕ) → k < len → are_named ranges k ≡ is_named all k
unfolding IsRange
ranges-named len [] all h k l = let none : [] ≡ all = cc in ap (λ rs. is_named rs k) none
ranges-named len (range ∷ ranges) all h k l =
    let parts = consed-parts (within range len) (all_within len ranges) all h in
    let first = within-names range len parts.0 parts.2 in
    (λ i. first.2 k l i || ranges-named len ranges parts.1 parts.3 k l i) ∙ ap (λ rs. is_named rs k) parts.4

-- the positions of the entries with some ids are named, and no others
alone : (o : Option ℕ) (r : Positions ℕ) → alone_at o ≡ Some r → (position : ℕ) × (o ≡ Some position) × (positions position (position + 1) ≡ r)
alone None r h = cc
alone (Some position) r h = (position, refl, cc)

with-id : (q : QueueState) (id : ℕ) (r : Positions ℕ) → position_with q id ≡ Some r → (position : ℕ) × HasAt (queue_of q) position id × (positions position (position + 1) ≡ r)
unfolding position_with
with-id q id r h = let found = alone (position_of q id) r h in (found.0, has-at q id found.0 found.1, found.2)

-- a position is in the range of another alone where it is that one
own-position : (k position : ℕ) → k ≡ position → is_between position (position + 1) k ≡ true
own-position k position same = grind arith

other-position : (k position : ℕ) → is_between position (position + 1) k ≡ true → k ≡ position
other-position k position h =
    let both = and_parts (nat_le position k) (nat_lt k (position + 1)) h in
    let low : position ≤ k = leb-true position k both.0 in
    let high : k < position + 1 = ltb-true k (position + 1) both.1 in
    omega arith

contains-first : (ids : List ℕ) (x id : ℕ) → Contains (x ∷ ids) id → (x ≡ id) ⊎ Contains ids id
contains-first ids x id h = by h.0 h.1 h.2
  where
    by : (k : ℕ) → k < suc (length ids) → get_or (x ∷ ids) k id ≡ id → (x ≡ id) ⊎ Contains ids id
    by zero l e = inl e
    by (suc k) l e = inr (k, omega arith, e)

module _ (q : QueueState) (distinct : AllPairs (λ e f. e.id ≢ f.id) (queue_of q)) where
  pub ids-there : (ids : List ℕ) (all : List (Positions ℕ)) → all_with_ids q ids ≡ Some all → (id : ℕ) → Contains ids id → (position : ℕ) × HasAt (queue_of q) position id
  ids-there [] all h id c = absurd (omega (arith, c.1))
  ids-there (x ∷ ids) all h id c =
      let parts = consed-parts (position_with q x) (all_with_ids q ids) all h in
      let first = with-id q x parts.0 parts.2 in
      elim (contains-first ids x id c) [
        | inl same ↦ (first.0, subst (HasAt (queue_of q) first.0) same first.1)
        | inr more ↦ ids-there ids parts.1 parts.3 id more
      ]

  pub ids-named : (ids : List ℕ) (all : List (Positions ℕ)) → all_with_ids q ids ≡ Some all → (position : ℕ) (e : Entry) → slice_get (queue_of q) position ≡ Some e → Contains ids e.id → is_named all position ≡ true
  ids-named [] all h position e at c = absurd (omega (arith, c.1))
  ids-named (x ∷ ids) all h position e at c =
      let parts = consed-parts (position_with q x) (all_with_ids q ids) all h in
      let first = with-id q x parts.0 parts.2 in
      let whole : is_named (parts.0 ∷ parts.1) position ≡ is_named all position = ap (λ rs. is_named rs position) parts.4 in
      let is_first : is_between parts.0.start parts.0.end position ≡ is_between first.0 (first.0 + 1) position = ap (λ (r : Positions ℕ). is_between r.start r.end position) (sym first.2) in
      elim (contains-first ids x e.id c) [
        | inl same ↦
            let one : position ≡ first.0 = one-position (λ (y : Entry). y.id) (queue_of q) position first.0 e first.1.0 distinct at first.1.1 (sym same ∙ sym first.1.2) in
            sym whole ∙ or_left _ _ (is_first ∙ own-position position first.0 one)
        | inr more ↦ sym whole ∙ or_right _ _ (ids-named ids parts.1 parts.3 position e at more)
      ]

  pub named-ids : (ids : List ℕ) (all : List (Positions ℕ)) → all_with_ids q ids ≡ Some all → (position : ℕ) (e : Entry) → slice_get (queue_of q) position ≡ Some e → is_named all position ≡ true → Contains ids e.id
  named-ids [] all h position e at t = let none : [] ≡ all = cc in let no : false ≡ true = ap (λ rs. is_named rs position) none ∙ t in cc
  named-ids (x ∷ ids) all h position e at t =
      let parts = consed-parts (position_with q x) (all_with_ids q ids) all h in
      let first = with-id q x parts.0 parts.2 in
      let whole : is_named (parts.0 ∷ parts.1) position ≡ true = ap (λ rs. is_named rs position) parts.4 ∙ t in
      elim (or_cases _ _ whole) [
        | inl here ↦
            let one : position ≡ first.0 = other-position position first.0 (ap (λ (r : Positions ℕ). is_between r.start r.end position) first.2 ∙ here) in
            let same : Some e ≡ Some first.1.0 = sym at ∙ ap (slice_get (queue_of q)) one ∙ first.1.1 in
            let entry : e ≡ first.1.0 = cc in
            let id : x ≡ e.id = sym (ap (λ (y : Entry). y.id) entry ∙ first.1.2) in
            (0, omega arith, id)
        | inr there ↦ let more = named-ids ids parts.1 parts.3 position e at there in (suc more.0, omega (arith, more.1), more.2)
      ]
