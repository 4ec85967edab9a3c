-- What each command of the queue leaves of it.
use Rattle.std.proofs.Common.{◌≡◌, ◌⊎◌, inl, inr, ℕ, ◌+◌, ◌-◌, ◌<◌, ◌≤◌, Bool, true, false, ◌&&◌, ◌||◌, nat_le, nat_lt, cond, List, [], ◌∷◌, ◌++◌, length, take, drop, Option, Some, None, refl, ap, sym, ◌∙◌, subst, arith, append_assoc, codes, decimal}
use Rattle.std.specs.Prelude.{slice_get, swap}
use Rattle.std.specs.List.{flat_map}
use Rattle.std.specs.declared.ops.Range.{Range as Positions}
use Rattle.std.proofs.lemmas.Bool.{cases_lt, leb-false, ltb-false, or_parts}
use Rattle.std.proofs.lemmas.List.{drop_all, length-take-le}
use Rattle.std.proofs.lemmas.Option.{slice_get_within}
use Rattle.command_arguments.specs.declared.forms.Position.{Position}
use Rattle.command_arguments.specs.declared.forms.Uri.{Uri}
use Rattle.command_arguments.specs.declared.criteria.Criteria.{Criteria}
use Rattle.command_arguments.specs.declared.criteria.Criteria.TheVariants.{Meeting, Refused}
use Rattle.filters.specs.declared.matching.Case.{Case}
use Rattle.filters.specs.declared.matching.Case.TheVariants.{Heeded, Ignored}
use Rattle.mpd_command.specs.declared.queue.QueueCommand.{QueueCommand}
use Rattle.mpd_command.specs.declared.queue.QueueCommand.TheVariants as queue
use Rattle.mpd_text.specs.Answers.Answer.{pair_line}
use Rattle.mpd_text.specs.Answers.Range.{positions, within}
use Rattle.mpd_text.specs.Songs.Song.{SongData}
use Rattle.mpd_text.specs.declared.answers.answer.ErrorNumber.{ErrorNumber}
use Rattle.mpd_text.specs.declared.answers.answer.ErrorNumber.TheVariants.{Argument, NoExist, PlaylistMax}
use Rattle.mpd_text.specs.declared.answers.ranges.Range.{Range}
use Rattle.play_order.specs.Draws.{generator_after_words, words_drawn}
use Rattle.player_core.specs.Steps.{shuffle_words}
use Rattle.player_state.specs.Effects.{part_after, player_edited}
use Rattle.player_state.specs.declared.effect.CommandEffect.TheVariants.{Shuffles as ShufflesPositions}
use Rattle.player_state.specs.declared.effect.Effect.TheVariants.{ByCommand}
use Rattle.player_state.specs.declared.state.Library.{Library}
use Rattle.player_state.specs.declared.state.Part.{Part}
use Rattle.queue_commands.specs.Queue as commands
use Rattle.queue_commands.specs.Queue.{all_with_ids, all_within, changed_between, count, lack, position_in, result_of}
use Rattle.queue_slots.specs.declared.entry.Entry.{Entry}
use Rattle.song_db.specs.Library.{song_of}
use Rattle.song_queue.specs.Entries.{entries_for, moved_to, with_priority}
use Rattle.song_queue.specs.Laws.{state_after_edit}
use Rattle.song_queue.specs.Shuffles.{shuffled}
use Rattle.song_queue.specs.State.{IsQueue, position_of, queue_of}
use Rattle.song_queue.specs.declared.edit.Edit.{Edit}
use Rattle.song_queue.specs.declared.edit.Edit.TheVariants.{Insert, Remove, Move, Prioritize, Swap}
use Rattle.song_search.specs.Folders.{is_folder, under}
use Rattle.transitions.specs.Answers.{succeeds}
use Rattle.transitions.specs.CommandResults.{bad_index, does, edits, no_such_song, refusal, shows}
use Rattle.transitions.specs.Transitions.{CommandResult}
use Rattle.transitions.specs.declared.asked.Asked.{Asked}
use Rattle.queue_laws.specs.Edits.{AddIdTellsTheId, EditsKeepTheOthers, IsAskedFor, Leaves, ShufflesTakeNumbers, are_named, count_named, names_or_all, takes_out}
use Rattle.queue_laws.specs.Positions.{names}
use Rattle.queue_laws.specs.Queues.{Adds, DeletesId, HasAt, Moves, MovesId, Prioritizes, PrioritizesIds, Shuffles, Swaps}
use Rattle.queue_laws.proofs.Lists.{slice_get-at}
use Rattle.queue_laws.proofs.Named.{has-at, ids-named, ids-there, is-song, named-ids, no-song, put-where, ranges-named}
use Rattle.queue_laws.proofs.Queues.{IsRange, named-count, adds, all-positions, deletes, deletes-id, moves, moves-id, prioritizes, prioritizes-ids, queue_of-edited, range-order, shuffles, swaps, within-names}

-- what is to be shown of a result: it leaves such a queue unless it is refused, and else all as it was; no more
-- than the queue and the player changes, and unless entries are taken out of the player the round alone
abbrev pub Good : ℕ → Part → Bool → (List Entry → Type 0) → CommandResult → Type 0
Good rate part takes L result =
    let left = part_after rate part (ByCommand result.effect) in
    (result.answer.refused ≡ false → L (queue_of left.queue))
    × (result.answer.refused ≡ true → left ≡ part)
    × (left ≡ record part { queue = left.queue; player = left.player })
    × (takes ≡ false → left.player ≡ record part.player { round = left.player.round })

module _ (rate : ℕ) (part : Part) (asked : Asked) (takes : Bool) where
  refused : (L : List Entry → Type 0) (number : ErrorNumber) (text : List ℕ) → Good rate part takes L (refusal asked number text)
  refused L number text = (λ (e : true ≡ false). cc, λ e. refl, refl, λ e. refl)

  shown : (L : List Entry → Type 0) (lines : List ℕ) → L (queue_of part.queue) → Good rate part takes L (shows asked lines)
  shown L lines same = (λ e. same, λ (e : false ≡ true). cc, refl, λ e. refl)

  edited : (L : List Entry → Type 0) (edit : Edit) (lines : List ℕ) → L (queue_of (state_after_edit part.queue edit))
      → (takes ≡ false → player_edited part.player part.queue edit ≡ record part.player { round = (player_edited part.player part.queue edit).round }) → Good rate part takes L (edits asked edit lines)
  edited L edit lines after calm = (λ e. after, λ (e : false ≡ true). cc, refl, calm)

  shuffled-good : (L : List Entry → Type 0) (r : Positions ℕ) → L (shuffled (queue_of part.queue) r.start r.end (shuffle_words part.player r.start r.end)) → Good rate part takes L (does asked (ShufflesPositions r.start r.end))
  shuffled-good L r after =
      (λ e. subst L (sym (queue_of-edited part.queue (shuffled (queue_of part.queue) r.start r.end (shuffle_words part.player r.start r.end)))) after, λ (e : false ≡ true). cc, refl, λ e. refl)

-- the positions of a range that may be left out
chosen : (part : Part) (range : Option Range) (r : Positions ℕ) → commands.range_or_all range (count part) ≡ Some r → IsRange (names_or_all range) (count part) r
chosen part None r h = let whole : positions 0 (count part) ≡ r = cc in subst (IsRange (λ _. true) (count part)) whole (all-positions (count part))
chosen part (Some one) r h = within-names one (count part) r h

module _ (asked : Asked) (part : Part) (library : Library) (is : IsQueue part.queue) where
  abbrev es : List Entry
  es = queue_of part.queue

  abbrev G : (List Entry → Type 0) → CommandResult → Type 0
  G = Good library.rate part false

  -- what a command is to leave
  abbrev L : QueueCommand → List Entry → Type 0
  L it = Leaves part library it es

  bad : (takes : Bool) (P : List Entry → Type 0) → Good library.rate part takes P (bad_index asked)
  bad takes P = refused library.rate part asked takes P Argument (codes "bad song index")

  lost : (takes : Bool) (P : List Entry → Type 0) → Good library.rate part takes P (no_such_song asked)
  lost takes P = refused library.rate part asked takes P NoExist (codes "no such song")

  -- songs are added
  added-at : (P : List Entry → Type 0) (songs : List SongData) (at : ℕ) (lines : List ℕ) (o : Option (List ℕ)) → at ≤ length es → (Adds part.queue.greatest_id songs at es (take at es ++ entries_for (part.queue.greatest_id + 1) songs ++ drop at es) → P (take at es ++ entries_for (part.queue.greatest_id + 1) songs ++ drop at es))
      → G P (commands.unless_lacking asked part o (edits asked (Insert at songs) lines))
  added-at P songs at lines None within make =
      edited library.rate part asked false P (Insert at songs) lines
      (subst P (sym (queue_of-edited part.queue (take at es ++ entries_for (part.queue.greatest_id + 1) songs ++ drop at es))) (make (adds es part.queue.greatest_id at songs is.ids within)))
      (λ e. refl)
  added-at P songs at lines (Some text) within make = refused library.rate part asked false P PlaylistMax text

  added : (P : List Entry → Type 0) (songs : List SongData) (position : Option Position) (lines : List ℕ)
      → ((at : ℕ) (after : List Entry) → IsAskedFor part position at → Adds part.queue.greatest_id songs at es after → P after) → G P (commands.insert_where asked part songs lines (position_in part position))
  added P songs position lines make = put-where asked part songs lines (G P) (refused library.rate part asked false P) position
      (λ at within asked_at. added-at P songs at lines (lack part (length songs)) within (make at (take at es ++ entries_for (part.queue.greatest_id + 1) songs ++ drop at es) asked_at))

  add-folder : (uri : Uri) (position : Option Position) (b : Bool) → song_of library.songs uri.0 ≡ None
      → G (L (queue.Add uri position)) (cond b (commands.add_songs asked part (under uri.0 library.songs) position) (no_such_song asked))
  add-folder uri position true none =
      added (L (queue.Add uri position)) (under uri.0 library.songs) position (codes "")
      (λ at after asked_at puts. (under uri.0 library.songs, at, inr (no-song library uri.0 none, refl), asked_at, puts))
  add-folder uri position false none = lost false (L (queue.Add uri position))

  add-good : (uri : Uri) (position : Option Position) (o : Option SongData) → song_of library.songs uri.0 ≡ o → G (L (queue.Add uri position)) (commands.add_song_or_folder asked part library o uri.0 position)
  add-good uri position None none = add-folder uri position (is_folder uri.0 library.songs) none
  add-good uri position (Some song) found =
      added (L (queue.Add uri position)) (song ∷ []) position (codes "")
      (λ at after asked_at puts. (song ∷ [], at, inl (song, is-song library uri.0 song found, refl), asked_at, puts))

  add-id-good : (uri : Uri) (position : Option Position) (o : Option SongData) → song_of library.songs uri.0 ≡ o → G (L (queue.AddId uri position)) (commands.add_one asked part o position)
  add-id-good uri position None none = lost false (L (queue.AddId uri position))
  add-id-good uri position (Some song) found =
      added (L (queue.AddId uri position)) (song ∷ []) position (pair_line (codes "Id") (decimal (part.queue.greatest_id + 1)))
      (λ at after asked_at puts. (song, at, is-song library uri.0 song found, asked_at, puts))

  -- entries leave
  clear-good : Good library.rate part true (L queue.Clear) (commands.clear asked part)
  clear-good =
      edited library.rate part asked true (L queue.Clear) (Remove 0 (count part)) (codes "")
      (queue_of-edited part.queue (take 0 es ++ drop (count part) es) ∙ drop_all (count part) es (omega arith))
      (λ (e : true ≡ false). cc)

  delete-good : (range : Range) (o : Option (Positions ℕ)) → within range (count part) ≡ o → Good library.rate part true (L (queue.Delete range)) (commands.remove asked part o)
  delete-good range None h = bad true (L (queue.Delete range))
  delete-good range (Some r) h =
      edited library.rate part asked true (L (queue.Delete range)) (Remove r.start r.end) (codes "")
      (queue_of-edited part.queue (take r.start es ++ drop r.end es) ∙ deletes (names range) es r (within-names range (count part) r h))
      (λ (e : true ≡ false). cc)

  delete-id-good : (id : ℕ) (o : Option ℕ) → position_of part.queue id ≡ o → Good library.rate part true (L (queue.DeleteId id)) (commands.remove_one asked part o)
  delete-id-good id None h = lost true (L (queue.DeleteId id))
  delete-id-good id (Some at) h =
      edited library.rate part asked true (L (queue.DeleteId id)) (Remove at (at + 1)) (codes "")
      (subst (DeletesId id es) (sym (queue_of-edited part.queue (take at es ++ drop (at + 1) es))) (deletes-id es at id is.distinct (has-at part.queue id at h)))
      (λ (e : true ≡ false). cc)

  -- entries move
  fits : (start end to len : ℕ) (b : Bool) → (nat_lt start end && nat_lt len (to + (end - start))) ≡ false → start ≤ end → (start ≡ end) ⊎ (to + (end - start) ≤ len)
  fits start end to len b h order = elim (cases_lt start end) [
    | inl some ↦
        let t : nat_lt start end ≡ true = grind arith in
        let room : nat_lt len (to + (end - start)) ≡ false = sym (ap (λ c. c && nat_lt len (to + (end - start))) t) ∙ h in
        inr (ltb-false len (to + (end - start)) room)
    | inr none ↦ inl (omega arith)
  ]

  move-good : (range : Range) (to : ℕ) (o : Option (Positions ℕ)) → within range (count part) ≡ o → G (L (queue.Move range to)) (commands.move_positions asked part o to)
  move-good range to None h = bad false (L (queue.Move range to))
  move-good range to (Some r) h = chosen (nat_lt r.start r.end && nat_lt (count part) (to + (r.end - r.start))) refl
    where
      order : r.start ≤ r.end
      order = range-order (names range) (count part) r (within-names range (count part) r h)

      chosen : (b : Bool) → (nat_lt r.start r.end && nat_lt (count part) (to + (r.end - r.start))) ≡ b
          → G (L (queue.Move range to)) (cond b (bad_index asked) (edits asked (Move r.start r.end to) (codes "")))
      chosen true e = bad false (L (queue.Move range to))
      chosen false e =
          edited library.rate part asked false (L (queue.Move range to)) (Move r.start r.end to) (codes "")
          (subst (Moves (names range) to es) (sym (queue_of-edited part.queue (moved_to es r.start r.end to)))
          (moves (names range) es r (within-names range (count part) r h) to (fits r.start r.end to (count part) true e order)))
          (λ e. refl)

  move-one-good : (id to : ℕ) (o : Option ℕ) → to < count part → position_of part.queue id ≡ o → G (L (queue.MoveId id to)) (commands.move_one asked part o to)
  move-one-good id to None low h = lost false (L (queue.MoveId id to))
  move-one-good id to (Some at) low h =
      edited library.rate part asked false (L (queue.MoveId id to)) (Move at (at + 1) to) (codes "")
      (subst (MovesId id to es) (sym (queue_of-edited part.queue (moved_to es at (at + 1) to))) (moves-id es at id to (has-at part.queue id at h) low))
      (λ e. refl)

  move-id-good : (id to : ℕ) (b : Bool) → nat_le (count part) to ≡ b
      → G (L (queue.MoveId id to)) (cond b (bad_index asked) (commands.move_one asked part (position_of part.queue id) to))
  move-id-good id to true h = bad false (L (queue.MoveId id to))
  move-id-good id to false h = let low : to < count part = leb-false (count part) to h in move-one-good id to (position_of part.queue id) low refl

  -- entries are swapped
  swapped : (a b : ℕ) (lines : List ℕ) (P : List Entry → Type 0) → (Swaps a b es (swap es a b) → P (swap es a b)) → a < count part → b < count part → G P (edits asked (Swap a b) lines)
  swapped a b lines P make la lb = edited library.rate part asked false P (Swap a b) lines (subst P (sym (queue_of-edited part.queue (swap es a b))) (make (swaps es a b la lb))) (λ e. refl)

  swap-good : (a b : ℕ) (c : Bool) → (nat_le (count part) a || nat_le (count part) b) ≡ c
      → G (L (queue.Swap a b)) (cond c (bad_index asked) (edits asked (Swap a b) (codes "")))
  swap-good a b true h = bad false (L (queue.Swap a b))
  swap-good a b false h =
      let both = or_parts (nat_le (count part) a) (nat_le (count part) b) h in
      swapped a b (codes "") (L (queue.Swap a b)) (λ s. s) (leb-false (count part) a both.0) (leb-false (count part) b both.1)

  swap-id-good : (first second : ℕ) (o p : Option ℕ) → position_of part.queue first ≡ o → position_of part.queue second ≡ p
      → G (L (queue.SwapId first second)) (commands.swap_both asked part o p)
  swap-id-good first second None p h k = lost false (L (queue.SwapId first second))
  swap-id-good first second (Some a) None h k = lost false (L (queue.SwapId first second))
  swap-id-good first second (Some a) (Some b) h k =
      let at_a = has-at part.queue first a h in
      let at_b = has-at part.queue second b k in
      swapped a b (codes "") (L (queue.SwapId first second)) (λ s. (a, b, at_a, at_b, s)) (slice_get_within es a at_a.0 at_a.1) (slice_get_within es b at_b.0 at_b.1)

  -- entries are shuffled
  shuffle-good : (range : Option Range) (o : Option (Positions ℕ)) → commands.range_or_all range (count part) ≡ o → G (L (queue.Shuffle range)) (commands.shuffle_positions asked o)
  shuffle-good range None h = bad false (L (queue.Shuffle range))
  shuffle-good range (Some r) h =
      let counted = named-count (names_or_all range) es r (chosen part range r h) in
      shuffled-good library.rate part asked false (L (queue.Shuffle range)) r
      (subst (λ (numbers : List ℕ). Shuffles numbers (names_or_all range) es (shuffled es r.start r.end (shuffle_words part.player r.start r.end)))
      (ap (λ (n : ℕ). words_drawn part.player.round.generator (n - 1)) (sym counted))
      (shuffles (names_or_all range) es r (shuffle_words part.player r.start r.end) (chosen part range r h)))

  -- entries get a priority
  prio-good : (priority : ℕ) (ranges : List Range) (o : Option (List (Positions ℕ))) → all_within (count part) ranges ≡ o
      → G (L (queue.Prio priority ranges)) (commands.prioritize asked part (bad_index asked) priority o)
  prio-good priority ranges None h = bad false (L (queue.Prio priority ranges))
  prio-good priority ranges (Some all) h =
      edited library.rate part asked false (L (queue.Prio priority ranges)) (Prioritize all priority) (codes "")
      (subst (Prioritizes (are_named ranges) priority es) (sym (queue_of-edited part.queue (with_priority es all priority)))
      (prioritizes es all priority (are_named ranges) (ranges-named (count part) ranges all h)))
      (λ e. refl)

  prio-id-good : (priority : ℕ) (ids : List ℕ) (o : Option (List (Positions ℕ))) → all_with_ids part.queue ids ≡ o
      → G (L (queue.PrioId priority ids)) (commands.prioritize asked part (no_such_song asked) priority o)
  prio-id-good priority ids None h = lost false (L (queue.PrioId priority ids))
  prio-id-good priority ids (Some all) h =
      edited library.rate part asked false (L (queue.PrioId priority ids)) (Prioritize all priority) (codes "")
      (subst (PrioritizesIds ids priority es) (sym (queue_of-edited part.queue (with_priority es all priority)))
      (prioritizes-ids es all priority ids (ids-there part.queue is.distinct ids all h) (ids-named part.queue is.distinct ids all h) (named-ids part.queue is.distinct ids all h)))
      (λ e. refl)

  -- those that show leave the queue
  abbrev Same : List Entry → Type 0
  Same after = after ≡ es

  positions-good : (lines : ℕ × Entry → List ℕ) (o : Option (Positions ℕ)) → G Same (commands.show_positions asked part lines o)
  positions-good lines None = bad false Same
  positions-good lines (Some r) = shown library.rate part asked false Same (flat_map lines (commands.rows_from part.queue r.start r.end)) refl

  one-good : (o : Option ℕ) → G Same (commands.show_one asked part library o)
  one-good None = lost false Same
  one-good (Some position) = positions-good (commands.entry_lines asked.tags library.rate) (Some (positions position (position + 1)))

  by-id-good : (o : Option ℕ) → G Same (commands.playlist_id asked part library o)
  by-id-good None = positions-good (commands.entry_lines asked.tags library.rate) (commands.range_or_all None (count part))
  by-id-good (Some id) = one-good (position_of part.queue id)

  find-good : (case : Case) (criteria : Criteria) → G Same (commands.playlist_find asked part library case criteria)
  find-good case (Meeting e) = shown library.rate part asked false Same (flat_map (commands.entry_lines asked.tags library.rate) (commands.meeting part.queue case e)) refl
  find-good case (Refused text) = refused library.rate part asked false Same Argument text

  changed-good : (lines : ℕ × Entry → List ℕ) (version : ℕ) (o : Option (Positions ℕ)) → G Same (commands.show_changed asked part lines version o)
  changed-good lines version None = bad false Same
  changed-good lines version (Some r) = shown library.rate part asked false Same (flat_map lines (changed_between part.queue version r)) refl

  pub all-good : (it : QueueCommand) → Good library.rate part (takes_out it) (Leaves part library it es) (result_of asked part library it)
  unfolding result_of
  all-good (queue.Add uri position) = add-good uri position (song_of library.songs uri.0) refl
  all-good (queue.AddId uri position) = add-id-good uri position (song_of library.songs uri.0) refl
  all-good queue.Clear = clear-good
  all-good (queue.Delete range) = delete-good range (within range (count part)) refl
  all-good (queue.DeleteId id) = delete-id-good id (position_of part.queue id) refl
  all-good (queue.Move range to) = move-good range to (within range (count part)) refl
  all-good (queue.MoveId id to) = move-id-good id to (nat_le (count part) to) refl
  all-good queue.Playlist = positions-good commands.uri_line (Some (positions 0 (count part)))
  all-good (queue.PlaylistFind criteria) = find-good Heeded criteria
  all-good (queue.PlaylistId id) = by-id-good id
  all-good (queue.PlaylistInfo range) = positions-good (commands.entry_lines asked.tags library.rate) (commands.range_or_all range (count part))
  all-good (queue.PlaylistSearch criteria) = find-good Ignored criteria
  all-good (queue.PlChanges version range) = changed-good (commands.entry_lines asked.tags library.rate) version (commands.range_or_all range (count part))
  all-good (queue.PlChangesPosId version range) = changed-good commands.position_lines version (commands.range_or_all range (count part))
  all-good (queue.Prio priority ranges) = prio-good priority ranges (all_within (count part) ranges) refl
  all-good (queue.PrioId priority ids) = prio-id-good priority ids (all_with_ids part.queue ids) refl
  all-good (queue.Shuffle range) = shuffle-good range (commands.range_or_all range (count part)) refl
  all-good (queue.Swap a b) = swap-good a b (nat_le (count part) a || nat_le (count part) b) refl
  all-good (queue.SwapId first second) = swap-id-good first second (position_of part.queue first) (position_of part.queue second) refl refl

pub edits_keep_the_others : EditsKeepTheOthers
edits_keep_the_others asked part library it is =
    let good = all-good asked part library is it in
    record { done = good.0; refused = good.1; rest = good.2; plays_on = good.3 }

-- the id that is told
module _ (asked : Asked) (part : Part) (library : Library) (position : Option Position) where
  abbrev Tells : CommandResult → Type 0
  Tells result =
      result.answer.refused ≡ false
      → (at : ℕ) × (id : ℕ) × IsAskedFor part position at × HasAt (queue_of (part_after library.rate part (ByCommand result.effect)).queue) at id
      × (result.answer ≡ succeeds asked.list_place (pair_line (codes "Id") (decimal id)))

  abbrev line : List ℕ
  line = pair_line (codes "Id") (decimal (part.queue.greatest_id + 1))

  tells-at : (song : SongData) (at : ℕ) (o : Option (List ℕ)) → at ≤ count part → IsAskedFor part position at → Tells (commands.unless_lacking asked part o (edits asked (Insert at (song ∷ [])) line))
  tells-at song at None within asked_at e =
      let before : List Entry = queue_of part.queue in
      let new : Entry = record { id = part.queue.greatest_id + 1; song = song; priority = 0 } in
      let whole : queue_of (state_after_edit part.queue (Insert at (song ∷ []))) ≡ take at before ++ (new ∷ drop at before) =
      queue_of-edited part.queue (take at before ++ (new ∷ []) ++ drop at before) ∙ append_assoc (take at before) (new ∷ []) (drop at before) in (
        at,
        part.queue.greatest_id + 1,
        asked_at,
        (new, ap (λ (l : List Entry). slice_get l at) whole ∙ slice_get-at (take at before) new (drop at before) at (length-take-le at before within), refl),
        refl,
      )
  tells-at song at (Some text) within asked_at e = cc

  tells-song : (o : Option SongData) → Tells (commands.add_one asked part o position)
  tells-song None = λ (e : true ≡ false). cc
  tells-song (Some song) = put-where asked part (song ∷ []) line Tells (λ number text (e : true ≡ false). cc) position (λ at within asked_at. tells-at song at (lack part 1) within asked_at)

pub add_id_tells_the_id : AddIdTellsTheId
unfolding result_of
add_id_tells_the_id asked part library uri position = tells-song asked part library position (song_of library.songs uri.0)

-- the numbers that a shuffle takes
module _ (asked : Asked) (part : Part) (library : Library) (range : Option Range) where
  abbrev Takes : CommandResult → Type 0
  Takes result =
      result.answer.refused ≡ false
      → (part_after library.rate part (ByCommand result.effect)).player.round
      ≡ record part.player.round { generator = generator_after_words part.player.round.generator (count_named range (queue_of part.queue) - 1) }

  takes-numbers : (o : Option (Positions ℕ)) → commands.range_or_all range (count part) ≡ o → Takes (commands.shuffle_positions asked o)
  takes-numbers None h = λ (e : true ≡ false). cc
  takes-numbers (Some r) h = λ e.
      ap (λ (n : ℕ). record part.player.round { generator = generator_after_words part.player.round.generator (n - 1) })
      (sym (named-count (names_or_all range) (queue_of part.queue) r (chosen part range r h)))

pub shuffles_take_numbers : ShufflesTakeNumbers
unfolding result_of
shuffles_take_numbers asked part library range = takes-numbers asked part library range (commands.range_or_all range (count part)) refl
