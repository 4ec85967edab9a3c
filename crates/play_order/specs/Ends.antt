-- What follows when a song ends (MPD protocol reference, Playback options, `single` and `consume`;
-- Controlling playback, `next` and `previous`; how the modes act together is this profile's).
use Rattle.std.specs.Prelude.{ℕ, ◌≡◌, ◌+◌, ◌-◌, Bool, true, false, ◌==◌, ◌&&◌, not, if◌then◌else◌, List, [], ◌∷◌, filter, length, slice_get, unwrap_or, option_map, Option, Some, None}
use Rattle.song_queue.specs.declared.entry.Entry.{Entry}
use Rattle.play_order.specs.declared.ending.Ending.{Ending}
use Rattle.play_order.specs.declared.modes.Modes.{Modes}
use Rattle.play_order.specs.declared.modes.Single.{Single}
use Rattle.play_order.specs.declared.modes.Consume.{Consume}
use Rattle.play_order.specs.declared.modes.Single.TheVariants as single
use Rattle.play_order.specs.declared.modes.Consume.TheVariants as consume
use Rattle.play_order.specs.Draws.{RoundState, has_id, without, moved_last, others}
use Rattle.play_order.specs.Order.{entry_position, entry_of, ahead, first_anew, round_for, next_of, begun, left_by, ids_taken}

-- whether a song that ends is taken out
abbrev pub consumes : Consume → Bool
consumes consume.Off = false
consumes consume.On = true
consumes consume.Oneshot = true

-- once was enough
abbrev pub consume_after : Consume → Consume
consume_after consume.Off = consume.Off
consume_after consume.On = consume.On
consume_after consume.Oneshot = consume.Off

abbrev pub single_after : Single → Single
single_after single.Off = single.Off
single_after single.On = single.On
single_after single.Oneshot = single.Off

-- what consume leaves of the queue when a song ends
abbrev pub entries_left : Modes → List Entry → ℕ → List Entry
entries_left modes entries id = if consumes modes.consume then filter (λ e. not (has_id id e)) entries else entries

-- what consume leaves of the round
abbrev pub round_left : Modes → RoundState → ℕ → RoundState
round_left modes round id = if consumes modes.consume then without round (id ∷ []) else round

-- the position after a song that ends, in what is left
abbrev pub position_after : Modes → List Entry → ℕ → ℕ
position_after modes entries id = if consumes modes.consume then entry_position entries id else entry_position entries id + 1

-- at a position of what is left stands what comes after the song that ends, or nothing where nothing does
abbrev pub GoesOnAt : Modes → List Entry → ℕ → ℕ → Type 0
GoesOnAt modes entries id position =
    slice_get (entries_left modes entries id) position ≡ slice_get (entries_left modes entries id) (position_after modes entries id)

-- the modes after a song at whose end single was heeded
abbrev pub modes_after : Modes → Modes
modes_after modes = record modes { single = single_after modes.single; consume = consume_after modes.consume }

-- the song stays current, if it is still in the queue
abbrev pub staying : Modes → ℕ → Option ℕ
staying modes id = if consumes modes.consume then None else Some id

-- what the end of a song leads to: the modes, what is left of the queue, the round, the entry that starts,
-- and the current song if none does
pub record Following : Type 0 where
  pub modes : Modes
  pub left : List Entry
  pub round : RoundState
  pub entry : Option Entry
  pub current : Option ℕ

-- the order goes on after a song
abbrev pub in_order : Modes → RoundState → List Entry → ℕ → Following
in_order modes round entries id =
    let left = entries_left modes entries id in
    let rest = round_left modes round id in
    record {
      modes = record modes { consume = consume_after modes.consume };
      left = left;
      round = round_for modes rest left;
      entry = next_of modes rest left (position_after modes entries id);
      current = None;
    }

-- the player stops after the song, or starts this one
abbrev pub alone : Modes → RoundState → List Entry → ℕ → Option Entry → Following
alone modes round entries id entry = record {
  modes = modes_after modes;
  left = entries_left modes entries id;
  round = round_left modes round id;
  entry = entry;
  current = staying modes id;
}

-- single plays a song again with repeat, unless it is consumed
abbrev pub again : Modes → List Entry → ℕ → Option Entry
again modes entries id = if modes.repeat && not (consumes modes.consume) then entry_of entries id else None

-- single plays the song again, or the player stops after it
abbrev pub played_again : Modes → RoundState → List Entry → ℕ → Following
played_again modes round entries id = alone modes round entries id (again modes entries id)

-- by single: off, the order goes on; on, the song plays again or the player stops; oneshot, the player stops
abbrev pub end_by : Single → Modes → RoundState → List Entry → ℕ → Following
end_by single.Off modes round entries id = in_order modes round entries id
end_by single.On modes round entries id = played_again modes round entries id
end_by single.Oneshot modes round entries id = alone modes round entries id None

-- the natural end of a song
abbrev pub after_end : Modes → RoundState → List Entry → ℕ → Following
after_end modes round entries id = end_by modes.single modes round entries id

-- the end of a song by `next`, as if single were off
abbrev pub after_next : Modes → RoundState → List Entry → ℕ → Following
after_next modes round entries id = in_order modes round entries id

-- the round when what follows has started
abbrev pub round_after : Following → RoundState
round_after f = begun f.modes f.round f.entry

abbrev pub id_of : Option Entry → Option ℕ
id_of entry = option_map (λ e. e.id) entry

-- an id is that of an entry, and there is none where there is no entry
abbrev pub IsIdOf : Option Entry → Option ℕ → Type 0
IsIdOf entry id = id ≡ id_of entry

-- an id is that of what comes first in a new round, with repeat
abbrev pub IsFirstAnew : Modes → RoundState → List Entry → Option ℕ → Type 0
IsFirstAnew modes round entries id = IsIdOf (first_anew modes.repeat round entries) id

-- what the player is told of it
abbrev pub ending_of : Following → Ending
ending_of f = record { modes = f.modes; starts = id_of f.entry; current = f.current }

-- the player is told of what follows
abbrev pub IsEndingOf : Following → Ending → Type 0
IsEndingOf f ending = ending ≡ ending_of f

-- what comes after a song in the order, where no new round is needed
abbrev pub ahead_after : Modes → RoundState → List Entry → ℕ → Option Entry
ahead_after modes round entries id = ahead modes (round_left modes round id) (entries_left modes entries id) (position_after modes entries id)

abbrev pub peek_by : Single → Modes → RoundState → List Entry → ℕ → Option Entry
peek_by single.Off modes round entries id = ahead_after modes round entries id
peek_by single.On modes round entries id = again modes entries id
peek_by single.Oneshot modes round entries id = None

-- what the natural end of a song would start, where no new round is needed
abbrev pub peek : Modes → RoundState → List Entry → ℕ → Option Entry
peek modes round entries id = peek_by modes.single modes round entries id

-- the position before another; before the first one with repeat the last
abbrev pub position_before : Bool → List Entry → ℕ → ℕ
position_before repeat entries position = if (position == 0) && repeat then length entries - 1 else position - 1

-- the last of some ids
abbrev pub last_of : List ℕ → Option ℕ
last_of [] = None
last_of (id ∷ []) = Some id
last_of (id ∷ next ∷ more) = last_of (next ∷ more)

-- the played songs without the current one
abbrev pub played_before : RoundState → ℕ → List ℕ
played_before round id = others id round.played

-- what `previous` starts: in random order the song played before, else the one at the position before; if there
-- is none, the same again
abbrev pub before : Modes → RoundState → List Entry → ℕ → Option Entry
before modes round entries id =
    if modes.random
    then entry_of entries (unwrap_or (last_of (played_before round id)) id)
    else slice_get entries (position_before modes.repeat entries (entry_position entries id))

-- the round when `previous` has left the current song; nothing is consumed
abbrev pub round_before : Modes → RoundState → ℕ → RoundState
round_before modes round id = if modes.random then record round { played = played_before round id } else round

-- the round when what `previous` starts has started
abbrev pub round_after_previous : Modes → RoundState → List Entry → ℕ → RoundState
round_after_previous modes round entries id = begun modes (round_before modes round id) (before modes round entries id)

-- an id leaves the played songs, and another becomes the last of them, if there is one
abbrev pub gone_back : RoundState → ℕ → Option ℕ → RoundState
gone_back round id None = record round { played = played_before round id }
gone_back round id (Some other) = record round { played = moved_last (played_before round id) other }

-- the entries from one position up to another are taken out, of which one is current: what starts then
abbrev pub next_after_removal : Modes → RoundState → List Entry → ℕ → ℕ → Option Entry
next_after_removal modes round entries from end = next_of modes (without round (ids_taken entries from end)) (left_by entries from end) from

-- the round when it has started
abbrev pub round_after_removal : Modes → RoundState → List Entry → ℕ → ℕ → RoundState
round_after_removal modes round entries from end =
    begun modes (round_for modes (without round (ids_taken entries from end)) (left_by entries from end)) (next_after_removal modes round entries from end)
