-- A line raises the numbers of a player by one at most, so that those of a state's lines pass no limit.
use Rattle.std.proofs.Common.{◌≡◌, ℕ, ◌+◌, ◌≤◌, Bool, true, false, ◌&&◌, nat_le, List, length, Option, Some, None, refl, ap, sym, ◌∙◌, subst, arith, inl, inr, if◌then◌else◌}
use Rattle.std.specs.Prelude.{slice_get, slice_index_or, slice_set}
use Rattle.std.proofs.lemmas.Bool.{cases_lt}
use Rattle.std.proofs.lemmas.Bool.Decides.{nat_tests}
use Rattle.std.proofs.lemmas.List.{get_or-set_same, set_past}
use Rattle.song_queue.specs.declared.entry.Entry.{Entry}
use Rattle.song_queue.specs.declared.edit.Edit.TheVariants.{Insert, Prioritize}
use Rattle.player_core.specs.Player.{PlayerState, is_stopped, is_within}
use Rattle.player_core.specs.Steps as steps
use Rattle.player_core.specs.Steps.{is_current}
use Rattle.player_state.specs.Effects.{entries, played_entry, player_after, sought_entry}
use Rattle.player_state.specs.Outputs.{FrameBooks, books_after, can_count, can_count_all, grown, total}
use Rattle.player_state.specs.declared.effect.CommandEffect.{CommandEffect}
use Rattle.player_state.specs.declared.effect.CommandEffect.TheVariants.{Edits, Pauses, PlaysPosition, Rests, Seeks, SetsConsume, SetsCrossfade, SetsRandom, SetsRepeat, SetsSingle, SetsVolume, Stops, Switches}
use Rattle.player_state.specs.declared.effect.Effect.TheVariants.{ByCommand}
use Rattle.player_state.specs.declared.report.Report.{Report}
use Rattle.player_state.specs.declared.state.Part.{Part}

-- what the lines of a state do to a player
abbrev pub IsSmall : CommandEffect → Type 0
IsSmall Rests = Unit {0}
IsSmall (Edits (Insert at songs)) = Unit {0}
IsSmall (Edits (Prioritize ranges priority)) = Unit {0}
IsSmall (SetsVolume volume) = Unit {0}
IsSmall (SetsRepeat on) = Unit {0}
IsSmall (SetsRandom on) = Unit {0}
IsSmall (SetsSingle mode) = Unit {0}
IsSmall (SetsConsume mode) = Unit {0}
IsSmall (SetsCrossfade seconds) = Unit {0}
IsSmall (PlaysPosition position) = Unit {0}
IsSmall (Pauses on) = Unit {0}
IsSmall Stops = Unit {0}
IsSmall (Seeks position frame) = Unit {0}
IsSmall (Switches output on) = Unit {0}
IsSmall _ = ⊥

-- cuts and starts rise by one at most
pub record Raises (p q : PlayerState) : Type 0 where
  pub cuts : q.cuts ≤ p.cuts + 1
  pub starts : q.starts ≤ p.starts + 1
  pub jobs : q.jobs ≡ p.jobs
  pub max_cut : q.max_cut ≡ p.max_cut

none : (p : PlayerState) → Raises p p
none p = record { cuts = omega arith; starts = omega arith; jobs = refl; max_cut = refl }

raises_if : (b : Bool) (p q r : PlayerState) → Raises p q → Raises p r → Raises p (if b then q else r)
raises_if true p q r x y = x
raises_if false p q r x y = y

started : (p : PlayerState) (e : Entry) (frame : ℕ) → Raises p (steps.seek p e frame)
started p e frame = raises_if (is_current p.current e.id) p _ _
    (record { cuts = omega arith; starts = omega arith; jobs = refl; max_cut = refl }) (record { cuts = omega arith; starts = omega arith; jobs = refl; max_cut = refl })

sought : (p : PlayerState) (o : Option Entry) (frame : ℕ) → Raises p (sought_entry p o frame)
sought p None frame = none p
sought p (Some e) frame = started p e frame

played : (p : PlayerState) (o : Option Entry) → Raises p (played_entry p o)
played p None = none p
played p (Some e) = record { cuts = omega arith; starts = omega arith; jobs = refl; max_cut = refl }

randomized : (p : PlayerState) (es : List Entry) (on : Bool) → Raises p (steps.random p es on)
randomized p es true = raises_if p.modes.random p _ _ (none p) (record { cuts = omega arith; starts = omega arith; jobs = refl; max_cut = refl })
randomized p es false = raises_if p.modes.random p _ _ (record { cuts = omega arith; starts = omega arith; jobs = refl; max_cut = refl }) (none p)

small : (p : PlayerState) (q : PlayerState) → q.cuts ≡ p.cuts → q.starts ≡ p.starts → q.jobs ≡ p.jobs → q.max_cut ≡ p.max_cut → Raises p q
small p q a b c d = record { cuts = omega arith; starts = omega arith; jobs = c; max_cut = d }

pub raises : (rate : ℕ) (part : Part) (effect : CommandEffect) → IsSmall effect → Raises part.player (player_after rate part (ByCommand effect))
raises rate part Rests s = none part.player
raises rate part (Edits (Insert at songs)) s = small part.player (player_after rate part (ByCommand (Edits (Insert at songs)))) refl refl refl refl
raises rate part (Edits (Prioritize ranges priority)) s = none part.player
raises rate part (SetsVolume volume) s = none part.player
raises rate part (SetsRepeat on) s = small part.player (player_after rate part (ByCommand (SetsRepeat on))) refl refl refl refl
raises rate part (SetsRandom on) s = randomized part.player (entries part) on
raises rate part (SetsSingle mode) s = small part.player (player_after rate part (ByCommand (SetsSingle mode))) refl refl refl refl
raises rate part (SetsConsume mode) s = small part.player (player_after rate part (ByCommand (SetsConsume mode))) refl refl refl refl
raises rate part (SetsCrossfade seconds) s = small part.player (player_after rate part (ByCommand (SetsCrossfade seconds))) refl refl refl refl
raises rate part (PlaysPosition position) s = played part.player (slice_get (entries part) position)
raises rate part (Pauses on) s = raises_if (is_stopped part.player.playback) part.player _ _ (none part.player) (record { cuts = omega arith; starts = omega arith; jobs = refl; max_cut = refl })
raises rate part Stops s = raises_if (is_stopped part.player.playback) part.player _ _ (none part.player) (record { cuts = omega arith; starts = omega arith; jobs = refl; max_cut = refl })
raises rate part (Seeks position frame) s = sought part.player (slice_get (entries part) position) frame
raises rate part (Switches output on) s = none part.player
raises rate part _ s = absurd s

pub within : (p : PlayerState) → p.cuts ≤ p.max_cut → p.starts ≤ p.max_cut → p.jobs ≤ p.max_cut → is_within p ≡ true
within p a b c = grind (arith, nat_tests)

-- the books of frames say the same sums
same_total : (numbers : List ℕ) → total (grown numbers (λ n. 0)) ≡ total numbers
same_total numbers = omega arith

pub same_books : (books : FrameBooks) (effect : CommandEffect) (report : Report) → can_count_all (books_after books (ByCommand effect) report) ≡ can_count_all books
same_books books effect report =
    ap (λ (n : ℕ). nat_le n 9223372036854775807 && (can_count (grown books.written (λ n. 0)) && can_count (grown books.discarded (λ n. 0)))) (same_total books.decoded)
    ∙ ap (λ (n : ℕ). can_count books.decoded && (nat_le n 9223372036854775807 && can_count (grown books.discarded (λ n. 0)))) (same_total books.written)
    ∙ ap (λ (n : ℕ). can_count books.decoded && (can_count books.written && nat_le n 9223372036854775807)) (same_total books.discarded)

-- one more event of a seat
pub one_more : (made : List ℕ) (seat : ℕ) → slice_index_or (slice_set made seat (slice_index_or made seat 0 + 1)) seat 0 ≤ slice_index_or made seat 0 + 1
one_more made seat = elim (cases_lt seat (length made)) [
  | inl less ↦ let same = get_or-set_same made seat (slice_index_or made seat 0 + 1) 0 less in omega (arith, same)
  | inr past ↦
      let kept = set_past made seat (slice_index_or made seat 0 + 1) past in
      subst (λ (xs : List ℕ). slice_index_or xs seat 0 ≤ slice_index_or made seat 0 + 1) (sym kept) (omega arith)
]
