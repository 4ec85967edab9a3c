-- Songs that join the queue.
use Rattle.std.proofs.Common.{◌≡◌, ◌∙◌, ℕ, ◌+◌, ◌-◌, ◌≤◌, false, cond, List, [], ◌∷◌, ◌++◌, length, map, take, drop, Option, Some, None, Ok, refl, sym, ap, subst, codes, arith}
use Rattle.std.specs.Prelude.{nat_lt}
use Rattle.std.proofs.lemmas.Bool.{cond-false}
use Rattle.std.proofs.lemmas.Bool.Decides.{nat_tests}
use Rattle.mpd_text.specs.Songs.Song.{SongData}
use Rattle.song_queue.specs.declared.edit.Edit.TheVariants.{Insert}
use Rattle.song_queue.specs.declared.entry.Entry.{Entry}
use Rattle.song_queue.specs.Entries.{entries_for}
use Rattle.song_queue.specs.State.{position_of}
use Rattle.play_order.proofs.Inserting.{queue_of-edited}
use Rattle.command_arguments.specs.declared.forms.Position.{Position}
use Rattle.command_arguments.specs.declared.forms.Position.TheVariants.{At, After, Before}
use Rattle.player_state.specs.declared.state.Part.{Part}
use Rattle.transitions.specs.CommandResults.{edits}
use Rattle.transitions.specs.Transitions.{CommandResult}
use Rattle.transitions.specs.declared.asked.Asked.{Asked}
use Rattle.queue_commands.specs.Queue.{add_songs, current_position, insert, insert_where, lack, position_after, position_before, position_in, position_of_id, unless_lacking, within_queue}
use Rattle.library_laws.specs.Added.{HasRoom, IsAdded, IsPosition, entries_in}

not-below : (a b : ℕ) → b ≤ a → nat_lt a b ≡ false
not-below a b h = grind (arith, nat_tests)

none-lacks : (part : Part) (songs : ℕ) → HasRoom part songs → lack part songs ≡ None
none-lacks part songs h =
    ap (λ b. cond b (Some (codes "playlist is full")) (cond (nat_lt part.queue.max_id (part.queue.greatest_id + songs)) (Some (codes "no more song ids")) None))
    (not-below part.queue.max_len (length (entries_in part) + songs) h.0)
    ∙ ap (λ b. cond b (Some (codes "no more song ids")) None) (not-below part.queue.max_id (part.queue.greatest_id + songs) h.1)

songs-of : (first : ℕ) (songs : List SongData) → map (λ (entry : Entry). entry.song) (entries_for first songs) ≡ songs
songs-of first [] = refl
songs-of first (song ∷ songs) = ap (λ (rest : List SongData). song ∷ rest) (songs-of (first + 1) songs)

edit-adds : (asked : Asked) (part : Part) (position : ℕ) (songs : List SongData) → IsAdded asked part position songs (edits asked (Insert position songs) (codes ""))
edit-adds asked part position songs =
    let new : List Entry = entries_for (part.queue.greatest_id + 1) songs in
    record {
      answer = refl;
      new = new;
      songs_are = songs-of (part.queue.greatest_id + 1) songs;
      queue = queue_of-edited part.queue (take position (entries_in part) ++ new ++ drop position (entries_in part));
      scan = refl;
      written = refl;
    }

inserts : (asked : Asked) (part : Part) (position : ℕ) (songs : List SongData) → HasRoom part (length songs) → IsAdded asked part position songs (insert asked part songs position (codes ""))
inserts asked part position songs room =
    subst (λ (o : Option (List ℕ)). IsAdded asked part position songs (unless_lacking asked part o (edits asked (Insert position songs) (codes "")))) (sym (none-lacks part (length songs) room))
    (edit-adds asked part position songs)

-- the position that is named
within : (part : Part) (position : ℕ) → position ≤ length (entries_in part) → within_queue part position ≡ Ok position
within part position h = cond-false _ _ _ (not-below (length (entries_in part)) position h)

current-at : (part : Part) (id current : ℕ) → part.player.current ≡ Some id → position_of part.queue id ≡ Some current → current_position part ≡ Some current
current-at part id current e at = ap (position_of_id part.queue) e ∙ at

pub named-position : (part : Part) (named : Option Position) (position : ℕ) → IsPosition part named position → position_in part named ≡ Ok position
named-position part None position is = ap Ok (sym is)
named-position part (Some (At number)) position is = within part number is.1 ∙ ap Ok (sym is.0)
named-position part (Some (After steps)) position is =
    ap (λ (o : Option ℕ). position_after part o steps) (current-at part is.0 is.1 is.2 is.3)
    ∙ ap (within_queue part) (sym is.4)
    ∙ within part position is.5
named-position part (Some (Before steps)) position is =
    let far : nat_lt is.1 steps ≡ false = not-below is.1 steps (omega (arith, is.4)) in
    let there : is.1 - steps ≡ position = omega (arith, is.4) in
    ap (λ (o : Option ℕ). position_before o steps) (current-at part is.0 is.1 is.2 is.3)
    ∙ cond-false _ _ _ far
    ∙ ap Ok there

pub adds-songs : (asked : Asked) (part : Part) (named : Option Position) (position : ℕ) (songs : List SongData) → IsPosition part named position → HasRoom part (length songs) → IsAdded asked part position songs (add_songs asked part songs named)
adds-songs asked part named position songs is room =
    subst (λ (r : CommandResult). IsAdded asked part position songs r) (sym (ap (insert_where asked part songs (codes "")) (named-position part named position is)))
    (inserts asked part position songs room)
