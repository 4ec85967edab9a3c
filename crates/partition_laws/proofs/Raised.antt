-- What an event raises for a client, by the partition that the client is in and by what all share.
use Rattle.std.proofs.Common.{◌≡◌, ℕ, ◌==◌, Bool, true, false, not, ◌&&◌, List, [], ◌∷◌, map, Option, Some, None, refl, ap, ◌∙◌, if◌then◌else◌}
use Rattle.std.specs.Prelude.{option_map}
use Rattle.std.specs.Str.{bytes_eq}
use Rattle.std.proofs.lemmas.Bool.{eq-eqb}
use Rattle.std.proofs.lemmas.Slice.Eq.{bytes_eq-Decides}
use Rattle.idle_notes.specs.Channels.{pairs}
use Rattle.idle_notes.specs.Sets.{all, none}
use Rattle.idle_notes.specs.declared.sets.Subsystems.{Subsystems}
use Rattle.song_queue.proofs.Same.{pointwise-refl, same_queue-refl}
use Rattle.song_queue.specs.State.{differ}
use Rattle.player_state.proofs.Songs.{same_songs-refl}
use Rattle.player_state.specs.Libraries.{library_after, same_songs}
use Rattle.player_state.specs.declared.state.Client.{Client}
use Rattle.player_state.specs.declared.state.Library.{Library}
use Rattle.player_state.specs.declared.state.Part.{Part}
use Rattle.partition_table.specs.Parts.{Known, known, part_at}
use Rattle.transitions.specs.Transitions.{TransitionData, parts_after}
use Rattle.connected_clients.proofs.Alike.{same_options-refl, same_outputs-refl, same_pairs-refl, same_playing-refl}
use Rattle.connected_clients.specs.Clients.{Watched, has_messages, is_this, names_of, options, output_flags, playing, raised_between, same_names, watched_at, watched_of}
use Rattle.partition.specs.Step.{moved_client, raised_by}
use Rattle.partition_laws.specs.Apart.{ShelfChanges, no_shelf_changes, shelf_changes}

abbrev pub names_known : List Known → List (List ℕ)
names_known fs = map (λ (f : Known). f.name) fs

-- what is raised for a client of a number: everything, if it goes; else by its partition before and after, by
-- what is written to the shelf, and by what all share before and after
abbrev pub spoken : Bool → ℕ → Option Part → Option Part → ShelfChanges → Library → Library → List Known → List Known → Subsystems
spoken goes number before after shelf l m fs gs =
    if goes then all else raised_between number (option_map watched_of before) (option_map watched_of after) (record none {
      database = not (same_songs l.songs m.songs);
      update = differ l.scan.runs m.scan.runs;
      stored_playlist = shelf.lists;
      sticker = shelf.stickers;
      partition = not (same_names (names_known fs) (names_known gs));
    })

at_watched : (index : ℕ) (ps : List Part) → watched_at index (map watched_of ps) ≡ option_map watched_of (part_at index ps)
at_watched index [] = refl
at_watched index (p ∷ ps) =
    elim (p.index == index) as (λ b. (if b then Some (watched_of p) else watched_at index (map watched_of ps)) ≡ option_map watched_of (if b then Some p else part_at index ps))
    [ true ↦ refl | false ↦ at_watched index ps ]

names_are : (ps : List Part) → names_of (map watched_of ps) ≡ names_known (map known ps)
names_are [] = refl
names_are (p ∷ ps) = ap (λ (names : List (List ℕ)). p.name ∷ names) (names_are ps)

pub raised_is : (index m at : ℕ) (ps : List Part) (l : Library) (t : TransitionData) (k : Client) → k.index ≡ index
    → raised_by m at ps l t k
    ≡ spoken (is_this (moved_client m t.response) k.number) k.number (part_at index ps) (part_at index (parts_after l.rate at t ps)) (shelf_changes t.written) l (library_after l t.scan)
    (map known ps) (map known (parts_after l.rate at t ps))
raised_is index m at ps l t k e =
    let qs : List Part = parts_after l.rate at t ps in
    let before : watched_at k.index (map watched_of ps) ≡ option_map watched_of (part_at index ps) = ap (λ n. watched_at n (map watched_of ps)) e ∙ at_watched index ps in
    let after : watched_at k.index (map watched_of qs) ≡ option_map watched_of (part_at index qs) = ap (λ n. watched_at n (map watched_of qs)) e ∙ at_watched index qs in
    λ i. if is_this (moved_client m t.response) k.number then all else raised_between k.number (before i) (after i) (record none {
      database = not (same_songs l.songs (library_after l t.scan).songs);
      update = differ l.scan.runs (library_after l t.scan).scan.runs;
      stored_playlist = (shelf_changes t.written).lists;
      sticker = (shelf_changes t.written).stickers;
      partition = not (same_names (names_are ps i) (names_are qs i));
    })

differ-self : (b : Bool) → differ b b ≡ false
differ-self true = refl
differ-self false = refl

begins-own : (h : Bool) → (not h && h) ≡ false
begins-own true = refl
begins-own false = refl

same_names-refl : (names : List (List ℕ)) → same_names names names ≡ true
unfolding same_names
same_names-refl names = pointwise-refl bytes_eq (λ a. (bytes_eq-Decides a a).1 refl) names

none_between : (number : ℕ) (w : Option Watched) → raised_between number w w none ≡ none
none_between number None = refl
none_between number (Some w) = λ i. record none {
  playlist = not (same_queue-refl w.queue i);
  player = not (same_playing-refl (playing w.player) i);
  mixer = not (eq-eqb w.volume w.volume refl i);
  output = not (same_outputs-refl (output_flags w.outputs) i);
  options = not (same_options-refl (options w.player) i);
  subscription = not (same_pairs-refl (pairs w.channels) i);
  message = begins-own (has_messages number w.channels) i;
}

-- where all that is spoken of stays, nothing is raised
pub unspoken : (number : ℕ) (part : Option Part) (l : Library) (fs : List Known) → spoken false number part part no_shelf_changes l l fs fs ≡ none
unspoken number part l fs =
    (λ i. raised_between number (option_map watched_of part) (option_map watched_of part) (record none {
      database = not (same_songs-refl l.songs i);
      update = differ-self l.scan.runs i;
      stored_playlist = false;
      sticker = false;
      partition = not (same_names-refl (names_known fs) i);
    }))
    ∙ none_between number (option_map watched_of part)
