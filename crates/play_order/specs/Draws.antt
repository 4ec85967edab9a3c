-- What is remembered of a random order: ranks, played songs, and the generator that ranks are drawn from (MPD
-- protocol reference, Playback options, `random`; that an order goes in rounds, and how ranks are drawn, is
-- this profile's).
use Rattle.std.specs.Prelude.{ℕ, ◌≡◌, zero, suc, Bool, false, ◌==◌, not, All, List, [], ◌∷◌, ◌++◌, map, filter, find}
use Rattle.std.specs.List.{list_any}
use Rattle.std.specs.Option.{option_map_or}
use Rattle.rand_pcg.specs.Lcg.{Lcg}
use Rattle.rand_pcg.specs.Pcg.{pcg32}
use Rattle.song_queue.specs.declared.entry.Entry.{Entry}
use Rattle.play_order.specs.declared.modes.Rank.{Rank}

-- each entry's rank, in the order in which they were drawn; the ids of the songs that were played in this
-- round, the last one last; and the generator
pub record RoundState : Type 0 where
  pub ranks : List Rank
  pub played : List ℕ
  pub generator : Lcg

-- the ranks that these ids draw one after another
abbrev pub ranks_drawn : Lcg → List ℕ → List Rank
ranks_drawn g [] = []
ranks_drawn g (id ∷ ids) = record { id = id; rank = (pcg32 g).0 } ∷ ranks_drawn (pcg32 g).1 ids

-- the generator when each of these ids has drawn a word
abbrev pub generator_after : Lcg → List ℕ → Lcg
generator_after g [] = g
generator_after g (id ∷ ids) = generator_after (pcg32 g).1 ids

-- so many words, drawn one after another
abbrev pub words_drawn : Lcg → ℕ → List ℕ
words_drawn g zero = []
words_drawn g (suc count) = (pcg32 g).0 ∷ words_drawn (pcg32 g).1 count

-- the generator when so many words were drawn
abbrev pub generator_after_words : Lcg → ℕ → Lcg
generator_after_words g zero = g
generator_after_words g (suc count) = generator_after_words (pcg32 g).1 count

-- the rank of an id; 0, if it has none
abbrev pub rank_of : List Rank → ℕ → ℕ
rank_of ranks id = option_map_or (λ r. r.rank) (find (λ r. r.id == id) ranks) 0

-- whether an id is one of these
abbrev pub is_among : ℕ → List ℕ → Bool
is_among id ids = list_any (λ other. other == id) ids

-- no entry has one of the ids
abbrev pub LackIds : List Entry → List ℕ → Type 0
LackIds entries ids = All (λ e. is_among e.id ids ≡ false) entries

-- whether an entry has this id
abbrev pub has_id : ℕ → Entry → Bool
has_id id e = e.id == id

abbrev pub ids_of : List Entry → List ℕ
ids_of entries = map (λ e. e.id) entries

-- nothing was played, and no entry has a rank
abbrev pub opened : Lcg → RoundState
opened g = record { ranks = []; played = []; generator = g }

-- entries with these ids join the queue: each draws a rank, also while the order is not random
abbrev pub added : RoundState → List ℕ → RoundState
added round ids = record round {
  ranks = round.ranks ++ ranks_drawn round.generator ids;
  generator = generator_after round.generator ids;
}

-- entries with these ids leave the queue: they lose their ranks, and count as played no more
abbrev pub without : RoundState → List ℕ → RoundState
without round ids = record round {
  ranks = filter (λ r. not (is_among r.id ids)) round.ranks;
  played = filter (λ id. not (is_among id ids)) round.played;
}

-- so many words are drawn: ranks and played songs stay
abbrev pub drawn_from : RoundState → ℕ → RoundState
drawn_from round count = record round { generator = generator_after_words round.generator count }

-- a new round: nothing was played, and each of the ids draws a rank
abbrev pub renewed : RoundState → List ℕ → RoundState
renewed round ids = record {
  ranks = ranks_drawn round.generator ids;
  played = [];
  generator = generator_after round.generator ids;
}

-- the ids without one of them
abbrev pub others : ℕ → List ℕ → List ℕ
others id ids = filter (λ other. not (other == id)) ids

-- a song starts: its id is the last that was played
abbrev pub moved_last : List ℕ → ℕ → List ℕ
moved_last ids id = others id ids ++ id ∷ []

-- random order is turned off: nothing counts as played
abbrev pub emptied : RoundState → RoundState
emptied round = record round { played = [] }
