-- What the rows of the tables read in the base profile.
use Rattle.std.proofs.Common.{◌≡◌, ◌∙◌, ℕ, Bool, true, false, cond, List, [], ◌∷◌, take, drop, Option, Some, None, Result, Ok, Err, refl, sym, ap}
use Rattle.std.specs.List.{find}
use Rattle.std.specs.Str.{bytes_eq, str_eq_ignore_ascii_case}
use Rattle.std.proofs.lemmas.Bool.{or_left, or_right}
use Rattle.mpd_text.specs.Songs.Tags.{base_tag_names, tag_text}
use Rattle.known_tags.specs.Sets.{has, same_tag}
use Rattle.known_tags.proofs.TenTags.{same_tag-self}
use Rattle.std.proofs.lemmas.Slice.Eq.{bytes_eq-Decides}
use Rattle.mpd_text.specs.declared.songs.song.TagName.{TagName}
use Rattle.mpd_text.specs.declared.songs.song.TagName.TheVariants as songs
use Rattle.known_tags.specs.KnownTags.{base_of}
use Rattle.filters.specs.declared.expression.Test.{Test}
use Rattle.filters.specs.declared.expression.Test.TheVariants.{Equals, Contains}
use Rattle.filters.specs.declared.words.Vocabulary.TheVariants.{Base}
use Rattle.command_arguments.specs.Forms as forms
use Rattle.command_arguments.specs.Readers.{map_ok, one_of, one_perhaps_of}
use Rattle.command_arguments.specs.Criteria.{filter_length, filter_of, filter_window_of, one_filter_of, perhaps_window_of}
use Rattle.command_arguments.specs.declared.forms.Position.{Position}
use Rattle.command_arguments.specs.declared.forms.Uri.{Uri}
use Rattle.command_arguments.specs.declared.readers.Misread.{Misread}
use Rattle.selections.specs.Groupings.{counting_of, grouping_of, known_as}
use Rattle.selections.specs.Selections.{placed_selection_of, selection_of}
use Rattle.selections.specs.declared.asked.Selection.{Selection}
use Rattle.mpd_text.specs.Answers.Range.{range_of}
use Rattle.mpd_command.specs.Names.{is_there}
use Rattle.mpd_command.specs.Tables.{Row, found}
use Rattle.mpd_command.specs.Connection.{rows as connection_rows, rows_from_notcommands}
use Rattle.mpd_command.specs.Database.{rows as database_rows, rows_from_listall, rows_from_rescan}
use Rattle.mpd_command.specs.Options.{rows as options_rows, rows_from_replay_gain_mode}
use Rattle.mpd_command.specs.Playlists.{rows as playlists_rows, rows_from_playlistadd}
use Rattle.mpd_command.specs.Queue.{rows as queue_rows, rows_from_playlist, rows_from_prio}
use Rattle.mpd_command.specs.Status.{rows as status_rows}
use Rattle.mpd_command.specs.declared.command_set.CommandSet.{CommandSet}
use Rattle.command_arguments.specs.declared.forms.Window.{Window}
use Rattle.command_arguments.specs.declared.criteria.Criteria.{Criteria}
use Rattle.command_laws.proofs.BaseFilters.{MayHave, Reads, alone, both-first, filter-base, from-read, mapped, one-filter-base}
use Rattle.command_laws.specs.Base.{IsBaseFilter, IsBaseTag, MayBeFilter, IsBaseAddition, IsBaseConnection, IsBaseCounting, IsBaseDatabase, IsBaseGrouping, IsBaseOption, IsBasePlaylist, IsBaseQueue, IsBaseSelection, IsBaseStatus, base_set}

-- what is found is so, where something is found
abbrev pub Finds : {A : Type 0} → (A → Type 0) → Result (Option A) Misread → Type 0
Finds P (Ok None) = Unit {0}
Finds P (Ok (Some a)) = P a
Finds P (Err e) = Unit {0}

-- each row that is there reads so
abbrev Rows : {A : Type 0} → (A → Type 0) → CommandSet → List (Row A) → Type 0
Rows P set [] = Unit {0}
Rows P set (row ∷ rows) = ((words : List (List ℕ)) → is_there row.0 (base_set set) ≡ true → Reads P (row.1 words)) × Rows P set rows

chosen : {A : Type 0} (P : A → Type 0) (b : Bool) (r : Result A Misread) (rest : Result (Option A) Misread)
    → (b ≡ true → Reads P r) → Finds P rest → Finds P (cond b (map_ok Some r) rest)
chosen P true (Ok a) rest h k = h refl
chosen P true (Err e) rest h k = tt
chosen P false r rest h k = k

found-in : {A : Type 0} (P : A → Type 0) (set : CommandSet) (rows : List (Row A)) → Rows P set rows
    → (word : List ℕ) (words : List (List ℕ)) → is_there word (base_set set) ≡ true → Finds P (found rows word words)
found-in P set [] h word words there = tt
found-in P set (row ∷ rows) h word words there =
    chosen P (bytes_eq word row.0) (row.1 words) (found rows word words)
    (λ same. h.0 words (ap (λ w. is_there w (base_set set)) (sym ((bytes_eq-Decides word row.0).0 same)) ∙ there))
    (found-in P set rows h.1 word words there)

-- a row, and those behind it
infixr 5 ◌⊙◌
◌⊙◌ : {A B : Type 0} → A → B → A × B
◌⊙◌ a b = (a, b)

-- a row that the everyday profile adds is not there
none-there : {B : Type 0} → false ≡ true → B
none-there e = absurd (cc)

-- the readers of the base profile
counts : (words : List (List ℕ)) → Reads IsBaseCounting (counting_of false words)
unfolding counting_of
counts words = from-read IsBaseFilter IsBaseCounting _ (filter_of Base Equals words) (filter-base Equals words) (λ criteria h. (criteria, refl, h, refl))

is-known : (name : TagName) → base_of (known_as name) ≡ Some name
is-known songs.Title = refl
is-known songs.Artist = refl
is-known songs.Album = refl
is-known songs.Date = refl
is-known songs.Genre = refl
is-known songs.Comment = refl
is-known songs.AlbumArtist = refl
is-known songs.Track = refl
is-known songs.Disc = refl
is-known songs.Composer = refl

abbrev HasFilter : TagName × Option Criteria → Type 0
HasFilter p = IsBaseTag p.0 × MayBeFilter p.1

-- what a word names is one of the names that it is looked for in
found-among : (p : TagName → Bool) (names : List TagName) → MayHave (λ name. has name names ≡ true) (find p names)
found-among p [] = tt
found-among p (name ∷ names) =
    elim (p name) as (λ b. MayHave (λ other. has other (name ∷ names) ≡ true) (cond b (Some name) (find p names))) [
      | true ↦ or_left (same_tag name name) (has name names) (same_tag-self name)
      | false ↦ later (find p names) (found-among p names)
    ]
  where
    later : (o : Option TagName) → MayHave (λ other. has other names ≡ true) o → MayHave (λ other. has other (name ∷ names) ≡ true) o
    later None h = tt
    later (Some other) h = or_right (same_tag other name) (has other names) h

named-base : (word : List ℕ) → MayHave IsBaseTag (forms.tag_of word)
unfolding forms.tag_of
named-base word = found-among (λ name. str_eq_ignore_ascii_case (tag_text name) word) base_tag_names

groups : (words : List (List ℕ)) → Reads IsBaseGrouping (grouping_of false words)
unfolding grouping_of
groups words =
    from-read HasFilter IsBaseGrouping _ (one_filter_of forms.tag_of Base Equals words) (one-filter-base IsBaseTag forms.tag_of Equals words named-base)
    (λ p h. (known_as p.0, p.0, refl, is-known p.0, h.0, h.1))

abbrev IsFiltered : Criteria × Option Window → Type 0
IsFiltered p = IsBaseFilter p.0

selects : (test : Test) (words : List (List ℕ)) → Reads IsBaseSelection (selection_of false test words)
unfolding selection_of
selects test words =
    let own : List (List ℕ) = take (filter_length words) words in
    from-read IsFiltered IsBaseSelection _ (filter_window_of Base test words)
    (both-first IsBaseFilter (filter_of Base test own) (perhaps_window_of (drop (filter_length words) words)) (filter-base test own)) (λ p h. (h, refl))

abbrev IsAddition : Selection × Option Position → Type 0
IsAddition p = IsBaseAddition p.0 p.1

adds : (test : Test) (words : List (List ℕ)) → Reads IsAddition (placed_selection_of false test words)
unfolding placed_selection_of
adds test words = from-read IsBaseFilter IsAddition _ (filter_of Base test words) (filter-base test words) (λ criteria h. ((h, refl), refl, refl))

-- the tables
connection : (set : CommandSet) → Rows IsBaseConnection set (connection_rows (base_set set))
unfolding connection_rows rows_from_notcommands
connection set =
    (λ words there. alone IsBaseConnection _ words tt)  -- close
    ⊙ (λ words there. alone IsBaseConnection _ words refl)  -- commands
    ⊙ (λ words there. none-there there)  -- decoders
    ⊙ (λ words there. alone IsBaseConnection _ words tt)  -- kill
    ⊙ (λ words there. none-there there)  -- listmounts
    ⊙ (λ words there. alone IsBaseConnection _ words refl)  -- notcommands
    ⊙ (λ words there. alone IsBaseConnection _ words tt)  -- ping
    ⊙ (λ words there. alone IsBaseConnection _ words refl)  -- tagtypes
    ⊙ (λ words there. none-there there)  -- urlhandlers
    ⊙ tt

status : (set : CommandSet) → Rows IsBaseStatus set (status_rows (base_set set))
unfolding status_rows
status set =
    (λ words there. alone IsBaseStatus _ words tt)  -- clearerror
    ⊙ (λ words there. alone IsBaseStatus _ words tt)  -- currentsong
    ⊙ (λ words there. search mapped)  -- idle
    ⊙ (λ words there. alone IsBaseStatus _ words tt)  -- noidle
    ⊙ (λ words there. none-there there)  -- stats
    ⊙ (λ words there. alone IsBaseStatus _ words refl)  -- status
    ⊙ tt

abbrev AtEnd : Uri × Option Position → Type 0
AtEnd p = p.1 ≡ None

queue : (set : CommandSet) → Rows IsBaseQueue set (queue_rows (base_set set))
unfolding queue_rows rows_from_playlist rows_from_prio
queue set =
    (λ words there. from-read AtEnd IsBaseQueue _ _ (mapped AtEnd _ (one_of forms.uri_of words) (λ uri. refl)) (λ p none. none))  -- add
    ⊙ (λ words there. search mapped)  -- addid
    ⊙ (λ words there. alone IsBaseQueue _ words tt)  -- clear
    ⊙ (λ words there. search mapped)  -- delete
    ⊙ (λ words there. search mapped)  -- deleteid
    ⊙ (λ words there. search mapped)  -- move
    ⊙ (λ words there. search mapped)  -- moveid
    ⊙ (λ words there. none-there there)  -- playlist
    ⊙ (λ words there. none-there there)  -- playlistfind
    ⊙ (λ words there. search mapped)  -- playlistid
    ⊙ (λ words there. search mapped)  -- playlistinfo
    ⊙ (λ words there. none-there there)  -- playlistsearch
    ⊙ (λ words there. search mapped)  -- plchanges
    ⊙ (λ words there. search mapped)  -- plchangesposid
    ⊙ (λ words there. search mapped)  -- prio
    ⊙ (λ words there. search mapped)  -- prioid
    ⊙ (λ words there. search mapped)  -- shuffle
    ⊙ (λ words there. search mapped)  -- swap
    ⊙ (λ words there. search mapped)  -- swapid
    ⊙ tt

options : (set : CommandSet) → Rows IsBaseOption set options_rows
unfolding options_rows rows_from_replay_gain_mode
options set =
    (λ words there. search mapped)  -- consume
    ⊙ (λ words there. search mapped)  -- crossfade
    ⊙ (λ words there. alone IsBaseOption _ words tt)  -- getvol
    ⊙ (λ words there. search mapped)  -- random
    ⊙ (λ words there. search mapped)  -- repeat
    ⊙ (λ words there. none-there there)  -- replay_gain_mode
    ⊙ (λ words there. none-there there)  -- replay_gain_status
    ⊙ (λ words there. search mapped)  -- setvol
    ⊙ (λ words there. search mapped)  -- single
    ⊙ (λ words there. none-there there)  -- volume
    ⊙ tt

database : (set : CommandSet) → Rows IsBaseDatabase set (database_rows (base_set set))
unfolding database_rows rows_from_listall rows_from_rescan
database set =
    (λ words there. none-there there)  -- albumart
    ⊙ (λ words there. from-read IsBaseCounting IsBaseDatabase _ _ (counts words) (λ counting h. h))  -- count
    ⊙ (λ words there. from-read IsBaseSelection IsBaseDatabase _ _ (selects Equals words) (λ selection h. h))  -- find
    ⊙ (λ words there. from-read IsAddition IsBaseDatabase _ _ (adds Equals words) (λ p h. h))  -- findadd
    ⊙ (λ words there. from-read IsBaseGrouping IsBaseDatabase _ _ (groups words) (λ grouping h. h))  -- list
    ⊙ (λ words there. search mapped)  -- listall
    ⊙ (λ words there. none-there there)  -- listallinfo
    ⊙ (λ words there. search mapped)  -- lsinfo
    ⊙ (λ words there. none-there there)  -- readcomments
    ⊙ (λ words there. none-there there)  -- readpicture
    ⊙ (λ words there. search mapped)  -- rescan
    ⊙ (λ words there. from-read IsBaseSelection IsBaseDatabase _ _ (selects Contains words) (λ selection h. h))  -- search
    ⊙ (λ words there. from-read IsAddition IsBaseDatabase _ _ (adds Contains words) (λ p h. h))  -- searchadd
    ⊙ (λ words there. none-there there)  -- searchaddpl
    ⊙ (λ words there. search mapped)  -- update
    ⊙ tt

abbrev WithoutPosition : {A B : Type 0} → A × B × Option Position → Type 0
WithoutPosition p = p.2 ≡ None

playlists : (set : CommandSet) → Rows IsBasePlaylist set (playlists_rows (base_set set))
unfolding playlists_rows rows_from_playlistadd
playlists set =
    (λ words there. search mapped)  -- listplaylist
    ⊙ (λ words there. search mapped)  -- listplaylistinfo
    ⊙ (λ words there. alone IsBasePlaylist _ words tt)  -- listplaylists
    ⊙ (λ words there. from-read WithoutPosition IsBasePlaylist _ _ (mapped WithoutPosition _ (one_perhaps_of forms.any_text range_of words) (λ p. refl)) (λ p none. none))  -- load
    ⊙ (λ words there. search mapped)  -- playlistadd
    ⊙ (λ words there. search mapped)  -- playlistclear
    ⊙ (λ words there. search mapped)  -- playlistdelete
    ⊙ (λ words there. search mapped)  -- playlistmove
    ⊙ (λ words there. search mapped)  -- rename
    ⊙ (λ words there. search mapped)  -- rm
    ⊙ (λ words there. search mapped)  -- save
    ⊙ tt

-- what is found in them
module _ (set : CommandSet) (word : List ℕ) (words : List (List ℕ)) (there : is_there word (base_set set) ≡ true) where
  pub connection-found : Finds IsBaseConnection (found (connection_rows (base_set set)) word words)
  connection-found = found-in IsBaseConnection set (connection_rows (base_set set)) (connection set) word words there

  pub status-found : Finds IsBaseStatus (found (status_rows (base_set set)) word words)
  status-found = found-in IsBaseStatus set (status_rows (base_set set)) (status set) word words there

  pub queue-found : Finds IsBaseQueue (found (queue_rows (base_set set)) word words)
  queue-found = found-in IsBaseQueue set (queue_rows (base_set set)) (queue set) word words there

  pub options-found : Finds IsBaseOption (found options_rows word words)
  options-found = found-in IsBaseOption set options_rows (options set) word words there

  pub database-found : Finds IsBaseDatabase (found (database_rows (base_set set)) word words)
  database-found = found-in IsBaseDatabase set (database_rows (base_set set)) (database set) word words there

  pub playlists-found : Finds IsBasePlaylist (found (playlists_rows (base_set set)) word words)
  playlists-found = found-in IsBasePlaylist set (playlists_rows (base_set set)) (playlists set) word words there
