-- What lines ask for in the base profile.
use Rattle.std.proofs.Common.{◌≡◌, ◌∙◌, ℕ, Bool, true, false, cond, List, [], ◌∷◌, Option, Some, None, option_map, Result, Ok, Err, refl, sym, ap, codes}
use Rattle.std.specs.Prelude.{slice_index_or}
use Rattle.std.specs.List.{position}
use Rattle.std.specs.Str.{bytes_eq}
use Rattle.std.proofs.lemmas.List.Quantifiers.{position-Some}
use Rattle.std.proofs.lemmas.Slice.Eq.{bytes_eq-Decides}
use Rattle.mpd_text.specs.Lines.Scan.{words_of}
use Rattle.mpd_text.specs.declared.answers.answer.ErrorNumber.TheVariants.{Permission}
use Rattle.mpd_text.specs.declared.lines.quoting.WordsFault.{WordsFault}
use Rattle.command_arguments.specs.declared.readers.Misread.{Misread}
use Rattle.mpd_command.specs.Commands.{command_of}
use Rattle.mpd_command.specs.Messages.{rows as messages_rows}
use Rattle.mpd_command.specs.Names.{all_names, name_of, is_forbidden, is_there, text_of}
use Rattle.mpd_command.specs.Outputs.{rows as outputs_rows}
use Rattle.mpd_command.specs.Partitions.{rows as partitions_rows}
use Rattle.mpd_command.specs.Playback.{rows as playback_rows}
use Rattle.mpd_command.specs.Requests.{named_of, of_name, read_as, request_from, request_of, request_with, with_arguments}
use Rattle.mpd_command.specs.Stickers.{rows as stickers_rows}
use Rattle.mpd_command.specs.Tables.{found, or_else, under}
use Rattle.mpd_command.specs.declared.command.Command.{Command}
use Rattle.mpd_command.specs.declared.command.Command.TheVariants as command
use Rattle.mpd_command.specs.declared.command_set.CommandSet.{CommandSet}
use Rattle.mpd_command.specs.declared.name.Name.{Name}
use Rattle.mpd_command.specs.declared.request.Ack.{Ack}
use Rattle.command_laws.specs.Base.{AsksForBase, BaseAsksForNoMore, IsBase, IsBaseConnection, IsBaseDatabase, IsBaseOption, IsBasePlaylist, IsBaseQueue, IsBaseStatus, base_set}
use Rattle.command_laws.proofs.BaseRows.{Finds, connection-found, database-found, options-found, playlists-found, queue-found, status-found}

-- what one table or another says
either : (r s : Result (Option Command) Misread) → Finds IsBase r → Finds IsBase s → Finds IsBase (or_else r s)
either (Ok None) s h k = k
either (Ok (Some c)) s h k = h
either (Err e) s h k = tt

-- a group's command as a command
lifted : {A : Type 0} (P : A → Type 0) (f : A → Command) (r : Result (Option A) Misread) → Finds P r → ((a : A) → P a → IsBase (f a)) → Finds IsBase (under f r)
lifted P f (Ok None) h k = tt
lifted P f (Ok (Some a)) h k = k a h
lifted P f (Err e) h k = tt

abbrev Any : {A : Type 0} → A → Type 0
Any a = Unit {0}

any-found : {A : Type 0} (r : Result (Option A) Misread) → Finds Any r
any-found (Ok None) = tt
any-found (Ok (Some a)) = tt
any-found (Err e) = tt

command-found : (set : CommandSet) (word : List ℕ) (words : List (List ℕ)) → is_there word (base_set set) ≡ true → Finds IsBase (command_of (base_set set) word words)
command-found set word words there =
    either _ _ (lifted IsBaseConnection command.Connection _ (connection-found set word words there) (λ a h. h))
    (either _ _ (lifted IsBaseStatus command.Status _ (status-found set word words there) (λ a h. h))
    (either _ _ (lifted Any command.Playback _ (any-found (found (playback_rows (base_set set)) word words)) (λ a h. tt))
    (either _ _ (lifted IsBaseQueue command.Queue _ (queue-found set word words there) (λ a h. h))
    (either _ _ (lifted IsBaseOption command.Options _ (options-found set word words there) (λ a h. h))
    (either _ _ (lifted IsBaseDatabase command.Database _ (database-found set word words there) (λ a h. h))
    (either _ _ (lifted IsBasePlaylist command.Playlists _ (playlists-found set word words there) (λ a h. h))
    (either _ _ (lifted Any command.Stickers _ (any-found (found stickers_rows word words)) (λ a h. tt))
    (either _ _ (lifted Any command.Outputs _ (any-found (found outputs_rows word words)) (λ a h. tt))
    (either _ _ (lifted Any command.Messages _ (any-found (found messages_rows word words)) (λ a h. tt))
    (lifted Any command.Partitions _ (any-found (found partitions_rows word words)) (λ a h. tt)))))))))))

-- the text of the name that a word is is the word
named-by : (f : ℕ → Name) → ((index : ℕ) → text_of (f index) ≡ slice_index_or all_names index (codes "")) → (word : List ℕ) (name : Name) (o : Option ℕ)
    → position (λ other. bytes_eq other word) all_names ≡ o → option_map f o ≡ Some name → text_of name ≡ word
named-by f says word name None at e = absurd (cc)
named-by f says word name (Some index) at e =
    let is : f index ≡ name = cc in
    sym (ap text_of is) ∙ says index
    ∙ (bytes_eq-Decides (slice_index_or all_names index (codes "")) word).0 ((position-Some (λ other. bytes_eq other word) all_names index (codes "") at).1)

named : (word : List ℕ) (name : Name) → name_of word ≡ Some name → text_of name ≡ word
unfolding name_of
named word name e = named-by _ (λ index. refl) word name (position (λ other. bytes_eq other word) all_names) refl e

-- the command that words name
abbrev Names : CommandSet → Result (Name × Command) Ack → Type 0
Names set (Ok named) = (is_there (text_of named.0) (base_set set) ≡ true) × IsBase named.1
Names set (Err ack) = Unit {0}

read-base : (set : CommandSet) (name : Name) (word : List ℕ) (r : Result (Option Command) Misread) → is_there (text_of name) (base_set set) ≡ true → Finds IsBase r → Names set (read_as name word r)
read-base set name word (Ok (Some c)) there h = (there, h)
read-base set name word (Ok None) there h = tt
read-base set name word (Err e) there h = tt

allowed : (set : CommandSet) (b : Bool) (ack : Ack) (r : Result (Name × Command) Ack) → Names set r → Names set (cond b (Err ack) r)
allowed set true ack r h = tt
allowed set false ack r h = h

by-name : (set : CommandSet) (o : Option Name) (word : List ℕ) (words : List (List ℕ)) → name_of word ≡ o → is_there word (base_set set) ≡ true → Names set (of_name o word words (base_set set))
by-name set None word words is there = tt
by-name set (Some name) word words is there =
    allowed set (is_forbidden word (base_set set)) (record { number = Permission; command = Some name; text = codes "no permission for \"kill\"" })
    (with_arguments (base_set set) name word words)
    (read-base set name word (command_of (base_set set) word words) (ap (λ w. is_there w (base_set set)) (named word name is) ∙ there) (command-found set word words there))

by-word : (set : CommandSet) (b : Bool) (word : List ℕ) (words : List (List ℕ)) → is_there word (base_set set) ≡ b → Names set (of_name (cond b (name_of word) None) word words (base_set set))
by-word set true word words there = by-name set (name_of word) word words refl there
by-word set false word words there = tt

by-words : (set : CommandSet) (words : List (List ℕ)) → Names set (named_of words (base_set set))
by-words set [] = tt
by-words set (word ∷ words) = by-word set (is_there word (base_set set)) word words refl

from-named : (set : CommandSet) (r : Result (Name × Command) Ack) → Names set r → AsksForBase set (request_from r)
from-named set (Ok named) h = h
from-named set (Err ack) h = tt

from-words : (set : CommandSet) (r : Result (List (List ℕ)) WordsFault) → AsksForBase set (request_with r (base_set set))
from-words set (Ok words) = from-named set (named_of words (base_set set)) (by-words set words)
from-words set (Err fault) = tt

pub asks_for_no_more : BaseAsksForNoMore
unfolding request_of
asks_for_no_more line set = from-words set (words_of line)
