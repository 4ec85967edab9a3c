-- What the words of a command are read as: a wrong number of them is refused first, then the first from the
-- left that has not its form (MPD protocol reference, Requests; the order is this profile's).
use Rattle.std.specs.Prelude.{◌≡◌, ℕ, List, [], ◌∷◌, fold, Option, Some, None, Result, Ok, Err, if◌then◌else◌, codes}
use Rattle.std.specs.Str.{bytes_eq}
use Rattle.mpd_text.specs.Answers.Number.{number_of}
use Rattle.idle_notes.specs.declared.sets.Subsystems.{Subsystems}
use Rattle.idle_notes.specs.declared.subsystem.Subsystem.{Subsystem}
use Rattle.idle_notes.specs.Names.{subsystem_of}
use Rattle.idle_notes.specs.Sets.{none, all, with_one}
use Rattle.command_arguments.specs.declared.readers.Misread.{Misread}
use Rattle.command_arguments.specs.declared.readers.Misread.TheVariants.{WrongNumber, Bad, NoMemory}

-- what is given is this, unless memory ran out
abbrev pub Gives : {A : Type 0} → Result A Misread → Result A Misread → Type 0
Gives (Ok a) exact = exact ≡ Ok a
Gives (Err NoMemory) exact = Unit {0}
Gives (Err WrongNumber) exact = exact ≡ Err WrongNumber
Gives (Err (Bad word)) exact = exact ≡ Err (Bad word)

abbrev pub map_ok : {A B : Type 0} → (A → B) → Result A Misread → Result B Misread
map_ok f (Ok a) = Ok (f a)
map_ok f (Err e) = Err e

abbrev pub read_or : {A : Type 0} → Option A → List ℕ → Result A Misread
read_or (Some a) word = Ok a
read_or None word = Err (Bad word)

-- a word, read in its form
abbrev pub argument_of : {A : Type 0} → (List ℕ → Option A) → List ℕ → Result A Misread
argument_of read word = read_or (read word) word

-- two values, where both are given; else the first fault
abbrev pub both : {A B : Type 0} → Result A Misread → Result B Misread → Result (A × B) Misread
both (Err e) second = Err e
both (Ok a) (Err e) = Err e
both (Ok a) (Ok b) = Ok (a, b)

-- no argument
abbrev pub none_of : {A : Type 0} → A → List (List ℕ) → Result A Misread
none_of a [] = Ok a
none_of a (word ∷ words) = Err WrongNumber

-- one argument
abbrev pub one_of : {A : Type 0} → (List ℕ → Option A) → List (List ℕ) → Result A Misread
one_of read [] = Err WrongNumber
one_of read (word ∷ []) = argument_of read word
one_of read (word ∷ more ∷ words) = Err WrongNumber

-- one argument or none
abbrev pub perhaps_of : {A : Type 0} → (List ℕ → Option A) → List (List ℕ) → Result (Option A) Misread
perhaps_of read [] = Ok None
perhaps_of read (word ∷ []) = map_ok Some (argument_of read word)
perhaps_of read (word ∷ more ∷ words) = Err WrongNumber

-- two arguments
abbrev pub two_of : {A B : Type 0} → (List ℕ → Option A) → (List ℕ → Option B) → List (List ℕ) → Result (A × B) Misread
two_of first second (a ∷ b ∷ []) = both (argument_of first a) (argument_of second b)
two_of first second _ = Err WrongNumber

-- three arguments
abbrev pub three_of : {A B C : Type 0} → (List ℕ → Option A) → (List ℕ → Option B) → (List ℕ → Option C) → List (List ℕ) → Result (A × B × C) Misread
three_of first second third (a ∷ b ∷ c ∷ []) = map_ok (λ p. (p.0, p.1.0, p.1.1)) (both (argument_of first a) (both (argument_of second b) (argument_of third c)))
three_of first second third _ = Err WrongNumber

-- one argument, and perhaps one after it
abbrev pub one_perhaps_of : {A B : Type 0} → (List ℕ → Option A) → (List ℕ → Option B) → List (List ℕ) → Result (A × Option B) Misread
one_perhaps_of first second (a ∷ []) = map_ok (λ x. (x, None)) (argument_of first a)
one_perhaps_of first second (a ∷ b ∷ []) = both (argument_of first a) (map_ok Some (argument_of second b))
one_perhaps_of first second _ = Err WrongNumber

-- any number of arguments
abbrev pub many_of : {A : Type 0} → (List ℕ → Option A) → List (List ℕ) → Result (List A) Misread
many_of read [] = Ok []
many_of read (word ∷ words) = map_ok (λ p. p.0 ∷ p.1) (both (argument_of read word) (many_of read words))

-- at least one argument
abbrev pub some_of : {A : Type 0} → (List ℕ → Option A) → List (List ℕ) → Result (List A) Misread
some_of read [] = Err WrongNumber
some_of read (word ∷ words) = many_of read (word ∷ words)

-- a number or none; -1 is none
abbrev pub number_or_none_of : List (List ℕ) → Result (Option ℕ) Misread
number_or_none_of [] = Ok None
number_or_none_of (word ∷ []) = if bytes_eq word (codes "-1") then Ok None else map_ok Some (argument_of number_of word)
number_or_none_of (word ∷ more ∷ words) = Err WrongNumber

-- one argument, and at least one of another form after it
abbrev pub one_many_of : {A B : Type 0} → (List ℕ → Option A) → (List ℕ → Option B) → List (List ℕ) → Result (A × List B) Misread
one_many_of first second (a ∷ b ∷ words) = both (argument_of first a) (many_of second (b ∷ words))
one_many_of first second _ = Err WrongNumber

-- the set of some subsystems
abbrev pub joined : List Subsystem → Subsystems
joined named = fold with_one none named

-- any number of subsystems; all of them where none is named
abbrev pub subsystems_of : List (List ℕ) → Result Subsystems Misread
subsystems_of [] = Ok all
subsystems_of (word ∷ words) = map_ok joined (many_of subsystem_of (word ∷ words))
