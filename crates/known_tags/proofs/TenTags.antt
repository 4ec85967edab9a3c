-- There are 1,024 sets of the ten tags: what holds of each set is computed for each.
use Rattle.std.proofs.Common.{◌≡◌, ℕ, ◌-◌, ◌^◌, ◌<◌, ◌==◌, Bool, true, false, ◌&&◌, cond, List, [], ◌∷◌, ◌++◌, filter, refl, sym, ap, ◌∙◌}
use Rattle.std.specs.List.{flat_map}
use Rattle.std.specs.Prelude.{◌↔◌, bit_and, bit_or}
use Rattle.std.proofs.lemmas.Bool.{eqb-true, eq-eqb, and_parts, and_from, agree_below_at}
use Rattle.std.proofs.lemmas.Map.Views.{any-filter_same}
use Rattle.std.proofs.Math.Bool.{and-true}
use Rattle.mpd_text.specs.Songs.Tags.{tag_names, tag_number}
use Rattle.mpd_text.specs.declared.songs.song.TagName.{TagName}
use Rattle.mpd_text.specs.declared.songs.song.TagName.TheVariants.{Title, Artist, Album, Date, Genre, Comment, AlbumArtist, Track, Disc, Composer}
use Rattle.mpd_text.proofs.TagNumbers.{tag_number-inj}
use Rattle.known_tags.specs.Bits.{is_set, members, bits_of, bits_of-members}
use Rattle.known_tags.specs.Sets.{same_tag, same_tags, is_all, has, joined, left}

pub same_tags-equal : (xs ys : List TagName) → same_tags xs ys ≡ true → xs ≡ ys
same_tags-equal [] [] h = refl
same_tags-equal [] (y ∷ ys) h = cc
same_tags-equal (x ∷ xs) [] h = cc
same_tags-equal (x ∷ xs) (y ∷ ys) h =
    let both = and_parts (same_tag x y) (same_tags xs ys) h in
    let first : x ≡ y = tag_number-inj x y (eqb-true (tag_number x) (tag_number y) both.0) in
    let rest : xs ≡ ys = same_tags-equal xs ys both.1 in
    cc

-- a tag more
abbrev joins : TagName → ℕ → Bool
joins name bits = same_tags (members (bit_or bits (2 ^ tag_number name))) (joined name (members bits))

joins-each : (name : TagName) (bits : ℕ) → bits < 1024 → joins name bits ≡ true
unfolding members joined
joins-each Title bits below = agree_below_at (joins Title) (λ _. true) 1024 bits refl below
joins-each Artist bits below = agree_below_at (joins Artist) (λ _. true) 1024 bits refl below
joins-each Album bits below = agree_below_at (joins Album) (λ _. true) 1024 bits refl below
joins-each Date bits below = agree_below_at (joins Date) (λ _. true) 1024 bits refl below
joins-each Genre bits below = agree_below_at (joins Genre) (λ _. true) 1024 bits refl below
joins-each Comment bits below = agree_below_at (joins Comment) (λ _. true) 1024 bits refl below
joins-each AlbumArtist bits below = agree_below_at (joins AlbumArtist) (λ _. true) 1024 bits refl below
joins-each Track bits below = agree_below_at (joins Track) (λ _. true) 1024 bits refl below
joins-each Disc bits below = agree_below_at (joins Disc) (λ _. true) 1024 bits refl below
joins-each Composer bits below = agree_below_at (joins Composer) (λ _. true) 1024 bits refl below

pub members-joined : (name : TagName) (bits : ℕ) → bits < 1024 → members (bit_or bits (2 ^ tag_number name)) ≡ joined name (members bits)
members-joined name bits below = same_tags-equal _ _ (joins-each name bits below)

-- a tag less
abbrev leaves : TagName → ℕ → Bool
leaves name bits = same_tags (members (bit_and bits (1023 - 2 ^ tag_number name))) (left name (members bits))

leaves-each : (name : TagName) (bits : ℕ) → bits < 1024 → leaves name bits ≡ true
unfolding members
leaves-each Title bits below = agree_below_at (leaves Title) (λ _. true) 1024 bits refl below
leaves-each Artist bits below = agree_below_at (leaves Artist) (λ _. true) 1024 bits refl below
leaves-each Album bits below = agree_below_at (leaves Album) (λ _. true) 1024 bits refl below
leaves-each Date bits below = agree_below_at (leaves Date) (λ _. true) 1024 bits refl below
leaves-each Genre bits below = agree_below_at (leaves Genre) (λ _. true) 1024 bits refl below
leaves-each Comment bits below = agree_below_at (leaves Comment) (λ _. true) 1024 bits refl below
leaves-each AlbumArtist bits below = agree_below_at (leaves AlbumArtist) (λ _. true) 1024 bits refl below
leaves-each Track bits below = agree_below_at (leaves Track) (λ _. true) 1024 bits refl below
leaves-each Disc bits below = agree_below_at (leaves Disc) (λ _. true) 1024 bits refl below
leaves-each Composer bits below = agree_below_at (leaves Composer) (λ _. true) 1024 bits refl below

pub members-left : (name : TagName) (bits : ℕ) → bits < 1024 → members (bit_and bits (1023 - 2 ^ tag_number name)) ≡ left name (members bits)
members-left name bits below = same_tags-equal _ _ (leaves-each name bits below)

is-one : (name : TagName) → has name tag_names ≡ true
is-one Title = refl
is-one Artist = refl
is-one Album = refl
is-one Date = refl
is-one Genre = refl
is-one Comment = refl
is-one AlbumArtist = refl
is-one Track = refl
is-one Disc = refl
is-one Composer = refl

-- a tag is among those of the ten that pass a test where it passes
pub has-filter : (p : TagName → Bool) (name : TagName) → has name (filter p tag_names) ≡ p name
has-filter p name =
    any-filter_same (same_tag name) p (p name) (λ other e. ap p (sym (tag_number-inj name other (eqb-true (tag_number name) (tag_number other) e)))) tag_names
    ∙ ap (λ b. p name && b) (is-one name) ∙ and-true (p name)

-- a tag is in a set where its bit is set
pub has-members : (bits : ℕ) (name : TagName) → has name (members bits) ≡ is_set bits name
unfolding members
has-members bits name = has-filter (is_set bits) name

pub filter-alike : (p q : TagName → Bool) → ((name : TagName) → p name ≡ q name) → (names : List TagName) → filter p names ≡ filter q names
filter-alike p q same [] = refl
filter-alike p q same (name ∷ names) = λ i. cond (same name i) (name ∷ filter-alike p q same names i) (filter-alike p q same names i)

-- what passes one test and then another
pub filter-filter : (p q : TagName → Bool) (names : List TagName) → filter q (filter p names) ≡ filter (λ name. p name && q name) names
filter-filter p q [] = refl
filter-filter p q (name ∷ names) =
    elim (p name) as (λ b. filter q (cond b (name ∷ filter p names) (filter p names)) ≡ cond (b && q name) (name ∷ filter (λ n. p n && q n) names) (filter (λ n. p n && q n) names)) [
      | true ↦ (λ i. cond (q name) (name ∷ filter-filter p q names i) (filter-filter p q names i))
      | false ↦ filter-filter p q names
    ]

pub filter-all : (names : List TagName) → filter (λ name. true) names ≡ names
filter-all [] = refl
filter-all (name ∷ names) = ap (λ (rest : List TagName). name ∷ rest) (filter-all names)

-- what is said of the tags of a set is said where the bit of a tag is set
pub said-where : (bits : ℕ) (f : TagName → List ℕ) (names : List TagName) → flat_map (λ name. cond (is_set bits name) (f name) []) names ≡ flat_map f (filter (is_set bits) names)
said-where bits f [] = refl
said-where bits f (name ∷ names) =
    elim (is_set bits name) as (λ b. cond b (f name) [] ++ flat_map (λ n. cond (is_set bits n) (f n) []) names ≡ flat_map f (cond b (name ∷ filter (is_set bits) names) (filter (is_set bits) names))) [
      | true ↦ ap (λ (rest : List ℕ). f name ++ rest) (said-where bits f names)
      | false ↦ said-where bits f names
    ]

-- a set has all tags where all bits are set
pub all-set : (bits : ℕ) → bits < 1024 → (bits == 1023) ≡ is_all (members bits)
unfolding members
all-set bits below = agree_below_at (λ n. n == 1023) (λ n. is_all (members n)) 1024 bits refl below

pub same_tag-self : (name : TagName) → same_tag name name ≡ true
same_tag-self name = eq-eqb (tag_number name) (tag_number name) refl

same_tags-self : (names : List TagName) → same_tags names names ≡ true
same_tags-self [] = refl
same_tags-self (name ∷ names) = and_from (same_tag name name) (same_tags names names) (same_tag-self name) (same_tags-self names)

-- the set of all tags is told by its test
pub is_all-whole : (set : List TagName) → (is_all set ≡ true) ↔ (set ≡ tag_names)
is_all-whole set = (same_tags-equal set tag_names, λ e. ap (λ (tags : List TagName). same_tags tags tag_names) e ∙ same_tags-self tag_names)

-- two sets are told apart by their bits
pub same-bits : (result : Bool) (a b : ℕ) (first second : List TagName) → result ≡ (a == b) → a < 1024 → b < 1024 → members a ≡ first → members b ≡ second
    → result ≡ (bits_of first == bits_of second)
same-bits result a b first second e below under is_first is_second =
    e ∙ sym (λ i. (ap (λ set. bits_of set) (sym is_first) ∙ bits_of-members a below) i == (ap (λ set. bits_of set) (sym is_second) ∙ bits_of-members b under) i)
