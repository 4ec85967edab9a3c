-- What names do to a set, one after the other.
use Rattle.std.proofs.Common.{◌≡◌, ℕ, Bool, true, false, not, ◌&&◌, ◌||◌, ◌+◌, ◌<◌, ◌≤◌, List, [], ◌∷◌, Some, None, length, get_or, drop, filter, refl, sym, ap, ◌∙◌}
use Rattle.std.proofs.lemmas.List.{drop_more, drop_all}
use Rattle.std.proofs.Math.Bool.{or-false}
use Rattle.mpd_text.specs.Songs.Tags.{tag_names}
use Rattle.mpd_text.specs.declared.songs.song.TagName.{TagName}
use Rattle.known_tags.specs.declared.known_tag.KnownTag.{KnownTag}
use Rattle.known_tags.specs.KnownTags.{base_of}
use Rattle.known_tags.specs.Bits.{is_set, members}
use Rattle.known_tags.specs.Sets.{has, joined, same_tag, is_base, is_named, joined_by, left_by, enabled, disabled}
use Rattle.known_tags.proofs.TenTags.{has-filter, filter-alike, filter-filter, filter-all}

or-assoc : (a b c : Bool) → (a || (b || c)) ≡ ((a || b) || c)
or-assoc true b c = refl
or-assoc false b c = refl

not-or : (a b : Bool) → (not a && not b) ≡ not (a || b)
not-or true b = refl
not-or false b = refl

-- no tag joins a set
pub none-joins : (bits : ℕ) → members bits ≡ filter (λ name. has name (members bits) || false) tag_names
unfolding members
none-joins bits = filter-alike (is_set bits) (λ name. has name (members bits) || false) (λ name. sym (or-false (has name (members bits)) ∙ has-filter (is_set bits) name)) tag_names

-- a known tag that is one of the ten joins a set as that one
pub one-joins : (tag : KnownTag) (name : TagName) (set : List TagName) → base_of tag ≡ Some name → joined name set ≡ joined_by tag set
unfolding joined joined_by
one-joins tag name set e =
    filter-alike (λ other. has other set || same_tag other name) (λ other. has other set || is_base other (base_of tag))
    (λ other. ap (λ base. has other set || is_base other base) (sym e)) tag_names

-- a known tag that is none of the ten does not join
pub none-known-joins : (tag : KnownTag) (bits : ℕ) → base_of tag ≡ None → members bits ≡ joined_by tag (members bits)
unfolding joined_by
none-known-joins tag bits e =
    none-joins bits
    ∙ filter-alike (λ name. has name (members bits) || false) (λ name. has name (members bits) || is_base name (base_of tag))
    (λ name. ap (λ base. has name (members bits) || is_base name base) (sym e)) tag_names

-- a known tag that is none of the ten does not leave
pub none-leaves : (tag : KnownTag) (set : List TagName) → base_of tag ≡ None → set ≡ left_by tag set
none-leaves tag set e =
    sym (filter-all set) ∙ filter-alike (λ name. true) (λ name. not (is_base name (base_of tag))) (λ name. ap (λ base. not (is_base name base)) (sym e)) set

-- the first name joins, then the others
pub enabled-cons : (tag : KnownTag) (named : List KnownTag) (set : List TagName) → enabled named (joined_by tag set) ≡ enabled (tag ∷ named) set
unfolding enabled joined_by
enabled-cons tag named set =
    filter-alike (λ name. has name (joined_by tag set) || is_named name named) (λ name. has name set || (is_base name (base_of tag) || is_named name named))
    (λ name. ap (λ b. b || is_named name named) (has-filter (λ other. has other set || is_base other (base_of tag)) name) ∙ sym (or-assoc (has name set) (is_base name (base_of tag)) (is_named name named)))
    tag_names

-- the first name leaves, then the others
pub disabled-cons : (tag : KnownTag) (named : List KnownTag) (set : List TagName) → disabled named (left_by tag set) ≡ disabled (tag ∷ named) set
disabled-cons tag named set =
    filter-filter (λ name. not (is_base name (base_of tag))) (λ name. not (is_named name named)) set
    ∙ filter-alike (λ name. not (is_base name (base_of tag)) && not (is_named name named)) (λ name. not (is_base name (base_of tag) || is_named name named))
    (λ name. not-or (is_base name (base_of tag)) (is_named name named)) set

-- a step of a loop over the names
pub enabled-step : (named : List KnownTag) (i : ℕ) (d : KnownTag) (set new whole : List TagName) → i < length named → new ≡ joined_by (get_or named i d) set
    → enabled (drop i named) set ≡ whole → enabled (drop (i + 1) named) new ≡ whole
enabled-step named i d set new whole within joins before =
    ap (enabled (drop (i + 1) named)) joins ∙ enabled-cons (get_or named i d) (drop (i + 1) named) set
    ∙ sym (ap (λ (names : List KnownTag). enabled names set) (drop_more named i d within)) ∙ before

pub disabled-step : (named : List KnownTag) (i : ℕ) (d : KnownTag) (set new whole : List TagName) → i < length named → new ≡ left_by (get_or named i d) set
    → disabled (drop i named) set ≡ whole → disabled (drop (i + 1) named) new ≡ whole
disabled-step named i d set new whole within leaves before =
    ap (disabled (drop (i + 1) named)) leaves ∙ disabled-cons (get_or named i d) (drop (i + 1) named) set
    ∙ sym (ap (λ (names : List KnownTag). disabled names set) (drop_more named i d within)) ∙ before

none-named : (bits : ℕ) → members bits ≡ enabled [] (members bits)
unfolding enabled
none-named bits = none-joins bits

-- all names are done
pub enabled-done : (named : List KnownTag) (i bits : ℕ) (whole : List TagName) → length named ≤ i → enabled (drop i named) (members bits) ≡ whole → members bits ≡ whole
enabled-done named i bits whole done e = none-named bits ∙ ap (λ (names : List KnownTag). enabled names (members bits)) (sym (drop_all i named done)) ∙ e

pub disabled-done : (named : List KnownTag) (i : ℕ) (set whole : List TagName) → length named ≤ i → disabled (drop i named) set ≡ whole → set ≡ whole
disabled-done named i set whole done e = sym (filter-all set) ∙ ap (λ (names : List KnownTag). disabled names set) (sym (drop_all i named done)) ∙ e
