-- The names of the channels that somebody listens to.
use Rattle.std.proofs.Common.{◌≡◌, ◌∙◌, ℕ, Bool, true, false, ◌||◌, List, [], ◌∷◌, ◌++◌, map, refl, sym, ap}
use Rattle.std.specs.Prelude.{◌↔◌}
use Rattle.std.specs.List.{flat_map, Contains}
use Rattle.std.specs.List.Sorted.{IsStrictlySortedBy}
use Rattle.std.specs.Str.{bytes_eq}
use Rattle.std.specs.Cmp.Lexicographic.{texts_ties}
use Rattle.idle_notes.specs.declared.channels.Member.{Member}
use Rattle.mpd_text.specs.Texts.{by_bytes}
use Rattle.idle_notes.specs.Channels.{MemberData, data_of, channel_names, has_name, hears}
use Rattle.mpd_text.proofs.Ascending.{among, among_from, among_gives, ascending-rises, has-each}

pub names-rise : (members : List MemberData) → IsStrictlySortedBy by_bytes (channel_names members)
unfolding channel_names
names-rise members = ascending-rises (flat_map (λ (m : MemberData). m.names) members)

or-assoc : (a b c : Bool) → ((a || b) || c) ≡ (a || (b || c))
or-assoc true b c = refl
or-assoc false b c = refl

any-append : (name : List ℕ) (xs ys : List (List ℕ)) → has_name name (xs ++ ys) ≡ (has_name name xs || has_name name ys)
any-append name [] ys = refl
any-append name (x ∷ xs) ys = ap (λ b. bytes_eq name x || b) (any-append name xs ys) ∙ sym (or-assoc (bytes_eq name x) (has_name name xs) (has_name name ys))

any-flat : (name : List ℕ) (members : List MemberData) → has_name name (flat_map (λ (m : MemberData). m.names) members) ≡ hears name members
any-flat name [] = refl
any-flat name (m ∷ members) = any-append name m.names (flat_map (λ (m : MemberData). m.names) members) ∙ ap (λ b. has_name name m.names || b) (any-flat name members)

among-is : (name : List ℕ) (names : List (List ℕ)) → among name names ≡ has_name name names
among-is name [] = refl
among-is name (x ∷ xs) = ap (λ b. b || among name xs) (sym (texts_ties name x)) ∙ ap (λ b. bytes_eq name x || b) (among-is name xs)

pub names-heard : (members : List MemberData) (name : List ℕ) → Contains (channel_names members) name ↔ (hears name members ≡ true)
unfolding channel_names
names-heard members name =
    let names : List (List ℕ) = flat_map (λ (m : MemberData). m.names) members in (
      (λ h. sym (among-is name names ∙ any-flat name members) ∙ among_from names name ((has-each names name).0 h)),
      (λ h. (has-each names name).1 (among_gives names name (among-is name names ∙ any-flat name members ∙ h))),
    )

-- what is known of each, read at the members
pub flat-data : (members : List Member) → flat_map (λ (m : Member). m.names.items) members ≡ flat_map (λ (m : MemberData). m.names) (map data_of members)
flat-data [] = refl
flat-data (m ∷ members) = ap (λ rest. m.names.items ++ rest) (flat-data members)
