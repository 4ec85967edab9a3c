-- What a shelf in memory shows is what its contents show.
use Rattle.std.proofs.Common.{◌≡◌, ◌⊎◌, inl, inr, ℕ, true, false, cond, not, ◌&&◌, List, [], ◌∷◌, map, Option, Some, None, option_map, string_bytes, bytes_eq, refl, sym, ap, ◌∙◌, if◌then◌else◌}
use Rattle.std.specs.FinMap as finite
use Rattle.std.specs.FinMap.{find, IsAntisymmetric, nat_cmp-IsAntisymmetric, slice_cmp-IsAntisymmetric, get-empty, get-insert, get-retain_keys, get-from_entries, same_map}
use Rattle.std.specs.Map.{lookup}
use Rattle.std.specs.Cmp.{IsTotalOrder}
use Rattle.std.specs.Cmp.Lexicographic.{slice_cmp}
use Rattle.std.specs.Ordering.{eq_by_cmp, is_eq, nat_cmp, ordering_then}
use Rattle.std.specs.BTreeMap.{get_by_text}
use Rattle.std.specs.declared.alloc.Global.{Global}
use Rattle.std.specs.declared.cmp.Ordering.{Ordering}
use Rattle.std.specs.declared.cmp.Ordering.TheVariants.{Less, Equal, Greater}
use Rattle.std.specs.declared.string.String.{String}
use Rattle.std.proofs.lemmas.Bool.{cases_Bool}
use Rattle.std.proofs.lemmas.Cmp.{on_total, then_total}
use Rattle.std.specs.Cmp.Lexicographic.{nat_list_cmp_total}
use Rattle.std.proofs.lemmas.Map.Text.{is_eq-slice_cmp}
use Rattle.std.proofs.lemmas.Slice.Eq.{bytes_eq-Decides}
use Rattle.shelf.specs.declared.kinds.StickerKind.{StickerKind}
use Rattle.shelf.specs.declared.kinds.StickerKind.TheVariants.{Song, Playlist}
use Rattle.shelf.specs.declared.memory.MemShelf.{MemShelf}
use Rattle.shelf.specs.Maps.{Same}
use Rattle.shelf.specs.Memory.{Texts, maps_of, text_in}
use Rattle.daemon_script.specs.Contents.{Contents, Stickers, by_bytes, by_target_and_name, contents_of, entry_bytes, is_of_other, maps_in, stickers_by_target, stickers_for, with_named, without}

-- ---- the two orders

pub text_total : IsTotalOrder by_bytes
text_total = nat_list_cmp_total

pub pair_total : IsTotalOrder by_target_and_name
pair_total = then_total (on_total {K = List ℕ × List ℕ} (λ p. p.0) text_total) (on_total {K = List ℕ × List ℕ} (λ p. p.1) text_total)

pub text_same : IsAntisymmetric by_bytes
text_same = slice_cmp-IsAntisymmetric nat_cmp-IsAntisymmetric

both_tie : (a b : Ordering) → ordering_then a b ≡ Equal → (a ≡ Equal) × (b ≡ Equal)
both_tie Less b e = cc
both_tie Equal b e = (refl, e)
both_tie Greater b e = cc

pair_same : IsAntisymmetric by_target_and_name
pair_same (u, m) (v, n) e =
    let both = both_tie (by_bytes u v) (by_bytes m n) e in
    λ i. (text_same u v both.0 i, text_same m n both.1 i)

-- texts tie where they are the same
pub text_ties : (q k : List ℕ) → eq_by_cmp by_bytes q k ≡ bytes_eq q k
text_ties q k = is_eq-slice_cmp q k

and_is : (a b : Ordering) → is_eq (ordering_then a b) ≡ (is_eq a && is_eq b)
and_is Less b = refl
and_is Equal b = refl
and_is Greater b = refl

pub pair_ties : (u n : List ℕ) (k : List ℕ × List ℕ) → eq_by_cmp by_target_and_name (u, n) k ≡ (bytes_eq u k.0 && bytes_eq n k.1)
pair_ties u n k = and_is (by_bytes u k.0) (by_bytes n k.1) ∙ (λ i. is_eq-slice_cmp u k.0 i && is_eq-slice_cmp n k.1 i)

pub bytes_eq_sym : (a b : List ℕ) → bytes_eq a b ≡ bytes_eq b a
bytes_eq_sym a b =
    elim (cases_Bool (bytes_eq a b)) [
      | inl is ↦ (let same = (bytes_eq-Decides a b).0 is in ap (λ x. bytes_eq a x) (sym same) ∙ ap (λ x. bytes_eq x a) same)
      | inr apart ↦ elim (cases_Bool (bytes_eq b a)) [
        | inl is ↦ (let same = (bytes_eq-Decides b a).0 is in ap (λ x. bytes_eq a x) same ∙ ap (λ x. bytes_eq x a) (sym same))
        | inr other ↦ apart ∙ sym other
      ]
    ]

pub itself : (a : List ℕ) → bytes_eq a a ≡ true
itself a = (bytes_eq-Decides a a).1 refl

-- ---- what the contents of a shelf show

lists_found : (name : List ℕ) (es : List (String Global × List (List ℕ)))
    → find by_bytes name (map {B = List ℕ × List (List ℕ)} (λ e. (string_bytes e.0, e.1)) es) ≡ lookup (λ k. is_eq (slice_cmp nat_cmp name (string_bytes k))) es
lists_found name [] = refl
lists_found name (e ∷ es) = ap (cond (is_eq (slice_cmp nat_cmp name (string_bytes e.0))) (Some e.1)) (lists_found name es)

pub shows_lists : (s : MemShelf) (name : List ℕ) → finite.get (contents_of s).lists name ≡ get_by_text s.lists name
shows_lists s name = get-from_entries text_total _ name ∙ lists_found name s.lists.entries

-- one of a target's names, or else what there was
abbrev pub or_else : Option (List ℕ) → Option (List ℕ) → Option (List ℕ)
or_else None b = b
or_else (Some a) b = Some a

pub or_none : (o : Option (List ℕ)) → or_else o None ≡ o
or_none None = refl
or_none (Some a) = refl

pub with_named-get : (t : List ℕ) (es : List (List ℕ × List ℕ)) (m : Stickers) (target name : List ℕ)
    → finite.get (with_named t es m) (target, name) ≡ (if bytes_eq target t then or_else (find by_bytes name es) (finite.get m (target, name)) else finite.get m (target, name))
with_named-get t [] m target name =
    elim (bytes_eq target t) as (λ b. finite.get m (target, name) ≡ (if b then finite.get m (target, name) else finite.get m (target, name))) [ true ↦ refl | false ↦ refl ]
with_named-get t (e ∷ es) m target name =
    get-insert pair_total (with_named t es m) (t, e.0) e.1 (target, name)
    ∙ ap (λ b. cond b (Some e.1) (finite.get (with_named t es m) (target, name))) (pair_ties target name (t, e.0))
    ∙ ap (λ o. cond (bytes_eq target t && bytes_eq name e.0) (Some e.1) o) (with_named-get t es m target name)
    ∙ at (cases_Bool (bytes_eq target t)) (cases_Bool (bytes_eq name e.0))
  where
    at : (bytes_eq target t ≡ true) ⊎ (bytes_eq target t ≡ false) → (bytes_eq name e.0 ≡ true) ⊎ (bytes_eq name e.0 ≡ false)
        → cond (bytes_eq target t && bytes_eq name e.0) (Some e.1) (if bytes_eq target t then or_else (find by_bytes name es) (finite.get m (target, name)) else finite.get m (target, name))
        ≡ (if bytes_eq target t then or_else (find by_bytes name (e ∷ es)) (finite.get m (target, name)) else finite.get m (target, name))
    at (inl is) (inl also) = rw (is, text_ties name e.0, also) refl
    at (inl is) (inr apart) = rw (is, text_ties name e.0, apart) refl
    at (inr apart) other = rw apart refl

pub others_kept : (t target name : List ℕ) (m : Stickers)
    → finite.get (without t m) (target, name) ≡ (if bytes_eq t target then None else finite.get m (target, name))
others_kept t target name m =
    get-retain_keys m (is_of_other t) (target, name) (λ x tie. ap (is_of_other t) (sym (pair_same (target, name) x tie)))
    ∙ elim (bytes_eq t target) as (λ b. cond (not b) (finite.get m (target, name)) None ≡ (if b then None else finite.get m (target, name))) [ true ↦ refl | false ↦ refl ]

texts_found : (name : List ℕ) (es : List (String Global × String Global))
    → find by_bytes name (map {B = List ℕ × List ℕ} entry_bytes es) ≡ option_map string_bytes (lookup (λ k. is_eq (slice_cmp nat_cmp name (string_bytes k))) es)
texts_found name [] = refl
texts_found name (e ∷ es) = at (cases_Bool (is_eq (slice_cmp nat_cmp name (string_bytes e.0)))) (texts_found name es)
  where
    at : (is_eq (slice_cmp nat_cmp name (string_bytes e.0)) ≡ true) ⊎ (is_eq (slice_cmp nat_cmp name (string_bytes e.0)) ≡ false)
        → find by_bytes name (map {B = List ℕ × List ℕ} entry_bytes es) ≡ option_map string_bytes (lookup (λ k. is_eq (slice_cmp nat_cmp name (string_bytes k))) es)
        → find by_bytes name (map {B = List ℕ × List ℕ} entry_bytes (e ∷ es)) ≡ option_map string_bytes (lookup (λ k. is_eq (slice_cmp nat_cmp name (string_bytes k))) (e ∷ es))
    at (inl is) rest = rw is refl
    at (inr apart) rest = rw apart rest

abbrev stickers_found : List (String Global × Texts) → List ℕ → List ℕ → Option (List ℕ)
stickers_found ts target name = text_in (lookup (λ k. is_eq (slice_cmp nat_cmp target (string_bytes k))) ts) name

-- what is left where those of a target are taken away
abbrev left : List ℕ → List (String Global × Texts) → List ℕ → List ℕ → Option (List ℕ)
left t ts target name = if bytes_eq target t then None else finite.get (stickers_by_target ts) (target, name)

shows_pairs : (ts : List (String Global × Texts)) (target name : List ℕ) → finite.get (stickers_by_target ts) (target, name) ≡ stickers_found ts target name
shows_pairs [] target name = get-empty by_target_and_name (target, name)
shows_pairs (t ∷ ts) target name =
    with_named-get (string_bytes t.0) (map entry_bytes t.1.entries) (without (string_bytes t.0) (stickers_by_target ts)) target name
    ∙ ap (λ o. if bytes_eq target (string_bytes t.0) then or_else (find by_bytes name (map {B = List ℕ × List ℕ} entry_bytes t.1.entries)) o else o)
    (others_kept (string_bytes t.0) target name (stickers_by_target ts) ∙ ap (λ b. if b then None else finite.get (stickers_by_target ts) (target, name)) (bytes_eq_sym (string_bytes t.0) target))
    ∙ ap (λ found. if bytes_eq target (string_bytes t.0) then or_else found (left (string_bytes t.0) ts target name) else left (string_bytes t.0) ts target name) (texts_found name t.1.entries)
    ∙ at (cases_Bool (bytes_eq target (string_bytes t.0))) (shows_pairs ts target name)
  where
    tie : is_eq (slice_cmp nat_cmp target (string_bytes t.0)) ≡ bytes_eq target (string_bytes t.0)
    tie = is_eq-slice_cmp target (string_bytes t.0)

    at : (bytes_eq target (string_bytes t.0) ≡ true) ⊎ (bytes_eq target (string_bytes t.0) ≡ false) → finite.get (stickers_by_target ts) (target, name) ≡ stickers_found ts target name
        → (if bytes_eq target (string_bytes t.0) then or_else (text_in (Some t.1) name) (left (string_bytes t.0) ts target name) else left (string_bytes t.0) ts target name) ≡ stickers_found (t ∷ ts) target name
    at (inl is) rest = rw (is, tie, is) (or_none (text_in (Some t.1) name))
    at (inr apart) rest = rw (apart, tie, apart) rest

pub shows_stickers : (s : MemShelf) (kind : StickerKind) (target name : List ℕ)
    → finite.get (stickers_for (contents_of s) kind) (target, name) ≡ (maps_of s).stickers kind target name
shows_stickers s Song target name = shows_pairs s.songs.targets.entries target name
shows_stickers s Playlist target name = shows_pairs s.playlists.targets.entries target name

-- contents that show the same are the same
pub same_contents : (c d : Contents) → Same (maps_in c) (maps_in d) → c ≡ d
same_contents c d same = λ i. record {
  lists = same_map text_total text_same c.lists d.lists (λ name. sym (same.lists name)) i;
  songs = same_map pair_total pair_same c.songs d.songs (λ key. sym (same.stickers Song key.0 key.1)) i;
  playlists = same_map pair_total pair_same c.playlists d.playlists (λ key. sym (same.stickers Playlist key.0 key.1)) i;
}

-- the contents of a shelf are those that show what it shows
pub held : (s : MemShelf) (c : Contents) → Same (maps_in c) (maps_of s) → contents_of s ≡ c
held s c same = same_contents (contents_of s) c (record {
  lists = λ name. sym (same.lists name) ∙ sym (shows_lists s name);
  stickers = λ kind target name. sym (same.stickers kind target name) ∙ sym (shows_stickers s kind target name);
})
