-- The contents of a shelf in memory, as data.
use Rattle.std.specs.Prelude.{ℕ, Bool, not, List, [], ◌∷◌, map, filter, Option, Some, None, string_bytes}
use Rattle.std.specs.FinMap as finite
use Rattle.std.specs.FinMap.{FinMap}
use Rattle.std.specs.List.{list_any}
use Rattle.std.specs.Str.{bytes_eq}
use Rattle.std.specs.Cmp.Lexicographic.{slice_cmp}
use Rattle.std.specs.Ordering.{nat_cmp, ordering_then}
use Rattle.std.specs.declared.alloc.Global.{Global}
use Rattle.std.specs.declared.cmp.Ordering.{Ordering}
use Rattle.std.specs.declared.string.String.{String}
use Rattle.shelf.specs.declared.kinds.StickerKind.{StickerKind}
use Rattle.shelf.specs.declared.kinds.StickerKind.TheVariants.{Song, Playlist}
use Rattle.shelf.specs.declared.memory.MemShelf.{MemShelf}
use Rattle.shelf.specs.Maps.{Maps}
use Rattle.shelf.specs.Memory.{Texts}

-- texts by their bytes
abbrev pub by_bytes : List ℕ → List ℕ → Ordering
by_bytes = slice_cmp nat_cmp

-- stickers by their targets, and those of a target by their names
abbrev pub by_target_and_name : List ℕ × List ℕ → List ℕ × List ℕ → Ordering
by_target_and_name p q = ordering_then (by_bytes p.0 q.0) (by_bytes p.1 q.1)

-- the text of each sticker of one kind, by its target and its name
abbrev pub Stickers : Type 0
Stickers = FinMap by_target_and_name (List ℕ)

-- the URIs of each stored playlist, the stickers of songs, by their URIs, and those of stored playlists, by
-- their names
pub record Contents : Type 0 where
  pub lists : FinMap by_bytes (List (List ℕ))
  pub songs : Stickers
  pub playlists : Stickers

abbrev pub no_contents : Contents
no_contents = record { lists = finite.empty; songs = finite.empty; playlists = finite.empty }

-- the stickers of a kind
abbrev pub stickers_for : Contents → StickerKind → Stickers
stickers_for c Song = c.songs
stickers_for c Playlist = c.playlists

-- the contents with these stickers of a kind
abbrev pub with_stickers_for : Contents → StickerKind → Stickers → Contents
with_stickers_for c Song stickers = record c { songs = stickers }
with_stickers_for c Playlist stickers = record c { playlists = stickers }

-- a map with this value at the key, or with none
abbrev pub put_in : {K X : Type 0} {R : K → K → Ordering} → FinMap R X → K → Option X → FinMap R X
put_in m key (Some value) = finite.insert m key value
put_in m key None = finite.remove m key

-- what a shelf with these contents shows
abbrev pub maps_in : Contents → Maps
maps_in c = record {
  lists = λ name. finite.get c.lists name;
  stickers = λ kind target name. finite.get (stickers_for c kind) (target, name);
}

-- the stickers of a target, by rising names
abbrev pub stickers_of : Stickers → List ℕ → List (List ℕ × List ℕ)
stickers_of stickers target =
    let found : List ((List ℕ × List ℕ) × List ℕ) = filter (λ e. bytes_eq target e.0.0) (finite.entries stickers) in
    finite.entries (finite.from_entries {R = by_bytes} (map (λ e. (e.0.1, e.1)) found))

-- the stickers with a name, by rising targets
abbrev pub stickers_named : Stickers → List ℕ → List (List ℕ × List ℕ)
stickers_named stickers name =
    let found : List ((List ℕ × List ℕ) × List ℕ) = filter (λ e. bytes_eq name e.0.1) (finite.entries stickers) in
    finite.entries (finite.from_entries {R = by_bytes} (map (λ e. (e.0.0, e.1)) found))

abbrev pub has_stickers : Stickers → List ℕ → Bool
has_stickers stickers target = list_any (λ e. bytes_eq target e.0.0) (finite.entries stickers)

abbrev pub is_of_other : List ℕ → List ℕ × List ℕ → Bool
is_of_other target key = not (bytes_eq target key.0)

-- the stickers without those of a target
abbrev pub without : List ℕ → Stickers → Stickers
without target stickers = finite.retain_keys stickers (is_of_other target)

-- the stickers and these of a target, by their names
abbrev pub with_named : List ℕ → List (List ℕ × List ℕ) → Stickers → Stickers
with_named target [] stickers = stickers
with_named target (e ∷ es) stickers = finite.insert (with_named target es stickers) (target, e.0) e.1

-- the stickers where another target has those of a target in place of its own
abbrev pub moved : List ℕ → List ℕ → Stickers → Stickers
moved target new stickers = with_named new (stickers_of stickers target) (without new (without target stickers))

abbrev pub entry_bytes : String Global × String Global → List ℕ × List ℕ
entry_bytes e = (string_bytes e.0, string_bytes e.1)

-- the stickers of one kind in memory: each target once, with its texts by their names
abbrev pub stickers_by_target : List (String Global × Texts) → Stickers
stickers_by_target [] = finite.empty
stickers_by_target (t ∷ ts) =
    with_named (string_bytes t.0) (map entry_bytes t.1.entries) (without (string_bytes t.0) (stickers_by_target ts))

-- the contents of a shelf in memory
abbrev pub contents_of : MemShelf → Contents
contents_of shelf = record {
  lists = finite.from_entries (map (λ e. (string_bytes e.0, e.1)) shelf.lists.entries);
  songs = stickers_by_target shelf.songs.targets.entries;
  playlists = stickers_by_target shelf.playlists.targets.entries;
}
