-- One more collected song.
use Rattle.std.proofs.Common.{◌≡◌, Bool, true, false, List, [], ◌∷◌, ◌++◌, refl}
use Rattle.std.specs.Prelude.{◌||◌}
use Rattle.std.specs.List.{list_any}
use Rattle.mpd_text.specs.Songs.Song.{SongData}
use Rattle.song_db.specs.Library.{same_uri, is_twice_named}
use Rattle.daemon_script.specs.Script.{has_uri}

or_false : (a b : Bool) → (a || b) ≡ false → (a ≡ false) × (b ≡ false)
or_false true b e = cc
or_false false b e = (refl, e)

both_false : (a b : Bool) → a ≡ false → b ≡ false → (a || b) ≡ false
both_false a b e f = rw (e, f) refl

any_append : (p : SongData → Bool) (songs : List SongData) (song : SongData) → list_any p songs ≡ false → p song ≡ false → list_any p (songs ++ song ∷ []) ≡ false
any_append p [] song e f = both_false (p song) false f refl
any_append p (x ∷ xs) song e f = let parts = or_false (p x) (list_any p xs) e in both_false (p x) _ parts.0 (any_append p xs song parts.1 f)

-- a song of a URI that was not collected is no second one
pub once_more : (songs : List SongData) (song : SongData) → is_twice_named songs ≡ false → has_uri song.uri songs ≡ false → is_twice_named (songs ++ song ∷ []) ≡ false
once_more [] song e f = refl
once_more (x ∷ xs) song e f =
    let named = or_false (list_any (λ (other : SongData). same_uri x.uri other.uri) xs) (is_twice_named xs) e in
    let other = or_false (same_uri x.uri song.uri) (has_uri song.uri xs) f in
    both_false _ _ (any_append (λ (s : SongData). same_uri x.uri s.uri) xs song named.0 other.0) (once_more xs song named.1 other.1)
