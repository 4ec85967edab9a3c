-- The tags of the texts that were found.
use Rattle.std.proofs.Common.{ℕ, ◌≡◌, List, [], ◌∷◌, ◌++◌, Bool, true, false, cond, ◌&&◌, refl, sym, ap, ◌∙◌, append_assoc, true≢false, Option, Some, None}
use Rattle.std.specs.List.{cons_option}
use Rattle.std.specs.Option.{option_or}
use Rattle.std.specs.Str.{bytes_eq}
use Rattle.mpd_text.specs.Songs.Song.{TagData}
use Rattle.mpd_text.specs.Songs.Tags.{tag_with}
use Rattle.mpd_text.specs.declared.songs.song.TagName.{TagName}
use Rattle.mpd_text.specs.declared.songs.song.TagName.TheVariants.{Title, Artist, Album, Date, Genre, Comment, AlbumArtist, Track, Disc, Composer}
use Rattle.id3_tags.specs.declared.texts.Id3Texts.{Id3Texts}
use Rattle.wave.specs.declared.first_texts.Texts.{Texts}
use Rattle.wave.specs.Chunks.{Chunk}
use Rattle.wave.specs.Texts.{is_whole, items, identifier, text_of, counts, first_text, tags_of}
use Rattle.wave.specs.Everyday.{first_named, id3_of, tag_text_of, everyday_tags, file_tags}
use Rattle.wave.specs.Found.{base_text, text_in, no_texts, joined, shown, base_listed, listed}

shown_on : (x : Option TagData) (xs : List TagData) → shown x ++ xs ≡ cons_option x xs
shown_on None xs = refl
shown_on (Some x) xs = refl

shown_last : (x : Option TagData) → shown x ≡ cons_option x []
shown_last None = refl
shown_last (Some x) = refl

-- the base profile
by_tests : (here counted : Bool) (t : List ℕ) (more : Option (List ℕ)) → option_or (cond here (cond counted (Some t) None) None) more ≡ cond (here && counted) (Some t) more
by_tests true true t more = refl
by_tests true false t more = refl
by_tests false counted t more = refl

base_first : (name : TagName) (found : List Chunk) → first_named base_text (identifier name) found ≡ first_text name found
base_first name [] = refl
base_first name (item ∷ more) =
    by_tests (bytes_eq item.name (identifier name) && is_whole item) (counts (text_of item.content)) (text_of item.content) (first_named base_text (identifier name) more)
    ∙ ap (cond (bytes_eq item.name (identifier name) && is_whole item && counts (text_of item.content)) (Some (text_of item.content))) (base_first name more)

six : (a b c d e f : Option TagData) → shown a ++ (shown b ++ (shown c ++ (shown d ++ (shown e ++ shown f)))) ≡ cons_option a (cons_option b (cons_option c (cons_option d (cons_option e (cons_option f [])))))
six a b c d e f =
    shown_on a _ ∙ ap (cons_option a) (shown_on b _ ∙ ap (cons_option b) (shown_on c _ ∙ ap (cons_option c) (shown_on d _ ∙ ap (cons_option d) (shown_on e _ ∙ ap (cons_option e) (shown_last f)))))

abbrev one : TagName → List Chunk → Option TagData
one name found = tag_with name (first_named base_text (identifier name) found)

same_one : (name : TagName) (found : List Chunk) → one name found ≡ tag_with name (first_text name found)
same_one name found = ap (tag_with name) (base_first name found)

same_six : (a b c d e f s t u v w x : Option TagData) → a ≡ s → b ≡ t → c ≡ u → d ≡ v → e ≡ w → f ≡ x
    → cons_option a (cons_option b (cons_option c (cons_option d (cons_option e (cons_option f []))))) ≡ cons_option s (cons_option t (cons_option u (cons_option v (cons_option w (cons_option x [])))))
same_six a b c d e f s t u v w x p q r k m n = rw (p, q, r, k, m, n) refl

pub base_tags : (found : List Chunk) → base_listed (joined (text_in false) no_texts found) ≡ tags_of found
base_tags found =
    six (one Title found) (one Artist found) (one Album found) (one Date found) (one Genre found) (one Comment found)
    ∙ same_six _ _ _ _ _ _ _ _ _ _ _ _ (same_one Title found) (same_one Artist found) (same_one Album found) (same_one Date found) (same_one Genre found) (same_one Comment found)

-- the everyday profile
or_none : (t : Option (List ℕ)) → option_or t None ≡ t
or_none None = refl
or_none (Some x) = refl

four : (a b c d : Option TagData) → shown a ++ (shown b ++ (shown c ++ shown d)) ≡ cons_option a (cons_option b (cons_option c (cons_option d [])))
four a b c d = shown_on a _ ∙ ap (cons_option a) (shown_on b _ ∙ ap (cons_option b) (shown_on c _ ∙ ap (cons_option c) (shown_last d)))

six_before : (a b c d e f : Option TagData) (xs : List TagData) → (shown a ++ (shown b ++ (shown c ++ (shown d ++ (shown e ++ shown f))))) ++ xs
    ≡ cons_option a (cons_option b (cons_option c (cons_option d (cons_option e (cons_option f xs)))))
six_before a b c d e f xs =
    append_assoc (shown a) _ xs ∙ shown_on a _ ∙ ap (cons_option a) (append_assoc (shown b) _ xs ∙ shown_on b _ ∙ ap (cons_option b) (append_assoc (shown c) _ xs ∙ shown_on c _
    ∙ ap (cons_option c) (append_assoc (shown d) _ xs ∙ shown_on d _ ∙ ap (cons_option d) (append_assoc (shown e) _ xs ∙ shown_on e _ ∙ ap (cons_option e) (shown_on f xs)))))

abbrev everyday_one : TagName → List Chunk → Option TagData
everyday_one name parts = tag_with name (tag_text_of name parts)

pub ten_tags : (parts : List Chunk) → listed (id3_of parts) (joined (text_in true) no_texts (items parts)) ≡ everyday_tags parts
unfolding everyday_tags
ten_tags parts =
    six_before (everyday_one Title parts) (everyday_one Artist parts) (everyday_one Album parts) (everyday_one Date parts) (everyday_one Genre parts) (everyday_one Comment parts) _
    ∙ ap (λ xs. cons_option (everyday_one Title parts) (cons_option (everyday_one Artist parts) (cons_option (everyday_one Album parts) (cons_option (everyday_one Date parts) (cons_option (everyday_one Genre parts) (cons_option (everyday_one Comment parts) xs))))))
    (four (tag_with AlbumArtist (id3_of parts).album_artist) (everyday_one Track parts) (tag_with Disc (id3_of parts).disc) (everyday_one Composer parts)
    ∙ ap (λ t. cons_option (tag_with AlbumArtist t) (cons_option (everyday_one Track parts) (cons_option (tag_with Disc (id3_of parts).disc) (cons_option (everyday_one Composer parts) [])))) (sym (or_none (id3_of parts).album_artist))
    ∙ ap (λ t. cons_option (everyday_one AlbumArtist parts) (cons_option (everyday_one Track parts) (cons_option (tag_with Disc t) (cons_option (everyday_one Composer parts) [])))) (sym (or_none (id3_of parts).disc)))

-- the tags of either profile
pub base_of : (everyday : Bool) (parts : List Chunk) (texts : Texts) → everyday ≡ false → texts ≡ joined (text_in everyday) no_texts (items parts) → base_listed texts ≡ file_tags everyday parts
base_of false parts texts e t = ap base_listed t ∙ base_tags (items parts)
base_of true parts texts e t = absurd (true≢false e)

pub everyday_of : (everyday : Bool) (parts : List Chunk) (texts : Texts) (id3 : Id3Texts) → everyday ≡ true → texts ≡ joined (text_in everyday) no_texts (items parts) → id3 ≡ id3_of parts
    → listed id3 texts ≡ file_tags everyday parts
everyday_of true parts texts id3 e t i = ap (λ x. listed x texts) i ∙ ap (listed (id3_of parts)) t ∙ ten_tags parts
everyday_of false parts texts id3 e t i = absurd (true≢false (sym e))
