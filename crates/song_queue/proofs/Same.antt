-- The tests of sameness decide equality.
use Rattle.std.proofs.Common.{◌≡◌, ◌≢◌, Bool, true, false, ◌&&◌, List, [], ◌∷◌, Some, None, Option, refl, ap, eqb}
use Rattle.std.proofs.lemmas.Bool.{and_parts, and_from, eq-eqb, eqb-true, ne_eqb, false_from_ne_true, and_left}
use lib.Pointwise.{pointwise}
use Rattle.queue_slots.specs.declared.entry.Entry.{Entry}
use Rattle.mpd_text.specs.Songs.Song.{TagData, SongData}
use Rattle.mpd_text.specs.Songs.Tags.{tag_number}
use Rattle.mpd_text.proofs.TagNumbers.{tag_number-inj}
use Rattle.song_queue.specs.Entries.{same_tag, same_song}
use Rattle.song_queue.specs.Entries.{same_entry, same_queue, same_slot}

pub pointwise-refl : {A : Type 0} (E : A → A → Bool) → ((x : A) → E x x ≡ true) → (xs : List A) → pointwise E xs xs ≡ true
pointwise-refl E h [] = refl
pointwise-refl E h (x ∷ xs) = and_from _ _ (h x) (pointwise-refl E h xs)

pub pointwise-true : {A : Type 0} (E : A → A → Bool) → ((x y : A) → E x y ≡ true → x ≡ y) → (xs ys : List A) → pointwise E xs ys ≡ true → xs ≡ ys
pointwise-true E h [] [] t = refl
pointwise-true E h [] (y ∷ ys) t = cc
pointwise-true E h (x ∷ xs) [] t = cc
pointwise-true E h (x ∷ xs) (y ∷ ys) t =
    let p = and_parts (E x y) (pointwise E xs ys) t in λ i. h x y p.0 i ∷ pointwise-true E h xs ys p.1 i

pub same_tag-refl : (a : TagData) → same_tag a a ≡ true
same_tag-refl a = and_from _ _ (eq-eqb (tag_number a.name) _ refl) (pointwise-refl eqb (λ x. eq-eqb x x refl) a.text)

pub same_tag-true : (a b : TagData) → same_tag a b ≡ true → a ≡ b
same_tag-true a b t =
    let p = and_parts (eqb (tag_number a.name) (tag_number b.name)) (pointwise eqb a.text b.text) t in
    λ i. record { name = tag_number-inj a.name b.name (eqb-true _ _ p.0) i; text = pointwise-true eqb eqb-true a.text b.text p.1 i }

pub same_song-refl : (a : SongData) → same_song a a ≡ true
same_song-refl a = and_from _ _ (and_from _ _ (pointwise-refl eqb (λ x. eq-eqb x x refl) a.uri) (pointwise-refl same_tag same_tag-refl a.tags)) (eq-eqb a.frames _ refl)

pub same_song-true : (a b : SongData) → same_song a b ≡ true → a ≡ b
same_song-true a b t =
    let p = and_parts (pointwise eqb a.uri b.uri && pointwise same_tag a.tags b.tags) (eqb a.frames b.frames) t in
    let q = and_parts (pointwise eqb a.uri b.uri) (pointwise same_tag a.tags b.tags) p.0 in
    λ i. record { uri = pointwise-true eqb eqb-true a.uri b.uri q.0 i; tags = pointwise-true same_tag same_tag-true a.tags b.tags q.1 i; frames = eqb-true _ _ p.1 i }

pub same_entry-refl : (a : Entry) → same_entry a a ≡ true
same_entry-refl a = and_from _ _ (and_from _ _ (eq-eqb a.id _ refl) (eq-eqb a.priority _ refl)) (same_song-refl a.song)

pub same_entry-true : (a b : Entry) → same_entry a b ≡ true → a ≡ b
same_entry-true a b t =
    let p = and_parts (eqb a.id b.id && eqb a.priority b.priority) (same_song a.song b.song) t in
    let q = and_parts (eqb a.id b.id) (eqb a.priority b.priority) p.0 in
    λ i. record { id = eqb-true _ _ q.0 i; song = same_song-true a.song b.song p.1 i; priority = eqb-true _ _ q.1 i }

-- entries with two ids are two
pub same_entry-other : (a b : Entry) → a.id ≢ b.id → same_entry a b ≡ false
same_entry-other a b ne = and_left _ _ (and_left _ _ (ne_eqb a.id b.id ne))

pub same_queue-refl : (q : List Entry) → same_queue q q ≡ true
same_queue-refl q = pointwise-refl same_entry same_entry-refl q

pub same_queue-true : (q r : List Entry) → same_queue q r ≡ true → q ≡ r
same_queue-true q r t = pointwise-true same_entry same_entry-true q r t

pub same_queue-other : (q r : List Entry) → q ≢ r → same_queue q r ≡ false
same_queue-other q r ne = false_from_ne_true (same_queue q r) (λ t. ne (same_queue-true q r t))

pub same_slot-true : (a b : Option Entry) → same_slot a b ≡ true → a ≡ b
same_slot-true None None t = refl
same_slot-true (Some a) (Some b) t = ap Some (same_entry-true a b t)
same_slot-true None (Some b) t = cc
same_slot-true (Some a) None t = cc
