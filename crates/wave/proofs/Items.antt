-- What an item does to the texts that are found.
use Rattle.std.proofs.Common.{ℕ, ◌≡◌, ◌==◌, ◌&&◌, List, [], ◌∷◌, ◌++◌, length, take, drop, min, Bool, true, false, cond, ◌+◌, refl, sym, ap, subst, ◌∙◌, Option, Some, None, if◌then◌else◌}
use Rattle.std.proofs.lemmas.List.{drop-drop, drop-take}
use Rattle.std.specs.Option.{option_or}
use Rattle.std.specs.Str.{bytes_eq}
use Rattle.std.proofs.lemmas.Slice.Eq.{bytes_eq-Decides}
use Rattle.wave.specs.declared.tag.ItemName.{ItemName}
use Rattle.wave.specs.declared.tag.ItemName.TheVariants.{Inam, Iart, Iprd, Icrd, Ignr, Icmt, Itrk, Iprt, Imus}
use Rattle.wave.specs.declared.first_texts.Texts.{Texts}
use Rattle.wave.specs.declared.found_chunk.FoundChunk.{FoundChunk}
use Rattle.wave.specs.Chunks.{Chunk, chunks}
use Rattle.wave.specs.Parts.{content_of, chunk_of, chunks_within, StartsWith}
use Rattle.wave.specs.Texts.{is_whole, is_info, items}
use Rattle.wave.specs.Everyday.{first_named}
use Rattle.wave.specs.Found.{letters, text_in, put, joined}
use Rattle.wave.proofs.Filling.{start_is}
use Rattle.wave.proofs.Found.{and_false}
use Rattle.wave.proofs.EverydayTexts.{text_of_start}

pub text_read : (everyday : Bool) (n len offset : ℕ) (buf bytes : List ℕ) → length buf ≡ 1025 → take n buf ≡ take (length buf) (drop offset bytes) → text_in everyday (take (min n len) buf) ≡ text_in everyday (take len (drop offset bytes))
text_read everyday n len offset buf bytes h e = ap (text_in everyday) (start_is 1025 n len buf (drop offset bytes) h e) ∙ text_of_start everyday (take len (drop offset bytes))

-- the text of an item of a name
abbrev named : (List ℕ → Option (List ℕ)) → List ℕ → Chunk → Option (List ℕ)
named read name item = if bytes_eq item.name name && is_whole item then read item.content else None

abbrev made : (a b c d e f g h i : Option (List ℕ)) → Texts
made a b c d e f g h i = record { inam = a; iart = b; iprd = c; icrd = d; ignr = e; icmt = f; itrk = g; iprt = h; imus = i }

-- an item that gives no text
pub skips : (read : List ℕ → Option (List ℕ)) (texts : Texts) (item : Chunk) (more : List Chunk) → ((name : ItemName) → named read (letters name) item ≡ None) → joined read texts more ≡ joined read texts (item ∷ more)
skips read texts item more h = rw (h Inam, h Iart, h Iprd, h Icrd, h Ignr, h Icmt, h Itrk, h Iprt, h Imus) refl

pub other_name : (read : List ℕ → Option (List ℕ)) (item : Chunk) → ((name : ItemName) → bytes_eq item.name (letters name) ≡ false) → (name : ItemName) → named read (letters name) item ≡ None
other_name read item h name = ap (λ b. cond (b && is_whole item) (read item.content) None) (h name)

pub not_whole : (read : List ℕ → Option (List ℕ)) (item : Chunk) → is_whole item ≡ false → (name : ItemName) → named read (letters name) item ≡ None
not_whole read item h name =
    ap (λ b. cond (bytes_eq item.name (letters name) && b) (read item.content) None) h
    ∙ ap (λ b. cond b (read item.content) None) (and_false (bytes_eq item.name (letters name)))

none_either : (b : Bool) (t : Option (List ℕ)) → t ≡ None → cond b t None ≡ None
none_either true t e = e
none_either false t e = refl

pub no_text : (read : List ℕ → Option (List ℕ)) (item : Chunk) → read item.content ≡ None → (name : ItemName) → named read (letters name) item ≡ None
no_text read item h name = none_either (bytes_eq item.name (letters name) && is_whole item) (read item.content) h

-- an item that gives one
or_twice : (t o : Option (List ℕ)) (x : List ℕ) → option_or (option_or t (Some x)) o ≡ option_or t (Some x)
or_twice None o x = refl
or_twice (Some y) o x = refl

puts_named : (read : List ℕ → Option (List ℕ)) (name : ItemName) (texts : Texts) (bytes content text : List ℕ) (size : ℕ) (more : List Chunk) → bytes ≡ letters name → (length content == size) ≡ true → read content ≡ Some text
    → joined read (put name text texts) more ≡ joined read texts (record { name = bytes; size = size; content = content } ∷ more)
puts_named read Inam t bytes content text size more e w k = rw (e, w, k) (ap (λ o. made o (option_or t.iart (first_named read (letters Iart) more)) (option_or t.iprd (first_named read (letters Iprd) more)) (option_or t.icrd (first_named read (letters Icrd) more)) (option_or t.ignr (first_named read (letters Ignr) more)) (option_or t.icmt (first_named read (letters Icmt) more)) (option_or t.itrk (first_named read (letters Itrk) more)) (option_or t.iprt (first_named read (letters Iprt) more)) (option_or t.imus (first_named read (letters Imus) more))) (or_twice t.inam (first_named read (letters Inam) more) text))
puts_named read Iart t bytes content text size more e w k = rw (e, w, k) (ap (λ o. made (option_or t.inam (first_named read (letters Inam) more)) o (option_or t.iprd (first_named read (letters Iprd) more)) (option_or t.icrd (first_named read (letters Icrd) more)) (option_or t.ignr (first_named read (letters Ignr) more)) (option_or t.icmt (first_named read (letters Icmt) more)) (option_or t.itrk (first_named read (letters Itrk) more)) (option_or t.iprt (first_named read (letters Iprt) more)) (option_or t.imus (first_named read (letters Imus) more))) (or_twice t.iart (first_named read (letters Iart) more) text))
puts_named read Iprd t bytes content text size more e w k = rw (e, w, k) (ap (λ o. made (option_or t.inam (first_named read (letters Inam) more)) (option_or t.iart (first_named read (letters Iart) more)) o (option_or t.icrd (first_named read (letters Icrd) more)) (option_or t.ignr (first_named read (letters Ignr) more)) (option_or t.icmt (first_named read (letters Icmt) more)) (option_or t.itrk (first_named read (letters Itrk) more)) (option_or t.iprt (first_named read (letters Iprt) more)) (option_or t.imus (first_named read (letters Imus) more))) (or_twice t.iprd (first_named read (letters Iprd) more) text))
puts_named read Icrd t bytes content text size more e w k = rw (e, w, k) (ap (λ o. made (option_or t.inam (first_named read (letters Inam) more)) (option_or t.iart (first_named read (letters Iart) more)) (option_or t.iprd (first_named read (letters Iprd) more)) o (option_or t.ignr (first_named read (letters Ignr) more)) (option_or t.icmt (first_named read (letters Icmt) more)) (option_or t.itrk (first_named read (letters Itrk) more)) (option_or t.iprt (first_named read (letters Iprt) more)) (option_or t.imus (first_named read (letters Imus) more))) (or_twice t.icrd (first_named read (letters Icrd) more) text))
puts_named read Ignr t bytes content text size more e w k = rw (e, w, k) (ap (λ o. made (option_or t.inam (first_named read (letters Inam) more)) (option_or t.iart (first_named read (letters Iart) more)) (option_or t.iprd (first_named read (letters Iprd) more)) (option_or t.icrd (first_named read (letters Icrd) more)) o (option_or t.icmt (first_named read (letters Icmt) more)) (option_or t.itrk (first_named read (letters Itrk) more)) (option_or t.iprt (first_named read (letters Iprt) more)) (option_or t.imus (first_named read (letters Imus) more))) (or_twice t.ignr (first_named read (letters Ignr) more) text))
puts_named read Icmt t bytes content text size more e w k = rw (e, w, k) (ap (λ o. made (option_or t.inam (first_named read (letters Inam) more)) (option_or t.iart (first_named read (letters Iart) more)) (option_or t.iprd (first_named read (letters Iprd) more)) (option_or t.icrd (first_named read (letters Icrd) more)) (option_or t.ignr (first_named read (letters Ignr) more)) o (option_or t.itrk (first_named read (letters Itrk) more)) (option_or t.iprt (first_named read (letters Iprt) more)) (option_or t.imus (first_named read (letters Imus) more))) (or_twice t.icmt (first_named read (letters Icmt) more) text))
puts_named read Itrk t bytes content text size more e w k = rw (e, w, k) (ap (λ o. made (option_or t.inam (first_named read (letters Inam) more)) (option_or t.iart (first_named read (letters Iart) more)) (option_or t.iprd (first_named read (letters Iprd) more)) (option_or t.icrd (first_named read (letters Icrd) more)) (option_or t.ignr (first_named read (letters Ignr) more)) (option_or t.icmt (first_named read (letters Icmt) more)) o (option_or t.iprt (first_named read (letters Iprt) more)) (option_or t.imus (first_named read (letters Imus) more))) (or_twice t.itrk (first_named read (letters Itrk) more) text))
puts_named read Iprt t bytes content text size more e w k = rw (e, w, k) (ap (λ o. made (option_or t.inam (first_named read (letters Inam) more)) (option_or t.iart (first_named read (letters Iart) more)) (option_or t.iprd (first_named read (letters Iprd) more)) (option_or t.icrd (first_named read (letters Icrd) more)) (option_or t.ignr (first_named read (letters Ignr) more)) (option_or t.icmt (first_named read (letters Icmt) more)) (option_or t.itrk (first_named read (letters Itrk) more)) o (option_or t.imus (first_named read (letters Imus) more))) (or_twice t.iprt (first_named read (letters Iprt) more) text))
puts_named read Imus t bytes content text size more e w k = rw (e, w, k) (ap (λ o. made (option_or t.inam (first_named read (letters Inam) more)) (option_or t.iart (first_named read (letters Iart) more)) (option_or t.iprd (first_named read (letters Iprd) more)) (option_or t.icrd (first_named read (letters Icrd) more)) (option_or t.ignr (first_named read (letters Ignr) more)) (option_or t.icmt (first_named read (letters Icmt) more)) (option_or t.itrk (first_named read (letters Itrk) more)) (option_or t.iprt (first_named read (letters Iprt) more)) o) (or_twice t.imus (first_named read (letters Imus) more) text))

pub puts : (read : List ℕ → Option (List ℕ)) (name : ItemName) (texts : Texts) (item : Chunk) (text : List ℕ) (more : List Chunk) → bytes_eq item.name (letters name) ≡ true → is_whole item ≡ true → read item.content ≡ Some text
    → joined read (put name text texts) more ≡ joined read texts (item ∷ more)
puts read name texts item text more e w k = puts_named read name texts item.name item.content text item.size more ((bytes_eq-Decides item.name (letters name)).0 e) w k

-- a list of texts
within_list : (bytes : List ℕ) (part : FoundChunk) → chunks_within bytes (part.offset + 4) (part.offset + part.len) ≡ chunks (drop 4 (content_of bytes part))
within_list bytes part = ap chunks (sym (drop-drop 4 part.offset (take (part.offset + part.len) bytes)) ∙ ap (drop 4) (drop-take part.offset part.len bytes))

items_of_list : (chunk : Chunk) (more : List Chunk) → is_info chunk ≡ true → items (chunk ∷ more) ≡ chunks (drop 4 chunk.content) ++ items more
items_of_list chunk more e = ap (λ b. cond b (chunks (drop 4 chunk.content)) [] ++ items more) e

pub list_taken : (bytes : List ℕ) (at end : ℕ) (part : FoundChunk) (found : Option FoundChunk) (b : Bool) (read : List ℕ → Option (List ℕ)) (texts next meaning : Texts) → joined read texts (items (chunks_within bytes at end)) ≡ meaning
    → StartsWith bytes at end found → found ≡ Some part → b ≡ is_info (chunk_of bytes part) → b ≡ true
    → ((more : List Chunk) → joined read next more ≡ joined read texts (chunks_within bytes (part.offset + 4) (part.offset + part.len) ++ more))
    → joined read next (items (chunks_within bytes part.next end)) ≡ meaning
list_taken bytes at end part found b read texts next meaning goes starts e i t all =
    let here = (subst (StartsWith bytes at end) e starts).0 in
    all (items (chunks_within bytes part.next end))
    ∙ ap (λ list. joined read texts (list ++ items (chunks_within bytes part.next end))) (within_list bytes part)
    ∙ ap (joined read texts) (sym (items_of_list (chunk_of bytes part) (chunks_within bytes part.next end) (sym i ∙ t)))
    ∙ ap (λ parts. joined read texts (items parts)) (sym here) ∙ goes

-- no chunk is left
or_none : (t : Option (List ℕ)) → option_or t None ≡ t
or_none None = refl
or_none (Some x) = refl

joined_none : (read : List ℕ → Option (List ℕ)) (texts : Texts) → joined read texts [] ≡ texts
joined_none read t = rw (or_none t.inam, or_none t.iart, or_none t.iprd, or_none t.icrd, or_none t.ignr, or_none t.icmt, or_none t.itrk, or_none t.iprt, or_none t.imus) refl

pub all_taken : (bytes : List ℕ) (at end : ℕ) (found : Option FoundChunk) (read : List ℕ → Option (List ℕ)) (texts meaning : Texts) → joined read texts (items (chunks_within bytes at end)) ≡ meaning
    → StartsWith bytes at end found → found ≡ None → texts ≡ meaning
all_taken bytes at end found read texts meaning goes starts e =
    sym (joined_none read texts) ∙ ap (λ parts. joined read texts (items parts)) (sym (subst (StartsWith bytes at end) e starts)) ∙ goes
