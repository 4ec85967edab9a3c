-- Expressions as stored values.
use Rattle.std.specs.Prelude.{◌≡◌, ℕ, List, if◌then◌else◌, ◌==◌, refl, false}
use Rattle.std.specs.Coded.{Coded, coded_ℕ, coded_list}
use Rattle.std.proofs.Common.{sym, ap, ◌∙◌}
use borrow.Author.Tests.{eqb-false}
use base.Stored.{Gv, gnil, gnum, gcons, num}
use Rattle.filters.specs.declared.expression.Field.{Field}
use Rattle.mpd_text.specs.declared.songs.song.TagName.TheVariants.{Title, Artist, Album, Date, Genre, Comment, AlbumArtist, Track, Disc, Composer}
use Rattle.filters.specs.declared.expression.Field.TheVariants.{Tag, NoTag, File, Any, AnyKnown}
use Rattle.filters.specs.declared.expression.Test.{Test}
use Rattle.filters.specs.declared.expression.Test.TheVariants.{Equals, Differs, Contains}
use Rattle.filters.specs.Expressions.{Expression, Compare, Under, Negation, Both}

abbrev pub field_number : Field → ℕ
field_number (Tag Title) = 0
field_number (Tag Artist) = 1
field_number (Tag Album) = 2
field_number (Tag Date) = 3
field_number (Tag Genre) = 4
field_number (Tag Comment) = 5
field_number (Tag AlbumArtist) = 6
field_number (Tag Track) = 7
field_number (Tag Disc) = 8
field_number (Tag Composer) = 9
field_number File = 10
field_number Any = 11
field_number AnyKnown = 12
field_number NoTag = 13

abbrev pub field_at : ℕ → Field
field_at n =
    if n == 0 then Tag Title else (if n == 1 then Tag Artist else (if n == 2 then Tag Album else (if n == 3 then Tag Date else
    (if n == 4 then Tag Genre else (if n == 5 then Tag Comment else (if n == 6 then Tag AlbumArtist else (if n == 7 then Tag Track else
    (if n == 8 then Tag Disc else (if n == 9 then Tag Composer else (if n == 10 then File else (if n == 11 then Any else
    (if n == 12 then AnyKnown else NoTag))))))))))))

pub field_back : (f : Field) → field_at (field_number f) ≡ f
field_back (Tag Title) = refl
field_back (Tag Artist) = refl
field_back (Tag Album) = refl
field_back (Tag Date) = refl
field_back (Tag Genre) = refl
field_back (Tag Comment) = refl
field_back (Tag AlbumArtist) = refl
field_back (Tag Track) = refl
field_back (Tag Disc) = refl
field_back (Tag Composer) = refl
field_back File = refl
field_back Any = refl
field_back AnyKnown = refl
field_back NoTag = refl

abbrev pub test_number : Test → ℕ
test_number Equals = 0
test_number Differs = 1
test_number Contains = 2

abbrev pub test_at : ℕ → Test
test_at n = if n == 0 then Equals else (if n == 1 then Differs else Contains)

pub test_back : (t : Test) → test_at (test_number t) ≡ t
test_back Equals = refl
test_back Differs = refl
test_back Contains = refl

abbrev pub texts : Coded (List ℕ)
texts = coded_list coded_ℕ

abbrev head : Gv → Gv
head gnil = gnil
head (gnum n) = gnil
head (gcons a b) = a

abbrev tail : Gv → Gv
tail gnil = gnil
tail (gnum n) = gnil
tail (gcons a b) = b

abbrev pub expression_gv : Expression → Gv
expression_gv (Compare field test text) = gcons (gnum 0) (gcons (gnum (field_number field)) (gcons (gnum (test_number test)) (texts.code text)))
expression_gv (Under text) = gcons (gnum 1) (texts.code text)
expression_gv (Negation e) = gcons (gnum 2) (expression_gv e)
expression_gv (Both e f) = gcons (gnum 3) (gcons (expression_gv e) (expression_gv f))

abbrev kind : Expression → ℕ
kind (Compare field test text) = 0
kind (Under text) = 1
kind (Negation e) = 2
kind (Both e f) = 3

apart : (m n : ℕ) → (m == n) ≡ false → m ≡ n → ⊥
apart m n e p = eqb-false m n e p

pub expression_inj : (x y : Expression) → expression_gv x ≡ expression_gv y → x ≡ y
expression_inj (Compare f t s) (Compare g u r) p = λ i. Compare
    ((sym (field_back f) ∙ ap (λ (v : Gv). field_at (num (head (tail v)))) p ∙ field_back g) i)
    ((sym (test_back t) ∙ ap (λ (v : Gv). test_at (num (head (tail (tail v))))) p ∙ test_back u) i)
    (texts.inj s r (ap (λ (v : Gv). tail (tail (tail v))) p) i)
expression_inj (Under s) (Under r) p = ap Under (texts.inj s r (ap tail p))
expression_inj (Negation e) (Negation f) p = ap Negation (expression_inj e f (ap tail p))
expression_inj (Both e f) (Both g h) p = λ i. Both (expression_inj e g (ap (λ (v : Gv). head (tail v)) p) i) (expression_inj f h (ap (λ (v : Gv). tail (tail v)) p) i)
expression_inj (Compare f t s) (Under r) p = absurd (apart 0 1 refl (ap (λ (v : Gv). num (head v)) p))
expression_inj (Compare f t s) (Negation e) p = absurd (apart 0 2 refl (ap (λ (v : Gv). num (head v)) p))
expression_inj (Compare f t s) (Both e g) p = absurd (apart 0 3 refl (ap (λ (v : Gv). num (head v)) p))
expression_inj (Under s) (Compare g u r) p = absurd (apart 1 0 refl (ap (λ (v : Gv). num (head v)) p))
expression_inj (Under s) (Negation e) p = absurd (apart 1 2 refl (ap (λ (v : Gv). num (head v)) p))
expression_inj (Under s) (Both e g) p = absurd (apart 1 3 refl (ap (λ (v : Gv). num (head v)) p))
expression_inj (Negation e) (Compare g u r) p = absurd (apart 2 0 refl (ap (λ (v : Gv). num (head v)) p))
expression_inj (Negation e) (Under r) p = absurd (apart 2 1 refl (ap (λ (v : Gv). num (head v)) p))
expression_inj (Negation e) (Both f g) p = absurd (apart 2 3 refl (ap (λ (v : Gv). num (head v)) p))
expression_inj (Both e f) (Compare g u r) p = absurd (apart 3 0 refl (ap (λ (v : Gv). num (head v)) p))
expression_inj (Both e f) (Under r) p = absurd (apart 3 1 refl (ap (λ (v : Gv). num (head v)) p))
expression_inj (Both e f) (Negation g) p = absurd (apart 3 2 refl (ap (λ (v : Gv). num (head v)) p))

abbrev pub expression_code : Coded Expression
expression_code = record { code = expression_gv; inj = expression_inj }
