-- What filters compare in the base profile.
use Rattle.std.proofs.Common.{ℕ, Bool, true, false, cond, List, [], ◌∷◌, Option, Some, None, option_map, Result, Ok, Err, refl, subst, not, codes}
use Rattle.std.specs.List.{cons_option, filter_map, find}
use Rattle.filters.specs.Answers.{IsAnswer}
use Rattle.filters.specs.Expressions.{Expression, Compare, Under, Both, all_of}
use Rattle.filters.specs.Grammar.{Body, Comparison, Base as BaseBody, Not, First, Then, field_of, meaning}
use Rattle.filters.specs.Machine.{parsed}
use Rattle.filters.specs.Pairs.{asked as asked_by, names_something, pairs_meaning, together, unless_unknown}
use Rattle.filters.specs.Words.{base_field, field_named, is_base, same_word}
use Rattle.filters.specs.declared.expression.Field.{Field}
use Rattle.filters.specs.declared.expression.Test.{Test}
use Rattle.filters.specs.declared.pairs.Pair.{Pair}
use Rattle.filters.specs.declared.reading.FilterFault.{FilterFault}
use Rattle.filters.specs.declared.words.Vocabulary.TheVariants.{Base}
use Rattle.filters.proofs.Exact.{parsed_answers}
use Rattle.command_arguments.specs.Readers.{argument_of, both, map_ok, none_of, read_or}
use Rattle.command_arguments.specs.Criteria.{asked, filter_of, is_alone, one_filter_of, paired, pairs_of, perhaps_filter_of}
use Rattle.command_arguments.specs.declared.readers.Misread.{Misread}
use Rattle.command_laws.specs.Base.{IsBaseExpression, IsBaseField, IsBaseFilter, MayBeFilter}

-- what is read is so, where something is read
abbrev pub Reads : {A : Type 0} → (A → Type 0) → Result A Misread → Type 0
Reads P (Ok a) = P a
Reads P (Err e) = Unit {0}

-- what is made of what was read
pub mapped : {A B : Type 0} (P : B → Type 0) (f : A → B) (r : Result A Misread) → ((a : A) → P (f a)) → Reads P (map_ok f r)
mapped P f (Ok a) h = h a
mapped P f (Err e) h = tt

pub from-read : {A B : Type 0} (Q : A → Type 0) (P : B → Type 0) (f : A → B) (r : Result A Misread) → Reads Q r → ((a : A) → Q a → P (f a)) → Reads P (map_ok f r)
from-read Q P f (Ok a) k h = h a k
from-read Q P f (Err e) k h = tt

pub alone : {A : Type 0} (P : A → Type 0) (a : A) (words : List (List ℕ)) → P a → Reads P (none_of a words)
alone P a [] h = h
alone P a (word ∷ words) h = tt

-- the first of two
pub both-first : {A B : Type 0} (P : A → Type 0) (r : Result A Misread) (s : Result B Misread) → Reads P r → Reads (λ p. P p.0) (both r s)
both-first P (Ok a) (Ok b) h = h
both-first P (Ok a) (Err e) h = tt
both-first P (Err e) s h = tt

one-way : {A : Type 0} (P : A → Type 0) (b : Bool) (r s : Result A Misread) → Reads P r → Reads P s → Reads P (cond b r s)
one-way P true r s h k = h
one-way P false r s h k = k

-- what a word names
abbrev MayBeField : Option Field → Type 0
MayBeField None = Unit {0}
MayBeField (Some it) = IsBaseField it

pick : (b : Bool) (x y : Option Field) → MayBeField x → MayBeField y → MayBeField (cond b x y)
pick true x y h k = h
pick false x y h k = k

field-base : (word : List ℕ) → MayBeField (field_named Base word)
unfolding field_named base_field
field-base word =
    pick (same_word word (codes "title")) _ _ refl (pick (same_word word (codes "artist")) _ _ refl (pick (same_word word (codes "album")) _ _ refl
    (pick (same_word word (codes "date")) _ _ refl (pick (same_word word (codes "genre")) _ _ refl (pick (same_word word (codes "comment")) _ _ refl
    (pick (same_word word (codes "file")) _ _ tt (pick (same_word word (codes "any")) _ _ tt tt)))))))

named-base : (o : Option Field) → MayBeField o → IsBaseField (field_of o)
named-base None h = tt
named-base (Some it) h = h

-- a filter in parentheses
body-base : (body : Body) → IsBaseExpression (meaning Base body)
body-base (Comparison word test text) = named-base (field_named Base word) (field-base word)
body-base (BaseBody text) = tt
body-base (Not b) = body-base b
body-base (First b) = body-base b
body-base (Then j b) = (body-base j, body-base b)

abbrev ReadsBase : Result Expression FilterFault → Type 0
ReadsBase (Ok e) = IsBaseExpression e
ReadsBase (Err fault) = Unit {0}

answer-base : (text : List ℕ) (r : Result Expression FilterFault) → IsAnswer Base text r → ReadsBase r
answer-base text (Ok e) says = subst IsBaseExpression says.4 (body-base says.0)
answer-base text (Err fault) says = tt

-- pairs
abbrev MayBe : Option Expression → Type 0
MayBe None = Unit {0}
MayBe (Some e) = IsBaseExpression e

abbrev AreBase : List Expression → Type 0
AreBase [] = Unit {0}
AreBase (e ∷ es) = IsBaseExpression e × AreBase es

compared-base : (test : Test) (text : List ℕ) (o : Option Field) → MayBeField o → MayBe (option_map (λ it. Compare it test text) o)
compared-base test text None h = tt
compared-base test text (Some it) h = h

one-base : (b : Bool) (text : List ℕ) (o : Option Expression) → MayBe o → MayBe (cond b (Some (Under text)) o)
one-base true text o h = tt
one-base false text o h = h

pair-base : (test : Test) (pair : Pair) → MayBe (asked_by Base test pair)
pair-base test pair = one-base (is_base pair.name) pair.text _ (compared-base test pair.text (field_named Base pair.name) (field-base pair.name))

more-base : (o : Option Expression) (es : List Expression) → MayBe o → AreBase es → AreBase (cons_option o es)
more-base None es h k = k
more-base (Some e) es h k = (h, k)

pairs-base : (test : Test) (pairs : List Pair) → AreBase (filter_map (asked_by Base test) pairs)
pairs-base test [] = tt
pairs-base test (pair ∷ pairs) = more-base (asked_by Base test pair) (filter_map (asked_by Base test) pairs) (pair-base test pair) (pairs-base test pairs)

all-base : (e : Expression) (es : List Expression) → IsBaseExpression e → AreBase es → IsBaseExpression (all_of e es)
all-base e [] h k = h
all-base e (f ∷ fs) h k = all-base (Both e f) fs (h, k.0) k.1

together-base : (es : List Expression) → AreBase es → IsBaseExpression (together es)
together-base [] h = tt
together-base (e ∷ es) h = all-base e es h.0 h.1

unless-base : (o : Option Pair) (e : Expression) → IsBaseExpression e → ReadsBase (unless_unknown o e)
unless-base None e h = h
unless-base (Some pair) e h = tt

meaning-base : (test : Test) (pairs : List Pair) → ReadsBase (pairs_meaning Base test pairs)
meaning-base test pairs =
    unless-base (find (λ (pair : Pair). not (names_something Base pair.name)) pairs) (together (filter_map (asked_by Base test) pairs))
    (together-base (filter_map (asked_by Base test) pairs) (pairs-base test pairs))

-- words
criteria-base : (r : Result Expression FilterFault) → ReadsBase r → IsBaseFilter (asked r)
criteria-base (Ok e) h = h
criteria-base (Err fault) h = tt

pub filter-base : (test : Test) (words : List (List ℕ)) → Reads IsBaseFilter (filter_of Base test words)
filter-base test [] = tt
filter-base test (word ∷ words) =
    one-way IsBaseFilter (is_alone word) (none_of (asked (parsed Base word)) words) (paired Base test (word ∷ words))
    (alone IsBaseFilter (asked (parsed Base word)) words (criteria-base (parsed Base word) (answer-base word (parsed Base word) (parsed_answers Base word))))
    (mapped IsBaseFilter _ (pairs_of (word ∷ words)) (λ pairs. criteria-base (pairs_meaning Base test pairs) (meaning-base test pairs)))

perhaps-base : (test : Test) (words : List (List ℕ)) → Reads MayBeFilter (perhaps_filter_of Base test words)
perhaps-base test [] = tt
perhaps-base test (word ∷ words) = from-read IsBaseFilter MayBeFilter _ (filter_of Base test (word ∷ words)) (filter-base test (word ∷ words)) (λ criteria h. h)

-- what a word is read as has a property, where it is read
abbrev pub MayHave : {A : Type 0} → (A → Type 0) → Option A → Type 0
MayHave Q None = Unit {0}
MayHave Q (Some a) = Q a

argument-has : {A : Type 0} (Q : A → Type 0) (o : Option A) (word : List ℕ) → MayHave Q o → Reads Q (read_or o word)
argument-has Q None word h = tt
argument-has Q (Some a) word h = h

both-have : {A B : Type 0} (P : A → Type 0) (Q : B → Type 0) (r : Result A Misread) (s : Result B Misread) → Reads P r → Reads Q s → Reads (λ p. P p.0 × Q p.1) (both r s)
both-have P Q (Ok a) (Ok b) h k = (h, k)
both-have P Q (Ok a) (Err e) h k = tt
both-have P Q (Err e) s h k = tt

pub one-filter-base : {A : Type 0} (Q : A → Type 0) (read : List ℕ → Option A) (test : Test) (words : List (List ℕ)) → ((word : List ℕ) → MayHave Q (read word))
    → Reads (λ p. Q p.0 × MayBeFilter p.1) (one_filter_of read Base test words)
one-filter-base Q read test [] each = tt
one-filter-base Q read test (word ∷ words) each =
    from-read (λ p. MayBeFilter p.0 × Q p.1) (λ p. Q p.0 × MayBeFilter p.1) _ (both (perhaps_filter_of Base test words) (argument_of read word))
    (both-have MayBeFilter Q (perhaps_filter_of Base test words) (argument_of read word) (perhaps-base test words) (argument-has Q (read word) word (each word))) (λ p h. (h.1, h.0))
