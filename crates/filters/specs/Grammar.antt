-- The grammar of filters (MPD protocol reference, Filters; where spaces may be is this profile's). Each
-- relation is of a text and what is left of it: `IsBody s text rest` says that text is a B of this form, and
-- then rest. In the grammar F = "(" B ")" B = TYPE OP STRING | "base" s STRING | "!" F | J J = F | J s "AND"
-- s F s is one or more spaces. Spaces may also be at both ends inside a parenthesis and around `==` and `!=`;
-- `contains` has s on both sides. Which bytes TYPE has, and what it names, is up to the vocabulary.
use Rattle.std.specs.Prelude.{◌≡◌, ◌≢◌, ℕ, zero, suc, ◌+◌, ◌<◌, ◌≤◌, max, List, [], ◌∷◌, ◌++◌, length, codes, Bool, true, false, is_some, ◌⊎◌, Option, Some, None}
use Rattle.filters.specs.declared.words.Vocabulary.{Vocabulary}
use Rattle.filters.specs.declared.expression.Field.{Field}
use Rattle.filters.specs.declared.expression.Field.TheVariants.{Any}
use Rattle.filters.specs.declared.expression.Test.{Test}
use Rattle.filters.specs.declared.expression.Test.TheVariants.{Equals, Differs, Contains}
use Rattle.filters.specs.Expressions.{Expression, Compare, Under, Negation, Both}
use Rattle.filters.specs.Words.{is_word_byte, is_base, field_named}

-- the forms of B: one for each rule of the grammar
pub data Body : Type 0 where
  -- the word TYPE, the test of OP, and what STRING says
  Comparison : List ℕ → Test → List ℕ → Body
  -- what STRING says after `base`
  Base : List ℕ → Body
  -- the B inside F
  Not : Body → Body
  -- J: the B inside its first F, or the J before and the B inside its last F
  First : Body → Body
  Then : Body → Body → Body

abbrev pub AreSpaces : List ℕ → Type 0
AreSpaces [] = Unit {0}
AreSpaces (b ∷ bs) = (b ≡ 32) × AreSpaces bs

-- no space, or some
abbrev pub Spaces : List ℕ → List ℕ → Type 0
Spaces text rest = (spaces : List ℕ) × (text ≡ spaces ++ rest) × AreSpaces spaces

-- s
abbrev pub Gap : List ℕ → List ℕ → Type 0
Gap text rest = (more : List ℕ) × (text ≡ 32 ∷ more) × Spaces more rest

-- between quotes is the text, each character itself or after a backslash; a quote and a backslash are always
-- after one
abbrev pub IsInside : ℕ → List ℕ → List ℕ → Type 0
IsInside quote inside [] = inside ≡ []
IsInside quote inside (c ∷ text) = (rest : List ℕ) × (((inside ≡ c ∷ rest) × (c ≢ quote) × (c ≢ 92)) ⊎ (inside ≡ 92 ∷ c ∷ rest)) × IsInside quote rest text

abbrev pub IsQuote : ℕ → Type 0
IsQuote quote = (quote ≡ 34) ⊎ (quote ≡ 39)

-- STRING
abbrev pub IsString : List ℕ → List ℕ → List ℕ → Type 0
IsString string text rest = (quote : ℕ) × (inside : List ℕ) × IsQuote quote × (text ≡ quote ∷ (inside ++ quote ∷ rest)) × IsInside quote inside string

-- OP, with the spaces beside it
abbrev pub IsOperator : Test → List ℕ → List ℕ → Type 0
IsOperator Equals text rest = (sign more : List ℕ) × Spaces text sign × (sign ≡ codes "==" ++ more) × Spaces more rest
IsOperator Differs text rest = (sign more : List ℕ) × Spaces text sign × (sign ≡ codes "!=" ++ more) × Spaces more rest
IsOperator Contains text rest = (word more : List ℕ) × Gap text word × (word ≡ codes "contains" ++ more) × Gap more rest

abbrev pub is_joined : Body → Bool
is_joined (First b) = true
is_joined (Then j b) = true
is_joined b = false

-- F, around a B of this property
abbrev pub InParentheses : (List ℕ → List ℕ → Type 0) → List ℕ → List ℕ → Type 0
InParentheses body text rest = (inner start end more : List ℕ) × (text ≡ 40 ∷ inner) × Spaces inner start × body start end × Spaces end more × (more ≡ 41 ∷ rest)

-- what a word names; a word that names nothing is never read, so any field serves for it
abbrev pub field_of : Option Field → Field
field_of None = Any
field_of (Some field) = field

-- how many parentheses are open at once, with the one around the form
abbrev pub depth : Body → ℕ
depth (Comparison word test string) = 1
depth (Base string) = 1
depth (Not b) = depth b + 1
depth (First b) = depth b + 1
depth (Then j b) = max (depth j) (depth b + 1)

-- with this vocabulary
module _ (vocabulary : Vocabulary) where
  -- these bytes may be in a word
  abbrev pub AreWordBytes : List ℕ → Type 0
  AreWordBytes [] = Unit {0}
  AreWordBytes (b ∷ bs) = (is_word_byte vocabulary b ≡ true) × AreWordBytes bs

  -- a word of one or more such bytes that is `base`, or is not
  abbrev pub IsWord : Bool → List ℕ → Type 0
  IsWord base word = (0 < length word) × AreWordBytes word × (is_base word ≡ base)

  abbrev pub IsBody : Body → List ℕ → List ℕ → Type 0
  IsBody (Comparison word test string) text rest = (operator quoted : List ℕ) × (text ≡ word ++ operator) × IsWord false word × IsOperator test operator quoted × IsString string quoted rest
  IsBody (Base string) text rest = (word gap quoted : List ℕ) × (text ≡ word ++ gap) × IsWord true word × Gap gap quoted × IsString string quoted rest
  IsBody (Not b) text rest = (more : List ℕ) × (text ≡ 33 ∷ more) × InParentheses (IsBody b) more rest
  IsBody (First b) text rest = InParentheses (IsBody b) text rest
  IsBody (Then j b) text rest =
      (is_joined j ≡ true) × (gap word second_gap next : List ℕ) × IsBody j text gap × Gap gap word × (word ≡ codes "AND" ++ second_gap) × Gap second_gap next × InParentheses (IsBody b) next rest

  -- the whole text is an F of this form
  abbrev pub Spells : List ℕ → Body → Type 0
  Spells text body = InParentheses (IsBody body) text []

  -- some filter begins so
  abbrev pub BeginsFilter : List ℕ → Type 0
  BeginsFilter front = (rest : List ℕ) × (body : Body) × Spells (front ++ rest) body

  -- k is the length of the longest start of the text with which some filter begins, and the text is no filter
  pub record IsLongestStart (text : List ℕ) (k : ℕ) : Type 0 where
    pub front : List ℕ
    pub back : List ℕ
    pub parts : text ≡ front ++ back
    pub at : k ≡ length front
    pub begins : BeginsFilter front
    pub longest : (b : ℕ) (more : List ℕ) → back ≡ b ∷ more → BeginsFilter (front ++ b ∷ []) → ⊥
    pub no_filter : (body : Body) → Spells text body → ⊥

  -- the expression of a form
  abbrev pub meaning : Body → Expression
  meaning (Comparison word test string) = Compare (field_of (field_named vocabulary word)) test string
  meaning (Base string) = Under string
  meaning (Not b) = Negation (meaning b)
  meaning (First b) = meaning b
  meaning (Then j b) = Both (meaning j) (meaning b)

  -- each word TYPE names something
  abbrev pub HasKnownTags : Body → Type 0
  HasKnownTags (Comparison word test string) = is_some (field_named vocabulary word) ≡ true
  HasKnownTags (Base string) = Unit {0}
  HasKnownTags (Not b) = HasKnownTags b
  HasKnownTags (First b) = HasKnownTags b
  HasKnownTags (Then j b) = HasKnownTags j × HasKnownTags b

  -- the text is a filter of known tags, with at most 32 parentheses open at once, and says this
  abbrev pub Says : List ℕ → Expression → Type 0
  Says text e = (body : Body) × Spells text body × HasKnownTags body × (depth body ≤ 32) × (meaning body ≡ e)

  -- after this J and AND a parenthesis may open, where n are open
  abbrev pub FollowsAnd : ℕ → List ℕ → List ℕ → Type 0
  FollowsAnd n text rest =
      (j : Body) × (gap word second_gap : List ℕ) × IsBody j text gap × (is_joined j ≡ true) × HasKnownTags j × (n + depth j ≤ 33) × Gap gap word × (word ≡ codes "AND" ++ second_gap) × Gap second_gap rest

  -- a parenthesis may open before the rest, where n are open: as the whole filter, or at once, after `!`, or
  -- after J and AND
  abbrev pub MayOpen : ℕ → List ℕ → List ℕ → Type 0
  MayOpen zero text rest = text ≡ rest
  MayOpen (suc n) text rest = (text ≡ rest) ⊎ ((text ≡ 33 ∷ rest) ⊎ FollowsAnd (suc n) text rest)

  -- n parentheses are open before the rest, and only spaces follow the last of them
  abbrev pub AreOpen : ℕ → List ℕ → List ℕ → Type 0
  AreOpen zero text rest = text ≡ rest
  AreOpen (suc n) text rest = (before outer inner : List ℕ) × AreOpen n text before × MayOpen n before outer × (outer ≡ 40 ∷ inner) × Spaces inner rest

  abbrev pub EndsWord : List ℕ → Type 0
  EndsWord [] = Unit {0}
  EndsWord (b ∷ bs) = is_word_byte vocabulary b ≡ false

  -- after the last open parenthesis comes a whole word that names nothing
  pub record NamesNothing (text word : List ℕ) : Type 0 where
    pub count : ℕ
    pub outer : List ℕ
    pub rest : List ℕ
    pub some_open : (1 ≤ count) × (count ≤ 32)
    pub open_there : AreOpen count text outer
    pub there : outer ≡ word ++ rest
    pub is_word : IsWord false word
    pub ends : EndsWord rest
    pub unknown : field_named vocabulary word ≡ None

  -- where 32 parentheses are open, one more opens
  abbrev pub GoesTooDeep : List ℕ → Type 0
  GoesTooDeep text = (before outer inner : List ℕ) × AreOpen 32 text before × MayOpen 32 before outer × (outer ≡ 40 ∷ inner)
