-- The steps of the move to profile 2, one after another.
use Rattle.std.proofs.Common.{◌≡◌, ◌<◌, ℕ, [], ◌∷◌, Bool, true, length, option_map, sym, ap, subst, ◌∙◌, arith}
use Rattle.sqlite.specs.Order.{Row}
use Rattle.sqlite.specs.Tree.{Trees}
use Rattle.sqlite.specs.Effect.{Database}
use Rattle.sqlite.specs.State.{State, HasCleanDisk}
use Rattle.sqlite_rules.specs.Lists.{Has}
use Rattle.sqlite.specs.declared.types.Value.TheVariants.{Int, Text}
use Rattle.sqlite.specs.Order.{column}
use Rattle.shelf.specs.Lines.{lines_of}
use Rattle.shelf.specs.Maps.{Same}
use Rattle.shelf.specs.declared.kinds.StickerKind.TheVariants.{Song}
use Rattle.shelf_database.specs.Tables.{kind_text, has_text, has_key, text_where, note_maps, former_maps, former_stickers, AreRows, HaveTexts}
use Rattle.shelf_database.specs.Faults.{IsUnstorable, number_after}
use Rattle.shelf_database.specs.Opens.{Leads, HasFormer, HoldsFormerTexts, MakesNotes, HasNoNumber, NotesNumber, HasRows, Clears, HasNoNotes, CopiesStickers, KeepsOne, HasBoth, Renumbers, IsFormerShelf, HasMoved}
use Rattle.shelf_database.proofs.MakingLemmas.{leads_then}

-- a step over such a database is one over each that is so
pub narrowed : (Before Narrow : Database → Type 0) (Made : Database → Database → Type 0) (old new : State) (is_done : Bool) → ((db : Database) → Narrow db → Before db) → Leads Before Made old new is_done → Leads Narrow Made old new is_done
narrowed Before Narrow Made old new is_done holds leads = record { done = λ clean is inside before. leads.done clean is inside (holds old.now before); kept = leads.kept; survives = leads.survives }

-- ---- the number

pub both_stickers : (db : Database) → HasBoth db → HasRows 3 db
both_stickers db has = (has.0, has.1, has.3)

pub cleared_number : (was db : Database) → HasBoth was → Clears 3 was db → HasRows 0 db
cleared_number was db has made = (made.schema, made.sound, subst AreRows (sym (made.others.0 (λ e. omega (arith, e)))) has.2)

-- both tables are emptied
pub record ClearsBoth (was db : Database) : Type 0 where
  pub none : HasNoNumber db
  pub lists : db.trees 1 ≡ was.trees 1
  pub stickers : db.trees 3 ≡ []
  pub notes : db.trees 5 ≡ was.trees 5

pub clears_both : (was db late : Database) → HasBoth was → Clears 3 was db → Clears 0 db late → ClearsBoth was late
clears_both was db late has first second = record {
  none = record { schema = second.schema; sound = second.sound; profile = second.gone };
  lists = second.others.1.0 (λ e. omega (arith, e)) ∙ first.others.1.0 (λ e. omega (arith, e));
  stickers = second.others.1.1.0 (λ e. omega (arith, e)) ∙ first.gone;
  notes = second.others.1.1.1.0 (λ e. omega (arith, e)) ∙ first.others.1.1.1.0 (λ e. omega (arith, e));
}

pub renumbers : (was db late : Database) → HasBoth was → ClearsBoth was db → NotesNumber db late → Renumbers was late
renumbers was db late has cleared noted = record {
  schema = noted.schema;
  sound = noted.sound;
  number = noted.number;
  lists = noted.lists ∙ cleared.lists;
  stickers = noted.stickers ∙ cleared.stickers;
  notes = noted.notes ∙ cleared.notes;
}

-- ---- the stickers

pub former_schema_there : (db : Database) → IsFormerShelf db → HasFormer db
former_schema_there db shelf = shelf.schema

pub awaits_stickers : (was db : Database) → IsFormerShelf was → MakesNotes was db → HasNoNotes db
awaits_stickers was db shelf made = record { schema = made.schema; sound = made.sound; lists = subst AreRows (sym made.lists) shelf.lists; stickers = subst AreRows (sym made.stickers) shelf.stickers; notes = made.notes }

pub keeps_it : (was db : Database) → IsFormerShelf was → MakesNotes was db → KeepsOne db → KeepsOne was
keeps_it was db shelf made why =
    subst (λ rows. (row : Row) × Has rows row × (others : ℕ) × (others < length rows) × IsUnstorable (Int (number_after [] others) ∷ Text (kind_text Song) ∷ column row 1 ∷ column row 2 ∷ column row 3 ∷ [])) made.stickers why

-- the stickers of the tables of profile 1 are in note
pub record HasCopied (was db : Database) : Type 0 where
  pub both : HasBoth db
  pub lists : db.trees 1 ≡ was.trees 1
  pub notes : AreRows (db.trees 5)
  pub maps : Same (former_maps was.trees) (note_maps db.trees)
  pub texts : HoldsFormerTexts was.trees → HaveTexts (1 ∷ 2 ∷ 3 ∷ 4 ∷ []) (db.trees 5)

copied_maps : (was db late : Trees) → db 1 ≡ was 1 → db 3 ≡ was 3 → Same (former_maps db) (note_maps late) → Same (former_maps was) (note_maps late)
copied_maps was db late lists stickers same = record {
  lists = λ name. same.lists name ∙ ap (λ rows. option_map lines_of (text_where 2 (has_text 1 name) rows)) lists;
  stickers = λ kind target name. same.stickers kind target name ∙ ap (λ rows. former_stickers rows kind target name) stickers;
}

pub has_copied : (was db late : Database) → IsFormerShelf was → MakesNotes was db → CopiesStickers db late → HasCopied was late
has_copied was db late shelf made copied = record {
  both = (copied.schema, copied.sound, subst AreRows (sym (copied.profile ∙ made.profile)) shelf.profile, subst AreRows (sym (copied.stickers ∙ made.stickers)) shelf.stickers);
  lists = copied.lists ∙ made.lists;
  notes = copied.notes;
  maps = copied_maps was.trees db.trees late.trees made.lists made.stickers copied.maps;
  texts = λ held. copied.texts (subst (λ rows. HaveTexts (1 ∷ 2 ∷ 3 ∷ []) rows) (sym made.stickers) held.stickers);
}

kept_maps : (was db late : Trees) → late 1 ≡ db 1 → late 5 ≡ db 5 → Same (former_maps was) (note_maps db) → Same (former_maps was) (note_maps late)
kept_maps was db late lists notes same = record {
  lists = λ name. ap (λ rows. option_map lines_of (text_where 2 (has_text 1 name) rows)) lists ∙ same.lists name;
  stickers = λ kind target name. ap (λ rows. text_where 4 (has_key kind target name) rows) notes ∙ same.stickers kind target name;
}

pub has_moved : (was db late : Database) → IsFormerShelf was → HasCopied was db → Renumbers db late → HasMoved was late
has_moved was db late shelf copied done = record {
  shelf = record { schema = done.schema; sound = done.sound; lists = subst AreRows (sym (done.lists ∙ copied.lists)) shelf.lists; notes = subst AreRows (sym done.notes) copied.notes };
  number = done.number;
  maps = kept_maps was.trees db.trees late.trees done.lists done.notes copied.maps;
  stickers = done.stickers;
  texts = λ held. record {
    lists = subst (λ rows. HaveTexts (1 ∷ 2 ∷ []) rows) (sym (done.lists ∙ copied.lists)) held.lists;
    notes = subst (λ rows. HaveTexts (1 ∷ 2 ∷ 3 ∷ 4 ∷ []) rows) (sym done.notes) (copied.texts held);
  };
}

-- ---- the steps

-- the two tables are emptied
pub both_cleared : (old mid new : State) (is_done : Bool) → (HasCleanDisk new → HasCleanDisk mid) → Leads (HasRows 3) (Clears 3) old mid true → Leads (HasRows 0) (Clears 0) mid new is_done → Leads HasBoth ClearsBoth old new is_done
both_cleared old mid new is_done sooner first second =
    leads_then HasBoth (HasRows 0) (Clears 3) (Clears 0) ClearsBoth old mid new is_done cleared_number clears_both sooner (narrowed (HasRows 3) HasBoth (Clears 3) old mid true both_stickers first) second

-- and the number is noted
pub all_renumbered : (old mid new : State) (is_done : Bool) → (HasCleanDisk new → HasCleanDisk mid) → Leads HasBoth ClearsBoth old mid true → Leads HasNoNumber NotesNumber mid new is_done → Leads HasBoth Renumbers old new is_done
all_renumbered old mid new is_done sooner first second =
    leads_then HasBoth HasNoNumber ClearsBoth NotesNumber Renumbers old mid new is_done (λ was db has made. made.none) renumbers sooner first second

-- note is made, and the stickers are copied
pub all_copied : (old mid new : State) (is_done : Bool) → (HasCleanDisk new → HasCleanDisk mid) → Leads HasFormer MakesNotes old mid true → Leads HasNoNotes CopiesStickers mid new is_done → Leads IsFormerShelf HasCopied old new is_done
all_copied old mid new is_done sooner first second =
    leads_then IsFormerShelf HasNoNotes MakesNotes CopiesStickers HasCopied old mid new is_done awaits_stickers has_copied sooner (narrowed HasFormer IsFormerShelf MakesNotes old mid true former_schema_there first) second

-- and the number is changed
pub all_moved : (old mid new : State) (is_done : Bool) → (HasCleanDisk new → HasCleanDisk mid) → Leads IsFormerShelf HasCopied old mid true → Leads HasBoth Renumbers mid new is_done → Leads IsFormerShelf HasMoved old new is_done
all_moved old mid new is_done sooner first second =
    leads_then IsFormerShelf HasBoth HasCopied Renumbers HasMoved old mid new is_done (λ was db shelf made. made.both) has_moved sooner first second
