-- Partitions that have the same except for their channels, and partitions that have what is kept.
use Rattle.std.proofs.Common.{◌≡◌, ℕ, suc, ◌==◌, Bool, true, false, List, [], ◌∷◌, length, map, Option, Some, None, option_map, refl, ap, sym, ◌∙◌, subst, if◌then◌else◌}
use Rattle.std.specs.Prelude.{slice_index_or}
use Rattle.std.specs.Str.{bytes_eq}
use Rattle.kept_state.specs.Partitions.{Pairwise}
use Rattle.kept_state.specs.Reading.{Player, given_back}
use Rattle.kept_state.specs.declared.partitions.KeptPartition.{KeptPartition}
use Rattle.partition_table.specs.Parts.{changed, moved_output, part_at}
use Rattle.partition_table.proofs.Looks.{at_mapped, moved_keeps}
use Rattle.player_core.specs.Player.{PlayerState}
use Rattle.player_state.specs.Effects.{part_after}
use Rattle.player_state.specs.Outputs.{OutputsData, has_failed, is_output}
use Rattle.player_state.specs.declared.effect.CommandEffect.TheVariants.{Leaves}
use Rattle.player_state.specs.declared.effect.Effect.TheVariants.{ByCommand}
use Rattle.player_state.specs.declared.outputs.Carried.{Carried}
use Rattle.player_state.specs.declared.state.Library.{Library}
use Rattle.player_state.specs.declared.state.Part.{Part}
use Rattle.song_queue.specs.State.{QueueState, queue_of}
use Rattle.state_laws.specs.Having.{AreSwitched, Has, kept_entry}
use Rattle.state_laws.specs.Partitions.{Each}
use Rattle.state_laws.specs.Saying.{is_song}
use Rattle.state_laws.proofs.Apart.{Keeps, not_first}
use Rattle.state_laws.proofs.Lines.{current_same, options_same}
use Rattle.state_laws.proofs.Numbers.{AreNumbered, names_of}
use Rattle.state_laws.proofs.Spread.{Fit, has_left}

-- a partition has what is kept of one, under its name
pub record HasBack (library : Library) (p : Part) (q : KeptPartition) : Type 0 where
  pub name : p.name ≡ q.name
  pub has : Has library.rate p (given_back (is_song library) q.kept)

-- the same, except for channels
pub record Alike (p q : Part) : Type 0 where
  pub index : q.index ≡ p.index
  pub name : q.name ≡ p.name
  pub queue : q.queue ≡ p.queue
  pub player : q.player ≡ p.player
  pub volume : q.volume ≡ p.volume
  pub outputs : q.outputs ≡ p.outputs

same : (p : Part) → Alike p p
same p = record { index = refl; name = refl; queue = refl; player = refl; volume = refl; outputs = refl }

all_same : (ps : List Part) → Pairwise Alike ps ps
all_same [] = tt
all_same (p ∷ ps) = (same p, all_same ps)

-- a client leaves a partition
left : (rate number : ℕ) (p : Part) → Alike p (part_after rate p (ByCommand (Leaves number)))
left rate number p = record { index = refl; name = refl; queue = refl; player = refl; volume = refl; outputs = refl }

pub left_all : (rate index number : ℕ) (ps : List Part) → Pairwise Alike ps (changed rate index (ByCommand (Leaves number)) ps)
left_all rate index number [] = tt
left_all rate index number (p ∷ ps) =
    elim (p.index == index) as (λ b. Pairwise Alike (p ∷ ps) (if b then part_after rate p (ByCommand (Leaves number)) ∷ ps else p ∷ changed rate index (ByCommand (Leaves number)) ps))
    [ true ↦ (left rate number p, all_same ps) | false ↦ (same p, left_all rate index number ps) ]

-- what such partitions have
has_alike : (rate : ℕ) (p q : Part) (player : Player) → Alike p q → Has rate p player → Has rate q player
has_alike rate p q player a h = record {
  options = options_same p q player.options a.volume (ap (λ (x : PlayerState). x.modes) a.player) (ap (λ (x : PlayerState). x.crossfade) a.player) h.options;
  outputs = subst (λ (o : OutputsData). AreSwitched o player.outputs) (sym a.outputs) h.outputs;
  queue = h.queue ∙ ap (λ (x : QueueState). map kept_entry (queue_of x)) (sym a.queue);
  song = current_same rate p q player.song (ap queue_of a.queue) (ap (λ (x : PlayerState). x.current) a.player)
      (ap (λ (x : PlayerState). x.playback) a.player) (ap (λ (x : PlayerState). x.offset) a.player) h.song;
}

pub have_alike : (library : Library) (ps qs : List Part) (kept : List KeptPartition) → Pairwise Alike ps qs → Pairwise (HasBack library) ps kept → Pairwise (HasBack library) qs kept
have_alike library [] [] [] a h = tt
have_alike library [] [] (k ∷ ks) a h = absurd h
have_alike library [] (q ∷ qs) kept a h = absurd a
have_alike library (p ∷ ps) [] kept a h = absurd a
have_alike library (p ∷ ps) (q ∷ qs) [] a h = absurd h
have_alike library (p ∷ ps) (q ∷ qs) (k ∷ ks) a h =
    (record { name = a.0.name ∙ h.0.name; has = has_alike library.rate p q (given_back (is_song library) k.kept) a.0 h.0.has }, have_alike library ps qs ks a.1 h.1)

fit_with : (names : List (List ℕ)) (home : ℕ → List ℕ) (p q : Part) → q.name ≡ p.name → q.outputs ≡ p.outputs → Fit names home p → Fit names home q
fit_with names home p q name outputs h = record {
  all = ap (λ (o : OutputsData). o.names) outputs ∙ h.all;
  here = ap (λ (o : OutputsData). length o.here) outputs ∙ h.here;
  stands = λ n. ap (λ (o : OutputsData). is_output o n) outputs ∙ h.stands n ∙ ap (bytes_eq (home n)) (sym name);
  sound = λ n. ap (λ (o : OutputsData). has_failed o n) outputs ∙ h.sound n;
}

pub fit_alike : (names : List (List ℕ)) (home : ℕ → List ℕ) (ps qs : List Part) → Pairwise Alike ps qs → Each (Fit names home) ps → Each (Fit names home) qs
fit_alike names home [] [] a h = tt
fit_alike names home [] (q ∷ qs) a h = absurd a
fit_alike names home (p ∷ ps) [] a h = absurd a
fit_alike names home (p ∷ ps) (q ∷ qs) a h = (fit_with names home p q a.0.name a.0.outputs h.0, fit_alike names home ps qs a.1 h.1)

pub numbered_alike : (n : ℕ) (ps qs : List Part) → Pairwise Alike ps qs → AreNumbered n ps → AreNumbered n qs
numbered_alike n [] [] a are = tt
numbered_alike n [] (q ∷ qs) a are = absurd a
numbered_alike n (p ∷ ps) [] a are = absurd a
numbered_alike n (p ∷ ps) (q ∷ qs) a are = (a.0.index ∙ are.0, numbered_alike (suc n) ps qs a.1 are.1)

pub names_alike : (ps qs : List Part) → Pairwise Alike ps qs → names_of qs ≡ names_of ps
names_alike [] [] a = refl
names_alike [] (q ∷ qs) a = absurd a
names_alike (p ∷ ps) [] a = absurd a
names_alike (p ∷ ps) (q ∷ qs) a = λ i. a.0.name i ∷ names_alike ps qs a.1 i

pub length_alike : (ps qs : List Part) → Pairwise Alike ps qs → length qs ≡ length ps
length_alike [] [] a = refl
length_alike [] (q ∷ qs) a = absurd a
length_alike (p ∷ ps) [] a = absurd a
length_alike (p ∷ ps) (q ∷ qs) a = ap (λ (n : ℕ). suc n) (length_alike ps qs a.1)

-- a partition that keeps which outputs stand in it
pub fit_kept : (names : List (List ℕ)) (home : ℕ → List ℕ) (p q : Part) → Keeps p q → Fit names home p → Fit names home q
fit_kept names home p q k h = record {
  all = k.names ∙ h.all;
  here = ap (λ (xs : List Bool). length xs) k.here ∙ h.here;
  stands = λ n. ap (λ (xs : List Bool). slice_index_or xs n false) k.here ∙ h.stands n ∙ ap (bytes_eq (home n)) (sym k.name);
  sound = λ n. ap (λ (xs : List Bool). slice_index_or xs n false) k.failed ∙ h.sound n;
}

-- ---- after an output was moved to a partition that is none of these

abbrev pub IsElsewhere : ℕ → Part → Type 0
IsElsewhere to p = (p.index == to) ≡ false

pub elsewhere : (to : ℕ) (ps : List Part) → part_at to ps ≡ None → Each (IsElsewhere to) ps
elsewhere to [] none = tt
elsewhere to (p ∷ ps) none = let first = not_first to p ps none in (first.0, elsewhere to ps first.1)

moved_name : (m to : ℕ) (c : Option Carried) (p : Part) → (moved_output m to c p).name ≡ p.name
moved_name m to None p = refl
moved_name m to (Some c) p = refl

pub names_moved : (m to : ℕ) (c : Option Carried) (ps : List Part) → names_of (map (moved_output m to c) ps) ≡ names_of ps
names_moved m to c [] = refl
names_moved m to c (p ∷ ps) = λ i. moved_name m to c p i ∷ names_moved m to c ps i

pub numbered_moved : (n m to : ℕ) (c : Option Carried) (ps : List Part) → AreNumbered n ps → AreNumbered n (map (moved_output m to c) ps)
numbered_moved n m to c [] are = tt
numbered_moved n m to c (p ∷ ps) are = (moved_keeps m to c p ∙ are.0, numbered_moved (suc n) m to c ps are.1)

pub have_moved : (library : Library) (m to : ℕ) (c : Option Carried) (ps : List Part) (kept : List KeptPartition) → Each (IsElsewhere to) ps
    → Pairwise (HasBack library) ps kept → Pairwise (HasBack library) (map (moved_output m to c) ps) kept
have_moved library m to c [] [] away h = tt
have_moved library m to c [] (k ∷ ks) away h = absurd h
have_moved library m to c (p ∷ ps) [] away h = absurd h
have_moved library m to c (p ∷ ps) (k ∷ ks) away h = (
  record { name = moved_name m to c p ∙ h.0.name; has = has_left library.rate m to c p (given_back (is_song library) k.kept) away.0 h.0.has },
  have_moved library m to c ps ks away.1 h.1,
)

pub none_moved : (index m to : ℕ) (c : Option Carried) (ps : List Part) → part_at index ps ≡ None → part_at index (map (moved_output m to c) ps) ≡ None
none_moved index m to c ps none = at_mapped index (moved_output m to c) (moved_keeps m to c) ps ∙ ap (option_map (moved_output m to c)) none
