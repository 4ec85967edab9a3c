-- What one more line changes in what was told of a player's partitions.
use Rattle.std.proofs.Common.{◌≡◌, ◌∙◌, ℕ, Bool, true, false, List, [], ◌∷◌, ◌++◌, map, refl, sym, ap, subst, Option, Some, None, Result, Ok, Err, IfOk, codes}
use Rattle.std.specs.List.{filter_map}
use Rattle.std.specs.Option.{option_to_list}
use Rattle.std.specs.Global.{Vec}
use Rattle.std.proofs.lemmas.List.Elements.{filter_map-append}
use Rattle.kept_state.specs.Heard.{at_last, text_after}
use Rattle.kept_state.specs.HeardPartitions.{BeginsIf, HasHeardAll, HasHeardOf, HearsAll, HearsLast, HearsOf, KeepsAll, KeepsAllIf, KeepsOf, listed_after, texts_after}
use Rattle.kept_state.specs.Partitions.{IsPartitionTold, IsPlayerTold, IsPlayerToldIf, Pairwise, begins_partition, listed, name_told, of_each, same_texts, told_of_all, up_to, values}
use Rattle.kept_state.specs.Told.{behind}
use Rattle.kept_state.specs.declared.partitions.HeardPartition.{HeardPartition}
use Rattle.kept_state.specs.declared.partitions.HeardPlayer.{HeardPlayer}
use Rattle.kept_state.specs.declared.partitions.KeptPartition.{KeptPartition}
use Rattle.kept_state.proofs.Told.{heard_more, kept_told, text_more}
use Rattle.kept_state.proofs.Sections.{at_last_end, no_end, pairs_last, pairs_more, pairs_none, pairs_same, pairs_then, same_end, sections_begin, sections_more, up_begin, up_in, up_out}

one_at : {X Y : Type 0} (h : X → Option Y) (x : X) (o : Option Y) → h x ≡ o → filter_map h (x ∷ []) ≡ option_to_list (h x)
one_at h x None is = rw is refl
one_at h x (Some y) is = rw is refl

pub values_more : (key line : List ℕ) (lines : List (List ℕ)) → texts_after key line (values key lines) ≡ values key (lines ++ line ∷ [])
values_more key line lines =
    sym (filter_map-append (behind key) lines (line ∷ []) ∙ ap (λ e. filter_map (behind key) lines ++ e) (one_at (behind key) line (behind key line) refl))

of_more : (lines : List (List ℕ)) (line : List ℕ) (old new : HeardPartition) → HasHeardOf lines old → HearsOf line old new
    → HasHeardOf (lines ++ line ∷ []) new
of_more lines line old new has hears = record {
  name = hears.name ∙ ap (text_after (codes "partition: ") line) has.name ∙ text_more (codes "partition: ") [] line lines;
  outputs = hears.outputs ∙ ap (texts_after (codes "outputname: ") line) has.outputs ∙ values_more (codes "outputname: ") line lines;
  state = heard_more lines line old.state new.state has.state hears.state;
}

-- the sections of lines, with other ones that are the same
given : (secs lines : List (List (List ℕ))) (ps qs : List HeardPartition) → lines ≡ secs → qs ≡ ps → Pairwise HasHeardOf secs ps → Pairwise HasHeardOf lines qs
given secs lines ps qs is are pairs =
    subst (λ l. Pairwise HasHeardOf l qs) (sym is) (subst (λ q. Pairwise HasHeardOf secs q) (sym are) pairs)

up_in_end : (secs : List (List (List ℕ))) (s : List (List ℕ)) (lines : List (List ℕ)) (line : List ℕ) → of_each lines ≡ secs ++ s ∷ []
    → up_to begins_partition (lines ++ line ∷ []) ≡ up_to begins_partition lines
up_in_end [] s lines line is = up_in begins_partition lines line s [] is
up_in_end (t ∷ ts) s lines line is = up_in begins_partition lines line t (ts ++ s ∷ []) is

more_at : (lines : List (List ℕ)) (line : List ℕ) (old new : HeardPlayer) (b is_heard : Bool) (begun : List HeardPartition) → begins_partition line ≡ b
    → HasHeardAll lines old → BeginsIf b old.partitions.items begun → HearsLast line begun new.partitions.items is_heard
    → new.listed.items ≡ listed_after is_heard line old.listed.items → HasHeardAll (lines ++ line ∷ []) new
more_at lines line old new true true begun is has (fresh, none, begins) (others, before, after, was, now, more) lists =
    let e = same_end old.partitions.items others fresh before (sym begins ∙ was) in
    let one = of_more [] line fresh after none (subst (λ h. HearsOf line h after) (sym e.1) more) in record {
      listed = lists ∙ has.listed ∙ ap (values (codes "partition: ")) (sym (up_begin begins_partition lines line is));
      partitions = given _ _ _ _ (sections_begin begins_partition lines line is) (now ∙ ap (λ o. o ++ after ∷ []) (sym e.0))
          (pairs_more HasHeardOf (of_each lines) old.partitions.items (line ∷ []) after has.partitions one);
    }
more_at lines line old new true false begun is has (fresh, none, begins) (empty, none_new) lists =
    absurd (no_end old.partitions.items fresh (sym begins ∙ empty))
more_at lines line old new false true begun not has begins (others, before, after, was, now, more) lists =
    let (secs, s, cut, firsts, at) = pairs_last HasHeardOf (of_each lines) others before (subst (λ ps. Pairwise HasHeardOf (of_each lines) ps) (sym begins ∙ was) has.partitions) in record {
      listed = lists ∙ has.listed ∙ ap (values (codes "partition: ")) (sym (up_in_end secs s lines line cut));
      partitions = given _ _ _ _
          (sections_more begins_partition lines line not ∙ ap (at_last (λ l. l ++ line ∷ [])) cut ∙ at_last_end (λ l. l ++ line ∷ []) secs s) now
          (pairs_more HasHeardOf secs others (s ++ line ∷ []) after firsts (of_more s line before after at more));
    }
more_at lines line old new false false begun not has begins (empty, none_new) lists =
    let none = pairs_none HasHeardOf (of_each lines) old.partitions.items (sym begins ∙ empty) has.partitions in record {
      listed = lists ∙ ap (texts_after (codes "partition: ") line) has.listed ∙ values_more (codes "partition: ") line (up_to begins_partition lines)
          ∙ ap (values (codes "partition: ")) (sym (up_out begins_partition lines line not none));
      partitions = given [] _ [] _ (sections_more begins_partition lines line not ∙ ap (at_last (λ l. l ++ line ∷ [])) none) none_new tt;
    }

pub all_more : (lines : List (List ℕ)) (line : List ℕ) (old new : HeardPlayer) → HasHeardAll lines old → HearsAll line old new
    → HasHeardAll (lines ++ line ∷ []) new
all_more lines line old new has hears =
    more_at lines line old new (begins_partition line) hears.is_heard hears.begun refl has hears.begins hears.hears hears.lists

told_of : (lines : List (List ℕ)) (heard : HeardPartition) (partition : KeptPartition) → HasHeardOf lines heard → KeepsOf heard partition
    → IsPartitionTold lines partition
told_of lines heard partition has keeps = record {
  name = keeps.name ∙ has.name;
  outputs = keeps.outputs ∙ has.outputs;
  kept = kept_told lines heard.state partition.kept has.state keeps.state;
}

told_if : (b : Bool) (lines : List (List ℕ)) (heard : HeardPlayer) (partitions : Option (Vec KeptPartition)) → HasHeardAll lines heard
    → KeepsAllIf b heard partitions → IsPlayerToldIf b lines partitions
told_if false lines heard partitions has keeps = keeps
told_if true lines heard partitions has (all, is, pairs) =
    (all, is, pairs_then HasHeardOf KeepsOf IsPartitionTold (of_each lines) heard.partitions.items all.items told_of has.partitions pairs)

all_told : (lines : List (List ℕ)) (heard : HeardPlayer) (partitions : Option (Vec KeptPartition)) → HasHeardAll lines heard
    → KeepsAll heard partitions → IsPlayerTold lines partitions
all_told lines heard partitions has keeps =
    let names = pairs_same HasHeardOf name_told (λ (p : HeardPartition). p.name) (of_each lines) heard.partitions.items (λ l h pair. pair.name) has.partitions in
    let same : same_texts heard.listed.items (map (λ (p : HeardPartition). p.name) heard.partitions.items) ≡ told_of_all lines =
    ap (λ l. same_texts l (map (λ (p : HeardPartition). p.name) heard.partitions.items)) has.listed ∙ ap (same_texts (listed lines)) names in
    told_if (told_of_all lines) lines heard partitions has (subst (λ b. KeepsAllIf b heard partitions) same keeps)

pub all_told_ok : {E : Type 0} (lines : List (List ℕ)) (heard : HeardPlayer) (r : Result (Option (Vec KeptPartition)) E) → HasHeardAll lines heard
    → IfOk r (KeepsAll heard) → IfOk r (IsPlayerTold lines)
all_told_ok lines heard (Ok partitions) has keeps = all_told lines heard partitions has keeps
all_told_ok lines heard (Err e) has keeps = keeps
