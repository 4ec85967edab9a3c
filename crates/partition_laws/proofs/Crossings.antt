-- What passes between partitions by an event: a new one holds no output, and neither does one that ends.
use Rattle.std.proofs.Common.{◌≡◌, inl, inr, ℕ, zero, suc, ◌+◌, ◌≤◌, ◌==◌, Bool, true, false, not, ◌||◌, codes, nat_le, List, [], ◌∷◌, length, Option, Some, None, is_some, refl, ap, sym, ◌∙◌, subst, arith, if◌then◌else◌}
use Rattle.std.specs.Prelude.{find, slice_index_or}
use Rattle.std.specs.List.{range_with_len}
use Rattle.mpd_command.specs.declared.partitions.PartitionCommand.{PartitionCommand}
use Rattle.mpd_command.specs.declared.partitions.PartitionCommand.TheVariants.{DelPartition, ListPartitions, MoveOutput, NewPartition, Partition}
use Rattle.mpd_command.specs.declared.request.Request.{Request}
use Rattle.mpd_text.specs.declared.answers.answer.ErrorNumber.TheVariants.{Argument, Exist, System}
use Rattle.player_state.specs.Outputs.{all_off, is_output}
use Rattle.player_state.specs.declared.effect.AudioStep.TheVariants.{Settles}
use Rattle.player_state.specs.declared.state.Client.{Client}
use Rattle.player_state.specs.declared.state.Library.{Library}
use Rattle.player_state.specs.declared.state.Part.{Part}
use Rattle.partition_table.specs.Openings.{OpeningsData}
use Rattle.partition_table.specs.Parts.{Known, changed, free_index, has_index, holder, holds_any_in, known_at, named}
use Rattle.partition_table.specs.declared.crossing.Crossing.TheVariants.{Closes, Brings}
use Rattle.partition_table.proofs.Looks.{known_changed, known_crossed, knowns_changed, knowns_moved}
use Rattle.transitions.specs.CommandResults.{bad_name}
use Rattle.transitions.specs.Transitions.{TransitionData, acts, crosses, enters, or_ended, transition_by}
use Rattle.transitions.specs.declared.asked.Asked.{Asked}
use Rattle.transitions.specs.declared.asked.ListPlace.{ListPlace}
use Rattle.transitions.specs.declared.shelf_calls.StoreReply.{StoreReply}
use Rattle.partition_commands.specs.Partitions.{Seated, begins, brings, by_name, done, ends, goes, is_in, is_partition_name, is_used, moves, output_named, outputs_elsewhere, planned, refused}
use Rattle.player_events.specs.declared.event.Event.{Event}
use Rattle.player_events.specs.declared.event.Event.TheVariants.{Connect, Disconnect, Line, ScanQuestion, ScanResult, Want, Have, Failed, OutputTurn, End}
use Rattle.partition.specs.Image.{Image, Overview, overview}
use Rattle.partition.specs.Step.{absent, asked_by, next_image, index_at, sender_in, transition, transition_line, transition_of, written_transition}
use Rattle.partition_laws.specs.Moves.{AreApart, HasEight, MovesRise, MovesTellSpots, OpensApart, StaysApart}
use Rattle.partition_laws.proofs.Moves.{IsSafe, Stepped, stepped}
use Rattle.partition_laws.proofs.Transitions.{line_kind, line_nowhere}

second_off : (a b : Bool) → (a || b) ≡ false → b ≡ false
second_off true b e = cc
second_off false b e = e

pub off_at : (output : ℕ) → slice_index_or all_off output false ≡ false
off_at zero = refl
off_at (suc zero) = refl
off_at (suc (suc zero)) = refl
off_at (suc (suc (suc zero))) = refl
off_at (suc (suc (suc (suc zero)))) = refl
off_at (suc (suc (suc (suc (suc zero))))) = refl
off_at (suc (suc (suc (suc (suc (suc zero)))))) = refl
off_at (suc (suc (suc (suc (suc (suc (suc zero))))))) = refl
off_at (suc (suc (suc (suc (suc (suc (suc (suc output)))))))) = refl

none_elsewhere : (fs : List Known) (output : ℕ) → is_output (outputs_elsewhere fs) output ≡ false
none_elsewhere [] output = off_at output
none_elsewhere (f ∷ fs) output = off_at output

eight_elsewhere : (fs : List Known) → HasEight (outputs_elsewhere fs)
eight_elsewhere [] = record { here = refl; moves = refl }
eight_elsewhere (f ∷ fs) = record { here = refl; moves = refl }

found : (p : ℕ → Bool) (xs : List ℕ) (x : ℕ) → find p xs ≡ Some x → p x ≡ true
found p [] x e = cc
found p (y ∷ ys) x e =
    let cases : (b : Bool) → p y ≡ b → (if b then Some y else find p ys) ≡ Some x → p x ≡ true =
    λ b. elim b as (λ b. p y ≡ b → (if b then Some y else find p ys) ≡ Some x → p x ≡ true)
    [ true ↦ λ t h. (let same : y ≡ x = cc in ap p (sym same) ∙ t) | false ↦ λ t h. found p ys x h ] in
    cases (p y) refl e

none_is : (o : Option Known) → not (is_some o) ≡ true → o ≡ None
none_is None e = refl
none_is (Some f) e = cc

module _ (fs : List Known) (ks : List Seated) (openings : OpeningsData) (asked : Asked) (own : ℕ) where
  abbrev Safe : TransitionData → Type 0
  Safe t = IsSafe fs t.effect t.crossing

  safe_if : (b : Bool) (x y : TransitionData) → Safe x → Safe y → Safe (if b then x else y)
  safe_if true x y p q = p
  safe_if false x y p q = q

  safe_named : (name : List ℕ) (t : TransitionData) → Safe t → Safe (by_name asked name t)
  safe_named name t p = safe_if (is_partition_name name) t (transition_by (bad_name asked name)) p tt

  safe_ends : (o : Option ℕ) → Safe (ends fs ks asked o)
  safe_ends None = tt
  safe_ends (Some index) =
      let a : TransitionData = refused asked Argument (codes "partition is the default") in
      let b : TransitionData = refused asked System (codes "partition is in use") in
      let c : TransitionData = crosses asked (Closes index) in
      let used : (u : Bool) → is_used fs ks index ≡ u → Safe (if u then b else c) =
      λ u. elim u as (λ u. is_used fs ks index ≡ u → Safe (if u then b else c))
      [ true ↦ λ e. tt | false ↦ λ e. (second_off (is_in index ks) (holds_any_in (known_at index fs)) e, refl) ] in
      safe_if (index == 0) a (if is_used fs ks index then b else c) tt (used (is_used fs ks index) refl)

  safe_brings : (output : ℕ) (o : Option ℕ) → Safe (brings asked output own o)
  safe_brings output None = tt
  safe_brings output (Some index) = safe_if (index == own) (done asked) (crosses asked (Brings output own)) tt tt

  safe_moves : (o : Option ℕ) → Safe (moves fs asked own o)
  safe_moves None = tt
  safe_moves (Some output) = safe_brings output (holder output fs)

  safe_begins : (name : List ℕ) (o : Option ℕ) → ((index : ℕ) → o ≡ Some index → known_at index fs ≡ None) → Safe (begins fs openings asked name o)
  safe_begins name None free = tt
  safe_begins name (Some index) free = (free index refl, eight_elsewhere fs, none_elsewhere fs)

  safe_goes : (o : Option ℕ) → Safe (goes asked own o)
  safe_goes None = tt
  safe_goes (Some to) = safe_if (to == own) (done asked) (enters asked to) tt tt

  -- the number of a new partition is that of no other
  free_is : (index : ℕ) → (if nat_le 16 (length fs) then None else free_index fs) ≡ Some index → known_at index fs ≡ None
  free_is index =
      elim (nat_le 16 (length fs)) as (λ b. (if b then None else free_index fs) ≡ Some index → known_at index fs ≡ None)
      [ true ↦ λ e. cc | false ↦ λ e. none_is (known_at index fs) (found (λ n. not (has_index n fs)) (range_with_len 0 16) index e) ]

  pub safe : (it : PartitionCommand) → Safe (planned fs ks openings asked own it)
  unfolding planned
  safe (DelPartition name) = safe_named name (ends fs ks asked (named name fs)) (safe_ends (named name fs))
  safe ListPartitions = tt
  safe (MoveOutput name) = safe_moves (output_named name fs)
  safe (NewPartition name) =
      let there : Bool = is_some (named name fs) in
      let at : Option ℕ = if nat_le 16 (length fs) then None else free_index fs in
      let a : TransitionData = refused asked Exist (codes "partition exists") in
      safe_named name (if there then a else begins fs openings asked name at) (safe_if there a (begins fs openings asked name at) tt (safe_begins name at free_is))
  safe (Partition name) = safe_named name (goes asked own (named name fs)) (safe_goes (named name fs))

abbrev IsSafeOf : Overview → TransitionData → Type 0
IsSafeOf o t = IsSafe o.parts t.effect t.crossing

safe_line : (o : Overview) (part : Option Part) (library : Library) (client : Option Client) (list_place : ListPlace) (request : Request) (heard : StoreReply)
    → IsSafeOf o (written_transition list_place request heard.refused (transition_line o part library client list_place request heard.read))
safe_line o part library None list_place request heard = tt
safe_line o None library (Some k) list_place request heard =
    let t : TransitionData = written_transition list_place request heard.refused (transition_line o None library (Some k) list_place request heard.read) in
    elim (line_nowhere o library k list_place heard.read request heard.refused) [ inl a ↦ subst (IsSafe o.parts t.effect) (sym a.0) tt | inr w ↦ subst (IsSafeOf o) (sym w.2) tt ]
safe_line o (Some p) library (Some k) list_place request heard =
    let t : TransitionData = written_transition list_place request heard.refused (transition_line o (Some p) library (Some k) list_place request heard.read) in
    elim (line_kind o library k p list_place heard.read request heard.refused) [
      | inl a ↦ subst (IsSafe o.parts t.effect) (sym a.0) tt
      | inr (inl w) ↦ subst (IsSafeOf o) (sym w.2) tt
      | inr (inr q) ↦ subst (IsSafeOf o) (sym q.3) (safe o.parts o.clients o.openings (asked_by k q.0 list_place) p.index q.1)
    ]

safe_of : (o : Overview) (part : Option Part) (library : Library) (client : Option Client) (event : Event) → IsSafeOf o (transition_of o part library client event)
safe_of o part library client (Connect number) = tt
safe_of o part library client (Disconnect number) = tt
safe_of o part library client (Line number list_place request heard) = safe_line o part library client list_place request heard
safe_of o part library client ScanQuestion = tt
safe_of o part library client (ScanResult songs second) = tt
safe_of o None library client (Want at owes) = tt
safe_of o (Some part) library client (Want at owes) = tt
safe_of o None library client (Have at number frames) = tt
safe_of o (Some part) library client (Have at number frames) = tt
safe_of o None library client (Failed at number of_partner) = tt
safe_of o (Some part) library client (Failed at number of_partner) = tt
safe_of o None library client (OutputTurn output written discarded failed) = tt
safe_of o (Some part) library client (OutputTurn output written discarded failed) =
    elim (is_output part.outputs output) as (λ b. IsSafeOf o (or_ended o.ended (if b then acts (Settles output written discarded failed) else absent))) [ true ↦ tt | false ↦ tt ]
safe_of o part library client End = tt

-- what all know of the partitions after an event
next_known : (seat : ℕ) (i : Image) (event : Event)
    → (overview (next_image seat i event)).parts ≡ knowns_moved (transition i event).crossing (knowns_changed (index_at i event) (transition i event).effect (overview i).parts)
unfolding next_image
next_known seat i event =
    let t : TransitionData = transition i event in
    let rate : ℕ = i.shared.library.rate in
    known_crossed t.crossing (changed rate (index_at i event) t.effect i.parts) ∙ ap (knowns_moved t.crossing) (known_changed rate (index_at i event) t.effect i.parts)

step : (seat : ℕ) (i : Image) (event : Event) → AreApart (overview i).parts → Stepped (overview i).parts (overview (next_image seat i event)).parts
step seat i event a =
    let t : TransitionData = transition i event in
    let safe : IsSafe (overview i).parts t.effect t.crossing = safe_of (overview i) _ i.shared.library (sender_in i.clients event) event in
    subst (Stepped (overview i).parts) (sym (next_known seat i event)) (stepped (index_at i event) t.effect t.crossing (overview i).parts a safe)

pub opens_apart : OpensApart
opens_apart setup library eight = (refl, record { here = eight.here; moves = eight.moves }, λ output is. refl, tt)

pub stays_apart : StaysApart
stays_apart seat i event a = (step seat i event a).0

pub moves_rise : MovesRise
moves_rise seat i event output a =
    let s = (step seat i event a).1 output in
    record { nowhere = λ e. s.nowhere e; somewhere = λ before e. s.somewhere before e }

same_or_less : (n : ℕ) → n ≤ n
same_or_less n = omega arith

pub moves_tell_spots : MovesTellSpots
moves_tell_spots i [] output before a is = (before, is, (same_or_less before.moves, λ e. refl))
moves_tell_spots i (e ∷ es) output before a is =
    let next : Image = next_image e.0 i e.1 in
    let apart : AreApart (overview next).parts = stays_apart e.0 i e.1 a in
    elim ((moves_rise e.0 i e.1 output a).somewhere before is) [
      | inl same ↦ moves_tell_spots next es output before apart same
      | inr s ↦ (
          let rest = moves_tell_spots next es output s.0 apart s.1 in
          let more : s.0.moves ≡ before.moves + 1 = s.2.moves in
          let least : s.0.moves ≤ rest.0.moves = rest.2.0 in
          let above : before.moves + 1 ≤ rest.0.moves = omega (arith, more, least) in
          let less : before.moves ≤ rest.0.moves = omega (arith, above) in
          (rest.0, rest.1, (less, λ same. absurd (omega (arith, above, same))))
          )
    ]
