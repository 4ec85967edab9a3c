-- Events of a player that is lent a shelf in memory.
use Rattle.std.proofs.Common.{◌≡◌, inl, inr, ℕ, ◌+◌, Bool, true, false, List, [], ◌∷◌, ◌++◌, length, Option, Some, None, Result, Ok, Err, refl, sym, subst, ap, ◌∙◌, if◌then◌else◌}
use Rattle.std.specs.Result.{IfErr, IfOk, OnOk}
use Rattle.std.specs.FinMap.{get-empty}
use Rattle.std.specs.Prelude.{◌||◌, nat_le, not, slice_index_or}
use Rattle.std.proofs.lemmas.List.{length-append}
use Rattle.shelf.specs.Maps.{Same, no_maps}
use Rattle.shelf.specs.declared.kinds.StickerKind.{StickerKind}
use Rattle.shelf.specs.declared.kinds.StickerKind.TheVariants.{Song, Playlist}
use Rattle.shelf.specs.declared.memory.MemShelf.{MemShelf}
use Rattle.player_events.specs.Outcomes.{OutcomeData}
use Rattle.partition.specs.History.{Chronicle, folded, is_full, joined_by, with_room}
use Rattle.partition.specs.Image.{Image}
use Rattle.partition.specs.Lent.{IsFull, IsRefused, Records, Refuses, question, writing}
use Rattle.partition.specs.Refusals.{MayRefuse}
use Rattle.transitions.specs.Shelves.{Serves}
use Rattle.partition.specs.Step.{counts_frames, keeps_limits, limit_of, next_image, told, transition}
use Rattle.player_events.specs.Events.{with_store_reply}
use Rattle.player_events.specs.declared.event.Event.{Event}
use Rattle.partition.specs.declared.partition.PartitionFault.{PartitionFault}
use Rattle.partition.specs.declared.partition.PartitionFault.TheVariants.{HistoryFull, CutsAtLimit, AtLimit, NoMemory}
use Rattle.transitions.specs.declared.shelf_calls.StoreReply.{StoreReply}
use Rattle.player_events.specs.declared.event.LogEntry.{LogEntry}
use Rattle.daemon_script.specs.Contents.{Contents, by_bytes, by_target_and_name, maps_in, no_contents}
use Rattle.daemon_script.specs.Kinds.{Shelved, images, window_in_room}
use Rattle.daemon_script.specs.Pieces.{found_by}
use Rattle.daemon_script.specs.Script.{NoneFold, fault_of, refusal}
use Rattle.daemon_script.specs.Shelf.{heard_by, shelf_after}
use Rattle.daemon_script.proofs.Served.{contents, holds, never_failed, served, unchanged, standing_of}

-- a player with its history, beside a shelf
abbrev pub beside : Chronicle → MemShelf → Shelved Image
beside c s = record { player = c.present; shelf = contents s; window = length c.window; most = c.limit }

-- a shelf that shows nothing holds nothing
pub empty_shelf : (s : MemShelf) → Same no_maps (standing_of s).maps → contents s ≡ no_contents
empty_shelf s same = holds s no_contents (record { lists = λ name. same.lists name ∙ sym (get-empty by_bytes name); stickers = at })
  where
    at : (kind : StickerKind) (target name : List ℕ) → (standing_of s).maps.stickers kind target name ≡ (maps_in no_contents).stickers kind target name
    at Song target name = same.stickers Song target name ∙ sym (get-empty by_target_and_name (target, name))
    at Playlist target name = same.stickers Playlist target name ∙ sym (get-empty by_target_and_name (target, name))

-- the limit that an event would pass, what it makes of a player and a shelf, and what clients hear
abbrev pub Gone : Type 0
Gone = Option PartitionFault × (Shelved Image × OutcomeData)

-- the same by what it heard
abbrev pub gone : Chronicle → MemShelf → ℕ → Event → StoreReply → Gone
gone c s window e heard = (
  limit_of 0 c.present (with_store_reply e heard),
  (record { player = next_image 0 c.present (with_store_reply e heard); shelf = shelf_after (contents s) c.present e heard; window = window; most = c.limit }, told c.present (with_store_reply e heard)),
)

-- the same by what became of the shelf
abbrev pub served_so : Chronicle → Event → MemShelf → StoreReply → Gone
served_so c e new heard = (
  limit_of 0 c.present (with_store_reply e heard),
  (record { player = next_image 0 c.present (with_store_reply e heard); shelf = contents new; window = length (with_room c).window + 1; most = c.limit }, told c.present (with_store_reply e heard)),
)

-- the same of a player beside the contents of a shelf
abbrev pub said_so : Chronicle → Event → MemShelf → Gone
said_so c e old = (images.limit (beside c old) e, (images.after (beside c old) e, images.told (beside c old) e))

-- a window in which there is room
in_room : (c : Chronicle) → length (with_room c).window ≡ (if is_full c then 0 else length c.window)
in_room c = elim (is_full c) as (λ b. length (if b then folded c else c).window ≡ (if b then 0 else length c.window)) [ true ↦ refl | false ↦ refl ]

-- an event that a shelf served goes as it does beside the shelf's contents
pub goes : (c : Chronicle) (e : Event) (old new : MemShelf) (heard : StoreReply)
    → Serves standing_of never_failed old new (question c.present e) (writing c.present e heard) heard
    → served_so c e new heard ≡ said_so c e old
goes c e old new heard serves =
    let is = served c.present e old new heard serves in
    let by : Contents → Gone = λ s. (limit_of 0 c.present (with_store_reply e heard), (record { player = next_image 0 c.present (with_store_reply e heard); shelf = s; window = length (with_room c).window + 1; most = c.limit }, told c.present (with_store_reply e heard))) in
    ap by is.1
    ∙ ap (gone c old (length (with_room c).window + 1) e) is.0
    ∙ ap (λ (n : ℕ). gone c old (n + 1) e (heard_by (contents old) c.present e)) (in_room c)

-- an event more in a window
longer : (c : Chronicle) (h : LogEntry) → length ((with_room c).window ++ h ∷ []) ≡ length (with_room c).window + 1
longer c h = length-append (with_room c).window (h ∷ [])

-- an event that joined
pub joined_beside : (c : Chronicle) (h : LogEntry) (s : MemShelf)
    → beside (joined_by c h) s ≡ record { player = next_image h.seat c.present h.event; shelf = contents s; window = length (with_room c).window + 1; most = c.limit }
joined_beside c h s = ap (λ (n : ℕ). record { player = next_image h.seat c.present h.event; shelf = contents s; window = n; most = c.limit }) (longer c h)

-- an event that was applied
pub applied : (c d : Chronicle) (old new : MemShelf) (e : Event) (outcome : OutcomeData) → d.limit ≡ c.limit
    → Records standing_of never_failed c.present d.present (with_room c).window d.window old new 0 e outcome
    → (images.limit (beside c old) e ≡ None) × ((beside d new ≡ images.after (beside c old) e) × (outcome ≡ images.told (beside c old) e))
applied c d old new e outcome limit r =
    let is = goes c e old new r.heard r.shelf in
    let h : LogEntry = record { seat = 0; event = with_store_reply e r.heard; told = outcome } in
    let after : beside d new ≡ record { player = next_image 0 c.present (with_store_reply e r.heard); shelf = contents new; window = length (with_room c).window + 1; most = c.limit } =
    λ i. record { player = r.present i; shelf = contents new; window = (ap (length {A = LogEntry}) r.window ∙ longer c h) i; most = limit i } in (
      sym (ap (λ (x : Gone). x.0) is) ∙ r.within,
      (after ∙ ap (λ (x : Gone). x.1.0) is, r.told_is ∙ ap (λ (x : Gone). x.1.1) is),
    )

-- the limit that an event would pass, where it is refused for one
limit_is : (limit : Option PartitionFault) (cause : PartitionFault) → (cause ≡ NoMemory → ⊥) → MayRefuse limit cause → limit ≡ Some cause
limit_is None cause other may = absurd (other may)
limit_is (Some limit) cause other may = elim may [ inl e ↦ ap Some (sym e) | inr e ↦ absurd (other e) ]

full_first : (full others : Bool) (rest : Option PartitionFault) → full ≡ true → (if full || others then Some AtLimit else rest) ≡ Some AtLimit
full_first true others rest e = refl
full_first false others rest e = cc

-- a full seat makes no event
full : (seat : ℕ) (i : Image) (event : Event) → IsFull seat i → limit_of seat i event ≡ Some AtLimit
unfolding limit_of
full seat i event is = full_first _ _ _ is

-- no event passes the limit of a window
never : (full others keeps : Bool) → (if full || others then Some AtLimit else (if keeps then None else Some CutsAtLimit)) ≡ Some HistoryFull → ⊥
never true others keeps e = cc
never false true keeps e = cc
never false false true e = cc
never false false false e = cc

never_full : (seat : ℕ) (i : Image) (event : Event) → limit_of seat i event ≡ Some HistoryFull → ⊥
unfolding limit_of
never_full seat i event e =
    never (nat_le 9223372036854775807 (slice_index_or i.shared.made seat 0)) (not (counts_frames i event (transition i event))) (keeps_limits i event (transition i event)) e

module _ (seat : ℕ) (i : Image) (old new : MemShelf) (e : Event) where
  abbrev heard : StoreReply
  heard = heard_by (contents old) i e

  for_limit : (fault : PartitionFault) → (fault ≡ NoMemory → ⊥) → IsRefused standing_of never_failed i old new seat e fault
      → limit_of seat i (with_store_reply e heard) ≡ Some fault
  for_limit fault other r =
      let is : limit_of seat i (with_store_reply e r.heard) ≡ Some fault = limit_is (limit_of seat i (with_store_reply e r.heard)) fault other r.refused in
      let same : limit_of seat i (with_store_reply e heard) ≡ limit_of seat i (with_store_reply e r.heard) =
      elim r.cause [
        | inl none ↦ absurd (other none)
        | inr by ↦ elim by [
          | inl at ↦ full seat i (with_store_reply e heard) at ∙ sym (full seat i (with_store_reply e r.heard) at)
          | inr serves ↦ ap (λ (h : StoreReply). limit_of seat i (with_store_reply e h)) (sym (served i e old new r.heard serves).0)
        ]
      ] in
      same ∙ is

  -- an event that was refused after a window with room passes its limit by what the shelf's contents answer,
  -- or found no memory
  pub refused_in_room : (window_full : Bool) (fault : PartitionFault) → IsRefused standing_of never_failed i old new seat e fault
      → fault_of (found_by fault) window_full (limit_of seat i (with_store_reply e heard)) ≡ Some fault
  refused_in_room window_full CutsAtLimit r = for_limit CutsAtLimit (λ f. cc) r
  refused_in_room window_full AtLimit r = for_limit AtLimit (λ f. cc) r
  refused_in_room window_full NoMemory r = refl
  refused_in_room window_full HistoryFull r = absurd (never_full seat i (with_store_reply e heard) (for_limit HistoryFull (λ f. cc) r))

  not_full : IsRefused standing_of never_failed i old new seat e HistoryFull → ⊥
  not_full r = never_full seat i (with_store_reply e heard) (for_limit HistoryFull (λ f. cc) r)

-- a window in which there was no room for an event
unfolded : (window_full : Bool) (limit : Option PartitionFault) → window_full ≡ true → fault_of NoneFold window_full limit ≡ Some HistoryFull
unfolded true limit e = refl
unfolded false limit e = cc

-- an event that was refused, by what it found of memory
pub refused : (seat : ℕ) (c d : Chronicle) (old new : MemShelf) (e : Event) (fault : PartitionFault) → Refuses standing_of never_failed c d old new seat e fault
    → fault_of (found_by fault) (is_full c) (limit_of seat c.present (with_store_reply e (heard_by (contents old) c.present e))) ≡ Some fault
refused seat c d old new e fault r =
    elim r [
      | inl w ↦ subst (λ (f : PartitionFault). fault_of (found_by f) (is_full c) (limit_of seat c.present (with_store_reply e (heard_by (contents old) c.present e))) ≡ Some f) (sym w.0)
          (unfolded (is_full c) (limit_of seat c.present (with_store_reply e (heard_by (contents old) c.present e))) w.1.0)
      | inr w ↦ refused_in_room seat c.present old new e (is_full c) fault w.1
    ]

-- a folded window beside a shelf
folded_beside : (c : Chronicle) (s : MemShelf) → beside (with_room c) s ≡ record (beside c s) { window = window_in_room (beside c s) }
folded_beside c s =
    elim (is_full c) as (λ b. beside (if b then folded c else c) s ≡ record { player = c.present; shelf = contents s; window = if b then 0 else length c.window; most = c.limit }) [ true ↦ refl | false ↦ refl ]

left_in_room : (seat : ℕ) (c : Chronicle) (old new : MemShelf) (e : Event) (fault : PartitionFault) → IsRefused standing_of never_failed c.present old new seat e fault
    → beside (with_room c) new ≡ images.left (beside c old) fault
left_in_room seat c old new e fault r =
    let is : beside (with_room c) new ≡ record (beside c old) { window = window_in_room (beside c old) } =
    folded_beside c new ∙ ap (λ (s : Contents). record { player = c.present; shelf = s; window = window_in_room (beside c old); most = c.limit }) (unchanged c.present e old new r.unchanged) in
    let by : (fault : PartitionFault) → IsRefused standing_of never_failed c.present old new seat e fault → beside (with_room c) new ≡ images.left (beside c old) fault =
    λ fault. elim fault as (λ fault. IsRefused standing_of never_failed c.present old new seat e fault → beside (with_room c) new ≡ images.left (beside c old) fault) [
      | HistoryFull ↦ λ r. absurd (not_full seat c.present old new e r)
      | CutsAtLimit ↦ λ r. is
      | AtLimit ↦ λ r. is
      | NoMemory ↦ λ r. is
    ] in
    by fault r

-- what an event leaves that was refused
pub left_is : (seat : ℕ) (c d : Chronicle) (old new : MemShelf) (e : Event) (fault : PartitionFault) → Refuses standing_of never_failed c d old new seat e fault
    → beside d new ≡ images.left (beside c old) fault
left_is seat c d old new e fault r =
    elim r [
      | inl w ↦ subst (λ (f : PartitionFault). beside d new ≡ images.left (beside c old) f) (sym w.0) (λ i. beside (w.1.1.0 i) (w.1.1.1 i))
      | inr w ↦ ap (λ (x : Chronicle). beside x new) w.0 ∙ left_in_room seat c old new e fault w.1
    ]

-- ---- results

pub if_ok : {A E : Type 0} (r : Result A E) (P Q : A → Type 0) → ((a : A) → P a → Q a) → IfOk r P → IfOk r Q
if_ok (Ok a) P Q f p = f a p
if_ok (Err e) P Q f p = tt

pub on_ok : {A E : Type 0} (r : Result A E) (P : A → Type 0) (Q : Type 0) → ((a : A) → P a → Q) → IfOk r P → OnOk r Q
on_ok (Ok a) P Q f p = f a p
on_ok (Err e) P Q f p = tt

pub if_err : {A E : Type 0} (r : Result A E) (P Q : E → Type 0) → ((e : E) → P e → Q e) → IfErr r P → IfErr r Q
if_err (Ok a) P Q f p = tt
if_err (Err e) P Q f p = f e p

-- ---- results of an event, of a player that is read as this

module _ (c d : Chronicle) (s t : MemShelf) (e : Event) (old new : Shelved Image) (was : beside c s ≡ old) (is : beside d t ≡ new) (r : Result OutcomeData PartitionFault) where
  pub told_after : d.limit ≡ c.limit → IfOk r (Records standing_of never_failed c.present d.present (with_room c).window d.window s t 0 e) → IfOk r (λ outcome. outcome ≡ images.told old e)
  told_after limit did =
      subst (λ (o : Shelved Image). IfOk r (λ outcome. outcome ≡ images.told o e)) was
      (if_ok r _ (λ outcome. outcome ≡ images.told (beside c s) e) (λ outcome x. (applied c d s t e outcome limit x).1.1) did)

  pub player_after : d.limit ≡ c.limit → IfOk r (Records standing_of never_failed c.present d.present (with_room c).window d.window s t 0 e) → OnOk r (new ≡ images.after old e)
  player_after limit did =
      subst (λ (o : Shelved Image). OnOk r (new ≡ images.after o e)) was
      (on_ok r _ (new ≡ images.after (beside c s) e) (λ outcome x. sym is ∙ (applied c d s t e outcome limit x).1.0) did)

  pub within_after : d.limit ≡ c.limit → IfOk r (Records standing_of never_failed c.present d.present (with_room c).window d.window s t 0 e) → OnOk r (images.limit old e ≡ None)
  within_after limit did =
      subst (λ (o : Shelved Image). OnOk r (images.limit o e ≡ None)) was
      (on_ok r _ (images.limit (beside c s) e ≡ None) (λ outcome x. (applied c d s t e outcome limit x).0) did)

  pub refused_after : IfErr r (Refuses standing_of never_failed c d s t 0 e) → IfErr r (λ fault. refusal images old e (found_by fault) ≡ Some fault)
  refused_after did =
      subst (λ (o : Shelved Image). IfErr r (λ fault. refusal images o e (found_by fault) ≡ Some fault)) was
      (if_err r _ (λ fault. refusal images (beside c s) e (found_by fault) ≡ Some fault) (λ fault x. refused 0 c d s t e fault x) did)

  pub left_after : IfErr r (Refuses standing_of never_failed c d s t 0 e) → IfErr r (λ fault. new ≡ images.left old fault)
  left_after did =
      subst (λ (o : Shelved Image). IfErr r (λ fault. new ≡ images.left o fault)) was
      (if_err r _ (λ fault. new ≡ images.left (beside c s) fault) (λ fault x. sym is ∙ left_is 0 c d s t e fault x) did)
