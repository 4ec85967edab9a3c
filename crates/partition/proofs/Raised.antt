-- What the fingerprint of a daemon tells of a transition.
use Rattle.std.proofs.Common.{◌≡◌, ◌≢◌, ℕ, ◌==◌, nat_eq, nat_lt, Bool, true, false, not, ◌&&◌, List, [], ◌∷◌, ◌++◌, length, map, Option, Some, None, option_map, refl, ap, sym, subst, ◌∙◌, arith, if◌then◌else◌}
use Rattle.std.proofs.lemmas.Bool.{eq-eqb, eqb-true}
use Rattle.idle_notes.specs.Channels.{MemberData, clients_with_messages, pairs}
use Rattle.idle_notes.specs.Sets.{all, none}
use Rattle.idle_notes.specs.declared.sets.Subsystems.{Subsystems}
use Rattle.song_queue.specs.Entries.{same_queue}
use Rattle.song_queue.specs.State.{QueueState, queue_of, differ}
use Rattle.song_queue.proofs.Parity.{edited_tells, parity_tells_changes}
use Rattle.song_queue.proofs.Same.{same_queue-refl}
use Rattle.partition_table.proofs.Looks.{if_new, or_else, other_changed, own_changed, own_moved, part_moved}
use Rattle.partition_table.specs.Parts.{Known, carried_in, changed, known, moved_output, part_at, parts_moved}
use Rattle.partition_table.specs.declared.crossing.Crossing.{Crossing}
use Rattle.partition_table.specs.declared.crossing.Crossing.TheVariants.{Stays, Opens, Closes, Brings}
use Rattle.player_state.specs.declared.effect.Effect.{Effect}
use Rattle.player_state.specs.declared.outputs.Carried.{Carried}
use Rattle.player_state.specs.declared.state.Part.{Part}
use Rattle.player_events.specs.declared.event.Event.{Event}
use Rattle.connected_clients.specs.declared.notices.Notice.{Notice}
use Rattle.player_state.specs.declared.state.Client.{Client}
use Rattle.transitions.specs.Answers.{ResponseData}
use Rattle.player_state.specs.declared.state.Library.{Library}
use Rattle.connected_clients.specs.Clients.{Watched, begins_to_have, clients_after, has_messages, is_this, names_of, notices_after, options, output_flags, playing, raised_between, raised_there, raised_within, same_names, same_outputs, watched_all, watched_at, watched_of}
use Rattle.player_state.specs.Libraries.{same_songs}
use Rattle.player_state.specs.Outputs.{FrameBooks, books_after}
use Rattle.player_state.specs.Effects.{Change, ByEdit, ByStep, change_of, channels_after, part_after, queue_after}
use Rattle.partition.specs.Image.{Image}
use Rattle.transitions.specs.Transitions.{TransitionData, parts_after}
use Rattle.player_state.specs.Libraries.{library_after, songs_after}
use Rattle.connected_clients.specs.Fingerprint.{FingerprintData, RaisedData, begins_between, changes_listeners_in, changes_subscriptions, fingerprint, is_among, outputs_at, outputs_before, outputs_differ, outputs_differ_from, outputs_in, own_by_readings, raised_by_fingerprint, raised_in, readings}
use Rattle.transitions.specs.Shelves.{changes_lists, changes_stickers}
use Rattle.transitions.specs.declared.shelf_calls.ShelfWrite.{ShelfWrite}
use Rattle.connected_clients.proofs.Alike.{same_names-refl, same_names-true, same_options-refl, same_outputs-refl, same_pairs-refl, same_playing-refl}
use Rattle.connected_clients.proofs.Listeners.{among_waiting, changes}
use Rattle.partition.specs.Step.{ended_after, moved_client, sender_number, index_at, raised_by, raised_of, report_at, after_transition, told_by}
use Rattle.partition.proofs.Parts.{added_length, kept_all, map_length}

pub differ-self : (b : Bool) → differ b b ≡ false
differ-self true = refl
differ-self false = refl

by_change : (queue : QueueState) (change : Change) → not (same_queue (queue_of queue) (queue_of (queue_after queue change))) ≡ differ queue.parity (queue_after queue change).parity
by_change queue (ByEdit edit) = parity_tells_changes queue edit
by_change queue (ByStep None) = ap not (same_queue-refl (queue_of queue)) ∙ sym (differ-self queue.parity)
by_change queue (ByStep (Some left)) = edited_tells queue left

-- the first message waits for a client, by the list of those for which messages waited
begins : (number : ℕ) (before after : List MemberData)
    → (not (is_among number (clients_with_messages before)) && has_messages number after) ≡ begins_to_have number before after
begins number before after = ap (λ (b : Bool). not b && has_messages number after) (among_waiting number before)

begins_none : (h : Bool) → (not h && h) ≡ false
begins_none true = refl
begins_none false = refl

unheard : (b : Bool) → (b && false) ≡ false
unheard true = refl
unheard false = refl

-- the names of the parts of a list
abbrev named_in : List Part → List (List ℕ)
named_in ps = names_of (map watched_of ps)

-- where as many partitions have the same names, the names differ exactly where the numbers of partitions do
by_count : (ps qs : List Part) → (length qs ≡ length ps → named_in qs ≡ named_in ps) → same_names (named_in ps) (named_in qs) ≡ nat_eq (length ps) (length qs)
by_count ps qs as_many =
    let long : (xs : List Part) → length (named_in xs) ≡ length xs = λ xs. map_length (λ (w : Watched). w.name) (map watched_of xs) ∙ map_length watched_of xs in
    let cases : (b : Bool) → nat_eq (length ps) (length qs) ≡ b → same_names (named_in ps) (named_in qs) ≡ b =
    λ b. elim b as (λ b. nat_eq (length ps) (length qs) ≡ b → same_names (named_in ps) (named_in qs) ≡ b) [
      | true ↦ λ e. ap (same_names (named_in ps)) (as_many (sym (eqb-true (length ps) (length qs) e))) ∙ same_names-refl (named_in ps)
      | false ↦ λ e.
          let inner : (c : Bool) → same_names (named_in ps) (named_in qs) ≡ c → c ≡ false =
          λ c. elim c as (λ c. same_names (named_in ps) (named_in qs) ≡ c → c ≡ false) [
            | true ↦ λ t.
                let same : length ps ≡ length qs = sym (long ps) ∙ ap length (same_names-true (named_in ps) (named_in qs) t) ∙ long qs in
                let clash : true ≡ false = sym (eq-eqb (length ps) (length qs) same) ∙ e in
                cc
            | false ↦ λ t. refl
          ] in
          inner (same_names (named_in ps) (named_in qs)) refl
    ] in
    cases (nat_eq (length ps) (length qs)) refl

-- an event of a partition leaves the names and how many there are
changed_names : (rate index : ℕ) (effect : Effect) (ps : List Part) → named_in (changed rate index effect ps) ≡ named_in ps
changed_names rate index effect [] = refl
changed_names rate index effect (p ∷ ps) =
    elim (p.index == index) as (λ b. named_in (if b then part_after rate p effect ∷ ps else p ∷ changed rate index effect ps) ≡ p.name ∷ named_in ps)
    [ true ↦ refl | false ↦ ap (λ (l : List (List ℕ)). p.name ∷ l) (changed_names rate index effect ps) ]

changed_length : (rate index : ℕ) (effect : Effect) (ps : List Part) → length (changed rate index effect ps) ≡ length ps
changed_length rate index effect ps =
    let long : (xs : List Part) → length (named_in xs) ≡ length xs = λ xs. map_length (λ (w : Watched). w.name) (map watched_of xs) ∙ map_length watched_of xs in
    sym (long (changed rate index effect ps)) ∙ ap length (changed_names rate index effect ps) ∙ long ps

moved_name : (output to : ℕ) (c : Option Carried) (p : Part) → (moved_output output to c p).name ≡ p.name
moved_name output to None p = refl
moved_name output to (Some c) p = refl

moved_names : (output to : ℕ) (c : Option Carried) (ps : List Part) → named_in (map (moved_output output to c) ps) ≡ named_in ps
moved_names output to c [] = refl
moved_names output to c (p ∷ ps) = λ i. moved_name output to c p i ∷ moved_names output to c ps i

-- where as many partitions are left by a crossing, they have the names that they had
crossed_names : (c : Crossing) (ps : List Part) → length (parts_moved c ps) ≡ length ps → named_in (parts_moved c ps) ≡ named_in ps
crossed_names Stays ps e = refl
crossed_names (Opens new) ps e =
    let more = added_length ps new in
    elim (nat_lt (length ps) 16) as (λ b. length (if b then ps ++ new ∷ [] else ps) ≡ length ps → named_in (if b then ps ++ new ∷ [] else ps) ≡ named_in ps)
    [ true ↦ λ h. absurd (omega (arith, more, h)) | false ↦ λ h. refl ] e
crossed_names (Closes gone) ps e = ap named_in (kept_all (λ (p : Part). not (p.index == gone)) ps e)
crossed_names (Brings output to) ps e = moved_names output to (carried_in output to (map known ps)) ps

names_told : (rate index : ℕ) (t : TransitionData) (ps : List Part) → same_names (named_in ps) (named_in (parts_after rate index t ps)) ≡ nat_eq (length ps) (length (parts_after rate index t ps))
names_told rate index t ps =
    let next : List Part = changed rate index t.effect ps in
    by_count ps (parts_moved t.crossing next)
    (λ e. crossed_names t.crossing next (e ∙ sym (changed_length rate index t.effect ps)) ∙ changed_names rate index t.effect ps)

watched_part : (index : ℕ) (ps : List Part) → watched_at index (map watched_of ps) ≡ option_map watched_of (part_at index ps)
watched_part index [] = refl
watched_part index (p ∷ ps) =
    elim (p.index == index) as (λ b. (if b then Some (watched_of p) else watched_at index (map watched_of ps)) ≡ option_map watched_of (if b then Some p else part_at index ps))
    [ true ↦ refl | false ↦ watched_part index ps ]

outputs_part : (index : ℕ) (ps : List Part) → outputs_at index (map outputs_in ps) ≡ option_map (λ (p : Part). output_flags p.outputs) (part_at index ps)
outputs_part index [] = refl
outputs_part index (p ∷ ps) =
    elim (p.index == index) as (λ b. (if b then Some (output_flags p.outputs) else outputs_at index (map outputs_in ps)) ≡ option_map (λ (p : Part). output_flags p.outputs) (if b then Some p else part_at index ps))
    [ true ↦ refl | false ↦ outputs_part index ps ]

-- what is raised in a partition of which the same is there before and after, except for its outputs
module _ (number : ℕ) (database update lists stickers partitions : Bool) where
  abbrev common : Subsystems
  common = record none { database = database; update = update; stored_playlist = lists; sticker = stickers; partition = partitions }

  abbrev with_output : Bool → Subsystems
  with_output output = record common { output = output }

  only_outputs : (w v : Watched) → v ≡ record w { outputs = v.outputs } → raised_within number w v common ≡ with_output (not (same_outputs (output_flags w.outputs) (output_flags v.outputs)))
  only_outputs w v is =
      ap (λ (x : Watched). raised_within number w x common) is
      ∙ (λ i. record common {
        playlist = not (same_queue-refl w.queue i);
        player = not (same_playing-refl (playing w.player) i);
        mixer = not (eq-eqb w.volume w.volume refl i);
        output = not (same_outputs (output_flags w.outputs) (output_flags v.outputs));
        options = not (same_options-refl (options w.player) i);
        subscription = not (same_pairs-refl (pairs w.channels) i);
        message = begins_none (has_messages number w.channels) i;
      })

  same_there : (w : Watched) → raised_within number w w common ≡ common
  same_there w = only_outputs w w refl ∙ ap (λ b. with_output (not b)) (same_outputs-refl (output_flags w.outputs))

  pub same_between : (o : Option Watched) → raised_between number o o common ≡ common
  same_between None = refl
  same_between (Some w) = same_there w

  gone_between : (o : Option Watched) → raised_between number o None common ≡ common
  gone_between None = refl
  gone_between (Some w) = refl

  moved_watched : (output to : ℕ) (c : Option Carried) (p : Part) → watched_of (moved_output output to c p) ≡ record (watched_of p) { outputs = (moved_output output to c p).outputs }
  moved_watched output to None p = refl
  moved_watched output to (Some c) p = refl

  -- in a partition that the event is not of
  module _ (index rate own : ℕ) (apart : own ≢ index) (effect : Effect) (ps : List Part) where
    abbrev next : List Part
    next = changed rate own effect ps

    abbrev before : Option Part
    before = part_at index ps

    abbrev Elsewhere : Crossing → Type 0
    Elsewhere c =
        with_output (outputs_differ index (outputs_before c ps) (parts_moved c next))
        ≡ raised_between number (option_map watched_of before) (option_map watched_of (part_at index (parts_moved c next))) common

    left : (c : Crossing) → part_at index (parts_moved c next) ≡ own_moved index c (map known next) before
    left c = part_moved index c next ∙ ap (own_moved index c (map known next)) (other_changed index rate own effect ps apart)

    opened : (o : Option Part) (new : Option Part) → common ≡ raised_between number (option_map watched_of o) (option_map watched_of (or_else o new)) common
    opened None new = refl
    opened (Some p) new = sym (same_there (watched_of p))

    closed : (o : Option Part) (b : Bool) → common ≡ raised_between number (option_map watched_of o) (option_map watched_of (if b then None else o)) common
    closed o true = sym (gone_between (option_map watched_of o))
    closed o false = sym (same_between (option_map watched_of o))

    brought : (output to : ℕ) (c : Option Carried) (o : Option Part)
        → with_output (outputs_differ_from (option_map (λ (p : Part). output_flags p.outputs) o) (option_map (moved_output output to c) o))
        ≡ raised_between number (option_map watched_of o) (option_map watched_of (option_map (moved_output output to c) o)) common
    brought output to c None = refl
    brought output to c (Some p) = sym (only_outputs (watched_of p) (watched_of (moved_output output to c p)) (moved_watched output to c p))

    pub elsewhere : (c : Crossing) → Elsewhere c
    elsewhere Stays =
        sym (same_between (option_map watched_of before))
        ∙ ap (λ (o : Option Part). raised_between number (option_map watched_of before) (option_map watched_of o) common) (sym (left Stays))
    elsewhere (Opens new) =
        opened before (if_new index (nat_lt (length (map known next)) 16) new)
        ∙ ap (λ (o : Option Part). raised_between number (option_map watched_of before) (option_map watched_of o) common) (sym (left (Opens new)))
    elsewhere (Closes gone) =
        closed before (gone == index)
        ∙ ap (λ (o : Option Part). raised_between number (option_map watched_of before) (option_map watched_of o) common) (sym (left (Closes gone)))
    elsewhere (Brings output to) =
        let c : Option Carried = carried_in output to (map known next) in
        ap (λ (o : Option Part). with_output (outputs_differ_from (outputs_at index (map outputs_in ps)) o)) (left (Brings output to))
        ∙ ap (λ e. with_output (outputs_differ_from e (option_map (moved_output output to c) before))) (outputs_part index ps)
        ∙ brought output to c before
        ∙ ap (λ (o : Option Part). raised_between number (option_map watched_of before) (option_map watched_of o) common) (sym (left (Brings output to)))

  -- in the partition of the event
  module _ (index rate : ℕ) (effect : Effect) (ps : List Part) where
    abbrev own_next : List Part
    own_next = changed rate index effect ps

    abbrev own_before : Option Part
    own_before = part_at index ps

    -- by the readings of the partition before, and by the partition now
    abbrev read : Option Part → Option Part → Subsystems
    read o p = record (own_by_readings (changes_listeners_in o effect) (option_map readings o) p common) { message = begins_between number (option_map readings o) p }

    abbrev Own : Crossing → Type 0
    Own c = read own_before (part_at index (parts_moved c own_next)) ≡ raised_between number (option_map watched_of own_before) (option_map watched_of (part_at index (parts_moved c own_next))) common

    stood : (c : Crossing) → part_at index (parts_moved c own_next) ≡ own_moved index c (map known own_next) (option_map (λ (p : Part). part_after rate p effect) own_before)
    stood c = part_moved index c own_next ∙ ap (own_moved index c (map known own_next)) (own_changed index rate effect ps)

    -- where it is there before and after, its queue and its listeners are what the event leaves
    both_read : (p q : Part) → q.queue ≡ queue_after p.queue (change_of rate p effect) → q.channels ≡ channels_after p.channels effect
        → read (Some p) (Some q) ≡ raised_within number (watched_of p) (watched_of q) common
    both_read p q queue_is channels_are =
        let parity_is : differ p.queue.parity q.queue.parity ≡ not (same_queue (queue_of p.queue) (queue_of q.queue)) =
        ap (λ (s : QueueState). differ p.queue.parity s.parity) queue_is ∙ sym (by_change p.queue (change_of rate p effect)) ∙ ap (λ (s : QueueState). not (same_queue (queue_of p.queue) (queue_of s))) (sym queue_is) in
        let listeners : changes_subscriptions p.channels effect ≡ (raised_within number (watched_of p) (watched_of q) common).subscription =
        sym (changes p.channels effect) ∙ ap (λ (l : List MemberData). (raised_within number (watched_of p) (record (watched_of q) { channels = l }) common).subscription) (sym channels_are) in
        λ i. record (raised_within number (watched_of p) (watched_of q) common) {
          playlist = parity_is i;
          subscription = listeners i;
          message = begins number p.channels q.channels i;
        }

    gone_read : (o : Option Part) → read o None ≡ raised_between number (option_map watched_of o) None common
    gone_read None = refl
    gone_read (Some p) = ap (λ b. record common { message = b }) (unheard (not (is_among number (clients_with_messages p.channels))))

    new_read : (o : Option Part) → read None o ≡ raised_between number None (option_map watched_of o) common
    new_read o = refl

    moved_read : (output to : ℕ) (c : Option Carried) (p : Part) → read (Some p) (Some (moved_output output to c (part_after rate p effect)))
        ≡ raised_within number (watched_of p) (watched_of (moved_output output to c (part_after rate p effect))) common
    moved_read output to None p = both_read p (part_after rate p effect) refl refl
    moved_read output to (Some c) p = both_read p (moved_output output to (Some c) (part_after rate p effect)) refl refl

    abbrev Read : Option Part → Option Part → Type 0
    Read o n = read o n ≡ raised_between number (option_map watched_of o) (option_map watched_of n) common

    read_by : (c : Crossing) (fs : List Known) (o : Option Part) → Read o (own_moved index c fs (option_map (λ (p : Part). part_after rate p effect) o))
    read_by Stays fs None = refl
    read_by Stays fs (Some p) = both_read p (part_after rate p effect) refl refl
    read_by (Opens new) fs None = new_read (or_else None (if_new index (nat_lt (length fs) 16) new))
    read_by (Opens new) fs (Some p) = both_read p (part_after rate p effect) refl refl
    read_by (Closes gone) fs None = elim (gone == index) as (λ b. Read None (if b then None else None)) [ true ↦ refl | false ↦ refl ]
    read_by (Closes gone) fs (Some p) =
        elim (gone == index) as (λ b. Read (Some p) (if b then None else Some (part_after rate p effect))) [ true ↦ gone_read (Some p) | false ↦ both_read p (part_after rate p effect) refl refl ]
    read_by (Brings output to) fs None = refl
    read_by (Brings output to) fs (Some p) = moved_read output to (carried_in output to fs) p

    pub own_read : (c : Crossing) → Own c
    own_read c = subst (Read own_before) (sym (stood c)) (read_by c (map known own_next) own_before)

-- what the readings before a transition and the daemon after it tell is what it raises
pub by_fingerprint : (number index : ℕ) (parts : List Part) (library : Library) (t : TransitionData)
    → raised_in (raised_by_fingerprint (moved_client number t.response) (not (same_songs library.songs (songs_after library t.scan))) (changes_listeners_in (part_at index parts) t.effect) t.written
    (fingerprint t.crossing index parts library) (parts_after library.rate index t parts) (library_after library t.scan))
    ≡ raised_by number index parts library t
by_fingerprint number index parts library t =
    let database : Bool = not (same_songs library.songs (songs_after library t.scan)) in
    let listening : Bool = changes_listeners_in (part_at index parts) t.effect in
    let after : List Part = parts_after library.rate index t parts in
    let found : Library = library_after library t.scan in
    let count : Bool = not (nat_eq (length parts) (length after)) in
    let r : RaisedData = raised_by_fingerprint (moved_client number t.response) database listening t.written (fingerprint t.crossing index parts library) after found in
    let told : Bool → Subsystems = λ b. common 0 database (differ library.scan.runs found.scan.runs) (changes_lists t.written) (changes_stickers t.written) b in
    let names : count ≡ not (same_names (named_in parts) (named_in after)) = ap not (sym (names_told library.rate index t parts)) in
    let Goal : Client → Bool → Type 0 = λ client own.
    (if own then record r.own { message = begins_between client.number r.before.own (part_at index after) } else record r.common { output = outputs_differ client.index r.before.outputs after })
    ≡ raised_between client.number (option_map watched_of (part_at client.index parts)) (option_map watched_of (part_at client.index after)) (told count) in
    let one : (client : Client) → Goal client (client.index == index) =
    λ client.
    let cases : (b : Bool) → (client.index == index) ≡ b → Goal client b =
    λ b. elim b as (λ b. (client.index == index) ≡ b → Goal client b) [
      | true ↦ λ e.
          let same : client.index ≡ index = eqb-true client.index index e in
          subst (λ q. (record r.own { message = begins_between client.number r.before.own (part_at index after) })
          ≡ raised_between client.number (option_map watched_of (part_at q parts)) (option_map watched_of (part_at q after)) (told count)) (sym same)
          (own_read client.number database (differ library.scan.runs found.scan.runs) (changes_lists t.written) (changes_stickers t.written) count index library.rate t.effect parts t.crossing)
      | false ↦ λ e.
          let apart : index ≢ client.index = λ same. (let clash : true ≡ false = sym (eq-eqb client.index index (sym same)) ∙ e in cc) in
          elsewhere client.number database (differ library.scan.runs found.scan.runs) (changes_lists t.written) (changes_stickers t.written) count client.index library.rate index apart t.effect parts t.crossing
    ] in
    cases (client.index == index) refl in
    let watched : (client : Client) → raised_between client.number (option_map watched_of (part_at client.index parts)) (option_map watched_of (part_at client.index after)) (told count)
    ≡ raised_there t.written (watched_all library parts) (watched_all found after) client =
    λ client. λ j. raised_between client.number (sym (watched_part client.index parts) j) (sym (watched_part client.index after) j) (told (names j)) in
    λ j client. if is_this (moved_client number t.response) client.number then all else (one client ∙ watched client) j

module _ (i : Image) (event : Event) (t : TransitionData) (parts : List Part) (library : Library) (raised : Client → Subsystems) (response : ResponseData) where
  -- what was told by fingerprints is what the transition raised
  abbrev pub Shown : Type 0
  Shown =
      raised ≡ raised_in (raised_by_fingerprint (moved_client (sender_number event) t.response) (not (same_songs i.shared.library.songs (songs_after i.shared.library t.scan)))
      (changes_listeners_in (part_at (index_at i event) i.parts) t.effect) t.written (fingerprint t.crossing (index_at i event) i.parts i.shared.library) parts library)

  abbrev pub PartsAre : Type 0
  PartsAre = parts ≡ parts_after i.shared.library.rate (index_at i event) t i.parts

  abbrev pub LibraryIs : Type 0
  LibraryIs = library ≡ library_after i.shared.library t.scan

  pub is_raised : PartsAre → LibraryIs → Shown → raised ≡ raised_of i event t
  is_raised parts_are library_is raised_is =
      raised_is
      ∙ (λ j. raised_in (raised_by_fingerprint (moved_client (sender_number event) t.response) (not (same_songs i.shared.library.songs (songs_after i.shared.library t.scan)))
      (changes_listeners_in (part_at (index_at i event) i.parts) t.effect) t.written (fingerprint t.crossing (index_at i event) i.parts i.shared.library) (parts_are j) (library_is j)))
      ∙ by_fingerprint (sender_number event) (index_at i event) i.parts i.shared.library t

  -- the image after a transition, from what was made of each of its fields
  pub stepped : (books : FrameBooks) (ended : Bool) (clients : List Client) → PartsAre → LibraryIs
      → books ≡ books_after i.shared.books t.effect (report_at i event t) → ended ≡ ended_after i.shared.ended event → response ≡ t.response → Shown
      → clients ≡ clients_after (sender_number event) raised response i.clients
      → record { parts = parts; shared = record i.shared { library = library; books = books; ended = ended }; clients = clients } ≡ after_transition i event t
  stepped books ended clients parts_are library_is books_are ended_is said_is raised_is clients_are =
      let all_of : raised ≡ raised_of i event t = is_raised parts_are library_is raised_is in
      let told : clients ≡ clients_after (sender_number event) (raised_of i event t) t.response i.clients =
      clients_are ∙ ap (λ r. clients_after (sender_number event) r response i.clients) all_of ∙ ap (λ s. clients_after (sender_number event) (raised_of i event t) s i.clients) said_is in
      λ j. record { parts = parts_are j; shared = record i.shared { library = library_is j; books = books_are j; ended = ended_is j }; clients = told j }

  -- the notices of a transition, from what was made of it
  pub noticed : (notices : List Notice) → PartsAre → LibraryIs → response ≡ t.response → Shown
      → notices ≡ notices_after (sender_number event) raised response i.clients → notices ≡ (told_by i event t).notices
  noticed notices parts_are library_is said_is raised_is notices_are =
      let all_of : raised ≡ raised_of i event t = is_raised parts_are library_is raised_is in
      notices_are ∙ ap (λ r. notices_after (sender_number event) r response i.clients) all_of ∙ ap (λ s. notices_after (sender_number event) (raised_of i event t) s i.clients) said_is

  -- what was told by readings that are alike
  pub shown_by : (goes : Option ℕ) (database listening : Bool) (written : ShelfWrite) (before : FingerprintData) (r : RaisedData)
      → r ≡ raised_by_fingerprint goes database listening written before parts library → goes ≡ moved_client (sender_number event) t.response
      → database ≡ not (same_songs i.shared.library.songs (songs_after i.shared.library t.scan)) → listening ≡ changes_listeners_in (part_at (index_at i event) i.parts) t.effect
      → written ≡ t.written → before ≡ fingerprint t.crossing (index_at i event) i.parts i.shared.library
      → raised_in r ≡ raised_in (raised_by_fingerprint (moved_client (sender_number event) t.response) (not (same_songs i.shared.library.songs (songs_after i.shared.library t.scan)))
      (changes_listeners_in (part_at (index_at i event) i.parts) t.effect) t.written (fingerprint t.crossing (index_at i event) i.parts i.shared.library) parts library)
  shown_by goes database listening written found r is g d l w b =
      ap raised_in is ∙ (λ j. raised_in (raised_by_fingerprint (g j) (d j) (l j) (w j) (b j) parts library))
