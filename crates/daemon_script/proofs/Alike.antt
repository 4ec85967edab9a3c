-- Scripts over two kinds of player that agree.
use Rattle.std.proofs.Common.{◌≡◌, ℕ, ◌+◌, ◌≤◌, Bool, true, false, List, [], ◌∷◌, ◌++◌, Option, None, Some, refl, sym, ap, subst, ◌∙◌, if◌then◌else◌}
use Rattle.std.specs.Prelude.{◌&&◌, is_some, map, not, nat_lt, length}
use Rattle.std.specs.List.{flat_map}
use Rattle.command_lists.specs.Lists.{outcome_of}
use Rattle.command_lists.specs.declared.collector.Taken.{Taken}
use Rattle.command_lists.specs.declared.collector.Taken.TheVariants.{Alone as AloneLine, Begun, Collected, Ended, TooLarge}
use Rattle.command_lists.specs.declared.list.CommandList.{CommandList}
use Rattle.command_lists.specs.declared.word.ListForm.{ListForm}
use Rattle.mpd_text.specs.Songs.Song.{SongData}
use Rattle.song_db.specs.Library.{in_byte_order}
use Rattle.script_lines.specs.Lines.{LineData, ClientLine, StepLine, BadLine, script_line_of}
use Rattle.script_lines.specs.Steps.{step_of}
use Rattle.script_lines.specs.declared.limit.LimitName.{LimitName}
use Rattle.script_lines.specs.declared.limit.LimitName.TheVariants.{MaxQueue, MaxVersion, MaxId, MaxCut, History, Everyday}
use Rattle.script_lines.specs.declared.step.Step.{Step}
use Rattle.script_lines.specs.declared.step.JobStep.{JobStep}
use Rattle.script_lines.specs.declared.step.Step.TheVariants.{Song, Limit, Gone, Scanned, Job, JobIn, Turn as TurnStep, Window}
use Rattle.player_events.specs.Outcomes.{OutcomeData}
use Rattle.player_events.specs.Events.{ends_list}
use Rattle.transitions.specs.Shelves.{no_store_reply}
use Rattle.mpd_command.specs.Requests.{request_of}
use Rattle.mpd_command.specs.declared.command_set.CommandSet.{CommandSet}
use Rattle.mpd_command.specs.declared.request.Request.{Request}
use Rattle.player_events.specs.declared.event.Event.{Event}
use Rattle.transitions.specs.declared.asked.ListPlace.TheVariants.{InList}
use Rattle.player_events.specs.declared.event.Event.TheVariants.{Connect, Disconnect, Line, OutputTurn}
use Rattle.partition.specs.declared.partition.PartitionFault.{PartitionFault}
use Rattle.partition.specs.declared.state.Limits.{Limits}
use Rattle.daemon_script.specs.declared.memory.Memory.{Memory}
use Rattle.daemon_script.specs.declared.memory.Memory.TheVariants.{Ample, NoneToConnect, NoneToFoldFirst, NoneToRead, NoneToRun, NoneToFold}
use Rattle.daemon_script.specs.Kinds.{PlayerKind}
use Rattle.daemon_script.specs.Output.{Run, script_after, text_of}
use Rattle.daemon_script.specs.Reports.{report_text, window_text}
use Rattle.daemon_script.specs.Script.{Found, ScriptData, Shown, LineRun, bad, collects, lowers, limits_with, commands_with, has_uri, told_for, notices_for, fault_of, found_at, found_first, found_then, refusal, sent_off, sends_off, applied, applies, applies_at, applies_in, job_event, scan_result, shown_step, shows_window, step_line, alone_line, request_run, asked_run, alone_run, request_in, read_of, end_of, closed_line, ListRun, list_goes, list_step, list_run, notices_by_number, lines_for, list_of, with_list, commands_run, collected_run, too_large_run, taken_run, line_run, connect_run, line_after, client_run, shown_client, shown_kind, shown_of}
use Rattle.daemon_script.proofs.Ranges.{limit_at_least_one}

-- two kinds agree: a relation of their players holds at the opening and is kept by events, and related
-- players answer alike
pub record Agree {P Q : Type 0} (m : PlayerKind P) (n : PlayerKind Q) (R : P → Q → Type 0) : Type 0 where
  pub opens : (limits : Limits) (songs : List SongData) → 1 ≤ limits.max_version → R (m.opens limits songs) (n.opens limits songs)
  pub there : (p : P) (q : Q) (number : ℕ) → R p q → m.is_there number p ≡ n.is_there number q
  pub index : (p : P) (q : Q) (name : List ℕ) → R p q → m.index_named name p ≡ n.index_named name q
  pub full : (p : P) (q : Q) → R p q → m.is_full p ≡ n.is_full q
  pub limit : (p : P) (q : Q) (event : Event) → R p q → m.limit p event ≡ n.limit q event
  pub after : (p : P) (q : Q) (event : Event) → R p q → R (m.after p event) (n.after q event)
  pub left : (p : P) (q : Q) (fault : PartitionFault) → R p q → R (m.left p fault) (n.left q fault)
  pub told : (p : P) (q : Q) (event : Event) → R p q → m.told p event ≡ n.told q event
  pub window : (p : P) (q : Q) → R p q → m.window p ≡ n.window q
  pub own : (p : P) (q : Q) → R p q → m.own p ≡ n.own q

module _ {P Q : Type 0} (R : P → Q → Type 0) where
  abbrev pub SamePlayer : Option P → Option Q → Type 0
  SamePlayer None None = Unit {0}
  SamePlayer None (Some q) = ⊥
  SamePlayer (Some p) None = ⊥
  SamePlayer (Some p) (Some q) = R p q

  pub record SameScript (s : ScriptData P) (t : ScriptData Q) : Type 0 where
    pub limits : s.limits ≡ t.limits
    pub commands : s.commands ≡ t.commands
    pub songs : s.songs ≡ t.songs
    pub lists : s.lists ≡ t.lists
    pub above : 1 ≤ s.limits.max_version
    pub player : SamePlayer s.player t.player

  pub record SameShown (a : Shown P) (b : Shown Q) : Type 0 where
    pub script : SameScript a.script b.script
    pub text : a.text ≡ b.text

  record SameRun (a : LineRun P) (b : LineRun Q) : Type 0 where
    pub player : R a.player b.player
    pub list : a.list ≡ b.list
    pub text : a.text ≡ b.text
    pub connected : a.connected ≡ b.connected

  -- a script with another player
  abbrev over : ScriptData P → Option Q → ScriptData Q
  over s q = record { limits = s.limits; commands = s.commands; songs = s.songs; lists = s.lists; player = q }

  same_some : (p : Option P) (q : Option Q) → SamePlayer p q → is_some p ≡ is_some q
  same_some None None r = refl
  same_some None (Some q) r = absurd r
  same_some (Some p) None r = absurd r
  same_some (Some p) (Some q) r = refl

  same : (s : ScriptData P) (q : Option Q) → 1 ≤ s.limits.max_version → SamePlayer s.player q → SameScript s (over s q)
  same s q above r = record { limits = refl; commands = refl; songs = refl; lists = refl; above = above; player = r }

  shows_same : (text : List ℕ) (s : ScriptData P) (q : Option Q) → 1 ≤ s.limits.max_version → SamePlayer s.player q
      → SameShown (record { script = s; text = text }) (record { script = over s q; text = text })
  shows_same text s q above r = record { script = same s q above r; text = refl }

  either : (c : Bool) (a b : Shown P) (x y : Shown Q) → SameShown a x → SameShown b y → SameShown (if c then a else b) (if c then x else y)
  either true a b x y h k = h
  either false a b x y h k = k

  collects_same : (s : ScriptData P) (q : Option Q) (song : SongData) → 1 ≤ s.limits.max_version → SamePlayer s.player q
      → SameShown (collects s song) (collects (over s q) song)
  collects_same s q song above r =
      either (nat_lt (length s.songs) 100000 && not (has_uri song.uri s.songs)) _ _ _ _
      (shows_same [] (record s { songs = s.songs ++ song ∷ [] }) q above r) (shows_same _ s q above r)

  above_with : (limits : Limits) (name : LimitName) (number : ℕ) → 1 ≤ limits.max_version → 1 ≤ number → 1 ≤ (limits_with limits name number).max_version
  above_with limits MaxQueue number above most = above
  above_with limits MaxVersion number above most = most
  above_with limits MaxId number above most = above
  above_with limits MaxCut number above most = above
  above_with limits History number above most = above
  above_with limits Everyday number above most = above

  lowers_same : (s : ScriptData P) (q : Option Q) (name : LimitName) (number : ℕ) → 1 ≤ s.limits.max_version → 1 ≤ number → SamePlayer s.player q
      → SameShown (lowers s name number) (lowers (over s q) name number)
  lowers_same s q name number above most r =
      subst (λ (c : Bool). SameShown (lowers s name number) (if c then bad (over s q) else record { script = record (over s q) { limits = limits_with s.limits name number; commands = commands_with s.commands name }; text = [] }))
      (same_some s.player q r)
      (either (is_some s.player) _ _ _ _ (shows_same _ s q above r)
      (shows_same [] (record s { limits = limits_with s.limits name number; commands = commands_with s.commands name }) q (above_with s.limits name number above most) r))

module _ {P Q : Type 0} (m : PlayerKind P) (n : PlayerKind Q) (R : P → Q → Type 0) (agree : Agree m n R) where
  -- what is refused by one is refused by the other
  refuses_same : (p : P) (q : Q) (event : Event) (found : Found) → R p q → refusal m p event found ≡ refusal n q event found
  refuses_same p q event found r = λ i. fault_of found (agree.full p q r i) (agree.limit p q event r i)

  request_same : (p : P) (q : Q) (number : ℕ) (request : Request) (fault : Option PartitionFault) → R p q
      → SameRun R (request_run m p number request fault) (request_run n q number request fault)
  request_same p q number request (Some fault) r = record { player = agree.left p q fault r; list = refl; text = refl; connected = refl }
  request_same p q number request None r = record {
    player = agree.after p q (alone_line number request) r;
    list = refl;
    text = ap (told_for number) (agree.told p q (alone_line number request) r);
    connected = refl;
  }

  -- a request that runs or is refused, by the limit that it would pass
  asked_same : (p : P) (q : Q) (number : ℕ) (request : Request) (found : Found) → R p q
      → SameRun R (asked_run m p number request found) (asked_run n q number request found)
  asked_same p q number request found r =
      subst (λ (fault : Option PartitionFault). SameRun R (asked_run m p number request found) (request_run n q number request fault))
      (refuses_same p q (alone_line number request) found r) (request_same p q number request (refusal m p (alone_line number request) found) r)

  alone_same : (set : CommandSet) (p : P) (q : Q) (number : ℕ) (line : List ℕ) (memory : Memory) → R p q → SameRun R (alone_run m set p number line memory) (alone_run n set q number line memory)
  alone_same set p q number line Ample r = asked_same p q number (request_of line set) (found_then Ample) r
  alone_same set p q number line NoneToConnect r = asked_same p q number (request_of line set) (found_then NoneToConnect) r
  alone_same set p q number line NoneToFoldFirst r = asked_same p q number (request_of line set) (found_then NoneToFoldFirst) r
  alone_same set p q number line (NoneToRead place) r = record { player = r; list = refl; text = refl; connected = refl }
  alone_same set p q number line (NoneToRun place) r = asked_same p q number (request_of line set) (found_then (NoneToRun place)) r
  alone_same set p q number line (NoneToFold place) r = asked_same p q number (request_of line set) (found_then (NoneToFold place)) r

  record SameList (a : ListRun P) (b : ListRun Q) : Type 0 where
    player : R a.player b.player
    tolds : a.tolds ≡ b.tolds
    ending : a.ending ≡ b.ending

  goes_if : (ends : Bool) (p : P) (q : Q) (t : OutcomeData) (ending : List ℕ) (a : ListRun P) (b : ListRun Q) → R p q → SameList a b
      → SameList (if ends then record { player = p; tolds = t ∷ []; ending = ending } else record a { tolds = t ∷ a.tolds })
      (if ends then record { player = q; tolds = t ∷ []; ending = ending } else record b { tolds = t ∷ b.tolds })
  goes_if true p q t ending a b r rest = record { player = r; tolds = refl; ending = refl }
  goes_if false p q t ending a b r rest = record { player = rest.player; tolds = ap (λ (ts : List OutcomeData). t ∷ ts) rest.tolds; ending = rest.ending }

  list_step_same : (p p' : P) (q q' : Q) (place : ℕ) (request : Request) (fault : Option PartitionFault) (t u : OutcomeData) (a : ListRun P) (b : ListRun Q)
      → R p q → R p' q' → t ≡ u → SameList a b → SameList (list_step m p place request fault p' t a) (list_step n q place request fault q' u b)
  list_step_same p p' q q' place request (Some fault) t u a b r r' e rest = record { player = agree.left p q fault r; tolds = refl; ending = refl }
  list_step_same p p' q q' place request None t u a b r r' e rest =
      subst (λ (v : OutcomeData). SameList (list_goes p' t a) (list_goes q' v b)) e (goes_if (ends_list t) p' q' t (closed_line t.answer.next) a b r' rest)

  list_same : (p : P) (q : Q) (number : ℕ) (form : ListForm) (place : ℕ) (requests : List Request) (found : ℕ → Found) (end : List ℕ) → R p q
      → SameList (list_run m p number form place requests found end) (list_run n q number form place requests found end)
  unfolding list_run
  list_same p q number form place [] found end r = record { player = r; tolds = refl; ending = refl }
  list_same p q number form place (request ∷ requests) found end r =
      let event : Event = Line number (InList form place) request no_store_reply in
      let after : R (m.after p event) (n.after q event) = agree.after p q event r in
      let rest = list_same (m.after p event) (n.after q event) number form (place + 1) requests found end after in
      subst (λ (fault : Option PartitionFault). SameList (list_run m p number form place (request ∷ requests) found end)
      (list_step n q place request fault (n.after q event) (n.told q event) (list_run n (n.after q event) number form (place + 1) requests found end)))
      (refuses_same p q event (found place) r)
      (list_step_same p (m.after p event) q (n.after q event) place request (refusal m p event (found place)) (m.told p event) (n.told q event) _ _ r after (agree.told p q event r) rest)

  commands_same : (set : CommandSet) (p : P) (q : Q) (number : ℕ) (commands : CommandList) (memory : Memory) → R p q → SameRun R (commands_run m set p number commands memory) (commands_run n set q number commands memory)
  commands_same set p q number commands memory r =
      let ran = list_same p q number commands.form 0 (read_of memory (map (request_in set) commands.lines)) (found_at memory) (end_of memory (length commands.lines)) r in
      record {
        player = ran.player;
        list = refl;
        text = λ i. lines_for number (flat_map (λ (t : OutcomeData). t.answer.text) (ran.tolds i) ++ ran.ending i) ++ notices_by_number (ran.tolds i);
        connected = refl;
      }

  collected_same : (p : P) (q : Q) (list next : Option CommandList) (number : ℕ) (memory : Memory) → R p q
      → SameRun R (collected_run m p list next number memory) (collected_run n q list next number memory)
  collected_same p q list next number Ample r = record { player = r; list = refl; text = refl; connected = refl }
  collected_same p q list next number NoneToConnect r = record { player = r; list = refl; text = refl; connected = refl }
  collected_same p q list next number NoneToFoldFirst r = record { player = r; list = refl; text = refl; connected = refl }
  collected_same p q list next number (NoneToFold place) r = record { player = r; list = refl; text = refl; connected = refl }
  collected_same p q list next number (NoneToRead place) r = record { player = r; list = refl; text = refl; connected = refl }
  collected_same p q list next number (NoneToRun place) r = record { player = r; list = refl; text = refl; connected = refl }

  too_large_same : (p : P) (q : Q) (list : Option CommandList) (number : ℕ) (fault : Option PartitionFault) → R p q
      → SameRun R (too_large_run m p list number fault) (too_large_run n q list number fault)
  too_large_same p q list number (Some fault) r = record { player = agree.left p q fault r; list = refl; text = refl; connected = refl }
  too_large_same p q list number None r = record {
    player = agree.after p q (Disconnect number) r;
    list = refl;
    text = ap (told_for number) (agree.told p q (Disconnect number) r);
    connected = refl;
  }

  taken_same : (set : CommandSet) (p : P) (q : Q) (list next : Option CommandList) (number : ℕ) (line : List ℕ) (memory : Memory) (taken : Taken) → R p q
      → SameRun R (taken_run m set p list next number line memory taken) (taken_run n set q list next number line memory taken)
  taken_same set p q list next number line memory AloneLine r = alone_same set p q number line memory r
  taken_same set p q list next number line memory Begun r = record { player = r; list = refl; text = refl; connected = refl }
  taken_same set p q list next number line memory Collected r = collected_same p q list next number memory r
  taken_same set p q list next number line memory (Ended commands) r = commands_same set p q number commands memory r
  taken_same set p q list next number line memory TooLarge r =
      subst (λ (fault : Option PartitionFault). SameRun R (too_large_run m p list number (refusal m p (Disconnect number) (found_then memory))) (too_large_run n q list number fault))
      (refuses_same p q (Disconnect number) (found_then memory) r) (too_large_same p q list number (refusal m p (Disconnect number) (found_then memory)) r)

  line_same : (set : CommandSet) (p : P) (q : Q) (list : Option CommandList) (number : ℕ) (line : List ℕ) (memory : Memory) → R p q
      → SameRun R (line_run m set p list number line memory) (line_run n set q list number line memory)
  line_same set p q list number line memory r =
      taken_same set p q list (outcome_of list (Some line)).open_list number line memory (outcome_of list (Some line)).taken r

  new_same : (set : CommandSet) (p : P) (q : Q) (list : Option CommandList) (number : ℕ) (line : List ℕ) (memory : Memory) (fault : Option PartitionFault) → R p q
      → SameRun R (line_after m set (connect_run m p list number fault) number line memory) (line_after n set (connect_run n q list number fault) number line memory)
  new_same set p q list number line memory (Some fault) r = record { player = agree.left p q fault r; list = refl; text = refl; connected = refl }
  new_same set p q list number line memory None r =
      let ran = line_same set (m.after p (Connect number)) (n.after q (Connect number)) list number line memory (agree.after p q (Connect number) r) in
      record {
        player = ran.player;
        list = ran.list;
        text = ap (λ (t : OutcomeData). told_for number t ++ (line_run m set (m.after p (Connect number)) list number line memory).text) (agree.told p q (Connect number) r)
            ∙ ap (λ (t : List ℕ). told_for number (n.told q (Connect number)) ++ t) ran.text;
        connected = ran.connected;
      }

  client_if : (set : CommandSet) (there : Bool) (p : P) (q : Q) (list : Option CommandList) (number : ℕ) (line : List ℕ) (memory : Memory) (fault : Option PartitionFault) → R p q
      → SameRun R (if there then line_run m set p list number line memory else line_after m set (connect_run m p list number fault) number line memory)
      (if there then line_run n set q list number line memory else line_after n set (connect_run n q list number fault) number line memory)
  client_if set true p q list number line memory fault r = line_same set p q list number line memory r
  client_if set false p q list number line memory fault r = new_same set p q list number line memory fault r

  client_same : (set : CommandSet) (p : P) (q : Q) (list : Option CommandList) (number : ℕ) (line : List ℕ) (memory : Memory) → R p q → SameRun R (client_run m set p list number line memory) (client_run n set q list number line memory)
  unfolding client_run
  client_same set p q list number line memory r =
      subst (λ (there : Bool). SameRun R (client_run m set p list number line memory)
      (if there then line_run n set q list number line memory else line_after n set (connect_run n q list number (refusal n q (Connect number) (found_first memory))) number line memory)) (agree.there p q number r)
      (subst (λ (fault : Option PartitionFault). SameRun R (client_run m set p list number line memory)
      (if m.is_there number p then line_run n set q list number line memory else line_after n set (connect_run n q list number fault) number line memory)) (refuses_same p q (Connect number) (found_first memory) r)
      (client_if set (m.is_there number p) p q list number line memory (refusal m p (Connect number) (found_first memory)) r))

  sent_same : (s : ScriptData P) (p : P) (q : Q) (number : ℕ) (fault : Option PartitionFault) → 1 ≤ s.limits.max_version → SamePlayer R s.player (Some q) → R p q
      → SameShown R (sent_off m s p number fault) (sent_off n (over R s (Some q)) q number fault)
  sent_same s p q number (Some fault) above has r =
      record { script = same R (record s { player = Some (m.left p fault) }) (Some (n.left q fault)) above (agree.left p q fault r); text = refl }
  sent_same s p q number None above has r =
      record {
        script = same R (record s { player = Some (m.after p (Disconnect number)); lists = with_list number None s.lists }) (Some (n.after q (Disconnect number))) above (agree.after p q (Disconnect number) r);
        text = ap (λ (t : OutcomeData). notices_for t.notices) (agree.told p q (Disconnect number) r);
      }

  -- by the player that is there
  sends_same : (limits : Limits) (commands : CommandSet) (songs : List SongData) (lists : List (Option CommandList)) (p : Option P) (q : Option Q) (number : ℕ) (found : Found) → 1 ≤ limits.max_version → SamePlayer R p q
      → SameShown R (sends_off m (record { limits = limits; commands = commands; songs = songs; lists = lists; player = p }) p number found) (sends_off n (record { limits = limits; commands = commands; songs = songs; lists = lists; player = q }) q number found)
  sends_same limits commands songs lists None None number found above r = shows_same R _ (record { limits = limits; commands = commands; songs = songs; lists = lists; player = None }) None above r
  sends_same limits commands songs lists None (Some q) number found above r = absurd r
  sends_same limits commands songs lists (Some p) None number found above r = absurd r
  sends_same limits commands songs lists (Some p) (Some q) number found above r =
      let s : ScriptData P = record { limits = limits; commands = commands; songs = songs; lists = lists; player = Some p } in
      subst (λ (fault : Option PartitionFault). SameShown R (sent_off m s p number (refusal m p (Disconnect number) found)) (sent_off n (over R s (Some q)) q number fault))
      (refuses_same p q (Disconnect number) found r) (sent_same s p q number (refusal m p (Disconnect number) found) above r r)

  applied_same : (s : ScriptData P) (p : P) (q : Q) (event : Event) (fault : Option PartitionFault) → 1 ≤ s.limits.max_version → SamePlayer R s.player (Some q) → R p q
      → SameShown R (applied m s p event fault) (applied n (over R s (Some q)) q event fault)
  applied_same s p q event (Some fault) above has r =
      record { script = same R (record s { player = Some (m.left p fault) }) (Some (n.left q fault)) above (agree.left p q fault r); text = refl }
  applied_same s p q event None above has r =
      record {
        script = same R (record s { player = Some (m.after p event) }) (Some (n.after q event)) above (agree.after p q event r);
        text = ap (λ (t : OutcomeData). report_text t.report ++ notices_for t.notices) (agree.told p q event r);
      }

  -- by the player that is there
  applies_same : (limits : Limits) (commands : CommandSet) (songs : List SongData) (lists : List (Option CommandList)) (p : Option P) (q : Option Q) (event : Event) (found : Found) → 1 ≤ limits.max_version → SamePlayer R p q
      → SameShown R (applies m (record { limits = limits; commands = commands; songs = songs; lists = lists; player = p }) p event found) (applies n (record { limits = limits; commands = commands; songs = songs; lists = lists; player = q }) q event found)
  applies_same limits commands songs lists None None event found above r = shows_same R _ (record { limits = limits; commands = commands; songs = songs; lists = lists; player = None }) None above r
  applies_same limits commands songs lists None (Some q) event found above r = absurd r
  applies_same limits commands songs lists (Some p) None event found above r = absurd r
  applies_same limits commands songs lists (Some p) (Some q) event found above r =
      let s : ScriptData P = record { limits = limits; commands = commands; songs = songs; lists = lists; player = Some p } in
      subst (λ (fault : Option PartitionFault). SameShown R (applied m s p event (refusal m p event found)) (applied n (over R s (Some q)) q event fault))
      (refuses_same p q event found r) (applied_same s p q event (refusal m p event found) above r r)

  -- an event of a step
  event_same : (s : ScriptData P) (q : Option Q) (event : Event) (found : Found) → 1 ≤ s.limits.max_version → SamePlayer R s.player q
      → SameShown R (applies m s s.player event found) (applies n (over R s q) q event found)
  event_same s q event found above r = applies_same s.limits s.commands s.songs s.lists s.player q event found above r

  -- a step of the decoder in the partition of a number, if a name is that of one
  at_same : (s : ScriptData P) (q : Option Q) (index : Option ℕ) (step : JobStep) (found : Found) → 1 ≤ s.limits.max_version → SamePlayer R s.player q
      → SameShown R (applies_at m s index step found) (applies_at n (over R s q) index step found)
  at_same s q None step found above r = shows_same R _ s q above r
  at_same s q (Some index) step found above r = event_same s q (job_event index step) found above r

  in_same : (limits : Limits) (commands : CommandSet) (songs : List SongData) (lists : List (Option CommandList)) (p : Option P) (q : Option Q) (name : List ℕ) (step : JobStep) (found : Found) → 1 ≤ limits.max_version → SamePlayer R p q
      → SameShown R (applies_in m (record { limits = limits; commands = commands; songs = songs; lists = lists; player = p }) p name step found)
      (applies_in n (record { limits = limits; commands = commands; songs = songs; lists = lists; player = q }) q name step found)
  in_same limits commands songs lists None None name step found above r = shows_same R _ (record { limits = limits; commands = commands; songs = songs; lists = lists; player = None }) None above r
  in_same limits commands songs lists None (Some q) name step found above r = absurd r
  in_same limits commands songs lists (Some p) None name step found above r = absurd r
  in_same limits commands songs lists (Some p) (Some q) name step found above r =
      let s : ScriptData P = record { limits = limits; commands = commands; songs = songs; lists = lists; player = Some p } in
      subst (λ (index : Option ℕ). SameShown R (applies_at m s (m.index_named name p) step found) (applies_at n (over R s (Some q)) index step found))
      (agree.index p q name r) (at_same s (Some q) (m.index_named name p) step found above r)

  -- what is told of the history, by the player that is there
  window_same : (limits : Limits) (commands : CommandSet) (songs : List SongData) (lists : List (Option CommandList)) (p : Option P) (q : Option Q) → 1 ≤ limits.max_version → SamePlayer R p q
      → SameShown R (shows_window m (record { limits = limits; commands = commands; songs = songs; lists = lists; player = p }) p) (shows_window n (record { limits = limits; commands = commands; songs = songs; lists = lists; player = q }) q)
  window_same limits commands songs lists None None above r = shows_same R _ (record { limits = limits; commands = commands; songs = songs; lists = lists; player = None }) None above r
  window_same limits commands songs lists None (Some q) above r = absurd r
  window_same limits commands songs lists (Some p) None above r = absurd r
  window_same limits commands songs lists (Some p) (Some q) above r =
      record {
        script = same R (record { limits = limits; commands = commands; songs = songs; lists = lists; player = Some p }) (Some q) above r;
        text = λ i. window_text (agree.window p q r i) (agree.own p q r i);
      }

  step_same : (s : ScriptData P) (q : Option Q) (rest : List ℕ) (step : Option Step) (found : Found) → step_of s.commands.everyday rest ≡ step → 1 ≤ s.limits.max_version → SamePlayer R s.player q
      → SameShown R (shown_step m s step found) (shown_step n (over R s q) step found)
  step_same s q rest None found e above r = shows_same R _ s q above r
  step_same s q rest (Some (Song song)) found e above r = collects_same R s q song above r
  step_same s q rest (Some (Limit name number)) found e above r = lowers_same R s q name number above (limit_at_least_one s.commands.everyday rest name number (sym e)) r
  step_same s q rest (Some (Gone number)) found e above r = sends_same s.limits s.commands s.songs s.lists s.player q number found above r
  step_same s q rest (Some Scanned) found e above r = event_same s q (scan_result s) found above r
  step_same s q rest (Some (Job step)) found e above r = event_same s q (job_event 0 step) found above r
  step_same s q rest (Some (JobIn name step)) found e above r = in_same s.limits s.commands s.songs s.lists s.player q name step found above r
  step_same s q rest (Some (TurnStep written discarded failed)) found e above r = event_same s q (OutputTurn 0 written discarded failed) found above r
  step_same s q rest (Some Window) found e above r = window_same s.limits s.commands s.songs s.lists s.player q above r

  step_line_same : (s : ScriptData P) (q : Option Q) (rest : List ℕ) (memory : Memory) → 1 ≤ s.limits.max_version → SamePlayer R s.player q
      → SameShown R (step_line m s rest memory) (step_line n (over R s q) rest memory)
  step_line_same s q rest Ample above r = step_same s q rest (step_of s.commands.everyday rest) (found_then Ample) refl above r
  step_line_same s q rest NoneToConnect above r = step_same s q rest (step_of s.commands.everyday rest) (found_then NoneToConnect) refl above r
  step_line_same s q rest NoneToFoldFirst above r = step_same s q rest (step_of s.commands.everyday rest) (found_then NoneToFoldFirst) refl above r
  step_line_same s q rest (NoneToRead place) above r = shows_same R _ s q above r
  step_line_same s q rest (NoneToRun place) above r = step_same s q rest (step_of s.commands.everyday rest) (found_then (NoneToRun place)) refl above r
  step_line_same s q rest (NoneToFold place) above r = step_same s q rest (step_of s.commands.everyday rest) (found_then (NoneToFold place)) refl above r

  -- the script after a line of a client that was there when the line was run
  abbrev kept : {X : Type 0} → ScriptData X → ℕ → LineRun X → ScriptData X
  kept s number ran = record s { player = Some ran.player; lists = with_list number ran.list s.lists }

  kept_same : (s : ScriptData P) (player : Option Q) (number : ℕ) (a : LineRun P) (b : LineRun Q) → 1 ≤ s.limits.max_version → SameRun R a b
      → SameScript R (kept s number a) (kept (over R s player) number b)
  kept_same s player number a b above ran = record {
    limits = refl;
    commands = refl;
    songs = refl;
    lists = ap (λ (list : Option CommandList). with_list number list s.lists) ran.list;
    above = above;
    player = ran.player;
  }

  -- the player that a first client line opened is kept where the client connected
  kept_if : (connected : Bool) (s : ScriptData P) (number : ℕ) (a : LineRun P) (b : LineRun Q) → 1 ≤ s.limits.max_version → SamePlayer R s.player None → SameRun R a b
      → SameScript R (if connected then kept s number a else s) (if connected then kept (over R s None) number b else over R s None)
  kept_if true s number a b above none ran = kept_same s None number a b above ran
  kept_if false s number a b above none ran = same R s None above none

  first_same : (s : ScriptData P) (number : ℕ) (a : LineRun P) (b : LineRun Q) → 1 ≤ s.limits.max_version → SamePlayer R s.player None → SameRun R a b
      → SameScript R (if a.connected then kept s number a else s) (if b.connected then kept (over R s None) number b else over R s None)
  first_same s number a b above none ran =
      subst (λ (c : Bool). SameScript R (if a.connected then kept s number a else s) (if c then kept (over R s None) number b else over R s None))
      ran.connected (kept_if a.connected s number a b above none ran)

  client_line_same : (limits : Limits) (commands : CommandSet) (songs : List SongData) (lists : List (Option CommandList)) (p : Option P) (q : Option Q) (number : ℕ) (line : List ℕ) (memory : Memory) → 1 ≤ limits.max_version → SamePlayer R p q
      → SameShown R (shown_client m (record { limits = limits; commands = commands; songs = songs; lists = lists; player = p }) p number line memory)
      (shown_client n (record { limits = limits; commands = commands; songs = songs; lists = lists; player = q }) q number line memory)
  client_line_same limits commands songs lists None None number line memory above r =
      let ran = client_same commands (m.opens limits (in_byte_order songs)) (n.opens limits (in_byte_order songs)) (list_of number lists) number line memory (agree.opens limits (in_byte_order songs) above) in
      record { script = first_same (record { limits = limits; commands = commands; songs = songs; lists = lists; player = None }) number _ _ above r ran; text = ran.text }
  client_line_same limits commands songs lists None (Some q) number line memory above r = absurd r
  client_line_same limits commands songs lists (Some p) None number line memory above r = absurd r
  client_line_same limits commands songs lists (Some p) (Some q) number line memory above r =
      let ran = client_same commands p q (list_of number lists) number line memory r in
      record { script = kept_same (record { limits = limits; commands = commands; songs = songs; lists = lists; player = Some p }) (Some q) number _ _ above ran; text = ran.text }

  kind_same : (s : ScriptData P) (q : Option Q) (line : LineData) (memory : Memory) → 1 ≤ s.limits.max_version → SamePlayer R s.player q
      → SameShown R (shown_kind m s line memory) (shown_kind n (over R s q) line memory)
  kind_same s q (ClientLine number line) memory above r = client_line_same s.limits s.commands s.songs s.lists s.player q number line memory above r
  kind_same s q (StepLine rest) memory above r = step_line_same s q rest memory above r
  kind_same s q BadLine memory above r = shows_same R _ s q above r

  over_same : (s : ScriptData P) (q : Option Q) (line : Option (List ℕ)) (memory : Memory) → 1 ≤ s.limits.max_version → SamePlayer R s.player q
      → SameShown R (shown_of m s line memory) (shown_of n (over R s q) line memory)
  unfolding shown_of
  over_same s q None memory above r = shows_same R _ s q above r
  over_same s q (Some line) memory above r = kind_same s q (script_line_of line) memory above r

  line_shown_same : (s : ScriptData P) (t : ScriptData Q) (line : Option (List ℕ)) (memory : Memory) → SameScript R s t
      → SameShown R (shown_of m s line memory) (shown_of n t line memory)
  line_shown_same s t line memory both =
      subst (λ (limits : Limits). SameShown R (shown_of m s line memory) (shown_of n (record { limits = limits; commands = t.commands; songs = t.songs; lists = t.lists; player = t.player }) line memory)) both.limits
      (subst (λ (commands : CommandSet). SameShown R (shown_of m s line memory) (shown_of n (record { limits = s.limits; commands = commands; songs = t.songs; lists = t.lists; player = t.player }) line memory)) both.commands
      (subst (λ (songs : List SongData). SameShown R (shown_of m s line memory) (shown_of n (record { limits = s.limits; commands = s.commands; songs = songs; lists = t.lists; player = t.player }) line memory)) both.songs
      (subst (λ (lists : List (Option CommandList)). SameShown R (shown_of m s line memory) (shown_of n (record { limits = s.limits; commands = s.commands; songs = s.songs; lists = lists; player = t.player }) line memory)) both.lists
      (over_same s t.player line memory both.above both.player))))

  -- scripts that are the same print the same, and stay so
  pub runs_same : (s : ScriptData P) (t : ScriptData Q) (run : Run) → SameScript R s t
      → (text_of m s run ≡ text_of n t run) × SameScript R (script_after m s run) (script_after n t run)
  unfolding text_of script_after
  runs_same s t [] both = (refl, both)
  runs_same s t (l ∷ ls) both =
      let one = line_shown_same s t l.0 l.1 both in
      let rest = runs_same (shown_of m s l.0 l.1).script (shown_of n t l.0 l.1).script ls one.script in (
        ap (λ (x : List ℕ). x ++ text_of m (shown_of m s l.0 l.1).script ls) one.text ∙ ap (λ (x : List ℕ). (shown_of n t l.0 l.1).text ++ x) rest.0,
        rest.1,
      )
