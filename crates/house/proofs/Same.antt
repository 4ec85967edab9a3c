-- What was said of a history and a seat's number, of what they are equal to.
use Rattle.std.proofs.Common.{◌≡◌, ℕ, List, subst}
use Rattle.std.specs.Prelude.{IfErr, IfOk, Result, Ok, Err}
use Rattle.command_lists.specs.declared.word.ListForm.{ListForm}
use Rattle.mpd_command.specs.declared.request.Request.{Request}
use Rattle.shelf.specs.Calls.{Call}
use Rattle.shelf.specs.Maps.{Standing}
use Rattle.player_events.specs.declared.event.Event.{Event}
use Rattle.player_events.specs.declared.event.LogEntry.{LogEntry}
use Rattle.partition.specs.declared.partition.PartitionFault.{PartitionFault}
use Rattle.player_events.specs.Outcomes.{OutcomeData}
use Rattle.partition.specs.History.{Chronicle, with_room}
use Rattle.partition.specs.Image.{Image}
use Rattle.partition.specs.Lent.{Records, Refuses}
use Rattle.partition.specs.Lists.{RunsList, Stop, StopsList}

module _ {S : Type 0} (standing : S → Standing) (failed : S → S → Call → Type 0) (past before : Chronicle) (old new : S) (n m : ℕ) (same : past ≡ before) (number : n ≡ m) where
  pub records_at : (after : Image) (later : List LogEntry) (event : Event) (outcome : OutcomeData) → Records standing failed past.present after (with_room past).window later old new n event outcome
      → Records standing failed before.present after (with_room before).window later old new m event outcome
  records_at after later event outcome records =
      subst (λ (c : Chronicle). Records standing failed c.present after (with_room c).window later old new m event outcome) same
      (subst (λ (k : ℕ). Records standing failed past.present after (with_room past).window later old new k event outcome) number records)

  pub refuses_at : (after : Chronicle) (event : Event) (fault : PartitionFault) → Refuses standing failed past after old new n event fault → Refuses standing failed before after old new m event fault
  refuses_at after event fault refuses =
      subst (λ (c : Chronicle). Refuses standing failed c after old new m event fault) same
      (subst (λ (k : ℕ). Refuses standing failed past after old new k event fault) number refuses)

  pub runs_at : (after : Chronicle) (client : ℕ) (form : ListForm) (requests : List Request) (tolds : List OutcomeData) → RunsList standing failed past after old new n client form requests tolds
      → RunsList standing failed before after old new m client form requests tolds
  runs_at after client form requests tolds runs =
      subst (λ (c : Chronicle). RunsList standing failed c after old new m client form requests tolds) same
      (subst (λ (k : ℕ). RunsList standing failed past after old new k client form requests tolds) number runs)

  pub stops_at : (after : Chronicle) (client : ℕ) (form : ListForm) (requests : List Request) (stop : Stop) → StopsList standing failed past after old new n client form requests stop
      → StopsList standing failed before after old new m client form requests stop
  stops_at after client form requests stop stops =
      subst (λ (c : Chronicle). StopsList standing failed c after old new m client form requests stop) same
      (subst (λ (k : ℕ). StopsList standing failed past after old new k client form requests stop) number stops)

  pub all_runs_at : (after : Chronicle) (client : ℕ) (form : ListForm) (requests : List Request) (r : Result (List OutcomeData) Stop)
      → IfOk r (λ tolds. RunsList standing failed past after old new n client form requests tolds)
      → IfOk r (λ tolds. RunsList standing failed before after old new m client form requests tolds)
  all_runs_at after client form requests (Ok tolds) runs = runs_at after client form requests tolds runs
  all_runs_at after client form requests (Err stop) runs = tt

  pub all_stops_at : (after : Chronicle) (client : ℕ) (form : ListForm) (requests : List Request) (r : Result (List OutcomeData) Stop)
      → IfErr r (λ stop. StopsList standing failed past after old new n client form requests stop)
      → IfErr r (λ stop. StopsList standing failed before after old new m client form requests stop)
  all_stops_at after client form requests (Ok tolds) stops = tt
  all_stops_at after client form requests (Err stop) stops = stops_at after client form requests stop stops
