-- What is owed for what the house answers.
use Rattle.std.proofs.Common.{◌≡◌, ℕ, zero, suc, ◌+◌, ◌<◌, inl, inr, Bool, true, List, [], ◌∷◌, ◌++◌, length, take, arith, Option, None, refl, sym, ap, subst, ◌∙◌}
use Rattle.std.specs.Prelude.{◌==◌, map, slice_index_or}
use Rattle.std.proofs.lemmas.Bool.Decides.{nat_tests}
use Rattle.command_lists.specs.Lists.{LineData}
use Rattle.command_lists.specs.declared.list.CommandList.{CommandList}
use Rattle.house.specs.Lists.{HandedList, StopsListSomewhere, TellsListSomewhere}
use Rattle.house.specs.Seats.{after_events}
use Rattle.house.specs.Counts.{AnswersSomewhere}
use Rattle.house.specs.Views.{Handed, IsUnwritten, StopsSomewhere, line_of}
use Rattle.mpd_command.specs.Requests.{name_in}
use Rattle.mpd_command.specs.declared.request.Request.{Request}
use Rattle.mpd_text.specs.Answers.Answer.{ack_line}
use Rattle.partition.specs.Lists.{Stop, fault_text, next_after, stop_text, text_with}
use Rattle.partition.specs.declared.partition.PartitionFault.{PartitionFault}
use Rattle.partition.specs.declared.partition.PartitionFault.TheVariants.{NoMemory}
use Rattle.shelf.specs.Calls.{Call}
use Rattle.shelf.specs.Maps.{Standing}
use Rattle.mpd_session.specs.declared.asker.Asker.{Asker}
use Rattle.transitions.specs.declared.reply.Next.{Next}
use Rattle.transitions.specs.declared.reply.Next.TheVariants.{Goes}
use Rattle.mpd_session.specs.Answers.{Answers, Caller, IsRead, list_end, read_line}
use Rattle.mpd_session.specs.Notices.{notice_bytes}
use Rattle.mpd_session.specs.Requests.{Single, Whole}
use Rattle.mpd_session.specs.Output.{IsOwed}
use Rattle.mpd_session.proofs.Outputs.{a_notice}

one_more : (n : ℕ) → suc (n + 1) ≡ suc n + 1
one_more n = omega arith

-- where there are no lines
pub no_lines : {X : Type 0} (xs ys : List X) (e : Bool) → e ≡ true → e ≡ (length ys == 0) → ys ≡ xs → xs ≡ []
no_lines [] ys e is tells same = refl
no_lines (x ∷ xs) ys e is tells same =
    let more : length ys ≡ length xs + 1 = ap length same ∙ (omega arith) in
    let none : true ≡ (length ys == 0) = sym is ∙ tells in
    absurd (grind (arith, nat_tests))

-- one element more is taken
pub take_more : {X Y : Type 0} (f : X → Y) (xs : List X) (i : ℕ) (d : X) → i < length xs → take i (map f xs) ++ f (slice_index_or xs i d) ∷ [] ≡ take (i + 1) (map f xs)
take_more f [] i d h = absurd (omega (arith, h))
take_more f (x ∷ xs) zero d h = refl
take_more f (x ∷ xs) (suc i) d h =
    ap (λ ys. f x ∷ ys) (take_more f xs i d (omega (arith, h))) ∙ ap (λ (n : ℕ). take n (map f (x ∷ xs))) (one_more i)

module _ {S : Type 0} (standing : S → Standing) (failed : S → S → Call → Type 0) (asker : Asker) where
  -- there was no memory to read a line
  pub line_unread : (before : Caller S) (line : LineData) (owed : List ℕ) → owed ≡ ack_line 52 0 [] (fault_text NoMemory) → IsOwed (Answers standing failed asker) before (Single line) owed Goes before
  line_unread before line owed is = ([], owed, refl, ([], refl), inr ([], NoMemory, is, refl, refl, inl refl, inl (refl, refl)))

  -- a line was run
  pub line_ran : (before after : Caller S) (line : LineData) (request : Request) (answered : Handed) (owed : List ℕ) (next : Next) → request ≡ read_line asker.commands line
      → owed ≡ notice_bytes answered.front ++ answered.told.answer.text → next ≡ answered.told.answer.next → after.seat ≡ after_events before.seat 1
      → AnswersSomewhere standing failed before.shelf after.shelf before.seat (line_of asker.client request) answered.told
      → IsOwed (Answers standing failed asker) before (Single line) owed next after
  line_ran before after line request answered owed next read is follows made somewhere = (
    notice_bytes answered.front,
    answered.told.answer.text,
    is,
    a_notice answered.front,
    inl (
      answered.told,
      refl,
      follows,
      made,
      subst (λ (r : Request). AnswersSomewhere standing failed before.shelf after.shelf before.seat (line_of asker.client r) answered.told) read somewhere,
    ),
  )

  -- the house did not run a line
  pub line_refused : (before after : Caller S) (line : LineData) (request : Request) (name owed : List ℕ) (fault : PartitionFault) → request ≡ read_line asker.commands line → name ≡ name_in request
      → owed ≡ ack_line 52 0 name (fault_text fault) → after.seat ≡ before.seat → IsUnwritten standing failed before.shelf after.shelf
      → StopsSomewhere standing failed before.shelf after.shelf before.seat (line_of asker.client request) fault
      → IsOwed (Answers standing failed asker) before (Single line) owed Goes after
  line_refused before after line request name owed fault read named is made unwritten somewhere =
      let stops : StopsSomewhere standing failed before.shelf after.shelf before.seat (line_of asker.client (read_line asker.commands line)) fault =
      subst (λ (r : Request). StopsSomewhere standing failed before.shelf after.shelf before.seat (line_of asker.client r) fault) read somewhere in
      ([], owed, refl, ([], refl), inr (name, fault, is, refl, made, unwritten, inr (named ∙ ap name_in read, stops)))

  -- a list without lines
  pub empty_list : (before : Caller S) (list : CommandList) (owed : List ℕ) → list.lines ≡ [] → owed ≡ list_end None → IsOwed (Answers standing failed asker) before (Whole list) owed Goes before
  empty_list before list owed none is = ([], owed, refl, ([], refl), inr (inr (none, is, refl, refl)))

  -- a list was run
  pub list_ran : (before after : Caller S) (list : CommandList) (requests : List Request) (unread : Option ℕ) (answered : HandedList) (owed : List ℕ) (next : Next) → IsRead list.lines asker.commands requests unread
      → owed ≡ notice_bytes answered.front ++ text_with (list_end unread) answered.tolds
      → next ≡ next_after answered.tolds → after.seat ≡ after_events before.seat (length answered.tolds)
      → TellsListSomewhere standing failed before.shelf after.shelf before.seat asker.client list.form requests answered.tolds
      → IsOwed (Answers standing failed asker) before (Whole list) owed next after
  list_ran before after list requests unread answered owed next read is follows made somewhere = (
    notice_bytes answered.front,
    text_with (list_end unread) answered.tolds,
    is,
    a_notice answered.front,
    inl (
      requests,
      unread,
      answered.tolds,
      read,
      refl,
      follows,
      made,
      somewhere,
    ),
  )

  -- a list stopped
  pub list_stopped : (before after : Caller S) (list : CommandList) (requests : List Request) (unread : Option ℕ) (stop : Stop) (owed : List ℕ) → IsRead list.lines asker.commands requests unread
      → owed ≡ stop_text stop → after.seat ≡ after_events before.seat stop.done
      → StopsListSomewhere standing failed before.shelf after.shelf before.seat asker.client list.form requests stop
      → IsOwed (Answers standing failed asker) before (Whole list) owed Goes after
  list_stopped before after list requests unread stop owed read is made somewhere =
      ([], owed, refl, ([], refl), inr (inl (requests, unread, stop, read, is, refl, made, somewhere)))
