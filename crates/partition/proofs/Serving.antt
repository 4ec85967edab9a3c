-- What a lent shelf did for an event, from the calls that were made.
use Rattle.std.proofs.Common.{◌≡◌, Bool, true, false, Option, None, refl, ap, sym, subst, ◌∙◌}
use Rattle.shelf.specs.declared.faults.ShelfFault.{ShelfFault}
use Rattle.shelf.specs.Calls.{Call}
use Rattle.shelf.specs.Maps.{Maps, Standing, Trusted, Changes}
use Rattle.player_events.specs.declared.event.Event.{Event}
use Rattle.player_events.specs.declared.event.Event.TheVariants.{Connect, Disconnect, Line, ScanQuestion, ScanResult, Want, Have, Failed, OutputTurn, End}
use Rattle.transitions.specs.declared.shelf_calls.StoreReply.{StoreReply}
use Rattle.transitions.specs.declared.shelf_calls.Read.{Read}
use Rattle.transitions.specs.declared.shelf_calls.ShelfWrite.{ShelfWrite}
use Rattle.transitions.specs.declared.shelf_calls.ShelfWrite.TheVariants.{Nothing as Unwritten}
use Rattle.partition.specs.Image.{Image}
use Rattle.partition.specs.Lent.{question, writing}
use Rattle.transitions.specs.Shelves.{IsAnswered, IsRead, Serves, LeavesUnchanged, answered, is_ok_write, is_read, is_out_of_memory, is_written, maps_after}
use Rattle.player_events.specs.Events.{with_store_reply, store_reply_at}
use Rattle.partition.specs.Step.{transition}
use Rattle.partition.proofs.Lending.{uncalled}
use Rattle.partition.proofs.UpToDate.{unwritten}
use Rattle.partition.proofs.Writing.{hears_last, hears_so}

-- what an event heard that was answered so, and that nothing was refused to
abbrev pub heard_read : Read → StoreReply
heard_read read = record { read = read; refused = None }

-- an event hears what it heard last
pub heard_so : (e later : Event) (a : StoreReply) → later ≡ with_store_reply e a → later ≡ with_store_reply e (store_reply_at later)
heard_so e later a is = is ∙ hears_so e a ∙ ap (λ (x : Event). with_store_reply e (store_reply_at x)) (sym is)

-- nothing was refused to an event that was only answered
pub unrefused : (e : Event) (read : Read) → (store_reply_at (with_store_reply e (heard_read read))).refused ≡ None
unrefused (Connect number) read = refl
unrefused (Disconnect number) read = refl
unrefused (Line number list_place request heard) read = refl
unrefused ScanQuestion read = refl
unrefused (ScanResult songs second) read = refl
unrefused (Want index owes) read = refl
unrefused (Have index number frames) read = refl
unrefused (Failed index number of_partner) read = refl
unrefused (OutputTurn output written discarded failed) read = refl
unrefused End read = refl

-- the event once something was refused to it, or nothing
abbrev pub refused_to : Event → Read → Option ShelfFault → Event
refused_to e read r = with_store_reply (with_store_reply e (heard_read read)) (record (store_reply_at (with_store_reply e (heard_read read))) { refused = r })

-- a call that asks and leaves the maps leaves them too where its answer is dropped
dropped : (s t : Standing) (b : Bool) → Changes s t b s.maps → Changes s t false s.maps
dropped s t true changes = record {
  clean = changes.clean;
  counts = changes.counts;
  stays_open = changes.stays_open;
  ours = changes.ours;
  done = λ trusted is. cc;
  kept = λ trusted is opened. (changes.done trusted refl).1;
  stop = changes.stop;
}
dropped s t false changes = changes

module _ {S : Type 0} (standing : S → Standing) (failed : S → S → Call → Type 0) where
  -- what an event heard stands for what its question was answered: an event other than a line asks nothing
  asked_by : (old between : S) (e : Event) (read : Read) (r : Option ShelfFault)
      → Changes (standing old) (standing between) (is_read read) (standing old).maps
      → Changes (standing old) (standing between) (is_read (store_reply_at (refused_to e read r)).read) (standing old).maps
  asked_by old between (Connect number) read r changes = dropped (standing old) (standing between) (is_read read) changes
  asked_by old between (Disconnect number) read r changes = dropped (standing old) (standing between) (is_read read) changes
  asked_by old between (Line number list_place request heard) read r changes = changes
  asked_by old between ScanQuestion read r changes = dropped (standing old) (standing between) (is_read read) changes
  asked_by old between (ScanResult songs second) read r changes = dropped (standing old) (standing between) (is_read read) changes
  asked_by old between (Want index owes) read r changes = dropped (standing old) (standing between) (is_read read) changes
  asked_by old between (Have index number frames) read r changes = dropped (standing old) (standing between) (is_read read) changes
  asked_by old between (Failed index number of_partner) read r changes = dropped (standing old) (standing between) (is_read read) changes
  asked_by old between (OutputTurn output written discarded failed) read r changes = dropped (standing old) (standing between) (is_read read) changes
  asked_by old between End read r changes = dropped (standing old) (standing between) (is_read read) changes

  abbrev Reads : S → S → Image → Event → Read → Type 0
  Reads old between i e read = Trusted (standing old) (standing between) → IsRead (failed old between) (standing old).maps (question i e) read

  read_by : (i : Image) (old between : S) (e : Event) (read : Read) (r : Option ShelfFault)
      → Reads old between i e read → Reads old between i e (store_reply_at (refused_to e read r)).read
  read_by i old between (Connect number) read r reads = λ trusted. refl
  read_by i old between (Disconnect number) read r reads = λ trusted. refl
  read_by i old between (Line number list_place request heard) read r reads = reads
  read_by i old between ScanQuestion read r reads = λ trusted. refl
  read_by i old between (ScanResult songs second) read r reads = λ trusted. refl
  read_by i old between (Want index owes) read r reads = λ trusted. refl
  read_by i old between (Have index number frames) read r reads = λ trusted. refl
  read_by i old between (Failed index number of_partner) read r reads = λ trusted. refl
  read_by i old between (OutputTurn output written discarded failed) read r reads = λ trusted. refl
  read_by i old between End read r reads = λ trusted. refl

  -- what is to be written is what the transition says that was only answered
  writes_by : (i : Image) (e : Event) (read : Read) (r : Option ShelfFault)
      → writing i e (store_reply_at (refused_to e read r)) ≡ (transition i (with_store_reply e (heard_read read))).written
  writes_by i (Connect number) read r = refl
  writes_by i (Disconnect number) read r = refl
  writes_by i (Line number list_place request heard) read r = refl
  writes_by i ScanQuestion read r = refl
  writes_by i (ScanResult songs second) read r = refl
  writes_by i (Want index owes) read r = refl
  writes_by i (Have index number frames) read r = refl
  writes_by i (Failed index number of_partner) read r = refl
  writes_by i (OutputTurn output written discarded failed) read r = refl
  writes_by i End read r = refl

  -- the shelf was asked, and then it was asked to write
  pub serves_written : (i : Image) (e after : Event) (read : Read) (r : Option ShelfFault) (write : ShelfWrite) (old between new : S)
      → Changes (standing old) (standing between) (is_read read) (standing old).maps → Reads old between i e read
      → write ≡ (transition i (with_store_reply e (heard_read read))).written → after ≡ refused_to e read r
      → Changes (standing between) (standing new) (is_ok_write write (answered (store_reply_at after).refused)) (maps_after write (standing between).maps)
      → (Trusted (standing between) (standing new) → IsAnswered (failed between new) (standing between).maps write (answered (store_reply_at after).refused))
      → is_out_of_memory (store_reply_at after).refused ≡ false
      → Serves standing failed old new (question i e) (writing i e (store_reply_at after)) (store_reply_at after)
  serves_written i e after read r write old between new asked reads write_is after_is changes answers ample =
      let same : write ≡ writing i e (store_reply_at after) = write_is ∙ sym (writes_by i e read r) ∙ sym (ap (λ x. writing i e (store_reply_at x)) after_is) in
      record {
        between = between;
        asked = subst (λ x. Changes (standing old) (standing between) (is_read (store_reply_at x).read) (standing old).maps) (sym after_is) (asked_by old between e read r asked);
        read = subst (λ x. Reads old between i e (store_reply_at x).read) (sym after_is) (read_by i old between e read r reads);
        written = subst (λ w. Changes (standing between) (standing new) (is_ok_write w (answered (store_reply_at after).refused)) (maps_after w (standing between).maps)) same changes;
        answers = subst (λ w. Trusted (standing between) (standing new) → IsAnswered (failed between new) (standing between).maps w (answered (store_reply_at after).refused)) same answers;
        ample = ample;
      }

  -- the shelf was asked, and nothing was to be written
  pub serves_unwritten : (i : Image) (e after : Event) (read : Read) (old new : S)
      → Changes (standing old) (standing new) (is_read read) (standing old).maps → Reads old new i e read
      → is_written (transition i (with_store_reply e (heard_read read))).written ≡ false → after ≡ with_store_reply e (heard_read read)
      → Serves standing failed old new (question i e) (writing i e (store_reply_at after)) (store_reply_at after)
  serves_unwritten i e after read old new asked reads none after_is =
      let none_refused : (store_reply_at after).refused ≡ None = ap (λ x. (store_reply_at x).refused) after_is ∙ unrefused e read in
      let later : after ≡ refused_to e read None =
      after_is ∙ hears_so e (heard_read read) ∙ sym (hears_last e (heard_read read) (store_reply_at (with_store_reply e (heard_read read))))
      ∙ ap (λ (o : Option ShelfFault). with_store_reply (with_store_reply e (heard_read read)) (record (store_reply_at (with_store_reply e (heard_read read))) { refused = o })) (unrefused e read) in
      serves_written i e after read None Unwritten old new new asked reads (sym (unwritten (transition i (with_store_reply e (heard_read read))).written none)) later
      (rw none_refused (uncalled (standing new) (standing new).maps))
      (λ trusted. ap answered none_refused)
      (ap is_out_of_memory none_refused)

  -- an event that was refused once the shelf had been asked
  pub unchanged : (old between new : S) (was_read : Bool) (after : Maps) → Changes (standing old) (standing between) was_read (standing old).maps
      → Changes (standing between) (standing new) false after → LeavesUnchanged standing failed old new
  unchanged old between new was_read after asked written = record { between = between; was_read = was_read; asked = asked; after = after; written = written }
