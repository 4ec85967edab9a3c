-- A run up to some read.
use Rattle.std.proofs.Common.{◌≡◌, ◌⊎◌, ℕ, ◌+◌, ◌-◌, ◌^◌, ◌<◌, ◌≤◌, min, inl, inr, List, [], ◌++◌, map, Option, None, Some, Result, Ok, Err, refl, sym, ap, subst, ◌∙◌, append_assoc, append-nil, arith}
use Rattle.std.specs.Prelude.{is_none, true, false}
use Rattle.std.proofs.lemmas.List.{map-append}
use Rattle.std.specs.Option.{IsSome, IfSome}
use Rattle.std.specs.Result.{OnErr}
use Rattle.std.specs.Io.KnownBytes.{Appends, Consumes, Keeps, IsAtEnd}
use Rattle.counted_devices.specs.declared.call_counts.CallCounts.{CallCounts}
use Rattle.mpd_text.specs.Lines.Cut.{split, cut, split_from, then_split}
use Rattle.counted_devices.specs.CallCounts.{NoFewer, one_call}
use Rattle.mpd_text.specs.Lines.Split.{line_of}
use Rattle.partition.specs.Image.{Image}
use Rattle.daemon_script.specs.Kinds.{Shelved, images}
use Rattle.daemon_script.specs.Output.{Run, script_after, text_of, lines_in, ending, IsRunOf, output_of, WritesOutput, AppendsFront, WritesAll, WritesFront, CalledTooOften}
use Rattle.daemon_script.specs.Pieces.{ShowsPiece}
use Rattle.daemon_script.specs.Script.{ScriptData, opening_script}
use Rattle.daemon_script.proofs.Runs.{script_after-append, text_of-append, lines_in-append, ample, lines_in-ample}

-- a device was called this often, by a count that stays at its greatest value
abbrev Called : ℕ → CallCounts → CallCounts → Type 0
Called iterations old new = ((iterations ≡ 0) × (new.calls ≡ old.calls)) ⊎ (new.calls ≡ min (old.calls + iterations) (2 ^ 64 - 1))

-- what was read and written so far, by what its lines found of memory
pub record Ran (unread left old new start : Option (List ℕ)) (script : ScriptData (Shelved Image)) (iterations : ℕ) (reader reader' writer writer' : CallCounts) : Type 0 where
  pub read : List ℕ
  pub run : Run
  pub consumed : Consumes unread left read
  pub next : (split read).next ≡ start
  pub goes : IsSome start
  pub are : IsRunOf read run
  pub script_is : script ≡ script_after images opening_script run
  pub written : Appends old new (text_of images opening_script run)
  pub reads : NoFewer reader reader'
  pub writes : NoFewer writer writer'
  pub calls : Called iterations reader reader'

abbrev Cuts : Type 0
Cuts = (stream more : List ℕ) → split (stream ++ more) ≡ then_split (split stream) more

consumes_none : (a : Option (List ℕ)) → Consumes a a []
consumes_none None = tt
consumes_none (Some x) = refl

consumes_both : (a b c : Option (List ℕ)) (bs cs : List ℕ) → Consumes a b bs → Consumes b c cs → Consumes a c (bs ++ cs)
consumes_both None b c bs cs p q = tt
consumes_both (Some x) None c bs cs p q = absurd p
consumes_both (Some x) (Some y) None bs cs p q = absurd q
consumes_both (Some x) (Some y) (Some z) bs cs p q = p ∙ ap (λ (l : List ℕ). bs ++ l) q ∙ sym (append_assoc bs cs z)

consumes_kept : (a b c : Option (List ℕ)) (bs : List ℕ) → Consumes a b bs → Keeps b c → Consumes a c bs
consumes_kept None b c bs p q = tt
consumes_kept (Some x) None c bs p q = absurd p
consumes_kept (Some x) (Some y) None bs p q = absurd q
consumes_kept (Some x) (Some y) (Some z) bs p q = p ∙ ap (λ (l : List ℕ). bs ++ l) (sym q)

pub keeps_same : (a : Option (List ℕ)) → Keeps a a
keeps_same None = tt
keeps_same (Some x) = refl

appends_none : (a : Option (List ℕ)) → Appends a a []
appends_none None = tt
appends_none (Some x) = sym (append-nil x)

appends_both : (a b c : Option (List ℕ)) (bs cs : List ℕ) → Appends a b bs → Appends b c cs → Appends a c (bs ++ cs)
appends_both None b c bs cs p q = tt
appends_both (Some x) None c bs cs p q = absurd p
appends_both (Some x) (Some y) None bs cs p q = absurd q
appends_both (Some x) (Some y) (Some z) bs cs p q = q ∙ ap (λ (l : List ℕ). l ++ cs) p ∙ append_assoc x bs cs

-- the run goes on by the lines of a piece
are_more : Cuts → (read piece : List ℕ) (start : Option (List ℕ)) (run more : Run) → (split read).next ≡ start → IsRunOf read run
    → lines_in more ≡ map line_of (split_from start piece).lines → IsRunOf (read ++ piece) (run ++ more)
are_more cuts read piece start run more e are lines =
    rw (cuts read piece, e)
    (lines_in-append run more
    ∙ ap (λ (ls : List (Option (List ℕ))). ls ++ lines_in more) are
    ∙ ap (λ (ls : List (Option (List ℕ))). map line_of (split read).lines ++ ls) lines
    ∙ sym (map-append line_of (split read).lines (split_from start piece).lines))

next_more : Cuts → (read piece : List ℕ) (start : Option (List ℕ)) → (split read).next ≡ start → (split (read ++ piece)).next ≡ (split_from start piece).next
next_more cuts read piece start e = rw (cuts read piece, e) refl

-- the output for one more piece
output_more : Cuts → (read piece : List ℕ) (start : Option (List ℕ)) (run more : Run) → (split read).next ≡ start
    → output_of images (read ++ piece) (run ++ more) ≡ text_of images opening_script run ++ (text_of images (script_after images opening_script run) more ++ ending (split_from start piece).next)
unfolding output_of
output_more cuts read piece start run more e =
    ap (λ (o : Option (List ℕ)). text_of images opening_script (run ++ more) ++ ending o) (next_more cuts read piece start e)
    ∙ ap (λ (t : List ℕ). t ++ ending (split_from start piece).next) (text_of-append opening_script run more)
    ∙ append_assoc (text_of images opening_script run) (text_of images (script_after images opening_script run) more) (ending (split_from start piece).next)

no_ending : (o : Option (List ℕ)) → IsSome o → ending o ≡ []
no_ending (Some partial) some = refl
no_ending None some = absurd cc

-- the output so far, while no line was too long
output_open : (read : List ℕ) (start : Option (List ℕ)) (run : Run) → (split read).next ≡ start → IsSome start → output_of images read run ≡ text_of images opening_script run
unfolding output_of
output_open read start run e some =
    ap (λ (o : Option (List ℕ)). text_of images opening_script run ++ ending o) e
    ∙ ap (λ (t : List ℕ). text_of images opening_script run ++ t) (no_ending start some) ∙ append-nil (text_of images opening_script run)

none_ran : (unread old : Option (List ℕ)) (reader writer : CallCounts) → Ran unread unread old old (Some []) opening_script 0 reader reader writer writer
unfolding split cut script_after text_of
none_ran unread old reader writer = record {
  read = [];
  run = [];
  consumed = consumes_none unread;
  next = refl;
  goes = refl;
  are = refl;
  script_is = refl;
  written = appends_none old;
  reads = (omega arith, omega arith, omega arith);
  writes = (omega arith, omega arith, omega arith);
  calls = inl (refl, refl);
}

pub start_ran : (unread old start : Option (List ℕ)) (script : ScriptData (Shelved Image)) (reader writer : CallCounts) → start ≡ Some [] → script ≡ opening_script
    → Ran unread unread old old start script 0 reader reader writer writer
start_ran unread old start script reader writer e f = rw (e, f) (none_ran unread old reader writer)

-- all that was read is answered
pub all_here : (unread left left' old new start : Option (List ℕ)) (script : ScriptData (Shelved Image)) (iterations : ℕ) (r r' w w' : CallCounts)
    → Ran unread left old new start script iterations r r' w w' → Keeps left left' → WritesAll images unread left' old new
all_here unread left left' old new start script iterations r r' w w' ran keeps = (
  ran.read,
  consumes_kept unread left left' ran.read ran.consumed keeps,
  (ran.run, ran.are, subst (Appends old new) (sym (output_open ran.read start ran.run ran.next ran.goes)) ran.written),
)

pub front_of_all : (unread left old new : Option (List ℕ)) → WritesAll images unread left old new → WritesFront images unread left old new
front_of_all unread left old new (read, consumes, (run, are, written)) =
    (read, consumes, run, are, (output_of images read run, [], sym (append-nil (output_of images read run)), written))

-- a front of what a piece prints was written
pub front_piece : Cuts → (unread left left' old mid new start : Option (List ℕ)) (script : ScriptData (Shelved Image)) (piece : List ℕ) (more : Run) (iterations : ℕ) (r r' w w' : CallCounts)
    → Ran unread left old mid start script iterations r r' w w' → Consumes left left' piece → lines_in more ≡ map line_of (split_from start piece).lines
    → AppendsFront mid new (text_of images script more ++ ending (split_from start piece).next) → WritesFront images unread left' old new
front_piece cuts unread left left' old mid new start script piece more iterations r r' w w' ran consumes lines front =
    let texts : List ℕ = text_of images opening_script ran.run in (
      ran.read ++ piece,
      consumes_both unread left left' ran.read piece ran.consumed consumes,
      ran.run ++ more,
      are_more cuts ran.read piece start ran.run more ran.next ran.are lines,
      (
        texts ++ front.0,
        front.1,
        output_more cuts ran.read piece start ran.run more ran.next
            ∙ ap (λ (s : ScriptData (Shelved Image)). texts ++ (text_of images s more ++ ending (split_from start piece).next)) (sym ran.script_is)
            ∙ ap (λ (t : List ℕ). texts ++ t) front.2 ∙ sym (append_assoc texts front.0 front.1),
        appends_both old mid new texts front.0 ran.written front.3,
      ),
    )

-- nothing of a piece was written
pub none_of_piece : Cuts → (unread left left' old mid start : Option (List ℕ)) (script : ScriptData (Shelved Image)) (piece : List ℕ) (iterations : ℕ) (r r' w w' : CallCounts)
    → Ran unread left old mid start script iterations r r' w w' → Consumes left left' piece → WritesFront images unread left' old mid
none_of_piece cuts unread left left' old mid start script piece iterations r r' w w' ran consumes =
    let more : Run = ample (map line_of (split_from start piece).lines) in
    front_piece cuts unread left left' old mid mid start script piece more iterations r r' w w' ran consumes (lines_in-ample (map line_of (split_from start piece).lines))
    ([], text_of images script more ++ ending (split_from start piece).next, refl, appends_none mid)

-- the input is at its end
ends_all : (unread left : Option (List ℕ)) (read : List ℕ) (P : List ℕ → Type 0) → Consumes unread left read → IsAtEnd left → P read → IfSome unread P
ends_all None left read P c e h = tt
ends_all (Some x) None read P c e h = absurd c
ends_all (Some x) (Some y) read P c e h = subst P (sym (c ∙ ap (λ (l : List ℕ). read ++ l) e ∙ append-nil read)) h

pub whole_input : (unread left left' old new start : Option (List ℕ)) (script : ScriptData (Shelved Image)) (iterations : ℕ) (r r' w w' : CallCounts)
    → Ran unread left old new start script iterations r r' w w' → Consumes left left' [] → IsAtEnd left' → IfSome unread (WritesOutput images old new)
whole_input unread left left' old new start script iterations r r' w w' ran consumes ends =
    let consumed = subst (Consumes unread left') (append-nil ran.read) (consumes_both unread left left' ran.read [] ran.consumed consumes) in
    ends_all unread left' ran.read (WritesOutput images old new) consumed ends
    (ran.run, ran.are, subst (Appends old new) (sym (output_open ran.read start ran.run ran.next ran.goes)) ran.written)

closed_more : Cuts → (read more : List ℕ) → (split read).next ≡ None → ((split (read ++ more)).lines ≡ (split read).lines) × ((split (read ++ more)).next ≡ None)
closed_more cuts read more e = rw (cuts read more, e) (append-nil (split read).lines, refl)

closed_output : Cuts → (old new : Option (List ℕ)) (read more : List ℕ) → (split read).next ≡ None → WritesOutput images old new read → WritesOutput images old new (read ++ more)
unfolding output_of
closed_output cuts old new read more e w =
    let c = closed_more cuts read more e in (
      w.0,
      w.1 ∙ ap (map line_of) (sym c.0),
      subst (λ (o : Option (List ℕ)). Appends old new (text_of images opening_script w.0 ++ ending o)) (e ∙ sym c.1) w.2,
    )

closed_all : Cuts → (unread left old new : Option (List ℕ)) (read : List ℕ) → Consumes unread left read → (split read).next ≡ None → WritesOutput images old new read → IfSome unread (WritesOutput images old new)
closed_all cuts None left old new read c e w = tt
closed_all cuts (Some x) None old new read c e w = absurd c
closed_all cuts (Some x) (Some y) old new read c e w = subst (WritesOutput images old new) (sym c) (closed_output cuts old new read y e w)

text_alone : (before after text : List ℕ) → before ≡ [] → after ≡ before ++ text → after ≡ text
text_alone before after text e f = rw e at f

-- what a piece prints was written
piece_written : Cuts → (old mid new start : Option (List ℕ)) (script script' : ScriptData (Shelved Image)) (read piece before after : List ℕ) (run : Run)
    → (split read).next ≡ start → script ≡ script_after images opening_script run → Appends old mid (text_of images opening_script run)
    → before ≡ [] → (shows : ShowsPiece start piece script script' before after) → Appends mid new after
    → Appends old new (output_of images (read ++ piece) (run ++ shows.run))
piece_written cuts old mid new start script script' read piece before after run e script_is written none shows appends =
    let texts : List ℕ = text_of images opening_script run in
    subst (Appends old new)
    (sym (output_more cuts read piece start run shows.run e
    ∙ ap (λ (s : ScriptData (Shelved Image)). texts ++ (text_of images s shows.run ++ ending (split_from start piece).next)) (sym script_is)
    ∙ ap (λ (t : List ℕ). texts ++ t) (sym (text_alone before after _ none shows.text))))
    (appends_both old mid new texts after written appends)

-- a line was too long
pub all_closed : Cuts → (unread left left' old mid new start : Option (List ℕ)) (script script' : ScriptData (Shelved Image)) (piece before after : List ℕ) (iterations : ℕ) (r r' w w' : CallCounts)
    → Ran unread left old mid start script iterations r r' w w' → Consumes left left' piece
    → before ≡ [] → ShowsPiece start piece script script' before after → Appends mid new after → (split_from start piece).next ≡ None
    → IfSome unread (WritesOutput images old new)
all_closed cuts unread left left' old mid new start script script' piece before after iterations r r' w w' ran consumes none shows appends closed =
    closed_all cuts unread left' old new (ran.read ++ piece) (consumes_both unread left left' ran.read piece ran.consumed consumes)
    (next_more cuts ran.read piece start ran.next ∙ closed) (
      ran.run ++ shows.run,
      are_more cuts ran.read piece start ran.run shows.run ran.next ran.are shows.are,
      piece_written cuts old mid new start script script' ran.read piece before after ran.run ran.next ran.script_is ran.written none shows appends,
    )

-- only a front of what a piece prints was written
pub front_shown : Cuts → (unread left left' old mid new start : Option (List ℕ)) (script script' : ScriptData (Shelved Image)) (piece before after : List ℕ) (iterations : ℕ) (r r' w w' : CallCounts)
    → Ran unread left old mid start script iterations r r' w w' → Consumes left left' piece
    → before ≡ [] → ShowsPiece start piece script script' before after → AppendsFront mid new after → WritesFront images unread left' old new
front_shown cuts unread left left' old mid new start script script' piece before after iterations r r' w w' ran consumes none shows front =
    front_piece cuts unread left left' old mid new start script piece shows.run iterations r r' w w' ran consumes shows.are
    (front.0, front.1, sym (text_alone before after _ none shows.text) ∙ front.2, front.3)

min_more : (a iterations top : ℕ) → min (min (a + iterations) top + 1) top ≡ min (a + (iterations + 1)) top
min_more a iterations top = omega arith

min_first : (a b iterations top : ℕ) → iterations ≡ 0 → b ≡ a → min (b + 1) top ≡ min (a + (iterations + 1)) top
min_first a b iterations top e f = rw (e, f) refl

-- one more call
more_calls : (old mid : CallCounts) (iterations now : ℕ) → Called iterations old mid → now ≡ (one_call mid).calls → now ≡ min (old.calls + (iterations + 1)) (2 ^ 64 - 1)
more_calls old mid iterations now before e = elim before [
  | inl h ↦ e ∙ min_first old.calls mid.calls iterations (2 ^ 64 - 1) h.0 h.1
  | inr h ↦ e ∙ ap (λ (n : ℕ). min (n + 1) (2 ^ 64 - 1)) h ∙ min_more old.calls iterations (2 ^ 64 - 1)
]

at_most : (a b iterations top : ℕ) → b ≡ min (a + iterations) top → iterations ≤ 2 ^ 32 → b ≤ a + 2 ^ 32
at_most a b iterations top e most = omega (arith, e, most)

all_calls : (old new : CallCounts) (iterations : ℕ) → Called iterations old new → iterations ≡ 2 ^ 32 → CalledTooOften old new
all_calls old new iterations called e = elim called [ inl h ↦ absurd (omega (arith, h.0, e)) | inr h ↦ h ∙ ap (λ (n : ℕ). min (old.calls + n) (2 ^ 64 - 1)) e ]

-- after one call more than were made so far
pub few : (unread left old new start : Option (List ℕ)) (script : ScriptData (Shelved Image)) (iterations : ℕ) (r r' w w' : CallCounts) (now : ℕ)
    → Ran unread left old new start script iterations r r' w w' → now ≡ (one_call r').calls → iterations < 2 ^ 32 → now ≤ r.calls + 2 ^ 32
few unread left old new start script iterations r r' w w' now ran calls less =
    at_most r.calls now (iterations + 1) (2 ^ 64 - 1) (more_calls r r' iterations now ran.calls calls) (omega (arith, less))

-- after all calls
pub too_often : (unread left old new start : Option (List ℕ)) (script : ScriptData (Shelved Image)) (iterations : ℕ) (r r' w w' : CallCounts)
    → Ran unread left old new start script iterations r r' w w' → iterations ≡ 2 ^ 32 → CalledTooOften r r'
too_often unread left old new start script iterations r r' w w' ran e = all_calls r r' iterations ran.calls e

pub few_in_all : (unread left old new start : Option (List ℕ)) (script : ScriptData (Shelved Image)) (iterations : ℕ) (r r' w w' : CallCounts)
    → Ran unread left old new start script iterations r r' w w' → iterations ≡ 2 ^ 32 → r'.calls ≤ r.calls + 2 ^ 32
few_in_all unread left old new start script iterations r r' w w' ran e = at_most r.calls r'.calls (2 ^ 32) (2 ^ 64 - 1) (all_calls r r' iterations ran.calls e) (omega arith)

-- one more iteration
pub one_iteration : Cuts → (unread left left' old mid new start start' : Option (List ℕ)) (script script' : ScriptData (Shelved Image)) (piece before after : List ℕ) (iterations : ℕ) (r r' r'' w w' w'' : CallCounts)
    → Ran unread left old mid start script iterations r r' w w' → Consumes left left' piece
    → before ≡ [] → ShowsPiece start piece script script' before after → Appends mid new after → start' ≡ (split_from start piece).next → IsSome start'
    → NoFewer r' r'' → r''.calls ≡ (one_call r').calls → NoFewer w' w'' → Ran unread left' old new start' script' (iterations + 1) r r'' w w''
one_iteration cuts unread left left' old mid new start start' script script' piece before after iterations r r' r'' w w' w'' ran consumes none shows appends is some reads calls writes =
    let next : (split (ran.read ++ piece)).next ≡ start' = next_more cuts ran.read piece start ran.next ∙ sym is in
    record {
      read = ran.read ++ piece;
      run = ran.run ++ shows.run;
      consumed = consumes_both unread left left' ran.read piece ran.consumed consumes;
      next = next;
      goes = some;
      are = are_more cuts ran.read piece start ran.run shows.run ran.next ran.are shows.are;
      script_is = shows.script ∙ ap (λ (s : ScriptData (Shelved Image)). script_after images s shows.run) ran.script_is ∙ sym (script_after-append opening_script ran.run shows.run);
      written = subst (Appends old new) (output_open (ran.read ++ piece) start' (ran.run ++ shows.run) next some)
          (piece_written cuts old mid new start script script' ran.read piece before after ran.run ran.next ran.script_is ran.written none shows appends);
      reads = (omega (arith, ran.reads.0, reads.0), omega (arith, ran.reads.1, reads.1), omega (arith, ran.reads.2, reads.2));
      writes = (omega (arith, ran.writes.0, writes.0), omega (arith, ran.writes.1, writes.1), omega (arith, ran.writes.2, writes.2));
      calls = inr (more_calls r r' iterations r''.calls ran.calls calls);
    }

pub some_left : (o : Option (List ℕ)) → is_none o ≡ false → IsSome o
some_left (Some x) e = refl
some_left None e = absurd cc

pub none_left : (o : Option (List ℕ)) → is_none o ≡ true → o ≡ None
none_left (Some x) e = absurd cc
none_left None e = refl

pub on_err : {A E : Type 0} (P : Type 0) (r : Result A E) → P → OnErr r P
on_err P (Ok x) p = tt
on_err P (Err e) p = p
