-- Each event raises each number by one at most.
use Rattle.std.proofs.Common.{◌≡◌, ℕ, ◌+◌, Bool, true, false, ◌&&◌, not, nat_le, ◌==◌, min, List, Option, Some, None, is_some, cond, refl, ◌∙◌, arith}
use Rattle.song_queue.specs.declared.entry.Entry.{Entry}
use Rattle.play_order.specs.Draws.{RoundState}
use Rattle.play_order.specs.Order.{entry_of}
use Rattle.play_order.specs.Ends as ends
use Rattle.player_core.specs.declared.state.Job.{Job}
use Rattle.player_core.specs.declared.state.Playback.{Playback}
use Rattle.player_core.specs.declared.state.Playback.TheVariants.{Stop, Play, Pause}
use Rattle.player_core.specs.Player as player
use Rattle.player_core.specs.Player.{PlayerState}
use Rattle.player_core.specs.Steps as steps
use Rattle.player_core.specs.Decoding as decoding
use Rattle.player_core.specs.Laws as laws
use Rattle.player_core.proofs.Effects.{checked-numbers, faded-numbers}
use Rattle.player_core.specs.Laws.{Event, NumbersRise, RisesByOne, after}

record Rises (p q : PlayerState) : Type 0 where
  cuts : RisesByOne p.cuts q.cuts
  starts : RisesByOne p.starts q.starts
  jobs : RisesByOne p.jobs q.jobs
  limit : q.max_cut ≡ p.max_cut

none : (n : ℕ) → RisesByOne n n
none n = (omega arith, omega arith)

one : (n : ℕ) → RisesByOne n (n + 1)
one n = (omega arith, omega arith)

same : (p : PlayerState) → Rises p p
same p = record { cuts = none p.cuts; starts = none p.starts; jobs = none p.jobs; limit = refl }

-- the numbers of another player
numbers : (p q r : PlayerState) → r.cuts ≡ q.cuts → r.starts ≡ q.starts → r.jobs ≡ q.jobs → r.max_cut ≡ q.max_cut → Rises p q → Rises p r
numbers p q r c s j m h = record {
  cuts = (omega (arith, c, h.cuts.0), omega (arith, c, h.cuts.1));
  starts = (omega (arith, s, h.starts.0), omega (arith, s, h.starts.1));
  jobs = (omega (arith, j, h.jobs.0), omega (arith, j, h.jobs.1));
  limit = m ∙ h.limit;
}

stays : (p q : PlayerState) → q.cuts ≡ p.cuts → q.starts ≡ p.starts → q.jobs ≡ p.jobs → q.max_cut ≡ p.max_cut → Rises p q
stays p q c s j m = numbers p p q c s j m (same p)

cuts : (p q : PlayerState) → q.cuts ≡ p.cuts + 1 → q.starts ≡ p.starts → q.jobs ≡ p.jobs → q.max_cut ≡ p.max_cut → Rises p q
cuts p q c s j m = numbers p (player.cut p) q c s j m (record { cuts = one p.cuts; starts = none p.starts; jobs = none p.jobs; limit = refl })

either : (p q r : PlayerState) (b : Bool) → Rises p q → Rises p r → Rises p (cond b q r)
either p q r true h k = h
either p q r false h k = k

on : (p : PlayerState) (playback : Playback) (starts : Option ℕ) (offset : ℕ) (current : Option ℕ) → Rises p (player.goes_on p playback starts offset current)
on p playback None offset current = stays p (player.halted p current) refl refl refl refl
on p playback (Some id) offset current = record { cuts = none p.cuts; starts = one p.starts; jobs = none p.jobs; limit = refl }

on-cut : (p : PlayerState) (playback : Playback) (starts : Option ℕ) (offset : ℕ) (current : Option ℕ) → Rises p (player.cut (player.goes_on p playback starts offset current))
on-cut p playback None offset current = cuts p (player.cut (player.halted p current)) refl refl refl refl
on-cut p playback (Some id) offset current = record { cuts = one p.cuts; starts = one p.starts; jobs = none p.jobs; limit = refl }

-- the same of a player with these numbers
over : (p q r : PlayerState) → q.cuts ≡ p.cuts → q.starts ≡ p.starts → q.jobs ≡ p.jobs → q.max_cut ≡ p.max_cut → Rises q r → Rises p r
over p q r c s j m h = record {
  cuts = (omega (arith, c, h.cuts.0), omega (arith, c, h.cuts.1));
  starts = (omega (arith, s, h.starts.0), omega (arith, s, h.starts.1));
  jobs = (omega (arith, j, h.jobs.0), omega (arith, j, h.jobs.1));
  limit = h.limit ∙ m;
}

by_hand : (p : PlayerState) (round : RoundState) (playback : Playback) (starts : Option ℕ) (offset : ℕ) → Rises p (player.starts_by_hand (record p { round = round }) playback starts offset)
by_hand p round playback None offset = stays p (record p { round = round }) refl refl refl refl
by_hand p round playback (Some id) offset =
    let q : PlayerState = record p { round = round } in over p q (player.cut (player.started q playback id offset)) refl refl refl refl (on-cut q playback (Some id) offset None)

of-next : (p : PlayerState) (entries : List Entry) (current : Option ℕ) → Rises p (steps.next_by p entries current).player
of-next p entries None = same p
of-next p entries (Some id) =
    let f = ends.after_next p.modes p.round entries id in
    let q : PlayerState = steps.behind p f in
    over p q (player.cut (player.goes_on q Play (ends.id_of f.entry) 0 f.current)) refl refl refl refl (on-cut q Play (ends.id_of f.entry) 0 f.current)

of-previous : (p : PlayerState) (entries : List Entry) (current : Option ℕ) → Rises p (steps.previous_by p entries current)
of-previous p entries None = same p
of-previous p entries (Some id) = by_hand p _ Play (ends.id_of (ends.before p.modes p.round entries id)) 0

of-found : (p : PlayerState) (entry : Option Entry) → Rises p (steps.start_found p Play entry)
of-found p None = same p
of-found p (Some entry) = by_hand p _ Play (Some entry.id) 0

of-begin : (p : PlayerState) (entries : List Entry) (current : Option ℕ) → Rises p (steps.begin p entries current)
of-begin p entries None = by_hand p _ Play _ 0
of-begin p entries (Some id) = of-found p (entry_of entries id)

of-play : (p : PlayerState) (entries : List Entry) (playback : Playback) → Rises p (steps.play_by p entries playback)
of-play p entries Stop = of-begin p entries p.current
of-play p entries Play = same p
of-play p entries Pause = stays p _ refl refl refl refl

of-random : (p : PlayerState) (entries : List Entry) (on : Bool) → Rises p (steps.random p entries on)
of-random p entries true = either p p _ p.modes.random (same p) (stays p _ refl refl refl refl)
of-random p entries false = either p _ p p.modes.random (stays p _ refl refl refl refl) (same p)

of-removed : (p : PlayerState) (entries : List Entry) (from end : ℕ) → Rises p (steps.removed p entries from end)
of-removed p entries from end =
    let q : PlayerState = record p { round = ends.round_after_removal p.modes p.round entries from end } in
    let starts : Option ℕ = ends.id_of (ends.next_after_removal p.modes p.round entries from end) in
    let gone : PlayerState = steps.without p entries from end in
    let halted : PlayerState = record gone { current = None } in
    let on : PlayerState = player.cut (player.goes_on q p.playback starts 0 None) in
    either p (steps.goes_on_without p entries from end) gone (steps.holds_current entries p.current from end)
    (either p halted on (player.is_stopped p.playback) (stays p halted refl refl refl refl) (over p q on refl refl refl refl (on-cut q p.playback starts 0 None)))
    (stays p gone refl refl refl refl)

of-ended : (p : PlayerState) (entries : List Entry) (id accepted offset : ℕ) → Rises p (steps.ended (record p { offset = accepted }) entries id offset).player
of-ended p entries id accepted offset =
    let f = ends.after_end p.modes p.round entries id in
    let q : PlayerState = steps.behind (record p { offset = accepted }) f in
    over p q (player.goes_on q p.playback (ends.id_of f.entry) offset f.current) refl refl refl refl (on q p.playback (ends.id_of f.entry) offset f.current)

of-job : (rate : ℕ) (p : PlayerState) (entry : Entry) (next : Option Entry) → Rises p (decoding.job_for rate p entry next).stepped.player
of-job rate p entry next =
    let q : PlayerState = decoding.checked p next p.fade in
    let r : PlayerState = decoding.faded rate q entry next in
    let c = checked-numbers p next p.fade in
    let f = faded-numbers rate q entry next in
    let jobs : r.jobs ≡ p.jobs = f.1 ∙ c.1 in
    let starts : r.starts ≡ p.starts = f.2 ∙ c.2 in
    let cuts : r.cuts ≡ p.cuts = f.0 ∙ c.0 in
    record {
      cuts = (omega (arith, cuts), omega (arith, cuts));
      starts = (omega (arith, starts), omega (arith, starts));
      jobs = (omega (arith, jobs), omega (arith, jobs));
      limit = f.3 ∙ c.3;
    }

of-want_at : (rate : ℕ) (p : PlayerState) (entries : List Entry) (id : ℕ) (entry : Option Entry) → Rises p (decoding.want_at rate p entries id entry).stepped.player
of-want_at rate p entries id None = same p
of-want_at rate p entries id (Some entry) =
    elim (nat_le entry.song.frames p.offset) as (λ v. Rises p (cond v (record { stepped = steps.ended p entries id 0; job = None }) (decoding.job_for rate p entry (ends.peek p.modes p.round entries id))).stepped.player) [
      | true ↦ of-ended p entries id p.offset 0
      | false ↦ of-job rate p entry (ends.peek p.modes p.round entries id)
    ]

of-want_of : (rate : ℕ) (p : PlayerState) (entries : List Entry) (current : Option ℕ) → Rises p (decoding.want_of rate p entries current).stepped.player
of-want_of rate p entries None = same p
of-want_of rate p entries (Some id) = of-want_at rate p entries id (entry_of entries id)

of-want : (rate : ℕ) (p : PlayerState) (entries : List Entry) (enabled owes : Bool) → Rises p (decoding.want rate p entries enabled owes).stepped.player
of-want rate p entries enabled owes =
    elim (player.is_playing p.playback && enabled && not owes) as (λ v. Rises p (cond v (decoding.want_of rate p entries p.current) (decoding.nothing p)).stepped.player) [
      | true ↦ of-want_of rate p entries p.current
      | false ↦ same p
    ]

of-accepted : (p : PlayerState) (entries : List Entry) (job : Job) (count : ℕ) → Rises p (decoding.accepted p entries job count).player
of-accepted p entries job count =
    elim (decoding.is_last p entries job count) as (λ v. Rises p (cond v (steps.ended (record p { offset = p.offset + count }) entries job.id (decoding.mixed job.fade count)) (player.stays (record p { offset = p.offset + count; job = None }))).player) [
      | true ↦ of-ended p entries job.id (p.offset + count) (decoding.mixed job.fade count)
      | false ↦ stays p _ refl refl refl refl
    ]

of-have : (p : PlayerState) (entries : List Entry) (job : Option Job) (number count : ℕ) → Rises p (decoding.have_of p entries job number count).stepped.player
of-have p entries None number count = same p
of-have p entries (Some job) number count =
    let fed : decoding.Had = record { stepped = decoding.accepted p entries job count; feed = Some p.cuts } in
    let lost : Bool = decoding.has_lost_partner job.fade (steps.peek p entries) in
    elim (decoding.answers job number count) as (λ v. Rises p (cond v (cond lost (decoding.stale (player.given_up p)) fed) (decoding.stale p)).stepped.player) [
      | true ↦ elim lost as (λ v. Rises p (cond v (decoding.stale (player.given_up p)) fed).stepped.player) [ true ↦ stays p _ refl refl refl refl | false ↦ of-accepted p entries job count ]
      | false ↦ same p
    ]

of-failed : (p : PlayerState) (entries : List Entry) (job : Option Job) (number : ℕ) (of_partner : Bool) → Rises p (decoding.failed_of p entries job number of_partner)
of-failed p entries None number of_partner = same p
of-failed p entries (Some job) number of_partner =
    let given_up : Rises p (player.given_up p) = stays p (player.given_up p) refl refl refl refl in
    let unread : Rises p (decoding.unread p entries job.id) = cuts p (decoding.unread p entries job.id) refl refl refl refl in
    either p _ p (job.number == number)
    (either p _ (decoding.unread p entries job.id) of_partner (either p (player.given_up p) p (is_some job.fade) given_up (same p)) unread)
    (same p)

of-seek : (p : PlayerState) (entry : Entry) (frame : ℕ) → Rises p (steps.seek p entry frame)
of-seek p entry frame =
    let offset : ℕ = min frame entry.song.frames in
    either p (steps.sought p offset) (steps.start p (player.playing_or_paused p.playback) entry.id offset) (steps.is_current p.current entry.id)
    (cuts p (steps.sought p offset) refl refl refl refl) (by_hand p _ (player.playing_or_paused p.playback) (Some entry.id) offset)

of-event : (p : PlayerState) (event : Event) → Rises p (after p event)
of-event p (laws.Next entries) = of-next p entries p.current
of-event p (laws.Previous entries) = of-previous p entries p.current
of-event p (laws.Play entries) = of-play p entries p.playback
of-event p (laws.PlayEntry entry) = by_hand p _ Play (Some entry.id) 0
of-event p (laws.Seek entry frame) = of-seek p entry frame
of-event p laws.Stop = let halted : PlayerState = player.cut (player.halted p p.current) in either p p halted (player.is_stopped p.playback) (same p) (cuts p halted refl refl refl refl)
of-event p (laws.Pause on) = either p p _ (player.is_stopped p.playback) (same p) (stays p _ refl refl refl refl)
of-event p laws.TogglePause = either p p _ (player.is_stopped p.playback) (same p) (stays p _ refl refl refl refl)
of-event p (laws.SetRandom entries on) = of-random p entries on
of-event p (laws.SetRepeat on) = stays p _ refl refl refl refl
of-event p (laws.SetSingle single) = stays p _ refl refl refl refl
of-event p (laws.SetConsume consume) = stays p _ refl refl refl refl
of-event p (laws.SetCrossfade seconds) = stays p _ refl refl refl refl
of-event p laws.ClearError = stays p _ refl refl refl refl
of-event p (laws.Insert q songs) = stays p _ refl refl refl refl
of-event p (laws.Remove entries from end) = of-removed p entries from end
of-event p (laws.Want rate entries enabled owes) = of-want rate p entries enabled owes
of-event p (laws.Have entries number count) = of-have p entries p.job number count
of-event p (laws.Failed entries number of_partner) = of-failed p entries p.job number of_partner

pub numbers_rise : NumbersRise
numbers_rise p event = let h = of-event p event in (h.cuts, h.starts, h.jobs, h.limit)
