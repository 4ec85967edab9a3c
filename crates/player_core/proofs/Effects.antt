-- What each event does to the numbers of cuts and jobs, and to the job.
use Rattle.std.proofs.Common.{◌≡◌, ℕ, ◌+◌, ◌-◌, Bool, true, false, ◌&&◌, not, nat_le, ◌==◌, List, Option, Some, None, is_some, cond, refl, ap, ◌∙◌}
use Rattle.song_queue.specs.declared.entry.Entry.{Entry}
use Rattle.play_order.specs.Draws.{RoundState}
use Rattle.play_order.specs.Order.{entry_of}
use Rattle.play_order.specs.Ends as ends
use Rattle.player_core.specs.declared.state.Fade.{Fade}
use Rattle.player_core.specs.declared.state.Job.{Job}
use Rattle.player_core.specs.declared.state.Playback.{Playback}
use Rattle.player_core.specs.declared.state.Playback.TheVariants.{Stop, Play, Pause}
use Rattle.player_core.specs.Player as player
use Rattle.player_core.specs.Player.{PlayerState}
use Rattle.player_core.specs.Steps as steps
use Rattle.player_core.specs.Decoding as decoding
use Rattle.player_core.specs.Laws as laws
use Rattle.player_core.specs.Laws.{Event, after}

pub data Effect (p q : PlayerState) : Type 0 where
  Stays : q.cuts ≡ p.cuts → q.jobs ≡ p.jobs → q.job ≡ p.job → Effect p q
  Voids : q.jobs ≡ p.jobs → q.job ≡ None → Effect p q
  Asks : (job : Job) → q.cuts ≡ p.cuts → q.jobs ≡ p.jobs + 1 → q.job ≡ Some job → job.number ≡ p.jobs + 1 → Effect p q

-- an entry starts, or the player stops: nothing that was asked for is left
on-jobs : (p : PlayerState) (playback : Playback) (starts : Option ℕ) (offset : ℕ) (current : Option ℕ) → (player.goes_on p playback starts offset current).jobs ≡ p.jobs
on-jobs p playback None offset current = refl
on-jobs p playback (Some id) offset current = refl

pub on-job : (p : PlayerState) (playback : Playback) (starts : Option ℕ) (offset : ℕ) (current : Option ℕ) → (player.goes_on p playback starts offset current).job ≡ None
on-job p playback None offset current = refl
on-job p playback (Some id) offset current = refl

by_hand : (p : PlayerState) (round : RoundState) (playback : Playback) (starts : Option ℕ) (offset : ℕ) → Effect p (player.starts_by_hand (record p { round = round }) playback starts offset)
by_hand p round playback None offset = Stays refl refl refl
by_hand p round playback (Some id) offset = Voids refl refl

of-next : (p : PlayerState) (entries : List Entry) (current : Option ℕ) → Effect p (steps.next_by p entries current).player
of-next p entries None = Stays refl refl refl
of-next p entries (Some id) =
    let f = ends.after_next p.modes p.round entries id in
    Voids (on-jobs (steps.behind p f) Play (ends.id_of f.entry) 0 f.current) (on-job (steps.behind p f) Play (ends.id_of f.entry) 0 f.current)

of-previous : (p : PlayerState) (entries : List Entry) (current : Option ℕ) → Effect p (steps.previous_by p entries current)
of-previous p entries None = Stays refl refl refl
of-previous p entries (Some id) = by_hand p _ Play (ends.id_of (ends.before p.modes p.round entries id)) 0

of-found : (p : PlayerState) (entry : Option Entry) → Effect p (steps.start_found p Play entry)
of-found p None = Stays refl refl refl
of-found p (Some entry) = by_hand p _ Play (Some entry.id) 0

of-begin : (p : PlayerState) (entries : List Entry) (current : Option ℕ) → Effect p (steps.begin p entries current)
of-begin p entries None = by_hand p _ Play _ 0
of-begin p entries (Some id) = of-found p (entry_of entries id)

of-play : (p : PlayerState) (entries : List Entry) (playback : Playback) → Effect p (steps.play_by p entries playback)
of-play p entries Stop = of-begin p entries p.current
of-play p entries Play = Stays refl refl refl
of-play p entries Pause = Stays refl refl refl

-- one of two
either : (p q r : PlayerState) (b : Bool) → Effect p q → Effect p r → Effect p (cond b q r)
either p q r true h k = h
either p q r false h k = k

of-random : (p : PlayerState) (entries : List Entry) (on : Bool) → Effect p (steps.random p entries on)
of-random p entries true = either p p _ p.modes.random (Stays refl refl refl) (Stays refl refl refl)
of-random p entries false = either p _ p p.modes.random (Stays refl refl refl) (Stays refl refl refl)

of-removed : (p : PlayerState) (entries : List Entry) (from end : ℕ) → Effect p (steps.removed p entries from end)
of-removed p entries from end =
    let q : PlayerState = record p { round = ends.round_after_removal p.modes p.round entries from end } in
    let starts : Option ℕ = ends.id_of (ends.next_after_removal p.modes p.round entries from end) in
    either p (steps.goes_on_without p entries from end) (steps.without p entries from end) (steps.holds_current entries p.current from end)
    (either p _ _ (player.is_stopped p.playback) (Stays refl refl refl) (Voids (on-jobs q p.playback starts 0 None) (on-job q p.playback starts 0 None)))
    (Stays refl refl refl)

-- a song ends by itself
of-ended : (p : PlayerState) (entries : List Entry) (id accepted offset : ℕ) → Effect p (steps.ended (record p { offset = accepted }) entries id offset).player
of-ended p entries id accepted offset =
    let f = ends.after_end p.modes p.round entries id in
    let q : PlayerState = steps.behind (record p { offset = accepted }) f in
    Voids (on-jobs q p.playback (ends.id_of f.entry) offset f.current) (on-job q p.playback (ends.id_of f.entry) offset f.current)

-- two players with the same numbers: cuts, jobs, starts, and their limit
abbrev pub SameNumbers : PlayerState → PlayerState → Type 0
SameNumbers p q = (q.cuts ≡ p.cuts) × (q.jobs ≡ p.jobs) × (q.starts ≡ p.starts) × (q.max_cut ≡ p.max_cut)

pub checked-numbers : (p : PlayerState) (next : Option Entry) (fade : Option Fade) → SameNumbers p (decoding.checked p next fade)
checked-numbers p next None = (refl, refl, refl, refl)
checked-numbers p next (Some fade) = elim (decoding.is_entry_with next fade.partner) as (λ v. SameNumbers p (cond v p (player.given_up p))) [ true ↦ (refl, refl, refl, refl) | false ↦ (refl, refl, refl, refl) ]

pub faded-numbers : (rate : ℕ) (p : PlayerState) (entry : Entry) (next : Option Entry) → SameNumbers p (decoding.faded rate p entry next)
faded-numbers rate p entry None = (refl, refl, refl, refl)
faded-numbers rate p entry (Some next) =
    let fading : PlayerState = record p { fade = Some (record { partner = next.id; len = decoding.fade_len rate p.crossfade (entry.song.frames - p.offset) next }) } in
    elim (decoding.can_fade p entry next && nat_le (decoding.fade_offset rate p entry next) p.offset) as (λ v. SameNumbers p (cond v fading p)) [ true ↦ (refl, refl, refl, refl) | false ↦ (refl, refl, refl, refl) ]

-- a job is asked for
of-job : (rate : ℕ) (p : PlayerState) (entry : Entry) (next : Option Entry) → Effect p (decoding.job_for rate p entry next).stepped.player
of-job rate p entry next =
    let q : PlayerState = decoding.checked p next p.fade in
    let c = checked-numbers p next p.fade in
    let f = faded-numbers rate q entry next in
    let jobs : (decoding.faded rate q entry next).jobs + 1 ≡ p.jobs + 1 = ap (λ (n : ℕ). n + 1) (f.1 ∙ c.1) in
    Asks _ (f.0 ∙ c.0) jobs refl jobs

of-want_at : (rate : ℕ) (p : PlayerState) (entries : List Entry) (id : ℕ) (entry : Option Entry) → Effect p (decoding.want_at rate p entries id entry).stepped.player
of-want_at rate p entries id None = Stays refl refl refl
of-want_at rate p entries id (Some entry) =
    elim (nat_le entry.song.frames p.offset) as (λ v. Effect p (cond v (record { stepped = steps.ended p entries id 0; job = None }) (decoding.job_for rate p entry (ends.peek p.modes p.round entries id))).stepped.player) [
      | true ↦ of-ended p entries id p.offset 0
      | false ↦ of-job rate p entry (ends.peek p.modes p.round entries id)
    ]

of-want_of : (rate : ℕ) (p : PlayerState) (entries : List Entry) (current : Option ℕ) → Effect p (decoding.want_of rate p entries current).stepped.player
of-want_of rate p entries None = Stays refl refl refl
of-want_of rate p entries (Some id) = of-want_at rate p entries id (entry_of entries id)

of-want : (rate : ℕ) (p : PlayerState) (entries : List Entry) (enabled owes : Bool) → Effect p (decoding.want rate p entries enabled owes).stepped.player
of-want rate p entries enabled owes =
    elim (player.is_playing p.playback && enabled && not owes) as (λ v. Effect p (cond v (decoding.want_of rate p entries p.current) (decoding.nothing p)).stepped.player) [
      | true ↦ of-want_of rate p entries p.current
      | false ↦ Stays refl refl refl
    ]

of-accepted : (p : PlayerState) (entries : List Entry) (job : Job) (count : ℕ) → Effect p (decoding.accepted p entries job count).player
of-accepted p entries job count =
    elim (decoding.is_last p entries job count) as (λ v. Effect p (cond v (steps.ended (record p { offset = p.offset + count }) entries job.id (decoding.mixed job.fade count)) (player.stays (record p { offset = p.offset + count; job = None }))).player) [
      | true ↦ of-ended p entries job.id (p.offset + count) (decoding.mixed job.fade count)
      | false ↦ Voids refl refl
    ]

of-have : (p : PlayerState) (entries : List Entry) (job : Option Job) (number count : ℕ) → Effect p (decoding.have_of p entries job number count).stepped.player
of-have p entries None number count = Stays refl refl refl
of-have p entries (Some job) number count =
    let fed : decoding.Had = record { stepped = decoding.accepted p entries job count; feed = Some p.cuts } in
    let lost : Bool = decoding.has_lost_partner job.fade (steps.peek p entries) in
    elim (decoding.answers job number count) as (λ v. Effect p (cond v (cond lost (decoding.stale (player.given_up p)) fed) (decoding.stale p)).stepped.player) [
      | true ↦ elim lost as (λ v. Effect p (cond v (decoding.stale (player.given_up p)) fed).stepped.player) [ true ↦ Voids refl refl | false ↦ of-accepted p entries job count ]
      | false ↦ Stays refl refl refl
    ]

of-failed : (p : PlayerState) (entries : List Entry) (job : Option Job) (number : ℕ) (of_partner : Bool) → Effect p (decoding.failed_of p entries job number of_partner)
of-failed p entries None number of_partner = Stays refl refl refl
of-failed p entries (Some job) number of_partner =
    either p _ p (job.number == number)
    (either p _ (decoding.unread p entries job.id) of_partner (either p (player.given_up p) p (is_some job.fade) (Voids refl refl) (Stays refl refl refl)) (Voids refl refl))
    (Stays refl refl refl)

pub of-event : (p : PlayerState) (event : Event) → Effect p (after p event)
of-event p (laws.Next entries) = of-next p entries p.current
of-event p (laws.Previous entries) = of-previous p entries p.current
of-event p (laws.Play entries) = of-play p entries p.playback
of-event p (laws.PlayEntry entry) = by_hand p _ Play (Some entry.id) 0
of-event p (laws.Seek entry frame) = either p _ _ (steps.is_current p.current entry.id) (Voids refl refl) (by_hand p _ (player.playing_or_paused p.playback) (Some entry.id) _)
of-event p laws.Stop = either p p _ (player.is_stopped p.playback) (Stays refl refl refl) (Voids refl refl)
of-event p (laws.Pause on) = either p p _ (player.is_stopped p.playback) (Stays refl refl refl) (Stays refl refl refl)
of-event p laws.TogglePause = either p p _ (player.is_stopped p.playback) (Stays refl refl refl) (Stays refl refl refl)
of-event p (laws.SetRandom entries on) = of-random p entries on
of-event p (laws.SetRepeat on) = Stays refl refl refl
of-event p (laws.SetSingle single) = Stays refl refl refl
of-event p (laws.SetConsume consume) = Stays refl refl refl
of-event p (laws.SetCrossfade seconds) = Stays refl refl refl
of-event p laws.ClearError = Stays refl refl refl
of-event p (laws.Insert q songs) = Stays refl refl refl
of-event p (laws.Remove entries from end) = of-removed p entries from end
of-event p (laws.Want rate entries enabled owes) = of-want rate p entries enabled owes
of-event p (laws.Have entries number count) = of-have p entries p.job number count
of-event p (laws.Failed entries number of_partner) = of-failed p entries p.job number of_partner
