-- Over every run: frames of a job are fed once, and with the cut that was when they were asked for.
use Rattle.std.proofs.Common.{◌≡◌, ℕ, ◌+◌, ◌≤◌, Bool, true, false, ◌&&◌, not, nat_le, List, [], ◌∷◌, Option, Some, None, cond, refl, sym, ◌∙◌, subst, arith}
use Rattle.rand_pcg.specs.Lcg.{Lcg}
use Rattle.song_queue.specs.declared.entry.Entry.{Entry}
use Rattle.play_order.specs.Order.{entry_of}
use Rattle.play_order.specs.Ends as ends
use Rattle.player_core.specs.declared.state.Job.{Job}
use Rattle.player_core.specs.Player as player
use Rattle.player_core.specs.Player.{PlayerState, opened}
use Rattle.player_core.specs.Steps as steps
use Rattle.player_core.specs.Decoding as decoding
use Rattle.player_core.specs.Laws as laws
use Rattle.player_core.specs.Laws.{Event, after, run, FeedsOnce, FeedsAsAsked}
use Rattle.player_core.proofs.Effects.{Effect, Stays, Voids, Asks, of-event, on-job, checked-numbers, faded-numbers}

-- whether a job has this number
abbrev HasNumber : Option Job → ℕ → Type 0
HasNumber None n = ⊥
HasNumber (Some job) n = job.number ≡ n

-- a number was given, and something is true of the cut while the job that has it is open
record Given (n : ℕ) (P : ℕ → Type 0) (p : PlayerState) : Type 0 where
  given : n ≤ p.jobs
  open_with : HasNumber p.job n → P p.cuts

-- the open job has a number that was given
abbrev Numbered : PlayerState → Type 0
Numbered p = (n : ℕ) → HasNumber p.job n → n ≤ p.jobs

none-numbered : (o : Option Job) (n : ℕ) → o ≡ None → HasNumber o n → ⊥
none-numbered None n e h = h
none-numbered (Some job) n e h = cc

number-of : (o : Option Job) (job : Job) (n : ℕ) → o ≡ Some job → HasNumber o n → job.number ≡ n
number-of None job n e h = absurd h
number-of (Some other) job n e h = cc

given-by : (n : ℕ) (P : ℕ → Type 0) (p q : PlayerState) → Given n P p → Effect p q → Given n P q
given-by n P p q h (Stays cuts jobs job) = record {
  given = omega (arith, h.given, jobs);
  open_with = λ k. subst P (sym cuts) (h.open_with (subst (λ (o : Option Job). HasNumber o n) job k));
}
given-by n P p q h (Voids jobs job) = record {
  given = omega (arith, h.given, jobs);
  open_with = λ k. absurd (none-numbered q.job n job k);
}
given-by n P p q h (Asks asked cuts jobs job number) = record {
  given = omega (arith, h.given, jobs);
  open_with = λ k. let same = number-of q.job asked n job k in absurd (omega (arith, h.given, number, same));
}

given-run : (n : ℕ) (P : ℕ → Type 0) (p : PlayerState) (events : List Event) → Given n P p → Given n P (run p events)
given-run n P p [] h = h
given-run n P p (event ∷ events) h = given-run n P (after p event) events (given-by n P p (after p event) h (of-event p event))

numbered-by : (p q : PlayerState) → Numbered p → Effect p q → Numbered q
numbered-by p q h (Stays cuts jobs job) = λ n k. let known = h n (subst (λ (o : Option Job). HasNumber o n) job k) in omega (arith, known, jobs)
numbered-by p q h (Voids jobs job) = λ n k. absurd (none-numbered q.job n job k)
numbered-by p q h (Asks asked cuts jobs job number) = λ n k. let same = number-of q.job asked n job k in omega (arith, jobs, number, same)

numbered-run : (p : PlayerState) (events : List Event) → Numbered p → Numbered (run p events)
numbered-run p [] h = h
numbered-run p (event ∷ events) h = numbered-run (after p event) events (numbered-by p (after p event) h (of-event p event))

-- what a have that feeds tells: the job's number, and the cut
record Feeds (p : PlayerState) (o : Option Job) (n cut : ℕ) : Type 0 where
  number : HasNumber o n
  same_cut : cut ≡ p.cuts

feeds-of : (p : PlayerState) (entries : List Entry) (o : Option Job) (n count cut : ℕ) → (decoding.have_of p entries o n count).feed ≡ Some cut → Feeds p o n cut
feeds-of p entries None n count cut h = cc
feeds-of p entries (Some job) n count cut h =
    let fed : decoding.Had = record { stepped = decoding.accepted p entries job count; feed = Some p.cuts } in
    let lost : Bool = decoding.has_lost_partner job.fade (steps.peek p entries) in
    elim (decoding.answers job n count) as (λ v. decoding.answers job n count ≡ v → (cond v (cond lost (decoding.stale (player.given_up p)) fed) (decoding.stale p)).feed ≡ Some cut → Feeds p (Some job) n cut) [
      | true ↦ λ e k.
          elim lost as (λ v. (cond v (decoding.stale (player.given_up p)) fed).feed ≡ Some cut → Feeds p (Some job) n cut) [ true ↦ λ m. cc | false ↦ λ m. record { number = grind (arith, e); same_cut = cc } ] k
      | false ↦ λ e k. cc
    ] refl h

-- what is fed leaves no job
accepted-job : (p : PlayerState) (entries : List Entry) (job : Job) (count : ℕ) → (decoding.accepted p entries job count).player.job ≡ None
accepted-job p entries job count =
    let offset : ℕ = decoding.mixed job.fade count in
    let at : PlayerState = record p { offset = p.offset + count } in
    let f = ends.after_end at.modes at.round entries job.id in
    elim (decoding.is_last p entries job count) as (λ v. (cond v (steps.ended at entries job.id offset) (player.stays (record p { offset = p.offset + count; job = None }))).player.job ≡ None) [
      | true ↦ on-job (steps.behind at f) at.playback (ends.id_of f.entry) offset f.current
      | false ↦ refl
    ]

left-of : (p : PlayerState) (entries : List Entry) (o : Option Job) (n count cut : ℕ) → (decoding.have_of p entries o n count).feed ≡ Some cut → (decoding.have_of p entries o n count).stepped.player.job ≡ None
left-of p entries None n count cut h = cc
left-of p entries (Some job) n count cut h =
    let fed : decoding.Had = record { stepped = decoding.accepted p entries job count; feed = Some p.cuts } in
    let lost : Bool = decoding.has_lost_partner job.fade (steps.peek p entries) in
    elim (decoding.answers job n count) as (λ v. (cond v (cond lost (decoding.stale (player.given_up p)) fed) (decoding.stale p)).feed ≡ Some cut → (cond v (cond lost (decoding.stale (player.given_up p)) fed) (decoding.stale p)).stepped.player.job ≡ None) [
      | true ↦ elim lost as (λ v. (cond v (decoding.stale (player.given_up p)) fed).feed ≡ Some cut → (cond v (decoding.stale (player.given_up p)) fed).stepped.player.job ≡ None) [ true ↦ λ e. refl | false ↦ λ e. accepted-job p entries job count ]
      | false ↦ λ e. cc
    ] h

-- the number of the last job never falls
jobs-rise : (p q : PlayerState) → Effect p q → p.jobs ≤ q.jobs
jobs-rise p q (Stays cuts jobs job) = omega (arith, jobs)
jobs-rise p q (Voids jobs job) = omega (arith, jobs)
jobs-rise p q (Asks asked cuts jobs job number) = omega (arith, jobs)

not-fed : (p : PlayerState) (entries : List Entry) (n count : ℕ) (feed : Option ℕ) → (decoding.have p entries n count).feed ≡ feed → (HasNumber p.job n → ⊥) → feed ≡ None
not-fed p entries n count None e h = refl
not-fed p entries n count (Some cut) e h = absurd (h (feeds-of p entries p.job n count cut e).number)

none-open : (max_cut : ℕ) (g : Lcg) → Numbered (opened max_cut g)
none-open max_cut g n k = absurd k

pub feeds_once : FeedsOnce
feeds_once max_cut g before entries number count cut fed between later more =
    let p : PlayerState = run (opened max_cut g) before in
    let q : PlayerState = after p (laws.Have entries number count) in
    let number_given : number ≤ p.jobs = numbered-run (opened max_cut g) before (none-open max_cut g) number (feeds-of p entries p.job number count cut fed).number in
    let rise : p.jobs ≤ q.jobs = jobs-rise p q (of-event p (laws.Have entries number count)) in
    let here : Given number (λ c. ⊥) q = record {
      given = omega (arith, number_given, rise);
      open_with = λ k. none-numbered q.job number (left-of p entries p.job number count cut fed) k;
    } in
    not-fed (run q between) later number more (decoding.have (run q between) later number more).feed refl (given-run number (λ c. ⊥) q between here).open_with

-- what a want that gives a job leaves
record Asked (p : PlayerState) (w : decoding.DueJob) (job : Job) : Type 0 where
  is_open : w.stepped.player.job ≡ Some job
  is_last : job.number ≡ w.stepped.player.jobs
  same_cuts : w.stepped.player.cuts ≡ p.cuts

asked-given : (p r : PlayerState) (made job : Job) → r.cuts ≡ p.cuts → (decoding.given r made).job ≡ Some job → Asked p (decoding.given r made) job
asked-given p r made job e h = record { is_open = h; is_last = cc; same_cuts = e }

asked-for : (rate : ℕ) (p : PlayerState) (entry : Entry) (next : Option Entry) (job : Job) → (decoding.job_for rate p entry next).job ≡ Some job → Asked p (decoding.job_for rate p entry next) job
asked-for rate p entry next job h =
    let q : PlayerState = decoding.checked p next p.fade in
    let r : PlayerState = decoding.faded rate q entry next in
    asked-given p r (decoding.job_of r entry (decoding.reach rate q entry next)) job ((faded-numbers rate q entry next).0 ∙ (checked-numbers p next p.fade).0) h

asked-at : (rate : ℕ) (p : PlayerState) (entries : List Entry) (id : ℕ) (entry : Option Entry) (job : Job) → (decoding.want_at rate p entries id entry).job ≡ Some job → Asked p (decoding.want_at rate p entries id entry) job
asked-at rate p entries id None job h = cc
asked-at rate p entries id (Some entry) job h =
    let ending : decoding.DueJob = record { stepped = steps.ended p entries id 0; job = None } in
    let asking : decoding.DueJob = decoding.job_for rate p entry (ends.peek p.modes p.round entries id) in
    elim (nat_le entry.song.frames p.offset) as (λ v. (cond v ending asking).job ≡ Some job → Asked p (cond v ending asking) job) [
      | true ↦ λ e. cc
      | false ↦ λ e. asked-for rate p entry (ends.peek p.modes p.round entries id) job e
    ] h

asked-of : (rate : ℕ) (p : PlayerState) (entries : List Entry) (current : Option ℕ) (job : Job) → (decoding.want_of rate p entries current).job ≡ Some job → Asked p (decoding.want_of rate p entries current) job
asked-of rate p entries None job h = cc
asked-of rate p entries (Some id) job h = asked-at rate p entries id (entry_of entries id) job h

asked-by : (rate : ℕ) (p : PlayerState) (entries : List Entry) (enabled owes : Bool) (job : Job) → (decoding.want rate p entries enabled owes).job ≡ Some job → Asked p (decoding.want rate p entries enabled owes) job
asked-by rate p entries enabled owes job h =
    elim (player.is_playing p.playback && enabled && not owes) as (λ v. (cond v (decoding.want_of rate p entries p.current) (decoding.nothing p)).job ≡ Some job → Asked p (cond v (decoding.want_of rate p entries p.current) (decoding.nothing p)) job) [
      | true ↦ λ e. asked-of rate p entries p.current job e
      | false ↦ λ e. cc
    ] h

pub feeds_as_asked : FeedsAsAsked
feeds_as_asked max_cut g before rate entries enabled owes job asked between later count cut fed =
    let p : PlayerState = run (opened max_cut g) before in
    let q : PlayerState = after p (laws.Want rate entries enabled owes) in
    let asks = asked-by rate p entries enabled owes job asked in
    let here : Given job.number (λ c. c ≡ p.cuts) q = record { given = omega (arith, asks.is_last); open_with = λ k. asks.same_cuts } in
    let feeds = feeds-of (run q between) later (run q between).job job.number count cut fed in
    feeds.same_cut ∙ (given-run job.number (λ c. c ≡ p.cuts) q between here).open_with feeds.number
