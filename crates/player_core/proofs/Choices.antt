-- What the steps of a player start, and what they leave, in the words of the rules.
use Rattle.std.proofs.Common.{◌≡◌, ◌≢◌, ◌⊎◌, inl, inr, ℕ, zero, suc, ◌+◌, ◌-◌, ◌<◌, ◌≤◌, Bool, true, false, ◌&&◌, not, nat_lt, nat_le, ◌==◌, List, [], ◌∷◌, ◌++◌, length, slice_get, Contains, Option, Some, None, is_none, cond, refl, ap, sym, ◌∙◌, subst, arith}
use Rattle.std.specs.Option.{unwrap_or}
use Rattle.std.proofs.lemmas.List.Elements.{Contains-push}
use Rattle.song_queue.specs.declared.entry.Entry.{Entry}
use Rattle.play_order.specs.declared.modes.Modes.{Modes}
use Rattle.play_order.specs.declared.modes.Single.{Single}
use Rattle.play_order.specs.declared.modes.Consume.{Consume}
use Rattle.play_order.specs.declared.modes.Single.TheVariants as single
use Rattle.play_order.specs.declared.modes.Consume.TheVariants as consume
use Rattle.play_order.specs.Draws.{RoundState, is_among, moved_last, others}
use Rattle.play_order.specs.Draws as draws
use Rattle.play_order.specs.Order as order
use Rattle.play_order.specs.Order.{begun, entry_of, left_by, entry_position, round_for}
use Rattle.play_order.specs.Ends as ends
use Rattle.play_order.specs.Ends.{Following, id_of, last_of, played_before}
use Rattle.play_order.specs.Choices.{AllWerePlayed, BecomesRound, EndsIn, Follows, FollowsBy, FollowsInQueue, FollowsInRound, ForgetsGone, HaveOwnIds, KeepsRound, left_after}
use Rattle.play_order.proofs.Choices.{opening-becomes, opening-first, opening-follows, ahead-follows, keeps, none-apart, nothing-ahead, rounds_forget_gone, among-last, chooses_unplayed, consumes_one, contains-among, entry-found, follows_positions, rounds_go_on, get-there, get-within, in-filter, last-among, not-left, of-filter, position-at}
use Rattle.play_order.proofs.Going.{without-none}
use Rattle.play_order.proofs.Firsts.{Distinct, distinct-from}
use Rattle.play_order.proofs.Ids.{among-moved_last, among-others}
use Rattle.player_core.specs.declared.state.Playback.{Playback}
use Rattle.player_core.specs.declared.state.Playback.TheVariants.{Stop, Play, Pause}
use Rattle.player_core.specs.Player as player
use Rattle.player_core.specs.Player.{PlayerState, Stepped}
use Rattle.player_core.specs.Steps as steps
use Rattle.player_core.specs.Choices.{NothingAhead, Opens, OpensWith, PeekForetells, PlayBegins, StartsAnew, Starts, Stops, ConsumesOnce, DeletionsGoOn, EndHasCause, EndsByRule, EndsStopForACause, GoesOn, GoesOnWithout, GoesPast, IsBefore, IsBeforeBy, IsPositionBefore, IsPlayedBefore, LeavesPlayed, NextByRule, NextGoesOn, PlayedAreQueued, PreviousByRule, PreviousConsumesNothing, SingleRepeats, SingleStops, StartsOrStops, StaysIfQueued, StaysStopped, StopsOnce, played_beside}
use Rattle.play_order.specs.Choices.FollowsInRound.{RoundIsOver}
use Rattle.player_core.specs.Choices.OpensWith.{FirstStarts, NothingStarts}
use Rattle.player_core.specs.Choices.NothingAhead.{PlayerStops, NeedsNewRound}
use Rattle.player_core.specs.Choices.StartsOrStops.{OneStarts, NoneStarts}
use Rattle.player_core.specs.Choices.SingleStops.{Once, WithoutRepeat, SongIsGone}
use Rattle.player_core.specs.Choices.EndHasCause.{OrderGoesOn, PlaysAgain, StopsBySingle}
use Rattle.player_core.specs.Choices.IsPositionBefore.{PositionBefore, LastPosition, SamePosition}
use Rattle.player_core.specs.Choices.IsPlayedBefore.{PlayedBefore, NoneBefore}

-- what follows, by whether the order is random
by-order : (modes : Modes) (round : RoundState) (entries left : List Entry) (position : ℕ) (o : Option Entry) → (modes.random ≡ true → FollowsInRound modes.repeat round left o)
    → (modes.random ≡ false → FollowsInQueue modes.repeat entries left position o) → Follows modes round entries left position o
by-order modes round entries left position o h k =
    elim (modes.random) as (λ v. modes.random ≡ v → FollowsBy v modes round entries left position o) [ true ↦ λ e. h e | false ↦ λ e. k e ] refl

follows-end : (modes : Modes) (round : RoundState) (entries : List Entry) (song : Entry) (position : ℕ) → HaveOwnIds entries → slice_get entries position ≡ Some song
    → Follows modes round entries (left_after modes.consume entries position) (position + 1) (ends.after_next modes round entries song.id).entry
follows-end modes round entries song position own at =
    by-order modes round entries (left_after modes.consume entries position) (position + 1) (ends.after_next modes round entries song.id).entry
    (λ r. chooses_unplayed.at_end modes round entries position song r own at) (λ r. follows_positions.at_end modes round entries position song r own at)

-- an entry that starts in random order is the last that was played
started-last : (modes : Modes) (round : RoundState) (id : ℕ) → modes.random ≡ true → EndsIn (order.started modes round id).played id
started-last modes round id h = (others id round.played, ap (λ (b : Bool). (cond b (record round { played = moved_last round.played id }) round).played) h)

-- what a step with a start or a stop leaves
starts-or-stops : (p : PlayerState) (modes : Modes) (round : RoundState) (playback : Playback) (frame : ℕ) (o : Option Entry) → modes.random ≡ p.modes.random
    → StartsOrStops p (player.goes_on (record p { modes = modes; round = begun modes round o }) playback (id_of o) frame None) playback frame o
starts-or-stops p modes round playback frame None same = NoneStarts (record { current = refl; playback = refl; starts = refl; job = refl; fade = refl })
starts-or-stops p modes round playback frame (Some e) same =
    OneStarts e (record {
      current = refl;
      playback = refl;
      offset = refl;
      starts = refl;
      error = refl;
      job = refl;
      fade = refl;
      played = λ r. started-last modes round e.id (same ∙ r);
    })

on-round : (p : PlayerState) (playback : Playback) (starts : Option ℕ) (offset : ℕ) (current : Option ℕ) → (player.goes_on p playback starts offset current).round ≡ p.round
on-round p playback None offset current = refl
on-round p playback (Some id) offset current = refl

goes : (p : PlayerState) (modes : Modes) (round : RoundState) (playback : Playback) (entries left : List Entry) (position frame : ℕ) (o : Option Entry) → modes.random ≡ p.modes.random
    → Follows p.modes p.round entries left position o
    → (p.modes.random ≡ true → BecomesRound p.round (begun modes round o) entries left o)
    → (p.modes.random ≡ false → ForgetsGone p.round (begun modes round o) entries left)
    → GoesOn p (player.goes_on (record p { modes = modes; round = begun modes round o }) playback (id_of o) frame None) playback entries left position frame
goes p modes round playback entries left position frame o same h k l =
    let after : (player.goes_on (record p { modes = modes; round = begun modes round o }) playback (id_of o) frame None).round ≡ begun modes round o =
    on-round (record p { modes = modes; round = begun modes round o }) playback (id_of o) frame None in
    record {
      entry = o;
      follows = h;
      starts = starts-or-stops p modes round playback frame o same;
      at_random = λ r. subst (λ (x : RoundState). BecomesRound p.round x entries left o) (sym after) (k r);
      in_order = λ r. subst (λ (x : RoundState). ForgetsGone p.round x entries left) (sym after) (l r);
    }

-- where the order is not random, a round stays as it is
plain-for : (modes : Modes) (rest : RoundState) (left : List Entry) → modes.random ≡ false → round_for modes rest left ≡ rest
plain-for modes rest left h =
    ap (λ (b : Bool). cond (b && is_none (order.first_of rest.ranks (order.unplayed rest.played left))) (draws.renewed rest (draws.ids_of left)) rest) h

plain-round : (modes other : Modes) (rest : RoundState) (left : List Entry) (o : Option Entry) → modes.random ≡ false → other.random ≡ false → begun other (round_for modes rest left) o ≡ rest
plain-round modes other rest left None h k = plain-for modes rest left h
plain-round modes other rest left (Some e) h k =
    ap (λ (b : Bool). cond b (record (round_for modes rest left) { played = moved_last (round_for modes rest left).played e.id }) (round_for modes rest left)) k ∙ plain-for modes rest left h

cut-starts : (p q : PlayerState) (playback : Playback) (frame : ℕ) (o : Option Entry) → StartsOrStops p q playback frame o → StartsOrStops p (player.cut q) playback frame o
cut-starts p q playback frame _ (OneStarts e s) =
    OneStarts e (record { current = s.current; playback = s.playback; offset = s.offset; starts = s.starts; error = s.error; job = s.job; fade = s.fade; played = s.played })
cut-starts p q playback frame _ (NoneStarts s) = NoneStarts (record { current = s.current; playback = s.playback; starts = s.starts; job = s.job; fade = s.fade })

goes-cut : (p q : PlayerState) (playback : Playback) (entries left : List Entry) (position frame : ℕ) → GoesOn p q playback entries left position frame → GoesOn p (player.cut q) playback entries left position frame
goes-cut p q playback entries left position frame h = record { entry = h.entry; follows = h.follows; starts = cut-starts p q playback frame h.entry h.starts; at_random = h.at_random; in_order = h.in_order }

on-modes : (p : PlayerState) (playback : Playback) (starts : Option ℕ) (offset : ℕ) (current : Option ℕ) → (player.goes_on p playback starts offset current).modes ≡ p.modes
on-modes p playback None offset current = refl
on-modes p playback (Some id) offset current = refl

on-cuts : (p : PlayerState) (playback : Playback) (starts : Option ℕ) (offset : ℕ) (current : Option ℕ) → (player.goes_on p playback starts offset current).cuts ≡ p.cuts
on-cuts p playback None offset current = refl
on-cuts p playback (Some id) offset current = refl

-- what was to act once
consume-stays : (c : Consume) → c ≢ consume.Oneshot → ends.consume_after c ≡ c
consume-stays consume.Off h = refl
consume-stays consume.On h = refl
consume-stays consume.Oneshot h = absurd (h refl)

single-stays : (s : Single) → s ≢ single.Oneshot → ends.single_after s ≡ s
single-stays single.Off h = refl
single-stays single.On h = refl
single-stays single.Oneshot h = absurd (h refl)

consumes-once : (modes after : Modes) → after.consume ≡ ends.consume_after modes.consume → after.repeat ≡ modes.repeat → after.random ≡ modes.random → ConsumesOnce modes after
consumes-once modes after c r n = record {
  once = λ h. c ∙ ap ends.consume_after h;
  consume = λ h. c ∙ consume-stays modes.consume h;
  repeat = r;
  random = n;
}

-- a song that has ended stays current, or is gone
stays-by : (c : Consume) (entries : List Entry) (song : Entry) (position : ℕ) → Distinct entries → slice_get entries position ≡ Some song → StaysIfQueued (left_after c entries position) song (cond (ends.consumes c) None (Some song.id))
stays-by consume.Off entries song position d at = record { queued = λ h. refl; gone = λ h. absurd (h (get-there entries position song at)) }
stays-by consume.On entries song position d at = record { queued = λ h. absurd (not-left entries position song d at h); gone = λ h. refl }
stays-by consume.Oneshot entries song position d at = record { queued = λ h. absurd (not-left entries position song d at h); gone = λ h. refl }

off-by : (c : Consume) → ends.consumes c ≡ false → c ≡ consume.Off
off-by consume.Off h = refl
off-by consume.On h = cc
off-by consume.Oneshot h = cc

-- single plays a song again, or stops
data Again (modes : Modes) (song : Entry) : Option Entry → Type 0 where
  Plays : SingleRepeats modes → Again modes song (Some song)
  Ceases : SingleStops modes → Again modes song None

again-by : (modes : Modes) (entries : List Entry) (song : Entry) → modes.single ≡ single.On → entry_of entries song.id ≡ Some song → Again modes song (ends.again modes entries song.id)
again-by modes entries song on found =
    elim (modes.repeat) as (λ v. modes.repeat ≡ v → Again modes song (cond (v && not (ends.consumes modes.consume)) (entry_of entries song.id) None)) [
      | true ↦ λ r. elim (ends.consumes modes.consume) as (λ v. ends.consumes modes.consume ≡ v → Again modes song (cond (true && not v) (entry_of entries song.id) None)) [
        | true ↦ λ g. Ceases (SongIsGone on (λ off. let lost : true ≡ false = sym g ∙ ap ends.consumes off in cc))
        | false ↦ λ g. subst (λ (o : Option Entry). Again modes song o) (sym found) (Plays (record { single = on; repeat = r; consume = off-by modes.consume g }))
      ] refl
      | false ↦ λ r. Ceases (WithoutRepeat on r)
    ] refl

-- a song that plays again stays in its round
kept-again : (p : PlayerState) (modes : Modes) (entries : List Entry) (song : Entry) (position : ℕ) → SingleRepeats p.modes → modes.random ≡ true → Contains entries song
    → KeepsRound p.round (begun modes (ends.round_left p.modes p.round song.id) (Some song)) entries (left_after p.modes.consume entries position) song
kept-again p modes entries song position h random here =
    let rest : ends.round_left p.modes p.round song.id ≡ p.round = ap (λ (c : Consume). cond (ends.consumes c) (draws.without p.round (song.id ∷ [])) p.round) h.consume in
    let left : left_after p.modes.consume entries position ≡ entries = ap (λ (c : Consume). left_after c entries position) h.consume in
    let round : RoundState = record p.round { played = moved_last p.round.played song.id } in
    let after : begun modes (ends.round_left p.modes p.round song.id) (Some song) ≡ round =
    ap (λ (r : RoundState). order.started modes r song.id) rest ∙ ap (λ (b : Bool). cond b round p.round) random in
    let kept : KeepsRound p.round round entries entries song =
    subst (λ (r : RoundState). KeepsRound p.round (record r { played = moved_last r.played song.id }) entries entries song) (without-none p.round) (keeps p.round [] entries entries song (none-apart entries) (λ x there new. there) here) in
    subst (λ (r : RoundState). KeepsRound p.round r entries (left_after p.modes.consume entries position) song) (sym after) (subst (λ (xs : List Entry). KeepsRound p.round round entries xs song) (sym left) kept)

stays-again : (p : PlayerState) (modes : Modes) (song : Entry) → SingleRepeats p.modes → modes.random ≡ false → begun modes (ends.round_left p.modes p.round song.id) (Some song) ≡ p.round
stays-again p modes song h order =
    let rest : RoundState = ends.round_left p.modes p.round song.id in
    ap (λ (b : Bool). cond b (record rest { played = moved_last rest.played song.id }) rest) order ∙ ap (λ (c : Consume). cond (ends.consumes c) (draws.without p.round (song.id ∷ [])) p.round) h.consume

again-goes : (p : PlayerState) (modes : Modes) (entries : List Entry) (song : Entry) (position frame : ℕ) (current : Option ℕ) (o : Option Entry) → modes.random ≡ p.modes.random → HaveOwnIds entries
    → slice_get entries position ≡ Some song → Again p.modes song o → StaysIfQueued (left_after p.modes.consume entries position) song current
    → EndHasCause p (player.goes_on (record p { modes = modes; round = begun modes (ends.round_left p.modes p.round song.id) o }) p.playback (id_of o) frame current) entries (left_after p.modes.consume entries position) song position frame
again-goes p modes entries song position frame current _ same own at (Plays h) k =
    PlaysAgain h
    (record {
      current = refl;
      playback = refl;
      offset = refl;
      starts = refl;
      error = refl;
      job = refl;
      fade = refl;
      played = λ r. started-last modes (ends.round_left p.modes p.round song.id) song.id (same ∙ r);
    })
    (λ r. kept-again p modes entries song position h (same ∙ r) (get-there entries position song at))
    (λ r. stays-again p modes song h (same ∙ r))
again-goes p modes entries song position frame current _ same own at (Ceases h) k =
    StopsBySingle current h k (record { current = refl; playback = refl; starts = refl; job = refl; fade = refl }) (rounds_forget_gone.consumed p.modes p.round entries position song own at)

-- a song ends by itself
abbrev ended-by : PlayerState → ℕ → Following → Stepped
ended-by p frame f = record { player = player.goes_on (steps.behind p f) p.playback (id_of f.entry) frame f.current; edit = Some f.left }

rule : (p : PlayerState) (entries : List Entry) (song : Entry) (position frame : ℕ) (f : Following)
    → f.left ≡ left_after p.modes.consume entries position
    → ConsumesOnce p.modes f.modes
    → StopsOnce p.modes f.modes
    → EndHasCause p (ended-by p frame f).player entries (left_after p.modes.consume entries position) song position frame
    → EndsByRule p entries song position frame (ended-by p frame f)
rule p entries song position frame f left c s cause =
    let modes : (ended-by p frame f).player.modes ≡ f.modes = on-modes (steps.behind p f) p.playback (id_of f.entry) frame f.current in
    record {
      queue = ap Some left;
      consume = subst (λ (m : Modes). ConsumesOnce p.modes m) (sym modes) c;
      single = subst (λ (m : Modes). StopsOnce p.modes m) (sym modes) s;
      cuts = on-cuts (steps.behind p f) p.playback (id_of f.entry) frame f.current;
      cause = cause;
    }

forgets-end : (p : PlayerState) (modes : Modes) (entries : List Entry) (song : Entry) (position : ℕ) (o : Option Entry) → p.modes.random ≡ false → modes.random ≡ false → HaveOwnIds entries
    → slice_get entries position ≡ Some song
    → ForgetsGone p.round (begun modes (round_for p.modes (ends.round_left p.modes p.round song.id) (ends.entries_left p.modes entries song.id)) o) entries (left_after p.modes.consume entries position)
forgets-end p modes entries song position o h k own at =
    subst (λ (r : RoundState). ForgetsGone p.round r entries (left_after p.modes.consume entries position))
    (sym (plain-round p.modes modes (ends.round_left p.modes p.round song.id) (ends.entries_left p.modes entries song.id) o h k)) (rounds_forget_gone.consumed p.modes p.round entries position song own at)

ends-by : (p : PlayerState) (entries : List Entry) (song : Entry) (position frame : ℕ) → HaveOwnIds entries → slice_get entries position ≡ Some song → (s : Single) → p.modes.single ≡ s
    → EndsByRule p entries song position frame (ended-by p frame (ends.end_by s p.modes p.round entries song.id))
ends-by p entries song position frame own at single.Off e =
    let f : Following = ends.in_order p.modes p.round entries song.id in
    rule p entries song position frame f (consumes_one p.modes p.round entries position song own at) (consumes-once p.modes f.modes refl refl refl)
    (record { once = λ h. e; single = λ h. refl })
    (OrderGoesOn e
    (goes p f.modes f.round p.playback entries (left_after p.modes.consume entries position) (position + 1) frame f.entry refl (follows-end p.modes p.round entries song position own at)
    (λ r. rounds_go_on.at_end p.modes p.round entries position song r own at)
    (λ r. forgets-end p f.modes entries song position f.entry r r own at)))
ends-by p entries song position frame own at single.On e =
    let f : Following = ends.alone p.modes p.round entries song.id (ends.again p.modes entries song.id) in
    let d : Distinct entries = distinct-from entries own in
    rule p entries song position frame f (consumes_one p.modes p.round entries position song own at) (consumes-once p.modes f.modes refl refl refl)
    (record { once = λ h. ap ends.single_after h; single = λ h. single-stays p.modes.single h })
    (again-goes p f.modes entries song position frame f.current f.entry refl own at (again-by p.modes entries song e (entry-found entries song d (get-there entries position song at)))
    (stays-by p.modes.consume entries song position d at))
ends-by p entries song position frame own at single.Oneshot e =
    let f : Following = ends.alone p.modes p.round entries song.id None in
    let d : Distinct entries = distinct-from entries own in
    rule p entries song position frame f (consumes_one p.modes p.round entries position song own at) (consumes-once p.modes f.modes refl refl refl)
    (record { once = λ h. ap ends.single_after h; single = λ h. single-stays p.modes.single h })
    (again-goes p f.modes entries song position frame f.current None refl own at (Ceases (Once e)) (stays-by p.modes.consume entries song position d at))

pub ends_stop_for_a_cause : EndsStopForACause
ends_stop_for_a_cause p entries song position frame own at = ends-by p entries song position frame own at p.modes.single refl

-- a song ends by `next`
next-by : (p : PlayerState) (entries : List Entry) (song : Entry) (position : ℕ) → HaveOwnIds entries → slice_get entries position ≡ Some song → NextByRule p entries position (steps.next_by p entries (Some song.id))
next-by p entries song position own at =
    let f : Following = ends.after_next p.modes p.round entries song.id in
    let q : PlayerState = player.goes_on (steps.behind p f) Play (id_of f.entry) 0 f.current in
    let modes : q.modes ≡ f.modes = on-modes (steps.behind p f) Play (id_of f.entry) 0 f.current in
    record {
      queue = ap Some (consumes_one p.modes p.round entries position song own at);
      consume = subst (λ (m : Modes). ConsumesOnce p.modes m) (sym modes) (consumes-once p.modes f.modes refl refl refl);
      single = ap (λ (m : Modes). m.single) modes;
      cuts = ap (λ (n : ℕ). n + 1) (on-cuts (steps.behind p f) Play (id_of f.entry) 0 f.current);
      goes_on = goes-cut p q Play entries (left_after p.modes.consume entries position) (position + 1) 0
          (goes p f.modes f.round Play entries (left_after p.modes.consume entries position) (position + 1) 0 f.entry refl (follows-end p.modes p.round entries song position own at)
          (λ r. rounds_go_on.at_end p.modes p.round entries position song r own at)
          (λ r. forgets-end p f.modes entries song position f.entry r r own at));
    }

pub next_goes_on : NextGoesOn
next_goes_on = record {
  song = λ p entries song position own at current. subst (λ (o : Option ℕ). NextByRule p entries position (steps.next_by p entries o)) (sym current) (next-by p entries song position own at);
  no_song = λ p entries current. ap (steps.next_by p entries) current;
}

-- the last of some ids
last-of : (ids : List ℕ) (id : ℕ) → last_of ids ≡ Some id → EndsIn ids id
last-of [] id h = cc
last-of (x ∷ []) id h = let e : x ≡ id = cc in ([], ap (λ (y : ℕ). y ∷ []) e)
last-of (x ∷ y ∷ more) id h = let r = last-of (y ∷ more) id h in (x ∷ r.0, ap (λ (ids : List ℕ). x ∷ ids) r.1)

none-last : (ids : List ℕ) → last_of ids ≡ None → ids ≡ []
none-last [] h = refl
none-last (x ∷ []) h = cc
none-last (x ∷ y ∷ more) h = let none : y ∷ more ≡ [] = none-last (y ∷ more) h in cc

ends-there : (ids earlier : List ℕ) (id : ℕ) → ids ≡ earlier ++ id ∷ [] → Contains ids id
ends-there ids earlier id e = subst (λ (xs : List ℕ). Contains xs id) (sym e) (Contains-push earlier id)

-- what `previous` goes back to
data Back (p : PlayerState) (entries : List Entry) (song : Entry) (position : ℕ) : Option Entry → Type 0 where
  To : (entry : Entry) → IsBefore p entries song position entry → Back p entries song position (Some entry)

in-round : (p : PlayerState) (entries : List Entry) (song : Entry) (position : ℕ) (entry : Entry) → p.modes.random ≡ true → IsPlayedBefore p.round.played entries song entry → IsBefore p entries song position entry
in-round p entries song position entry random h = subst (λ (b : Bool). IsBeforeBy b p entries song position entry) (sym random) h

in-queue : (p : PlayerState) (entries : List Entry) (song : Entry) (position : ℕ) (entry : Entry) → p.modes.random ≡ false → IsPositionBefore p.modes.repeat entries position entry → IsBefore p entries song position entry
in-queue p entries song position entry order h = subst (λ (b : Bool). IsBeforeBy b p entries song position entry) (sym order) h

back-played : (p : PlayerState) (entries : List Entry) (song : Entry) (position id : ℕ) → p.modes.random ≡ true → Distinct entries → EndsIn (played_beside p.round.played song.id) id
    → (entry : Entry) × Contains entries entry × (entry.id ≡ id) → Back p entries song position (entry_of entries id)
back-played p entries song position id random d last (entry, there, e) =
    let found : entry_of entries id ≡ Some entry = ap (entry_of entries) (sym e) ∙ entry-found entries entry d there in
    subst (λ (o : Option Entry). Back p entries song position o) (sym found)
    (To entry (in-round p entries song position entry random (PlayedBefore there (subst (λ (n : ℕ). EndsIn (played_beside p.round.played song.id) n) (sym e) last))))

back-random : (p : PlayerState) (entries : List Entry) (song : Entry) (position : ℕ) → p.modes.random ≡ true → Distinct entries → PlayedAreQueued p.round.played entries → Contains entries song
    → Back p entries song position (entry_of entries (unwrap_or (last_of (played_before p.round song.id)) song.id))
back-random p entries song position random d queued there =
    elim (last_of (played_before p.round song.id)) as (λ o. last_of (played_before p.round song.id) ≡ o → Back p entries song position (entry_of entries (unwrap_or o song.id))) [
      | None ↦ λ e. subst (λ (o : Option Entry). Back p entries song position o) (sym (entry-found entries song d there)) (To song (in-round p entries song position song random (NoneBefore (none-last (played_before p.round song.id) e) refl)))
      | Some id ↦ λ e.
          let last = last-of (played_before p.round song.id) id e in
          let played : Contains p.round.played id = (of-filter (λ other. not (other == song.id)) p.round.played id (ends-there (played_before p.round song.id) last.0 id last.1)).0 in
          back-played p entries song position id random d last (queued id played)
    ] refl

get-inside : (entries : List Entry) (n : ℕ) → n < length entries → slice_get entries n ≡ None → ⊥
get-inside [] n l e = omega (arith, l)
get-inside (x ∷ entries) zero l e = cc
get-inside (x ∷ entries) (suc n) l e = get-inside entries n (omega (arith, l)) e

some-at : (p : PlayerState) (entries : List Entry) (song : Entry) (position n : ℕ) → n < length entries → ((entry : Entry) → slice_get entries n ≡ Some entry → IsBefore p entries song position entry)
    → Back p entries song position (slice_get entries n)
some-at p entries song position n l h =
    elim (slice_get entries n) as (λ o. slice_get entries n ≡ o → Back p entries song position o) [ None ↦ λ e. absurd (get-inside entries n l e) | Some entry ↦ λ e. To entry (h entry e) ] refl

back-last : (p : PlayerState) (entries : List Entry) (song : Entry) → p.modes.random ≡ false → p.modes.repeat ≡ true → 0 < length entries → Back p entries song 0 (slice_get entries (length entries - 1))
back-last p entries song order r l =
    some-at p entries song 0 (length entries - 1) (omega (arith, l)) (λ entry e. in-queue p entries song 0 entry order (LastPosition (length entries - 1) refl r (omega (arith, l)) e))

back-one : (p : PlayerState) (entries : List Entry) (song : Entry) (k : ℕ) → p.modes.random ≡ false → suc k < length entries → Back p entries song (suc k) (slice_get entries (ends.position_before p.modes.repeat entries (suc k)))
back-one p entries song k order l =
    let more : (suc k == 0) ≡ false = grind arith in
    let one : ends.position_before p.modes.repeat entries (suc k) ≡ k = ap (λ (b : Bool). cond (b && p.modes.repeat) (length entries - 1) (suc k - 1)) more ∙ omega arith in
    subst (λ (n : ℕ). Back p entries song (suc k) (slice_get entries n)) (sym one)
    (some-at p entries song (suc k) k (omega (arith, l)) (λ entry e. in-queue p entries song (suc k) entry order (PositionBefore k (omega arith) e)))

back-position : (p : PlayerState) (entries : List Entry) (song : Entry) (position : ℕ) → p.modes.random ≡ false → slice_get entries position ≡ Some song
    → Back p entries song position (slice_get entries (ends.position_before p.modes.repeat entries position))
back-position p entries song zero order at =
    elim (p.modes.repeat) as (λ v. p.modes.repeat ≡ v → Back p entries song 0 (slice_get entries (ends.position_before v entries 0))) [
      | true ↦ λ r. back-last p entries song order r (get-within entries 0 song at)
      | false ↦ λ r. subst (λ (o : Option Entry). Back p entries song 0 o) (sym at) (To song (in-queue p entries song 0 song order (SamePosition refl r at)))
    ] refl
back-position p entries song (suc k) order at = back-one p entries song k order (get-within entries (suc k) song at)

back : (p : PlayerState) (entries : List Entry) (song : Entry) (position : ℕ) → Distinct entries → PlayedAreQueued p.round.played entries → slice_get entries position ≡ Some song
    → Back p entries song position (ends.before p.modes p.round entries song.id)
back p entries song position d queued at =
    let here : entry_position entries song.id ≡ position = position-at entries position song d at in
    elim (p.modes.random) as (λ v. p.modes.random ≡ v → Back p entries song position (cond v (entry_of entries (unwrap_or (last_of (played_before p.round song.id)) song.id)) (slice_get entries (ends.position_before p.modes.repeat entries (entry_position entries song.id))))) [
      | true ↦ λ r. back-random p entries song position r d queued (get-there entries position song at)
      | false ↦ λ r. subst (λ (n : ℕ). Back p entries song position (slice_get entries (ends.position_before p.modes.repeat entries n))) (sym here) (back-position p entries song position r at)
    ] refl

-- the song that is left is played no more, but where it starts again
not-played : (played : List ℕ) (id other : ℕ) → other ≢ id → Contains (moved_last (others id played) other) id → ⊥
not-played played id other differ there =
    let apart : (other == id) ≡ false = grind (arith, differ) in
    let self : (id == id) ≡ true = grind arith in
    let none : is_among id (moved_last (others id played) other) ≡ false =
    among-moved_last id other (others id played) ∙ ap (λ (b : Bool). cond b true (is_among id (others id played))) apart ∙ among-others id id played ∙ ap (λ (b : Bool). cond b false (is_among id played)) self in
    let some : is_among id (moved_last (others id played) other) ≡ true = contains-among (moved_last (others id played) other) id there in
    let lost : true ≡ false = sym some ∙ none in
    cc

-- the round when `previous` has started an entry
back-round : (modes : Modes) (round : RoundState) (song entry : Entry) → modes.random ≡ true
    → record round { played = moved_last (others song.id round.played) entry.id } ≡ begun modes (ends.round_before modes round song.id) (Some entry)
back-round modes round song entry random =
    let rest : RoundState = record round { played = others song.id round.played } in
    sym (ap (λ (b : Bool). cond b (record rest { played = moved_last rest.played entry.id }) rest) random) ∙ sym (ap (λ (r : RoundState). order.started modes r entry.id) (ap (λ (b : Bool). cond b rest round) random))

-- the entry that starts was played, or is the song
was-played : (played : List ℕ) (entries : List Entry) (song entry : Entry) (id : ℕ) → IsPlayedBefore played entries song entry → id ≢ song.id → Contains (others song.id played) id ⊎ (id ≡ entry.id) → Contains played id
was-played played entries song entry id h differ (inl there) = (of-filter (λ other. not (other == song.id)) played id there).0
was-played played entries song entry id (PlayedBefore there last) differ (inr same) =
    subst (λ (n : ℕ). Contains played n) (sym same) (of-filter (λ other. not (other == song.id)) played entry.id (ends-there (played_beside played song.id) last.0 entry.id last.1)).0
was-played played entries song entry id (NoneBefore none same) differ (inr e) = absurd (differ (e ∙ sym (ap (λ (x : Entry). x.id) same)))

still-played : (played : List ℕ) (song entry id : ℕ) → id ≢ song → Contains played id → Contains (moved_last (others song played) entry) id
still-played played song entry id differ h =
    let apart : not (id == song) ≡ true = grind (arith, differ) in
    last-among id entry (others song played) (inl (in-filter (λ other. not (other == song)) played id apart h))

leaves-played : (p : PlayerState) (entries : List Entry) (song : Entry) (position : ℕ) (entry : Entry) (after : PlayerState) → p.modes.random ≡ true → IsBefore p entries song position entry
    → after.round ≡ begun p.modes (ends.round_before p.modes p.round song.id) (Some entry) → LeavesPlayed p after song entry
leaves-played p entries song position entry after random h e =
    let round : RoundState = record p.round { played = moved_last (others song.id p.round.played) entry.id } in
    let same : after.round ≡ round = e ∙ sym (back-round p.modes p.round song entry random) in
    let back : IsPlayedBefore p.round.played entries song entry = subst (λ (b : Bool). IsBeforeBy b p entries song position entry) random h in
    record {
      leaves = λ differ there. not-played p.round.played song.id entry.id differ (subst (λ (r : RoundState). Contains r.played song.id) same there);
      others = λ id differ. (
        λ there. was-played p.round.played entries song entry id back differ (among-last id entry.id (others song.id p.round.played) (subst (λ (r : RoundState). Contains r.played id) same there)),
        λ there. subst (λ (r : RoundState). Contains r.played id) (sym same) (still-played p.round.played song.id entry.id id differ there),
      );
      ranks = ap (λ (r : RoundState). r.ranks) same;
      generator = ap (λ (r : RoundState). r.generator) same;
    }

same-round : (modes : Modes) (round : RoundState) (song entry : Entry) → modes.random ≡ false → begun modes (ends.round_before modes round song.id) (Some entry) ≡ round
same-round modes round song entry random =
    let back : RoundState = ends.round_before modes round song.id in
    ap (λ (b : Bool). cond b (record back { played = moved_last back.played entry.id }) back) random ∙ ap (λ (b : Bool). cond b (record round { played = played_before round song.id }) round) random

gone-back : (p : PlayerState) (entries : List Entry) (song : Entry) (position : ℕ) (o : Option Entry) → Back p entries song position o
    → PreviousByRule p entries song position (player.starts_by_hand (record p { round = begun p.modes (ends.round_before p.modes p.round song.id) o }) Play (id_of o) 0)
gone-back p entries song position _ (To entry h) =
    record {
      entry = entry;
      is_before = h;
      starts = record {
        current = refl;
        playback = refl;
        offset = refl;
        starts = refl;
        error = refl;
        job = refl;
        fade = refl;
        played = λ r. started-last p.modes (ends.round_before p.modes p.round song.id) entry.id r;
      };
      played = λ r. leaves-played p entries song position entry (player.starts_by_hand (record p { round = begun p.modes (ends.round_before p.modes p.round song.id) (Some entry) }) Play (Some entry.id) 0) r h refl;
      round = λ r. same-round p.modes p.round song entry r;
      cuts = refl;
      modes = refl;
    }

pub previous_consumes_nothing : PreviousConsumesNothing
previous_consumes_nothing = record {
  song = λ p entries song position own queued at current.
      subst (λ (o : Option ℕ). PreviousByRule p entries song position (steps.previous_by p entries o)) (sym current)
      (gone-back p entries song position (ends.before p.modes p.round entries song.id) (back p entries song position (distinct-from entries own) queued at));
  no_song = λ p entries current. ap (steps.previous_by p entries) current;
}

-- a deletion
goes-past : (p q : PlayerState) (entries : List Entry) (from end : ℕ) (b : Bool) → HaveOwnIds entries → from ≤ end → b ≡ false → GoesPast p (cond b q (steps.without p entries from end)) entries (left_by entries from end)
goes-past p q entries from end true own sorted h = cc
goes-past p q entries from end false own sorted h = record {
  round = rounds_forget_gone.deleted p.round entries from end own sorted;
  rest = refl;
}

is-outside : (n from end : ℕ) → (n < from) ⊎ (end ≤ n) → (nat_le from n && nat_lt n end) ≡ false
is-outside n from end (inl h) = grind (arith, h)
is-outside n from end (inr h) = grind (arith, h)

is-inside : (n from end : ℕ) → from ≤ n → n < end → (nat_le from n && nat_lt n end) ≡ true
is-inside n from end h k = grind (arith, h, k)

held : (p : PlayerState) (entries : List Entry) (song : Entry) (position from end : ℕ) (b : Bool) → Distinct entries → slice_get entries position ≡ Some song → p.current ≡ Some song.id
    → (nat_le from position && nat_lt position end) ≡ b → steps.holds_current entries p.current from end ≡ b
held p entries song position from end b d at current h =
    let here : entry_position entries song.id ≡ position = position-at entries position song d at in
    ap (λ (o : Option ℕ). steps.holds_current entries o from end) current ∙ ap (λ (n : ℕ). nat_le from n && nat_lt n end) here ∙ h

pub playing-on : (p : PlayerState) (entries : List Entry) (from end : ℕ) → HaveOwnIds entries → from ≤ end → end ≤ length entries → (b : Bool) → b ≡ false
    → GoesOnWithout p (cond b (record (steps.without p entries from end) { current = None }) (player.cut (player.goes_on (record p { round = ends.round_after_removal p.modes p.round entries from end }) p.playback (id_of (ends.next_after_removal p.modes p.round entries from end)) 0 None))) entries from end
playing-on p entries from end own sorted within true h = cc
playing-on p entries from end own sorted within false h =
    let next : Option Entry = ends.next_after_removal p.modes p.round entries from end in
    let left : List Entry = left_by entries from end in
    let round : RoundState = round_for p.modes (draws.without p.round (order.ids_taken entries from end)) left in
    let before : PlayerState = record p { round = begun p.modes round next } in
    let q : PlayerState = player.goes_on before p.playback (id_of next) 0 None in
    record {
      goes_on = goes-cut p q p.playback entries left end 0
          (goes p p.modes round p.playback entries left end 0 next refl
          (by-order p.modes p.round entries left end next (λ r. chooses_unplayed.at_removal p.modes p.round entries from end r own sorted) (λ r. follows_positions.at_removal p.modes p.round entries from end r sorted within))
          (λ r. rounds_go_on.at_removal p.modes p.round entries from end r own sorted)
          (λ r. subst (λ (x : RoundState). ForgetsGone p.round x entries left) (sym (plain-round p.modes p.modes (draws.without p.round (order.ids_taken entries from end)) left next r r)) (rounds_forget_gone.deleted p.round entries from end own sorted)));
      cuts = ap (λ (n : ℕ). n + 1) (on-cuts before p.playback (id_of next) 0 None);
      modes = on-modes before p.playback (id_of next) 0 None;
    }

is-going : (playback : Playback) → playback ≢ Stop → player.is_stopped playback ≡ false
is-going Stop h = absurd (h refl)
is-going Play h = refl
is-going Pause h = refl

pub deletions_go_on : DeletionsGoOn
deletions_go_on = record {
  outside = λ p entries song position from end own at current sorted apart.
      goes-past p (steps.goes_on_without p entries from end) entries from end (steps.holds_current entries p.current from end) own sorted (held p entries song position from end false (distinct-from entries own) at current (is-outside position from end apart));
  no_song = λ p entries from end own sorted current.
      goes-past p (steps.goes_on_without p entries from end) entries from end (steps.holds_current entries p.current from end) own sorted (ap (λ (o : Option ℕ). steps.holds_current entries o from end) current);
  played = λ p entries song position from end own at current from_it below_end within going.
      let holds : steps.holds_current entries p.current from end ≡ true = held p entries song position from end true (distinct-from entries own) at current (is-inside position from end from_it below_end) in
      subst (λ (b : Bool). GoesOnWithout p (cond b (steps.goes_on_without p entries from end) (steps.without p entries from end)) entries from end) (sym holds)
      (playing-on p entries from end own (omega (arith, from_it, below_end)) within (player.is_stopped p.playback) (is-going p.playback going));
  stopped = λ p entries song position from end own at current from_it below_end stop.
      let holds : steps.holds_current entries p.current from end ≡ true = held p entries song position from end true (distinct-from entries own) at current (is-inside position from end from_it below_end) in
      let halt : player.is_stopped p.playback ≡ true = ap player.is_stopped stop in
      subst (λ (b : Bool). StaysStopped p (cond b (steps.goes_on_without p entries from end) (steps.without p entries from end)) entries (left_by entries from end)) (sym holds)
      (subst (λ (b : Bool). StaysStopped p (cond b (record (steps.without p entries from end) { current = None }) (player.cut (player.goes_on (record p { round = ends.round_after_removal p.modes p.round entries from end }) p.playback (id_of (ends.next_after_removal p.modes p.round entries from end)) 0 None))) entries (left_by entries from end)) (sym halt)
      (record { round = rounds_forget_gone.deleted p.round entries from end own (omega (arith, from_it, below_end)); rest = refl }));
}

-- what the natural end starts
starts-with : (p : PlayerState) (modes : Modes) (round : RoundState) (frame : ℕ) (current : Option ℕ) (o : Option Entry) (e : Entry) → modes.random ≡ p.modes.random → o ≡ Some e
    → Starts p (player.goes_on (record p { modes = modes; round = begun modes round o }) p.playback (id_of o) frame current) p.playback e frame
starts-with p modes round frame current o e same h =
    subst (λ (x : Option Entry). Starts p (player.goes_on (record p { modes = modes; round = begun modes round x }) p.playback (id_of x) frame current) p.playback e frame) (sym h)
    (record {
      current = refl;
      playback = refl;
      offset = refl;
      starts = refl;
      error = refl;
      job = refl;
      fade = refl;
      played = λ r. started-last modes round e.id (same ∙ r);
    })

stops-with : (p : PlayerState) (modes : Modes) (round : RoundState) (frame : ℕ) (current : Option ℕ) (o : Option Entry) → o ≡ None
    → Stops p (player.goes_on (record p { modes = modes; round = begun modes round o }) p.playback (id_of o) frame current) current
stops-with p modes round frame current o h =
    subst (λ (x : Option Entry). Stops p (player.goes_on (record p { modes = modes; round = begun modes round x }) p.playback (id_of x) frame current) current) (sym h)
    (record { current = refl; playback = refl; starts = refl; job = refl; fade = refl })

foretold : (p : PlayerState) (entries : List Entry) (song entry : Entry) (frame : ℕ) (s : Single) → ends.peek_by s p.modes p.round entries song.id ≡ Some entry
    → Starts p (ended-by p frame (ends.end_by s p.modes p.round entries song.id)).player p.playback entry frame
foretold p entries song entry frame single.Off h =
    let f : Following = ends.in_order p.modes p.round entries song.id in
    starts-with p f.modes f.round frame f.current f.entry entry refl
    (ahead-follows p.modes (ends.round_left p.modes p.round song.id) (ends.entries_left p.modes entries song.id) (ends.position_after p.modes entries song.id) entry h)
foretold p entries song entry frame single.On h =
    let f : Following = ends.alone p.modes p.round entries song.id (ends.again p.modes entries song.id) in
    starts-with p f.modes f.round frame f.current f.entry entry refl h
foretold p entries song entry frame single.Oneshot h = cc

-- where nothing is ahead
ahead-none : (p : PlayerState) (entries : List Entry) (song : Entry) (position frame : ℕ) → p.modes.single ≡ single.Off
    → ((ends.after_next p.modes p.round entries song.id).entry ≡ None) ⊎ ((p.modes.random ≡ true) × AllWerePlayed p.round.played (left_after p.modes.consume entries position))
    → NothingAhead p (ended-by p frame (ends.in_order p.modes p.round entries song.id)).player (left_after p.modes.consume entries position)
ahead-none p entries song position frame off (inl h) = let f : Following = ends.in_order p.modes p.round entries song.id in PlayerStops f.current (stops-with p f.modes f.round frame f.current f.entry h)
ahead-none p entries song position frame off (inr h) = NeedsNewRound off h.0 h.1

foretold-none : (p : PlayerState) (entries : List Entry) (song : Entry) (position frame : ℕ) → HaveOwnIds entries → slice_get entries position ≡ Some song → (s : Single) → p.modes.single ≡ s
    → ends.peek_by s p.modes p.round entries song.id ≡ None → NothingAhead p (ended-by p frame (ends.end_by s p.modes p.round entries song.id)).player (left_after p.modes.consume entries position)
foretold-none p entries song position frame own at single.Off e h = ahead-none p entries song position frame e (nothing-ahead p.modes p.round entries position song own at h)
foretold-none p entries song position frame own at single.On e h =
    let f : Following = ends.alone p.modes p.round entries song.id (ends.again p.modes entries song.id) in
    PlayerStops f.current (stops-with p f.modes f.round frame f.current f.entry h)
foretold-none p entries song position frame own at single.Oneshot e h =
    let f : Following = ends.alone p.modes p.round entries song.id None in
    PlayerStops f.current (stops-with p f.modes f.round frame f.current None refl)

pub peek_foretells : PeekForetells
peek_foretells = record {
  some = λ p entries song entry frame current h. foretold p entries song entry frame p.modes.single (sym (ap (steps.peek_by p entries) current) ∙ h);
  none = λ p entries song position frame own at current h. foretold-none p entries song position frame own at p.modes.single refl (sym (ap (steps.peek_by p entries) current) ∙ h);
}

-- `play`
starts-first : (p : PlayerState) (round : RoundState) (e : Entry) → Starts p (player.starts_by_hand (record p { round = begun p.modes round (Some e) }) Play (Some e.id) 0) Play e 0
starts-first p round e = record {
  current = refl;
  playback = refl;
  offset = refl;
  starts = refl;
  error = refl;
  job = refl;
  fade = refl;
  played = λ r. started-last p.modes round e.id r;
}

opens-with : (p : PlayerState) (entries : List Entry) (round : RoundState) (o : Option Entry) → (o ≡ None → entries ≡ [])
    → OpensWith p (player.starts_by_hand (record p { round = begun p.modes round o }) Play (id_of o) 0) entries o
opens-with p entries round None h = NothingStarts (h refl) refl
opens-with p entries round (Some e) h = FirstStarts e (starts-first p round e) refl

hand-round : (p : PlayerState) (round : RoundState) (o : Option Entry) → (player.starts_by_hand (record p { round = begun p.modes round o }) Play (id_of o) 0).round ≡ begun p.modes round o
hand-round p round None = refl
hand-round p round (Some e) = refl

over-empty : (round : RoundState) (entries : List Entry) → FollowsInRound true round entries None → entries ≡ []
over-empty round entries (RoundIsOver all (inl h)) = cc
over-empty round entries (RoundIsOver all (inr h)) = h

no-first : (entries : List Entry) → slice_get entries 0 ≡ None → entries ≡ []
no-first [] h = refl
no-first (x ∷ entries) h = cc

opening-none : (p : PlayerState) (entries : List Entry) → HaveOwnIds entries → order.opening_of p.modes p.round entries ≡ None → entries ≡ []
opening-none p entries own h =
    elim (p.modes.random) as (λ v. p.modes.random ≡ v → entries ≡ []) [
      | true ↦ λ r. over-empty p.round entries (subst (λ (o : Option Entry). FollowsInRound true p.round entries o) h (opening-follows p.modes p.round entries r own))
      | false ↦ λ r. no-first entries (sym (opening-first p.modes p.round entries r) ∙ h)
    ] refl

opens : (p : PlayerState) (entries : List Entry) → HaveOwnIds entries → Opens p (steps.open_order p entries) entries
opens p entries own =
    let entry : Option Entry = order.opening_of p.modes p.round entries in
    let round : RoundState = round_for p.modes p.round entries in
    record {
      entry = entry;
      at_random = λ r. opening-follows p.modes p.round entries r own;
      round = λ r. subst (λ (x : RoundState). BecomesRound p.round x entries entries entry) (sym (hand-round p round entry)) (opening-becomes p.modes p.round entries r own);
      in_order = λ r. opening-first p.modes p.round entries r;
      starts = opens-with p entries round entry (opening-none p entries own);
    }

kept-start : (p : PlayerState) (entries : List Entry) (e : Entry) → p.modes.random ≡ true → Contains entries e → KeepsRound p.round (order.started p.modes p.round e.id) entries entries e
kept-start p entries e random there =
    let round : RoundState = record p.round { played = moved_last p.round.played e.id } in
    let after : order.started p.modes p.round e.id ≡ round = ap (λ (b : Bool). cond b round p.round) random in
    subst (λ (r : RoundState). KeepsRound p.round r entries entries e) (sym after)
    (subst (λ (r : RoundState). KeepsRound p.round (record r { played = moved_last r.played e.id }) entries entries e) (without-none p.round)
    (keeps p.round [] entries entries e (none-apart entries) (λ x here new. here) there))

starts-anew : (p : PlayerState) (entries : List Entry) (e : Entry) → Contains entries e → StartsAnew p (steps.start p Play e.id 0) entries e
starts-anew p entries e there = record {
  starts = starts-first p p.round e;
  cuts = refl;
  at_random = λ r. kept-start p entries e r there;
  in_order = λ r. ap (λ (b : Bool). cond b (record p.round { played = moved_last p.round.played e.id }) p.round) r;
}

current-anew : (p : PlayerState) (entries : List Entry) (song : Entry) → HaveOwnIds entries → Contains entries song → StartsAnew p (steps.begin p entries (Some song.id)) entries song
current-anew p entries song own there =
    subst (λ (o : Option Entry). StartsAnew p (steps.start_found p Play o) entries song) (sym (entry-found entries song (distinct-from entries own) there)) (starts-anew p entries song there)

pub play_begins : PlayBegins
play_begins = record {
  playing = λ p entries h. ap (steps.play_by p entries) h;
  paused = λ p entries h. ap (steps.play_by p entries) h;
  song = λ p entries song own there stop current.
      subst (λ (x : Playback). StartsAnew p (steps.play_by p entries x) entries song) (sym stop) (subst (λ (o : Option ℕ). StartsAnew p (steps.begin p entries o) entries song) (sym current) (current-anew p entries song own there));
  entry = λ p entries entry there. starts-anew p entries entry there;
  no_song = λ p entries own stop current.
      subst (λ (x : Playback). Opens p (steps.play_by p entries x) entries) (sym stop) (subst (λ (o : Option ℕ). Opens p (steps.begin p entries o) entries) (sym current) (opens p entries own));
}
