-- The steps that the decoder makes: wants, haves and failures, and the fade into the next song (MPD protocol
-- reference, Playback options, `crossfade`; Querying MPD's status, `clearerror`; jobs, and how a fade is
-- fixed and given up, are this profile's).
use Rattle.std.specs.Prelude.{ℕ, ◌≡◌, ◌+◌, ◌-◌, ◌*◌, Bool, false, ◌==◌, ◌&&◌, ◌||◌, not, nat_le, nat_lt, min, if◌then◌else◌, List, ◌++◌, Option, Some, None, is_some, codes}
use Rattle.song_queue.specs.declared.entry.Entry.{Entry}
use Rattle.song_queue.specs.State.{QueueState, queue_of}
use Rattle.play_order.specs.Order.{entry_of}
use Rattle.play_order.specs.Ends as ends
use Rattle.player_core.specs.declared.state.Fade.{Fade}
use Rattle.player_core.specs.declared.state.FadePart.{FadePart}
use Rattle.player_core.specs.declared.state.Job.{Job}
use Rattle.player_core.specs.declared.state.Live.{Live}
use Rattle.player_core.specs.Player.{PlayerState, PlayerAndQueue, Stepped, both_after, cut, given_up, halted, stays, is_paused, is_playing}
use Rattle.player_core.specs.Steps.{ended, peek}

-- whether this is the entry with the id
abbrev pub is_entry_with : Option Entry → ℕ → Bool
is_entry_with None id = false
is_entry_with (Some e) id = e.id == id

-- a fade into what is no longer next is given up
abbrev pub checked : PlayerState → Option Entry → Option Fade → PlayerState
checked p next None = p
checked p next (Some fade) = if is_entry_with next fade.partner then p else given_up p

-- the frames of a fade into a partner, where so many are left
abbrev pub fade_len : ℕ → ℕ → ℕ → Entry → ℕ
fade_len rate seconds left partner = min (min (rate * seconds) left) partner.song.frames

-- whether another entry may be mixed into the end of this one
abbrev pub can_fade : PlayerState → Entry → Entry → Bool
can_fade p entry next = not (p.crossfade == 0) && not p.gave_up && not (is_some p.fade) && not (next.id == entry.id)

-- the offset where a fade into the next entry would begin
abbrev pub fade_offset : ℕ → PlayerState → Entry → Entry → ℕ
fade_offset rate p entry next = entry.song.frames - fade_len rate p.crossfade entry.song.frames next

-- a fade is fixed where its offset is reached
abbrev pub faded : ℕ → PlayerState → Entry → Option Entry → PlayerState
faded rate p entry None = p
faded rate p entry (Some next) =
    if can_fade p entry next && nat_le (fade_offset rate p entry next) p.offset
    then record p { fade = Some (record { partner = next.id; len = fade_len rate p.crossfade (entry.song.frames - p.offset) next }) }
    else p

-- how far a job may go: to the song's end, or to where a fade would begin
abbrev pub reach : ℕ → PlayerState → Entry → Option Entry → ℕ
reach rate p entry None = entry.song.frames
reach rate p entry (Some next) =
    if can_fade p entry next && nat_lt p.offset (fade_offset rate p entry next) then fade_offset rate p entry next else entry.song.frames

-- the part of the fade that begins at the player's offset
abbrev pub part_of : PlayerState → Entry → Option Fade → Option FadePart
part_of p entry None = None
part_of p entry (Some fade) =
    Some (record { partner = fade.partner; index = p.offset - (entry.song.frames - fade.len); len = fade.len })

-- a job from the player's offset, of 1,024 frames at most
abbrev pub job_of : PlayerState → Entry → ℕ → Job
job_of p entry end = record {
  number = p.jobs + 1;
  id = entry.id;
  from = p.offset;
  count = min 1024 (end - p.offset);
  fade = part_of p entry p.fade;
}

abbrev pub with_job : PlayerState → Job → PlayerState
with_job p job = record p { jobs = job.number; job = Some job }

-- what a want leaves, and the job that it is given
pub record DueJob : Type 0 where
  pub stepped : Stepped
  pub job : Option Job

abbrev pub given : PlayerState → Job → DueJob
given p job = record { stepped = stays (with_job p job); job = Some job }

abbrev pub job_for : ℕ → PlayerState → Entry → Option Entry → DueJob
job_for rate p entry next =
    let q = checked p next p.fade in
    let r = faded rate q entry next in
    given r (job_of r entry (reach rate q entry next))

-- the player when it has asked for a job; what the end of the song would start is `next`
abbrev pub with_job_for : ℕ → PlayerState → Entry → Option Entry → PlayerState
with_job_for rate p entry next = (job_for rate p entry next).stepped.player

-- a job is the one that it asks for
abbrev pub IsJobFor : ℕ → PlayerState → Entry → Option Entry → Job → Type 0
IsJobFor rate p entry next job = Some job ≡ (job_for rate p entry next).job

abbrev pub nothing : PlayerState → DueJob
nothing p = record { stepped = stays p; job = None }

-- after the last frame of its entry the current song ends, and there is no job
abbrev pub want_at : ℕ → PlayerState → List Entry → ℕ → Option Entry → DueJob
want_at rate p entries id None = nothing p
want_at rate p entries id (Some entry) =
    if nat_le entry.song.frames p.offset
    then record { stepped = ended p entries id 0; job = None }
    else job_for rate p entry (ends.peek p.modes p.round entries id)

abbrev pub want_of : ℕ → PlayerState → List Entry → Option ℕ → DueJob
want_of rate p entries None = nothing p
want_of rate p entries (Some id) = want_at rate p entries id (entry_of entries id)

-- the player and its queue after a want of the song with an id
abbrev pub after_want_of : ℕ → PlayerState → QueueState → ℕ → PlayerAndQueue
after_want_of rate p q id = both_after q (want_of rate p (queue_of q) (Some id)).stepped

-- a want: there is a job only while the player plays, an output is enabled, and no feeder still owes frames
abbrev pub want : ℕ → PlayerState → List Entry → Bool → Bool → DueJob
want rate p entries enabled owes = if is_playing p.playback && enabled && not owes then want_of rate p entries p.current else nothing p

-- the player and its queue after a want
abbrev pub after_want : ℕ → PlayerState → QueueState → Bool → Bool → PlayerAndQueue
after_want rate p q enabled owes = both_after q (want rate p (queue_of q) enabled owes).stepped

-- what a have leaves, and the cut of its frames, unless it is stale
pub record Had : Type 0 where
  pub stepped : Stepped
  pub feed : Option ℕ

abbrev pub stale : PlayerState → Had
stale p = record { stepped = stays p; feed = None }

-- where a partner goes on, of which some frames were mixed
abbrev pub mixed : Option FadePart → ℕ → ℕ
mixed None count = 0
mixed (Some part) count = part.index + count

-- whether the song of an entry has been heard to its end at an offset
abbrev pub is_heard : Option Entry → ℕ → Bool
is_heard None offset = false
is_heard (Some entry) offset = nat_le entry.song.frames offset

-- whether so many frames of a job are the last of its song
abbrev pub is_last : PlayerState → List Entry → Job → ℕ → Bool
is_last p entries job count = nat_lt count job.count || is_heard (entry_of entries job.id) (p.offset + count)

-- frames of a job are accepted, and the song ends where they are its last
abbrev pub accepted : PlayerState → List Entry → Job → ℕ → Stepped
accepted p entries job count =
    if is_last p entries job count
    then ended (record p { offset = p.offset + count }) entries job.id (mixed job.fade count)
    else stays (record p { offset = p.offset + count; job = None })

-- the player and its queue when frames of a job are accepted
abbrev pub after_accepted : PlayerState → QueueState → Job → ℕ → PlayerAndQueue
after_accepted p q job count = both_after q (accepted p (queue_of q) job count)

-- a fade of the job into what is no longer next makes its have stale
abbrev pub has_lost_partner : Option FadePart → Option Entry → Bool
has_lost_partner None next = false
has_lost_partner (Some part) next = not (is_entry_with next part.partner)

-- whether so many frames are the answer to a job
abbrev pub answers : Job → ℕ → ℕ → Bool
answers job number count = (job.number == number) && nat_le count job.count

abbrev pub have_of : PlayerState → List Entry → Option Job → ℕ → ℕ → Had
have_of p entries None number count = stale p
have_of p entries (Some job) number count =
    if answers job number count
    then (if has_lost_partner job.fade (peek p entries) then stale (given_up p) else record { stepped = accepted p entries job count; feed = Some p.cuts })
    else stale p

-- a have of so many frames for a job
abbrev pub have : PlayerState → List Entry → ℕ → ℕ → Had
have p entries number count = have_of p entries p.job number count

-- the player and its queue after a have
abbrev pub after_have : PlayerState → QueueState → ℕ → ℕ → PlayerAndQueue
after_have p q number count = both_after q (have p (queue_of q) number count).stepped

abbrev pub error_text : Option Entry → List ℕ
error_text None = codes "Failed to decode "
error_text (Some entry) = codes "Failed to decode " ++ entry.song.uri

-- a song cannot be read: the player stops, with a cut and an error, and the song stays current
abbrev pub unread : PlayerState → List Entry → ℕ → PlayerState
unread p entries id = record (cut (halted p p.current)) { error = Some (error_text (entry_of entries id)) }

abbrev pub failed_of : PlayerState → List Entry → Option Job → ℕ → Bool → PlayerState
failed_of p entries None number of_partner = p
failed_of p entries (Some job) number of_partner =
    if job.number == number then (if of_partner then (if is_some job.fade then given_up p else p) else unread p entries job.id) else p

-- the decoder could not read the song of a job, or of its partner
abbrev pub failed : PlayerState → List Entry → ℕ → Bool → PlayerState
failed p entries number of_partner = failed_of p entries p.job number of_partner

-- what an output is told at its turn: the cut whose frames are to be heard, whether it is enabled, whether it
-- keeps its frames
abbrev pub turn : PlayerState → Bool → Live
turn p enabled = record { cut = p.cuts; enabled = enabled; paused = is_paused p.playback }
