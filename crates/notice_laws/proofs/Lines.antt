-- What `status` and `stats` answer are their lines, and each line is the same where nothing is told of it.
use Rattle.std.proofs.Common.{◌≡◌, ℕ, Bool, true, false, List, [], ◌∷◌, ◌++◌, length, refl, ap, sym, ◌∙◌, codes, decimal, if◌then◌else◌}
use Rattle.idle_notes.specs.declared.subsystem.Subsystem.TheVariants as subsystem
use Rattle.play_order.specs.declared.modes.Modes.{Modes}
use Rattle.song_queue.specs.State.{entries_of, queue_of}
use Rattle.player_core.specs.Player.{is_stopped}
use Rattle.player_core.specs.Steps.{entry_by}
use Rattle.player_core.specs.declared.state.Playback.{Playback}
use Rattle.player_state.specs.Scans.{running}
use Rattle.player_state.specs.declared.state.Library.{Library}
use Rattle.player_state.specs.declared.state.Part.{Part}
use Rattle.transitions.specs.CommandResults.{shows}
use Rattle.connected_clients.specs.Clients.{Playing, options, playing}
use Rattle.connected_clients.specs.declared.fingerprint.Options.{Options}
use Rattle.status_commands.specs.Stats.{library_lines, playtime_line, uptime_line}
use Rattle.status_commands.specs.Status as status
use Rattle.status_commands.specs.Status.{result_of as status_result}
use Rattle.status_commands.proofs.Lines.{four, five}
use Rattle.notice_laws.specs.Lines.{field, status_lines, text_of, while_going}
use Rattle.notice_laws.specs.ClientSteps.{HearsOfNone, ClientStep, Stays, library_of}
use Rattle.notice_laws.specs.Told.{HasLines, LinesAreTold}
use Rattle.notice_laws.proofs.Queue.{same_current_lines, with_slots}
use Rattle.notice_laws.proofs.Unheard.{options_kept, playing_kept, queue_kept, scan_kept, songs_kept, updated_kept, volume_kept}

append-nil : (l : List ℕ) → l ++ [] ≡ l
append-nil [] = refl
append-nil (x ∷ xs) = ap (λ l. x ∷ l) (append-nil xs)

mode-lines : (volume : ℕ) (m : Modes) (r : List ℕ) → status.mode_lines volume m ++ r
    ≡ field (codes "volume") (decimal volume) ++ (field (codes "repeat") (decimal (status.digit m.repeat)) ++ (field (codes "random") (decimal (status.digit m.random))
    ++ (field (codes "single") (status.single_text m.single) ++ (field (codes "consume") (status.consume_text m.consume) ++ r))))
unfolding status.mode_lines
mode-lines volume m r =
    five (field (codes "volume") (decimal volume)) (field (codes "repeat") (decimal (status.digit m.repeat))) (field (codes "random") (decimal (status.digit m.random)))
    (field (codes "single") (status.single_text m.single)) (field (codes "consume") (status.consume_text m.consume)) r

queue-lines : (name : List ℕ) (version len : ℕ) (p : Playback) (r : List ℕ) → status.queue_lines name version len p ++ r
    ≡ field (codes "partition") name ++ (field (codes "playlist") (decimal version) ++ (field (codes "playlistlength") (decimal len)
    ++ (field (codes "state") (status.state_text p) ++ r)))
unfolding status.queue_lines
queue-lines name version len p r =
    four (field (codes "partition") name) (field (codes "playlist") (decimal version)) (field (codes "playlistlength") (decimal len)) (field (codes "state") (status.state_text p)) r

progress-lines : (stopped : Bool) (a b c d r : List ℕ) → (if stopped then [] else a ++ (b ++ (c ++ d))) ++ r
    ≡ (if stopped then [] else a) ++ ((if stopped then [] else b) ++ ((if stopped then [] else c) ++ ((if stopped then [] else d) ++ r)))
progress-lines true a b c d r = refl
progress-lines false a b c d r = four a b c d r

status-is : (everyday : Bool) (part : Part) (library : Library) → status.mode_lines part.volume part.player.modes ++ (status.queue_lines_of part
    ++ (status.current_lines part.queue part.player.current ++ (status.next_lines_of part ++ (status.progress_lines library.rate part everyday ++ status.last_lines part library))))
    ≡ text_of (status_lines everyday part library)
status-is everyday part library =
    let rate : ℕ = library.rate in
    let error : List ℕ = status.error_line part.player.error in
    let r4 : List ℕ = status.progress_lines rate part everyday ++ status.last_lines part library in
    let r2 : List ℕ = status.current_lines part.queue part.player.current ++ (status.next_lines_of part ++ r4) in
    let r1 : List ℕ = status.queue_lines_of part ++ r2 in
    let e5 = progress-lines (is_stopped part.player.playback) (status.current_time rate part everyday) (status.elapsed_line rate part.player.offset)
    (status.current_duration rate part) (status.audio_line rate) (status.last_lines part library) in
    let e4 = e5 ∙ ap (λ l. while_going part.player.playback (status.current_time rate part everyday) ++ (while_going part.player.playback (status.elapsed_line rate part.player.offset)
    ++ (while_going part.player.playback (status.current_duration rate part) ++ (while_going part.player.playback (status.audio_line rate)
    ++ (status.fade_line part.player.crossfade ++ (status.scan_line (running library.scan) ++ l)))))) (sym (append-nil error)) in
    let e2 = ap (λ l. status.current_lines part.queue part.player.current ++ (status.next_lines_of part ++ l)) e4 in
    let e1 = queue-lines part.name part.queue.version (length (queue_of part.queue)) part.player.playback r2
    ∙ ap (λ l. field (codes "partition") part.name ++ (field (codes "playlist") (decimal part.queue.version)
    ++ (field (codes "playlistlength") (decimal (length (queue_of part.queue))) ++ (field (codes "state") (status.state_text part.player.playback) ++ l)))) e2 in
    mode-lines part.volume part.player.modes r1
    ∙ ap (λ l. field (codes "volume") (decimal part.volume) ++ (field (codes "repeat") (decimal (status.digit part.player.modes.repeat))
    ++ (field (codes "random") (decimal (status.digit part.player.modes.random)) ++ (field (codes "single") (status.single_text part.player.modes.single)
    ++ (field (codes "consume") (status.consume_text part.player.modes.consume) ++ l))))) e1

pub has_lines : HasLines
unfolding status_result
has_lines asked everyday uptime part library = (
  ap (λ lines. shows asked lines) (status-is everyday part library),
  ap (λ l. shows asked (uptime_line uptime ++ (playtime_line part library ++ l))) (sym (append-nil (library_lines library))),
)

module _ (p : ClientStep) (stays : Stays p) where
  abbrev rate : ℕ
  rate = p.library.rate

  by_options : (line : Options → List ℕ) → HearsOfNone p (subsystem.Options ∷ []) → line (options p.own.player) ≡ line (options p.later.player)
  by_options line h = ap line (options_kept p stays h.0)

  by_player : (line : Playing → List ℕ) → HearsOfNone p (subsystem.Player ∷ []) → line (playing p.own.player) ≡ line (playing p.later.player)
  by_player line h = ap line (playing_kept p stays h.0)

  version-line : HearsOfNone p (subsystem.Playlist ∷ []) → field (codes "playlist") (decimal p.own.queue.version) ≡ field (codes "playlist") (decimal p.later.queue.version)
  version-line h = ap (λ n. field (codes "playlist") (decimal n)) (queue_kept p stays h.0).version

  length-line : HearsOfNone p (subsystem.Playlist ∷ [])
      → field (codes "playlistlength") (decimal (length (queue_of p.own.queue))) ≡ field (codes "playlistlength") (decimal (length (queue_of p.later.queue)))
  length-line h = ap (λ slots. field (codes "playlistlength") (decimal (length (entries_of slots)))) (queue_kept p stays h.0).slots

  song-lines : HearsOfNone p (subsystem.Player ∷ subsystem.Playlist ∷ []) → status.current_lines p.own.queue p.own.player.current ≡ status.current_lines p.later.queue p.later.player.current
  song-lines h =
      let plays : playing p.own.player ≡ playing p.later.player = playing_kept p stays h.0 in
      let same = queue_kept p stays h.1.0 in
      (λ i. status.current_lines (with_slots p.own.queue (same.slots i) (same.version i)) (plays i).current)
      ∙ same_current_lines p.own.queue p.later.queue p.later.queue.version p.later.player.current

  duration-line : HearsOfNone p (subsystem.Player ∷ subsystem.Playlist ∷ [])
      → while_going p.own.player.playback (status.current_duration rate p.own) ≡ while_going p.later.player.playback (status.current_duration rate p.later)
  duration-line h =
      let plays : playing p.own.player ≡ playing p.later.player = playing_kept p stays h.0 in
      let same = queue_kept p stays h.1.0 in
      λ i. while_going (plays i).playback (status.duration_of rate (entry_by (entries_of (same.slots i)) (plays i).current))

  songs-lines : HearsOfNone p (subsystem.Database ∷ []) → library_lines p.library ≡ library_lines (library_of p)
  songs-lines h =
      let songs : p.library.songs ≡ (library_of p).songs = songs_kept p stays h.0 in
      let updated : p.library.updated ≡ (library_of p).updated = updated_kept p stays h.0 in
      λ i. library_lines (record p.library { songs = songs i; updated = updated i })

pub lines_are_told : LinesAreTold
lines_are_told p everyday before after stays = (
  (
    λ h. ap (λ n. field (codes "volume") (decimal n)) (volume_kept p stays h.0),
    (
      by_options p stays (λ o. field (codes "repeat") (decimal (status.digit o.modes.repeat))),
      (
        by_options p stays (λ o. field (codes "random") (decimal (status.digit o.modes.random))),
        (
          by_options p stays (λ o. field (codes "single") (status.single_text o.modes.single)),
          (
            by_options p stays (λ o. field (codes "consume") (status.consume_text o.modes.consume)),
            (
              λ h. ap (λ name. field (codes "partition") name) (sym stays.name),
              (
                version-line p stays,
                (
                  length-line p stays,
                  (
                    by_player p stays (λ x. field (codes "state") (status.state_text x.playback)),
                    (
                      song-lines p stays,
                      (
                        λ h. absurd h,
                        (
                          λ h. absurd h,
                          (
                            λ h. absurd h,
                            (
                              duration-line p stays,
                              (
                                by_player p stays (λ x. while_going x.playback (status.audio_line p.library.rate)),
                                (
                                  by_options p stays (λ o. status.fade_line o.crossfade),
                                  (
                                    λ h. ap (λ number. status.scan_line number) (scan_kept p stays h.0),
                                    (by_player p stays (λ x. status.error_line x.error), tt),
                                  ),
                                ),
                              ),
                            ),
                          ),
                        ),
                      ),
                    ),
                  ),
                ),
              ),
            ),
          ),
        ),
      ),
    ),
  ),
  (λ h. absurd h, (λ h. absurd h, (songs-lines p stays, tt))),
)
