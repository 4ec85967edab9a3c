-- What is set is shown.
use Rattle.std.proofs.Common.{◌≡◌, ℕ, zero, suc, ◌==◌, Bool, true, false, cond, List, [], ◌++◌, refl, ap, sym, ◌∙◌, subst, arith, append_assoc, codes, decimal}
use Rattle.command_arguments.specs.declared.forms.SongMode.{SongMode}
use Rattle.command_arguments.specs.declared.forms.SongMode.TheVariants as mode
use Rattle.command_arguments.specs.declared.forms.ReplayGain.TheVariants as gain
use Rattle.command_arguments.specs.declared.forms.VolumeChange.TheVariants.{Up, Down}
use Rattle.mpd_command.specs.declared.options.OptionCommand.{OptionCommand}
use Rattle.mpd_command.specs.declared.options.OptionCommand.TheVariants as options
use Rattle.mpd_text.specs.Answers.Answer.{pair_line}
use Rattle.play_order.specs.Draws.{emptied}
use Rattle.play_order.specs.Order.{randomized}
use Rattle.play_order.specs.declared.modes.Modes.{Modes}
use Rattle.player_core.specs.Player.{PlayerState}
use Rattle.player_state.specs.Effects.{part_after}
use Rattle.player_state.specs.Scans.{running}
use Rattle.player_state.specs.declared.effect.Effect.TheVariants.{ByCommand}
use Rattle.player_state.specs.declared.state.Library.{Library}
use Rattle.player_state.specs.declared.state.Part.{Part}
use Rattle.song_queue.specs.State.{queue_of}
use Rattle.status_commands.specs.Options.{consume_of, result_of, single_of}
use Rattle.status_commands.specs.Status.{consume_text, current_lines, digit, error_line, fade_line, last_lines, mode_lines, next_lines_of, progress_lines, queue_lines_of, scan_line, single_text}
use Rattle.status_commands.specs.Status.{result_of as status_result}
use Rattle.transitions.specs.CommandResults.{shows}
use Rattle.transitions.specs.declared.asked.Asked.{Asked}
use Rattle.queue_laws.specs.Options.{IsSet, Settings, ShowsLines, ShowsWhatIsSet, WhatIsSetIsShown, fade_text, lines_of, may_reorder, mode_text, switch_text, xfade_line}

-- what is set in a part
abbrev settings_of : Part → Settings
settings_of part = record {
  volume = decimal part.volume;
  repeat = switch_text part.player.modes.repeat;
  random = switch_text part.player.modes.random;
  single = single_text part.player.modes.single;
  consume = consume_text part.player.modes.consume;
  xfade = fade_text part.player.crossfade;
}

-- the other lines
abbrev front_of : Part → List ℕ
front_of part = queue_lines_of part ++ current_lines part.queue part.player.current

abbrev behind_of : Library → Part → List ℕ
behind_of library part = scan_line (running library.scan) ++ error_line part.player.error

switch-text : (on : Bool) → decimal (digit on) ≡ switch_text on
switch-text true = refl
switch-text false = refl

single-text : (it : SongMode) → single_text (single_of it) ≡ mode_text it
single-text mode.Off = refl
single-text mode.On = refl
single-text mode.Oneshot = refl

consume-text : (it : SongMode) → consume_text (consume_of it) ≡ mode_text it
consume-text mode.Off = refl
consume-text mode.On = refl
consume-text mode.Oneshot = refl

fade-line : (seconds : ℕ) → fade_line seconds ≡ xfade_line (fade_text seconds)
fade-line zero = refl
fade-line (suc seconds) =
    let some : (suc seconds == 0) ≡ false = grind arith in
    ap (λ b. cond b [] (pair_line (codes "xfade") (decimal (suc seconds)))) some

five : (a b c d e r : List ℕ) → (a ++ (b ++ (c ++ (d ++ e)))) ++ r ≡ a ++ (b ++ (c ++ (d ++ (e ++ r))))
five a b c d e r =
    append_assoc a (b ++ (c ++ (d ++ e))) r
    ∙ ap (λ l. a ++ l) (append_assoc b (c ++ (d ++ e)) r ∙ ap (λ l. b ++ l) (append_assoc c (d ++ e) r ∙ ap (λ l. c ++ l) (append_assoc d e r)))

mode-lines : (volume : ℕ) (m : Modes) (r : List ℕ) → mode_lines volume m ++ r
    ≡ pair_line (codes "volume") (decimal volume) ++ (pair_line (codes "repeat") (switch_text m.repeat) ++ (pair_line (codes "random") (switch_text m.random)
    ++ (pair_line (codes "single") (single_text m.single) ++ (pair_line (codes "consume") (consume_text m.consume) ++ r))))
unfolding mode_lines
mode-lines volume m r =
    five (pair_line (codes "volume") (decimal volume)) (pair_line (codes "repeat") (decimal (digit m.repeat))) (pair_line (codes "random") (decimal (digit m.random)))
    (pair_line (codes "single") (single_text m.single)) (pair_line (codes "consume") (consume_text m.consume)) r
    ∙ (λ i. pair_line (codes "volume") (decimal volume) ++ (pair_line (codes "repeat") (switch-text m.repeat i) ++ (pair_line (codes "random") (switch-text m.random i)
    ++ (pair_line (codes "single") (single_text m.single) ++ (pair_line (codes "consume") (consume_text m.consume) ++ r)))))

shows-lines : (asked : Asked) (part : Part) (library : Library) (everyday : Bool)
    → ShowsLines asked part library everyday (settings_of part)
    (lines_of (settings_of part) (front_of part) (next_lines_of part) (progress_lines library.rate part everyday) (behind_of library part))
unfolding status_result result_of
shows-lines asked part library everyday = record {
  status = ap (shows asked)
      (mode-lines part.volume part.player.modes (queue_lines_of part ++ (current_lines part.queue part.player.current ++ (next_lines_of part ++ (progress_lines library.rate part everyday ++ last_lines part library))))
      ∙ ap (λ l. pair_line (codes "volume") (decimal part.volume) ++ (pair_line (codes "repeat") (switch_text part.player.modes.repeat) ++ (pair_line (codes "random") (switch_text part.player.modes.random)
      ++ (pair_line (codes "single") (single_text part.player.modes.single) ++ (pair_line (codes "consume") (consume_text part.player.modes.consume) ++ l)))))
      (sym (append_assoc (queue_lines_of part) (current_lines part.queue part.player.current) (next_lines_of part ++ (progress_lines library.rate part everyday ++ last_lines part library)))
      ∙ ap (λ l. front_of part ++ (next_lines_of part ++ (progress_lines library.rate part everyday ++ (l ++ behind_of library part)))) (fade-line part.player.crossfade)));
  volume = refl;
}

module _ (asked : Asked) (library : Library) (everyday : Bool) (part : Part) where
  -- what is shown of a part in which a command has set something
  made : (it : OptionCommand) (after : Part) → IsSet it (settings_of part) (settings_of after) → (may_reorder it ≡ false → next_lines_of after ≡ next_lines_of part) → front_of after ≡ front_of part
      → progress_lines library.rate after everyday ≡ progress_lines library.rate part everyday → behind_of library after ≡ behind_of library part → ShowsWhatIsSet asked library everyday it part after
  made it after is next front back behind = record {
    old = settings_of part;
    new = settings_of after;
    set = is;
    front = front_of part;
    next = next_lines_of part;
    next_then = next_lines_of after;
    same_next = next;
    back = progress_lines library.rate part everyday;
    behind = behind_of library part;
    shown = shows-lines asked part library everyday;
    shown_then = subst (ShowsLines asked after library everyday (settings_of after)) (λ i. lines_of (settings_of after) (front i) (next_lines_of after) (back i) (behind i)) (shows-lines asked after library everyday);
  }

  -- random order is set, where it may be as wished
  abbrev ordered : PlayerState → Part
  ordered player = record part { player = player }

  abbrev Random : Bool → PlayerState → Type 0
  Random on player = ShowsWhatIsSet asked library everyday (options.Random on) part (ordered player)

  random-on : (b : Bool) → part.player.modes.random ≡ b
      → Random true (cond b part.player (record part.player { modes = record part.player.modes { random = true }; round = randomized part.player.round (queue_of part.queue) part.player.current }))
  random-on true is = made (options.Random true) (ordered part.player) (λ i. record (settings_of part) { random = switch_text (is i) }) (λ (e : true ≡ false). cc) refl refl refl
  random-on false is = made (options.Random true) (ordered _) refl (λ (e : true ≡ false). cc) refl refl refl

  random-off : (b : Bool) → part.player.modes.random ≡ b → Random false (cond b (record part.player { modes = record part.player.modes { random = false }; round = emptied part.player.round }) part.player)
  random-off true is = made (options.Random false) (ordered _) refl (λ (e : true ≡ false). cc) refl refl refl
  random-off false is = made (options.Random false) (ordered part.player) (λ i. record (settings_of part) { random = switch_text (is i) }) (λ (e : true ≡ false). cc) refl refl refl

  pub set-is-shown : (asking : Asked) (it : OptionCommand) → ShowsWhatIsSet asked library everyday it part (part_after library.rate part (ByCommand (result_of asking part it).effect))
  unfolding result_of
  set-is-shown asking (options.Consume it) = made (options.Consume it) _ (λ i. record (settings_of part) { consume = consume-text it i }) (λ (e : true ≡ false). cc) refl refl refl
  set-is-shown asking (options.Crossfade seconds) = made (options.Crossfade seconds) _ refl (λ e. refl) refl refl refl
  set-is-shown asking options.GetVol = made options.GetVol _ refl (λ e. refl) refl refl refl
  set-is-shown asking (options.ChangeVolume (Up more)) = made (options.ChangeVolume (Up more)) _ (part.volume, refl, refl) (λ e. refl) refl refl refl
  set-is-shown asking (options.ChangeVolume (Down less)) = made (options.ChangeVolume (Down less)) _ (part.volume, refl, refl) (λ e. refl) refl refl refl
  set-is-shown asking (options.Random true) = random-on part.player.modes.random refl
  set-is-shown asking (options.Random false) = random-off part.player.modes.random refl
  set-is-shown asking (options.Repeat on) = made (options.Repeat on) _ refl (λ (e : true ≡ false). cc) refl refl refl
  set-is-shown asking (options.SetReplayGain gain.Off) = made (options.SetReplayGain gain.Off) _ refl (λ e. refl) refl refl refl
  set-is-shown asking options.ReplayGainStatus = made options.ReplayGainStatus _ refl (λ e. refl) refl refl refl
  set-is-shown asking (options.SetVol volume) = made (options.SetVol volume) _ refl (λ e. refl) refl refl refl
  set-is-shown asking (options.Single it) = made (options.Single it) _ (λ i. record (settings_of part) { single = single-text it i }) (λ (e : true ≡ false). cc) refl refl refl

pub what_is_set_is_shown : WhatIsSetIsShown
what_is_set_is_shown asking asked part library everyday it = set-is-shown asked library everyday part asking it
