-- What a client is shown after a command of its own.
use Rattle.std.proofs.Common.{◌≡◌, Bool, true, false, cond, List, Option, Some, None, is_some, refl, sym, subst, codes}
use Rattle.idle_notes.specs.Notes.{notice_of, waits}
use Rattle.idle_notes.specs.declared.sets.Subsystems.{Subsystems}
use Rattle.mpd_text.specs.declared.songs.song.TagName.{TagName}
use Rattle.player_state.specs.declared.state.Client.{Client}
use Rattle.transitions.specs.Answers.{ResponseData, stays, tells}
use Rattle.transitions.specs.declared.asked.Asked.{Asked}
use Rattle.transitions.specs.declared.asked.ListPlace.{ListPlace}
use Rattle.transitions.specs.declared.asked.ListPlace.TheVariants.{Alone, InList}
use Rattle.transitions.specs.declared.reply.Move.TheVariants.{Resume}
use Rattle.mpd_command.specs.declared.command.Command.{Command}
use Rattle.mpd_command.specs.declared.command.Command.TheVariants as command
use Rattle.mpd_command.specs.declared.connection.ConnectionCommand.TheVariants as connection
use Rattle.mpd_command.specs.declared.status.StatusCommand.TheVariants as status
use Rattle.status_commands.specs.Status.{alone, idles, resumes}
use Rattle.command_laws.specs.ChosenTags.{TagsStaySets, chooses, tags_moved, tags_next}
use Rattle.command_laws.specs.HiddenTags.{IsTagSet}
use Rattle.command_laws.proofs.SetsOfTags.{disabled-set, enabled-set}

-- a client that waits, or waits no more, keeps its tags
alone-keeps : (asked : Asked) (list_place : ListPlace) (tags : List TagName) (response : ResponseData) → tags_moved tags response.move ≡ tags → tags_moved tags (alone asked list_place response).move ≡ tags
alone-keeps asked Alone tags response h = h
alone-keeps asked (InList form place) tags response h = refl

idles-keep : (tags : List TagName) (named : Subsystems) (o : Option Subsystems) → tags_moved tags (idles named o).move ≡ tags
idles-keep tags named None = refl
idles-keep tags named (Some names) = refl

resumes-keep : (tags : List TagName) (b : Bool) → tags_moved tags (cond b (record { answer = tells (codes "OK\n"); move = Resume }) (stays (tells (codes "")))).move ≡ tags
resumes-keep tags true = refl
resumes-keep tags false = refl

pub tags_kept : (asked : Asked) (client : Client) (it : Command) → chooses it ≡ false → tags_next asked client it ≡ asked.tags
tags_kept asked client (command.Status (status.Idle named)) e = alone-keeps asked asked.list_place asked.tags _ (idles-keep asked.tags named (notice_of (waits named client.pending)))
tags_kept asked client (command.Status status.NoIdle) e = alone-keeps asked asked.list_place asked.tags (resumes client) (resumes-keep asked.tags (is_some client.pending.waiting))
tags_kept asked client (command.Connection connection.AllTags) e = absurd (cc)
tags_kept asked client (command.Connection connection.NoTags) e = absurd (cc)
tags_kept asked client (command.Connection (connection.WithTags named)) e = absurd (cc)
tags_kept asked client (command.Connection (connection.WithoutTags named)) e = absurd (cc)
tags_kept asked client _ e = refl

pub tags_stay : (asked : Asked) (client : Client) (it : Command) → IsTagSet asked.tags → IsTagSet (tags_next asked client it)
tags_stay asked client (command.Connection connection.AllTags) is = refl
tags_stay asked client (command.Connection connection.NoTags) is = refl
tags_stay asked client (command.Connection (connection.WithTags named)) is = enabled-set named asked.tags
tags_stay asked client (command.Connection (connection.WithoutTags named)) is = disabled-set named asked.tags is
tags_stay asked client (command.Status (status.Idle named)) is = subst IsTagSet (sym (tags_kept asked client (command.Status (status.Idle named)) refl)) is
tags_stay asked client (command.Status status.NoIdle) is = subst IsTagSet (sym (tags_kept asked client (command.Status status.NoIdle) refl)) is
tags_stay asked client _ is = is

pub tags_stay_sets : TagsStaySets
tags_stay_sets = record { first = refl; next = tags_stay; kept = tags_kept }
