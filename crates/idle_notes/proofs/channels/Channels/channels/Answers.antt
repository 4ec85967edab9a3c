use Rattle.std.proofs.Common.{◌∙◌, ap, List, map, arith}
use Rattle.std.specs.List.{flat_map}
use Rattle.std.proofs.lemmas.List.{take_all}
use Rattle.idle_notes.specs.declared.channels.Member.{Member}
use Rattle.mpd_text.specs.Texts.{ascending}
use Rattle.idle_notes.specs.Channels.{MemberData, data_of, channel_names}
use Rattle.idle_notes.proofs.Heard.{flat-data}
use Rattle.idle_notes.proofs.channels.Channels.channels.Goals as goal

pub returns : goal.returns
unfolding channel_names
returns c =
    let items : List Member = c.deref-member-items.result.now in
    c.sort_once.ensures
    ∙ ap ascending (c.loop-member.invariant ∙ ap (flat_map (λ (m : Member). m.names.items)) (take_all c.loop-member.member-index items (omega arith)) ∙ flat-data items ∙ ap (λ (ms : List Member). flat_map (λ (m : MemberData). m.names) (map data_of ms)) c.deref-member-items.ensures.value ∙ ap (flat_map (λ (m : MemberData). m.names)) c.self.view_is)
