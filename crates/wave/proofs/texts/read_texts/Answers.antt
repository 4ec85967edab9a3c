use Rattle.std.proofs.Common.{rules, ◌∙◌}
use Rattle.wave.specs.Found.{text_in}
use Rattle.wave.proofs.Known.{known_map2, known_map4}
use Rattle.wave.proofs.Items.{list_taken, all_taken}
use Rattle.wave.proofs.texts.read_texts.Goals as goal

pub loop-texts-preserved-in_ok-texts : goal.loop-texts-preserved-in_ok-texts
loop-texts-preserved-in_ok-texts g c =
    let starts = rw c.loop-texts.invariant.stays at c.in_ok-part.ensures.value in
    let listed = rw (c.in_ok-part.ensures.stays, c.loop-texts.invariant.stays) at c.in_ok-is_list.ensures.value in
    let read = rw (c.in_ok-is_list.ensures.stays, c.in_ok-part.ensures.stays, c.loop-texts.invariant.stays) at c.in_ok-texts.ensures.value in
    record {
      goes = known_map4 (g.M.Media.all_bytes c.args.media.now) (λ bytes goes here info more.
          list_taken bytes c.loop-texts.at c.args.end c.in-Some.part c.in_ok-part.field-0 c.in_ok-is_list.field-0 (text_in c.args.everyday) c.loop-texts.texts c.in_ok-texts.texts _ goes here c.in-Some.is info c.if-branch.true more)
          c.loop-texts.invariant.goes starts listed read;
      stays = c.in_ok-texts.ensures.stays ∙ c.in_ok-is_list.ensures.stays ∙ c.in_ok-part.ensures.stays ∙ c.loop-texts.invariant.stays;
      keeps = λ h. c.in_ok-texts.ensures.keeps (c.in_ok-is_list.ensures.keeps (c.in_ok-part.ensures.keeps (c.loop-texts.invariant.keeps h)));
      calm = search rules;
    }

pub returns-clause-value : goal.returns-clause-value
returns-clause-value g c =
    let starts = rw c.loop-texts.invariant.stays at c.in_ok-part.ensures.value in
    known_map2 (g.M.Media.all_bytes c.args.media.now) (λ bytes goes here.
    all_taken bytes c.loop-texts.at c.args.end c.in_ok-part.field-0 (text_in c.args.everyday) c.loop-texts.texts _ goes here c.in_default.is) c.loop-texts.invariant.goes starts
