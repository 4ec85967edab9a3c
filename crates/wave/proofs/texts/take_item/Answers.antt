use Rattle.std.proofs.Common.{◌≡◌, true, false, ap, sym, ◌∙◌}
use Rattle.wave.specs.Texts.{is_whole}
use Rattle.wave.specs.Parts.{chunk_of}
use Rattle.wave.specs.Found.{text_in, joined}
use Rattle.wave.proofs.Known.{known_map, known_map2}
use Rattle.wave.proofs.Items.{skips, puts, other_name, not_whole, no_text}
use Rattle.wave.proofs.texts.take_item.Goals as goal

pub returns-in_default-clause-value : goal.returns-in_default-clause-value
returns-in_default-clause-value g c =
    known_map (g.M.Media.all_bytes c.args.media.now) (λ bytes long more.
    skips (text_in c.args.everyday) c.args.texts (chunk_of bytes c.args.item) more (other_name (text_in c.args.everyday) (chunk_of bytes c.args.item) c.in_default.ensures)) c.requires

pub returns-then-not-is_whole-clause-value : goal.returns-then-not-is_whole-clause-value
returns-then-not-is_whole-clause-value g c =
    known_map (g.M.Media.all_bytes c.args.media.now) (λ bytes long more.
    let cut : is_whole (chunk_of bytes c.args.item) ≡ false = rw long (sym c.if-not-is_whole.ensures) in
    skips (text_in c.args.everyday) c.args.texts (chunk_of bytes c.args.item) more (not_whole (text_in c.args.everyday) (chunk_of bytes c.args.item) cut)) c.requires

pub returns-in-Some-2-clause-value : goal.returns-in-Some-2-clause-value
returns-in-Some-2-clause-value g c =
    known_map2 (g.M.Media.all_bytes c.args.media.now) (λ bytes long read more.
    let whole : is_whole (chunk_of bytes c.args.item) ≡ true = rw long (sym c.if-not-is_whole.ensures) in
    ap (λ texts. joined (text_in c.args.everyday) texts more) c.with.ensures
    ∙ puts (text_in c.args.everyday) c.in-Some.name c.args.texts (chunk_of bytes c.args.item) c.in-Some-2.text more c.in-Some.ensures whole (sym read ∙ c.in-Some-2.is)) c.requires c.in_ok-text.ensures.value

pub returns-in-None-clause-value : goal.returns-in-None-clause-value
returns-in-None-clause-value g c =
    known_map (g.M.Media.all_bytes c.args.media.now) (λ bytes read more.
    skips (text_in c.args.everyday) c.args.texts (chunk_of bytes c.args.item) more (no_text (text_in c.args.everyday) (chunk_of bytes c.args.item) (sym read ∙ c.in-None.is))) c.in_ok-text.ensures.value
