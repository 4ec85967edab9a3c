use Rattle.std.proofs.Common.{ap, sym, ◌∙◌}
use Rattle.mpd_text.specs.Lines.Scan.{words_of}
use Rattle.mpd_text.proofs.Utf8Words.{vecs_utf8}
use Rattle.mpd_text.proofs.lines.quoting.read_words.Goals as goal

pub texts_from-requires : goal.texts_from-requires
texts_from-requires c =
    (vecs_utf8 c.args.line.now c.in_ok-raw.raw.items c.utf8.line (ap words_of (sym c.as_bytes.ensures.value) ∙ c.in_ok-raw.ensures))
