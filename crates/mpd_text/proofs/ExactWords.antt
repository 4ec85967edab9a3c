-- What is exact says what a list and a fault mean.
use Rattle.std.proofs.Common.{◌≡◌, ◌≢◌, ℕ, ◌≤◌, List, length, Result, Ok, Err, String, refl, subst}
use Rattle.std.specs.Global.{Vec, Global}
use Rattle.std.specs.Result.{IfOk, IfErr}
use Rattle.mpd_text.specs.declared.lines.quoting.WordsFault.{WordsFault}
use Rattle.mpd_text.specs.declared.lines.quoting.WordsFault.TheVariants.{BadUnquoted, NoClosingQuote, NoSpaceAfterQuote, TooMany, NoMemory}
use Rattle.mpd_text.specs.Lines.Scan.{words_of}
use Rattle.mpd_text.specs.Lines.Words.{Gives, texts_of}
use Rattle.mpd_text.specs.Lines.Grammar.{Spells, IsFaulty}
use Rattle.mpd_text.proofs.GrammarScan.{spelled_is_read}
use Rattle.mpd_text.proofs.ScanGrammar.{is_read}

pub exact_found : (line : List ℕ) (r : Result (Vec (String Global)) WordsFault) → Gives texts_of r (words_of line) → IfOk r (λ words. Spells line (texts_of words) × (length (texts_of words) ≤ 65))
exact_found line (Ok words) e = rw e at (is_read line)
exact_found line (Err fault) e = tt

refused : (line : List ℕ) (fault : WordsFault) → words_of line ≡ Err fault → IsFaulty 0 line fault
refused line fault e = rw e at (is_read line)

pub exact_fault : (line : List ℕ) (r : Result (Vec (String Global)) WordsFault) → Gives texts_of r (words_of line) → IfErr r (λ fault. fault ≢ NoMemory → IsFaulty 0 line fault)
exact_fault line (Ok words) e = tt
exact_fault line (Err BadUnquoted) e = λ _. refused line BadUnquoted e
exact_fault line (Err NoClosingQuote) e = λ _. refused line NoClosingQuote e
exact_fault line (Err NoSpaceAfterQuote) e = λ _. refused line NoSpaceAfterQuote e
exact_fault line (Err TooMany) e = λ _. refused line TooMany e
exact_fault line (Err NoMemory) e = λ other. absurd (other refl)

pub exact_only : (line : List ℕ) (r : Result (Vec (String Global)) WordsFault) → Gives texts_of r (words_of line) → (texts : List (List ℕ)) → length texts ≤ 65 → Spells line texts → Gives texts_of r (Ok texts)
exact_only line r e texts few spells = subst (Gives texts_of r) (spelled_is_read line texts few spells) e
