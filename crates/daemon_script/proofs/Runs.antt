-- Runs of lines, one after the other.
use Rattle.std.proofs.Common.{◌≡◌, ℕ, ◌+◌, ◌<◌, ◌≤◌, List, [], ◌∷◌, ◌++◌, take, take_all, length, get_or, Option, refl, sym, ap, subst, ◌∙◌, append_assoc, append-nil}
use Rattle.std.proofs.lemmas.List.{map-append, take_more}
use Rattle.mpd_text.specs.declared.lines.splitter.Line.{Line}
use Rattle.mpd_text.specs.Lines.Split.{view, views}
use Rattle.daemon_script.specs.declared.memory.Memory.{Memory}
use Rattle.daemon_script.specs.declared.memory.Memory.TheVariants.{Ample}
use Rattle.partition.specs.Image.{Image}
use Rattle.daemon_script.specs.Kinds.{Shelved, images}
use Rattle.daemon_script.specs.Output.{Run, script_after, text_of, lines_in}
use Rattle.daemon_script.specs.Pieces.{ShowsLines}
use Rattle.daemon_script.specs.Script.{ScriptData, shown_of}

pub script_after-append : (s : ScriptData (Shelved Image)) (run more : Run) → script_after images s (run ++ more) ≡ script_after images (script_after images s run) more
unfolding script_after
script_after-append s [] more = refl
script_after-append s (l ∷ ls) more = script_after-append (shown_of images s l.0 l.1).script ls more

pub text_of-append : (s : ScriptData (Shelved Image)) (run more : Run) → text_of images s (run ++ more) ≡ text_of images s run ++ text_of images (script_after images s run) more
unfolding text_of script_after
text_of-append s [] more = refl
text_of-append s (l ∷ ls) more =
    ap (λ (t : List ℕ). (shown_of images s l.0 l.1).text ++ t) (text_of-append (shown_of images s l.0 l.1).script ls more)
    ∙ sym (append_assoc (shown_of images s l.0 l.1).text (text_of images (shown_of images s l.0 l.1).script ls) (text_of images (script_after images (shown_of images s l.0 l.1).script ls) more))

pub lines_in-append : (run more : Run) → lines_in (run ++ more) ≡ lines_in run ++ lines_in more
lines_in-append run more = map-append (λ (l : Option (List ℕ) × Memory). l.0) run more

-- lines that all find memory
pub ample : List (Option (List ℕ)) → Run
ample [] = []
ample (l ∷ ls) = (l, Ample) ∷ ample ls

pub lines_in-ample : (lines : List (Option (List ℕ))) → lines_in (ample lines) ≡ lines
unfolding ample
lines_in-ample [] = refl
lines_in-ample (l ∷ ls) = ap (λ (x : List (Option (List ℕ))). l ∷ x) (lines_in-ample ls)

pub no_lines : (s : ScriptData (Shelved Image)) (before : List ℕ) → ShowsLines s s [] before before
unfolding script_after text_of
no_lines s before = record { run = []; are = refl; script = refl; text = sym (append-nil before) }

one : (s : ScriptData (Shelved Image)) (line : Option (List ℕ)) (memory : Memory) → (script_after images s ((line, memory) ∷ []) ≡ (shown_of images s line memory).script) × (text_of images s ((line, memory) ∷ []) ≡ (shown_of images s line memory).text)
unfolding script_after text_of
one s line memory = (refl, append-nil (shown_of images s line memory).text)

-- one more line
pub one_line : (old mid new : ScriptData (Shelved Image)) (lines : List (Option (List ℕ))) (line : Option (List ℕ)) (memory : Memory) (before between after : List ℕ)
    → ShowsLines old mid lines before between → new ≡ (shown_of images mid line memory).script → after ≡ between ++ (shown_of images mid line memory).text
    → ShowsLines old new (lines ++ line ∷ []) before after
one_line old mid new lines line memory before between after shows script text =
    let last : Run = (line, memory) ∷ [] in
    let s : mid ≡ script_after images old shows.run = shows.script in
    record {
      run = shows.run ++ last;
      are = lines_in-append shows.run last ∙ ap (λ (ls : List (Option (List ℕ))). ls ++ line ∷ []) shows.are;
      script = script ∙ sym (one mid line memory).0 ∙ ap (λ (m : ScriptData (Shelved Image)). script_after images m last) s ∙ sym (script_after-append old shows.run last);
      text = text ∙ ap (λ (t : List ℕ). between ++ t) (sym (one mid line memory).1 ∙ ap (λ (m : ScriptData (Shelved Image)). text_of images m last) s)
          ∙ ap (λ (t : List ℕ). t ++ text_of images (script_after images old shows.run) last) shows.text
          ∙ append_assoc before (text_of images old shows.run) (text_of images (script_after images old shows.run) last)
          ∙ ap (λ (t : List ℕ). before ++ t) (sym (text_of-append old shows.run last));
    }

pub views_more : (lines : List Line) (i : ℕ) (d : Line) → i < length lines → views (take (i + 1) lines) ≡ views (take i lines) ++ view (get_or lines i d) ∷ []
views_more lines i d h = ap views (take_more lines i d h) ∙ map-append view (take i lines) (get_or lines i d ∷ [])

-- the line at a place
pub line_at : (old mid new : ScriptData (Shelved Image)) (lines : List Line) (i : ℕ) (line : Line) (memory : Memory) (before between after : List ℕ)
    → i < length lines → line ≡ get_or lines i line → ShowsLines old mid (views (take i lines)) before between
    → new ≡ (shown_of images mid (view line) memory).script → after ≡ between ++ (shown_of images mid (view line) memory).text
    → ShowsLines old new (views (take (i + 1) lines)) before after
line_at old mid new lines i line memory before between after h is shows script text =
    subst (λ (ls : List (Option (List ℕ))). ShowsLines old new ls before after)
    (sym (views_more lines i line h ∙ ap (λ (l : Line). views (take i lines) ++ view l ∷ []) (sym is)))
    (one_line old mid new (views (take i lines)) (view line) memory before between after shows script text)

pub all_lines : (old new : ScriptData (Shelved Image)) (lines : List Line) (i : ℕ) (before after : List ℕ) → length lines ≤ i
    → ShowsLines old new (views (take i lines)) before after → ShowsLines old new (views lines) before after
all_lines old new lines i before after h shows = subst (λ (ls : List Line). ShowsLines old new (views ls) before after) (take_all i lines h) shows
