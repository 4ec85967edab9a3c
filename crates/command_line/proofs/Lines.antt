-- Command lines, computed.
use Rattle.std.proofs.Common.{◌≡◌, ◌==◌, ℕ, Bool, cond, true, false, refl, [], ◌∷◌, Some, None, codes}
use Rattle.clap.specs.Walk.{Text}
use Rattle.clap.specs.declared.error.kind.ErrorKind.TheVariants.{UnknownArgument, ValueValidation}
use Rattle.clap.proofs.OnLiterals.{clap_on_literals}
use Rattle.command_line.specs.Readings.{AsksCheck, AsksEveryday, AsksScan, AsksServe, IsPlain, Readings, Refuses}

-- a word that does not begin with a hyphen: it is empty, or its first byte is another
plain_word : (P : Text → Type 0) → P [] → ((x : ℕ) (xs : Text) → (x == 45) ≡ false → P (x ∷ xs)) → (word : Text) → IsPlain word → P word
plain_word P none some [] is = none
plain_word P none some (x ∷ xs) is = some x xs (go (x == 45) is)
  where
    go : (b : Bool) → cond b (Some xs) None ≡ None → b ≡ false
    go true e = cc
    go false e = refl

serve : (name file : Text) → IsPlain file → AsksServe (name ∷ codes "serve" ∷ codes "--config" ∷ file ∷ []) file
unfolding clap_on_literals
serve name file is = plain_word (λ w. AsksServe (name ∷ codes "serve" ∷ codes "--config" ∷ w ∷ []) w)
    (record { taken = refl; read = (_, refl, (refl, refl)) }) (λ x xs e. record { taken = simp e refl; read = simp e (_, refl, (refl, refl)) }) file is

check : (name file : Text) → IsPlain file → AsksCheck (name ∷ codes "serve" ∷ codes "--config" ∷ file ∷ codes "--check" ∷ []) file
unfolding clap_on_literals
check name file is = plain_word (λ w. AsksCheck (name ∷ codes "serve" ∷ codes "--config" ∷ w ∷ codes "--check" ∷ []) w)
    (record { taken = refl; read = (_, refl, (refl, refl), refl) }) (λ x xs e. record { taken = simp e refl; read = simp e (_, refl, (refl, refl), refl) }) file is

plain_file : (name file : Text) → IsPlain file → Refuses (name ∷ codes "serve" ∷ file ∷ []) (UnknownArgument ∷ [])
unfolding clap_on_literals
plain_file name file is = plain_word (λ w. Refuses (name ∷ codes "serve" ∷ w ∷ []) (UnknownArgument ∷ [])) refl (λ x xs e. simp e refl) file is

scan : (name folder : Text) → IsPlain folder → AsksScan (name ∷ codes "scan" ∷ folder ∷ []) 44100 folder
unfolding clap_on_literals
scan name folder is = plain_word (λ w. AsksScan (name ∷ codes "scan" ∷ w ∷ []) 44100 w)
    (record { taken = refl; read = (_, refl, (refl, refl, refl), refl) }) (λ x xs e. record { taken = simp e refl; read = simp e (_, refl, (refl, refl, refl), refl) }) folder is

least : (name folder : Text) → IsPlain folder → AsksScan (name ∷ codes "scan" ∷ codes "--rate" ∷ codes "8000" ∷ folder ∷ []) 8000 folder
unfolding clap_on_literals
least name folder is = plain_word (λ w. AsksScan (name ∷ codes "scan" ∷ codes "--rate" ∷ codes "8000" ∷ w ∷ []) 8000 w)
    (record { taken = refl; read = (_, refl, (refl, refl, refl), refl) }) (λ x xs e. record { taken = rw e (rw e refl); read = rw e (rw e (_, refl, (refl, refl, refl), refl)) }) folder is

most : (name folder : Text) → IsPlain folder → AsksScan (name ∷ codes "scan" ∷ codes "--rate" ∷ codes "192000" ∷ folder ∷ []) 192000 folder
unfolding clap_on_literals
most name folder is = plain_word (λ w. AsksScan (name ∷ codes "scan" ∷ codes "--rate" ∷ codes "192000" ∷ w ∷ []) 192000 w)
    (record { taken = refl; read = (_, refl, (refl, refl, refl), refl) }) (λ x xs e. record { taken = rw e (rw e refl); read = rw e (rw e (_, refl, (refl, refl, refl), refl)) }) folder is

everyday : (name folder : Text) → IsPlain folder → AsksEveryday (name ∷ codes "scan" ∷ codes "--everyday" ∷ folder ∷ []) 44100 folder
unfolding clap_on_literals
everyday name folder is = plain_word (λ w. AsksEveryday (name ∷ codes "scan" ∷ codes "--everyday" ∷ w ∷ []) 44100 w)
    (record { taken = refl; read = (_, refl, (refl, refl, refl), refl) }) (λ x xs e. record { taken = simp e refl; read = simp e (_, refl, (refl, refl, refl), refl) }) folder is

everyday_at : (name folder : Text) → IsPlain folder → AsksEveryday (name ∷ codes "scan" ∷ codes "--rate" ∷ codes "8000" ∷ codes "--everyday" ∷ folder ∷ []) 8000 folder
unfolding clap_on_literals
everyday_at name folder is = plain_word (λ w. AsksEveryday (name ∷ codes "scan" ∷ codes "--rate" ∷ codes "8000" ∷ codes "--everyday" ∷ w ∷ []) 8000 w)
    (record { taken = refl; read = (_, refl, (refl, refl, refl), refl) }) (λ x xs e. record { taken = rw e (rw e refl); read = rw e (rw e (_, refl, (refl, refl, refl), refl)) }) folder is

too_low : (name folder : Text) → IsPlain folder → Refuses (name ∷ codes "scan" ∷ codes "--rate" ∷ codes "7999" ∷ folder ∷ []) (ValueValidation ∷ [])
unfolding clap_on_literals
too_low name folder is = plain_word (λ w. Refuses (name ∷ codes "scan" ∷ codes "--rate" ∷ codes "7999" ∷ w ∷ []) (ValueValidation ∷ [])) refl (λ x xs e. simp e refl) folder is

too_high : (name folder : Text) → IsPlain folder → Refuses (name ∷ codes "scan" ∷ codes "--rate" ∷ codes "192001" ∷ folder ∷ []) (ValueValidation ∷ [])
unfolding clap_on_literals
too_high name folder is = plain_word (λ w. Refuses (name ∷ codes "scan" ∷ codes "--rate" ∷ codes "192001" ∷ w ∷ []) (ValueValidation ∷ [])) refl (λ x xs e. simp e refl) folder is

one_more : (name word : Text) → IsPlain word → Refuses (name ∷ codes "script" ∷ word ∷ []) (UnknownArgument ∷ [])
unfolding clap_on_literals
one_more name word is = plain_word (λ w. Refuses (name ∷ codes "script" ∷ w ∷ []) (UnknownArgument ∷ [])) refl (λ x xs e. simp e refl) word is

pub all : Readings
unfolding clap_on_literals
all = record {
  serve = serve;
  check = check;
  no_config = λ name. refl;
  no_file = λ name. refl;
  plain_file = plain_file;
  scan = scan;
  least = least;
  most = most;
  too_low = too_low;
  too_high = too_high;
  everyday = everyday;
  everyday_at = everyday_at;
  no_folder = λ name. refl;
  script = λ name. record { taken = refl; read = (_, refl, refl) };
  one_more = one_more;
  no_word = λ name. refl;
  no_command = λ name. refl;
  help = λ name. refl;
  version = λ name. refl;
}
