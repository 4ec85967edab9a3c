-- What a turn answers of its session's end.
use Rattle.std.proofs.Common.{◌≡◌, ◌∙◌, List, ℕ, Bool, true, false, Option, None, Some, inl, inr, refl, sym, subst}
use Rattle.std.specs.Prelude.{Result, Ok}
use Rattle.mpd_session.specs.declared.end.End.{End}
use Rattle.mpd_session.specs.declared.end.SessionFault.{SessionFault}
use Rattle.mpd_session.specs.Ends.{TellsEnd, turn_answer}
use Rattle.mpd_session.specs.Sessions.{SentAs}

-- a write leaves a closed session as it was closed
pub still_closed : (e e' : Option End) (u u' : List ℕ) (end : End) → e ≡ Some end → SentAs e u e' u' → e' ≡ Some end
still_closed e e' u u' end was (inl (same, kept)) = same ∙ was
still_closed e e' u u' end was (inr (goes, how)) = absurd (let never : None ≡ Some end = sym goes ∙ was in cc)

-- the turn of a closed session
pub tells_closed : (e e' : Option End) (end : End) → e ≡ Some end → e' ≡ Some end → TellsEnd e e' (Ok (Some end))
tells_closed e e' end was is = subst (λ (x : Option End). TellsEnd x e' (Ok (Some end))) (sym was) (is, refl)

tells_now : (e : Option End) (all : Bool) (answer : Result (Option End) SessionFault) → answer ≡ turn_answer e all → TellsEnd None e answer
tells_now (Some end) all answer is = is
tells_now None true answer is = inl is
tells_now None false answer is = inr is

-- the turn of an open session
pub tells_open : (e e' : Option End) (all : Bool) (answer : Result (Option End) SessionFault) → e ≡ None → answer ≡ turn_answer e' all → TellsEnd e e' answer
tells_open e e' all answer goes is = subst (λ (x : Option End). TellsEnd x e' answer) (sym goes) (tells_now e' all answer is)
