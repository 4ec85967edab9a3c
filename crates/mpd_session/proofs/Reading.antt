-- What a session's reader did, by how the session is ended.
use Rattle.std.proofs.Common.{◌≡◌, ◌⊎◌, ◌<◌, ◌≤◌, ◌∙◌, ℕ, List, length, Option, None, Some, inl, inr, refl, sym, subst}
use Rattle.counted_devices.specs.declared.call_counts.CallCounts.{CallCounts}
use Rattle.mpd_session.specs.declared.end.End.{End}
use Rattle.mpd_session.specs.declared.end.End.TheVariants.{Left, Killed, LongLine, LargeList, Unsent, NoPeer, ReadFault, WriteFault}
use Rattle.mpd_session.specs.Devices.{EndsByReader, HearsOn, ReadEnds}
use Rattle.mpd_session.specs.Sessions.{BlamesWriter, SentAs}

-- one read
pub read_ends : (count : ℕ) (e : Option End) (r r' : CallCounts) → ReadEnds count e r r' → EndsByReader e r r'
read_ends count None r r' (inl (some, is)) = inr (inl is)
read_ends count None r r' (inr (none, is)) = inr (inr is)
read_ends count (Some NoPeer) r r' (none, is) = is
read_ends count (Some ReadFault) r r' (none, is) = is
read_ends count (Some Left) r r' h = absurd h
read_ends count (Some Killed) r r' h = absurd h
read_ends count (Some LongLine) r r' h = absurd h
read_ends count (Some LargeList) r r' h = absurd h
read_ends count (Some Unsent) r r' h = absurd h
read_ends count (Some WriteFault) r r' h = absurd h

-- the reader of an open session is not asked
pub unasked : (e : Option End) (r r' : CallCounts) → e ≡ None → r' ≡ r → EndsByReader e r r'
unasked e r r' goes same = subst (λ (x : Option End). EndsByReader x r r') (sym goes) (inl same)

pub same_end : (e e' : Option End) (r r' : CallCounts) → e' ≡ e → EndsByReader e r r' → EndsByReader e' r r'
same_end e e' r r' is ends = subst (λ (x : Option End). EndsByReader x r r') (sym is) ends

pub hears : (e : Option End) (r r' : CallCounts) → e ≡ None → EndsByReader e r r' → HearsOn r r'
hears e r r' goes ends = subst (λ (x : Option End). EndsByReader x r r') goes ends

-- what ran after the read ends a session for no reader's fault and by no peer
pub ran_ends : (e : Option End) (r r' w w' : CallCounts) → HearsOn r r' → BlamesWriter e w w' → EndsByReader e r r'
ran_ends None r r' w w' heard b = heard
ran_ends (Some Left) r r' w w' heard b = heard
ran_ends (Some Killed) r r' w w' heard b = heard
ran_ends (Some LongLine) r r' w w' heard b = heard
ran_ends (Some LargeList) r r' w w' heard b = heard
ran_ends (Some Unsent) r r' w w' heard b = heard
ran_ends (Some WriteFault) r r' w w' heard b = heard
ran_ends (Some NoPeer) r r' w w' heard b = absurd b
ran_ends (Some ReadFault) r r' w w' heard b = absurd b

-- a write ends none so
pub sent_ends : (e e' : Option End) (u u' : List ℕ) (r r' : CallCounts) → SentAs e u e' u' → EndsByReader e r r' → EndsByReader e' r r'
sent_ends e e' u u' r r' (inl (is, kept)) ends = same_end e e' r r' is ends
sent_ends e e' u u' r r' (inr (goes, inl is)) ends = subst (λ (x : Option End). EndsByReader x r r') (sym is) (hears e r r' goes ends)
sent_ends e e' u u' r r' (inr (goes, inr (is, many))) ends = subst (λ (x : Option End). EndsByReader x r r') (sym is) (hears e r r' goes ends)
