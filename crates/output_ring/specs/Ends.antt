-- What went into a ring, and what came out (this profile's).
use Rattle.std.specs.Prelude.{ℕ, ℤ, ◌≡◌, List, ◌++◌, nat_lt, replicate, if◌then◌else◌}
use Rattle.rtrb.specs.Ring.{sent, received, known_items, known_free, IsPair, all_sent, IsFinishedOf, Finishes, SameProducer, SameConsumer}
use Rattle.rtrb.specs.Ends.{SameRing}
use mathlib.Core.List.{IsPrefix}
use Rattle.output_ring.specs.Frames.{with_cut}
use Rattle.output_ring.specs.Runs.{cuts_of, paired}
use Rattle.output_ring.specs.declared.frames.CutFrame.{CutFrame}
use Rattle.output_ring.specs.declared.inlet.Inlet.{Inlet}
use Rattle.output_ring.specs.declared.inlet.InletEnd.{InletEnd}
use Rattle.output_ring.specs.declared.outlet.Outlet.{Outlet}

-- every frame that went in, in order
abbrev pub sent_in : Inlet → List CutFrame
sent_in i = paired (cuts_of (sent i.runs)) (sent i.frames)

-- how many frames are known to have room, where one more run has
abbrev pub room_in : Inlet → ℕ
room_in i = if nat_lt 0 (known_free i.runs) then known_free i.frames else 0

-- every frame that came out, in order
abbrev pub popped_from : Outlet → List CutFrame
popped_from o = paired (cuts_of (received o.runs)) (received o.frames)

-- the frames that are known to be in the ring: those whose run is known
abbrev pub known_in : Outlet → List CutFrame
known_in o = paired (replicate o.rest o.cut ++ cuts_of (known_items o.runs)) (known_items o.frames)

-- these frames of one run came out, behind all before
abbrev pub ComeOut : Outlet → Outlet → List (List ℤ) → Type 0
ComeOut old new frames = popped_from new ≡ popped_from old ++ with_cut new.cut frames

-- what was known to be in the ring is these frames of one run, and then frames that are known now
abbrev pub WereKnown : Outlet → Outlet → List (List ℤ) → Type 0
WereKnown old new frames = IsPrefix (known_in old) (with_cut new.cut frames ++ known_in new)

-- with the token, every frame that went in
abbrev pub end_sent : InletEnd → List CutFrame
end_sent e = paired (cuts_of (all_sent e.runs)) (all_sent e.frames)

-- the two ends of one ring
abbrev pub ArePair : Inlet → Outlet → Type 0
ArePair i o = IsPair i.frames o.frames × IsPair i.runs o.runs

-- the token of what went into the ring of this end
abbrev pub ArePairAfter : InletEnd → Outlet → Type 0
ArePairAfter e o = IsFinishedOf e.frames o.frames × IsFinishedOf e.runs o.runs

abbrev pub SameInlet : Inlet → Inlet → Type 0
SameInlet a b = SameProducer a.frames b.frames × SameProducer a.runs b.runs

abbrev pub SameOutlet : Outlet → Outlet → Type 0
SameOutlet a b = SameConsumer a.frames b.frames × SameConsumer a.runs b.runs

-- what went in stays, and the end that of its ring
abbrev pub KeepsInlet : Inlet → Inlet → Type 0
KeepsInlet old new = (sent_in new ≡ sent_in old) × SameInlet old new

-- the token of the same frames
abbrev pub KeepsEnd : InletEnd → InletEnd → Type 0
KeepsEnd old new = (end_sent new ≡ end_sent old)

-- the token of all that went in here
abbrev pub EndsInlet : Inlet → InletEnd → Type 0
EndsInlet i e = Finishes i.frames e.frames × Finishes i.runs e.runs

-- the token of a ring
abbrev pub IsTokenOf : Inlet → InletEnd → Type 0
IsTokenOf i e = SameRing i.frames.end e.frames.end × SameRing i.runs.end e.runs.end
