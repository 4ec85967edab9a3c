-- The empty set of subsystems.
use Rattle.std.proofs.Common.{◌≡◌, Bool, true, false, ◌||◌, refl}
use Rattle.idle_notes.specs.declared.sets.Subsystems.{Subsystems}
use Rattle.idle_notes.specs.Sets.{none, is_nonempty}

or_parts : (a b : Bool) → (a || b) ≡ false → (a ≡ false) × (b ≡ false)
or_parts true b e = cc
or_parts false b e = (refl, e)

-- a set without members is the empty one
pub is_none : (s : Subsystems) → is_nonempty s ≡ false → s ≡ none
is_none s e =
    let a = or_parts _ _ e in
    let b = or_parts _ _ a.0 in
    let c = or_parts _ _ b.0 in
    let d = or_parts _ _ c.0 in
    let f = or_parts _ _ d.0 in
    let g = or_parts _ _ f.0 in
    let h = or_parts _ _ g.0 in
    let j = or_parts _ _ h.0 in
    let k = or_parts _ _ j.0 in
    let l = or_parts _ _ k.0 in
    let m = or_parts _ _ l.0 in
    λ i. record {
      database = m.0 i;
      update = m.1 i;
      stored_playlist = l.1 i;
      playlist = k.1 i;
      player = j.1 i;
      mixer = h.1 i;
      output = g.1 i;
      options = f.1 i;
      sticker = d.1 i;
      subscription = c.1 i;
      message = b.1 i;
      partition = a.1 i;
    }
