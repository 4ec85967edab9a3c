-- While a store is open, a stop leaves the maps that it shows.
use Rattle.std.proofs.Common.{◌≡◌, Some, pos, refl, IsTrue, sym, ap, ◌∙◌}
use Rattle.sqlite.specs.Tree.{Trees}
use Rattle.sqlite.specs.Effect.{Database}
use Rattle.sqlite.specs.State.{State}
use Rattle.shelf.specs.Maps.{Maps, Same}
use Rattle.shelf.specs.Shelf.{LeavesWhatItShows}
use Rattle.shelf_database.specs.Tables.{note_maps, maps_in, profile_number, database_standing}

pub same_maps : (a b : Maps) → a ≡ b → Same a b
same_maps a b is = record { lists = λ name. ap (λ (m : Maps). m.lists name) (sym is); stickers = λ kind target name. ap (λ (m : Maps). m.stickers kind target name) (sym is) }

-- a store with the number 2 shows what is in note
pub noted : (trees : Trees) → profile_number trees ≡ Some (pos 2) → maps_in trees ≡ note_maps trees
noted trees number = rw number refl

pub leaves_what_it_shows : (s : State) → ((trees : Trees) → IsTrue s.is_open → s.may_leave trees → trees ≡ s.committed.trees)
    → LeavesWhatItShows (database_standing s)
leaves_what_it_shows s settled = λ m clean ours opened left.
    let trees : left.0 ≡ s.committed.trees = settled left.0 opened left.1 in
    let now : s.now.trees ≡ s.committed.trees = ap (λ (d : Database). d.trees) ours.ready.settled in
    same_maps _ _ (sym (noted s.now.trees ours.number) ∙ ap maps_in (now ∙ sym trees) ∙ sym left.2)
