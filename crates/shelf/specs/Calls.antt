-- The calls of a shelf, with the texts that each is given (MPD protocol reference, Stored playlists,
-- Stickers).
use Rattle.std.specs.Prelude.{ℕ, List}
use Rattle.shelf.specs.declared.kinds.StickerKind.{StickerKind}

pub data Call : Type 0 where
  Lists : Call
  ListOf : List ℕ → Call
  Put : List ℕ → List (List ℕ) → Call
  Create : List ℕ → List (List ℕ) → Call
  Rename : List ℕ → List ℕ → Call
  Remove : List ℕ → Call
  StickerOf : StickerKind → List ℕ → List ℕ → Call
  SetSticker : StickerKind → List ℕ → List ℕ → List ℕ → Call
  DeleteSticker : StickerKind → List ℕ → List ℕ → Call
  DeleteStickers : StickerKind → List ℕ → Call
  StickersOf : StickerKind → List ℕ → Call
  FindStickers : StickerKind → List ℕ → Call
