pub mod LineLemmas
pub mod MemoryLemmas
pub mod StickerLemmas
