use Rattle.std.proofs.Common.{◌≡◌, rules, ap, ◌∙◌}
use Rattle.std.proofs.lemmas.Fn.{always_returns_same}
use Rattle.std.proofs.lemmas.List.MinMax.{ranks_by}
use Rattle.std.proofs.lemmas.Cmp.{nat_list_cmp_total}
use Rattle.std.specs.Ordering.{is_lt}
use Rattle.std.specs.List.Sorted.{IsSortedBy}
use Rattle.mpd_text.specs.Songs.Song.{SongData}
use Rattle.song_db.specs.Library.{by_uri, are_twins_beside}
use Rattle.song_db.proofs.Names.{twins-is, order-by, rises-by}
use Rattle.song_db.proofs.db.sort_finds_twins.Goals as goal

sorted : (c : goal.After-has_twins) → IsSortedBy (λ a b. is_lt (by_uri a b)) c.sort_unstable_by.new.self.items
sorted c = c.sort_unstable_by.ensures.sorted (λ a b. is_lt (by_uri a b)) (ranks_by nat_list_cmp_total (λ (s : SongData). s.uri)) (always_returns_same _ _ _ (λ a r f called. search rules))

twins : (c : goal.After-has_twins) → c.has_twins.result ≡ are_twins_beside c.sort_unstable_by.new.self.items
twins c = c.has_twins.ensures ∙ ap are_twins_beside c.deref.ensures.value

pub returns-clause-twice_named : goal.returns-clause-twice_named
returns-clause-twice_named c = twins c ∙ twins-is c.args.songs.now.items c.sort_unstable_by.new.self.items c.sort_unstable_by.ensures.permutation (sorted c)

pub returns-clause-order : goal.returns-clause-order
returns-clause-order c = order-by c.args.songs.now.items c.sort_unstable_by.new.self.items c.sort_unstable_by.ensures.permutation (sorted c) c.has_twins.result (twins c)

pub returns-clause-rises : goal.returns-clause-rises
returns-clause-rises c = rises-by c.args.songs.now.items c.sort_unstable_by.new.self.items c.sort_unstable_by.ensures.permutation (sorted c) c.has_twins.result (twins c)
