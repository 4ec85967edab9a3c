use Rattle.std.proofs.Common.{◌≡◌, ◌∙◌, ap, sym, ℕ, ◌+◌, ◌-◌, ◌++◌, List, length, arith}
use Rattle.mpd_text.specs.Songs.Song.{SongData}
use Rattle.song_queue.specs.State.{QueueState, queue_of, inserted}
use Rattle.play_order.specs.Order.{ids_taken}
use Rattle.play_order.proofs.Inserting.{ids-inserted, length-inserted}
use Rattle.play_order.proofs.scan.put_in.Goals as goal

grown : (c : goal.After-len-2) → c.len-2.result ≡ c.len.result + length c.args.songs
grown c =
    c.len-2.ensures.len ∙ ap (λ (q : QueueState). length (queue_of q)) c.in_ok-edit.ensures.ok ∙ length-inserted c.args.queue.now c.args.at c.args.songs c.requires.0
    ∙ ap (λ (n : ℕ). n + length c.args.songs) (sym c.len.ensures.len)

pub overflow_sub-len : goal.overflow_sub-len
overflow_sub-len c = omega (arith, grown c)

pub fill_ids-requires-clause-order : goal.fill_ids-requires-clause-order
fill_ids-requires-clause-order c = omega (arith, grown c, c.requires.0, c.len.ensures.len)

pub fill_ids-requires-clause-room : goal.fill_ids-requires-clause-room
fill_ids-requires-clause-room c =
    let size : length c.items.result.now ≡ length c.args.songs = ap length c.items.ensures in
    omega (arith, grown c, c.requires.0, c.len.ensures.len, size, c.in_ok-ids.ensures.len, c.in_ok-ids.ensures.exact)

pub returns-clause-ids : goal.returns-clause-ids
returns-clause-ids c =
    let q : QueueState = c.args.queue.now in
    let songs : List SongData = c.args.songs in
    let size : length (queue_of (inserted q c.args.at songs)) ≡ length (queue_of q) + length songs = length-inserted q c.args.at songs c.requires.0 in
    let new : c.len-2.result ≡ length (queue_of (inserted q c.args.at songs)) = c.len-2.ensures.len ∙ ap (λ (x : QueueState). length (queue_of x)) c.in_ok-edit.ensures.ok in
    let end : c.len-2.result - (c.len.result - c.args.at) ≡ c.args.at + length songs = omega (arith, size, new, c.requires.0, c.len.ensures.len) in
    c.fill_ids.ensures
    ∙ ap (λ (ids : List ℕ). ids ++ ids_taken (queue_of c.edit.new.self) c.args.at (c.len-2.result - (c.len.result - c.args.at))) c.in_ok-ids.ensures.items
    ∙ ap (λ (x : QueueState). ids_taken (queue_of x) c.args.at (c.len-2.result - (c.len.result - c.args.at))) c.in_ok-edit.ensures.ok
    ∙ ap (ids_taken (queue_of (inserted q c.args.at songs)) c.args.at) end ∙ ids-inserted q c.args.at songs c.requires.0
