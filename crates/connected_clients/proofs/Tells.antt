-- Clients told one after the other.
use Rattle.std.proofs.Common.{◌≡◌, ℕ, ◌+◌, ◌≤◌, ◌<◌, true, false, List, [], ◌∷◌, drop, get_or, length, refl, ap, ◌∙◌, arith, add-one, drop-cons, if◌then◌else◌}
use Rattle.std.specs.Prelude.{count_by, filter}
use Rattle.std.proofs.lemmas.List.Sums.{sum_by-append}
use Rattle.player_state.specs.declared.state.Client.{Client}
use Rattle.connected_clients.specs.Clients.{is_other}
use Rattle.connected_clients.specs.Rooms.{is_waiting, room_for}

one_more : (client : Client) (clients : List Client) → count_by is_waiting (client ∷ clients) ≡ room_for client + count_by is_waiting clients
one_more client clients =
    sum_by-append (λ (k : Client). if is_waiting k then 1 else 0) (client ∷ []) clients ∙ ap (λ n. n + count_by is_waiting clients) (omega arith)

-- of fewer clients no more wait
pub fewer_wait : (number : ℕ) (clients : List Client) → count_by is_waiting (filter (is_other number) clients) ≤ count_by is_waiting clients
fewer_wait number [] = omega arith
fewer_wait number (client ∷ clients) =
    let rest = fewer_wait number clients in
    let one = one_more client clients in
    elim (is_other number client) as (λ b. count_by is_waiting (if b then client ∷ filter (is_other number) clients else filter (is_other number) clients) ≤ count_by is_waiting (client ∷ clients))
    [ true ↦ (let same = one_more client (filter (is_other number) clients) in omega arith) | false ↦ omega arith ]

-- the room of a client and of those after it
pub room_after : (clients : List Client) (i : ℕ) (d : Client) → i < length clients
    → count_by is_waiting (drop i clients) ≡ room_for (get_or clients i d) + count_by is_waiting (drop (i + 1) clients)
room_after clients i d l =
    let next : drop i clients ≡ get_or clients i d ∷ drop (i + 1) clients = rw (add-one, drop-cons clients i d l) refl in
    ap (count_by is_waiting) next ∙ one_more (get_or clients i d) (drop (i + 1) clients)
