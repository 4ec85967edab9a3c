-- What an event leaves of a client, by its number, and what all know of the clients then.
use Rattle.std.proofs.Common.{◌≡◌, ℕ, zero, suc, ◌+◌, ◌<◌, ◌==◌, Bool, true, false, cond, not, nat_lt, List, [], ◌∷◌, ◌++◌, map, Option, Some, None, is_some, refl, ap, sym, ◌∙◌, subst, arith, if◌then◌else◌}
use Rattle.std.specs.Prelude.{filter, insert, option_map}
use Rattle.std.specs.List.{flat_map, position_or_len}
use Rattle.std.proofs.lemmas.Bool.{eq-eqb, eqb-true}
use Rattle.std.proofs.lemmas.Bool.Decides.{nat_tests}
use Rattle.idle_notes.specs.declared.pending.Pending.{Pending}
use Rattle.idle_notes.specs.declared.sets.Subsystems.{Subsystems}
use Rattle.idle_notes.specs.Notes.{cancelled, everything, fresh, waits}
use Rattle.mpd_text.specs.declared.songs.song.TagName.{TagName}
use Rattle.player_state.specs.declared.state.Client.{Client}
use Rattle.partition_commands.specs.Partitions.{Seated, seated}
use Rattle.partition_table.proofs.Looks.{or_else}
use Rattle.transitions.specs.Answers.{ResponseData, closes}
use Rattle.transitions.specs.declared.reply.Move.{Move}
use Rattle.transitions.specs.declared.reply.Move.TheVariants.{Stay, Wait, Learn, Resume, Join, Show, Enter}
use Rattle.connected_clients.specs.Clients.{AllAbove, Rising, at, client_of, clients_after, entered, is_other, joined, move_of, moved, newcomer, notice_for, notice_to, notified, shown, staying}
use Rattle.connected_clients.specs.declared.notices.Notice.{Notice}
use Rattle.connected_clients.proofs.Rises.{at_keeps, entered_keeps, rising_staying, shown_keeps}
use Rattle.partition_laws.specs.Apart.{notices_to, seat_of}

nothing_left : (A : Type 0) (b : Bool) → ◌≡◌ {A = Option A} None (if b then None else None)
nothing_left A true = refl
nothing_left A false = refl

module _ (n : ℕ) where
  pub at_seat : (ks : List Client) → seat_of n (map seated ks) ≡ option_map (λ (k : Client). k.index) (client_of n ks)
  at_seat [] = refl
  at_seat (k ∷ ks) =
      elim (k.number == n) as (λ b. (if b then Some k.index else seat_of n (map seated ks)) ≡ option_map (λ (k : Client). k.index) (if b then Some k else client_of n ks))
      [ true ↦ refl | false ↦ at_seat ks ]

  pub found_number : (ks : List Client) (k : Client) → client_of n ks ≡ Some k → k.number ≡ n
  found_number [] k e = cc
  found_number (x ∷ ks) k e =
      let cases : (b : Bool) → (x.number == n) ≡ b → (if b then Some x else client_of n ks) ≡ Some k → k.number ≡ n =
      λ b. elim b as (λ b. (x.number == n) ≡ b → (if b then Some x else client_of n ks) ≡ Some k → k.number ≡ n) [
        | true ↦ λ t f. (let same : x ≡ k = cc in ap (λ (y : Client). y.number) (sym same) ∙ eqb-true x.number n t)
        | false ↦ λ t f. found_number ks k f
      ] in
      cases (x.number == n) refl e

  client_closed : (m : ℕ) (ks : List Client) → client_of n (filter (is_other m) ks) ≡ (if m == n then None else client_of n ks)
  client_closed m [] = nothing_left Client (m == n)
  client_closed m (k ∷ ks) = grind (arith, nat_tests, client_closed m ks)

  pub client_mapped : (f : Client → Client) → ((k : Client) → (f k).number ≡ k.number) → (ks : List Client) → client_of n (map f ks) ≡ option_map f (client_of n ks)
  client_mapped f keeps [] = refl
  client_mapped f keeps (k ∷ ks) =
      ap (λ x. if x == n then Some (f k) else client_of n (map f ks)) (keeps k)
      ∙ elim (k.number == n) as (λ b. (if b then Some (f k) else client_of n (map f ks)) ≡ option_map f (if b then Some k else client_of n ks)) [ true ↦ refl | false ↦ client_mapped f keeps ks ]

  client_inserted : (x : Client) (i : ℕ) (ks : List Client) → (x.number == n) ≡ false → client_of n (insert ks i x) ≡ client_of n ks
  client_inserted x zero [] e = ap (λ b. if b then Some x else None) e
  client_inserted x (suc i) [] e = ap (λ b. if b then Some x else None) e
  client_inserted x zero (k ∷ ks) e = ap (λ b. if b then Some x else client_of n (k ∷ ks)) e
  client_inserted x (suc i) (k ∷ ks) e =
      elim (k.number == n) as (λ b. (if b then Some k else client_of n (insert ks i x)) ≡ (if b then Some k else client_of n ks)) [ true ↦ refl | false ↦ client_inserted x i ks e ]

  own_inserted : (x : Client) (i : ℕ) (ks : List Client) → (x.number == n) ≡ true → client_of n ks ≡ None → client_of n (insert ks i x) ≡ Some x
  own_inserted x zero [] e none = ap (λ b. if b then Some x else None) e
  own_inserted x (suc i) [] e none = ap (λ b. if b then Some x else None) e
  own_inserted x zero (k ∷ ks) e none = ap (λ b. if b then Some x else client_of n (k ∷ ks)) e
  own_inserted x (suc i) (k ∷ ks) e none =
      let cases : (b : Bool) → (if b then Some k else client_of n ks) ≡ None → (if b then Some k else client_of n (insert ks i x)) ≡ Some x =
      λ b. elim b as (λ b. (if b then Some k else client_of n ks) ≡ None → (if b then Some k else client_of n (insert ks i x)) ≡ Some x)
      [ true ↦ λ h. cc | false ↦ λ h. own_inserted x i ks e h ] in
      cases (k.number == n) none

  pub above_none : (ks : List Client) → AllAbove n ks → client_of n ks ≡ None
  above_none [] a = refl
  above_none (k ∷ ks) a =
      let less : n < k.number = a.0 in
      let apart : (k.number == n) ≡ false = grind (arith, nat_tests) in
      ap (λ b. if b then Some k else client_of n ks) apart ∙ above_none ks a.1

-- what a move leaves of the client that makes it
abbrev pub does : ℕ → Move → Option Client → Option Client
does m Stay o = o
does m (Wait names) o = option_map (at m (waits names)) o
does m Learn o = option_map (at m (λ p. fresh)) o
does m Resume o = option_map (at m cancelled) o
does m Join o = or_else o (Some (newcomer m))
does m (Show tags) o = option_map (shown m tags) o
does m (Enter index) o = option_map (entered m index) o

at_other : (m : ℕ) (f : Pending → Pending) (k : Client) → (k.number == m) ≡ false → at m f k ≡ k
at_other m f k e = ap (λ b. if b then record k { pending = f k.pending } else k) e

shown_other : (m : ℕ) (tags : List TagName) (k : Client) → (k.number == m) ≡ false → shown m tags k ≡ k
shown_other m tags k e = ap (λ b. if b then record k { tags = tags } else k) e

entered_other : (m index : ℕ) (k : Client) → (k.number == m) ≡ false → entered m index k ≡ k
entered_other m index k e = ap (λ b. if b then record k { index = index; pending = everything } else k) e

module _ (m : ℕ) where
  own_joined : (ks : List Client) → client_of m (joined m ks) ≡ or_else (client_of m ks) (Some (newcomer m))
  own_joined ks =
      let i : ℕ = position_or_len (λ (k : Client). nat_lt m k.number) ks in
      let cases : (o : Option Client) → client_of m ks ≡ o → client_of m (if is_some o then ks else insert ks i (newcomer m)) ≡ or_else o (Some (newcomer m)) =
      λ o. elim o as (λ o. client_of m ks ≡ o → client_of m (if is_some o then ks else insert ks i (newcomer m)) ≡ or_else o (Some (newcomer m)))
      [ None ↦ λ e. own_inserted m (newcomer m) i ks (eq-eqb m m refl) e | Some k ↦ λ e. e ] in
      cases (client_of m ks) refl

  own_moved : (move : Move) (ks : List Client) → client_of m (moved m move ks) ≡ does m move (client_of m ks)
  own_moved Stay ks = refl
  own_moved (Wait names) ks = client_mapped m (at m (waits names)) (at_keeps m (waits names)) ks
  own_moved Learn ks = client_mapped m (at m (λ p. fresh)) (at_keeps m (λ p. fresh)) ks
  own_moved Resume ks = client_mapped m (at m cancelled) (at_keeps m cancelled) ks
  own_moved Join ks = own_joined ks
  own_moved (Show tags) ks = client_mapped m (shown m tags) (shown_keeps m tags) ks
  own_moved (Enter index) ks = client_mapped m (entered m index) (entered_keeps m index) ks

  module _ (n : ℕ) (apart : (m == n) ≡ false) where
    other_mapped : (f : Client → Client) → ((k : Client) → (f k).number ≡ k.number) → ((k : Client) → (k.number == m) ≡ false → f k ≡ k) → (ks : List Client)
        → client_of n (map f ks) ≡ client_of n ks
    other_mapped f keeps leaves ks =
        let cases : (o : Option Client) → client_of n ks ≡ o → option_map f o ≡ o =
        λ o. elim o as (λ o. client_of n ks ≡ o → option_map f o ≡ o) [
          | None ↦ λ e. refl
          | Some k ↦ λ e. (let number : k.number ≡ n = found_number n ks k e in let other : (k.number == m) ≡ false = grind (arith, nat_tests) in ap Some (leaves k other))
        ] in
        client_mapped n f keeps ks ∙ cases (client_of n ks) refl

    other_joined : (ks : List Client) → client_of n (joined m ks) ≡ client_of n ks
    other_joined ks =
        let i : ℕ = position_or_len (λ (k : Client). nat_lt m k.number) ks in
        elim (is_some (client_of m ks)) as (λ b. client_of n (if b then ks else insert ks i (newcomer m)) ≡ client_of n ks)
        [ true ↦ refl | false ↦ client_inserted n (newcomer m) i ks apart ]

    other_moved : (move : Move) (ks : List Client) → client_of n (moved m move ks) ≡ client_of n ks
    other_moved Stay ks = refl
    other_moved (Wait names) ks = other_mapped (at m (waits names)) (at_keeps m (waits names)) (at_other m (waits names)) ks
    other_moved Learn ks = other_mapped (at m (λ p. fresh)) (at_keeps m (λ p. fresh)) (at_other m (λ p. fresh)) ks
    other_moved Resume ks = other_mapped (at m cancelled) (at_keeps m cancelled) (at_other m cancelled) ks
    other_moved Join ks = other_joined ks
    other_moved (Show tags) ks = other_mapped (shown m tags) (shown_keeps m tags) (shown_other m tags) ks
    other_moved (Enter index) ks = other_mapped (entered m index) (entered_keeps m index) (entered_other m index) ks

-- the notices to a client, by the client
abbrev pub notices_in : (Client → Subsystems) → Option Client → List Notice
notices_in r None = []
notices_in r (Some k) = notice_for r k

module _ (r : Client → Subsystems) (n : ℕ) where
  head_notice : (number : ℕ) (o : Option Subsystems) (xs : List Notice) → notices_to n (notice_to number o ++ xs) ≡ (if number == n then notice_to number o ++ notices_to n xs else notices_to n xs)
  head_notice number None xs = elim (number == n) as (λ b. notices_to n xs ≡ (if b then notices_to n xs else notices_to n xs)) [ true ↦ refl | false ↦ refl ]
  head_notice number (Some names) xs = refl

  alone : (number : ℕ) (o : Option Subsystems) → notice_to number o ++ [] ≡ notice_to number o
  alone number None = refl
  alone number (Some names) = refl

  no_notice : (ks : List Client) → client_of n ks ≡ None → notices_to n (flat_map (notice_for r) ks) ≡ []
  no_notice [] e = refl
  no_notice (k ∷ ks) e =
      let rest : List Notice = flat_map (notice_for r) ks in
      let own : List Notice = notice_for r k in
      let cases : (b : Bool) → (if b then Some k else client_of n ks) ≡ None → (if b then own ++ notices_to n rest else notices_to n rest) ≡ [] =
      λ b. elim b as (λ b. (if b then Some k else client_of n ks) ≡ None → (if b then own ++ notices_to n rest else notices_to n rest) ≡ [])
      [ true ↦ λ f. cc | false ↦ λ f. no_notice ks f ] in
      head_notice k.number _ rest ∙ cases (k.number == n) e

  notices_at : (ks : List Client) → Rising ks → notices_to n (flat_map (notice_for r) ks) ≡ notices_in r (client_of n ks)
  notices_at [] rises = refl
  notices_at (k ∷ ks) rises =
      let rest : List Notice = flat_map (notice_for r) ks in
      let own : List Notice = notice_for r k in
      let none : (k.number == n) ≡ true → notices_to n rest ≡ [] =
      λ e. no_notice ks (above_none n ks (subst (λ x. AllAbove x ks) (eqb-true k.number n e) rises.0)) in
      let cases : (b : Bool) → (k.number == n) ≡ b → (if b then own ++ notices_to n rest else notices_to n rest) ≡ notices_in r (if b then Some k else client_of n ks) =
      λ b. elim b as (λ b. (k.number == n) ≡ b → (if b then own ++ notices_to n rest else notices_to n rest) ≡ notices_in r (if b then Some k else client_of n ks))
      [ true ↦ λ e. ap (λ xs. own ++ xs) (none e) ∙ alone k.number _ | false ↦ λ e. notices_at ks rises.1 ] in
      head_notice k.number _ rest ∙ cases (k.number == n) refl

-- the clients after an event of the client m, which raises these for each
module _ (m : ℕ) (r : Client → Subsystems) (a : ResponseData) (ks : List Client) where
  abbrev pub left_of : Option Client → Option Client
  left_of o = if closes a.answer.next then None else o

  own_stays : client_of m (staying m a ks) ≡ left_of (client_of m ks)
  own_stays =
      elim (closes a.answer.next) as (λ b. client_of m (if b then filter (is_other m) ks else ks) ≡ (if b then None else client_of m ks))
      [ true ↦ client_closed m m ks ∙ ap (λ b. if b then None else client_of m ks) (eq-eqb m m refl) | false ↦ refl ]

  pub own_after : client_of m (clients_after m r a ks) ≡ does m (move_of a) (option_map (notified r) (left_of (client_of m ks)))
  own_after =
      own_moved m (move_of a) (map (notified r) (staying m a ks))
      ∙ ap (does m (move_of a)) (client_mapped m (notified r) (λ k. refl) (staying m a ks) ∙ ap (option_map (notified r)) own_stays)

  pub own_notices : Rising ks → notices_to m (flat_map (notice_for r) (staying m a ks)) ≡ notices_in r (left_of (client_of m ks))
  own_notices rises = notices_at r m (staying m a ks) (rising_staying m a ks rises) ∙ ap (notices_in r) own_stays

  module _ (n : ℕ) (apart : (m == n) ≡ false) where
    other_stays : client_of n (staying m a ks) ≡ client_of n ks
    other_stays =
        elim (closes a.answer.next) as (λ b. client_of n (if b then filter (is_other m) ks else ks) ≡ client_of n ks)
        [ true ↦ client_closed n m ks ∙ ap (λ b. if b then None else client_of n ks) apart | false ↦ refl ]

    pub other_after : client_of n (clients_after m r a ks) ≡ option_map (notified r) (client_of n ks)
    other_after =
        other_moved m n apart (move_of a) (map (notified r) (staying m a ks))
        ∙ client_mapped n (notified r) (λ k. refl) (staying m a ks) ∙ ap (option_map (notified r)) other_stays

    pub other_notices : Rising ks → notices_to n (flat_map (notice_for r) (staying m a ks)) ≡ notices_in r (client_of n ks)
    other_notices rises = notices_at r n (staying m a ks) (rising_staying m a ks rises) ∙ ap (notices_in r) other_stays

-- what all know of the clients then, by what all knew
abbrev pub seat_entered : ℕ → ℕ → Seated → Seated
seat_entered m index s = if s.number == m then record s { index = index } else s

abbrev pub seats_joined : ℕ → List Seated → List Seated
seats_joined m ss = if is_some (seat_of m ss) then ss else insert ss (position_or_len (λ (s : Seated). nat_lt m s.number) ss) (seated (newcomer m))

abbrev pub seats_moved : ℕ → Move → List Seated → List Seated
seats_moved m Join ss = seats_joined m ss
seats_moved m (Enter index) ss = map (seat_entered m index) ss
seats_moved m _ ss = ss

abbrev pub seats_staying : ℕ → ResponseData → List Seated → List Seated
seats_staying m a ss = if closes a.answer.next then filter (λ (s : Seated). not (s.number == m)) ss else ss

abbrev pub seats_after : ℕ → ResponseData → List Seated → List Seated
seats_after m a ss = seats_moved m (move_of a) (seats_staying m a ss)

seated_alike : (f : Client → Client) → ((k : Client) → seated (f k) ≡ seated k) → (ks : List Client) → map seated (map f ks) ≡ map seated ks
seated_alike f keeps [] = refl
seated_alike f keeps (k ∷ ks) = λ i. keeps k i ∷ seated_alike f keeps ks i

seated_at : (m : ℕ) (f : Pending → Pending) (k : Client) → seated (at m f k) ≡ seated k
seated_at m f k = elim (k.number == m) as (λ b. seated (if b then record k { pending = f k.pending } else k) ≡ seated k) [ true ↦ refl | false ↦ refl ]

seated_shown : (m : ℕ) (tags : List TagName) (k : Client) → seated (shown m tags k) ≡ seated k
seated_shown m tags k = elim (k.number == m) as (λ b. seated (if b then record k { tags = tags } else k) ≡ seated k) [ true ↦ refl | false ↦ refl ]

seated_entered : (m index : ℕ) (k : Client) → seated (entered m index k) ≡ seat_entered m index (seated k)
seated_entered m index k =
    elim (k.number == m) as (λ b. seated (if b then record k { index = index; pending = everything } else k) ≡ (if b then record (seated k) { index = index } else seated k)) [ true ↦ refl | false ↦ refl ]

all_entered : (m index : ℕ) (ks : List Client) → map seated (map (entered m index) ks) ≡ map (seat_entered m index) (map seated ks)
all_entered m index [] = refl
all_entered m index (k ∷ ks) = λ i. seated_entered m index k i ∷ all_entered m index ks i

seated_inserted : (ks : List Client) (i : ℕ) (x : Client) → map seated (insert ks i x) ≡ insert (map seated ks) i (seated x)
seated_inserted [] zero x = refl
seated_inserted [] (suc i) x = refl
seated_inserted (k ∷ ks) zero x = refl
seated_inserted (k ∷ ks) (suc i) x = ap (λ (ss : List Seated). seated k ∷ ss) (seated_inserted ks i x)

index_seated : (m : ℕ) (ks : List Client) → position_or_len (λ (k : Client). nat_lt m k.number) ks ≡ position_or_len (λ (s : Seated). nat_lt m s.number) (map seated ks)
index_seated m [] = refl
index_seated m (k ∷ ks) = ap (λ n. cond (not (nat_lt m k.number)) (1 + n) 0) (index_seated m ks)

some_is : (o : Option Client) → is_some o ≡ is_some (option_map (λ (k : Client). k.index) o)
some_is None = refl
some_is (Some k) = refl

seated_joined : (m : ℕ) (ks : List Client) → map seated (joined m ks) ≡ seats_joined m (map seated ks)
seated_joined m ks =
    let i : ℕ = position_or_len (λ (k : Client). nat_lt m k.number) ks in
    let more : map seated (insert ks i (newcomer m)) ≡ insert (map seated ks) (position_or_len (λ (s : Seated). nat_lt m s.number) (map seated ks)) (seated (newcomer m)) =
    seated_inserted ks i (newcomer m) ∙ ap (λ n. insert (map seated ks) n (seated (newcomer m))) (index_seated m ks) in
    let there : is_some (client_of m ks) ≡ is_some (seat_of m (map seated ks)) = some_is (client_of m ks) ∙ ap is_some (sym (at_seat m ks)) in
    elim (is_some (client_of m ks)) as (λ b. map seated (if b then ks else insert ks i (newcomer m))
    ≡ (if b then map seated ks else insert (map seated ks) (position_or_len (λ (s : Seated). nat_lt m s.number) (map seated ks)) (seated (newcomer m)))) [ true ↦ refl | false ↦ more ]
    ∙ ap (λ b. if b then map seated ks else insert (map seated ks) (position_or_len (λ (s : Seated). nat_lt m s.number) (map seated ks)) (seated (newcomer m))) there

seated_moved : (m : ℕ) (move : Move) (ks : List Client) → map seated (moved m move ks) ≡ seats_moved m move (map seated ks)
seated_moved m Stay ks = refl
seated_moved m (Wait names) ks = seated_alike (at m (waits names)) (seated_at m (waits names)) ks
seated_moved m Learn ks = seated_alike (at m (λ p. fresh)) (seated_at m (λ p. fresh)) ks
seated_moved m Resume ks = seated_alike (at m cancelled) (seated_at m cancelled) ks
seated_moved m Join ks = seated_joined m ks
seated_moved m (Show tags) ks = seated_alike (shown m tags) (seated_shown m tags) ks
seated_moved m (Enter index) ks = all_entered m index ks

seated_others : (m : ℕ) (ks : List Client) → map seated (filter (is_other m) ks) ≡ filter (λ (s : Seated). not (s.number == m)) (map seated ks)
seated_others m [] = refl
seated_others m (k ∷ ks) =
    elim (k.number == m) as (λ b. map seated (if not b then k ∷ filter (is_other m) ks else filter (is_other m) ks)
    ≡ (if not b then seated k ∷ filter (λ (s : Seated). not (s.number == m)) (map seated ks) else filter (λ (s : Seated). not (s.number == m)) (map seated ks)))
    [ true ↦ seated_others m ks | false ↦ ap (λ (ss : List Seated). seated k ∷ ss) (seated_others m ks) ]

seated_staying : (m : ℕ) (a : ResponseData) (ks : List Client) → map seated (staying m a ks) ≡ seats_staying m a (map seated ks)
seated_staying m a ks =
    elim (closes a.answer.next) as (λ b. map seated (if b then filter (is_other m) ks else ks) ≡ (if b then filter (λ (s : Seated). not (s.number == m)) (map seated ks) else map seated ks))
    [ true ↦ seated_others m ks | false ↦ refl ]

pub seats_are : (m : ℕ) (r : Client → Subsystems) (a : ResponseData) (ks : List Client) → map seated (clients_after m r a ks) ≡ seats_after m a (map seated ks)
seats_are m r a ks =
    seated_moved m (move_of a) (map (notified r) (staying m a ks))
    ∙ ap (seats_moved m (move_of a)) (seated_alike (notified r) (λ k. refl) (staying m a ks) ∙ seated_staying m a ks)
