-- Clients that stand by rising number go on to.
use Rattle.std.proofs.Common.{◌≡◌, ℕ, suc, ◌+◌, ◌<◌, ◌==◌, Bool, true, false, nat_lt, List, [], ◌∷◌, Option, Some, None, is_some, map, refl, ap, sym, subst, ◌∙◌, arith, if◌then◌else◌}
use Rattle.std.specs.Prelude.{filter, insert}
use Rattle.std.specs.List.{position_or_len}
use Rattle.std.proofs.lemmas.Bool.Decides.{nat_tests}
use Rattle.idle_notes.specs.declared.pending.Pending.{Pending}
use Rattle.idle_notes.specs.declared.sets.Subsystems.{Subsystems}
use Rattle.idle_notes.specs.Notes.{everything, fresh, waits, cancelled}
use Rattle.transitions.specs.declared.reply.Move.{Move}
use Rattle.transitions.specs.declared.reply.Move.TheVariants.{Stay, Wait, Learn, Resume, Join, Show, Enter}
use Rattle.player_state.specs.declared.state.Client.{Client}
use Rattle.transitions.specs.Answers.{ResponseData, closes}
use Rattle.mpd_text.specs.declared.songs.song.TagName.{TagName}
use Rattle.connected_clients.specs.Clients.{notified, is_other, at, entered, joined, moved, newcomer, shown, staying, move_of, clients_after, AllAbove, Rising}
use Rattle.connected_clients.specs.Clients.{client_of}

above_map : (f : Client → Client) → ((k : Client) → (f k).number ≡ k.number) → (n : ℕ) (ks : List Client) → AllAbove n ks → AllAbove n (map f ks)
above_map f keeps n [] a = tt
above_map f keeps n (k ∷ ks) a = (subst (λ m. n < m) (sym (keeps k)) a.0, above_map f keeps n ks a.1)

pub rising_map : (f : Client → Client) → ((k : Client) → (f k).number ≡ k.number) → (ks : List Client) → Rising ks → Rising (map f ks)
rising_map f keeps [] r = tt
rising_map f keeps (k ∷ ks) r =
    (subst (λ m. AllAbove m (map f ks)) (sym (keeps k)) (above_map f keeps k.number ks r.0), rising_map f keeps ks r.1)

above_filter : (p : Client → Bool) (n : ℕ) (ks : List Client) → AllAbove n ks → AllAbove n (filter p ks)
above_filter p n [] a = tt
above_filter p n (k ∷ ks) a =
    elim (p k) as (λ b. AllAbove n (if b then k ∷ filter p ks else filter p ks)) [ true ↦ (a.0, above_filter p n ks a.1) | false ↦ above_filter p n ks a.1 ]

pub rising_filter : (p : Client → Bool) (ks : List Client) → Rising ks → Rising (filter p ks)
rising_filter p [] r = tt
rising_filter p (k ∷ ks) r =
    elim (p k) as (λ b. Rising (if b then k ∷ filter p ks else filter p ks))
    [ true ↦ (above_filter p k.number ks r.0, rising_filter p ks r.1) | false ↦ rising_filter p ks r.1 ]

abbrev index : ℕ → List Client → ℕ
index n ks = position_or_len (λ k. nat_lt n k.number) ks

first_more : (n : ℕ) → 1 + n ≡ suc n
first_more n = omega arith

further : (k : Client) (ks : List Client) (i : ℕ) (x : Client) → insert (k ∷ ks) (1 + i) x ≡ k ∷ insert ks i x
further k ks i x = ap (λ n. insert (k ∷ ks) n x) (first_more i)

above_insert : (a n : ℕ) → a < n → (ks : List Client) → AllAbove a ks → AllAbove a (insert ks (index n ks) (newcomer n))
above_insert a n less [] above = (less, tt)
above_insert a n less (k ∷ ks) above =
    let cases : (b : Bool) → nat_lt n k.number ≡ b → AllAbove a (insert (k ∷ ks) (index n (k ∷ ks)) (newcomer n)) =
    λ b. elim b as (λ b. nat_lt n k.number ≡ b → AllAbove a (insert (k ∷ ks) (index n (k ∷ ks)) (newcomer n))) [
      | true ↦ λ e. rw e (less, above)
      | false ↦ λ e. rw e (subst (AllAbove a) (sym (further k ks (index n ks) (newcomer n))) (above.0, above_insert a n less ks above.1))
    ] in
    cases (nat_lt n k.number) refl

all_greater : (a n : ℕ) → n < a → (ks : List Client) → AllAbove a ks → AllAbove n ks
all_greater a n less [] above = tt
all_greater a n less (k ∷ ks) above = (omega (arith, above.0), all_greater a n less ks above.1)

other_first : (n : ℕ) (k : Client) (o : Option Client) → (if k.number == n then Some k else o) ≡ None → ((k.number == n) ≡ false) × (o ≡ None)
other_first n k o h =
    let cases : (b : Bool) → (k.number == n) ≡ b → ((k.number == n) ≡ false) × (o ≡ None) =
    λ b. elim b as (λ b. (k.number == n) ≡ b → ((k.number == n) ≡ false) × (o ≡ None)) [
      | true ↦ λ e. (let found : (if k.number == n then Some k else o) ≡ Some k = rw e refl in let clash : Some k ≡ None = sym found ∙ h in cc)
      | false ↦ λ e. (e, rw e at h)
    ] in
    cases (k.number == n) refl

rising_insert : (n : ℕ) (ks : List Client) → client_of n ks ≡ None → Rising ks → Rising (insert ks (index n ks) (newcomer n))
rising_insert n [] none r = (tt, tt)
rising_insert n (k ∷ ks) none r =
    let other = other_first n k (client_of n ks) none in
    let cases : (b : Bool) → nat_lt n k.number ≡ b → Rising (insert (k ∷ ks) (index n (k ∷ ks)) (newcomer n)) =
    λ b. elim b as (λ b. nat_lt n k.number ≡ b → Rising (insert (k ∷ ks) (index n (k ∷ ks)) (newcomer n))) [
      | true ↦ λ e.
          let less : n < k.number = grind (arith, nat_tests) in
          rw e ((less, all_greater k.number n less ks r.0), r)
      | false ↦ λ e.
          let apart : (k.number == n) ≡ false = other.0 in
          let less : k.number < n = grind (arith, nat_tests) in
          rw e (subst Rising (sym (further k ks (index n ks) (newcomer n))) (above_insert k.number n less ks r.0, rising_insert n ks other.1 r.1))
    ] in
    cases (nat_lt n k.number) refl

rising_joined : (n : ℕ) (ks : List Client) → Rising ks → Rising (joined n ks)
rising_joined n ks r =
    let cases : (o : Option Client) → client_of n ks ≡ o → Rising (if is_some o then ks else insert ks (index n ks) (newcomer n)) =
    λ o. elim o as (λ o. client_of n ks ≡ o → Rising (if is_some o then ks else insert ks (index n ks) (newcomer n)))
    [ None ↦ λ e. rising_insert n ks e r | Some k ↦ λ e. r ] in
    cases (client_of n ks) refl

pub at_keeps : (n : ℕ) (f : Pending → Pending) (k : Client) → (at n f k).number ≡ k.number
at_keeps n f k = elim (k.number == n) as (λ b. (if b then record k { pending = f k.pending } else k).number ≡ k.number) [ true ↦ refl | false ↦ refl ]

pub shown_keeps : (n : ℕ) (tags : List TagName) (k : Client) → (shown n tags k).number ≡ k.number
shown_keeps n tags k = elim (k.number == n) as (λ b. (if b then record k { tags = tags } else k).number ≡ k.number) [ true ↦ refl | false ↦ refl ]

pub entered_keeps : (n index : ℕ) (k : Client) → (entered n index k).number ≡ k.number
entered_keeps n index k =
    elim (k.number == n) as (λ b. (if b then record k { index = index; pending = everything } else k).number ≡ k.number) [ true ↦ refl | false ↦ refl ]

rising_moved : (n : ℕ) (move : Move) (ks : List Client) → Rising ks → Rising (moved n move ks)
rising_moved n Stay ks r = r
rising_moved n (Wait names) ks r = rising_map (at n (waits names)) (at_keeps n (waits names)) ks r
rising_moved n Learn ks r = rising_map (at n (λ p. fresh)) (at_keeps n (λ p. fresh)) ks r
rising_moved n Resume ks r = rising_map (at n cancelled) (at_keeps n cancelled) ks r
rising_moved n Join ks r = rising_joined n ks r
rising_moved n (Show tags) ks r = rising_map (shown n tags) (shown_keeps n tags) ks r
rising_moved n (Enter index) ks r = rising_map (entered n index) (entered_keeps n index) ks r

pub rising_staying : (n : ℕ) (response : ResponseData) (ks : List Client) → Rising ks → Rising (staying n response ks)
rising_staying n response ks r =
    elim (closes response.answer.next) as (λ b. Rising (if b then filter (is_other n) ks else ks)) [ true ↦ rising_filter (is_other n) ks r | false ↦ r ]

pub rising_after : (n : ℕ) (raised : Client → Subsystems) (response : ResponseData) (ks : List Client) → Rising ks → Rising (clients_after n raised response ks)
rising_after n raised response ks r =
    rising_moved n (move_of response) (map (notified raised) (staying n response ks))
    (rising_map (notified raised) (λ k. refl) (staying n response ks) (rising_staying n response ks r))
