-- Facts of bytes that may be unknown.
use Rattle.std.proofs.Common.{ℕ, List, Option, Some, None, IfSome, Result, Ok, Err, IfOk}

pub known_map : {P Q : List ℕ → Type 0} (known : Option (List ℕ)) → ((bytes : List ℕ) → P bytes → Q bytes) → IfSome known P → IfSome known Q
known_map None f h = h
known_map (Some bytes) f h = f bytes h

pub known_map2 : {P Q R : List ℕ → Type 0} (known : Option (List ℕ)) → ((bytes : List ℕ) → P bytes → Q bytes → R bytes) → IfSome known P → IfSome known Q → IfSome known R
known_map2 None f h k = h
known_map2 (Some bytes) f h k = f bytes h k

pub known_map4 : {P Q R S T : List ℕ → Type 0} (known : Option (List ℕ)) → ((bytes : List ℕ) → P bytes → Q bytes → R bytes → S bytes → T bytes)
    → IfSome known P → IfSome known Q → IfSome known R → IfSome known S → IfSome known T
known_map4 None f h k m n = h
known_map4 (Some bytes) f h k m n = f bytes h k m n

pub known_map3 : {P Q R S : List ℕ → Type 0} (known : Option (List ℕ)) → ((bytes : List ℕ) → P bytes → Q bytes → R bytes → S bytes)
    → IfSome known P → IfSome known Q → IfSome known R → IfSome known S
known_map3 None f h k m = h
known_map3 (Some bytes) f h k m = f bytes h k m

pub ok_map : {X E : Type 0} {P Q : X → Type 0} (r : Result X E) → ((x : X) → P x → Q x) → IfOk r P → IfOk r Q
ok_map (Ok x) f h = f x h
ok_map (Err e) f h = h
