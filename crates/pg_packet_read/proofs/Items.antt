-- Kinds by their numbers are fields.
use Rattle.std.proofs.Common.{◌≡◌, ℕ, zero, suc, ◌+◌, Bool, true, false, cond, eqb, List, [], ◌∷◌, Option, Some, None, Ok, refl, sym, ap, ◌∙◌, arith}
use Rattle.std.proofs.lemmas.Bool.{eqb-true}
use Rattle.std.specs.Prelude.{slice_get}
use Rattle.pg_codec.specs.Laws.{Any, HasWidth, IsField}
use Rattle.pg_codec.specs.Reading.{number_at}
use Rattle.pg_codec.specs.Spelling.{number_bytes}
use Rattle.pg_codec.proofs.Binding.{checked_is, ok_is}
use Rattle.pg_packet_fields.specs.Faults.{of_packet}
use Rattle.pg_packet_fields.specs.declared.error.PacketError.{PacketError}
use Rattle.pg_packet_fields.proofs.Joining.{nothing_is}
use Rattle.pg_packet_fields.proofs.Plain.{byte_is}
use Rattle.pg_packet_read.specs.Numbered.{item_at, numbered, or_bad}

-- each has the next number
abbrev pub are_numbered : {X : Type 0} → (X → ℕ) → ℕ → List X → Bool
are_numbered number from [] = true
are_numbered number from (x ∷ xs) = cond (eqb (number x) from) (are_numbered number (suc from) xs) false

-- the first has this one, and the others the next
numbered_parts : {X : Type 0} (number : X → ℕ) (from : ℕ) (x : X) (xs : List X) (t : Bool) → eqb (number x) from ≡ t
    → cond t (are_numbered number (suc from) xs) false ≡ true → (number x ≡ from) × (are_numbered number (suc from) xs ≡ true)
numbered_parts number from x xs true is are = (eqb-true (number x) from is, are)
numbered_parts number from x xs false is are = absurd cc

one_of : {X : Type 0} (x y : X) → Some x ≡ Some y → x ≡ y
one_of x y e = cc

number_there : {X : Type 0} (number : X → ℕ) (from : ℕ) (xs : List X) (i : ℕ) (x : X) → are_numbered number from xs ≡ true → slice_get xs i ≡ Some x
    → number x ≡ i + from
number_there number from [] i x are e = absurd cc
number_there number from (y ∷ ys) zero x are e =
    let same : y ≡ x = one_of y x e in
    let parts = numbered_parts number from y ys (eqb (number y) from) refl are in
    let first : number x ≡ from = ap number (sym same) ∙ parts.0 in
    omega (arith, first)
number_there number from (y ∷ ys) (suc i) x are e =
    let parts = numbered_parts number from y ys (eqb (number y) from) refl are in
    let later = number_there number (suc from) ys i x parts.1 e in
    omega (arith, later)

number_is : {X : Type 0} (number : X → ℕ) (xs : List X) (n : ℕ) (x : X) → are_numbered number 1 xs ≡ true → numbered xs n ≡ Some x → number x ≡ n
number_is number xs zero x are e = absurd cc
number_is number xs (suc i) x are e = let there = number_there number 1 xs i x are e in omega (arith, there)

not_bad : {X : Type 0} (place : ℕ) (o : Option X) (x : X) → or_bad place o ≡ Ok x → o ≡ Some x
not_bad place None x e = absurd cc
not_bad place (Some y) x e = ap (λ z. Some z) (ok_is PacketError y x e)

pub item_is : {X : Type 0} (items : List X) (number : X → ℕ) → are_numbered number 1 items ≡ true → ((x : X) → numbered items (number x) ≡ Some x)
    → ((x : X) → HasWidth 1 (number x)) → IsField Any (λ x. number_bytes 1 (number x)) (item_at items)
unfolding item_at
item_is items number are there width = checked_is (λ place n. or_bad place (numbered items n)) (HasWidth 1) (number_bytes 1) (of_packet (number_at 1)) Any (λ x. number_bytes 1 (number x))
    (λ place n x fits e. (tt, ap (number_bytes 1) (number_is number items n x are (not_bad place (numbered items n) x e))))
    (λ x fits. (number x, width x, λ place. ap (or_bad place) (there x))) byte_is

-- a value of a kind with no fields
pub alone_is : {E : Type 0} → IsField {E = E} (λ (x : Unit {0}). Unit {0}) (λ (x : Unit {0}). []) (λ from. Ok (tt, from))
alone_is {E = E} = nothing_is {E = E} (λ (x : Unit {0}). Unit {0}) (λ (x : Unit {0}). []) tt tt refl (λ x fits. refl)
