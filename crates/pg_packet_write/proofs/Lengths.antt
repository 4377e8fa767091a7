-- How long numbers and names are.
use Rattle.std.proofs.Common.{◌≡◌, ℕ, ◌+◌, ◌/◌, ◌%◌, ◌^◌, ◌<◌, ◌≤◌, List, [], ◌∷◌, length, decimal, ap, ◌∙◌, arith, inl, inr}
use Rattle.std.proofs.lemmas.List.{length-append}
use Rattle.std.proofs.lemmas.Fmt.{decimal_digit, decimal_step, length-decimal-le}
use Rattle.pg_register.specs.Place.{IsPlaceName}
use Rattle.pg_words.proofs.WordBytes.{spelling_word}

pub one_digit : (n : ℕ) → n < 10 → length (decimal n) ≡ 1
one_digit n lt = ap length (decimal_digit n lt)

pub digit_more : (n : ℕ) → 10 ≤ n → n < 2 ^ 64 → length (decimal n) ≡ length (decimal (n / 10)) + 1
digit_more n le lt = ap length (decimal_step n le lt) ∙ length-append (decimal (n / 10)) ((48 + n % 10) ∷ [])

pub digits_few : (n : ℕ) → n < 2 ^ 64 → length (decimal n) ≤ 20
digits_few n lt = length-decimal-le 20 n (omega arith) (omega arith) lt

pub name_short : (name : List ℕ) → IsPlaceName name → length name < 2 ^ 8
name_short name (inl e) = let none = ap length e in omega (arith, none)
name_short name (inr (inl client)) = let few = client.most in omega (arith, few)
name_short name (inr (inr named)) =
    let few = (spelling_word named.0 named.1).few in
    let long = ap length named.2 in
    omega (arith, few, long)
