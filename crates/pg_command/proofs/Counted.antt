-- The words of a node: its server among those that are counted behind it.
use Rattle.std.proofs.Common.{ℕ, ◌≡◌, ◌≤◌, ◌<◌, ◌^◌, ◌∙◌, List, [], ◌∷◌, ap, arith, decimal, get_or, inl, inr, length, map, refl, sym, subst}
use Rattle.std.proofs.lemmas.Bool.{cases_lt}
use Rattle.std.proofs.lemmas.Fmt.{decimal_injective}
use Rattle.std.specs.Global.{Global}
use Rattle.std.specs.Prelude.{String}
use Rattle.std.specs.String.{string_bytes}
use Rattle.pg_command.specs.Words.{IsAmong, IsFaultOfNode, IsOneOf, IsServerOf}
use Rattle.pg_sched.specs.Schedule.{IsCount}

among : (server servers n : ℕ) → servers ≡ n → IsCount n → IsOneOf server servers → server ≤ n
among server servers n same count one = elim one [
  | inl none ↦ absurd (let least = count.0 in omega arith)
  | inr more ↦ elim more [
    | inl many ↦ absurd (let most = count.1 in omega arith)
    | inr few ↦ omega arith
  ]
]

pub is_among : (words : List (String Global)) (word : String Global) (bytes : List ℕ) (server servers : ℕ)
    → 1 ≤ length words
    → word ≡ get_or words 0 word
    → bytes ≡ string_bytes word
    → bytes ≡ decimal servers
    → servers < 2 ^ 32
    → IsOneOf server servers
    → IsAmong server (map string_bytes words)
is_among [] word bytes server servers long is same found few one = absurd (omega arith)
is_among (x ∷ xs) word bytes server servers long is same found few one = λ n count e.
    let most = count.1 in
    let again : decimal servers ≡ decimal n = sym found ∙ same ∙ ap string_bytes is ∙ e in
    among server servers n (decimal_injective servers n (omega arith) (omega arith) again) count one

counted : (server servers : ℕ) → (IsCount servers → server ≤ servers) → IsOneOf server servers
counted server servers h = elim (cases_lt servers 1) [
  | inl small ↦ inl (omega arith)
  | inr least ↦ elim (cases_lt 64 servers) [
    | inl many ↦ inr (inl many)
    | inr most ↦ inr (inr (h (least, most)))
  ]
]

pub one_of : (words : List (String Global)) (word : String Global) (bytes : List ℕ) (server servers : ℕ)
    → 1 ≤ length words
    → word ≡ get_or words 0 word
    → bytes ≡ string_bytes word
    → bytes ≡ decimal servers
    → IsAmong server (map string_bytes words)
    → IsOneOf server servers
one_of [] word bytes server servers long is same found h = absurd (omega arith)
one_of (x ∷ xs) word bytes server servers long is same found h =
    let e : string_bytes x ≡ decimal servers = sym (ap string_bytes is) ∙ sym same ∙ found in
    counted server servers (λ count. h servers count e)

-- a server that is none of those counted behind it is the first word at fault
none_among : (rest : List (List ℕ)) (server : ℕ) → server < 2 ^ 64 → (IsAmong server rest → ⊥)
    → IsServerOf rest (decimal server)
    → ⊥
none_among rest server few none h =
    let most = h.count.1 in
    let P : ℕ → Type 0 = λ n. IsAmong n rest in
    let same = decimal_injective h.server server (omega arith) few (sym h.spelled) in
    none (subst P same h.among)

pub not_among : (words rest : List (List ℕ)) (server : ℕ) → words ≡ decimal server ∷ rest
    → server < 2 ^ 64
    → (IsAmong server rest → ⊥)
    → IsFaultOfNode words 2
not_among words rest server is few none =
    let P : List (List ℕ) → Type 0 = λ ws. IsFaultOfNode ws 2 in
    subst P (sym is) (inl (none_among rest server few none, refl))
