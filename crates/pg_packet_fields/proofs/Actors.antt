-- An actor behind all others comes last.
use Rattle.std.proofs.Common.{◌≡◌, ℕ, ◌<◌, ◌≤◌, max, cond, Some, unwrap_or, List, [], ◌∷◌, ◌++◌, ◌⊎◌, inl, inr, sym, ap, ◌∙◌, arith, Equal, Greater}
use Rattle.std.specs.Ordering.{is_eq, match_ordering, nat_cmp, ordering_then}
use Rattle.std.specs.Cmp.{nat_cmp_is}
use Rattle.std.specs.List.{AllByRecursion}
use Rattle.std.specs.Map.{lookup}
use Rattle.std.specs.BTreeMap.{is_at, insert_entry}
use Rattle.std.proofs.lemmas.Bool.{cases_lt}
use Rattle.pg_base.specs.declared.vector.Actor.{Actor}
use Rattle.pg_base.specs.Vector.{actor_cmp, number_at, raised}
use Rattle.pg_base.proofs.Vectors.{raised-more}

-- an actor that is the last one or before it
pub record IsUpTo (last a : Actor) : Type 0 where
  pub server : a.server ≤ last.server
  pub birth : a.server ≡ last.server → a.birth ≤ last.birth

-- all are
abbrev pub UpTo : Actor → List (Actor × ℕ) → Type 0
UpTo last es = AllByRecursion (λ (e : Actor × ℕ). IsUpTo last e.0) es

later_birth : (last a b : Actor) → IsUpTo last b → a.server ≤ b.server → last.server ≤ a.server
    → (last.server < a.server) ⊎ (last.birth < a.birth) → (a.server ≡ b.server) × (b.birth < a.birth)
later_birth last a b up le from (inl lt) = let most = up.server in absurd (omega (arith, le, from, lt, most))
later_birth last a b up le from (inr lt) =
    let most = up.server in
    let same : b.server ≡ last.server = omega (arith, le, from, most) in
    let few = up.birth same in
    (omega (arith, le, from, most), omega (arith, lt, few))

past : (last a b : Actor) → IsUpTo last b → last.server ≤ a.server → (last.server < a.server) ⊎ (last.birth < a.birth)
    → actor_cmp a b ≡ Greater
past last a b up from behind =
    elim (cases_lt b.server a.server) [
      | inl lt ↦ (let greater : nat_cmp a.server b.server ≡ Greater = sym (nat_cmp_is a.server b.server Greater lt) in ap (λ o. ordering_then o (nat_cmp a.birth b.birth)) greater)
      | inr le ↦ (let both = later_birth last a b up le from behind in
          let tied : nat_cmp a.server b.server ≡ Equal = sym (nat_cmp_is a.server b.server Equal both.0) in
          let greater : nat_cmp a.birth b.birth ≡ Greater = sym (nat_cmp_is a.birth b.birth Greater both.1) in
          ap (λ o. ordering_then o (nat_cmp a.birth b.birth)) tied ∙ greater)
    ]

raised_none : (a : Actor) (n : ℕ) → 1 ≤ n → raised [] a n ≡ (a, n) ∷ []
raised_none a n more =
    let none : max (number_at [] a) n ≡ n = omega arith in
    raised-more [] a n more ∙ ap (λ (m : ℕ). (a, m) ∷ []) none

raised_past : (e : Actor × ℕ) (es : List (Actor × ℕ)) (a : Actor) (n : ℕ) → 1 ≤ n → actor_cmp a e.0 ≡ Greater
    → raised (e ∷ es) a n ≡ e ∷ raised es a n
raised_past e es a n more greater =
    let other : number_at (e ∷ es) a ≡ number_at es a = ap (λ o. unwrap_or (cond (is_eq o) (Some e.1) (lookup (is_at (actor_cmp a)) es)) 0) greater in
    raised-more (e ∷ es) a n more
    ∙ ap (λ m. insert_entry actor_cmp (e ∷ es) a (max m n)) other
    ∙ ap (λ o. match_ordering o ((a, max (number_at es a) n) ∷ e ∷ es) ((e.0, max (number_at es a) n) ∷ es) (e ∷ insert_entry actor_cmp es a (max (number_at es a) n))) greater
    ∙ ap (λ xs. e ∷ xs) (sym (raised-more es a n more))

pub raised_last : (last : Actor) (known : Actor × ℕ) (es : List (Actor × ℕ)) → UpTo last es → last.server ≤ known.0.server
    → (last.server < known.0.server) ⊎ (last.birth < known.0.birth) → 1 ≤ known.1
    → raised es known.0 known.1 ≡ es ++ known ∷ []
raised_last last known [] up from behind more = raised_none known.0 known.1 more
raised_last last known (e ∷ es) up from behind more =
    raised_past e es known.0 known.1 more (past last known.0 e.0 up.0 from behind)
    ∙ ap (λ (xs : List (Actor × ℕ)). e ∷ xs) (raised_last last known es up.1 from behind more)

up_one : (last a b : Actor) → IsUpTo last b → last.server ≤ a.server → (last.server < a.server) ⊎ (last.birth < a.birth) → IsUpTo a b
up_one last a b up from (inl lt) =
    let most = up.server in
    record { server = omega (arith, from, most); birth = λ same. absurd (omega (arith, same, most, lt)) }
up_one last a b up from (inr lt) =
    let most = up.server in
    record {
      server = omega (arith, from, most);
      birth = λ same. let tied : b.server ≡ last.server = omega (arith, same, from, most) in let few = up.birth tied in omega (arith, few, lt);
    }

pub up_more : (last : Actor) (known : Actor × ℕ) (es : List (Actor × ℕ)) → UpTo last es → last.server ≤ known.0.server
    → (last.server < known.0.server) ⊎ (last.birth < known.0.birth) → UpTo known.0 (es ++ known ∷ [])
up_more last known [] up from behind = (record { server = omega arith; birth = λ same. omega arith }, tt)
up_more last known (e ∷ es) up from behind = (up_one last known.0 e.0 up.0 from behind, up_more last known es up.1 from behind)
