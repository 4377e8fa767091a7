-- Of the root each server lists each other one at the start.
use Rattle.std.proofs.Common.{ℕ, zero, suc, ◌≡◌, ◌≤◌, ◌==◌, Bool, true, false, cond, is_some, List, Option, Some, refl, ap, ◌∙◌, arith}
use Rattle.std.proofs.lemmas.Bool.{eqb-true}
use Rattle.std.proofs.lemmas.Bool.Decides.{nat_tests}
use Rattle.pg_edges.specs.declared.key.Key.{Key}
use Rattle.pg_edges.specs.Edges.{is_listed, keys_at, keys_if_born, put_edge}
use Rattle.pg_edges.proofs.Lookups.{puts}
use Rattle.pg_cells.specs.pg_replica.Root.{clean_edge, clean_edges}

less : (m j k : ℕ) → j ≡ suc k → m ≤ j → (m == j) ≡ false → m ≤ k
less m j k is le other = grind (arith, nat_tests)

put_listed : (s k m : ℕ) (t u : Bool) → (suc k == s) ≡ t → (m == suc k) ≡ u → m ≤ suc k → (m == s) ≡ false
    → (m ≤ k → is_listed (clean_edges s k) m 1 ≡ true)
    → is_listed (cond t (clean_edges s k) (put_edge (clean_edges s k) (clean_edge (suc k)))) m 1 ≡ true
put_listed s k m true u same at le apart rest =
    rest (less m (suc k) k refl le (ap (λ (x : ℕ). m == x) (eqb-true (suc k) s same) ∙ apart))
put_listed s k m false true other at le apart rest =
    ap (λ (o : Option (List (Key × ℕ))). is_some o) (puts (clean_edges s k) (clean_edge (suc k)) m 1)
    ∙ ap (λ (c : Bool). is_some (cond c (keys_if_born (Some (clean_edge (suc k))) 1) (keys_at (clean_edges s k) m 1))) at
put_listed s k m false false other at le apart rest =
    ap (λ (o : Option (List (Key × ℕ))). is_some o) (puts (clean_edges s k) (clean_edge (suc k)) m 1)
    ∙ ap (λ (c : Bool). is_some (cond c (keys_if_born (Some (clean_edge (suc k))) 1) (keys_at (clean_edges s k) m 1))) at
    ∙ rest (less m (suc k) k refl le at)

pub none_least : (m : ℕ) → 1 ≤ m → m ≤ zero → ⊥
none_least m least le = omega arith

pub listed_first : (s k m : ℕ) → 1 ≤ m → m ≤ k → (m == s) ≡ false → is_listed (clean_edges s k) m 1 ≡ true
listed_first s zero m least le apart = absurd (none_least m least le)
listed_first s (suc k) m least le apart =
    put_listed s k m (suc k == s) (m == suc k) refl refl le apart (λ less. listed_first s k m least less apart)
