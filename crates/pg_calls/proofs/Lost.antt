-- What is lost, and the clock; and the view that comes next.
use Rattle.std.proofs.Common.{ℕ, zero, suc, ◌≡◌, ◌==◌, ◌+◌, ◌-◌, Bool, true, false, Ok, refl, sym, arith}
use Rattle.std.proofs.lemmas.Bool.{eq-eqb, eqb-false, eqb-true, ne_eqb}
use Rattle.pg_base.specs.declared.id.FileId.{FileId}
use Rattle.pg_cells.specs.pg_store.declared.store.Store.{Store}
use Rattle.pg_cells.specs.pg_store.Store.{is_before_clock_end}
use Rattle.pg_checks.specs.pg_lookup.Walk.{and_then}
use Rattle.pg_checks.specs.Checks.{in_time}
use Rattle.pg_calls.specs.Demoting.{unless_root}
use Rattle.pg_calls.specs.Forgetting.{lost_at, unless_full}
use Rattle.pg_calls.proofs.Checked.{behind}
use Rattle.pg_calls.proofs.InTime.{time_by}

pub lost_in_time : (store : Store) (id found : FileId) → lost_at store id ≡ Ok found → is_before_clock_end store ≡ true
lost_in_time store id found h =
    let t = behind (and_then (in_time store id) unless_root) (unless_full store) found h in
    let s = behind (in_time store id) unless_root t.0 t.1 in
    time_by (is_before_clock_end store) id s.0 s.1

-- ---- views

no_next : (n v : ℕ) → n ≡ 0 → n ≡ v + 1 → ⊥
no_next n v a b = absurd (omega arith)

pub no_view : (n v : ℕ) → (n == 0) ≡ true → false ≡ (n == v + 1)
no_view n v none = sym (ne_eqb n (v + 1) (no_next n v (eqb-true n 0 none)))

above : (n u v : ℕ) → u ≡ v → n ≡ v + 1 → n - 1 ≡ u
above n u v same e = omega arith

below : (n u v : ℕ) → u ≡ v → (n ≡ 0 → ⊥) → n - 1 ≡ u → n ≡ v + 1
below zero u v same k e = absurd (k refl)
below (suc m) u v same k e = omega arith

pub next_view : (n u v : ℕ) → u ≡ v → (n == 0) ≡ false → (n - 1 == u) ≡ (n == v + 1)
next_view n u v same some = by (n == v + 1) refl
  where
    by : (t : Bool) → (n == v + 1) ≡ t → (n - 1 == u) ≡ t
    by true e = eq-eqb (n - 1) u (above n u v same (eqb-true n (v + 1) e))
    by false e = ne_eqb (n - 1) u (λ h. eqb-false n (v + 1) e (below n u v same (eqb-false n 0 some) h))
