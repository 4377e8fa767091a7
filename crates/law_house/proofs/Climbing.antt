-- Steps up, as the rules count them and in words of their own; and what a cycle is.
use Rattle.std.proofs.Common.{◌≡◌, ℕ, zero, suc, ◌<◌, ◌+◌, true, not, refl, sym, ap, ◌∙◌, subst, arith, inl, inr}
use Rattle.std.proofs.lemmas.Bool.{and_from, and_parts, cases_lt, not_from_false}
use Rattle.pg_run.specs.pg_base.declared.id.FileId.{FileId}
use Rattle.pg_run.specs.pg_house.Cycles.{above, climb, is_inner, is_live_own}
use Rattle.pg_run.specs.pg_house.Placing.{place_at, place_of}
use Rattle.pg_run.specs.pg_house.Work.{is_root}
use Rattle.pg_run.specs.pg_names.Names.{NamesValue, is_dir}
use Rattle.pg_run.specs.pg_register.Place.{root}
use Rattle.pg_run.proofs.pg_house.AllClimb.{above_one, climb_add, cycle_lost, inner_below}
use Rattle.pg_run.proofs.pg_house.NoCycles.{inner_parts}
use Rattle.pg_run.proofs.pg_house.Truths.{chosen_true}
use Rattle.law_house.specs.Standing.{IsInCycle, LeadsTo, StandsIn}

module _ (s : NamesValue) where
  -- ---- one step

  pub stands : (d : FileId) → is_inner s d ≡ true → StandsIn s d (above s d)
  stands d h =
      let parts = inner_parts s d h in
      let live = (and_parts (not (is_root d)) _ (and_parts (is_dir d) _ h).1).1 in
      record {
        own = parts.held.0;
        held = parts.held.1;
        kind = parts.dir;
        other = parts.other;
        live = ap is_live_own (sym parts.held.1) ∙ live;
        here = ap (λ o. (place_of o).parent) (sym parts.held.1)
            ∙ sym (chosen_true (is_inner s d) (place_at s d).parent root h);
      }

  pub inner_of : (d p : FileId) → StandsIn s d p → is_inner s d ≡ true
  inner_of d p k =
      and_from (is_dir d) _ k.kind
      (and_from (not (is_root d)) _ (not_from_false (is_root d) k.other) (ap is_live_own k.held ∙ k.live))

  pub above_is : (d p : FileId) → StandsIn s d p → above s d ≡ p
  above_is d p k =
      chosen_true (is_inner s d) (place_at s d).parent root (inner_of d p k)
      ∙ ap (λ o. (place_of o).parent) k.held ∙ k.here

  -- ---- many steps

  pub climbed : (n : ℕ) (d top : FileId) → LeadsTo s n d top → climb s n d ≡ top
  climbed zero d top h = h
  climbed (suc n) d top h = ap (climb s n) (above_is d h.0 h.1) ∙ climbed n h.0 top h.2

  pub leads : (n : ℕ) (d : FileId) → ((i : ℕ) → i < n → is_inner s (climb s i d) ≡ true)
      → LeadsTo s n d (climb s n d)
  leads zero d inner = refl
  leads (suc n) d inner =
      (above s d, stands d (inner 0 (omega arith)), leads n (above s d) (λ i lt. inner (suc i) (omega arith)))

  -- ---- round a cycle

  -- so many steps up, and one, lead back
  pub record Round (k : ℕ) (e : FileId) : Type 0 where
    pub inner : is_inner s e ≡ true
    pub back : climb s (suc k) e ≡ e

  pub round_of : (e : FileId) (c : IsInCycle s e) → Round c.0 e
  round_of e c = record { inner = inner_of e c.1.0 c.1.1; back = climbed (suc c.0) e e c.1 }

  module _ (k : ℕ) (e : FileId) (r : Round k e) where
    pub all_inner : (j : ℕ) → is_inner s (climb s j e) ≡ true
    all_inner j = inner_below s j j e (cycle_lost s j k e r.inner r.back)

    pub in_cycle : IsInCycle s e
    in_cycle = (k, subst (LeadsTo s (suc k) e) r.back (leads (suc k) e (λ i lt. all_inner i)))

    -- each that is come to is a member of the same cycle
    pub round_at : (i : ℕ) → Round k (climb s i e)
    round_at i =
        let swap : i + suc k ≡ suc k + i = omega arith in
        record {
          inner = all_inner i;
          back = sym (climb_add s i (suc k) e) ∙ ap (λ n. climb s n e) swap
              ∙ climb_add s (suc k) i e ∙ ap (climb s i) r.back;
        }

    abbrev Within : ℕ → Type 0
    Within i = (j : ℕ) × (j < suc k) × (climb s i e ≡ climb s j e)

    one_on : (i : ℕ) → Within i → Within (suc i)
    one_on i w =
        let one : suc i ≡ i + 1 = omega arith in
        let up : climb s (suc i) e ≡ climb s (w.0 + 1) e =
        ap (λ n. climb s n e) one ∙ above_one s i e ∙ ap (above s) w.2 ∙ sym (above_one s w.0 e) in
        elim (cases_lt w.0 k) [
          | inl before ↦ (w.0 + 1, omega (arith, before), up)
          | inr after ↦
              let last : w.0 + 1 ≡ suc k = let lt = w.1 in omega arith in
              (0, omega arith, up ∙ ap (λ n. climb s n e) last ∙ r.back)
        ]

    -- and no more than these are come to
    pub within : (i : ℕ) → Within i
    within zero = (0, omega arith, refl)
    within (suc i) = one_on i (within i)

    -- behind so many steps it is come to again
    pub again : (m : ℕ) → (j : ℕ) × (climb s (m + j) e ≡ e)
    again zero = (0, refl)
    again (suc m) =
        let a = again m in
        let sum : suc m + (a.0 + k) ≡ (m + a.0) + suc k = omega arith in
        (a.0 + k, ap (λ n. climb s n e) sum ∙ climb_add s (m + a.0) (suc k) e ∙ ap (climb s (suc k)) a.1 ∙ r.back)
