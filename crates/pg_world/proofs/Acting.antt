-- One server was given an input: it holds what the input makes of what it held, and the others are
-- as they were.
use Rattle.std.proofs.Common.{ℕ, ◌≡◌, ◌≤◌, ◌<◌, ◌+◌, ◌-◌, List, length, true, slice_index_or, slice_set, sym, ap, subst, ◌∙◌, inl, inr, arith}
use Rattle.std.proofs.lemmas.Bool.Decides.{nat_tests}
use Rattle.std.proofs.lemmas.List.{get_or-set_other, get_or-set_same, length-set}
use Rattle.pg_run.specs.theory_flood.World.{after}
use Rattle.pg_run.proofs.theory_flood.Flood.{here}
use Rattle.pg_server.specs.declared.input.Input.{Input}
use Rattle.pg_server.specs.declared.server.Server.{Server}
use Rattle.pg_server.specs.Local.{Effect, effect}
use Rattle.pg_store.specs.declared.store.Store.{Store}
use Rattle.pg_run.specs.Run.{is_server}
use Rattle.pg_world.specs.Stands.{EachStands}

pub at_least : (n s : ℕ) → is_server n s ≡ true → 1 ≤ s
at_least n s h = grind (arith, nat_tests)

pub at_most : (n s : ℕ) → is_server n s ≡ true → s ≤ n
at_most n s h = grind (arith, nat_tests)

-- a: the server before
module _ (xs : List Server) (server : ℕ) (a : Server) (asked : Input) (stores : ℕ → Store)
    (least : 1 ≤ server) (most : server ≤ length xs)
    (at : a ≡ slice_index_or xs (server - 1) a) (each : EachStands xs stores) where
  was : a.store ≡ stores server
  was =
      let own : server - 1 + 1 ≡ server = omega arith in
      ap (λ (d : Server). d.store) at ∙ each (server - 1) a (omega arith) ∙ ap stores own

  pub effect_by : effect a.store asked ≡ effect (stores server) asked
  effect_by = ap (λ (x : Store). effect x asked) was

  abbrev After : ℕ → Store
  After = after stores server (effect (stores server) asked).store

  -- e: the server behind
  module _ (e : Server) (is : e.store ≡ (effect a.store asked).store) where
    behind : (k : ℕ) (d : Server) → k < length xs → (slice_index_or (slice_set xs (server - 1) e) k d).store ≡ After (k + 1)
    behind k d low = elim (here stores server (effect (stores server) asked).store (k + 1)) [
      | inl p ↦
          let own : k ≡ server - 1 = (let z = p.0 in omega arith) in
          ap (λ (m : ℕ). (slice_index_or (slice_set xs (server - 1) e) m d).store) own
          ∙ ap (λ (x : Server). x.store) (get_or-set_same xs (server - 1) e d (omega arith))
          ∙ is ∙ ap (λ (x : Effect). x.store) effect_by ∙ sym p.1
      | inr p ↦
          ap (λ (x : Server). x.store) (get_or-set_other xs (server - 1) k e d (λ q. p.0 (omega arith)))
          ∙ each k d low ∙ sym p.1
    ]

    pub each_behind : (ys : List Server) → ys ≡ slice_set xs (server - 1) e → EachStands ys After
    each_behind ys same k d low =
        let P : List Server → Type 0 = λ zs. k < length zs → (slice_index_or zs k d).store ≡ After (k + 1) in
        subst P (sym same) (λ l. behind k d (subst (λ (m : ℕ). k < m) (length-set xs (server - 1) e) l)) low
