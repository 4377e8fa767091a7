-- An edge goes.
use Rattle.std.proofs.Common.{ℕ, ◌≡◌, Bool, true, false, cond, ◌==◌, ◌&&◌, List, Option, None, Some, is_some, option_map, refl, sym, ap, ◌∙◌, inl, inr, arith, ◌⊎◌}
use Rattle.pg_edges.specs.declared.key.Key.{Key}
use Rattle.pg_edges.specs.Keys.{tag_in}
use Rattle.pg_edges.specs.Edges.{keys_at, is_listed, tag_at, unlinked}
use Rattle.pg_edges.specs.Laws.Change.{Unlink}
use Rattle.pg_edges.proofs.Lookups.{unlinks}
use Rattle.pg_edges.proofs.Tags.{keeps_or_brings}
use Rattle.theory_flood.specs.Server.{Replica}
use Rattle.theory_flood.proofs.Draws.{IsFreshAt, IsAsBefore, Draws, stays}
use Rattle.theory_flood.proofs.Single.{fewer_single}

module _ {C : Type 0} where
  abbrev pub with_unlinked : Replica C → ℕ → ℕ → Replica C
  with_unlinked x peer birth = record { birth = x.birth; edges = unlinked x.edges peer birth; cells = x.cells }

  unlinked_slot : (t : ℕ) (x : Replica C) (peer birth p b : ℕ) (k : Key) (c : C) (s : Bool) → (p == peer && b == birth) ≡ s → is_listed (unlinked x.edges peer birth) p b ≡ true → x.cells k ≡ Some c
      → IsFreshAt t (unlinked x.edges peer birth) p b k ⊎ IsAsBefore x (with_unlinked x peer birth) p b k c
  unlinked_slot t x peer birth p b k c true e listed cell =
      let gone : keys_at (unlinked x.edges peer birth) p b ≡ None = unlinks x.edges peer birth p b ∙ ap (λ z. cond z None (keys_at x.edges p b)) e in
      absurd (let w : false ≡ true = sym (ap (λ (o : Option (List (Key × ℕ))). is_some o) gone) ∙ listed in cc)
  unlinked_slot t x peer birth p b k c false e listed cell =
      inr (stays x (with_unlinked x peer birth) p b k c (ap (option_map (λ (q : List (Key × ℕ)). tag_in q k)) (unlinks x.edges peer birth p b ∙ ap (λ z. cond z None (keys_at x.edges p b)) e)) refl listed cell)

  stood : (x : Replica C) (peer birth p b : ℕ) (k : Key) (g : ℕ) → tag_at (unlinked x.edges peer birth) p b k ≡ Some g → tag_at x.edges p b k ≡ Some g
  stood x peer birth p b k g h = elim (keeps_or_brings (Unlink peer birth) x.edges p b k g h) [ inl old ↦ old | inr r ↦ absurd r ]

  -- the edge to this birth of the peer goes, where it is listed
  pub unlink_draws : (t : ℕ) (x : Replica C) (peer birth : ℕ) → Draws t x t (with_unlinked x peer birth)
  unlink_draws t x peer birth = record {
    birth = refl;
    up = omega arith;
    brings = λ p b k g h. inl (stood x peer birth p b k g h);
    single = λ low one. fewer_single x.edges (unlinked x.edges peer birth) (stood x peer birth) one;
    slots = λ p b k c listed cell. unlinked_slot t x peer birth p b k c (p == peer && b == birth) refl listed cell;
  }
