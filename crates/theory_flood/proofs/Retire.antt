-- A cell goes, and its key leaves every edge.
use Rattle.std.proofs.Common.{ℕ, ◌≡◌, Bool, true, false, cond, List, Option, None, Some, is_some, refl, sym, ap, ◌∙◌, inl, inr, arith, ◌⊎◌}
use Rattle.pg_edges.specs.declared.key.Key.{Key}
use Rattle.pg_edges.specs.declared.edge.Edge.{Edge}
use Rattle.pg_edges.specs.Key.{is_same_key}
use Rattle.pg_edges.specs.Edges.{is_listed, slot_at, tag_at, retired}
use Rattle.pg_edges.specs.Laws.{acknowledged}
use Rattle.pg_edges.specs.Laws.Change.{Retire}
use Rattle.pg_edges.proofs.Orders.{is_same_key-true}
use Rattle.pg_edges.proofs.Lookups.{retires}
use Rattle.pg_edges.proofs.Tags.{keeps_or_brings}
use Rattle.theory_flood.specs.Server.{Replica}
use Rattle.theory_flood.proofs.Draws.{IsFreshAt, IsAsBefore, Draws, stays}
use Rattle.theory_flood.proofs.Touch.{SameBut}
use Rattle.theory_flood.proofs.Single.{fewer_single, slot_listed}

listed_by : (c : Bool) (slot new : Option (Option ℕ)) → new ≡ cond c (acknowledged slot) slot → is_some new ≡ is_some slot
listed_by true None new e = ap (λ (o : Option (Option ℕ)). is_some o) e
listed_by true (Some t) new e = ap (λ (o : Option (Option ℕ)). is_some o) e
listed_by false slot new e = ap (λ (o : Option (Option ℕ)). is_some o) e

-- no edge goes
pub retired_listed : (es : List Edge) (key : Key) (p b : ℕ) → is_listed (retired es key) p b ≡ is_listed es p b
retired_listed es key p b = slot_listed (retired es key) p b key ∙ listed_by (is_same_key key key) (slot_at es p b key) (slot_at (retired es key) p b key) (retires es key p b key) ∙ sym (slot_listed es p b key)

module _ {C : Type 0} where
  abbrev pub with_retired : Replica C → Key → (Key → Option C) → Replica C
  with_retired x key cells = record { birth = x.birth; edges = retired x.edges key; cells = cells }

  retired_slot : (t : ℕ) (x : Replica C) (key : Key) (cells : Key → Option C) → SameBut key x.cells cells → cells key ≡ None → (p b : ℕ) (k : Key) (c : C) (s : Bool) → is_same_key k key ≡ s
      → is_listed (retired x.edges key) p b ≡ true → cells k ≡ Some c → IsFreshAt t (retired x.edges key) p b k ⊎ IsAsBefore x (with_retired x key cells) p b k c
  retired_slot t x key cells others none p b k c true same listed cell = absurd (let w : None ≡ Some c = sym none ∙ ap cells (sym (is_same_key-true k key same)) ∙ cell in cc)
  retired_slot t x key cells others none p b k c false apart listed cell =
      inr (stays x (with_retired x key cells) p b k c (retires x.edges key p b k ∙ ap (λ z. cond z (acknowledged (slot_at x.edges p b k)) (slot_at x.edges p b k)) apart) (others k apart) listed cell)

  stood : (x : Replica C) (key : Key) (p b : ℕ) (k : Key) (g : ℕ) → tag_at (retired x.edges key) p b k ≡ Some g → tag_at x.edges p b k ≡ Some g
  stood x key p b k g h = elim (keeps_or_brings (Retire key) x.edges p b k g h) [ inl old ↦ old | inr r ↦ absurd r ]

  -- the cell at the key goes, and the key with it
  pub retire_draws : (t : ℕ) (x : Replica C) (key : Key) (cells : Key → Option C) → SameBut key x.cells cells → cells key ≡ None → Draws t x t (with_retired x key cells)
  retire_draws t x key cells others none = record {
    birth = refl;
    up = omega arith;
    brings = λ p b k g h. inl (stood x key p b k g h);
    single = λ low one. fewer_single x.edges (retired x.edges key) (stood x key) one;
    slots = λ p b k c listed cell. retired_slot t x key cells others none p b k c (is_same_key k key) refl listed cell;
  }
