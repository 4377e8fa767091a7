-- A cell changes, and its key is touched on every edge.
use Rattle.std.proofs.Common.{ℕ, ◌≡◌, ◌+◌, Bool, true, false, Option, Some, length, refl, sym, ap, ◌∙◌, inl, inr, arith, ◌⊎◌}
use Rattle.pg_edges.specs.declared.key.Key.{Key}
use Rattle.pg_edges.specs.Key.{is_same_key}
use Rattle.pg_edges.specs.Edges.{is_listed, tag_of, tag_at, touched}
use Rattle.pg_edges.specs.Laws.Change.{Touch}
use Rattle.pg_edges.proofs.Orders.{is_same_key-true}
use Rattle.pg_edges.proofs.Lookups.{touch_listed, touch_fresh, touch_others}
use Rattle.pg_edges.proofs.Tags.{keeps_or_brings}
use Rattle.theory_flood.specs.Server.{Replica}
use Rattle.theory_flood.proofs.Draws.{IsFreshAt, IsAsBefore, Draws, stays}
use Rattle.theory_flood.proofs.Single.{touched_single}

module _ {C : Type 0} where
  -- only the cell at this key may change
  abbrev pub SameBut : Key → (Key → Option C) → (Key → Option C) → Type 0
  SameBut key before now = (k : Key) → is_same_key k key ≡ false → now k ≡ before k

  abbrev pub with_touched : Replica C → Key → ℕ → (Key → Option C) → Replica C
  with_touched x key t cells = record { birth = x.birth; edges = touched x.edges key t; cells = cells }

  touched_slot : (t : ℕ) (x : Replica C) (key : Key) (cells : Key → Option C) → SameBut key x.cells cells → (p b : ℕ) (k : Key) (c : C) (s : Bool) → is_same_key k key ≡ s
      → is_listed (touched x.edges key t) p b ≡ true → cells k ≡ Some c → IsFreshAt t (touched x.edges key t) p b k ⊎ IsAsBefore x (with_touched x key t cells) p b k c
  touched_slot t x key cells others p b k c true same listed cell =
      let f = touch_fresh x.edges key t p b (sym (touch_listed x.edges key t p b) ∙ listed) in
      inl (f.tag, ap (tag_at (touched x.edges key t) p b) (is_same_key-true k key same) ∙ ap tag_of f.is, f.from)
  touched_slot t x key cells others p b k c false apart listed cell =
      inr (stays x (with_touched x key t cells) p b k c (touch_others x.edges key t p b k apart) (others k apart) listed cell)

  -- the cell at the key changes, comes or goes, and a fresh tag stands at its key on every edge
  pub touch_draws : (t : ℕ) (x : Replica C) (key : Key) (cells : Key → Option C) → SameBut key x.cells cells → Draws t x (t + length x.edges) (with_touched x key t cells)
  touch_draws t x key cells others = record {
    birth = refl;
    up = omega arith;
    brings = λ p b k g h. elim (keeps_or_brings (Touch key t) x.edges p b k g h) [ inl old ↦ inl old | inr r ↦ inr (r.1, r.2) ];
    single = λ low one. touched_single x.edges key t low one;
    slots = λ p b k c listed cell. touched_slot t x key cells others p b k c (is_same_key k key) refl listed cell;
  }
