-- What a change does to one replica's edges and cells, whichever file it is of and whoever holds
-- it.
use Rattle.std.proofs.Common.{ℕ, ◌≡◌, ◌<◌, ◌≤◌, true, List, Some, refl, sym, ap, ◌∙◌, inl, inr, arith, ◌⊎◌}
use Rattle.pg_edges.specs.declared.key.Key.{Key}
use Rattle.pg_edges.specs.declared.edge.Edge.{Edge}
use Rattle.pg_edges.specs.Edges.{is_listed, slot_at, tag_of, tag_at}
use Rattle.theory_flood.specs.Server.{Replica}
use Rattle.theory_flood.proofs.Single.{IsBelow, IsSingle, listed_as}

-- a tag from t on stands at the key
abbrev pub IsFreshAt : ℕ → List Edge → ℕ → ℕ → Key → Type 0
IsFreshAt t es peer birth key = (g : ℕ) × (tag_at es peer birth key ≡ Some g) × (t ≤ g)

module _ {C : Type 0} where
  -- the edge was there, and its key and cell were as they are
  abbrev pub IsAsBefore : Replica C → Replica C → ℕ → ℕ → Key → C → Type 0
  IsAsBefore x y peer birth key c = (is_listed x.edges peer birth ≡ true) × (x.cells key ≡ Some c) × (tag_at y.edges peer birth key ≡ tag_at x.edges peer birth key)

  -- A change in which the tags from t on and below u are given out, and no answer is heard. On each
  -- edge, each key that has a cell has such a tag, or is as it was; no other tags are new, and each
  -- stands once
  pub record Draws (t : ℕ) (x : Replica C) (u : ℕ) (y : Replica C) : Type 0 where
    pub birth : y.birth ≡ x.birth
    pub up : t ≤ u
    pub brings : (peer birth : ℕ) (key : Key) (g : ℕ) → tag_at y.edges peer birth key ≡ Some g → (tag_at x.edges peer birth key ≡ Some g) ⊎ ((t ≤ g) × (g < u))
    pub single : IsBelow t x.edges → IsSingle x.edges → IsSingle y.edges
    pub slots : (peer birth : ℕ) (key : Key) (c : C) → is_listed y.edges peer birth ≡ true → y.cells key ≡ Some c → IsFreshAt t y.edges peer birth key ⊎ IsAsBefore x y peer birth key c

  -- nothing changes
  pub Draws-refl : (t : ℕ) (x : Replica C) → Draws t x t x
  Draws-refl t x = record { birth = refl; up = omega arith; brings = λ p b k g h. inl h; single = λ low s. s; slots = λ p b k c l h. inr (l, h, refl) }

  -- what stays below
  pub Draws-below : {t u : ℕ} {x y : Replica C} → Draws t x u y → IsBelow t x.edges → IsBelow u y.edges
  Draws-below {t} {u} {x} {y} d low p b k g h =
      let up = d.up in
      elim (d.brings p b k g h) [ inl old ↦ let lt = low p b k g old in omega arith | inr r ↦ r.1 ]

  -- one change after another
  pub Draws-trans : {t u v : ℕ} {x y z : Replica C} → Draws t x u y → Draws u y v z → Draws t x v z
  Draws-trans {t} {u} {v} {x} {y} {z} d e =
      let low = d.up in
      let high = e.up in
      record {
        birth = e.birth ∙ d.birth;
        up = omega arith;
        brings = λ p b k g h. elim (e.brings p b k g h) [
          | inl old ↦ elim (d.brings p b k g old) [
            | inl older ↦ inl older
            | inr r ↦ let le : t ≤ g = r.0 in let lt : g < u = r.1 in inr (omega arith, omega arith)
          ]
          | inr r ↦ let le : u ≤ g = r.0 in let lt : g < v = r.1 in inr (omega arith, omega arith)
        ];
        single = λ below one. e.single (Draws-below d below) (d.single below one);
        slots = λ p b k c l h. elim (e.slots p b k c l h) [
          | inl f ↦ let le : u ≤ f.0 = f.2 in inl (f.0, f.1, omega arith)
          | inr r ↦ elim (d.slots p b k c r.0 r.1) [ inl f ↦ inl (f.0, r.2 ∙ f.1, f.2) | inr o ↦ inr (o.0, o.1, r.2 ∙ o.2) ]
        ];
      }

-- a slot that stands as before, with its cell
pub stays : {C : Type 0} (x y : Replica C) (peer birth : ℕ) (key : Key) (c : C) → slot_at y.edges peer birth key ≡ slot_at x.edges peer birth key → y.cells key ≡ x.cells key
    → is_listed y.edges peer birth ≡ true → y.cells key ≡ Some c → IsAsBefore x y peer birth key c
stays x y peer birth key c e f listed cell = (sym (listed_as x.edges y.edges peer birth key e) ∙ listed, sym f ∙ cell, ap tag_of e)
