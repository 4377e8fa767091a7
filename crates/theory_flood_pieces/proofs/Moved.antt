-- Edges on which keys are touched.
use Rattle.std.proofs.Common.{ℕ, ◌≡◌, ◌<◌, ◌≤◌, ◌+◌, Bool, true, false, List, length, Some, refl, sym, ap, ◌∙◌, inl, inr, arith, ◌⊎◌}
use Rattle.pg_edges.specs.declared.key.Key.{Key}
use Rattle.pg_edges.specs.declared.edge.Edge.{Edge}
use Rattle.pg_edges.specs.Key.{is_same_key}
use Rattle.pg_edges.specs.Edges.{is_listed, tag_at, tag_of, touched}
use Rattle.pg_edges.specs.Laws.Change.{Touch}
use Rattle.pg_edges.proofs.Lookups.{touch_fresh, touch_listed, touch_others}
use Rattle.pg_edges.proofs.Orders.{is_same_key-true}
use Rattle.pg_edges.proofs.Tags.{keeps_or_brings}
use Rattle.theory_flood.proofs.Draws.{IsFreshAt}

-- The edges after a change in which the tags from t on and below u are given out, and no key goes:
-- each key has such a tag or its own
pub record Moved (t u : ℕ) (es fs : List Edge) : Type 0 where
  pub up : t ≤ u
  pub listed : (peer birth : ℕ) → is_listed fs peer birth ≡ is_listed es peer birth
  pub brings : (peer birth : ℕ) (key : Key) (g : ℕ) → tag_at fs peer birth key ≡ Some g → (tag_at es peer birth key ≡ Some g) ⊎ ((t ≤ g) × (g < u))
  pub stood : (peer birth : ℕ) (key : Key) → is_listed fs peer birth ≡ true → IsFreshAt t fs peer birth key ⊎ (tag_at fs peer birth key ≡ tag_at es peer birth key)

pub Moved-refl : (t u : ℕ) (es : List Edge) → t ≤ u → Moved t u es es
Moved-refl t u es up = record { up = up; listed = λ p b. refl; brings = λ p b k g h. inl h; stood = λ p b k h. inr refl }

-- a fresh tag stays, or a fresher one comes
pub fresh_on : {t u v : ℕ} {fs gs : List Edge} → Moved u v fs gs → t ≤ u → (p b : ℕ) (k : Key) → is_listed gs p b ≡ true → IsFreshAt t fs p b k → IsFreshAt t gs p b k
fresh_on {t} {u} m low p b k listed f = elim (m.stood p b k listed) [
  | inl g ↦ let le : u ≤ g.0 = g.2 in (g.0, g.1, omega arith)
  | inr e ↦ (f.0, e ∙ f.1, f.2)
]

pub Moved-trans : {t u v : ℕ} {es fs gs : List Edge} → Moved t u es fs → Moved u v fs gs → Moved t v es gs
Moved-trans {t} {u} {v} {es} {fs} {gs} m n =
    let low = m.up in
    let high = n.up in
    record {
      up = omega arith;
      listed = λ p b. n.listed p b ∙ m.listed p b;
      brings = λ p b k g h. elim (n.brings p b k g h) [
        | inl old ↦ elim (m.brings p b k g old) [
          | inl older ↦ inl older
          | inr r ↦ let le : t ≤ g = r.0 in let lt : g < u = r.1 in inr (omega arith, omega arith)
        ]
        | inr r ↦ let le : u ≤ g = r.0 in let lt : g < v = r.1 in inr (omega arith, omega arith)
      ];
      stood = λ p b k h. elim (n.stood p b k h) [
        | inl f ↦ let le : u ≤ f.0 = f.2 in inl (f.0, f.1, omega arith)
        | inr e ↦ elim (m.stood p b k (sym (n.listed p b) ∙ h)) [ inl f ↦ inl (f.0, e ∙ f.1, f.2) | inr d ↦ inr (e ∙ d) ]
      ];
    }

-- ---- one key is touched

pub touched_fresh : (es : List Edge) (key : Key) (t p b : ℕ) → is_listed (touched es key t) p b ≡ true → IsFreshAt t (touched es key t) p b key
touched_fresh es key t p b h =
    let f = touch_fresh es key t p b (sym (touch_listed es key t p b) ∙ h) in
    (f.tag, ap tag_of f.is, f.from)

stood_by : (es : List Edge) (key : Key) (t p b : ℕ) (k : Key) (s : Bool) → is_same_key k key ≡ s → is_listed (touched es key t) p b ≡ true
    → IsFreshAt t (touched es key t) p b k ⊎ (tag_at (touched es key t) p b k ≡ tag_at es p b k)
stood_by es key t p b k true same h =
    let f = touched_fresh es key t p b h in
    inl (f.0, ap (tag_at (touched es key t) p b) (is_same_key-true k key same) ∙ f.1, f.2)
stood_by es key t p b k false apart h = inr (ap tag_of (touch_others es key t p b k apart))

pub touched_moved : (es : List Edge) (key : Key) (t : ℕ) → Moved t (t + length es) es (touched es key t)
touched_moved es key t = record {
  up = omega arith;
  listed = touch_listed es key t;
  brings = λ p b k g h. elim (keeps_or_brings (Touch key t) es p b k g h) [ inl old ↦ inl old | inr r ↦ inr (r.1, r.2) ];
  stood = λ p b k h. stood_by es key t p b k (is_same_key k key) refl h;
}
