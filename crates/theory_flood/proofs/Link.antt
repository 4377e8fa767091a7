-- A peer is linked.
use Rattle.std.proofs.Common.{ℕ, ◌≡◌, ◌≢◌, ◌≤◌, ◌<◌, ◌+◌, Bool, true, false, cond, List, length, Option, None, Some, is_some, option_map, refl, sym, ap, ◌∙◌, inl, inr, arith, ◌⊎◌, Contains}
use Rattle.std.proofs.lemmas.Bool.Decides.{eqb_tells}
use Rattle.pg_edges.specs.declared.key.Key.{Key}
use Rattle.pg_edges.specs.declared.edge.Edge.{Edge}
use Rattle.pg_edges.specs.Keys.{tag_in}
use Rattle.pg_edges.specs.Edges.{keys_at, is_listed, slot_at, tag_of, tag_at, makes_edge, linked, drawn}
use Rattle.pg_edges.specs.Laws.Change.{Link}
use Rattle.pg_edges.proofs.Links.{links}
use Rattle.pg_edges.proofs.Tags.{keeps_or_brings}
use Rattle.theory_flood.specs.Server.{Replica}
use Rattle.theory_flood.proofs.Draws.{IsFreshAt, IsAsBefore, Draws, stays}
use Rattle.theory_flood.proofs.Single.{linked_single, not_made}

brought : (es : List Edge) (peer birth : ℕ) (keys : List Key) (t p b : ℕ) (k : Key) (g : ℕ) (made : Bool) → makes_edge es peer birth ≡ made → tag_at (linked es peer birth keys t) p b k ≡ Some g
    → (tag_at es p b k ≡ Some g) ⊎ ((t ≤ g) × (g < t + cond made (length keys) 0))
brought es peer birth keys t p b k g true m h = elim (keeps_or_brings (Link peer birth keys t) es p b k g h) [ inl old ↦ inl old | inr r ↦ inr (r.2, r.3) ]
brought es peer birth keys t p b k g false m h = inl (sym (ap (λ (z : List Edge). tag_at z p b k) (not_made es peer birth keys t m)) ∙ h)

module _ {C : Type 0} where
  -- each key that has a cell is among these
  abbrev pub AreKeysOf : List Key → (Key → Option C) → Type 0
  AreKeysOf keys cells = (k : Key) (c : C) → cells k ≡ Some c → Contains keys k

  abbrev pub with_link : Replica C → ℕ → ℕ → List Key → ℕ → Replica C
  with_link x peer birth keys t = record { birth = x.birth; edges = linked x.edges peer birth keys t; cells = x.cells }

  -- on the new edge, and on the others
  made_slot : (t : ℕ) (x : Replica C) (peer birth : ℕ) (keys : List Key) → AreKeysOf keys x.cells → makes_edge x.edges peer birth ≡ true → (p b : ℕ) (k : Key) (c : C)
      → (p ≡ peer) ⊎ (p ≢ peer) → (b ≡ birth) ⊎ (b ≢ birth) → is_listed (linked x.edges peer birth keys t) p b ≡ true → x.cells k ≡ Some c
      → IsFreshAt t (linked x.edges peer birth keys t) p b k ⊎ IsAsBefore x (with_link x peer birth keys t) p b k c
  made_slot t x peer birth keys all m p b k c (inl e) (inl f) listed cell =
      let fresh = (links x.edges peer birth keys t m).fresh k (all k c cell) in
      inl (fresh.tag, ap (λ q. tag_at (linked x.edges peer birth keys t) q b k) e ∙ ap (λ q. tag_at (linked x.edges peer birth keys t) peer q k) f ∙ ap tag_of fresh.is, fresh.from)
  made_slot t x peer birth keys all m p b k c (inl e) (inr g) listed cell =
      let gone : keys_at (linked x.edges peer birth keys t) p b ≡ None = ap (λ q. keys_at (linked x.edges peer birth keys t) q b) e ∙ (links x.edges peer birth keys t m).older b g in
      absurd (let w : false ≡ true = sym (ap (λ (o : Option (List (Key × ℕ))). is_some o) gone) ∙ listed in cc)
  made_slot t x peer birth keys all m p b k c (inr e) f listed cell =
      inr (stays x (with_link x peer birth keys t) p b k c (ap (option_map (λ (q : List (Key × ℕ)). tag_in q k)) ((links x.edges peer birth keys t m).others p b e)) refl listed cell)

  link_slot : (t : ℕ) (x : Replica C) (peer birth : ℕ) (keys : List Key) → AreKeysOf keys x.cells → (p b : ℕ) (k : Key) (c : C) (made : Bool) → makes_edge x.edges peer birth ≡ made
      → is_listed (linked x.edges peer birth keys t) p b ≡ true → x.cells k ≡ Some c → IsFreshAt t (linked x.edges peer birth keys t) p b k ⊎ IsAsBefore x (with_link x peer birth keys t) p b k c
  link_slot t x peer birth keys all p b k c true m listed cell =
      made_slot t x peer birth keys all m p b k c (elim (eqb_tells p peer) [ inl e ↦ inl e.1 | inr e ↦ inr e.1 ]) (elim (eqb_tells b birth) [ inl e ↦ inl e.1 | inr e ↦ inr e.1 ]) listed cell
  link_slot t x peer birth keys all p b k c false m listed cell =
      inr (stays x (with_link x peer birth keys t) p b k c (ap (λ (es : List Edge). slot_at es p b k) (not_made x.edges peer birth keys t m)) refl listed cell)

  -- A link that makes an edge, also in place of one to an older birth, puts a fresh tag at each key
  -- that has a cell. One that makes none changes nothing
  pub link_draws : (t : ℕ) (x : Replica C) (peer birth : ℕ) (keys : List Key) → AreKeysOf keys x.cells → Draws t x (t + drawn x.edges peer birth keys) (with_link x peer birth keys t)
  link_draws t x peer birth keys all = record {
    birth = refl;
    up = omega arith;
    brings = λ p b k g h. brought x.edges peer birth keys t p b k g (makes_edge x.edges peer birth) refl h;
    single = λ low one. linked_single x.edges peer birth keys t (makes_edge x.edges peer birth) refl low one;
    slots = λ p b k c listed cell. link_slot t x peer birth keys all p b k c (makes_edge x.edges peer birth) refl listed cell;
  }
