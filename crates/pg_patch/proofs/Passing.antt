-- Going over parts in order: what stands before an index no longer counts.
use Rattle.std.proofs.Common.{ℕ, ◌≡◌, ◌<◌, ◌≤◌, ◌+◌, List, ◌∷◌, length, drop, get_or, refl, subst, sym, ◌∙◌, arith}
use Rattle.std.proofs.lemmas.List.{drop_more, drop_all}
use Rattle.pg_patch.specs.declared.part.Part.{Part}
use Rattle.pg_patch.specs.Parts.{end_of, byte_or, AreInOrder}
use Rattle.pg_patch.proofs.Parts.{byte_or-before, byte_or-skip, holds-behind, in_order-wider}

-- from the index on the rest holds all that the parts hold
pub record Passed (parts rest : List Part) (at least : ℕ) : Type 0 where
  pub holds : (i d : ℕ) → at ≤ i → byte_or parts i d ≡ byte_or rest i d
  pub order : AreInOrder at rest least
  pub upto : at ≤ least

pub passed-start : (parts : List Part) (least : ℕ) → AreInOrder 0 parts least → Passed parts parts 0 least
passed-start parts least o = record { holds = λ _ _ _. refl; order = o; upto = omega arith }

-- behind a part
pub passed-more : (parts : List Part) (p : Part) (ps : List Part) (at least : ℕ) → Passed parts (p ∷ ps) at least → Passed parts ps (end_of p) least
passed-more parts p ps at least h = record {
  holds = λ i d k. h.holds i d (omega (arith, h.order.0)) ∙ byte_or-skip p ps i d (holds-behind p i k);
  order = in_order-wider (end_of p + 1) least (end_of p) least ps (omega arith) (omega arith) h.order.3;
  upto = h.order.2;
}

-- before the next part there is none, and in it its bytes stand
pub passed-gap : (parts : List Part) (p : Part) (ps : List Part) (at least : ℕ) → Passed parts (p ∷ ps) at least → (i d : ℕ) → at ≤ i → i < p.offset → byte_or parts i d ≡ d
passed-gap parts p ps at least h i d a b =
    h.holds i d a ∙ byte_or-before p.offset least (p ∷ ps) (omega arith, h.order.1, h.order.2, h.order.3) i d b

-- the rest by the number of the next part
pub passed_at : (parts : List Part) (j : ℕ) (p : Part) (at least : ℕ) → j < length parts → p ≡ get_or parts j p → Passed parts (drop j parts) at least → Passed parts (p ∷ drop (j + 1) parts) at least
passed_at parts j p at least lt e h =
    let P : List Part → Type 0 = λ xs. Passed parts xs at least in
    let Q : Part → Type 0 = λ x. Passed parts (x ∷ drop (j + 1) parts) at least in
    subst Q (sym e) (subst P (drop_more parts j p lt) h)

pub passed_all : (parts : List Part) (j : ℕ) (at least : ℕ) → length parts ≤ j → Passed parts (drop j parts) at least → (i d : ℕ) → at ≤ i → byte_or parts i d ≡ d
passed_all parts j at least le h i d k =
    let P : List Part → Type 0 = λ xs. byte_or parts i d ≡ byte_or xs i d in subst P (drop_all j parts le) (h.holds i d k)
