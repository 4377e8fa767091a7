-- The first element of a list that lacks a property.
use Rattle.std.specs.Prelude.{ℕ, ◌<◌, List, length}
use Rattle.std.specs.List.{AllWithin, HoldsAt}

-- the index is in the list, what stands there lacks P, and all before it has P
pub record IsFirstWithout {X : Type 0} (P : X → Type 0) (xs : List X) (index : ℕ) : Type 0 where
  pub inside : index < length xs
  pub lacks : HoldsAt (λ x. ¬ (P x)) xs index
  pub before : AllWithin P xs 0 index
