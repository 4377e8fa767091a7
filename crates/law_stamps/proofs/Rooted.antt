-- Of the root no replica is to come, and none goes.
use Rattle.std.proofs.Common.{ℕ, ◌≡◌, ◌&&◌, not, Bool, true, false, Option, None, Some, refl, sym, ap, ◌∙◌, inl, inr}
use Rattle.std.proofs.lemmas.Bool.{false≢true}
use Rattle.pg_run.specs.pg_base.declared.id.FileId.{FileId}
use Rattle.pg_run.specs.pg_base.Id.{is_same_file}
use Rattle.pg_run.specs.pg_register.Place.{root}
use Rattle.pg_run.specs.pg_store.declared.store.Store.{Store}
use Rattle.pg_run.specs.pg_store.declared.wishes.Wish.{Wish}
use Rattle.pg_run.specs.pg_store.Births.{fill_at, is_fill_at, is_pending, wish_at}
use Rattle.pg_run.specs.pg_store.Store.{is_held}
use Rattle.pg_run.specs.pg_store.Wishes.{is_with_birth}
use Rattle.pg_run.specs.Intending.{HoldsBoth, IntendsInOrder}
use Rattle.pg_run.proofs.pg_base.Orders.{is_same_file-true}
use Rattle.pg_run.proofs.pg_calls.Walked.{full_held}
use Rattle.pg_run.proofs.pg_house.Truths.{or_cases}
use Rattle.law_places.proofs.Leaving.{RootStays}

module _ (a : Store) (k : HoldsBoth a) where
  held : is_held a root ≡ true
  held = full_held a.names root k.root

  unwished : (birth : ℕ) (o : Option Wish) → wish_at a root ≡ o → is_with_birth o birth ≡ true → ⊥
  unwished birth None e h = false≢true h
  unwished birth (Some wish) e h = false≢true (sym (k.births.wished root wish e).0 ∙ held)

  unfilled : (t : Bool) → (b : Bool) → (not t && b) ≡ true → t ≡ true → ⊥
  unfilled true b h same = false≢true h
  unfilled false b h same = false≢true same

  pending_by : (f : FileId) (birth : ℕ) → is_pending a f birth ≡ true → (t : Bool)
      → is_same_file f root ≡ t → t ≡ false
  pending_by f birth h false e = refl
  pending_by f birth h true e =
      let same = ap (λ (x : FileId). is_pending a x birth) (is_same_file-true f root e) in
      let wished = is_with_birth (wish_at a root) birth in
      let fills = is_fill_at (fill_at a root) birth in
      elim (or_cases wished (not (is_held a root) && fills) (sym same ∙ h)) [
        | inl wish ↦ absurd (unwished birth (wish_at a root) refl wish)
        | inr fill ↦ absurd (unfilled (is_held a root) fills fill held)
      ]

pub root_stays : (a : Store) → IntendsInOrder a → RootStays a
root_stays a k = record {
  pending = λ f birth h. pending_by a k.held f birth h (is_same_file f root) refl;
  leaves = λ f peer birth stood. (k.leaves f peer birth stood).1;
}
