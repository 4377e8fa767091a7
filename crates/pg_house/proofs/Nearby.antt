-- Directories that have no cell for a thing, and are to get none, change nothing as it passes.
use Rattle.std.proofs.Common.{◌≡◌, Bool, true, false, ◌&&◌, ◌||◌, cond, List, [], ◌∷◌, None, refl, sym, ap, ◌∙◌, inl, inr, ◌⊎◌}
use Rattle.std.specs.List.{filter}
use Rattle.std.proofs.lemmas.Bool.{false≢true, and_left}
use Rattle.pg_base.specs.declared.id.FileId.{FileId}
use Rattle.pg_base.specs.Id.{is_same_file}
use Rattle.pg_base.proofs.Orders.{is_same_file-true}
use Rattle.pg_register.specs.declared.place.Place.{Place}
use Rattle.pg_names.specs.declared.attributes.Attributes.{Attributes}
use Rattle.pg_names.specs.Names.{NamesValue, cell_at}
use Rattle.pg_house.specs.Work.{State}
use Rattle.pg_house.specs.Passing.{gets, given, greatest, is_cell, is_in, is_update, joined_with, offered, spread, wants}
use Rattle.pg_house.specs.Holding.{later, latest}
use Rattle.pg_house.proofs.Truths.{bool_cases, chosen_false}
use Rattle.pg_house.proofs.Spreading.{offered_dir}

-- ---- the greatest of what is known

module _ (p : FileId → Bool) (s : NamesValue) (f : FileId) (none : (q : FileId) → p q ≡ false → cell_at s q f ≡ None) where
  greatest_by : (d : FileId) (ds : List FileId) (top : Attributes) (t : Bool) → p d ≡ t → ((a : Attributes) → greatest s f a (filter p ds) ≡ greatest s f a ds)
      → greatest s f top (cond t (d ∷ filter p ds) (filter p ds)) ≡ greatest s f (joined_with top (cell_at s d f)) ds
  greatest_by d ds top true h rest = rest (joined_with top (cell_at s d f))
  greatest_by d ds top false h rest = rest top ∙ sym (ap (λ o. greatest s f (joined_with top o) ds) (none d h))

  pub greatest_where : (ds : List FileId) (top : Attributes) → greatest s f top (filter p ds) ≡ greatest s f top ds
  greatest_where [] top = refl
  greatest_where (d ∷ ds) top = greatest_by d ds top (p d) refl (greatest_where ds)

  latest_by : (d : FileId) (ds : List FileId) (top : Place) (t : Bool) → p d ≡ t → ((a : Place) → latest s f a (filter p ds) ≡ latest s f a ds)
      → latest s f top (cond t (d ∷ filter p ds) (filter p ds)) ≡ latest s f (later top (cell_at s d f)) ds
  latest_by d ds top true h rest = rest (later top (cell_at s d f))
  latest_by d ds top false h rest = rest top ∙ sym (ap (λ o. latest s f (later top o) ds) (none d h))

  pub latest_where : (ds : List FileId) (top : Place) → latest s f top (filter p ds) ≡ latest s f top ds
  latest_where [] top = refl
  latest_where (d ∷ ds) top = latest_by d ds top (p d) refl (latest_where ds)

-- ---- the cells in directories

module _ (p : FileId → Bool) (f : FileId) (own top : Attributes) (back : Bool) where
  -- what fails the test is to have no cell
  abbrev pub AllWant : State → Type 0
  AllWant st = (q : FileId) → p q ≡ false → wants st.names f own top back q ≡ false

  offered_not : (st : State) (d : FileId) → wants st.names f own top back d ≡ false → offered st f own top back d ≡ st
  offered_not st d h = chosen_false (gets st.names f own top back d) (given st f top d) st (and_left (wants st.names f own top back d) _ h)

  apart : (d q : FileId) → p d ≡ true → p q ≡ false → (is_same_file d q ≡ true) ⊎ (is_same_file d q ≡ false) → is_same_file d q ≡ false
  apart d q h g (inl same) = absurd (false≢true (sym g ∙ ap p (sym (is_same_file-true d q same)) ∙ h))
  apart d q h g (inr other) = other

  still : (st : State) (d : FileId) → p d ≡ true → AllWant st → AllWant (offered st f own top back d)
  still st d h all q g =
      ap (λ o. is_cell o || ((is_update top.place && is_in q top.place) || (back && (own.place.live && is_in q own.place))))
      (offered_dir st f own top back d q f (apart d q h g (bool_cases (is_same_file d q))))
      ∙ all q g

  spread_by : (st : State) (d : FileId) (ds : List FileId) (t : Bool) → p d ≡ t → AllWant st → ((u : State) → AllWant u → spread u f own top back (filter p ds) ≡ spread u f own top back ds)
      → spread st f own top back (cond t (d ∷ filter p ds) (filter p ds)) ≡ spread (offered st f own top back d) f own top back ds
  spread_by st d ds true h all rest = rest (offered st f own top back d) (still st d h all)
  spread_by st d ds false h all rest = rest st all ∙ sym (ap (λ (u : State). spread u f own top back ds) (offered_not st d (all d h)))

  pub spread_where : (ds : List FileId) (st : State) → AllWant st → spread st f own top back (filter p ds) ≡ spread st f own top back ds
  spread_where [] st all = refl
  spread_where (d ∷ ds) st all = spread_by st d ds (p d) refl all (λ u more. spread_where ds u more)
