-- What was lost is given up: its dead place suits, and the place with which a directory begins anew.
use Rattle.std.proofs.Common.{ℕ, ◌≡◌, true, Option, None, Some, refl, sym, subst, inr}
use Rattle.law_frame.specs.pg_run.pg_base.declared.id.FileId.{FileId}
use Rattle.law_frame.specs.pg_run.pg_entries.declared.entry.Entry.{Entry}
use Rattle.law_frame.specs.pg_run.pg_register.declared.place.Place.{Place}
use Rattle.law_frame.specs.pg_run.pg_store.declared.store.Store.{Store}
use Rattle.law_frame.specs.pg_run.pg_calls.Forgetting.{bare_entry, dead_at, dead_by, last_place, lists_in}
use Rattle.law_frame.proofs.pg_run.pg_calls.LastPlace.{last_is, listed_there}
use Rattle.law_frame.proofs.KeepsCalls.{lost_own}
use Rattle.law_printable.proofs.Places.{IsOwnPlace, NamesSuit, SuitsEntry, cell_suits, own_place}

module _ (s : Store) (h : NamesSuit s.names) (id : FileId) where
  -- what a directory lists is not the root, and its dead place has the name that it had
  dead_suits : (moment : ℕ) (c : Entry) → SuitsEntry id c → SuitsEntry id (bare_entry id (dead_by s moment (Some c) id))
  dead_suits moment c old =
      record { child = refl; inner = old.inner; place = record { parent = old.place.parent; name = old.place.name } }

  pub struck_suits : (moment : ℕ) (dir : FileId) → lists_in s.names id dir ≡ true → SuitsEntry id (bare_entry id (dead_at s moment id dir))
  struck_suits moment dir lists =
      let l = listed_there s.names id dir lists in
      subst (λ o. SuitsEntry id (bare_entry id (dead_by s moment o id))) (sym l.1) (dead_suits moment l.0 (cell_suits s.names h dir id l.0 l.1))

  -- a directory begins anew in the root, or where it was known to be live
  pub anew_suits : (o : Option Place) → last_place s.names id ≡ o → IsOwnPlace id (lost_own id o).place
  anew_suits None is = record { parent = refl; name = inr (inr refl) }
  anew_suits (Some place) is =
      let l = last_is s.names id place is in
      subst (IsOwnPlace id) l.is (own_place id l.cell.place (cell_suits s.names h l.dir id l.cell l.there).place)
