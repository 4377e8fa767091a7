-- What a thing has after it took what it takes.
use Rattle.std.proofs.Common.{◌≡◌, Bool, true, false, Some, refl, ap, ◌∙◌, if◌then◌else◌}
use Rattle.pg_base.specs.declared.id.FileId.{FileId}
use Rattle.pg_base.specs.Id.{is_same_file}
use Rattle.pg_names.specs.declared.attributes.Attributes.{Attributes}
use Rattle.pg_names.specs.Names.{cell_at, own_at, with_own}
use Rattle.pg_names.specs.Same.{is_same_own}
use Rattle.pg_names.proofs.Alike.{own-true}
use Rattle.pg_names.proofs.Lookups.{SameFrame, SameFrame-refl, own_cell, own_other, own_same, update_frame}
use Rattle.pg_house.specs.Work.{State}
use Rattle.pg_house.specs.Passing.{taking, took}
use Rattle.pg_house.proofs.Truths.{chosen}

module _ (st : State) (f : FileId) (own taken : Attributes) where
  own_by : (t : Bool) → is_same_own own taken ≡ t → own_at st.names f ≡ Some own → own_at (if t then st else took st f own taken).names f ≡ Some taken
  own_by true e h = h ∙ ap Some (own-true own taken e)
  own_by false e h = own_same st.names f own taken h

  pub taking_own : own_at st.names f ≡ Some own → own_at (taking st f own taken).names f ≡ Some taken
  taking_own h = own_by (is_same_own own taken) refl h

  pub taking_other : (q : FileId) → is_same_file f q ≡ false → own_at (taking st f own taken).names q ≡ own_at st.names q
  taking_other q apart = chosen (λ (s : State). own_at s.names q ≡ own_at st.names q) (is_same_own own taken) st (took st f own taken) refl (own_other st.names f taken q apart)

  pub taking_cell : (q g : FileId) → cell_at (taking st f own taken).names q g ≡ cell_at st.names q g
  taking_cell q g = chosen (λ (s : State). cell_at s.names q g ≡ cell_at st.names q g) (is_same_own own taken) st (took st f own taken) refl (own_cell st.names f taken q g)

  pub taking_frame : SameFrame (taking st f own taken).names st.names
  taking_frame = chosen (λ (s : State). SameFrame s.names st.names) (is_same_own own taken) st (took st f own taken) (SameFrame-refl st.names) (update_frame st.names f (with_own taken))
