-- Ids that are among others.
use Rattle.std.proofs.Common.{◌≡◌, true, List, [], ◌∷◌, sym, ap, ◌∙◌, inl, inr}
use Rattle.std.proofs.lemmas.Bool.{false≢true, or_left, or_right}
use Rattle.pg_run.specs.pg_base.declared.id.FileId.{FileId}
use Rattle.pg_run.specs.pg_base.Id.{is_same_file}
use Rattle.pg_run.proofs.pg_base.Orders.{is_same_file-refl, is_same_file-true}
use Rattle.pg_run.specs.pg_content.Content.{Among}
use Rattle.pg_run.specs.pg_house.Facts.{is_among}
use Rattle.pg_run.proofs.pg_house.Truths.{or_cases}

pub file_among : (f : FileId) (fs : List FileId) → is_among f fs ≡ true → Among f fs
file_among f [] h = absurd (false≢true h)
file_among f (g ∷ fs) h = elim (or_cases (is_same_file g f) (is_among f fs) h) [
  | inl same ↦ inl (sym (is_same_file-true g f same))
  | inr more ↦ inr (file_among f fs more)
]

pub among_file : (f : FileId) (fs : List FileId) → Among f fs → is_among f fs ≡ true
among_file f [] h = absurd h
among_file f (g ∷ fs) h = elim h [
  | inl e ↦ or_left (is_same_file g f) _ (ap (λ x. is_same_file x f) (sym e) ∙ is_same_file-refl f)
  | inr more ↦ or_right (is_same_file g f) _ (among_file f fs more)
]
