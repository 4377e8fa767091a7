-- Where places come from, over one list of all that was made.
use Rattle.std.proofs.Common.{◌≡◌, Bool, true, false, cond, List, [], ◌∷◌, ◌++◌, refl, sym, ◌∙◌, ap, inl, inr, ◌⊎◌}
use Rattle.law_frame.specs.pg_run.pg_base.declared.id.FileId.{FileId}
use Rattle.law_frame.specs.pg_run.pg_base.Id.{is_same_file}
use Rattle.law_frame.specs.pg_run.pg_content.Content.{Among}
use Rattle.law_frame.specs.pg_run.pg_event.declared.entry.Entry.{Entry}
use Rattle.law_frame.specs.pg_run.pg_house.Facts.{IsOneOf}
use Rattle.law_frame.proofs.pg_run.pg_house.Noting.{one_front}
use Rattle.law_frame.specs.pg_run.pg_msg.declared.update.Update.{Update}
use Rattle.law_frame.specs.pg_run.pg_msg.declared.update.Update.TheVariants as update
use Rattle.law_frame.specs.pg_run.pg_register.declared.place.Place.{Place}
use Rattle.law_frame.specs.pg_run.pg_register.Place.{blank_place, root, root_place}
use Rattle.law_frame.specs.pg_run.Known.{WasMade}
use Rattle.law_frame.specs.pg_run.Took.{first_place}

-- the place that is known of a thing before any is made: the root has its own, any other the blank
-- one
abbrev pub IsFirstPlace : FileId → Place → Type 0
IsFirstPlace file place = ((is_same_file file root ≡ true) × (place ≡ root_place))
    ⊎ ((is_same_file file root ≡ false) × (place ≡ blank_place file))

-- all that entries tell was made
abbrev pub all_made : List Entry → List Update
all_made [] = []
all_made (entry ∷ earlier) = entry.made ++ all_made earlier

abbrev pub IsMade : List Update → FileId → Place → Type 0
IsMade made file place = IsOneOf {A = Update} (update.Place file place) made

-- it was made, or there before any was
abbrev pub IsFrom : List Update → FileId → Place → Type 0
IsFrom made file place = IsFirstPlace file place ⊎ IsMade made file place

-- ---- in the words of runs

pub one_behind : {A : Type 0} (a : A) (xs ys : List A) → IsOneOf a ys → IsOneOf a (xs ++ ys)
one_behind a [] ys h = h
one_behind a (x ∷ xs) ys h = inr (one_behind a xs ys h)

pub one_parts : {A : Type 0} (a : A) (xs ys : List A) → IsOneOf a (xs ++ ys) → IsOneOf a xs ⊎ IsOneOf a ys
one_parts a [] ys h = inr h
one_parts a (x ∷ xs) ys (inl same) = inl (inl same)
one_parts a (x ∷ xs) ys (inr more) = elim (one_parts a xs ys more) [ inl front ↦ inl (inr front) | inr behind ↦ inr behind ]

one_of : {A : Type 0} (a : A) (xs : List A) → Among a xs → IsOneOf a xs
one_of a [] h = h
one_of a (x ∷ xs) (inl same) = inl (sym same)
one_of a (x ∷ xs) (inr more) = inr (one_of a xs more)

among : {A : Type 0} (a : A) (xs : List A) → IsOneOf a xs → Among a xs
among a [] h = h
among a (x ∷ xs) (inl same) = inl (sym same)
among a (x ∷ xs) (inr more) = inr (among a xs more)

pub made_of : (j : List Entry) (f : FileId) (p : Place) → WasMade j f p → IsMade (all_made j) f p
made_of [] f p h = h
made_of (e ∷ j) f p (inl now) = one_front (update.Place f p) e.made (all_made j) (one_of (update.Place f p) e.made now)
made_of (e ∷ j) f p (inr was) = one_behind (update.Place f p) e.made (all_made j) (made_of j f p was)

pub was_made : (j : List Entry) (f : FileId) (p : Place) → IsMade (all_made j) f p → WasMade j f p
was_made [] f p h = h
was_made (e ∷ j) f p h = elim (one_parts (update.Place f p) e.made (all_made j) h) [
  | inl now ↦ inl (among (update.Place f p) e.made now)
  | inr was ↦ inr (was_made j f p was)
]

first_by : (f : FileId) (p : Place) (t : Bool) → is_same_file f root ≡ t → p ≡ cond t root_place (blank_place f) → IsFirstPlace f p
first_by f p true e is = inl (e, is)
first_by f p false e is = inr (e, is)

-- the place of one of the run comes from somewhere
pub from_run : (j : List Entry) (f : FileId) (p : Place) → (p ≡ first_place f) ⊎ WasMade j f p → IsFrom (all_made j) f p
from_run j f p (inl is) = inl (first_by f p (is_same_file f root) refl is)
from_run j f p (inr made) = inr (made_of j f p made)

pub of_run : (j : List Entry) (f : FileId) (p : Place) → IsFrom (all_made j) f p → (p ≡ first_place f) ⊎ WasMade j f p
of_run j f p (inl (inl first)) = inl (first.1 ∙ sym (ap (λ t. cond t root_place (blank_place f)) first.0))
of_run j f p (inl (inr first)) = inl (first.1 ∙ sym (ap (λ t. cond t root_place (blank_place f)) first.0))
of_run j f p (inr made) = inr (was_made j f p made)
