-- How the program answers a check behind another.
use Rattle.std.proofs.Common.{◌≡◌, Bool, true, false, Result, Ok, Err, refl, sym, subst, ap}
use Rattle.std.specs.Result.{is_ok}
use Rattle.std.proofs.lemmas.Bool.{false≢true}
use Rattle.pg_pieces.specs.pg_call.declared.refusal.Refusal.{Refusal}
use Rattle.pg_lookup.specs.declared.paths.LookupError.{LookupError}
use Rattle.pg_lookup.specs.Walk.{and_then}
use Rattle.pg_checks.specs.declared.call_error.CallError.{CallError}
use Rattle.pg_checks.specs.declared.call_error.CallError.TheVariants as denied
use Rattle.pg_checks.specs.Answer.{Tells, unless}

-- the first finds something, and so the second is told
pub goes_on : {A B : Type 0} (r : Result B CallError) (check : Result A LookupError) (next : A → Result B LookupError) (found : A) → check ≡ Ok found → Tells r (next found) → Tells r (and_then check next)
goes_on r check next found e h = subst (λ x. Tells r (and_then x next)) (sym e) h

-- the first is refused, and so is the whole
pub stops : {A B : Type 0} (check : Result A LookupError) (next : A → Result B LookupError) (why : CallError) → Tells {A = A} (Err why) check → Tells {A = B} (Err why) (and_then check next)
stops check next (denied.Stopped why) h = ap (λ x. and_then x next) h
stops check next denied.OutOfMemory h = tt

-- what is not refused with one value is not with any other
pub other_found : {A B : Type 0} (bad : Bool) (why : Refusal) (a : A) (b : B) → unless bad why a ≡ Ok a → unless bad why b ≡ Ok b
other_found true why a b h = absurd (false≢true (ap is_ok h))
other_found false why a b h = refl

-- what is refused with one value is with any other
pub other_refused : {A B : Type 0} (bad : Bool) (why : Refusal) (a : A) (b : B) (denial : CallError) → Tells {A = A} (Err denial) (unless bad why a) → Tells {A = B} (Err denial) (unless bad why b)
other_refused true why a b (denied.Stopped r) h = cc
other_refused false why a b (denied.Stopped r) h = absurd (false≢true (sym (ap is_ok h)))
other_refused bad why a b denied.OutOfMemory h = tt
