-- Updates of places, each of which has its reason in what was taken by then: who comes back lists a
-- child.
use Rattle.std.proofs.Common.{ℕ, ◌≡◌, ◌++◌, false, List, [], ◌∷◌, take, zero, suc, Some, All, sym, subst, ◌∙◌}
use Rattle.std.specs.Prelude.{slice_get}
use Rattle.std.proofs.lemmas.List.Elements.{All-head, All-tail}
use Rattle.std.proofs.lemmas.Option.{none-some, same_Some}
use Rattle.pg_run.specs.pg_base.declared.id.FileId.{FileId}
use Rattle.pg_run.specs.pg_register.declared.flag.Flag.{Flag}
use Rattle.pg_run.specs.pg_register.declared.place.Place.{Place}
use Rattle.pg_run.specs.pg_msg.declared.update.Update.{Update}
use Rattle.pg_run.specs.pg_msg.declared.update.Update.TheVariants as update
use Rattle.pg_run.specs.pg_cells.Raised.{IsFlagMade}
use Rattle.pg_run.specs.Passed.{passed, passed_with}
use Rattle.pg_run.specs.Took.{Take, own_place, take_of}
use Rattle.law_lists.specs.Laws.{ListsChild}

-- where it is a place of a thing whose own place is dead, the thing lists a child
abbrev pub IsReasoned : List Take → Update → Type 0
IsReasoned takes u = (d : FileId) (p : Place) → u ≡ update.Place d p
    → (own_place d takes).live ≡ false → ListsChild takes d

-- each of these, of what was taken by then: all passes behind each
abbrev pub AreReasoned : List ℕ → List Take → List Update → Type 0
AreReasoned removed takes [] = Unit {0}
AreReasoned removed takes (u ∷ us) = IsReasoned takes u × AreReasoned removed
    (passed removed (take_of u ∷ takes)) us

pub reasoned_then : (removed : List ℕ) (takes : List Take) (us vs : List Update)
    → AreReasoned removed takes us
    → AreReasoned removed (passed_with removed takes us) vs → AreReasoned removed takes (us ++ vs)
reasoned_then removed takes [] vs a b = b
reasoned_then removed takes (u ∷ us) vs a b =
    (a.0, reasoned_then removed (passed removed (take_of u ∷ takes)) us vs a.1 b)

pub reasoned_at : (removed : List ℕ) (takes : List Take) (us : List Update) (k : ℕ) (u : Update)
    → AreReasoned removed takes us
    → slice_get us k ≡ Some u → IsReasoned (passed_with removed takes (take k us)) u
reasoned_at removed takes [] k u all h = absurd (nothing k h)
  where
    nothing : (i : ℕ) → slice_get {X = Update} [] i ≡ Some u → ⊥
    nothing zero e = none-some u e
    nothing (suc i) e = none-some u e
reasoned_at removed takes (v ∷ us) zero u all h = subst (IsReasoned takes) (same_Some v u h) all.0
reasoned_at removed takes (v ∷ us) (suc k) u all h = reasoned_at removed
    (passed removed (take_of v ∷ takes)) us k u all.1 h

-- a flag is no place
no_place : (f : FileId) (g : Flag) (h : FileId) (p : Place) → update.Flag f g ≡ update.Place h p → ⊥
no_place f g h p same = cc

pub no_flag : (u : Update) → IsFlagMade u → (d : FileId) (p : Place) → u ≡ update.Place d p → ⊥
no_flag u is d p same = no_place is.0 is.1 d p (sym is.2 ∙ same)

pub flags_reasoned : (removed : List ℕ) (takes : List Take) (us : List Update) → All IsFlagMade us
    → AreReasoned removed takes us
flags_reasoned removed takes [] all = tt
flags_reasoned removed takes (u ∷ us) all = (
  λ d p same dead. absurd (no_flag u (All-head IsFlagMade u us all) d p same),
  flags_reasoned removed (passed removed (take_of u ∷ takes)) us (All-tail IsFlagMade u us all),
)
