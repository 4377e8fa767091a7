-- The messages under way: what holds of all of them.
use Rattle.std.proofs.Common.{ℕ, suc, ◌≡◌, ◌-◌, ◌==◌, Bool, true, false, cond, List, get_or, Option, None, Some, refl, subst, inl, inr, All}
use Rattle.std.specs.Prelude.{slice_get, remove, take, drop}
use Rattle.std.proofs.lemmas.Option.{slice_get_cases}
use Rattle.std.proofs.lemmas.List.Elements.{All-append, All-take, All-drop, All-push}
use Rattle.pg_server.specs.pg_pieces.pg_msg.declared.message.Sent.{Sent}
use Rattle.pg_run.specs.Journal.{message_at, without, with_copy}

-- ---- lists

-- what holds of all holds of the one at an index
pub found : {A : Type 0} (P : A → Type 0) (xs : List A) (i : ℕ) (m : A) → All P xs
    → slice_get xs i ≡ Some m → P m
found P xs i m h e = elim (slice_get_cases xs i).1 [
  | inl f ↦ let same : f.0 ≡ m = (let g = f.2 in cc) in subst P same (subst P f.3 (h i f.0 f.1))
  | inr f ↦ let g = f.1 in cc
]

pub All-remove : {A : Type 0} (P : A → Type 0) (xs : List A) (i : ℕ) → All P xs
    → All P (remove xs i)
All-remove P xs i h =
    All-append P (take i xs) (drop (suc i) xs) (All-take P i xs h) (All-drop P (suc i) xs h)

-- what holds of everything holds of all of these
pub All-every : {A : Type 0} (P : A → Type 0) (xs : List A) → ((x : A) → P x) → All P xs
All-every P xs h = λ i d lt. h (get_or xs i d)

-- ---- messages

-- what holds of all holds of those that are left, and of a copy
pub left_without : (P : Sent → Type 0) (ms : List Sent) (number : ℕ) (o : Option Sent) → All P ms
    → All P (without ms number o)
left_without P ms number None h = h
left_without P ms number (Some m) h = All-remove P ms (number - 1) h

pub left_copied : (P : Sent → Type 0) (ms : List Sent) (o : Option Sent) → All P ms
    → ((m : Sent) → o ≡ Some m → P m) → All P (with_copy ms o)
left_copied P ms None h one = h
left_copied P ms (Some m) h one = All-push P ms m h (one m refl)

at_index : (P : Sent → Type 0) (ms : List Sent) (number : ℕ) (m : Sent) (t : Bool) → All P ms
    → cond t None (slice_get ms (number - 1)) ≡ Some m → P m
at_index P ms number m true h e = absurd (let z : None ≡ Some m = e in cc)
at_index P ms number m false h e = found P ms (number - 1) m h e

-- what holds of all messages under way holds of the one with this number
pub at_message : (P : Sent → Type 0) (ms : List Sent) (number : ℕ) (m : Sent) → All P ms
    → message_at ms number ≡ Some m → P m
at_message P ms number m h e = at_index P ms number m (number == 0) h e
