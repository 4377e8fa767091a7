-- The latest place of a set: there is one, whatever the order in which they came.
use Rattle.std.proofs.Common.{◌≡◌, Bool, true, false, cond, List, [], ◌∷◌, refl, sym, subst, inl, inr, ◌⊎◌, arith}
use Rattle.pg_run.specs.pg_base.declared.id.FileId.{FileId}
use Rattle.pg_run.specs.pg_base.declared.stamp.Stamp.{Stamp}
use Rattle.pg_run.specs.pg_base.Id.{is_same_file}
use Rattle.pg_run.specs.pg_base.Stamp.{UpTo, is_before}
use Rattle.pg_run.proofs.pg_base.Orders.{UpTo-refl, UpTo-same, UpTo-trans}
use Rattle.pg_run.specs.pg_content.Content.{Among}
use Rattle.pg_run.specs.pg_register.declared.place.Place.{Place}
use Rattle.pg_run.specs.pg_register.Place.{blank_place, first_stamp, newer_place, root, root_place}
use Rattle.pg_run.specs.theory_flood_pieces.UpTo.{IsPlaceUpTo}
use Rattle.pg_run.proofs.theory_flood_pieces.Choices.{chosen}
use Rattle.pg_run.proofs.theory_flood_pieces.Flags.{newer_of_both}
use Rattle.pg_run.specs.Took.{first_place, latest_place}
use Rattle.law_passing.specs.Newest.{HaveOwnStamps, IsAnyOf, IsLatest}

-- ---- the first place

pub first_least : (s : Stamp) → UpTo first_stamp s
first_least s = record { time = omega arith; server = λ h. omega arith }

pub first_stamp_is : (f : FileId) → (first_place f).stamp ≡ first_stamp
first_stamp_is f = chosen (λ (p : Place). p.stamp ≡ first_stamp) (is_same_file f root) root_place (blank_place f) refl refl

pub first_up : (f : FileId) (p : Place) → IsPlaceUpTo (first_place f) p
first_up f p = let P : Stamp → Type 0 = λ s. UpTo s p.stamp in subst P (sym (first_stamp_is f)) (first_least p.stamp)

-- ---- there is one latest

module _ {f : FileId} {P : Place → Type 0} where
  pub any_up : {a : Place} → IsLatest f P a → (b : Place) → IsAnyOf f P b → IsPlaceUpTo b a
  any_up {a = a} k b (inl e) = let Q : Place → Type 0 = λ x. IsPlaceUpTo x a in subst Q (sym e) (first_up f a)
  any_up k b (inr h) = k.up b h

  pub latest_once : HaveOwnStamps f P → (a b : Place) → IsLatest f P a → IsLatest f P b → a ≡ b
  latest_once one a b k l = one a b k.there l.there (UpTo-same a.stamp b.stamp (any_up l a k.there) (any_up k b l.there))

pub any_of : (f : FileId) (P Q : Place → Type 0) → ((p : Place) → P p → Q p) → (a : Place) → IsAnyOf f P a → IsAnyOf f Q a
any_of f P Q to a (inl e) = inl e
any_of f P Q to a (inr h) = inr (to a h)

-- of the same places
pub latest_same : {f : FileId} {P Q : Place → Type 0} → ((p : Place) → P p → Q p) → ((p : Place) → Q p → P p) → (a : Place) → IsLatest f P a → IsLatest f Q a
latest_same {f = f} {P = P} {Q = Q} to back a k = record { there = any_of f P Q to a k.there; up = λ b h. k.up b (back b h) }

-- ---- of two sets, and of one more

module _ (f : FileId) (P Q : Place → Type 0) where
  abbrev Either : Place → Type 0
  Either p = P p ⊎ Q p

  there_by : (a b : Place) (t : Bool) → IsAnyOf f P a → IsAnyOf f Q b → IsAnyOf f Either (cond t b a)
  there_by a b true h k = any_of f Q Either (λ p. inr) b k
  there_by a b false h k = any_of f P Either (λ p. inl) a h

  up_by : (a b c : Place) → IsLatest f P a → IsLatest f Q b → Either c → IsPlaceUpTo c (newer_place a b)
  up_by a b c k l (inl h) = UpTo-trans c.stamp a.stamp (newer_place a b).stamp (k.up c h) (newer_of_both a b).0
  up_by a b c k l (inr h) = UpTo-trans c.stamp b.stamp (newer_place a b).stamp (l.up c h) (newer_of_both a b).1

  pub latest_both : (a b : Place) → IsLatest f P a → IsLatest f Q b → IsLatest f Either (newer_place a b)
  latest_both a b k l = record { there = there_by a b (is_before a.stamp b.stamp) k.there l.there; up = λ c h. up_by a b c k l h }

-- of this place alone
pub latest_single : (f : FileId) (b : Place) → IsLatest f (λ p. p ≡ b) b
latest_single f b = record { there = inr refl; up = λ c e. (let P : Place → Type 0 = λ x. IsPlaceUpTo x b in subst P (sym e) (UpTo-refl b.stamp)) }

swap : {A B : Type 0} → A ⊎ B → B ⊎ A
swap (inl a) = inr a
swap (inr b) = inl b

pub latest_more : (f : FileId) (P : Place → Type 0) (a b : Place) → IsLatest f P a → IsLatest f (λ p. (p ≡ b) ⊎ P p) (newer_place a b)
latest_more f P a b k =
    let Q : Place → Type 0 = λ p. p ≡ b in
    let both : IsLatest f (λ p. P p ⊎ Q p) (newer_place a b) = latest_both f P Q a b k (latest_single f b) in
    latest_same {f = f} {P = λ p. P p ⊎ Q p} {Q = λ p. (p ≡ b) ⊎ P p} (λ p. swap) (λ p. swap) (newer_place a b) both

pub latest_none : (f : FileId) (P : Place → Type 0) → ((p : Place) → P p → ⊥) → IsLatest f P (first_place f)
latest_none f P none = record { there = inl refl; up = λ p h. absurd (none p h) }

-- ---- and of a list it is the one that is computed

pub latest_of : (f : FileId) (ps : List Place) → IsLatest f (λ p. Among p ps) (latest_place f ps)
latest_of f [] = latest_none f (λ p. Among p []) (λ p h. h)
latest_of f (p ∷ ps) = latest_more f (λ q. Among q ps) (latest_place f ps) p (latest_of f ps)
