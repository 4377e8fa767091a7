-- Places as directories see them.
use Rattle.std.proofs.Common.{◌≡◌, ◌≢◌, Bool, true, false, Option, None, Some, refl, sym, subst, inl, inr, arith}
use Rattle.std.proofs.lemmas.Bool.Decides.{nat_tests}
use Rattle.std.proofs.lemmas.Option.{none-some, same_Some}
use Rattle.pg_base.specs.declared.id.FileId.{FileId}
use Rattle.pg_base.specs.declared.stamp.Stamp.{Stamp}
use Rattle.pg_base.specs.Id.{is_same_file}
use Rattle.pg_base.specs.Stamp.{UpTo, is_before}
use Rattle.pg_base.proofs.Orders.{UpTo-refl, UpTo-same, is_before-false, is_before-true, is_same_file-true}
use Rattle.pg_register.specs.declared.place.Place.{Place}
use Rattle.pg_register.specs.Place.{root}
use Rattle.pg_entries.specs.declared.entry.Entry.{Entry}
use Rattle.pg_names.specs.declared.attributes.Attributes.{Attributes}
use Rattle.theory_listing.specs.Protocol.{AtMost, IsUpTo}
use Rattle.theory_listing_house.specs.Listing.{cell_place, listing, own_place}

pub own_is : (o : Option Attributes) (q : Place) → own_place o ≡ Some q → (x : Attributes) × (o ≡ Some x) × (x.place ≡ q)
own_is None q h = absurd (none-some q h)
own_is (Some x) q h = (x, refl, same_Some x.place q h)

pub cell_is : (o : Option Entry) (q : Place) → cell_place o ≡ Some q → (x : Entry) × (o ≡ Some x) × (x.place ≡ q)
cell_is None q h = absurd (none-some q h)
cell_is (Some x) q h = (x, refl, same_Some x.place q h)

pub own_none : (o : Option Attributes) → own_place o ≡ None → o ≡ None
own_none None h = refl
own_none (Some x) h = absurd (none-some x.place (sym h))

other_by : (f : FileId) (t : Bool) → is_same_file f root ≡ t → f ≢ root → t ≡ false
other_by f false h other = refl
other_by f true h other = absurd (other (is_same_file-true f root h))

-- what is not the root is not tested to be it
pub apart : (f : FileId) → f ≢ root → is_same_file f root ≡ false
apart f other = other_by f (is_same_file f root) refl other

-- ---- the order of stamps

pub before_trans : (a b c : Stamp) → is_before a b ≡ true → is_before b c ≡ true → is_before a c ≡ true
before_trans a b c h k = grind (arith, nat_tests)

at_most_by : (a b : Stamp) (t : Bool) → is_before a b ≡ t → UpTo a b → AtMost listing a b
at_most_by a b true h up = inr h
at_most_by a b false h up = inl (UpTo-same a b up (is_before-false a b h))

pub at_most : (a b : Stamp) → UpTo a b → AtMost listing a b
at_most a b up = at_most_by a b (is_before a b) refl up

pub later_stamp : (q r : Place) → IsUpTo listing q r → UpTo q.stamp r.stamp
later_stamp q r (inl e) = subst (λ (z : Place). UpTo q.stamp z.stamp) e (UpTo-refl q.stamp)
later_stamp q r (inr h) = is_before-true q.stamp r.stamp h

pub up_to_then : (q r s : Place) → IsUpTo listing q r → IsUpTo listing r s → IsUpTo listing q s
up_to_then q r s (inl e) k = subst (λ (z : Place). IsUpTo listing z s) (sym e) k
up_to_then q r s (inr h) (inl e) = inr (subst (λ (z : Place). is_before q.stamp z.stamp ≡ true) e h)
up_to_then q r s (inr h) (inr k) = inr (before_trans q.stamp r.stamp s.stamp h k)
