-- Where a server knows just what its replicas took, what it knows is what is computed of that.
use Rattle.std.proofs.Common.{◌≡◌, Bool, true, false, cond, List, Option, None, Some, refl, ap, subst, ◌∙◌}
use Rattle.pg_run.specs.pg_base.declared.id.FileId.{FileId}
use Rattle.pg_run.specs.pg_register.declared.flag.Flag.{Flag}
use Rattle.pg_run.specs.pg_register.declared.place.Place.{Place}
use Rattle.pg_run.specs.pg_register.Flag.{IsByServer}
use Rattle.pg_run.specs.pg_entries.declared.entry.Entry.{Entry}
use Rattle.pg_run.specs.pg_names.declared.attributes.Attributes.{Attributes}
use Rattle.pg_run.specs.pg_names.Names.{NamesValue, cell_at, or_blank, own_or_blank}
use Rattle.pg_run.specs.pg_house.Facts.{AreByServer}
use Rattle.pg_run.proofs.pg_names.Alike.{entry_of_parts, own_of_parts}
use Rattle.pg_run.specs.Took.{Take, Taker, flags_in, flags_taken, place_in, places_taken}
use Rattle.pg_run.specs.Took.Taker.{InDir, Itself}
use Rattle.pg_run.specs.Passed.{has_cell, top, places_known}
use Rattle.pg_run.specs.State.{entry_state, own_state}
use Rattle.law_passing.specs.Newest.{AreNewest, HaveOwnNumbers, HaveOwnStamps, IsLatest}
use Rattle.law_passing.specs.Tells.{AreApart, HasFlag, HasPlace, IsCellOf, KnowsPlace, Tells}
use Rattle.law_passing.proofs.Latest.{any_of, latest_of, latest_once, latest_same}
use Rattle.law_passing.proofs.Newest.{newest_of, newest_once, newest_same}
use Rattle.law_passing.proofs.Takes.{flag_there, known_place, place_known, place_there, there_flag, there_place}

module _ (takes : List Take) (apart : AreApart takes) where
  stamps : (by : Taker) (f : FileId) → HaveOwnStamps f (HasPlace takes by f)
  stamps by f a b p q e =
      apart.places f a b (any_of f (HasPlace takes by f) (KnowsPlace takes f) (λ x h. (by, h)) a p)
      (any_of f (HasPlace takes by f) (KnowsPlace takes f) (λ x h. (by, h)) b q) e

  numbers : (by : Taker) (f : FileId) → HaveOwnNumbers (HasFlag takes by f)
  numbers by f a b p q = apart.flags f a b (by, p) (by, q)

  -- the latest place of a replica
  pub place_is : (by : Taker) (f : FileId) (a : Place) → IsLatest f (HasPlace takes by f) a → a ≡ place_in by f takes
  place_is by f a k =
      latest_once {f = f} {P = HasPlace takes by f} (stamps by f) a (place_in by f takes) k
      (latest_same {f = f} (place_there by f takes) (there_place by f takes) (place_in by f takes) (latest_of f (places_taken by f takes)))

  pub flags_are : (by : Taker) (f : FileId) (fs : List Flag) → AreNewest (HasFlag takes by f) fs → fs ≡ flags_in by f takes
  flags_are by f fs k =
      newest_once (HasFlag takes by f) (numbers by f) fs (flags_in by f takes) k
      (newest_same (flag_there by f takes) (there_flag by f takes) (flags_in by f takes) (newest_of (flags_taken by f takes)))

  -- and of all that is known
  pub top_is : (f : FileId) (a : Place) → IsLatest f (KnowsPlace takes f) a → a ≡ top f takes
  top_is f a k =
      latest_once {f = f} {P = KnowsPlace takes f} (apart.places f) a (top f takes) k
      (latest_same {f = f} (place_known f takes) (known_place f takes) (top f takes) (latest_of f (places_known f takes)))

module _ (names : NamesValue) (takes : List Take) (apart : AreApart takes) (k : Tells names takes) where
  pub own_is : (f : FileId) → own_or_blank names f ≡ own_state f takes
  own_is f =
      own_of_parts (own_or_blank names f).place (place_in Itself f takes) (own_or_blank names f).flags (flags_in Itself f takes)
      (place_is takes apart Itself f (own_or_blank names f).place (k.place f)) (flags_are takes apart Itself f (own_or_blank names f).flags (k.flags f))

  cell_is : (d c : FileId) (e : Entry) → IsCellOf takes d c e
      → e ≡ record { child = c; place = place_in (InDir d) c takes; flags = flags_in (InDir d) c takes }
  cell_is d c e is =
      entry_of_parts e.child c e.place (place_in (InDir d) c takes) e.flags (flags_in (InDir d) c takes) is.child_is
      (place_is takes apart (InDir d) c e.place is.place) (flags_are takes apart (InDir d) c e.flags is.flags)

  chosen_none : {A : Type 0} (t : Bool) (x : A) → t ≡ false → None ≡ cond t (Some x) None
  chosen_none true x h = absurd (let z : true ≡ false = h in cc)
  chosen_none false x h = refl

  chosen_some : {A : Type 0} (t : Bool) (x : A) → t ≡ true → Some x ≡ cond t (Some x) None
  chosen_some true x h = refl
  chosen_some false x h = absurd (let z : false ≡ true = h in cc)

  entry_by : (d c : FileId) (o : Option Entry) → cell_at names d c ≡ o → o ≡ entry_state d c takes
  entry_by d c None h = chosen_none (has_cell d c takes) _ (k.none d c h)
  entry_by d c (Some e) h =
      let is = k.some d c e h in
      ap Some (cell_is d c e is) ∙ chosen_some (has_cell d c takes) _ is.has

  pub entry_is : (d c : FileId) → cell_at names d c ≡ entry_state d c takes
  entry_is d c = entry_by d c (cell_at names d c) refl

-- own flags are by server
pub tells_sorted : (s : NamesValue) (takes : List Take) → Tells s takes → AreByServer s
tells_sorted s takes k f own h = subst (λ (o : Attributes). IsByServer o.flags) (ap (or_blank f) h) (k.flags f).sorted
