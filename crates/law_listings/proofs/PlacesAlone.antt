-- Places alone, of servers of which births are not seen: what a handler does to them is the first
-- part of a step, where the births go on too.
use Rattle.std.proofs.Common.{ℕ, ◌≡◌, None}
use Rattle.pg_run.specs.pg_base.declared.id.FileId.{FileId}
use Rattle.pg_run.specs.pg_base.declared.stamp.Stamp.{Stamp}
use Rattle.theory_listing.specs.Protocol.{IsIn, Lists, Protocol}
use Rattle.theory_listing.specs.Parts.{FirstPart}
use Rattle.theory_listing.specs.Rule.{Holds}
use Rattle.pg_run.specs.pg_register.declared.place.Place.{Place}
use Rattle.theory_listing_house.specs.Listing.{Beside, listing_of}
use Rattle.pg_run.specs.pg_store.declared.store.Store.{Store}
use Rattle.pg_run.specs.pg_store.Births.{birth_of}
use Rattle.pg_run.specs.pg_store.Together.{IsOver}
use Rattle.law_listings.specs.Letters.{Letter, beside, of_stores}

-- as servers are seen, but of one birth, which any may have behind it
abbrev pub placed : Beside Store
placed = record {
  birth = λ a file. 1;
  IsPast = λ a file birth. Unit {0};
  patch = beside.patch;
  Confirms = beside.Confirms;
  view = beside.view;
}

abbrev pub of_places : Protocol Store FileId Place Stamp
of_places = listing_of (λ a. a.names) placed

in_places : (d c : FileId) (q : Place) → IsIn of_stores d c q → IsIn of_places d c q
in_places d c q k = record { live = k.live; parent = k.parent; inner = k.inner }

pub lists_places : (a : Store) (d c : FileId) (q : Place) → Lists of_stores a d c q → Lists of_places a d c q
lists_places a d c q k = record { cell = k.cell; is_in = in_places d c q k.is_in }

-- births from one store to a later one
-- same: what is held in both has one birth
-- past: what is over stays over
-- gone: of what is held no longer the birth is over
pub record GoOn (a m : Store) : Type 0 where
  pub same : (f : FileId) → Holds of_places a f → Holds of_places m f → birth_of m f ≡ birth_of a f
  pub past : (f : FileId) (n : ℕ) → IsOver a f n → IsOver m f n
  pub gone : (f : FileId) → Holds of_places a f → of_places.own m f ≡ None → IsOver m f (birth_of a f)

-- it is a first part, whichever removal was the last
abbrev pub IsPart : Store → Store → Letter → Type 0
IsPart a m heard = (least : ℕ) → FirstPart of_places least a m heard

-- THE FIRST PART of a step
pub with_births : (least : ℕ) (a m : Store) (heard : Letter) → GoOn a m → FirstPart of_places least a m heard → FirstPart of_stores least a m heard
with_births least a m heard k x = record {
  views = x.views;
  hears = x.hears;
  birth = k.same;
  past = k.past;
  own_grows = x.own_grows;
  cells_grow = x.cells_grow;
  taken = λ d c q r none held was in_ now. x.taken d c q r none held was (in_places d c q in_) now;
  patch_ends = x.patch_ends;
  let_go = λ f q was none. (k.gone f (q, was) none, (x.let_go f q was none).1);
  confirm_ends = λ d c q asks l none. x.confirm_ends d c q asks (lists_places m d c q l) none;
  listed_new = λ d c q l none. x.listed_new d c q (lists_places m d c q l) none;
  enters = λ low up d c q l none. x.enters low up d c q (lists_places m d c q l) none;
}
