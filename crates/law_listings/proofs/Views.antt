-- What directories see of a server, against what it holds; and the order of stamps.
use Rattle.std.proofs.Common.{ℕ, ◌≡◌, true, false, List, Option, None, Some, is_some, refl, sym, ◌∙◌}
use Rattle.std.proofs.lemmas.Bool.{and_parts, false≢true}
use Rattle.std.proofs.lemmas.Option.{none-some}
use Rattle.pg_run.specs.pg_base.declared.id.FileId.{FileId}
use Rattle.pg_run.specs.pg_base.declared.stamp.Stamp.{Stamp}
use Rattle.pg_run.specs.pg_base.Stamp.{is_before}
use Rattle.pg_run.specs.pg_base.Id.{is_same_file}
use Rattle.pg_run.proofs.pg_base.Orders.{is_same_file-true}
use Rattle.pg_run.specs.pg_entries.declared.entry.Entry.{Entry}
use Rattle.pg_run.specs.pg_intent.declared.intent.Intent.{Intent}
use Rattle.pg_run.specs.pg_intent.declared.intent.Intent.TheVariants as intent
use Rattle.pg_run.specs.pg_intent.declared.key.IntentKey.TheVariants as intent_key
use Rattle.pg_run.specs.pg_intent.Intents.{intent_at}
use Rattle.law_places.proofs.OnePlace.{found_key}
use Rattle.pg_run.proofs.pg_house.Truths.{before_itself}
use Rattle.theory_listing.specs.Protocol.{AtMost, IsOrdered}
use Rattle.theory_listing.specs.Rule.{Holds, IsToldAt}
use Rattle.theory_listing.proofs.Somewhere.{most_then}
use Rattle.pg_run.specs.pg_names.Names.{InodeValue, known, own_of}
use Rattle.pg_run.specs.pg_register.declared.place.Place.{Place}
use Rattle.theory_listing_house.specs.Listing.{own_place}
use Rattle.theory_listing_house.proofs.Seen.{before_trans}
use Rattle.pg_run.specs.pg_store.declared.store.Store.{Store}
use Rattle.pg_run.specs.pg_store.Store.{is_held}
use Rattle.law_listings.specs.Letters.{of_stores}

held_by : (k : Option InodeValue) → is_some k ≡ true → (q : Place) × (own_place (own_of k) ≡ Some q)
held_by None h = absurd (false≢true h)
held_by (Some x) h = (x.own.place, refl)

-- what is held has a place
pub held_holds : (a : Store) (f : FileId) → is_held a f ≡ true → Holds of_stores a f
held_holds a f h = held_by (known a.names f) h

holds_by : (k : Option InodeValue) (q : Place) → own_place (own_of k) ≡ Some q → is_some k ≡ true
holds_by None q h = absurd (none-some q h)
holds_by (Some x) q h = refl

pub holds_held : (a : Store) (f : FileId) → Holds of_stores a f → is_held a f ≡ true
holds_held a f h = holds_by (known a.names f) h.0 h.1

away_by : (k : Option InodeValue) → is_some k ≡ false → own_place (own_of k) ≡ None
away_by None h = refl
away_by (Some x) h = absurd (false≢true (sym h))

pub away_none : (a : Store) (f : FileId) → is_held a f ≡ false → of_stores.own a f ≡ None
away_none a f h = away_by (known a.names f) h

none_by : (k : Option InodeValue) → own_place (own_of k) ≡ None → is_some k ≡ false
none_by None h = refl
none_by (Some x) h = absurd (none-some x.own.place (sym h))

pub none_away : (a : Store) (f : FileId) → of_stores.own a f ≡ None → is_held a f ≡ false
none_away a f h = none_by (known a.names f) h

-- stamps are in order
never_by : (a : Stamp) → is_before a a ≡ true → ⊥
never_by a h = false≢true (sym (before_itself a) ∙ h)

pub ordered : IsOrdered of_stores
ordered = record { further = before_trans; never = never_by }

-- a cell of a later stamp is one of an earlier
pub told_earlier : (a : Store) (d c : FileId) (t u : Stamp) → AtMost of_stores t u → IsToldAt of_stores a d c u → IsToldAt of_stores a d c t
told_earlier a d c t u le h = (h.0, h.1, most_then of_stores ordered t u h.0.stamp le h.2)

-- a Patch that is found is of the directory and the child
pub patch_is : (is : List Intent) (f c d : FileId) (e : Entry) (target : ℕ) → intent_at is (intent_key.Patch f c) ≡ Some (intent.Patch d e target) → (d ≡ f) × (e.child ≡ c)
patch_is is f c d e target h =
    let has = found_key is (intent_key.Patch f c) (intent.Patch d e target) h in
    let both = and_parts (is_same_file f d) (is_same_file c e.child) has in
    (sym (is_same_file-true f d both.0), sym (is_same_file-true c e.child both.1))
