-- From every thing a climb comes to the root, or to what is not held live.
use Rattle.std.proofs.Common.{ℕ, zero, suc, ◌≡◌, ◌+◌, Bool, true, false, not, length, Option, None, Some, refl, sym, ap, ◌∙◌, subst, inl, inr}
use Rattle.std.specs.Map.{keys_of}
use Rattle.std.proofs.lemmas.Bool.{false≢true, and_from, not_from_false}
use Rattle.std.proofs.lemmas.Option.{none-some}
use Rattle.pg_base.specs.declared.id.FileId.{FileId}
use Rattle.pg_base.proofs.Orders.{is_same_file-true}
use Rattle.pg_register.specs.declared.place.Place.{Place}
use Rattle.pg_register.specs.Place.{root}
use Rattle.pg_names.specs.declared.attributes.Attributes.{Attributes}
use Rattle.pg_names.specs.Names.{NamesValue, directories, is_dir, own_at}
use Rattle.pg_house.specs.Work.{State}
use Rattle.pg_house.specs.Placing.{place_at, place_of}
use Rattle.pg_house.specs.Returning.{is_root}
use Rattle.pg_house.specs.Cycles as cycles
use Rattle.pg_house.specs.Cycles.{is_inner, is_live_own}
use Rattle.pg_house.specs.House.{house}
use Rattle.pg_house.specs.Facts.{AreByServer, IsLast, IsOfDirs, is_among}
use Rattle.pg_house.proofs.Truths.{chosen_true}
use Rattle.pg_house.proofs.Counting.{among_kept}
use Rattle.pg_house.proofs.AllClimb.{none_lost}
use Rattle.pg_house.proofs.NoCycles.{inner_parts}
use Rattle.pg_house.proofs.Keys.{rules_keys}
use Rattle.pg_house.proofs.Ends.{key_of_held, none_moves_at}
use Rattle.theory_listing.specs.Laws as laws
use Rattle.theory_listing_house.specs.Listing.{listing, own_place}
use Rattle.theory_listing_house.specs.Laws.{ComesOut, IsOutside}
use Rattle.theory_listing_house.proofs.Seen.{own_is}

module _ (s : NamesValue) where
  climb_first : (f : FileId) (n : ℕ) → laws.climb listing s f (suc n) ≡ laws.climb listing s (laws.above listing (listing.own s f)) n
  climb_first f zero = refl
  climb_first f (suc n) = ap (λ g. laws.above listing (listing.own s g)) (climb_first f n)

  -- one comes out from a thing whose parent one comes out from
  one_more : (f g : FileId) → laws.above listing (listing.own s f) ≡ g → ComesOut s g → ComesOut s f
  one_more f g up c =
      let e : laws.climb listing s f (suc c.0) ≡ laws.climb listing s g c.0 = climb_first f c.0 ∙ ap (λ z. laws.climb listing s z c.0) up in
      (suc c.0, subst (IsOutside s) (sym e) c.1)

  stops : (f : FileId) → ((q : Place) → listing.own s f ≡ Some q → listing.IsLive q → ⊥) → ComesOut s f
  stops f none = (zero, inr none)

  not_held : (f : FileId) → own_at s f ≡ None → ComesOut s f
  not_held f h = stops f (λ q g live. none-some q (sym (ap own_place h) ∙ g))

  -- a live place stands in a directory
  no_parent : (f : FileId) (b : Attributes) → own_at s f ≡ Some b → is_dir b.place.parent ≡ false → ComesOut s f
  no_parent f b h file = stops f (λ q g live.
      let x = own_is (own_at s f) q g in
      let e : b.place ≡ q = (let same : Some b.place ≡ Some q = sym (ap own_place h) ∙ g in cc) in
      false≢true (sym file ∙ ap (λ (z : Place). is_dir z.parent) e ∙ live.1))

  up_is : (f : FileId) (b : Attributes) → own_at s f ≡ Some b → laws.above listing (listing.own s f) ≡ b.place.parent
  up_is f b h = ap (λ o. laws.above listing (own_place o)) h

  -- ---- along the climb of the house rules

  outside : (d : FileId) → is_dir d ≡ true → is_inner s d ≡ false → (t : Bool) → is_root d ≡ t → ComesOut s d
  outside d dir out true top = (zero, inl (is_same_file-true d root top))
  outside d dir out false other = stops d (λ q h live.
      let x = own_is (own_at s d) q h in
      let lives : is_live_own (own_at s d) ≡ true = ap is_live_own x.1 ∙ ap (λ (z : Place). z.live) x.2 ∙ live.0 in
      false≢true (sym out ∙ and_from (is_dir d) _ dir (and_from (not (is_root d)) _ (not_from_false (is_root d) other) lives)))

  parent_by : (k : ℕ) (d : FileId) (b : Attributes) → own_at s d ≡ Some b → is_inner s (cycles.climb s k b.place.parent) ≡ false
      → ((p : FileId) → is_dir p ≡ true → is_inner s (cycles.climb s k p) ≡ false → ComesOut s p) → (t : Bool) → is_dir b.place.parent ≡ t → ComesOut s d
  parent_by k d b h out rest true dir = one_more d b.place.parent (up_is d b h) (rest b.place.parent dir out)
  parent_by k d b h out rest false file = no_parent d b h file

  step_by : (k : ℕ) (d : FileId) → is_dir d ≡ true → is_inner s (cycles.climb s k (cycles.above s d)) ≡ false
      → ((p : FileId) → is_dir p ≡ true → is_inner s (cycles.climb s k p) ≡ false → ComesOut s p) → (t : Bool) → is_inner s d ≡ t → ComesOut s d
  step_by k d dir out rest false e = outside d dir e (is_root d) refl
  step_by k d dir out rest true e =
      let held = (inner_parts s d e).held in
      let up : cycles.above s d ≡ held.0.place.parent = chosen_true (is_inner s d) (place_at s d).parent root e ∙ ap (λ o. (place_of o).parent) held.1 in
      parent_by k d held.0 held.1 (subst (λ z. is_inner s (cycles.climb s k z) ≡ false) up out) rest (is_dir held.0.place.parent) refl

  by_climb : (k : ℕ) (d : FileId) → is_dir d ≡ true → is_inner s (cycles.climb s k d) ≡ false → ComesOut s d
  by_climb zero d dir out = outside d dir out (is_root d) refl
  by_climb (suc k) d dir out = step_by k d dir out (λ p there o. by_climb k p there o) (is_inner s d) refl

  -- ---- where no directory is lost

  module _ (n : ℕ) (none : (d : FileId) (b : Attributes) → own_at s d ≡ Some b → is_dir d ≡ true → is_inner s (cycles.climb s n d) ≡ false) where
    from_dir : (d : FileId) → is_dir d ≡ true → (o : Option Attributes) → own_at s d ≡ o → ComesOut s d
    from_dir d dir None h = not_held d h
    from_dir d dir (Some b) h = by_climb n d dir (none d b h dir)

    from_parent : (f : FileId) (b : Attributes) → own_at s f ≡ Some b → (t : Bool) → is_dir b.place.parent ≡ t → ComesOut s f
    from_parent f b h false file = no_parent f b h file
    from_parent f b h true dir = one_more f b.place.parent (up_is f b h) (from_dir b.place.parent dir (own_at s b.place.parent) refl)

    from_any : (f : FileId) (o : Option Attributes) → own_at s f ≡ o → ComesOut s f
    from_any f None h = not_held f h
    from_any f (Some b) h = from_parent f b h (is_dir b.place.parent) refl

    pub comes_out : (f : FileId) → ComesOut s f
    comes_out f = from_any f (own_at s f) refl

pub rules_come_out : (moment : ℕ) (st : State) → IsOfDirs st.names → AreByServer st.names → IsLast st.names → (f : FileId) → ComesOut (house moment st).names f
rules_come_out moment st of_dirs sorted last f =
    let s = (house moment st).names in
    let ds = directories st.names in
    let n = length ds in
    comes_out s (n + n) (λ d b h dir.
    let among : is_among d (keys_of st.names.held) ≡ true = ap (is_among d) (sym (rules_keys moment st)) ∙ key_of_held s d b h in
    none_lost s n None ds d (none_moves_at moment st of_dirs sorted last) (among_kept is_dir (keys_of st.names.held) d among dir)) f
