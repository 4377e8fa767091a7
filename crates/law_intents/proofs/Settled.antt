-- The house rules run behind the first effect: places go to later ones, and that is noted. Then
-- golds are raised.
use Rattle.std.proofs.Common.{ℕ, ◌≡◌, ◌⊎◌, true, false, drop, length, List, [], ◌∷◌, Option, None, Some, inl, inr, refl, sym, ap, subst, ◌∙◌, arith}
use Rattle.std.proofs.lemmas.Bool.Decides.{nat_tests}
use Rattle.std.proofs.lemmas.Option.{none-some, same_Some}
use Rattle.law_frame.specs.pg_run.pg_base.declared.id.FileId.{FileId}
use Rattle.law_frame.specs.pg_run.pg_base.Stamp.{is_before}
use Rattle.law_frame.specs.pg_run.pg_msg.declared.work.Slot.{Slot}
use Rattle.law_frame.specs.pg_run.pg_msg.declared.work.Touched.{Touched}
use Rattle.law_frame.specs.pg_run.pg_names.declared.attributes.Attributes.{Attributes}
use Rattle.law_frame.specs.pg_run.pg_names.Names.{NamesValue, own_at}
use Rattle.law_frame.specs.pg_run.pg_register.declared.place.Place.{Place}
use Rattle.law_frame.specs.pg_run.pg_house.Facts.{IsHeld, IsNoted, IsOneOf, IsReplaced}
use Rattle.law_frame.specs.pg_run.pg_house.House.{house}
use Rattle.law_frame.specs.pg_run.pg_house.Work.{State, is_root, state_of}
use Rattle.law_frame.proofs.pg_run.pg_house.Replaced.{noted}
use Rattle.theory_listing_house.specs.Listing.{own_place}
use Rattle.theory_listing_house.proofs.Given.{nothing_begins, own_places_grow}
use Rattle.theory_listing_house.proofs.Seen.{own_is}
use Rattle.law_frame.specs.pg_run.pg_store.declared.store.Store.{Store}
use Rattle.law_frame.specs.pg_run.pg_store.Store.{touch, with_names}
use Rattle.law_frame.specs.pg_run.pg_pieces.Done.{Done}
use Rattle.law_frame.specs.pg_run.pg_cells.Settling.{rules, settle, touch_all}
use Rattle.law_frame.specs.pg_run.theory_flood_pieces.Whole.{IsWhole}
use Rattle.law_frame.proofs.pg_run.theory_flood_pieces.Settling.{whole_raised, whole_rules}
use Rattle.law_order.proofs.HouseFrame.{house_frame, sends_same}
use Rattle.law_frame.proofs.pg_run.pg_cells.Settled.{settle_gives}
use Rattle.law_order.proofs.Sounding.{rules_as_before, rules_intents}
use Rattle.law_intents.proofs.Far.{Far, far_on, far_raised}
use Rattle.law_intents.proofs.Goes.{GoesTo, IsLeftIn, IsSlot}

-- ---- the house rules

touched_names : (a : Store) (ts : List Touched) → (touch_all a ts).names ≡ a.names
touched_names a [] = refl
touched_names a (t ∷ ts) = touched_names (touch a t.file t.key) ts

before_not : (p : Place) → is_before p.stamp p.stamp ≡ true → ⊥
before_not p h = grind (arith, nat_tests)

module _ (n s : ℕ) (r : List ℕ) (d : Done) (k : Far n s r d) (whole : IsWhole n s d.store) where
  abbrev Here : State
  Here = state_of d.store.names d.work

  abbrev Then : State
  Then = house d.work.now Here

  abbrev Ruled : Done
  Ruled = rules d.store d.work

  notes : IsNoted Here Then
  notes = noted d.work.now Here

  -- where a place goes to
  goes_by : (f : FileId) (o new : Attributes) → (is_root f ≡ false → o.place.live ≡ true → (new.place ≡ o.place) ⊎ IsLeftIn Then.work.left o.place.parent f)
      → (o.place ≡ new.place) ⊎ (is_before o.place.stamp new.place.stamp ≡ true) → GoesTo Then.work.left f o.place new.place
  goes_by f o new left (inl same) = inl (sym same)
  goes_by f o new left (inr later) = inr (later, λ inner live. left_by (left inner live))
    where
      left_by : (new.place ≡ o.place) ⊎ IsLeftIn Then.work.left o.place.parent f → IsLeftIn Then.work.left o.place.parent f
      left_by (inl same) = absurd (before_not o.place (subst (λ (p : Place). is_before o.place.stamp p.stamp ≡ true) same later))
      left_by (inr here) = here

  own_goes : (f : FileId) (o : Attributes) → own_at d.store.names f ≡ Some o → (x : Attributes) × (own_at Then.names f ≡ Some x) × GoesTo Then.work.left f o.place x.place
  own_goes f o h =
      let grown = own_places_grow d.work.now Here whole.names.dirs whole.names.sorted whole.names.last f o.place (ap own_place h) in
      let x = own_is (own_at Then.names f) grown.0 grown.1 in
      let left = notes.all f o h in
      let same : left.0 ≡ x.0 = same_Some left.0 x.0 (sym left.1 ∙ x.1) in
      let P : Attributes → Type 0 = λ y. is_root f ≡ false → o.place.live ≡ true → (y.place ≡ o.place) ⊎ IsLeftIn Then.work.left o.place.parent f in
      let Q : Place → Type 0 = λ r. (o.place ≡ r) ⊎ (is_before o.place.stamp r.stamp ≡ true) in
      (x.0, x.1, goes_by f o x.0 (subst P same left.2) (subst Q (sym x.2) grown.2))

  slots_by : (x : Slot) → IsOneOf x d.work.left ⊎ IsReplaced Here Then x → IsOneOf x d.work.left ⊎ IsSlot d.store.names x
  slots_by x (inl old) = inl old
  slots_by x (inr new) = inr (new.other, was_held x.child new.held)
    where
      was_by : (f : FileId) → IsHeld Then.names f → (o : Option Attributes) → own_at d.store.names f ≡ o → IsHeld d.store.names f
      was_by f h None at = absurd (none-some h.0.place (sym (nothing_begins d.work.now Here f (ap own_place at)) ∙ ap own_place h.1))
      was_by f h (Some o) at = (o, at)

      was_held : (f : FileId) → IsHeld Then.names f → IsHeld d.store.names f
      was_held f h = was_by f h (own_at d.store.names f) refl

  far_rules : Far n s r Ruled
  far_rules =
      let after = whole_rules n s d.store d.work whole in
      let frame = house_frame r d.work d.work.now Here (record { removed = k.removed; work = sends_same d.work }) in
      let names : Ruled.store.names ≡ Then.names = touched_names (with_names d.store Then.names) (drop (length d.work.touched) Then.work.touched) in
      far_on n s r d Ruled.store Ruled.work k (after.servers ∙ sym whole.servers) (rules_intents d.store d.work) frame.work.from
      (record {
        server = after.server ∙ sym whole.server;
        removed = ap (λ (m : NamesValue). m.removed) names ∙ frame.removed ∙ sym k.removed;
        held = λ f. (rules_as_before d.store d.work).held f;
        own = λ f o h. (let to = own_goes f o h in (to.0, ap (λ (m : NamesValue). own_at m f) names ∙ to.1, to.2));
        stays = notes.stays;
        slots = λ x h. slots_by x (notes.only x h);
      })

-- ---- and golds are raised

module _ (n s : ℕ) (r : List ℕ) where
  abbrev Both : Done → Type 0
  Both d = Far n s r d × IsWhole n s d.store

  pub far_settle : (d : Done) → Far n s r d → IsWhole n s d.store → Far n s r (settle d.store d.work)
  far_settle d k whole =
      (settle_gives Both Both (λ e b. (far_rules n s r e b.0 b.1, whole_rules n s e.store e.work b.1))
      (λ e f b none. (far_raised n s r e f b.0, whole_raised n s e.store f e.work b.1)) d (k, whole)).0
