-- A place comes to a thing: the first part of a step, and what is noted.
use Rattle.std.proofs.Common.{ℕ, List, length, ◌≡◌, ◌≢◌, Bool, true, false, cond, Option, None, Some, refl, sym, ap, subst, ◌∙◌, inl, inr, ◌⊎◌}
use Rattle.std.proofs.lemmas.Option.{none-some, same_Some}
use Rattle.pg_run.specs.pg_base.declared.id.FileId.{FileId}
use Rattle.pg_run.specs.pg_base.Id.{is_same_file}
use Rattle.pg_run.specs.pg_base.Stamp.{is_before}
use Rattle.pg_run.proofs.pg_base.Orders.{is_same_file-true}
use Rattle.pg_run.specs.pg_edges.declared.key.Key.{Key}
use Rattle.pg_run.specs.pg_edges.declared.key.Key.TheVariants as key
use Rattle.pg_run.specs.pg_house.Work.{is_root, note_left}
use Rattle.pg_run.specs.pg_house.Facts.{IsLeft, IsOneOf}
use Rattle.pg_run.proofs.pg_house.Noting.{noted_live, noted_stays}
use Rattle.pg_run.proofs.pg_house.Truths.{bool_cases}
use Rattle.pg_run.specs.pg_intent.declared.key.IntentKey.TheVariants as intent_key
use Rattle.pg_run.specs.pg_intent.Intents.{intent_at, stands}
use Rattle.theory_listing.specs.Protocol.{IsUpTo}
use Rattle.theory_listing.proofs.Handlers.{placed_first}
use Rattle.pg_run.specs.pg_msg.declared.work.Slot.{Slot}
use Rattle.pg_run.specs.pg_msg.declared.work.Work.{Work}
use Rattle.pg_run.specs.pg_names.declared.attributes.Attributes.{Attributes}
use Rattle.pg_run.specs.pg_names.Names.{cell_at, is_place_new, join_place, own_at, own_or_blank, or_blank, with_place}
use Rattle.pg_run.proofs.pg_names.Lookups.{known_absent, own_with_place, place_cell, place_other, place_same, update_frame}
use Rattle.pg_run.proofs.theory_flood_pieces.Choices.{chosen}
use Rattle.pg_run.specs.pg_register.declared.place.Place.{Place}
use Rattle.pg_run.specs.pg_register.Place.{newer_place, root}
use Rattle.theory_listing_house.specs.Listing.{cell_place, own_place}
use Rattle.theory_listing_house.proofs.Seen.{apart}
use Rattle.pg_run.specs.pg_store.declared.store.Store.{Store}
use Rattle.pg_run.specs.pg_store.Seen.{removed_of, view_of}
use Rattle.pg_run.specs.pg_store.Store.{is_newer_place, put_place, take_place}
use Rattle.pg_run.specs.pg_pieces.Done.{Done}
use Rattle.pg_run.specs.pg_pieces.Taking.{take_place_noted, with_left_if, with_news}
use Rattle.law_listings.specs.Letters.{Letter, patch_place}
use Rattle.law_listings.proofs.PlacesAlone.{IsPart, of_places}

-- the newer of two places is the first, or a later one
newer_by : (x y : Place) (t : Bool) → is_before x.stamp y.stamp ≡ t → IsUpTo of_places x (cond t y x)
newer_by x y true e = inr e
newer_by x y false e = inl refl

pub newer_up : (x y : Place) → IsUpTo of_places x (newer_place x y)
newer_up x y = newer_by x y (is_before x.stamp y.stamp) refl

module _ (a : Store) (f : FileId) (place : Place) where
  abbrev Then : Store
  Then = take_place a f place

  -- what is found of a thing then
  abbrev IsFound : FileId → Option Attributes → Type 0
  IsFound g o = ((f ≡ g) × ((x : Attributes) × (own_at a.names g ≡ Some x) × (o ≡ Some (own_with_place place x)))) ⊎ (o ≡ own_at a.names g)

  put_by : (g : FileId) (o : Option Attributes) → own_at a.names f ≡ o → (is_same_file f g ≡ true) ⊎ (is_same_file f g ≡ false) → IsFound g (own_at (join_place a.names f place) g)
  put_by g None e cases = inr (ap (λ n. own_at n g) (known_absent a.names f (with_place place) e))
  put_by g (Some b) e (inr other) = inr (place_other a.names f place g other)
  put_by g (Some b) e (inl same) =
      let at : f ≡ g = is_same_file-true f g same in
      inl (at, (b, sym (ap (own_at a.names) at) ∙ e, sym (ap (own_at (join_place a.names f place)) at) ∙ place_same a.names f place b e))

  pub own_then : (g : FileId) → IsFound g (own_at Then.names g)
  own_then g =
      chosen (λ (b : Store). IsFound g (own_at b.names g)) (is_newer_place a f place) (put_place a f place) a
      (put_by g (own_at a.names f) refl (bool_cases (is_same_file f g))) (inr refl)

  pub cell_then : (d c : FileId) → cell_at Then.names d c ≡ cell_at a.names d c
  cell_then d c =
      chosen (λ (b : Store). cell_at b.names d c ≡ cell_at a.names d c) (is_newer_place a f place) (put_place a f place) a (place_cell a.names f place d c) refl

  pub intents_then : Then.intents ≡ a.intents
  intents_then = chosen (λ (b : Store). b.intents ≡ a.intents) (is_newer_place a f place) (put_place a f place) a refl refl

  pub removed_then : removed_of Then ≡ removed_of a
  removed_then =
      chosen (λ (b : Store). removed_of b ≡ removed_of a) (is_newer_place a f place) (put_place a f place) a
      (update_frame a.names f (with_place place)).removed refl

  pub grows_then : (g : FileId) (q : Place) → of_places.own a g ≡ Some q → (r : Place) × (of_places.own Then g ≡ Some r) × IsUpTo of_places q r
  grows_then g q h = elim (own_then g) [
    | inr same ↦ (q, ap own_place same ∙ h, inl refl)
    | inl new ↦
        let x = new.1.0 in
        let is : x.place ≡ q = same_Some x.place q (sym (ap own_place new.1.1) ∙ h) in
        (newer_place x.place place, ap own_place new.1.2, subst (λ (y : Place). IsUpTo of_places y (newer_place x.place place)) is (newer_up x.place place))
  ]

  pub none_then : (g : FileId) → of_places.own a g ≡ None → of_places.own Then g ≡ None
  none_then g h = elim (own_then g) [
    | inr same ↦ ap own_place same ∙ h
    | inl new ↦ absurd (none-some new.1.0.place (sym h ∙ ap own_place new.1.1))
  ]

  -- other things stand as they did
  pub others_then : (g : FileId) → (f ≡ g) ⊎ (of_places.own Then g ≡ of_places.own a g)
  others_then g = elim (own_then g) [ inl new ↦ inl new.0 | inr same ↦ inr (ap own_place same) ]

  pub place_first : (heard : Letter) → heard.view ≡ view_of a → IsPart a Then heard
  place_first heard view = λ least. placed_first of_places least a Then heard (record {
    hears = inr view;
    view = ap (λ (rs : List ℕ). length rs) removed_then;
    held = grows_then;
    gone = none_then;
    births = λ g was now. refl;
    past = λ g n h. h;
    cells = λ d c. ap cell_place (cell_then d c);
    patches = λ d c. ap (λ is. patch_place (intent_at is (intent_key.Patch d c))) intents_then;
    confirms = λ d c h. ap (λ is. stands is (intent_key.Confirm d c)) intents_then ∙ h;
  })

-- ---- what is noted

-- of each live place that was replaced, its directory and the thing
pub record IsNoted (a : Store) (d : Done) : Type 0 where
  pub noted : (c : FileId) (q r : Place) → of_places.own a c ≡ Some q → of_places.own d.store c ≡ Some r → c ≢ root → q.live ≡ true
      → (q ≡ r) ⊎ IsLeft d.work q.parent c

-- no own place changes
pub same_noted : (a : Store) (d : Done) → ((f : FileId) → of_places.own d.store f ≡ of_places.own a f) → IsNoted a d
same_noted a d same = record { noted = λ c q r was now other live. inl (same_Some q r (sym was ∙ sym (same c) ∙ now)) }

-- and further on none does, and what was noted is
pub noted_on : (a : Store) (d e : Done) → IsNoted a d → ((f : FileId) → of_places.own e.store f ≡ of_places.own d.store f)
    → ((x : Slot) → IsOneOf x d.work.left → IsOneOf x e.work.left) → IsNoted a e
noted_on a d e k same stays = record {
  noted = λ c q r was now other live. elim (k.noted c q r was (sym (same c) ∙ now) other live) [ inl is ↦ inl is | inr left ↦ inr (stays _ left) ];
}

-- and from before
pub noted_from : (z a : Store) (d : Done) → ((f : FileId) → of_places.own a f ≡ of_places.own z f) → IsNoted a d → IsNoted z d
noted_from z a d same k = record { noted = λ c q r was now other live. k.noted c q r (same c ∙ was) now other live }

pub news_left : (t : Bool) (work : Work) (f : FileId) (k : Key) → (with_news t work f k).left ≡ work.left
news_left true work f k = refl
news_left false work f k = refl

module _ (a : Store) (f : FileId) (place : Place) (work : Work) where
  abbrev Taken : Done
  Taken = take_place_noted a f place work

  abbrev Before : Place
  Before = (own_or_blank a.names f).place

  left_by : (t : Bool) (x : Slot) → IsOneOf x work.left → IsOneOf x (with_left_if t work f Before).left
  left_by true x h = noted_stays work f Before x h
  left_by false x h = h

  pub place_left : (x : Slot) → IsOneOf x work.left → IsOneOf x Taken.work.left
  place_left x h =
      let t = is_newer_place a f place in
      subst (IsOneOf x) (sym (news_left t (with_left_if t work f Before) f key.Place)) (left_by t x h)

  -- a later place than the own one replaces it
  newer_noted : (x : Attributes) (t : Bool) → is_before x.place.stamp place.stamp ≡ t → own_at a.names f ≡ Some x → is_root f ≡ false → x.place.live ≡ true
      → (x.place ≡ cond t place x.place) ⊎ IsLeft Taken.work x.place.parent f
  newer_noted x false e held other live = inl refl
  newer_noted x true e held other live =
      let t = is_newer_place a f place in
      let newer : t ≡ true = ap (λ o. is_place_new o place) held ∙ e in
      let old : Before ≡ x.place = ap (λ o. (or_blank f o).place) held in
      let left : (with_left_if t work f Before).left ≡ (note_left work f x.place).left = ap (λ b. (with_left_if b work f Before).left) newer ∙ ap (λ p. (note_left work f p).left) old in
      inr (subst (IsOneOf {A = Slot} (record { dir = x.place.parent; child = f })) (sym (news_left t (with_left_if t work f Before) f key.Place ∙ left)) (noted_live work f x.place other live))

  pub place_noted : IsNoted a Taken
  place_noted = record {
    noted = λ c q r was now other live. elim (own_then a f place c) [
      | inr same ↦ inl (same_Some q r (sym was ∙ sym (ap own_place same) ∙ now))
      | inl new ↦
          let x = new.1.0 in
          let at : f ≡ c = new.0 in
          let is : x.place ≡ q = same_Some x.place q (sym (ap own_place new.1.1) ∙ was) in
          let later : newer_place x.place place ≡ r = same_Some (newer_place x.place place) r (sym (ap own_place new.1.2) ∙ now) in
          let held : own_at a.names f ≡ Some x = ap (own_at a.names) at ∙ new.1.1 in
          let apart_f : is_root f ≡ false = apart f (λ e. other (sym at ∙ e)) in
          let n = newer_noted x (is_before x.place.stamp place.stamp) refl held apart_f (ap (λ (y : Place). y.live) is ∙ live) in
          elim n [
            | inl same ↦ inl (sym is ∙ same ∙ later)
            | inr left ↦ inr (subst (λ (g : FileId). IsLeft Taken.work q.parent g) at (subst (λ (y : Place). IsLeft Taken.work y.parent f) is left))
          ]
    ];
  }
