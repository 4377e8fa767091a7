-- A cell of a directory comes: what is found then.
use Rattle.std.proofs.Common.{◌≡◌, ◌||◌, Bool, true, false, cond, if◌then◌else◌, Option, None, Some, is_some, refl, sym, ap, subst, ◌∙◌, inl, inr, ◌⊎◌}
use Rattle.std.proofs.lemmas.Bool.{false≢true}
use Rattle.std.proofs.lemmas.Option.{none-some, same_Some}
use Rattle.pg_run.specs.pg_base.declared.id.FileId.{FileId}
use Rattle.pg_run.specs.pg_base.Stamp.{UpTo, is_before}
use Rattle.pg_run.specs.pg_base.Id.{is_same_file}
use Rattle.pg_run.proofs.pg_base.Orders.{is_before-false, is_same_file-true}
use Rattle.pg_run.specs.pg_entries.declared.entry.Entry.{Entry}
use Rattle.pg_run.specs.pg_entries.Entry.{brings, covers as covers_entry, joined_to}
use Rattle.pg_run.specs.pg_register.Flag.{brings_news}
use Rattle.pg_run.proofs.pg_house.Truths.{bool_cases}
use Rattle.theory_listing.specs.Protocol.{AtMost, IsUpTo}
use Rattle.theory_listing.specs.Rule.{IsToldAt}
use Rattle.pg_run.specs.pg_names.Names.{InodeValue, cell_at, entry_in, is_entry_new, known, own_of, with_joined}
use Rattle.pg_run.proofs.pg_names.Lookups.{joined_other_child, joined_other_dir, joined_own, joined_same, update_frame}
use Rattle.pg_run.proofs.theory_flood_pieces.Choices.{chosen}
use Rattle.pg_run.specs.pg_register.declared.place.Place.{Place}
use Rattle.theory_listing_house.specs.Listing.{cell_place, own_place}
use Rattle.theory_listing_house.proofs.Seen.{at_most}
use Rattle.pg_run.specs.pg_store.declared.store.Store.{Store}
use Rattle.pg_run.specs.pg_store.declared.taking.EntryNews.TheVariants as news
use Rattle.pg_run.specs.pg_store.Seen.{removed_of}
use Rattle.pg_run.specs.pg_store.Store.{entry_news, is_held, is_newer_entry, news_beside, news_in, put_entry, take_entry}
use Rattle.pg_run.specs.pg_pieces.Taking.{is_place_news}
use Rattle.law_listings.proofs.PlacesAlone.{of_places}

-- a stamp of one place is at most that of a later one
pub up_stamp : (q r : Place) → IsUpTo of_places q r → AtMost of_places q.stamp r.stamp
up_stamp q r (inl same) = inl (ap (λ (x : Place). x.stamp) same)
up_stamp q r (inr later) = inr later

module _ (a : Store) (dir : FileId) (e : Entry) where
  abbrev Then : Store
  Then = take_entry a dir e

  pub own_then : (f : FileId) → of_places.own Then f ≡ of_places.own a f
  own_then f =
      chosen (λ (b : Store). of_places.own b f ≡ of_places.own a f) (is_newer_entry a dir e) (put_entry a dir e) a
      (ap own_place (joined_own a.names dir e f)) refl

  pub intents_then : Then.intents ≡ a.intents
  intents_then = chosen (λ (b : Store). b.intents ≡ a.intents) (is_newer_entry a dir e) (put_entry a dir e) a refl refl

  pub removed_then : removed_of Then ≡ removed_of a
  removed_then =
      chosen (λ (b : Store). removed_of b ≡ removed_of a) (is_newer_entry a dir e) (put_entry a dir e) a
      (update_frame a.names dir (with_joined e)).removed refl

  -- another cell is as it was
  others_by : (d c : FileId) → (is_same_file dir d ≡ true) ⊎ (is_same_file dir d ≡ false) → (is_same_file c e.child ≡ true) ⊎ (is_same_file c e.child ≡ false)
      → ((d ≡ dir) × (c ≡ e.child)) ⊎ (of_places.cell (put_entry a dir e) d c ≡ of_places.cell a d c)
  others_by d c (inr other) same = inr (ap cell_place (joined_other_dir a.names dir e d c other))
  others_by d c (inl at) (inr other) = inr (ap cell_place (joined_other_child a.names dir e d c other))
  others_by d c (inl at) (inl child) = inl (sym (is_same_file-true dir d at), is_same_file-true c e.child child)

  pub others_then : (d c : FileId) → ((d ≡ dir) × (c ≡ e.child)) ⊎ (of_places.cell Then d c ≡ of_places.cell a d c)
  others_then d c =
      chosen (λ (b : Store). ((d ≡ dir) × (c ≡ e.child)) ⊎ (of_places.cell b d c ≡ of_places.cell a d c)) (is_newer_entry a dir e) (put_entry a dir e) a
      (others_by d c (bool_cases (is_same_file dir d)) (bool_cases (is_same_file c e.child))) (inr refl)

  -- the cell of the child is as it was, or it has the place that came, or it has its old place,
  -- which is no earlier one
  abbrev pub IsAt : Store → Type 0
  IsAt b = (of_places.cell b dir e.child ≡ of_places.cell a dir e.child)
      ⊎ ((of_places.cell b dir e.child ≡ Some e.place) × ((q : Place) → of_places.cell a dir e.child ≡ Some q → IsUpTo of_places q e.place)
      × (is_place_news (entry_news a dir e) ≡ true))

  news_is : (x : InodeValue) → known a.names dir ≡ Some x → (o : Option Entry) → cell_at a.names dir e.child ≡ o → is_place_news (entry_news a dir e) ≡ is_place_news (news_beside o e)
  news_is x held o was =
      ap (λ k. is_place_news (news_in k e)) held ∙ ap (λ k. is_place_news (news_beside k e)) (sym (ap (entry_in e.child) held) ∙ was)

  joined_by : (x : Entry) (t : Bool) → is_before x.place.stamp e.place.stamp ≡ t
      → (Some (cond t e.place x.place) ≡ Some x.place) ⊎ ((Some (cond t e.place x.place) ≡ Some e.place) × (t ≡ true))
  joined_by x true h = inr (refl, refl)
  joined_by x false h = inl refl

  at_by : (x : InodeValue) → known a.names dir ≡ Some x → (o : Option Entry) → cell_at a.names dir e.child ≡ o → cell_place (Some (joined_to o e)) ≡ of_places.cell (put_entry a dir e) dir e.child → IsAt (put_entry a dir e)
  at_by x held None was now = inr (sym now, λ q h. absurd (none-some q (sym (ap cell_place was) ∙ h)), news_is x held None was ∙ refl)
  at_by x held (Some y) was now = elim (joined_by y (is_before y.place.stamp e.place.stamp) refl) [
    | inl old ↦ inl (sym now ∙ old ∙ sym (ap cell_place was))
    | inr new ↦ inr (
      sym now ∙ new.0,
      λ q h. subst (λ (z : Place). IsUpTo of_places z e.place) (same_Some y.place q (sym (ap cell_place was) ∙ h)) (inr new.1),
      news_is x held (Some y) was ∙ ap (λ t. is_place_news (if t then news.Place else (if covers_entry y e then news.Nothing else news.Flags))) new.1,
    )
  ]

  put_by : (k : Option InodeValue) → known a.names dir ≡ k → is_entry_new k e ≡ true → IsAt (put_entry a dir e)
  put_by None held new = absurd (false≢true new)
  put_by (Some x) held new = at_by x held (cell_at a.names dir e.child) refl (sym (ap cell_place (joined_same a.names dir x.own e (ap own_of held))))

  at_here : (t : Bool) → is_newer_entry a dir e ≡ t → IsAt (cond t (put_entry a dir e) a)
  at_here true new = put_by (known a.names dir) refl new
  at_here false new = inl refl

  pub at_then : IsAt Then
  at_then = at_here (is_newer_entry a dir e) refl

  -- cells grow
  grown_by : (b : Store) → IsAt b → (q : Place) → of_places.cell a dir e.child ≡ Some q → IsToldAt of_places b dir e.child q.stamp
  grown_by b (inl same) q h = (q, same ∙ h, inl refl)
  grown_by b (inr new) q h = (e.place, new.0, up_stamp q e.place (new.1 q h))

  pub grows_then : (d c : FileId) (q : Place) → of_places.cell a d c ≡ Some q → IsToldAt of_places Then d c q.stamp
  grows_then d c q h = elim (others_then d c) [
    | inr same ↦ (q, same ∙ h, inl refl)
    | inl here ↦
        let P : FileId → FileId → Type 0 = λ x y. of_places.cell a x y ≡ Some q → IsToldAt of_places Then x y q.stamp in
        subst (λ (x : FileId). P x c) (sym here.0) (subst (P dir) (sym here.1) (grown_by Then at_then q)) h
  ]

  -- where the directory is held it has a cell of that stamp or a later one
  here_is : (o : Option Entry) → cell_at a.names dir e.child ≡ o → (x : InodeValue) → known a.names dir ≡ Some x
      → of_places.cell (put_entry a dir e) dir e.child ≡ cell_place (Some (joined_to o e))
  here_is o was x held = ap cell_place (joined_same a.names dir x.own e (ap own_of held)) ∙ ap (λ k. cell_place (Some (joined_to k e))) was

  taken_by : (o : Option Entry) → cell_at a.names dir e.child ≡ o → (x : InodeValue) → known a.names dir ≡ Some x → brings o e ≡ true → cell_place (Some (joined_to o e)) ≡ Some e.place
      → of_places.cell Then dir e.child ≡ Some e.place
  taken_by o was x held news is =
      let new : is_newer_entry a dir e ≡ true = ap (λ k. is_entry_new k e) held ∙ ap (λ k. brings k e) (sym (ap (entry_in e.child) held) ∙ was) ∙ news in
      ap (λ t. of_places.cell (cond t (put_entry a dir e) a) dir e.child) new ∙ here_is o was x held ∙ is

  kept_by : (y : Entry) → cell_at a.names dir e.child ≡ Some y → UpTo e.place.stamp y.place.stamp → (b : Store) → IsAt b → IsToldAt of_places b dir e.child e.place.stamp
  kept_by y was up b (inl same) = (y.place, same ∙ ap cell_place was, at_most e.place.stamp y.place.stamp up)
  kept_by y was up b (inr new) = (e.place, new.0, inl refl)

  told_beside : (x : InodeValue) → known a.names dir ≡ Some x → (y : Entry) → cell_at a.names dir e.child ≡ Some y → (t : Bool) → is_before y.place.stamp e.place.stamp ≡ t
      → IsToldAt of_places Then dir e.child e.place.stamp
  told_beside x held y was true low =
      (e.place, taken_by (Some y) was x held (ap (λ t. t || brings_news y.flags e.flags) low) (ap (λ t. Some (cond t e.place y.place)) low), inl refl)
  told_beside x held y was false low = kept_by y was (is_before-false y.place.stamp e.place.stamp low) Then at_then

  told_by : (x : InodeValue) → known a.names dir ≡ Some x → (o : Option Entry) → cell_at a.names dir e.child ≡ o → IsToldAt of_places Then dir e.child e.place.stamp
  told_by x held None was = (e.place, taken_by None was x held refl refl, inl refl)
  told_by x held (Some y) was = told_beside x held y was (is_before y.place.stamp e.place.stamp) refl

  held_by : (k : Option InodeValue) → known a.names dir ≡ k → is_some k ≡ true → IsToldAt of_places Then dir e.child e.place.stamp
  held_by None held some = absurd (false≢true some)
  held_by (Some x) held some = told_by x held (cell_at a.names dir e.child) refl

  pub told_then : is_held a dir ≡ true → IsToldAt of_places Then dir e.child e.place.stamp
  told_then held = held_by (known a.names dir) refl held
