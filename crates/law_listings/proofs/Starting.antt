-- The first part of a step by which a thing becomes held, and gets a place.
use Rattle.std.proofs.Common.{ℕ, ◌≡◌, Bool, false, length, List, Option, None, Some, refl, sym, ap, ◌∙◌, inl, inr, ◌⊎◌}
use Rattle.std.proofs.lemmas.Option.{none-some, same_Some}
use Rattle.pg_run.specs.pg_base.declared.id.FileId.{FileId}
use Rattle.pg_run.specs.pg_base.declared.policy.Policy.{Policy}
use Rattle.pg_run.specs.pg_entries.declared.entry.Entry.{Entry}
use Rattle.pg_run.proofs.pg_house.Greatest.{cell_held}
use Rattle.pg_run.specs.pg_intent.declared.intent.Intent.TheVariants as intent
use Rattle.pg_run.specs.pg_intent.declared.key.IntentKey.TheVariants as intent_key
use Rattle.pg_run.specs.pg_intent.Intents.{intent_at, stands}
use Rattle.theory_listing.specs.Protocol.{AtLeast}
use Rattle.theory_listing.specs.Parts.{NoneLater}
use Rattle.theory_listing.specs.Rule.{HasCell, Holds, IsToldAt}
use Rattle.theory_listing.proofs.Handlers.{begun_first}
use Rattle.pg_run.specs.pg_msg.declared.work.Work.{Work}
use Rattle.pg_run.specs.pg_names.declared.attributes.Attributes.{Attributes}
use Rattle.pg_run.specs.pg_names.Names.{cell_at}
use Rattle.pg_run.specs.pg_register.declared.place.Place.{Place}
use Rattle.pg_run.specs.Intending.{PatchesStand}
use Rattle.theory_listing_house.specs.Listing.{cell_place, own_place}
use Rattle.pg_run.specs.pg_store.declared.store.Store.{Store}
use Rattle.pg_run.specs.pg_store.Seen.{removed_of, view_of}
use Rattle.pg_run.specs.pg_store.Store.{is_held, take_place}
use Rattle.pg_run.specs.pg_pieces.Done.{idle}
use Rattle.law_listings.specs.Letters.{Letter, patch_place}
use Rattle.law_listings.proofs.PlacesAlone.{IsPart, of_places}
use Rattle.law_listings.proofs.Begun.{After, HadPatch, cells_after, confirms_after, new_cells, others_after, patches_after, removed_after}
use Rattle.law_listings.proofs.Heard.{IsBehind, none_later}
use Rattle.law_listings.proofs.Placed.{IsNoted, cell_then, intents_then, others_then, removed_then}
use Rattle.law_listings.proofs.Views.{away_none, patch_is}

-- one thing stands, which was not held
-- others: all else stands as it did
pub record IsStarted (a m : Store) (f : FileId) : Type 0 where
  pub others : (g : FileId) → (g ≡ f) ⊎ (of_places.own m g ≡ of_places.own a g)
  pub cells : (d c : FileId) → (d ≡ f) ⊎ (of_places.cell m d c ≡ of_places.cell a d c)
  pub new : (c : FileId) (q : Place) → of_places.cell m f c ≡ Some q → HadPatch f a.intents c
  pub patches : (d c : FileId) (q : Place) → of_places.patch a d c ≡ Some q → AtLeast of_places q.stamp (of_places.patch m d c) ⊎ IsToldAt of_places m d c q.stamp
  pub confirms : (d c : FileId) → of_places.Confirms a d c → of_places.Confirms m d c
  pub removed : removed_of m ≡ removed_of a

pub started : (a : Store) (f : FileId) (birth : ℕ) (policy : Policy) (own : Attributes) (full : Bool) (away : is_held a f ≡ false) → IsStarted a (After a f birth policy own full away) f
started a f birth policy own full away = record {
  others = others_after a f birth policy own full away;
  cells = cells_after a f birth policy own full away;
  new = new_cells a f birth policy own full away;
  patches = patches_after a f birth policy own full away;
  confirms = confirms_after a f birth policy own full away;
  removed = removed_after a f birth policy own full away;
}

-- it gets a place
pub then_placed : (a m : Store) (f : FileId) (place : Place) → IsStarted a m f → IsStarted a (take_place m f place) f
then_placed a m f place k = record {
  others = λ g. elim (others_then m f place g) [
    | inl at ↦ inl (sym at)
    | inr same ↦ elim (k.others g) [ inl at ↦ inl at | inr old ↦ inr (same ∙ old) ]
  ];
  cells = λ d c. elim (k.cells d c) [ inl at ↦ inl at | inr old ↦ inr (ap cell_place (cell_then m f place d c) ∙ old) ];
  new = λ c q h. k.new c q (sym (ap cell_place (cell_then m f place f c)) ∙ h);
  patches = λ d c q h. elim (k.patches d c q h) [
    | inl more ↦ inl (more.0, ap (λ is. patch_place (intent_at is (intent_key.Patch d c))) (intents_then m f place) ∙ more.1, more.2)
    | inr told ↦ inr (told.0, ap cell_place (cell_then m f place d c) ∙ told.1, told.2)
  ];
  confirms = λ d c h. ap (λ is. stands is (intent_key.Confirm d c)) (intents_then m f place) ∙ k.confirms d c h;
  removed = removed_then m f place ∙ k.removed;
}

module _ (a m : Store) (f : FileId) (k : IsStarted a m f) (away : is_held a f ≡ false) (behind : IsBehind a) (patched : PatchesStand a) (heard : Letter) (view : heard.view ≡ view_of a) where
  none : of_places.own a f ≡ None
  none = away_none a f away

  -- what was held stands as it did
  pub kept_own : (g : FileId) (q : Place) → of_places.own a g ≡ Some q → of_places.own m g ≡ Some q
  kept_own g q h = elim (k.others g) [
    | inl at ↦ absurd (none-some q (sym none ∙ sym (ap (of_places.own a) at) ∙ h))
    | inr same ↦ same ∙ h
  ]

  no_cell_by : (c : FileId) (o : Option Entry) → cell_at a.names f c ≡ o → cell_place o ≡ None
  no_cell_by c None h = refl
  no_cell_by c (Some x) h = (let o = cell_held a.names f c x h in absurd (none-some o.0.place (sym none ∙ ap own_place o.1)))

  no_cell : (c : FileId) → of_places.cell a f c ≡ None
  no_cell c = no_cell_by c (cell_at a.names f c) refl

  -- a child of which the directory has a cell is held
  child_held : (c : FileId) (q : Place) → of_places.cell m f c ≡ Some q → Holds of_places m c
  child_held c q h =
      let had = k.new c q h in
      let dir = had.0 in
      let e = had.1 in
      let is = patch_is a.intents f c dir e had.2 had.3 in
      let p = patched f c e had.2 (had.3 ∙ ap (λ x. Some (intent.Patch x e had.2)) is.0) in
      let at : e.child ≡ c = is.1 in
      (p.own.place, kept_own c p.own.place (ap (of_places.own a) (sym at) ∙ ap own_place p.held))

  cell_by : (d c : FileId) → ((d ≡ f) × ((of_places.cell a d c ≡ None) × ((q : Place) → of_places.cell m d c ≡ Some q → Holds of_places m c))) ⊎ (of_places.cell m d c ≡ of_places.cell a d c)
  cell_by d c = elim (k.cells d c) [
    | inr same ↦ inr same
    | inl at ↦ inl (at, (ap (λ (x : FileId). of_places.cell a x c) at ∙ no_cell c, λ q h. child_held c q (sym (ap (λ (x : FileId). of_places.cell m x c) at) ∙ h)))
  ]

  -- where the directory has no cell, those of others are as they were
  old_cells : (c e : FileId) (x : Place) → of_places.cell m f c ≡ None → of_places.cell m e c ≡ Some x → of_places.cell a e c ≡ Some x
  old_cells c e x unlisted h = elim (k.cells e c) [
    | inr same ↦ sym same ∙ h
    | inl at ↦ absurd (none-some x (sym unlisted ∙ sym (ap (λ (y : FileId). of_places.cell m y c) at) ∙ h))
  ]

  back_by : (c : FileId) (q : Place) → of_places.own a c ≡ Some q → (o : Option Place) → of_places.cell m f c ≡ o → HasCell of_places m f c ⊎ NoneLater of_places m c q
  back_by c q was (Some x) h = inl (x, h)
  back_by c q was None h = inr (none_later a behind heard view m c q q k.removed (λ e x cell. old_cells c e x h cell) was (inl refl) (kept_own c q was))

  pub started_first : IsPart a m heard
  started_first = λ least. begun_first of_places least a m heard f (record {
    hears = inr view;
    view = ap (λ (rs : List ℕ). length rs) k.removed;
    was = none;
    others = k.others;
    births = λ g was now. refl;
    past = λ g n h. h;
    cells = cell_by;
    patches = k.patches;
    confirms = λ d c owes gone. k.confirms d c owes;
    back = λ c q was. back_by c q was (of_places.cell m f c) refl;
  })

  -- no own place is replaced
  pub started_noted : (work : Work) → IsNoted a (idle m work)
  started_noted work = record { noted = λ c q r was now other live. inl (same_Some q r (sym (kept_own c q was) ∙ now)) }
