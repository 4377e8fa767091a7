-- A thing becomes held: what is found then. A directory takes the entries of its Patches.
use Rattle.std.proofs.Common.{ℕ, ◌≡◌, ◌&&◌, Bool, true, false, cond, List, [], ◌∷◌, ◌++◌, Option, None, Some, is_some, refl, sym, ap, subst, ◌∙◌, inl, inr, ◌⊎◌}
use Rattle.std.proofs.lemmas.Bool.{and_parts, false≢true}
use Rattle.std.proofs.lemmas.Option.{none-some, same_Some}
use Rattle.pg_run.specs.pg_base.declared.id.FileId.{FileId}
use Rattle.pg_run.specs.pg_base.declared.policy.Policy.{Policy}
use Rattle.pg_run.specs.pg_base.Id.{is_same_file}
use Rattle.pg_run.proofs.pg_base.Orders.{is_same_file-true}
use Rattle.pg_run.specs.pg_entries.declared.entry.Entry.{Entry}
use Rattle.pg_run.proofs.pg_house.Truths.{bool_cases}
use Rattle.pg_run.specs.pg_intent.declared.intent.Intent.{Intent}
use Rattle.pg_run.specs.pg_intent.declared.intent.Intent.TheVariants as intent
use Rattle.pg_run.specs.pg_intent.declared.key.IntentKey.{IntentKey}
use Rattle.pg_run.specs.pg_intent.declared.key.IntentKey.TheVariants as intent_key
use Rattle.pg_run.specs.pg_intent.Intents.{ended, intent_at, stands}
use Rattle.pg_run.specs.pg_intent.Key.{is_same_key}
use Rattle.pg_run.proofs.pg_intent.Found.{ended_found, stands_is}
use Rattle.theory_listing.specs.Protocol.{AtLeast, AtMost}
use Rattle.theory_listing.specs.Rule.{IsToldAt}
use Rattle.pg_run.specs.pg_names.declared.attributes.Attributes.{Attributes}
use Rattle.pg_run.specs.pg_names.Names.{InodeValue, entry_in, known, own_of}
use Rattle.pg_run.proofs.pg_names.Holding.{begun_cells, begun_other, begun_same}
use Rattle.pg_run.specs.pg_register.declared.place.Place.{Place}
use Rattle.theory_listing_house.specs.Listing.{cell_place, own_place}
use Rattle.pg_run.specs.pg_store.declared.store.Store.{Store}
use Rattle.pg_run.specs.pg_store.Beginning.{begin as begin_replica, patch_key, patches_of, put_new, take_patch, take_patches, take_told, take_told_in, with_intents}
use Rattle.pg_run.specs.pg_store.Seen.{removed_of}
use Rattle.pg_run.specs.pg_store.Store.{is_held, take_entry}
use Rattle.law_listings.specs.Letters.{patch_place}
use Rattle.law_listings.proofs.PlacesAlone.{of_places}
use Rattle.law_listings.proofs.Joined as joined
use Rattle.law_listings.proofs.Views.{held_holds, holds_held, told_earlier}
use Rattle.law_places.proofs.OnePlace.{found_key}

none_known : (k : Option InodeValue) → is_some k ≡ false → k ≡ None
none_known None h = refl
none_known (Some x) h = absurd (false≢true (sym h))

-- ---- keys of Patches

abbrev IsPatchKey : FileId → IntentKey → Type 0
IsPatchKey dir k = (c : FileId) × (k ≡ intent_key.Patch dir c)

abbrev ArePatchKeys : FileId → List IntentKey → Type 0
ArePatchKeys dir [] = Unit {0}
ArePatchKeys dir (k ∷ ks) = IsPatchKey dir k × ArePatchKeys dir ks

keys_if : (dir to child : FileId) (t : Bool) → ArePatchKeys dir (cond t (intent_key.Patch dir child ∷ []) [])
keys_if dir to child true = ((child, refl), tt)
keys_if dir to child false = tt

keys_of_one : (dir : FileId) (i : Intent) → ArePatchKeys dir (patch_key dir i)
keys_of_one dir (intent.Patch to e target) = keys_if dir to e.child (is_same_file to dir)
keys_of_one dir (intent.Bye f b p c) = tt
keys_of_one dir (intent.Seek f t) = tt
keys_of_one dir (intent.Fill f b t) = tt
keys_of_one dir (intent.Confirm d c t) = tt
keys_of_one dir (intent.Leave f p b) = tt

keys_both : (dir : FileId) (ks ls : List IntentKey) → ArePatchKeys dir ks → ArePatchKeys dir ls → ArePatchKeys dir (ks ++ ls)
keys_both dir [] ls h g = g
keys_both dir (k ∷ ks) ls h g = (h.0, keys_both dir ks ls h.1 g)

patch_keys : (dir : FileId) (is : List Intent) → ArePatchKeys dir (patches_of dir is)
patch_keys dir [] = tt
patch_keys dir (i ∷ is) = keys_both dir (patch_key dir i) (patches_of dir is) (keys_of_one dir i) (patch_keys dir is)

-- ---- Patches are taken, one after another

module _ (f : FileId) (was : List Intent) where
  -- a Patch for the child stood
  abbrev pub HadPatch : FileId → Type 0
  HadPatch c = (d : FileId) × (e : Entry) × (target : ℕ) × (intent_at was (intent_key.Patch f c) ≡ Some (intent.Patch d e target))

  -- own: the same things are held
  -- others: the cells of other directories are as they were
  -- cells: each cell of the directory is for a child for which a Patch stood
  -- patches: a Patch that stood stands, or is in the directory
  -- stood: no intention came
  -- confirms: Confirms go on
  record AreTaken (z b : Store) : Type 0 where
    own : (g : FileId) → of_places.own b g ≡ of_places.own z g
    removed : removed_of b ≡ removed_of z
    others : (d c : FileId) → (d ≡ f) ⊎ (of_places.cell b d c ≡ of_places.cell z d c)
    cells : (c : FileId) (q : Place) → of_places.cell b f c ≡ Some q → HadPatch c
    patches : (d c : FileId) (q : Place) → patch_place (intent_at was (intent_key.Patch d c)) ≡ Some q
        → AtLeast of_places q.stamp (of_places.patch b d c) ⊎ IsToldAt of_places b d c q.stamp
    stood : (k : IntentKey) (i : Intent) → intent_at b.intents k ≡ Some i → intent_at was k ≡ Some i
    confirms : (d c : FileId) → stands was (intent_key.Confirm d c) ≡ true → of_places.Confirms b d c

  -- one Patch ends
  ended_by : (is : List Intent) (gone k : IntentKey) (i : Intent) (t : Bool) → cond t None (intent_at is k) ≡ Some i → intent_at is k ≡ Some i
  ended_by is gone k i true h = absurd (none-some i h)
  ended_by is gone k i false h = h

  module _ (z b : Store) (held : is_held z f ≡ true) (t : AreTaken z b) (c0 : FileId) where
    abbrev Gone : IntentKey
    Gone = intent_key.Patch f c0

    abbrev Less : Store
    Less = with_intents b (ended b.intents Gone)

    abbrev Now : Store
    Now = take_patch b f Gone

    less_stood : (k : IntentKey) (i : Intent) → intent_at Less.intents k ≡ Some i → intent_at was k ≡ Some i
    less_stood k i h = t.stood k i (ended_by b.intents Gone k i (is_same_key k Gone) (sym (ended_found b.intents Gone k) ∙ h))

    less_confirms : (d c : FileId) → stands was (intent_key.Confirm d c) ≡ true → of_places.Confirms Less d c
    less_confirms d c h =
        stands_is Less.intents (intent_key.Confirm d c) ∙ ap is_some (ended_found b.intents Gone (intent_key.Confirm d c))
        ∙ sym (stands_is b.intents (intent_key.Confirm d c)) ∙ t.confirms d c h

    -- another Patch stands as it did
    same_patch : (d c : FileId) → (is_same_file d f && is_same_file c c0) ≡ false → of_places.patch Less d c ≡ of_places.patch b d c
    same_patch d c other =
        ap patch_place (ended_found b.intents Gone (intent_key.Patch d c)) ∙ ap (λ s. patch_place (cond s None (intent_at b.intents (intent_key.Patch d c)))) other

    both_by : (d c : FileId) (s : Bool) → (is_same_file d f && is_same_file c c0) ≡ s → ((d ≡ f) × (c ≡ c0)) ⊎ (of_places.patch Less d c ≡ of_places.patch b d c)
    both_by d c true e = let r = and_parts (is_same_file d f) (is_same_file c c0) e in inl (is_same_file-true d f r.0, is_same_file-true c c0 r.1)
    both_by d c false e = inr (same_patch d c e)

    both : (d c : FileId) → ((d ≡ f) × (c ≡ c0)) ⊎ (of_places.patch Less d c ≡ of_places.patch b d c)
    both d c = both_by d c (is_same_file d f && is_same_file c c0) refl

    -- where it was not there, or no Patch
    none_told : patch_place (intent_at b.intents Gone) ≡ None → AreTaken z Less
    none_told none = record {
      own = t.own;
      removed = t.removed;
      others = t.others;
      cells = t.cells;
      patches = λ d c q h. elim (t.patches d c q h) [
        | inr told ↦ inr told
        | inl stands ↦ elim (both d c) [
          | inr same ↦ inl (stands.0, same ∙ stands.1, stands.2)
          | inl here ↦ absurd (none-some stands.0 (sym none ∙ sym (ap (λ x. of_places.patch b x c0) here.0) ∙ sym (ap (of_places.patch b d) here.1) ∙ stands.1))
        ]
      ];
      stood = less_stood;
      confirms = less_confirms;
    }

    -- where the directory takes its entry
    module _ (to : FileId) (e : Entry) (target : ℕ) (found : intent_at b.intents Gone ≡ Some (intent.Patch to e target)) where
      abbrev Took : Store
      Took = take_entry Less f e

      child : e.child ≡ c0
      child =
          let has = found_key b.intents Gone (intent.Patch to e target) found in
          sym (is_same_file-true c0 e.child (and_parts (is_same_file f to) (is_same_file c0 e.child) has).1)

      held_now : is_held Less f ≡ true
      held_now = (let h = held_holds z f held in holds_held Less f (h.0, t.own f ∙ h.1))

      told_here : IsToldAt of_places Took f c0 e.place.stamp
      told_here = subst (λ (c : FileId). IsToldAt of_places Took f c e.place.stamp) child (joined.told_then Less f e held_now)

      others : (d c : FileId) → (d ≡ f) ⊎ (of_places.cell Took d c ≡ of_places.cell z d c)
      others d c = elim (joined.others_then Less f e d c) [
        | inl here ↦ inl here.0
        | inr same ↦ elim (t.others d c) [ inl at ↦ inl at | inr old ↦ inr (same ∙ old) ]
      ]

      had : HadPatch c0
      had = (to, e, target, t.stood Gone (intent.Patch to e target) found)

      cells : (c : FileId) (q : Place) → of_places.cell Took f c ≡ Some q → HadPatch c
      cells c q h = elim (joined.others_then Less f e f c) [
        | inl here ↦ subst HadPatch (sym (here.1 ∙ child)) had
        | inr same ↦ t.cells c q (sym same ∙ h)
      ]

      patch_stays : (d c : FileId) → of_places.patch Took d c ≡ of_places.patch Less d c
      patch_stays d c = ap (λ is. patch_place (intent_at is (intent_key.Patch d c))) (joined.intents_then Less f e)

      -- the Patch that ended told of this place
      told_at : (d c : FileId) (q r : Place) → (d ≡ f) × (c ≡ c0) → of_places.patch b d c ≡ Some r → AtMost of_places q.stamp r.stamp → IsToldAt of_places Took d c q.stamp
      told_at d c q r here is le =
          let P : FileId → FileId → Type 0 = λ x y. of_places.patch b x y ≡ Some r → IsToldAt of_places Took x y q.stamp in
          let at : P f c0 = (λ g.
          let same : e.place ≡ r = same_Some e.place r (sym (ap patch_place found) ∙ g) in
          told_earlier Took f c0 q.stamp e.place.stamp (subst (λ (x : Place). AtMost of_places q.stamp x.stamp) (sym same) le) told_here) in
          subst (λ (x : FileId). P x c) (sym here.0) (subst (P f) (sym here.1) at) is

      patches : (d c : FileId) (q : Place) → patch_place (intent_at was (intent_key.Patch d c)) ≡ Some q
          → AtLeast of_places q.stamp (of_places.patch Took d c) ⊎ IsToldAt of_places Took d c q.stamp
      patches d c q h = elim (t.patches d c q h) [
        | inr told ↦ (
            let more = joined.grows_then Less f e d c told.0 told.1 in
            inr (told_earlier Took d c q.stamp told.0.stamp told.2 more))
        | inl stands ↦ elim (both d c) [
          | inr same ↦ inl (stands.0, patch_stays d c ∙ same ∙ stands.1, stands.2)
          | inl here ↦ inr (told_at d c q stands.0 here stands.1 stands.2)
        ]
      ]

      took : AreTaken z Took
      took = record {
        own = λ g. joined.own_then Less f e g ∙ t.own g;
        removed = joined.removed_then Less f e ∙ t.removed;
        others = others;
        cells = cells;
        patches = patches;
        stood = λ k i h. less_stood k i (sym (ap (λ is. intent_at is k) (joined.intents_then Less f e)) ∙ h);
        confirms = λ d c h. ap (λ is. stands is (intent_key.Confirm d c)) (joined.intents_then Less f e) ∙ less_confirms d c h;
      }

    -- one step
    told_by : (i : Intent) → intent_at b.intents Gone ≡ Some i → AreTaken z (take_told Less f i)
    told_by (intent.Patch to e target) h = took to e target h
    told_by (intent.Bye x n p m) h = none_told (ap patch_place h)
    told_by (intent.Seek x n) h = none_told (ap patch_place h)
    told_by (intent.Fill x n p) h = none_told (ap patch_place h)
    told_by (intent.Confirm x y n) h = none_told (ap patch_place h)
    told_by (intent.Leave x n p) h = none_told (ap patch_place h)

    step_by : (o : Option Intent) → intent_at b.intents Gone ≡ o → AreTaken z (take_told_in Less f o)
    step_by None h = none_told (ap patch_place h)
    step_by (Some i) h = told_by i h

    one_taken : AreTaken z Now
    one_taken = step_by (intent_at b.intents Gone) refl

  all_taken : (z : Store) → is_held z f ≡ true → (ks : List IntentKey) → ArePatchKeys f ks → (b : Store) → AreTaken z b → AreTaken z (take_patches b f ks)
  all_taken z held [] are b t = t
  all_taken z held (k ∷ ks) are b t =
      all_taken z held ks are.1 (take_patch b f k) (subst (λ (q : IntentKey). AreTaken z (take_patch b f q)) (sym are.0.1) (one_taken z b held t are.0.0))

-- ---- a replica begins

module _ (a : Store) (f : FileId) (birth : ℕ) (policy : Policy) (own : Attributes) (full : Bool) (away : is_held a f ≡ false) where
  abbrev First : Store
  First = put_new a f birth policy own full

  abbrev pub After : Store
  After = begin_replica a f birth policy own full

  none : known a.names f ≡ None
  none = none_known (known a.names f) away

  first_held : is_held First f ≡ true
  first_held = ap is_some (begun_same a.names f own full)

  no_cell : (c : FileId) (q : Place) → of_places.cell First f c ≡ Some q → ⊥
  no_cell c q h = none-some q (sym (ap (λ k. cell_place (entry_in c k)) (begun_same a.names f own full)) ∙ h)

  first_taken : AreTaken f a.intents First First
  first_taken = record {
    own = λ g. refl;
    removed = refl;
    others = λ d c. inr refl;
    cells = λ c q h. absurd (no_cell c q h);
    patches = λ d c q h. inl (q, h, inl refl);
    stood = λ k i h. h;
    confirms = λ d c h. h;
  }

  taken : AreTaken f a.intents First After
  taken = all_taken f a.intents First first_held (patches_of f a.intents) (patch_keys f a.intents) First first_taken

  -- it stands at its place
  pub own_after : of_places.own After f ≡ Some own.place
  own_after = taken.own f ∙ ap (λ k. own_place (own_of k)) (begun_same a.names f own full)

  others_by : (g : FileId) → (is_same_file g f ≡ true) ⊎ (is_same_file g f ≡ false) → (g ≡ f) ⊎ (of_places.own After g ≡ of_places.own a g)
  others_by g (inl same) = inl (is_same_file-true g f same)
  others_by g (inr other) = inr (taken.own g ∙ ap (λ k. own_place (own_of k)) (begun_other a.names f own full g other))

  -- other things stand as they did
  pub others_after : (g : FileId) → (g ≡ f) ⊎ (of_places.own After g ≡ of_places.own a g)
  others_after g = others_by g (bool_cases (is_same_file g f))

  -- other directories have the cells that they had
  pub cells_after : (d c : FileId) → (d ≡ f) ⊎ (of_places.cell After d c ≡ of_places.cell a d c)
  cells_after d c = elim (taken.others d c) [
    | inl at ↦ inl at
    | inr same ↦ inr (same ∙ ap cell_place (begun_cells a.names f own full none d c))
  ]

  -- and this one those of its Patches
  pub new_cells : (c : FileId) (q : Place) → of_places.cell After f c ≡ Some q → HadPatch f a.intents c
  new_cells c q h = taken.cells c q h

  pub patches_after : (d c : FileId) (q : Place) → of_places.patch a d c ≡ Some q → AtLeast of_places q.stamp (of_places.patch After d c) ⊎ IsToldAt of_places After d c q.stamp
  patches_after d c q h = taken.patches d c q h

  pub confirms_after : (d c : FileId) → of_places.Confirms a d c → of_places.Confirms After d c
  confirms_after d c h = taken.confirms d c h

  pub removed_after : removed_of After ≡ removed_of a
  removed_after = taken.removed
