-- Patches and Confirms that end and begin behind the house rules.
use Rattle.std.proofs.Common.{ℕ, ◌≡◌, ◌||◌, Bool, true, false, cond, List, [], ◌∷◌, Option, None, Some, is_some, refl, sym, ap, subst, ◌∙◌, inl, inr}
use Rattle.std.specs.List.{list_any}
use Rattle.std.proofs.lemmas.Bool.{and_parts, false≢true}
use Rattle.std.proofs.lemmas.Option.{none-some, same_Some}
use Rattle.pg_run.specs.pg_base.declared.id.FileId.{FileId}
use Rattle.pg_run.specs.pg_base.declared.stamp.Stamp.{Stamp}
use Rattle.pg_run.specs.pg_base.Id.{is_same_file}
use Rattle.pg_run.specs.pg_base.Stamp.{is_before}
use Rattle.pg_run.proofs.pg_base.Orders.{is_before-false, is_same_file-true}
use Rattle.pg_run.specs.pg_entries.declared.entry.Entry.{Entry}
use Rattle.pg_run.specs.pg_house.Facts.{IsLeft, IsOneOf}
use Rattle.pg_run.specs.pg_intent.declared.intent.Intent.{Intent}
use Rattle.pg_run.specs.pg_intent.declared.intent.Intent.TheVariants as intent
use Rattle.pg_run.specs.pg_intent.declared.key.IntentKey.{IntentKey}
use Rattle.pg_run.specs.pg_intent.declared.key.IntentKey.TheVariants as intent_key
use Rattle.pg_run.specs.pg_intent.Intent.{key_of}
use Rattle.pg_run.specs.pg_intent.Intents.{begun_on, intent_at}
use Rattle.pg_run.specs.pg_intent.Key.{is_same_key}
use Rattle.pg_run.proofs.pg_intent.Found.{begun_found, stands_is}
use Rattle.theory_listing.specs.Protocol.{Above, AtLeast, AtMost}
use Rattle.pg_run.specs.pg_msg.declared.work.Slot.{Slot}
use Rattle.pg_run.specs.pg_msg.declared.work.Work.{Work}
use Rattle.pg_run.specs.pg_names.Names as names
use Rattle.pg_run.specs.pg_names.Names.{NamesValue, own_or_blank}
use Rattle.law_places.proofs.OnePlace.{found_key}
use Rattle.pg_run.proofs.theory_flood_pieces.Choices.{chosen}
use Rattle.pg_run.specs.pg_register.declared.place.Place.{Place}
use Rattle.pg_run.specs.pg_register.Place.{newer_place}
use Rattle.pg_run.specs.pg_intentions.Beginning.{begin_end, end_others, still_stands}
use Rattle.pg_run.specs.pg_repair.Confirming.{own_entry}
use Rattle.pg_run.specs.pg_intentions.Confirms.{begin_confirm, confirm_of, is_doubtful, is_doubtful_in}
use Rattle.pg_run.specs.pg_intentions.Fills.{begin_fill, begin_fills, files_to_fill, to_fill}
use Rattle.pg_run.specs.pg_pieces.Intending.{begin_intent, each}
use Rattle.pg_run.specs.pg_intentions.Intending.{in_order}
use Rattle.pg_run.specs.pg_intentions.Patches.{begin_patch, begin_patches, is_slot, patch_of}
use Rattle.pg_run.specs.pg_intentions.Seeks.{begin_seek, begin_seeks, to_seek}
use Rattle.pg_run.proofs.pg_intentions.Patched.{behind_at, ended_at, in_order_any, other_at, patched, unpatched}
use Rattle.pg_run.proofs.pg_intentions.Standing.{each_at, fill_other, filtered, patch_at, seek_other, tested_too}
use Rattle.pg_run.proofs.pg_intentions.Steady.{IsSteady, confirm_stays, each_stays, fill_stays, patch_stays, seek_stays, stays_on}
use Rattle.theory_listing_house.proofs.Seen.{at_most}
use Rattle.pg_run.specs.pg_store.declared.store.Store.{Store}
use Rattle.pg_run.specs.pg_store.Servers.{first_target}
use Rattle.pg_run.specs.pg_store.Store.{is_held}
use Rattle.pg_run.specs.pg_pieces.Done.{Done, idle}
use Rattle.law_listings.specs.Letters.{patch_place}
use Rattle.law_listings.proofs.PlacesAlone.{of_places}
use Rattle.law_listings.proofs.Slots.{gone_through}
use Rattle.law_listings.proofs.Views.{ordered}

-- ---- what is owed to be told

-- a Patch that is found has a place
pub patch_found : (o : Option Intent) (q : Place) → patch_place o ≡ Some q → (d : FileId) × (e : Entry) × (target : ℕ) × (o ≡ Some (intent.Patch d e target)) × (e.place ≡ q)
patch_found None q h = absurd (none-some q h)
patch_found (Some (intent.Patch d e target)) q h = (d, e, target, refl, same_Some e.place q h)
patch_found (Some (intent.Bye f b p c)) q h = absurd (none-some q h)
patch_found (Some (intent.Seek f t)) q h = absurd (none-some q h)
patch_found (Some (intent.Fill f b t)) q h = absurd (none-some q h)
patch_found (Some (intent.Confirm d c t)) q h = absurd (none-some q h)
patch_found (Some (intent.Leave f p b)) q h = absurd (none-some q h)

-- the newer of a place and a later one than this is later, and the newer of it and another no
-- earlier
later_by : (q x y : Place) (t : Bool) → is_before x.stamp y.stamp ≡ t → is_before q.stamp y.stamp ≡ true → is_before q.stamp (cond t y x).stamp ≡ true
later_by q x y true s low = low
later_by q x y false s low = elim (at_most y.stamp x.stamp (is_before-false x.stamp y.stamp s)) [
  | inl same ↦ ap (λ (t : Stamp). is_before q.stamp t) (sym same) ∙ low
  | inr up ↦ ordered.further q.stamp y.stamp x.stamp low up
]

newer_above : (q x y : Place) → is_before q.stamp y.stamp ≡ true → is_before q.stamp (newer_place x y).stamp ≡ true
newer_above q x y low = later_by q x y (is_before x.stamp y.stamp) refl low

newer_least_by : (x y : Place) (t : Bool) → is_before x.stamp y.stamp ≡ t → AtMost of_places x.stamp (cond t y x).stamp
newer_least_by x y true s = inr s
newer_least_by x y false s = inl refl

newer_least : (x y : Place) → AtMost of_places x.stamp (newer_place x y).stamp
newer_least x y = newer_least_by x y (is_before x.stamp y.stamp) refl

module _ (s : Store) (w : Work) (d c : FileId) where
  abbrev Key : IntentKey
  Key = intent_key.Patch d c

  abbrev End : Store
  End = (begin_end s w).store

  -- the child's own place
  abbrev Mine : Place
  Mine = (own_or_blank s.names c).place

  above_by : (q : Place) (o : Option Intent) → intent_at s.intents Key ≡ o → is_before q.stamp Mine.stamp ≡ true → (e : Entry) (to : ℕ) → e.place ≡ Mine → Above of_places q.stamp (patch_place (Some (begun_on o (intent.Patch d e to))))
  above_by q None h low e to is = (e.place, refl, ap (λ (p : Place). is_before q.stamp p.stamp) is ∙ low)
  above_by q (Some (intent.Patch x y t)) h low e to is =
      (newer_place y.place e.place, refl, newer_above q y.place e.place (ap (λ (p : Place). is_before q.stamp p.stamp) is ∙ low))
  above_by q (Some (intent.Bye f b p m)) h low e to is = absurd (false≢true (found_key s.intents Key (intent.Bye f b p m) h))
  above_by q (Some (intent.Seek f t)) h low e to is = absurd (false≢true (found_key s.intents Key (intent.Seek f t) h))
  above_by q (Some (intent.Fill f b t)) h low e to is = absurd (false≢true (found_key s.intents Key (intent.Fill f b t) h))
  above_by q (Some (intent.Confirm x y t)) h low e to is = absurd (false≢true (found_key s.intents Key (intent.Confirm x y t) h))
  above_by q (Some (intent.Leave f p m)) h low e to is = absurd (false≢true (found_key s.intents Key (intent.Leave f p m) h))

  -- a live place of the child in the directory was replaced: a later one is to be told
  pub patch_begins : (q : Place) → IsLeft w d c → is_held s d ≡ false → is_before q.stamp Mine.stamp ≡ true → Above of_places q.stamp (of_places.patch End d c)
  patch_begins q left away low =
      let some = gone_through (record { dir = d; child = c }) w.left left in
      let is = ap patch_place (patched d c s w (sym (in_order_any d c w.left) ∙ some) away) in
      let r = above_by q (intent_at s.intents Key) refl low (own_entry s c) (first_target s w.from) refl in
      (r.0, is ∙ r.1, r.2)

  -- ---- a Patch grows

  held_one : (x : Slot) (t : Store) (v : Work) (same : Bool) → is_slot d c x ≡ same → is_held t d ≡ true → intent_at (begin_patch t x v).store.intents Key ≡ intent_at t.intents Key
  held_one x t v false other held = other_at d c t x v other
  held_one x t v true same held =
      let dir = is_same_file-true d x.dir (and_parts (is_same_file d x.dir) (is_same_file c x.child) same).0 in
      ap (λ (b : Bool). intent_at (cond b (idle t v) (begin_intent t (patch_of t x v) v)).store.intents Key) (sym (ap (is_held t) dir) ∙ held)

  held_each : (xs : List Slot) (t : Store) (v : Work) → is_held t d ≡ true → intent_at (each begin_patch t xs v).store.intents Key ≡ intent_at t.intents Key
  held_each [] t v held = refl
  held_each (x ∷ xs) t v held =
      held_each xs (begin_patch t x v).store (begin_patch t x v).work (ap (λ (n : NamesValue). names.is_held n d) (patch_stays t x v).names ∙ held)
      ∙ held_one x t v (is_slot d c x) refl held

  held_stays : is_held s d ≡ true → intent_at End.intents Key ≡ intent_at s.intents Key
  held_stays held = behind_at d c s w ∙ held_each (in_order w.left) (end_others s (files_to_fill s.names)) w held ∙ ended_at d c s

  least_by : (q : Place) (x : FileId) (y : Entry) (t : ℕ) → intent_at s.intents Key ≡ Some (intent.Patch x y t) → y.place ≡ q → (some : Bool) → list_any (is_slot d c) w.left ≡ some
      → (held : Bool) → is_held s d ≡ held → AtLeast of_places q.stamp (of_places.patch End d c)
  least_by q x y t found is false none held h = (y.place, ap patch_place (unpatched d c s w none ∙ found), inl (sym (ap (λ (p : Place). p.stamp) is)))
  least_by q x y t found is true some true held = (y.place, ap patch_place (held_stays held ∙ found), inl (sym (ap (λ (p : Place). p.stamp) is)))
  least_by q x y t found is true some false away =
      let e = own_entry s c in
      let now = ap patch_place (patched d c s w some away ∙ ap (λ o. Some (begun_on o (intent.Patch d e (first_target s w.from)))) found) in
      (newer_place y.place e.place, now, subst (λ (p : Place). AtMost of_places p.stamp (newer_place y.place e.place).stamp) is (newer_least y.place e.place))

  pub patch_grows : (q : Place) → of_places.patch s d c ≡ Some q → AtLeast of_places q.stamp (of_places.patch End d c)
  patch_grows q h =
      let f = patch_found (intent_at s.intents Key) q h in
      least_by q f.0 f.1 f.2 f.3 f.4 (list_any (is_slot d c) w.left) refl (is_held s d) refl

-- ---- what is owed to be confirmed

module _ (s : Store) (w : Work) (d c : FileId) (doubt : is_doubtful s d c ≡ true) where
  abbrev Asked : IntentKey
  Asked = intent_key.Confirm d c

  abbrev Rest : Store
  Rest = end_others s (files_to_fill s.names)

  abbrev One : Done
  One = begin_patches Rest w

  abbrev Two : Done
  Two = begin_fills One.store (to_fill s.names) One.work

  abbrev Three : Done
  Three = begin_seeks Two.store (to_seek s) Two.work

  abbrev Owes : Store → Type 0
  Owes t = is_some (intent_at t.intents Asked) ≡ true

  three_is : intent_at Three.store.intents Asked ≡ intent_at s.intents Asked
  three_is =
      each_at begin_seek Asked (seek_other Asked (λ f. refl)) (to_seek s) Two.store Two.work
      ∙ each_at begin_fill Asked (fill_other Asked (λ f. refl)) (to_fill s.names) One.store One.work
      ∙ each_at begin_patch Asked (patch_at Asked (λ x y. refl)) (in_order w.left) Rest w
      ∙ filtered Asked (still_stands s (files_to_fill s.names)) true (λ i has. tested_too d c s (files_to_fill s.names) i has ∙ doubt) s.intents

  three_stays : IsSteady Rest w Three
  three_stays =
      stays_on (stays_on (each_stays begin_patch patch_stays (in_order w.left) Rest w) (each_stays begin_fill fill_stays (to_fill s.names) One.store One.work))
      (each_stays begin_seek seek_stays (to_seek s) Two.store Two.work)

  -- one Confirm more ends none
  owes_by : (t : Store) (i : Intent) (b : Bool) → is_some (intent_at t.intents Asked) ≡ true → is_some (cond b (Some (begun_on (intent_at t.intents Asked) i)) (intent_at t.intents Asked)) ≡ true
  owes_by t i true h = refl
  owes_by t i false h = h

  begin_keeps : (t : Store) (i : Intent) (v : Work) → Owes t → Owes (begin_intent t i v).store
  begin_keeps t i v h = ap is_some (begun_found t.intents i Asked) ∙ owes_by t i (is_same_key Asked (key_of i)) h

  confirm_keeps : (t : Store) (x : Slot) (v : Work) → Owes t → Owes (begin_confirm t x v).store
  confirm_keeps t x v h =
      chosen (λ (e : Done). Owes e.store) (is_doubtful t x.dir x.child) (begin_intent t (confirm_of t x) v) (idle t v) (begin_keeps t (confirm_of t x) v h) h

  each_keeps : (xs : List Slot) (t : Store) (v : Work) → Owes t → Owes (each begin_confirm t xs v).store
  each_keeps [] t v h = h
  each_keeps (x ∷ xs) t v h = each_keeps xs (begin_confirm t x v).store (begin_confirm t x v).work (confirm_keeps t x v h)

  pub still_asked : of_places.Confirms s d c → of_places.Confirms (begin_end s w).store d c
  still_asked h =
      stands_is (begin_end s w).store.intents Asked
      ∙ each_keeps (in_order Three.work.unsure) Three.store Three.work (ap is_some three_is ∙ sym (stands_is s.intents Asked) ∙ h)

  -- and of this child one begins
  begins_here : (t : Store) (x : Slot) (v : Work) → is_slot d c x ≡ true → is_doubtful t d c ≡ true → Owes (begin_confirm t x v).store
  begins_here t x v same here =
      let both = and_parts (is_same_file d x.dir) (is_same_file c x.child) same in
      let dir = is_same_file-true d x.dir both.0 in
      let child = is_same_file-true c x.child both.1 in
      let at : is_doubtful t x.dir x.child ≡ true = sym (ap (λ y. is_doubtful t y x.child) dir) ∙ sym (ap (is_doubtful t d) child) ∙ here in
      ap (λ b. is_some (intent_at (cond b (begin_intent t (confirm_of t x) v) (idle t v)).store.intents Asked)) at
      ∙ ap is_some (begun_found t.intents (confirm_of t x) Asked)
      ∙ ap (λ b. is_some (cond b (Some (begun_on (intent_at t.intents Asked) (confirm_of t x))) (intent_at t.intents Asked))) same

  begins_by : (x : Slot) (xs : List Slot) (t : Store) (v : Work) (same : Bool) → is_slot d c x ≡ same → (same || list_any (is_slot d c) xs) ≡ true → is_doubtful t d c ≡ true
      → (list_any (is_slot d c) xs ≡ true → Owes (each begin_confirm (begin_confirm t x v).store xs (begin_confirm t x v).work).store)
      → Owes (each begin_confirm (begin_confirm t x v).store xs (begin_confirm t x v).work).store
  begins_by x xs t v true same some here rest = each_keeps xs (begin_confirm t x v).store (begin_confirm t x v).work (begins_here t x v same here)
  begins_by x xs t v false same some here rest = rest some

  each_begins : (xs : List Slot) (t : Store) (v : Work) → list_any (is_slot d c) xs ≡ true → is_doubtful t d c ≡ true → Owes (each begin_confirm t xs v).store
  each_begins [] t v some here = absurd (false≢true some)
  each_begins (x ∷ xs) t v some here =
      begins_by x xs t v (is_slot d c x) refl some here
      (λ more. each_begins xs (begin_confirm t x v).store (begin_confirm t x v).work more (ap (λ n. is_doubtful_in n d c) (confirm_stays t x v).names ∙ here))

  pub newly_asked : IsOneOf {A = Slot} (record { dir = d; child = c }) w.unsure → of_places.Confirms (begin_end s w).store d c
  newly_asked noted_here =
      let some = ap (λ xs. list_any (is_slot d c) (in_order xs)) three_stays.unsure ∙ gone_through (record { dir = d; child = c }) w.unsure noted_here in
      stands_is (begin_end s w).store.intents Asked
      ∙ each_begins (in_order Three.work.unsure) Three.store Three.work some (ap (λ n. is_doubtful_in n d c) three_stays.names ∙ doubt)
