-- What stands behind the first part of a step is a second part.
use Rattle.std.proofs.Common.{ℕ, ◌≡◌, not, true, drop, length, List, [], ◌∷◌, Option, None, Some, refl, sym, ap, subst, ◌∙◌, inl, inr, ◌⊎◌}
use Rattle.std.specs.Option.{option_map}
use Rattle.std.proofs.lemmas.Option.{none-some}
use Rattle.std.proofs.lemmas.Bool.{and_from, not_from_false}
use Rattle.pg_run.specs.pg_base.declared.id.FileId.{FileId}
use Rattle.pg_run.specs.pg_base.Id.{is_same_file}
use Rattle.pg_run.specs.pg_base.Stamp.{is_before}
use Rattle.pg_run.proofs.pg_base.Orders.{is_same_file-refl}
use Rattle.pg_run.specs.pg_entries.declared.entry.Entry.{Entry}
use Rattle.pg_run.specs.pg_entries.Entry.{is_listed}
use Rattle.pg_run.specs.pg_house.Calm.{IsSameOrPlaced, held_place}
use Rattle.pg_run.specs.pg_house.Facts.{AreByServer, IsLast, IsLeft, IsOfDirs, IsOneOf}
use Rattle.pg_run.specs.pg_house.House.{house}
use Rattle.pg_run.specs.pg_house.Work.{State, state_of}
use Rattle.pg_run.proofs.pg_house.Keys.{rules_by}
use Rattle.pg_run.proofs.pg_house.Replaced.{noted}
use Rattle.pg_run.specs.pg_intent.declared.intent.Intent.TheVariants as intent
use Rattle.pg_run.specs.pg_intent.declared.key.IntentKey.TheVariants as intent_key
use Rattle.pg_run.specs.pg_intent.Intents.{intent_at, stands}
use Rattle.theory_listing.specs.Protocol.{Above, AtLeast, IsIn, Lists}
use Rattle.theory_listing.specs.Parts.{SecondPart}
use Rattle.theory_listing.specs.Rule.{IsToldAt}
use Rattle.pg_run.specs.pg_msg.declared.work.Slot.{Slot}
use Rattle.pg_run.specs.pg_msg.declared.work.Touched.{Touched}
use Rattle.pg_run.specs.pg_msg.declared.work.Work.{Work}
use Rattle.pg_run.specs.pg_names.declared.attributes.Attributes.{Attributes}
use Rattle.pg_run.specs.pg_names.Names.{NamesValue, own_at, own_or_blank, or_blank}
use Rattle.pg_run.specs.pg_names.Names as names
use Rattle.law_places.proofs.Behind.{touched_intents, touched_names}
use Rattle.pg_run.specs.pg_register.declared.place.Place.{Place}
use Rattle.pg_run.specs.pg_intentions.Confirms.{is_doubtful, is_doubtful_cell}
use Rattle.pg_run.proofs.pg_intentions.Steady.{begin_end_stays}
use Rattle.pg_run.specs.pg_replica.declared.replica.Replica.{Replica}
use Rattle.pg_run.specs.pg_replica.Replicas.{ByFile, replica_in}
use Rattle.pg_run.specs.Intending.{IntendsInOrder}
use Rattle.pg_run.specs.pg_server.Local.{intended, settled}
use Rattle.theory_listing_house.specs.Listing.{HaveSamePlaces, cell_place, listing, own_place}
use Rattle.theory_listing_house.specs.Second.{Intends}
use Rattle.theory_listing_house.proofs.Given.{nothing_begins, replaced_are_noted}
use Rattle.theory_listing_house.proofs.Second.{rules_are_second_parts}
use Rattle.theory_listing_house.proofs.Seen.{cell_is, own_is}
use Rattle.theory_listing_house.proofs.Works.{house_unsure}
use Rattle.pg_run.specs.pg_store.declared.store.Store.{Store}
use Rattle.pg_run.specs.pg_store.Births.{birth_of}
use Rattle.pg_run.specs.pg_store.Seen.{view_of}
use Rattle.pg_run.specs.pg_store.Store.{is_held, touch, with_names}
use Rattle.pg_run.specs.pg_store.Together.{BirthsMove, birth_at}
use Rattle.pg_run.proofs.pg_store.Over.{over_stays}
use Rattle.pg_run.proofs.pg_store.Pairs.{touch_as_before}
use Rattle.pg_run.specs.pg_pieces.Done.{Done}
use Rattle.pg_run.specs.pg_cells.Raised.{DiffersByGolds}
use Rattle.pg_run.specs.pg_cells.Settling.{ruled, touch_all}
use Rattle.pg_run.proofs.pg_cells.Calmed.{settle_golds}
use Rattle.law_listings.specs.Laws.{MaySettle}
use Rattle.law_listings.specs.Letters.{Letter, beside, of_stores, patch_place}
use Rattle.law_listings.proofs.Births.{birth_on, not_over, over_back, same_birth}
use Rattle.law_listings.proofs.Heard.{IsFirst}
use Rattle.law_listings.proofs.Settling.{newly_asked, patch_begins, patch_found, patch_grows, still_asked}
use Rattle.law_listings.proofs.Views.{holds_held, none_away, patch_is}

-- ---- golds that are raised change no place

placed_by : (o : Option Attributes) → own_place o ≡ held_place o
placed_by None = refl
placed_by (Some own) = refl

cell_by : (o p : Option Entry) → IsSameOrPlaced o p → cell_place p ≡ cell_place o
cell_by o p (inl same) = ap cell_place same
cell_by o p (inr k) = ap cell_place k.3 ∙ ap (λ (q : Place). Some q) k.4 ∙ sym (ap cell_place k.2)

-- keys that are touched change no birth
touched_births : (ts : List Touched) (a : Store) (f : FileId) → birth_at (touch_all a ts) f ≡ birth_at a f
touched_births [] a f = refl
touched_births (t ∷ ts) a f = touched_births ts (touch a t.file t.key) f ∙ (touch_as_before a t.file t.key).births f

module _ (a : Store) (heard : Letter) (d : Done) (k : IsFirst a heard d) (sound : MaySettle d.store.names) (order : IntendsInOrder (intended (settled d)).store)
    (moves : BirthsMove d.store (intended (settled d)).store) where
  abbrev St : State
  St = state_of d.store.names d.work

  abbrev End : State
  End = house d.work.now St

  abbrev R : Done
  R = ruled d

  abbrev S : Done
  S = settled d

  abbrev B : Store
  B = (intended S).store

  r_names : R.store.names ≡ End.names
  r_names = touched_names (drop (length d.work.touched) End.work.touched) (with_names d.store End.names)

  r_intents : R.store.intents ≡ d.store.intents
  r_intents = touched_intents (drop (length d.work.touched) End.work.touched) (with_names d.store End.names)

  -- behind the rules golds alone are raised
  differs : DiffersByGolds R S
  differs = settle_golds d.store d.work sound.of_dirs sound.by_server sound.last sound.ordered

  s_intents : S.store.intents ≡ d.store.intents
  s_intents = ap (λ (x : Store). x.intents) differs.store ∙ r_intents

  s_left : S.work.left ≡ End.work.left
  s_left = ap (λ (w : Work). w.left) differs.work

  s_unsure : S.work.unsure ≡ d.work.unsure
  s_unsure = ap (λ (w : Work). w.unsure) differs.work ∙ house_unsure d.work.now St

  same_names : B.names ≡ S.store.names
  same_names = (begin_end_stays S.store S.work).names

  own_end : (f : FileId) → own_place (own_at B.names f) ≡ own_place (own_at End.names f)
  own_end f =
      ap (λ (n : NamesValue). own_place (own_at n f)) same_names
      ∙ placed_by (own_at S.store.names f) ∙ differs.places f ∙ sym (placed_by (own_at R.store.names f))
      ∙ ap (λ (n : NamesValue). own_place (own_at n f)) r_names

  cell_end : (dir c : FileId) → cell_place (names.cell_at B.names dir c) ≡ cell_place (names.cell_at End.names dir c)
  cell_end dir c =
      ap (λ (n : NamesValue). cell_place (names.cell_at n dir c)) same_names
      ∙ cell_by (names.cell_at R.store.names dir c) (names.cell_at S.store.names dir c) (differs.cells dir c)
      ∙ ap (λ (n : NamesValue). cell_place (names.cell_at n dir c)) r_names

  -- ---- births

  r_births : (f : FileId) → birth_at R.store f ≡ birth_at d.store f
  r_births f = touched_births (drop (length d.work.touched) End.work.touched) (with_names d.store End.names) f

  pub births_behind : (f : FileId) → birth_at B f ≡ birth_at d.store f
  births_behind f = ap (λ (rs : ByFile). option_map (λ (x : Replica). x.birth) (replica_in rs f)) (begin_end_stays S.store S.work).replicas ∙ differs.births f ∙ r_births f

  birth_mid : (f : FileId) → birth_of B f ≡ birth_of k.mid f
  birth_mid f = same_birth d.store B f (births_behind f) ∙ sym (birth_on d.store k.mid k.births f)

  -- ---- places

  -- so the places in the end are those behind the rules
  end_places : HaveSamePlaces End.names B.names
  end_places = record { own = own_end; cells = cell_end }

  mid_places : HaveSamePlaces (house d.work.now (state_of k.mid.names d.work)).names B.names
  mid_places = subst (λ (n : NamesValue). HaveSamePlaces (house d.work.now (state_of n d.work)).names B.names) (sym k.names) end_places

  own_of_mid : (c : FileId) (o : Option Place) → of_stores.own k.mid c ≡ o → of_stores.own d.store c ≡ o
  own_of_mid c o h = sym (ap (λ (n : NamesValue). own_place (own_at n c)) k.names) ∙ h

  -- ---- Patches

  patch_of : (dir c : FileId) (q : Place) → of_stores.patch B dir c ≡ Some q → IsIn of_stores dir c q → of_stores.own B c ≡ Some q
  patch_of dir c q h in_ =
      let f = patch_found (intent_at B.intents (intent_key.Patch dir c)) q h in
      let is = patch_is B.intents dir c f.0 f.1 f.2 f.3 in
      let p = order.patches dir c f.1 f.2 (f.3 ∙ ap (λ x. Some (intent.Patch x f.1 f.2)) is.0) in
      let live : f.1.place.live ≡ true = ap (λ (x : Place). x.live) f.4 ∙ in_.live.0 in
      let parent : f.1.place.parent ≡ dir = ap (λ (x : Place). x.parent) f.4 ∙ in_.parent in
      ap (of_stores.own B) (sym is.1) ∙ ap own_place p.held ∙ ap (λ (x : Place). Some x) (p.same live parent ∙ f.4)

  in_list : (dir c : FileId) (q : Place) → IsIn of_stores dir c q → IsIn listing dir c q
  in_list dir c q i = record { live = i.live; parent = i.parent; inner = i.inner }

  still_left : (dir c : FileId) → IsLeft End.work dir c → IsLeft S.work dir c
  still_left dir c h = subst (IsOneOf {A = Slot} (record { dir = dir; child = c })) (sym s_left) h

  -- it is noted that a live place was replaced, by the rules
  left_behind : (dir c : FileId) (q r : Place) → of_stores.own d.store c ≡ Some q → IsIn of_stores dir c q → of_stores.own B c ≡ Some r → is_before q.stamp r.stamp ≡ true → IsLeft S.work dir c
  left_behind dir c q r was in_ now low =
      still_left dir c (replaced_are_noted d.work.now St dir c q r was (in_list dir c q in_) (sym (own_end c) ∙ now) low)

  -- or before
  left_before : (dir c : FileId) (q : Place) → IsIn of_stores dir c q → IsLeft d.work q.parent c → IsLeft S.work dir c
  left_before dir c q in_ left = still_left dir c ((noted d.work.now St).stays (record { dir = dir; child = c }) (subst (λ (x : FileId). IsLeft d.work x c) in_.parent left))

  left_by : (dir c : FileId) (q r : Place) (o : Option Place) → of_stores.own d.store c ≡ o → of_stores.own a c ≡ Some q → IsIn of_stores dir c q → of_stores.own B c ≡ Some r → is_before q.stamp r.stamp ≡ true
      → IsLeft S.work dir c
  left_by dir c q r None is was in_ now low =
      absurd (none-some r (sym (nothing_begins d.work.now St c is) ∙ sym (own_end c) ∙ now))
  left_by dir c q r (Some x) is was in_ now low = elim (k.noted.noted c q x was is in_.inner in_.live.0) [
    | inl same ↦ left_behind dir c q r (is ∙ ap (λ (y : Place). Some y) (sym same)) in_ now low
    | inr left ↦ left_before dir c q in_ left
  ]

  left_at : (dir c : FileId) (q r : Place) → (of_stores.own a c ≡ Some q) ⊎ (of_stores.own k.mid c ≡ Some q) → IsIn of_stores dir c q → of_stores.own B c ≡ Some r → is_before q.stamp r.stamp ≡ true → IsLeft S.work dir c
  left_at dir c q r (inl was) in_ now low = left_by dir c q r (of_stores.own d.store c) refl was in_ now low
  left_at dir c q r (inr mid) in_ now low = left_behind dir c q r (own_of_mid c (Some q) mid) in_ now low

  patch_begun : (dir c : FileId) (q r : Place) → (of_stores.own a c ≡ Some q) ⊎ (of_stores.own k.mid c ≡ Some q) → IsIn of_stores dir c q
      → of_stores.own B c ≡ Some r → is_before q.stamp r.stamp ≡ true → of_stores.own B dir ≡ None → Above of_stores q.stamp (of_stores.patch B dir c)
  patch_begun dir c q r either in_ now low none =
      let away = none_away S.store dir (sym (ap (λ (n : NamesValue). own_place (own_at n dir)) same_names) ∙ none) in
      let o = own_is (own_at S.store.names c) r (sym (ap (λ (n : NamesValue). own_place (own_at n c)) same_names) ∙ now) in
      let mine : (own_or_blank S.store.names c).place ≡ r = ap (λ x. (or_blank c x).place) o.1 ∙ o.2 in
      patch_begins S.store S.work dir c q (left_at dir c q r either in_ now low) away (ap (λ (x : Place). is_before q.stamp x.stamp) mine ∙ low)

  patch_ends : (dir c : FileId) (q : Place) → of_stores.patch k.mid dir c ≡ Some q → AtLeast of_stores q.stamp (of_stores.patch B dir c) ⊎ IsToldAt of_stores B dir c q.stamp
  patch_ends dir c q h =
      inl (patch_grows S.store S.work dir c q (ap (λ is. patch_place (intent_at is (intent_key.Patch dir c))) s_intents ∙ sym (k.patches dir c) ∙ h))

  -- ---- Confirms

  doubtful : (dir c : FileId) (q : Place) → Lists of_stores B dir c q → of_stores.own B c ≡ None → is_doubtful S.store dir c ≡ true
  doubtful dir c q l none =
      let x = cell_is (names.cell_at S.store.names dir c) q (sym (ap (λ (n : NamesValue). cell_place (names.cell_at n dir c)) same_names) ∙ l.cell) in
      let away = none_away S.store c (sym (ap (λ (n : NamesValue). own_place (own_at n c)) same_names) ∙ none) in
      let live : x.0.place.live ≡ true = ap (λ (p : Place). p.live) x.2 ∙ l.is_in.live.0 in
      let parent : is_same_file x.0.place.parent dir ≡ true = ap (λ (p : Place). is_same_file p.parent dir) x.2 ∙ ap (λ (f : FileId). is_same_file f dir) l.is_in.parent ∙ is_same_file-refl dir in
      ap (is_doubtful_cell S.store.names dir c) x.1
      ∙ and_from (is_listed dir x.0) (not (is_held S.store c)) (and_from x.0.place.live (is_same_file x.0.place.parent dir) live parent) (not_from_false (is_held S.store c) away)

  confirms : (dir c : FileId) (q : Place) → of_stores.Confirms k.mid dir c → Lists of_stores B dir c q → of_stores.own B c ≡ None → of_stores.Confirms B dir c
  confirms dir c q owes l none =
      let doubt = doubtful dir c q l none in
      elim (k.confirms dir c owes) [
        | inl stood ↦ still_asked S.store S.work dir c doubt (ap (λ is. stands is (intent_key.Confirm dir c)) s_intents ∙ stood)
        | inr unsure ↦ newly_asked S.store S.work dir c doubt (subst (IsOneOf {A = Slot} (record { dir = dir; child = c })) (sym s_unsure) unsure)
      ]

  -- and who is removed stays so
  view_behind : view_of B ≡ view_of k.mid
  view_behind =
      ap (λ (rs : List ℕ). length rs)
      (ap (λ (n : NamesValue). n.removed) same_names ∙ differs.removed ∙ ap (λ (n : NamesValue). n.removed) r_names ∙ (rules_by d.work.now St).1)
      ∙ ap (λ (n : NamesValue). length n.removed) (sym k.names)

  intends : Intends (λ (x : Store). x.names) beside a k.mid B
  intends = record {
    view = view_behind;
    birth = λ f h. birth_mid f;
    past = λ f n h. over_stays d.store B f n moves (over_back d.store k.mid k.births f n h);
    not_past = λ f n h g past. not_over B order.held.together f n (holds_held B f h) g past;
    patch_of = patch_of;
    patch_begun = patch_begun;
    patch_ends = patch_ends;
    confirms = confirms;
  }

  -- THE SECOND PART
  pub second_part : SecondPart of_stores a k.mid B
  second_part =
      let back : d.store.names ≡ k.mid.names = sym k.names in
      rules_are_second_parts (λ (x : Store). x.names) beside d.work.now d.work a k.mid B (subst IsOfDirs back sound.of_dirs) (subst AreByServer back sound.by_server) (subst IsLast back sound.last) mid_places intends
