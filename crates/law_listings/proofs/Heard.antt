-- The first part of a step, where a message comes.
use Rattle.std.proofs.Common.{ℕ, ◌≡◌, ◌&&◌, ◌||◌, not, Bool, true, false, cond, length, List, Option, None, Some, is_some, refl, sym, ap, subst, ◌∙◌, inl, inr, ◌⊎◌}
use Rattle.std.proofs.lemmas.Bool.{and_parts, false≢true, and_from, not-true}
use Rattle.std.proofs.lemmas.Option.{none-some, same_Some}
use Rattle.pg_run.specs.pg_base.declared.id.FileId.{FileId}
use Rattle.pg_run.specs.pg_base.Id.{is_same_file}
use Rattle.pg_run.specs.pg_base.Stamp.{is_before}
use Rattle.pg_run.proofs.pg_base.Orders.{is_same_file-refl, is_same_file-true}
use Rattle.pg_run.specs.pg_content.History.{is_same_stamp}
use Rattle.pg_run.proofs.pg_content.Stamps.{same_stamp}
use Rattle.pg_run.specs.pg_entries.declared.entry.Entry.{Entry}
use Rattle.pg_run.specs.pg_entries.Entry.{is_listed}
use Rattle.pg_run.specs.pg_house.Facts.{IsOneOf}
use Rattle.pg_run.specs.pg_house.Holding.{waits}
use Rattle.pg_run.proofs.pg_house.Noting.{one_last}
use Rattle.pg_run.proofs.pg_house.Truths.{or_cases}
use Rattle.pg_run.specs.pg_intent.declared.intent.Intent.{Intent}
use Rattle.pg_run.specs.pg_intent.declared.intent.Intent.TheVariants as intent
use Rattle.pg_run.specs.pg_intent.declared.key.IntentKey.{IntentKey}
use Rattle.pg_run.specs.pg_intent.declared.key.IntentKey.TheVariants as intent_key
use Rattle.pg_run.specs.pg_intent.Intents.{begun, begun_on, ended, intent_at, stands}
use Rattle.pg_run.specs.pg_intent.Key.{is_same_key}
use Rattle.pg_run.proofs.pg_intent.SameKey.{is_same_key-refl}
use Rattle.pg_run.proofs.pg_intent.Found.{begun_found, ended_found, stands_is}
use Rattle.theory_listing.specs.Protocol.{IsIn, IsUpTo, Lists}
use Rattle.theory_listing.specs.Parts.{NoneLater}
use Rattle.theory_listing.specs.Rule.{IsJustTold}
use Rattle.theory_listing.proofs.Handlers.{cells_first}
use Rattle.pg_run.specs.pg_msg.declared.work.Slot.{Slot}
use Rattle.pg_run.specs.pg_msg.declared.work.Work.{Work}
use Rattle.pg_run.specs.pg_names.Names.{NamesValue, cell_at, own_at}
use Rattle.pg_run.specs.pg_names.Names as names
use Rattle.pg_run.specs.pg_register.declared.place.Place.{Place}
use Rattle.pg_run.specs.pg_register.Flag.{is_removed}
use Rattle.theory_listing_house.specs.Listing.{cell_place, own_place}
use Rattle.theory_listing_house.proofs.Seen.{before_trans}
use Rattle.pg_run.specs.pg_store.declared.store.Store.{Store}
use Rattle.pg_run.specs.pg_store.Beginning.{with_intents}
use Rattle.pg_run.specs.pg_store.Births.{is_fill_at, wish_at}
use Rattle.pg_run.specs.pg_store.Seen.{removed_of, view_of}
use Rattle.pg_run.specs.pg_store.Store.{entry_news, is_held, take_entry, take_place}
use Rattle.pg_run.specs.pg_store.Wishes.{is_with_birth}
use Rattle.pg_run.specs.pg_pieces.Done.{Done, idle}
use Rattle.pg_run.specs.pg_pieces.Taking.{is_place_news, take_entry_cell, take_entry_noted, take_place_noted, with_doubt}
use Rattle.pg_run.specs.pg_repair.Confirming.{end_confirmed, is_confirmed, is_confirmed_by}
use Rattle.law_listings.specs.Letters.{Letter, patch_place}
use Rattle.law_listings.proofs.PlacesAlone.{IsPart, of_places}
use Rattle.law_listings.proofs.Alike.{Alike, Alike-refl, alike_first, behind_alike, view_on}
use Rattle.law_listings.proofs.Births.{SameBirths, births_itself}
use Rattle.law_listings.proofs.Joined as joined
use Rattle.law_listings.proofs.Placed.{IsNoted, noted_from, noted_on, place_first, place_noted, same_noted}

-- what a handler leaves, and a server that would owe the Confirms that are noted already
-- names, patches: it holds and owes to tell the same
-- confirms: and to confirm what the handler owes, or what is noted
-- births: of births it has the same
-- first: it is the first part of a step
-- noted: live places that were replaced are noted
pub record IsFirst (a : Store) (heard : Letter) (d : Done) : Type 0 where
  pub mid : Store
  pub names : mid.names ≡ d.store.names
  pub patches : (dir c : FileId) → of_places.patch mid dir c ≡ of_places.patch d.store dir c
  pub confirms : (dir c : FileId) → of_places.Confirms mid dir c
      → of_places.Confirms d.store dir c ⊎ IsOneOf {A = Slot} (record { dir = dir; child = c }) d.work.unsure
  pub births : SameBirths d.store mid
  pub first : IsPart a mid heard
  pub noted : IsNoted a d

-- where nothing is noted to be confirmed
pub plainly : (a : Store) (heard : Letter) (d : Done) → IsPart a d.store heard → IsNoted a d → IsFirst a heard d
plainly a heard d first noted = record { mid = d.store; names = refl; patches = λ dir c. refl; confirms = λ dir c h. inl h; births = births_itself d.store; first = first; noted = noted }

-- the same store, with more work
pub with_work : (a : Store) (heard : Letter) (d e : Done) → e.store ≡ d.store → e.work.left ≡ d.work.left → e.work.unsure ≡ d.work.unsure → IsFirst a heard d → IsFirst a heard e
with_work a heard d e same left unsure k = record {
  mid = k.mid;
  names = k.names ∙ sym (ap (λ (s : Store). s.names) same);
  patches = λ dir c. k.patches dir c ∙ sym (ap (λ (s : Store). of_places.patch s dir c) same);
  confirms = λ dir c h. elim (k.confirms dir c h) [
    | inl owes ↦ inl (ap (λ (s : Store). stands s.intents (intent_key.Confirm dir c)) same ∙ owes)
    | inr noted ↦ inr (subst (IsOneOf {A = Slot} (record { dir = dir; child = c })) (sym unsure) noted)
  ];
  births = subst (λ (s : Store). SameBirths s k.mid) (sym same) k.births;
  first = k.first;
  noted = noted_on a d e k.noted (λ f. ap (λ (s : Store). of_places.own s f) same) (λ x h. subst (IsOneOf x) (sym left) h);
}

-- ---- what is known of a server before

-- a place in a directory that is later than a thing's own is held back
pub record IsBehind (a : Store) : Type 0 where
  pub back : (c e : FileId) (x r : Place) → of_places.own a c ≡ Some x → of_places.cell a e c ≡ Some r → is_before x.stamp r.stamp ≡ true
      → waits (removed_of a) c x r ≡ true

below_then : (q r x : Place) → IsUpTo of_places q r → is_before r.stamp x.stamp ≡ true → is_before q.stamp x.stamp ≡ true
below_then q r x (inl same) low = ap (λ (p : Place). is_before p.stamp x.stamp) same ∙ low
below_then q r x (inr up) low = before_trans q.stamp r.stamp x.stamp up low

-- of a later place it is so too
waits_later : (removed : List ℕ) (c : FileId) (x y r : Place) → waits removed c x r ≡ true → is_before y.stamp r.stamp ≡ true → waits removed c y r ≡ true
waits_later removed c x y r h low =
    let p = and_parts (names.is_dir c) (not r.live && (is_before x.stamp r.stamp && not (is_removed removed r.stamp.server))) h in
    let q = and_parts (not r.live) (is_before x.stamp r.stamp && not (is_removed removed r.stamp.server)) p.1 in
    let s = and_parts (is_before x.stamp r.stamp) (not (is_removed removed r.stamp.server)) q.1 in
    and_from (names.is_dir c) _ p.0 (and_from (not r.live) _ q.0 (and_from (is_before y.stamp r.stamp) _ low s.1))

module _ (a : Store) (behind : IsBehind a) (heard : Letter) (view : heard.view ≡ view_of a) where
  -- cells are as they were, and an own place is no earlier
  pub none_later : (m : Store) (c : FileId) (q r : Place) → removed_of m ≡ removed_of a → ((e : FileId) (x : Place) → of_places.cell m e c ≡ Some x → of_places.cell a e c ≡ Some x)
      → of_places.own a c ≡ Some q → IsUpTo of_places q r → of_places.own m c ≡ Some r → NoneLater of_places m c r
  none_later m c q r removed same was up now = λ e x cell low own held.
      let is : own.place ≡ r = same_Some own.place r (sym (ap own_place held) ∙ now) in
      let before : is_before q.stamp x.stamp ≡ true = below_then q r x up low in
      ap (λ rs. waits rs c own.place x) removed ∙ ap (λ p. waits (removed_of a) c p x) is
      ∙ waits_later (removed_of a) c q r x (behind.back c e q x was (same e x cell) before) low

  pub idle_first : (work : Work) → IsFirst a heard (idle a work)
  idle_first work = plainly a heard (idle a work) (alike_first a a heard view (Alike-refl a)) (same_noted a (idle a work) (λ f. refl))

  pub alike_is : (d : Done) → Alike a d.store → IsFirst a heard d
  alike_is d k = plainly a heard d (alike_first a d.store heard view k) (same_noted a d k.own)

  -- ---- a place

  pub place_is : (b : Store) (f : FileId) (place : Place) (work : Work) → Alike a b → IsFirst a heard (take_place_noted b f place work)
  place_is b f place work k =
      plainly a heard (take_place_noted b f place work) (behind_alike a b k heard (take_place b f place) (place_first b f place heard (view_on a b k heard view)))
      (noted_from a b (take_place_noted b f place work) k.own (place_noted b f place work))

  -- ---- a cell of a directory

  module _ (b : Store) (dir : FileId) (e : Entry) (k : Alike a b) where
    abbrev Took : Store
    Took = take_entry b dir e

    -- where it is listed anew it was told, or a Confirm stands
    module _ (m : Store) (same : m.names ≡ Took.names) (patches : (d c : FileId) → of_places.patch m d c ≡ of_places.patch Took d c)
        (asks : is_place_news (entry_news b dir e) ≡ true → of_places.Confirms m dir e.child ⊎ IsJustTold of_places heard dir e.child e.place)
        (confirms : (d c : FileId) (q : Place) → of_places.Confirms b d c → Lists of_places m d c q → of_places.Confirms m d c ⊎ IsJustTold of_places heard d c q) where
      own_is_then : (f : FileId) → of_places.own m f ≡ of_places.own b f
      own_is_then f = ap (λ n. own_place (own_at n f)) same ∙ joined.own_then b dir e f

      cell_is_then : (d c : FileId) → of_places.cell m d c ≡ of_places.cell Took d c
      cell_is_then d c = ap (λ n. cell_place (cell_at n d c)) same

      abbrev New : FileId → FileId → Place → Type 0
      New d c q = (of_places.cell b d c ≡ Some q) ⊎ of_places.Confirms m d c ⊎ IsJustTold of_places heard d c q

      new_here : (q : Place) → of_places.cell Took dir e.child ≡ Some q → New dir e.child q
      new_here q h = elim (joined.at_then b dir e) [
        | inl old ↦ inl (sym old ∙ h)
        | inr new ↦
            let is : e.place ≡ q = same_Some e.place q (sym new.0 ∙ h) in
            elim (asks new.2) [
              | inl owes ↦ inr (inl owes)
              | inr told ↦ inr (inr (subst (IsJustTold of_places heard dir e.child) is told))
            ]
      ]

      new_at : (d c : FileId) (q : Place) → of_places.cell Took d c ≡ Some q → New d c q
      new_at d c q h = elim (joined.others_then b dir e d c) [
        | inr old ↦ inl (sym old ∙ h)
        | inl here ↦
            let P : FileId → FileId → Type 0 = λ x y. of_places.cell Took x y ≡ Some q → New x y q in
            subst (λ (x : FileId). P x c) (sym here.0) (subst (P dir) (sym here.1) (new_here q)) h
      ]

      entry_part : IsPart b m heard
      entry_part = λ least. cells_first of_places least b m heard (record {
        hears = inr (view_on a b k heard view);
        view = ap (λ (n : NamesValue). length n.removed) same ∙ ap (λ (rs : List ℕ). length rs) (joined.removed_then b dir e);
        own = own_is_then;
        births = λ f was now. refl;
        past = λ f n h. h;
        patches = λ d c. patches d c ∙ ap (λ is. patch_place (intent_at is (intent_key.Patch d c))) (joined.intents_then b dir e);
        grows = λ d c q h. (let r = joined.grows_then b dir e d c q h in (r.0, cell_is_then d c ∙ r.1, r.2));
        new = λ d c q l none. new_at d c q (sym (cell_is_then d c) ∙ l.cell);
        confirms = λ d c q owes l none. confirms d c q owes l;
      })

    confirms_then : (d c : FileId) → of_places.Confirms b d c → of_places.Confirms Took d c
    confirms_then d c h = ap (λ is. stands is (intent_key.Confirm d c)) (joined.intents_then b dir e) ∙ h

    -- what was told of a child
    pub told_entry : (work : Work) → IsJustTold of_places heard dir e.child e.place → IsFirst a heard (take_entry_noted b dir e work)
    told_entry work told =
        let d = take_entry_noted b dir e work in
        plainly a heard d
        (behind_alike a b k heard Took (entry_part Took refl (λ x y. refl) (λ news. inr told) (λ x y q h l. inl (confirms_then x y h))))
        (same_noted a d (λ f. joined.own_then b dir e f ∙ k.own f))

    -- ---- from another directory, whose server may not be sure of it

    abbrev Doubt : Intent
    Doubt = intent.Confirm dir e.child 0

    abbrev Owing : Store
    Owing = with_intents Took (begun Took.intents Doubt)

    owing_found : (q : IntentKey) → intent_at Owing.intents q ≡ cond (is_same_key q (intent_key.Confirm dir e.child)) (Some (begun_on (intent_at Took.intents q) Doubt)) (intent_at Took.intents q)
    owing_found q = begun_found Took.intents Doubt q

    owes_by : (q : IntentKey) (t : Bool) → is_some (intent_at Took.intents q) ≡ true → is_some (cond t (Some (begun_on (intent_at Took.intents q) Doubt)) (intent_at Took.intents q)) ≡ true
    owes_by q true h = refl
    owes_by q false h = h

    still_owes : (q : IntentKey) → stands Took.intents q ≡ true → stands Owing.intents q ≡ true
    still_owes q h =
        stands_is Owing.intents q ∙ ap is_some (owing_found q) ∙ owes_by q (is_same_key q (intent_key.Confirm dir e.child)) (sym (stands_is Took.intents q) ∙ h)

    -- no birth is to come, or to come no longer
    owing_births : SameBirths Took Owing
    owing_births = record {
      given = refl;
      replicas = refl;
      pending = λ f n. ap (λ o. is_with_birth (wish_at Took f) n || (not (is_held Took f) && is_fill_at o n)) (owing_found (intent_key.Fill f));
    }

    owes_this : of_places.Confirms Owing dir e.child
    owes_this =
        let q = intent_key.Confirm dir e.child in
        stands_is Owing.intents q ∙ ap is_some (owing_found q)
        ∙ ap (λ t. is_some (cond t (Some (begun_on (intent_at Took.intents q) Doubt)) (intent_at Took.intents q))) (is_same_key-refl q)

    owed_by : (d c : FileId) (t : Bool) → (is_same_file d dir && is_same_file c e.child) ≡ t
        → is_some (cond t (Some (begun_on (intent_at Took.intents (intent_key.Confirm d c)) Doubt)) (intent_at Took.intents (intent_key.Confirm d c))) ≡ true
        → ((d ≡ dir) × (c ≡ e.child)) ⊎ (is_some (intent_at Took.intents (intent_key.Confirm d c)) ≡ true)
    owed_by d c true s h = let r = and_parts (is_same_file d dir) (is_same_file c e.child) s in inl (is_same_file-true d dir r.0, is_same_file-true c e.child r.1)
    owed_by d c false s h = inr h

    owed : (d c : FileId) → of_places.Confirms Owing d c → ((d ≡ dir) × (c ≡ e.child)) ⊎ of_places.Confirms Took d c
    owed d c h =
        let q = intent_key.Confirm d c in
        elim (owed_by d c (is_same_file d dir && is_same_file c e.child) refl (sym (ap is_some (owing_found q)) ∙ sym (stands_is Owing.intents q) ∙ h)) [
          | inl here ↦ inl here
          | inr old ↦ inr (stands_is Took.intents q ∙ old)
        ]

    module _ (work : Work) where
      abbrev W : Work
      W = (take_entry_noted b dir e work).work

      abbrev Done_by : Bool → Done
      Done_by t = record { store = Took; work = with_doubt t W dir e.child }

      noted_by : (t : Bool) → IsNoted a (Done_by t)
      noted_by t = same_noted a (Done_by t) (λ f. joined.own_then b dir e f ∙ k.own f)

      -- no place is news, or it was told
      sure_is : (t : Bool) → (is_place_news (entry_news b dir e) ≡ true → IsJustTold of_places heard dir e.child e.place) → IsFirst a heard (Done_by t)
      sure_is t told =
          plainly a heard (Done_by t)
          (behind_alike a b k heard Took (entry_part Took refl (λ x y. refl) (λ news. inr (told news)) (λ x y q h l. inl (confirms_then x y h)))) (noted_by t)

      in_unsure : (d c : FileId) → (d ≡ dir) × (c ≡ e.child) → IsOneOf {A = Slot} (record { dir = d; child = c }) (Done_by true).work.unsure
      in_unsure d c here =
          let P : FileId → FileId → Type 0 = λ x y. IsOneOf {A = Slot} (record { dir = x; child = y }) (Done_by true).work.unsure in
          subst (λ (x : FileId). P x c) (sym here.0) (subst (P dir) (sym here.1) (one_last (record { dir = dir; child = e.child }) W.unsure))

      unsure_is : IsFirst a heard (Done_by true)
      unsure_is = record {
        mid = Owing;
        names = refl;
        patches = λ d c. ap patch_place (owing_found (intent_key.Patch d c));
        confirms = λ d c h. elim (owed d c h) [ inr old ↦ inl old | inl here ↦ inr (in_unsure d c here) ];
        births = owing_births;
        first = behind_alike a b k heard Owing
            (entry_part Owing refl (λ x y. ap patch_place (owing_found (intent_key.Patch x y))) (λ news. inl owes_this)
            (λ x y q h l. inl (still_owes (intent_key.Confirm x y) (confirms_then x y h))));
        noted = noted_by true;
      }

      doubt_by : (t : Bool) → is_place_news (entry_news b dir e) ≡ t → IsFirst a heard (Done_by (t && true))
      doubt_by true news = unsure_is
      doubt_by false news = sure_is false (λ is. absurd (false≢true (sym news ∙ is)))

      pub entry_cell_is : (sure : Bool) → (sure ≡ true → IsJustTold of_places heard dir e.child e.place) → IsFirst a heard (take_entry_cell b dir e sure work)
      entry_cell_is true told = sure_is (is_place_news (entry_news b dir e) && false) (λ news. told refl)
      entry_cell_is false told = doubt_by (is_place_news (entry_news b dir e)) refl

    -- ---- a Confirm ends, by what its child's holder told

    confirm_gone : (is : List Intent) (d c x y : FileId) (t : Bool) → (is_same_file x d && is_same_file y c) ≡ t
        → stands is (intent_key.Confirm x y) ≡ true → ((x ≡ d) × (y ≡ c)) ⊎ (stands (ended is (intent_key.Confirm d c)) (intent_key.Confirm x y) ≡ true)
    confirm_gone is d c x y true s h = let r = and_parts (is_same_file x d) (is_same_file y c) s in inl (is_same_file-true x d r.0, is_same_file-true y c r.1)
    confirm_gone is d c x y false s h =
        let q = intent_key.Confirm x y in
        inr (stands_is (ended is (intent_key.Confirm d c)) q ∙ ap is_some (ended_found is (intent_key.Confirm d c) q) ∙ ap (λ t. is_some (cond t None (intent_at is q))) s
        ∙ sym (stands_is is q) ∙ h)

    module _ (work : Work) (told : IsJustTold of_places heard dir e.child e.place)
        (one : (q : Place) → of_places.cell b dir e.child ≡ Some q → q.stamp ≡ e.place.stamp → q ≡ e.place) where
      abbrev Confirmed : Store
      Confirmed = with_intents Took (ended Took.intents (intent_key.Confirm dir e.child))

      -- the cell that is confirmed has just the place that was told
      just_told : (q : Place) → of_places.cell Took dir e.child ≡ Some q → q.stamp ≡ e.place.stamp → q ≡ e.place
      just_told q h same = elim (joined.at_then b dir e) [
        | inl old ↦ one q (sym old ∙ h) same
        | inr new ↦ sym (same_Some e.place q (sym new.0 ∙ h))
      ]

      stamp_by : (x : Entry) → (is_same_stamp x.place.stamp e.place.stamp || not (is_listed dir x)) ≡ true → IsIn of_places dir e.child x.place → x.place.stamp ≡ e.place.stamp
      stamp_by x h in_ = elim (or_cases (is_same_stamp x.place.stamp e.place.stamp) (not (is_listed dir x)) h) [
        | inl same ↦ same_stamp x.place.stamp e.place.stamp same
        | inr unlisted ↦
            let lists : is_listed dir x ≡ true = and_from x.place.live (is_same_file x.place.parent dir) in_.live.0 (ap (λ (f : FileId). is_same_file f dir) in_.parent ∙ is_same_file-refl dir) in
            absurd (false≢true (sym (not-true (is_listed dir x) unlisted) ∙ lists))
      ]

      confirmed_at : (o : Option Entry) → cell_at Took.names dir e.child ≡ o → is_confirmed_by dir e.place.stamp o ≡ true → (q : Place) → cell_place o ≡ Some q → IsIn of_places dir e.child q
          → IsJustTold of_places heard dir e.child q
      confirmed_at None was is q h in_ = absurd (none-some q h)
      confirmed_at (Some x) was is q h in_ =
          let same : x.place ≡ q = same_Some x.place q h in
          let stamp = stamp_by x is (subst (IsIn of_places dir e.child) (sym same) in_) in
          let it : q ≡ e.place = just_told q (ap cell_place was ∙ h) (sym (ap (λ (p : Place). p.stamp) same) ∙ stamp) in
          subst (IsJustTold of_places heard dir e.child) (sym it) told

      ends : is_confirmed Took dir e.child e.place.stamp ≡ true → (d c : FileId) (q : Place) → of_places.Confirms b d c → Lists of_places Confirmed d c q
          → of_places.Confirms Confirmed d c ⊎ IsJustTold of_places heard d c q
      ends is d c q h l =
          elim (confirm_gone Took.intents dir e.child d c (is_same_file d dir && is_same_file c e.child) refl (confirms_then d c h)) [
            | inr still ↦ inl still
            | inl here ↦
                let P : FileId → FileId → Type 0 = λ x y. Lists of_places Confirmed x y q → IsJustTold of_places heard x y q in
                let at : P dir e.child = (λ m. confirmed_at (cell_at Took.names dir e.child) refl is q m.cell m.is_in) in
                inr (subst (λ (x : FileId). P x c) (sym here.0) (subst (P dir) (sym here.1) at) l)
          ]

      patch_kept : (d c : FileId) → of_places.patch Confirmed d c ≡ of_places.patch Took d c
      patch_kept d c = ap patch_place (ended_found Took.intents (intent_key.Confirm dir e.child) (intent_key.Patch d c))

      place_is_by : (t : Bool) → is_confirmed Took dir e.child e.place.stamp ≡ t
          → IsFirst a heard (idle (cond t Confirmed Took) (take_entry_noted b dir e work).work)
      place_is_by true is =
          plainly a heard (idle Confirmed (take_entry_noted b dir e work).work)
          (behind_alike a b k heard Confirmed (entry_part Confirmed refl patch_kept (λ news. inr told) (ends is)))
          (same_noted a (idle Confirmed (take_entry_noted b dir e work).work) (λ f. joined.own_then b dir e f ∙ k.own f))
      place_is_by false is = told_entry work told

      pub place_told_is : IsFirst a heard (idle (end_confirmed Took dir e) (take_entry_noted b dir e work).work)
      place_told_is = place_is_by (is_confirmed Took dir e.child e.place.stamp) refl
