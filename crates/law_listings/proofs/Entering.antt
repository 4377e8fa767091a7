-- The first part of a step in which a server enters a removal: whatever a directory lists, and is
-- not held, is asked after.
use Rattle.std.proofs.Common.{ℕ, ◌≡◌, ◌≤◌, ◌+◌, ◌&&◌, ◌||◌, not, Bool, true, false, cond, length, map, List, [], ◌∷◌, ◌++◌, Option, None, Some, is_some, refl, sym, ap, subst, ◌∙◌, inl, inr, ◌⊎◌, arith}
use Rattle.std.specs.BTreeMap.{is_at}
use Rattle.std.specs.List.{flat_map}
use Rattle.std.specs.Map.{keys_of, lookup}
use Rattle.std.proofs.lemmas.Bool.{and_parts, false≢true}
use Rattle.std.proofs.lemmas.List.{length-append}
use Rattle.std.proofs.lemmas.Option.{none-some}
use Rattle.pg_run.specs.pg_base.declared.id.FileId.{FileId}
use Rattle.pg_run.specs.pg_base.Id.{file_cmp, is_same_file}
use Rattle.pg_run.proofs.pg_base.Orders.{is_same_file-refl, is_same_file-true}
use Rattle.pg_run.specs.pg_calls.GivingUp.{cells_of, doubt_all, enter_view, slots_in}
use Rattle.pg_run.specs.pg_pieces.Done.{Done}
use Rattle.pg_run.specs.pg_entries.declared.entry.Entry.{Entry}
use Rattle.pg_run.specs.pg_house.Facts.{IsOneOf, is_among}
use Rattle.pg_run.proofs.pg_house.Counting.{among_kept}
use Rattle.pg_run.proofs.pg_house.Ends.{key_of_held}
use Rattle.pg_run.proofs.pg_house.Greatest.{cell_held}
use Rattle.pg_run.proofs.pg_house.Truths.{or_cases}
use Rattle.pg_run.specs.pg_intent.declared.intent.Intent.{Intent}
use Rattle.pg_run.specs.pg_intent.declared.intent.Intent.TheVariants as intent
use Rattle.pg_run.specs.pg_intent.declared.key.IntentKey.{IntentKey}
use Rattle.pg_run.specs.pg_intent.declared.key.IntentKey.TheVariants as intent_key
use Rattle.pg_run.specs.pg_intent.Intents.{begun, begun_on, intent_at, keys_to, stands}
use Rattle.pg_run.proofs.pg_intent.Found.{begun_found, stands_is}
use Rattle.pg_run.proofs.pg_intent.Turned.{each_found, is_one_of}
use Rattle.theory_listing.specs.Protocol.{Lists}
use Rattle.theory_listing.proofs.Handlers.{entered_first}
use Rattle.pg_run.specs.pg_msg.declared.work.Slot.{Slot}
use Rattle.pg_run.specs.pg_msg.declared.work.Work.{Work}
use Rattle.pg_run.specs.pg_msg.Work.{new_work}
use Rattle.pg_run.specs.pg_names.Names.{InodeValue, NamesValue, cell_at, directories, entry_in, is_dir, known, own_at, remove_server}
use Rattle.pg_run.proofs.theory_flood_pieces.Choices.{chosen}
use Rattle.pg_run.specs.pg_register.declared.place.Place.{Place}
use Rattle.pg_run.specs.pg_intentions.Inviting.{invite_along, invite_each, invite_of, invites, loose_edge}
use Rattle.theory_listing_house.specs.Listing.{cell_place, own_place}
use Rattle.theory_listing_house.proofs.Seen.{cell_is}
use Rattle.pg_run.specs.pg_edges.declared.edge.Edge.{Edge}
use Rattle.pg_run.specs.pg_store.declared.store.Store.{Store}
use Rattle.pg_run.specs.pg_store.Beginning.{with_intents}
use Rattle.pg_run.specs.pg_store.Births.{is_fill_at, wish_at}
use Rattle.pg_run.specs.pg_store.Servers.{next_target}
use Rattle.pg_run.specs.pg_store.Store.{is_held}
use Rattle.pg_run.specs.pg_store.Links.{is_linked}
use Rattle.pg_run.specs.pg_store.Seen.{removed_of, view_of}
use Rattle.pg_run.specs.pg_store.Views.{cut, cut_born, cut_each, enter, listed_birth, with_removed}
use Rattle.pg_run.specs.pg_store.Wishes.{is_with_birth}
use Rattle.pg_run.proofs.pg_store.Entered.{enter_names}
use Rattle.law_listings.specs.Letters.{Letter, patch_place}
use Rattle.law_listings.proofs.Births.{SameBirths}
use Rattle.law_listings.proofs.Heard.{IsFirst}
use Rattle.law_listings.proofs.Placed.{same_noted}
use Rattle.law_listings.proofs.PlacesAlone.{IsPart, of_places}
use Rattle.law_listings.proofs.Unseen.{patch_by, some_by}

-- ---- Confirms that would be owed of these

abbrev Slots : Type 0
Slots = List Slot

abbrev doubt_of : Slot → Intent
doubt_of x = intent.Confirm x.dir x.child 0

abbrev owing : List Intent → Slots → List Intent
owing is [] = is
owing is (x ∷ xs) = owing (begun is (doubt_of x)) xs

-- a slot
abbrev slot : FileId → FileId → Slot
slot d c = record { dir = d; child = c }

abbrev Owes : List Intent → FileId → FileId → Type 0
Owes is d c = stands is (intent_key.Confirm d c) ≡ true

-- others are found as they were
owing_patch : (xs : Slots) (is : List Intent) (d c : FileId) → intent_at (owing is xs) (intent_key.Patch d c) ≡ intent_at is (intent_key.Patch d c)
owing_patch [] is d c = refl
owing_patch (x ∷ xs) is d c = owing_patch xs (begun is (doubt_of x)) d c ∙ begun_found is (doubt_of x) (intent_key.Patch d c)

owing_fill : (xs : Slots) (is : List Intent) (f : FileId) → intent_at (owing is xs) (intent_key.Fill f) ≡ intent_at is (intent_key.Fill f)
owing_fill [] is f = refl
owing_fill (x ∷ xs) is f = owing_fill xs (begun is (doubt_of x)) f ∙ begun_found is (doubt_of x) (intent_key.Fill f)

module _ (is : List Intent) (x : Slot) (d c : FileId) where
  abbrev Key : IntentKey
  Key = intent_key.Confirm d c

  abbrev Same : Bool
  Same = is_same_file d x.dir && is_same_file c x.child

  abbrev One : List Intent
  One = begun is (doubt_of x)

  one_is : stands One Key ≡ is_some (cond Same (Some (begun_on (intent_at is Key) (doubt_of x))) (intent_at is Key))
  one_is = stands_is One Key ∙ ap is_some (begun_found is (doubt_of x) Key)

  some_on : (t : Bool) → is_some (intent_at is Key) ≡ true → is_some (cond t (Some (begun_on (intent_at is Key) (doubt_of x))) (intent_at is Key)) ≡ true
  some_on true h = refl
  some_on false h = h

  one_stays : Owes is d c → Owes One d c
  one_stays h = one_is ∙ some_on Same (sym (stands_is is Key) ∙ h)

  one_new : x ≡ slot d c → Owes One d c
  one_new at =
      let same : Same ≡ true = ap (λ (y : Slot). is_same_file d y.dir && is_same_file c y.child) at ∙ ap (λ t. t && is_same_file c c) (is_same_file-refl d) ∙ is_same_file-refl c in
      one_is ∙ ap (λ t. is_some (cond t (Some (begun_on (intent_at is Key) (doubt_of x))) (intent_at is Key))) same

  one_by : (t : Bool) → Same ≡ t → is_some (cond t (Some (begun_on (intent_at is Key) (doubt_of x))) (intent_at is Key)) ≡ true → Owes is d c ⊎ (x ≡ slot d c)
  one_by true same h =
      let both = and_parts (is_same_file d x.dir) (is_same_file c x.child) same in
      let at : d ≡ x.dir = is_same_file-true d x.dir both.0 in
      let of : c ≡ x.child = is_same_file-true c x.child both.1 in
      inr (ap (λ (f : FileId). slot f x.child) (sym at) ∙ ap (slot d) (sym of))
  one_by false same h = inl (stands_is is Key ∙ h)

  one_back : Owes One d c → Owes is d c ⊎ (x ≡ slot d c)
  one_back h = one_by Same refl (sym one_is ∙ h)

owing_stays : (xs : Slots) (is : List Intent) (d c : FileId) → Owes is d c → Owes (owing is xs) d c
owing_stays [] is d c h = h
owing_stays (x ∷ xs) is d c h = owing_stays xs (begun is (doubt_of x)) d c (one_stays is x d c h)

owing_new : (xs : Slots) (is : List Intent) (d c : FileId) → IsOneOf (slot d c) xs → Owes (owing is xs) d c
owing_new [] is d c h = absurd h
owing_new (x ∷ xs) is d c (inl at) = owing_stays xs (begun is (doubt_of x)) d c (one_new is x d c at)
owing_new (x ∷ xs) is d c (inr more) = owing_new xs (begun is (doubt_of x)) d c more

owing_back : (xs : Slots) (is : List Intent) (d c : FileId) → Owes (owing is xs) d c → Owes is d c ⊎ IsOneOf (slot d c) xs
owing_back [] is d c h = inl h
owing_back (x ∷ xs) is d c h = elim (owing_back xs (begun is (doubt_of x)) d c h) [
  | inr more ↦ inr (inr more)
  | inl owes ↦ elim (one_back is x d c owes) [ inl old ↦ inl old | inr at ↦ inr (inl at) ]
]

-- ---- each cell is gone through

one_before : (x : Slot) (xs ys : Slots) → IsOneOf x xs → IsOneOf x (xs ++ ys)
one_before x [] ys h = absurd h
one_before x (y ∷ xs) ys (inl at) = inl at
one_before x (y ∷ xs) ys (inr more) = inr (one_before x xs ys more)

one_behind : (x : Slot) (xs ys : Slots) → IsOneOf x ys → IsOneOf x (xs ++ ys)
one_behind x [] ys h = h
one_behind x (y ∷ xs) ys h = inr (one_behind x xs ys h)

slot_by : (d c : FileId) (k : FileId × Entry) (es : List (FileId × Entry)) (e : Entry) (t : Bool) → is_same_file c k.0 ≡ t
    → (lookup (is_at (file_cmp c)) es ≡ Some e → IsOneOf (slot d c) (map (slot d) (keys_of es)))
    → cond t (Some k.1) (lookup (is_at (file_cmp c)) es) ≡ Some e → IsOneOf (slot d c) (map (slot d) (keys_of (k ∷ es)))
slot_by d c k es e true same rest h = inl (ap (slot d) (sym (is_same_file-true c k.0 same)))
slot_by d c k es e false apart rest h = inr (rest h)

slot_there : (d c : FileId) (es : List (FileId × Entry)) (e : Entry) → lookup (is_at (file_cmp c)) es ≡ Some e → IsOneOf (slot d c) (map (slot d) (keys_of es))
slot_there d c [] e h = absurd (none-some e h)
slot_there d c (k ∷ es) e h = slot_by d c k es e (is_same_file c k.0) refl (slot_there d c es e) h

slot_in : (d c : FileId) (k : Option InodeValue) (e : Entry) → entry_in c k ≡ Some e → IsOneOf (slot d c) (slots_in d k)
slot_in d c None e h = absurd (none-some e h)
slot_in d c (Some x) e h = slot_there d c x.entries e h

-- of one of these directories
of_dirs : (names : NamesValue) (d : FileId) (x : Slot) → IsOneOf x (cells_of names d) → (ds : List FileId) → is_among d ds ≡ true → IsOneOf x (flat_map (cells_of names) ds)
of_dirs names d x h [] among = absurd (false≢true among)
of_dirs names d x h (y ∷ ds) among = elim (or_cases (is_same_file y d) (is_among d ds) among) [
  | inl same ↦ one_before x (cells_of names y) (flat_map (cells_of names) ds)
      (subst (λ (f : FileId). IsOneOf x (cells_of names f)) (sym (is_same_file-true y d same)) h)
  | inr later ↦ one_behind x (cells_of names y) (flat_map (cells_of names) ds) (of_dirs names d x h ds later)
]

-- a directory that has a cell
cell_noted : (names : NamesValue) (d c : FileId) (e : Entry) → is_dir d ≡ true → cell_at names d c ≡ Some e → IsOneOf (slot d c) (flat_map (cells_of names) (directories names))
cell_noted names d c e dir h =
    let held = cell_held names d c e h in
    of_dirs names d (slot d c) (slot_in d c (known names d) e h) (directories names)
    (among_kept is_dir (keys_of names.held) d (key_of_held names d held.0 held.1) dir)

-- ---- invitations note nothing

along_notes : (b : Store) (f : FileId) (o : Option Edge) (work : Work) → ((invite_along b f o work).unsure ≡ work.unsure) × ((invite_along b f o work).left ≡ work.left)
along_notes b f None work = (refl, refl)
along_notes b f (Some e) work = (refl, refl)

invites_note : (b : Store) (fs : List FileId) (work : Work) → (invite_each b fs work).unsure ≡ work.unsure
invites_note b [] work = refl
invites_note b (f ∷ fs) work =
    let o = loose_edge b f in
    invites_note b fs (invite_of b f work)
    ∙ chosen (λ (w : Work). w.unsure ≡ work.unsure) (invites b f) (invite_along b f o work) work (along_notes b f o work).0 refl

-- ---- edges that go leave all intentions

cut_intents : (server : ℕ) (b : Store) (f : FileId) (o : Option ℕ) → (cut_born server b f o).intents ≡ b.intents
cut_intents server b f None = refl
cut_intents server b f (Some birth) = chosen (λ (x : Store). x.intents ≡ b.intents) (is_linked b f server birth) _ b refl refl

cuts_intents : (server : ℕ) (fs : List FileId) (b : Store) → (cut_each server b fs).intents ≡ b.intents
cuts_intents server [] b = refl
cuts_intents server (f ∷ fs) b = cuts_intents server fs (cut server b f) ∙ cut_intents server b f (listed_birth b f server)

-- ---- the view

module _ (a : Store) (server : ℕ) (heard : Letter) (view : heard.view ≡ view_of a) (moment : ℕ) where
  abbrev W : Work
  W = new_work moment 0

  abbrev B : Store
  B = enter a server

  abbrev D : Done
  D = enter_view a server W

  abbrev Noted : Slots
  Noted = (doubt_all B W).unsure

  noted_is : D.work.unsure ≡ Noted
  noted_is = invites_note B (keys_of B.names.held) (doubt_all B W)

  -- ---- what is found there

  names_are : B.names ≡ remove_server a.names server
  names_are = enter_names a server

  own_is_then : (f : FileId) → of_places.own B f ≡ of_places.own a f
  own_is_then f = ap (λ (n : NamesValue). own_place (own_at n f)) names_are

  cell_is_then : (d c : FileId) → of_places.cell B d c ≡ of_places.cell a d c
  cell_is_then d c = ap (λ (n : NamesValue). cell_place (cell_at n d c)) names_are

  view_is : view_of B ≡ view_of a + 1
  view_is = ap (λ (n : NamesValue). length n.removed) names_are ∙ length-append (removed_of a) (server ∷ [])

  later : view_of a ≤ view_of B
  later = subst (λ (v : ℕ). view_of a ≤ v) (sym view_is) (omega arith)

  -- the server that is asked instead
  abbrev Cut : Store
  Cut = cut_each server (with_removed a server) (keys_of a.names.held)

  abbrev To : ℕ
  To = next_target Cut server

  abbrev Is : List Intent
  Is = Cut.intents

  still_is : Is ≡ a.intents
  still_is = cuts_intents server (keys_of a.names.held) (with_removed a server)

  patch_is_then : (d c : FileId) → of_places.patch B d c ≡ of_places.patch a d c
  patch_is_then d c =
      let q = intent_key.Patch d c in
      ap patch_place (each_found (keys_to server Is) Is To q) ∙ patch_by To (intent_at Is q) (is_one_of q (keys_to server Is))
      ∙ ap (λ is. patch_place (intent_at is q)) still_is

  confirms_then : (d c : FileId) → of_places.Confirms a d c → of_places.Confirms B d c
  confirms_then d c h =
      let q = intent_key.Confirm d c in
      stands_is B.intents q ∙ ap is_some (each_found (keys_to server Is) Is To q) ∙ some_by To (intent_at Is q) (is_one_of q (keys_to server Is))
      ∙ sym (stands_is Is q) ∙ ap (λ is. stands is q) still_is ∙ h

  -- ---- a server that would owe the Confirms that are noted

  abbrev Mid : Store
  Mid = with_intents B (owing B.intents Noted)

  mid_births : SameBirths B Mid
  mid_births = record {
    given = refl;
    replicas = refl;
    pending = λ f n. ap (λ o. is_with_birth (wish_at B f) n || (not (is_held B f) && is_fill_at o n)) (owing_fill Noted B.intents f);
  }

  asks : (d c : FileId) (q : Place) → Lists of_places Mid d c q → of_places.Confirms Mid d c
  asks d c q l =
      let x = cell_is (cell_at B.names d c) q l.cell in
      let dir : is_dir d ≡ true = ap is_dir (sym l.is_in.parent) ∙ l.is_in.live.1 in
      owing_new Noted B.intents d c (cell_noted B.names d c x.0 dir x.1)

  entered_part : IsPart a Mid heard
  entered_part = λ least. entered_first of_places least a Mid heard (record {
    hears = inr view;
    view = later;
    own = own_is_then;
    cells = cell_is_then;
    patches = λ d c. ap patch_place (owing_patch Noted B.intents d c) ∙ patch_is_then d c;
    births = λ f was now. refl;
    past = λ f n h. h;
    confirms = λ d c h. owing_stays Noted B.intents d c (confirms_then d c h);
    asks = λ low up d c q l none. asks d c q l;
  })

  -- A VIEW IS ENTERED
  pub entering_first : IsFirst a heard D
  entering_first = record {
    mid = Mid;
    names = refl;
    patches = λ d c. ap patch_place (owing_patch Noted B.intents d c);
    confirms = λ d c h. elim (owing_back Noted B.intents d c h) [
      | inl owes ↦ inl owes
      | inr noted ↦ inr (subst (IsOneOf (slot d c)) (sym noted_is) noted)
    ];
    births = mid_births;
    first = entered_part;
    noted = same_noted a D own_is_then;
  }
