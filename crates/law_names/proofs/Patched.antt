-- A directory that begins takes the entries of its Patches: in whatever order, it knows just these
-- then.
use Rattle.std.proofs.Common.{ℕ, ◌≡◌, Bool, true, false, cond, List, [], ◌∷◌, ◌++◌, map, None, Some, refl, sym, ap, subst, ◌∙◌, inl, inr}
use Rattle.std.specs.List.{AllByRecursion, IsDistinct, flat_map}
use Rattle.pg_run.specs.pg_base.declared.id.FileId.{FileId}
use Rattle.pg_run.specs.pg_base.declared.policy.Policy.{Policy}
use Rattle.pg_run.specs.pg_base.Id.{is_same_file}
use Rattle.pg_run.specs.pg_base.Stamp.{is_before}
use Rattle.pg_run.proofs.pg_base.Orders.{is_same_file-true}
use Rattle.pg_run.specs.pg_content.Content.{Among}
use Rattle.pg_run.specs.pg_register.Flag.{IsByServer}
use Rattle.pg_run.specs.pg_register.Place.{blank_place, first_stamp, root}
use Rattle.pg_run.specs.pg_entries.declared.entry.Entry.{Entry}
use Rattle.pg_run.specs.pg_intent.declared.intent.Intent.{Intent}
use Rattle.pg_run.specs.pg_intent.declared.intent.Intent.TheVariants as intent
use Rattle.pg_run.specs.pg_intent.declared.key.IntentKey.{IntentKey}
use Rattle.pg_run.specs.pg_intent.declared.key.IntentKey.TheVariants as key
use Rattle.pg_run.specs.pg_intent.Intent.{key_of}
use Rattle.pg_run.specs.pg_intent.Intents.{HaveOwnKeys, ended, intent_at}
use Rattle.pg_run.specs.pg_intent.Key.{is_same_key}
use Rattle.pg_run.proofs.pg_intent.Found.{ended_found}
use Rattle.pg_run.proofs.pg_intent.SameKey.{is_same_key-refl, is_same_key-symm}
use Rattle.pg_run.specs.pg_names.declared.attributes.Attributes.{Attributes}
use Rattle.pg_run.specs.pg_names.Names.{is_dir, known}
use Rattle.pg_run.specs.pg_house.Facts.{IsHeld}
use Rattle.pg_run.proofs.theory_flood_pieces.Choices.{chosen}
use Rattle.pg_run.specs.pg_store.declared.store.Store.{Store}
use Rattle.pg_run.specs.pg_store.Beginning.{begin, patches_of, put_new, take_patches, take_told_in, with_intents}
use Rattle.pg_run.specs.pg_store.Store.{is_newer_entry, put_entry, take_entry}
use Rattle.pg_run.specs.Carried.{patch_taken, patches_taken}
use Rattle.pg_run.specs.Took.{Take, entry_takes, flags_of, places_of}
use Rattle.pg_run.specs.Took.Take.{Began}
use Rattle.pg_run.specs.Took.Taker.{Itself}
use Rattle.pg_run.proofs.Lists.{among_back, among_front, among_parts}
use Rattle.law_names.specs.Goes.{Goes}
use Rattle.law_names.proofs.Beginning.{goes_begun, granted}
use Rattle.law_names.proofs.Going.{goes_entry, goes_reordered, still_held}
use Rattle.law_passing.proofs.Takes.{began_held}

-- ---- keys of their own

all_keys : (P : IntentKey → Type 0) (is : List Intent) → AllByRecursion P (map key_of is) → (j : Intent) → Among j is → P (key_of j)
all_keys P [] h j k = absurd k
all_keys P (i ∷ is) h j (inl e) = subst (λ (x : Intent). P (key_of x)) (sym e) h.0
all_keys P (i ∷ is) h j (inr later) = all_keys P is h.1 j later

pub found_own : (is : List Intent) → HaveOwnKeys is → (j : Intent) → Among j is → intent_at is (key_of j) ≡ Some j
unfolding IsDistinct
found_own [] own j k = absurd k
found_own (i ∷ is) own j (inl e) =
    let P : Intent → Type 0 = λ x. intent_at (i ∷ is) (key_of x) ≡ Some x in
    subst P (sym e) (ap (λ t. cond t (Some i) (intent_at is (key_of i))) (is_same_key-refl (key_of i)))
found_own (i ∷ is) own j (inr later) =
    let other : is_same_key (key_of j) (key_of i) ≡ false =
    is_same_key-symm (key_of j) (key_of i) ∙ all_keys (λ y. is_same_key (key_of i) y ≡ false) is own.0 j later in
    ap (λ t. cond t (Some i) (intent_at is (key_of j))) other ∙ found_own is own.1 j later

-- ---- another order

module _ (xs ys zs : List Take) (x : Take) where
  pub to_front : Among x (ys ++ (xs ++ zs)) → Among x ((xs ++ ys) ++ zs)
  to_front h = elim (among_parts x ys (xs ++ zs) h) [
    | inl y ↦ among_front x (xs ++ ys) zs (among_back x xs ys y)
    | inr rest ↦ elim (among_parts x xs zs rest) [
      | inl first ↦ among_front x (xs ++ ys) zs (among_front x xs ys first)
      | inr z ↦ among_back x (xs ++ ys) zs z
    ]
  ]

  pub from_front : Among x ((xs ++ ys) ++ zs) → Among x (ys ++ (xs ++ zs))
  from_front h = elim (among_parts x (xs ++ ys) zs h) [
    | inl both ↦ elim (among_parts x xs ys both) [
      | inl first ↦ among_back x ys (xs ++ zs) (among_front x xs zs first)
      | inr y ↦ among_front x ys (xs ++ zs) y
    ]
    | inr z ↦ among_back x ys (xs ++ zs) (among_back x xs zs z)
  ]

-- ---- the Patches, one behind another

entry_intents : (a : Store) (d : FileId) (e : Entry) → (take_entry a d e).intents ≡ a.intents
entry_intents a d e = chosen (λ (b : Store). b.intents ≡ a.intents) (is_newer_entry a d e) (put_entry a d e) a refl refl

-- these intentions are found by their keys; and Patches for the directory are told by server
pub record AreLeft (a : Store) (f : FileId) (is : List Intent) : Type 0 where
  pub found : (j : Intent) → Among j is → intent_at a.intents (key_of j) ≡ Some j
  pub good : (e : Entry) (target : ℕ) → Among (intent.Patch f e target) is → (is_dir f ≡ true) × IsByServer e.flags

module _ (removed : List ℕ) (f : FileId) where
  abbrev Is : Store → List Take → Type 0
  Is a takes = Goes removed a.names takes

  later : (a : Store) (i : Intent) (is : List Intent) → AreLeft a f (i ∷ is) → AreLeft a f is
  later a i is left = record { found = λ j h. left.found j (inr h); good = λ e target h. left.good e target (inr h) }

  -- one that ends leaves the others
  still_found : (a b : Store) (k : IntentKey) (j : Intent) → b.intents ≡ ended a.intents k → is_same_key (key_of j) k ≡ false
      → intent_at a.intents (key_of j) ≡ Some j → intent_at b.intents (key_of j) ≡ Some j
  still_found a b k j e other found =
      ap (λ is. intent_at is (key_of j)) e ∙ ended_found a.intents k (key_of j)
      ∙ ap (λ t. cond t None (intent_at a.intents (key_of j))) other ∙ found

  module _ (is : List Intent) (e : Entry) (target : ℕ) (a : Store) (takes : List Take) where
    abbrev K : IntentKey
    K = key.Patch f e.child

    abbrev Next : Store
    Next = take_entry (with_intents a (ended a.intents K)) f e

    next_left : AllByRecursion (λ y. is_same_key K y ≡ false) (map key_of is) → AreLeft a f (intent.Patch f e target ∷ is) → AreLeft Next f is
    next_left own left = record {
      found = λ j h. still_found a Next K j (entry_intents (with_intents a (ended a.intents K)) f e)
          (is_same_key-symm (key_of j) K ∙ all_keys (λ y. is_same_key K y ≡ false) is own j h) (left.found j (inr h));
      good = λ d t h. left.good d t (inr h);
    }

    next_goes : AreLeft a f (intent.Patch f e target ∷ is) → Is a takes → IsHeld a.names f → Is Next (entry_takes f e ++ takes)
    next_goes left k held =
        let good = left.good e target (inl refl) in
        goes_entry removed (with_intents a (ended a.intents K)) takes k f held good.0 e good.1

    next_held : AreLeft a f (intent.Patch f e target ∷ is) → Is a takes → IsHeld a.names f → IsHeld Next.names f
    next_held left k held =
        still_held removed a.names Next.names takes (entry_takes f e ++ takes) k (next_goes left k held) (λ x. among_back x (entry_takes f e) takes) f held

    -- the Patch is for the directory, and the rest goes on behind it
    taken_first : AreLeft a f (intent.Patch f e target ∷ is)
        → Is (take_patches Next f (patches_of f is)) (flat_map (patch_taken f) is ++ (entry_takes f e ++ takes))
        → Is (take_patches a f (K ∷ patches_of f is)) ((entry_takes f e ++ flat_map (patch_taken f) is) ++ takes)
    taken_first left k =
        let end = take_patches Next f (patches_of f is) in
        let rest = flat_map (patch_taken f) is in
        let P : Store → Type 0 = λ x. Is (take_patches x f (patches_of f is)) ((entry_takes f e ++ rest) ++ takes) in
        let is_next = ap (take_told_in (with_intents a (ended a.intents K)) f) (left.found (intent.Patch f e target) (inl refl)) in
        subst P (sym is_next)
        (goes_reordered removed end.names (rest ++ (entry_takes f e ++ takes)) ((entry_takes f e ++ rest) ++ takes) k
        (to_front (entry_takes f e) rest takes) (from_front (entry_takes f e) rest takes))

  -- all of them
  pub patches_taken_by : (is : List Intent) (a : Store) (takes : List Take) → HaveOwnKeys is → AreLeft a f is → Is a takes → IsHeld a.names f
      → Is (take_patches a f (patches_of f is)) (flat_map (patch_taken f) is ++ takes)
  unfolding IsDistinct
  patches_taken_by [] a takes own left k held = k
  patches_taken_by (intent.Bye file birth peer peer_birth ∷ is) a takes own left k held =
      patches_taken_by is a takes own.1 (later a (intent.Bye file birth peer peer_birth) is left) k held
  patches_taken_by (intent.Seek file target ∷ is) a takes own left k held =
      patches_taken_by is a takes own.1 (later a (intent.Seek file target) is left) k held
  patches_taken_by (intent.Fill file birth target ∷ is) a takes own left k held =
      patches_taken_by is a takes own.1 (later a (intent.Fill file birth target) is left) k held
  patches_taken_by (intent.Confirm dir child target ∷ is) a takes own left k held =
      patches_taken_by is a takes own.1 (later a (intent.Confirm dir child target) is left) k held
  patches_taken_by (intent.Leave file peer peer_birth ∷ is) a takes own left k held =
      patches_taken_by is a takes own.1 (later a (intent.Leave file peer peer_birth) is left) k held
  patches_taken_by (intent.Patch to e target ∷ is) a takes own left k held =
      by (is_same_file to f) refl (patches_taken_by is a takes own.1 (later a (intent.Patch to e target) is left) k held)
      (λ same l. patches_taken_by is (Next is e target a takes) (entry_takes f e ++ takes) own.1
      (next_left is e target a takes (subst (λ (x : FileId). AllByRecursion (λ y. is_same_key (key.Patch x e.child) y ≡ false) (map key_of is)) same own.0) l)
      (next_goes is e target a takes l k held) (next_held is e target a takes l k held))
    where
      by : (t : Bool) → is_same_file to f ≡ t
          → Is (take_patches a f (patches_of f is)) (flat_map (patch_taken f) is ++ takes)
          → (to ≡ f → AreLeft a f (intent.Patch f e target ∷ is)
          → Is (take_patches (Next is e target a takes) f (patches_of f is)) (flat_map (patch_taken f) is ++ (entry_takes f e ++ takes)))
          → Is (take_patches a f (cond t (key.Patch f e.child ∷ []) [] ++ patches_of f is))
          ((cond t (entry_takes f e) [] ++ flat_map (patch_taken f) is) ++ takes)
      by true e' other here =
          let same = is_same_file-true to f e' in
          let mine = subst (λ (x : FileId). AreLeft a f (intent.Patch x e target ∷ is)) same left in
          taken_first is e target a takes mine (here same mine)
      by false e' other here = other

-- ---- a replica begins, with all of this

module _ (removed : List ℕ) (a : Store) (now : List Take) (k : Goes removed a.names now) (f : FileId) (none : known a.names f ≡ None) (inner : is_same_file f root ≡ false)
    (birth : ℕ) (policy : Policy) (own : Attributes) (full : Bool) (sorted : IsByServer own.flags) (first : is_before first_stamp own.place.stamp ≡ false → own.place ≡ blank_place f)
    (keys : HaveOwnKeys a.intents) (good : (e : Entry) (target : ℕ) → Among (intent.Patch f e target) a.intents → (is_dir f ≡ true) × IsByServer e.flags) where
  abbrev New : Store
  New = put_new a f birth policy own full

  abbrev Begun : List Take
  Begun = granted f own.place own.flags ++ (Began f ∷ now)

  abbrev All : List Take
  All = Began f ∷ places_of Itself f own.place ++ (flags_of Itself f own.flags ++ patches_taken a f)

  new_goes : Goes removed New.names Begun
  new_goes = goes_begun removed a now k f none inner birth policy own full sorted first

  new_held : IsHeld New.names f
  new_held = new_goes.tells.held f (began_held Begun f (among_back (Began f) (granted f own.place own.flags) (Began f ∷ now) (inl refl)))

  to_all : (x : Take) → Among x (patches_taken a f ++ Begun) → Among x (All ++ now)
  to_all x h = elim (among_parts x (patches_taken a f) Begun h) [
    | inl patch ↦ among_front x All now (inr (among_back x (places_of Itself f own.place) (flags_of Itself f own.flags ++ patches_taken a f)
        (among_back x (flags_of Itself f own.flags) (patches_taken a f) patch)))
    | inr rest ↦ elim (among_parts x (granted f own.place own.flags) (Began f ∷ now) rest) [
      | inl given ↦ elim (among_parts x (places_of Itself f own.place) (flags_of Itself f own.flags) given) [
        | inl place ↦ among_front x All now (inr (among_front x (places_of Itself f own.place) (flags_of Itself f own.flags ++ patches_taken a f) place))
        | inr flag ↦ among_front x All now (inr (among_back x (places_of Itself f own.place) (flags_of Itself f own.flags ++ patches_taken a f)
            (among_front x (flags_of Itself f own.flags) (patches_taken a f) flag)))
      ]
      | inr old ↦ elim old [ inl began ↦ inl began | inr was ↦ among_back x All now was ]
    ]
  ]

  from_given : (x : Take) → Among x (places_of Itself f own.place ++ (flags_of Itself f own.flags ++ patches_taken a f)) → Among x (patches_taken a f ++ Begun)
  from_given x h = elim (among_parts x (places_of Itself f own.place) (flags_of Itself f own.flags ++ patches_taken a f) h) [
    | inl place ↦ among_back x (patches_taken a f) Begun (among_front x (granted f own.place own.flags) (Began f ∷ now)
        (among_front x (places_of Itself f own.place) (flags_of Itself f own.flags) place))
    | inr rest ↦ elim (among_parts x (flags_of Itself f own.flags) (patches_taken a f) rest) [
      | inl flag ↦ among_back x (patches_taken a f) Begun (among_front x (granted f own.place own.flags) (Began f ∷ now)
          (among_back x (places_of Itself f own.place) (flags_of Itself f own.flags) flag))
      | inr patch ↦ among_front x (patches_taken a f) Begun patch
    ]
  ]

  from_all : (x : Take) → Among x (All ++ now) → Among x (patches_taken a f ++ Begun)
  from_all x h = elim (among_parts x All now h) [
    | inl new ↦ elim new [
      | inl began ↦ among_back x (patches_taken a f) Begun (among_back x (granted f own.place own.flags) (Began f ∷ now) (inl began))
      | inr given ↦ from_given x given
    ]
    | inr was ↦ among_back x (patches_taken a f) Begun (among_back x (granted f own.place own.flags) (Began f ∷ now) (inr was))
  ]

  -- A REPLICA BEGINS
  pub goes_with_patches : Goes removed (begin a f birth policy own full).names (All ++ now)
  goes_with_patches =
      let left : AreLeft New f a.intents = record { found = found_own a.intents keys; good = good } in
      goes_reordered removed (begin a f birth policy own full).names (patches_taken a f ++ Begun) (All ++ now)
      (patches_taken_by removed f a.intents New Begun keys left new_goes new_held) to_all from_all
