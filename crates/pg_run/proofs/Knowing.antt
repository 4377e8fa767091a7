-- What takes tell: passing tells nothing that was not known, forgets nothing, and begins nothing.
use Rattle.std.proofs.Common.{◌≡◌, Bool, true, false, cond, List, [], ◌∷◌, ◌++◌, map, ◌⊎◌, inl, inr, refl, sym, subst, ℕ}
use Rattle.std.specs.List.{flat_map}
use Rattle.pg_base.specs.declared.id.FileId.{FileId}
use Rattle.pg_base.specs.declared.stamp.Stamp.{Stamp}
use Rattle.pg_base.specs.Id.{is_same_file}
use Rattle.pg_base.proofs.Orders.{is_same_file-true, is_same_file-refl}
use Rattle.pg_content.specs.Content.{Among}
use Rattle.pg_content.proofs.Members.{among_map}
use Rattle.pg_register.specs.declared.flag.Flag.{Flag}
use Rattle.pg_register.specs.declared.place.Place.{Place}
use Rattle.pg_server.specs.pg_pieces.pg_msg.declared.update.Update.{Update}
use Rattle.pg_server.specs.pg_pieces.pg_house.Returning.{is_root}
use Rattle.pg_server.proofs.pg_pieces.pg_house.Truths.{chosen}
use Rattle.pg_run.specs.Took.{Take, Taker, begun_by, held, stamp_taken_by, stamps_taken, take_of}
use Rattle.pg_run.specs.Took.Taker.{InDir, Itself}
use Rattle.pg_run.specs.Took.Take.{Began, TookFlag, TookPlace, TookVersion}
use Rattle.pg_run.specs.Passed.{all_to, all_to_dir, flag_known_by, flags_known, flags_to, is_back, own_takes, parties, passed, passed_with, passes, place_known_by, places_known, places_to}
use Rattle.pg_run.proofs.Lists.{among_back, among_front, among_parts, among_pieces, pieces_among}

-- what one take tells is among what these tell
abbrev pub Tells : List Take → Take → Type 0
Tells takes (TookVersion file stamp) = Among stamp (stamps_taken file takes)
Tells takes (TookPlace by thing place) = Among place (places_known thing takes)
Tells takes (TookFlag by thing flag) = Among flag (flags_known thing takes)
Tells takes (Began file) = Among file (held takes)

-- and so of each of the first
abbrev pub Within : List Take → List Take → Type 0
Within new old = (u : Take) → Among u new → Tells old u

-- ---- a take tells itself

here_if : {A : Type 0} (t : Bool) (x : A) → t ≡ true → Among x (cond t (x ∷ []) [])
here_if true x e = inl refl
here_if false x e = absurd (let z : false ≡ true = e in cc)

pub told_itself : (u : Take) (takes : List Take) → Among u takes → Tells takes u
told_itself (TookVersion file stamp) takes k =
    pieces_among (stamp_taken_by file) stamp (TookVersion file stamp) takes k (here_if (is_same_file file file) stamp (is_same_file-refl file))
told_itself (TookPlace by thing place) takes k =
    pieces_among (place_known_by thing) place (TookPlace by thing place) takes k (here_if (is_same_file thing thing) place (is_same_file-refl thing))
told_itself (TookFlag by thing flag) takes k =
    pieces_among (flag_known_by thing) flag (TookFlag by thing flag) takes k (here_if (is_same_file thing thing) flag (is_same_file-refl thing))
told_itself (Began file) takes k = pieces_among begun_by file (Began file) takes k (inl refl)

-- ---- what is told of the first is told of the second

picked : {A : Type 0} (t : Bool) (x y : A) → Among x (cond t (y ∷ []) []) → (t ≡ true) × (x ≡ y)
picked true x y k = elim k [ inl same ↦ (refl, same) | inr later ↦ absurd later ]
picked false x y k = absurd k

stamp_told : (file : FileId) (stamp : Stamp) (old : List Take) (u : Take) → Among stamp (stamp_taken_by file u) → Tells old u → Among stamp (stamps_taken file old)
stamp_told file stamp old (TookVersion f s) k told =
    let p = picked (is_same_file f file) stamp s k in
    subst (λ (q : FileId × Stamp). Among q.1 (stamps_taken q.0 old)) (λ i. (is_same_file-true f file p.0 i, sym p.1 i)) told
stamp_told file stamp old (TookPlace by thing place) k told = absurd k
stamp_told file stamp old (TookFlag by thing flag) k told = absurd k
stamp_told file stamp old (Began f) k told = absurd k

place_told : (thing : FileId) (place : Place) (old : List Take) (u : Take) → Among place (place_known_by thing u) → Tells old u → Among place (places_known thing old)
place_told thing place old (TookVersion f s) k told = absurd k
place_told thing place old (TookPlace by t p) k told =
    let h = picked (is_same_file t thing) place p k in
    subst (λ (q : FileId × Place). Among q.1 (places_known q.0 old)) (λ i. (is_same_file-true t thing h.0 i, sym h.1 i)) told
place_told thing place old (TookFlag by t flag) k told = absurd k
place_told thing place old (Began file) k told = absurd k

flag_told : (thing : FileId) (flag : Flag) (old : List Take) (u : Take) → Among flag (flag_known_by thing u) → Tells old u → Among flag (flags_known thing old)
flag_told thing flag old (TookVersion f s) k told = absurd k
flag_told thing flag old (TookPlace by t p) k told = absurd k
flag_told thing flag old (TookFlag by t g) k told =
    let h = picked (is_same_file t thing) flag g k in
    subst (λ (q : FileId × Flag). Among q.1 (flags_known q.0 old)) (λ i. (is_same_file-true t thing h.0 i, sym h.1 i)) told
flag_told thing flag old (Began file) k told = absurd k

begun_told : (file : FileId) (old : List Take) (u : Take) → Among file (begun_by u) → Tells old u → Among file (held old)
begun_told file old (TookVersion f s) k told = absurd k
begun_told file old (TookPlace by t p) k told = absurd k
begun_told file old (TookFlag by t g) k told = absurd k
begun_told file old (Began f) k told = elim k [
  | inl same ↦ subst (λ (g : FileId). Among g (held old)) (sym same) told
  | inr later ↦ absurd later
]

pub told_on : (new old : List Take) → Within new old → (u : Take) → Tells new u → Tells old u
told_on new old w (TookVersion file stamp) h =
    let r = among_pieces (stamp_taken_by file) stamp new h in stamp_told file stamp old r.0 r.2 (w r.0 r.1)
told_on new old w (TookPlace by thing place) h =
    let r = among_pieces (place_known_by thing) place new h in place_told thing place old r.0 r.2 (w r.0 r.1)
told_on new old w (TookFlag by thing flag) h =
    let r = among_pieces (flag_known_by thing) flag new h in flag_told thing flag old r.0 r.2 (w r.0 r.1)
told_on new old w (Began file) h =
    let r = among_pieces begun_by file new h in begun_told file old r.0 r.2 (w r.0 r.1)

-- what is told of two lists is told of one of them
half_told : {A B : Type 0} (f : A → List B) (y : B) (xs ys : List A) → Among y (flat_map f (xs ++ ys)) → Among y (flat_map f xs) ⊎ Among y (flat_map f ys)
half_told f y xs ys h =
    let r = among_pieces f y (xs ++ ys) h in
    elim (among_parts r.0 xs ys r.1) [
      | inl front ↦ inl (pieces_among f y r.0 xs front r.2)
      | inr back ↦ inr (pieces_among f y r.0 ys back r.2)
    ]

pub tells_parts : (u : Take) (xs ys : List Take) → Tells (xs ++ ys) u → Tells xs u ⊎ Tells ys u
tells_parts (TookVersion file stamp) xs ys h = half_told (stamp_taken_by file) stamp xs ys h
tells_parts (TookPlace by thing place) xs ys h = half_told (place_known_by thing) place xs ys h
tells_parts (TookFlag by thing flag) xs ys h = half_told (flag_known_by thing) flag xs ys h
tells_parts (Began file) xs ys h = half_told begun_by file xs ys h

pub within_then : (a b c : List Take) → Within a b → Within b c → Within a c
within_then a b c f g u k = told_on b c g u (f u k)

pub within_parts : (xs ys old : List Take) → Within xs old → Within ys old → Within (xs ++ ys) old
within_parts xs ys old f g u k = elim (among_parts u xs ys k) [ inl front ↦ f u front | inr back ↦ g u back ]

pub within_back : (xs old : List Take) → Within old (xs ++ old)
within_back xs old u k = told_itself u (xs ++ old) (among_back u xs old k)

pub within_itself : (takes : List Take) → Within takes takes
within_itself takes u k = told_itself u takes k

none_within : (old : List Take) → Within [] old
none_within old u k = absurd k

-- ---- passing

module _ (removed : List ℕ) (takes : List Take) where
  places_within : (thing : FileId) (by : Taker) → Within (places_to thing takes by) takes
  places_within thing by u k =
      let r = among_map (TookPlace by thing) (places_known thing takes) u k in subst (λ (v : Take). Tells takes v) (sym r.2) r.1

  flags_within : (thing : FileId) (by : Taker) → Within (flags_to thing takes by) takes
  flags_within thing by u k =
      let r = among_map (TookFlag by thing) (flags_known thing takes) u k in subst (λ (v : Take). Tells takes v) (sym r.2) r.1

  all_within : (thing : FileId) (by : Taker) → Within (all_to thing takes by) takes
  all_within thing by =
      within_parts (places_to thing takes by) (flags_to thing takes by) takes (places_within thing by) (flags_within thing by)

  own_within : (thing : FileId) → Within (own_takes removed thing takes) takes
  own_within thing =
      chosen (λ (xs : List Take). Within xs takes) (is_back removed thing takes) (flags_to thing takes Itself) (all_to thing takes Itself)
      (flags_within thing Itself) (all_within thing Itself)

  dirs_within : (thing : FileId) → Within (flat_map (all_to_dir thing takes) (parties removed thing takes)) takes
  dirs_within thing u k =
      let r = among_pieces (all_to_dir thing takes) u (parties removed thing takes) k in all_within thing (InDir r.0) u r.2

  passes_within : (thing : FileId) → Within (passes removed takes thing) takes
  passes_within thing =
      let own = own_takes removed thing takes in
      let dirs = flat_map (all_to_dir thing takes) (parties removed thing takes) in
      chosen (λ (xs : List Take). Within xs takes) (is_root thing) [] (own ++ dirs) (none_within takes)
      (within_parts own dirs takes (own_within thing) (dirs_within thing))

  pub passed_within : Within (passed removed takes) takes
  passed_within =
      within_parts (flat_map (passes removed takes) (held takes)) takes takes
      (λ u k. let r = among_pieces (passes removed takes) u (held takes) k in passes_within r.0 u r.2)
      (within_itself takes)

  pub within_passed : Within takes (passed removed takes)
  within_passed = within_back (flat_map (passes removed takes) (held takes)) takes

-- ---- and what the house rules make

one_within : (u : Take) (xs old : List Take) → Within xs old → Within (u ∷ xs) (u ∷ old)
one_within u xs old w v k = elim k [
  | inl same ↦ told_itself v (u ∷ old) (inl same)
  | inr later ↦ told_on old (u ∷ old) (within_back (u ∷ []) old) v (w v later)
]

pub made_within : (removed : List ℕ) (us : List Update) (takes : List Take) → Within (passed_with removed takes us) (map take_of us ++ takes)
made_within removed [] takes = within_itself takes
made_within removed (u ∷ us) takes =
    let one = take_of u ∷ takes in
    within_then (passed_with removed (passed removed one) us) (map take_of us ++ passed removed one) (take_of u ∷ (map take_of us ++ takes))
    (made_within removed us (passed removed one))
    (within_parts (map take_of us) (passed removed one) (take_of u ∷ (map take_of us ++ takes))
    (λ v k. told_itself v (take_of u ∷ (map take_of us ++ takes)) (inr (among_front v (map take_of us) takes k)))
    (within_then (passed removed one) one (take_of u ∷ (map take_of us ++ takes)) (passed_within removed one)
    (one_within (take_of u) takes (map take_of us ++ takes) (within_back (map take_of us) takes))))

pub within_made : (removed : List ℕ) (us : List Update) (takes : List Take) → Within (map take_of us ++ takes) (passed_with removed takes us)
within_made removed [] takes = within_itself takes
within_made removed (u ∷ us) takes =
    let one = take_of u ∷ takes in
    let end = passed_with removed (passed removed one) us in
    let rest = within_made removed us (passed removed one) in
    let later : Within one end =
    within_then one (passed removed one) end (within_passed removed one)
    (within_then (passed removed one) (map take_of us ++ passed removed one) end (within_back (map take_of us) (passed removed one)) rest) in
    λ v k. elim k [
      | inl same ↦ later v (inl same)
      | inr other ↦ elim (among_parts v (map take_of us) takes other) [
        | inl made ↦ rest v (among_front v (map take_of us) (passed removed one) made)
        | inr old ↦ later v (inr old)
      ]
    ]
