-- What a replica took goes with it, and nothing else.
use Rattle.std.proofs.Common.{◌≡◌, ◌&&◌, ◌||◌, Bool, true, false, cond, not, List, [], ◌∷◌, ◌++◌, Option, None, Some, refl, sym, ap, subst, ◌∙◌}
use Rattle.std.specs.List.{filter, flat_map}
use Rattle.pg_base.specs.declared.id.FileId.{FileId}
use Rattle.pg_base.specs.declared.stamp.Stamp.{Stamp}
use Rattle.pg_base.specs.Id.{is_same_file}
use Rattle.pg_base.proofs.Orders.{is_same_file-refl, is_same_file-true}
use Rattle.pg_content.specs.Content.{Among}
use Rattle.pg_content.proofs.Members.{among_filter, filter_among}
use Rattle.pg_server.specs.pg_pieces.pg_house.Facts.{is_among}
use Rattle.pg_run.specs.Took.{Take, Taker, begun_by, flag_taken_by, flags_taken, held, is_held, is_of_replica, is_same_taker, is_taker, place_taken_by, places_taken, stamp_taken_by, stamps_taken, without, without_gone}
use Rattle.pg_run.specs.Took.Taker.{InDir, Itself}
use Rattle.pg_run.specs.Took.Take.{Began, TookFlag, TookPlace, TookVersion}
use Rattle.pg_run.proofs.Knowing.{Tells, Within, told_itself, within_itself}

-- ---- parts of what a filter keeps

module _ {A B : Type 0} (keeps : A → Bool) (f : A → List B) where
  none_by : (x : A) (xs : List A) (t : Bool) → keeps x ≡ t → ((x : A) → keeps x ≡ true → f x ≡ [])
      → flat_map f (filter keeps xs) ≡ []
      → flat_map f (cond t (x ∷ filter keeps xs) (filter keeps xs)) ≡ []
  none_by x xs true e none rest = ap (λ (ys : List B). ys ++ flat_map f (filter keeps xs)) (none x e) ∙ rest
  none_by x xs false e none rest = rest

  none_left : (xs : List A) → ((x : A) → keeps x ≡ true → f x ≡ []) → flat_map f (filter keeps xs) ≡ []
  none_left [] none = refl
  none_left (x ∷ xs) none = none_by x xs (keeps x) refl none (none_left xs none)

  same_by : (x : A) (xs : List A) (t : Bool) → keeps x ≡ t → ((x : A) → keeps x ≡ false → f x ≡ [])
      → flat_map f (filter keeps xs) ≡ flat_map f xs
      → flat_map f (cond t (x ∷ filter keeps xs) (filter keeps xs)) ≡ f x ++ flat_map f xs
  same_by x xs true e none rest = ap (λ (ys : List B). f x ++ ys) rest
  same_by x xs false e none rest = rest ∙ ap (λ (ys : List B). ys ++ flat_map f xs) (sym (none x e))

  same_left : (xs : List A) → ((x : A) → keeps x ≡ false → f x ≡ []) → flat_map f (filter keeps xs) ≡ flat_map f xs
  same_left [] none = refl
  same_left (x ∷ xs) none = same_by x xs (keeps x) refl none (same_left xs none)

-- ---- what a take says of others than those of which it is

clash : (t : Bool) → not t ≡ t → ⊥
clash true e = absurd (let f : false ≡ true = e in cc)
clash false e = absurd (let f : true ≡ false = e in cc)

apart_test : (f g file : FileId) (v : Bool) → is_same_file g file ≡ v → not (is_same_file f file) ≡ v
    → is_same_file f g ≡ false
apart_test f g file v of k = by (is_same_file f g) refl
  where
    by : (t : Bool) → is_same_file f g ≡ t → t ≡ false
    by false e = refl
    by true e =
        let same : is_same_file f file ≡ v = ap (λ (x : FileId). is_same_file x file) (is_same_file-true f g e) ∙ of in
        absurd (clash v (sym (ap not same) ∙ k))

-- the same replica took both
same_taker : (file : FileId) (b by : Taker) (t thing : FileId) → is_same_taker b by && is_same_file t thing ≡ true
    → is_taker file b t ≡ is_taker file by thing
same_taker file Itself Itself t thing e = ap (λ (x : FileId). is_same_file x file) (is_same_file-true t thing e)
same_taker file Itself (InDir d) t thing e = absurd (let f : false ≡ true = e in cc)
same_taker file (InDir d) Itself t thing e = absurd (let f : false ≡ true = e in cc)
same_taker file (InDir d) (InDir c) t thing e = by (is_same_file d c) refl e
  where
    by : (v : Bool) → is_same_file d c ≡ v → v && is_same_file t thing ≡ true → is_same_file d file ≡ is_same_file c file
    by true is h = ap (λ (x : FileId). is_same_file x file) (is_same_file-true d c is)
    by false is h = absurd (let f : false ≡ true = h in cc)

apart_taker : (file : FileId) (b by : Taker) (t thing : FileId) (v : Bool) → is_taker file by thing ≡ v
    → not (is_taker file b t) ≡ v → is_same_taker b by && is_same_file t thing ≡ false
apart_taker file b by t thing v of k = at (is_same_taker b by && is_same_file t thing) refl
  where
    at : (u : Bool) → is_same_taker b by && is_same_file t thing ≡ u → u ≡ false
    at false e = refl
    at true e = absurd (clash v (sym (ap not (same_taker file b by t thing e ∙ of)) ∙ k))

left_out : {A : Type 0} (t : Bool) (xs : List A) → t ≡ false → cond t xs [] ≡ []
left_out t xs e = ap (λ (u : Bool). cond u xs []) e

module _ (file : FileId) where
  stamps_apart : (g : FileId) (v : Bool) → is_same_file g file ≡ v → (u : Take) → not (is_of_replica file u) ≡ v
      → stamp_taken_by g u ≡ []
  stamps_apart g v of (TookVersion f stamp) k = left_out (is_same_file f g) (stamp ∷ []) (apart_test f g file v of k)
  stamps_apart g v of (TookPlace b t place) k = refl
  stamps_apart g v of (TookFlag b t flag) k = refl
  stamps_apart g v of (Began f) k = refl

  places_apart : (by : Taker) (thing : FileId) (v : Bool) → is_taker file by thing ≡ v → (u : Take)
      → not (is_of_replica file u) ≡ v → place_taken_by by thing u ≡ []
  places_apart by thing v of (TookVersion f stamp) k = refl
  places_apart by thing v of (TookPlace b t place) k =
      left_out (is_same_taker b by && is_same_file t thing) (place ∷ []) (apart_taker file b by t thing v of k)
  places_apart by thing v of (TookFlag b t flag) k = refl
  places_apart by thing v of (Began f) k = refl

  flags_apart : (by : Taker) (thing : FileId) (v : Bool) → is_taker file by thing ≡ v → (u : Take)
      → not (is_of_replica file u) ≡ v → flag_taken_by by thing u ≡ []
  flags_apart by thing v of (TookVersion f stamp) k = refl
  flags_apart by thing v of (TookPlace b t place) k = refl
  flags_apart by thing v of (TookFlag b t flag) k =
      left_out (is_same_taker b by && is_same_file t thing) (flag ∷ []) (apart_taker file b by t thing v of k)
  flags_apart by thing v of (Began f) k = refl

  abbrev Stays : Take → Bool
  Stays u = not (is_of_replica file u)

  -- ---- versions, places and flags of the replica go, and of all others stay

  pub stamps_gone : (takes : List Take) → stamps_taken file (without file takes) ≡ []
  stamps_gone takes =
      none_left Stays (stamp_taken_by file) takes (λ u k. stamps_apart file true (is_same_file-refl file) u k)

  pub stamps_stay : (g : FileId) (takes : List Take) → is_same_file g file ≡ false
      → stamps_taken g (without file takes) ≡ stamps_taken g takes
  stamps_stay g takes other = same_left Stays (stamp_taken_by g) takes (λ u k. stamps_apart g false other u k)

  pub places_gone : (by : Taker) (thing : FileId) (takes : List Take) → is_taker file by thing ≡ true
      → places_taken by thing (without file takes) ≡ []
  places_gone by thing takes of =
      none_left Stays (place_taken_by by thing) takes (λ u k. places_apart by thing true of u k)

  pub places_stay : (by : Taker) (thing : FileId) (takes : List Take) → is_taker file by thing ≡ false
      → places_taken by thing (without file takes) ≡ places_taken by thing takes
  places_stay by thing takes other =
      same_left Stays (place_taken_by by thing) takes (λ u k. places_apart by thing false other u k)

  pub flags_gone : (by : Taker) (thing : FileId) (takes : List Take) → is_taker file by thing ≡ true
      → flags_taken by thing (without file takes) ≡ []
  flags_gone by thing takes of =
      none_left Stays (flag_taken_by by thing) takes (λ u k. flags_apart by thing true of u k)

  pub flags_stay : (by : Taker) (thing : FileId) (takes : List Take) → is_taker file by thing ≡ false
      → flags_taken by thing (without file takes) ≡ flags_taken by thing takes
  flags_stay by thing takes other =
      same_left Stays (flag_taken_by by thing) takes (λ u k. flags_apart by thing false other u k)

  -- ---- what is held

  abbrev pub Other : FileId → Bool
  Other f = not (is_same_file f file)

  skipped : (t : Bool) (u : Take) (us : List Take) → begun_by u ≡ [] → held (cond t (u ∷ us) us) ≡ held us
  skipped true u us none = ap (λ (fs : List FileId). fs ++ held us) none
  skipped false u us none = refl

  one_held : (t : Bool) (f : FileId) (us : List Take) (fs : List FileId) → held us ≡ fs
      → held (cond t (Began f ∷ us) us) ≡ cond t (f ∷ fs) fs
  one_held true f us fs rest = ap (λ (gs : List FileId). f ∷ gs) rest
  one_held false f us fs rest = rest

  pub held_without : (takes : List Take) → held (without file takes) ≡ filter Other (held takes)
  held_without [] = refl
  held_without (TookVersion f stamp ∷ us) =
      skipped (Stays (TookVersion f stamp)) (TookVersion f stamp) (without file us) refl ∙ held_without us
  held_without (TookPlace b t place ∷ us) =
      skipped (Stays (TookPlace b t place)) (TookPlace b t place) (without file us) refl ∙ held_without us
  held_without (TookFlag b t flag ∷ us) =
      skipped (Stays (TookFlag b t flag)) (TookFlag b t flag) (without file us) refl ∙ held_without us
  held_without (Began f ∷ us) =
      one_held (Other f) f (without file us) (filter Other (held us)) (held_without us)

  none_among_by : (f : FileId) (fs : List FileId) (t : Bool) → Other f ≡ t → is_among file fs ≡ false
      → is_among file (cond t (f ∷ fs) fs) ≡ false
  none_among_by f fs true e rest =
      ap (λ (t : Bool). t || is_among file fs) (apart_test f file file true (is_same_file-refl file) e) ∙ rest
  none_among_by f fs false e rest = rest

  none_among : (fs : List FileId) → is_among file (filter Other fs) ≡ false
  none_among [] = refl
  none_among (f ∷ fs) = none_among_by f (filter Other fs) (Other f) refl (none_among fs)

  same_among_by : (g : FileId) → is_same_file g file ≡ false → (f : FileId) (fs gs : List FileId) (t : Bool) → Other f ≡ t
      → is_among g gs ≡ is_among g fs → is_among g (cond t (f ∷ gs) gs) ≡ is_same_file f g || is_among g fs
  same_among_by g other f fs gs true e rest = ap (λ (t : Bool). is_same_file f g || t) rest
  same_among_by g other f fs gs false e rest =
      rest ∙ ap (λ (t : Bool). t || is_among g fs) (sym (apart_test f g file false other e))

  same_among : (g : FileId) → is_same_file g file ≡ false → (fs : List FileId)
      → is_among g (filter Other fs) ≡ is_among g fs
  same_among g other [] = refl
  same_among g other (f ∷ fs) =
      same_among_by g other f fs (filter Other fs) (Other f) refl (same_among g other fs)

  pub held_gone : (takes : List Take) → is_held file (without file takes) ≡ false
  held_gone takes = ap (is_among file) (held_without takes) ∙ none_among (held takes)

  pub held_stays : (g : FileId) (takes : List Take) → is_same_file g file ≡ false
      → is_held g (without file takes) ≡ is_held g takes
  held_stays g takes other = ap (is_among g) (held_without takes) ∙ same_among g other (held takes)

-- ---- and nothing comes of it

pub left_within : (o : Option FileId) (takes : List Take) → Within (without_gone o takes) takes
left_within None takes u k = within_itself takes u k
left_within (Some file) takes u k =
    told_itself u takes (among_filter (λ (t : Take). not (is_of_replica file t)) u takes k).0

-- ---- what is told of it goes with the replicas of these things

abbrev pub Loses : (FileId → Type 0) → Take → Type 0
Loses Of u = (file : FileId) → Of file → (takes : List Take) → Tells (without file takes) u → ⊥

-- and with no others
abbrev pub Keeps : (FileId → Type 0) → Take → Type 0
Keeps Of u = (file : FileId) → ¬ (Of file) → (takes : List Take) → Tells takes u → Tells (without file takes) u

abbrev pub Is : FileId → FileId → Type 0
Is file f = f ≡ file

other_file : (g file : FileId) → ¬ (g ≡ file) → is_same_file file g ≡ false
other_file g file apart = by (is_same_file file g) refl
  where
    by : (t : Bool) → is_same_file file g ≡ t → t ≡ false
    by false e = refl
    by true e = absurd (apart (sym (is_same_file-true file g e)))

pub version_lost : (file : FileId) (stamp : Stamp) → Loses (Is file) (TookVersion file stamp)
version_lost file stamp g same takes told =
    let gone : stamps_taken file (without g takes) ≡ [] =
    subst (λ (f : FileId). stamps_taken file (without f takes) ≡ []) (sym same) (stamps_gone file takes) in
    subst (Among stamp) gone told

pub version_kept : (file : FileId) (stamp : Stamp) → Keeps (Is file) (TookVersion file stamp)
version_kept file stamp g apart takes told =
    subst (Among stamp) (sym (stamps_stay g file takes (other_file g file apart))) told

pub begun_lost : (file : FileId) → Loses (Is file) (Began file)
begun_lost file g same takes told =
    let kept : Among file (filter (Other g) (held takes)) = subst (Among file) (held_without g takes) told in
    let other : not (is_same_file file g) ≡ true = (among_filter (Other g) file (held takes) kept).1 in
    let is : is_same_file file g ≡ true =
    subst (λ (f : FileId). is_same_file file f ≡ true) (sym same) (is_same_file-refl file) in
    absurd (let f : false ≡ true = sym (ap not is) ∙ other in cc)

pub begun_kept : (file : FileId) → Keeps (Is file) (Began file)
begun_kept file g apart takes told =
    subst (Among file) (sym (held_without g takes))
    (filter_among (Other g) file (held takes) told (ap not (other_file g file apart)))
