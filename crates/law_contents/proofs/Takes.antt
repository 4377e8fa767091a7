-- Which versions are among what replicas took: passing brings none, and so does no place or flag
-- that is made behind the first effect.
use Rattle.std.proofs.Common.{ℕ, ◌≡◌, List, [], ◌∷◌, ◌++◌, map, Option, None, Some, refl, ap, ◌∙◌}
use Rattle.std.specs.List.{flat_map}
use Rattle.std.proofs.lemmas.Grind.{flat_map-append}
use Rattle.std.proofs.lemmas.List.{append-nil}
use Rattle.pg_run.specs.pg_base.declared.id.FileId.{FileId}
use Rattle.pg_run.specs.pg_base.declared.stamp.Stamp.{Stamp}
use Rattle.pg_run.specs.pg_call.declared.reply.Reply.{Reply}
use Rattle.pg_run.specs.pg_call.declared.reply.Reply.TheVariants as reply
use Rattle.pg_run.specs.pg_register.declared.flag.Flag.{Flag}
use Rattle.pg_run.specs.pg_register.declared.place.Place.{Place}
use Rattle.pg_run.specs.pg_register.Place.{root}
use Rattle.pg_run.specs.pg_house.Returning.{is_root}
use Rattle.pg_run.specs.pg_msg.declared.update.MadeVersion.{MadeVersion}
use Rattle.pg_run.specs.pg_msg.declared.update.Update.{Update}
use Rattle.pg_run.specs.pg_msg.declared.update.Update.TheVariants as update
use Rattle.pg_run.specs.Carried.{begun_by}
use Rattle.pg_run.specs.Journal.{versions_in}
use Rattle.pg_run.specs.Took.{Take, Taker, first_takes, held, stamp_taken_by, stamps_taken, take_of}
use Rattle.pg_run.specs.Took.Take.{TookFlag, TookPlace}
use Rattle.pg_run.specs.Took.Taker.{InDir, Itself}
use Rattle.pg_run.specs.Passed.{all_to, all_to_dir, flags_known, flags_to, is_back, own_takes, parties, passed, passed_with, passes, places_known, places_to}
use Rattle.pg_run.proofs.theory_flood_pieces.Choices.{chosen}
use Rattle.law_contents.proofs.Rules.{AreNames}

module _ (q : FileId) where
  -- no version of the file
  abbrev pub HasNone : List Take → Type 0
  HasNone takes = stamps_taken q takes ≡ []

  pub stamps_joined : (xs ys : List Take)
      → stamps_taken q (xs ++ ys) ≡ stamps_taken q xs ++ stamps_taken q ys
  stamps_joined xs ys = flat_map-append (stamp_taken_by q) xs ys

  pub none_joined : (xs ys : List Take) → HasNone xs
      → stamps_taken q (xs ++ ys) ≡ stamps_taken q ys
  none_joined xs ys none = stamps_joined xs ys ∙ ap (λ ts. ts ++ stamps_taken q ys) none

  pub both_none : (xs ys : List Take) → HasNone xs → HasNone ys → HasNone (xs ++ ys)
  both_none xs ys none other = none_joined xs ys none ∙ other

  pub places_none : (by : Taker) (thing : FileId) (ps : List Place)
      → HasNone (map (TookPlace by thing) ps)
  places_none by thing [] = refl
  places_none by thing (p ∷ ps) = places_none by thing ps

  pub flags_none : (by : Taker) (thing : FileId) (fs : List Flag)
      → HasNone (map (TookFlag by thing) fs)
  flags_none by thing [] = refl
  flags_none by thing (f ∷ fs) = flags_none by thing fs

  all_none : (thing : FileId) (takes : List Take) (by : Taker)
      → HasNone (all_to thing takes by)
  all_none thing takes by =
      both_none (places_to thing takes by) (flags_to thing takes by)
      (places_none by thing (places_known thing takes))
      (flags_none by thing (flags_known thing takes))

  pub each_none : {A : Type 0} (f : A → List Take) → ((x : A) → HasNone (f x)) → (xs : List A)
      → HasNone (flat_map f xs)
  each_none f none [] = refl
  each_none f none (x ∷ xs) = both_none (f x) (flat_map f xs) (none x) (each_none f none xs)

  own_none : (removed : List ℕ) (thing : FileId) (takes : List Take)
      → HasNone (own_takes removed thing takes)
  own_none removed thing takes =
      chosen HasNone (is_back removed thing takes) (flags_to thing takes Itself)
      (all_to thing takes Itself) (flags_none Itself thing (flags_known thing takes))
      (all_none thing takes Itself)

  passes_none : (removed : List ℕ) (takes : List Take) (thing : FileId)
      → HasNone (passes removed takes thing)
  passes_none removed takes thing =
      let rest = flat_map (all_to_dir thing takes) (parties removed thing takes) in
      chosen HasNone (is_root thing) [] (own_takes removed thing takes ++ rest) refl
      (both_none (own_takes removed thing takes) rest (own_none removed thing takes)
      (each_none (all_to_dir thing takes) (λ d. all_none thing takes (InDir d))
      (parties removed thing takes)))

  -- what passes brings no version
  pub stamps_passed : (removed : List ℕ) (takes : List Take)
      → stamps_taken q (passed removed takes) ≡ stamps_taken q takes
  stamps_passed removed takes =
      none_joined (flat_map (passes removed takes) (held takes)) takes
      (each_none (passes removed takes) (passes_none removed takes) (held takes))

  -- nor do the places and flags that are made then
  pub stamps_behind : (removed : List ℕ) (us : List Update) (takes : List Take) → AreNames us
      → stamps_taken q (passed_with removed takes us) ≡ stamps_taken q takes
  stamps_behind removed [] takes are = refl
  stamps_behind removed (update.Place file place ∷ us) takes are =
      stamps_behind removed us (passed removed (take_of (update.Place file place) ∷ takes)) are
      ∙ stamps_passed removed (take_of (update.Place file place) ∷ takes)
  stamps_behind removed (update.Version made ∷ us) takes are = absurd are
  stamps_behind removed (update.Flag file flag ∷ us) takes are =
      stamps_behind removed us (passed removed (take_of (update.Flag file flag) ∷ takes)) are
      ∙ stamps_passed removed (take_of (update.Flag file flag) ∷ takes)

  -- an event: what its first effect brings, and places and flags
  pub stamps_after : (removed : List ℕ) (more takes : List Take) (us : List Update) → AreNames us
      → stamps_taken q (passed_with removed (passed removed (more ++ takes)) us)
      ≡ stamps_taken q more ++ stamps_taken q takes
  stamps_after removed more takes us are =
      stamps_behind removed us (passed removed (more ++ takes)) are
      ∙ stamps_passed removed (more ++ takes) ∙ stamps_joined more takes

  -- at the start no version was taken
  pub first_none : (flags : List Flag) → HasNone (first_takes flags)
  first_none flags = flags_none Itself root flags

-- ---- versions among what was made

-- places and flags behind add none
pub same_versions : (us names : List Update) → AreNames names
    → versions_in (us ++ names) ≡ versions_in us
same_versions [] [] are = refl
same_versions [] (update.Place file place ∷ ps) are = same_versions [] ps are
same_versions [] (update.Version made ∷ ps) are = absurd are
same_versions [] (update.Flag file flag ∷ ps) are = same_versions [] ps are
same_versions (update.Version made ∷ us) ps are =
    ap (λ (vs : List MadeVersion). made ∷ vs) (same_versions us ps are)
same_versions (update.Place file place ∷ us) ps are = same_versions us ps are
same_versions (update.Flag file flag ∷ us) ps are = same_versions us ps are

-- ---- a call

-- no version is among what begins
pub begun_none : (q : FileId) (o : Option Reply) → HasNone q (begun_by o)
begun_none q None = refl
begun_none q (Some reply.Done) = refl
begun_none q (Some (reply.Made id)) = refl
begun_none q (Some (reply.Wrote stamp)) = refl
begun_none q (Some (reply.Bytes bytes)) = refl
begun_none q (Some (reply.Names total rows)) = refl
begun_none q (Some (reply.Stat stat)) = refl
begun_none q (Some (reply.Leaving server)) = refl
begun_none q (Some (reply.Status counts)) = refl
begun_none q (Some (reply.Refused why)) = refl

-- so it brings the versions that were made
pub brought_made : (f : FileId) (us : List Update) (o : Option Reply)
    → stamps_taken f (map take_of us ++ begun_by o) ≡ stamps_taken f (map take_of us)
brought_made f us o =
    stamps_joined f (map take_of us) (begun_by o)
    ∙ ap (λ (ts : List Stamp). stamps_taken f (map take_of us) ++ ts) (begun_none f o)
    ∙ append-nil (stamps_taken f (map take_of us))
