-- What a server makes of what it holds is what its replicas take.
use Rattle.std.proofs.Common.{ℕ, ◌≡◌, true, List, [], ◌∷◌, ◌++◌, map, sym, subst, inl, inr, ◌⊎◌}
use Rattle.std.specs.Prelude.{nat_lt}
use Rattle.pg_run.specs.pg_base.declared.id.FileId.{FileId}
use Rattle.pg_run.specs.pg_base.declared.stamp.Stamp.{Stamp}
use Rattle.pg_run.specs.pg_content.Content.{Among}
use Rattle.pg_run.specs.pg_register.declared.flag.Flag.{Flag}
use Rattle.pg_run.specs.pg_register.declared.place.Place.{Place}
use Rattle.pg_run.specs.pg_patch.Ranges.{RangesValue}
use Rattle.pg_run.specs.pg_msg.declared.update.Update.{Update}
use Rattle.pg_run.specs.pg_msg.declared.update.Update.TheVariants as update
use Rattle.pg_run.specs.pg_msg.Work.{with_made}
use Rattle.pg_run.specs.pg_names.Names.{NamesValue, fill as names_fill, filled}
use Rattle.pg_run.proofs.pg_names.Holding.{fill_cells, fill_own}
use Rattle.pg_run.proofs.pg_names.Lookups.{update_frame}
use Rattle.pg_run.specs.pg_house.Facts.{IsHeld}
use Rattle.pg_run.proofs.theory_flood_pieces.Choices.{chosen}
use Rattle.pg_run.specs.pg_store.Store.{take_flag, take_place, with_names}
use Rattle.pg_run.specs.pg_pieces.Done.{Done, idle}
use Rattle.pg_run.specs.pg_pieces.Making.{make_flag, own_next, raise_flag}
use Rattle.pg_run.specs.pg_repair.Filling.{few_golds, fill, live_golds, raise_if_few}
use Rattle.pg_run.specs.pg_calls.Making.{make_place, make_version, version_of}
use Rattle.pg_run.specs.Took.{Take, take_of}
use Rattle.law_names.specs.Goes.{Goes}
use Rattle.law_names.proofs.Going.{goes_flag, goes_noted, goes_place, goes_raised, goes_reordered, goes_same, still_held}
use Rattle.law_names.proofs.Notes.{flag_noted_made, place_noted_made}

-- ---- one update more

last_to : (us : List Update) (u : Update) (takes : List Take) (x : Take) → Among x (take_of u ∷ (map take_of us ++ takes)) → Among x (map take_of (us ++ u ∷ []) ++ takes)
last_to [] u takes x h = h
last_to (v ∷ us) u takes x (inl e) = inr (last_to us u takes x (inl e))
last_to (v ∷ us) u takes x (inr (inl e)) = inl e
last_to (v ∷ us) u takes x (inr (inr more)) = inr (last_to us u takes x (inr more))

behind_first : (v : Update) (u : Take) (xs : List Take) (x : Take) → (x ≡ u) ⊎ Among x xs → (x ≡ u) ⊎ ((x ≡ take_of v) ⊎ Among x xs)
behind_first v u xs x (inl e) = inl e
behind_first v u xs x (inr h) = inr (inr h)

last_back : (us : List Update) (u : Update) (takes : List Take) (x : Take) → Among x (map take_of (us ++ u ∷ []) ++ takes) → Among x (take_of u ∷ (map take_of us ++ takes))
last_back [] u takes x h = h
last_back (v ∷ us) u takes x (inl e) = inr (inl e)
last_back (v ∷ us) u takes x (inr more) = behind_first v (take_of u) (map take_of us ++ takes) x (last_back us u takes x more)

-- ---- a server in the midst of an event

module _ (removed : List ℕ) where
  abbrev Is : NamesValue → List Take → Type 0
  Is = Goes removed

  -- the updates that were made are taken, behind these
  abbrev pub DoneIs : List Take → Done → Type 0
  DoneIs base d = Is d.store.names (map take_of d.work.made ++ base)

  put_last : (base : List Take) (s : NamesValue) (made : List Update) (u : Update) → Is s (take_of u ∷ (map take_of made ++ base)) → Is s (map take_of (made ++ u ∷ []) ++ base)
  put_last base s made u h =
      goes_reordered removed s (take_of u ∷ (map take_of made ++ base)) (map take_of (made ++ u ∷ []) ++ base) h (last_to made u base) (last_back made u base)

  pub place_made : (base : List Take) (d : Done) → DoneIs base d → (f : FileId) → IsHeld d.store.names f → (q : Place) → DoneIs base (make_place f q d)
  place_made base d h f held q =
      let u = update.Place f q in
      let s = (take_place d.store f q).names in
      let P : List Update → Type 0 = λ us. Is s (map take_of us ++ base) in
      subst P (sym (place_noted_made d.store f q (with_made d.work u)))
      (put_last base s d.work.made u (goes_place removed d.store (map take_of d.work.made ++ base) h f held q))

  pub flag_made : (base : List Take) (d : Done) → DoneIs base d → (f : FileId) → IsHeld d.store.names f → (g : Flag) → DoneIs base (make_flag d.store f g d.work)
  flag_made base d h f held g =
      let u = update.Flag f g in
      let s = (take_flag d.store f g).names in
      let P : List Update → Type 0 = λ us. Is s (map take_of us ++ base) in
      subst P (sym (flag_noted_made d.store f g (with_made d.work u)))
      (put_last base s d.work.made u (goes_flag removed d.store (map take_of d.work.made ++ base) h f held g))

  pub version_made : (base : List Take) (d : Done) → DoneIs base d → (f : FileId) (stamp : Stamp) (r : RangesValue) → DoneIs base (make_version f stamp r d)
  version_made base d h f stamp r =
      let u = update.Version (version_of d.store f stamp r) in
      put_last base (make_version f stamp r d).store.names d.work.made u
      (goes_raised removed d.store.names stamp.time (take_of u ∷ (map take_of d.work.made ++ base))
      (goes_noted removed d.store.names (map take_of d.work.made ++ base) h f stamp))

  -- ---- what is full

  pub goes_filled : (s : NamesValue) (now : List Take) → Is s now → (f : FileId) → Is (names_fill s f) now
  goes_filled s now k f =
      let frame = update_frame s f filled in
      goes_same removed s (names_fill s f) now k (record { own = fill_own s f; cells = fill_cells s f }) frame.last frame.removed

  pub few_raised : (base : List Take) (d : Done) → DoneIs base d → (f : FileId) → IsHeld d.store.names f
      → DoneIs base (raise_if_few d.store f d.work)
  few_raised base d h f held =
      chosen (DoneIs base) (nat_lt (live_golds d.store f) few_golds) (raise_flag d.store f d.work) (idle d.store d.work)
      (flag_made base d h f held (own_next d.store f true)) h

  pub fill_made : (base : List Take) (d : Done) → DoneIs base d → (f : FileId) → IsHeld d.store.names f
      → DoneIs base (fill d.store f d.work)
  fill_made base d h f held =
      let s = names_fill d.store.names f in
      let now = map take_of d.work.made ++ base in
      let full = goes_filled d.store.names now h f in
      few_raised base (idle (with_names d.store s) d.work) full f
      (still_held removed d.store.names s now now h full (λ x j. j) f held)
