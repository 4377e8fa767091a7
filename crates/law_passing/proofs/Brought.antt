-- What passing brings to which replicas.
use Rattle.std.proofs.Common.{ℕ, ◌≡◌, Bool, true, false, cond, List, [], ◌++◌, refl, sym, subst, inl, inr, ◌⊎◌}
use Rattle.std.specs.List.{flat_map}
use Rattle.std.proofs.lemmas.Bool.{false≢true}
use Rattle.pg_run.specs.pg_base.declared.id.FileId.{FileId}
use Rattle.pg_run.specs.pg_content.Content.{Among}
use Rattle.pg_run.proofs.pg_content.Members.{among_filter, among_map, filter_among, map_among}
use Rattle.pg_run.specs.pg_register.declared.flag.Flag.{Flag}
use Rattle.pg_run.specs.pg_register.declared.place.Place.{Place}
use Rattle.pg_run.specs.pg_house.Returning.{is_root}
use Rattle.pg_run.specs.Took.{Take, Taker, held, is_held}
use Rattle.pg_run.specs.Took.Take.{Began, TookFlag, TookPlace}
use Rattle.pg_run.specs.Took.Taker.{InDir, Itself}
use Rattle.pg_run.specs.Passed.{all_to, all_to_dir, flags_known, flags_to, is_back, own_takes, parties, passed, passes, places_known, places_to, takes_part}
use Rattle.law_passing.specs.Gets.{GetsFlags, GetsPlaces, IsBrought, IsParty}
use Rattle.law_passing.specs.Tells.{HasFlag, HasPlace, KnowsFlag, KnowsPlace}
use Rattle.pg_run.proofs.Lists.{among_back, among_front, among_parts, among_pieces, pieces_among}
use Rattle.law_passing.proofs.Lists.{among_file, file_among}
use Rattle.law_passing.proofs.Takes.{began_held, flag_known, held_began, known_flag, known_place, place_known}

-- what is on the other side of a test that fails
pub where_false : {A : Type 0} (P : A → Type 0) (t : Bool) (x y : A) → t ≡ false → P y → P (cond t x y)
where_false P true x y h p = absurd (false≢true (sym h))
where_false P false x y h p = p

module _ (removed : List ℕ) (takes : List Take) where
  abbrev Then : List Take
  Then = passed removed takes

  -- ---- what is new was brought

  module _ (f : FileId) (x : Take) (here : is_held f takes ≡ true) where
    abbrev Brought : Take → Type 0
    Brought = IsBrought removed takes

    places_new : (by : Taker) → GetsPlaces removed takes by f → Among x (places_to f takes by) → Brought x
    places_new by g h =
        let r = among_map (TookPlace by f) (places_known f takes) x h in
        subst Brought (sym r.2) (here, place_known f takes r.0 r.1, g)

    flags_new : (by : Taker) → GetsFlags removed takes by f → Among x (flags_to f takes by) → Brought x
    flags_new by g h =
        let r = among_map (TookFlag by f) (flags_known f takes) x h in
        subst Brought (sym r.2) (here, flag_known f takes r.0 r.1, g)

    all_new : (by : Taker) → GetsPlaces removed takes by f → GetsFlags removed takes by f → Among x (all_to f takes by) → Brought x
    all_new by g k h = elim (among_parts x (places_to f takes by) (flags_to f takes by) h) [
      | inl place ↦ places_new by g place
      | inr flag ↦ flags_new by k flag
    ]

    own_new : (t : Bool) → is_back removed f takes ≡ t → is_root f ≡ false → Among x (cond t (flags_to f takes Itself) (all_to f takes Itself)) → Brought x
    own_new true back moves h = flags_new Itself moves h
    own_new false back moves h = all_new Itself (moves, back) moves h

    party_of : (d : FileId) → is_root f ≡ false → Among d (parties removed f takes) → IsParty removed takes d f
    party_of d moves h =
        let r = among_filter (takes_part removed f takes) d (held takes) h in
        record { moves = moves; held = among_file d (held takes) r.0; part = r.1 }

    passes_by : (t : Bool) → is_root f ≡ t → Among x (cond t [] (own_takes removed f takes ++ flat_map (all_to_dir f takes) (parties removed f takes))) → Brought x
    passes_by true e h = absurd h
    passes_by false e h = elim (among_parts x (own_takes removed f takes) (flat_map (all_to_dir f takes) (parties removed f takes)) h) [
      | inl own ↦ own_new (is_back removed f takes) refl e own
      | inr other ↦ (
          let r = among_pieces (all_to_dir f takes) x (parties removed f takes) other in
          let party = party_of r.0 e r.1 in
          all_new (InDir r.0) party party r.2)
    ]

  pub brought_or_old : (x : Take) → Among x Then → IsBrought removed takes x ⊎ Among x takes
  brought_or_old x h = elim (among_parts x (flat_map (passes removed takes) (held takes)) takes h) [
    | inl new ↦ (let r = among_pieces (passes removed takes) x (held takes) new in inl (passes_by r.0 x (among_file r.0 (held takes) r.1) (is_root r.0) refl r.2))
    | inr old ↦ inr old
  ]

  pub old_there : (x : Take) → Among x takes → Among x Then
  old_there x h = among_back x (flat_map (passes removed takes) (held takes)) takes h

  -- ---- and what was brought is there

  module _ (f : FileId) (x : Take) where
    thing_there : is_held f takes ≡ true → Among x (passes removed takes f) → Among x Then
    thing_there h k = among_front x (flat_map (passes removed takes) (held takes)) takes (pieces_among (passes removed takes) x f (held takes) (file_among f (held takes) h) k)

    in_passes : is_root f ≡ false → Among x (own_takes removed f takes ++ flat_map (all_to_dir f takes) (parties removed f takes)) → Among x (passes removed takes f)
    in_passes moves h = where_false (Among x) (is_root f) [] (own_takes removed f takes ++ flat_map (all_to_dir f takes) (parties removed f takes)) moves h

    own_there : is_root f ≡ false → Among x (own_takes removed f takes) → Among x (passes removed takes f)
    own_there moves h = in_passes moves (among_front x (own_takes removed f takes) (flat_map (all_to_dir f takes) (parties removed f takes)) h)

    dir_there : (d : FileId) → IsParty removed takes d f → Among x (all_to f takes (InDir d)) → Among x (passes removed takes f)
    dir_there d party h =
        let among = filter_among (takes_part removed f takes) d (held takes) (file_among d (held takes) party.held) party.part in
        in_passes party.moves
        (among_back x (own_takes removed f takes) (flat_map (all_to_dir f takes) (parties removed f takes)) (pieces_among (all_to_dir f takes) x d (parties removed f takes) among h))

    both_sides : (t : Bool) → Among x (flags_to f takes Itself) → Among x (cond t (flags_to f takes Itself) (all_to f takes Itself))
    both_sides true h = h
    both_sides false h = among_back x (places_to f takes Itself) (flags_to f takes Itself) h

  place_in : (f : FileId) (p : Place) (by : Taker) → KnowsPlace takes f p → Among (TookPlace by f p) (all_to f takes by)
  place_in f p by h = among_front (TookPlace by f p) (places_to f takes by) (flags_to f takes by) (map_among (TookPlace by f) (places_known f takes) p (known_place f takes p h))

  flag_in : (f : FileId) (g : Flag) (by : Taker) → KnowsFlag takes f g → Among (TookFlag by f g) (flags_to f takes by)
  flag_in f g by h = map_among (TookFlag by f) (flags_known f takes) g (known_flag f takes g h)

  pub place_brought : (f : FileId) (p : Place) (by : Taker) → is_held f takes ≡ true → KnowsPlace takes f p → GetsPlaces removed takes by f → HasPlace Then by f p
  place_brought f p Itself here h g =
      let x = TookPlace Itself f p in
      thing_there f x here
      (own_there f x g.0 (where_false (Among x) (is_back removed f takes) (flags_to f takes Itself) (all_to f takes Itself) g.1 (place_in f p Itself h)))
  place_brought f p (InDir d) here h g =
      let x = TookPlace (InDir d) f p in
      thing_there f x here (dir_there f x d g (place_in f p (InDir d) h))

  pub flag_brought : (f : FileId) (q : Flag) (by : Taker) → is_held f takes ≡ true → KnowsFlag takes f q → GetsFlags removed takes by f → HasFlag Then by f q
  flag_brought f q Itself here h g =
      let x = TookFlag Itself f q in
      thing_there f x here (own_there f x g (both_sides f x (is_back removed f takes) (flag_in f q Itself h)))
  flag_brought f q (InDir d) here h g =
      let x = TookFlag (InDir d) f q in
      thing_there f x here
      (dir_there f x d g (among_back x (places_to f takes (InDir d)) (flags_to f takes (InDir d)) (flag_in f q (InDir d) h)))

  -- ---- so nothing new is known of any thing, and nothing more is held

  pub same_places : (f : FileId) (p : Place) → KnowsPlace Then f p → KnowsPlace takes f p
  same_places f p h = elim (brought_or_old (TookPlace h.0 f p) h.1) [ inl new ↦ new.1 | inr old ↦ (h.0, old) ]

  pub same_flags : (f : FileId) (g : Flag) → KnowsFlag Then f g → KnowsFlag takes f g
  same_flags f g h = elim (brought_or_old (TookFlag h.0 f g) h.1) [ inl new ↦ new.1 | inr old ↦ (h.0, old) ]

  pub same_held : (q : FileId) → is_held q Then ≡ true → is_held q takes ≡ true
  same_held q h = elim (brought_or_old (Began q) (held_began Then q h)) [ inl new ↦ absurd new | inr old ↦ began_held takes q old ]

  pub still_held : (q : FileId) → is_held q takes ≡ true → is_held q Then ≡ true
  still_held q h = began_held Then q (old_there (Began q) (held_began takes q h))
