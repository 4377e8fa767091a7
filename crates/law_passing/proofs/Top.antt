-- What is known of a thing at a server, the greatest of which is the greatest of what its replicas
-- took.
use Rattle.std.proofs.Common.{ℕ, ◌≡◌, ◌&&◌, ◌||◌, true, false, List, [], ◌∷◌, Option, None, Some, refl, sym, ap, subst, ◌∙◌, inl, inr, ◌⊎◌}
use Rattle.std.proofs.lemmas.Bool.{false≢true}
use Rattle.pg_run.specs.pg_base.declared.id.FileId.{FileId}
use Rattle.pg_run.specs.pg_content.Content.{Among}
use Rattle.pg_run.specs.pg_register.declared.flag.Flag.{Flag}
use Rattle.pg_run.specs.pg_register.declared.place.Place.{Place}
use Rattle.pg_run.specs.pg_entries.declared.entry.Entry.{Entry}
use Rattle.pg_run.specs.pg_names.declared.attributes.Attributes.{Attributes}
use Rattle.pg_run.specs.pg_names.Names.{NamesValue, cell_at, is_dir, or_blank, own_at, own_or_blank}
use Rattle.pg_run.specs.pg_house.Holding.{waits}
use Rattle.pg_run.specs.pg_house.Passing.{greatest, is_cell, is_held_back, is_in, is_update, joined_with, wants}
use Rattle.pg_run.proofs.pg_house.AfterPassing.{AreDirs}
use Rattle.pg_run.specs.Took.{Take, own_place}
use Rattle.pg_run.specs.Took.Taker.{InDir, Itself}
use Rattle.pg_run.specs.Passed.{has_cell, is_back, takes_part, top}
use Rattle.law_passing.specs.Newest.{AreNewest, IsLatest}
use Rattle.law_passing.specs.Tells.{AreApart, HasFlag, HasPlace, KnowsFlag, KnowsPlace, Tells}
use Rattle.law_passing.proofs.Latest.{latest_both, latest_same}
use Rattle.law_passing.proofs.Newest.{newest_both, newest_same}
use Rattle.law_passing.proofs.Lists.{file_among}
use Rattle.law_passing.proofs.Takes.{there_entry}
use Rattle.law_passing.proofs.States.{place_is, top_is}

module _ (names : NamesValue) (takes : List Take) (k : Tells names takes) (f : FileId) where
  -- the places and flags that the replicas of these directories took
  abbrev PlacesIn : List FileId → Place → Type 0
  PlacesIn ds p = (d : FileId) × Among d ds × HasPlace takes (InDir d) f p

  abbrev FlagsIn : List FileId → Flag → Type 0
  FlagsIn ds g = (d : FileId) × Among d ds × HasFlag takes (InDir d) f g

  -- this is the greatest of these, and of those of the directories
  abbrev IsGreatest : (Place → Type 0) → (Flag → Type 0) → Attributes → Type 0
  IsGreatest P F o = IsLatest f P o.place × AreNewest F o.flags

  no_place : (d : FileId) → has_cell d f takes ≡ false → (p : Place) → HasPlace takes (InDir d) f p → ⊥
  no_place d none p h = false≢true (sym none ∙ there_entry d f takes (inl (p, h)))

  no_flag : (d : FileId) → has_cell d f takes ≡ false → (g : Flag) → HasFlag takes (InDir d) f g → ⊥
  no_flag d none g h = false≢true (sym none ∙ there_entry d f takes (inr (g, h)))

  drop_left : {A B : Type 0} → (B → ⊥) → A ⊎ B → A
  drop_left none (inl a) = a
  drop_left none (inr b) = absurd (none b)

  joined_is : (P : Place → Type 0) (F : Flag → Type 0) (o : Attributes) (d : FileId) (c : Option Entry) → cell_at names d f ≡ c → IsGreatest P F o
      → IsGreatest (λ p. P p ⊎ HasPlace takes (InDir d) f p) (λ g. F g ⊎ HasFlag takes (InDir d) f g) (joined_with o c)
  joined_is P F o d None h g =
      let none = k.none d f h in (
        latest_same {f = f} {P = P} {Q = λ p. P p ⊎ HasPlace takes (InDir d) f p} (λ p. inl) (λ p. drop_left (no_place d none p)) o.place g.0,
        newest_same {P = F} {Q = λ g. F g ⊎ HasFlag takes (InDir d) f g} (λ p. inl) (λ q. drop_left (no_flag d none q)) o.flags g.1,
      )
  joined_is P F o d (Some c) h g =
      let is = k.some d f c h in (
        latest_both f P (HasPlace takes (InDir d) f) o.place c.place g.0 is.place,
        newest_both F (HasFlag takes (InDir d) f) o.flags c.flags g.1 is.flags,
      )

  -- one directory more
  place_to : (P : Place → Type 0) (d : FileId) (ds : List FileId) (p : Place) → ((P p ⊎ HasPlace takes (InDir d) f p) ⊎ PlacesIn ds p) → P p ⊎ PlacesIn (d ∷ ds) p
  place_to P d ds p (inl (inl h)) = inl h
  place_to P d ds p (inl (inr h)) = inr (d, inl refl, h)
  place_to P d ds p (inr h) = inr (h.0, inr h.1, h.2)

  place_back : (P : Place → Type 0) (d : FileId) (ds : List FileId) (p : Place) → P p ⊎ PlacesIn (d ∷ ds) p → ((P p ⊎ HasPlace takes (InDir d) f p) ⊎ PlacesIn ds p)
  place_back P d ds p (inl h) = inl (inl h)
  place_back P d ds p (inr h) = elim h.1 [
    | inl e ↦ (let Q : FileId → Type 0 = λ x. HasPlace takes (InDir x) f p in inl (inr (subst Q e h.2)))
    | inr more ↦ inr (h.0, more, h.2)
  ]

  flag_to : (F : Flag → Type 0) (d : FileId) (ds : List FileId) (g : Flag) → ((F g ⊎ HasFlag takes (InDir d) f g) ⊎ FlagsIn ds g) → F g ⊎ FlagsIn (d ∷ ds) g
  flag_to F d ds g (inl (inl h)) = inl h
  flag_to F d ds g (inl (inr h)) = inr (d, inl refl, h)
  flag_to F d ds g (inr h) = inr (h.0, inr h.1, h.2)

  flag_back : (F : Flag → Type 0) (d : FileId) (ds : List FileId) (g : Flag) → F g ⊎ FlagsIn (d ∷ ds) g → ((F g ⊎ HasFlag takes (InDir d) f g) ⊎ FlagsIn ds g)
  flag_back F d ds g (inl h) = inl (inl h)
  flag_back F d ds g (inr h) = elim h.1 [
    | inl e ↦ (let Q : FileId → Type 0 = λ x. HasFlag takes (InDir x) f g in inl (inr (subst Q e h.2)))
    | inr more ↦ inr (h.0, more, h.2)
  ]

  none_in : {A : Type 0} (P : A → Type 0) (a : A) → (Q : FileId → Type 0) → P a ⊎ ((d : FileId) × Among d [] × Q d) → P a
  none_in P a Q (inl h) = h
  none_in P a Q (inr h) = absurd h.1

  greatest_is : (P : Place → Type 0) (F : Flag → Type 0) (o : Attributes) (ds : List FileId) → IsGreatest P F o
      → IsGreatest (λ p. P p ⊎ PlacesIn ds p) (λ g. F g ⊎ FlagsIn ds g) (greatest names f o ds)
  greatest_is P F o [] g = (
    latest_same {f = f} {P = P} {Q = λ p. P p ⊎ PlacesIn [] p} (λ p. inl) (λ p. none_in P p (λ d. HasPlace takes (InDir d) f p)) o.place g.0,
    newest_same {P = F} {Q = λ q. F q ⊎ FlagsIn [] q} (λ p. inl) (λ q. none_in F q (λ d. HasFlag takes (InDir d) f q)) o.flags g.1,
  )
  greatest_is P F o (d ∷ ds) g =
      let M : Place → Type 0 = λ p. P p ⊎ HasPlace takes (InDir d) f p in
      let N : Flag → Type 0 = λ q. F q ⊎ HasFlag takes (InDir d) f q in
      let next = joined_with o (cell_at names d f) in
      let rest = greatest_is M N next ds (joined_is P F o d (cell_at names d f) refl g) in (
        latest_same {f = f} {P = λ p. M p ⊎ PlacesIn ds p} {Q = λ p. P p ⊎ PlacesIn (d ∷ ds) p} (place_to P d ds) (place_back P d ds) (greatest names f next ds).place rest.0,
        newest_same {P = λ q. N q ⊎ FlagsIn ds q} {Q = λ q. F q ⊎ FlagsIn (d ∷ ds) q} (flag_to F d ds) (flag_back F d ds) (greatest names f next ds).flags rest.1,
      )

  -- ---- a directory has a cell where its replica took one

  cell_by : (d : FileId) (o : Option Entry) → cell_at names d f ≡ o → has_cell d f takes ≡ true → (c : Entry) × (o ≡ Some c)
  cell_by d None h t = absurd (false≢true (sym (k.none d f h) ∙ t))
  cell_by d (Some c) h t = (c, refl)

  pub cell_there : (d : FileId) → has_cell d f takes ≡ true → (c : Entry) × (cell_at names d f ≡ Some c)
  cell_there d t = cell_by d (cell_at names d f) refl t

  is_cell_by : (d : FileId) (o : Option Entry) → cell_at names d f ≡ o → is_cell o ≡ has_cell d f takes
  is_cell_by d None h = sym (k.none d f h)
  is_cell_by d (Some c) h = sym (k.some d f c h).has

  pub is_cell_is : (d : FileId) → is_cell (cell_at names d f) ≡ has_cell d f takes
  is_cell_is d = is_cell_by d (cell_at names d f) refl

  -- ---- so what is known by any is known by the thing itself or by these directories

  module _ (ds : List FileId) (dirs : AreDirs names ds) where
    dir_among : (d : FileId) → has_cell d f takes ≡ true → Among d ds
    dir_among d t = let c = cell_there d t in file_among d ds (dirs.cells d f c.0 c.1)

    place_split : (p : Place) → KnowsPlace takes f p → HasPlace takes Itself f p ⊎ PlacesIn ds p
    place_split p (Itself, h) = inl h
    place_split p (InDir d, h) = inr (d, dir_among d (there_entry d f takes (inl (p, h))), h)

    place_known : (p : Place) → HasPlace takes Itself f p ⊎ PlacesIn ds p → KnowsPlace takes f p
    place_known p (inl h) = (Itself, h)
    place_known p (inr h) = (InDir h.0, h.2)

    flag_split : (g : Flag) → KnowsFlag takes f g → HasFlag takes Itself f g ⊎ FlagsIn ds g
    flag_split g (Itself, h) = inl h
    flag_split g (InDir d, h) = inr (d, dir_among d (there_entry d f takes (inr (g, h))), h)

    flag_known : (g : Flag) → HasFlag takes Itself f g ⊎ FlagsIn ds g → KnowsFlag takes f g
    flag_known g (inl h) = (Itself, h)
    flag_known g (inr h) = (InDir h.0, h.2)

    module _ (own : Attributes) (held : own_at names f ≡ Some own) where
      abbrev Top : Attributes
      Top = greatest names f own ds

      own_known : own_or_blank names f ≡ own
      own_known = ap (or_blank f) held

      pub own_latest : IsLatest f (HasPlace takes Itself f) own.place
      own_latest = let P : Attributes → Type 0 = λ o. IsLatest f (HasPlace takes Itself f) o.place in subst P own_known (k.place f)

      pub own_newest : AreNewest (HasFlag takes Itself f) own.flags
      own_newest = let P : Attributes → Type 0 = λ o. AreNewest (HasFlag takes Itself f) o.flags in subst P own_known (k.flags f)

      whole : IsGreatest (λ p. HasPlace takes Itself f p ⊎ PlacesIn ds p) (λ g. HasFlag takes Itself f g ⊎ FlagsIn ds g) Top
      whole = greatest_is (HasPlace takes Itself f) (HasFlag takes Itself f) own ds (own_latest, own_newest)

      -- the greatest is the latest place of all that are known, with the newest flags
      pub top_latest : IsLatest f (KnowsPlace takes f) Top.place
      top_latest = latest_same {f = f} {P = λ p. HasPlace takes Itself f p ⊎ PlacesIn ds p} {Q = KnowsPlace takes f} place_known place_split Top.place whole.0

      pub top_newest : AreNewest (KnowsFlag takes f) Top.flags
      top_newest = newest_same {P = λ g. HasFlag takes Itself f g ⊎ FlagsIn ds g} {Q = KnowsFlag takes f} flag_known flag_split Top.flags whole.1

      module _ (apart : AreApart takes) where
        pub own_place_is : own.place ≡ own_place f takes
        own_place_is = place_is takes apart Itself f own.place own_latest

        pub top_place_is : Top.place ≡ top f takes
        top_place_is = top_is takes apart f Top.place top_latest

        pub back_is : (removed : List ℕ) → is_held_back removed f own Top ≡ is_back removed f takes
        back_is removed = ap (waits removed f own.place) top_place_is ∙ ap (λ p. waits removed f p (top f takes)) own_place_is

        -- which directories are to have a cell
        pub wants_is : (removed : List ℕ) (d : FileId) → (is_dir d && wants names f own Top (is_held_back removed f own Top) d) ≡ takes_part removed f takes d
        wants_is removed d =
            ap (λ c. is_dir d && (c || ((is_update Top.place && is_in d Top.place)
            || (is_held_back removed f own Top && (own.place.live && is_in d own.place))))) (is_cell_is d)
            ∙ ap (λ t. is_dir d && (has_cell d f takes || ((is_update Top.place && is_in d Top.place)
            || (t && (own.place.live && is_in d own.place))))) (back_is removed)
            ∙ ap (λ p. is_dir d && (has_cell d f takes || ((is_update p && is_in d p)
            || (is_back removed f takes && (own.place.live && is_in d own.place))))) top_place_is
            ∙ ap (λ p. is_dir d && (has_cell d f takes || ((is_update (top f takes) && is_in d (top f takes))
            || (is_back removed f takes && (p.live && is_in d p))))) own_place_is
