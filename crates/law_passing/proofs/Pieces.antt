-- A few takes more, all of one thing by one replica: what a server knows then.
use Rattle.std.proofs.Common.{◌≡◌, Bool, true, false, List, ◌++◌, Option, None, Some, refl, sym, ap, subst, ◌∙◌, inl, inr, ◌⊎◌}
use Rattle.std.proofs.lemmas.Bool.{false≢true}
use Rattle.std.proofs.lemmas.Option.{none-some, same_Some}
use Rattle.pg_run.specs.pg_base.declared.id.FileId.{FileId}
use Rattle.pg_run.specs.pg_base.Id.{is_same_file}
use Rattle.pg_run.proofs.pg_base.Orders.{is_same_file-refl, is_same_file-true}
use Rattle.pg_run.specs.pg_content.Content.{Among}
use Rattle.pg_run.specs.pg_register.declared.flag.Flag.{Flag}
use Rattle.pg_run.specs.pg_register.declared.place.Place.{Place}
use Rattle.pg_run.specs.pg_register.Flag.{join_flags}
use Rattle.pg_run.specs.pg_register.Place.{newer_place}
use Rattle.pg_run.specs.pg_entries.declared.entry.Entry.{Entry}
use Rattle.pg_run.specs.pg_entries.Entry.{joined_to}
use Rattle.pg_run.specs.pg_names.declared.attributes.Attributes.{Attributes}
use Rattle.pg_run.specs.pg_names.Names.{NamesValue, cell_at, own_or_blank}
use Rattle.pg_run.specs.pg_house.Facts.{IsHeld}
use Rattle.pg_run.specs.Took.{Take, Taker, is_held}
use Rattle.pg_run.specs.Took.Take.{Began, TookFlag, TookPlace}
use Rattle.pg_run.specs.Took.Taker.{InDir, Itself}
use Rattle.pg_run.specs.Passed.{has_cell}
use Rattle.law_passing.specs.Newest.{AreNewest, IsLatest}
use Rattle.law_passing.specs.Tells.{HasFlag, HasPlace, IsCellOf, Tells}
use Rattle.law_passing.proofs.Latest.{latest_both, latest_same}
use Rattle.pg_run.proofs.Lists.{among_back, among_front, among_parts}
use Rattle.law_passing.proofs.Newest.{newest_both, newest_same}
use Rattle.law_passing.proofs.Takes.{HasEntry, began_held, entry_there, held_began, same_dir, there_entry}

-- all of these are of one thing, by one replica; and nothing begins
pub record AreOf (xs : List Take) (by : Taker) (f : FileId) : Type 0 where
  pub places : (b : Taker) (g : FileId) (p : Place) → HasPlace xs b g p → (b ≡ by) × (g ≡ f)
  pub flags : (b : Taker) (g : FileId) (q : Flag) → HasFlag xs b g q → (b ≡ by) × (g ≡ f)
  pub begin : (g : FileId) → Among (Began g) xs → ⊥

swap : {A B : Type 0} → A ⊎ B → B ⊎ A
swap (inl a) = inr a
swap (inr b) = inl b

module _ (xs takes : List Take) (by : Taker) (f : FileId) (all : AreOf xs by f) where
  abbrev Then : List Take
  Then = xs ++ takes

  pub old_held : (q : FileId) → is_held q Then ≡ true → is_held q takes ≡ true
  old_held q h = elim (among_parts (Began q) xs takes (held_began Then q h)) [
    | inl new ↦ absurd (all.begin q new)
    | inr old ↦ began_held takes q old
  ]

  pub new_held : (q : FileId) → is_held q takes ≡ true → is_held q Then ≡ true
  new_held q h = began_held Then q (among_back (Began q) xs takes (held_began takes q h))

  -- ---- of other things, or by other replicas

  abbrev IsOther : Taker → FileId → Type 0
  IsOther b g = (b ≡ by) → (g ≡ f) → ⊥

  other_place : (b : Taker) (g : FileId) (p : Place) → IsOther b g → HasPlace Then b g p → HasPlace takes b g p
  other_place b g p other h = elim (among_parts (TookPlace b g p) xs takes h) [
    | inl new ↦ (let e = all.places b g p new in absurd (other e.0 e.1))
    | inr old ↦ old
  ]

  other_flag : (b : Taker) (g : FileId) (q : Flag) → IsOther b g → HasFlag Then b g q → HasFlag takes b g q
  other_flag b g q other h = elim (among_parts (TookFlag b g q) xs takes h) [
    | inl new ↦ (let e = all.flags b g q new in absurd (other e.0 e.1))
    | inr old ↦ old
  ]

  pub other_latest : (b : Taker) (g : FileId) → IsOther b g → (v : Place) → IsLatest g (HasPlace takes b g) v → IsLatest g (HasPlace Then b g) v
  other_latest b g other v k =
      latest_same {f = g} {P = HasPlace takes b g} {Q = HasPlace Then b g} (λ p. among_back (TookPlace b g p) xs takes) (λ p. other_place b g p other) v k

  pub other_newest : (b : Taker) (g : FileId) → IsOther b g → (v : List Flag) → AreNewest (HasFlag takes b g) v → AreNewest (HasFlag Then b g) v
  other_newest b g other v k =
      newest_same {P = HasFlag takes b g} {Q = HasFlag Then b g} (λ q. among_back (TookFlag b g q) xs takes) (λ q. other_flag b g q other) v k

  other_entry : (d g : FileId) → IsOther (InDir d) g → HasEntry Then d g → HasEntry takes d g
  other_entry d g other (inl h) = inl (h.0, other_place (InDir d) g h.0 other h.1)
  other_entry d g other (inr h) = inr (h.0, other_flag (InDir d) g h.0 other h.1)

  old_entry : (d g : FileId) → HasEntry takes d g → HasEntry Then d g
  old_entry d g (inl h) = inl (h.0, among_back (TookPlace (InDir d) g h.0) xs takes h.1)
  old_entry d g (inr h) = inr (h.0, among_back (TookFlag (InDir d) g h.0) xs takes h.1)

  new_entry : (d g : FileId) → HasEntry xs d g → HasEntry Then d g
  new_entry d g (inl h) = inl (h.0, among_front (TookPlace (InDir d) g h.0) xs takes h.1)
  new_entry d g (inr h) = inr (h.0, among_front (TookFlag (InDir d) g h.0) xs takes h.1)

  other_none : (d g : FileId) → IsOther (InDir d) g → has_cell d g takes ≡ false → (t : Bool) → has_cell d g Then ≡ t → t ≡ false
  other_none d g other h false e = refl
  other_none d g other h true e = absurd (false≢true (sym h ∙ there_entry d g takes (other_entry d g other (entry_there d g Then e))))

  other_cell : (d g : FileId) → IsOther (InDir d) g → (c : Entry) → IsCellOf takes d g c → IsCellOf Then d g c
  other_cell d g other c is = record {
    child_is = is.child_is;
    has = there_entry d g Then (old_entry d g (entry_there d g takes is.has));
    place = other_latest (InDir d) g other c.place is.place;
    flags = other_newest (InDir d) g other c.flags is.flags;
  }

  -- ---- of this thing, by this replica

  either : (p : Place) → HasPlace takes by f p ⊎ HasPlace xs by f p → HasPlace Then by f p
  either p (inl h) = among_back (TookPlace by f p) xs takes h
  either p (inr h) = among_front (TookPlace by f p) xs takes h

  either_flag : (q : Flag) → HasFlag takes by f q ⊎ HasFlag xs by f q → HasFlag Then by f q
  either_flag q (inl h) = among_back (TookFlag by f q) xs takes h
  either_flag q (inr h) = among_front (TookFlag by f q) xs takes h

  pub mine_latest : (v w : Place) → IsLatest f (HasPlace takes by f) v → IsLatest f (HasPlace xs by f) w → IsLatest f (HasPlace Then by f) (newer_place v w)
  mine_latest v w k l =
      latest_same {f = f} {P = λ p. HasPlace takes by f p ⊎ HasPlace xs by f p} {Q = HasPlace Then by f} either (λ p h. swap (among_parts (TookPlace by f p) xs takes h)) (newer_place v w)
      (latest_both f (HasPlace takes by f) (HasPlace xs by f) v w k l)

  pub mine_newest : (v w : List Flag) → AreNewest (HasFlag takes by f) v → AreNewest (HasFlag xs by f) w → AreNewest (HasFlag Then by f) (join_flags v w)
  mine_newest v w k l =
      newest_same {P = λ q. HasFlag takes by f q ⊎ HasFlag xs by f q} {Q = HasFlag Then by f} either_flag (λ q h. swap (among_parts (TookFlag by f q) xs takes h)) (join_flags v w)
      (newest_both (HasFlag takes by f) (HasFlag xs by f) v w k l)

-- ---- names that differ in what is known of one thing itself

pub record OwnComes (s t : NamesValue) (xs : List Take) (f : FileId) (v : Place) (w : List Flag) : Type 0 where
  pub all : AreOf xs Itself f
  pub latest : IsLatest f (HasPlace xs Itself f) v
  pub newest : AreNewest (HasFlag xs Itself f) w
  pub place : (own_or_blank t f).place ≡ newer_place (own_or_blank s f).place v
  pub flags : (own_or_blank t f).flags ≡ join_flags (own_or_blank s f).flags w
  pub others : (q : FileId) → is_same_file f q ≡ false → own_or_blank t q ≡ own_or_blank s q
  pub cells : (d q : FileId) → cell_at t d q ≡ cell_at s d q
  pub stays : (q : FileId) → IsHeld s q → IsHeld t q
  pub was : (q : FileId) → IsHeld t q → IsHeld s q

module _ (s t : NamesValue) (takes xs : List Take) (f : FileId) (v : Place) (w : List Flag) (k : Tells s takes) (m : OwnComes s t xs f v w) where
  abbrev Now : List Take
  Now = xs ++ takes

  not_dir : (d g : FileId) → (InDir d ≡ Itself) → (g ≡ f) → ⊥
  not_dir d g h e = absurd (cc)

  apart_from : (q : FileId) → is_same_file f q ≡ false → (Itself ≡ Itself) → (q ≡ f) → ⊥
  apart_from q apart h e = false≢true (sym apart ∙ ap (is_same_file f) e ∙ is_same_file-refl f)

  place_by : (q : FileId) (b : Bool) → is_same_file f q ≡ b → IsLatest q (HasPlace Now Itself q) (own_or_blank t q).place
  place_by q true same =
      let P : FileId → Type 0 = λ x. IsLatest x (HasPlace Now Itself x) (own_or_blank t x).place in
      let Q : Place → Type 0 = λ x. IsLatest f (HasPlace Now Itself f) x in
      subst P (is_same_file-true f q same) (subst Q (sym m.place) (mine_latest xs takes Itself f m.all (own_or_blank s f).place v (k.place f) m.latest))
  place_by q false apart =
      let P : Attributes → Type 0 = λ o. IsLatest q (HasPlace Now Itself q) o.place in
      subst P (sym (m.others q apart)) (other_latest xs takes Itself f m.all Itself q (apart_from q apart) (own_or_blank s q).place (k.place q))

  flags_by : (q : FileId) (b : Bool) → is_same_file f q ≡ b → AreNewest (HasFlag Now Itself q) (own_or_blank t q).flags
  flags_by q true same =
      let P : FileId → Type 0 = λ x. AreNewest (HasFlag Now Itself x) (own_or_blank t x).flags in
      let Q : List Flag → Type 0 = λ x. AreNewest (HasFlag Now Itself f) x in
      subst P (is_same_file-true f q same) (subst Q (sym m.flags) (mine_newest xs takes Itself f m.all (own_or_blank s f).flags w (k.flags f) m.newest))
  flags_by q false apart =
      let P : Attributes → Type 0 = λ o. AreNewest (HasFlag Now Itself q) o.flags in
      subst P (sym (m.others q apart)) (other_newest xs takes Itself f m.all Itself q (apart_from q apart) (own_or_blank s q).flags (k.flags q))

  pub own_tells : Tells t (xs ++ takes)
  own_tells = record {
    held = λ q h. m.stays q (k.held q (old_held xs takes Itself f m.all q h));
    told = λ q h. new_held xs takes Itself f m.all q (k.told q (m.was q h));
    place = λ q. place_by q (is_same_file f q) refl;
    flags = λ q. flags_by q (is_same_file f q) refl;
    none = λ d g h. other_none xs takes Itself f m.all d g (not_dir d g) (k.none d g (sym (m.cells d g) ∙ h)) (has_cell d g Now) refl;
    some = λ d g c h. other_cell xs takes Itself f m.all d g (not_dir d g) c (k.some d g c (sym (m.cells d g) ∙ h));
  }

-- ---- or in what one directory knows of it

pub record EntryComes (s t : NamesValue) (xs : List Take) (d f : FileId) (e : Entry) : Type 0 where
  pub all : AreOf xs (InDir d) f
  pub is : IsCellOf xs d f e
  pub own : (q : FileId) → own_or_blank t q ≡ own_or_blank s q
  pub cell : cell_at t d f ≡ Some (joined_to (cell_at s d f) e)
  pub others : (q g : FileId) → ((q ≡ d) → (g ≡ f) → ⊥) → cell_at t q g ≡ cell_at s q g
  pub stays : (q : FileId) → IsHeld s q → IsHeld t q
  pub was : (q : FileId) → IsHeld t q → IsHeld s q

module _ (s t : NamesValue) (takes xs : List Take) (d f : FileId) (e : Entry) (k : Tells s takes) (m : EntryComes s t xs d f e) where
  abbrev Later : List Take
  Later = xs ++ takes

  not_itself : (q : FileId) → (Itself ≡ InDir d) → (q ≡ f) → ⊥
  not_itself q h i = absurd (cc)

  -- where the directory had none, or one
  no_old : (b : Taker) (g : FileId) (p : Place) → HasPlace takes (InDir d) f p → cell_at s d f ≡ None → ⊥
  no_old b g p h none = false≢true (sym (k.none d f none) ∙ there_entry d f takes (inl (p, h)))

  no_old_flag : (q : Flag) → HasFlag takes (InDir d) f q → cell_at s d f ≡ None → ⊥
  no_old_flag q h none = false≢true (sym (k.none d f none) ∙ there_entry d f takes (inr (q, h)))

  only_new : (p : Place) → cell_at s d f ≡ None → HasPlace Later (InDir d) f p → HasPlace xs (InDir d) f p
  only_new p none h = elim (among_parts (TookPlace (InDir d) f p) xs takes h) [ inl new ↦ new | inr old ↦ absurd (no_old Itself f p old none) ]

  only_flag : (q : Flag) → cell_at s d f ≡ None → HasFlag Later (InDir d) f q → HasFlag xs (InDir d) f q
  only_flag q none h = elim (among_parts (TookFlag (InDir d) f q) xs takes h) [ inl new ↦ new | inr old ↦ absurd (no_old_flag q old none) ]

  joined_by : (o : Option Entry) → cell_at s d f ≡ o → IsCellOf Later d f (joined_to o e)
  joined_by None h = record {
    child_is = m.is.child_is;
    has = there_entry d f Later (new_entry xs takes (InDir d) f m.all d f (entry_there d f xs m.is.has));
    place = latest_same {f = f} {P = HasPlace xs (InDir d) f} {Q = HasPlace Later (InDir d) f} (λ p. among_front (TookPlace (InDir d) f p) xs takes) (λ p. only_new p h) e.place m.is.place;
    flags = newest_same {P = HasFlag xs (InDir d) f} {Q = HasFlag Later (InDir d) f} (λ q. among_front (TookFlag (InDir d) f q) xs takes) (λ q. only_flag q h) e.flags m.is.flags;
  }
  joined_by (Some c) h =
      let is = k.some d f c h in
      record {
        child_is = is.child_is;
        has = there_entry d f Later (new_entry xs takes (InDir d) f m.all d f (entry_there d f xs m.is.has));
        place = mine_latest xs takes (InDir d) f m.all c.place e.place is.place m.is.place;
        flags = mine_newest xs takes (InDir d) f m.all c.flags e.flags is.flags m.is.flags;
      }

  mine : IsCellOf Later d f (joined_to (cell_at s d f) e)
  mine = joined_by (cell_at s d f) refl

  -- of another directory, or another child
  cell_cases : (P : FileId → FileId → Type 0) → P d f → ((q g : FileId) → ((q ≡ d) → (g ≡ f) → ⊥) → P q g) → (q g : FileId) (a b : Bool) → is_same_file d q ≡ a → is_same_file f g ≡ b → P q g
  cell_cases P here there q g true true i j =
      let Q : FileId → Type 0 = λ x. P x g in
      let R : FileId → Type 0 = λ x. P d x in
      subst Q (is_same_file-true d q i) (subst R (is_same_file-true f g j) here)
  cell_cases P here there q g false b i j = there q g (λ x y. false≢true (sym i ∙ ap (is_same_file d) x ∙ is_same_file-refl d))
  cell_cases P here there q g true false i j = there q g (λ x y. false≢true (sym j ∙ ap (is_same_file f) y ∙ is_same_file-refl f))

  by_cell : (P : FileId → FileId → Type 0) → P d f → ((q g : FileId) → ((q ≡ d) → (g ≡ f) → ⊥) → P q g) → (q g : FileId) → P q g
  by_cell P here there q g = cell_cases P here there q g (is_same_file d q) (is_same_file f g) refl refl

  apart_dirs : (q g : FileId) → ((q ≡ d) → (g ≡ f) → ⊥) → (InDir q ≡ InDir d) → (g ≡ f) → ⊥
  apart_dirs q g apart h i = apart (same_dir q d h) i

  some_here : (c : Entry) → cell_at t d f ≡ Some c → IsCellOf Later d f c
  some_here c h = let P : Entry → Type 0 = λ x. IsCellOf Later d f x in subst P (same_Some (joined_to (cell_at s d f) e) c (sym m.cell ∙ h)) mine

  pub entry_tells : Tells t (xs ++ takes)
  entry_tells = record {
    held = λ q h. m.stays q (k.held q (old_held xs takes (InDir d) f m.all q h));
    told = λ q h. new_held xs takes (InDir d) f m.all q (k.told q (m.was q h));
    place = λ q. (
        let P : Attributes → Type 0 = λ o. IsLatest q (HasPlace Later Itself q) o.place in
        subst P (sym (m.own q)) (other_latest xs takes (InDir d) f m.all Itself q (not_itself q) (own_or_blank s q).place (k.place q)));
    flags = λ q. (
        let P : Attributes → Type 0 = λ o. AreNewest (HasFlag Later Itself q) o.flags in
        subst P (sym (m.own q)) (other_newest xs takes (InDir d) f m.all Itself q (not_itself q) (own_or_blank s q).flags (k.flags q)));
    none = by_cell (λ q g. cell_at t q g ≡ None → has_cell q g Later ≡ false) (λ h. absurd (none-some (joined_to (cell_at s d f) e) (sym h ∙ m.cell)))
        (λ q g apart h. other_none xs takes (InDir d) f m.all q g (apart_dirs q g apart) (k.none q g (sym (m.others q g apart) ∙ h)) (has_cell q g Later) refl);
    some = by_cell (λ q g. (c : Entry) → cell_at t q g ≡ Some c → IsCellOf Later q g c) some_here
        (λ q g apart c h. other_cell xs takes (InDir d) f m.all q g (apart_dirs q g apart) c (k.some q g c (sym (m.others q g apart) ∙ h)));
  }
