-- What is told does not depend on the order of takes.
use Rattle.std.proofs.Common.{◌≡◌, Bool, true, false, List, ◌∷◌, refl, sym, ap, subst, ◌∙◌, inl, inr, ◌⊎◌}
use Rattle.std.proofs.lemmas.Bool.{false≢true}
use Rattle.pg_run.specs.pg_base.declared.id.FileId.{FileId}
use Rattle.pg_run.specs.pg_base.declared.stamp.Stamp.{Stamp}
use Rattle.pg_run.specs.pg_content.Content.{Among}
use Rattle.pg_run.specs.pg_register.declared.flag.Flag.{Flag}
use Rattle.pg_run.specs.pg_register.declared.place.Place.{Place}
use Rattle.pg_run.specs.pg_entries.declared.entry.Entry.{Entry}
use Rattle.pg_run.specs.pg_names.declared.attributes.Attributes.{Attributes}
use Rattle.pg_run.specs.pg_names.Names.{NamesValue, cell_at, or_blank, own_at, own_or_blank}
use Rattle.pg_run.specs.pg_house.Facts.{IsHeld}
use Rattle.pg_run.specs.Took.{Take, Taker, is_held}
use Rattle.pg_run.specs.Took.Take.{Began, TookFlag, TookPlace, TookVersion}
use Rattle.pg_run.specs.Took.Taker.{InDir, Itself}
use Rattle.pg_run.specs.Passed.{has_cell}
use Rattle.law_passing.specs.Newest.{AreNewest, IsLatest}
use Rattle.law_passing.specs.Tells.{AreApart, HasFlag, HasPlace, IsCellOf, KnowsPlace, Tells}
use Rattle.law_passing.proofs.Latest.{any_of, latest_same}
use Rattle.law_passing.proofs.Newest.{newest_same}
use Rattle.law_passing.proofs.Takes.{HasEntry, began_held, entry_there, held_began, there_entry}

-- two lists of takes with the same places and flags, where more may have begun
pub record SameTakes (a b : List Take) : Type 0 where
  pub place : (by : Taker) (f : FileId) (p : Place) → HasPlace a by f p → HasPlace b by f p
  pub flag : (by : Taker) (f : FileId) (g : Flag) → HasFlag a by f g → HasFlag b by f g
  pub place_back : (by : Taker) (f : FileId) (p : Place) → HasPlace b by f p → HasPlace a by f p
  pub flag_back : (by : Taker) (f : FileId) (g : Flag) → HasFlag b by f g → HasFlag a by f g

module _ (a b : List Take) (m : SameTakes a b) where
  pub same_apart : AreApart a → AreApart b
  same_apart apart = record {
    places = λ f x y p q. apart.places f x y (any_of f (KnowsPlace b f) (KnowsPlace a f) (λ z h. (h.0, m.place_back h.0 f z h.1)) x p)
        (any_of f (KnowsPlace b f) (KnowsPlace a f) (λ z h. (h.0, m.place_back h.0 f z h.1)) y q);
    flags = λ f x y p q. apart.flags f x y (p.0, m.flag_back p.0 f x p.1) (q.0, m.flag_back q.0 f y q.1);
  }

  entry_to : (d f : FileId) → HasEntry a d f → HasEntry b d f
  entry_to d f (inl h) = inl (h.0, m.place (InDir d) f h.0 h.1)
  entry_to d f (inr h) = inr (h.0, m.flag (InDir d) f h.0 h.1)

  entry_back : (d f : FileId) → HasEntry b d f → HasEntry a d f
  entry_back d f (inl h) = inl (h.0, m.place_back (InDir d) f h.0 h.1)
  entry_back d f (inr h) = inr (h.0, m.flag_back (InDir d) f h.0 h.1)

  same_none : (d f : FileId) (t : Bool) → has_cell d f b ≡ t → has_cell d f a ≡ false → t ≡ false
  same_none d f false e h = refl
  same_none d f true e h = absurd (false≢true (sym h ∙ there_entry d f a (entry_back d f (entry_there d f b e))))

  same_cell : (d f : FileId) (c : Entry) → IsCellOf a d f c → IsCellOf b d f c
  same_cell d f c is = record {
    child_is = is.child_is;
    has = there_entry d f b (entry_to d f (entry_there d f a is.has));
    place = latest_same {f = f} {P = HasPlace a (InDir d) f} {Q = HasPlace b (InDir d) f} (m.place (InDir d) f) (m.place_back (InDir d) f) c.place is.place;
    flags = newest_same {P = HasFlag a (InDir d) f} {Q = HasFlag b (InDir d) f} (m.flag (InDir d) f) (m.flag_back (InDir d) f) c.flags is.flags;
  }

  -- where names differ in nothing but what is held
  module _ (s t : NamesValue) (k : Tells s a) (own : (f : FileId) → own_or_blank t f ≡ own_or_blank s f) (cells : (d f : FileId) → cell_at t d f ≡ cell_at s d f)
      (held_then : (f : FileId) → is_held f b ≡ true → IsHeld t f) (told_then : (f : FileId) → IsHeld t f → is_held f b ≡ true) where
    pub same_tells : Tells t b
    same_tells = record {
      held = held_then;
      told = told_then;
      place = λ f. (
          let P : Attributes → Type 0 = λ o. IsLatest f (HasPlace b Itself f) o.place in
          subst P (sym (own f)) (latest_same {f = f} {P = HasPlace a Itself f} {Q = HasPlace b Itself f} (m.place Itself f) (m.place_back Itself f) (own_or_blank s f).place (k.place f)));
      flags = λ f. (
          let P : Attributes → Type 0 = λ o. AreNewest (HasFlag b Itself f) o.flags in
          subst P (sym (own f)) (newest_same {P = HasFlag a Itself f} {Q = HasFlag b Itself f} (m.flag Itself f) (m.flag_back Itself f) (own_or_blank s f).flags (k.flags f)));
      none = λ d f h. same_none d f (has_cell d f b) refl (k.none d f (sym (cells d f) ∙ h));
      some = λ d f c h. same_cell d f c (k.some d f c (sym (cells d f) ∙ h));
    }

-- takes in another order
module _ (a b : List Take) (to : (x : Take) → Among x a → Among x b) (back : (x : Take) → Among x b → Among x a) where
  pub reordered : SameTakes a b
  reordered = record {
    place = λ by f p. to (TookPlace by f p);
    flag = λ by f g. to (TookFlag by f g);
    place_back = λ by f p. back (TookPlace by f p);
    flag_back = λ by f g. back (TookFlag by f g);
  }

  pub reordered_tells : (s : NamesValue) → Tells s a → Tells s b
  reordered_tells s k =
      same_tells a b reordered s s k (λ f. refl) (λ d f. refl)
      (λ f h. k.held f (began_held a f (back (Began f) (held_began b f h))))
      (λ f h. began_held b f (to (Began f) (held_began a f (k.told f h))))

-- ---- a version, of names that stay as they are

module _ (f : FileId) (stamp : Stamp) (takes : List Take) where
  version_place : (b : Taker) (g : FileId) (p : Place) → TookPlace b g p ≡ TookVersion f stamp → ⊥
  version_place b g p h = absurd (cc)

  version_flag : (b : Taker) (g : FileId) (q : Flag) → TookFlag b g q ≡ TookVersion f stamp → ⊥
  version_flag b g q h = absurd (cc)

  version_began : (g : FileId) → Began g ≡ TookVersion f stamp → ⊥
  version_began g h = absurd (cc)

  version_same : SameTakes takes (TookVersion f stamp ∷ takes)
  version_same = record {
    place = λ b g p h. inr h;
    flag = λ b g q h. inr h;
    place_back = λ b g p h. elim h [ inl i ↦ absurd (version_place b g p i) | inr old ↦ old ];
    flag_back = λ b g q h. elim h [ inl i ↦ absurd (version_flag b g q i) | inr old ↦ old ];
  }

  old_began : (g : FileId) → Among (Began g) (TookVersion f stamp ∷ takes) → Among (Began g) takes
  old_began g (inl i) = absurd (version_began g i)
  old_began g (inr old) = old

  pub version_tells : (s : NamesValue) → Tells s takes → Tells s (TookVersion f stamp ∷ takes)
  version_tells s k =
      let more = TookVersion f stamp ∷ takes in
      same_tells takes more version_same s s k (λ q. refl) (λ d g. refl)
      (λ q h. k.held q (began_held takes q (old_began q (held_began more q h))))
      (λ q h. began_held more q (inr (held_began takes q (k.told q h))))

-- ---- names that differ in nothing that is told

pub record AreSameNames (s t : NamesValue) : Type 0 where
  pub own : (f : FileId) → own_at t f ≡ own_at s f
  pub cells : (d f : FileId) → cell_at t d f ≡ cell_at s d f

pub names_tell : (s t : NamesValue) (takes : List Take) → AreSameNames s t → Tells s takes → Tells t takes
names_tell s t takes m k =
    let same : SameTakes takes takes = reordered takes takes (λ x h. h) (λ x h. h) in
    same_tells takes takes same s t k (λ f. ap (or_blank f) (m.own f)) m.cells
    (λ f h. let own = k.held f h in (own.0, m.own f ∙ own.1))
    (λ f h. k.told f (h.0, sym (m.own f) ∙ h.1))

-- ---- a thing begins of which nothing is known

module _ (s t : NamesValue) (takes : List Take) (f : FileId) (k : Tells s takes) (own : (q : FileId) → own_or_blank t q ≡ own_or_blank s q)
    (cells : (d q : FileId) → cell_at t d q ≡ cell_at s d q) (here : IsHeld t f) (stays : (q : FileId) → IsHeld s q → IsHeld t q)
    (only : (q : FileId) → IsHeld t q → IsHeld s q ⊎ (q ≡ f)) where
  abbrev More : List Take
  More = Began f ∷ takes

  began_place : (b : Taker) (g : FileId) (p : Place) → TookPlace b g p ≡ Began f → ⊥
  began_place b g p h = absurd (cc)

  began_flag : (b : Taker) (g : FileId) (q : Flag) → TookFlag b g q ≡ Began f → ⊥
  began_flag b g q h = absurd (cc)

  same_file : (g : FileId) → Began g ≡ Began f → g ≡ f
  same_file g h = cc

  begun_same : SameTakes takes More
  begun_same = record {
    place = λ b g p h. inr h;
    flag = λ b g q h. inr h;
    place_back = λ b g p h. elim h [ inl i ↦ absurd (began_place b g p i) | inr old ↦ old ];
    flag_back = λ b g q h. elim h [ inl i ↦ absurd (began_flag b g q i) | inr old ↦ old ];
  }

  held_by : (q : FileId) → Among (Began q) More → IsHeld t q
  held_by q (inl e) = subst (IsHeld t) (sym (same_file q e)) here
  held_by q (inr old) = stays q (k.held q (began_held takes q old))

  told_by : (q : FileId) → IsHeld s q ⊎ (q ≡ f) → Among (Began q) More
  told_by q (inl was) = inr (held_began takes q (k.told q was))
  told_by q (inr e) = inl (ap Began e)

  pub begun_tells : Tells t (Began f ∷ takes)
  begun_tells =
      same_tells takes More begun_same s t k own cells (λ q h. held_by q (held_began More q h))
      (λ q h. began_held More q (told_by q (only q h)))
