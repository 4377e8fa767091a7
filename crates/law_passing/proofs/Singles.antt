-- Takes that are alone: a place of a thing, or a flag, taken by its own replica.
use Rattle.std.proofs.Common.{◌≡◌, List, [], ◌∷◌, sym, ap, subst, ◌∙◌, inl, inr, ◌⊎◌}
use Rattle.pg_run.specs.pg_base.declared.id.FileId.{FileId}
use Rattle.pg_run.specs.pg_content.Content.{Among}
use Rattle.pg_run.specs.pg_register.declared.flag.Flag.{Flag}
use Rattle.pg_run.specs.pg_register.declared.place.Place.{Place}
use Rattle.pg_run.specs.Took.{Take, Taker, first_place}
use Rattle.pg_run.specs.Took.Take.{Began, TookFlag, TookPlace}
use Rattle.pg_run.specs.Took.Taker.{Itself}
use Rattle.law_passing.specs.Newest.{AreNewest, HaveOwnStamps, IsAnyOf, IsLatest}
use Rattle.law_passing.specs.Tells.{AreApart, HasFlag, HasPlace, KnowsFlag, KnowsPlace}
use Rattle.law_passing.proofs.Latest.{latest_none, latest_same, latest_single}
use Rattle.law_passing.proofs.Newest.{newest_more, newest_none, newest_same}
use Rattle.law_passing.proofs.Pieces.{AreOf}

-- ---- two takes that are one

pub same_taker : (a b : Taker) (f g : FileId) (p q : Place) → TookPlace a f p ≡ TookPlace b g q → a ≡ b
same_taker a b f g p q h = cc

pub same_thing : (a b : Taker) (f g : FileId) (p q : Place) → TookPlace a f p ≡ TookPlace b g q → f ≡ g
same_thing a b f g p q h = cc

pub same_place : (a b : Taker) (f g : FileId) (p q : Place) → TookPlace a f p ≡ TookPlace b g q → p ≡ q
same_place a b f g p q h = cc

pub flag_taker : (a b : Taker) (f g : FileId) (p q : Flag) → TookFlag a f p ≡ TookFlag b g q → a ≡ b
flag_taker a b f g p q h = cc

pub flag_thing : (a b : Taker) (f g : FileId) (p q : Flag) → TookFlag a f p ≡ TookFlag b g q → f ≡ g
flag_thing a b f g p q h = cc

pub same_flag : (a b : Taker) (f g : FileId) (p q : Flag) → TookFlag a f p ≡ TookFlag b g q → p ≡ q
same_flag a b f g p q h = cc

pub not_flag : (a b : Taker) (f g : FileId) (p : Place) (q : Flag) → TookFlag a f q ≡ TookPlace b g p → ⊥
not_flag a b f g p q h = absurd (cc)

pub not_place : (a b : Taker) (f g : FileId) (p : Place) (q : Flag) → TookPlace a f p ≡ TookFlag b g q → ⊥
not_place a b f g p q h = absurd (cc)

pub began_place : (b : Taker) (f g : FileId) (p : Place) → Began f ≡ TookPlace b g p → ⊥
began_place b f g p h = absurd (cc)

pub began_flag : (b : Taker) (f g : FileId) (q : Flag) → Began f ≡ TookFlag b g q → ⊥
began_flag b f g q h = absurd (cc)

only : {A : Type 0} (x y : A) → Among x (y ∷ []) → x ≡ y
only x y (inl e) = e
only x y (inr none) = absurd none

-- ---- a place

module _ (f : FileId) (p : Place) where
  abbrev pub one_place : List Take
  one_place = TookPlace Itself f p ∷ []

  pub place_all : AreOf one_place Itself f
  place_all = record {
    places = λ b g q h. (let e = only (TookPlace b g q) (TookPlace Itself f p) h in (same_taker b Itself g f q p e, same_thing b Itself g f q p e));
    flags = λ b g q h. absurd (not_flag b Itself g f p q (only (TookFlag b g q) (TookPlace Itself f p) h));
    begin = λ g h. began_place Itself g f p (only (Began g) (TookPlace Itself f p) h);
  }

  pub place_latest : IsLatest f (HasPlace one_place Itself f) p
  place_latest =
      latest_same {f = f} {P = λ q. q ≡ p} {Q = HasPlace one_place Itself f} (λ q e. inl (ap (TookPlace Itself f) e))
      (λ q h. same_place Itself Itself f f q p (only (TookPlace Itself f q) (TookPlace Itself f p) h)) p (latest_single f p)

  pub place_newest : AreNewest (HasFlag one_place Itself f) []
  place_newest = newest_none (HasFlag one_place Itself f) (λ q h. not_flag Itself Itself f f p q (only (TookFlag Itself f q) (TookPlace Itself f p) h))

-- ---- a flag

module _ (f : FileId) (g : Flag) where
  abbrev pub one_flag : List Take
  one_flag = TookFlag Itself f g ∷ []

  pub flag_all : AreOf one_flag Itself f
  flag_all = record {
    places = λ b e p h. absurd (not_place b Itself e f p g (only (TookPlace b e p) (TookFlag Itself f g) h));
    flags = λ b e q h. (let i = only (TookFlag b e q) (TookFlag Itself f g) h in (flag_taker b Itself e f q g i, flag_thing b Itself e f q g i));
    begin = λ e h. began_flag Itself e f g (only (Began e) (TookFlag Itself f g) h);
  }

  pub flag_latest : IsLatest f (HasPlace one_flag Itself f) (first_place f)
  flag_latest = latest_none f (HasPlace one_flag Itself f) (λ p h. not_place Itself Itself f f p g (only (TookPlace Itself f p) (TookFlag Itself f g) h))

  to_flag : (q : Flag) → (q ≡ g) ⊎ ⊥ → HasFlag one_flag Itself f q
  to_flag q (inl e) = inl (ap (TookFlag Itself f) e)
  to_flag q (inr none) = absurd none

  from_flag : (q : Flag) → HasFlag one_flag Itself f q → (q ≡ g) ⊎ ⊥
  from_flag q h = inl (same_flag Itself Itself f f q g (only (TookFlag Itself f q) (TookFlag Itself f g) h))

  pub flag_newest : AreNewest (HasFlag one_flag Itself f) (g ∷ [])
  flag_newest =
      let Nothing : Flag → Type 0 = λ q. ⊥ in
      newest_same {P = λ q. (q ≡ g) ⊎ Nothing q} {Q = HasFlag one_flag Itself f} to_flag from_flag (g ∷ []) (newest_more Nothing [] (newest_none Nothing (λ q h. h)) g)

-- ---- one place more, whose stamp no other has

module _ (takes : List Take) (by : Taker) (f : FileId) (p : Place) (apart : AreApart takes) (own : (q : Place) → IsAnyOf f (KnowsPlace takes f) q → q.stamp ≡ p.stamp → q ≡ p) where
  abbrev More : List Take
  More = TookPlace by f p ∷ takes

  split : (g : FileId) (a : Place) → IsAnyOf g (KnowsPlace More g) a → ((g ≡ f) × (a ≡ p)) ⊎ IsAnyOf g (KnowsPlace takes g) a
  split g a (inl e) = inr (inl e)
  split g a (inr h) = elim h.1 [
    | inl e ↦ inl (same_thing h.0 by g f a p e, same_place h.0 by g f a p e)
    | inr old ↦ inr (inr (h.0, old))
  ]

  new_one : (g : FileId) (a b : Place) → g ≡ f → a ≡ p → IsAnyOf g (KnowsPlace takes g) b → b.stamp ≡ a.stamp → b ≡ p
  new_one g a b i e h s =
      let P : FileId → Type 0 = λ x. IsAnyOf x (KnowsPlace takes x) b in
      own b (subst P i h) (s ∙ ap (λ (q : Place). q.stamp) e)

  more_places : (g : FileId) → HaveOwnStamps g (KnowsPlace More g)
  more_places g a b h k s = elim (split g a h) [
    | inl new ↦ elim (split g b k) [
      | inl too ↦ new.1 ∙ sym too.1
      | inr old ↦ new.1 ∙ sym (new_one g a b new.0 new.1 old (sym s))
    ]
    | inr old ↦ elim (split g b k) [
      | inl new ↦ new_one g b a new.0 new.1 old s ∙ sym new.1
      | inr too ↦ apart.places g a b old too s
    ]
  ]

  old_flag : (g : FileId) (q : Flag) → KnowsFlag More g q → KnowsFlag takes g q
  old_flag g q h = elim h.1 [ inl e ↦ absurd (not_flag h.0 by g f p q e) | inr old ↦ (h.0, old) ]

  pub apart_more : AreApart (TookPlace by f p ∷ takes)
  apart_more = record { places = more_places; flags = λ g a b h k. apart.flags g a b (old_flag g a h) (old_flag g b k) }
