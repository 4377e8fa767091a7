-- No place that is known is later than a server's greatest time, so one with a later stamp is the
-- latest of all.
use Rattle.std.proofs.Common.{ℕ, ◌≡◌, ◌≤◌, ◌<◌, true, List, ◌∷◌, Option, None, Some, refl, sym, ap, subst, ◌∙◌, inl, inr, arith}
use Rattle.std.proofs.lemmas.Bool.Decides.{nat_tests}
use Rattle.pg_run.specs.pg_base.declared.id.FileId.{FileId}
use Rattle.pg_run.specs.pg_base.declared.stamp.Stamp.{Stamp}
use Rattle.pg_run.specs.pg_base.Stamp.{UpTo, is_before}
use Rattle.pg_run.proofs.pg_base.Orders.{UpTo-refl}
use Rattle.pg_run.specs.pg_register.declared.place.Place.{Place}
use Rattle.pg_run.specs.theory_flood_pieces.UpTo.{IsPlaceUpTo}
use Rattle.pg_run.specs.pg_names.declared.attributes.Attributes.{Attributes}
use Rattle.pg_run.specs.pg_names.Names.{NamesValue, or_blank, own_at, own_or_blank}
use Rattle.pg_run.specs.pg_house.Facts.{IsLast}
use Rattle.pg_run.specs.Took.{Take, Taker, first_place}
use Rattle.pg_run.specs.Took.Take.{TookPlace}
use Rattle.pg_run.specs.Took.Taker.{InDir, Itself}
use Rattle.law_passing.specs.Newest.{IsAnyOf, IsLatest}
use Rattle.law_passing.specs.Tells.{AreApart, HasPlace, KnowsPlace, Tells}
use Rattle.law_passing.proofs.Latest.{first_stamp_is}
use Rattle.law_passing.proofs.Singles.{apart_more, same_place}
use Rattle.law_passing.proofs.Takes.{there_entry}
use Rattle.law_passing.proofs.Top.{cell_there}

pub earlier : (a b : Stamp) → a.time < b.time → is_before a b ≡ true
earlier a b h = grind (arith, nat_tests)

up_later : (a b : Stamp) → a.time < b.time → UpTo a b
up_later a b h = record { time = omega arith; server = λ k. absurd (omega arith) }

within : (a b n : ℕ) → a ≤ b → b ≤ n → a ≤ n
within a b n h k = omega arith

none_late : (a b n : ℕ) → a ≤ n → n < b → a ≡ b → ⊥
none_late a b n h k e = omega arith

pub less : (a b n : ℕ) → a ≤ n → n < b → a < b
less a b n h k = omega arith

low : (a n : ℕ) → a ≡ 0 → a ≤ n
low a n h = omega arith

module _ (s : NamesValue) (takes : List Take) (k : Tells s takes) (last : IsLast s) where
  time_by : (f : FileId) (o : Option Attributes) → own_at s f ≡ o → (or_blank f o).place.stamp.time ≤ s.last
  time_by f None h = omega arith
  time_by f (Some own) h = last.own f own h

  pub own_time : (f : FileId) → (own_or_blank s f).place.stamp.time ≤ s.last
  own_time f = time_by f (own_at s f) refl

  pub place_time : (by : Taker) (f : FileId) (p : Place) → HasPlace takes by f p → p.stamp.time ≤ s.last
  place_time Itself f p h = within p.stamp.time (own_or_blank s f).place.stamp.time s.last ((k.place f).up p h).time (own_time f)
  place_time (InDir d) f p h =
      let c = cell_there s takes k f d (there_entry d f takes (inl (p, h))) in
      within p.stamp.time c.0.place.stamp.time s.last ((k.some d f c.0 c.1).place.up p h).time (last.cells d f c.0 c.1)

  zero_time : (f : FileId) (q : Place) → q ≡ first_place f → q.stamp.time ≤ s.last
  zero_time f q e = let h : q.stamp.time ≡ 0 = ap (λ (p : Place). p.stamp.time) e ∙ ap (λ (x : Stamp). x.time) (first_stamp_is f) in low q.stamp.time s.last h

  pub any_time : (f : FileId) (q : Place) → IsAnyOf f (KnowsPlace takes f) q → q.stamp.time ≤ s.last
  any_time f q (inl e) = zero_time f q e
  any_time f q (inr h) = place_time h.0 f q h.1

  -- a place with a later stamp
  module _ (f : FileId) (p : Place) (late : s.last < p.stamp.time) where
    no_other : (q : Place) → IsAnyOf f (KnowsPlace takes f) q → q.stamp ≡ p.stamp → q ≡ p
    no_other q h e = absurd (none_late q.stamp.time p.stamp.time s.last (any_time f q h) late (ap (λ (x : Stamp). x.time) e))

    pub late_apart : AreApart takes → AreApart (TookPlace Itself f p ∷ takes)
    late_apart apart = apart_more takes Itself f p apart no_other

    late_up : (q : Place) → KnowsPlace (TookPlace Itself f p ∷ takes) f q → IsPlaceUpTo q p
    late_up q h = elim h.1 [
      | inl e ↦ (let P : Place → Type 0 = λ x. IsPlaceUpTo x p in subst P (sym (same_place h.0 Itself f f q p e)) (UpTo-refl p.stamp))
      | inr old ↦ up_later q.stamp p.stamp (less q.stamp.time p.stamp.time s.last (place_time h.0 f q old) late)
    ]

    pub late_latest : IsLatest f (KnowsPlace (TookPlace Itself f p ∷ takes) f) p
    late_latest = record { there = inr (Itself, inl refl); up = late_up }
