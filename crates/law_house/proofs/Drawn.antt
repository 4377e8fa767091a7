-- The stamp that a rule draws is the next; and a dead place that was made is told by its test.
use Rattle.std.proofs.Common.{ℕ, ◌≡◌, ◌≢◌, ◌≤◌, ◌<◌, ◌+◌, ◌^◌, ◌&&◌, Bool, true, false, max, min, not, refl, sym, ap, ◌∙◌, arith}
use Rattle.std.proofs.lemmas.Bool.{and_from, and_parts, false≢true, not-true, not_from_false}
use Rattle.pg_run.specs.pg_base.declared.id.FileId.{FileId}
use Rattle.pg_run.specs.pg_base.Id.{is_same_file}
use Rattle.pg_run.specs.pg_base.Stamp.{is_before}
use Rattle.pg_run.specs.pg_house.Placing.{drawn}
use Rattle.pg_run.specs.pg_house.Returning.{is_dead}
use Rattle.pg_run.specs.pg_house.Work.{is_root}
use Rattle.pg_run.specs.pg_names.Names.{NamesValue}
use Rattle.pg_run.specs.pg_register.declared.place.Place.{Place}
use Rattle.pg_run.specs.pg_register.Place.{first_stamp, root}
use Rattle.pg_run.proofs.pg_base.Orders.{UpTo-same, is_before-false, is_same_file-refl, is_same_file-true}
use Rattle.law_house.specs.Steps.{IsDrawn}

-- ---- a time that is drawn

module _ (moment last t : ℕ) (is : t ≡ max (min moment (2 ^ 62)) (last + 1)) where
  later : last < t
  later = grind arith

  since : moment ≤ 2 ^ 62 → moment ≤ t
  since before = grind arith

  ended : 2 ^ 62 ≤ moment → 2 ^ 62 ≤ t
  ended past = grind arith

  least : (time : ℕ) → last < time → moment ≤ time → t ≤ time
  least time over upto = grind arith

  most : (time : ℕ) → last < time → 2 ^ 62 ≤ time → t ≤ time
  most time over upto = grind arith

pub drawn_is : (moment : ℕ) (s : NamesValue) → IsDrawn moment s (drawn moment s)
drawn_is moment s =
    let t = (drawn moment s).time in record {
      own = refl;
      later = later moment s.last t refl;
      since = since moment s.last t refl;
      ended = ended moment s.last t refl;
      least = least moment s.last t refl;
      last = most moment s.last t refl;
    }

-- ---- a dead place that was made

module _ (d : FileId) (p : Place) where
  -- what is not the first stamp is later
  made_later : p.stamp ≢ first_stamp → is_before first_stamp p.stamp ≡ true
  made_later made = by (is_before first_stamp p.stamp) refl
    where
      by : (t : Bool) → is_before first_stamp p.stamp ≡ t → t ≡ true
      by true is = refl
      by false is =
          absurd (made (UpTo-same p.stamp first_stamp (is_before-false first_stamp p.stamp is) (record { time = omega arith; server = λ k. omega arith })))

  not_root : d ≢ root → is_root d ≡ false
  not_root other = by (is_root d) refl
    where
      by : (t : Bool) → is_root d ≡ t → t ≡ false
      by false is = refl
      by true is = absurd (other (is_same_file-true d root is))

  pub dead_by : d ≢ root → p.live ≡ false → p.stamp ≢ first_stamp → is_dead d p ≡ true
  dead_by other dead made =
      and_from (not (is_root d)) (not p.live && is_before first_stamp p.stamp) (not_from_false (is_root d) (not_root other))
      (and_from (not p.live) (is_before first_stamp p.stamp) (ap not dead) (made_later made))

  module _ (dead : is_dead d p ≡ true) where
    pub dead_other : d ≢ root
    dead_other same =
        let parts = and_parts (not (is_root d)) (not p.live && is_before first_stamp p.stamp) dead in
        false≢true (sym (not-true (is_root d) parts.0) ∙ ap (λ f. is_same_file f root) same ∙ is_same_file-refl root)

    pub dead_place : (p.live ≡ false) × (p.stamp ≢ first_stamp)
    dead_place =
        let parts = and_parts (not (is_root d)) (not p.live && is_before first_stamp p.stamp) dead in
        let both = and_parts (not p.live) (is_before first_stamp p.stamp) parts.1 in
        (not-true p.live both.0, λ (same : p.stamp ≡ first_stamp). false≢true (ap (is_before first_stamp) (sym same) ∙ both.1))
