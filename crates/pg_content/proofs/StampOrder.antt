-- Versions in the order of their stamps.
use Rattle.std.proofs.Common.{◌≡◌, ℕ, suc, ◌<◌, ◌≤◌, Bool, true, false, cond, not, zero, List, [], ◌∷◌, length, get_or, refl, sym, ap, ◌∙◌, arith}
use Rattle.std.specs.List.{All, filter, insert, position_or_len}
use Rattle.std.specs.List.Sorted.{IsPartitionedBy}
use Rattle.std.proofs.lemmas.Bool.Decides.{nat_tests}
use Rattle.std.proofs.lemmas.List.Elements.{All-head, All-tail, All-cons, All-nil, All-weaker}
use Rattle.pg_base.specs.declared.stamp.Stamp.{Stamp}
use Rattle.pg_base.specs.Stamp.{UpTo, is_before}
use Rattle.pg_base.proofs.Orders.{UpTo-refl, UpTo-trans, is_before-true, is_before-false}
use Rattle.pg_base.specs.Version.{VersionValue, stamp_of}
use Rattle.pg_content.specs.Shown.{inserted}
use Rattle.pg_content.specs.Content.{InStampOrder, covers_version, put_version}
use Rattle.pg_content.proofs.Inserting.{stops, insert_at_stop}

abbrev pub After : VersionValue → List VersionValue → Type 0
After v vs = All (λ w. UpTo v.head.stamp w.head.stamp) vs

After-more : (u v : VersionValue) (vs : List VersionValue) → UpTo u.head.stamp v.head.stamp → After v vs → After u vs
After-more u v vs le h = All-weaker (λ (w : VersionValue). UpTo v.head.stamp w.head.stamp) (λ (w : VersionValue). UpTo u.head.stamp w.head.stamp) (λ w k. UpTo-trans u.head.stamp v.head.stamp w.head.stamp le k) vs h

module _ (u v : VersionValue) where
  after_by : (w : VersionValue) (ws : List VersionValue) (b : Bool) → UpTo u.head.stamp v.head.stamp → After u (w ∷ ws) → After u (inserted stamp_of v ws) → After u (cond b (w ∷ inserted stamp_of v ws) (v ∷ w ∷ ws))
  after_by w ws true le h k = All-cons (λ (x : VersionValue). UpTo u.head.stamp x.head.stamp) w (inserted stamp_of v ws) (All-head (λ (x : VersionValue). UpTo u.head.stamp x.head.stamp) w ws h) k
  after_by w ws false le h k = All-cons (λ (x : VersionValue). UpTo u.head.stamp x.head.stamp) v (w ∷ ws) le h

  After-inserted : (ws : List VersionValue) → UpTo u.head.stamp v.head.stamp → After u ws → After u (inserted stamp_of v ws)
  After-inserted [] le h = All-cons (λ (x : VersionValue). UpTo u.head.stamp x.head.stamp) v [] le (All-nil (λ (x : VersionValue). UpTo u.head.stamp x.head.stamp))
  After-inserted (w ∷ ws) le h = after_by w ws (is_before w.head.stamp v.head.stamp) le h (After-inserted ws le (All-tail (λ (x : VersionValue). UpTo u.head.stamp x.head.stamp) w ws h))

module _ (v : VersionValue) where
  order_by : (w : VersionValue) (ws : List VersionValue) (b : Bool) → is_before w.head.stamp v.head.stamp ≡ b → InStampOrder (w ∷ ws) → InStampOrder (inserted stamp_of v ws) → InStampOrder (cond b (w ∷ inserted stamp_of v ws) (v ∷ w ∷ ws))
  order_by w ws true e h k = (After-inserted w v ws (is_before-true w.head.stamp v.head.stamp e) h.0, k)
  order_by w ws false e h k =
      let le = is_before-false w.head.stamp v.head.stamp e in
      (All-cons (λ (x : VersionValue). UpTo v.head.stamp x.head.stamp) w ws le (After-more v w ws le h.0), h)

  pub InStampOrder-inserted : (ws : List VersionValue) → InStampOrder ws → InStampOrder (inserted stamp_of v ws)
  InStampOrder-inserted [] h = (All-nil (λ (x : VersionValue). UpTo v.head.stamp x.head.stamp), tt)
  InStampOrder-inserted (w ∷ ws) h = order_by w ws (is_before w.head.stamp v.head.stamp) refl h (InStampOrder-inserted ws h.1)

module _ (keeps : VersionValue → Bool) where
  after_kept : (u w : VersionValue) (ws : List VersionValue) (b : Bool) → After u (w ∷ ws) → After u (filter keeps ws) → After u (cond b (w ∷ filter keeps ws) (filter keeps ws))
  after_kept u w ws true h k = All-cons (λ (x : VersionValue). UpTo u.head.stamp x.head.stamp) w (filter keeps ws) (All-head (λ (x : VersionValue). UpTo u.head.stamp x.head.stamp) w ws h) k
  after_kept u w ws false h k = k

  After-filter : (u : VersionValue) (ws : List VersionValue) → After u ws → After u (filter keeps ws)
  After-filter u [] h = h
  After-filter u (w ∷ ws) h = after_kept u w ws (keeps w) h (After-filter u ws (All-tail (λ (x : VersionValue). UpTo u.head.stamp x.head.stamp) w ws h))

  order_kept : (w : VersionValue) (ws : List VersionValue) (b : Bool) → InStampOrder (w ∷ ws) → InStampOrder (filter keeps ws) → InStampOrder (cond b (w ∷ filter keeps ws) (filter keeps ws))
  order_kept w ws true h k = (After-filter w ws h.0, k)
  order_kept w ws false h k = k

  pub InStampOrder-filter : (ws : List VersionValue) → InStampOrder ws → InStampOrder (filter keeps ws)
  InStampOrder-filter [] h = tt
  InStampOrder-filter (w ∷ ws) h = order_kept w ws (keeps w) h (InStampOrder-filter ws h.1)

-- no stamp comes after a later one, by their indexes
pub stamps_rise : (vs : List VersionValue) → InStampOrder vs → (i j : ℕ) (d : VersionValue) → i ≤ j → j < length vs → UpTo (get_or vs i d).head.stamp (get_or vs j d).head.stamp
stamps_rise [] order i j d up lt = absurd (omega arith)
stamps_rise (v ∷ vs) order zero zero d up lt = UpTo-refl v.head.stamp
stamps_rise (v ∷ vs) order zero (suc j) d up lt = order.0 j d (omega arith)
stamps_rise (v ∷ vs) order (suc i) zero d up lt = absurd (omega arith)
stamps_rise (v ∷ vs) order (suc i) (suc j) d up lt = stamps_rise vs order.1 i j d (omega arith) (omega arith)

before_upto : (a b s : Stamp) → UpTo a b → is_before b s ≡ true → is_before a s ≡ true
before_upto a b s le h = let p = le.time in let q = le.server in grind (arith, nat_tests)

-- so a search by halves finds where the stamps come to be no longer before one
pub parted : (vs : List VersionValue) (s : Stamp) → InStampOrder vs → IsPartitionedBy (λ v. is_before v.head.stamp s) vs
parted vs s order i j d up lt h = before_upto (get_or vs i d).head.stamp (get_or vs j d).head.stamp s (stamps_rise vs order i j d up lt) h

-- ---- what a join puts

pub insert_made : (v : VersionValue) (old lent new : List VersionValue) (s : Stamp) (i : ℕ) → new ≡ insert old i v → i ≡ position_or_len (stops stamp_of s) lent → lent ≡ old → s ≡ v.head.stamp → new ≡ inserted stamp_of v old
insert_made v old lent new s i made at lends same = made ∙ insert_at_stop stamp_of s v old i (sym same) (at ∙ ap (position_or_len (stops stamp_of s)) lends)

pub InStampOrder-put : (v : VersionValue) (vs : List VersionValue) → InStampOrder vs → InStampOrder (put_version vs v)
InStampOrder-put v vs order = InStampOrder-inserted v (filter (λ h. not (covers_version v.head.vector h)) vs) (InStampOrder-filter (λ h. not (covers_version v.head.vector h)) vs order)
