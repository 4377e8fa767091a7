-- Stamps that are few and rise, and changes of bodies that are worth sending, have a spelling.
use Rattle.std.proofs.Common.{ℕ, ◌≡◌, ◌<◌, ◌≤◌, ◌==◌, ◌&&◌, true, cond, nat_le, nat_lt, List, [], ◌∷◌, length, option_and_then, Option, None, Some, inl, inr, arith}
use Rattle.std.proofs.lemmas.Bool.{and_parts}
use Rattle.std.proofs.lemmas.Bool.Decides.{nat_tests}
use Rattle.std.proofs.lemmas.List.Sums.{sum_by-cons}
use Rattle.pg_base.specs.declared.stamp.Stamp.{Stamp}
use Rattle.pg_base.specs.Stamp.{IsBefore, is_before}
use Rattle.pg_patch.specs.declared.part.Part.{Part}
use Rattle.pg_patch.specs.Parts.{bytes_of_parts}
use Rattle.pg_patch.specs.Ranges.{RangesValue}
use Rattle.pg_delta.specs.declared.delta.KeptDelta.{KeptDelta}
use Rattle.pg_delta.specs.Chain.{chain_of, is_worth_sending, most_parts}
use Rattle.pg_delta.specs.Kept.{bytes_of, most_bytes}
use Rattle.pg_delta.specs.Whole.{delta_of, in_one, is_no_head}
use Rattle.pg_server.proofs.pg_pieces.pg_house.Truths.{chosen, or_cases}
use Rattle.theory_flood_pieces.proofs.Choices.{decided}
use Rattle.pg_server.specs.pg_transfer.Asking.{few, rise, rise_behind}
use Rattle.pg_packet_write.specs.Fits.{FitStamps, FitsRanges, Rise, RiseBehind, laid}

-- ---- stamps

less : (m n : ℕ) → nat_lt m n ≡ true → m < n
less m n h = grind (arith, nat_tests)

same : (m n : ℕ) → (m == n) ≡ true → m ≡ n
same m n h = grind (arith, nat_tests)

pub at_most : (m n : ℕ) → nat_le m n ≡ true → m ≤ n
at_most m n h = grind (arith, nat_tests)

before : (a b : Stamp) → is_before a b ≡ true → IsBefore a b
before a b h =
    elim (or_cases (nat_lt a.time b.time) (a.time == b.time && nat_lt a.server b.server) h) [
      | inl t ↦ inl (less a.time b.time t)
      | inr t ↦ let p = and_parts (a.time == b.time) (nat_lt a.server b.server) t in inr (same a.time b.time p.0, less a.server b.server p.1)
    ]

rise_on : (stamp : Stamp) (stamps : List Stamp) → rise_behind stamp stamps ≡ true → RiseBehind stamp stamps
rise_on stamp [] h = tt
rise_on stamp (next ∷ stamps) h =
    let p = and_parts (is_before stamp next) (rise_behind next stamps) h in (before stamp next p.0, rise_on next stamps p.1)

rise_all : (stamps : List Stamp) → rise stamps ≡ true → Rise stamps
rise_all [] h = tt
rise_all (stamp ∷ stamps) h = rise_on stamp stamps h

pub no_stamps : FitStamps []
no_stamps = record { few = omega arith; rise = tt }

pub few_fit : (stamps : List Stamp) → FitStamps (few stamps)
few_fit stamps =
    decided FitStamps (nat_le (length stamps) 256 && rise stamps) stamps []
    (λ is.
    let p = and_parts (nat_le (length stamps) 256) (rise stamps) is in
    record { few = at_most (length stamps) 256 p.0; rise = rise_all stamps p.1 })
    (λ no. no_stamps)

-- ---- changes of bodies

laid_is : (ps : List Part) → laid ps ≤ bytes_of_parts ps
laid_is [] = omega arith
laid_is (p ∷ ps) = omega (arith, sum_by-cons (λ (q : Part). length q.bytes) p ps, laid_is ps)

ranges_fit : (r : RangesValue) (len : ℕ) → is_worth_sending r len ≡ true → FitsRanges r
ranges_fit r len is =
    let some = nat_le (bytes_of r) most_bytes && nat_le (length r.parts) most_parts in
    let p = and_parts some (nat_lt (bytes_of r) len) is in
    let q = and_parts (nat_le (bytes_of r) most_bytes) (nat_le (length r.parts) most_parts) p.0 in
    let bytes : bytes_of_parts r.parts ≤ 30000 = at_most (bytes_of r) most_bytes q.0 in
    let all = laid_is r.parts in
    record { few = at_most (length r.parts) most_parts q.1; short = omega (arith, bytes, all) }

-- there are none, or they fit
abbrev pub MayBeRanges : Option RangesValue → Type 0
MayBeRanges None = Unit {0}
MayBeRanges (Some r) = FitsRanges r

worth_by : (len : ℕ) (o : Option RangesValue) → MayBeRanges (option_and_then (λ c. cond (is_worth_sending c len) (Some c) None) o)
worth_by len None = tt
worth_by len (Some c) = decided MayBeRanges (is_worth_sending c len) (Some c) None (λ is. ranges_fit c len is) (λ no. tt)

pub delta_fits : (kept : List KeptDelta) (from : List Stamp) (to : Stamp) (len : ℕ) → MayBeRanges (delta_of kept from to len)
delta_fits kept from to len =
    let all : Option RangesValue = option_and_then in_one (chain_of kept from to) in
    chosen MayBeRanges (is_no_head from) None (option_and_then (λ c. cond (is_worth_sending c len) (Some c) None) all) tt (worth_by len all)
