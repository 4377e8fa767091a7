-- Chains: kept deltas that lead from heads to a version, and what is to be sent of them.
use Rattle.std.specs.Prelude.{ℕ, Bool, ◌≡◌, ◌≢◌, ◌⊎◌, ◌&&◌, if◌then◌else◌, nat_le, nat_lt, false, true, List, [], ◌∷◌, length, reverse, Option, None, Some, option_and_then, option_map}
use Rattle.std.specs.Cmp.Lexicographic.{pointwise}
use Rattle.pg_base.specs.declared.stamp.Stamp.{Stamp}
use Rattle.pg_patch.specs.Ranges.{RangesValue, IsComposed, IsRanges, applied}
use Rattle.pg_content.specs.History.{is_same_stamp}
use Rattle.pg_delta.specs.declared.delta.KeptDelta.{KeptDelta}
use Rattle.pg_delta.specs.Kept.{bytes_of, most_bytes}

-- the stamp of a list of one
abbrev pub only : List Stamp → Option Stamp
only [] = None
only (s ∷ []) = Some s
only (s ∷ t ∷ more) = None

abbrev pub are_same_stamps : List Stamp → List Stamp → Bool
are_same_stamps = pointwise is_same_stamp

-- of deltas, the latest first, those that lead from the heads of these stamps to the version of
-- that stamp, the latest first again. The latest delta to that version is the last step. Where it
-- starts from exactly these heads, it is the only one. Where it starts from one other version, the
-- steps before it lead to that version, among the deltas that were kept before. Else none lead
-- there
abbrev pub chain : List KeptDelta → List Stamp → Stamp → Option (List KeptDelta)
chain [] from to = None
chain (d ∷ earlier) from to =
    if is_same_stamp d.to to
    then (if are_same_stamps d.from from
    then Some (d ∷ [])
    else option_map (λ ds. d ∷ ds) (option_and_then (λ s. chain earlier from s) (only d.from)))
    else chain earlier from to

-- the steps from these heads to that version, of kept deltas, the oldest first
abbrev pub chain_of : List KeptDelta → List Stamp → Stamp → Option (List KeptDelta)
chain_of kept from to = chain (reverse kept) from to

-- c is a and then b
pub record IsStep (a b c : RangesValue) : Type 0 where
  pub first : IsRanges a
  pub second : IsRanges b
  pub composed : IsComposed a b c

-- c is the ranges of all steps in one. The steps are the latest first
abbrev pub IsComposition : List KeptDelta → RangesValue → Type 0
IsComposition [] c = ⊥
IsComposition (d ∷ []) c = c ≡ d.ranges
IsComposition (d ∷ e ∷ more) c =
    (r : RangesValue) × IsComposition (e ∷ more) r × IsStep r d.ranges c

-- the ranges of the steps in one where there are steps, and nothing where there are none
abbrev pub IsWalked : Option (List KeptDelta) → Option RangesValue → Type 0
IsWalked None None = Unit {0}
IsWalked None (Some c) = ⊥
IsWalked (Some steps) None = ⊥
IsWalked (Some steps) (Some c) = IsComposition steps c

-- what the steps make of a body, one after another
abbrev pub applied_all : List KeptDelta → List ℕ → List ℕ
applied_all [] body = body
applied_all (d ∷ earlier) body = applied (applied_all earlier body) d.ranges

-- the most parts of ranges that are sent
abbrev pub most_parts : ℕ
most_parts = 200

-- few enough bytes and parts to be sent, and fewer bytes than a body of that length
abbrev pub is_worth_sending : RangesValue → ℕ → Bool
is_worth_sending c len =
    nat_le (bytes_of c) most_bytes && nat_le (length c.parts) most_parts && nat_lt (bytes_of c) len

-- some kept deltas lead from these heads, of which there is one at least, to that version, and c is
-- their ranges in one
pub record LeadsBy (kept : List KeptDelta) (from : List Stamp) (to : Stamp) (c : RangesValue)
    : Type 0 where
  pub some : from ≢ []
  pub steps : List KeptDelta
  pub chain : chain_of kept from to ≡ Some steps
  pub whole : IsComposition steps c
  pub ranges : IsRanges c

-- what is sent to a server with these heads in place of the version of that stamp, whose body has
-- so many bytes: the ranges of the chain that leads there. It is nothing where the server has no
-- head, or no chain leads there, or the ranges are not worth it
abbrev pub IsDelta : List KeptDelta → List Stamp → Stamp → ℕ → Option RangesValue → Type 0
IsDelta kept from to len (Some c) = LeadsBy kept from to c × (is_worth_sending c len ≡ true)
IsDelta kept from to len None =
    (from ≡ [])
    ⊎ ((chain_of kept from to ≡ None)
    ⊎ ((c : RangesValue) × LeadsBy kept from to c × (is_worth_sending c len ≡ false)))
