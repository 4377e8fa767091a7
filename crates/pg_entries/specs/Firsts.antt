-- The first claims on all names of a directory.
use Rattle.std.specs.Prelude.{ℕ, ◌≡◌, List}
use Rattle.std.specs.Ordering.{nat_cmp}
use Rattle.std.specs.Cmp.Lexicographic.{slice_cmp}
use Rattle.std.specs.BTreeMap.{BTreeMap, get_by}
use Rattle.pg_base.specs.declared.id.FileId.{FileId}
use Rattle.pg_entries.specs.declared.entry.Entry.{Entry}
use Rattle.pg_entries.specs.declared.claim.Claim.{Claim}
use Rattle.pg_entries.specs.Shown.{first_claim}
use denote.Ref.{Bor}

-- the map has the first claim on each name
abbrev pub Firsts : List (FileId × Entry) → FileId → BTreeMap (Bor (List ℕ)) Claim → Type 0
Firsts entries dir firsts = (name : Bor (List ℕ)) →
    get_by (λ k. slice_cmp nat_cmp name.now k.now) firsts ≡ first_claim entries dir name.now
