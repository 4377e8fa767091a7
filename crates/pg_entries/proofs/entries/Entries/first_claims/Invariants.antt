use Rattle.std.proofs.Common.{◌≡◌, None, map, List, ℕ}
use Rattle.std.specs.Ordering.{nat_cmp}
use Rattle.std.specs.Cmp.Lexicographic.{slice_cmp}
use Rattle.std.specs.List.{fold}
use Rattle.std.specs.BTreeMap.{get_by}
use Rattle.pg_entries.specs.Shown.{take_claim}
use Rattle.pg_entries.proofs.entries.Entries.first_claims.Given as goal
use denote.Ref.{Bor}

abbrev pub invariant-loop-entry : goal.invariant-loop-entry
invariant-loop-entry l = (name : Bor (List ℕ)) → get_by (λ k. slice_cmp nat_cmp name.now k.now) l.firsts ≡ fold (take_claim l.dir name.now) None (map (λ r. r.now) l.yielded)
