use Rattle.std.proofs.Common.{rules, List, subst, sym}
use Rattle.std.specs.List.Sorted.{IsPermutation, IsSortedBy}
use Rattle.std.specs.Ordering.{is_lt}
use Rattle.pg_path.specs.declared.row.Row.{Row}
use Rattle.pg_entries.specs.Shown.{row_cmp, rows_of}
use Rattle.pg_entries.proofs.Claims.{rows_sorted}
use Rattle.pg_entries.proofs.InOrder.{sorted_is}
use Rattle.pg_entries.proofs.entries.Entries.listing.Goals as goal

pub returns-clause-in_order : goal.returns-clause-in_order
returns-clause-in_order c =
    let P : List Row → Type 0 = IsSortedBy (λ a b. is_lt (row_cmp a b)) in
    subst P (sym c.from_vec.ensures) (rows_sorted _ c.in_ok-sort_by.ensures.sorted (λ k a r q called. search rules))

pub returns-clause-listing : goal.returns-clause-listing
returns-clause-listing c =
    let rows = rows_of c.args.self.now c.args.dir in
    let P : List Row → Type 0 = (λ xs. IsPermutation xs c.sort_by.new.self.items) in
    let Q : List Row → Type 0 = (λ ys. IsPermutation (rows_of c.args.self.now c.args.dir) ys) in
    let same = subst P c.in_ok-rows.ensures c.in_ok-sort_by.ensures.permutation in
    sorted_is rows c.from_vec.result (subst Q (sym c.from_vec.ensures) same) (returns-clause-in_order c)
