use Rattle.std.proofs.Common.{◌≡◌, ◌++◌}
use Rattle.std.specs.List.{AllByRecursion, flat_map}
use Rattle.pg_base.specs.declared.id.FileId.{FileId}
use Rattle.pg_entries.specs.declared.entry.Entry.{Entry}
use Rattle.pg_state.specs.Fits.{FitsChild}
use Rattle.pg_state.specs.Spelling.{child_bytes}
use Rattle.pg_state.proofs.contents.write_each_child.Given as goal

abbrev pub invariant-loop-entry : goal.invariant-loop-entry
invariant-loop-entry l =
    (l.out ++ flat_map child_bytes l.entry-iterator ≡ l.initial.out ++ flat_map child_bytes l.entries.entries)
    × AllByRecursion (λ (e : FileId × Entry). FitsChild e.1) l.entry-iterator
