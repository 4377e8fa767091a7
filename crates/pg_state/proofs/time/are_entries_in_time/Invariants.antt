use Rattle.std.proofs.Common.{◌≤◌}
use Rattle.std.specs.List.{AllByRecursion}
use Rattle.pg_base.specs.declared.id.FileId.{FileId}
use Rattle.pg_entries.specs.declared.entry.Entry.{Entry}
use Rattle.pg_state.proofs.time.are_entries_in_time.Given as goal

abbrev pub invariant-loop-entry : goal.invariant-loop-entry
invariant-loop-entry l = record {
  there : AllByRecursion (λ (e : FileId × Entry). e.1.place.stamp.time ≤ l.last) l.entries.entries → AllByRecursion (λ (e : FileId × Entry). e.1.place.stamp.time ≤ l.last) l.entry-iterator;
  back : AllByRecursion (λ (e : FileId × Entry). e.1.place.stamp.time ≤ l.last) l.entry-iterator → AllByRecursion (λ (e : FileId × Entry). e.1.place.stamp.time ≤ l.last) l.entries.entries;
}
