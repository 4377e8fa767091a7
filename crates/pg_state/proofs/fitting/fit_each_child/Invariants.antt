use Rattle.std.specs.List.{AllByRecursion}
use Rattle.pg_base.specs.declared.id.FileId.{FileId}
use Rattle.pg_entries.specs.declared.entry.Entry.{Entry}
use Rattle.pg_state.specs.Fits.{FitsChild}
use Rattle.pg_state.proofs.fitting.fit_each_child.Given as goal

abbrev pub invariant-loop-entry : goal.invariant-loop-entry
invariant-loop-entry l = record {
  there : AllByRecursion (λ (e : FileId × Entry). FitsChild e.1) l.entries.entries → AllByRecursion (λ (e : FileId × Entry). FitsChild e.1) l.entry-iterator;
  back : AllByRecursion (λ (e : FileId × Entry). FitsChild e.1) l.entry-iterator → AllByRecursion (λ (e : FileId × Entry). FitsChild e.1) l.entries.entries;
}
