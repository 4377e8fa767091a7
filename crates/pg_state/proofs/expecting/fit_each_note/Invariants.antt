use Rattle.std.specs.List.{AllByRecursion}
use Rattle.pg_state.specs.Fits.{FitsNote}
use Rattle.pg_state.proofs.expecting.fit_each_note.Given as goal

abbrev pub invariant-loop-key : goal.invariant-loop-key
invariant-loop-key l = record {
  there : AllByRecursion FitsNote l.notes.entries → AllByRecursion FitsNote l.key-iterator;
  back : AllByRecursion FitsNote l.key-iterator → AllByRecursion FitsNote l.notes.entries;
}
