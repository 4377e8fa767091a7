use Rattle.std.proofs.Common.{◌≡◌, ◌++◌}
use Rattle.std.specs.List.{AllByRecursion, flat_map}
use Rattle.pg_state.specs.Fits.{FitsNote}
use Rattle.pg_state.specs.Spelling.{note_bytes}
use Rattle.pg_state.proofs.waiting.write_each_note.Given as goal

abbrev pub invariant-loop-key : goal.invariant-loop-key
invariant-loop-key l =
    (l.out ++ flat_map note_bytes l.key-iterator ≡ l.initial.out ++ flat_map note_bytes l.notes.entries)
    × AllByRecursion FitsNote l.key-iterator
