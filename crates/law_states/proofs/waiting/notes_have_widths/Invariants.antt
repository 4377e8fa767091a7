use Rattle.std.specs.List.{AllByRecursion}
use Rattle.law_states.specs.Widths.{HasNoteWidth}
use Rattle.law_states.proofs.waiting.notes_have_widths.Given as goal

abbrev pub invariant-loop-key : goal.invariant-loop-key
invariant-loop-key l = AllByRecursion HasNoteWidth l.key-iterator → AllByRecursion HasNoteWidth l.notes.entries
