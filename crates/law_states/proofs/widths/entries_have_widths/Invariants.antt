use Rattle.std.specs.List.{AllByRecursion}
use Rattle.pg_base.specs.declared.id.FileId.{FileId}
use Rattle.pg_entries.specs.declared.entry.Entry.{Entry}
use Rattle.law_states.specs.Widths.{HasEntryWidth}
use Rattle.law_states.proofs.widths.entries_have_widths.Given as goal

abbrev pub invariant-loop-entry : goal.invariant-loop-entry
invariant-loop-entry l = AllByRecursion (λ (e : FileId × Entry). HasEntryWidth e.1) l.entry-iterator → AllByRecursion (λ (e : FileId × Entry). HasEntryWidth e.1) l.entries.entries
