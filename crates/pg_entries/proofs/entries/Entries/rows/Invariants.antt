use Rattle.std.proofs.Common.{◌≡◌, map}
use Rattle.std.specs.List.{filter}
use Rattle.pg_entries.specs.Entry.{is_listed}
use Rattle.pg_entries.specs.Shown.{row_of}
use Rattle.pg_entries.proofs.entries.Entries.rows.Given as goal

abbrev pub invariant-loop-entry : goal.invariant-loop-entry
invariant-loop-entry l = l.rows.items ≡ map (row_of l.self l.dir) (filter (is_listed l.dir) (map (λ r. r.now) l.yielded))
