use Rattle.std.proofs.Common.{◌≡◌, drop}
use Rattle.pg_intentions.specs.Fills.{files_to_fill}
use Rattle.pg_intentions.proofs.DirtyFills.{with_all}
use Rattle.pg_intentions.proofs.fills.to_fill.Given as goal

abbrev pub invariant-loop-file : goal.invariant-loop-file
invariant-loop-file l = with_all l.names l.files.entries (drop l.file-index l.file-items) ≡ files_to_fill l.names
