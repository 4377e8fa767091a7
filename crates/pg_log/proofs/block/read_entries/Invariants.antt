use Rattle.std.proofs.Common.{◌≡◌, ◌++◌, length}
use Rattle.pg_log.specs.Bytes.{front, AllFit}
use Rattle.pg_log.proofs.block.read_entries.Given as goal

abbrev pub invariant-loop-entry : goal.invariant-loop-entry
invariant-loop-entry l = record {
  fit : AllFit l.entries;
  read : l.file ≡ front l.entries ++ l.rest;
}

abbrev pub decreases-loop-entry : goal.decreases-loop-entry
decreases-loop-entry l = length l.rest
