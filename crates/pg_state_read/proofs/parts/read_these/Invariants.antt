use Rattle.std.proofs.Common.{◌≡◌, drop}
use Rattle.pg_state_read.specs.Whole.{these_at}
use Rattle.pg_state_read.proofs.parts.read_these.Given as goal

abbrev pub invariant-loop-byte : goal.invariant-loop-byte
invariant-loop-byte l = these_at (drop l.byte-index l.bytes) l.reader ≡ these_at l.bytes l.fn.reader
