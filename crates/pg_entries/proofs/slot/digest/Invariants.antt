use Rattle.std.proofs.Common.{◌≡◌, drop}
use Rattle.std.specs.List.{fold}
use Rattle.pg_entries.specs.Slots.{digest_of, digest_on}
use Rattle.pg_entries.proofs.slot.digest.Given as goal

abbrev pub invariant-loop-byte : goal.invariant-loop-byte
invariant-loop-byte l = fold digest_on l.digest (drop l.byte-index l.name) ≡ digest_of l.first l.name
