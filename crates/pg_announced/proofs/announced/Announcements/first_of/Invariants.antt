use Rattle.std.proofs.Common.{◌≡◌}
use Rattle.pg_announced.specs.Announced.{first_of}
use Rattle.pg_announced.proofs.announced.Announcements.first_of.Given as goal

abbrev pub invariant-loop-key : goal.invariant-loop-key
invariant-loop-key l = first_of l.self l.file ≡ first_of l.key-iterator l.file
