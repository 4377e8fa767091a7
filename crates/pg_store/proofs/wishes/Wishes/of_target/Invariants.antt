use Rattle.std.proofs.Common.{◌≡◌, ◌++◌}
use Rattle.pg_store.specs.Wishes.{wished_of}
use Rattle.pg_store.proofs.wishes.Wishes.of_target.Given as goal

abbrev pub invariant-loop-file : goal.invariant-loop-file
invariant-loop-file l = l.files ++ wished_of l.server l.file-iterator ≡ wished_of l.server l.self
