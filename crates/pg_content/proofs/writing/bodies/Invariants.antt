use Rattle.std.proofs.Common.{◌≡◌, ◌++◌, drop}
use Rattle.pg_content.specs.Content.{bodies_of}
use Rattle.pg_content.proofs.writing.bodies.Given as goal

abbrev pub invariant-loop-version : goal.invariant-loop-version
invariant-loop-version l = l.all ++ bodies_of (drop l.version-index l.versions) ≡ bodies_of l.versions
