use Rattle.std.proofs.Common.{◌≡◌, ◌-◌}
use Rattle.pg_names.specs.Tests.{comes}
use Rattle.pg_names.proofs.calm.comes.Given as goal

abbrev pub invariant-loop-i : goal.invariant-loop-i
invariant-loop-i l = comes l.held (l.count - l.i) l.at ≡ comes l.held l.count l.dir
