use Rattle.std.proofs.Common.{◌≡◌, ◌≤◌, ◌++◌, take, drop}
use Rattle.pg_svg.specs.Svg.{servers_text}
use Rattle.pg_svg.proofs.svg.write_servers.Given as goal

abbrev pub invariant-loop-before : goal.invariant-loop-before
invariant-loop-before l = l.out ≡ l.fn.out ++ servers_text l.scale l.before
