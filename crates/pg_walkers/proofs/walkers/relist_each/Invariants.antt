use Rattle.std.proofs.Common.{drop}
use Rattle.pg_walkers.specs.Walkers.{AreListed}
use Rattle.pg_walkers.proofs.walkers.relist_each.Given as goal

abbrev pub invariant-loop-file : goal.invariant-loop-file
invariant-loop-file l = AreListed l.names l.replicas l.walkers (drop l.file-index l.files)
