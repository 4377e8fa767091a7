use Rattle.std.proofs.Common.{rules}
use Rattle.pg_disk.specs.Disk.{Cut}
use Rattle.pg_disk.proofs.Tries.{change_refused, then_synced}
use Rattle.pg_disk.proofs.synced.cut_synced.Goals as goal

pub returns-in_err-cut-clause-synced : goal.returns-in_err-cut-clause-synced
returns-in_err-cut-clause-synced g c =
    λ tells. change_refused c.args.file (Cut c.args.longest) (g.D.Disk.told c.args.disk.now) _ c.from_residual.result _ (g.D.Disk.told c.cut.new.self) (search rules) (c.in_err-cut.ensures.cut tells)

pub returns-clause-synced : goal.returns-clause-synced
returns-clause-synced g c =
    λ tells. then_synced c.args.file (Cut c.args.longest) (g.D.Disk.told c.args.disk.now) _ c.sync.result (g.D.Disk.told c.cut.new.self) (g.D.Disk.told c.sync.new.self)
    (c.in_ok-cut.ensures.cut tells) (c.sync.ensures.synced tells)
