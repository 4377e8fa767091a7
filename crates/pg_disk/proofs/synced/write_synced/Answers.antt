use Rattle.std.proofs.Common.{rules}
use Rattle.pg_disk.specs.Disk.{Write}
use Rattle.pg_disk.proofs.Tries.{change_refused, then_synced}
use Rattle.pg_disk.proofs.synced.write_synced.Goals as goal

pub returns-in_err-write_at-clause-synced : goal.returns-in_err-write_at-clause-synced
returns-in_err-write_at-clause-synced g c =
    λ tells. change_refused c.args.file (Write c.args.at c.args.bytes.now) (g.D.Disk.told c.args.disk.now) _ c.from_residual.result _ (g.D.Disk.told c.write_at.new.self) (search rules) (c.in_err-write_at.ensures.written tells)

pub returns-clause-synced : goal.returns-clause-synced
returns-clause-synced g c =
    λ tells. then_synced c.args.file (Write c.args.at c.args.bytes.now) (g.D.Disk.told c.args.disk.now) _ c.sync.result (g.D.Disk.told c.write_at.new.self) (g.D.Disk.told c.sync.new.self)
    (c.in_ok-write_at.ensures.written tells) (c.sync.ensures.synced tells)
