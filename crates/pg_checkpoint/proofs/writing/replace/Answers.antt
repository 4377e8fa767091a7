use Rattle.std.proofs.Common.{rules}
use Rattle.pg_disk.proofs.Moments.{keeps_then}
use Rattle.pg_checkpoint.proofs.Replacing.{closing_refused, writing_refused, replaced}
use Rattle.pg_checkpoint.proofs.writing.replace.Goals as goal

pub returns-in_err-close-clause-replaced : goal.returns-in_err-close-clause-replaced
returns-in_err-close-clause-replaced g c = λ tells gate slot fits bytes.
    closing_refused slot fits _ c.args.file c.args.gate c.args.bytes.now bytes (g.D.Disk.told c.args.disk.now) gate
    _ _ (g.D.Disk.told c.close.new.disk) (search rules) (c.close.ensures.synced tells)

pub returns-in_err-write_synced-clause-replaced : goal.returns-in_err-write_synced-clause-replaced
returns-in_err-write_synced-clause-replaced g c = λ tells gate slot fits bytes.
    writing_refused slot fits _ c.args.file c.args.gate c.args.bytes.now bytes (g.D.Disk.told c.args.disk.now) gate
    _ (g.D.Disk.told c.close.new.disk) (c.in_ok-close.ensures.synced tells)
    _ _ (g.D.Disk.told c.write_synced.new.disk) (search rules) (c.write_synced.ensures.synced tells)

pub returns-clause-replaced : goal.returns-clause-replaced
returns-clause-replaced g c = λ tells gate slot fits bytes.
    replaced slot fits _ c.args.file c.args.gate c.args.bytes.now bytes (g.D.Disk.told c.args.disk.now) gate
    _ (g.D.Disk.told c.close.new.disk) (c.in_ok-close.ensures.synced tells)
    _ (g.D.Disk.told c.write_synced.new.disk) (c.in_ok-write_synced.ensures.synced tells)
    c.write_synced-2.result (g.D.Disk.told c.write_synced-2.new.disk) (c.write_synced-2.ensures.synced tells)

pub returns-in_err-write_synced-clause-keeps : goal.returns-in_err-write_synced-clause-keeps
returns-in_err-write_synced-clause-keeps g c = λ tells.
    keeps_then c.args.file (g.D.Disk.told c.args.disk.now) (g.D.Disk.told c.close.new.disk) (g.D.Disk.told c.write_synced.new.disk)
    (c.close.ensures.synced tells).keeps (c.write_synced.ensures.synced tells).keeps

pub returns-clause-keeps : goal.returns-clause-keeps
returns-clause-keeps g c = λ tells.
    let first = (c.close.ensures.synced tells).keeps in
    let second = (c.write_synced.ensures.synced tells).keeps in
    let third = (c.write_synced-2.ensures.synced tells).keeps in
    keeps_then c.args.file (g.D.Disk.told c.args.disk.now) (g.D.Disk.told c.write_synced.new.disk) (g.D.Disk.told c.write_synced-2.new.disk)
    (keeps_then c.args.file (g.D.Disk.told c.args.disk.now) (g.D.Disk.told c.close.new.disk) (g.D.Disk.told c.write_synced.new.disk) first second) third
