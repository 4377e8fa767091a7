use Rattle.std.proofs.Common.{rules}
use Rattle.pg_pieces.proofs.Flagged.{one_flag}
use Rattle.pg_pieces.proofs.taking.take_flags.Goals as goal

pub loop-flag-preserved : goal.loop-flag-preserved
loop-flag-preserved c =
    one_flag c.loop-flag.store _ c.loop-flag.work _ c.args.file c.as_slice-flag-items.result.now c.loop-flag.flag-index _ _ (search rules)
    c.in_ok-take_flag.ensures.store c.in_ok-take_flag.ensures.work c.loop-flag.invariant
