use Rattle.pg_io.proofs.Known.{taken_prefix}
use Rattle.pg_io.proofs.source.read_all.Goals as goal

pub returns-in_err-extend_from_slice-clause-taken : goal.returns-in_err-extend_from_slice-clause-taken
returns-in_err-extend_from_slice-clause-taken g c =
    taken_prefix _ (g.S.Source.remaining c.args.source.now) (g.S.Source.remaining c.loop-piece.source) (g.S.Source.remaining c.read.new.self) _ _ c.loop-piece.invariant.taken c.in_ok-count.ensures.bytes.0
