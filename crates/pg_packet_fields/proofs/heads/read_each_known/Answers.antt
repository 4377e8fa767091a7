use Rattle.std.proofs.Common.{[]}
use Rattle.std.proofs.lemmas.Result.{err_from_is_err_and}
use Rattle.pg_packet_fields.specs.Heads.{known_at, nobody, to_actor}
use Rattle.pg_packet_fields.specs.Lists.{many}
use Rattle.pg_packet_fields.proofs.Actors.{raised_last, up_more}
use Rattle.pg_packet_fields.proofs.Loop.{ends, goes_on, is_done}
use Rattle.pg_packet_fields.proofs.heads.read_each_known.Goals as goal

pub returns-in_err-known : goal.returns-in_err-known
returns-in_err-known c =
    let p = err_from_is_err_and c.from_residual.result c.from_residual.ensures.1 in
    rw (p.1, p.2) (ends c.in_err-known.field-0.0 known_at to_actor c.args.count c.loop.counter c.loop.last c.loop.vector c.loop.reader (many known_at to_actor c.args.count nobody [] c.args.reader.now) c.loop-test.true c.in_err-known.ensures.read c.loop.invariant.0)

pub loop-preserved : goal.loop-preserved
loop-preserved c =
    let from = c.in_ok-known.ensures.server in
    let behind = c.in_ok-known.ensures.behind in
    rw (c.in_ok-raise.ensures.ok, raised_last c.loop.last c.in_ok-known.known c.loop.vector c.loop.invariant.1 from behind c.in_ok-known.ensures.least) (
      goes_on known_at to_actor c.args.count c.loop.counter c.loop.last c.loop.vector c.loop.reader c.in_ok-known.known c.read_known.new.reader (many known_at to_actor c.args.count nobody [] c.args.reader.now) c.loop-test.true c.in_ok-known.ensures.read c.loop.invariant.0,
      up_more c.loop.last c.in_ok-known.known c.loop.vector c.loop.invariant.1 from behind,
    )

pub returns : goal.returns
returns c = is_done known_at to_actor c.args.count c.loop.counter c.loop.last c.loop.vector c.loop.reader (many known_at to_actor c.args.count nobody [] c.args.reader.now) c.loop-test.false c.loop.invariant.0
