use Rattle.std.proofs.Common.{[], None}
use Rattle.std.proofs.lemmas.Result.{err_from_is_err_and}
use Rattle.pg_edges.specs.Key.{key_cmp}
use Rattle.pg_edges.proofs.Orders.{key_total}
use Rattle.pg_packet_fields.specs.Lists.{many}
use Rattle.pg_packet_fields.proofs.Loop.{ends, goes_on, is_done}
use Rattle.pg_state_fields.specs.Edges.{tagged_at, to_key}
use Rattle.pg_state_fields.proofs.Lasts.{insert_last, up_more}
use Rattle.pg_state_fields.proofs.edges.read_each_key.Goals as goal

pub returns-in_err-tagged : goal.returns-in_err-tagged
returns-in_err-tagged c =
    let p = err_from_is_err_and c.from_residual.result c.from_residual.ensures.1 in
    rw (p.1, p.2) (ends c.in_err-tagged.field-0.0 tagged_at to_key c.args.count c.loop.counter c.loop.last c.loop.keys c.loop.reader (many tagged_at to_key c.args.count None [] c.args.reader.now) c.loop-test.true c.in_err-tagged.ensures.read c.loop.invariant.0)

pub loop-preserved : goal.loop-preserved
loop-preserved c =
    let behind = c.in_ok-tagged.ensures.behind in
    rw (c.in_ok-set.ensures.ok, insert_last key_cmp c.in_ok-tagged.tagged.0 c.in_ok-tagged.tagged.1 c.loop.keys (c.loop.invariant.1 c.in_ok-tagged.tagged.0 behind)) (
      goes_on tagged_at to_key c.args.count c.loop.counter c.loop.last c.loop.keys c.loop.reader c.in_ok-tagged.tagged c.read_tagged.new.reader (many tagged_at to_key c.args.count None [] c.args.reader.now) c.loop-test.true c.in_ok-tagged.ensures.read c.loop.invariant.0,
      up_more key_cmp key_total c.loop.last c.in_ok-tagged.tagged.0 c.in_ok-tagged.tagged.1 c.loop.keys c.loop.invariant.1 behind,
    )

pub returns : goal.returns
returns c = is_done tagged_at to_key c.args.count c.loop.counter c.loop.last c.loop.keys c.loop.reader (many tagged_at to_key c.args.count None [] c.args.reader.now) c.loop-test.false c.loop.invariant.0
