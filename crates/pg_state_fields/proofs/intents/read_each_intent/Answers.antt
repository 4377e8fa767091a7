use Rattle.std.proofs.Common.{[]}
use Rattle.std.proofs.lemmas.Result.{err_from_is_err_and}
use Rattle.pg_packet_fields.specs.Lists.{many}
use Rattle.pg_packet_fields.proofs.Loop.{ends, goes_on, is_done}
use Rattle.pg_state_fields.specs.Intents.{intent_at, with_intent}
use Rattle.pg_state_fields.proofs.Fresh.{begun_last}
use Rattle.pg_state_fields.proofs.intents.read_each_intent.Goals as goal

pub returns-in_err-intent : goal.returns-in_err-intent
returns-in_err-intent c =
    let p = err_from_is_err_and c.from_residual.result c.from_residual.ensures.1 in
    rw (p.1, p.2) (ends c.in_err-intent.field-0.0 intent_at with_intent c.args.count c.loop.counter c.loop.intents c.loop.intents c.loop.reader (many intent_at with_intent c.args.count [] [] c.args.reader.now) c.loop-test.true c.in_err-intent.ensures.read c.loop.invariant)

pub loop-preserved : goal.loop-preserved
loop-preserved c =
    rw (c.in_ok-begin.ensures.begun, begun_last c.loop.intents c.in_ok-intent.intent c.in_ok-intent.ensures.fresh)
    (goes_on intent_at with_intent c.args.count c.loop.counter c.loop.intents c.loop.intents c.loop.reader c.in_ok-intent.intent c.read_intent.new.reader (many intent_at with_intent c.args.count [] [] c.args.reader.now) c.loop-test.true c.in_ok-intent.ensures.read c.loop.invariant)

pub returns : goal.returns
returns c = is_done intent_at with_intent c.args.count c.loop.counter c.loop.intents c.loop.intents c.loop.reader (many intent_at with_intent c.args.count [] [] c.args.reader.now) c.loop-test.false c.loop.invariant
