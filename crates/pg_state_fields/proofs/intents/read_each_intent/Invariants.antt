use Rattle.std.proofs.Common.{◌≡◌, ◌-◌, []}
use Rattle.pg_packet_fields.specs.Lists.{many}
use Rattle.pg_state_fields.specs.Intents.{intent_at, with_intent}
use Rattle.pg_state_fields.proofs.intents.read_each_intent.Given as goal

abbrev pub invariant-loop : goal.invariant-loop
invariant-loop l = many intent_at with_intent (l.count - l.counter) l.intents l.intents l.reader ≡ many intent_at with_intent l.count [] [] l.fn.reader
