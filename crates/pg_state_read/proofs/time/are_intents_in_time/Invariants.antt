use Rattle.std.proofs.Common.{◌≡◌}
use Rattle.std.specs.List.{list_all}
use Rattle.pg_state_read.specs.Whole.{is_intent_in_time}
use Rattle.pg_state_read.proofs.time.are_intents_in_time.Given as goal

abbrev pub invariant-loop-intent : goal.invariant-loop-intent
invariant-loop-intent l = list_all (is_intent_in_time l.last) l.intents ≡ list_all (is_intent_in_time l.last) l.intent-iterator
