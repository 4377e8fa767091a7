use Rattle.pg_delta.proofs.Chains.{composition_applied, one_answer, one_composition}
use Rattle.pg_delta.proofs.Computed.{delta_computed}
use Rattle.pg_delta.proofs.Laid.{composed_is}
use Rattle.pg_delta.proofs.laws.a_chain_is_one_delta.Goals as goal

pub returns : goal.returns
returns c = record {
  applied = composition_applied;
  one = one_composition;
  answer = one_answer;
  computed = delta_computed;
  composed = composed_is;
}
