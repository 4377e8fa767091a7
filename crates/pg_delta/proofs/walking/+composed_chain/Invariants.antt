use Rattle.std.proofs.Common.{length}
use Rattle.pg_delta.proofs.walking.+composed_chain.Given as goal

abbrev pub decreases-composed_chain : goal.decreases-composed_chain
decreases-composed_chain l = length l.deltas.now
