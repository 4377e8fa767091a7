use Rattle.std.proofs.Common.{sym, ap, ◌∙◌}
use Rattle.pg_delta.specs.Kept.{is_within}
use Rattle.pg_delta.proofs.Ends.{end_within}
use Rattle.pg_delta.proofs.kept.drop_oldest.Goals as goal

pub returns : goal.returns
returns c =
    let within = sym (ap is_within c.deref.ensures.value) ∙ sym c.is_within.ensures ∙ c.loop-deltas-test.false in
    sym (end_within c.loop-deltas.deltas.items within) ∙ c.loop-deltas.invariant
