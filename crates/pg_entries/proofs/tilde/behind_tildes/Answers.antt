use Rattle.pg_entries.proofs.Tails.{tail_is, tail_on}
use Rattle.pg_entries.proofs.tilde.behind_tildes.Goals as goal

pub loop-behind-preserved : goal.loop-behind-preserved
loop-behind-preserved c = tail_on c.args.text.now c.loop-behind.rest.now c.in-Some.field-0-0.now c.in-Some.behind.now c.loop-behind.invariant c.in-Some.ensures.whole c.in-Some.ensures.first

pub returns : goal.returns
returns c = tail_is c.args.text.now c.loop-behind.rest.now c.loop-behind.invariant c.in_default.ensures.none
