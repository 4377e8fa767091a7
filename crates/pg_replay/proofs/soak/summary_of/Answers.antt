use Rattle.pg_replay.proofs.Soaked.{told_of}
use Rattle.pg_replay.proofs.soak.summary_of.Goals as goal

pub returns : goal.returns
returns c =
    told_of c.args.servers c.args.seed c.args.events c.take_events.new.self c.take_ending.new.self c.tell.new.self _
    c.in_ok-take_events.ensures c.in_ok-take_ending.ensures c.in_ok-tell.ensures c.into_text.ensures

pub take_ending-requires-clause-going : goal.take_ending-requires-clause-going
take_ending-requires-clause-going c = c.in_ok-take_events.ensures.going

pub take_ending-requires-clause-counted : goal.take_ending-requires-clause-counted
take_ending-requires-clause-counted c = c.in_ok-take_events.ensures.marks

pub tell-requires : goal.tell-requires
tell-requires c = c.in_ok-take_ending.ensures.going
