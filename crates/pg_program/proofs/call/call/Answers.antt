use Rattle.pg_program.proofs.Idle.{call_end}
use Rattle.pg_program.proofs.call.call.Goals as goal

pub returns-clause-ends : goal.returns-clause-ends
returns-clause-ends g c = call_end _ c.ask.ensures.asks.gave c.ask.ensures.asks.ends

pub ask-requires-clause-fits : goal.ask-requires-clause-fits
ask-requires-clause-fits g c = c.requests_have_packets.ensures c.args.request c.requires.fits
