use Rattle.std.proofs.Common.{subst, sym}
use Rattle.pg_sched.specs.Schedule.{IsCount}
use Rattle.pg_replay.proofs.Soaked.{more_soaked, more_words}
use Rattle.pg_replay.proofs.soak.Soak.take_events.Goals as goal

pub loop-event-preserved : goal.loop-event-preserved
loop-event-preserved c = record {
  soaked = more_soaked _ c.loop-event.event _ _ _ _ c.loop-event.invariant.soaked c.loop-event.invariant.words
      c.in_ok-take_numbered.ensures.lines;
  words = more_words _ c.loop-event.event c.loop-event.self _ _ _ c.loop-event.invariant.soaked.count c.loop-event.invariant.words
      c.in_ok-take_numbered.ensures.words;
}

pub loop-event-init : goal.loop-event-init
loop-event-init c = record { soaked = c.requires.begun; words = c.first_words-words.ensures }

pub take_numbered-requires-clause-going : goal.take_numbered-requires-clause-going
take_numbered-requires-clause-going c = c.loop-event.invariant.soaked.going

pub take_numbered-requires-clause-counted : goal.take_numbered-requires-clause-counted
take_numbered-requires-clause-counted c = c.loop-event.invariant.soaked.marks

pub take_numbered-requires-clause-servers : goal.take_numbered-requires-clause-servers
take_numbered-requires-clause-servers c = subst IsCount (sym c.loop-event.invariant.soaked.count) c.requires.servers
