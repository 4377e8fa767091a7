use Rattle.pg_make.proofs.Going.{text_after, words_after}
use Rattle.pg_make.proofs.Spelled.{made_good}
use Rattle.pg_make.proofs.making.schedule.Goals as goal

pub loop-event-preserved : goal.loop-event-preserved
loop-event-preserved c = record {
  text = text_after _ _ c.loop-event.event _ _ _ _ c.loop-event.invariant.text
      c.loop-event.invariant.words c.in_ok-write_numbered.ensures.lines;
  words = words_after _ c.loop-event.event _ _ _ c.loop-event.invariant.words
      c.in_ok-write_numbered.ensures.words;
}

pub returns-in_err-write-clause-lines : goal.returns-in_err-write-clause-lines
returns-in_err-write-clause-lines c = made_good _ _ _ c.requires.servers c.requires.events

pub returns-in_err-write_numbered-clause-lines : goal.returns-in_err-write_numbered-clause-lines
returns-in_err-write_numbered-clause-lines c = made_good _ _ _ c.requires.servers c.requires.events

pub returns-in_err-write_line-clause-lines : goal.returns-in_err-write_line-clause-lines
returns-in_err-write_line-clause-lines c = made_good _ _ _ c.requires.servers c.requires.events

pub returns-clause-lines : goal.returns-clause-lines
returns-clause-lines c = made_good _ _ _ c.requires.servers c.requires.events
