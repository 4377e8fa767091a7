-- All that other laws give of each moment.
use Rattle.std.proofs.Common.{ℕ, List}
use Rattle.pg_run.specs.pg_base.declared.id.FileId.{FileId}
use Rattle.pg_run.specs.pg_event.declared.event.Event.{Event}
use Rattle.theory_leaving.specs.Moment.{IsInOrder}
use Rattle.law_leaving.specs.Answers.{AnswersAreToAccepted}
use Rattle.law_leaving.specs.Premises.{StandOn}
use Rattle.law_leaving.specs.Seen.{leaving}
use Rattle.law_leaving.proofs.LastFlags.{flags}
use Rattle.law_leaving.proofs.Ordered.{apart, births, filled, gone, past, wants}
use Rattle.law_leaving.proofs.Promised.{runs_keep_taken}

pub in_order : (n : ℕ) → StandOn n → AnswersAreToAccepted n → (file : FileId) (events : List Event) → IsInOrder (leaving n file) events
in_order n on answers file events = record {
  promises = runs_keep_taken n on answers events;
  births = births n on file events;
  gone = gone n on file events;
  past = past n on file events;
  flags = flags n on file events;
  apart = apart n on file events;
  filled = filled n on file events;
  wants = wants n on file events;
}
