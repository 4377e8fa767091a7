-- What an entry may hold, so that all that is written of it has a spelling.
use Rattle.std.specs.Prelude.{◌<◌, ◌^◌, Option, None, Some}
use Rattle.std.specs.List.{AllByRecursion}
use Rattle.pg_msg.specs.Sent.{summary}
use Rattle.pg_event.specs.declared.entry.Entry.{Entry}
use Rattle.pg_call.specs.declared.reply.Reply.{Reply}
use Rattle.pg_event.specs.declared.event.Event.{Event}
use Rattle.pg_event.specs.declared.event.Event.TheVariants.{Call, Tick, Deliver, Lose, Repeat, Restart, Remove}
use Rattle.pg_msg.specs.Text.{IsSummary}
use Rattle.pg_msg.specs.UpdateText.{IsUpdate}
use Rattle.pg_call.specs.Reply.{IsReply, IsTickReply}

-- a server that answers, and an answer that fits what was asked
abbrev pub IsTold : Event → Option Reply → Type 0
IsTold (Call server moment call) None = Unit {0}
IsTold (Call server moment call) (Some reply) = (server < 2 ^ 32) × IsReply reply
IsTold (Tick server moment word) None = Unit {0}
IsTold (Tick server moment word) (Some reply) = (server < 2 ^ 32) × IsTickReply reply
IsTold (Deliver number) reply = Unit {0}
IsTold (Lose number) reply = Unit {0}
IsTold (Repeat number) reply = Unit {0}
IsTold (Restart server) reply = Unit {0}
IsTold (Remove server) reply = Unit {0}

pub record IsEntry (entry : Entry) : Type 0 where
  pub told : IsTold entry.event entry.reply
  pub made : AllByRecursion IsUpdate entry.made
  pub sent : AllByRecursion (λ m. IsSummary (summary m)) entry.sent
