-- Which lines have a spelling.
use Rattle.std.proofs.Common.{arith, ℕ, ◌≤◌, ◌<◌, ◌^◌, List, [], ◌∷◌, ◌++◌, length, map, take, Option, None, Some}
use Rattle.std.proofs.lemmas.List.{length-take}
use Rattle.std.specs.List.{AllByRecursion}
use Rattle.pg_msg.specs.declared.message.Sent.{Sent}
use Rattle.pg_msg.specs.declared.update.Update.{Update}
use Rattle.pg_msg.specs.Sent.{summary}
use Rattle.pg_event.specs.declared.entry.Entry.{Entry}
use Rattle.pg_call.specs.declared.reply.Reply.{Reply}
use Rattle.pg_call.specs.declared.reply.Reply.TheVariants as reply
use Rattle.pg_event.specs.declared.entry.VoidCause.{VoidCause}
use Rattle.pg_event.specs.declared.event.Event.{Event}
use Rattle.pg_event.specs.declared.event.Event.TheVariants.{Call, Tick, Deliver, Lose, Repeat, Restart, Remove}
use Rattle.pg_sched.specs.declared.line.Form.{Form}
use Rattle.pg_sched.specs.declared.line.Form.TheVariants.{Full, Short}
use Rattle.pg_sched.specs.declared.line.Line.{Line}
use Rattle.pg_sched.specs.Line.{IsLine}
use Rattle.pg_trace.specs.declared.journal_line.JournalLine.{JournalLine}
use Rattle.pg_trace.specs.declared.journal_line.JournalLine.TheVariants as printed
use Rattle.pg_msg.specs.Text.{IsSummary}
use Rattle.pg_msg.specs.UpdateText.{IsUpdate}
use Rattle.pg_trace.specs.JournalLine.{ArePrinted}
use Rattle.pg_call.specs.Reply.{IsTickReply}
use Rattle.pg_trace.specs.Spelled.{IsTold, IsEntry}
use Rattle.pg_trace.specs.Text.{tick_lines, told_lines, done_lines, outcome_lines, head_lines}

pub joined : (xs ys : List JournalLine) → ArePrinted xs → ArePrinted ys → ArePrinted (xs ++ ys)
joined [] ys a b = b
joined (x ∷ xs) ys a b = (a.0, joined xs ys a.1 b)

pub all_made : (us : List Update) → AllByRecursion IsUpdate us → ArePrinted (map printed.Made us)
all_made [] h = tt
all_made (u ∷ us) h = (h.0, all_made us h.1)

pub all_sent : (ms : List Sent) → AllByRecursion (λ m. IsSummary (summary m)) ms → ArePrinted (map (λ m. printed.Sent (summary m)) ms)
all_sent [] h = tt
all_sent (m ∷ ms) h = (h.0, all_sent ms h.1)

pub done : (form : Form) (made : List Update) (sent : List Sent) → AllByRecursion IsUpdate made → AllByRecursion (λ m. IsSummary (summary m)) sent → ArePrinted (done_lines form made sent)
done Full made sent a b = joined (map printed.Made made) (map (λ m. printed.Sent (summary m)) sent) (all_made made a) (all_sent sent b)
done Short made sent a b = tt

ticked : (form : Form) (server : ℕ) (r : Reply) → server < 2 ^ 32 → IsTickReply r → ArePrinted (tick_lines form server r)
ticked Full server r a b = ((a, b), tt)
ticked Short server reply.Done a b = tt
ticked Short server (reply.Made id) a b = tt
ticked Short server (reply.Wrote stamp) a b = tt
ticked Short server (reply.Bytes bytes) a b = tt
ticked Short server (reply.Names total rows) a b = tt
ticked Short server (reply.Stat stat) a b = tt
ticked Short server (reply.Leaving leaving) a b = tt
ticked Short server (reply.Status counts) a b = tt
ticked Short server (reply.Refused refusal) a b = ((a, b), tt)

pub told : (form : Form) (event : Event) (reply : Option Reply) → IsTold event reply → ArePrinted (told_lines form event reply)
told form (Call server moment call) None h = tt
told form (Call server moment call) (Some reply) h = (h, tt)
told form (Tick server moment word) None h = tt
told form (Tick server moment word) (Some reply) h = ticked form server reply h.0 h.1
told form (Deliver number) reply h = tt
told form (Lose number) reply h = tt
told form (Repeat number) reply h = tt
told form (Restart server) reply h = tt
told form (Remove server) reply h = tt

pub written : (line : ℕ) (form : Form) (void : Option VoidCause) (entry : Entry) → line < 2 ^ 64 → IsEntry entry → ArePrinted (outcome_lines line form void entry)
written line form (Some cause) entry fits h = (fits, tt)
written line form None entry fits h = joined (told_lines form entry.event entry.reply) (done_lines form entry.made entry.sent) (told form entry.event entry.reply h.told) (done form entry.made entry.sent h.made h.sent)

pub in_front : (line : ℕ) (form : Form) (what : Line) → line < 2 ^ 64 → IsLine what → ArePrinted (head_lines line form what)
in_front line Full what fits h = ((fits, h), tt)
in_front line Short what fits h = tt

pub few_taken : (n : ℕ) (bs : List ℕ) → length (take n bs) ≤ n
few_taken n bs = omega (arith, length-take n bs)
