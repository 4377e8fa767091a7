-- What a server does with what comes to it.
use Rattle.std.specs.Prelude.{ℕ, [], ◌&&◌, ◌==◌, ◌++◌, Bool, if◌then◌else◌, Option, None, Some}
use Rattle.pg_announced.specs.Announced.{released}
use Rattle.pg_calls.specs.pg_call.declared.refusal.Refusal.TheVariants.{ClockEnd}
use Rattle.pg_calls.specs.pg_call.declared.reply.Reply.{Reply}
use Rattle.pg_calls.specs.pg_call.declared.reply.Reply.TheVariants as reply
use Rattle.pg_calls.specs.pg_msg.declared.message.Message.{Message}
use Rattle.pg_calls.specs.pg_msg.declared.message.Message.TheVariants as message
use Rattle.pg_calls.specs.pg_msg.declared.message.Packet.{Packet}
use Rattle.pg_calls.specs.pg_msg.declared.work.Work.{Work}
use Rattle.pg_calls.specs.pg_msg.Numbers.{is_in_range}
use Rattle.pg_calls.specs.pg_msg.Work.{new_work}
use Rattle.pg_calls.specs.pg_store.declared.store.Store.{Store}
use Rattle.pg_calls.specs.pg_store.Seen.{view_of}
use Rattle.pg_calls.specs.pg_store.Servers.{is_live_other}
use Rattle.pg_calls.specs.pg_store.Store.{is_before_clock_end}
use Rattle.pg_calls.specs.pg_cells.Acks.{ack}
use Rattle.pg_calls.specs.pg_cells.Cells.{cell}
use Rattle.pg_calls.specs.pg_pieces.Done.{Done, idle}
use Rattle.pg_calls.specs.pg_cells.Finish.{finish}
use Rattle.pg_calls.specs.pg_cells.Settling.{settle}
use Rattle.pg_calls.specs.pg_cells.Ticks.{tick}
use Rattle.pg_calls.specs.pg_intentions.Beginning.{begin_end}
use Rattle.pg_calls.specs.pg_repair.Confirming.{confirm, place_is}
use Rattle.pg_calls.specs.pg_repair.Fetching.{fetch}
use Rattle.pg_calls.specs.pg_repair.Filling.{full, invite}
use Rattle.pg_calls.specs.pg_repair.Granting.{gone, grant, no_grant}
use Rattle.pg_calls.specs.pg_repair.NoneHere.{none_here}
use Rattle.pg_calls.specs.pg_intentions.Requests.{ask_all, ask_begun}
use Rattle.pg_calls.specs.pg_graph.Leaving.{bye, bye_ok, leave, leave_ok}
use Rattle.pg_calls.specs.pg_graph.Seeking.{here, seek}
use Rattle.pg_calls.specs.pg_repair.Telling.{tell, tell_ok}
use Rattle.pg_calls.specs.pg_graph.Walks.{walk, walk_of_tick}
use Rattle.pg_transfer.specs.Delta.{delta}
use Rattle.pg_transfer.specs.Harbinger.{harbinger}
use Rattle.pg_transfer.specs.Later.{later}
use Rattle.pg_transfer.specs.Piece.{piece}
use Rattle.pg_transfer.specs.Want.{want}
use Rattle.pg_calls.specs.pg_checks.Answer.{Answer}
use Rattle.pg_calls.specs.Calls.{do_call}
use Rattle.pg_server.specs.declared.input.Input.{Input}
use Rattle.pg_server.specs.declared.input.Input.TheVariants as input
use Rattle.pg_server.specs.declared.input.Out.{Out}

-- ---- what comes of an input

-- what the server holds then, and what it answers, made and sent
pub record Effect : Type 0 where
  pub store : Store
  pub out : Out

abbrev pub out_of : Option Reply → Work → Out
out_of answer work =
    record { reply = answer; made = work.made; sent = work.sent ++ work.tail }

-- what was touched or linked is sent, and behind it the messages of the intentions that began. The
-- tail goes last
abbrev pub sent_at_end : Done → Work
sent_at_end done = ask_begun done.store (finish done.store done.work)

-- the end of an event at which nothing changed names
abbrev pub finished : Option Reply → Done → Effect
finished answer done = record { store = done.store; out = out_of answer (sent_at_end done) }

-- what the house rules leave, and the intentions that end and begin behind them
abbrev pub settled : Done → Done
settled done = settle done.store done.work

abbrev pub intended : Done → Done
intended done = begin_end done.store done.work

-- the end of any other event: the house rules run, intentions end and begin, and then it is sent
abbrev pub closed : Option Reply → Done → Effect
closed answer done = finished answer (intended (settled done))

-- ---- a message

-- it comes from another live server of the run, in the same view; its numbers are in range, and the
-- clock is not at its end
abbrev pub is_heard : Store → Packet → Bool
is_heard store packet = is_before_clock_end store && ((packet.view == view_of store)
    && (is_live_other store packet.from && is_in_range packet.message))

-- each kind of message goes to its handler, which does nothing where the message is not accepted
abbrev pub receive : Store → Message → Work → Done
receive store (message.Cell ends tag c) work = cell store ends tag c work
receive store (message.Ack ends k tag) work = ack store ends k tag work
receive store (message.Harbinger ends tag head) work = harbinger store ends tag head work
receive store (message.Want ends wanted) work = want store ends wanted work
receive store (message.Delta ends d) work = delta store ends d work
receive store (message.Piece ends p) work = piece store ends p work
receive store (message.Later ends stamp) work = later store ends stamp work
receive store (message.Fetch file birth) work = fetch store file birth work
receive store (message.Grant ends granted) work = grant store ends granted work
receive store (message.NoGrant file birth) work = no_grant store file birth work
receive store (message.Full ends) work = full store ends work
receive store (message.Seek file birth) work = seek store file birth work
receive store (message.Greet ends why) work = here store ends work
receive store (message.NoneHere ask file child) work = none_here store ask file child work
receive store (message.Gone file birth) work = gone store file birth work
receive store (message.Bye ends) work = bye store ends work
receive store (message.ByeOk file birth) work = bye_ok store file birth work
receive store (message.Confirm dir entry) work = confirm store dir entry work
receive store (message.PlaceIs dir entry) work = place_is store dir entry work
receive store (message.Tell dir entry) work = tell store dir entry work
receive store (message.TellOk dir child stamp) work = tell_ok store dir child stamp work
receive store (message.Leave ends stamp) work = leave store ends stamp work
receive store (message.LeaveOk ends stamp) work = leave_ok store ends stamp work
receive store (message.Invite ends) work = invite store ends work
receive store (message.Walk ends origin birth hops word) work =
    walk store ends origin birth hops word work

-- ---- the first effect of an input, before the house rules

abbrev pub done_of : Answer → Done
done_of a = record { store = a.store; work = a.work }

-- what is not acknowledged is sent again, behind it the messages of all intentions, and last a
-- walk, if the word chooses one
abbrev pub sent_again : Store → ℕ → Work → Work
sent_again store word work = walk_of_tick store word (ask_all store (tick store work))

-- no server is asked for any version any more
abbrev pub without_sources : Store → Store
without_sources store = record store { announced = released store.announced }

abbrev pub ticked : Store → ℕ → Work → Done
ticked store word work = idle (without_sources store) (sent_again (without_sources store) word work)

-- a restart loses the wishes and what is noted of versions, and nothing else
abbrev pub without_volatile : Store → Store
without_volatile store = record store { announced = []; wishes = [] }

-- at the end of the clock a call is refused by its own checks, and a tick sends nothing. A message
-- that is not heard is ignored
abbrev pub first_effect : Store → Input → Done
first_effect store (input.Call moment call) = done_of (do_call store call (new_work moment 0))
first_effect store (input.Tick moment word) =
    if is_before_clock_end store then ticked store word (new_work moment 0)
    else idle store (new_work moment 0)
first_effect store (input.Arrival packet) =
    if is_heard store packet then receive store packet.message (new_work 0 packet.from)
    else idle store (new_work 0 packet.from)
first_effect store input.Restart = idle (without_volatile store) (new_work 0 0)

-- what the client is told, if one is
abbrev pub reply_to : Store → Input → Option Reply
reply_to store (input.Call moment call) = Some (do_call store call (new_work moment 0)).reply
reply_to store (input.Tick moment word) =
    Some (if is_before_clock_end store then reply.Done else reply.Refused ClockEnd)
reply_to store (input.Arrival packet) = None
reply_to store input.Restart = None

-- ---- any input

-- at the end of the clock nothing takes effect, and of messages only those that are heard
abbrev pub takes_effect : Store → Input → Bool
takes_effect store (input.Call moment call) = is_before_clock_end store
takes_effect store (input.Tick moment word) = is_before_clock_end store
takes_effect store (input.Arrival packet) = is_heard store packet
takes_effect store input.Restart = is_before_clock_end store

-- the house rules and the intentions stand behind whatever takes effect
abbrev pub effect : Store → Input → Effect
effect store asked =
    if takes_effect store asked then closed (reply_to store asked) (first_effect store asked)
    else finished (reply_to store asked) (first_effect store asked)

-- the same, in a word that opens only where a proof names it
unfoldable pub effect_of : Store → Input → Effect
effect_of store asked = effect store asked
