use Rattle.std.proofs.Common.{◌≡◌, ◌≤◌, ◌++◌, map}
use Rattle.std.specs.Vec.Iter.{into_iter_items}
use Rattle.pg_host.specs.Sends.{message_packet, with_all}
use Rattle.pg_host.proofs.sending.send_messages.Given as goal

abbrev pub invariant-loop-message : goal.invariant-loop-message
invariant-loop-message g l = record {
  sent : g.N.Net.tells → g.N.Net.told l.net ≡ with_all (g.N.Net.told l.initial.net) (map (message_packet l.port) l.yielded);
  whole : l.fn.messages ≡ l.yielded ++ into_iter_items l.message-iterator;
  takes : g.N.Net.takes l.net ≡ g.N.Net.takes l.initial.net;
  later : g.N.Net.faults l.initial.net ≤ g.N.Net.faults l.net;
}
