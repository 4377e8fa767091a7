-- Who seeks is met, walks go on or end, and so each message keeps what is held fit.
use Rattle.std.proofs.Common.{ℕ, ◌≡◌, ◌≤◌, ◌<◌, ◌==◌, ◌-◌, ◌/◌, ◌%◌, true, cond, nat_lt, List, length, slice_get, Option, None, Some, All, refl, arith}
use Rattle.std.proofs.lemmas.Bool.{and_parts}
use Rattle.std.proofs.lemmas.Bool.Decides.{nat_tests}
use Rattle.std.proofs.lemmas.List.Elements.{All-filter, All-push}
use Rattle.pg_base.specs.declared.id.FileId.{FileId}
use Rattle.pg_edges.specs.declared.edge.Edge.{Edge}
use Rattle.pg_msg.specs.declared.message.Ask.TheVariants as ask
use Rattle.pg_msg.specs.declared.message.Ends.{Ends}
use Rattle.pg_msg.specs.declared.message.Message.{Message}
use Rattle.pg_msg.specs.declared.message.Message.TheVariants as message
use Rattle.pg_msg.specs.declared.summary.Greeting.TheVariants as greeting
use Rattle.pg_msg.specs.declared.work.Work.{Work}
use Rattle.pg_server.specs.pg_pieces.pg_store.declared.store.Store.{Store}
use Rattle.pg_server.specs.pg_pieces.pg_store.Links.{knows_later}
use Rattle.pg_server.specs.pg_pieces.pg_store.Seen.{server_of}
use Rattle.pg_server.specs.pg_pieces.pg_store.Store.{is_held, replica_at}
use Rattle.pg_server.proofs.pg_pieces.pg_house.Truths.{chosen}
use Rattle.theory_flood_pieces.proofs.Choices.{decided}
use Rattle.pg_server.specs.pg_pieces.declared.accepting.EdgeUse.TheVariants as manner
use Rattle.pg_server.specs.pg_pieces.Accepting.{accept, ends_to, is_accepted, link_peer}
use Rattle.pg_server.specs.pg_pieces.Done.{idle, link_of}
use Rattle.pg_server.specs.pg_pieces.Posting.{reply, sent_to}
use Rattle.pg_server.specs.pg_graph.Seeking.{seek}
use Rattle.pg_server.specs.pg_graph.Walks.{edges_of, goes_on, is_onward, meet_origin, onward, walk, walk_along, walk_on, walked}
use Rattle.pg_server.specs.Local.{receive}
use Rattle.pg_packet_write.specs.Messages.{FitsWalk}
use Rattle.law_spelled.specs.Messages.{FitsArrival, FitsSent}
use Rattle.law_spelled.specs.Stores.{MayBeServer}
use Rattle.law_spelled.proofs.Bodies.{delta_comes, harbinger_fits, later_fits, piece_fits, want_fits}
use Rattle.law_spelled.proofs.Children.{confirm_fits, none_here_fits, place_is_fits, tell_fits, tell_ok_fits}
use Rattle.law_spelled.proofs.Flags.{of_golds}
use Rattle.law_spelled.proofs.Handlers.{Fit, accept_fits, cell_fits, fetch_fits, full_fits, grant_fits, invite_fits, no_grant_fits, replied}
use Rattle.law_spelled.proofs.Leaving.{bye_fits, bye_ok_fits, leave_fits, leave_ok_fits}
use Rattle.law_spelled.proofs.Lists.{got}
use Rattle.law_spelled.proofs.Messages.{cell_comes, child_comes, place_comes, sent_fits}
use Rattle.law_spelled.proofs.Replicas.{IsToServer, replica_or}
use Rattle.law_spelled.proofs.Stores.{FitsDone, Fine, acknowledged_fits, peer_linked, posted, unlink_fits}

-- ---- a replica that seeks, and walks

seek_fits : (s : Store) (f : FileId) (birth : ℕ) (work : Work) → Fit s work → FitsDone (seek s f birth work)
seek_fits s f birth work h =
    let met = link_peer s f work.from birth work in
    let linked = peer_linked s work h f work.from birth h.work.from in
    let here = message.Greet (ends_to met.store f birth) greeting.Here in
    let none = message.NoneHere ask.Seek f f in
    chosen FitsDone (is_held s f) (cond (knows_later s f work.from birth) (idle s work) (idle met.store (reply met.store here met.work)))
    (idle s (reply s none work))
    (chosen FitsDone (knows_later s f work.from birth) (idle s work) (idle met.store (reply met.store here met.work)) h
    (replied met.store here met.work (λ w. tt) (record { store = linked.store; work = linked.work })))
    (replied s none work (λ w. tt) h)

-- one message more goes last
pub along_edge : (s : Store) (f : FileId) (origin birth hops word : ℕ) (work : Work) (o : Option Edge) → FitsWalk origin hops
    → ((e : Edge) → o ≡ Some e → IsToServer e) → Fine work → Fine (walk_along s f origin birth hops word work o)
along_edge s f origin birth hops word work None k to h = h
along_edge s f origin birth hops word work (Some e) k to h =
    let m = message.Walk (ends_to s f e.birth) origin birth hops word in
    record {
      sent = h.sent;
      tail = All-push FitsSent work.tail (sent_to s e.peer m) h.tail (sent_fits s e.peer m (to e refl) (λ w. k));
      left = h.left;
      unsure = h.unsure;
      from = h.from;
    }

pub edges_fit : (s : Store) (f : FileId) (work : Work) → Fit s work → All IsToServer (edges_of s f)
edges_fit s f work h = (replica_or s.replicas f h.store.replicas (replica_at s f) refl).edges

one_less : (hops : ℕ) → nat_lt 1 hops ≡ true → 1 ≤ hops - 1
one_less hops h = let more : 1 < hops = grind (arith, nat_tests) in omega (arith, more)

on_fits : (origin hops : ℕ) (on : List Edge) → goes_on hops on ≡ true → FitsWalk origin hops → FitsWalk origin (hops - 1)
on_fits origin hops on is k =
    let p = and_parts (nat_lt 1 hops) (nat_lt 0 (length on)) is in
    let most = k.most in
    record { origin = k.origin; least = one_less hops p.0; most = omega (arith, most) }

walked_fits : (s : Store) (ends : Ends) (origin birth hops word : ℕ) (on : List Edge) (work : Work) → FitsWalk origin hops → All IsToServer on → Fit s work
    → FitsDone (walked s ends origin birth hops word on work)
walked_fits s ends origin birth hops word on work k all h =
    let met = link_peer s ends.file origin birth work in
    let may : MayBeServer origin = k.origin.most in
    let linked = peer_linked s work h ends.file origin birth may in
    let meet = message.Greet (ends_to met.store ends.file birth) greeting.Meet in
    decided FitsDone (goes_on hops on) (idle s (walk_on s ends.file origin birth hops word on work)) (meet_origin s ends.file origin birth work)
    (λ is. record {
      store = h.store;
      work = along_edge s ends.file origin birth (hops - 1) (word / length on) work (slice_get on (word % length on)) (on_fits origin hops on is k)
          (λ e there. got IsToServer on (word % length on) e all there) h.work;
    })
    (λ no. record {
      store = linked.store;
      work = posted met.store origin meet met.work may (λ w. tt) linked.work;
    })

walk_fits : (s : Store) (ends : Ends) (origin birth hops word : ℕ) (work : Work) → FitsWalk origin hops → Fit s work
    → FitsDone (walk s ends origin birth hops word work)
walk_fits s ends origin birth hops word work k h =
    let on = onward s ends.file work.from origin in
    let next = walked s ends origin birth hops word on work in
    let all : All IsToServer on = All-filter (is_onward work.from origin) IsToServer (edges_of s ends.file) (edges_fit s ends.file work h) in
    chosen FitsDone (is_accepted s work.from manner.Needs ends) (cond (origin == server_of s) (idle s work) next) (accept s ends manner.Needs work)
    (chosen FitsDone (origin == server_of s) (idle s work) next h (walked_fits s ends origin birth hops word on work k all h))
    (accept_fits s ends manner.Needs work h)

-- ---- any message

pub received_fits : (s : Store) (m : Message) (work : Work) → FitsArrival m → Fit s work → FitsDone (receive s m work)
received_fits s (message.Cell ends tag c) work k h = cell_fits s ends tag c work (cell_comes ends.file c k.spelled k.flags) h
received_fits s (message.Ack ends key tag) work k h =
    record { store = acknowledged_fits s h.store ends.file (link_of work.from ends) key tag; work = h.work }
received_fits s (message.Harbinger ends tag head) work k h = harbinger_fits s ends tag head work k.spelled h
received_fits s (message.Want ends wanted) work k h = want_fits s ends wanted work k.spelled h
received_fits s (message.Delta ends d) work k h = delta_comes s ends d work h
received_fits s (message.Piece ends p) work k h = piece_fits s ends p work h
received_fits s (message.Later ends stamp) work k h = later_fits s ends stamp work h
received_fits s (message.Fetch file birth) work k h = fetch_fits s file birth work h
received_fits s (message.Grant ends granted) work k h =
    grant_fits s ends granted work
    (record { place = place_comes ends.file granted.place k.spelled.place; flags = of_golds granted.flags k.spelled.flags k.flags }) h
received_fits s (message.NoGrant file birth) work k h = no_grant_fits s file birth work h
received_fits s (message.Full ends) work k h = full_fits s ends work h
received_fits s (message.Seek file birth) work k h = seek_fits s file birth work h
received_fits s (message.Greet ends why) work k h = accept_fits s ends manner.Makes work h
received_fits s (message.NoneHere what file child) work k h = none_here_fits s what file child work h
received_fits s (message.Gone file birth) work k h =
    record { store = unlink_fits s h.store file work.from birth; work = h.work }
received_fits s (message.Bye ends) work k h = bye_fits s ends work h
received_fits s (message.ByeOk file birth) work k h = bye_ok_fits s file birth work h
received_fits s (message.Confirm dir entry) work k h = confirm_fits s dir entry work (child_comes dir entry k.spelled k.flags) h
received_fits s (message.PlaceIs dir entry) work k h = place_is_fits s dir entry work (child_comes dir entry k.spelled k.flags) h
received_fits s (message.Tell dir entry) work k h = tell_fits s dir entry work (child_comes dir entry k.spelled k.flags) h
received_fits s (message.TellOk dir child stamp) work k h = tell_ok_fits s dir child stamp work h
received_fits s (message.Leave ends stamp) work k h = leave_fits s ends stamp work h
received_fits s (message.LeaveOk ends stamp) work k h = leave_ok_fits s ends stamp work h
received_fits s (message.Invite ends) work k h = invite_fits s ends work h
received_fits s (message.Walk ends origin birth hops word) work k h = walk_fits s ends origin birth hops word work k.spelled h
