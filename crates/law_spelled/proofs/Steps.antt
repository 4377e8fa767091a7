-- A server begins so that what it holds fits, and keeps that with whatever comes; and what it sends has a spelling.
use Rattle.std.proofs.Common.{ℕ, zero, suc, ◌≡◌, ◌≤◌, ◌==◌, ◌/◌, ◌%◌, nat_le, Bool, true, false, cond, [], ◌++◌, flat_map, length, slice_get, Option, None, Some, All, refl, inl, arith}
use Rattle.std.proofs.lemmas.Bool.{and_parts}
use Rattle.std.proofs.lemmas.List.Elements.{All-append, All-contains, All-nil}
use Rattle.std.proofs.lemmas.Option.{none-some}
use Rattle.pg_base.specs.declared.id.FileId.{FileId}
use Rattle.pg_announced.specs.Announced.{released}
use Rattle.pg_server.specs.pg_pieces.pg_call.declared.call.Call.{Call}
use Rattle.pg_server.specs.pg_pieces.pg_call.declared.refusal.Refusal.TheVariants.{ClockEnd}
use Rattle.pg_server.specs.pg_pieces.pg_call.declared.reply.Reply.{Reply}
use Rattle.pg_server.specs.pg_pieces.pg_call.declared.reply.Reply.TheVariants as reply
use Rattle.pg_msg.specs.declared.message.Packet.{Packet}
use Rattle.pg_msg.specs.declared.work.Work.{Work}
use Rattle.pg_msg.specs.Numbers.{is_in_range}
use Rattle.pg_msg.specs.Work.{new_work}
use Rattle.pg_server.specs.pg_pieces.pg_names.Names.{NamesValue, new_names}
use Rattle.pg_register.specs.Place.{root}
use Rattle.pg_server.specs.pg_pieces.pg_replica.Root.{clean_edge, clean_edges, first_root}
use Rattle.pg_edges.specs.Edges.{put_edge}
use Rattle.pg_server.specs.pg_pieces.pg_store.declared.store.Store.{Store}
use Rattle.pg_server.specs.pg_pieces.pg_store.declared.wishes.Wish.{Wish}
use Rattle.pg_server.specs.pg_pieces.pg_store.Births.{birth_of}
use Rattle.pg_server.specs.pg_pieces.pg_store.Seen.{server_of, view_of}
use Rattle.pg_server.specs.pg_pieces.pg_store.Servers.{is_live_other}
use Rattle.pg_server.specs.pg_pieces.pg_store.Start.{first_flag, first_flags, root_own}
use Rattle.pg_server.specs.pg_pieces.pg_store.Store.{is_before_clock_end}
use Rattle.pg_server.proofs.pg_pieces.pg_house.Truths.{chosen}
use Rattle.pg_server.specs.pg_cells.Sending.{cells_where, is_any}
use Rattle.pg_server.specs.pg_cells.Ticks.{tick}
use Rattle.pg_server.specs.pg_graph.Walks.{edges_of, most_hops, walk_from, walk_of, walk_of_tick, with_few_edges}
use Rattle.pg_server.specs.pg_intentions.Requests.{ask_all, asks}
use Rattle.pg_server.specs.pg_pieces.Done.{Done, idle}
use Rattle.pg_server.specs.declared.input.Input.TheVariants as input
use Rattle.pg_server.specs.Local.{closed, done_of, effect, effect_of, finished, intended, is_heard, receive, sent_again, sent_at_end, settled, ticked, without_sources, without_volatile}
use Rattle.pg_server.specs.pg_calls.Calls.{do_call}
use Rattle.pg_packet_write.specs.Fits.{IsServer}
use Rattle.pg_packet_write.specs.Messages.{FitsWalk}
use Rattle.law_spelled.specs.Laws.{FitsEffect, NewFits, StepFits}
use Rattle.law_spelled.specs.Messages.{FitsArrival, FitsSent}
use Rattle.law_spelled.specs.Stores.{FitFlags, FitsIntent, FitsNames, FitsNote, FitsStore, MayBeServer}
use Rattle.law_spelled.proofs.Behind.{ended_fits, intended_fits, settled_fits}
use Rattle.law_spelled.proofs.Calls.{call_fits}
use Rattle.law_spelled.proofs.Changes.{at_most}
use Rattle.law_spelled.proofs.Flags.{no_flags, one_more}
use Rattle.law_spelled.proofs.House.{IsOfDir}
use Rattle.law_spelled.proofs.Lists.{got}
use Rattle.law_spelled.proofs.Notes.{notes_released}
use Rattle.law_spelled.proofs.Places.{begin_fits}
use Rattle.law_spelled.proofs.Received.{along_edge, edges_fit, received_fits}
use Rattle.law_spelled.proofs.Replicas.{HasFitHead, HasFitReplica, IsToServer, put_fits, replica_put}
use Rattle.law_spelled.proofs.Sending.{all_asked, cells_fit}
use Rattle.law_spelled.proofs.Stores.{FitsDone, Fine, noted}

abbrev HasFitWish : FileId × Wish → Type 0
HasFitWish w = MayBeServer w.1.target

-- ---- a server that begins

flags_from : (servers k : ℕ) → k ≤ servers → servers ≤ 64 → FitFlags (first_flags k)
flags_from servers zero from most = no_flags
flags_from servers (suc k) from most =
    let one : IsServer (suc k) = record { least = omega arith; most = omega (arith, from, most) } in
    one_more (first_flags k) (first_flag (suc k)) one (flags_from servers k (omega (arith, from)) most)

edges_from : (server servers k : ℕ) → k ≤ servers → servers ≤ 64 → All IsToServer (clean_edges server k)
edges_from server servers zero from most = All-nil IsToServer
edges_from server servers (suc k) from most =
    let es = clean_edges server k in
    let rest = edges_from server servers k (omega (arith, from)) most in
    let one : suc k ≤ 64 = omega (arith, from, most) in
    chosen (All IsToServer) (suc k == server) es (put_edge es (clean_edge (suc k))) rest (put_fits es (clean_edge (suc k)) one rest)

pub begins : NewFits
begins servers server least from most =
    let names : NamesValue = new_names server in
    let none : FitsNames names = record {
      server = record { least = least; most = omega (arith, from, most) };
      held = λ f x there. absurd (none-some x there);
    } in
    record {
      servers = most;
      names = begin_fits names root (root_own servers) true
          (record {
            place = record { parent = refl; name = λ fits. inl refl };
            flags = flags_from servers servers (omega arith) most;
          }) none;
      replicas = replica_put [] root (first_root server servers)
          (record { heads = All-nil HasFitHead; edges = edges_from server servers servers (omega arith) most }) (All-nil HasFitReplica);
      announced = All-nil FitsNote;
      intents = All-nil FitsIntent;
      wishes = All-nil HasFitWish;
    }

-- ---- the ends of an event

begun : (s : Store) (now from : ℕ) → MayBeServer from → FitsStore s → FitsDone (idle s (new_work now from))
begun s now from k h = record {
  store = h;
  work = record {
    sent = All-nil FitsSent;
    tail = All-nil FitsSent;
    left = All-nil IsOfDir;
    unsure = All-nil IsOfDir;
    from = k;
  };
}

finished_fits : (answer : Option Reply) (done : Done) → FitsDone done → FitsEffect (finished answer done)
finished_fits answer done h =
    let sent = (sent_at_end done).sent in
    let all = All-append FitsSent sent done.work.tail (ended_fits done h) h.work.tail in
    record { store = h.store; sent = λ m among. All-contains FitsSent (sent ++ done.work.tail) m all among }

closed_fits : (answer : Option Reply) (done : Done) → FitsDone done → FitsEffect (closed answer done)
closed_fits answer done h =
    let one = settled done in
    let a : FitsDone one = settled_fits done.store done.work (record { store = h.store; work = h.work }) in
    finished_fits answer (intended one) (intended_fits one.store one.work (record { store = a.store; work = a.work }))

-- ---- a tick

module _ (s : Store) (h : FitsStore s) where
  walk_fits : (word : ℕ) (work : Work) (o : Option FileId) → Fine work → Fine (walk_from s word work o)
  walk_fits word work None k = k
  walk_fits word work (Some f) k =
      let edges = edges_of s f in
      let three : FitsWalk (server_of s) 3 = record { origin = h.names.server; least = omega arith; most = omega arith } in
      along_edge s f (server_of s) (birth_of s f) most_hops (word / length edges) work (slice_get edges (word % length edges)) three
      (λ e there. got IsToServer edges (word % length edges) e (edges_fit s f work (record { store = h; work = k })) there) k

  walks_fit : (word : ℕ) (work : Work) → Fine work → Fine (walk_of_tick s word work)
  walks_fit word work k =
      let files = with_few_edges s in
      chosen Fine (word == 0) work (walk_of s word files work) k
      (walk_fits (word / length files) work (slice_get files (word % length files)) k)

  again_fits : (word : ℕ) (work : Work) → Fine work → Fine (sent_again s word work)
  again_fits word work k =
      let cells = cells_where s is_any in
      let asked = flat_map (asks s) s.intents in
      walks_fit word (ask_all s (tick s work))
      (record {
        sent = All-append FitsSent (work.sent ++ cells) asked (All-append FitsSent work.sent cells k.sent (cells_fit s h is_any)) (all_asked s h);
        tail = k.tail;
        left = k.left;
        unsure = k.unsure;
        from = k.from;
      })

ticked_fits : (s : Store) (word : ℕ) (work : Work) → FitsDone (idle s work) → FitsDone (ticked s word work)
ticked_fits s word work h =
    let b : FitsStore (without_sources s) = noted s h.store (released s.announced) (notes_released s.announced h.store.announced) in
    record { store = b; work = again_fits (without_sources s) b word work h.work }

-- ---- each input

none : MayBeServer 0
none = omega arith

called : (s : Store) (moment : ℕ) (c : Call) → FitsStore s → FitsEffect (effect s (input.Call moment c))
called s moment c h =
    let a = do_call s c (new_work moment 0) in
    let done : FitsDone (done_of a) = (call_fits s (new_work moment 0) (begun s moment 0 none h) c).done in
    chosen FitsEffect (is_before_clock_end s) (closed (Some a.reply) (done_of a)) (finished (Some a.reply) (done_of a))
    (closed_fits (Some a.reply) (done_of a) done) (finished_fits (Some a.reply) (done_of a) done)

module _ (s : Store) (moment word : ℕ) (h : FitsStore s) where
  abbrev Begun : Work
  Begun = new_work moment 0

  abbrev Answering : Bool → Option Reply
  Answering t = Some (cond t reply.Done (reply.Refused ClockEnd))

  abbrev Working : Bool → Done
  Working t = cond t (ticked s word Begun) (idle s Begun)

  by_clock : (t : Bool) → FitsEffect (cond t (closed (Answering t) (Working t)) (finished (Answering t) (Working t)))
  by_clock true = closed_fits (Some reply.Done) (ticked s word Begun) (ticked_fits s word Begun (begun s moment 0 none h))
  by_clock false = finished_fits (Some (reply.Refused ClockEnd)) (idle s Begun) (begun s moment 0 none h)

  tick_comes : FitsEffect (effect s (input.Tick moment word))
  tick_comes = by_clock (is_before_clock_end s)

-- what is heard comes from a server
heard_from : (s : Store) (p : Packet) → FitsStore s → is_heard s p ≡ true → MayBeServer p.from
heard_from s p h is =
    let a = and_parts (is_before_clock_end s) _ is in
    let b = and_parts (p.view == view_of s) _ a.1 in
    let c = and_parts (is_live_other s p.from) (is_in_range p.message) b.1 in
    let d = and_parts (nat_le 1 p.from) _ c.0 in
    let e = and_parts (nat_le p.from s.servers) _ d.1 in
    let upto = at_most p.from s.servers e.0 in
    let most = h.servers in
    omega (arith, upto, most)

module _ (s : Store) (p : Packet) (h : FitsStore s) (k : FitsArrival p.message) where
  abbrev Come : Work
  Come = new_work 0 p.from

  abbrev Hearing : Bool → Done
  Hearing t = cond t (receive s p.message Come) (idle s Come)

  -- what is not heard sends nothing, whoever sent it
  by_hearing : (t : Bool) → is_heard s p ≡ t → FitsEffect (cond t (closed None (Hearing t)) (finished None (Hearing t)))
  by_hearing true is = closed_fits None (receive s p.message Come) (received_fits s p.message Come k (begun s 0 p.from (heard_from s p h is) h))
  by_hearing false is = finished_fits None (idle s (new_work 0 0)) (begun s 0 0 none h)

  arrives : FitsEffect (effect s (input.Arrival p))
  arrives = by_hearing (is_heard s p) refl

restarts : (s : Store) → FitsStore s → FitsEffect (effect s input.Restart)
restarts s h =
    let b = without_volatile s in
    let empty : FitsStore b = record {
      servers = h.servers;
      names = h.names;
      replicas = h.replicas;
      announced = All-nil FitsNote;
      intents = h.intents;
      wishes = All-nil HasFitWish;
    } in
    let done = idle b (new_work 0 0) in
    let k : FitsDone done = begun b 0 0 none empty in
    chosen FitsEffect (is_before_clock_end s) (closed None done) (finished None done) (closed_fits None done k) (finished_fits None done k)

-- WHATEVER COMES
pub steps : StepFits
unfolding effect_of
steps s (input.Call moment c) h k = called s moment c h
steps s (input.Tick moment word) h k = tick_comes s moment word h
steps s (input.Arrival p) h k = arrives s p h k
steps s input.Restart h k = restarts s h
