-- What an event does at a server: what is seen of it then, in the view in which it is then, and
-- that all that it sends is from it and of that view.
use Rattle.std.proofs.Common.{[], ℕ, ◌≡◌, ◌==◌, ◌&&◌, Bool, true, false, not, List, ◌∷◌, ◌++◌, get_or, Option, None, Some, ◌⊎◌, inl, inr, refl, sym, ap, subst, ◌∙◌, All}
use Rattle.std.specs.Prelude.{Err, Ok, Result, nat_lt}
use Rattle.std.specs.Map.{keys_of}
use Rattle.std.proofs.lemmas.Bool.{and_parts}
use Rattle.std.proofs.lemmas.List.Elements.{All-append, All-nil, All-weaker}
use Rattle.std.proofs.lemmas.Option.{none-some, same_Some}
use Rattle.std.specs.List.{flat_map}
use Rattle.law_frame.proofs.pg_run.pg_calls.Refused.{refused_only_asks}
use Rattle.law_frame.specs.pg_run.pg_call.declared.refusal.Refusal.TheVariants.{NotYet}
use Rattle.law_frame.specs.pg_run.pg_base.declared.id.FileId.{FileId}
use Rattle.law_frame.specs.pg_run.pg_edges.declared.edge.Edge.{Edge}
use Rattle.law_frame.specs.pg_run.pg_announced.Announced.{released}
use Rattle.law_frame.specs.pg_run.pg_entries.declared.cell.Cell.{Cell}
use Rattle.law_frame.specs.pg_run.pg_entries.declared.cell.Cell.TheVariants as cell_kind
use Rattle.law_frame.specs.pg_run.pg_call.declared.refusal.Refusal.TheVariants as refusal
use Rattle.law_frame.specs.pg_run.pg_intent.declared.key.IntentKey.{IntentKey}
use Rattle.law_frame.specs.pg_run.pg_intent.Intent.{target_of}
use Rattle.law_frame.specs.pg_run.pg_msg.Numbers.{is_in_range}
use Rattle.law_frame.specs.pg_run.pg_store.Births.{birth_of}
use Rattle.law_frame.specs.pg_run.pg_pieces.Accepting.{ends_to}
use Rattle.law_frame.specs.pg_run.pg_call.declared.call.Call.{Call}
use Rattle.law_frame.specs.pg_run.pg_call.declared.call.Call.TheVariants as call
use Rattle.law_frame.specs.pg_run.pg_call.declared.reply.Reply.TheVariants as reply
use Rattle.law_frame.specs.pg_run.pg_entries.declared.entry.Entry.{Entry}
use Rattle.law_frame.specs.pg_run.pg_intent.declared.intent.Intent.{Intent}
use Rattle.law_frame.specs.pg_run.pg_intent.declared.intent.Intent.TheVariants as intent
use Rattle.law_frame.specs.pg_run.pg_msg.declared.message.Ends.{Ends}
use Rattle.law_frame.specs.pg_run.pg_msg.declared.message.Message.{Message}
use Rattle.law_frame.specs.pg_run.pg_msg.declared.message.Message.TheVariants as message
use Rattle.law_frame.specs.pg_run.pg_msg.declared.message.Packet.{Packet}
use Rattle.law_frame.specs.pg_run.pg_msg.declared.message.Sent.{Sent}
use Rattle.law_frame.specs.pg_run.pg_msg.declared.work.Work.{Work}
use Rattle.law_frame.specs.pg_run.pg_msg.Work.{new_work}
use Rattle.law_frame.specs.pg_run.pg_names.declared.attributes.Attributes.{Attributes}
use Rattle.law_frame.specs.pg_run.pg_names.Names.{cell_at as entry_at, own_at}
use Rattle.law_frame.specs.pg_run.pg_register.Flag.{is_removed}
use Rattle.law_frame.specs.pg_run.pg_store.declared.store.Store.{Store}
use Rattle.law_frame.specs.pg_run.pg_store.Seen.{removed_of, server_of, view_of}
use Rattle.law_frame.specs.pg_run.pg_store.Servers.{is_live_other}
use Rattle.law_frame.specs.pg_run.pg_store.Store.{is_before_clock_end}
use Rattle.law_frame.specs.pg_run.pg_store.Together.{AreTogether}
use Rattle.law_frame.specs.pg_run.pg_store.Views.{enter}
use Rattle.law_frame.specs.pg_run.pg_lookup.declared.paths.LookupError.{LookupError}
use Rattle.law_frame.specs.pg_run.pg_pieces.Done.{Done, idle}
use Rattle.law_frame.specs.pg_run.pg_pieces.Posting.{sent_to}
use Rattle.law_frame.specs.pg_run.pg_cells.Sending.{Wanted, cell_to, cells_where, is_any, is_chosen, told_as}
use Rattle.law_frame.specs.pg_run.pg_cells.Ticks.{tick}
use Rattle.law_frame.specs.pg_run.pg_intentions.Inviting.{invite_along, invite_each, invite_of, invites, loose_edge}
use Rattle.law_frame.specs.pg_run.pg_intentions.Requests.{ask_all, asks, asks_by, confirm_message, leave_message, request}
use Rattle.law_frame.specs.pg_run.pg_checks.Answer.{Answer, answer, answered, told, unless, deny}
use Rattle.law_frame.specs.pg_run.pg_checks.Checks.{in_time}
use Rattle.law_frame.proofs.pg_run.pg_calls.Checked.{behind, unless_ok}
use Rattle.law_frame.specs.pg_run.pg_calls.GivingUp.{doubt_all, enter_view, may_give_up, removal_at}
use Rattle.law_frame.specs.pg_run.pg_server.declared.input.Input.{Input}
use Rattle.law_frame.specs.pg_run.pg_server.declared.input.Input.TheVariants as input
use Rattle.law_frame.specs.pg_run.pg_server.Local.{done_of, effect, first_effect, is_heard, receive, ticked, without_sources}
use Rattle.law_frame.proofs.pg_run.theory_flood_pieces.Choices.{chosen, decided}
use Rattle.law_frame.proofs.pg_run.Event.{all_sent, asks_by_have, asks_have, cells_have, end_has, end_of, store_is}
use Rattle.law_frame.proofs.pg_run.LastWalks.{GoesLast, IsPassedOn, IsWalkOf, each_invites, first_tail}
use Rattle.law_frame.proofs.pg_run.TailsOfCalls.{answered_same}
use Rattle.law_frame.proofs.pg_run.Walks.{again_is, tick_walks}
use Rattle.law_views.proofs.Called.{call_fine, denied}
use Rattle.law_views.proofs.Ends.{intended_seen, settled_seen}
use Rattle.law_views.proofs.Entering.{enter_seen}
use Rattle.law_views.proofs.Fine.{IsFine, IsOfLive, IsSent, sent_is}
use Rattle.law_views.proofs.Handled.{receive_fine}
use Rattle.law_views.proofs.Seen.{IsSeen, seen_noted}
use Rattle.law_views.proofs.Targets.{live_parts}
use Rattle.law_views.specs.Premises.{FlagsAreOf}

module _ (n s : ℕ) (R : List ℕ) where
  abbrev Sends : Sent → Type 0
  Sends = IsSent n s R

  abbrev Plain : Message → Type 0
  Plain = IsOfLive R

  module _ (b : Store) (k : IsSeen n s R b) where
    -- ---- what cells and intentions send is no walk

    as_plain : (ends : Ends) (tag : ℕ) (c : Cell) → Plain (told_as ends tag c)
    as_plain ends tag (cell_kind.Version v) =
        chosen Plain (nat_lt 1024 v.head.length) (message.Harbinger ends tag v.head) (message.Cell ends tag (cell_kind.Version v)) tt tt
    as_plain ends tag (cell_kind.Place place) = tt
    as_plain ends tag (cell_kind.Flag flag) = tt
    as_plain ends tag (cell_kind.Entry e sure) = tt

    cell_sent : (file : FileId) (birth : ℕ) (e : Edge) (c : Cell) (tag : ℕ) → Sends (cell_to b file birth e c tag)
    cell_sent file birth e c tag =
        let ends : Ends = record { file = file; sender = birth; receiver = e.birth } in
        sent_is n s R b e.peer (told_as ends tag c) (as_plain ends tag c) k

    pub cells_fine : (wanted : Wanted) → All Sends (cells_where b wanted)
    cells_fine wanted =
        cells_have Sends b wanted
        (λ i r lt j e less m q below c is waits.
        let x = get_or b.replicas i r in
        let d = get_or x.1.edges j e in
        cell_sent x.0 x.1.birth d c (get_or d.keys m q).1)

    confirm_plain : (d : FileId) (o : Option Entry) (m : Message) → confirm_message d o ≡ Some m → Plain m
    confirm_plain d None m h = absurd (none-some m h)
    confirm_plain d (Some x) m h = subst Plain (same_Some (message.Confirm d x) m h) tt

    leave_plain : (f : FileId) (peer : ℕ) (o : Option Attributes) (m : Message) → leave_message b f peer o ≡ Some m → Plain m
    leave_plain f peer None m h = absurd (none-some m h)
    leave_plain f peer (Some own) m h = subst Plain (same_Some _ m h) tt

    request_plain : (i : Intent) (m : Message) → request b i ≡ Some m → Plain m
    request_plain (intent.Bye f birth peer other) m h = subst Plain (same_Some _ m h) tt
    request_plain (intent.Seek f target) m h = subst Plain (same_Some _ m h) tt
    request_plain (intent.Fill f birth target) m h = subst Plain (same_Some _ m h) tt
    request_plain (intent.Patch d e target) m h = subst Plain (same_Some (message.Tell d e) m h) tt
    request_plain (intent.Confirm d c target) m h = confirm_plain d (entry_at b.names d c) m h
    request_plain (intent.Leave f peer other) m h = leave_plain f other (own_at b.names f) m h

    ask_fine : (i : Intent) (m : Message) → request b i ≡ Some m → (target_of i == 0) ≡ false → Sends (sent_to b (target_of i) m)
    ask_fine i m is some = sent_is n s R b (target_of i) m (request_plain i m is) k

    pub asks_fine : All Sends (flat_map (asks b) b.intents)
    asks_fine = asks_have Sends b b.intents (λ j i lt. ask_fine (get_or b.intents j i))

    pub begun_asks : (ks : List IntentKey) → All Sends (flat_map (asks_by b) ks)
    begun_asks ks = asks_by_have Sends b ks (λ j i lt. ask_fine (get_or b.intents j i))

  -- ---- the end of an event

  pub end_seen : (a : Store) (asked : Input) → IsSeen n s R (first_effect a asked).store → IsSeen n s R (end_of a asked).store
  end_seen a asked k =
      end_has (λ (d : Done). IsSeen n s R d.store) a asked (record {
        rules = settled_seen n s R;
        intentions = intended_seen n s R;
      }) k

  pub effect_sent : (a : Store) (asked : Input) → IsFine n s R (first_effect a asked)
      → All Sends (first_effect a asked).work.tail → All Sends (effect a asked).out.sent
  effect_sent a asked k last =
      let d = end_of a asked in
      let seen = end_seen a asked k.seen in
      all_sent Sends a asked k.sent (cells_fine d.store seen (is_chosen d.work.touched d.work.linked))
      (begun_asks d.store seen d.work.begun) last

-- ---- the first effect

-- a server gives another one up, and enters this view
pub record Gives (a : Store) (asked : Input) (view : List ℕ) : Type 0 where
  pub moment : ℕ
  pub number : ℕ
  pub server : ℕ
  pub is : asked ≡ input.Call moment (call.Giveup number server)
  pub may : may_give_up a number server ≡ true
  pub entered : view ≡ removed_of a ++ server ∷ []

-- the view in which it leaves the server
pub record Goes (n s : ℕ) (a : Store) (asked : Input) (d : Done) : Type 0 where
  pub view : List ℕ
  pub fine : IsFine n s view d
  pub last : All (IsSent n s view) d.work.tail
  pub how : (view ≡ removed_of a) ⊎ Gives a asked view

-- a walk that is heard is of a server that is not removed
abbrev pub HearsLive : Store → Input → Type 0
HearsLive a (input.Arrival packet) = is_heard a packet ≡ true → IsOfLive (removed_of a) packet.message
HearsLive a _ = Unit {0}

may_enter : (a : Store) (number server : ℕ) (found : Unit {0}) → removal_at a number server ≡ Ok found
    → may_give_up a number server ≡ true
may_enter a number server found is =
    let first = behind (in_time a (tt {0})) (λ (x : Unit {0}). unless (not (may_give_up a number server)) (refusal.WrongView (view_of a)) (tt {0})) found is in
    not_false (may_give_up a number server)
    (unless_ok (not (may_give_up a number server)) (refusal.WrongView (view_of a)) (tt {0}) found first.2).0
  where
    not_false : (t : Bool) → not t ≡ false → t ≡ true
    not_false true h = refl
    not_false false h = sym h

invited_sent : (b : Store) (file : FileId) (o : Option Edge) (w : Work) → (invite_along b file o w).sent ≡ w.sent
invited_sent b file None w = refl
invited_sent b file (Some e) w = refl

invites_sent : (files : List FileId) (b : Store) (w : Work) → (invite_each b files w).sent ≡ w.sent
invites_sent [] b w = refl
invites_sent (file ∷ files) b w =
    invites_sent files b (invite_of b file w)
    ∙ chosen (λ (v : Work). v.sent ≡ w.sent) (invites b file) (invite_along b file (loose_edge b file) w) w
    (invited_sent b file (loose_edge b file) w) refl

module _ (n s : ℕ) (a : Store) (k : IsSeen n s (removed_of a) a) (together : AreTogether a) (flags : FlagsAreOf n a.names)
    (own : is_removed (removed_of a) s ≡ false) where
  abbrev Now : List ℕ
  Now = removed_of a

  begins : (moment from : ℕ) → IsFine n s Now (idle a (new_work moment from))
  begins moment from = record { seen = k; sent = All-nil (IsSent n s Now) }

  stays : (asked : Input) (d : Done) → IsFine n s Now d → All (IsSent n s Now) d.work.tail → Goes n s a asked d
  stays asked d fine last = record { view = Now; fine = fine; last = last; how = inl refl }

  -- ---- calls

  module _ (moment number server : ℕ) where
    abbrev Asked : Input
    Asked = input.Call moment (call.Giveup number server)

    abbrev W : Work
    W = new_work moment 0

    by_removal : (o : Result (Unit {0}) LookupError) → removal_at a number server ≡ o
        → Goes n s a Asked (done_of (answered a W o (λ found. answer (enter_view a server W) reply.Done)))
    by_removal (Err why) is =
        let next : Unit {0} → Answer = λ found. told a W reply.Done in
        let goes : Unit {0} → Answer = λ x. answer (enter_view a server W) reply.Done in
        let missing = λ (file : FileId) (e : (deny a why W).reply ≡ reply.Refused (NotYet file)). (refused_only_asks a (call.Giveup number server) W (NotYet file)
        (ap (λ (o : Result (Unit {0}) LookupError). (answered a W o goes).reply) is ∙ e)).missing file refl in
        stays Asked (done_of (answered a W (Err why) next)) (denied n s Now a W (begins moment 0) flags why missing)
        (subst (All (IsSent n s Now)) (sym (answered_same a W (Err why) next (λ found. refl))) (All-nil (IsSent n s Now)))
    by_removal (Ok found) is =
        let b = enter a server in
        let later = Now ++ server ∷ [] in
        let seen : IsSeen n s later b = enter_seen n s Now a server together k in
        let files = keys_of b.names.held in
        record {
          view = later;
          fine = record {
            seen = seen;
            sent = subst (All (IsSent n s later)) (sym (invites_sent files b (doubt_all b W))) (All-nil (IsSent n s later));
          };
          last = each_invites (IsSent n s later) b
              (λ m one. subst (IsSent n s later) (sym one.whole)
              (sent_is n s later b one.edge.peer (message.Invite (ends_to b one.file one.edge.birth)) tt seen))
              files (doubt_all b W) (All-nil (IsSent n s later));
          how = inr (record {
            moment = moment;
            number = number;
            server = server;
            is = refl;
            may = may_enter a number server found is;
            entered = refl;
          });
        }

  call_goes : (moment : ℕ) (c : Call) → Goes n s a (input.Call moment c) (first_effect a (input.Call moment c))
  call_goes moment (call.Giveup number server) = by_removal moment number server (removal_at a number server) refl
  call_goes moment c =
      stays (input.Call moment c) (first_effect a (input.Call moment c))
      (call_fine n s Now a (new_work moment 0) (begins moment 0) flags c refl)
      (All-weaker (GoesLast a (input.Call moment c)) (IsSent n s Now) (λ m h. absurd h) (first_effect a (input.Call moment c)).work.tail
      (first_tail a (input.Call moment c)))

  -- ---- walks

  walk_sent : (file : FileId) (origin birth : ℕ) (m : Sent) → is_removed Now origin ≡ false → IsWalkOf a file origin birth m
      → IsSent n s Now m
  walk_sent file origin birth m live walk =
      subst (IsSent n s Now) (sym walk.whole)
      (sent_is n s Now a walk.edge.peer (message.Walk (ends_to a file walk.edge.birth) origin birth walk.hops walk.word) live k)

  passed_sent : (from : ℕ) (c : Message) (m : Sent) → IsOfLive Now c → IsPassedOn a from c m → IsSent n s Now m
  passed_sent from (message.Walk ends origin birth hops word) m live h = walk_sent ends.file origin birth m live h.2
  passed_sent from c m live h = absurd h

  -- ---- ticks

  tick_goes : (moment word : ℕ) → Goes n s a (input.Tick moment word) (first_effect a (input.Tick moment word))
  tick_goes moment word =
      let asked = input.Tick moment word in
      let w = new_work moment 0 in
      let b = without_sources a in
      let seen = seen_noted n s Now a (released a.announced) k in
      let all = record (ask_all b (tick b w)) { tail = tick_walks b word } in
      let cells = cells_where b is_any in
      let again : IsFine n s Now (idle b all) = record {
        seen = seen;
        sent = All-append (IsSent n s Now) ([] ++ cells) (flat_map (asks b) b.intents)
            (All-append (IsSent n s Now) [] cells (All-nil (IsSent n s Now)) (cells_fine n s Now b seen is_any)) (asks_fine n s Now b seen);
      } in
      stays asked (first_effect a asked)
      (chosen (IsFine n s Now) (is_before_clock_end a) (ticked a word w) (idle a w)
      (subst (λ (v : Work). IsFine n s Now (idle b v)) (sym (again_is b word w)) again) (begins moment 0))
      (All-weaker (GoesLast a asked) (IsSent n s Now)
      (λ m h. walk_sent h.0 (server_of a) (birth_of a h.0) m (ap (is_removed Now) k.server ∙ own) h.2)
      (first_effect a asked).work.tail (first_tail a asked))

  -- ---- messages

  heard_from : (packet : Packet) → is_heard a packet ≡ true → is_removed Now packet.from ≡ false
  heard_from packet heard =
      let one = and_parts (is_before_clock_end a) (packet.view == view_of a && (is_live_other a packet.from && is_in_range packet.message)) heard in
      let two = and_parts (packet.view == view_of a) (is_live_other a packet.from && is_in_range packet.message) one.1 in
      let live = (and_parts (is_live_other a packet.from) (is_in_range packet.message) two.1).0 in
      (live_parts a packet.from live).stays

  message_goes : (packet : Packet) → HearsLive a (input.Arrival packet)
      → Goes n s a (input.Arrival packet) (first_effect a (input.Arrival packet))
  message_goes packet live =
      let asked = input.Arrival packet in
      let w = new_work 0 packet.from in
      stays asked (first_effect a asked)
      (decided (IsFine n s Now) (is_heard a packet) (receive a packet.message w) (idle a w)
      (λ heard. receive_fine n s Now a w packet.message (heard_from packet heard) (live heard) (begins 0 packet.from))
      (λ no. begins 0 packet.from))
      (All-weaker (GoesLast a asked) (IsSent n s Now)
      (λ m h. passed_sent packet.from packet.message m (live h.0) h.1) (first_effect a asked).work.tail (first_tail a asked))

  restart_goes : Goes n s a input.Restart (first_effect a input.Restart)
  restart_goes =
      stays input.Restart (first_effect a input.Restart) (record {
        seen = record {
          removed = k.removed;
          server = k.server;
          servers = k.servers;
          edges = k.edges;
          wishes = λ q w there. absurd (none-some w there);
        };
        sent = All-nil (IsSent n s Now);
      }) (All-nil (IsSent n s Now))

  -- ANY INPUT
  pub first_goes : (asked : Input) → HearsLive a asked → Goes n s a asked (first_effect a asked)
  first_goes (input.Call moment c) live = call_goes moment c
  first_goes (input.Tick moment word) live = tick_goes moment word
  first_goes (input.Arrival packet) live = message_goes packet live
  first_goes input.Restart live = restart_goes

  -- AN EVENT
  pub record Leaves (asked : Input) : Type 0 where
    pub view : List ℕ
    pub seen : IsSeen n s view (effect a asked).store
    pub sent : All (IsSent n s view) (effect a asked).out.sent
    pub how : (view ≡ removed_of a) ⊎ Gives a asked view

  pub effect_leaves : (asked : Input) → HearsLive a asked → Leaves asked
  effect_leaves asked live =
      let first = first_goes asked live in
      record {
        view = first.view;
        seen = subst (IsSeen n s first.view) (sym (store_is a asked)) (end_seen n s first.view a asked first.fine.seen);
        sent = effect_sent n s first.view a asked first.fine first.last;
        how = first.how;
      }
