-- What a server does with any input keeps the rule of the edges.
use Rattle.std.proofs.Common.{ℕ, ◌≡◌, ◌≤◌, ◌==◌, Bool, true, false, cond, not, refl, sym, subst, ◌∙◌}
use Rattle.std.specs.Prelude.{nat_le}
use Rattle.std.specs.List.{flat_map}
use Rattle.std.proofs.lemmas.Bool.{and_parts, eq-eqb, leb-true}
use Rattle.std.proofs.lemmas.List.Elements.{All-append, All-nil}
use Rattle.pg_run.specs.pg_edges.declared.key.Key.{Key}
use Rattle.pg_run.specs.pg_entries.declared.cell.Cell.{Cell}
use Rattle.pg_run.specs.theory_flood.Promises.{Saying}
use Rattle.pg_run.specs.theory_flood.Promises.Saying.{Other}
use Rattle.pg_run.specs.theory_flood.Server.{Slot}
use Rattle.pg_run.proofs.theory_flood.Later.{all_may_later}
use Rattle.pg_run.proofs.theory_flood.Sends.{none_sent}
use Rattle.pg_run.proofs.theory_flood.Steps.{HasSoundTags, May, then_steps}
use Rattle.pg_run.specs.pg_msg.declared.message.Ends.{Ends}
use Rattle.pg_run.specs.pg_msg.declared.message.Message.{Message}
use Rattle.pg_run.specs.pg_msg.declared.message.Message.TheVariants as message
use Rattle.pg_run.specs.pg_msg.declared.message.Packet.{Packet}
use Rattle.pg_run.specs.pg_msg.declared.work.Work.{Work}
use Rattle.pg_run.specs.pg_msg.Work.{new_work}
use Rattle.pg_run.specs.pg_names.Names.{is_dir}
use Rattle.pg_run.specs.pg_register.Flag.{IsByServer}
use Rattle.pg_run.specs.pg_store.declared.store.Store.{Store}
use Rattle.pg_run.specs.pg_store.Seen.{server_of, view_of}
use Rattle.pg_run.specs.pg_store.Servers.{is_live_other}
use Rattle.pg_run.specs.pg_store.Store.{acknowledge, is_before_clock_end}
use Rattle.pg_run.specs.pg_pieces.declared.accepting.EdgeUse.TheVariants as manner
use Rattle.pg_run.specs.pg_pieces.Accepting.{accept}
use Rattle.pg_run.specs.pg_cells.Acks.{ack}
use Rattle.pg_run.specs.pg_cells.Cells.{cell}
use Rattle.pg_run.specs.pg_pieces.Done.{Done, idle, link_of}
use Rattle.pg_run.specs.pg_cells.Sending.{is_any}
use Rattle.pg_run.specs.pg_cells.Ticks.{tick}
use Rattle.pg_run.specs.pg_repair.Confirming.{confirm, place_is}
use Rattle.pg_run.specs.pg_repair.Fetching.{fetch}
use Rattle.pg_run.specs.pg_repair.Filling.{full, invite}
use Rattle.pg_run.specs.pg_repair.Granting.{gone, grant, no_grant}
use Rattle.pg_run.specs.pg_repair.NoneHere.{none_here}
use Rattle.pg_run.specs.pg_intentions.Requests.{ask_all, asks}
use Rattle.pg_run.specs.pg_graph.Leaving.{bye, bye_ok, leave, leave_ok}
use Rattle.pg_run.specs.pg_graph.Seeking.{seek}
use Rattle.pg_run.specs.pg_repair.Telling.{tell, tell_ok}
use Rattle.pg_run.specs.pg_graph.Walks.{walk}
use Rattle.pg_run.specs.pg_calls.Calls.{do_call}
use Rattle.pg_run.specs.pg_server.declared.input.Input.{Input}
use Rattle.pg_run.specs.pg_server.declared.input.Input.TheVariants as input
use Rattle.pg_run.specs.pg_server.pg_transfer.Delta.{delta}
use Rattle.pg_run.specs.pg_server.pg_transfer.Harbinger.{harbinger}
use Rattle.pg_run.specs.pg_server.pg_transfer.Later.{later}
use Rattle.pg_run.specs.pg_server.pg_transfer.Piece.{piece}
use Rattle.pg_run.specs.pg_server.pg_transfer.Want.{want}
use Rattle.pg_run.specs.pg_server.Local.{Effect, done_of, effect, first_effect, is_heard, receive, sent_again, takes_effect, ticked, without_sources, without_volatile}
use Rattle.pg_run.specs.theory_flood_pieces.Seen.{Along, Hearing, cells_in, hears, saying, says}
use Rattle.pg_run.specs.theory_flood_pieces.Whole.{IsOther, IsWhole, PatchesAreForDirs}
use Rattle.pg_run.proofs.theory_flood_pieces.Acks.{acknowledged, none_noted}
use Rattle.pg_run.proofs.theory_flood_pieces.Choices.{decided}
use Rattle.pg_run.proofs.theory_flood_pieces.Sending.{others_may, tick_may}
use Rattle.pg_run.proofs.theory_flood_pieces.Whole.{whole_acknowledge}
use Rattle.pg_run.specs.Away.{BeginsWhatIsAway}
use Rattle.pg_run.specs.Ruled.{heard_in}
use Rattle.pg_run.proofs.Event.{asks_have, effect_is, end_of, store_is}
use Rattle.law_acks.proofs.Calls.{call_on}
use Rattle.law_acks.proofs.Came.{SourceSuits, delta_done, piece_done}
use Rattle.law_acks.proofs.Cells.{Suits, cell_is_done}
use Rattle.law_acks.proofs.Contents.{AreOfHistory}
use Rattle.law_acks.proofs.Gone.{Counts, CountsIn}
use Rattle.law_acks.proofs.Told.{harbinger_done, later_done, want_done}
use Rattle.law_acks.proofs.Heads.{IsHeadComing}
use Rattle.law_acks.proofs.Handlers.{accept_done, confirm_done, fetch_done, full_done, gone_done, grant_done, no_grant_done, none_here_done, place_is_done, tell_done, tell_ok_done}
use Rattle.law_acks.proofs.Losing.{invite_done}
use Rattle.law_acks.proofs.Leaving.{bye_done, bye_ok_done, leave_done, leave_ok_done}
use Rattle.law_acks.proofs.Walks.{seek_done, tick_walk_done, walk_done}
use Rattle.law_acks.proofs.Pieces.{IsDone, MayGoLast, Stands, beside_done, nothing_done}
use Rattle.law_acks.proofs.Asked.{IsUnread, IsWell, all_unread, all_well, cells_well}
use Rattle.law_acks.proofs.Ends.{IsFirst, IsKind, begins_here, end_first, ended_good}

-- ---- the first effect

-- what is asked of a message that comes from a server
abbrev pub SuitsMessage : Along → ℕ → ℕ → Store → ℕ → Message → Type 0
SuitsMessage along n s a from (message.Cell ends tag c) = Suits a ends.file c
SuitsMessage along n s a from (message.Harbinger ends tag head) = IsHeadComing a ends.file head
SuitsMessage along n s a from (message.Delta ends d) = SourceSuits along s a from ends.file d.head.stamp
SuitsMessage along n s a from (message.Piece ends p) = SourceSuits along s a from ends.file p.head.stamp
SuitsMessage along n s a from (message.Grant ends granted) = IsByServer granted.flags
SuitsMessage along n s a from (message.PlaceIs dir e) = is_dir dir ≡ true
SuitsMessage along n s a from (message.Tell dir e) = is_dir dir ≡ true
SuitsMessage along n s a from (message.Walk ends origin birth hops word) = (1 ≤ origin) × (origin ≤ n)
SuitsMessage along n s a from _ = Unit {0}

abbrev pub SuitsInput : Along → ℕ → ℕ → Store → Input → Type 0
SuitsInput along n s a (input.Call moment call) = Unit {0}
SuitsInput along n s a (input.Tick moment word) = Unit {0}
SuitsInput along n s a (input.Arrival packet) = SuitsMessage along n s a packet.from packet.message
SuitsInput along n s a input.Restart = Unit {0}

module _ (along : Along) (n s : ℕ) (a : Store) (k : IsWhole n s a) (of : AreOfHistory a)
    (away : BeginsWhatIsAway a) where
  -- what is heard
  abbrev Now : Saying Slot Cell → Hearing
  Now said = hears along said

  -- a chain that begins where the server was
  first_here : (heard : Hearing) (d : Done) → IsDone n s a heard d
      → IsFirst n s a heard d
  first_here heard d u = record { start = a; begins = begins_here n s a heard k; goes = u }

  nothing_first : (heard : Hearing) (moment from : ℕ)
      → IsFirst n s a heard (idle a (new_work moment from))
  nothing_first heard moment from = first_here heard (idle a (new_work moment from)) (nothing_done n s a heard moment from k)

  -- an answer is heard
  acked_first : (from : ℕ) (ends : Ends) (q : Key) (tag : ℕ)
      → IsFirst n s a (Now (saying from s (message.Ack ends q tag))) (ack a ends q tag (new_work 0 from))
  acked_first from ends q tag =
      let said = saying from s (message.Ack ends q tag) in
      let b = acknowledge a ends.file (link_of from ends) q tag in
      let acked = acknowledged along s a from ends q tag in
      let whole = whole_acknowledge n s a k ends.file (link_of from ends) q tag in
      record {
        start = b;
        begins = record {
          rule = λ c sent f may.
              then_steps (cells_in along) s a b c said sent acked.rule f (none_noted along a c said) may;
          on = acked.rule.onward.covers;
          tags = acked.tags;
          whole = whole;
        };
        goes = nothing_done n s b (Now said) 0 from whole;
      }

  module _ (from : ℕ) (other : IsOther n s from) where
    abbrev W : Work
    W = new_work 0 from

    abbrev Said : Message → Hearing
    Said m = Now (saying from s m)

    abbrev First : Message → Done → Type 0
    First m d = IsFirst n s a (Said m) d

    here : (m : Message) (d : Done) → IsDone n s a (Said m) d → First m d
    here m d u = first_here (Said m) d u

    start : (m : Message) → Stands n s a (Said m) a W
    start m = nothing_done n s a (Said m) 0 from k

    -- EVERY MESSAGE
    received_first : (m : Message) → SuitsMessage along n s a from m → CountsIn along.over a m W → First m (receive a m W)
    received_first (message.Cell ends tag c) suits counts =
        let m = message.Cell ends tag c in
        here m (cell a ends tag c W) (cell_is_done along n s a ends tag c W other (start m) suits)
    received_first (message.Ack ends q tag) suits counts = acked_first from ends q tag
    received_first (message.Fetch file birth) suits counts =
        let m = message.Fetch file birth in
        here m (fetch a file birth W) (fetch_done n s a (Said m) a W (start m) file birth other)
    received_first (message.Grant ends g) suits counts =
        let m = message.Grant ends g in
        here m (grant a ends g W)
        (grant_done n s a (Said m) a W (start m) ends g other (away.wished ends.file) suits)
    received_first (message.NoGrant file birth) suits counts =
        let m = message.NoGrant file birth in
        here m (no_grant a file birth W) (no_grant_done n s a (Said m) a W (start m) file birth)
    received_first (message.Full ends) suits counts =
        let m = message.Full ends in
        here m (full a ends W) (full_done n s a (Said m) a W (start m) ends)
    received_first (message.NoneHere what file child) suits counts =
        let m = message.NoneHere what file child in
        here m (none_here a what file child W)
        (none_here_done n s a (Said m) a W (start m) what file child)
    received_first (message.Gone file birth) suits counts =
        let m = message.Gone file birth in
        here m (gone a file birth W) (gone_done n s a (Said m) a W (start m) file birth)
    received_first (message.Confirm dir e) suits counts =
        let m = message.Confirm dir e in
        here m (confirm a dir e W) (confirm_done n s a (Said m) a W (start m) dir e)
    received_first (message.PlaceIs dir e) suits counts =
        let m = message.PlaceIs dir e in
        here m (place_is a dir e W) (place_is_done n s a (Said m) a W (start m) dir e suits)
    received_first (message.Tell dir e) suits counts =
        let m = message.Tell dir e in
        here m (tell a dir e W) (tell_done n s a (Said m) a W (start m) dir e suits)
    received_first (message.TellOk dir child stamp) suits counts =
        let m = message.TellOk dir child stamp in
        here m (tell_ok a dir child stamp W)
        (tell_ok_done n s a (Said m) a W (start m) dir child stamp)
    received_first (message.Seek file birth) suits counts =
        let m = message.Seek file birth in
        here m (seek a file birth W) (seek_done n s a (Said m) a W (start m) file birth other)
    received_first (message.Greet ends why) suits counts =
        let m = message.Greet ends why in
        here m (accept a ends manner.Makes W)
        (accept_done n s a (Said m) a W (start m) ends manner.Makes other)
    received_first (message.Walk ends origin birth hops word) suits counts =
        let m = message.Walk ends origin birth hops word in
        here m (walk a ends origin birth hops word W)
        (walk_done n s a (Said m) a W (start m) ends origin birth hops word other suits.0 suits.1)
    received_first (message.Harbinger ends tag head) suits counts =
        let m = message.Harbinger ends tag head in
        here m (harbinger a ends tag head W) (harbinger_done along n s a ends tag head W other (start m) suits)
    received_first (message.Want ends wanted) suits counts =
        let m = message.Want ends wanted in
        here m (want a ends wanted W) (want_done n s a (Said m) W (start m) ends wanted other)
    received_first (message.Delta ends d) suits counts =
        let m = message.Delta ends d in
        here m (delta a ends d W) (delta_done along n s a (saying from s m) ends d W suits other (start m))
    received_first (message.Piece ends p) suits counts =
        let m = message.Piece ends p in
        here m (piece a ends p W) (piece_done along n s a (saying from s m) ends p W suits other (start m))
    received_first (message.Later ends stamp) suits counts =
        let m = message.Later ends stamp in
        here m (later a ends stamp W) (later_done n s a (Said m) W (start m) ends stamp other)
    received_first (message.Bye ends) suits counts =
        let m = message.Bye ends in
        here m (bye a ends W) (bye_done n s a (Said m) a W (start m) ends)
    received_first (message.ByeOk file birth) suits counts =
        let m = message.ByeOk file birth in
        here m (bye_ok a file birth W) (bye_ok_done n s a (Said m) a W (start m) file birth)
    received_first (message.Leave ends stamp) suits counts =
        let m = message.Leave ends stamp in
        here m (leave a ends stamp W) (leave_done n s a (Said m) a W (start m) ends stamp other)
    received_first (message.LeaveOk ends stamp) suits counts =
        let m = message.LeaveOk ends stamp in
        here m (leave_ok a ends stamp W) (leave_ok_done n s a (Said m) a W (start m) ends stamp counts)
    received_first (message.Invite ends) suits counts =
        let m = message.Invite ends in
        here m (invite a ends W) (invite_done n s a (Said m) a W (start m) ends other)

  -- ---- who is heard is another server of the run

  other_by : (from : ℕ) → is_live_other a from ≡ true → IsOther n s from
  other_by from h =
      let one = and_parts (nat_le 1 from) _ h in
      let two = and_parts (nat_le from a.servers) _ one.1 in
      let three = and_parts (not (from == server_of a)) _ two.1 in
      record {
        least = leb-true 1 from one.0;
        most = subst (λ m. from ≤ m) k.servers (leb-true from a.servers two.0);
        apart = λ same. apart_by (from == server_of a) (eq-eqb from (server_of a) (same ∙ sym k.server)) three.0;
      }
    where
      apart_by : (t : Bool) → t ≡ true → not t ≡ true → ⊥
      apart_by true same h = let z : false ≡ true = h in cc
      apart_by false same h = let z : false ≡ true = same in cc

  other_heard : (packet : Packet) → is_heard a packet ≡ true → IsOther n s packet.from
  other_heard packet h =
      let one = and_parts (is_before_clock_end a) _ h in
      let two = and_parts (packet.view == view_of a) _ one.1 in
      other_by packet.from (and_parts (is_live_other a packet.from) _ two.1).0

  -- ---- ticks

  tick_first : (moment word : ℕ) → 1 ≤ s → s ≤ n → HasSoundTags (cells_in along) a
      → IsFirst n s a (Now Other) (ticked a word (new_work moment 0))
  tick_first moment word least most sound =
      let w = new_work moment 0 in
      let b = without_sources a in
      let begun =
      beside_done n s a (Now Other) a w (nothing_done n s a (Now Other) moment 0 k) b
      (record { servers = refl; tags = refl; names = refl; replicas = refl }) k.patches in
      let asked = ask_all b (tick b w) in
      let own = sym k.server in
      let cells_may =
      tick_may along n s a b Other (begun.way.steps.tags sound) begun.way.whole w (none_sent (cells_in along) s a b Other) in
      let asks_may = others_may along s a b Other (flat_map (asks b) b.intents) (asks_have IsUnread b b.intents (all_unread b)) in
      let may = All-append (λ m. May (cells_in along) s a b Other (says m)) (tick b w).sent (flat_map (asks b) b.intents) cells_may asks_may in
      first_here (Now Other) (idle b (sent_again b word w))
      (tick_walk_done n s a (Now Other) b asked (record {
        way = record {
          steps = begun.way.steps;
          whole = begun.way.whole;
          sends = λ c f. all_may_later (cells_in along) s a b c Other asked.sent f may;
        };
        said = All-append (IsWell n) (tick b w).sent (flat_map (asks b) b.intents) (cells_well n b is_any)
            (asks_have (IsWell n) b b.intents (all_well n b));
        last = All-nil (MayGoLast n);
      }) (subst (λ (i : ℕ). 1 ≤ i) own least) (subst (λ (i : ℕ). i ≤ n) own most) word)

  ticked_first : (moment word : ℕ) (t : Bool) → 1 ≤ s → s ≤ n → HasSoundTags (cells_in along) a
      → IsFirst n s a (Now Other) (cond t (ticked a word (new_work moment 0)) (idle a (new_work moment 0)))
  ticked_first moment word true least most sound = tick_first moment word least most sound
  ticked_first moment word false least most sound = nothing_first (Now Other) moment 0

  -- EVERY INPUT
  pub first_done : (asked : Input) → 1 ≤ s → s ≤ n → SuitsInput along n s a asked → Counts along.over a asked
      → HasSoundTags (cells_in along) a → IsFirst n s a (Now (heard_in s asked)) (first_effect a asked)
  first_done (input.Call moment c) least most suits counts sound =
      first_here (Now Other) (done_of (do_call a c (new_work moment 0)))
      (call_on n s a k (Now Other) of away moment c)
  first_done (input.Tick moment word) least most suits counts sound = ticked_first moment word (is_before_clock_end a) least most sound
  first_done (input.Arrival packet) least most suits counts sound =
      let heard = Now (saying packet.from s packet.message) in
      decided (IsFirst n s a heard) (is_heard a packet) (receive a packet.message (new_work 0 packet.from))
      (idle a (new_work 0 packet.from))
      (λ t. received_first packet.from (other_heard packet t) packet.message suits (counts t))
      (λ f. nothing_first heard 0 packet.from)
  first_done input.Restart least most suits counts sound =
      let lost = without_volatile a in
      let w = new_work 0 0 in
      first_here (Now Other) (idle lost w)
      (beside_done n s a (Now Other) a w (nothing_done n s a (Now Other) 0 0 k) lost
      (record { servers = refl; tags = refl; names = refl; replicas = refl }) k.patches)

  -- AN EFFECT
  pub effect_good : (asked : Input) → 1 ≤ s → s ≤ n → SuitsInput along n s a asked → Counts along.over a asked
      → HasSoundTags (cells_in along) a → PatchesAreForDirs (effect a asked).store
      → IsKind n s a (Now (heard_in s asked)) (effect a asked).store (effect a asked).out.sent
  effect_good asked least most suits counts sound patches =
      let heard = Now (heard_in s asked) in
      let for_dirs : PatchesAreForDirs (end_of a asked).store = subst PatchesAreForDirs (store_is a asked) patches in
      subst (λ (e : Effect). IsKind n s a heard e.store e.out.sent) (sym (effect_is a asked))
      (ended_good n s a heard (end_of a asked)
      (end_first n s a heard (first_effect a asked) (takes_effect a asked) for_dirs (first_done asked least most suits counts sound)) sound)
