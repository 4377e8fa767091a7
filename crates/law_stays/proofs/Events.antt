-- Each part of an event keeps who a server is, and so an event does.
use Rattle.std.proofs.Common.{[], ℕ, true, false, List, ◌∷◌, drop, length, refl}
use Rattle.law_frame.specs.pg_run.pg_base.declared.id.FileId.{FileId}
use Rattle.law_frame.specs.pg_run.pg_base.declared.policy.Policy.TheVariants.{Last}
use Rattle.law_frame.specs.pg_run.pg_call.declared.call.Call.{Call}
use Rattle.law_frame.specs.pg_run.pg_calls.Calls.{do_call}
use Rattle.law_frame.specs.pg_run.pg_calls.Forgetting.{bare_entry, dead_at, unfilled}
use Rattle.law_frame.specs.pg_run.pg_calls.Naming.{next_id, with_id}
use Rattle.law_frame.specs.pg_run.pg_cells.Settling.{rules, touch_all}
use Rattle.law_frame.specs.pg_run.pg_house.House.{house}
use Rattle.law_frame.specs.pg_run.pg_house.Work.{state_of}
use Rattle.law_frame.specs.pg_run.pg_msg.declared.message.Message.{Message}
use Rattle.law_frame.specs.pg_run.pg_msg.declared.message.Packet.{Packet}
use Rattle.law_frame.specs.pg_run.pg_msg.declared.work.Touched.{Touched}
use Rattle.law_frame.specs.pg_run.pg_msg.declared.work.Work.{Work}
use Rattle.law_frame.specs.pg_run.pg_msg.Work.{new_work}
use Rattle.law_frame.specs.pg_run.pg_names.Names as names
use Rattle.law_frame.specs.pg_run.pg_names.Names.{blank_own}
use Rattle.law_frame.specs.pg_run.pg_pieces.Done.{Done}
use Rattle.law_frame.specs.pg_run.pg_pieces.Making.{own_next}
use Rattle.law_frame.specs.pg_run.pg_repair.Granting.{granted_own}
use Rattle.law_frame.specs.pg_run.pg_server.declared.input.Input.{Input}
use Rattle.law_frame.specs.pg_run.pg_server.declared.input.Input.TheVariants as input
use Rattle.law_frame.specs.pg_run.pg_server.Local.{effect, intended, receive, settled}
use Rattle.law_frame.specs.pg_run.pg_store.declared.store.Store.{Store}
use Rattle.law_frame.specs.pg_run.pg_store.Births.{draw_birth, with_birth}
use Rattle.law_frame.specs.pg_run.pg_store.Store.{touch, with_names}
use Rattle.law_frame.proofs.pg_run.Event.{Comes, store_kept}
use Rattle.law_frame.proofs.pg_run.pg_cells.Settled.{settle_keeps}
use Rattle.law_frame.proofs.pg_run.pg_house.Keys.{rules_by}
use Rattle.law_frame.proofs.pg_run.pg_names.Lookups.{update_frame}
use Rattle.law_frame.proofs.Called.{call_keeps}
use Rattle.law_frame.proofs.Ended.{fill_born, intents_keep}
use Rattle.law_frame.proofs.Keeps.{Keeps}
use Rattle.law_frame.proofs.KeepsCalls.{KeepsCalls}
use Rattle.law_frame.proofs.Received.{receive_keeps}
use Rattle.law_stays.specs.Stays.{IsSameServer}
use Rattle.law_stays.proofs.Stays.{same_begin, same_by, same_enter, same_entry, same_flag, same_link, same_place, same_unlink, same_version}

module _ (first : Store) where
  abbrev Same : Store → Type 0
  Same = IsSameServer first

  abbrev Left : Done → Type 0
  Left d = Same d.store

  filled_same : (a : Store) (file : FileId) → Same a → Same (with_names a (names.fill a.names file))
  filled_same a file k =
      same_by first a (with_names a (names.fill a.names file)) (update_frame a.names file names.filled).server refl k

  -- ---- messages

  message_same : (a : Store) (w : Work) (m : Message) → Keeps a w m Left
  message_same a w m = record {
    cell_place = λ d ends tag p is here k. same_place first d.store ends.file p k;
    cell_flag = λ d ends tag g is here k. same_flag first d.store ends.file g k;
    cell_entry = λ d ends tag e sure is dir here k. same_entry first d.store ends.file e k;
    version = λ d file v is k. same_version first d.store file v k;
    told_place = λ d dir e is held other k. same_place first d.store e.child e.place k;
    told_flag = λ d dir e g is held among k. same_flag first d.store e.child g k;
    place_is = λ d dir e is held k. same_entry first d.store dir e k;
    tell = λ d dir e is held k. same_entry first d.store dir e k;
    links = λ d file birth is same k. same_link first d.store file d.work.from birth k;
    meets = λ d ends origin birth hops word is here k. same_link first d.store ends.file origin birth k;
    unlinks = λ d file birth is same k. same_unlink first d.store file d.work.from birth k;
    acknowledges = λ d ends q tag is same k. k;
    begins = λ ends g is pending k.
        same_begin first a ends.file ends.receiver g.policy (granted_own g) false k;
    fills = λ ends is here filling k. filled_same a ends.file k;
    raises = λ d ends is here few k. same_flag first d.store ends.file (own_next d.store ends.file true) k;
    goes = λ ends stamp is may k. k;
    says_bye = λ d ends stamp e is may among k. k;
    ends_intent = λ d q is k. k;
    turns_intent = λ d q to is k. k;
    asks_granter = λ d ends g is same k. k;
    turns_wish = λ d file to is k. k;
    answers = λ d r of same k. k;
    tells_origin = λ d ends origin birth hops word is here k. k;
    passes_on = λ ends origin birth hops word left rest i e is here at k. k;
    notes = λ d ns k. k;
    keeps = λ d file x k. k;
    tells = λ d ends head e of there k. k;
  }

  received_same : (a : Store) (packet : Packet) → Same a
      → Same (receive a packet.message (new_work 0 packet.from)).store
  received_same a packet k =
      let w = new_work 0 packet.from in
      receive_keeps a w Left packet.message (message_same a w packet.message) k

  -- ---- calls

  call_same : (a : Store) (w : Work) (c : Call) → KeepsCalls a w c Left Left
  call_same a w c = record {
    wishes = λ found some k. k;
    asks = λ file wish is some k. k;
    makes_new = λ kind policy path new is k. (
        let b = with_id a in
        let id = next_id a kind in
        same_begin first (with_birth b) id (draw_birth b) policy (blank_own id) true k);
    makes_place = λ d file place is k. same_place first d.store file place k;
    makes_flag = λ d file raised is k. same_flag first d.store file (own_next d.store file raised) k;
    makes_version = λ d file ranges is k. k;
    begins_leave = λ file flag is k. k;
    fills = λ d id is k. filled_same d.store id k;
    strikes = λ id dir is k. k;
    marks = λ d id dir to is k. same_entry first d.store to (bare_entry id (dead_at a w.now id dir)) k;
    begins_lost = λ id own is away k.
        same_begin first (unfilled (with_birth a) id) id (draw_birth a) Last own true k;
    enters = λ view server is found k. same_enter first a server k;
    leaves = λ d k. k;
  }

  called_same : (a : Store) (moment : ℕ) (c : Call) → Same a → Same (do_call a c (new_work moment 0)).store
  called_same a moment c k =
      let w = new_work moment 0 in
      call_keeps a w Left Left c (call_same a w c) k

  -- ---- the end of an event

  touches_same : (ts : List Touched) (a : Store) → Same a → Same (touch_all a ts)
  touches_same [] a k = k
  touches_same (t ∷ ts) a k = touches_same ts (touch a t.file t.key) k

  ruled_same : (a : Store) (w : Work) → Same a → Same (rules a w).store
  ruled_same a w k =
      let st = house w.now (state_of a.names w) in
      let by = rules_by w.now (state_of a.names w) in
      touches_same (drop (length w.touched) st.work.touched) (with_names a st.names)
      (same_by first a (with_names a st.names) by.0 refl k)

  settled_same : (d : Done) → Same d.store → Same (settled d).store
  settled_same d k =
      settle_keeps (λ (a : Store) (w : Work). Same a) ruled_same
      (λ a file w less h. same_flag first a file (own_next a file true) h) d.store d.work k

  intended_same : (d : Done) → Same d.store → Same (intended d).store
  intended_same d =
      intents_keep d Left (record {
        ends = λ k. k;
        patches = λ d slot away k. k;
        fills = λ d file none k. fill_born Same d.store file k k k;
        seeks = λ d file none k. k;
        aims_seek = λ d file k. k;
        confirms = λ d slot doubted k. k;
      })

pub server_stays : (store : Store) (asked : Input) → IsSameServer store (effect store asked).store
server_stays store asked =
    store_kept (λ (packet : Packet). Unit {0}) (IsSameServer store) (record {
      calls = called_same store;
      arrivals = λ a packet heard is k. received_same store a packet k;
      ticks = λ a k. k;
      restarts = λ a k. k;
      rules = settled_same store;
      intentions = intended_same store;
    }) store asked (comes asked) (refl, refl)
  where
    comes : (i : Input) → Comes (λ (packet : Packet). Unit {0}) i
    comes (input.Call moment c) = tt
    comes (input.Tick moment word) = tt
    comes (input.Arrival packet) = tt
    comes input.Restart = tt
