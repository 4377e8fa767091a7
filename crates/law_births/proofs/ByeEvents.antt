-- What stands at the key of a Bye behind an event: what stood there, but for an answer, a replica
-- that goes, and a peer that is removed.
use Rattle.std.proofs.Common.{ℕ, ◌≡◌, ◌==◌, Bool, true, false, cond, List, [], ◌∷◌, Option, None, Some, is_some, Ok, eq-eqb, inl, inr, refl, sym, ap, subst, ◌∙◌}
use Rattle.std.proofs.lemmas.Bool.{eqb-true, false≢true}
use Rattle.pg_run.specs.pg_base.declared.id.FileId.{FileId}
use Rattle.pg_run.specs.pg_base.declared.stamp.Stamp.{Stamp}
use Rattle.pg_run.specs.pg_call.declared.call.Call.{Call}
use Rattle.pg_run.specs.pg_call.declared.call.Call.TheVariants as call
use Rattle.pg_run.specs.pg_call.declared.reply.Reply.{Reply}
use Rattle.pg_run.specs.pg_calls.GivingUp.{removal_at}
use Rattle.pg_run.specs.pg_store.Views.{enter}
use Rattle.pg_run.specs.pg_edges.declared.edge.Edge.{Edge}
use Rattle.pg_run.specs.pg_edges.Edges.{edge_to, is_listed, keys_if_born}
use Rattle.pg_run.specs.pg_intent.declared.intent.Intent.{Intent}
use Rattle.pg_run.specs.pg_intent.declared.intent.Intent.TheVariants as intent
use Rattle.pg_run.specs.pg_intent.declared.key.IntentKey.TheVariants as intent_key
use Rattle.pg_run.specs.pg_intent.Intents.{begun_on}
use Rattle.pg_run.specs.pg_intent.Key.{is_same_key}
use Rattle.pg_run.proofs.pg_intent.Found.{begun_found}
use Rattle.pg_run.proofs.pg_intent.SameKey.{is_same_key-refl, is_same_key-true}
use Rattle.pg_run.specs.pg_msg.declared.message.Ends.{Ends}
use Rattle.pg_run.specs.pg_msg.declared.message.Message.{Message}
use Rattle.pg_run.specs.pg_msg.declared.message.Message.TheVariants as message
use Rattle.pg_run.specs.pg_msg.declared.message.Packet.{Packet}
use Rattle.pg_run.specs.pg_msg.declared.work.Work.{Work}
use Rattle.pg_run.specs.pg_msg.Work.{new_work}
use Rattle.pg_run.specs.pg_store.declared.store.Store.{Store}
use Rattle.pg_run.specs.pg_store.Store.{is_before_clock_end}
use Rattle.pg_run.specs.pg_pieces.Done.{Done, idle}
use Rattle.pg_run.specs.pg_pieces.Intending.{begin_intent}
use Rattle.pg_run.specs.pg_pieces.Parting.{stays_for}
use Rattle.pg_run.specs.pg_graph.Leaving.{begin_byes, bye_ok, bye_to, goes, goes_now, goes_or_stays, leave_ok, may_leave, without_leave}
use Rattle.pg_run.specs.pg_server.declared.input.Input.{Input}
use Rattle.pg_run.specs.pg_server.declared.input.Input.TheVariants as input
use Rattle.pg_run.specs.pg_server.Local.{Effect, closed, effect, finished, first_effect, is_heard, receive, reply_to, settled, takes_effect, ticked}
use Rattle.pg_run.proofs.theory_flood_pieces.Choices.{chosen, decided}
use Rattle.law_births.proofs.ByeCalls.{call_same}
use Rattle.law_births.proofs.ByeLosses.{enter_bye}
use Rattle.law_births.proofs.ByeKeys.{ByeKey, Same, bye_in, end_same, ended_same, received_same, settle_same}
use Rattle.law_births.proofs.Ends.{listed_if}
use Rattle.law_births.proofs.Leaves.{now_goes}

module _ (file : FileId) (birth peer : ℕ) (P : Option Intent → Type 0) where
  abbrev At : Store → Option Intent
  At a = bye_in file birth peer a

  pub on : {o q : Option Intent} → q ≡ o → P o → P q
  on same k = subst P (sym same) k

  -- answered: behind the answer to a Bye
  -- left: and behind leave to go
  pub record Changes (a : Store) (m : Message) (w : Work) : Type 0 where
    pub answered : (f : FileId) (n : ℕ) → m ≡ message.ByeOk f n → P (At (bye_ok a f n w).store)
    pub left : (x : Ends) (stamp : Stamp) → m ≡ message.LeaveOk x stamp → P (At (leave_ok a x stamp w).store)

  -- ANY MESSAGE
  pub received_bye : (a : Store) (m : Message) (w : Work) → Changes a m w → P (At a) → P (At (receive a m w).store)
  received_bye a (message.ByeOk f n) w changes k = changes.answered f n refl
  received_bye a (message.LeaveOk x stamp) w changes k = changes.left x stamp refl
  received_bye a m w changes k = on (received_same file birth peer a w m refl) k

  -- what a message that is heard changes, and a removal of the peer
  pub record ChangesIn (a : Store) (asked : Input) : Type 0 where
    pub says : (packet : Packet) → asked ≡ input.Arrival packet → takes_effect a asked ≡ true
        → Changes a packet.message (new_work 0 packet.from)
    pub entered : (moment view : ℕ) (u : Unit {0}) → asked ≡ input.Call moment (call.Giveup view peer) → removal_at a view peer ≡ Ok u → P None

  -- what a call leaves
  entered_on : (a : Store) (moment view server : ℕ) (u : Unit {0}) (c : Call) → c ≡ call.Giveup view server → removal_at a view server ≡ Ok u
      → ChangesIn a (input.Call moment c) → P (At a) → P (At (enter a server))
  entered_on a moment view server u c is at changes k = elim (enter_bye file birth peer a server) [
    | inl same ↦ on same k
    | inr none ↦ on none.0 (changes.entered moment view u (ap (input.Call moment) (is ∙ ap (call.Giveup view) none.1))
        (subst (λ t. removal_at a view t ≡ Ok u) none.1 at))
  ]

  called_bye : (a : Store) (moment : ℕ) (c : Call) → ChangesIn a (input.Call moment c) → P (At a) → P (At (first_effect a (input.Call moment c)).store)
  called_bye a moment c changes k = elim (call_same file birth peer a (new_work moment 0) c) [
    | inl same ↦ on same k
    | inr g ↦ on (ap At g.5) (entered_on a moment g.0 g.1 g.2 c g.3 g.4 changes k)
  ]

  pub first_bye : (a : Store) (asked : Input) → ChangesIn a asked → P (At a) → P (At (first_effect a asked).store)
  first_bye a (input.Call moment c) changes k = called_bye a moment c changes k
  first_bye a (input.Tick moment word) changes k =
      let w = new_work moment 0 in
      chosen (λ (d : Done). P (At d.store)) (is_before_clock_end a) (ticked a word w) (idle a w) k k
  first_bye a (input.Arrival packet) changes k =
      let w = new_work 0 packet.from in
      decided (λ (d : Done). P (At d.store)) (is_heard a packet) (receive a packet.message w) (idle a w)
      (λ heard. received_bye a packet.message w (changes.says packet refl heard) k) (λ no. k)
  first_bye a input.Restart changes k = k

  closed_bye : (r : Option Reply) (d : Done) → P (At d.store) → P (At (closed r d).store)
  closed_bye r d k =
      let s = settled d in
      on (end_same file birth peer s.store s.work) (on (settle_same file birth peer d.store d.work) k)

  -- ANY INPUT
  pub effect_bye : (a : Store) (asked : Input) → ChangesIn a asked → P (At a) → P (At (effect a asked).store)
  effect_bye a asked changes k =
      let d = first_effect a asked in
      let first = first_bye a asked changes k in
      chosen (λ (e : Effect). P (At e.store)) (takes_effect a asked) (closed (reply_to a asked) d) (finished (reply_to a asked) d)
      (closed_bye (reply_to a asked) d first) first

  -- behind what a message that is heard does at first
  pub arrival_bye : (a : Store) (packet : Packet) → is_heard a packet ≡ true
      → P (At (receive a packet.message (new_work 0 packet.from)).store) → P (At (effect a (input.Arrival packet)).store)
  arrival_bye a packet heard k =
      let w = new_work 0 packet.from in
      let d = cond (is_heard a packet) (receive a packet.message w) (idle a w) in
      let first : P (At d.store) = subst (λ t. P (At (cond t (receive a packet.message w) (idle a w)).store)) (sym heard) k in
      chosen (λ (e : Effect). P (At e.store)) (is_heard a packet) (closed None d) (finished None d) (closed_bye None d first) first

-- ---- a replica goes

-- where it does, and where it does not
pub left_by : (a : Store) (x : Ends) (stamp : Stamp) (w : Work) (Q : Done → Type 0) → Q (idle a w) → Q (idle (without_leave a x.file) w)
    → (may_leave a x stamp w ≡ true → goes_now a x stamp w ≡ true → Q (goes (without_leave a x.file) x.file w)) → Q (leave_ok a x stamp w)
left_by a x stamp w Q none ended gone =
    let b = without_leave a x.file in
    let kept = is_some (stays_for b x.file) in
    decided Q (may_leave a x stamp w) (goes_or_stays b x.file w) (idle a w)
    (λ t. decided Q kept (idle b w) (goes b x.file w) (λ u. ended) (λ u. gone t (now_goes (may_leave a x stamp w) kept t u)))
    (λ no. none)

module _ (file : FileId) (birth peer : ℕ) where
  abbrev Found : Done → Option Intent
  Found d = bye_in file birth peer d.store

  pub without_same : (a : Store) (f : FileId) → Same file birth peer a (without_leave a f)
  without_same a f = ended_same file birth peer a (intent_key.Leave f) refl

  one_begins : (d : Done) (f : FileId) (n : ℕ) (e : Edge) (t : Bool) → is_same_key (ByeKey file birth peer) (intent_key.Bye f n e.peer) ≡ t
      → Found (begin_intent d.store (bye_to f n e) d.work) ≡ cond t (Some (begun_on (Found d) (bye_to f n e))) (Found d)
  one_begins d f n e t same =
      begun_found d.store.intents (bye_to f n e) (ByeKey file birth peer)
      ∙ ap (λ u. cond u (Some (begun_on (Found d) (bye_to f n e))) (Found d)) same

  -- one that stood stands on
  stood_by : (d : Done) (f : FileId) (n m : ℕ) (e : Edge) (t : Bool) → is_same_key (ByeKey file birth peer) (intent_key.Bye f n e.peer) ≡ t
      → Found d ≡ Some (intent.Bye file birth peer m) → Found (begin_intent d.store (bye_to f n e) d.work) ≡ Some (intent.Bye file birth peer m)
  stood_by d f n m e true same stood =
      one_begins d f n e true same ∙ ap (λ (o : Option Intent). Some (begun_on o (bye_to f n e))) stood
  stood_by d f n m e false same stood = one_begins d f n e false same ∙ stood

  pub byes_leave : (f : FileId) (n m : ℕ) (es : List Edge) (d : Done) → Found d ≡ Some (intent.Bye file birth peer m)
      → Found (begin_byes f n es d) ≡ Some (intent.Bye file birth peer m)
  byes_leave f n m [] d stood = stood
  byes_leave f n m (e ∷ es) d stood =
      byes_leave f n m es (begin_intent d.store (bye_to f n e) d.work)
      (stood_by d f n m e (is_same_key (ByeKey file birth peer) (intent_key.Bye f n e.peer)) refl stood)

  -- a new one is of what goes
  same_parts : (f : FileId) (n q : ℕ) → ByeKey file birth peer ≡ intent_key.Bye f n q → (file ≡ f) × (birth ≡ n)
  same_parts f n q same = (cc, cc)

  module _ (P : Option Intent → Type 0) (f : FileId) (n : ℕ) (of : file ≡ f → birth ≡ n → (o : Option Intent) → P o) where
    new_by : (d : Done) (e : Edge) (t : Bool) → is_same_key (ByeKey file birth peer) (intent_key.Bye f n e.peer) ≡ t → P (Found d)
        → P (Found (begin_intent d.store (bye_to f n e) d.work))
    new_by d e true same k =
        let parts = same_parts f n e.peer (is_same_key-true (ByeKey file birth peer) (intent_key.Bye f n e.peer) same) in
        of parts.0 parts.1 (Found (begin_intent d.store (bye_to f n e) d.work))
    new_by d e false same k = subst P (sym (one_begins d f n e false same)) k

    pub byes_begin : (es : List Edge) (d : Done) → P (Found d) → P (Found (begin_byes f n es d))
    byes_begin [] d k = k
    byes_begin (e ∷ es) d k =
        byes_begin es (begin_intent d.store (bye_to f n e) d.work)
        (new_by d e (is_same_key (ByeKey file birth peer) (intent_key.Bye f n e.peer)) refl k)

  -- each peer of it is told, where none was before
  other_key : (q : ℕ) (t : Bool) → is_same_key (ByeKey file birth peer) (intent_key.Bye file birth q) ≡ t → (q == peer) ≡ false → t ≡ false
  other_key q false same apart = refl
  other_key q true same apart =
      let key : ByeKey file birth peer ≡ intent_key.Bye file birth q = is_same_key-true (ByeKey file birth peer) (intent_key.Bye file birth q) same in
      let here : q ≡ peer = cc in
      absurd (false≢true (sym apart ∙ eq-eqb q peer here))

  told_here : (d : Done) (e : Edge) (es : List Edge) (m : ℕ) → e.peer ≡ peer → e.birth ≡ m → Found d ≡ None
      → Found (begin_byes file birth es (begin_intent d.store (bye_to file birth e) d.work)) ≡ Some (intent.Bye file birth peer m)
  told_here d e es m here born none =
      let key : is_same_key (ByeKey file birth peer) (intent_key.Bye file birth e.peer) ≡ true =
      ap (λ q. is_same_key (ByeKey file birth peer) (intent_key.Bye file birth q)) here ∙ is_same_key-refl (ByeKey file birth peer) in
      byes_leave file birth m es (begin_intent d.store (bye_to file birth e) d.work)
      (one_begins d file birth e true key ∙ ap (λ (o : Option Intent). Some (begun_on o (bye_to file birth e))) none
      ∙ ap (λ q. Some (intent.Bye file birth q e.birth)) here ∙ ap (λ k. Some (intent.Bye file birth peer k)) born)

  told_by : (d : Done) (e : Edge) (es : List Edge) (m : ℕ) (t : Bool) → (e.peer == peer) ≡ t → Found d ≡ None
      → (is_listed es peer m ≡ true → (c : Done) → Found c ≡ None → Found (begin_byes file birth es c) ≡ Some (intent.Bye file birth peer m))
      → is_some (keys_if_born (cond t (Some e) (edge_to es peer)) m) ≡ true
      → Found (begin_byes file birth (e ∷ es) d) ≡ Some (intent.Bye file birth peer m)
  told_by d e es m true same none later listed =
      told_here d e es m (eqb-true e.peer peer same) (listed_if e m (e.birth == m) refl listed) none
  told_by d e es m false same none later listed =
      later listed (begin_intent d.store (bye_to file birth e) d.work)
      (one_begins d file birth e false
      (other_key e.peer (is_same_key (ByeKey file birth peer) (intent_key.Bye file birth e.peer)) refl same) ∙ none)

  pub each_told : (m : ℕ) (es : List Edge) → is_listed es peer m ≡ true → (d : Done) → Found d ≡ None
      → Found (begin_byes file birth es d) ≡ Some (intent.Bye file birth peer m)
  each_told m [] listed d none = absurd (false≢true listed)
  each_told m (e ∷ es) listed d none = told_by d e es m (e.peer == peer) refl none (each_told m es) listed
