-- What is sent without a Want: all but the answers to a harbinger, a piece and a delta. Then whom a
-- server asked last is as before.
use Rattle.std.proofs.Common.{ℕ, ◌≡◌, ◌==◌, ◌++◌, Bool, true, false, cond, List, [], ◌∷◌, nat_lt, Option, None, Some, refl, sym, ap, subst, ◌∙◌, All}
use Rattle.std.specs.List.{flat_map}
use Rattle.std.specs.Option.{option_or}
use Rattle.std.proofs.lemmas.Bool.{false≢true}
use Rattle.std.proofs.lemmas.List.Elements.{All-append, All-head, All-nil, All-tail}
use Rattle.pg_run.specs.pg_base.declared.id.FileId.{FileId}
use Rattle.pg_run.specs.pg_base.declared.stamp.Stamp.{Stamp}
use Rattle.pg_run.specs.pg_call.declared.call.Call.{Call}
use Rattle.pg_run.specs.pg_edges.declared.edge.Edge.{Edge}
use Rattle.pg_run.specs.pg_entries.declared.cell.Cell.{Cell}
use Rattle.pg_run.specs.pg_entries.declared.cell.Cell.TheVariants as cell
use Rattle.pg_run.specs.pg_entries.declared.entry.Entry.{Entry}
use Rattle.pg_run.specs.pg_intent.declared.intent.Intent.{Intent}
use Rattle.pg_run.specs.pg_intent.declared.intent.Intent.TheVariants as intent
use Rattle.pg_run.specs.pg_intent.Intent.{target_of}
use Rattle.pg_run.specs.pg_msg.declared.message.Ends.{Ends}
use Rattle.pg_run.specs.pg_msg.declared.message.Message.{Message}
use Rattle.pg_run.specs.pg_msg.declared.message.Message.TheVariants as message
use Rattle.pg_run.specs.pg_msg.declared.message.Sent.{Sent}
use Rattle.pg_run.specs.pg_msg.declared.work.Work.{Work}
use Rattle.pg_run.specs.pg_msg.Work.{new_work}
use Rattle.pg_run.specs.pg_names.declared.attributes.Attributes.{Attributes}
use Rattle.pg_run.specs.pg_names.Names.{cell_at, own_at}
use Rattle.pg_run.specs.pg_replica.declared.replica.Replica.{Replica}
use Rattle.pg_run.specs.Asking.{last_wanted, wanted_by, wanted_in}
use Rattle.pg_run.proofs.Bags.{All-every}
use Rattle.pg_run.proofs.Event.{AskHas, CellHas, asks_by_have, asks_have, asks_sent, cells_have, cells_sent, end_of, sent_is}
use Rattle.pg_run.proofs.LastWalks.{lasts_have}
use Rattle.pg_run.proofs.Sends.{AnswersHave, accept_fine, is_plain, received_fine, tick_walk_fine}
use Rattle.pg_run.proofs.SendsCalls.{call_fine}
use Rattle.pg_run.proofs.Ticked.{tick_work}
use Rattle.pg_run.specs.pg_store.declared.store.Store.{Store}
use Rattle.pg_run.specs.pg_pieces.declared.accepting.EdgeUse.{EdgeUse}
use Rattle.pg_run.specs.pg_pieces.Accepting.{accept}
use Rattle.pg_run.specs.pg_pieces.Posting.{sent_to}
use Rattle.pg_run.specs.pg_cells.Sending.{Wanted, cells_where, is_any, is_chosen, told_as}
use Rattle.pg_run.specs.pg_cells.Ticks.{tick}
use Rattle.pg_run.specs.pg_intentions.Requests.{ask_all, asks, confirm_message, leave_message, request}
use Rattle.pg_run.specs.pg_calls.Calls.{do_call}
use Rattle.pg_run.specs.pg_server.declared.input.Input.{Input}
use Rattle.pg_run.specs.pg_server.declared.input.Input.TheVariants as input
use Rattle.pg_run.specs.pg_server.Local.{effect, first_effect, receive}
use Rattle.pg_run.specs.theory_bodies.Asked.{Asking}

abbrev pub is_want : Message → Bool
is_want (message.Want ends wanted) = true
is_want _ = false

-- it asks for no version
abbrev pub Other : Sent → Type 0
Other m = is_want m.packet.message ≡ false

abbrev pub AreOther : List Sent → Type 0
AreOther ms = All Other ms

-- ---- who was asked is as before

module _ (file : FileId) (stamp : Stamp) where
  none_in : (to : ℕ) (m : Message) → is_want m ≡ false → wanted_in file stamp to m ≡ None
  none_in to (message.Want ends wanted) h = absurd (false≢true (sym h))
  none_in to m h = refl

  pub other_none : (m : Sent) → Other m → wanted_by file stamp m ≡ None
  other_none m h = none_in m.to m.packet.message h

  pub last_same : (ms : List Sent) (old : Option Asking) → AreOther ms
      → last_wanted file stamp ms old ≡ old
  last_same [] old h = refl
  last_same (m ∷ ms) old h =
      ap (λ o. last_wanted file stamp ms (option_or o old))
      (none_in m.to m.packet.message (All-head Other m ms h))
      ∙ last_same ms old (All-tail Other m ms h)

  pub last_both : (xs ys : List Sent) (old : Option Asking) → last_wanted file stamp (xs ++ ys) old
      ≡ last_wanted file stamp ys (last_wanted file stamp xs old)
  last_both [] ys old = refl
  last_both (x ∷ xs) ys old = last_both xs ys (option_or (wanted_by file stamp x) old)

-- ---- what other messages are

plain_other : (m : Message) → is_plain m ≡ true → is_want m ≡ false
plain_other (message.Want ends wanted) h = absurd (false≢true h)
plain_other m h = refl

pub plain_sent : (m : Sent) → is_plain m.packet.message ≡ true → Other m
plain_sent m h = plain_other m.packet.message h

-- what tells of a cell
told_by : (ends : Ends) (tag : ℕ) (c : Cell) (long : Bool) (m : Message) → is_want m ≡ false
    → is_want (cond long m (message.Cell ends tag c)) ≡ false
told_by ends tag c true m h = h
told_by ends tag c false m h = refl

told_other : (ends : Ends) (tag : ℕ) (c : Cell) → is_want (told_as ends tag c) ≡ false
told_other ends tag (cell.Place place) = refl
told_other ends tag (cell.Flag flag) = refl
told_other ends tag (cell.Entry entry sure) = refl
told_other ends tag (cell.Version v) =
    told_by ends tag (cell.Version v) (nat_lt 1024 v.head.length) (message.Harbinger ends tag v.head) refl

-- what intentions ask
abbrev NoneOr : Option Message → Type 0
NoneOr None = Unit {0}
NoneOr (Some m) = is_want m ≡ false

module _ (b : Store) where
  confirm_other : (dir : FileId) (o : Option Entry) → NoneOr (confirm_message dir o)
  confirm_other dir None = tt
  confirm_other dir (Some entry) = refl

  leave_other : (file : FileId) (birth : ℕ) (o : Option Attributes)
      → NoneOr (leave_message b file birth o)
  leave_other file birth None = tt
  leave_other file birth (Some own) = refl

  request_other : (i : Intent) → NoneOr (request b i)
  request_other (intent.Bye file birth peer peer_birth) = refl
  request_other (intent.Seek file target) = refl
  request_other (intent.Fill file birth target) = refl
  request_other (intent.Patch dir entry target) = refl
  request_other (intent.Confirm dir child target) = confirm_other dir (cell_at b.names dir child)
  request_other (intent.Leave file peer peer_birth) =
      leave_other file peer_birth (own_at b.names file)

  asked_other : (i : Intent) (m : Message) → request b i ≡ Some m → (target_of i == 0) ≡ false
      → Other (sent_to b (target_of i) m)
  asked_other i m is to = subst NoneOr is (request_other i)

  pub cells_other : (wanted : Wanted) → AreOther (cells_where b wanted)
  cells_other wanted =
      cells_have Other b wanted
      (All-every (λ (r : FileId × Replica). All (λ (e : Edge). All (CellHas Other b r.0 r.1 e) e.keys) r.1.edges)
      b.replicas
      (λ r. All-every (λ (e : Edge). All (CellHas Other b r.0 r.1 e) e.keys) r.1.edges
      (λ e. All-every (CellHas Other b r.0 r.1 e) e.keys (λ k c is waits. told_other
      (record { file = r.0; sender = r.1.birth; receiver = e.birth }) k.1 c))))

  pub begun_other : (w : Work) → AreOther (asks_sent (record { store = b; work = w }))
  begun_other w = asks_by_have Other b w.begun (All-every (AskHas Other b) b.intents asked_other)

  all_asked : AreOther (flat_map (asks b) b.intents)
  all_asked = asks_have Other b b.intents (All-every (AskHas Other b) b.intents asked_other)

-- ---- an event

-- behind the first effect nobody is asked
pub last_first : (a : Store) (asked : Input) (file : FileId) (stamp : Stamp) (old : Option Asking)
    → last_wanted file stamp (effect a asked).out.sent old
    ≡ last_wanted file stamp (first_effect a asked).work.sent old
last_first a asked file stamp old =
    let d = end_of a asked in
    let first = (first_effect a asked).work.sent in
    let cells = cells_sent d in
    let begun = asks_sent d in
    let tail = (first_effect a asked).work.tail in
    let last = lasts_have Other a asked (λ f e origin birth hops word. refl) (λ b f e. refl) in
    ap (λ ms. last_wanted file stamp ms old) (sent_is a asked)
    ∙ last_both file stamp ((first ++ cells) ++ begun) tail old
    ∙ last_same file stamp tail (last_wanted file stamp ((first ++ cells) ++ begun) old) last
    ∙ last_both file stamp (first ++ cells) begun old
    ∙ last_same file stamp begun (last_wanted file stamp (first ++ cells) old) (begun_other d.store d.work)
    ∙ last_both file stamp first cells old
    ∙ last_same file stamp cells (last_wanted file stamp first old) (cells_other d.store (is_chosen d.work.touched d.work.linked))

-- ---- a first effect

pub call_other : (a : Store) (moment : ℕ) (c : Call)
    → AreOther (do_call a c (new_work moment 0)).work.sent
call_other a moment c = (call_fine Other plain_sent a moment c).0

pub tick_other : (a : Store) (moment word : ℕ)
    → AreOther (first_effect a (input.Tick moment word)).work.sent
tick_other a moment word =
    let w = new_work moment 0 in
    tick_work a moment word (λ (v : Work). AreOther v.sent) (All-nil Other)
    (λ early. (tick_walk_fine Other plain_sent 0 a word (ask_all a (tick a w)) (
      All-append Other (tick a w).sent (flat_map (asks a) a.intents)
          (All-append Other [] (cells_where a is_any) (All-nil Other) (cells_other a is_any)) (all_asked a),
      All-nil Other,
      refl,
    )).0)

pub accept_other : (a : Store) (ends : Ends) (way : EdgeUse) (from : ℕ)
    → AreOther (accept a ends way (new_work 0 from)).work.sent
accept_other a ends way from =
    (accept_fine Other plain_sent from a ends way (new_work 0 from)
    (All-nil Other, All-nil Other, refl)).0

pub received_other : (a : Store) (from : ℕ) (m : Message) → AnswersHave Other plain_sent from a from m
    → AreOther (receive a m (new_work 0 from)).work.sent
received_other a from m has =
    (received_fine Other plain_sent from a m (new_work 0 from) has
    (All-nil Other, All-nil Other, refl)).0
