-- In every event of every run: nothing else begins a Confirm.
use Rattle.std.proofs.Common.{ℕ, ◌≡◌, ◌⊎◌, Bool, true, false, cond, Option, None, Some, is_some, eq-eqb, inl, inr, refl, sym, ap, subst, ◌∙◌, ◌/◌, ◌%◌, ◌==◌, length, slice_get}
use Rattle.std.proofs.lemmas.Bool.{false≢true}
use Rattle.law_frame.specs.pg_run.pg_base.declared.id.FileId.{FileId}
use Rattle.law_frame.specs.pg_run.pg_call.declared.reply.Reply.{Reply}
use Rattle.law_frame.specs.pg_run.pg_entries.declared.cell.Cell.TheVariants as cells
use Rattle.law_frame.specs.pg_run.pg_entries.declared.entry.Entry.{Entry}
use Rattle.law_frame.specs.pg_run.pg_intent.declared.intent.Intent.{Intent}
use Rattle.law_frame.specs.pg_run.pg_intent.Intents.{intent_at}
use Rattle.law_frame.specs.pg_run.pg_msg.declared.message.Ends.{Ends}
use Rattle.law_frame.specs.pg_run.pg_msg.declared.message.Message.{Message}
use Rattle.law_frame.specs.pg_run.pg_msg.declared.message.Message.TheVariants as message
use Rattle.law_frame.specs.pg_run.pg_msg.declared.message.Packet.{Packet}
use Rattle.law_frame.specs.pg_run.pg_msg.declared.work.Work.{Work}
use Rattle.law_frame.specs.pg_run.pg_msg.Work.{new_work}
use Rattle.law_frame.specs.pg_run.pg_cells.Cells.{cell}
use Rattle.law_frame.specs.pg_run.pg_cells.Ticks.{tick}
use Rattle.law_frame.specs.pg_run.pg_edges.declared.edge.Edge.{Edge}
use Rattle.law_frame.specs.pg_run.pg_graph.Walks.{edges_of, most_hops, walk_along, walk_from, walk_of, walk_of_tick, with_few_edges}
use Rattle.law_frame.specs.pg_run.pg_intentions.Requests.{ask_all}
use Rattle.law_frame.specs.pg_run.pg_store.Births.{birth_of}
use Rattle.law_frame.specs.pg_run.pg_pieces.Done.{Done, idle}
use Rattle.law_frame.specs.pg_run.pg_server.declared.input.Input.{Input}
use Rattle.law_frame.specs.pg_run.pg_server.declared.input.Input.TheVariants as input
use Rattle.law_frame.specs.pg_run.pg_server.Local.{Effect, closed, effect, finished, first_effect, is_heard, receive, reply_to, ticked, without_sources}
use Rattle.law_frame.specs.pg_run.pg_store.declared.store.Store.{Store}
use Rattle.law_frame.specs.pg_run.pg_store.Seen.{server_of}
use Rattle.law_frame.specs.pg_run.pg_store.Store.{is_before_clock_end}
use Rattle.law_frame.specs.pg_run.Run.{Step, next, run}
use Rattle.law_frame.proofs.pg_run.pg_intent.Found.{stands_is}
use Rattle.law_frame.proofs.pg_run.Frame.{next_is}
use Rattle.law_frame.proofs.pg_run.theory_flood_pieces.Choices.{chosen}
use Rattle.law_begins.specs.Confirms.{BringsDoubt, ConfirmsBeginOnly, EntersView, IsDoubted, IsLater}
use Rattle.law_begins.proofs.Calls.{called}
use Rattle.law_begins.proofs.Doubted.{doubted}
use Rattle.law_begins.proofs.Ended.{ConfirmKey, NoConfirm, closed_none, closed_one, plain}
use Rattle.law_begins.proofs.Messages.{is_doubted, received}
use Rattle.law_begins.proofs.Pieces.{Rests}

-- ---- a walk of a tick notes nothing to be confirmed

along_notes : (a : Store) (f : FileId) (origin birth hops word : ℕ) (w : Work) (o : Option Edge)
    → (walk_along a f origin birth hops word w o).unsure ≡ w.unsure
along_notes a f origin birth hops word w None = refl
along_notes a f origin birth hops word w (Some e) = refl

from_notes : (a : Store) (word : ℕ) (w : Work) (o : Option FileId) → (walk_from a word w o).unsure ≡ w.unsure
from_notes a word w None = refl
from_notes a word w (Some f) =
    let es = edges_of a f in
    along_notes a f (server_of a) (birth_of a f) most_hops (word / length es) w (slice_get es (word % length es))

tick_notes : (a : Store) (word : ℕ) (w : Work) → (walk_of_tick a word w).unsure ≡ w.unsure
tick_notes a word w =
    let fs = with_few_edges a in
    chosen (λ (v : Work). v.unsure ≡ w.unsure) (word == 0) w (walk_of a word fs w) refl
    (from_notes a (word / length fs) w (slice_get fs (word % length fs)))

module _ (dir child : FileId) (a : Store) (first : NoConfirm dir child a) where
  abbrev None_in : Effect → Type 0
  None_in e = NoConfirm dir child e.store

  abbrev Quiet : Done → Type 0
  Quiet d = Rests (ConfirmKey dir child) (plain dir child) d

  -- behind a first effect that leaves all at rest
  ended : (r : Option Reply) (going : Bool) (d : Done) → Quiet d → None_in (cond going (closed r d) (finished r d))
  ended r true d h = closed_none dir child d h.0 h.1
  ended r false d h = h.0

  -- ---- a message

  abbrev Brings : Packet → Type 0
  Brings packet = BringsDoubt a (input.Arrival packet) dir child

  abbrev Behind : Packet → Done → Type 0
  Behind packet d = None_in (closed None d) ⊎ Brings packet

  heard_by : (packet : Packet) (m : Message) → packet.message ≡ m → (t : Bool) → is_doubted m ≡ t → Behind packet (receive a m (new_work 0 packet.from))
  heard_by packet m is false sure =
      inl (ended None true (receive a m (new_work 0 packet.from)) (received (ConfirmKey dir child) (plain dir child) a m (new_work 0 packet.from) sure (first, refl)))
  heard_by packet (message.Cell x tag (cells.Entry e false)) is true sure =
      let w = new_work 0 packet.from in
      let d = cell a x tag (cells.Entry e false) w in
      let k = doubted (ConfirmKey dir child) (plain dir child) a x tag e w (first, refl) in
      elim k.noted [
        | inl none ↦ inl (closed_none dir child d k.none none)
        | inr one ↦ elim (closed_one dir child d (record { dir = x.file; child = e.child }) k.none one.0) [
          | inl none ↦ inl none
          | inr this ↦ inr (brings x tag e is this one.1)
        ]
      ]
    where
      brings : (x : Ends) (tag : ℕ) (e : Entry) → packet.message ≡ message.Cell x tag (cells.Entry e false)
          → (x.file ≡ dir) × (e.child ≡ child) → IsLater a x.file e → Brings packet
      brings x tag e is this later =
          subst (λ (m : Message). IsDoubted a dir child m) (sym is)
          (this.0, this.1, subst (λ (f : FileId). IsLater a f e) this.0 later)
  heard_by packet m is true sure = absurd (false≢true sure)

  -- ---- any input

  pub begins_only : (asked : Input) → None_in (effect a asked) ⊎ (EntersView a asked ⊎ BringsDoubt a asked dir child)
  begins_only (input.Call moment c) = elim (called (ConfirmKey dir child) (plain dir child) a moment first c) [
    | inl quiet ↦ inl (ended (reply_to a (input.Call moment c)) (is_before_clock_end a) (first_effect a (input.Call moment c)) quiet)
    | inr enters ↦ inr (inl enters)
  ]
  begins_only (input.Tick moment word) =
      let w = new_work moment 0 in
      inl (ended (reply_to a (input.Tick moment word)) (is_before_clock_end a) (first_effect a (input.Tick moment word))
      (chosen Quiet (is_before_clock_end a) (ticked a word w) (idle a w) (first, tick_notes (without_sources a) word (ask_all (without_sources a) (tick (without_sources a) w))) (first, refl)))
  begins_only (input.Arrival packet) = by (is_heard a packet)
    where
      w : Work
      w = new_work 0 packet.from

      by : (t : Bool) → None_in (cond t (closed None (cond t (receive a packet.message w) (idle a w))) (finished None (cond t (receive a packet.message w) (idle a w))))
          ⊎ (EntersView a (input.Arrival packet) ⊎ Brings packet)
      by true = elim (heard_by packet packet.message refl (is_doubted packet.message) refl) [ inl none ↦ inl none | inr brings ↦ inr (inr brings) ]
      by false = inl first
  begins_only input.Restart = inl (ended (reply_to a input.Restart) (is_before_clock_end a) (first_effect a input.Restart) (first, refl))

-- ---- runs

stood_none : (o : Option Intent) → is_some o ≡ false → o ≡ None
stood_none None h = refl
stood_none (Some i) h = absurd (false≢true (sym h))

pub confirms_begin_only : (n : ℕ) → ConfirmsBeginOnly n
confirms_begin_only n events event s asked dir child takes none stands_then =
    let w = run n events in
    let a = w.stores s in
    let k = ConfirmKey dir child in
    let first = stood_none (intent_at a.intents k) (sym (stands_is a.intents k) ∙ none) in
    let b = (effect a asked).store in
    let is : (next n w event).stores s ≡ b =
    ap (λ (z : Step). z.stores s) (next_is n w event (record { server = s; asked = asked }) takes)
    ∙ ap (λ u. cond u b (w.stores s)) (eq-eqb s s refl) in
    elim (begins_only dir child a first asked) [
      | inl gone ↦ absurd (false≢true (sym (ap is_some (ap (λ (z : Store). intent_at z.intents k) is ∙ gone)) ∙ sym (stands_is ((next n w event).stores s).intents k) ∙ stands_then))
      | inr either ↦ either
    ]
