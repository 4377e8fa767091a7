-- In any run all Wants of an event go to one server.
use Rattle.std.proofs.Common.{ℕ, ◌≡◌, Bool, true, false, cond, List, [], Option, None, Some, refl, sym, subst, ◌∙◌, All}
use Rattle.std.specs.Prelude.{Contains}
use Rattle.std.proofs.lemmas.List.Elements.{All-contains, All-nil}
use Rattle.pg_run.specs.pg_base.declared.id.FileId.{FileId}
use Rattle.pg_run.specs.pg_base.declared.stamp.Stamp.{Stamp}
use Rattle.pg_run.specs.pg_event.declared.event.Event.{Event}
use Rattle.pg_run.specs.pg_msg.declared.message.Message.{Message}
use Rattle.pg_run.specs.pg_msg.declared.message.Message.TheVariants as message
use Rattle.pg_run.specs.pg_msg.declared.message.Sent.{Sent}
use Rattle.pg_run.specs.pg_msg.Work.{new_work}
use Rattle.pg_run.specs.Asking.{wanted_by}
use Rattle.pg_run.specs.Run.{Step, Taking, next, run, taking_in}
use Rattle.pg_run.specs.pg_store.declared.store.Store.{Store}
use Rattle.pg_run.specs.pg_pieces.Done.{idle}
use Rattle.pg_run.specs.pg_cells.Sending.{is_chosen}
use Rattle.pg_run.specs.pg_server.declared.input.Input.{Input}
use Rattle.pg_run.specs.pg_server.declared.input.Input.TheVariants as input
use Rattle.pg_run.specs.pg_server.Local.{effect, first_effect, is_heard, receive}
use Rattle.pg_run.specs.theory_bodies.Asked.{Asking}
use Rattle.pg_run.proofs.Event.{all_sent, asks_sent, cells_sent, end_of}
use Rattle.pg_run.proofs.Frame.{IsFramed, framed}
use Rattle.pg_run.proofs.LastWalks.{lasts_have}
use Rattle.law_contents.proofs.AsksInputs.{answers_other}
use Rattle.law_contents.proofs.GoesMessages.{is_of_bodies}
use Rattle.law_contents.proofs.Wantless.{Other, begun_other, call_other, cells_other, received_other, tick_other}
use Rattle.law_wants.proofs.Answers.{GoesTo, delta_to_sender, harbinger_to, others_to, piece_to}
use Rattle.law_wants.specs.Wants.{AnEventAsksOne}

module _ (a : Store) where
  -- ---- a message

  module _ (from : ℕ) where
    abbrev Sends : Message → Type 0
    Sends m = All (GoesTo from) (receive a m (new_work 0 from)).work.sent

    plainly : (m : Message) → is_of_bodies m ≡ false → Sends m
    plainly m is =
        others_to from (receive a m (new_work 0 from)).work.sent
        (received_other a from m (answers_other a from m is))

    received_to : (m : Message) → Sends m
    received_to (message.Harbinger ends tag head) = harbinger_to a from ends tag head
    received_to (message.Piece ends q) = piece_to a from ends q
    received_to (message.Delta ends d) = delta_to_sender a from ends d
    received_to (message.Later ends stamp) =
        let m = message.Later ends stamp in
        others_to from (receive a m (new_work 0 from)).work.sent (received_other a from m tt)
    received_to (message.LeaveOk ends stamp) =
        let m = message.LeaveOk ends stamp in
        others_to from (receive a m (new_work 0 from)).work.sent (received_other a from m tt)
    received_to m = plainly m refl

  -- ---- any input

  -- who may be asked
  abbrev sender : Input → ℕ
  sender (input.Arrival packet) = packet.from
  sender _ = 0

  first_to : (asked : Input) → All (GoesTo (sender asked)) (first_effect a asked).work.sent
  first_to (input.Call moment c) =
      others_to 0 (first_effect a (input.Call moment c)).work.sent (call_other a moment c)
  first_to (input.Tick moment word) =
      others_to 0 (first_effect a (input.Tick moment word)).work.sent (tick_other a moment word)
  first_to (input.Arrival packet) = by (is_heard a packet)
    where
      by : (heard : Bool) → All (GoesTo packet.from)
          (cond heard (receive a packet.message (new_work 0 packet.from))
          (idle a (new_work 0 packet.from))).work.sent
      by true = received_to packet.from packet.message
      by false = All-nil (GoesTo packet.from)
  first_to input.Restart = All-nil (GoesTo 0)

  sent_to_sender : (asked : Input) → All (GoesTo (sender asked)) (effect a asked).out.sent
  sent_to_sender asked =
      let to = sender asked in
      let d = end_of a asked in
      all_sent (GoesTo to) a asked (first_to asked)
      (others_to to (cells_sent d) (cells_other d.store (is_chosen d.work.touched d.work.linked)))
      (others_to to (asks_sent d) (begun_other d.store d.work))
      (others_to to (first_effect a asked).work.tail
      (lasts_have Other a asked (λ f e origin birth hops word. refl) (λ b f e. refl)))

-- ---- a run

-- ONE IN EACH EVENT
module _ (n : ℕ) (events : List Event) (event : Event) (m k : Sent) (f : FileId) (stamp : Stamp)
    (t u : Asking) where
  one_by : (o : Option Taking) (step : Step) → IsFramed n (run n events) event o step
      → Contains step.entry.sent m → Contains step.entry.sent k → wanted_by f stamp m ≡ Some t
      → wanted_by f stamp k ≡ Some u → t.target ≡ u.target
  one_by None step framed_ first second is also =
      absurd (All-contains (λ (z : Sent). ⊥) [] m (All-nil (λ (z : Sent). ⊥))
      (subst (λ (z : Step). Contains z.entry.sent m) framed_.1 first))
  one_by (Some taken) step framed_ first second is also =
      let a = (run n events).stores taken.server in
      let to = sender a taken.asked in
      let sent = (effect a taken.asked).out.sent in
      let all = sent_to_sender a taken.asked in
      let one = All-contains (GoesTo to) sent m all
      (subst (λ (z : Step). Contains z.entry.sent m) framed_.1 first) f stamp t is in
      let two = All-contains (GoesTo to) sent k all
      (subst (λ (z : Step). Contains z.entry.sent k) framed_.1 second) f stamp u also in
      one ∙ sym two

pub an_event_asks_one : (n : ℕ) → AnEventAsksOne n
an_event_asks_one n events event m k f stamp t u first second is also =
    let w = run n events in
    one_by n events event m k f stamp t u (taking_in n w event) (next n w event)
    (framed n w event) first second is also
