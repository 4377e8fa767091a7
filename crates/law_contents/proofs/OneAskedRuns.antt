-- In any run one server is asked for a version at a time.
use Rattle.std.proofs.Common.{ℕ, ◌≡◌, ◌≢◌, ◌<◌, ◌^◌, Bool, true, false, cond, List, [], ◌∷◌, Option, None, Some, refl, sym, ap, subst, ◌∙◌, All}
use Rattle.std.specs.Prelude.{Contains}
use Rattle.std.specs.Option.{option_or}
use Rattle.std.proofs.lemmas.List.Elements.{All-contains, All-head, All-nil, All-tail, All-weaker}
use Rattle.pg_run.specs.pg_base.declared.id.FileId.{FileId}
use Rattle.pg_run.specs.pg_base.declared.policy.Policy.{Policy}
use Rattle.pg_run.specs.pg_base.declared.stamp.Stamp.{Stamp}
use Rattle.pg_run.specs.pg_event.declared.event.Event.{Event}
use Rattle.pg_run.specs.pg_msg.declared.message.Message.{Message}
use Rattle.pg_run.specs.pg_msg.declared.message.Message.TheVariants as message
use Rattle.pg_run.specs.pg_msg.declared.message.Sent.{Sent}
use Rattle.pg_run.specs.pg_msg.Work.{new_work}
use Rattle.pg_run.specs.Asked.{asked_behind, ends_asking}
use Rattle.pg_run.specs.Asking.{Asked, last_wanted, wanted_by}
use Rattle.pg_run.specs.Bodies.{OneIsAskedAtATime}
use Rattle.pg_run.specs.Journal.{Born}
use Rattle.pg_run.specs.Run.{Step, Taking, World, effect_step, next, run, taking_in, world_after}
use Rattle.pg_run.proofs.Event.{all_sent, asks_sent, cells_sent, end_of}
use Rattle.pg_run.proofs.Frame.{Acts, IsFramed, each_after, framed, holds_in_runs, no_server_comes}
use Rattle.pg_run.proofs.LastWalks.{lasts_have}
use Rattle.pg_run.specs.pg_store.declared.store.Store.{Store}
use Rattle.pg_run.specs.pg_pieces.Done.{idle}
use Rattle.pg_run.specs.pg_cells.Sending.{is_chosen}
use Rattle.pg_run.specs.pg_server.declared.input.Input.{Input}
use Rattle.pg_run.specs.pg_server.declared.input.Input.TheVariants as input
use Rattle.pg_run.specs.pg_server.Local.{effect, first_effect, is_heard, receive}
use Rattle.pg_run.specs.theory_bodies.Asked.{Asking}
use Rattle.law_contents.specs.Together.{StandOn}
use Rattle.law_contents.proofs.Agreed.{Agrees}
use Rattle.law_contents.proofs.AsksInputs.{CarriesInput, answers_other}
use Rattle.law_contents.proofs.Carrying.{Carries, policies}
use Rattle.law_contents.proofs.GoesMessages.{is_of_bodies}
use Rattle.law_contents.proofs.HarbingersCame.{carries_input}
use Rattle.law_contents.proofs.Inputs.{heard_sender}
use Rattle.law_contents.proofs.OneAsked.{IsOne, delta_one, harbinger_one, other_one, piece_one, target_of}
use Rattle.law_contents.proofs.Runs.{run_sound, server_now}
use Rattle.law_contents.proofs.Servers.{Came, IsServer}
use Rattle.law_contents.proofs.Wanted.{wanted_run}
use Rattle.law_contents.proofs.Worlds.{IsNamed}
use Rattle.law_contents.proofs.Wantless.{AreOther, Other, begun_other, call_other, cells_other, received_other, tick_other}

-- who was asked is a server
abbrev HaveTargets : Asked → Type 0
HaveTargets wants = (f : FileId) (t : Stamp) (x : Asking) → wants f t ≡ Some x → x.target ≢ 0

module _ {s : ℕ} {a : Store} {us : List Born} {p : FileId → Policy} {N : FileId → Type 0}
    {came : Came} (k : IsServer s a us p N came) (wants : Asked) (agrees : Agrees a us came wants)
    (targets : HaveTargets wants) where
  abbrev Q : Sent → Type 0
  Q = IsOne s wants

  others : (ms : List Sent) → AreOther ms → All Q ms
  others ms h = All-weaker Other Q (λ m other. other_one s wants m other) ms h

  -- ---- a message

  module _ (from : ℕ) (some : from ≢ 0) where
    abbrev Sends : Message → Type 0
    Sends m = All Q (receive a m (new_work 0 from)).work.sent

    plainly : (m : Message) → is_of_bodies m ≡ false → Sends m
    plainly m is =
        others (receive a m (new_work 0 from)).work.sent
        (received_other a from m (answers_other a from m is))

    received_one : (m : Message) → Carries us p N m → Sends m
    received_one (message.Harbinger ends tag head) h =
        harbinger_one k wants agrees targets from some ends tag head h
    received_one (message.Piece ends q) h = piece_one k wants agrees targets from some ends q
    received_one (message.Delta ends d) h = delta_one k wants agrees targets from some ends d
    received_one (message.Later ends stamp) h =
        let m = message.Later ends stamp in
        others (receive a m (new_work 0 from)).work.sent (received_other a from m tt)
    received_one (message.LeaveOk ends stamp) h =
        let m = message.LeaveOk ends stamp in
        others (receive a m (new_work 0 from)).work.sent (received_other a from m tt)
    received_one m h = plainly m refl

  -- ---- any input

  first_one : (asked : Input) → CarriesInput us p N asked → All Q (first_effect a asked).work.sent
  first_one (input.Call moment c) h =
      others (first_effect a (input.Call moment c)).work.sent (call_other a moment c)
  first_one (input.Tick moment word) h =
      others (first_effect a (input.Tick moment word)).work.sent (tick_other a moment word)
  first_one (input.Arrival packet) h = by (is_heard a packet) refl
    where
      by : (heard : Bool) → is_heard a packet ≡ heard
          → All Q (cond heard (receive a packet.message (new_work 0 packet.from))
          (idle a (new_work 0 packet.from))).work.sent
      by true e = received_one packet.from (heard_sender a packet e) packet.message h
      by false e = All-nil Q
  first_one input.Restart h = All-nil Q

  pub sent_one : (asked : Input) → CarriesInput us p N asked → All Q (effect a asked).out.sent
  sent_one asked h =
      let d = end_of a asked in
      all_sent Q a asked (first_one asked h)
      (others (cells_sent d) (cells_other d.store (is_chosen d.work.touched d.work.linked)))
      (others (asks_sent d) (begun_other d.store d.work))
      (others (first_effect a asked).work.tail (lasts_have Other a asked (λ f e origin birth hops word. refl) (λ b f e. refl)))

-- ---- who was asked is a server

last_some : (s : ℕ) (wants : Asked) (f : FileId) (t : Stamp) (ms : List Sent) → All (IsOne s wants) ms
    → (old : Option Asking) → ((x : Asking) → old ≡ Some x → x.target ≢ 0) → (x : Asking)
    → last_wanted f t ms old ≡ Some x → x.target ≢ 0
last_some s wants f t [] h old some x e = some x e
last_some s wants f t (m ∷ ms) h old some x e =
    last_some s wants f t ms (All-tail (IsOne s wants) m ms h) (option_or (wanted_by f t m) old)
    (by (wanted_by f t m) refl) x e
  where
    by : (o : Option Asking) → wanted_by f t m ≡ o → (y : Asking) → option_or o old ≡ Some y
        → y.target ≢ 0
    by None is y there zero = some y there zero
    by (Some u) is y there zero =
        (All-head (IsOne s wants) m ms h f t u is).1 (target_of u y there ∙ zero)

base_some : (ends_it : Bool) (old : Option Asking) → ((x : Asking) → old ≡ Some x → x.target ≢ 0)
    → (x : Asking) → cond ends_it None old ≡ Some x → x.target ≢ 0
base_some true old some x e = absurd (let z : None ≡ Some x = e in cc)
base_some false old some x e = some x e

abbrev AllTargets : World → Type 0
AllTargets w = (s : ℕ) → HaveTargets (w.asked s)

module _ (n : ℕ) (small : n < 2 ^ 32) (stand : StandOn n) where
  -- what is sent in an event
  acting : (events : List Event) (t : Taking) → Acts n (run n events) t → AllTargets (run n events)
      → (e : Event) → let w = run n events in
      All (IsOne t.server (w.asked t.server)) (effect (w.stores t.server) t.asked).out.sent
  acting events t acts targets e =
      let w = run n events in
      let s = t.server in
      let sound = run_sound n small stand events in
      let k = server_now n small w (stand.both events) (wanted_run n stand.named stand.intends events)
      sound e s t.asked acts.least acts.most in
      sent_one k (w.asked s) (sound.agreed s) (targets s) t.asked
      (carries_input w.history (policies w.journal) (IsNamed w.stores) w s t.asked sound.carried acts.came)

  targets_then : (events : List Event) (e : Event) (t : Taking)
      → taking_in n (run n events) e ≡ Some t → Acts n (run n events) t → AllTargets (run n events)
      → AllTargets (world_after (run n events) (effect_step (run n events) e t.server t.asked))
  targets_then events e t taken acts targets =
      let w = run n events in
      let s = t.server in
      each_after (λ j wants. HaveTargets wants) w.asked s
      (asked_behind (w.stores s) (w.asked s) t.asked) targets
      (λ f u x is. last_some s (w.asked s) f u (effect (w.stores s) t.asked).out.sent
      (acting events t acts targets e)
      (cond (ends_asking (w.stores s) t.asked f u (w.asked s f u)) None (w.asked s f u))
      (base_some (ends_asking (w.stores s) t.asked f u (w.asked s f u)) (w.asked s f u) (targets s f u))
      x is)

  targets_run : (events : List Event) → AllTargets (run n events)
  targets_run events = holds_in_runs n AllTargets (record {
    first = λ s f t x e. absurd (let z : None ≡ Some x = e in cc);
    idle = λ w e cause h. h;
    comes = λ past event server is k. absurd (no_server_comes event server is);
    acts = targets_then;
  }) events

  -- ONE AT A TIME
  one_by : (events : List Event) (event : Event) (m : Sent) (f : FileId) (stamp : Stamp)
      (x u : Asking) (o : Option Taking) (step : Step)
      → IsFramed n (run n events) event o step → Contains step.entry.sent m
      → wanted_by f stamp m ≡ Some u
      → (run n events).asked m.packet.from f stamp ≡ Some x → u.target ≡ x.target
  one_by events event m f stamp x u None step framed_ there is asked =
      absurd (All-contains (λ (z : Sent). ⊥) [] m (All-nil (λ (z : Sent). ⊥))
      (subst (λ (z : Step). Contains z.entry.sent m) framed_.1 there))
  one_by events event m f stamp x u (Some t) step framed_ there is asked =
      let w = run n events in
      let s = t.server in
      let sent = subst (λ (z : Step). Contains z.entry.sent m) framed_.1 there in
      let one = All-contains (IsOne s (w.asked s)) (effect (w.stores s) t.asked).out.sent m
      (acting events t framed_.0 (targets_run events) event) sent f stamp u is in
      one.2 x (ap (λ (j : ℕ). w.asked j f stamp) (sym one.0) ∙ asked)

pub one_is_asked : (n : ℕ) → n < 2 ^ 32 → StandOn n → OneIsAskedAtATime n
one_is_asked n small stand events event m f stamp x u there is asked =
    let w = run n events in
    one_by n small stand events event m f stamp x u (taking_in n w event) (next n w event)
    (framed n w event) there is asked
