-- One event more: what each server has behind it, what was sent and made, and who is live.
use Rattle.std.proofs.Common.{ℕ, ◌≡◌, ◌≢◌, ◌≤◌, ◌==◌, not, Bool, true, false, cond, List, [], ◌∷◌, ◌++◌, Option, None, Some, refl, sym, ap, subst, ◌∙◌, inl, inr, ◌⊎◌, arith}
use Rattle.std.proofs.lemmas.Bool.Decides.{nat_tests}
use Rattle.std.proofs.lemmas.Bool.{and_from, and_parts, false≢true, not-true}
use Rattle.std.proofs.lemmas.Option.{none-some, same_Some}
use Rattle.pg_run.specs.pg_base.declared.id.FileId.{FileId}
use Rattle.pg_run.specs.pg_call.declared.call.Call.{Call}
use Rattle.pg_run.specs.pg_content.Content.{Among}
use Rattle.pg_run.proofs.pg_content.Members.{any_by, any_found}
use Rattle.pg_run.specs.pg_event.declared.entry.VoidCause.{VoidCause}
use Rattle.pg_run.specs.pg_event.declared.event.Event.{Event}
use Rattle.pg_run.specs.pg_event.declared.event.Event.TheVariants as happens
use Rattle.pg_run.proofs.theory_flood.Flood.{after_itself}
use Rattle.pg_run.specs.pg_msg.declared.message.Packet.{Packet}
use Rattle.pg_run.specs.pg_msg.declared.message.Sent.{Sent}
use Rattle.pg_run.specs.pg_msg.declared.update.Update.TheVariants as update
use Rattle.pg_run.specs.pg_register.declared.flag.Flag.{Flag}
use Rattle.pg_run.specs.pg_register.Flag.{is_removed}
use Rattle.pg_run.specs.pg_server.declared.input.Input.{Input}
use Rattle.pg_run.specs.pg_server.declared.input.Input.TheVariants as input
use Rattle.pg_run.specs.pg_server.Local.{Effect, closed, effect, finished, first_effect, reply_to, takes_effect}
use Rattle.pg_run.specs.pg_store.declared.store.Store.{Store}
use Rattle.pg_run.proofs.theory_flood_pieces.Choices.{chosen}
use Rattle.pg_run.specs.Journal.{mail, message_at, bag, removals}
use Rattle.pg_run.specs.Known.{IsFlagOf}
use Rattle.pg_run.specs.Laws.{TakesIn}
use Rattle.pg_run.specs.Run.{Step, Taking, World, effect_step, idle_step, is_due, is_live, is_server, next, run, start, taking_at, taking_in, taking_message, world_after}
use Rattle.pg_run.proofs.Frame.{Acts, IsFramed, acts_is, framed, next_is, other_after, run_more}
use Rattle.pg_run.proofs.Lists.{among_front}
use Rattle.pg_run.proofs.Removals.{removals_grow}

-- ---- who is live

removed_on : (rs xs : List ℕ) (t : ℕ) → is_removed rs t ≡ true → is_removed (rs ++ xs) t ≡ true
removed_on rs xs t h =
    let test : ℕ → Bool = λ one. one == t in
    let f = any_found test rs h in
    any_by test (rs ++ xs) f.0 (among_front f.0 rs xs f.1) f.2

kept_by : (rs xs : List ℕ) (t : ℕ) (u : Bool) → is_removed rs t ≡ u → is_removed (rs ++ xs) t ≡ false → u ≡ false
kept_by rs xs t true is h = absurd (false≢true (sym h ∙ removed_on rs xs t is))
kept_by rs xs t false is h = refl

server_is : (n s : ℕ) → 1 ≤ s → s ≤ n → is_server n s ≡ true
server_is n s least most = grind (arith, nat_tests)

-- who takes an input is live
pub acts_live : (n : ℕ) (w : World) (t : Taking) → Acts n w t → is_live n w t.server ≡ true
acts_live n w t act =
    and_from (is_server n t.server) (not (is_removed (removals w.journal) t.server)) (server_is n t.server act.least act.most) (ap not act.live)

-- ---- the reply of an input

pub reply_is : (a : Store) (asked : Input) → (effect a asked).out.reply ≡ reply_to a asked
reply_is a asked =
    chosen (λ (e : Effect). e.out.reply ≡ reply_to a asked) (takes_effect a asked)
    (closed (reply_to a asked) (first_effect a asked)) (finished (reply_to a asked) (first_effect a asked)) refl refl

-- ---- which event brings a call

asked_is : (t u : Taking) → ◌≡◌ {A = Option Taking} (Some t) (Some u) → (t.server ≡ u.server) × (t.asked ≡ u.asked)
asked_is t u h = (let same : t ≡ u = same_Some t u h in (ap (λ (x : Taking). x.server) same, ap (λ (x : Taking). x.asked) same))

at_by : (n : ℕ) (w : World) (s r : ℕ) (asked other : Input) (t : Bool)
    → ◌≡◌ {A = Option Taking} (cond t (Some (record { server = r; asked = other })) None) (Some (record { server = s; asked = asked }))
    → (r ≡ s) × (other ≡ asked)
at_by n w s r asked other true h = asked_is (record { server = r; asked = other }) (record { server = s; asked = asked }) h
at_by n w s r asked other false h = absurd (none-some (record { server = s; asked = asked }) h)

due_by : (n : ℕ) (w : World) (s r : ℕ) (asked other : Input) (t : Bool)
    → ◌≡◌ {A = Option Taking} (cond t (taking_at n w r other) None) (Some (record { server = s; asked = asked }))
    → (r ≡ s) × (other ≡ asked)
due_by n w s r asked other true h = at_by n w s r asked other (is_live n w r) h
due_by n w s r asked other false h = absurd (none-some (record { server = s; asked = asked }) h)

message_by : (n : ℕ) (w : World) (s : ℕ) (asked : Input) (o : Option Sent)
    → taking_message n w o ≡ Some (record { server = s; asked = asked }) → (packet : Packet) × (input.Arrival packet ≡ asked)
message_by n w s asked None h = absurd (none-some (record { server = s; asked = asked }) h)
message_by n w s asked (Some m) h = (m.packet, (at_by n w s m.to asked (input.Arrival m.packet) (is_live n w m.to) h).1)

pub called_is : (n : ℕ) (w : World) (e : Event) (s moment : ℕ) (c : Call) → TakesIn n w e s (input.Call moment c) → e ≡ happens.Call s moment c
called_is n w (happens.Call r m d) s moment c takes =
    let k = due_by n w s r (input.Call moment c) (input.Call m d) (is_due (removals w.journal) d) takes in
    let x = k.0 in let y = k.1 in cc
called_is n w (happens.Tick r m word) s moment c takes =
    absurd (let k = (at_by n w s r (input.Call moment c) (input.Tick m word) (is_live n w r) takes).1 in cc)
called_is n w (happens.Deliver number) s moment c takes =
    absurd (let k = (message_by n w s (input.Call moment c) (message_at (bag w.journal) number) takes).1 in cc)
called_is n w (happens.Lose number) s moment c takes = absurd (none-some (record { server = s; asked = input.Call moment c }) takes)
called_is n w (happens.Repeat number) s moment c takes = absurd (none-some (record { server = s; asked = input.Call moment c }) takes)
called_is n w (happens.Restart r) s moment c takes =
    absurd (let k = (at_by n w s r (input.Call moment c) input.Restart (is_live n w r) takes).1 in cc)
called_is n w (happens.Remove r) s moment c takes = absurd (none-some (record { server = s; asked = input.Call moment c }) takes)

-- ---- one event more

module _ (n : ℕ) (events : List Event) (event : Event) where
  abbrev pub W : World
  W = run n events

  abbrev pub V : World
  V = run n (events ++ event ∷ [])

  more_is : V ≡ world_after W (next n W event)
  more_is = run_more n (start n) events event

  -- who is live then was so before
  pub live_before : (t : ℕ) → is_live n V t ≡ true → is_live n W t ≡ true
  live_before t live =
      let step = next n W event in
      let now : is_live n (world_after W step) t ≡ true = ap (λ (v : World). is_live n v t) (sym more_is) ∙ live in
      let grown = removals_grow step.entry W.journal in
      let both = and_parts (is_server n t) (not (is_removed (removals (step.entry ∷ W.journal)) t)) now in
      let kept : is_removed (removals W.journal ++ grown.0) t ≡ false =
      ap (λ (rs : List ℕ). is_removed rs t) (sym grown.1) ∙ not-true (is_removed (removals (step.entry ∷ W.journal)) t) both.1 in
      and_from (is_server n t) (not (is_removed (removals W.journal) t)) both.0
      (ap not (kept_by (removals W.journal) grown.0 t (is_removed (removals W.journal) t) refl kept))

  -- nothing happens at any server
  pub record IsIdle : Type 0 where
    pub stores : (t : ℕ) → V.stores t ≡ W.stores t
    pub mail_is : mail V.journal ≡ mail W.journal
    pub reply : (next n W event).entry.reply ≡ None

  -- or one takes an input
  pub record IsActed : Type 0 where
    pub s : ℕ
    pub asked : Input
    pub takes : TakesIn n W event s asked
    pub acts : Acts n W (record { server = s; asked = asked })
    pub here : V.stores s ≡ (effect (W.stores s) asked).store
    pub others : (t : ℕ) → t ≢ s → V.stores t ≡ W.stores t
    pub mail_is : mail V.journal ≡ (effect (W.stores s) asked).out.sent ++ mail W.journal
    pub flags : (file : FileId) (g : Flag) → IsFlagOf n V file g
        → Among (update.Flag file g) (effect (W.stores s) asked).out.made ⊎ IsFlagOf n W file g
    pub reply : (next n W event).entry.reply ≡ reply_to (W.stores s) asked

  idle_by : (step : Step) (cause : Option VoidCause) → step ≡ idle_step W event cause → V ≡ world_after W step → next n W event ≡ step → IsIdle
  idle_by step cause is v same =
      let all : V ≡ world_after W (idle_step W event cause) = v ∙ ap (world_after W) is in
      record {
        stores = λ t. ap (λ (x : World). x.stores t) all;
        mail_is = ap (λ (x : World). mail x.journal) all;
        reply = ap (λ (x : Step). x.entry.reply) (same ∙ is);
      }

  flag_by : (s : ℕ) (asked : Input) (file : FileId) (g : Flag) → IsFlagOf n (world_after W (effect_step W event s asked)) file g
      → Among (update.Flag file g) (effect (W.stores s) asked).out.made ⊎ IsFlagOf n W file g
  flag_by s asked file g (inl first) = inr (inl first)
  flag_by s asked file g (inr (inl made)) = inl made
  flag_by s asked file g (inr (inr raised)) = inr (inr raised)

  acted_by : (s : ℕ) (asked : Input) → TakesIn n W event s asked → IsActed
  acted_by s asked takes =
      let t : Taking = record { server = s; asked = asked } in
      let step = effect_step W event s asked in
      let is : next n W event ≡ step = next_is n W event t takes in
      let all : V ≡ world_after W step = more_is ∙ ap (world_after W) is in
      record {
        s = s;
        asked = asked;
        takes = takes;
        acts = acts_is n W event t takes;
        here = ap (λ (x : World). x.stores s) all ∙ after_itself W.stores s (effect (W.stores s) asked).store;
        others = λ u apart. ap (λ (x : World). x.stores u) all ∙ other_after W.stores s (effect (W.stores s) asked).store u apart;
        mail_is = ap (λ (x : World). mail x.journal) all;
        flags = λ file g h. flag_by s asked file g (subst (λ (x : World). IsFlagOf n x file g) all h);
        reply = ap (λ (x : Step). x.entry.reply) is ∙ reply_is (W.stores s) asked;
      }

  by_taking : (o : Option Taking) → taking_in n W event ≡ o → IsIdle ⊎ IsActed
  by_taking None is =
      let f = subst (λ (o : Option Taking). IsFramed n W event o (next n W event)) is (framed n W event) in
      inl (idle_by (next n W event) f.0 f.1 more_is refl)
  by_taking (Some t) is = inr (acted_by t.server t.asked is)

  -- ONE OF BOTH
  pub one_step : IsIdle ⊎ IsActed
  one_step = by_taking (taking_in n W event) refl
