-- THE LAW OF BODIES: a message with more than 1,024 bytes of a body answers a Want.
use Rattle.std.proofs.Common.{[], ℕ, ◌≡◌, ◌<◌, ◌++◌, ◌∷◌, Bool, true, false, not, List, length, Option, None, Some, inl, inr, refl, sym, ap, subst, ◌∙◌, arith}
use Rattle.std.specs.Prelude.{Contains, nat_lt}
use Rattle.std.proofs.lemmas.Bool.{false≢true, ltb-false}
use Rattle.std.proofs.lemmas.List.Elements.{All-contains, Contains-append_left}
use Rattle.pg_run.specs.pg_base.Version.{VersionValue}
use Rattle.pg_run.specs.pg_entries.declared.cell.Cell.TheVariants as cell
use Rattle.pg_run.specs.pg_event.declared.event.Event.{Event}
use Rattle.pg_run.specs.pg_msg.declared.message.Message.{Message}
use Rattle.pg_run.specs.pg_msg.declared.message.Message.TheVariants as message
use Rattle.pg_run.specs.pg_msg.declared.message.Packet.{Packet}
use Rattle.pg_run.specs.pg_msg.declared.message.Sent.{Sent}
use Rattle.pg_run.specs.pg_server.declared.input.Input.{Input}
use Rattle.pg_run.specs.pg_server.declared.input.Input.TheVariants as input
use Rattle.pg_run.specs.pg_server.Local.{effect}
use Rattle.pg_run.specs.Bodies.{AnswersWant, BodiesAnswerWants, body_bytes}
use Rattle.pg_run.specs.Histories.{TellsOfHistory}
use Rattle.pg_run.specs.Journal.{mail}
use Rattle.pg_run.specs.Run.{Step, Taking, World, next, run, start, taking_in}
use Rattle.pg_run.specs.pg_store.Seen.{server_of}
use Rattle.pg_run.proofs.Frame.{IsFramed, framed, run_more}
use Rattle.law_bodies.proofs.Short.{IsShort}
use Rattle.law_bodies.proofs.Sent.{Q, all_short}
use Rattle.law_bodies.specs.Premises.{StandOn}

-- of a version that is told as it is in its history, a short message has no more than 1,024 bytes
few_bytes : (w : World) (m : Message) → IsShort m → TellsOfHistory w m → 1024 < body_bytes m → ⊥
few_bytes w (message.Cell ends tag (cell.Version v)) short told more =
    let long : length v.body ≡ v.head.length = ap (λ (u : VersionValue). length u.body) told.whole ∙ sym (ap (λ (u : VersionValue). u.head.length) told.whole) in
    few v.head.length short (subst (λ (k : ℕ). 1024 < k) long more)
  where
    by : (k : ℕ) (t : Bool) → nat_lt 1024 k ≡ t → not t ≡ true → 1024 < k → ⊥
    by k true is h more = false≢true h
    by k false is h more = let low = ltb-false 1024 k is in omega (arith, low, more)

    few : (k : ℕ) → not (nat_lt 1024 k) ≡ true → 1024 < k → ⊥
    few k h more = by k (nat_lt 1024 k) refl h more
few_bytes w (message.Delta ends d) short told more = false≢true short
few_bytes w (message.Piece ends p) short told more = false≢true short
few_bytes w m short told more = omega (arith, more)

same_taking : (s t : ℕ) (x y : Input) → s ≡ t → x ≡ y
    → ◌≡◌ {A = Taking} (record { server = s; asked = x }) (record { server = t; asked = y })
same_taking s t x y p q = cc

module _ (n : ℕ) (stand : StandOn n) (events : List Event) (event : Event) (m : Sent)
    (sent : Contains (next n (run n events) event).entry.sent m) (more : 1024 < body_bytes m.packet.message) where
  abbrev W : World
  W = run n events

  -- what is sent is told, as it is in its history
  told : TellsOfHistory (run n (events ++ event ∷ [])) m.packet.message
  told =
      let same = run_more n (start n) events event in
      let step = next n W event in
      stand.carried (events ++ event ∷ []) m
      (subst (λ (v : World). Contains (mail v.journal) m) (sym same)
      (Contains-append_left step.entry.sent (mail W.journal) m sent))

  answers_by : (o : Option Taking) → taking_in n W event ≡ o → IsFramed n W event o (next n W event) → AnswersWant n W event m
  answers_by None is f =
      absurd (none_in m (subst (λ (z : Step). Contains z.entry.sent m) f.1 sent))
    where
      none_in : (x : Sent) → Contains {X = Sent} [] x → ⊥
      none_in x h = let lt = h.1 in absurd (omega (arith, lt))
  answers_by (Some t) is f =
      let a = W.stores t.server in
      let here : Contains (effect a t.asked).out.sent m = subst (λ (z : Step). Contains z.entry.sent m) f.1 sent in
      let server : server_of a ≡ t.server = (stand.whole events t.server f.0.least f.0.most).server in
      elim (All-contains (Q a t.asked) (effect a t.asked).out.sent m (all_short a t.asked) here) [
        | inl short ↦ absurd (few_bytes (run n (events ++ event ∷ [])) m.packet.message short told more)
        | inr g ↦ record {
          packet = g.packet;
          takes = is ∙ taken t g.packet g.comes server g.from;
          ends = g.ends;
          wanted = g.wanted;
          is = g.is;
          asker = g.asker;
          of = g.of;
        }
      ]
    where
      taken : (u : Taking) (p : Packet) → u.asked ≡ input.Arrival p
          → server_of (W.stores u.server) ≡ u.server
          → m.packet.from ≡ server_of (W.stores u.server)
          → Some u ≡ Some (record { server = m.packet.from; asked = input.Arrival p })
      taken u p comes server from =
          ap Some (same_taking u.server m.packet.from u.asked (input.Arrival p) (sym (from ∙ server)) comes)

pub bodies_answer_wants : (n : ℕ) → StandOn n → BodiesAnswerWants n
bodies_answer_wants n stand events event m sent more =
    answers_by n stand events event m sent more (taking_in n (run n events) event) refl (framed n (run n events) event)
