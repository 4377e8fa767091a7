-- Each event of a run is by the rule of replicas that go.
use Rattle.std.proofs.Common.{ℕ, ◌≡◌, Bool, true, false, cond, List, [], ◌∷◌, ◌++◌, Some, refl, sym, ap, subst, ◌∙◌, inl, inr, ◌⊎◌}
use Rattle.std.specs.Prelude.{Contains}
use Rattle.std.proofs.lemmas.Option.{none-some}
use Rattle.std.proofs.lemmas.Bool.{false_from_ne_true}
use Rattle.pg_run.specs.pg_base.declared.id.FileId.{FileId}
use Rattle.pg_run.specs.pg_pieces.Done.{idle}
use Rattle.pg_run.specs.pg_edges.Edges.{is_listed}
use Rattle.pg_run.specs.pg_entries.declared.cell.Cell.{Cell}
use Rattle.pg_run.specs.pg_event.declared.event.Event.{Event}
use Rattle.pg_run.specs.theory_flood.Noting.{SaidIn, noting}
use Rattle.pg_run.specs.theory_flood.Promises.{Saying}
use Rattle.pg_run.specs.theory_flood.Protocol.{Protocol}
use Rattle.pg_run.specs.theory_flood.Server.{Replica as Seen, Slot}
use Rattle.pg_run.specs.theory_flood.World.{after}
use Rattle.pg_run.proofs.theory_flood.Flood.{after_itself}
use Rattle.pg_run.proofs.theory_flood.Steps as steps
use Rattle.pg_run.specs.pg_intent.declared.intent.Intent.TheVariants as intent
use Rattle.theory_leaving.specs.Moment.{IsKept, IsPast}
use Rattle.theory_leaving.specs.Protocol.{Word}
use Rattle.theory_leaving.specs.Protocol.Word.{Bye, ByeOk, Gone}
use Rattle.theory_leaving.specs.Rule.{Hears as HearsWord, MayDrop, MayGo, Turn, heard_as}
use Rattle.pg_run.specs.pg_msg.declared.message.Packet.{Packet}
use Rattle.pg_run.specs.pg_msg.declared.message.Sent.{Sent}
use Rattle.pg_run.specs.pg_msg.Work.{new_work}
use Rattle.pg_run.specs.theory_flood_pieces.Seen.{seen}
use Rattle.pg_run.specs.pg_register.Flag.{is_removed}
use Rattle.pg_run.specs.pg_server.declared.input.Input.{Input}
use Rattle.pg_run.specs.pg_server.declared.input.Input.TheVariants as input
use Rattle.pg_run.specs.pg_server.Local.{closed, effect, finished, first_effect, receive, reply_to, takes_effect}
use Rattle.pg_run.specs.pg_store.declared.store.Store.{Store}
use Rattle.pg_run.specs.pg_store.Seen.{removed_of}
use Rattle.pg_run.specs.pg_store.Store.{replica_at}
use Rattle.pg_run.specs.pg_store.Together.{birth_at}
use Rattle.pg_run.specs.Carried.{gone_in}
use Rattle.pg_run.specs.Journal.{mail}
use Rattle.pg_run.specs.Going.{ByesAreAnswered, ByesAreOwed, Hears, SaysItWent}
use Rattle.pg_run.specs.Laws.{TakesIn, store_after}
use Rattle.pg_run.specs.Leaving.{Goes}
use Rattle.pg_run.specs.Ruled.{heard_in}
use Rattle.pg_run.specs.Run.{Taking, World, run, taking_in, took_after}
use Rattle.law_leaving.specs.Gone.{WentAs}
use Rattle.law_leaving.specs.Answers.{AnswersAreToAccepted}
use Rattle.law_leaving.specs.Premises.{StandOn}
use Rattle.law_leaving.specs.Seen.{leaving, message_in, site_after, word_of}
use Rattle.law_leaving.specs.Taken.{Site, site, taking}
use Rattle.law_leaving.proofs.Behind.{born_at}
use Rattle.law_leaving.proofs.Dropping.{drops}
use Rattle.law_leaving.proofs.Flags.{seen_of}
use Rattle.law_leaving.proofs.Moments.{acts_so, site_of_parts, went_now, went_or}
use Rattle.law_leaving.proofs.Ordered.{IsSeen, past}
use Rattle.law_leaving.proofs.Taking.{late_rule}
use Rattle.law_leaving.proofs.Words.{bye_ok_says, bye_says, gone_says, said}

-- what is shown of messages that are sent
pub record Sends (n : ℕ) : Type 0 where
  pub answers : AnswersAreToAccepted n
  pub owed : ByesAreOwed n
  pub answered : ByesAreAnswered n

-- where a message is not heard, nothing changes
still : (a : Store) (packet : Packet) → takes_effect a (input.Arrival packet) ≡ false → (effect a (input.Arrival packet)).store ≡ a
still a packet none =
    let asked = input.Arrival packet in
    let w = new_work 0 packet.from in
    ap (λ t. (cond t (closed (reply_to a asked) (first_effect a asked)) (finished (reply_to a asked) (first_effect a asked))).store) none
    ∙ ap (λ t. (cond t (receive a packet.message w) (idle a w)).store) none

-- an input that a server takes
abbrev taking_of : ℕ → Input → Taking
taking_of s asked = record { server = s; asked = asked }

module _ (n : ℕ) (on : StandOn n) (sends : Sends n) (file : FileId) (events : List Event) (event : Event) (t : Taking)
    (is : taking_in n (run n events) event ≡ Some t) (k : IsKept (leaving n file) events) where
  abbrev W : World
  W = run n events

  abbrev More : List Event
  More = events ++ event ∷ []

  abbrev S : ℕ
  S = t.server

  abbrev A : Store
  A = store_after n events S

  abbrev B : Store
  B = (effect A t.asked).store

  abbrev Next : Site
  Next = record { store = B; took = took_after A (W.asked S) (W.took S) t.asked }

  abbrev pub turn_to : Site → Turn Site Sent
  turn_to b = record { server = S; next = b; heard = message_in S t.asked; sent = (effect A t.asked).out.sent }

  pub site_is : site_after n More S ≡ Next
  site_is =
      ap (λ (v : World). site v S) (acts_so n events event t is)
      ∙ site_of_parts (after W.stores S B S) B (after W.took S Next.took S) Next.took (after_itself W.stores S B) (after_itself W.took S Next.took)

  -- what came, where a message is heard
  came : (packet : Packet) → Hears A t.asked packet → (word : Word)
      → word_of file packet.from S packet.message ≡ word → HearsWord (leaving n file) (message_in S t.asked) word
  came packet hears word says_it = (record { to = S; packet = packet }, ap (message_in S) hears.is, says_it)

  heard_same : (asked : Input) → heard_as (leaving n file) (message_in S asked) ≡ heard_in S asked
  heard_same (input.Call moment call) = refl
  heard_same (input.Tick moment word) = refl
  heard_same (input.Arrival packet) = refl
  heard_same input.Restart = refl

  abbrev late : Protocol Site Sent Cell
  late = noting taking (SaidIn taking (mail W.journal))

  pub edges : steps.Rule late S (site_after n events S) Next (heard_as (leaving n file) (message_in S t.asked)) (effect A t.asked).out.sent
  edges =
      let now = site_after n events S in
      let sent = (effect A t.asked).out.sent in
      let P : Saying Slot Cell → Type 0 = (λ z. steps.Rule late S now Next z sent) in
      subst P (sym (heard_same t.asked)) (late_rule n on sends.answers events event S t.asked is)

  -- ---- why an edge goes

  went_by : (peer birth : ℕ) (y : Seen Cell) → SaysItWent A t.asked file peer birth
      → MayGo (leaving n file) events More (turn_to Next) y peer birth
  went_by peer birth y h = elim h.says [
    | inl gone ↦
        let word = gone_says file h.packet.from S h.packet.message birth gone in
        inr (inl (came h.packet h.hears (Gone peer birth) (word ∙ ap (λ u. Gone u birth) h.from)))
    | inr bye ↦
        let word = bye_says file h.packet.from S h.packet.message bye.0 bye.1 bye.2 in
        inr (inr (inl (came h.packet h.hears (Bye peer birth) (word ∙ ap (λ u. Bye u bye.0.sender) h.from ∙ ap (Bye peer) bye.3))))
  ]

  pub goes : (own : ℕ) (x y : Seen Cell) (peer birth : ℕ) → IsSeen A file x × (x.birth ≡ own) → IsSeen B file y × (y.birth ≡ own)
      → is_listed x.edges peer birth ≡ true
      → (is_listed y.edges peer birth ≡ true) ⊎ MayGo (leaving n file) events More (turn_to Next) y peer birth
  goes own x y peer birth one two listed =
      let q = seen_of A file x (replica_at A file) refl one.0 in
      let r = seen_of B file y (replica_at B file) refl two.0 in
      let l : is_listed q.0.edges peer birth ≡ true = ap (λ (z : Seen Cell). is_listed z.edges peer birth) q.2 ∙ listed in
      elim (on.events.edges events event S t.asked is file q.0 r.0 peer birth q.1 r.1 l) [
        | inl on_it ↦ inl (sym (ap (λ (z : Seen Cell). is_listed z.edges peer birth) r.2) ∙ on_it)
        | inr (inl later) ↦
            inr (inl (later.0, later.1, sym (ap (λ (z : Seen Cell). is_listed z.edges peer later.0) r.2) ∙ later.2))
        | inr (inr (inl word)) ↦ inr (went_by peer birth y word)
        | inr (inr (inr removed)) ↦ inr (inr (inr (inr removed)))
      ]

  -- ---- why a replica goes

  pub dropped : (own : ℕ) (x : Seen Cell) → IsSeen A file x × (x.birth ≡ own) → WentAs n file More S own x
      → MayDrop (leaving n file) events More (turn_to Next) own x
  dropped own x held went = elim (went_or n events event file S own x went) [
    | inl was ↦ absurd (past n on file events S own x x was held)
    | inr now ↦ drops n on file events event t is k Next refl own x held now
  ]

  -- ---- Byes

  owed_of : (own : ℕ) (from : ℕ) → Goes n events event S file from → birth_at A file ≡ Some own
      → IsPast (leaving n file) More S own
  owed_of own from goes born =
      let x = born_at (replica_at A file) own born in
      let P : ℕ → Type 0 = (λ z. IsPast (leaving n file) More S z) in
      subst P x.2 (seen A file x.0, went_now n events event file S x.0 from goes x.1)

  owed_by : (own peer birth : ℕ) (asked : Input) → t.asked ≡ asked → gone_in A asked ≡ Some file → birth_at A file ≡ Some own
      → Contains (effect A asked).store.intents (intent.Bye file own peer birth)
      → Contains A.intents (intent.Bye file own peer birth) ⊎ IsPast (leaving n file) More S own
  owed_by own peer birth (input.Call moment call) same gone born h = absurd (none-some file gone)
  owed_by own peer birth (input.Tick moment word) same gone born h = absurd (none-some file gone)
  owed_by own peer birth (input.Arrival packet) same gone born h = by (takes_effect A (input.Arrival packet)) refl
    where
      by : (u : Bool) → takes_effect A (input.Arrival packet) ≡ u
          → Contains A.intents (intent.Bye file own peer birth) ⊎ IsPast (leaving n file) More S own
      by true going =
          let takes : TakesIn n W event S (input.Arrival packet) =
          is ∙ ap (λ z. Some (taking_of S z)) same in
          inr (owed_of own packet.from (record { packet = packet; takes = takes; heard = going; gone = gone; sender = refl }) born)
      by false idle_is =
          let P : Store → Type 0 = (λ z. Contains z.intents (intent.Bye file own peer birth)) in
          inl (subst P (still A packet idle_is) h)
  owed_by own peer birth input.Restart same gone born h = absurd (none-some file gone)

  pub owes : (own peer birth : ℕ) → Contains B.intents (intent.Bye file own peer birth)
      → Contains A.intents (intent.Bye file own peer birth) ⊎ IsPast (leaving n file) More S own
  owes own peer birth h = elim (on.events.begin events event S t.asked is file own peer birth h) [
    | inl was ↦ inl was
    | inr new ↦ owed_by own peer birth t.asked refl new.0 new.1 h
  ]

  pub ends : (own peer birth : ℕ) → Contains A.intents (intent.Bye file own peer birth)
      → Contains B.intents (intent.Bye file own peer birth)
      ⊎ (HearsWord (leaving n file) (message_in S t.asked) (ByeOk peer S own) ⊎ (is_removed (removed_of B) peer ≡ true))
  ends own peer birth h = elim (on.events.answered events event S t.asked is file own peer birth h) [
    | inl on_it ↦ inl on_it
    | inr (inl done) ↦
        let word = bye_ok_says file done.0.from S done.0.message own done.3 in
        inr (inl (came done.0 done.1 (ByeOk peer S own) (word ∙ ap (λ u. ByeOk u S own) done.2)))
    | inr (inr removed) ↦ inr (inr removed)
  ]

  pub byes : (m : Sent) (u own : ℕ) → Contains (effect A t.asked).out.sent m
      → word_of file m.packet.from m.to m.packet.message ≡ Bye u own
      → (u ≡ S) × (peer : ℕ) × (birth : ℕ) × Contains B.intents (intent.Bye file own peer birth)
  byes m u own among says_it =
      let w = said file m.packet.from m.to m.packet.message (Bye u own) says_it in
      let o = sends.owed events event S t.asked is m w.1 among w.2 in
      let P : FileId → Type 0 = (λ f. Contains B.intents (intent.Bye f w.1.sender m.to w.1.receiver)) in
      let Q : ℕ → Type 0 = (λ b. Contains B.intents (intent.Bye file b m.to w.1.receiver)) in
      (sym w.0 ∙ o.0, m.to, w.1.receiver, subst Q w.4 (subst P w.3 o.1))

  pub bye_oks : (m : Sent) (u peer birth : ℕ) → Contains (effect A t.asked).out.sent m
      → word_of file m.packet.from m.to m.packet.message ≡ ByeOk u peer birth
      → (u ≡ S) × HearsWord (leaving n file) (message_in S t.asked) (Bye peer birth)
      × ((y : Seen Cell) → IsSeen B file y → is_listed y.edges peer birth ≡ false)
  bye_oks m u peer birth among says_it =
      let w = said file m.packet.from m.to m.packet.message (ByeOk u peer birth) says_it in
      let o = sends.answered events event S t.asked is m file birth among w.2 in
      let bye = o.4 in
      let word = bye_says file o.1.from S o.1.message bye.0 bye.1 bye.2 in (
        sym w.0 ∙ o.0,
        came o.1 o.2 (Bye peer birth) (word ∙ ap (λ z. Bye z bye.0.sender) (o.3 ∙ w.1) ∙ ap (Bye peer) bye.3),
        λ y there.
            (let r = seen_of B file y (replica_at B file) refl there in
            false_from_ne_true (is_listed y.edges peer birth)
            (λ l. o.5 r.0 r.1 (ap (λ z. is_listed r.0.edges z birth) w.1 ∙ ap (λ (z : Seen Cell). is_listed z.edges peer birth) r.2 ∙ l))),
      )
