-- What a server says is gone was given out and is gone for good.
use Rattle.std.proofs.Common.{ℕ, ◌≡◌, ◌≤◌, ◌<◌, ◌++◌, arith, true, cond, not, List, [], ◌∷◌, append_assoc, is_some, inl, inr, sym, ap, subst, ◌∙◌}
use Rattle.std.specs.Prelude.{Contains}
use Rattle.std.proofs.lemmas.Bool.{and_parts, false≢true, not-true}
use Rattle.pg_run.specs.pg_base.declared.id.FileId.{FileId}
use Rattle.pg_run.specs.pg_base.declared.stamp.Stamp.{Stamp}
use Rattle.pg_run.specs.pg_event.declared.event.Event.{Event}
use Rattle.pg_run.proofs.theory_flood.Flood.{after_itself}
use Rattle.pg_run.specs.pg_intent.declared.key.IntentKey.TheVariants as intent_key
use Rattle.pg_run.specs.pg_msg.declared.message.Ends.{Ends}
use Rattle.pg_run.specs.pg_msg.declared.message.Message.{Message}
use Rattle.pg_run.specs.pg_msg.declared.message.Message.TheVariants as message
use Rattle.pg_run.specs.pg_msg.declared.message.Packet.{Packet}
use Rattle.pg_run.specs.pg_msg.declared.message.Sent.{Sent}
use Rattle.pg_run.specs.pg_msg.Work.{new_work}
use Rattle.pg_run.specs.pg_pieces.declared.accepting.EdgeUse.TheVariants as manner
use Rattle.pg_run.specs.pg_pieces.Accepting.{is_accepted, is_current}
use Rattle.pg_run.specs.pg_pieces.Done.{Done, idle}
use Rattle.pg_run.specs.pg_pieces.Parting.{stays_for}
use Rattle.pg_run.specs.pg_graph.Leaving.{goes, goes_now, goes_or_stays, may_leave, without_leave}
use Rattle.pg_run.proofs.pg_graph.LeaveOk.{stays_not}
use Rattle.pg_run.specs.pg_server.declared.input.Input.{Input}
use Rattle.pg_run.specs.pg_server.declared.input.Input.TheVariants as input
use Rattle.pg_run.specs.pg_server.Local.{effect, first_effect, is_heard, receive}
use Rattle.pg_run.specs.pg_store.declared.store.Store.{Store}
use Rattle.pg_run.specs.pg_store.Beginning.{let_go}
use Rattle.pg_run.specs.pg_store.Births.{birth_of, has_birth}
use Rattle.pg_run.specs.pg_store.Store.{replica_at, replica_of}
use Rattle.pg_run.specs.pg_store.Together.{IsOver}
use Rattle.pg_run.proofs.pg_store.Over.{goes_over, none_fills}
use Rattle.pg_run.specs.Births.{AllNamed, GoneSays, IsBirthAt, WasGivenOut}
use Rattle.pg_run.specs.Intending.{IntentionsAreInOrder}
use Rattle.pg_run.specs.Journal.{mail}
use Rattle.pg_run.specs.Laws.{TakesIn, store_after}
use Rattle.pg_run.specs.Leaving.{ByesAreOfOver}
use Rattle.pg_run.specs.Run.{Step, World, run, start}
use Rattle.pg_run.proofs.Frame.{HasCome, next_is, run_more}
use Rattle.law_births.specs.Premises.{FillsAlwaysStand, MakersHold, NextIdsAreFree, StoresAreWhole}
use Rattle.law_births.proofs.Alone.{alone_always, births_are_alone, goes_from}
use Rattle.law_births.proofs.Effects.{end_moves}
use Rattle.law_births.proofs.Has.{Goes, IsAlone, from_has, over_goes, over_has, over_of, tests_so, to_has}
use Rattle.law_births.proofs.Here.{of_birth}
use Rattle.law_births.proofs.Leaves.{byes_stay}
use Rattle.law_births.proofs.Mails.{OfBirths, SaysAll, along_named}
use Rattle.law_births.proofs.Moving.{AnyWhy, stays_goes}
use Rattle.law_births.proofs.Named.{AreGone, births_are_known, bye_said, gone_said}
use Rattle.law_births.proofs.Pieces.{ended_stays}
use Rattle.law_births.proofs.Spoken.{Freshly}

-- behind some of the events the server had it no more, nor was it to come, though it was given out
record WasGone (n : ℕ) (events : List Event) (s : ℕ) (file : FileId) (birth : ℕ) : Type 0 where
  before : List Event
  behind : List Event
  split : events ≡ before ++ behind
  away : IsBirthAt (store_after n before s) file birth → ⊥
  count : birth ≤ (store_after n before s).births

at_most : (a b c : ℕ) → a ≤ b → b ≤ c → a ≤ c
at_most a b c h k = omega arith

no_more : (a b : ℕ) → a ≤ b → b < a → ⊥
no_more a b h k = omega arith

-- a birth is over behind the leave with which its replica goes
pub went_over : (a : Store) (packet : Packet) (x : Ends) (stamp : Stamp) → packet.message ≡ message.LeaveOk x stamp → is_heard a packet ≡ true
    → goes_now a x stamp (new_work 0 packet.from) ≡ true → IsAlone a → IsOver (first_effect a (input.Arrival packet)).store x.file x.receiver
went_over a packet x stamp same heard now k =
    let f = x.file in
    let w = new_work 0 packet.from in
    let b = without_leave a f in
    let parts = and_parts (may_leave a x stamp w) (not (is_some (stays_for b f))) now in
    let kept = not-true (is_some (stays_for b f)) parts.1 in
    let here = of_birth (replica_at a f) x.receiver
    (and_parts (has_birth a f x.receiver) _ (and_parts (is_current a w.from x) _ (and_parts (is_accepted a w.from manner.Answers x) _ parts.0).0).0).0 in
    let is : first_effect a (input.Arrival packet) ≡ goes b f w =
    ap (λ t. cond t (receive a packet.message w) (idle a w)) heard ∙ ap (λ (m : Message). receive a m w) same
    ∙ ap (λ t. cond t (goes_or_stays b f w) (idle a w)) parts.0
    ∙ ap (λ t. cond t (idle b w) (goes b f w)) kept in
    let alone = (stays_goes (ended_stays a (intent_key.Leave f))).alone k in
    let over = goes_over b f x.receiver alone.together alone.births here (none_fills f b.intents (stays_not b f kept).1.1.0) in
    subst (λ (d : Done). IsOver d.store f x.receiver) (sym is)
    (over_goes (let_go b f) (goes b f w).store f x.receiver
    (stays_goes (byes_stay f (birth_of b f) (replica_of b f).edges (idle (let_go b f) w))) over)

module _ (n : ℕ) (intends : IntentionsAreInOrder n) (whole : StoresAreWhole n) (makers : MakersHold n)
    (fills : FillsAlwaysStand n) (free : NextIdsAreFree n) where
  module _ (events : List Event) where
    abbrev Gone : ℕ → FileId → ℕ → Type 0
    Gone s f b = WasGone n events s f b

    -- whose replica goes with a leave has it no more at the end of the event
    went : (before : List Event) (e : Event) (behind : List Event) → events ≡ before ++ (e ∷ behind) → (s : ℕ) → 1 ≤ s → s ≤ n
        → (packet : Packet) → TakesIn n (run n before) e s (input.Arrival packet) → (x : Ends) (stamp : Stamp)
        → packet.message ≡ message.LeaveOk x stamp → is_heard (store_after n before s) packet ≡ true
        → goes_now (store_after n before s) x stamp (new_work 0 packet.from) ≡ true → WasGone n events s x.file x.receiver
    went before e behind split s least most packet takes x stamp same heard now =
        let a = store_after n before s in
        let asked = input.Arrival packet in
        let over = went_over a packet x stamp same heard now (alone_always n fills free before s) in
        let at_end : IsOver (effect a asked).store x.file x.receiver =
        over_goes (first_effect a asked).store (effect a asked).store x.file x.receiver (end_moves AnyWhy a asked).goes over in
        let is : store_after n (before ++ e ∷ []) s ≡ (effect a asked).store =
        ap (λ (w : World). w.stores s) (run_more n (start n) before e)
        ∙ ap (λ (z : Step). z.stores s) (next_is n (run n before) e (record { server = s; asked = asked }) takes)
        ∙ after_itself (run n before).stores s (effect a asked).store in
        let then = subst (λ (z : Store). IsOver z x.file x.receiver) (sym is) at_end in
        record {
          before = before ++ e ∷ [];
          behind = behind;
          split = split ∙ sym (append_assoc before (e ∷ []) behind);
          away = λ h. over_has (store_after n (before ++ e ∷ []) s) x.file x.receiver then (to_has (store_after n (before ++ e ∷ []) s) x.file x.receiver h);
          count = then.given;
        }

    gone_by : (before : List Event) (e : Event) (behind : List Event) → events ≡ before ++ (e ∷ behind) → (s : ℕ) → 1 ≤ s → s ≤ n
        → (asked : Input) → TakesIn n (run n before) e s asked → HasCome (run n before) s asked → Freshly (Gone s) (store_after n before s) asked
    gone_by before e behind split s least most (input.Call moment call) takes came = tt
    gone_by before e behind split s least most (input.Tick moment word) takes came = tt
    gone_by before e behind split s least most (input.Arrival packet) takes came = (
      λ ends links here to_come.
          let m : Sent = record { to = s; packet = packet } in
          let named : AllNamed (WasGivenOut n before) packet.from s packet.message =
          (births_are_known n intends whole makers before).messages m came in
          let given = (along_named (WasGivenOut n before) packet.from s packet.message named ends links).1 in
          record {
            before = before;
            behind = e ∷ behind;
            split = split;
            away = λ is. elim is [
              | inl x ↦ false≢true (sym here ∙ tests_so (replica_at (store_after n before s) ends.file) x.0 ends.receiver x.1 x.2)
              | inr p ↦ false≢true (sym to_come ∙ p)
            ];
            count = (births_are_alone n fills free before s least most ends.file).counted ends.receiver given;
          },
      λ heard x stamp same now. went before e behind split s least most packet takes x stamp same heard now,
    )
    gone_by before e behind split s least most input.Restart takes came = tt

    are_gone : AreGone n events Gone
    are_gone before e behind split t takes acts = gone_by before e behind split t.server acts.least acts.most t.asked takes acts.came

    -- so it never has it again
    away_now : (s : ℕ) (f : FileId) (b : ℕ) → WasGone n events s f b → IsBirthAt (store_after n events s) f b → ⊥
    away_now s f b g is =
        let then = store_after n g.before s in
        let going : Goes then (store_after n events s) =
        subst (λ (es : List Event). Goes then (store_after n es s)) (sym g.split) (goes_from n fills free g.before g.behind s) in
        elim (going.newly f b (to_has (store_after n events s) f b is)) [
          | inl was ↦ g.away (from_has then f b was)
          | inr new ↦ no_more b then.births g.count new
        ]

    of_gone : (m : Sent) (f : FileId) (b : ℕ) → m.packet.message ≡ message.Gone f b → Contains (mail (run n events).journal) m
        → WasGone n events m.packet.from f b
    of_gone m f b same is =
        subst (SaysAll (OfBirths (WasGivenOut n events)) (Gone m.packet.from)) same
        (gone_said n intends whole makers events Gone are_gone m is)

    -- and it is over now
    over_now : (s : ℕ) (f : FileId) (b : ℕ) → WasGone n events s f b → IsOver (store_after n events s) f b
    over_now s f b g =
        let then = store_after n g.before s in
        let going : Goes then (store_after n events s) =
        subst (λ (es : List Event). Goes then (store_after n es s)) (sym g.split) (goes_from n fills free g.before g.behind s) in
        over_of (store_after n events s) f b (at_most b then.births (store_after n events s).births g.count going.count)
        (λ h. away_now s f b g (from_has (store_after n events s) f b h))

    given : (m : Sent) (f : FileId) (b : ℕ) → m.packet.message ≡ message.Gone f b → Contains (mail (run n events).journal) m
        → WasGivenOut n events f m.packet.from b
    given m f b same is =
        subst (AllNamed (WasGivenOut n events) m.packet.from m.to) same ((births_are_known n intends whole makers events).messages m is)

  -- WHAT IS GONE STAYS GONE
  pub gone_says : GoneSays n
  gone_says events m file birth is same = (
    given events m file birth same is,
    away_now events m.packet.from file birth (of_gone events m file birth same is),
  )

  -- BYES ARE OF BIRTHS THAT ARE OVER
  pub byes_are_of_over : ByesAreOfOver n
  byes_are_of_over events s least most f b peer peer_birth is =
      over_now events s f b
      (bye_said n intends whole makers events (λ t g c. WasGone n events t g c) (are_gone events) s least most f b peer peer_birth is)

  -- and who sent one has its birth behind it
  pub byes_sent_over : (events : List Event) (m : Sent) (x : Ends) → Contains (mail (run n events).journal) m → m.packet.message ≡ message.Bye x
      → IsOver (store_after n events m.packet.from) x.file x.sender
  byes_sent_over events m x is same =
      over_now events m.packet.from x.file x.sender
      (subst (SaysAll (OfBirths (WasGivenOut n events)) (λ f b. WasGone n events m.packet.from f b)) same
      (gone_said n intends whole makers events (λ t g c. WasGone n events t g c) (are_gone events) m is))
