-- Who answers lists whom it answers.
use Rattle.std.proofs.Common.{ℕ, ◌≡◌, ◌⊎◌, true, cond, not, List, None, Some, option_map, refl, sym, ap, subst, ◌∙◌, inl, inr}
use Rattle.std.specs.Prelude.{Contains}
use Rattle.std.proofs.lemmas.Bool.{and_parts}
use Rattle.std.proofs.lemmas.Option.{none-some}
use Rattle.pg_run.specs.pg_base.declared.id.FileId.{FileId}
use Rattle.pg_run.specs.pg_pieces.Accepting.{is_current}
use Rattle.pg_run.specs.pg_edges.declared.key.Key.{Key}
use Rattle.pg_run.specs.pg_edges.Edges.{is_listed}
use Rattle.pg_run.specs.pg_entries.declared.cell.Cell.{Cell}
use Rattle.pg_run.specs.pg_event.declared.event.Event.{Event}
use Rattle.pg_run.specs.theory_flood.Promises.{Saying}
use Rattle.pg_run.specs.theory_flood.Promises.Saying.{AckTo, Other}
use Rattle.pg_run.specs.theory_flood.Server.{Replica as Seen, Slot, slot}
use Rattle.pg_run.proofs.theory_flood.Flood.{after_itself}
use Rattle.pg_run.specs.pg_msg.declared.message.Ends.{Ends}
use Rattle.pg_run.specs.pg_msg.declared.message.Message.{Message}
use Rattle.pg_run.specs.pg_msg.declared.message.Message.TheVariants as message
use Rattle.pg_run.specs.pg_msg.declared.message.Packet.{Packet}
use Rattle.pg_run.specs.pg_msg.declared.message.Sent.{Sent}
use Rattle.pg_run.specs.theory_flood_pieces.Seen.{saying, says, seen}
use Rattle.pg_run.proofs.theory_flood_pieces.Sending.{no_answer}
use Rattle.pg_run.specs.pg_replica.declared.replica.Replica.{Replica}
use Rattle.pg_run.specs.pg_server.declared.input.Input.{Input}
use Rattle.pg_run.specs.pg_server.declared.input.Input.TheVariants as input
use Rattle.pg_run.specs.pg_server.Local.{effect, takes_effect}
use Rattle.pg_run.specs.pg_store.declared.store.Store.{Store}
use Rattle.pg_run.specs.pg_store.Births.{has_birth}
use Rattle.pg_run.specs.pg_store.Links.{knows_later}
use Rattle.pg_run.specs.pg_store.Store.{replica_at}
use Rattle.pg_run.specs.pg_store.Together.{birth_at}
use Rattle.pg_run.specs.Births.{linking}
use Rattle.pg_run.specs.Carried.{gone_by, gone_in}
use Rattle.pg_run.specs.Laws.{TakesIn}
use Rattle.pg_run.specs.Run.{Step, World, next, run}
use Rattle.pg_run.proofs.Frame.{next_is}
use Rattle.law_births.proofs.Current.{met_of}
use Rattle.law_births.proofs.Effects.{Lists}
use Rattle.law_leaving.specs.Answers.{AnswersAreToAccepted, IsBodyOf, IsCellOf, IsHarbingerOf}
use Rattle.law_leaving.specs.Premises.{StandOn}
use Rattle.law_leaving.proofs.Behind.{born_at}
use Rattle.law_leaving.proofs.Leaves.{held_of}
use Rattle.law_leaving.proofs.Listed.{body_lists, listed_so}
use Rattle.law_leaving.proofs.Ordered.{IsSeen}

-- what an answer says: to whom, of which edge, and who says it
pub record IsAck (from to : ℕ) (m : Message) (file : FileId) (s own u n : ℕ) (g : ℕ) : Type 0 where
  pub ends : Ends
  pub key : Key
  pub tag : ℕ
  pub is : m ≡ message.Ack ends key tag
  pub to_is : to ≡ s
  pub from_is : from ≡ u
  pub of : ends.file ≡ file
  pub sender : ends.sender ≡ n
  pub receiver : ends.receiver ≡ own

abbrev owner_said : ℕ → Saying Slot Cell → ℕ
owner_said other (AckTo o q g) = o
owner_said other _ = other

abbrev slot_said : Slot → Saying Slot Cell → Slot
slot_said other (AckTo o q g) = q
slot_said other _ = other

ack_said : (from to : ℕ) (m : Message) (file : FileId) (s own u n : ℕ) (k : Key) (g : ℕ) → saying from to m ≡ AckTo s (slot file own u n k) g
    → IsAck from to m file s own u n g
ack_said from to (message.Cell ends tag c) file s own u n k g is = absurd (let x = is in cc)
ack_said from to (message.Ack ends q tag) file s own u n k g is =
    let there = slot file own u n k in
    let same : slot ends.file ends.receiver from ends.sender q ≡ there = ap (slot_said there) is in
    record {
      ends = ends;
      key = q;
      tag = tag;
      is = refl;
      to_is = ap (owner_said s) is;
      from_is = ap (λ (z : Slot). z.peer) same;
      of = ap (λ (z : Slot). z.file) same;
      sender = ap (λ (z : Slot). z.birth) same;
      receiver = ap (λ (z : Slot). z.own) same;
    }
ack_said from to (message.Harbinger ends tag head) file s own u n k g is =
    absurd (no_answer from to ends tag head s (slot file own u n k) g is)
ack_said from to _ file s own u n k g is = absurd (let x : ◌≡◌ {A = Saying Slot Cell} Other (AckTo s (slot file own u n k) g) = is in cc)

module _ (n : ℕ) (on : StandOn n) (events : List Event) (event : Event) (s : ℕ) (asked : Input) (takes : TakesIn n (run n events) event s asked) where
  abbrev W : World
  W = run n events

  abbrev A : Store
  A = W.stores s

  abbrev B : Store
  B = (effect A asked).store

  -- who accepts what it answers holds the thing on
  module _ (packet : Packet) (is : asked ≡ input.Arrival packet) (heard : takes_effect A asked ≡ true) (there : Ends)
      (current : is_current A packet.from there ≡ true) where
    born : birth_at A there.file ≡ Some there.receiver
    born =
        let here = (and_parts (has_birth A there.file there.receiver) (not (knows_later A there.file packet.from there.sender)) current).0 in
        let x = held_of (replica_at A there.file) there.receiver here in
        ap (option_map (λ (r : Replica). r.birth)) x.1 ∙ ap (λ b. Some b) x.2

    on_it : gone_by A packet.from packet.message ≡ None → birth_at B there.file ≡ Some there.receiver
    on_it none = elim (on.events.ends events event s asked takes there.file there.receiver born) [
      | inl stays ↦ stays
      | inr gone ↦ absurd (none-some there.file (sym (ap (gone_in A) is ∙ none) ∙ gone.1))
    ]

    abbrev ListsIt : Type 0
    ListsIt = (y : Replica) → replica_at B there.file ≡ Some y → is_listed y.edges packet.from there.sender ≡ true

    -- and lists who sent it: a cell and a harbinger link their sender
    linking_lists : linking packet.message ≡ Some there → ListsIt
    linking_lists links y at =
        let it : TakesIn n W event s (input.Arrival packet) = subst (TakesIn n W event s) is takes in
        let same : (next n W event).stores s ≡ B =
        ap (λ (z : Step). z.stores s) (next_is n W event (record { server = s; asked = asked }) takes) ∙ after_itself W.stores s B in
        on.births.linked events event s packet there y it (subst (λ z. takes_effect A z ≡ true) is heard) links
        (met_of A packet.from there current)
        (ap (λ (z : Store). replica_at z there.file) same ∙ at)

    -- and a body comes along an edge that is there
    bodies_list : IsBodyOf A packet there → ListsIt
    bodies_list body y at =
        let P : Input → Type 0 = λ x. Lists (effect A x).store there.file packet.from there.sender in
        let l : P asked = subst P (sym is) (body_lists A packet there body (ap (takes_effect A) (sym is) ∙ heard)) in
        listed_so B there.file packet.from there.sender y at l

    holds_and_lists : IsCellOf packet there ⊎ (IsHarbingerOf packet there ⊎ IsBodyOf A packet there)
        → (birth_at B there.file ≡ Some there.receiver) × ListsIt
    holds_and_lists (inl k) = (
      on_it (ap (gone_by A packet.from) k.2),
      linking_lists (ap linking k.2 ∙ ap (λ t. cond t (Some there) None) k.3),
    )
    holds_and_lists (inr (inl k)) = (
      on_it (ap (gone_by A packet.from) k.2),
      linking_lists (ap linking k.2 ∙ ap (λ t. cond t None (Some there)) k.3),
    )
    holds_and_lists (inr (inr k)) = (
      on_it (elim k.0 [ inl d ↦ ap (gone_by A packet.from) d.1 | inr p ↦ ap (gone_by A packet.from) p.1 ]),
      bodies_list k,
    )

  pub acks : AnswersAreToAccepted n → (file : FileId) (m : Sent) (o own u b : ℕ) (k : Key) (g : ℕ) → Contains (effect A asked).out.sent m
      → says m ≡ AckTo o (slot file own u b k) g
      → (u ≡ s) × (y : Seen Cell) × (IsSeen B file y × (y.birth ≡ b)) × (is_listed y.edges o own ≡ true)
  acks answers file m o own u b k g among ack =
      let a = ack_said m.packet.from m.to m.packet.message file o own u b k g ack in
      let told = answers events event s asked takes m a.ends a.key a.tag among a.is in
      let c = told.1 in
      let there = c.there in
      let both = holds_and_lists c.packet c.hears.is c.hears.heard there c.current c.kind in
      let y = born_at (replica_at B there.file) there.receiver both.0 in
      let l = both.1 y.0 y.1 in
      let of : there.file ≡ file = c.file ∙ a.of in
      let P : FileId → Type 0 = (λ f. replica_at B f ≡ Some y.0) in
      let at : replica_at B file ≡ Some y.0 = subst P of y.1 in
      let listed : is_listed y.0.edges o own ≡ true =
      ap (λ z. is_listed y.0.edges z own) (sym (c.from ∙ a.to_is)) ∙ ap (is_listed y.0.edges c.packet.from) (sym (c.sender ∙ a.receiver)) ∙ l in
      (sym a.from_is ∙ told.0, seen B file y.0, (ap (option_map (seen B file)) at, y.2 ∙ c.receiver ∙ a.sender), listed)
