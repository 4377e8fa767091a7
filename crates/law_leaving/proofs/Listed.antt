-- A body comes along an edge, which stays.
use Rattle.std.proofs.Common.{ℕ, ◌≡◌, ◌==◌, Bool, true, false, cond, not, List, Option, None, Some, option_map, refl, sym, ap, subst, ◌∙◌, inl, inr}
use Rattle.std.proofs.lemmas.Bool.{and_parts, false≢true}
use Rattle.std.proofs.lemmas.Option.{same_Some}
use Rattle.pg_run.specs.pg_base.declared.id.FileId.{FileId}
use Rattle.pg_run.specs.pg_edges.Edges.{is_listed}
use Rattle.pg_run.specs.pg_msg.declared.message.Ends.{Ends}
use Rattle.pg_run.specs.pg_msg.declared.message.Message.{Message}
use Rattle.pg_run.specs.pg_msg.declared.message.Packet.{Packet}
use Rattle.pg_run.specs.pg_msg.declared.work.Work.{Work}
use Rattle.pg_run.specs.pg_msg.Work.{new_work}
use Rattle.pg_run.specs.pg_pieces.declared.accepting.EdgeUse.TheVariants as manner
use Rattle.pg_run.specs.pg_pieces.Accepting.{accept, is_accepted, is_current, meets}
use Rattle.pg_run.specs.pg_pieces.Done.{Done, idle, link_of}
use Rattle.pg_run.specs.pg_replica.declared.replica.Replica.{Replica}
use Rattle.pg_run.specs.pg_replica.Replica.{has_edge}
use Rattle.pg_run.specs.pg_replica.Replicas.{or_nothing}
use Rattle.pg_run.proofs.theory_flood_pieces.Choices.{chosen}
use Rattle.pg_run.specs.pg_server.declared.input.Input.TheVariants as input
use Rattle.pg_run.specs.pg_server.Local.{Effect, closed, effect, finished, first_effect, is_heard, receive, settled, intended}
use Rattle.pg_run.specs.pg_store.declared.store.Store.{Store}
use Rattle.pg_run.specs.pg_store.Births.{has_birth}
use Rattle.pg_run.specs.pg_store.Links.{knows_later}
use Rattle.pg_run.specs.pg_store.Store.{replica_at}
use Rattle.pg_run.proofs.Transfers.{KeepsTransfers, delta_keeps, piece_keeps}
use Rattle.law_births.proofs.Effects.{Lists, intended_shapes, lists_on}
use Rattle.law_births.proofs.Ends.{born_listed, born_to, ends, listed_born}
use Rattle.law_births.proofs.Pieces.{Shape, settle_stays, shape, staying_steps}
use Rattle.law_leaving.specs.Answers.{IsBodyOf}
use Rattle.law_leaving.proofs.Leaves.{held_of}

-- a replica that is listed so lists the peer
pub listed_so : (b : Store) (file : FileId) (peer birth : ℕ) (y : Replica) → replica_at b file ≡ Some y → Lists b file peer birth
    → is_listed y.edges peer birth ≡ true
listed_so b file peer birth y there l =
    let same = same_Some (l.0, l.1) (shape y) (sym l.2 ∙ ap (option_map shape) there) in
    listed_born y.edges peer birth (subst (λ (es : List (ℕ × ℕ)). born_to es peer ≡ Some birth) (ap (λ (z : Shape). z.1) same) l.3)

module _ (a : Store) (packet : Packet) (there : Ends) where
  abbrev W : Work
  W = new_work 0 packet.from

  abbrev Here : Store → Type 0
  Here b = Lists b there.file packet.from there.sender

  listed_before : is_accepted a packet.from manner.Answers there ≡ true → Here a
  listed_before accepted =
      let link = link_of packet.from there in
      let two = and_parts (is_current a packet.from there) (meets a packet.from manner.Answers there) accepted in
      let here = (and_parts (has_birth a there.file there.receiver) (not (knows_later a there.file packet.from there.sender)) two.0).0 in
      let x = held_of (replica_at a there.file) there.receiver here in
      let edge : has_edge x.0 link ≡ true = subst (λ (o : Option Replica). has_edge (or_nothing o) link ≡ true) x.1 two.1 in
      let listed = (and_parts (link.own == x.0.birth) (is_listed x.0.edges link.peer link.birth) edge).1 in
      (x.0.birth, ends x.0.edges, ap (option_map shape) x.1, born_listed x.0.edges packet.from there.sender listed)

  steps : KeepsTransfers there (λ (d : Done). Here d.store)
  steps = staying_steps there Here (λ b c stays h. lists_on b c there.file packet.from there.sender (stays.shapes there.file) h)

  accepted_lists : Here a → Here (accept a there manner.Answers W).store
  accepted_lists h =
      let P : Done → Type 0 = λ d. Here d.store in
      let later = knows_later a there.file packet.from there.sender in
      chosen P (has_birth a there.file there.receiver) (cond later (idle a W) (idle a W)) (idle a W)
      (chosen P later (idle a W) (idle a W) h h) h

  received_lists : Here a → (m : Message) → packet.message ≡ m → IsBodyOf a packet there → Here (receive a m W).store
  received_lists h m same is = elim is.0 [
    | inl d ↦
        subst (λ (z : Message). Here (receive a z W).store) (sym d.1 ∙ same)
        (delta_keeps there (λ (e : Done). Here e.store) steps a W h d.0 (accepted_lists h))
    | inr p ↦
        subst (λ (z : Message). Here (receive a z W).store) (sym p.1 ∙ same)
        (piece_keeps there (λ (e : Done). Here e.store) steps a W h p.0 (accepted_lists h))
  ]

  choose : {A : Type 0} (P : A → Type 0) (t : Bool) (x y : A) → t ≡ true → P x → P (cond t x y)
  choose P true x y is here = here
  choose P false x y is here = absurd (false≢true is)

  -- WHERE A BODY IS ACCEPTED its sender is listed behind the event
  pub body_lists : IsBodyOf a packet there → is_heard a packet ≡ true → Here (effect a (input.Arrival packet)).store
  body_lists is heard =
      let d = first_effect a (input.Arrival packet) in
      let s = settled d in
      let first : Here d.store =
      choose (λ (e : Done). Here e.store) (is_heard a packet) (receive a packet.message W) (idle a W) heard
      (received_lists (listed_before is.1) packet.message refl is) in
      choose (λ (e : Effect). Here e.store) (is_heard a packet) (closed None d) (finished None d) heard
      (lists_on s.store (intended s).store there.file packet.from there.sender (intended_shapes s there.file)
      (lists_on d.store s.store there.file packet.from there.sender ((settle_stays d.store d.work).shapes there.file) first))
