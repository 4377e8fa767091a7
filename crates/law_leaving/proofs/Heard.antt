-- Edges that are heard of are known at their other ends; and births of which a Bye was sent, or
-- heard, are over.
use Rattle.std.proofs.Common.{ℕ, ◌≡◌, ◌≤◌, ◌⊎◌, true, false, cond, is_some, List, Option, None, Some, option_map, refl, sym, ap, subst, ◌∙◌, inl, inr}
use Rattle.std.specs.Prelude.{Contains}
use Rattle.std.specs.List.{IsAmong}
use Rattle.std.proofs.lemmas.Bool.{eq-eqb, false≢true}
use Rattle.pg_run.specs.pg_base.declared.id.FileId.{FileId}
use Rattle.pg_run.specs.pg_edges.declared.edge.Edge.{Edge}
use Rattle.pg_run.specs.pg_edges.Edges.{edge_to, is_listed, keys_if_born}
use Rattle.pg_run.specs.pg_entries.declared.cell.Cell.{Cell}
use Rattle.pg_run.specs.pg_event.declared.event.Event.{Event}
use Rattle.pg_run.specs.theory_flood.Server.{Replica as Seen, tag_on}
use Rattle.pg_run.specs.pg_intent.declared.intent.Intent.TheVariants as intent
use Rattle.theory_leaving.specs.Moment.{IsHeard as IsHeardOf, IsNamedBack, IsPast, at}
use Rattle.pg_run.specs.pg_msg.declared.message.Ends.{Ends}
use Rattle.pg_run.specs.pg_msg.declared.message.Message.TheVariants as message
use Rattle.pg_run.specs.pg_msg.declared.message.Sent.{Sent}
use Rattle.pg_run.specs.theory_flood_pieces.Seen.{plain, seen}
use Rattle.pg_run.specs.theory_flood_pieces.Whole.{AreEdges}
use Rattle.pg_run.proofs.theory_flood_pieces.Choices.{found_replica}
use Rattle.pg_run.proofs.theory_flood_pieces.Found.{edges_found, tag_on_edge}
use Rattle.pg_run.specs.pg_replica.declared.replica.Replica.{Replica}
use Rattle.pg_run.specs.pg_store.declared.store.Store.{Store}
use Rattle.pg_run.specs.pg_store.Seen.{removed_of}
use Rattle.pg_run.specs.pg_store.Store.{replica_at}
use Rattle.pg_run.specs.pg_store.Together.{IsOver}
use Rattle.pg_run.specs.pg_register.Flag.{is_removed}
use Rattle.pg_run.specs.Graphs.{HasEdge}
use Rattle.pg_run.specs.Journal.{mail}
use Rattle.pg_run.specs.Laws.{store_after}
use Rattle.pg_run.specs.Leaving.{ByesAreOver, HeardEdgesAreKnown, IsHeard, OwesBye}
use Rattle.pg_run.specs.Run.{World, run}
use Rattle.law_leaving.specs.Premises.{StandOn}
use Rattle.law_leaving.specs.Seen.{leaving}
use Rattle.law_leaving.specs.Taken.{site}
use Rattle.law_leaving.proofs.Behind.{what_went_is_over}
use Rattle.law_leaving.proofs.Flags.{seen_of}
use Rattle.law_leaving.proofs.Given.{stands}
use Rattle.law_leaving.proofs.Kept.{kept}
use Rattle.law_leaving.proofs.Lists.{member_at}
use Rattle.law_leaving.proofs.Words.{bye_ok_says, bye_says}

among_of : {A : Type 0} (xs : List A) (x : A) → Contains xs x → IsAmong xs x
among_of xs x k = (k.0, (k.1, sym k.2))

own_born : (e : Edge) (o : Option Edge) → o ≡ Some e → is_some (keys_if_born o e.birth) ≡ true
own_born e o is =
    ap (λ (z : Option Edge). is_some (keys_if_born z e.birth)) is
    ∙ ap (λ t. is_some (cond t (Some e.keys) None)) (eq-eqb e.birth e.birth refl)

module _ (n : ℕ) (on : StandOn n) (events : List Event) where
  abbrev W : World
  W = run n events

  abbrev At : ℕ → Store
  At s = store_after n events s

  -- an edge is the one to its peer
  edge_found : (s : ℕ) (file : FileId) (x : Replica) (e : Edge) → replica_at (At s) file ≡ Some x → IsAmong x.edges e
      → edge_to x.edges e.peer ≡ Some e
  edge_found s file x e here among =
      let graph : AreEdges n s x.edges = found_replica (λ z. AreEdges n s z.edges) file x (At s).replicas (on.whole events s).replicas here in
      member_at (λ z. edge_to x.edges z.peer ≡ Some z) x.edges e (edges_found 0 x.edges graph.order) among

  -- an edge with a key that is acknowledged is heard of
  heard_of : (s : ℕ) (file : FileId) (x : Replica) (e : Edge) → replica_at (At s) file ≡ Some x → IsAmong x.edges e → IsHeard (At s) file e
      → IsHeardOf (leaving n file) (mail W.journal) s (site W s) x.birth e.peer e.birth
  heard_of s file x e here among h =
      let a = At s in
      let edge = edge_found s file x e here among in
      let visible : option_map (seen a file) (replica_at a file) ≡ Some (seen a file x) = ap (option_map (seen a file)) here in
      let q = at (leaving n file) x.birth e.peer e.birth h.key in
      record {
        key = h.key;
        cell = plain h.cell;
        has = record {
          replica = seen a file x;
          is = visible;
          own = refl;
          listed = own_born e (edge_to x.edges e.peer) edge;
          cell = ap (option_map plain) h.is;
        };
        free = inl (ap (λ (o : Option (Seen Cell)). tag_on o q) visible ∙ tag_on_edge x.edges e h.key None edge h.acknowledged);
      }

  back_is : (s : ℕ) (file : FileId) (x : Replica) (e : Edge) → replica_at (At s) file ≡ Some x → is_listed x.edges e.peer e.birth ≡ true
      → IsNamedBack (leaving n file) events (site W e.peer) e.birth s x.birth → HasEdge W file s e.peer
  back_is s file x e here listed back =
      let r = seen_of (At e.peer) file back.replica (replica_at (At e.peer) file) refl back.held.0 in
      let born : r.0.birth ≡ e.birth = ap (λ (z : Seen Cell). z.birth) r.2 ∙ back.held.1 in
      record {
        here = record { replica = x; is = here };
        there = record { replica = r.0; is = r.1 };
        names = ap (is_listed x.edges e.peer) born ∙ listed;
        named = ap (λ (z : Seen Cell). is_listed z.edges s x.birth) r.2 ∙ back.listed;
      }

  past_over : (t : ℕ) (file : FileId) (birth : ℕ) → IsPast (leaving n file) events t birth → IsOver (At t) file birth
  past_over t file birth past =
      let went = past.1 in
      subst (IsOver (At t) file) went.born (what_went_is_over n on events t file went.replica went.went)

  pub known : (s : ℕ) → 1 ≤ s → s ≤ n → (file : FileId) (x : Replica) (e : Edge) → replica_at (At s) file ≡ Some x → IsAmong x.edges e
      → IsHeard (At s) file e → is_removed (removed_of (At e.peer)) s ≡ false → HasEdge W file s e.peer ⊎ OwesBye W s file x e
  known s least most file x e here among h unseen =
      let heard = heard_of s file x e here among h in
      let listed = own_born e (edge_to x.edges e.peer) (edge_found s file x e here among) in
      elim ((kept n (stands n on) file events).heard s x.birth e.peer e.birth (least, most) heard) [
        | inl removed ↦ absurd (false≢true (sym unseen ∙ removed))
        | inr (inl back) ↦ inl (back_is s file x e here listed back)
        | inr (inr told) ↦ inr (record {
          over = past_over e.peer file e.birth (told.replica, told.went);
          owed = among_of (At e.peer).intents (intent.Bye file e.birth s x.birth) told.owed;
        })
      ]

  -- ---- Byes

  pub bye_over : (m : Sent) → Contains (mail W.journal) m → (ends : Ends) → m.packet.message ≡ message.Bye ends
      → IsOver (At m.packet.from) ends.file ends.sender
  bye_over m among ends is =
      past_over m.packet.from ends.file ends.sender
      ((kept n (stands n on) ends.file events).bye m.packet.from ends.sender
      (m, among, bye_says ends.file m.packet.from m.to m.packet.message ends is refl))

  pub bye_ok_over : (m : Sent) → Contains (mail W.journal) m → (file : FileId) (birth : ℕ) → m.packet.message ≡ message.ByeOk file birth
      → IsOver (At m.to) file birth
  bye_ok_over m among file birth is =
      past_over m.to file birth
      ((kept n (stands n on) file events).bye_ok m.packet.from m.to birth
      (m, among, bye_ok_says file m.packet.from m.to m.packet.message birth is)).0

-- HEARD EDGES ARE KNOWN
pub heard_edges_are_known : (n : ℕ) → StandOn n → HeardEdgesAreKnown n
heard_edges_are_known n on events s least most file x e edge h unseen =
    known n on events s least most file x e edge.is edge.among h unseen

pub byes_are_over : (n : ℕ) → StandOn n → ByesAreOver n
byes_are_over n on events m among = (bye_over n on events m among, bye_ok_over n on events m among)
