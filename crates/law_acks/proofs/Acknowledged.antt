-- What is off an edge its peer has.
use Rattle.std.proofs.Common.{ℕ, ◌≡◌, ◌⊎◌, true, cond, List, Option, None, Some, is_some, option_map, refl, sym, ap, subst, ◌∙◌, inl, inr, All}
use Rattle.std.specs.List.{IsAmong}
use Rattle.std.proofs.lemmas.Bool.{eq-eqb}
use Rattle.pg_run.specs.pg_base.declared.id.FileId.{FileId}
use Rattle.pg_run.specs.pg_edges.declared.edge.Edge.{Edge}
use Rattle.pg_run.specs.pg_edges.declared.key.Key.{Key}
use Rattle.pg_run.specs.pg_edges.Edges.{edge_to, keys_if_born}
use Rattle.pg_run.specs.pg_edges.Keys.{tag_in}
use Rattle.pg_run.specs.pg_entries.declared.cell.Cell.{Cell}
use Rattle.pg_run.specs.theory_flood.Server.{Holds, Replica as Seen, Slot, slot, tag_on}
use Rattle.pg_run.proofs.theory_flood.Servers.{some_same}
use Rattle.pg_run.specs.pg_replica.declared.replica.Replica.{Replica}
use Rattle.pg_run.specs.pg_store.declared.store.Store.{Store}
use Rattle.pg_run.specs.pg_store.Cells.{cell_at}
use Rattle.pg_run.specs.pg_store.Store.{replica_at}
use Rattle.pg_run.specs.pg_store.Together.{IsOver}
use Rattle.pg_run.proofs.pg_store.Over.{over_tested}
use Rattle.pg_run.specs.theory_flood_pieces.Seen.{plain, seen}
use Rattle.pg_run.specs.theory_flood_pieces.UpTo.{IsUpTo}
use Rattle.pg_run.specs.theory_flood_pieces.Whole.{AreEdges}
use Rattle.pg_run.proofs.theory_flood_pieces.Choices.{found_replica}
use Rattle.pg_run.proofs.theory_flood_pieces.Found.{edges_found, tag_on_edge}
use Rattle.pg_run.proofs.theory_flood_pieces.Grown.{holds_itself}
use Rattle.pg_run.specs.Acknowledged.{AcknowledgedKeysAreHad, IsHadThere}
use Rattle.pg_run.specs.Run.{World, run}
use Rattle.law_acks.specs.Laws.{StandOn}
use Rattle.law_acks.proofs.Runs.{Keeps, run_keeps}

-- an edge is the one to its peer, and is listed with its birth
member_at : {A : Type 0} (P : A → Type 0) (xs : List A) (x : A) → All P xs → IsAmong xs x → P x
member_at P xs x h k = subst P (sym k.1.1) (h k.0 x k.1.0)

listed_by : (e : Edge) (o : Option Edge) → o ≡ Some e → is_some (keys_if_born o e.birth) ≡ true
listed_by e o is =
    ap (λ (z : Option Edge). is_some (keys_if_born z e.birth)) is ∙ own_born e
  where
    own_born : (e : Edge) → is_some (keys_if_born (Some e) e.birth) ≡ true
    own_born e = ap (λ t. is_some (cond t (Some e.keys) None)) (eq-eqb e.birth e.birth refl)

-- what is seen there is had there
had_by : (w : World) (file : FileId) (e : Edge) (c : Cell) (r : Seen Cell) (o : Option Replica)
    → replica_at (w.stores e.peer) file ≡ o → option_map (seen (w.stores e.peer) file) o ≡ Some r
    → r.birth ≡ e.birth → Holds IsUpTo r.cells (plain c) → IsHadThere w file e c
had_by w file e c r None is seen_is born holds = absurd (let z : None ≡ Some r = seen_is in cc)
had_by w file e c r (Some y) is seen_is born holds =
    let b = w.stores e.peer in
    let it : seen b file y ≡ r = some_same (seen b file y) r seen_is in
    record {
      replica = y;
      is = is;
      born = ap (λ (z : Seen Cell). z.birth) it ∙ born;
      had = holds_itself b file c (subst (λ (z : Seen Cell). Holds IsUpTo z.cells (plain c)) (sym it) holds);
    }

module _ (n : ℕ) (w : World) (k : Keeps n w) (s : ℕ) where
  abbrev A : Store
  A = w.stores s

  pub had : (file : FileId) (x : Replica) (e : Edge) (q : Key) (c : Cell) → replica_at A file ≡ Some x
      → IsAmong x.edges e → tag_in e.keys q ≡ None → cell_at A file q ≡ Some c
      → IsHadThere w file e c ⊎ IsOver (w.stores e.peer) file e.birth
  had file x e q c here among none is =
      let graph : AreEdges n s x.edges = found_replica (λ z. AreEdges n s z.edges) file x A.replicas (k.whole s).replicas here in
      let edge : edge_to x.edges e.peer ≡ Some e =
      member_at (λ z. edge_to x.edges z.peer ≡ Some z) x.edges e (edges_found 0 x.edges graph.order) among in
      let at : Slot = slot file x.birth e.peer e.birth q in
      let visible : option_map (seen A file) (replica_at A file) ≡ Some (seen A file x) = ap (option_map (seen A file)) here in
      elim (k.edges.edges s at (plain c)
      (record {
        replica = seen A file x;
        is = visible;
        own = refl;
        listed = listed_by e (edge_to x.edges e.peer) edge;
        cell = ap (option_map plain) is;
      })
      (ap (λ (o : Option (Seen Cell)). tag_on o at) visible ∙ tag_on_edge x.edges e q None edge none)) [
        | inl h ↦ let t = h.0 in inl (had_by w file e c t.replica (replica_at (w.stores e.peer) file) refl t.is t.other t.holds)
        | inr over ↦ inr ((over_tested (w.stores e.peer) file e.birth).0 over)
      ]

-- ACKNOWLEDGED KEYS ARE HAD
pub acknowledged_are_had : (n : ℕ) → StandOn n → AcknowledgedKeysAreHad n
acknowledged_are_had n on events s least most file x e q c here among none is =
    had n (run n events) (run_keeps n on events) s file x e q c here among none is
