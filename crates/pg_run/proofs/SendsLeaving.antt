-- What is sent where a LeaveOk comes: nothing. A replica that goes begins to take its leave.
use Rattle.std.proofs.Common.{ℕ, ◌≡◌, not, List, [], ◌∷◌, All}
use Rattle.pg_base.specs.declared.id.FileId.{FileId}
use Rattle.pg_base.specs.declared.stamp.Stamp.{Stamp}
use Rattle.pg_edges.specs.declared.edge.Edge.{Edge}
use Rattle.pg_server.specs.pg_pieces.pg_intent.Intent.{key_of}
use Rattle.pg_server.specs.pg_pieces.pg_intent.Intents.{stands}
use Rattle.pg_server.specs.pg_pieces.pg_msg.declared.message.Ends.{Ends}
use Rattle.pg_server.specs.pg_pieces.pg_msg.declared.message.Sent.{Sent}
use Rattle.pg_server.specs.pg_pieces.pg_msg.declared.work.Work.{Work}
use Rattle.pg_server.specs.pg_pieces.pg_msg.Work.{with_begun}
use Rattle.pg_server.specs.pg_pieces.pg_store.declared.store.Store.{Store}
use Rattle.pg_server.specs.pg_pieces.pg_store.Beginning.{let_go}
use Rattle.pg_server.specs.pg_pieces.pg_store.Births.{birth_of}
use Rattle.pg_server.specs.pg_pieces.pg_store.Store.{replica_of}
use Rattle.pg_server.specs.pg_graph.Leaving.{begin_byes, bye_to, goes, goes_or_stays, leave_ok, may_leave, without_leave}
use Rattle.pg_server.specs.pg_pieces.Done.{Done, idle}
use Rattle.pg_server.specs.pg_pieces.Intending.{begin_intent}
use Rattle.theory_flood_pieces.proofs.Choices.{chosen}

module _ (Q : Sent → Type 0) (from : ℕ) where
  -- all that is sent, be it last, has Q; and the work answers this server
  abbrev Fits : Work → Type 0
  Fits work = All Q work.sent × All Q work.tail × (work.from ≡ from)

  byes_fit : (file : FileId) (birth : ℕ) (es : List Edge) (d : Done) → Fits d.work → Fits (begin_byes file birth es d).work
  byes_fit file birth [] d k = k
  byes_fit file birth (e ∷ es) d k =
      let i = bye_to file birth e in
      byes_fit file birth es (begin_intent d.store i d.work)
      (chosen Fits (not (stands d.store.intents (key_of i))) (with_begun d.work (key_of i)) d.work k k)

  pub leave_ok_fits : (a : Store) (ends : Ends) (stamp : Stamp) (work : Work) → Fits work → Fits (leave_ok a ends stamp work).work
  leave_ok_fits a ends stamp work k =
      let P : Done → Type 0 = λ d. Fits d.work in
      let file = ends.file in
      let free = without_leave a file in
      chosen P (may_leave a ends stamp work) (goes_or_stays free file work) (idle a work)
      (chosen P _ (idle free work) (goes free file work) k
      (byes_fit file (birth_of free file) (replica_of free file).edges (idle (let_go free file) work) k)) k
