-- What Invites leave of the work: where a message more at the end keeps what is said of it, all of
-- them do.
use Rattle.std.proofs.Common.{Bool, true, false, cond, Option, None, Some, List, [], ◌∷◌}
use Rattle.std.specs.Map.{keys_of}
use Rattle.pg_base.specs.declared.id.FileId.{FileId}
use Rattle.pg_edges.specs.declared.edge.Edge.{Edge}
use Rattle.pg_graph.specs.pg_msg.declared.message.Message.TheVariants as message
use Rattle.pg_graph.specs.pg_msg.declared.work.Work.{Work}
use Rattle.pg_graph.specs.pg_msg.Work.{with_tail}
use Rattle.pg_graph.specs.pg_store.declared.store.Store.{Store}
use Rattle.pg_graph.specs.pg_pieces.Accepting.{ends_to}
use Rattle.pg_graph.specs.pg_pieces.Posting.{sent_to}
use Rattle.pg_intentions.specs.Inviting.{invite_all, invite_along, invite_each, invite_of, invites, loose_edge}

module _ (Q : Work → Type 0) (store : Store)
    (more : (work : Work) (file : FileId) (e : Edge) → Q work → Q (with_tail work (sent_to store e.peer (message.Invite (ends_to store file e.birth))))) where
  along_by : (file : FileId) (o : Option Edge) (work : Work) → Q work → Q (invite_along store file o work)
  along_by file None work h = h
  along_by file (Some e) work h = more work file e h

  invited_one : (file : FileId) (work : Work) → Q work → Q (invite_of store file work)
  invited_one file work h = by (invites store file)
    where
      by : (t : Bool) → Q (cond t (invite_along store file (loose_edge store file) work) work)
      by true = along_by file (loose_edge store file) work h
      by false = h

  pub invited_each : (files : List FileId) (work : Work) → Q work → Q (invite_each store files work)
  invited_each [] work h = h
  invited_each (file ∷ files) work h = invited_each files (invite_of store file work) (invited_one file work h)

  pub invited_all : (work : Work) → Q work → Q (invite_all store work)
  invited_all work h = invited_each (keys_of store.names.held) work h
