-- Behind a message that asks for no version what is noted goes on.
use Rattle.std.proofs.Common.{ℕ, ◌≡◌, Bool, true, false, cond, List}
use Rattle.pg_run.specs.pg_base.declared.id.FileId.{FileId}
use Rattle.pg_run.specs.pg_base.declared.policy.Policy.{Policy}
use Rattle.pg_run.specs.pg_entries.declared.cell.Cell.{Cell}
use Rattle.pg_run.specs.pg_entries.declared.cell.Cell.TheVariants as cell
use Rattle.pg_run.specs.pg_intent.declared.key.IntentKey.TheVariants as intent_key
use Rattle.pg_run.specs.pg_intent.Intents.{aimed}
use Rattle.pg_run.specs.pg_msg.declared.message.Ends.{Ends}
use Rattle.pg_run.specs.pg_msg.declared.message.Granted.{Granted}
use Rattle.pg_run.specs.pg_msg.declared.message.Message.{Message}
use Rattle.pg_run.specs.pg_msg.declared.message.Message.TheVariants as message
use Rattle.pg_run.specs.pg_msg.declared.work.Work.{Work}
use Rattle.pg_run.specs.pg_msg.Work.{new_work}
use Rattle.pg_run.specs.Journal.{Born}
use Rattle.pg_run.specs.pg_store.declared.store.Store.{Store}
use Rattle.pg_run.specs.pg_store.Births.{is_pending}
use Rattle.pg_run.specs.pg_pieces.declared.accepting.EdgeUse.TheVariants as manner
use Rattle.pg_run.specs.pg_pieces.Accepting.{accept, is_accepted, link_peer}
use Rattle.pg_run.specs.pg_pieces.Done.{Done, idle}
use Rattle.pg_run.specs.pg_cells.Cells.{fits, taken, taken_along}
use Rattle.pg_run.specs.pg_repair.Granting.{begin_granted, begun_by, granted_own}
use Rattle.pg_run.specs.pg_server.Local.{receive}
use Rattle.pg_run.proofs.theory_flood_pieces.Choices.{chosen}
use Rattle.law_contents.proofs.Changes.{Keeps, Keeps-refl, Keeps-trans}
use Rattle.law_contents.proofs.Covered.{taken_goes}
use Rattle.law_contents.proofs.GoesCalls.{begin_noted}
use Rattle.law_contents.proofs.Goings.{Goes, keeps_go, keeps_then, notes_then}
use Rattle.law_contents.proofs.Handlers.{IsKnown, accept_quiet, ack_quiet, bye_ok_quiet, bye_quiet, confirm_quiet, fetch_quiet, full_quiet, gone_quiet, invite_quiet, leave_quiet, no_grant_quiet, none_here_quiet, place_is_quiet, seek_quiet, tell_ok_quiet, tell_quiet, walk_quiet}
use Rattle.law_contents.proofs.Pieces.{intents_keep, link_keeps}
use Rattle.law_contents.proofs.Quiet.{entry_cell_quiet, flag_quiet, place_quiet}
use Rattle.law_contents.proofs.Servers.{Came, IsServer, stands_kept}
use Rattle.law_contents.proofs.Wants.{want_quiet}

-- it may ask for a version, or end that one is asked for
abbrev pub is_of_bodies : Message → Bool
is_of_bodies (message.Harbinger ends tag head) = true
is_of_bodies (message.Delta ends d) = true
is_of_bodies (message.Piece ends q) = true
is_of_bodies (message.Later ends stamp) = true
is_of_bodies (message.LeaveOk ends stamp) = true
is_of_bodies _ = false

module _ {s : ℕ} {a : Store} {us : List Born} {p : FileId → Policy} {N : FileId → Type 0}
    {came : Came} (k : IsServer s a us p N came) (from : ℕ) where
  abbrev work : Work
  work = new_work 0 from

  abbrev Going : Done → Type 0
  Going d = Goes a d.store

  known : IsKnown us p N a
  known file c e = (k.stands.policies file c e, k.held file c e)

  go : {b : Store} → Keeps a b → Goes a b
  go h = keeps_go h

  -- ---- a cell

  module _ (ends : Ends) (tag : ℕ) where
    abbrev linked : Done
    linked = accept a ends manner.Makes work

    linked_keeps : Keeps a linked.store
    linked_keeps = (accept_quiet us p N a work ends manner.Makes).keeps

    taken_going : (c : Cell) → Going (taken linked.store ends.file c linked.work)
    taken_going (cell.Place place) =
        go (Keeps-trans linked_keeps
        (place_quiet us p N linked.store ends.file place linked.work).keeps)
    taken_going (cell.Flag flag) =
        go (Keeps-trans linked_keeps
        (flag_quiet us p N linked.store ends.file flag linked.work).keeps)
    taken_going (cell.Entry entry sure) =
        go (Keeps-trans linked_keeps
        (entry_cell_quiet us p N linked.store ends.file entry sure linked.work).keeps)
    taken_going (cell.Version v) =
        keeps_then linked_keeps
        (taken_goes linked.store ends.file v (stands_kept k.stands linked.store linked_keeps).sorted)

    cell_goes : (c : Cell) → Going (receive a (message.Cell ends tag c) work)
    cell_goes c =
        let accepted = is_accepted a from manner.Makes ends in
        let along = taken_along ends tag c linked in
        chosen Going (fits ends.file c) (cond accepted along linked) (idle a work)
        (chosen Going accepted along linked (taken_going c) (go linked_keeps)) (go (Keeps-refl a))

  -- ---- a grant

  module _ (ends : Ends) (g : Granted) where
    begun_going : Going (begin_granted a ends g work)
    begun_going =
        let b = begun_by a ends g in
        let begins = begin_noted a ends.file ends.receiver g.policy (granted_own g) false in
        let d = link_peer b ends.file from ends.sender work in
        notes_then begins.view begins.notes begins.free
        (keeps_go (Keeps-trans (link_keeps b ends.file from ends.sender)
        (intents_keep d.store (aimed d.store.intents (intent_key.Fill ends.file) d.work.from))))

    grant_goes : Going (receive a (message.Grant ends g) work)
    grant_goes =
        chosen Going (is_pending a ends.file ends.receiver) (begin_granted a ends g work)
        (accept a ends manner.Makes work) begun_going (go (accept_quiet us p N a work ends manner.Makes).keeps)

  -- ---- A MESSAGE
  pub received_goes : (m : Message) → is_of_bodies m ≡ false → Going (receive a m work)
  received_goes (message.Cell ends tag c) is = cell_goes ends tag c
  received_goes (message.Ack ends q tag) is = go (ack_quiet us p N a work ends q tag).keeps
  received_goes (message.Want ends wanted) is = go (want_quiet k from ends wanted).keeps
  received_goes (message.Harbinger ends tag head) is =
      absurd (let z : true ≡ false = is in cc)
  received_goes (message.Delta ends d) is = absurd (let z : true ≡ false = is in cc)
  received_goes (message.Piece ends q) is = absurd (let z : true ≡ false = is in cc)
  received_goes (message.Later ends stamp) is = absurd (let z : true ≡ false = is in cc)
  received_goes (message.LeaveOk ends stamp) is = absurd (let z : true ≡ false = is in cc)
  received_goes (message.Fetch file birth) is = go (fetch_quiet us p N a known work file birth).keeps
  received_goes (message.Grant ends g) is = grant_goes ends g
  received_goes (message.NoGrant file birth) is = go (no_grant_quiet us p N a work file birth).keeps
  received_goes (message.Full ends) is = go (full_quiet us p N a work ends).keeps
  received_goes (message.Seek file birth) is = go (seek_quiet us p N a work file birth).keeps
  received_goes (message.Greet ends why) is = go (accept_quiet us p N a work ends manner.Makes).keeps
  received_goes (message.Walk ends origin birth hops word) is =
      go (walk_quiet us p N a work ends origin birth hops word).keeps
  received_goes (message.NoneHere ask file child) is =
      go (none_here_quiet us p N a work ask file child).keeps
  received_goes (message.Gone file birth) is = go (gone_quiet us p N a work file birth).keeps
  received_goes (message.Bye ends) is = go (bye_quiet us p N a work ends).keeps
  received_goes (message.ByeOk file birth) is = go (bye_ok_quiet us p N a work file birth).keeps
  received_goes (message.Leave ends stamp) is = go (leave_quiet us p N a work ends stamp).keeps
  received_goes (message.Confirm dir entry) is = go (confirm_quiet us p N a work dir entry).keeps
  received_goes (message.PlaceIs dir entry) is = go (place_is_quiet us p N a work dir entry).keeps
  received_goes (message.Tell dir entry) is = go (tell_quiet us p N a work dir entry).keeps
  received_goes (message.TellOk dir child stamp) is =
      go (tell_ok_quiet us p N a work dir child stamp).keeps
  received_goes (message.Invite ends) is = go (invite_quiet us p N a work ends).keeps
