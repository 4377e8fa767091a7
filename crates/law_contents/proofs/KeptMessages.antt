-- The deltas that replicas keep behind a message: but for a delta that is taken none is kept
-- besides.
use Rattle.std.proofs.Common.{ℕ, ◌≡◌, ◌≢◌, ◌&&◌, Bool, true, false, cond, not, List, [], Option, None, Some, is_some, inr, refl, sym, ap, subst, ◌∙◌}
use Rattle.pg_run.specs.pg_announced.declared.announced.Announced.{Announced}
use Rattle.pg_run.specs.pg_announced.Announced.{is_awaited}
use Rattle.pg_run.specs.pg_base.declared.head.Head.{Head}
use Rattle.pg_run.specs.pg_base.declared.id.FileId.{FileId}
use Rattle.pg_run.specs.pg_base.declared.policy.Policy.{Policy}
use Rattle.pg_run.specs.pg_base.declared.stamp.Stamp.{Stamp}
use Rattle.pg_run.specs.pg_base.Id.{is_same_file}
use Rattle.pg_run.proofs.pg_base.Orders.{is_same_file-true}
use Rattle.pg_run.specs.pg_base.Version.{actor_of}
use Rattle.pg_run.specs.pg_content.Content.{is_covered}
use Rattle.pg_run.specs.pg_entries.declared.cell.Cell.{Cell}
use Rattle.pg_run.specs.pg_entries.declared.cell.Cell.TheVariants as cell
use Rattle.pg_run.specs.pg_intent.declared.key.IntentKey.TheVariants as intent_key
use Rattle.pg_run.specs.pg_intent.Intents.{aimed}
use Rattle.pg_run.specs.pg_msg.declared.message.Ends.{Ends}
use Rattle.pg_run.specs.pg_msg.declared.message.Granted.{Granted}
use Rattle.pg_run.specs.pg_msg.declared.message.Message.{Message}
use Rattle.pg_run.specs.pg_msg.declared.message.Message.TheVariants as message
use Rattle.pg_run.specs.pg_msg.declared.message.Piece.{Piece}
use Rattle.pg_run.specs.pg_msg.declared.work.Work.{Work}
use Rattle.pg_run.specs.pg_msg.Work.{new_work}
use Rattle.pg_run.specs.pg_names.Names.{is_dir}
use Rattle.pg_run.proofs.pg_names.Lookups.{apart_back}
use Rattle.pg_run.specs.Asked.{goes as goes_off}
use Rattle.pg_run.specs.Asking.{Asked}
use Rattle.pg_run.specs.Carried.{gone_by}
use Rattle.pg_run.specs.Deltas.{deltas_in}
use Rattle.pg_run.specs.Journal.{Born}
use Rattle.pg_run.specs.pg_store.declared.store.Store.{Store}
use Rattle.pg_run.specs.pg_store.Beginning.{let_go}
use Rattle.pg_run.specs.pg_store.Births.{birth_of, is_pending}
use Rattle.pg_run.specs.pg_store.Store.{content_of, replica_of}
use Rattle.pg_run.specs.pg_pieces.declared.accepting.EdgeUse.TheVariants as manner
use Rattle.pg_run.specs.pg_pieces.Accepting.{accept, is_accepted, link_peer}
use Rattle.pg_run.specs.pg_pieces.Done.{Done, idle}
use Rattle.pg_run.specs.pg_pieces.Parting.{stays_for}
use Rattle.pg_run.specs.pg_cells.Cells.{fits, taken, taken_along}
use Rattle.pg_run.specs.pg_graph.Leaving.{goes, leave_ok, may_leave, without_leave}
use Rattle.pg_run.specs.pg_server.Local.{receive}
use Rattle.pg_run.specs.pg_repair.Granting.{begin_granted, begun_by, granted_own}
use Rattle.pg_run.specs.pg_server.pg_transfer.declared.piecing.Progress.{Progress}
use Rattle.pg_run.specs.pg_server.pg_transfer.declared.piecing.Progress.TheVariants as progress
use Rattle.pg_run.specs.pg_server.pg_transfer.Asking.{acknowledged, noted, put_off}
use Rattle.pg_run.specs.pg_server.pg_transfer.Harbinger.{heard, heard_beside}
use Rattle.pg_run.specs.pg_server.pg_transfer.Later.{later_along}
use Rattle.pg_run.specs.pg_server.pg_transfer.Piece.{advance, completed, pieced_along, pieced_by, whole, without_noted}
use Rattle.pg_run.proofs.theory_flood_pieces.Choices.{chosen, decided}
use Rattle.law_contents.proofs.Accepted.{answers_idle}
use Rattle.law_contents.proofs.Agreed.{Agrees}
use Rattle.law_contents.proofs.Carrying.{Carries}
use Rattle.law_contents.proofs.Changes.{Core, Keeps, Keeps-trans, alters_keeps, core_at}
use Rattle.law_contents.proofs.Going.{byes_quiet, core_gone, core_stays}
use Rattle.law_contents.proofs.Handlers.{IsKnown, accept_quiet, ack_quiet, bye_ok_quiet, bye_quiet, confirm_quiet, fetch_quiet, full_quiet, gone_quiet, invite_quiet, leave_quiet, no_grant_quiet, none_here_quiet, place_is_quiet, seek_quiet, tell_ok_quiet, tell_quiet, walk_quiet}
use Rattle.law_contents.proofs.KeptDelta.{IsLacking, delta_kept}
use Rattle.law_contents.proofs.KeptSteps.{AllStay, KeptStep, begun_stay, keeps_stay, kept_in, same_step, stay_then, taken_stay}
use Rattle.law_contents.proofs.Pieces.{begin_alters, intents_keep, link_keeps}
use Rattle.law_contents.proofs.Quiet.{Quiet, entry_cell_quiet, flag_quiet, place_quiet}
use Rattle.law_contents.proofs.Servers.{Came, IsServer, none_full}
use Rattle.law_contents.proofs.Wants.{want_quiet}

module _ {s : ℕ} {a : Store} {us : List Born} {p : FileId → Policy} {N : FileId → Type 0}
    {came : Came} (k : IsServer s a us p N came) (from : ℕ) where
  abbrev work : Work
  work = new_work 0 from

  abbrev Stay : Done → Type 0
  Stay d = AllStay a d.store

  quiet : (d : Done) → Quiet us p N a work d → Stay d
  quiet d h = keeps_stay a d.store h.keeps

  still : Stay (idle a work)
  still f = same_step (core_at a f) (core_at a f) refl

  -- the same replicas
  same : (d : Done) → ((f : FileId) → core_at d.store f ≡ core_at a f) → Stay d
  same d e f = same_step (core_at a f) (core_at d.store f) (e f)

  known : IsKnown us p N a
  known file c e = (k.stands.policies file c e, k.held file c e)

  -- ---- a cell

  module _ (ends : Ends) (tag : ℕ) where
    abbrev linked : Done
    linked = accept a ends manner.Makes work

    linked_keeps : Keeps a linked.store
    linked_keeps = (accept_quiet us p N a work ends manner.Makes).keeps

    then_keeps : (d : Done) → Keeps linked.store d.store → Stay d
    then_keeps d h = keeps_stay a d.store (Keeps-trans linked_keeps h)

    cell_taken : (c : Cell) → Stay (taken linked.store ends.file c linked.work)
    cell_taken (cell.Place place) =
        then_keeps (taken linked.store ends.file (cell.Place place) linked.work)
        (place_quiet us p N linked.store ends.file place linked.work).keeps
    cell_taken (cell.Flag flag) =
        then_keeps (taken linked.store ends.file (cell.Flag flag) linked.work)
        (flag_quiet us p N linked.store ends.file flag linked.work).keeps
    cell_taken (cell.Entry entry sure) =
        then_keeps (taken linked.store ends.file (cell.Entry entry sure) linked.work)
        (entry_cell_quiet us p N linked.store ends.file entry sure linked.work).keeps
    cell_taken (cell.Version v) =
        let b = linked.store in
        stay_then a b (taken b ends.file (cell.Version v) linked.work).store
        (keeps_stay a b linked_keeps) (taken_stay b ends.file v)

    cell_kept : (c : Cell) → Stay (receive a (message.Cell ends tag c) work)
    cell_kept c =
        let accepted = is_accepted a from manner.Makes ends in
        let along = taken_along ends tag c linked in
        chosen Stay (fits ends.file c) (cond accepted along linked) (idle a work)
        (chosen Stay accepted along linked (cell_taken c) (keeps_stay a linked.store linked_keeps))
        still

    -- ---- a harbinger

    module _ (head : Head) where
      abbrev Same : Done → Type 0
      Same d = (f : FileId) → core_at d.store f ≡ core_at linked.store f

      beside_same : (o : Option Announced)
          → Same (heard_beside o linked.store ends tag head linked.work)
      beside_same None f = refl
      beside_same (Some n) f = refl

      heard_same : Same (heard linked.store ends tag head linked.work)
      heard_same =
          let b = linked.store in
          let w = linked.work in
          let told = idle b (acknowledged b ends head.stamp tag w) in
          let late = idle b (put_off b ends head.stamp w) in
          chosen Same (is_covered (content_of b ends.file).heads (actor_of head) head.number) told _
          (λ f. refl)
          (chosen Same (is_awaited b.announced ends.file w.from head) late _ (λ f. refl)
          (beside_same (noted b ends.file head.stamp)))

      harbinger_kept : Stay (receive a (message.Harbinger ends tag head) work)
      harbinger_kept =
          let accepted = is_accepted a from manner.Makes ends in
          let along = heard linked.store ends tag head linked.work in
          chosen Stay (is_dir ends.file) (idle a work) (cond accepted along linked) still
          (chosen Stay accepted along linked
          (same along (λ f. heard_same f ∙ linked_keeps.each f))
          (keeps_stay a linked.store linked_keeps))

  -- ---- a grant

  module _ (ends : Ends) (g : Granted) where
    begun_kept : is_pending a ends.file ends.receiver ≡ true → Stay (begin_granted a ends g work)
    begun_kept pending =
        let file = ends.file in
        let none = k.paired.pending file ends.receiver pending in
        let b = begun_by a ends g in
        let linked = link_peer b file from ends.sender work in
        let is = aimed linked.store.intents (intent_key.Fill file) linked.work.from in
        begun_stay a (begin_granted a ends g work).store file ends.receiver g.policy none
        (alters_keeps (begin_alters a file ends.receiver g.policy (granted_own g) false
        (none_full k.paired file none))
        (Keeps-trans (link_keeps b file from ends.sender) (intents_keep linked.store is)))

    grant_kept : Stay (receive a (message.Grant ends g) work)
    grant_kept =
        decided Stay (is_pending a ends.file ends.receiver) (begin_granted a ends g work)
        (accept a ends manner.Makes work) begun_kept
        (λ e. quiet (accept a ends manner.Makes work) (accept_quiet us p N a work ends manner.Makes))

  -- ---- answers about bodies

  answered : (ends : Ends) (along : Done → Done) → Stay (along (idle a work))
      → Stay (cond (is_dir ends.file) (idle a work)
      (cond (is_accepted a from manner.Answers ends) (along (accept a ends manner.Answers work))
      (accept a ends manner.Answers work)))
  answered ends along h =
      let met = accept a ends manner.Answers work in
      let back = sym (answers_idle a ends work) in
      chosen Stay (is_dir ends.file) (idle a work) _ still
      (chosen Stay (is_accepted a from manner.Answers ends) (along met) met
      (subst (λ (d : Done). Stay (along d)) back h) (subst Stay back still))

  later_kept : (ends : Ends) (stamp : Stamp) → Stay (receive a (message.Later ends stamp) work)
  later_kept ends stamp = answered ends (λ d. later_along true ends stamp d) still

  module _ (ends : Ends) (q : Piece) where
    completed_kept : (o : Option Announced) → Stay (completed o a ends q work)
    completed_kept None = still
    completed_kept (Some n) =
        taken_stay (without_noted a ends.file q.head.stamp) ends.file (whole n q)

    pieced_kept : (t : Progress) → Stay (pieced_by t a ends q work)
    pieced_kept progress.Nothing = still
    pieced_kept (progress.More offset) = still
    pieced_kept progress.Whole = completed_kept (noted a ends.file q.head.stamp)

    piece_kept : Stay (receive a (message.Piece ends q) work)
    piece_kept =
        answered ends (λ d. pieced_along true ends q d)
        (pieced_kept (advance from (noted a ends.file q.head.stamp) q))

  -- ---- a replica goes

  module _ (ends : Ends) (stamp : Stamp) where
    abbrev Unasking : Store
    Unasking = without_leave a ends.file

    abbrev Left : Store
    Left = let_go Unasking ends.file

    left_keeps : Keeps Left (goes Unasking ends.file work).store
    left_keeps =
        (byes_quiet us p N ends.file (birth_of Unasking ends.file)
        (replica_of Unasking ends.file).edges (idle Left work)).keeps

    left_by : (f : FileId) (t : Bool) → is_same_file ends.file f ≡ t
        → KeptStep t (core_at a f) (core_at Left f) []
    left_by f true e =
        let P : FileId → Type 0 = (λ g. core_at Left g ≡ None) in
        let none : core_at Left f ≡ None =
        subst P (is_same_file-true ends.file f e) (core_gone Unasking ends.file) in
        record { kept = ap kept_in none; none = λ n. (inr refl, refl) }
    left_by f false e =
        same_step (core_at a f) (core_at Left f)
        (core_stays Unasking ends.file f (apart_back ends.file f e))

    went : (f : FileId) → KeptStep (is_same_file ends.file f) (core_at a f)
        (core_at (goes Unasking ends.file work).store f) []
    went f =
        subst (λ (o : Option Core). KeptStep (is_same_file ends.file f) (core_at a f) o [])
        (sym (left_keeps.each f)) (left_by f (is_same_file ends.file f) refl)

    leave_by : (f : FileId) (t u : Bool)
        → KeptStep (goes_off f (cond (t && not u) (Some ends.file) None)) (core_at a f)
        (core_at (cond t (cond u (idle Unasking work) (goes Unasking ends.file work)) (idle a work)).store f) []
    leave_by f true true = still f
    leave_by f true false = went f
    leave_by f false u = still f

    leave_kept : (f : FileId)
        → KeptStep (goes_off f (gone_by a from (message.LeaveOk ends stamp))) (core_at a f)
        (core_at (leave_ok a ends stamp work).store f) []
    leave_kept f =
        leave_by f (may_leave a ends stamp work) (is_some (stays_for Unasking ends.file))

  -- ---- A MESSAGE
  module _ (some : from ≢ 0) (wants : Asked) (agrees : Agrees a us came wants) (lacking : IsLacking a)
    where
      pub received_kept : (m : Message) → Carries us p N m → (f : FileId)
          → KeptStep (goes_off f (gone_by a from m)) (core_at a f) (core_at (receive a m work).store f)
          (deltas_in a wants f from m)
      received_kept (message.Cell ends tag c) h = cell_kept ends tag c
      received_kept (message.Ack ends q tag) h = quiet _ (ack_quiet us p N a work ends q tag)
      received_kept (message.Harbinger ends tag head) h = harbinger_kept ends tag head
      received_kept (message.Want ends wanted) h = quiet _ (want_quiet k from ends wanted)
      received_kept (message.Delta ends d) h = delta_kept k from some wants agrees lacking ends d h
      received_kept (message.Piece ends q) h = piece_kept ends q
      received_kept (message.Later ends stamp) h = later_kept ends stamp
      received_kept (message.LeaveOk ends stamp) h = leave_kept ends stamp
      received_kept (message.Fetch file birth) h = quiet _ (fetch_quiet us p N a known work file birth)
      received_kept (message.Grant ends g) h = grant_kept ends g
      received_kept (message.NoGrant file birth) h = quiet _ (no_grant_quiet us p N a work file birth)
      received_kept (message.Full ends) h = quiet _ (full_quiet us p N a work ends)
      received_kept (message.Seek file birth) h = quiet _ (seek_quiet us p N a work file birth)
      received_kept (message.Greet ends why) h = quiet _ (accept_quiet us p N a work ends manner.Makes)
      received_kept (message.Walk ends origin birth hops word) h =
          quiet _ (walk_quiet us p N a work ends origin birth hops word)
      received_kept (message.NoneHere ask file child) h =
          quiet _ (none_here_quiet us p N a work ask file child)
      received_kept (message.Gone file birth) h = quiet _ (gone_quiet us p N a work file birth)
      received_kept (message.Bye ends) h = quiet _ (bye_quiet us p N a work ends)
      received_kept (message.ByeOk file birth) h = quiet _ (bye_ok_quiet us p N a work file birth)
      received_kept (message.Leave ends stamp) h = quiet _ (leave_quiet us p N a work ends stamp)
      received_kept (message.Confirm dir entry) h = quiet _ (confirm_quiet us p N a work dir entry)
      received_kept (message.PlaceIs dir entry) h = quiet _ (place_is_quiet us p N a work dir entry)
      received_kept (message.Tell dir entry) h = quiet _ (tell_quiet us p N a work dir entry)
      received_kept (message.TellOk dir child stamp) h =
          quiet _ (tell_ok_quiet us p N a work dir child stamp)
      received_kept (message.Invite ends) h = quiet _ (invite_quiet us p N a work ends)
