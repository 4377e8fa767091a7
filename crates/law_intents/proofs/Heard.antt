-- A message, and the walk of a tick, in the midst of an event.
use Rattle.std.proofs.Common.{ℕ, ◌≡◌, ◌==◌, ◌/◌, ◌%◌, false, List, length, Option, None, Some, refl, sym, subst}
use Rattle.std.specs.List.{slice_get}
use Rattle.std.proofs.lemmas.List.Elements.{All-contains}
use Rattle.law_frame.specs.pg_run.pg_base.declared.id.FileId.{FileId}
use Rattle.law_frame.specs.pg_run.pg_edges.declared.edge.Edge.{Edge}
use Rattle.law_frame.specs.pg_run.pg_entries.declared.cell.Cell.TheVariants as cells
use Rattle.law_frame.specs.pg_run.pg_intent.declared.key.IntentKey.TheVariants as intent_key
use Rattle.law_frame.specs.pg_run.pg_msg.declared.message.Message.{Message}
use Rattle.law_frame.specs.pg_run.pg_msg.declared.message.Message.TheVariants as message
use Rattle.law_frame.specs.pg_run.pg_msg.declared.summary.Greeting.TheVariants as greeting
use Rattle.law_frame.specs.pg_run.pg_msg.declared.work.Work.{Work}
use Rattle.law_frame.specs.pg_run.pg_msg.Work.{with_tail}
use Rattle.law_frame.specs.pg_run.pg_names.Names.{fill as fill_names, filled}
use Rattle.law_frame.specs.pg_run.pg_store.declared.store.Store.{Store}
use Rattle.law_frame.specs.pg_run.pg_store.Births.{birth_of, with_wishes}
use Rattle.law_frame.specs.pg_run.pg_store.Links.{is_linked, unlink}
use Rattle.law_frame.specs.pg_run.pg_store.Seen.{server_of}
use Rattle.law_frame.specs.pg_run.pg_store.Servers.{next_target}
use Rattle.law_frame.specs.pg_run.pg_store.Store.{acknowledge, keep_delta, replica_at, replica_of, with_names}
use Rattle.law_frame.specs.pg_run.pg_store.Wishes.{aim_wish}
use Rattle.law_frame.proofs.pg_run.pg_store.Given.{pending_may}
use Rattle.law_frame.specs.pg_run.pg_pieces.Accepting.{ends_to}
use Rattle.law_frame.specs.pg_run.pg_pieces.Done.{Done, idle, link_of}
use Rattle.law_frame.specs.pg_run.pg_pieces.Posting.{post, sent_to}
use Rattle.law_frame.specs.pg_run.pg_repair.Granting.{granted_own}
use Rattle.law_frame.specs.pg_run.pg_graph.Leaving.{bye_to, without_leave}
use Rattle.law_frame.specs.pg_run.pg_graph.Walks.{edges_of, most_hops, walk_along, walk_from, walk_of, walk_of_tick, with_few_edges}
use Rattle.law_frame.specs.pg_run.pg_server.Local.{receive}
use Rattle.law_frame.specs.pg_run.pg_server.pg_transfer.Asking.{with_notes}
use Rattle.law_frame.proofs.Keeps.{Keeps}
use Rattle.law_frame.proofs.Received.{receive_keeps}
use Rattle.law_intents.proofs.Aimed.{next_aims}
use Rattle.law_intents.proofs.Begun.{far_begin}
use Rattle.law_intents.proofs.Far.{Aims, Far, IsBeside, beside_either, beside_itself, far_aimed, far_ended, far_entry, far_flag, far_link, far_on, far_place, far_raised, far_taken, far_with, far_work, same_either, same_itself}
use Rattle.law_intents.proofs.Goes.{goes_update}
use Rattle.law_intents.proofs.Leaving.{IsOpening, Live, far_begins, far_goes, live_edges}

module _ (n s : ℕ) (r : List ℕ) where
  abbrev Fine : Done → Type 0
  Fine d = Far n s r d

  -- a message is sent
  pub far_sent : (d : Done) (to : ℕ) (m : Message) → Fine d → Fine (idle d.store (post d.store to m d.work))
  far_sent d to m k = far_work n s r d (post d.store to m d.work) k (record { left = refl; from = refl })

  -- replicas, wishes and notes do not count
  beside : (d : Done) (b : Store) → b.servers ≡ d.store.servers → b.names ≡ d.store.names → b.intents ≡ d.store.intents → Fine d → Fine (idle b d.work)
  beside d b servers names intents k =
      far_with n s r d b d.work k (record { servers = servers; names = names; intents = intents }) (beside_itself d.work)

  far_unlinked : (d : Done) (f : FileId) (peer birth : ℕ) → Fine d → Fine (idle (unlink d.store f peer birth) d.work)
  far_unlinked d f peer birth k =
      far_with n s r d (unlink d.store f peer birth) d.work k
      (same_either d.store (is_linked d.store f peer birth) _ d.store (record { servers = refl; names = refl; intents = refl }) (same_itself d.store)) (beside_itself d.work)

  -- a thing is full
  pub far_filled : (d : Done) (f : FileId) → Fine d → Fine (idle (with_names d.store (fill_names d.store.names f)) d.work)
  far_filled d f k =
      far_on n s r d (with_names d.store (fill_names d.store.names f)) d.work k refl refl refl (goes_update d.store.names f filled (λ x. refl) d.work.left)

  -- ---- the walk of a tick

  along_beside : (a : Store) (f : FileId) (origin birth hops word : ℕ) (w : Work) (o : Option Edge) → IsBeside w (walk_along a f origin birth hops word w o)
  along_beside a f origin birth hops word w None = beside_itself w
  along_beside a f origin birth hops word w (Some e) = record { left = refl; from = refl }

  from_beside : (a : Store) (word : ℕ) (w : Work) (o : Option FileId) → IsBeside w (walk_from a word w o)
  from_beside a word w None = beside_itself w
  from_beside a word w (Some f) =
      let edges = edges_of a f in
      along_beside a f (server_of a) (birth_of a f) most_hops (word / length edges) w (slice_get edges (word % length edges))

  pub far_tick : (d : Done) (word : ℕ) → Fine d → Fine (idle d.store (walk_of_tick d.store word d.work))
  far_tick d word k =
      let files = with_few_edges d.store in
      let w = d.work in
      far_work n s r d (walk_of_tick d.store word w) k
      (beside_either w (word == 0) w (walk_of d.store word files w) (beside_itself w) (from_beside d.store (word / length files) w (slice_get files (word % length files))))

  -- ---- a message

  module _ (a : Store) (w : Work) (m : Message) (first : IsOpening n s r (idle a w)) (far : Fine (idle a w)) where
    next_here : (to : ℕ) → to ≡ next_target a w.from → Aims n s r to
    next_here to is = subst (Aims n s r) (sym is) (next_aims n s r a far.servers far.server far.removed w.from)

    keeps_far : Keeps a w m Fine
    keeps_far = record {
      cell_place = λ d ends tag p is here k. far_place n s r d ends.file p k;
      cell_flag = λ d ends tag g is here k. far_flag n s r d ends.file g k;
      cell_entry = λ d ends tag e sure is dir here k. far_taken n s r d ends.file (cells.Entry e sure) k;
      version = λ d file v is k. far_taken n s r d file (cells.Version v) k;
      told_place = λ d dir e is held other k. far_place n s r d e.child e.place k;
      told_flag = λ d dir e g is held among k. far_flag n s r d e.child g k;
      place_is = λ d dir e is held k. far_entry n s r d dir e k;
      tell = λ d dir e is held k. far_entry n s r d dir e k;
      links = λ d file birth is same k. far_link n s r d file d.work.from birth k;
      meets = λ d ends origin birth hops word is here k. far_link n s r d ends.file origin birth k;
      unlinks = λ d file birth is same k. far_unlinked d file d.work.from birth k;
      acknowledges = λ d ends q tag is same k.
          beside d (acknowledge d.store ends.file (link_of d.work.from ends) q tag) refl refl refl k;
      begins = λ ends g is pending k.
          far_begin n s r (idle a w) k ends.file ends.receiver g.policy (granted_own g) false
          (pending_may a ends.file ends.receiver first.births pending).away;
      fills = λ ends is here filling k. far_filled (idle a w) ends.file k;
      raises = λ d ends is here few k. far_raised n s r d ends.file k;
      goes = λ ends stamp is may k. far_goes n s r (idle (without_leave a ends.file) w) ends.file first.none may.quiet k;
      says_bye = λ d ends stamp e is may among k. (
          let edge = All-contains (Live n s r) (replica_of a ends.file).edges e
          (live_edges n s r (idle a w) first ends.file (replica_at a ends.file) refl) among in
          far_begins n s r d (bye_to ends.file (birth_of a ends.file) e) (λ some. record { other = edge.0.other; stays = edge.1 }) (λ dir child. refl) k);
      ends_intent = λ d q is k. far_ended n s r d q k;
      turns_intent = λ d q to is k. far_aimed n s r d q to (next_here to is) k;
      asks_granter = λ d ends g is same k. far_aimed n s r d (intent_key.Fill ends.file) d.work.from k.from k;
      turns_wish = λ d file to is k. beside d (with_wishes d.store (aim_wish d.store.wishes file to)) refl refl refl k;
      answers = λ d x of same k. far_sent d d.work.from x k;
      tells_origin = λ d ends origin birth hops word is here k. far_sent d origin (message.Greet (ends_to d.store ends.file birth) greeting.Meet) k;
      passes_on = λ ends origin birth hops word left rest i e is here at k.
          far_work n s r (idle a w) (with_tail w (sent_to a e.peer (message.Walk (ends_to a ends.file e.birth) origin birth left rest))) k
          (record { left = refl; from = refl });
      notes = λ d ns k. beside d (with_notes d.store ns) refl refl refl k;
      keeps = λ d file x k. beside d (keep_delta d.store file x) refl refl refl k;
      tells = λ d ends head e of there k. far_sent d e.peer (message.Harbinger (ends_to d.store ends.file e.birth) 0 head) k;
    }

    -- A MESSAGE
    pub far_received : Fine (receive a m w)
    far_received = receive_keeps a w Fine m keeps_far far
