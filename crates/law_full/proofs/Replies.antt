-- What comes of messages and calls: what is noted, flags, places and versions that are made, and
-- what is sent.
use Rattle.std.proofs.Common.{ℕ, ◌≡◌, ◌==◌, ◌/◌, ◌%◌, Bool, true, false, cond, length, Option, None, Some, refl, sym, ap, ◌∙◌}
use Rattle.std.specs.List.{slice_get}
use Rattle.std.proofs.lemmas.Bool.{false≢true}
use Rattle.law_frame.specs.pg_run.pg_base.declared.id.FileId.{FileId}
use Rattle.law_frame.specs.pg_run.pg_edges.declared.edge.Edge.{Edge}
use Rattle.law_frame.specs.pg_run.pg_msg.declared.message.Ends.{Ends}
use Rattle.law_frame.specs.pg_run.pg_msg.declared.message.Message.{Message}
use Rattle.law_frame.specs.pg_run.pg_msg.declared.message.Message.TheVariants as message
use Rattle.law_frame.specs.pg_run.pg_msg.declared.summary.Greeting.TheVariants as greeting
use Rattle.law_frame.specs.pg_run.pg_msg.declared.work.Work.{Work}
use Rattle.law_frame.specs.pg_run.pg_msg.Work.{with_sent}
use Rattle.law_frame.specs.pg_run.pg_names.declared.attributes.Attributes.{Attributes}
use Rattle.law_frame.specs.pg_run.pg_names.Names.{own_or_blank}
use Rattle.law_frame.specs.pg_run.pg_replica.declared.replica.Replica.{Replica}
use Rattle.law_frame.specs.pg_run.pg_store.declared.store.Store.{Store}
use Rattle.law_frame.specs.pg_run.pg_store.Births.{birth_of}
use Rattle.law_frame.specs.pg_run.pg_store.Links.{is_clean, is_new_link, knows_later}
use Rattle.law_frame.specs.pg_run.pg_store.Seen.{server_of}
use Rattle.law_frame.specs.pg_run.pg_store.Store.{is_full, replica_at}
use Rattle.law_frame.specs.pg_run.pg_pieces.Accepting.{link_peer}
use Rattle.law_frame.specs.pg_run.pg_pieces.Done.{Done, idle}
use Rattle.law_frame.specs.pg_run.pg_pieces.Making.{own_next, raise_flag}
use Rattle.law_frame.specs.pg_run.pg_pieces.Posting.{reply, sent_to}
use Rattle.law_frame.specs.pg_run.pg_repair.Fetching.{answered_fetch, ends_to, fetch, give, given, granted_from}
use Rattle.law_frame.specs.pg_run.pg_graph.Walks.{edges_of, most_hops, walk_along, walk_from, walk_of, walk_of_tick, with_few_edges}
use Rattle.law_frame.specs.pg_run.pg_graph.Leaving.{bye_to}
use Rattle.law_frame.specs.pg_run.pg_server.Local.{receive}
use Rattle.law_frame.proofs.pg_run.theory_flood_pieces.Choices.{chosen, decided}
use Rattle.law_frame.proofs.Keeps.{Answers, Keeps}
use Rattle.law_frame.proofs.Received.{receive_keeps}
use Rattle.law_full.proofs.Plain.{intent_sends, plain_sends}
use Rattle.law_full.proofs.Works.{IsClosed, cell_sends, entry_sends, flag_sends, is_plain, link_sends, made_sends, place_sends, version_sends}

-- a property of what comes of an event that grants keep, and, where a server that holds this is
-- asked for a replica, what it says is full once it has linked who asks
pub record MayAnswer (Q : Work → Type 0) (a : Store) (w : Work) (m : Message) : Type 0 where
  pub granted : (v : Work) (b : Store) (to : ℕ) (ends : Ends) (own : Attributes) (x : Replica) → Q v
      → Q (with_sent v (sent_to b to (message.Grant ends (granted_from ends.file own x))))
  pub full : (file : FileId) (birth : ℕ) → m ≡ message.Fetch file birth → is_full a file ≡ true
      → let d = link_peer a file w.from birth w in is_clean d.store file d.work.from birth ≡ true
      → Q d.work → Q (with_sent d.work (sent_to d.store d.work.from (message.Full (ends_to d.store file birth))))

-- it asks for a replica
abbrev is_fetch : Message → Bool
is_fetch (message.Fetch file birth) = true
is_fetch _ = false

-- what is granted, or said to be full, is so to who asked
plain_answer : (a b : Store) (m r : Message) → is_fetch m ≡ false → Answers a m b r → is_plain r ≡ true
plain_answer a b m (message.Cell ends tag c) other of = absurd of
plain_answer a b m (message.Grant ends granted) other of = absurd (false≢true (sym other ∙ ap is_fetch of.asked))
plain_answer a b m (message.Full ends) other of = absurd (false≢true (sym other ∙ ap is_fetch of.0))
plain_answer a b m (message.Confirm dir e) other of = absurd of
plain_answer a b m r other of = refl

module _ (Q : Work → Type 0) (k : IsClosed Q) where
  abbrev DoneSends : Done → Type 0
  DoneSends d = Q d.work

  peer_sends : (a : Store) (f : FileId) (peer birth : ℕ) (w : Work) → Q w → DoneSends (link_peer a f peer birth w)
  peer_sends a f peer birth w h = link_sends Q k (is_new_link a f peer birth) w f peer h

  raise_sends : (a : Store) (f : FileId) (w : Work) → Q w → DoneSends (raise_flag a f w)
  raise_sends a f w h = made_sends Q k a f (own_next a f true) w h

  -- ---- the walk of a tick

  along_sends : (a : Store) (f : FileId) (origin birth hops word : ℕ) (w : Work) (o : Option Edge) → Q w → Q (walk_along a f origin birth hops word w o)
  along_sends a f origin birth hops word w None h = h
  along_sends a f origin birth hops word w (Some e) h = k.last w _ refl h

  from_sends : (a : Store) (word : ℕ) (w : Work) (o : Option FileId) → Q w → Q (walk_from a word w o)
  from_sends a word w None h = h
  from_sends a word w (Some f) h =
      let edges = edges_of a f in
      along_sends a f (server_of a) (birth_of a f) most_hops (word / length edges) w (slice_get edges (word % length edges)) h

  pub tick_sends : (a : Store) (word : ℕ) (w : Work) → Q w → Q (walk_of_tick a word w)
  tick_sends a word w h =
      let files = with_few_edges a in
      chosen Q (word == 0) w (walk_of a word files w) h (from_sends a (word / length files) w (slice_get files (word % length files)) h)

  -- ---- a message that asks for no replica

  keeps_sent : (a : Store) (w : Work) (m : Message) → is_fetch m ≡ false → Keeps a w m DoneSends
  keeps_sent a w m other = record {
    cell_place = λ d ends tag p is here h. place_sends Q k d.store ends.file p d.work h;
    cell_flag = λ d ends tag g is here h. flag_sends Q k d.store ends.file g d.work h;
    cell_entry = λ d ends tag e sure is dir here h. cell_sends Q k d.store ends.file e sure d.work h;
    version = λ d file v is h. version_sends Q k d.store file v d.work h;
    told_place = λ d dir e is held inner h. place_sends Q k d.store e.child e.place d.work h;
    told_flag = λ d dir e g is held among h. flag_sends Q k d.store e.child g d.work h;
    place_is = λ d dir e is held h. entry_sends Q k d.store dir e d.work h;
    tell = λ d dir e is held h. entry_sends Q k d.store dir e d.work h;
    links = λ d file birth is same h. peer_sends d.store file d.work.from birth d.work h;
    meets = λ d ends origin birth hops word is here h. peer_sends d.store ends.file origin birth d.work h;
    unlinks = λ d file birth is same h. h;
    acknowledges = λ d ends q tag is same h. h;
    begins = λ ends g is pending h. h;
    fills = λ ends is here filling h. h;
    raises = λ d ends is here few h. raise_sends d.store ends.file d.work h;
    goes = λ ends stamp is may h. h;
    says_bye = λ d ends stamp e is may among h. intent_sends Q k d (bye_to ends.file (birth_of a ends.file) e) h;
    ends_intent = λ d q is h. h;
    turns_intent = λ d q to is h. h;
    asks_granter = λ d ends g is same h. h;
    turns_wish = λ d file to is h. h;
    answers = λ d r of same h. plain_sends Q k d.store d.work.from r d.work (plain_answer a d.store m r other of) h;
    tells_origin = λ d ends origin birth hops word is here h.
        plain_sends Q k d.store origin (message.Greet (ends_to d.store ends.file birth) greeting.Meet) d.work refl h;
    passes_on = λ ends origin birth hops word left rest i e is here at h.
        k.last w (sent_to a e.peer (message.Walk (ends_to a ends.file e.birth) origin birth left rest)) refl h;
    notes = λ d ns h. h;
    keeps = λ d file x h. h;
    tells = λ d ends head e of there h.
        plain_sends Q k d.store e.peer (message.Harbinger (ends_to d.store ends.file e.birth) 0 head) d.work refl h;
  }

-- ---- a message

module _ (Q : Work → Type 0) (k : IsClosed Q) (a : Store) (w : Work) (h : Q w) where
  abbrev Sent_by : Done → Type 0
  Sent_by d = Q d.work

  given_sends : (m : Message) → MayAnswer Q a w m → (b : Store) (ends : Ends) (v : Work) (o : Option Replica) → Q v → Q (given b ends o v)
  given_sends m may b ends v None so = so
  given_sends m may b ends v (Some x) so = may.granted v b v.from ends (own_or_blank b.names ends.file) x so

  fetch_sends : (file : FileId) (birth : ℕ) → MayAnswer Q a w (message.Fetch file birth) → Sent_by (fetch a file birth w)
  fetch_sends file birth may =
      let d = link_peer a file w.from birth w in
      let first = peer_sends Q k a file w.from birth w h in
      let ends = ends_to d.store file birth in
      let later = knows_later a file w.from birth in
      decided Sent_by (is_full a file) (cond later (idle a w) (answered_fetch file birth d)) (idle a (reply a (message.NoGrant file birth) w))
      (λ holds. chosen Sent_by later (idle a w) (answered_fetch file birth d) h
      (decided Q (is_clean d.store file d.work.from birth) (reply d.store (message.Full ends) d.work) (give d.store ends d.work)
      (λ clean. may.full file birth refl holds clean first)
      (λ some. given_sends (message.Fetch file birth) may d.store ends d.work (replica_at d.store file) first)))
      (λ none. plain_sends Q k a w.from (message.NoGrant file birth) w refl h)

  pub receive_sends : (m : Message) → MayAnswer Q a w m → Sent_by (receive a m w)
  receive_sends (message.Fetch file birth) may = fetch_sends file birth may
  receive_sends m may = receive_keeps a w Sent_by m (keeps_sent Q k a w m refl) h
