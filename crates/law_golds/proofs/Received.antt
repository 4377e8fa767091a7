-- What is said of flags is said of what a server holds and sends in answer to each message that
-- raises none.
use Rattle.std.proofs.Common.{ℕ, ◌≡◌, ◌==◌, ◌/◌, ◌%◌, false, not, List, length, slice_get, Option, None, Some, sym, subst, ◌∙◌, All}
use Rattle.std.proofs.lemmas.List.Elements.{All-contains}
use Rattle.std.proofs.lemmas.Option.{none-some}
use Rattle.law_births.proofs.StoreSays.{entry_says, intends_says, own_says, say_acknowledge, say_aimed, say_begin, say_ended, say_fill, say_let_go, say_unlink}
use Rattle.law_births.specs.Flags.{AnyBye, SaysEntry, SaysIntent, SaysMessage, SaysStore}
use Rattle.law_frame.proofs.pg_run.Still.{begun_still, still}
use Rattle.law_frame.proofs.pg_run.theory_flood_pieces.Choices.{chosen}
use Rattle.law_frame.specs.pg_run.pg_base.declared.id.FileId.{FileId}
use Rattle.law_frame.specs.pg_run.pg_edges.declared.edge.Edge.{Edge}
use Rattle.law_frame.specs.pg_run.pg_graph.Leaving.{bye_to, without_leave}
use Rattle.law_frame.specs.pg_run.pg_graph.Walks.{edges_of, most_hops, walk_along, walk_from, walk_of, walk_of_tick, with_few_edges}
use Rattle.law_frame.specs.pg_run.pg_intent.Intent.{key_of}
use Rattle.law_frame.specs.pg_run.pg_intent.Intents.{aimed, ended, stands}
use Rattle.law_frame.specs.pg_run.pg_intent.declared.intent.Intent.{Intent}
use Rattle.law_frame.specs.pg_run.pg_intent.declared.key.IntentKey.TheVariants as intent_key
use Rattle.law_frame.specs.pg_run.pg_msg.declared.message.Granted.{Granted}
use Rattle.law_frame.specs.pg_run.pg_msg.declared.message.Message.{Message}
use Rattle.law_frame.specs.pg_run.pg_msg.declared.message.Message.TheVariants as message
use Rattle.law_frame.specs.pg_run.pg_msg.declared.summary.Greeting.TheVariants as greeting
use Rattle.law_frame.specs.pg_run.pg_msg.declared.update.Update.{Update}
use Rattle.law_frame.specs.pg_run.pg_msg.declared.work.Work.{Work}
use Rattle.law_frame.specs.pg_run.pg_names.Names.{fill as fill_names}
use Rattle.law_frame.specs.pg_run.pg_pieces.Accepting.{ends_to}
use Rattle.law_frame.specs.pg_run.pg_pieces.Done.{Done, idle, link_of}
use Rattle.law_frame.specs.pg_run.pg_pieces.Intending.{begin_intent}
use Rattle.law_frame.specs.pg_run.pg_register.declared.flag.Flag.{Flag}
use Rattle.law_frame.specs.pg_run.pg_repair.Granting.{begun_by, granted_own}
use Rattle.law_frame.specs.pg_run.pg_server.Local.{receive}
use Rattle.law_frame.specs.pg_run.pg_server.pg_transfer.Asking.{with_notes}
use Rattle.law_frame.specs.pg_run.pg_store.Beginning.{let_go, with_intents}
use Rattle.law_frame.specs.pg_run.pg_store.Births.{birth_of, with_wishes}
use Rattle.law_frame.specs.pg_run.pg_store.Links.{unlink}
use Rattle.law_frame.specs.pg_run.pg_store.Store.{acknowledge, keep_delta, with_names}
use Rattle.law_frame.specs.pg_run.pg_store.Wishes.{aim_wish}
use Rattle.law_frame.specs.pg_run.pg_store.declared.store.Store.{Store}
use Rattle.law_frame.specs.pg_run.pg_store.Seen.{server_of}
use Rattle.law_frame.proofs.Keeps.{Answers, Keeps, raising}
use Rattle.law_frame.proofs.Received.{receive_keeps}
use Rattle.law_golds.proofs.Says.{Says, said_entry, said_entry_cell, said_flag, said_last, said_link, said_on, said_place, said_post, said_version}

module _ (Q : FileId → Flag → Type 0) (s : ℕ) (us : List Update) where
  abbrev Said : Done → Type 0
  Said d = Says Q s us d

  -- the store changes, and nothing is sent or made
  said_store : (d : Done) (b : Store) → SaysStore Q AnyBye s b → Said d → Said (idle b d.work)
  said_store d b store k = said_on Q s us d (idle b d.work) k store (still d.work)

  -- ---- the walk of a tick

  said_along : (a : Store) (f : FileId) (origin birth hops word : ℕ) (w : Work) (o : Option Edge)
      → Said (idle a w) → Said (idle a (walk_along a f origin birth hops word w o))
  said_along a f origin birth hops word w None k = k
  said_along a f origin birth hops word w (Some e) k =
      said_last Q s us a e.peer (message.Walk (ends_to a f e.birth) origin birth hops word) w tt k

  said_from : (a : Store) (word : ℕ) (w : Work) (o : Option FileId) → Said (idle a w)
      → Said (idle a (walk_from a word w o))
  said_from a word w None k = k
  said_from a word w (Some f) k =
      let es = edges_of a f in
      said_along a f (server_of a) (birth_of a f) most_hops (word / length es) w
      (slice_get es (word % length es)) k

  -- the walk of a tick
  pub said_walk_of_tick : (a : Store) (word : ℕ) (w : Work) → Said (idle a w)
      → Said (idle a (walk_of_tick a word w))
  said_walk_of_tick a word w k =
      let files = with_few_edges a in
      chosen (λ (v : Work). Said (idle a v)) (word == 0) w (walk_of a word files w) k
      (said_from a (word / length files) w (slice_get files (word % length files)) k)

  -- ---- intentions

  pub said_begun_intent : (d : Done) (i : Intent) → SaysIntent Q AnyBye i → Said d
      → Said (begin_intent d.store i d.work)
  said_begun_intent d i one k =
      said_on Q s us d (begin_intent d.store i d.work) k
      (intends_says Q AnyBye s d.store i d.work one k.store)
      (begun_still (not (stands d.store.intents (key_of i))) d.work (key_of i))

  -- ---- a message

  answer_says : (a b : Store) (m r : Message) → SaysStore Q AnyBye s b → Answers a m b r → SaysMessage Q r
  answer_says a b m (message.Grant ends granted) k of =
      subst (λ (g : Granted). All (Q ends.file) g.flags) (sym of.what) (own_says Q AnyBye s b ends.file k)
  answer_says a b m (message.PlaceIs dir e) k of =
      subst (SaysEntry Q) (sym of.2) (entry_says Q AnyBye s b of.0.child k)
  answer_says a b m (message.Cell ends tag c) k of = absurd of
  answer_says a b m (message.Confirm dir e) k of = absurd of
  answer_says a b m (message.Tell dir e) k of = absurd of
  answer_says a b m r k of = tt

  module _ (a : Store) (w : Work) (m : Message) (plain : raising m ≡ None) (says : SaysMessage Q m) where
    keeps_said : Keeps a w m Said
    keeps_said = record {
      cell_place = λ d ends tag p is here k. said_place Q s us d.store ends.file p d.work k;
      cell_flag = λ d ends tag g is here k. said_flag Q s us d.store ends.file g d.work (subst (SaysMessage Q) is says) k;
      cell_entry = λ d ends tag e sure is dir here k.
          said_entry_cell Q s us d.store ends.file e sure d.work (subst (SaysMessage Q) is says) k;
      version = λ d file v is k. said_version Q s us d.store file v d.work k;
      told_place = λ d dir e is held other k. said_place Q s us d.store e.child e.place d.work k;
      told_flag = λ d dir e g is held among k.
          said_flag Q s us d.store e.child g d.work (All-contains (Q e.child) e.flags g (subst (SaysMessage Q) is says) among) k;
      place_is = λ d dir e is held k. said_entry Q s us d.store dir e d.work (subst (SaysMessage Q) is says) k;
      tell = λ d dir e is held k. said_entry Q s us d.store dir e d.work (subst (SaysMessage Q) is says) k;
      links = λ d file birth is same k. said_link Q s us d.store file d.work.from birth d.work k;
      meets = λ d ends origin birth hops word is here k. said_link Q s us d.store ends.file origin birth d.work k;
      unlinks = λ d file birth is same k.
          said_store d (unlink d.store file d.work.from birth) (say_unlink Q AnyBye s d.store file d.work.from birth k.store) k;
      acknowledges = λ d ends q tag is same k.
          said_store d (acknowledge d.store ends.file (link_of d.work.from ends) q tag)
          (say_acknowledge Q AnyBye s d.store ends.file (link_of d.work.from ends) q tag k.store) k;
      begins = λ ends g is pending k.
          said_store (idle a w) (begun_by a ends g)
          (say_begin Q AnyBye s a ends.file ends.receiver g.policy (granted_own g) false (subst (SaysMessage Q) is says) k.store) k;
      fills = λ ends is here filling k.
          said_store (idle a w) (with_names a (fill_names a.names ends.file)) (say_fill Q AnyBye s a ends.file k.store) k;
      raises = λ d ends is here few k. absurd (none-some ends (sym plain ∙ is));
      goes = λ ends stamp is may k.
          said_store (idle (without_leave a ends.file) w) (let_go (without_leave a ends.file) ends.file)
          (say_let_go Q AnyBye s (without_leave a ends.file) ends.file k.store) k;
      says_bye = λ d ends stamp e is may among k. said_begun_intent d (bye_to ends.file (birth_of a ends.file) e) tt k;
      ends_intent = λ d q is k.
          said_store d (with_intents d.store (ended d.store.intents q)) (say_ended Q AnyBye s d.store q k.store) k;
      turns_intent = λ d q to is k.
          said_store d (with_intents d.store (aimed d.store.intents q to)) (say_aimed Q AnyBye s d.store q to k.store) k;
      asks_granter = λ d ends g is same k. (
          let q = intent_key.Fill ends.file in
          said_store d (with_intents d.store (aimed d.store.intents q d.work.from)) (say_aimed Q AnyBye s d.store q d.work.from k.store) k);
      turns_wish = λ d file to is k.
          said_store d (with_wishes d.store (aim_wish d.store.wishes file to)) (record { names = k.store.names; intents = k.store.intents }) k;
      answers = λ d r of same k.
          said_post Q s us d.store d.work.from r d.work (answer_says a d.store m r k.store of) k;
      tells_origin = λ d ends origin birth hops word is here k.
          said_post Q s us d.store origin (message.Greet (ends_to d.store ends.file birth) greeting.Meet) d.work tt k;
      passes_on = λ ends origin birth hops word left rest i e is here at k.
          said_last Q s us a e.peer (message.Walk (ends_to a ends.file e.birth) origin birth left rest) w tt k;
      notes = λ d ns k.
          said_store d (with_notes d.store ns) (record { names = k.store.names; intents = k.store.intents }) k;
      keeps = λ d file x k.
          said_store d (keep_delta d.store file x) (record { names = k.store.names; intents = k.store.intents }) k;
      tells = λ d ends head e of there k.
          said_post Q s us d.store e.peer (message.Harbinger (ends_to d.store ends.file e.birth) 0 head) d.work tt k;
    }

    -- ANY MESSAGE but two
    pub said_received : Said (idle a w) → Said (receive a m w)
    said_received k = receive_keeps a w Said m keeps_said k
