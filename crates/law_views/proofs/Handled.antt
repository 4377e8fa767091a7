-- What comes of each message: edges to its sender, and to the origin of a walk, and messages in the
-- server's view.
use Rattle.std.proofs.Common.{ℕ, ◌≡◌, List, sym, subst, true, false}
use Rattle.law_frame.specs.pg_run.pg_base.declared.id.FileId.{FileId}
use Rattle.law_frame.specs.pg_run.pg_graph.Leaving.{bye_to}
use Rattle.law_frame.specs.pg_run.pg_intent.declared.key.IntentKey.TheVariants as intent_key
use Rattle.law_frame.specs.pg_run.pg_intent.Intents.{aimed, ended}
use Rattle.law_frame.specs.pg_run.pg_msg.declared.message.Message.{Message}
use Rattle.law_frame.specs.pg_run.pg_msg.declared.message.Message.TheVariants as message
use Rattle.law_frame.specs.pg_run.pg_msg.declared.summary.Greeting.TheVariants as greeting
use Rattle.law_frame.specs.pg_run.pg_msg.declared.work.Work.{Work}
use Rattle.law_frame.specs.pg_run.pg_names.Names as names
use Rattle.law_frame.proofs.pg_run.pg_names.Lookups.{update_frame}
use Rattle.law_frame.specs.pg_run.pg_store.declared.store.Store.{Store}
use Rattle.law_frame.specs.pg_run.pg_store.Beginning.{let_go}
use Rattle.law_frame.specs.pg_run.pg_store.Births.{birth_of, with_wishes}
use Rattle.law_frame.specs.pg_run.pg_store.Links.{unlink}
use Rattle.law_frame.specs.pg_run.pg_store.Servers.{next_target}
use Rattle.law_frame.specs.pg_run.pg_store.Store.{acknowledge, keep_delta, with_names}
use Rattle.law_frame.specs.pg_run.pg_store.Wishes.{aim_wish}
use Rattle.law_frame.specs.pg_run.pg_pieces.Accepting.{ends_to}
use Rattle.law_frame.specs.pg_run.pg_pieces.Done.{Done, idle, link_of}
use Rattle.law_frame.specs.pg_run.pg_pieces.Making.{own_next, raise_flag}
use Rattle.law_frame.specs.pg_run.pg_graph.Leaving.{without_leave}
use Rattle.law_frame.specs.pg_run.pg_repair.Granting.{begun_by, granted_own}
use Rattle.law_frame.specs.pg_run.pg_server.Local.{receive}
use Rattle.law_frame.specs.pg_run.pg_server.pg_transfer.Asking.{with_notes}
use Rattle.law_frame.proofs.Keeps.{Answers, Keeps}
use Rattle.law_frame.proofs.Received.{receive_keeps}
use Rattle.law_views.proofs.Fine.{IsFine, IsOfLive, begun_fine, entry_cell_fine, entry_fine, flag_fine, flag_made, intending, linked, place_fine, posted, stored, version_fine}
use Rattle.law_views.proofs.Seen.{IsPeer, seen_ack, seen_aim, seen_begin, seen_kept, seen_let_go, seen_names, seen_noted, seen_unlink}
use Rattle.law_views.proofs.Targets.{Asked, next_live}

module _ (n s : ℕ) (R : List ℕ) where
  abbrev Fine : Done → Type 0
  Fine d = IsFine n s R d

  pub filled_fine : (d : Done) (file : FileId) → Fine d
      → Fine (idle (with_names d.store (names.fill d.store.names file)) d.work)
  filled_fine d file k =
      let frame = update_frame d.store.names file names.filled in
      let other = names.fill d.store.names file in
      stored n s R d (with_names d.store other) (seen_names n s R d.store other frame.removed frame.server k.seen) k

  pub raised_fine : (d : Done) (file : FileId) → Fine d → Fine (raise_flag d.store file d.work)
  raised_fine d file k = flag_made n s R file (own_next d.store file true) d k

  -- no answer is a walk
  answer_live : (a : Store) (m : Message) (b : Store) (r : Message) → Answers a m b r → IsOfLive R r
  answer_live a m b (message.Walk ends origin birth hops word) of = absurd of
  answer_live a m b r of = tt

  module _ (a : Store) (w : Work) (m : Message) (from : IsPeer n s R w.from) (live : IsOfLive R m) (first : Fine (idle a w)) where
    next_asked : (to : ℕ) → to ≡ next_target a w.from → Asked n s R to
    next_asked to is = subst (Asked n s R) (sym is) (next_live n s R a first.seen w.from)

    keeps_fine : Keeps a w m Fine
    keeps_fine = record {
      cell_place = λ d ends tag p is here k. place_fine n s R d ends.file p k;
      cell_flag = λ d ends tag g is here k. flag_fine n s R d ends.file g k;
      cell_entry = λ d ends tag e sure is dir here k. entry_cell_fine n s R d ends.file e sure k;
      version = λ d file v is k. version_fine n s R d file v k;
      told_place = λ d dir e is held other k. place_fine n s R d e.child e.place k;
      told_flag = λ d dir e g is held among k. flag_fine n s R d e.child g k;
      place_is = λ d dir e is held k. entry_fine n s R d dir e k;
      tell = λ d dir e is held k. entry_fine n s R d dir e k;
      links = λ d file birth is same k. linked n s R d file d.work.from birth (subst (IsPeer n s R) (sym same) from) k;
      meets = λ d ends origin birth hops word is here k.
          linked n s R d ends.file origin birth (subst (IsOfLive R) is live) k;
      unlinks = λ d file birth is same k.
          stored n s R d (unlink d.store file d.work.from birth) (seen_unlink n s R d.store file d.work.from birth k.seen) k;
      acknowledges = λ d ends q tag is same k.
          stored n s R d (acknowledge d.store ends.file (link_of d.work.from ends) q tag)
          (seen_ack n s R d.store ends.file (link_of d.work.from ends) q tag k.seen) k;
      begins = λ ends g is pending k.
          stored n s R (idle a w) (begun_by a ends g)
          (seen_begin n s R a ends.file ends.receiver g.policy (granted_own g) false k.seen) k;
      fills = λ ends is here filling k. filled_fine (idle a w) ends.file k;
      raises = λ d ends is here few k. raised_fine d ends.file k;
      goes = λ ends stamp is may k.
          stored n s R (idle (without_leave a ends.file) w) (let_go (without_leave a ends.file) ends.file)
          (seen_let_go n s R (without_leave a ends.file) ends.file k.seen) k;
      says_bye = λ d ends stamp e is may among k. begun_fine n s R d (bye_to ends.file (birth_of a ends.file) e) k;
      ends_intent = λ d q is k. intending n s R d (ended d.store.intents q) k;
      turns_intent = λ d q to is k. intending n s R d (aimed d.store.intents q to) k;
      asks_granter = λ d ends g is same k.
          intending n s R d (aimed d.store.intents (intent_key.Fill ends.file) d.work.from) k;
      turns_wish = λ d file to is k.
          stored n s R d (with_wishes d.store (aim_wish d.store.wishes file to))
          (seen_aim n s R d.store file to (next_asked to is) k.seen) k;
      answers = λ d r of same k. posted n s R d d.work.from r (answer_live a m d.store r of) k;
      tells_origin = λ d ends origin birth hops word is here k.
          posted n s R d origin (message.Greet (ends_to d.store ends.file birth) greeting.Meet) tt k;
      passes_on = λ ends origin birth hops word left rest i e is here at k. record { seen = k.seen; sent = k.sent };
      notes = λ d ns k. stored n s R d (with_notes d.store ns) (seen_noted n s R d.store ns k.seen) k;
      keeps = λ d file x k. stored n s R d (keep_delta d.store file x) (seen_kept n s R d.store file x k.seen) k;
      tells = λ d ends head e of there k.
          posted n s R d e.peer (message.Harbinger (ends_to d.store ends.file e.birth) 0 head) tt k;
    }

    -- A MESSAGE
    pub receive_fine : Fine (receive a m w)
    receive_fine = receive_keeps a w Fine m keeps_fine first
