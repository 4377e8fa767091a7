-- What comes of each message: each place that is known then, and each that is told, may stand.
use Rattle.std.proofs.Common.{ℕ, ◌≡◌, ◌&&◌, false, not, refl, sym, subst, arith}
use Rattle.std.specs.Prelude.{nat_lt}
use Rattle.law_frame.proofs.pg_run.pg_names.Lookups.{update_frame}
use Rattle.law_frame.proofs.pg_run.theory_flood_pieces.Choices.{chosen}
use Rattle.law_frame.specs.pg_run.pg_base.Id.{is_same_file}
use Rattle.law_frame.specs.pg_run.pg_base.declared.id.FileId.{FileId}
use Rattle.law_frame.specs.pg_run.pg_graph.Leaving.{bye_to, without_leave}
use Rattle.law_frame.specs.pg_run.pg_intent.Intents.{aimed, ended}
use Rattle.law_frame.specs.pg_run.pg_intent.declared.key.IntentKey.TheVariants as intent_key
use Rattle.law_frame.specs.pg_run.pg_msg.Work.{with_tail}
use Rattle.law_frame.specs.pg_run.pg_msg.declared.message.Granted.{Granted}
use Rattle.law_frame.specs.pg_run.pg_msg.declared.message.Message.TheVariants as message
use Rattle.law_frame.specs.pg_run.pg_msg.declared.message.Message.{Message}
use Rattle.law_frame.specs.pg_run.pg_msg.declared.summary.Greeting.TheVariants as greeting
use Rattle.law_frame.specs.pg_run.pg_msg.declared.work.Work.{Work}
use Rattle.law_frame.specs.pg_run.pg_names.Names as names
use Rattle.law_frame.specs.pg_run.pg_names.Names.{is_dir, own_or_blank}
use Rattle.law_frame.specs.pg_run.pg_pieces.Accepting.{ends_to}
use Rattle.law_frame.specs.pg_run.pg_pieces.Done.{Done, idle, link_of}
use Rattle.law_frame.specs.pg_run.pg_pieces.Making.{raise_flag}
use Rattle.law_frame.specs.pg_run.pg_pieces.Posting.{sent_to}
use Rattle.law_frame.specs.pg_run.pg_register.Place.{blank_place, root}
use Rattle.law_frame.specs.pg_run.pg_register.declared.place.Place.{Place}
use Rattle.law_frame.specs.pg_run.pg_repair.Fetching.{place_to_grant}
use Rattle.law_frame.specs.pg_run.pg_repair.Filling.{few_golds, fill, live_golds, raise_if_few}
use Rattle.law_frame.specs.pg_run.pg_repair.Granting.{granted_own}
use Rattle.law_frame.specs.pg_run.pg_server.Local.{receive}
use Rattle.law_frame.specs.pg_run.pg_server.pg_transfer.Asking.{with_notes}
use Rattle.law_frame.specs.pg_run.pg_store.Births.{birth_of, with_wishes}
use Rattle.law_frame.specs.pg_run.pg_store.Store.{acknowledge, keep_delta, with_names}
use Rattle.law_frame.specs.pg_run.pg_store.Wishes.{aim_wish}
use Rattle.law_frame.specs.pg_run.pg_store.declared.store.Store.{Store}
use Rattle.law_frame.proofs.Keeps.{Answers, Keeps}
use Rattle.law_frame.proofs.Received.{receive_keeps}
use Rattle.law_places.proofs.Begun.{begin_fine}
use Rattle.law_places.proofs.Fine.{IsFine, as_before, entry_cell_fine, entry_fine, flag_fine, intending, linked, place_fine, posted, raised_flag, same_drawn, unlinked, version_fine}
use Rattle.law_places.proofs.Known.{aimed_is, filled_names, filter_is, or_is}
use Rattle.law_places.proofs.Leaving.{RootStays, intent_begun, let_go_fine}
use Rattle.law_places.proofs.Messages.{OfEntry, OfMessage}
use Rattle.law_places.proofs.Timed.{fill_timed}

module _ (P : FileId → Place → Type 0) (blanks : (f : FileId) → is_same_file f root ≡ false → P f (blank_place f)) (s least : ℕ) where
  abbrev Fine : Done → Type 0
  Fine d = IsFine P s least d

  -- the place of a thing, as far as it is known here
  pub known_place : (d : Done) → Fine d → (f : FileId) → P f (own_or_blank d.store.names f).place
  known_place d k f = or_is P d.store.names k.known.names blanks f

  few_fine : (f : FileId) (d : Done) → Fine d → Fine (raise_if_few d.store f d.work)
  few_fine f d k =
      chosen Fine (nat_lt (live_golds d.store f) few_golds) (raise_flag d.store f d.work) (idle d.store d.work) (raised_flag P s least f d k) k

  filled_fine : (f : FileId) (d : Done) → Fine d → Fine (idle (with_names d.store (names.fill d.store.names f)) d.work)
  filled_fine f d k =
      let a = with_names d.store (names.fill d.store.names f) in
      record {
        known = record { names = filled_names P d.store.names k.known.names f; intents = k.known.intents };
        timed = fill_timed d.store.names k.timed f;
        sent = k.sent;
        drawn = (let frame = update_frame d.store.names f names.filled in same_drawn P s least d (idle a d.work) frame.server (let e = frame.last in omega arith) refl k);
      }

  pub fill_fine : (f : FileId) (d : Done) → Fine d → Fine (fill d.store f d.work)
  fill_fine f d k =
      few_fine f (idle (with_names d.store (names.fill d.store.names f)) d.work) (filled_fine f d k)

  -- ---- a message

  granted_place : (f : FileId) (place : Place) → is_same_file f root ≡ false → P f place → P f (place_to_grant f place)
  granted_place f place apart h = chosen (P f) (is_dir f && not place.live) (blank_place f) place (blanks f apart) h

  answer_of : (a : Store) (m : Message) (d : Done) (r : Message) → Answers a m d.store r → Fine d → OfMessage P r
  answer_of a m d (message.Grant ends granted) of k = λ apart.
      subst (λ (g : Granted). P ends.file g.place) (sym of.what)
      (granted_place ends.file (own_or_blank d.store.names ends.file).place apart (known_place d k ends.file))
  answer_of a m d (message.PlaceIs dir e) of k = subst (OfEntry P) (sym of.2) (known_place d k of.0.child)
  answer_of a m d (message.Cell ends tag c) of k = absurd of
  answer_of a m d (message.Confirm dir e) of k = absurd of
  answer_of a m d (message.Tell dir e) of k = absurd of
  answer_of a m d r of k = tt

  module _ (a : Store) (w : Work) (m : Message) (stays : RootStays a) (tells : OfMessage P m) where
    keeps_fine : Keeps a w m Fine
    keeps_fine = record {
      cell_place = λ d ends tag p is here k. place_fine P s least d k ends.file p (subst (OfMessage P) is tells);
      cell_flag = λ d ends tag g is here k. flag_fine P s least d k ends.file g;
      cell_entry = λ d ends tag e sure is dir here k. entry_cell_fine P s least d k ends.file e sure (subst (OfMessage P) is tells);
      version = λ d file v is k. version_fine P s least d k file v;
      told_place = λ d dir e is held other k. place_fine P s least d k e.child e.place (subst (OfMessage P) is tells);
      told_flag = λ d dir e g is held among k. flag_fine P s least d k e.child g;
      place_is = λ d dir e is held k. entry_fine P s least d k dir e (subst (OfMessage P) is tells);
      tell = λ d dir e is held k. entry_fine P s least d k dir e (subst (OfMessage P) is tells);
      links = λ d file birth is same k. linked P s least d file d.work.from birth k;
      meets = λ d ends origin birth hops word is here k. linked P s least d ends.file origin birth k;
      unlinks = λ d file birth is same k. unlinked P s least d file d.work.from birth k;
      acknowledges = λ d ends q tag is same k.
          as_before P s least d (idle (acknowledge d.store ends.file (link_of d.work.from ends) q tag) d.work) refl refl refl refl k;
      begins = λ ends g is pending k. (
          let apart = stays.pending ends.file ends.receiver pending in
          let of : OfMessage P (message.Grant ends g) = subst (OfMessage P) is tells in
          begin_fine P s least ends.file (idle a w) ends.receiver g.policy (granted_own g) false (of apart) k);
      fills = λ ends is here filling k. filled_fine ends.file (idle a w) k;
      raises = λ d ends is here few k. raised_flag P s least ends.file d k;
      goes = λ ends stamp is may k.
          let_go_fine P s least (idle (without_leave a ends.file) w) ends.file (stays.leaves ends.file w.from ends.sender may.answered.stood) k;
      says_bye = λ d ends stamp e is may among k. intent_begun P s least d (bye_to ends.file (birth_of a ends.file) e) tt k;
      ends_intent = λ d q is k. intending P s least d (ended d.store.intents q) (filter_is P _ d.store.intents k.known.intents) k;
      turns_intent = λ d q to is k. intending P s least d (aimed d.store.intents q to) (aimed_is P d.store.intents q to k.known.intents) k;
      asks_granter = λ d ends g is same k. (
          let q = intent_key.Fill ends.file in
          intending P s least d (aimed d.store.intents q d.work.from) (aimed_is P d.store.intents q d.work.from k.known.intents) k);
      turns_wish = λ d file to is k.
          as_before P s least d (idle (with_wishes d.store (aim_wish d.store.wishes file to)) d.work) refl refl refl refl k;
      answers = λ d r of same k. posted P s least d d.work.from r (answer_of a m d r of k) k;
      tells_origin = λ d ends origin birth hops word is here k.
          posted P s least d origin (message.Greet (ends_to d.store ends.file birth) greeting.Meet) tt k;
      passes_on = λ ends origin birth hops word left rest i e is here at k. (
          let sent = sent_to a e.peer (message.Walk (ends_to a ends.file e.birth) origin birth left rest) in
          as_before P s least (idle a w) (idle a (with_tail w sent)) refl refl refl refl k);
      notes = λ d ns k. as_before P s least d (idle (with_notes d.store ns) d.work) refl refl refl refl k;
      keeps = λ d file x k. as_before P s least d (idle (keep_delta d.store file x) d.work) refl refl refl refl k;
      tells = λ d ends head e of there k.
          posted P s least d e.peer (message.Harbinger (ends_to d.store ends.file e.birth) 0 head) tt k;
    }

    -- A MESSAGE
    pub receive_fine : Fine (idle a w) → Fine (receive a m w)
    receive_fine first = receive_keeps a w Fine m keeps_fine first
