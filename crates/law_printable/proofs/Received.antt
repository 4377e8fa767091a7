-- Each message keeps places that suit, and is answered by what suits.
use Rattle.std.proofs.Common.{false, sym, subst}
use Rattle.law_frame.specs.pg_run.pg_entries.declared.entry.Entry.{Entry}
use Rattle.law_frame.specs.pg_run.pg_intent.declared.key.IntentKey.TheVariants as intent_key
use Rattle.law_frame.specs.pg_run.pg_intent.Intents.{ended}
use Rattle.law_frame.specs.pg_run.pg_msg.declared.message.Granted.{Granted}
use Rattle.law_frame.specs.pg_run.pg_msg.declared.message.Message.{Message}
use Rattle.law_frame.specs.pg_run.pg_msg.declared.message.Message.TheVariants as message
use Rattle.law_frame.specs.pg_run.pg_msg.declared.summary.Greeting.TheVariants as greeting
use Rattle.law_frame.specs.pg_run.pg_msg.declared.work.Work.{Work}
use Rattle.law_frame.specs.pg_run.pg_names.Names.{own_or_blank}
use Rattle.law_frame.specs.pg_run.pg_store.declared.store.Store.{Store}
use Rattle.law_frame.specs.pg_run.pg_pieces.Accepting.{ends_to}
use Rattle.law_frame.specs.pg_run.pg_graph.Leaving.{bye_to, without_leave}
use Rattle.law_frame.specs.pg_run.pg_repair.Granting.{granted_own}
use Rattle.law_frame.specs.pg_run.pg_server.Local.{receive}
use Rattle.law_frame.specs.pg_run.pg_store.Births.{birth_of}
use Rattle.law_frame.proofs.Keeps.{Answers, Keeps}
use Rattle.law_frame.proofs.Received.{receive_keeps}
use Rattle.law_printable.proofs.Behind.{intent_suits}
use Rattle.law_printable.proofs.Found.{dir_kind}
use Rattle.law_printable.proofs.Handlers.{Suited, aimed_store, flag_raised, full_suits, gone_suits, granted_place, own_entry_suits, replied}
use Rattle.law_printable.proofs.Intents.{ended_suit}
use Rattle.law_printable.proofs.Messages.{SuitsMessage, SuitsPost, about_dir}
use Rattle.law_printable.proofs.Places.{IsOwnPlace, SuitsEntry, blank_suits, own_place}
use Rattle.law_printable.proofs.Stores.{DoneSuits, StoreSuits, begun_suits, entry_noted, entry_taken, flag_noted, intended_suits, peer_linked, place_noted, posted, unlink_suits, version_noted}

-- what is answered suits
answer_post : (s b : Store) (m r : Message) → StoreSuits b → SuitsMessage m → Answers s m b r → SuitsPost r
answer_post s b m (message.Grant ends granted) h k of = record {
  about = λ g. g;
  told = λ g. g;
  carried = subst (λ (g : Granted). IsOwnPlace ends.file g.place) (sym of.what)
      (granted_place ends.file (own_or_blank b.names ends.file).place (blank_suits b.names h.names ends.file));
}
answer_post s b m (message.PlaceIs dir e) h k of =
    let child = subst SuitsMessage of.1 k in
    record {
      about = about_dir dir child.0;
      told = λ g. g;
      carried = (child.0, subst (λ (x : Entry). SuitsEntry x.child x) (sym of.2) (own_entry_suits b of.0.child h child.1.inner));
    }
answer_post s b m (message.TellOk dir child stamp) h k of =
    record { about = about_dir dir (subst SuitsMessage of.1 k).0; told = λ g. g; carried = tt }
answer_post s b m (message.Cell ends tag c) h k of = absurd of
answer_post s b m (message.Confirm dir e) h k of = absurd of
answer_post s b m (message.Tell dir e) h k of = absurd of
answer_post s b m r h k of = record { about = λ g. g; told = λ g. g; carried = tt }

module _ (s : Store) (w : Work) (m : Message) (k : SuitsMessage m) where
  keeps_suit : Keeps s w m DoneSuits
  keeps_suit = record {
    cell_place = λ d ends tag p is here h. place_noted d.store d.work h ends.file p (subst SuitsMessage is k);
    cell_flag = λ d ends tag g is here h. flag_noted d.store d.work h ends.file g;
    cell_entry = λ d ends tag e sure is dir here h.
        entry_taken d.store d.work h ends.file e sure (dir_kind ends.file.kind dir) (subst SuitsMessage is k);
    version = λ d file v is h. version_noted d.store d.work h file v;
    told_place = λ d dir e is held other h. (
        let child = (subst SuitsMessage is k).1 in
        place_noted d.store d.work h e.child e.place (own_place e.child e.place child.place));
    told_flag = λ d dir e g is held among h. flag_noted d.store d.work h e.child g;
    place_is = λ d dir e is held h. entry_noted d.store d.work h dir e (subst SuitsMessage is k).1;
    tell = λ d dir e is held h. entry_noted d.store d.work h dir e (subst SuitsMessage is k).1;
    links = λ d file birth is same h. peer_linked d.store d.work h file d.work.from birth;
    meets = λ d ends origin birth hops word is here h. peer_linked d.store d.work h ends.file origin birth;
    unlinks = λ d file birth is same h.
        record { store = unlink_suits d.store h.store file d.work.from birth; work = h.work };
    acknowledges = λ d ends q tag is same h.
        record { store = record { names = h.store.names; intents = h.store.intents }; work = h.work };
    begins = λ ends g is pending h. record {
      store = begun_suits s ends.file ends.receiver g.policy (granted_own g) false (subst SuitsMessage is k) h.store;
      work = h.work;
    };
    fills = λ ends is here filling h. full_suits s ends.file w h;
    raises = λ d ends is here few h. flag_raised d.store ends.file d.work h;
    goes = λ ends stamp is may h. record { store = gone_suits (without_leave s ends.file) ends.file h.store; work = h.work };
    says_bye = λ d ends stamp e is may among h. intent_suits d.store (bye_to ends.file (birth_of s ends.file) e) d.work tt h;
    ends_intent = λ d q is h.
        record { store = intended_suits d.store h.store (ended d.store.intents q) (ended_suit d.store.intents q h.store.intents); work = h.work };
    turns_intent = λ d q to is h. record { store = aimed_store d.store q to h.store; work = h.work };
    asks_granter = λ d ends g is same h.
        record { store = aimed_store d.store (intent_key.Fill ends.file) d.work.from h.store; work = h.work };
    turns_wish = λ d file to is h.
        record { store = record { names = h.store.names; intents = h.store.intents }; work = h.work };
    answers = λ d r of same h. replied d.store r d.work (answer_post s d.store m r h.store k of) h;
    tells_origin = λ d ends origin birth hops word is here h. record {
      store = h.store;
      work = posted d.store origin (message.Greet (ends_to d.store ends.file birth) greeting.Meet) d.work
          (record { about = λ g. g; told = λ g. g; carried = tt }) h.work;
    };
    passes_on = λ ends origin birth hops word left rest i e is here at h.
        record { store = h.store; work = record { made = h.work.made; sent = h.work.sent; left = h.work.left; unsure = h.work.unsure } };
    notes = λ d ns h. record { store = record { names = h.store.names; intents = h.store.intents }; work = h.work };
    keeps = λ d file x h. record { store = record { names = h.store.names; intents = h.store.intents }; work = h.work };
    tells = λ d ends head e of there h. record {
      store = h.store;
      work = posted d.store e.peer (message.Harbinger (ends_to d.store ends.file e.birth) 0 head) d.work
          (record { about = λ g. g; told = λ g. g; carried = tt }) h.work;
    };
  }

-- A MESSAGE
pub received_suits : (s : Store) (m : Message) (work : Work) → SuitsMessage m → Suited s work → DoneSuits (receive s m work)
received_suits s m work k h = receive_keeps s work DoneSuits m (keeps_suit s work m k) h
