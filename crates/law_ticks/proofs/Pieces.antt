-- What an event does to a server's store, piece by piece: what each piece keeps, every message
-- keeps.
use Rattle.std.proofs.Common.{ℕ, ◌≡◌, Bool, true, false, refl}
use Rattle.law_frame.specs.pg_run.pg_base.declared.id.FileId.{FileId}
use Rattle.law_frame.specs.pg_run.pg_base.declared.policy.Policy.{Policy}
use Rattle.law_frame.specs.pg_run.pg_base.declared.stamp.Stamp.{Stamp}
use Rattle.law_frame.specs.pg_run.pg_base.Version.{VersionValue}
use Rattle.law_frame.specs.pg_run.pg_patch.Ranges.{RangesValue}
use Rattle.law_frame.specs.pg_run.pg_entries.declared.entry.Entry.{Entry}
use Rattle.law_frame.specs.pg_run.pg_delta.declared.delta.KeptDelta.{KeptDelta}
use Rattle.law_frame.specs.pg_run.pg_edges.declared.key.Key.{Key}
use Rattle.law_frame.specs.pg_run.pg_intent.declared.key.IntentKey.TheVariants as intent_key
use Rattle.law_frame.specs.pg_run.pg_msg.declared.message.Message.{Message}
use Rattle.law_frame.specs.pg_run.pg_msg.declared.work.Work.{Work}
use Rattle.law_frame.specs.pg_run.pg_register.declared.flag.Flag.{Flag}
use Rattle.law_frame.specs.pg_run.pg_register.declared.place.Place.{Place}
use Rattle.law_frame.specs.pg_run.pg_replica.declared.link.Link.{Link}
use Rattle.law_frame.specs.pg_run.pg_names.declared.attributes.Attributes.{Attributes}
use Rattle.law_frame.specs.pg_run.pg_names.Names as names
use Rattle.law_frame.specs.pg_run.pg_store.declared.store.Store.{Store}
use Rattle.law_frame.specs.pg_run.pg_store.Beginning.{begin, let_go, with_intents}
use Rattle.law_frame.specs.pg_run.pg_store.Births.{birth_of, with_wishes}
use Rattle.law_frame.specs.pg_run.pg_store.Links.{link, unlink}
use Rattle.law_frame.specs.pg_run.pg_store.Store.{acknowledge, keep_delta, take_entry, take_flag, take_place, take_version, with_names, write}
use Rattle.law_frame.specs.pg_run.pg_store.Views.{with_removed}
use Rattle.law_frame.specs.pg_run.pg_pieces.Done.{Done, idle, link_of}
use Rattle.law_frame.specs.pg_run.pg_pieces.Making.{own_next}
use Rattle.law_frame.specs.pg_run.pg_cells.Settling.{ruled}
use Rattle.law_frame.specs.pg_run.pg_intentions.Intending.{begin_intent}
use Rattle.law_frame.specs.pg_run.pg_graph.Leaving.{bye_to, without_leave}
use Rattle.law_frame.specs.pg_run.pg_server.Local.{receive}
use Rattle.law_frame.specs.pg_run.pg_server.pg_transfer.Asking.{with_notes}
use Rattle.law_frame.specs.pg_run.pg_intent.Intents.{aimed, ended}
use Rattle.law_frame.specs.pg_run.pg_repair.Granting.{granted_own}
use Rattle.law_frame.specs.pg_run.pg_store.Wishes.{aim_wish}
use Rattle.law_frame.proofs.Keeps.{Keeps}
use Rattle.law_frame.proofs.Received.{receive_keeps}

-- each piece keeps P
-- beside: whatever stands beside names and replicas
pub record OutlivesPieces (P : Store → Type 0) : Type 0 where
  pub place : (a : Store) (f : FileId) (place : Place) → P a → P (take_place a f place)
  pub flag : (a : Store) (f : FileId) (flag : Flag) → P a → P (take_flag a f flag)
  pub entry : (a : Store) (d : FileId) (e : Entry) → P a → P (take_entry a d e)
  pub version : (a : Store) (f : FileId) (v : VersionValue) → P a → P (take_version a f v)
  pub keeps : (a : Store) (f : FileId) (d : KeptDelta) → P a → P (keep_delta a f d)
  pub write : (a : Store) (f : FileId) (stamp : Stamp) (ranges : RangesValue) → P a → P (write a f stamp ranges)
  pub link : (a : Store) (f : FileId) (peer birth : ℕ) → P a → P (link a f peer birth)
  pub unlink : (a : Store) (f : FileId) (peer birth : ℕ) → P a → P (unlink a f peer birth)
  pub answer : (a : Store) (f : FileId) (edge : Link) (k : Key) (tag : ℕ) → P a → P (acknowledge a f edge k tag)
  pub begin : (a : Store) (f : FileId) (birth : ℕ) (policy : Policy) (own : Attributes) (full : Bool) → P a → P (begin a f birth policy own full)
  pub fill : (a : Store) (f : FileId) → P a → P (with_names a (names.fill a.names f))
  pub goes : (a : Store) (f : FileId) → P a → P (let_go a f)
  pub beside : (a b : Store) → b.names ≡ a.names → b.replicas ≡ a.replicas → P a → P b
  pub removed : (a : Store) (server : ℕ) → P a → P (with_removed a server)
  pub rules : (a : Store) (work : Work) → P a → P (ruled (idle a work)).store

module _ (P : Store → Type 0) (k : OutlivesPieces P) where
  -- what a handler leaves
  abbrev Left : Done → Type 0
  Left done = P done.store

  keeps_left : (a : Store) (w : Work) (m : Message) → Keeps a w m Left
  keeps_left a w m = record {
    cell_place = λ d ends tag p is here h. k.place d.store ends.file p h;
    cell_flag = λ d ends tag g is here h. k.flag d.store ends.file g h;
    cell_entry = λ d ends tag e sure is dir here h. k.entry d.store ends.file e h;
    version = λ d file v is h. k.version d.store file v h;
    told_place = λ d dir e is held other h. k.place d.store e.child e.place h;
    told_flag = λ d dir e g is held among h. k.flag d.store e.child g h;
    place_is = λ d dir e is held h. k.entry d.store dir e h;
    tell = λ d dir e is held h. k.entry d.store dir e h;
    links = λ d file birth is same h. k.link d.store file d.work.from birth h;
    meets = λ d ends origin birth hops word is here h. k.link d.store ends.file origin birth h;
    unlinks = λ d file birth is same h. k.unlink d.store file d.work.from birth h;
    acknowledges = λ d ends q tag is same h. k.answer d.store ends.file (link_of d.work.from ends) q tag h;
    begins = λ ends g is pending h. k.begin a ends.file ends.receiver g.policy (granted_own g) false h;
    fills = λ ends is here filling h. k.fill a ends.file h;
    raises = λ d ends is here few h. k.flag d.store ends.file (own_next d.store ends.file true) h;
    goes = λ ends stamp is may h. k.goes (without_leave a ends.file) ends.file h;
    says_bye = λ d ends stamp e is may among h.
        k.beside d.store (begin_intent d.store (bye_to ends.file (birth_of a ends.file) e) d.work).store refl refl h;
    ends_intent = λ d q is h. k.beside d.store (with_intents d.store (ended d.store.intents q)) refl refl h;
    turns_intent = λ d q to is h. k.beside d.store (with_intents d.store (aimed d.store.intents q to)) refl refl h;
    asks_granter = λ d ends g is same h.
        k.beside d.store (with_intents d.store (aimed d.store.intents (intent_key.Fill ends.file) d.work.from)) refl refl h;
    turns_wish = λ d file to is h. k.beside d.store (with_wishes d.store (aim_wish d.store.wishes file to)) refl refl h;
    answers = λ d r of same h. h;
    tells_origin = λ d ends origin birth hops word is here h. h;
    passes_on = λ ends origin birth hops word left rest i e is here at h. h;
    notes = λ d ns h. k.beside d.store (with_notes d.store ns) refl refl h;
    keeps = λ d file x h. k.keeps d.store file x h;
    tells = λ d ends head e of there h. h;
  }

  pub received : (a : Store) (m : Message) (work : Work) → P a → Left (receive a m work)
  received a m work h = receive_keeps a work Left m (keeps_left a work m) h
