-- What each message keeps of names.
use Rattle.std.proofs.Common.{ℕ, ◌≡◌, ◌&&◌, not, Bool, true, false}
use Rattle.std.proofs.lemmas.Bool.{and_parts}
use Rattle.law_frame.proofs.pg_run.pg_graph.LeaveOk.{MayGo}
use Rattle.law_frame.specs.pg_run.pg_base.declared.id.FileId.{FileId}
use Rattle.law_frame.specs.pg_run.pg_base.declared.stamp.Stamp.{Stamp}
use Rattle.law_frame.specs.pg_run.pg_entries.declared.cell.Cell.TheVariants as cell
use Rattle.law_frame.specs.pg_run.pg_entries.declared.entry.Entry.{Entry}
use Rattle.law_frame.specs.pg_run.pg_msg.declared.message.Ends.{Ends}
use Rattle.law_frame.specs.pg_run.pg_msg.declared.message.Granted.{Granted}
use Rattle.law_frame.specs.pg_run.pg_msg.declared.message.Message.TheVariants as message
use Rattle.law_frame.specs.pg_run.pg_msg.declared.message.Message.{Message}
use Rattle.law_frame.specs.pg_run.pg_msg.declared.work.Work.{Work}
use Rattle.law_frame.specs.pg_run.pg_names.Names.{NamesValue, let_go as let_go_names}
use Rattle.law_frame.specs.pg_run.pg_names.declared.attributes.Attributes.{Attributes}
use Rattle.law_frame.specs.pg_run.pg_pieces.Accepting.{is_current}
use Rattle.law_frame.specs.pg_run.pg_pieces.Done.{Done}
use Rattle.law_frame.specs.pg_run.pg_pieces.Making.{own_next}
use Rattle.law_frame.specs.pg_run.pg_register.declared.place.Place.{Place}
use Rattle.law_frame.specs.pg_run.pg_repair.Granting.{granted_own}
use Rattle.law_frame.specs.pg_run.pg_server.Local.{receive}
use Rattle.law_frame.specs.pg_run.pg_store.Births.{has_birth}
use Rattle.law_frame.specs.pg_run.pg_store.Links.{knows_later}
use Rattle.law_frame.specs.pg_run.pg_store.declared.store.Store.{Store}
use Rattle.law_frame.proofs.Keeps.{Keeps}
use Rattle.law_frame.proofs.Received.{receive_keeps}
use Rattle.law_full.proofs.Pieces.{AreKept, begin_kept, entry_kept, flag_kept, link_kept, place_kept, unlink_kept, version_kept}

-- what a message from a server may bring one that holds this, and that where its replica goes with
-- leave names keep it
pub record MayCome (P : NamesValue → Type 0) (Places : FileId → Place → Type 0) (Begins : FileId → Attributes → Bool → Type 0) (Fills : FileId → Type 0) (a : Store) (from : ℕ) (m : Message) : Type 0 where
  pub cell : (ends : Ends) (tag : ℕ) (p : Place) → m ≡ message.Cell ends tag (cell.Place p) → has_birth a ends.file ends.receiver ≡ true
      → Places ends.file p
  pub confirm : (dir : FileId) (e : Entry) → m ≡ message.Confirm dir e → Places e.child e.place
  pub grant : (ends : Ends) (g : Granted) → m ≡ message.Grant ends g → Begins ends.file (granted_own g) false
  pub full : (ends : Ends) → m ≡ message.Full ends → has_birth a ends.file ends.receiver ≡ true → Fills ends.file
  pub goes : (ends : Ends) (stamp : Stamp) (work : Work) → m ≡ message.LeaveOk ends stamp → MayGo a ends stamp work
      → P (let_go_names a.names ends.file)

module _ (P : NamesValue → Type 0) (Places : FileId → Place → Type 0) (Begins : FileId → Attributes → Bool → Type 0) (Fills : FileId → Type 0) (k : AreKept P Places Begins Fills) (a : Store) (h : P a.names) where
  abbrev OfDone : Done → Type 0
  OfDone d = P d.store.names

  -- what was accepted is of a birth that is here
  born : (from : ℕ) (ends : Ends) (t : Bool) → (is_current a from ends && t) ≡ true → has_birth a ends.file ends.receiver ≡ true
  born from ends t is =
      (and_parts (has_birth a ends.file ends.receiver) (not (knows_later a ends.file from ends.sender)) (and_parts (is_current a from ends) t is).0).0

  module _ (m : Message) (w : Work) (may : MayCome P Places Begins Fills a w.from m) where
    keeps_kept : Keeps a w m OfDone
    keeps_kept = record {
      cell_place = λ d ends tag p is here so.
          place_kept P Places Begins Fills k d.store ends.file p (may.cell ends tag p is (born w.from ends _ here)) so;
      cell_flag = λ d ends tag g is here so. flag_kept P Places Begins Fills k d.store ends.file g so;
      cell_entry = λ d ends tag e sure is dir here so. entry_kept P Places Begins Fills k d.store ends.file e so;
      version = λ d file v is so. version_kept P Places Begins Fills k d.store file v so;
      told_place = λ d dir e is held other so. place_kept P Places Begins Fills k d.store e.child e.place (may.confirm dir e is) so;
      told_flag = λ d dir e g is held among so. flag_kept P Places Begins Fills k d.store e.child g so;
      place_is = λ d dir e is held so. entry_kept P Places Begins Fills k d.store dir e so;
      tell = λ d dir e is held so. entry_kept P Places Begins Fills k d.store dir e so;
      links = λ d file birth is same so. link_kept P Places Begins Fills k d.store file d.work.from birth so;
      meets = λ d ends origin birth hops word is here so. link_kept P Places Begins Fills k d.store ends.file origin birth so;
      unlinks = λ d file birth is same so. unlink_kept P Places Begins Fills k d.store file d.work.from birth so;
      acknowledges = λ d ends q tag is same so. so;
      begins = λ ends g is pending so.
          begin_kept P Places Begins Fills k a ends.file ends.receiver g.policy (granted_own g) false (may.grant ends g is) so;
      fills = λ ends is here filling so. k.filled a.names ends.file (may.full ends is (born w.from ends _ here)) so;
      raises = λ d ends is here few so. flag_kept P Places Begins Fills k d.store ends.file (own_next d.store ends.file true) so;
      goes = λ ends stamp is going so. may.goes ends stamp w is going;
      says_bye = λ d ends stamp e is going among so. so;
      ends_intent = λ d q is so. so;
      turns_intent = λ d q to is so. so;
      asks_granter = λ d ends g is same so. so;
      turns_wish = λ d file to is so. so;
      answers = λ d r of same so. so;
      tells_origin = λ d ends origin birth hops word is here so. so;
      passes_on = λ ends origin birth hops word left rest i e is here at so. so;
      notes = λ d ns so. so;
      keeps = λ d file x so. so;
      tells = λ d ends head e of there so. so;
    }

    -- A MESSAGE
    pub receive_kept : OfDone (receive a m w)
    receive_kept = receive_keeps a w OfDone m keeps_kept h
