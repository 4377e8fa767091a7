-- What each message does to births and edges.
use Rattle.std.proofs.Common.{ℕ, ◌≡◌, Bool, true, false, List, Some, refl, sym, subst, ◌∙◌, inl}
use Rattle.std.proofs.lemmas.Bool.{false≢true}
use Rattle.std.proofs.lemmas.Option.{none-some}
use Rattle.pg_run.specs.pg_base.declared.id.FileId.{FileId}
use Rattle.pg_run.specs.pg_entries.declared.cell.Cell.{Cell}
use Rattle.pg_run.specs.pg_entries.declared.cell.Cell.TheVariants as cells
use Rattle.pg_run.specs.pg_intent.declared.key.IntentKey.TheVariants as intent_key
use Rattle.pg_run.specs.pg_intent.Intents.{aimed}
use Rattle.pg_run.specs.pg_msg.declared.message.Message.{Message}
use Rattle.pg_run.specs.pg_msg.declared.message.Message.TheVariants as message
use Rattle.pg_run.specs.pg_msg.declared.work.Work.{Work}
use Rattle.pg_run.specs.pg_names.Names.{fill as fill_names}
use Rattle.pg_run.specs.pg_store.declared.store.Store.{Store}
use Rattle.pg_run.specs.pg_store.Beginning.{with_intents}
use Rattle.pg_run.specs.pg_store.Births.{with_wishes}
use Rattle.pg_run.specs.pg_store.Links.{link}
use Rattle.pg_run.specs.pg_store.Store.{acknowledge, keep_delta, take_entry, take_flag, take_place, take_version, with_names}
use Rattle.pg_run.specs.pg_store.Wishes.{aim_wish}
use Rattle.pg_run.proofs.pg_store.Given.{pending_may}
use Rattle.pg_run.proofs.pg_store.Pairs.{link_as_before}
use Rattle.pg_run.specs.pg_cells.Cells.{taken}
use Rattle.pg_run.specs.pg_pieces.Done.{Done, link_of}
use Rattle.pg_run.specs.pg_pieces.Making.{own_next}
use Rattle.pg_run.specs.pg_repair.Granting.{granted_own}
use Rattle.pg_run.specs.pg_server.Local.{receive}
use Rattle.pg_run.specs.pg_server.pg_transfer.Asking.{with_notes}
use Rattle.law_order.proofs.law_frame.Keeps.{Keeps, unlinking}
use Rattle.law_order.proofs.law_frame.Received.{receive_keeps}
use Rattle.law_births.proofs.Has.{Goes, IsAlone, before_goes, goes_itself, goes_then}
use Rattle.law_births.proofs.Begins.{aim_goes, granted_goes, turn_goes}
use Rattle.law_births.proofs.Ends.{AreUp, up_further, up_itself}
use Rattle.law_births.proofs.Leaves.{Lets, leave_ok_moves}
use Rattle.law_births.proofs.Moving.{Moves, Why, begin_shapes, keeps_up, link_ups, stays_goes, unheld, unlink_moves}
use Rattle.law_births.proofs.Pieces.{Stays, acknowledge_stays, ended_stays, entry_stays, fill_stays, flag_stays, keep_stays, notes_stay, place_stays, shape_at, version_stays}

pub taken_stays : (b : Store) (file : FileId) (c : Cell) (work : Work) → Stays b (taken b file c work).store
taken_stays b file (cells.Place place) work = place_stays b file place
taken_stays b file (cells.Flag flag) work = flag_stays b file flag
taken_stays b file (cells.Entry entry sure) work = entry_stays b file entry
taken_stays b file (cells.Version v) work = version_stays b file v

-- ---- births go on, and edges go up: each peer that was listed still is, with its birth or a greater
-- one

record GoesUp (a b : Store) : Type 0 where
  pub goes : Goes a b
  pub ups : IsAlone a → (q : FileId) (n : ℕ) (es : List (ℕ × ℕ)) → shape_at a q ≡ Some (n, es)
      → (fs : List (ℕ × ℕ)) × (shape_at b q ≡ Some (n, fs)) × AreUp es fs

up_goes : (a b c : Store) → GoesUp a b → Goes b c → ((q : FileId) → shape_at c q ≡ shape_at b q) → GoesUp a c
up_goes a b c k g same = record {
  goes = goes_then k.goes g;
  ups = λ alone q n es there. (let e = k.ups alone q n es there in (e.0, same q ∙ e.1, e.2));
}

up_stays : (a b c : Store) → GoesUp a b → Stays b c → GoesUp a c
up_stays a b c k s = up_goes a b c k (stays_goes s) s.shapes

up_links : (a b : Store) (file : FileId) (p birth : ℕ) → GoesUp a b → GoesUp a (link b file p birth)
up_links a b file p birth k = record {
  goes = goes_then k.goes (before_goes b (link b file p birth) (link_as_before b file p birth));
  ups = λ alone q n es there. (
      let e = k.ups alone q n es there in
      let f = link_ups b file p birth q n e.0 e.1 in
      (f.0, f.1, up_further es e.0 f.0 e.2 f.2));
}

-- by these an edge or a replica may go
abbrev parts : Message → Bool
parts (message.Gone file birth) = true
parts (message.Bye ends) = true
parts (message.LeaveOk ends stamp) = true
parts _ = false

none_parts : (m : Message) (x : FileId × ℕ) → parts m ≡ false → unlinking m ≡ Some x → ⊥
none_parts (message.Gone file birth) x none is = false≢true (sym none)
none_parts (message.Bye ends) x none is = false≢true (sym none)
none_parts m x none is = none-some x is

module _ (a : Store) (w : Work) (m : Message) (none : parts m ≡ false) where
  abbrev Up : Done → Type 0
  Up d = GoesUp a d.store

  none_leaves : (x : Message) → m ≡ x → parts x ≡ true → ⊥
  none_leaves x is leaves = false≢true (sym (subst (λ (y : Message). parts y ≡ false) is none) ∙ leaves)

  keeps_up_edges : Keeps a w m Up
  keeps_up_edges = record {
    cell_place = λ d ends tag place is here k. up_stays a d.store (take_place d.store ends.file place) k (place_stays d.store ends.file place);
    cell_flag = λ d ends tag flag is here k. up_stays a d.store (take_flag d.store ends.file flag) k (flag_stays d.store ends.file flag);
    cell_entry = λ d ends tag e sure is dir here k. up_stays a d.store (take_entry d.store ends.file e) k (entry_stays d.store ends.file e);
    version = λ d file v is k. up_stays a d.store (take_version d.store file v) k (version_stays d.store file v);
    told_place = λ d dir e is held apart k. up_stays a d.store (take_place d.store e.child e.place) k (place_stays d.store e.child e.place);
    told_flag = λ d dir e flag is held among k. up_stays a d.store (take_flag d.store e.child flag) k (flag_stays d.store e.child flag);
    place_is = λ d dir e is held k. up_stays a d.store (take_entry d.store dir e) k (entry_stays d.store dir e);
    tell = λ d dir e is held k. up_stays a d.store (take_entry d.store dir e) k (entry_stays d.store dir e);
    links = λ d file birth is same k. up_links a d.store file d.work.from birth k;
    meets = λ d ends origin birth hops word is here k. up_links a d.store ends.file origin birth k;
    unlinks = λ d file birth is same k. absurd (none_parts m (file, birth) none is);
    acknowledges = λ d ends q tag is same k. (
        let l = link_of d.work.from ends in
        up_stays a d.store (acknowledge d.store ends.file l q tag) k (acknowledge_stays d.store ends.file l q tag));
    begins = λ ends g is pending k. record {
      goes = granted_goes a ends.file ends.receiver g.policy (granted_own g) false pending;
      ups = λ alone q n es there. (
          let away = (pending_may a ends.file ends.receiver alone.births pending).away in
          let shapes = begin_shapes a ends.file ends.receiver g.policy (granted_own g) false (unheld a ends.file alone.together away) in
          (es, shapes q n es there, up_itself es));
    };
    fills = λ ends is here filling k. up_stays a a (with_names a (fill_names a.names ends.file)) k (fill_stays a ends.file);
    raises = λ d ends is here few k. (
        let flag = own_next d.store ends.file true in
        up_stays a d.store (take_flag d.store ends.file flag) k (flag_stays d.store ends.file flag));
    goes = λ ends stamp is may k. absurd (none_leaves (message.LeaveOk ends stamp) is refl);
    says_bye = λ d ends stamp e is may among k. absurd (none_leaves (message.LeaveOk ends stamp) is refl);
    ends_intent = λ d q is k. up_stays a d.store _ k (ended_stays d.store q);
    turns_intent = λ d q to is k. up_goes a d.store (with_intents d.store (aimed d.store.intents q to)) k (aim_goes d.store q to) (λ f. refl);
    asks_granter = λ d ends g is same k. (
        let q = intent_key.Fill ends.file in
        let to = d.work.from in
        up_goes a d.store (with_intents d.store (aimed d.store.intents q to)) k (aim_goes d.store q to) (λ f. refl));
    turns_wish = λ d file to is k.
        up_goes a d.store (with_wishes d.store (aim_wish d.store.wishes file to)) k (turn_goes d.store file to) (λ f. refl);
    answers = λ d r of same k. k;
    tells_origin = λ d ends origin birth hops word is here k. k;
    passes_on = λ ends origin birth hops word left rest i e is here at k. k;
    notes = λ d ns k. up_stays a d.store (with_notes d.store ns) k (notes_stay d.store ns);
    keeps = λ d file delta k. up_stays a d.store (keep_delta d.store file delta) k (keep_stays d.store file delta);
    tells = λ d ends head e of there k. k;
  }

-- ---- a message

module _ (V : Why) (a : Store) where
  ups_move : (m : Message) (w : Work) → parts m ≡ false → Moves V a (receive a m w).store
  ups_move m w none =
      let first : GoesUp a a = record { goes = goes_itself a; ups = λ alone q n es there. (es, there, up_itself es) } in
      let k = receive_keeps a w (λ (d : Done). GoesUp a d.store) m (keeps_up_edges a w m none) first in
      record { goes = k.goes; edges = λ alone q n es there. inl (keeps_up V (receive a m w).store q n es (k.ups alone q n es there)) }

  -- ANY MESSAGE
  pub received_moves : (m : Message) (w : Work) → Lets V a m w → Moves V a (receive a m w).store
  received_moves (message.Gone file birth) w lets = unlink_moves V a file w.from birth (lets.gone file birth refl)
  received_moves (message.Bye ends) w lets = unlink_moves V a ends.file w.from ends.sender (lets.bye ends refl)
  received_moves (message.LeaveOk ends stamp) w lets = leave_ok_moves V a ends stamp w (lets.leave ends stamp refl)
  received_moves m w lets = ups_move m w refl
