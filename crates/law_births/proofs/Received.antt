-- What is said of births and flags is said behind each message.
use Rattle.std.proofs.Common.{ℕ, ◌≡◌, ◌&&◌, Bool, true, false, All, Some, refl, sym, ap, subst, ◌∙◌}
use Rattle.std.proofs.lemmas.Bool.{and_parts, false≢true}
use Rattle.std.proofs.lemmas.List.Elements.{All-contains, All-filter}
use Rattle.std.proofs.lemmas.Option.{none-some}
use Rattle.pg_run.specs.pg_base.declared.id.FileId.{FileId}
use Rattle.pg_run.specs.pg_base.declared.stamp.Stamp.{Stamp}
use Rattle.pg_run.specs.pg_edges.declared.edge.Edge.{Edge}
use Rattle.pg_run.specs.pg_intent.declared.key.IntentKey.TheVariants as intent_key
use Rattle.pg_run.specs.pg_intent.Intents.{ended}
use Rattle.pg_run.specs.pg_msg.declared.message.Ends.{Ends}
use Rattle.pg_run.specs.pg_msg.declared.message.Granted.{Granted}
use Rattle.pg_run.specs.pg_msg.declared.message.Message.{Message}
use Rattle.pg_run.specs.pg_msg.declared.message.Message.TheVariants as message
use Rattle.pg_run.specs.pg_msg.declared.summary.Greeting.TheVariants as greeting
use Rattle.pg_run.specs.pg_msg.declared.work.Work.{Work}
use Rattle.pg_run.specs.pg_msg.Ends.{back}
use Rattle.pg_run.specs.pg_names.Names.{fill as fill_names}
use Rattle.pg_run.specs.pg_register.declared.flag.Flag.{Flag}
use Rattle.pg_run.specs.pg_store.declared.store.Store.{Store}
use Rattle.pg_run.specs.pg_store.Beginning.{with_intents}
use Rattle.pg_run.specs.pg_store.Births.{birth_of, has_birth, is_pending, with_wishes}
use Rattle.pg_run.specs.pg_store.Links.{unlink}
use Rattle.pg_run.specs.pg_store.Store.{acknowledge, is_full, is_held, keep_delta, replica_at, replica_of, with_names}
use Rattle.pg_run.specs.pg_store.Together.{AreTogether, birth_at}
use Rattle.pg_run.specs.pg_store.Wishes.{aim_wish}
use Rattle.pg_run.proofs.pg_store.Pairs.{unlink_as_before}
use Rattle.pg_run.proofs.pg_calls.Walked.{full_held}
use Rattle.pg_run.specs.pg_pieces.Accepting.{ends_to, is_current}
use Rattle.pg_run.specs.pg_pieces.Done.{Done, idle, link_of}
use Rattle.pg_run.specs.pg_pieces.Making.{own_next, raise_flag}
use Rattle.pg_run.specs.pg_pieces.Posting.{reply}
use Rattle.pg_run.specs.pg_repair.Granting.{begun_by, granted_own}
use Rattle.pg_run.specs.pg_graph.Leaving.{goes_now}
use Rattle.pg_run.specs.pg_graph.Walks.{edges_of, is_onward, onward}
use Rattle.pg_run.specs.pg_server.Local.{receive}
use Rattle.pg_run.specs.pg_server.pg_transfer.Asking.{with_notes}
use Rattle.pg_run.specs.Births.{AllNamed, ends_named}
use Rattle.pg_run.proofs.Still.{same_mail}
use Rattle.law_order.proofs.law_frame.Keeps.{Answers, Keeps, along, raising}
use Rattle.law_order.proofs.law_frame.Received.{receive_keeps}
use Rattle.law_births.specs.Flags.{SaysEntry, SaysMessage, SaysStore}
use Rattle.law_births.proofs.Behind.{IsBehind, begins_replica, behind_same, behind_aim, behind_cell, behind_edges, behind_entry, behind_flag, behind_last, behind_link, behind_place, behind_post, behind_store, behind_version}
use Rattle.law_births.proofs.EndsSay.{ends_begin, ends_unlink}
use Rattle.law_births.proofs.Here.{birth_of_held, of_birth}
use Rattle.law_births.proofs.Mails.{OfBirths, Owed, SaysAll, along_named, linking_named}
use Rattle.law_births.proofs.Parting.{said_leave_ok}
use Rattle.law_births.proofs.Pieces.{acknowledge_stays, ended_stays, fill_stays, flag_stays, keep_stays, notes_stay}
use Rattle.law_births.proofs.Raising.{fine_flag}
use Rattle.law_births.proofs.Saying.{Born, Fresh, IsSaid, born_begun, own_named, said_on, said_reply}
use Rattle.law_births.proofs.StoreSays.{entry_says, own_says, say_acknowledge, say_begin, say_ended, say_fill, say_unlink}
use Rattle.law_births.proofs.Walking.{edges_named, got, own_given}

-- ---- kinds of messages

abbrev gives_leave_to : Message → Bool
gives_leave_to (message.LeaveOk ends stamp) = true
gives_leave_to _ = false

raises_only : (m : Message) (ends : Ends) → raising m ≡ Some ends → begins_replica m ≡ false
raises_only (message.Grant x granted) ends is = absurd (none-some ends is)
raises_only m ends is = refl

module _ (P : FileId → ℕ → ℕ → Type 0) (G : FileId → ℕ → Type 0) (s from : ℕ) where
  -- flags are of births that were given out
  abbrev Q : FileId → Flag → Type 0
  Q f flag = OfBirths P f flag

  abbrev pub Fine : Done → Type 0
  Fine d = IsSaid P (OfBirths P) G s from d

  abbrev IsBorn : Store → Type 0
  IsBorn b = Born P Q G s from b

  -- ---- a message

  module _ (a : Store) (m : Message) (w : Work) (named : AllNamed P from s m) (says : SaysMessage Q m)
      (fresh : (ends : Ends) → along m ≡ Some ends → Fresh P Q G s from a ends) (both : AreTogether a)
      (stays : gives_leave_to m ≡ false) where
    abbrev Behind : Done → Type 0
    Behind d = IsBehind P G s from a m d

    -- ---- births here

    own_at : (d : Done) (f : FileId) (n : ℕ) → Behind d → begins_replica m ≡ false → birth_at a f ≡ Some n → P f s (birth_of d.store f)
    own_at d f n k none there = own_named P Q G s from d.store f k.born (n, k.births none f ∙ there)

    own_held : (d : Done) (f : FileId) → Behind d → begins_replica m ≡ false → is_held a f ≡ true → P f s (birth_of d.store f)
    own_held d f k none here = let b = birth_of_held a both f here in own_at d f b.0 k none b.1

    here : (ends : Ends) (t : Bool) → (is_current a w.from ends && t) ≡ true → birth_at a ends.file ≡ Some ends.receiver
    here ends t is =
        of_birth (replica_at a ends.file) ends.receiver (and_parts (has_birth a ends.file ends.receiver) _ (and_parts (is_current a w.from ends) t is).0).0

    -- ---- what is answered

    heard : (ends : Ends) → along m ≡ Some ends → ends_named P from s ends
    heard ends of = along_named P from s m named ends of

    back_named : (ends x : Ends) → along m ≡ Some x → ends ≡ back x → ends_named P s from ends
    back_named ends x of is = subst (ends_named P s from) (sym is) ((heard x of).1, (heard x of).0)

    to_named : (d : Done) (ends x : Ends) → P x.file s (birth_of d.store x.file) → P x.file from x.receiver
        → ends ≡ ends_to d.store x.file x.receiver → ends_named P s from ends
    to_named d ends x own peer is = subst (ends_named P s from) (sym is) (own, peer)

    gone_named : (file : FileId) (birth : ℕ) (x : Ends) → (file ≡ x.file) × (birth ≡ x.receiver) → P x.file s x.receiver × G x.file x.receiver
        → P file s birth × G file birth
    gone_named file birth x is one =
        let R : FileId → ℕ → Type 0 = λ f n. P f s n × G f n in
        subst (λ (f : FileId). R f birth) (sym is.0) (subst (R x.file) (sym is.1) one)

    -- who is not here under the names of the answer is not under those of the message
    away : (T : FileId → ℕ → Bool) (file : FileId) (birth : ℕ) (x : Ends) → (file ≡ x.file) × (birth ≡ x.receiver)
        → T file birth ≡ false → T x.file x.receiver ≡ false
    away T file birth x is h =
        subst (λ (f : FileId). T f x.receiver ≡ false) is.0 (subst (λ (n : ℕ). T file n ≡ false) is.1 h)

    answer_named : (d : Done) (r : Message) → Answers a m d.store r → Behind d → AllNamed P s from r × SaysAll Q G r
    answer_named d (message.Gone file birth) of k =
        gone_named file birth of.ends of.is (
          (heard of.ends of.of).1,
          fresh of.ends of.of
              (away (λ (f : FileId) (n : ℕ). has_birth a f n) file birth of.ends of.is of.away)
              (away (λ (f : FileId) (n : ℕ). is_pending a f n) file birth of.ends of.is of.over),
        )
    answer_named d (message.Ack ends q tag) of k = (back_named ends of.0 of.1 of.2, tt)
    answer_named d (message.Want ends wanted) of k = (back_named ends of.0 of.1 of.2, tt)
    answer_named d (message.Delta ends x) of k = (back_named ends of.0 of.1 of.2, tt)
    answer_named d (message.Piece ends p) of k = (back_named ends of.0 of.1 of.2, tt)
    answer_named d (message.Later ends stamp) of k = (back_named ends of.0 of.1 of.2, tt)
    answer_named d (message.Full ends) of k =
        (to_named d ends ends (own_held d ends.file k (ap begins_replica of.0) (full_held a.names ends.file of.2)) (subst (AllNamed P from s) of.0 named) of.1, tt)
    answer_named d (message.Grant ends g) of k = (
      to_named d ends ends (own_held d ends.file k (ap begins_replica of.asked) (full_held a.names ends.file of.full)) (subst (AllNamed P from s) of.asked named) of.is,
      subst (λ (x : Granted). All (Q ends.file) x.flags) (sym of.what) (own_says Q (Owed P G s) s d.store ends.file k.fine.store),
    )
    answer_named d (message.NoGrant file birth) of k = (subst (AllNamed P from s) of named, tt)
    answer_named d (message.Greet ends why) of k =
        (to_named d ends ends (own_held d ends.file k (ap begins_replica of.0) of.2) (subst (AllNamed P from s) of.0 named) of.1, tt)
    answer_named d (message.NoneHere what file child) of k = (tt, tt)
    answer_named d (message.ByeOk file birth) of k =
        let one : ends_named P from s of.0 = subst (AllNamed P from s) of.1 named in
        (subst (λ (f : FileId). P f from birth) (sym of.2) (subst (P of.0.file from) (sym of.3) one.0), tt)
    answer_named d (message.PlaceIs dir e) of k =
        (tt, subst (SaysEntry Q) (sym of.2) (entry_says Q (Owed P G s) s d.store of.0.child k.fine.store))
    answer_named d (message.TellOk dir child stamp) of k = (tt, tt)
    answer_named d (message.LeaveOk ends stamp) of k =
        let x = of.0 in
        let none = ap begins_replica of.1 in
        let full = (and_parts (is_full d.store x.file) _ of.3).0 in
        let own = own_held d x.file k none (sym (k.holds none x.file) ∙ full_held d.store.names x.file full) in
        let one : ends_named P from s x = subst (AllNamed P from s) of.1 named in
        (subst (ends_named P s from) (sym of.2) (own, one.0), tt)
    answer_named d r of k = absurd of

    leaves_not : (ends : Ends) (stamp : Stamp) → m ≡ message.LeaveOk ends stamp → ⊥
    leaves_not ends stamp is = false≢true (sym (subst (λ (x : Message). gives_leave_to x ≡ false) is stays))

    begins_not : (ends : Ends) (g : Granted) → m ≡ message.Grant ends g → begins_replica m ≡ false → ⊥
    begins_not ends g is none = false≢true (sym none ∙ ap begins_replica is)

    keeps_fine : Keeps a w m Behind
    keeps_fine = record {
      cell_place = λ d ends tag place is accepted k. behind_place P G s from a m d ends.file place k;
      cell_flag = λ d ends tag flag is accepted k. behind_flag P G s from a m d ends.file flag (subst (SaysMessage Q) is says) k;
      cell_entry = λ d ends tag e sure is dir accepted k. behind_cell P G s from a m d ends.file e sure (subst (SaysMessage Q) is says) k;
      version = λ d file v is k. behind_version P G s from a m d file v k;
      told_place = λ d dir e is there apart k. behind_place P G s from a m d e.child e.place k;
      told_flag = λ d dir e flag is there among k. (
          let all : SaysEntry Q e = subst (SaysMessage Q) is says in
          behind_flag P G s from a m d e.child flag (All-contains (Q e.child) e.flags flag all among) k);
      place_is = λ d dir e is there k. behind_entry P G s from a m d dir e (subst (SaysMessage Q) is says) k;
      tell = λ d dir e is there k. behind_entry P G s from a m d dir e (subst (SaysMessage Q) is says) k;
      links = λ d file birth is same k.
          behind_link P G s from a m d file d.work.from birth
          (subst (λ (z : ℕ). P file z birth) (sym k.fine.asker) (linking_named P from s m named (file, birth) is)) k;
      meets = λ d ends origin birth hops word is accepted k. (
          let both_named : ends_named P from s ends × P ends.file origin birth = subst (AllNamed P from s) is named in
          behind_link P G s from a m d ends.file origin birth both_named.1 k);
      unlinks = λ d file birth is same k. (
          let b = unlink d.store file d.work.from birth in
          behind_edges P G s from a m d (idle b d.work) k (say_unlink Q (Owed P G s) s d.store file d.work.from birth k.fine.store)
          (ends_unlink P d.store file d.work.from birth k.fine.edges) (same_mail d.work)
          (unlink_as_before d.store file d.work.from birth));
      acknowledges = λ d ends q tag is same k. (
          let link = link_of d.work.from ends in
          behind_store P G s from a m d (acknowledge d.store ends.file link q tag) k (say_acknowledge Q (Owed P G s) s d.store ends.file link q tag k.fine.store)
          (acknowledge_stays d.store ends.file link q tag));
      begins = λ ends g is pending k. (
          let b = begun_by a ends g in
          let own = granted_own g in
          let one : ends_named P from s ends = subst (AllNamed P from s) is named in
          record {
            fine = said_on P Q G s from (idle a w) (idle b w) k.fine
                (say_begin Q (Owed P G s) s a ends.file ends.receiver g.policy own false (subst (SaysMessage Q) is says) k.fine.store)
                (ends_begin P a ends.file ends.receiver g.policy own false k.fine.edges) (same_mail w);
            born = born_begun P Q G s from a ends g one.1 k.born;
            births = λ none f. absurd (begins_not ends g is none);
            holds = λ none f. absurd (begins_not ends g is none);
          });
      fills = λ ends is accepted filling k.
          behind_store P G s from a m (idle a w) (with_names a (fill_names a.names ends.file)) k (say_fill Q (Owed P G s) s a ends.file k.fine.store)
          (fill_stays a ends.file);
      raises = λ d ends is there few k. (
          let f = ends.file in
          let own = own_at d f ends.receiver k (raises_only m ends is) (of_birth (replica_at a f) ends.receiver there) in
          let same = (flag_stays d.store f (own_next d.store f true)).before in
          behind_same P G s from a m d (raise_flag d.store f d.work) k (fine_flag P G s from d.store f true d.work k.fine (λ here. own)) same.births same.held);
      goes = λ ends stamp is may k. absurd (leaves_not ends stamp is);
      says_bye = λ d ends stamp e is may among k. absurd (leaves_not ends stamp is);
      ends_intent = λ d q is k.
          behind_store P G s from a m d (with_intents d.store (ended d.store.intents q)) k (say_ended Q (Owed P G s) s d.store q k.fine.store) (ended_stays d.store q);
      turns_intent = λ d q peer is k. behind_aim P G s from a m d q peer k;
      asks_granter = λ d ends g is same k. behind_aim P G s from a m d (intent_key.Fill ends.file) d.work.from k;
      turns_wish = λ d file peer is k. (
          let b = with_wishes d.store (aim_wish d.store.wishes file peer) in
          let store : SaysStore Q (Owed P G s) s b = record { names = k.fine.store.names; intents = k.fine.store.intents } in
          behind_same P G s from a m d (idle b d.work) k (said_on P Q G s from d (idle b d.work) k.fine store k.fine.edges (same_mail d.work)) (λ f. refl) (λ f. refl));
      answers = λ d r of same k. (
          let n = answer_named d r of k in
          behind_same P G s from a m d (idle d.store (reply d.store r d.work)) k (said_reply P Q G s from d.store r d.work n.0 n.1 k.fine) (λ f. refl) (λ f. refl));
      tells_origin = λ d ends origin birth hops word is accepted k. (
          let both_named : ends_named P from s ends × P ends.file origin birth = subst (AllNamed P from s) is named in
          let own = own_at d ends.file ends.receiver k (ap begins_replica is) (here ends _ accepted) in
          behind_post P G s from a m d origin (message.Greet (ends_to d.store ends.file birth) greeting.Meet) (own, both_named.1) tt k);
      passes_on = λ ends origin birth hops word left rest i e is accepted at k. (
          let f = ends.file in
          let both_named : ends_named P from s ends × P f origin birth = subst (AllNamed P from s) is named in
          let own = own_at (idle a w) f ends.receiver k (ap begins_replica is) (here ends _ accepted) in
          let Has : Edge → Type 0 = λ x. P f x.peer x.birth in
          let on_edges = All-filter (is_onward w.from origin) Has (edges_of a f) (edges_named P Q G s from a f (replica_at a f) refl k.fine.edges) in
          let edge = got P Q G s from Has (onward a f w.from origin) i e on_edges at in
          behind_last P G s from a m (idle a w) e.peer (message.Walk (ends_to a f e.birth) origin birth left rest) ((own, edge), both_named.1) tt k);
      notes = λ d ns k.
          behind_store P G s from a m d (with_notes d.store ns) k (record { names = k.fine.store.names; intents = k.fine.store.intents }) (notes_stay d.store ns);
      keeps = λ d file x k.
          behind_store P G s from a m d (keep_delta d.store file x) k (record { names = k.fine.store.names; intents = k.fine.store.intents }) (keep_stays d.store file x);
      tells = λ d ends head e of among k. (
          let f = ends.file in
          let b = d.store in
          let own = own_given P Q G s from b f e (replica_at b f) refl among k.born in
          let Has : Edge → Type 0 = λ x. P f x.peer x.birth in
          let edge = All-contains Has (replica_of b f).edges e (edges_named P Q G s from b f (replica_at b f) refl k.fine.edges) among in
          behind_post P G s from a m d e.peer (message.Harbinger (ends_to b f e.birth) 0 head) (own, edge) tt k);
    }

    kept : IsBorn a → Fine (idle a w) → Fine (receive a m w)
    kept born first =
        (receive_keeps a w Behind m keeps_fine (record { fine = first; born = born; births = λ none f. refl; holds = λ none f. refl })).fine

  -- ANY MESSAGE
  pub fine_received : (a : Store) (m : Message) (w : Work) → AllNamed P from s m → SaysMessage (OfBirths P) m
      → ((ends : Ends) → along m ≡ Some ends → Fresh P (OfBirths P) G s from a ends)
      → ((x : Ends) (stamp : Stamp) → m ≡ message.LeaveOk x stamp → goes_now a x stamp w ≡ true → G x.file x.receiver) → Born P (OfBirths P) G s from a → AreTogether a
      → Fine (idle a w)
      → Fine (receive a m w)
  fine_received a (message.LeaveOk ends stamp) w named says fresh going born both k =
      said_leave_ok P Q G s from a ends stamp w named.1 (going ends stamp refl) k
  fine_received a m w named says fresh going born both k =
      kept a m w named says fresh both refl born k
