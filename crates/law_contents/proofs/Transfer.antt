-- A harbinger, or a Later, comes: the server makes no version, takes none, and what it notes stays
-- true.
use Rattle.std.proofs.Common.{ℕ, ◌≡◌, ◌==◌, true, List, [], ◌∷◌, ◌++◌, map, Option, None, Some, option_map, inl, inr, refl, sym, ap, subst, ◌∙◌}
use Rattle.std.specs.List.{flat_map}
use Rattle.std.proofs.lemmas.List.Elements.{All-append, All-cons}
use Rattle.pg_run.specs.pg_announced.declared.announced.Announced.{Announced}
use Rattle.pg_run.specs.pg_announced.Announced.{AreSorted, NotesValue, aimed, is_awaited, key_at, lose_note, new_note, note_at}
use Rattle.pg_run.proofs.pg_announced.Sorted.{sorted_change, sorted_lose, sorted_put}
use Rattle.pg_run.specs.pg_base.declared.head.Head.{Head}
use Rattle.pg_run.specs.pg_base.declared.id.FileId.{FileId}
use Rattle.pg_run.specs.pg_base.declared.policy.Policy.{Policy}
use Rattle.pg_run.specs.pg_base.declared.stamp.Stamp.{Stamp}
use Rattle.pg_run.specs.pg_base.Version.{actor_of}
use Rattle.pg_run.specs.pg_content.Content.{is_covered}
use Rattle.pg_run.specs.pg_edges.declared.edge.Edge.{Edge}
use Rattle.pg_run.specs.pg_edges.declared.key.Key.TheVariants as key
use Rattle.pg_run.specs.pg_msg.declared.message.Ends.{Ends}
use Rattle.pg_run.specs.pg_msg.declared.message.Message.TheVariants as message
use Rattle.pg_run.specs.pg_msg.declared.work.Work.{Work}
use Rattle.pg_run.specs.pg_msg.Ends.{back}
use Rattle.pg_run.specs.pg_msg.Work.{new_work}
use Rattle.pg_run.specs.pg_names.Names.{is_dir}
use Rattle.pg_run.specs.pg_pieces.declared.accepting.EdgeUse.TheVariants as manner
use Rattle.pg_run.specs.pg_pieces.Accepting.{accept, ends_to, is_accepted}
use Rattle.pg_run.specs.pg_pieces.Done.{Done, idle}
use Rattle.pg_run.specs.pg_pieces.Posting.{sent_to}
use Rattle.pg_run.specs.Journal.{Born, made_for}
use Rattle.pg_run.specs.Took.{take_of}
use Rattle.pg_run.specs.pg_server.pg_transfer.Asking.{acknowledged, ask, heard_by, listed, noted, offset_of, put_off, told_others}
use Rattle.pg_run.specs.pg_server.pg_transfer.Harbinger.{harbinger, heard, heard_beside}
use Rattle.pg_run.specs.pg_server.pg_transfer.Later.{later, later_along}
use Rattle.pg_run.specs.pg_store.declared.store.Store.{Store}
use Rattle.pg_run.specs.pg_store.Store.{content_of, replica_of}
use Rattle.pg_run.specs.theory_bodies.Book.{Book, IsBook}
use Rattle.pg_run.specs.theory_bodies.Protocol.{IsAsked, IsNoteIn, Note}
use Rattle.pg_run.specs.theory_bodies.Telling.{IsTrue, Telling}
use Rattle.pg_run.specs.theory_bodies.Telling.Telling.{Announces, Silent}
use Rattle.pg_run.proofs.theory_bodies.Notes.{note_holds}
use Rattle.pg_run.proofs.theory_flood_pieces.Choices.{chosen}
use Rattle.law_contents.proofs.Arrivals.{Arrives, more_came, quiet_arrives}
use Rattle.law_contents.proofs.Carrying.{CarriesHead}
use Rattle.law_contents.proofs.Handlers.{accept_quiet}
use Rattle.law_contents.proofs.NotesCome.{ComesBy, beside_come, later_comes, noted_by, noted_of}
use Rattle.law_contents.proofs.Quiet.{Quiet, quiet_idle, quiet_posted, quiet_then}
use Rattle.law_contents.proofs.Sending.{AllCarry, CarriesSent, none_carry}
use Rattle.law_contents.proofs.Servers.{Came, IsServer, NotesTrue, Stands, note_of, stands_kept, stands_noted, stands_same}
use Rattle.law_contents.proofs.Takes.{both_none}

-- the versions that were made, as bodies see them
abbrev pub book : List Born → (FileId → Policy) → Book
book us p = record { created = λ f. true; policy = p; made = λ f. made_for f us }

-- ---- peers hear of a version

module _ (us : List Born) (p : FileId → Policy) (N : FileId → Type 0) (b : Store) where
  module _ (file : FileId) (from : ℕ) (head : Head) (is : CarriesHead us p file head) where
    heard_carries : (e : Edge) → AllCarry us p N (heard_by b file from head e)
    heard_carries e =
        let m = sent_to b e.peer (message.Harbinger (ends_to b file e.birth) 0 head) in
        chosen (AllCarry us p N) (e.peer == from) [] (m ∷ []) (none_carry us p N)
        (All-cons (CarriesSent us p N) m [] is (none_carry us p N))

    all_hear : (es : List Edge) → AllCarry us p N (flat_map (heard_by b file from head) es)
    all_hear [] = none_carry us p N
    all_hear (e ∷ es) =
        All-append (CarriesSent us p N) (heard_by b file from head e)
        (flat_map (heard_by b file from head) es) (heard_carries e) (all_hear es)

    pub told_quiet : (w : Work) → Quiet us p N b w (idle b (told_others b file from head w))
    told_quiet w =
        let same = quiet_idle us p N b w in
        record {
          keeps = same.keeps;
          none = refl;
          takes = λ q. refl;
          sent = λ h. All-append (CarriesSent us p N) w.sent
              (flat_map (heard_by b file from head) (replica_of b file).edges) h
              (all_hear (replica_of b file).edges);
          tail = λ h. h;
        }

  -- an acknowledgement, where there is a tag
  acked_quiet : (ends : Ends) (stamp : Stamp) (tag : ℕ) (w : Work)
      → Quiet us p N b w (idle b (acknowledged b ends stamp tag w))
  acked_quiet ends stamp tag w =
      chosen (λ (v : Work). Quiet us p N b w (idle b v)) (tag == 0) w _ (quiet_idle us p N b w)
      (quiet_posted us p N b b w.from (message.Ack (back ends) (key.Version stamp) tag) w tt)

  pub asked_quiet : (ends : Ends) (stamp : Stamp) (offset : ℕ) (heads : List Stamp) (w : Work)
      → Quiet us p N b w (idle b (ask b ends stamp offset heads w))
  asked_quiet ends stamp offset heads w =
      quiet_posted us p N b b w.from (message.Want (back ends)
      (record { stamp = stamp; offset = offset; heads = heads })) w tt

module _ {s : ℕ} {a : Store} {us : List Born} {p : FileId → Policy} {N : FileId → Type 0}
    {came : Came} (k : IsServer s a us p N came) (now from : ℕ) where
  abbrev work : Work
  work = new_work now from

  abbrev Quietly : Done → Type 0
  Quietly d = Quiet us p N a work d

  -- no version is taken
  abbrev pub Comes : Done → Type 0
  Comes d = Arrives s a us p N came d (map take_of d.work.made ++ [])

  quiet : (d : Done) → Quietly d → Comes d
  quiet d h = quiet_arrives k now from d h [] (λ q. refl)

  is_book : IsBook (book us p)
  is_book = record { histories = k.made.histories; created = λ f m l. refl }

  -- ---- notes

  -- what is noted behind what was heard is true, where that is
  module _ (d : Done) (h : Quietly d) where
    then_stands : Stands s d.store us p came
    then_stands = stands_kept k.stands d.store h.keeps

    pub noted_true : (t : Telling) → IsTrue (book us p) t → (ns : NotesValue)
        → ComesBy s t d.store.announced ns → (file : FileId)
        → NotesTrue p (record d.store { announced = ns }) file (made_for file us)
    noted_true t true_ ns come file stamp n e =
        (note_holds (book us p) is_book file (λ u. Unit {0}) s t true_ (λ from tag head i. tt) stamp
        (noted_of d.store.announced file stamp) before (note_of n)
        (come file stamp (note_of n) (ap (option_map note_of) e))).0
      where
        before : (m : Note) → noted_of d.store.announced file stamp ≡ Some m
            → IsNoteIn (book us p) file stamp m × IsAsked (λ u. Unit {0}) s file m
        before m there =
            let f = noted_by (note_at d.store.announced (key_at file stamp)) m there in
            let P : Note → Type 0 = (λ x. IsNoteIn (book us p) file stamp x) in
            (subst P (sym f.2) (then_stands.notes file stamp f.0 f.1), inr tt)

    pub noted_stands : (t : Telling) → IsTrue (book us p) t → (ns : NotesValue) → AreSorted ns
        → ComesBy s t d.store.announced ns → Stands s (record d.store { announced = ns }) us p came
    noted_stands t true_ ns sorted come =
        stands_noted then_stands ns sorted (noted_true t true_ ns come)

    -- notes change, and then something is sent
    pub noting : (t : Telling) → IsTrue (book us p) t → (ns : NotesValue) → AreSorted ns
        → ComesBy s t d.store.announced ns → (w : Work) → Quiet us p N d.store d.work (idle d.store w)
        → Comes (record { store = record d.store { announced = ns }; work = w })
    noting t true_ ns sorted come w sends =
        let all = quiet_then us p N h sends in
        record {
          server = h.keeps.server;
          last = h.keeps.last;
          files = h.keeps.files;
          order = h.keeps.order;
          held = λ f c e. inl (k.held f c (sym (h.keeps.each f) ∙ e));
          stands = stands_same (noted_stands t true_ ns sorted come)
              (more_came (map take_of w.made ++ []) came)
              (λ q. ap (λ (ts : List Stamp). ts ++ came q)
              (both_none q (map take_of w.made) [] (all.takes q) refl));
          none = all.none;
          sent = all.sent (none_carry us p N);
          tail = all.tail (none_carry us p N);
        }

  -- ---- a harbinger

  module _ (ends : Ends) (tag : ℕ) (head : Head) (is : CarriesHead us p ends.file head) where
    abbrev linked : Done
    linked = accept a ends manner.Makes work

    linked_quiet : Quietly linked
    linked_quiet = accept_quiet us p N a work ends manner.Makes

    abbrev b : Store
    b = linked.store

    abbrev w : Work
    w = linked.work

    abbrev Told : Telling
    Told = Announces w.from s ends.file tag head

    sorted : AreSorted b.announced
    sorted = (then_stands linked linked_quiet).sorted

    -- each way goes on from where the link left it
    on : (v : Work) → Quiet us p N b w (idle b v) → Comes (idle b v)
    on v sends = quiet (idle b v) (quiet_then us p N linked_quiet sends)

    beside_sorted : (o : Option Announced)
        → AreSorted (heard_beside o b ends tag head w).store.announced
    beside_sorted None =
        sorted_put b.announced (key_at ends.file head.stamp) (new_note head w.from tag) sorted
    beside_sorted (Some n) =
        sorted_change (aimed w.from tag) b.announced (key_at ends.file head.stamp) sorted

    beside_quiet : (o : Option Announced)
        → Quiet us p N b w (idle b (heard_beside o b ends tag head w).work)
    beside_quiet None =
        let v = ask b ends head.stamp 0 (listed b ends.file) w in
        quiet_then us p N (asked_quiet us p N b ends head.stamp 0 (listed b ends.file) w)
        (told_quiet us p N b ends.file w.from head is v)
    beside_quiet (Some n) =
        asked_quiet us p N b ends head.stamp (offset_of n.bytes) (listed b ends.file) w

    -- it is noted, or noted already, and its sender is asked
    beside_comes : (o : Option Announced)
        → ComesBy s Told b.announced (heard_beside o b ends tag head w).store.announced
        → Comes (heard_beside o b ends tag head w)
    beside_comes None come =
        noting linked linked_quiet Told is
        (heard_beside None b ends tag head w).store.announced (beside_sorted None) come
        (heard_beside None b ends tag head w).work (beside_quiet None)
    beside_comes (Some n) come =
        noting linked linked_quiet Told is
        (heard_beside (Some n) b ends tag head w).store.announced (beside_sorted (Some n)) come
        (heard_beside (Some n) b ends tag head w).work (beside_quiet (Some n))

    heard_arrives : Comes (heard b ends tag head w)
    heard_arrives =
        let told = acknowledged b ends head.stamp tag w in
        let late = put_off b ends head.stamp w in
        chosen Comes (is_covered (content_of b ends.file).heads (actor_of head) head.number)
        (idle b told) _ (on told (acked_quiet us p N b ends head.stamp tag w))
        (chosen Comes (is_awaited b.announced ends.file w.from head) (idle b late) _
        (on late (quiet_posted us p N b b w.from (message.Later (back ends) head.stamp) w tt))
        (beside_comes (noted b ends.file head.stamp)
        (beside_come s b ends tag head w sorted (noted b ends.file head.stamp))))

    -- A HARBINGER
    pub harbinger_arrives : Comes (harbinger a ends tag head work)
    harbinger_arrives =
        chosen Comes (is_dir ends.file) (idle a work) _ (quiet (idle a work) (quiet_idle us p N a work))
        (chosen Comes (is_accepted a from manner.Makes ends) (heard b ends tag head w) linked
        heard_arrives (quiet linked linked_quiet))

  -- ---- a Later

  module _ (ends : Ends) (stamp : Stamp) where
    abbrev answered : Done
    answered = accept a ends manner.Answers work

    answered_quiet : Quietly answered
    answered_quiet = accept_quiet us p N a work ends manner.Answers

    lost_arrives : Comes (later_along true ends stamp answered)
    lost_arrives =
        let notes = answered.store.announced in
        let at = key_at ends.file stamp in
        let sorted = (then_stands answered answered_quiet).sorted in
        noting answered answered_quiet Silent tt (lose_note notes at answered.work.from)
        (sorted_lose notes at answered.work.from sorted)
        (later_comes s Silent notes at answered.work.from sorted) answered.work
        (quiet_idle us p N answered.store answered.work)

    -- A LATER
    pub later_arrives : Comes (later a ends stamp work)
    later_arrives =
        chosen Comes (is_dir ends.file) (idle a work) _ (quiet (idle a work) (quiet_idle us p N a work))
        (chosen Comes (is_accepted a from manner.Answers ends) (later_along true ends stamp answered)
        answered lost_arrives (quiet answered answered_quiet))
