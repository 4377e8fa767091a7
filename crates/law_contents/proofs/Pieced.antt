-- Bytes of a body come.
use Rattle.std.proofs.Common.{ℕ, ◌≡◌, ◌≢◌, ◌+◌, ◌==◌, ◌&&◌, Bool, true, false, cond, nat_lt, List, [], ◌∷◌, ◌++◌, length, map, Option, None, Some, option_map, inl, inr, refl, sym, ap, subst, ◌∙◌, arith}
use Rattle.std.specs.Prelude.{nat_le}
use Rattle.std.proofs.lemmas.Bool.{and_from, and_parts, false≢true, le-leb}
use Rattle.std.proofs.lemmas.Bool.Decides.{Decides-eqb}
use Rattle.pg_run.specs.pg_announced.declared.announced.Announced.{Announced}
use Rattle.pg_run.specs.pg_announced.declared.announced.NoteKey.{NoteKey}
use Rattle.pg_run.specs.pg_announced.Announced.{AreSorted, NotesValue, change_note, key_at, longer, note_at, without_note}
use Rattle.pg_run.proofs.pg_announced.Found.{same_note, without_found}
use Rattle.pg_run.proofs.pg_announced.Sorted.{sorted_change, sorted_without}
use Rattle.pg_run.specs.pg_base.declared.head.Head.{Head}
use Rattle.pg_run.specs.pg_base.declared.id.FileId.{FileId}
use Rattle.pg_run.specs.pg_base.declared.policy.Policy.{Policy}
use Rattle.pg_run.specs.pg_base.declared.stamp.Stamp.{Stamp}
use Rattle.pg_run.specs.pg_msg.declared.message.Ends.{Ends}
use Rattle.pg_run.specs.pg_msg.declared.message.Message.TheVariants as message
use Rattle.pg_run.specs.pg_msg.declared.message.Piece.{Piece}
use Rattle.pg_run.specs.pg_msg.declared.work.Work.{Work}
use Rattle.pg_run.specs.pg_msg.Ends.{back}
use Rattle.pg_run.specs.pg_msg.Work.{new_work}
use Rattle.pg_run.specs.pg_pieces.Done.{Done, idle}
use Rattle.pg_run.specs.pg_replica.declared.replica.Replica.{Replica}
use Rattle.pg_run.specs.Asking.{Asked, is_asked_at}
use Rattle.pg_run.specs.Carried.{piece_carried}
use Rattle.pg_run.specs.Journal.{Born, made_for}
use Rattle.pg_run.specs.Took.{take_of}
use Rattle.pg_run.specs.Took.Take.{TookVersion}
use Rattle.pg_run.specs.pg_server.Local.{receive}
use Rattle.pg_run.specs.pg_server.pg_transfer.declared.piecing.Progress.TheVariants as progress
use Rattle.pg_run.specs.pg_server.pg_transfer.Asking.{ask, listed, noted}
use Rattle.pg_run.specs.pg_server.pg_transfer.Piece.{advance, completed, is_last, is_next, lengthened, pieced, pieced_by, whole, without_noted}
use Rattle.pg_run.specs.pg_store.declared.store.Store.{Store}
use Rattle.pg_run.specs.pg_store.Store.{replica_at}
use Rattle.pg_run.specs.theory_bodies.Asked.{AreAgreed, Asking, asking_of}
use Rattle.pg_run.specs.theory_bodies.Book.{IsVersionOf}
use Rattle.pg_run.specs.theory_bodies.Protocol.{IsNoteOf, Note}
use Rattle.pg_run.specs.theory_bodies.Rule.{IsFilled}
use Rattle.pg_run.specs.theory_bodies.Telling.{Telling}
use Rattle.pg_run.specs.theory_bodies.Telling.Telling.{Gives}
use Rattle.pg_run.proofs.theory_bodies.Notes.{come_is}
use Rattle.law_contents.proofs.Agreed.{Agrees}
use Rattle.law_contents.proofs.Answers.{Brings, Met, Taken, again_comes, answered, carry, is_book, met_agreed, met_frame, met_from, met_quiet, met_replica, met_stands, noted_head, nothing_comes, number_some}
use Rattle.law_contents.proofs.Arrivals.{Arrives}
use Rattle.law_contents.proofs.Carrying.{Carries}
use Rattle.law_contents.proofs.NotesCome.{longer_comes, noted_by, noted_of}
use Rattle.law_contents.proofs.Quiet.{quiet_posted}
use Rattle.law_contents.proofs.Sending.{none_carry}
use Rattle.law_contents.proofs.Servers.{Came, IsServer, Stands, note_of, stands_noted}
use Rattle.law_contents.proofs.Taken.{IsFrame, taken_arrives}
use Rattle.law_contents.proofs.Transfer.{book, noting}

same_noted : (x y : Note) → Some x ≡ Some y → x ≡ y
same_noted x y e = cc

and_true : (t : Bool) → (t && true) ≡ t
and_true true = refl
and_true false = refl

module _ {s : ℕ} {a : Store} {us : List Born} {p : FileId → Policy} {N : FileId → Type 0}
    {came : Came} (k : IsServer s a us p N came) (from : ℕ) (some : from ≢ 0) (wants : Asked)
    (agrees : Agrees a us came wants) (ends : Ends) (q : Piece) (h : Carries us p N (message.Piece ends q))
  where
    abbrev file : FileId
    file = ends.file

    abbrev stamp : Stamp
    stamp = q.head.stamp

    abbrev b : Store
    b = (Met k from ends).store

    abbrev w : Work
    w = (Met k from ends).work

    abbrev ns : NotesValue
    ns = b.announced

    abbrev K : NoteKey
    K = key_at file stamp

    abbrev Told : Telling
    Told = Gives from file q.head q.offset q.bytes

    abbrev Comes : Done → Bool → Type 0
    Comes d test = Brings k from ends d (carry k from ends stamp test)

    -- it is carried
    abbrev Test : Bool
    Test = is_asked_at from q.offset (wants file stamp) && (q.offset + length q.bytes == q.head.length)

    agreed_here : AreAgreed (Taken k from ends q.head h.0) (wants file stamp) (noted_of ns file stamp)
    agreed_here = met_agreed k from ends q.head h.0 wants agrees

    sorted : AreSorted ns
    sorted = (met_stands k from ends).sorted

    -- ---- it was asked for

    tested : Test ≡ true → (t : Asking) × (wants file stamp ≡ Some t) × (t.target ≡ from)
        × (t.offset ≡ q.offset) × (q.offset + length q.bytes ≡ q.head.length)
    tested test =
        let two = and_parts (is_asked_at from q.offset (wants file stamp))
        (q.offset + length q.bytes == q.head.length) test in
        by (wants file stamp) refl two.0 ((Decides-eqb (q.offset + length q.bytes) q.head.length).0 two.1)
      where
        by : (o : Option Asking) → wants file stamp ≡ o → is_asked_at from q.offset o ≡ true
            → q.offset + length q.bytes ≡ q.head.length
            → (t : Asking) × (wants file stamp ≡ Some t) × (t.target ≡ from)
            × (t.offset ≡ q.offset) × (q.offset + length q.bytes ≡ q.head.length)
        by None e is long = absurd (false≢true is)
        by (Some t) e is long =
            let two = and_parts (t.target == from) (t.offset == q.offset) is in
            (t, e, (Decides-eqb t.target from).0 two.0, (Decides-eqb t.offset q.offset).0 two.1, long)

    module _ (x : Replica) (there : replica_at b file ≡ Some x) where
      again : Taken k from ends q.head h.0 → Comes (idle b w) true
      again taken = again_comes k from ends q.head h.0 x there taken

      -- nothing is noted
      none_comes : note_at ns K ≡ None → (test : Bool) → Test ≡ test → Comes (idle b w) test
      none_comes none false e = nothing_comes k from ends
      none_comes none true e =
          let t = tested e in
          elim (agreed_here.asks t.0 t.1) [
            | inl taken ↦ again taken
            | inr note ↦ absurd (let z : None ≡ Some note.0 =
                sym (ap (option_map note_of) none) ∙ note.1 in cc)
          ]

      -- ---- the version is noted

      module _ (n : Announced) (is : note_at ns K ≡ Some n) where
        abbrev noted_is : noted_of ns file stamp ≡ Some (note_of n)
        noted_is = ap (option_map note_of) is

        head_is : n.head ≡ q.head
        head_is = noted_head k from ends q.head h.0 n is

        long_is : n.head.length ≡ q.head.length
        long_is = ap (λ (y : Head). y.length) head_is

        number_is : nat_lt 0 n.head.number ≡ true
        number_is =
            let P : Head → Type 0 = (λ y. nat_lt 0 y.number ≡ true) in
            subst P (sym head_is)
            (number_some (p file) (made_for file us) (k.made.histories file) q.head h.0)

        -- the bytes are the next ones
        module _ (next : is_next from n q ≡ true) where
          abbrev first : (n.source == from) ≡ true
              × ((q.offset == length n.bytes) && nat_le (length n.bytes + length q.bytes) n.head.length) ≡ true
          first = and_parts (n.source == from)
              ((q.offset == length n.bytes) && nat_le (length n.bytes + length q.bytes) n.head.length) next

          source_is : n.source ≡ from
          source_is = (Decides-eqb n.source from).0 first.0

          offset_is : q.offset ≡ length n.bytes
          offset_is = (Decides-eqb q.offset (length n.bytes)).0
              (and_parts (q.offset == length n.bytes)
              (nat_le (length n.bytes + length q.bytes) n.head.length) first.1).0

          asked_is : wants file stamp ≡ Some (asking_of (note_of n))
          asked_is = agreed_here.noted (note_of n) noted_is (λ zero. some (sym source_is ∙ zero))

          asked_at : is_asked_at from q.offset (wants file stamp) ≡ true
          asked_at =
              ap (is_asked_at from q.offset) asked_is
              ∙ and_from (n.source == from) (length n.bytes == q.offset) first.0
              ((Decides-eqb (length n.bytes) q.offset).1 (sym offset_is))

          long_tests : (q.offset + length q.bytes == q.head.length)
              ≡ (length n.bytes + length q.bytes == n.head.length)
          long_tests = (λ i. offset_is i + length q.bytes == sym long_is i)

          -- they are the last ones just where it is carried
          last_is : is_last n q ≡ Test
          last_is =
              ap (λ t. (length n.bytes + length q.bytes == n.head.length) && t) number_is
              ∙ and_true (length n.bytes + length q.bytes == n.head.length)
              ∙ sym long_tests
              ∙ sym (ap (λ t. t && (q.offset + length q.bytes == q.head.length)) asked_at)

          -- others follow
          more_comes : Comes (lengthened (length n.bytes + length q.bytes) b ends q w) false
          more_comes =
              noting k 0 from (Met k from ends) (met_quiet k from ends) Told h
              (change_note (longer q.bytes) ns K) (sorted_change (longer q.bytes) ns K sorted)
              (longer_comes s ns from file q sorted (λ m e. let same : n ≡ m = same_note n m (sym is ∙ e) in
              subst (λ (y : Announced). is_next from y q ≡ true) same next))
              (ask b ends stamp (length n.bytes + length q.bytes) (listed b file) w)
              (quiet_posted us p N b b w.from (message.Want (back ends) (record {
                stamp = stamp;
                offset = length n.bytes + length q.bytes;
                heads = listed b file;
              })) w tt)

          -- ---- the body is whole

          heads_are : (u : Stamp) (m : Note) → noted_of ns file u ≡ Some m
              → IsNoteOf (p file) (made_for file us) u m
          heads_are u m e =
              let f = noted_by (note_at ns (key_at file u)) m e in
              let P : Note → Type 0 = (λ y. IsNoteOf (p file) (made_for file us) u y) in
              subst P (sym f.2) ((met_stands k from ends).notes file u f.0 f.1)

          at_stamp : noted_of ns file n.head.stamp ≡ Some (note_of n)
          at_stamp =
              let P : Stamp → Type 0 = (λ u. noted_of ns file u ≡ Some (note_of n)) in
              subst P (sym (ap (λ (y : Head). y.stamp) head_is)) noted_is

          filled : is_last n q ≡ true → IsFilled Told file (note_of n) (n.bytes ++ q.bytes)
          filled last = record {
            head = q.head;
            more = q.bytes;
            heard = (λ i. Gives (sym source_is i) file q.head (offset_is i) q.bytes);
            same = sym (ap (λ (y : Head). y.stamp) head_is);
            whole = (Decides-eqb (length n.bytes + length q.bytes) n.head.length).0
                (and_parts (length n.bytes + length q.bytes == n.head.length)
                (nat_lt 0 n.head.number) last).0;
            is = refl;
          }

          pub version_is : is_last n q ≡ true → IsVersionOf (p file) (made_for file us) (whole n q)
          version_is last =
              come_is (book us p) (is_book k from ends) file Told h (noted_of ns file) heads_are
              (whole n q) (inr (note_of n, at_stamp, refl, filled last))

          abbrev Left : Store
          Left = without_noted b file stamp

          left_stands : Stands s Left us p came
          left_stands =
              stands_noted (met_stands k from ends) (without_note ns K) (sorted_without K ns sorted)
              (λ f u m e. (met_stands k from ends).notes f u m (without_found ns K (key_at f u) m sorted e))

          left_frame : IsFrame a Left N
          left_frame =
              let f = met_frame k from ends in record {
                server = f.server;
                last = f.last;
                files = f.files;
                order = f.order;
                held = f.held;
              }

          whole_comes : is_last n q ≡ true → Comes (completed (noted b file stamp) b ends q w) true
          whole_comes last =
              let met = met_quiet k from ends in
              let come = taken_arrives k ends n.tag (whole n q) (version_is last) Left left_frame left_stands
              x there w met.none met.takes (met.sent (none_carry us p N)) (met.tail (none_carry us p N)) in
              let P : Option Announced → Type 0 = (λ o. Comes (completed o b ends q w) true) in
              let R : Stamp → Type 0 = (λ u. Brings k from ends (completed (Some n) b ends q w)
              (TookVersion file u ∷ [])) in
              subst P (sym is) (subst R (ap (λ (y : Head). y.stamp) head_is) come)

        -- they are not the next ones
        other_comes : is_next from n q ≡ false → (test : Bool) → Test ≡ test → Comes (idle b w) test
        other_comes other false e = nothing_comes k from ends
        other_comes other true e =
            let t = tested e in
            elim (agreed_here.asks t.0 t.1) [
              | inl taken ↦ again taken
              | inr note ↦ (
                  let same : note.0 ≡ note_of n = same_noted note.0 (note_of n) (sym note.1 ∙ noted_is) in
                  let asks : asking_of (note_of n) ≡ t.0 = ap asking_of (sym same) ∙ note.2 in
                  let source : n.source ≡ from = ap (λ (y : Asking). y.target) asks ∙ t.2 in
                  let offset : q.offset ≡ length n.bytes =
                  sym (ap (λ (y : Asking). y.offset) asks ∙ t.3) in
                  let sum : length n.bytes + length q.bytes ≡ n.head.length =
                  ap (λ y. y + length q.bytes) (sym offset) ∙ t.4 ∙ sym long_is in
                  absurd (false≢true (sym other ∙ and_from (n.source == from) _
                  ((Decides-eqb n.source from).1 source)
                  (and_from (q.offset == length n.bytes) _ ((Decides-eqb q.offset (length n.bytes)).1 offset)
                  (le-leb (length n.bytes + length q.bytes) n.head.length (omega arith))))))
            ]

        next_by : (next last : Bool) → is_next from n q ≡ next → is_last n q ≡ last → (test : Bool)
            → Test ≡ test
            → Comes (pieced_by (cond next (cond last progress.Whole
            (progress.More (length n.bytes + length q.bytes))) progress.Nothing) b ends q w) test
        next_by false last other l test e = other_comes other test e
        next_by true true next l true e = whole_comes next l
        next_by true true next l false e = absurd (false≢true (sym e ∙ sym (last_is next) ∙ l))
        next_by true false next l true e = absurd (false≢true (sym l ∙ last_is next ∙ e))
        next_by true false next l false e = more_comes next

      noted_comes : (o : Option Announced) → note_at ns K ≡ o
          → Comes (pieced_by (advance from o q) b ends q w) Test
      noted_comes None e = none_comes e Test refl
      noted_comes (Some n) e = next_by n e (is_next from n q) (is_last n q) refl refl Test refl

      met_comes : Comes (pieced b ends q w) Test
      met_comes =
          let P : ℕ → Type 0 = (λ g. Comes (pieced_by (advance g (noted b file stamp) q) b ends q w) Test) in
          subst P (sym (met_from k from ends)) (noted_comes (noted b file stamp) refl)

    -- BYTES OF A BODY
    pub piece_arrives : Arrives s a us p N came (receive a (message.Piece ends q) (new_work 0 from))
        (map take_of (receive a (message.Piece ends q) (new_work 0 from)).work.made
        ++ piece_carried a wants from ends q)
    piece_arrives =
        answered k from ends stamp (pieced b ends q w) Test
        (λ accepted. let x = met_replica k from ends accepted in met_comes x.0 x.1)
