-- Behind a harbinger, a piece and a delta what is noted goes on with what is asked.
use Rattle.std.proofs.Common.{ℕ, ◌≡◌, ◌≢◌, ◌≤◌, ◌+◌, ◌==◌, ◌&&◌, Bool, true, false, cond, min, List, [], length, Option, None, Some, option_map, inl, inr, refl, sym, ap, subst, ◌∙◌, arith}
use Rattle.std.specs.Prelude.{nat_le}
use Rattle.std.specs.List.{flat_map}
use Rattle.std.specs.Ordering.{eq_by_cmp}
use Rattle.std.proofs.lemmas.Bool.{and_parts, false≢true}
use Rattle.std.proofs.lemmas.Bool.Decides.{Decides-eqb}
use Rattle.std.proofs.lemmas.List.{append-nil, length-append}
use Rattle.std.proofs.lemmas.List.Elements.{All-nil, All-push}
use Rattle.pg_run.specs.pg_announced.declared.announced.Announced.{Announced}
use Rattle.pg_run.specs.pg_announced.declared.announced.NoteKey.{NoteKey}
use Rattle.pg_run.specs.pg_announced.Announced.{AreSorted, NotesValue, aimed, change_note, emptied, is_asked_of, key_at, key_cmp, longer, new_note, note_at}
use Rattle.pg_run.proofs.pg_announced.Found.{same_note, without_found}
use Rattle.pg_run.proofs.pg_announced.Sorted.{sorted_without}
use Rattle.pg_run.specs.pg_base.declared.head.Head.{Head}
use Rattle.pg_run.specs.pg_base.declared.id.FileId.{FileId}
use Rattle.pg_run.specs.pg_base.declared.policy.Policy.{Policy}
use Rattle.pg_run.specs.pg_base.declared.stamp.Stamp.{Stamp}
use Rattle.pg_run.specs.pg_base.Version.{VersionValue}
use Rattle.pg_run.specs.pg_content.Covering.{AreVersionsOf}
use Rattle.pg_run.specs.pg_delta.Taking.{delta_to}
use Rattle.pg_run.specs.pg_edges.declared.key.Key.TheVariants as key
use Rattle.pg_run.specs.pg_msg.declared.message.Delta.{Delta}
use Rattle.pg_run.specs.pg_msg.declared.message.Ends.{Ends}
use Rattle.pg_run.specs.pg_msg.declared.message.Message.{Message}
use Rattle.pg_run.specs.pg_msg.declared.message.Message.TheVariants as message
use Rattle.pg_run.specs.pg_msg.declared.message.Piece.{Piece}
use Rattle.pg_run.specs.pg_msg.declared.message.Wanted.{Wanted}
use Rattle.pg_run.specs.pg_msg.declared.work.Work.{Work}
use Rattle.pg_run.specs.pg_msg.Ends.{back}
use Rattle.pg_run.specs.pg_msg.Work.{new_work}
use Rattle.pg_run.specs.pg_patch.Ranges.{body_limit}
use Rattle.pg_run.specs.pg_replica.declared.replica.Replica.{Replica}
use Rattle.pg_run.specs.Asking.{Asked}
use Rattle.pg_run.specs.Journal.{Born, made_for}
use Rattle.pg_run.proofs.TransferWays.{beside_goes, changed_goes, delta_goes, harbinger_goes, heard_goes, others_hear, piece_goes, pieced_goes}
use Rattle.pg_run.specs.pg_store.declared.store.Store.{Store}
use Rattle.pg_run.specs.pg_store.Store.{is_new_version, keep_delta, replica_at, replica_of, take_version}
use Rattle.pg_run.specs.pg_pieces.declared.accepting.EdgeUse.{EdgeUse}
use Rattle.pg_run.specs.pg_pieces.declared.accepting.EdgeUse.TheVariants as manner
use Rattle.pg_run.specs.pg_pieces.Accepting.{accept}
use Rattle.pg_run.specs.pg_pieces.Done.{Done, idle}
use Rattle.pg_run.specs.pg_pieces.Posting.{reply, sent_to}
use Rattle.pg_run.specs.pg_pieces.Taking.{with_news}
use Rattle.pg_run.proofs.pg_pieces.News.{news_sent}
use Rattle.pg_run.specs.pg_server.pg_transfer.Asking.{acknowledged, heard_by, listed, noted, offset_of, put_off}
use Rattle.pg_run.specs.pg_server.pg_transfer.Delta.{delta, patched, refused}
use Rattle.pg_run.specs.pg_server.pg_transfer.Harbinger.{asked_again, first_heard, harbinger, heard}
use Rattle.pg_run.specs.pg_server.pg_transfer.Piece.{completed, is_last, is_next, lengthened, piece, whole, without_noted}
use Rattle.pg_run.specs.pg_server.pg_transfer.Taking.{taken_for}
use Rattle.pg_run.specs.theory_bodies.Asked.{Asking, asking_of}
use Rattle.pg_run.specs.theory_bodies.Book.{IsVersionOf}
use Rattle.pg_run.proofs.theory_flood_pieces.Choices.{chosen}
use Rattle.law_contents.proofs.Agreed.{Agrees}
use Rattle.law_contents.proofs.Answers.{Met, met_from, met_quiet, met_replica, met_stands}
use Rattle.law_contents.proofs.Carrying.{Carries}
use Rattle.law_contents.proofs.Changes.{Core, Covers, Keeps, Keeps-refl, core_at, core_of}
use Rattle.law_contents.proofs.Covered.{joined_covered, kept_open, taken_goes}
use Rattle.law_contents.proofs.Endings.{change_is, others_stay, put_is}
use Rattle.law_contents.proofs.Files.{held_version}
use Rattle.law_contents.proofs.Goings.{Asks, Goes, go_asks, keeps_go, keeps_then, notes_then, wanting_asks}
use Rattle.law_contents.proofs.Handlers.{accept_quiet}
use Rattle.law_contents.proofs.Pieced.{version_is}
use Rattle.law_contents.proofs.Servers.{Came, IsServer, Stands, file_held, note_of, stands_kept}
use Rattle.law_contents.proofs.Versions.{version_alters}
use Rattle.law_contents.proofs.Wantless.{AreOther, Other, accept_other}

-- an acknowledgement is no Want
pub acked_other : (b : Store) (ends : Ends) (stamp : Stamp) (tag : ℕ) (w : Work) → AreOther w.sent
    → AreOther (acknowledged b ends stamp tag w).sent
acked_other b ends stamp tag w h =
    let m : Message = message.Ack (back ends) (key.Version stamp) tag in
    chosen (λ (v : Work). AreOther v.sent) (tag == 0) w (reply b m w) h
    (All-push Other w.sent (sent_to b w.from m) h refl)

-- nor is anything that is sent where a version is taken
pub taken_other : (b : Store) (ends : Ends) (tag : ℕ) (v : VersionValue) (w : Work) → AreOther w.sent
    → AreOther (taken_for ends tag b v w).work.sent
taken_other b ends tag v w h =
    let news = is_new_version b ends.file v in
    let q = key.Version v.head.stamp in
    acked_other (take_version b ends.file v) ends v.head.stamp tag (with_news news w ends.file q)
    (subst AreOther (sym (news_sent news w ends.file q)) h)

-- who is asked, where something is noted
pub asked_note : (from : ℕ) (o : Option Announced) → is_asked_of from o ≡ true
    → (n : Announced) × (o ≡ Some n) × (n.source ≡ from)
asked_note from None h = absurd (false≢true h)
asked_note from (Some n) h = (n, refl, (Decides-eqb n.source from).0 h)

abbrev asking_at : ℕ → ℕ → Asking
asking_at target offset = record { target = target; offset = offset }

offset_by : (m : ℕ) → m ≤ body_limit → m ≡ min m 4294967295
offset_by m few = omega arith

module _ {s : ℕ} {a : Store} {us : List Born} {p : FileId → Policy} {N : FileId → Type 0}
    {came : Came} (k : IsServer s a us p N came) (from : ℕ) (wants : Asked) (ends : Ends) where
  abbrev work : Work
  work = new_work 0 from

  abbrev Behind : Done → Type 0
  Behind d = Asks a wants d

  go : (d : Done) → Goes a d.store → AreOther d.work.sent → Behind d
  go d = go_asks a wants d

  still : Behind (idle a work)
  still = go (idle a work) (keeps_go (Keeps-refl a)) (All-nil Other)

  -- behind the way in
  module _ (way : EdgeUse) where
    abbrev m : Done
    m = accept a ends way work

    abbrev b : Store
    b = m.store

    abbrev w : Work
    w = m.work

    keeps : Keeps a b
    keeps = (accept_quiet us p N a work ends way).keeps

    b_stands : Stands s b us p came
    b_stands = stands_kept k.stands b keeps

    other : AreOther w.sent
    other = accept_other a ends way from

    met : Behind m
    met = go m (keeps_go keeps) other

    before_is : (q : NoteKey) (z : Bool) (n : Announced) → cond z (Some n) (note_at b.announced q)
        ≡ cond z (Some n) (note_at a.announced q)
    before_is q z n = ap (λ (ns : NotesValue). cond z (Some n) (note_at ns q)) keeps.notes

    -- a note changes, and its version is asked for
    changed_asks : (f : Announced → Announced) (stamp : Stamp) (n : Announced)
        → noted b ends.file stamp ≡ Some n → (offset : ℕ) (heads : List Stamp)
        → asking_of (note_of (f n)) ≡ asking_at w.from offset
        → Behind (record {
          store = record b { announced = change_note f b.announced (key_at ends.file stamp) };
          work = reply b (message.Want (back ends)
              (record { stamp = stamp; offset = offset; heads = heads })) w;
        })
    changed_asks f stamp n is offset heads asking =
        let wanted : Wanted = record { stamp = stamp; offset = offset; heads = heads } in
        let K = key_at ends.file stamp in
        let d : Done = record {
          store = record b { announced = change_note f b.announced K };
          work = reply b (message.Want (back ends) wanted) w;
        } in
        wanting_asks a wants d b w.from (back ends) wanted (f n) w.sent []
        (sym (append-nil d.work.sent)) other (All-nil Other)
        (λ q. change_is f b.announced K q n b_stands.sorted is ∙ before_is q (eq_by_cmp key_cmp q K) (f n))
        asking

  -- ---- a harbinger

  module _ (short : (f : FileId) (n : Announced) (t : Stamp)
      → noted (accept a ends manner.Makes work).store f t ≡ Some n → length n.bytes ≤ body_limit)
      (tag : ℕ) (head : Head) where
    abbrev mb : Store
    mb = (accept a ends manner.Makes work).store

    abbrev mw : Work
    mw = (accept a ends manner.Makes work).work

    first_asks : Behind (first_heard mb ends tag head mw)
    first_asks =
        let wanted : Wanted =
        record { stamp = head.stamp; offset = 0; heads = listed mb ends.file } in
        let K = key_at ends.file head.stamp in
        let n = new_note head mw.from tag in
        wanting_asks a wants (first_heard mb ends tag head mw) mb mw.from (back ends) wanted n mw.sent
        (flat_map (heard_by mb ends.file mw.from head) (replica_of mb ends.file).edges) refl
        (other manner.Makes)
        (others_hear Other mb ends.file mw.from head (λ e among apart. refl))
        (λ q. put_is mb.announced K q n ∙ before_is manner.Makes q (eq_by_cmp key_cmp q K) n) refl

    again_asks : (n : Announced) → noted mb ends.file head.stamp ≡ Some n
        → Behind (asked_again mb ends tag head (offset_of n.bytes) mw)
    again_asks n is =
        changed_asks manner.Makes (aimed mw.from tag) head.stamp n is (offset_of n.bytes)
        (listed mb ends.file)
        (ap (asking_at mw.from)
        (offset_by (length n.bytes) (short ends.file n head.stamp is)))

    heard_asks : Behind (heard mb ends tag head mw)
    heard_asks =
        heard_goes Behind mb ends mw tag head
        (λ covered. go (idle mb (acknowledged mb ends head.stamp tag mw)) (keeps_go (keeps manner.Makes))
        (acked_other mb ends head.stamp tag mw (other manner.Makes)))
        (λ uncovered awaited. go (idle mb (put_off mb ends head.stamp mw)) (keeps_go (keeps manner.Makes))
        (All-push Other mw.sent (sent_to mb mw.from (message.Later (back ends) head.stamp))
        (other manner.Makes) refl))
        (λ uncovered unawaited. beside_goes Behind mb ends mw tag head (noted mb ends.file head.stamp)
        (λ none. first_asks) again_asks)

    -- A HARBINGER
    pub harbinger_asks : Behind (harbinger a ends tag head work)
    harbinger_asks =
        harbinger_goes Behind a ends work still tag head (met manner.Makes) (λ file accepted. heard_asks)

  -- ---- a piece

  module _ (some : from ≢ 0) (agrees : Agrees a us came wants) (q : Piece)
      (h : Carries us p N (message.Piece ends q)) where
    abbrev pb : Store
    pb = (Met k from ends).store

    abbrev pw : Work
    pw = (Met k from ends).work

    abbrev K : NoteKey
    K = key_at ends.file q.head.stamp

    module _ (n : Announced) (is : noted pb ends.file q.head.stamp ≡ Some n)
        (next : is_next pw.from n q ≡ true) where
      source_is : n.source ≡ pw.from
      source_is = (Decides-eqb n.source pw.from).0
          (and_parts (n.source == pw.from) ((q.offset == length n.bytes)
          && nat_le (length n.bytes + length q.bytes) n.head.length) next).0

      more_asks : Behind (lengthened (length n.bytes + length q.bytes) pb ends q pw)
      more_asks =
          changed_asks manner.Answers (longer q.bytes) q.head.stamp n is
          (length n.bytes + length q.bytes) (listed pb ends.file)
          (λ i. record { target = source_is i; offset = length-append n.bytes q.bytes i })

      module _ (last : is_last n q ≡ true) (x : Replica) (there : replica_at pb ends.file ≡ Some x) where
        abbrev v : VersionValue
        v = whole n q

        whole_is : IsVersionOf (p ends.file) (made_for ends.file us) v
        whole_is =
            version_is k from some wants agrees ends q h x there n is
            (subst (λ (g : ℕ). is_next g n q ≡ true) (met_from k from ends) next) last

        heads_are : AreVersionsOf (p ends.file) (made_for ends.file us) x.content.heads
        heads_are =
            held_version (file_held (met_stands k from ends) ends.file (core_of x)
            (ap (λ (o : Option Replica). option_map core_of o) there))

        abbrev Left : Store
        Left = without_noted pb ends.file q.head.stamp

        left_sorted : AreSorted Left.announced
        left_sorted = sorted_without K pb.announced (met_stands k from ends).sorted

        abbrev End : Store
        End = take_version Left ends.file v

        end_covers : Covers (core_at End ends.file) n
        end_covers =
            subst (λ (o : Option Core). Covers o n)
            (sym (version_alters Left ends.file x there v).here)
            (joined_covered (made_for ends.file us) (k.made.histories ends.file) (p ends.file) x.content
            heads_are v whole_is)

        kept : Keeps a pb
        kept = (met_quiet k from ends).keeps

        taken : Goes Left End
        taken = taken_goes Left ends.file v left_sorted

        end_goes : Goes pb End
        end_goes = record {
          view = taken.view;
          stay = λ f t e there_. without_found pb.announced K (key_at f t) e
              (met_stands k from ends).sorted (taken.stay f t e there_);
          ends = λ f t e was. elim (others_stay K pb.announced (key_at f t) e was) [
            | inl stays ↦ taken.ends f t e stays
            | inr same ↦ inr (
                let file : f ≡ ends.file = ap (λ (y : NoteKey). y.file) same in
                let note : n ≡ e = same_note n e (sym is
                ∙ ap (λ (y : NoteKey). note_at pb.announced y) (sym same) ∙ was) in
                subst (λ (g : FileId). Covers (core_at End g) e) (sym file)
                (subst (λ (y : Announced). Covers (core_at End ends.file) y) note end_covers))
          ];
          free = λ h_. taken.free (λ f t e there_. h_ f t e
              (without_found pb.announced K (key_at f t) e (met_stands k from ends).sorted there_));
        }

        whole_asks : Behind (completed (Some n) pb ends q pw)
        whole_asks =
            go (completed (Some n) pb ends q pw) (keeps_then kept end_goes)
            (taken_other Left ends n.tag v pw (other manner.Answers))

    -- A PIECE
    pub piece_asks : Behind (piece a ends q work)
    piece_asks =
        piece_goes Behind a ends work still q (met manner.Answers) (λ file accepted.
        let x = met_replica k from ends accepted in
        pieced_goes Behind pb ends pw q (met manner.Answers) (λ n is next more. more_asks n is next)
        (λ n is next last. whole_asks n is next last x.0 x.1))

  -- ---- a delta

  module _ (x : Delta) where
    abbrev db : Store
    db = (Met k from ends).store

    abbrev dw : Work
    dw = (Met k from ends).work

    refused_asks : is_asked_of dw.from (noted db ends.file x.head.stamp) ≡ true
        → Behind (refused true db ends x dw)
    refused_asks asked =
        let n = asked_note dw.from (noted db ends.file x.head.stamp) asked in
        changed_asks manner.Answers emptied x.head.stamp n.0 n.1 0 []
        (ap (λ (g : ℕ). asking_at g 0) n.2)

    patched_asks : (v : VersionValue) (tag : ℕ) → Behind (patched (v, tag) db ends x dw)
    patched_asks v tag =
        let kept : Store = keep_delta db ends.file (delta_to x.from v.head.stamp x.ranges) in
        go (patched (v, tag) db ends x dw)
        (keeps_then (met_quiet k from ends).keeps (notes_then {b = kept} refl refl
        (kept_open db ends.file (delta_to x.from v.head.stamp x.ranges))
        (taken_goes kept ends.file v (met_stands k from ends).sorted)))
        (taken_other kept ends tag v dw (other manner.Answers))

    -- A DELTA
    pub delta_asks : Behind (delta a ends x work)
    delta_asks =
        delta_goes Behind a ends work still x (met manner.Answers) (λ file accepted.
        changed_goes Behind db ends dw x (met manner.Answers) refused_asks (λ v tag made. patched_asks v tag))
