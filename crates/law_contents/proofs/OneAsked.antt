-- While a server that was asked for a version counts, no other one is asked for it.
use Rattle.std.proofs.Common.{ℕ, ◌≡◌, ◌≢◌, ◌+◌, ◌==◌, ◌&&◌, Bool, true, false, cond, not, List, [], ◌∷◌, length, None, Some, option_map, inl, inr, refl, sym, ap, subst, ◌∙◌, All, arith}
use Rattle.std.specs.Prelude.{nat_le}
use Rattle.std.specs.BTreeMap.{is_at}
use Rattle.std.specs.List.{flat_map, list_any}
use Rattle.std.proofs.lemmas.Bool.{and_parts, false≢true, le-leb}
use Rattle.std.proofs.lemmas.Bool.Decides.{Decides-eqb}
use Rattle.std.proofs.lemmas.List.Elements.{All-append, All-nil, All-push, All-weaker}
use Rattle.pg_run.specs.pg_announced.declared.announced.Announced.{Announced}
use Rattle.pg_run.specs.pg_announced.declared.announced.NoteKey.{NoteKey}
use Rattle.pg_run.specs.pg_announced.Announced.{NotesValue, covers_for_other, is_awaited, key_at, key_cmp, note_at}
use Rattle.pg_run.proofs.pg_announced.Keys.{key_exact}
use Rattle.pg_run.specs.pg_base.declared.head.Head.{Head}
use Rattle.pg_run.specs.pg_base.declared.id.FileId.{FileId}
use Rattle.pg_run.specs.pg_base.declared.policy.Policy.{Policy}
use Rattle.pg_run.specs.pg_base.declared.stamp.Stamp.{Stamp}
use Rattle.pg_run.specs.pg_base.Id.{is_same_file}
use Rattle.pg_run.specs.pg_base.Vector.{number_at}
use Rattle.pg_run.specs.pg_base.Version.{actor_of}
use Rattle.pg_run.proofs.pg_base.Orders.{is_eq-true, is_same_file-refl, is_same_file-true}
use Rattle.pg_run.specs.pg_content.Content.{Among, ContentValue, is_covered}
use Rattle.pg_run.specs.pg_content.History.{is_same_stamp, version_of}
use Rattle.pg_run.proofs.pg_content.Members.{any_by}
use Rattle.pg_run.proofs.pg_content.Stamps.{same_stamp}
use Rattle.pg_run.specs.pg_delta.Taking.{delta_to}
use Rattle.pg_run.specs.pg_msg.declared.message.Delta.{Delta}
use Rattle.pg_run.specs.pg_msg.declared.message.Ends.{Ends}
use Rattle.pg_run.specs.pg_msg.declared.message.Message.TheVariants as message
use Rattle.pg_run.specs.pg_msg.declared.message.Piece.{Piece}
use Rattle.pg_run.specs.pg_msg.declared.message.Sent.{Sent}
use Rattle.pg_run.specs.pg_msg.declared.message.Wanted.{Wanted}
use Rattle.pg_run.specs.pg_msg.declared.work.Work.{Work}
use Rattle.pg_run.specs.pg_msg.Ends.{back}
use Rattle.pg_run.specs.pg_msg.Work.{new_work}
use Rattle.pg_run.specs.Asking.{Asked, is_version, wanted_by}
use Rattle.pg_run.specs.Journal.{Born, made_for, with_ancestors}
use Rattle.pg_run.proofs.Sends.{accept_fine}
use Rattle.pg_run.proofs.TransferWays.{beside_goes, changed_goes, delta_goes, harbinger_goes, heard_goes, others_hear, piece_goes, pieced_goes}
use Rattle.pg_run.specs.pg_store.declared.store.Store.{Store}
use Rattle.pg_run.specs.pg_store.Seen.{server_of}
use Rattle.pg_run.specs.pg_store.Store.{content_of, keep_delta, replica_of}
use Rattle.pg_run.specs.pg_pieces.declared.accepting.EdgeUse.{EdgeUse}
use Rattle.pg_run.specs.pg_pieces.declared.accepting.EdgeUse.TheVariants as manner
use Rattle.pg_run.specs.pg_pieces.Accepting.{accept}
use Rattle.pg_run.specs.pg_pieces.Done.{Done}
use Rattle.pg_run.specs.pg_pieces.Posting.{sent_to}
use Rattle.pg_run.specs.pg_server.pg_transfer.Asking.{acknowledged, ask, heard_by, listed, noted, offset_of, put_off}
use Rattle.pg_run.specs.pg_server.pg_transfer.Delta.{delta}
use Rattle.pg_run.specs.pg_server.pg_transfer.Harbinger.{harbinger}
use Rattle.pg_run.specs.pg_server.pg_transfer.Piece.{piece, whole, without_noted}
use Rattle.pg_run.specs.pg_server.pg_transfer.Taking.{taken_for}
use Rattle.pg_run.specs.theory_bodies.Asked.{Asking, asking_of}
use Rattle.pg_run.specs.theory_bodies.Book.{IsBook, IsHeadOf}
use Rattle.pg_run.specs.theory_bodies.Protocol.{Note}
use Rattle.pg_run.proofs.theory_bodies.Books.{one_head}
use Rattle.law_contents.proofs.Agreed.{Agrees}
use Rattle.law_contents.proofs.AsksBodies.{acked_other, asked_note, taken_other}
use Rattle.law_contents.proofs.Changes.{Keeps, content_is}
use Rattle.law_contents.proofs.Covered.{taken_covered}
use Rattle.law_contents.proofs.Endings.{pair_is}
use Rattle.law_contents.proofs.Handlers.{accept_quiet}
use Rattle.law_contents.proofs.Servers.{Came, IsServer, Stands, note_of, stands_kept}
use Rattle.law_contents.proofs.Transfer.{book}
use Rattle.law_contents.proofs.Wantless.{AreOther, Other, accept_other, other_none}

-- ---- what is noted stands among the notes

first_among : (q : NoteKey) (n : Announced) (e : NoteKey × Announced) (es : NotesValue) (here : Bool)
    → is_at (key_cmp q) e.0 ≡ here → (note_at es q ≡ Some n → Among (q, n) es)
    → cond here (Some e.1) (note_at es q) ≡ Some n → Among (q, n) (e ∷ es)
first_among q n e es true at rest there =
    inl (pair_is q e.0 n e.1 (key_exact q e.0 (is_eq-true (key_cmp q e.0) at)) there)
first_among q n e es false at rest there = inr (rest there)

note_among : (notes : NotesValue) (q : NoteKey) (n : Announced) → note_at notes q ≡ Some n
    → Among (q, n) notes
note_among [] q n there = absurd (let z : None ≡ Some n = there in cc)
note_among (e ∷ es) q n there =
    first_among q n e es (is_at (key_cmp q) e.0) refl (note_among es q n) there

-- nothing of them is so, and so nothing of this one
none_of : (p : NoteKey × Announced → Bool) (notes : NotesValue) (q : NoteKey) (n : Announced)
    → note_at notes q ≡ Some n → list_any p notes ≡ false → p (q, n) ≡ false
none_of p notes q n there none = by (p (q, n)) refl
  where
    by : (t : Bool) → p (q, n) ≡ t → t ≡ false
    by false e = refl
    by true e = absurd (false≢true (sym none ∙ any_by p notes (q, n) (note_among notes q n there) e))

-- ---- a version is asked for

-- server s asks by a message; the server that is asked is the one that was asked, if one was
abbrev pub IsOne : ℕ → Asked → Sent → Type 0
IsOne s wants m = (f : FileId) (t : Stamp) (u : Asking) → wanted_by f t m ≡ Some u
    → (m.packet.from ≡ s) × (u.target ≢ 0)
    × ((x : Asking) → wants f t ≡ Some x → u.target ≡ x.target)

pub other_one : (s : ℕ) (wants : Asked) (m : Sent) → Other m → IsOne s wants m
other_one s wants m other f t u e = absurd (let z : None ≡ Some u = sym (other_none f t m other) ∙ e in cc)

pub target_of : (x y : Asking) → Some x ≡ Some y → x.target ≡ y.target
target_of x y e = let same : x ≡ y = cc in ap (λ (z : Asking). z.target) same

source_of : (y z : Note) → Some y ≡ Some z → y.source ≡ z.source
source_of y z e = let same : y ≡ z = cc in ap (λ (v : Note). v.source) same

module _ (s : ℕ) (wants : Asked) (b : Store) (server : server_of b ≡ s) (to : ℕ) (ends : Ends)
    (wanted : Wanted) (some : to ≢ 0)
    (one : (x : Asking) → wants ends.file wanted.stamp ≡ Some x → x.target ≡ to) where
  abbrev this : Asking
  this = record { target = to; offset = wanted.offset }

  want_by : (f : FileId) (t : Stamp) (u : Asking) (v : Bool)
      → is_version f t ends.file wanted.stamp ≡ v → cond v (Some this) None ≡ Some u
      → (server_of b ≡ s) × (u.target ≢ 0)
      × ((x : Asking) → wants f t ≡ Some x → u.target ≡ x.target)
  want_by f t u false e is = absurd (let z : None ≡ Some u = is in cc)
  want_by f t u true e is =
      let two = and_parts (is_same_file ends.file f) (is_same_stamp wanted.stamp t) e in
      let file = is_same_file-true ends.file f two.0 in
      let stamp = same_stamp wanted.stamp t two.1 in
      let target : to ≡ u.target = target_of this u is in (
        server,
        λ zero. some (target ∙ zero),
        λ x asked. sym target ∙ sym (one x
            (ap (λ (g : FileId). wants g wanted.stamp) file ∙ ap (wants f) stamp ∙ asked)),
      )

  want_one : IsOne s wants (sent_to b to (message.Want ends wanted))
  want_one f t u e = want_by f t u (is_version f t ends.file wanted.stamp) refl e

-- ---- the three that ask

module _ {s : ℕ} {a : Store} {us : List Born} {p : FileId → Policy} {N : FileId → Type 0}
    {came : Came} (k : IsServer s a us p N came) (wants : Asked) (agrees : Agrees a us came wants)
    (targets : (f : FileId) (t : Stamp) (x : Asking) → wants f t ≡ Some x → x.target ≢ 0) (from : ℕ)
    (some : from ≢ 0) (ends : Ends) where
  abbrev work : Work
  work = new_work 0 from

  abbrev AllOne : Done → Type 0
  AllOne d = All (IsOne s wants) d.work.sent

  others : (ms : List Sent) → AreOther ms → All (IsOne s wants) ms
  others ms h = All-weaker Other (IsOne s wants) (λ m other. other_one s wants m other) ms h

  module _ (way : EdgeUse) where
    abbrev m : Done
    m = accept a ends way work

    abbrev b : Store
    b = m.store

    abbrev w : Work
    w = m.work

    keeps : Keeps a b
    keeps = (accept_quiet us p N a work ends way).keeps

    b_stands : Stands s b us p came
    b_stands = stands_kept k.stands b keeps

    w_from : w.from ≡ from
    w_from =
        let Q : Sent → Type 0 = (λ x. Unit {0}) in
        (accept_fine Q (λ x is. tt) from a ends way work (All-nil Q, All-nil Q, refl)).2

    plain : AreOther w.sent
    plain = accept_other a ends way from

    met : AllOne m
    met = others w.sent plain

    noted_a : (stamp : Stamp) → note_at b.announced (key_at ends.file stamp)
        ≡ note_at a.announced (key_at ends.file stamp)
    noted_a stamp = ap (λ (ns : NotesValue). note_at ns (key_at ends.file stamp)) keeps.notes

    -- one is asked by a note
    by_note : (stamp : Stamp) (n : Announced) → noted b ends.file stamp ≡ Some n → n.source ≡ w.from
        → (x : Asking) → wants ends.file stamp ≡ Some x → x.target ≡ w.from
    by_note stamp n is source x asked =
        let asks = (agrees ends.file stamp).noted (note_of n)
        (ap (option_map note_of) (sym (noted_a stamp) ∙ is))
        (λ zero. some (sym w_from ∙ sym source ∙ zero)) in
        target_of x (asking_of (note_of n)) (sym asked ∙ asks) ∙ source

    wants_one : (stamp : Stamp) (offset : ℕ) (heads : List Stamp)
        → ((x : Asking) → wants ends.file stamp ≡ Some x → x.target ≡ w.from)
        → IsOne s wants (sent_to b w.from (message.Want (back ends)
        (record { stamp = stamp; offset = offset; heads = heads })))
    wants_one stamp offset heads one =
        want_one s wants b (keeps.server ∙ k.server) w.from (back ends) (record { stamp = stamp; offset = offset; heads = heads })
        (λ zero. some (sym w_from ∙ zero)) one

    -- and nothing else is sent but what asks for nothing
    asked_one : (stamp : Stamp) (offset : ℕ) (heads : List Stamp)
        → ((x : Asking) → wants ends.file stamp ≡ Some x → x.target ≡ w.from)
        → All (IsOne s wants) (ask b ends stamp offset heads w).sent
    asked_one stamp offset heads one =
        All-push (IsOne s wants) w.sent (sent_to b w.from (message.Want (back ends)
        (record { stamp = stamp; offset = offset; heads = heads }))) met
        (wants_one stamp offset heads one)

  -- ---- a piece, and a delta

  pub piece_one : (q : Piece) → AllOne (piece a ends q work)
  piece_one q =
      let way = manner.Answers in
      piece_goes AllOne a ends work (All-nil (IsOne s wants)) q (met way) (λ file accepted.
      pieced_goes AllOne (b way) ends (w way) q (met way)
      (λ n is next more. asked_one way q.head.stamp (length n.bytes + length q.bytes)
      (listed (b way) ends.file) (by_note way q.head.stamp n is
      ((Decides-eqb n.source (w way).from).0 (and_parts (n.source == (w way).from) _ next).0)))
      (λ n is next last.
      let left = without_noted (b way) ends.file q.head.stamp in
      others (taken_for ends n.tag left (whole n q) (w way)).work.sent
      (taken_other left ends n.tag (whole n q) (w way) (plain way))))

  pub delta_one : (d : Delta) → AllOne (delta a ends d work)
  delta_one d =
      let way = manner.Answers in
      delta_goes AllOne a ends work (All-nil (IsOne s wants)) d (met way) (λ file accepted.
      changed_goes AllOne (b way) ends (w way) d (met way)
      (λ asked. (
      let n = asked_note (w way).from (noted (b way) ends.file d.head.stamp) asked in
      asked_one way d.head.stamp 0 [] (by_note way d.head.stamp n.0 n.1 n.2)))
      (λ v tag made.
      let kept = keep_delta (b way) ends.file (delta_to d.from v.head.stamp d.ranges) in
      others (taken_for ends tag kept v (w way)).work.sent
      (taken_other kept ends tag v (w way) (plain way))))

  -- ---- a harbinger

  module _ (tag : ℕ) (head : Head) (h : IsHeadOf (p ends.file) (made_for ends.file us) head) where
    abbrev hb : Store
    hb = b manner.Makes

    abbrev hw : Work
    hw = w manner.Makes

    abbrev K : NoteKey
    K = key_at ends.file head.stamp

    is_book : IsBook (book us p)
    is_book = record { histories = k.made.histories; created = λ f m l. refl }

    -- it covers itself
    itself : nat_le head.number (number_at head.vector (actor_of head)) ≡ true
    itself =
        let P : Head → Type 0 = (λ y. nat_le y.number (number_at y.vector (actor_of y)) ≡ true) in
        let m = version_of (p ends.file) (made_for ends.file us) h.made in
        subst P (sym h.whole) (le-leb m.head.number m.head.number (omega arith))

    module _ (uncovered : is_covered (content_of hb ends.file).heads (actor_of head) head.number ≡ false)
      where
        open_ : Among head.stamp (with_ancestors (made_for ends.file us) (came ends.file)) → ⊥
        open_ taken =
            let covered = taken_covered (k.made.histories ends.file)
            ((b_stands manner.Makes).files ends.file) (p ends.file) head h taken in
            let R : ContentValue → Type 0 = (λ y. is_covered y.heads (actor_of head) head.number ≡ true) in
            false≢true (sym uncovered ∙ subst R (sym (content_is hb ends.file)) covered)

        -- nobody is asked for what is not noted
        first_one : noted hb ends.file head.stamp ≡ None → (x : Asking)
            → wants ends.file head.stamp ≡ Some x → x.target ≡ hw.from
        first_one none x asked = elim ((agrees ends.file head.stamp).asks x asked) [
          | inl taken ↦ absurd (open_ taken)
          | inr note ↦ absurd (let z : None ≡ Some note.0 =
              ap (option_map note_of) (sym none ∙ noted_a manner.Makes head.stamp) ∙ note.1 in cc)
        ]

        -- of what is noted nobody else
        again_one : is_awaited hb.announced ends.file hw.from head ≡ false → (n : Announced)
            → noted hb ends.file head.stamp ≡ Some n → (x : Asking)
            → wants ends.file head.stamp ≡ Some x → x.target ≡ hw.from
        again_one unawaited n is x asked =
            let note = (b_stands manner.Makes).notes ends.file head.stamp n is in
            let same : n.head ≡ head = one_head (book us p) is_book ends.file n.head head note.head h note.at in
            let no = none_of (λ e. covers_for_other ends.file hw.from head e.0 e.1) hb.announced K n is unawaited in
            let covers : nat_le head.number (number_at n.head.vector (actor_of head)) ≡ true =
            subst (λ (y : Head). nat_le head.number (number_at y.vector (actor_of head)) ≡ true) (sym same) itself in
            by (n.source == 0) (n.source == hw.from) refl refl
            (ap (λ t. t && (not (n.source == 0) && (not (n.source == hw.from)
            && nat_le head.number (number_at n.head.vector (actor_of head)))))
            (sym (is_same_file-refl ends.file)) ∙ no) covers
          where
            by : (z mine : Bool) → (n.source == 0) ≡ z → (n.source == hw.from) ≡ mine
                → (not (n.source == 0) && (not (n.source == hw.from)
                && nat_le head.number (number_at n.head.vector (actor_of head)))) ≡ false
                → nat_le head.number (number_at n.head.vector (actor_of head)) ≡ true
                → x.target ≡ hw.from
            by z true e f h covers =
                by_note manner.Makes head.stamp n is ((Decides-eqb n.source hw.from).0 f) x asked
            by true false e f h covers =
                let source = (Decides-eqb n.source 0).0 e in
                elim ((agrees ends.file head.stamp).asks x asked) [
                  | inl taken ↦ absurd (open_ taken)
                  | inr other ↦ absurd (targets ends.file head.stamp x asked (
                      let this : Some (note_of n) ≡ Some other.0 =
                      ap (option_map note_of) (sym is ∙ noted_a manner.Makes head.stamp) ∙ other.1 in
                      sym (ap (λ (z : Asking). z.target) other.2) ∙ sym (source_of (note_of n) other.0 this)
                      ∙ source))
                ]
            by false false e f h covers =
                absurd (false≢true (sym h
                ∙ ap (λ t. not t && (not (n.source == hw.from)
                && nat_le head.number (number_at n.head.vector (actor_of head)))) e
                ∙ ap (λ t. not t && nat_le head.number (number_at n.head.vector (actor_of head))) f
                ∙ covers))

    pub harbinger_one : AllOne (harbinger a ends tag head work)
    harbinger_one =
        let way = manner.Makes in
        let heads = listed hb ends.file in
        let told = flat_map (heard_by hb ends.file hw.from head) (replica_of hb ends.file).edges in
        harbinger_goes AllOne a ends work (All-nil (IsOne s wants)) tag head (met way) (λ file accepted.
        heard_goes AllOne hb ends hw tag head
        (λ covered. others (acknowledged hb ends head.stamp tag hw).sent
        (acked_other hb ends head.stamp tag hw (plain way)))
        (λ uncovered awaited. others (put_off hb ends head.stamp hw).sent
        (All-push Other hw.sent (sent_to hb hw.from (message.Later (back ends) head.stamp)) (plain way) refl))
        (λ uncovered unawaited. beside_goes AllOne hb ends hw tag head (noted hb ends.file head.stamp)
        (λ none. All-append (IsOne s wants) (ask hb ends head.stamp 0 heads hw).sent told
        (asked_one way head.stamp 0 heads (first_one uncovered none))
        (others told (others_hear Other hb ends.file hw.from head (λ e among apart. refl))))
        (λ n is. asked_one way head.stamp (offset_of n.bytes) heads
        (again_one uncovered unawaited n is))))
