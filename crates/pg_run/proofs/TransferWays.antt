-- WHICH WAYS A MESSAGE OF BODIES ON DEMAND GOES: a Harbinger, a Want, a Delta, a Piece or a Later.
-- Each is looked at only of a file, and first it is accepted, or not; behind that each way comes
-- with what the handler found.
use Rattle.std.proofs.Common.{ℕ, ◌≡◌, ◌==◌, ◌+◌, true, false, cond, [], ◌∷◌, length, Option, None, Some, refl, sym, subst, All}
use Rattle.std.specs.Prelude.{Contains}
use Rattle.std.specs.List.{flat_map}
use Rattle.std.proofs.lemmas.List.Elements.{All-cons, All-contains_itself, All-nil, All-weaker}
use Rattle.pg_announced.specs.declared.announced.Announced.{Announced}
use Rattle.pg_announced.specs.Announced.{is_asked_of, is_awaited}
use Rattle.pg_base.specs.declared.head.Head.{Head}
use Rattle.pg_base.specs.declared.id.FileId.{FileId}
use Rattle.pg_base.specs.declared.stamp.Stamp.{Stamp}
use Rattle.pg_base.specs.Version.{VersionValue, actor_of}
use Rattle.pg_content.specs.Content.{is_covered}
use Rattle.pg_delta.specs.Whole.{delta_of}
use Rattle.pg_edges.specs.declared.edge.Edge.{Edge}
use Rattle.pg_server.specs.pg_pieces.pg_msg.declared.message.Delta.{Delta}
use Rattle.pg_server.specs.pg_pieces.pg_msg.declared.message.Ends.{Ends}
use Rattle.pg_server.specs.pg_pieces.pg_msg.declared.message.Message.TheVariants as message
use Rattle.pg_server.specs.pg_pieces.pg_msg.declared.message.Piece.{Piece}
use Rattle.pg_server.specs.pg_pieces.pg_msg.declared.message.Sent.{Sent}
use Rattle.pg_server.specs.pg_pieces.pg_msg.declared.message.Wanted.{Wanted}
use Rattle.pg_server.specs.pg_pieces.pg_msg.declared.work.Work.{Work}
use Rattle.pg_server.specs.pg_pieces.pg_names.Names.{is_dir}
use Rattle.pg_patch.specs.Ranges.{RangesValue}
use Rattle.pg_server.specs.pg_pieces.pg_replica.declared.replica.Replica.{Replica}
use Rattle.pg_server.specs.pg_pieces.pg_store.declared.store.Store.{Store}
use Rattle.pg_server.specs.pg_pieces.pg_store.Store.{content_of, replica_at, replica_of}
use Rattle.pg_server.specs.pg_pieces.declared.accepting.EdgeUse.{EdgeUse}
use Rattle.pg_server.specs.pg_pieces.declared.accepting.EdgeUse.TheVariants as manner
use Rattle.pg_server.specs.pg_pieces.Accepting.{accept, ends_to, is_accepted}
use Rattle.pg_server.specs.pg_pieces.Done.{Done, idle}
use Rattle.pg_server.specs.pg_pieces.Posting.{sent_to}
use Rattle.pg_server.specs.pg_transfer.declared.piecing.Progress.{Progress}
use Rattle.pg_server.specs.pg_transfer.declared.piecing.Progress.TheVariants as progress
use Rattle.pg_server.specs.pg_transfer.Asking.{acknowledged, heard_by, noted, offset_of, put_off}
use Rattle.pg_server.specs.pg_transfer.Delta.{changed, changed_by, delta, made_by, patched, refused}
use Rattle.pg_server.specs.pg_transfer.Harbinger.{asked_again, first_heard, harbinger, heard, heard_beside}
use Rattle.pg_server.specs.pg_transfer.Later.{later, later_along}
use Rattle.pg_server.specs.pg_transfer.Piece.{advance, completed, is_last, is_next, lengthened, piece, pieced, pieced_by}
use Rattle.pg_server.specs.pg_transfer.Want.{answered, answered_along, given, given_as, want}
use Rattle.theory_flood_pieces.proofs.Choices.{All-flat_map, chosen, decided}

-- ---- which ways there are

module _ (P : Done → Type 0) where
  -- P holds of what a message leaves that comes along an edge of a file, where it holds of what its
  -- acceptance leaves, and of what it leaves where it is accepted. Of a directory there is no
  -- version, and nothing is done
  module _ (a : Store) (ends : Ends) (work : Work) (still : P (idle a work)) where
    by_acceptance : (way : EdgeUse) (d : Done) → P (accept a ends way work)
        → (is_dir ends.file ≡ false → is_accepted a work.from way ends ≡ true → P d)
        → P (cond (is_dir ends.file) (idle a work) (cond (is_accepted a work.from way ends) d (accept a ends way work)))
    by_acceptance way d met goes =
        let m = accept a ends way work in
        let accepted = is_accepted a work.from way ends in
        decided P (is_dir ends.file) (idle a work) (cond accepted d m) (λ dir. still)
        (λ file. decided P accepted d m (λ is. goes file is) (λ no. met))

    pub harbinger_goes : (tag : ℕ) (head : Head) → P (accept a ends manner.Makes work)
        → (is_dir ends.file ≡ false → is_accepted a work.from manner.Makes ends ≡ true
        → let m = accept a ends manner.Makes work in P (heard m.store ends tag head m.work))
        → P (harbinger a ends tag head work)
    harbinger_goes tag head met goes =
        let m = accept a ends manner.Makes work in by_acceptance manner.Makes (heard m.store ends tag head m.work) met goes

    pub want_goes : (wanted : Wanted) → P (accept a ends manner.Needs work)
        → (is_dir ends.file ≡ false → is_accepted a work.from manner.Needs ends ≡ true
        → P (answered_along true ends wanted (accept a ends manner.Needs work)))
        → P (want a ends wanted work)
    want_goes wanted met goes =
        by_acceptance manner.Needs (answered_along true ends wanted (accept a ends manner.Needs work)) met goes

    pub delta_goes : (d : Delta) → P (accept a ends manner.Answers work)
        → (is_dir ends.file ≡ false → is_accepted a work.from manner.Answers ends ≡ true
        → let m = accept a ends manner.Answers work in P (changed m.store ends d m.work))
        → P (delta a ends d work)
    delta_goes d met goes =
        let m = accept a ends manner.Answers work in by_acceptance manner.Answers (changed m.store ends d m.work) met goes

    pub piece_goes : (p : Piece) → P (accept a ends manner.Answers work)
        → (is_dir ends.file ≡ false → is_accepted a work.from manner.Answers ends ≡ true
        → let m = accept a ends manner.Answers work in P (pieced m.store ends p m.work))
        → P (piece a ends p work)
    piece_goes p met goes =
        let m = accept a ends manner.Answers work in by_acceptance manner.Answers (pieced m.store ends p m.work) met goes

    pub later_goes : (stamp : Stamp) → P (accept a ends manner.Answers work)
        → (is_dir ends.file ≡ false → is_accepted a work.from manner.Answers ends ≡ true
        → P (later_along true ends stamp (accept a ends manner.Answers work)))
        → P (later a ends stamp work)
    later_goes stamp met goes =
        by_acceptance manner.Answers (later_along true ends stamp (accept a ends manner.Answers work)) met goes

  -- ---- and behind an acceptance

  module _ (b : Store) (ends : Ends) (w : Work) where
    -- a version is covered, is awaited of another server, is noted or not
    pub heard_goes : (tag : ℕ) (head : Head)
        → (is_covered (content_of b ends.file).heads (actor_of head) head.number ≡ true → P (idle b (acknowledged b ends head.stamp tag w)))
        → (is_covered (content_of b ends.file).heads (actor_of head) head.number ≡ false → is_awaited b.announced ends.file w.from head ≡ true
        → P (idle b (put_off b ends head.stamp w)))
        → (is_covered (content_of b ends.file).heads (actor_of head) head.number ≡ false → is_awaited b.announced ends.file w.from head ≡ false
        → P (heard_beside (noted b ends.file head.stamp) b ends tag head w))
        → P (heard b ends tag head w)
    heard_goes tag head covers awaits hears =
        let covered = is_covered (content_of b ends.file).heads (actor_of head) head.number in
        let awaited = is_awaited b.announced ends.file w.from head in
        let beside = heard_beside (noted b ends.file head.stamp) b ends tag head w in
        decided P covered (idle b (acknowledged b ends head.stamp tag w)) (cond awaited (idle b (put_off b ends head.stamp w)) beside) covers
        (λ no. decided P awaited (idle b (put_off b ends head.stamp w)) beside (awaits no) (hears no))

    pub beside_goes : (tag : ℕ) (head : Head) (o : Option Announced) → (o ≡ None → P (first_heard b ends tag head w))
        → ((n : Announced) → o ≡ Some n → P (asked_again b ends tag head (offset_of n.bytes) w))
        → P (heard_beside o b ends tag head w)
    beside_goes tag head None first again = first refl
    beside_goes tag head (Some n) first again = again n refl

    -- a version that is no head is put off; else its body is given, or a change that makes it
    pub answered_goes : (wanted : Wanted) (x : Replica) (o : Option VersionValue)
        → (o ≡ None → P (idle b (put_off b ends wanted.stamp w)))
        → ((v : VersionValue) (offset : ℕ) → o ≡ Some v → P (idle b (given b ends v offset w)))
        → ((v : VersionValue) (ranges : RangesValue) → o ≡ Some v
        → delta_of x.kept wanted.heads v.head.stamp v.head.length ≡ Some ranges
        → P (idle b (given_as (Some ranges) b ends v wanted.heads w)))
        → P (idle b (answered o x b ends wanted w))
    answered_goes wanted x None none gives changes = none refl
    answered_goes wanted x (Some v) none gives changes =
        let o = delta_of x.kept wanted.heads v.head.stamp v.head.length in
        chosen (λ (z : Work). P (idle b z)) (wanted.offset == 0) (given_as o b ends v wanted.heads w) (given b ends v wanted.offset w)
        (by o refl) (gives v wanted.offset refl)
      where
        by : (o : Option RangesValue) → delta_of x.kept wanted.heads v.head.stamp v.head.length ≡ o → P (idle b (given_as o b ends v wanted.heads w))
        by None is = gives v 0 refl
        by (Some ranges) is = changes v ranges refl is

    -- bytes are none that are asked for, or some more, or the last ones
    module _ (p : Piece) where
      abbrev Was : Option Announced
      Was = noted b ends.file p.head.stamp

      pub pieced_goes : P (idle b w)
          → ((n : Announced) → noted b ends.file p.head.stamp ≡ Some n → is_next w.from n p ≡ true → is_last n p ≡ false
          → P (lengthened (length n.bytes + length p.bytes) b ends p w))
          → ((n : Announced) → noted b ends.file p.head.stamp ≡ Some n → is_next w.from n p ≡ true → is_last n p ≡ true
          → P (completed (Some n) b ends p w))
          → P (pieced b ends p w)
      pieced_goes still more last = by Was refl
        where
          by : (o : Option Announced) → Was ≡ o → P (pieced_by (advance w.from o p) b ends p w)
          by None is = still
          by (Some n) is =
              let Q : Progress → Type 0 = λ z. P (pieced_by z b ends p w) in
              let further = progress.More (length n.bytes + length p.bytes) in
              decided Q (is_next w.from n p) (cond (is_last n p) progress.Whole further) progress.Nothing
              (λ next. decided Q (is_last n p) progress.Whole further
              (λ ends_it. subst (λ (o : Option Announced). P (completed o b ends p w)) (sym is) (last n is next ends_it))
              (λ goes_on. more n is next goes_on))
              (λ no. still)

    -- a change makes the version that is noted, or it is refused, or its sender is not asked
    pub changed_goes : (d : Delta) → P (idle b w)
        → (is_asked_of w.from (noted b ends.file d.head.stamp) ≡ true → P (refused true b ends d w))
        → ((v : VersionValue) (tag : ℕ) → made_by w.from (replica_at b ends.file) (noted b ends.file d.head.stamp) d ≡ Some (v, tag)
        → P (patched (v, tag) b ends d w))
        → P (changed b ends d w)
    changed_goes d still refuses makes =
        by (made_by w.from (replica_at b ends.file) (noted b ends.file d.head.stamp) d) refl
      where
        by : (o : Option (VersionValue × ℕ)) → made_by w.from (replica_at b ends.file) (noted b ends.file d.head.stamp) d ≡ o
            → P (changed_by o (is_asked_of w.from (noted b ends.file d.head.stamp)) b ends d w)
        by None is =
            decided P (is_asked_of w.from (noted b ends.file d.head.stamp)) (refused true b ends d w) (idle b w) refuses (λ no. still)
        by (Some v) is = makes v.0 v.1 is

-- ---- what others hear

-- what holds of a harbinger to each peer but the sender holds of all that others hear
pub others_hear : (Q : Sent → Type 0) (b : Store) (file : FileId) (from : ℕ) (head : Head)
    → ((e : Edge) → Contains (replica_of b file).edges e → (e.peer == from) ≡ false
    → Q (sent_to b e.peer (message.Harbinger (ends_to b file e.birth) 0 head)))
    → All Q (flat_map (heard_by b file from head) (replica_of b file).edges)
others_hear Q b file from head h =
    let es = (replica_of b file).edges in
    All-flat_map Q (heard_by b file from head) es
    (All-weaker (Contains es) (λ (e : Edge). All Q (heard_by b file from head e))
    (λ e among. decided (All Q) (e.peer == from) [] (sent_to b e.peer (message.Harbinger (ends_to b file e.birth) 0 head) ∷ [])
    (λ it. All-nil Q) (λ other. All-cons Q _ [] (h e among other) (All-nil Q)))
    es (All-contains_itself es))
