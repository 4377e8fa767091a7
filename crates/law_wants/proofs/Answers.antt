-- Who sent a harbinger, a piece or a delta is the only one that is asked for a version behind it.
use Rattle.std.proofs.Common.{ℕ, ◌≡◌, ◌+◌, Bool, true, false, cond, List, [], length, None, Some, refl, sym, ap, subst, ◌∙◌, All}
use Rattle.std.specs.List.{flat_map}
use Rattle.std.proofs.lemmas.List.Elements.{All-append, All-nil, All-push, All-weaker}
use Rattle.pg_run.specs.pg_base.declared.head.Head.{Head}
use Rattle.pg_run.specs.pg_base.declared.id.FileId.{FileId}
use Rattle.pg_run.specs.pg_base.declared.stamp.Stamp.{Stamp}
use Rattle.pg_run.specs.pg_delta.Taking.{delta_to}
use Rattle.pg_run.specs.pg_msg.declared.message.Delta.{Delta}
use Rattle.pg_run.specs.pg_msg.declared.message.Ends.{Ends}
use Rattle.pg_run.specs.pg_msg.declared.message.Message.TheVariants as message
use Rattle.pg_run.specs.pg_msg.declared.message.Piece.{Piece}
use Rattle.pg_run.specs.pg_msg.declared.message.Sent.{Sent}
use Rattle.pg_run.specs.pg_msg.declared.message.Wanted.{Wanted}
use Rattle.pg_run.specs.pg_msg.declared.work.Work.{Work}
use Rattle.pg_run.specs.pg_msg.Ends.{back}
use Rattle.pg_run.specs.pg_msg.Work.{new_work}
use Rattle.pg_run.specs.Asking.{is_version, wanted_by}
use Rattle.pg_run.specs.pg_store.declared.store.Store.{Store}
use Rattle.pg_run.specs.pg_store.Store.{keep_delta, replica_of}
use Rattle.pg_run.specs.pg_pieces.declared.accepting.EdgeUse.{EdgeUse}
use Rattle.pg_run.specs.pg_pieces.declared.accepting.EdgeUse.TheVariants as manner
use Rattle.pg_run.specs.pg_pieces.Accepting.{accept}
use Rattle.pg_run.specs.pg_pieces.Done.{Done}
use Rattle.pg_run.specs.pg_pieces.Posting.{sent_to}
use Rattle.pg_run.specs.pg_server.pg_transfer.Asking.{acknowledged, ask, heard_by, listed, noted, offset_of, put_off}
use Rattle.pg_run.specs.pg_server.pg_transfer.Delta.{delta}
use Rattle.pg_run.specs.pg_server.pg_transfer.Harbinger.{harbinger}
use Rattle.pg_run.specs.pg_server.pg_transfer.Piece.{piece, whole, without_noted}
use Rattle.pg_run.specs.pg_server.pg_transfer.Taking.{taken_for}
use Rattle.pg_run.specs.theory_bodies.Asked.{Asking}
use Rattle.pg_run.proofs.Sends.{accept_fine}
use Rattle.pg_run.proofs.TransferWays.{beside_goes, changed_goes, delta_goes, harbinger_goes, heard_goes, others_hear, piece_goes, pieced_goes}
use Rattle.law_contents.proofs.AsksBodies.{acked_other, taken_other}
use Rattle.law_contents.proofs.Wantless.{AreOther, Other, accept_other, other_none}

-- a message that asks for a version is to this server
abbrev pub GoesTo : ℕ → Sent → Type 0
GoesTo to m = (f : FileId) (t : Stamp) (u : Asking) → wanted_by f t m ≡ Some u → u.target ≡ to

pub other_to : (to : ℕ) (m : Sent) → Other m → GoesTo to m
other_to to m other f t u e = absurd (let z : None ≡ Some u = sym (other_none f t m other) ∙ e in cc)

pub others_to : (to : ℕ) (ms : List Sent) → AreOther ms → All (GoesTo to) ms
others_to to ms h = All-weaker Other (GoesTo to) (λ m other. other_to to m other) ms h

target_of : (x y : Asking) → Some x ≡ Some y → x.target ≡ y.target
target_of x y e = let same : x ≡ y = cc in ap (λ (z : Asking). z.target) same

want_by : (this u : Asking) (v : Bool) → cond v (Some this) None ≡ Some u → u.target ≡ this.target
want_by this u false is = absurd (let z : None ≡ Some u = is in cc)
want_by this u true is = sym (target_of this u is)

want_to : (b : Store) (to : ℕ) (ends : Ends) (wanted : Wanted)
    → GoesTo to (sent_to b to (message.Want ends wanted))
want_to b to ends wanted f t u e =
    want_by (record { target = to; offset = wanted.offset }) u
    (is_version f t ends.file wanted.stamp) e

-- ---- the three that ask

module _ (a : Store) (from : ℕ) (ends : Ends) where
  abbrev work : Work
  work = new_work 0 from

  abbrev Q : Sent → Type 0
  Q = GoesTo from

  abbrev AllTo : Done → Type 0
  AllTo d = All (GoesTo from) d.work.sent

  module _ (way : EdgeUse) where
    abbrev m : Done
    m = accept a ends way work

    abbrev b : Store
    b = m.store

    abbrev w : Work
    w = m.work

    w_from : w.from ≡ from
    w_from =
        let P : Sent → Type 0 = (λ x. Unit {0}) in
        (accept_fine P (λ x is. tt) from a ends way work (All-nil P, All-nil P, refl)).2

    plain : AreOther w.sent
    plain = accept_other a ends way from

    met : AllTo m
    met = others_to from w.sent plain

    -- who sent the message is asked
    asked_to : (stamp : Stamp) (offset : ℕ) (heads : List Stamp)
        → All Q (ask b ends stamp offset heads w).sent
    asked_to stamp offset heads =
        let wanted : Wanted = record { stamp = stamp; offset = offset; heads = heads } in
        let want = sent_to b w.from (message.Want (back ends) wanted) in
        All-push Q w.sent want met
        (subst (λ (g : ℕ). GoesTo g want) w_from (want_to b w.from (back ends) wanted))

  -- ---- a piece, and a delta

  pub piece_to : (q : Piece) → AllTo (piece a ends q work)
  piece_to q =
      let way = manner.Answers in
      piece_goes AllTo a ends work (All-nil Q) q (met way) (λ file accepted.
      pieced_goes AllTo (b way) ends (w way) q (met way)
      (λ n is next more. asked_to way q.head.stamp (length n.bytes + length q.bytes)
      (listed (b way) ends.file))
      (λ n is next last.
      let left = without_noted (b way) ends.file q.head.stamp in
      others_to from (taken_for ends n.tag left (whole n q) (w way)).work.sent
      (taken_other left ends n.tag (whole n q) (w way) (plain way))))

  pub delta_to_sender : (d : Delta) → AllTo (delta a ends d work)
  delta_to_sender d =
      let way = manner.Answers in
      delta_goes AllTo a ends work (All-nil Q) d (met way) (λ file accepted.
      changed_goes AllTo (b way) ends (w way) d (met way)
      (λ asked. asked_to way d.head.stamp 0 [])
      (λ v tag made.
      let kept = keep_delta (b way) ends.file (delta_to d.from v.head.stamp d.ranges) in
      others_to from (taken_for ends tag kept v (w way)).work.sent
      (taken_other kept ends tag v (w way) (plain way))))

  -- ---- a harbinger

  pub harbinger_to : (tag : ℕ) (head : Head) → AllTo (harbinger a ends tag head work)
  harbinger_to tag head =
      let way = manner.Makes in
      let hb = b way in
      let hw = w way in
      let heads = listed hb ends.file in
      let told = flat_map (heard_by hb ends.file hw.from head) (replica_of hb ends.file).edges in
      harbinger_goes AllTo a ends work (All-nil Q) tag head (met way) (λ file accepted.
      heard_goes AllTo hb ends hw tag head
      (λ covered. others_to from (acknowledged hb ends head.stamp tag hw).sent
      (acked_other hb ends head.stamp tag hw (plain way)))
      (λ uncovered awaited. others_to from (put_off hb ends head.stamp hw).sent
      (All-push Other hw.sent (sent_to hb hw.from (message.Later (back ends) head.stamp)) (plain way) refl))
      (λ uncovered unawaited. beside_goes AllTo hb ends hw tag head (noted hb ends.file head.stamp)
      (λ none. All-append Q (ask hb ends head.stamp 0 heads hw).sent told
      (asked_to way head.stamp 0 heads)
      (others_to from told (others_hear Other hb ends.file hw.from head (λ e among apart. refl))))
      (λ n is. asked_to way head.stamp (offset_of n.bytes) heads)))
