-- WHAT OUTLIVES EACH STEP OF A MESSAGE OF BODIES ON DEMAND OUTLIVES THE MESSAGE. Behind its
-- acceptance come a few steps: a version is asked for, given, put off or acknowledged, others hear
-- of it, what is noted changes, a delta is kept, or the version is taken, just as when it comes in
-- a cell. Only a Harbinger links its sender, and that by its acceptance.
use Rattle.std.proofs.Common.{ℕ, ◌==◌, ◌+◌, true, List, [], length, Some}
use Rattle.pg_announced.specs.Announced.{NotesValue, aimed, change_note, emptied, key_at, longer, lose_note, new_note, put_note, without_note}
use Rattle.pg_base.specs.declared.head.Head.{Head}
use Rattle.pg_base.specs.declared.id.FileId.{FileId}
use Rattle.pg_base.specs.declared.stamp.Stamp.{Stamp}
use Rattle.pg_base.specs.Version.{VersionValue}
use Rattle.pg_content.specs.Content.{head_at}
use Rattle.pg_delta.specs.declared.delta.KeptDelta.{KeptDelta}
use Rattle.pg_delta.specs.Taking.{delta_to}
use Rattle.pg_edges.specs.declared.key.Key.TheVariants as key
use Rattle.pg_server.specs.pg_pieces.pg_msg.declared.message.Delta.{Delta}
use Rattle.pg_server.specs.pg_pieces.pg_msg.declared.message.Ends.{Ends}
use Rattle.pg_server.specs.pg_pieces.pg_msg.declared.message.Message.TheVariants as message
use Rattle.pg_server.specs.pg_pieces.pg_msg.declared.message.Piece.{Piece}
use Rattle.pg_server.specs.pg_pieces.pg_msg.declared.message.Wanted.{Wanted}
use Rattle.pg_server.specs.pg_pieces.pg_msg.declared.work.Work.{Work}
use Rattle.pg_server.specs.pg_pieces.pg_msg.Ends.{back}
use Rattle.pg_patch.specs.Ranges.{RangesValue}
use Rattle.pg_server.specs.pg_pieces.pg_store.declared.store.Store.{Store}
use Rattle.pg_server.specs.pg_pieces.pg_store.Store.{keep_delta, replica_of, take_version}
use Rattle.pg_server.specs.pg_pieces.declared.accepting.EdgeUse.TheVariants as manner
use Rattle.pg_server.specs.pg_pieces.Accepting.{accept}
use Rattle.pg_server.specs.pg_pieces.Done.{Done, idle}
use Rattle.pg_server.specs.pg_pieces.Posting.{reply}
use Rattle.pg_server.specs.pg_pieces.Taking.{take_version_noted}
use Rattle.pg_server.specs.pg_transfer.Asking.{acknowledged, ask, listed, noted, offset_of, put_off, told_others, with_notes}
use Rattle.pg_server.specs.pg_transfer.Delta.{changed, delta}
use Rattle.pg_server.specs.pg_transfer.Harbinger.{harbinger, heard}
use Rattle.pg_server.specs.pg_transfer.Later.{later}
use Rattle.pg_server.specs.pg_transfer.Piece.{piece, pieced, whole, without_noted}
use Rattle.pg_server.specs.pg_transfer.Taking.{taken_for}
use Rattle.pg_server.specs.pg_transfer.Want.{answered_along, given, given_as, want}
use Rattle.theory_flood_pieces.proofs.Choices.{chosen}
use Rattle.pg_run.proofs.TransferWays.{answered_goes, beside_goes, changed_goes, delta_goes, harbinger_goes, heard_goes, later_goes, piece_goes, pieced_goes, want_goes}

-- ---- what outlives each step outlives the message

-- P holds of what is left, and outlives each step along these ends
pub record OutlivesSteps (P : Done → Type 0) (ends : Ends) : Type 0 where
  pub asks : (d : Done) (stamp : Stamp) (offset : ℕ) (heads : List Stamp) → P d
      → P (idle d.store (ask d.store ends stamp offset heads d.work))
  pub acknowledges : (d : Done) (stamp : Stamp) (tag : ℕ) → P d
      → P (idle d.store (reply d.store (message.Ack (back ends) (key.Version stamp) tag) d.work))
  pub puts_off : (d : Done) (stamp : Stamp) → P d → P (idle d.store (put_off d.store ends stamp d.work))
  pub gives : (d : Done) (v : VersionValue) (offset : ℕ) → P d → P (idle d.store (given d.store ends v offset d.work))
  pub changes : (d : Done) (ranges : RangesValue) (v : VersionValue) (heads : List Stamp) → P d
      → P (idle d.store (given_as (Some ranges) d.store ends v heads d.work))
  pub tells : (d : Done) (head : Head) → P d → P (idle d.store (told_others d.store ends.file d.work.from head d.work))
  pub notes : (d : Done) (ns : NotesValue) → P d → P (idle (with_notes d.store ns) d.work)
  pub keeps : (d : Done) (delta : KeptDelta) → P d → P (idle (keep_delta d.store ends.file delta) d.work)
  pub takes : (d : Done) (v : VersionValue) → P d → P (take_version_noted d.store ends.file v d.work)

module _ (P : Done → Type 0) (ends : Ends) (k : OutlivesSteps P ends) where
  acknowledged_has : (b : Store) (stamp : Stamp) (tag : ℕ) (w : Work) → P (idle b w) → P (idle b (acknowledged b ends stamp tag w))
  acknowledged_has b stamp tag w h =
      chosen (λ (z : Work). P (idle b z)) (tag == 0) w (reply b (message.Ack (back ends) (key.Version stamp) tag) w) h
      (k.acknowledges (idle b w) stamp tag h)

  -- the version is taken, and the tag under which it was announced is acknowledged
  taken_has : (b : Store) (tag : ℕ) (v : VersionValue) (w : Work) → P (idle b w) → P (taken_for ends tag b v w)
  taken_has b tag v w h =
      let d = take_version_noted b ends.file v w in
      acknowledged_has d.store v.head.stamp tag d.work (k.takes (idle b w) v h)

  heard_has : (b : Store) (tag : ℕ) (head : Head) (w : Work) → P (idle b w) → P (heard b ends tag head w)
  heard_has b tag head w h =
      let asked = ask b ends head.stamp 0 (listed b ends.file) w in
      let all = told_others b ends.file w.from head asked in
      let new = put_note b.announced (key_at ends.file head.stamp) (new_note head w.from tag) in
      let aims = change_note (aimed w.from tag) b.announced (key_at ends.file head.stamp) in
      heard_goes P b ends w tag head (λ is. acknowledged_has b head.stamp tag w h)
      (λ no is. k.puts_off (idle b w) head.stamp h)
      (λ no free. beside_goes P b ends w tag head (noted b ends.file head.stamp)
      (λ none. k.notes (idle b all) new (k.tells (idle b asked) head (k.asks (idle b w) head.stamp 0 (listed b ends.file) h)))
      (λ n is. k.notes (idle b (ask b ends head.stamp (offset_of n.bytes) (listed b ends.file) w)) aims
      (k.asks (idle b w) head.stamp (offset_of n.bytes) (listed b ends.file) h)))

  pieced_has : (b : Store) (p : Piece) (w : Work) → P (idle b w) → P (pieced b ends p w)
  pieced_has b p w h =
      let stamp = p.head.stamp in
      let longer_notes = change_note (longer p.bytes) b.announced (key_at ends.file stamp) in
      pieced_goes P b ends w p h
      (λ n is next more.
      let offset = length n.bytes + length p.bytes in
      k.notes (idle b (ask b ends stamp offset (listed b ends.file) w)) longer_notes (k.asks (idle b w) stamp offset (listed b ends.file) h))
      (λ n is next last.
      taken_has (without_noted b ends.file stamp) n.tag (whole n p) w
      (k.notes (idle b w) (without_note b.announced (key_at ends.file stamp)) h))

  changed_has : (b : Store) (d : Delta) (w : Work) → P (idle b w) → P (changed b ends d w)
  changed_has b d w h =
      let stamp = d.head.stamp in
      changed_goes P b ends w d h
      (λ asked. k.notes (idle b (ask b ends stamp 0 [] w)) (change_note emptied b.announced (key_at ends.file stamp)) (k.asks (idle b w) stamp 0 [] h))
      (λ v tag is.
      let made = delta_to d.from v.head.stamp d.ranges in
      taken_has (keep_delta b ends.file made) tag v w (k.keeps (idle b w) made h))

  answered_has : (b : Store) (wanted : Wanted) (w : Work) → P (idle b w) → P (answered_along true ends wanted (idle b w))
  answered_has b wanted w h =
      let x = replica_of b ends.file in
      answered_goes P b ends w wanted x (head_at x.content.heads wanted.stamp) (λ none. k.puts_off (idle b w) wanted.stamp h)
      (λ v offset is. k.gives (idle b w) v offset h) (λ v ranges is makes. k.changes (idle b w) ranges v wanted.heads h)

  -- EACH MESSAGE
  module _ (a : Store) (work : Work) (still : P (idle a work)) where
    pub harbinger_has : (tag : ℕ) (head : Head) → P (accept a ends manner.Makes work) → P (harbinger a ends tag head work)
    harbinger_has tag head met =
        let m = accept a ends manner.Makes work in
        harbinger_goes P a ends work still tag head met (λ file is. heard_has m.store tag head m.work met)

    pub want_has : (wanted : Wanted) → P (accept a ends manner.Needs work) → P (want a ends wanted work)
    want_has wanted met =
        let m = accept a ends manner.Needs work in
        want_goes P a ends work still wanted met (λ file is. answered_has m.store wanted m.work met)

    pub delta_has : (d : Delta) → P (accept a ends manner.Answers work) → P (delta a ends d work)
    delta_has d met =
        let m = accept a ends manner.Answers work in
        delta_goes P a ends work still d met (λ file is. changed_has m.store d m.work met)

    pub piece_has : (p : Piece) → P (accept a ends manner.Answers work) → P (piece a ends p work)
    piece_has p met =
        let m = accept a ends manner.Answers work in
        piece_goes P a ends work still p met (λ file is. pieced_has m.store p m.work met)

    pub later_has : (stamp : Stamp) → P (accept a ends manner.Answers work) → P (later a ends stamp work)
    later_has stamp met =
        let m = accept a ends manner.Answers work in
        later_goes P a ends work still stamp met
        (λ file is. k.notes m (lose_note m.store.announced (key_at ends.file stamp) m.work.from) met)

-- ---- what is left in the store alone

-- P of a store outlives the three steps that change it
pub record StoresOutlive (P : Store → Type 0) (file : FileId) : Type 0 where
  pub notes : (b : Store) (ns : NotesValue) → P b → P (with_notes b ns)
  pub keeps : (b : Store) (delta : KeptDelta) → P b → P (keep_delta b file delta)
  pub takes : (b : Store) (v : VersionValue) → P b → P (take_version b file v)

pub of_stores : (P : Store → Type 0) (ends : Ends) → StoresOutlive P ends.file → OutlivesSteps (λ d. P d.store) ends
of_stores P ends k = record {
  asks = λ d stamp offset heads h. h;
  acknowledges = λ d stamp tag h. h;
  puts_off = λ d stamp h. h;
  gives = λ d v offset h. h;
  changes = λ d ranges v heads h. h;
  tells = λ d head h. h;
  notes = λ d ns h. k.notes d.store ns h;
  keeps = λ d delta h. k.keeps d.store delta h;
  takes = λ d v h. k.takes d.store v h;
}
