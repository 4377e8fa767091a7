-- What is sent where a Harbinger, a Want, a Delta or a Piece comes: what holds of its answers, and
-- of what others hear, holds of all that is sent.
use Rattle.std.proofs.Common.{ℕ, ◌≡◌, ◌==◌, ◌+◌, true, false, List, [], drop, length, refl, sym, ap, subst, ◌∙◌, Some, All}
use Rattle.std.specs.Prelude.{take}
use Rattle.std.specs.List.{flat_map}
use Rattle.std.proofs.lemmas.List.Elements.{All-append, All-push}
use Rattle.pg_base.specs.declared.head.Head.{Head}
use Rattle.pg_base.specs.declared.stamp.Stamp.{Stamp}
use Rattle.pg_base.specs.Version.{VersionValue}
use Rattle.pg_content.specs.Content.{head_at}
use Rattle.pg_delta.specs.Taking.{delta_to}
use Rattle.pg_edges.specs.declared.edge.Edge.{Edge}
use Rattle.pg_edges.specs.declared.key.Key.TheVariants as key
use Rattle.pg_entries.specs.declared.cell.Cell.TheVariants as cells
use Rattle.pg_server.specs.pg_pieces.pg_msg.declared.message.Delta.{Delta}
use Rattle.pg_server.specs.pg_pieces.pg_msg.declared.message.Ends.{Ends}
use Rattle.pg_server.specs.pg_pieces.pg_msg.declared.message.Message.{Message}
use Rattle.pg_server.specs.pg_pieces.pg_msg.declared.message.Message.TheVariants as message
use Rattle.pg_server.specs.pg_pieces.pg_msg.declared.message.Piece.{Piece}
use Rattle.pg_server.specs.pg_pieces.pg_msg.declared.message.Sent.{Sent}
use Rattle.pg_server.specs.pg_pieces.pg_msg.declared.message.Wanted.{Wanted}
use Rattle.pg_server.specs.pg_pieces.pg_msg.declared.work.Work.{Work}
use Rattle.pg_server.specs.pg_pieces.pg_msg.Ends.{back}
use Rattle.pg_server.specs.pg_pieces.pg_msg.Work.{with_touched}
use Rattle.pg_server.specs.pg_pieces.pg_names.Names as names
use Rattle.pg_server.specs.pg_pieces.pg_names.Names.{is_dir}
use Rattle.pg_patch.specs.Ranges.{RangesValue}
use Rattle.pg_server.specs.pg_pieces.pg_store.declared.store.Store.{Store}
use Rattle.pg_server.specs.pg_pieces.pg_store.Store.{is_new_version, keep_delta, replica_of}
use Rattle.pg_server.specs.pg_pieces.declared.accepting.EdgeUse.TheVariants as manner
use Rattle.pg_server.specs.pg_pieces.Accepting.{accept, ends_to, is_accepted}
use Rattle.pg_server.specs.pg_pieces.Done.{Done, idle}
use Rattle.pg_server.specs.pg_pieces.Posting.{reply, sent_to}
use Rattle.pg_server.specs.pg_pieces.Taking.{take_version_noted}
use Rattle.pg_server.specs.pg_transfer.Asking.{acknowledged, ask, heard_by, listed, noted, offset_of}
use Rattle.pg_server.specs.pg_transfer.Delta.{changed, delta}
use Rattle.pg_server.specs.pg_transfer.Harbinger.{harbinger, heard}
use Rattle.pg_server.specs.pg_transfer.Later.{later}
use Rattle.pg_server.specs.pg_transfer.Piece.{piece, pieced, whole, without_noted}
use Rattle.pg_server.specs.pg_transfer.Taking.{taken_for}
use Rattle.pg_server.specs.pg_transfer.Want.{answered_along, most_in_piece, want}
use Rattle.theory_flood_pieces.proofs.Choices.{chosen}
use Rattle.pg_run.proofs.Holders.{IsBy, accept_names, taken_by}
use Rattle.pg_run.proofs.TransferWays.{answered_goes, beside_goes, changed_goes, delta_goes, harbinger_goes, heard_goes, later_goes, others_hear, piece_goes, pieced_goes, want_goes}

-- a version of this stamp is asked for, by the server that holds a
abbrev pub AsksHave : (Sent → Type 0) → ℕ → Store → Ends → Stamp → Type 0
AsksHave Q from a ends stamp = (b : Store) (offset : ℕ) (heads : List Stamp) → IsBy a b
    → Q (sent_to b from (message.Want (back ends) (record { stamp = stamp; offset = offset; heads = heads })))

-- Q holds of the answers to a Harbinger of this head, and of what others hear
pub record AnswersHarbinger (Q : Sent → Type 0) (from asker : ℕ) (a : Store) (ends : Ends) (head : Head) : Type 0 where
  pub asks : AsksHave Q from a ends head.stamp
  pub acks : (b : Store) (tag : ℕ) → is_dir ends.file ≡ false → is_accepted a asker manner.Makes ends ≡ true → IsBy a b
      → Q (sent_to b from (message.Ack (back ends) (key.Version head.stamp) tag))
  pub tells : (b : Store) (e : Edge) → IsBy a b
      → Q (sent_to b e.peer (message.Harbinger (ends_to b ends.file e.birth) 0 head))

-- of what is given to who sent a Want
pub record AnswersWant (Q : Sent → Type 0) (from : ℕ) (a : Store) (ends : Ends) (wanted : Wanted) : Type 0 where
  pub gives : (b : Store) (v : VersionValue) (offset : ℕ) → IsBy a b
      → head_at (replica_of b ends.file).content.heads wanted.stamp ≡ Some v
      → Q (sent_to b from (message.Piece (back ends)
      (record { head = v.head; offset = offset; bytes = take most_in_piece (drop offset v.body) })))
  pub changes : (b : Store) (v : VersionValue) (ranges : RangesValue) → IsBy a b
      → head_at (replica_of b ends.file).content.heads wanted.stamp ≡ Some v
      → Q (sent_to b from (message.Delta (back ends) (record { head = v.head; from = wanted.heads; ranges = ranges })))

-- and of the answers to a Delta or a Piece of a version of this stamp
pub record AnswersBody (Q : Sent → Type 0) (from asker : ℕ) (a : Store) (ends : Ends) (stamp : Stamp) : Type 0 where
  pub asks : AsksHave Q from a ends stamp
  pub acks : (b : Store) (of : Stamp) (tag : ℕ) → is_dir ends.file ≡ false → is_accepted a asker manner.Answers ends ≡ true → IsBy a b
      → Q (sent_to b from (message.Ack (back ends) (key.Version of) tag))

module _ (Q : Sent → Type 0) (from : ℕ)
    (puts_off : (b : Store) (ends : Ends) (stamp : Stamp) → Q (sent_to b from (message.Later (back ends) stamp))) where
  -- so is all that is sent, be it last; and the work answers this server
  abbrev Fits : Work → Type 0
  Fits work = All Q work.sent × All Q work.tail × (work.from ≡ from)

  module _ (a : Store) (ends : Ends) where
    abbrev Has : Done → Type 0
    Has d = Fits d.work × IsBy a d.store

    post_has : (d : Done) (m : Message) → Q (sent_to d.store from m) → Has d → Has (idle d.store (reply d.store m d.work))
    post_has d m q h =
        let k = h.0 in
        let now = subst (λ (to : ℕ). Q (sent_to d.store to m)) (sym k.2) q in
        ((All-push Q d.work.sent (sent_to d.store d.work.from m) k.0 now, k.1, k.2), h.1)

    ack_has : (d : Done) (stamp : Stamp) (tag : ℕ) → Q (sent_to d.store from (message.Ack (back ends) (key.Version stamp) tag)) → Has d
        → Has (idle d.store (acknowledged d.store ends stamp tag d.work))
    ack_has d stamp tag q h =
        let m = message.Ack (back ends) (key.Version stamp) tag in
        chosen (λ (w : Work). Has (idle d.store w)) (tag == 0) d.work (reply d.store m d.work) h (post_has d m q h)

    take_has : (d : Done) (v : VersionValue) → Has d → Has (take_version_noted d.store ends.file v d.work)
    take_has d v h = (
      chosen Fits (is_new_version d.store ends.file v) (with_touched d.work ends.file (key.Version v.head.stamp)) d.work h.0 h.0,
      taken_by d.store ends.file (cells.Version v) d.work ∙ h.1,
    )

    taken_has : (d : Done) (tag : ℕ) (v : VersionValue)
        → ((b : Store) → IsBy a b → Q (sent_to b from (message.Ack (back ends) (key.Version v.head.stamp) tag))) → Has d
        → Has (taken_for ends tag d.store v d.work)
    taken_has d tag v acks h =
        let e = take_version_noted d.store ends.file v d.work in
        let k = take_has d v h in
        ack_has e v.head.stamp tag (acks e.store k.1) k

    ask_has : (d : Done) (stamp : Stamp) (offset : ℕ) (heads : List Stamp) → AsksHave Q from a ends stamp → Has d
        → Has (idle d.store (ask d.store ends stamp offset heads d.work))
    ask_has d stamp offset heads asks h =
        post_has d (message.Want (back ends) (record { stamp = stamp; offset = offset; heads = heads })) (asks d.store offset heads h.1) h

    off_has : (d : Done) (stamp : Stamp) → Has d → Has (idle d.store (reply d.store (message.Later (back ends) stamp) d.work))
    off_has d stamp h = post_has d (message.Later (back ends) stamp) (puts_off d.store ends stamp) h

    -- ---- behind an acceptance

    heard_has : (tag : ℕ) (head : Head) (d : Done) → AsksHave Q from a ends head.stamp
        → ((b : Store) → IsBy a b → Q (sent_to b from (message.Ack (back ends) (key.Version head.stamp) tag)))
        → ((b : Store) (e : Edge) → IsBy a b → Q (sent_to b e.peer (message.Harbinger (ends_to b ends.file e.birth) 0 head)))
        → Has d → Has (heard d.store ends tag head d.work)
    heard_has tag head d asks acks tells h =
        let b = d.store in
        let heads = listed b ends.file in
        let asked = ask b ends head.stamp 0 heads d.work in
        let first = ask_has d head.stamp 0 heads asks h in
        heard_goes Has b ends d.work tag head (λ covered. ack_has d head.stamp tag (acks b h.1) h) (λ no awaited. off_has d head.stamp h)
        (λ no free. beside_goes Has b ends d.work tag head (noted b ends.file head.stamp)
        (λ none.
        let told = others_hear Q b ends.file d.work.from head (λ e among other. tells b e h.1) in
        ((All-append Q asked.sent (flat_map (heard_by b ends.file d.work.from head) (replica_of b ends.file).edges) first.0.0 told, first.0.1, first.0.2), h.1))
        (λ n is. ask_has d head.stamp (offset_of n.bytes) heads asks h))

    answered_has : (wanted : Wanted) (d : Done) → AnswersWant Q from a ends wanted → Has d → Has (answered_along true ends wanted d)
    answered_has wanted d has h =
        let b = d.store in
        let x = replica_of b ends.file in
        answered_goes Has b ends d.work wanted x (head_at x.content.heads wanted.stamp) (λ none. off_has d wanted.stamp h)
        (λ v offset is.
        post_has d (message.Piece (back ends) (record { head = v.head; offset = offset; bytes = take most_in_piece (drop offset v.body) })) (has.gives b v offset h.1 is) h)
        (λ v ranges is makes.
        post_has d (message.Delta (back ends) (record { head = v.head; from = wanted.heads; ranges = ranges })) (has.changes b v ranges h.1 is) h)

    pieced_has : (p : Piece) (d : Done) → AsksHave Q from a ends p.head.stamp
        → ((b : Store) (of : Stamp) (tag : ℕ) → IsBy a b → Q (sent_to b from (message.Ack (back ends) (key.Version of) tag)))
        → Has d → Has (pieced d.store ends p d.work)
    pieced_has p d asks acks h =
        let b = d.store in
        pieced_goes Has b ends d.work p h (λ n is next more. ask_has d p.head.stamp (length n.bytes + length p.bytes) (listed b ends.file) asks h)
        (λ n is next last.
        taken_has (idle (without_noted b ends.file p.head.stamp) d.work) n.tag (whole n p) (λ c by. acks c n.head.stamp n.tag by) h)

    changed_has : (x : Delta) (d : Done) → AsksHave Q from a ends x.head.stamp
        → ((b : Store) (of : Stamp) (tag : ℕ) → IsBy a b → Q (sent_to b from (message.Ack (back ends) (key.Version of) tag)))
        → Has d → Has (changed d.store ends x d.work)
    changed_has x d asks acks h =
        let b = d.store in
        changed_goes Has b ends d.work x h (λ asked. ask_has d x.head.stamp 0 [] asks h)
        (λ v tag is.
        taken_has (idle (keep_delta b ends.file (delta_to x.from v.head.stamp x.ranges)) d.work) tag v (λ c by. acks c v.head.stamp tag by) h)

  -- ---- each message

  module _ (a : Store) (ends : Ends) (work : Work) (k : Fits work) where
    abbrev Of : Done → Type 0
    Of d = Has a ends d

    still : Of (idle a work)
    still = (k, refl)

    pub harbinger_fits : (tag : ℕ) (head : Head) → AnswersHarbinger Q from work.from a ends head → Fits (accept a ends manner.Makes work).work
        → Fits (harbinger a ends tag head work).work
    harbinger_fits tag head has fits =
        let m = accept a ends manner.Makes work in
        let met : Of m = (fits, ap (λ (n : names.NamesValue). n.server) (accept_names a ends manner.Makes work)) in
        (harbinger_goes Of a ends work still tag head met
        (λ file is. heard_has a ends tag head m has.asks (λ b by. has.acks b tag file is by) has.tells met)).0

    pub want_fits : (wanted : Wanted) → AnswersWant Q from a ends wanted → Fits (accept a ends manner.Needs work).work → Fits (want a ends wanted work).work
    want_fits wanted has fits =
        let m = accept a ends manner.Needs work in
        let met : Of m = (fits, ap (λ (n : names.NamesValue). n.server) (accept_names a ends manner.Needs work)) in
        (want_goes Of a ends work still wanted met (λ file is. answered_has a ends wanted m has met)).0

    abbrev Met : Done
    Met = accept a ends manner.Answers work

    answering : Fits Met.work → Of Met
    answering fits = (fits, ap (λ (n : names.NamesValue). n.server) (accept_names a ends manner.Answers work))

    pub delta_fits : (d : Delta) → AnswersBody Q from work.from a ends d.head.stamp → Fits Met.work → Fits (delta a ends d work).work
    delta_fits d has fits =
        let met = answering fits in
        (delta_goes Of a ends work still d met (λ file is. changed_has a ends d Met has.asks (λ b of tag by. has.acks b of tag file is by) met)).0

    pub piece_fits : (p : Piece) → AnswersBody Q from work.from a ends p.head.stamp → Fits Met.work → Fits (piece a ends p work).work
    piece_fits p has fits =
        let met = answering fits in
        (piece_goes Of a ends work still p met (λ file is. pieced_has a ends p Met has.asks (λ b of tag by. has.acks b of tag file is by) met)).0

    pub later_fits : (stamp : Stamp) → Fits Met.work → Fits (later a ends stamp work).work
    later_fits stamp fits = let met = answering fits in (later_goes Of a ends work still stamp met (λ file is. met)).0
