-- Versions are told of, asked for, given and put off: it keeps the rule of the edges.
use Rattle.std.proofs.Common.{ℕ, ◌≡◌, ◌==◌, true, false, not, List, Some, refl, sym, subst, ◌∙◌, All}
use Rattle.std.specs.Prelude.{drop, take}
use Rattle.std.specs.List.{flat_map}
use Rattle.std.proofs.lemmas.Bool.{and_parts, not-true}
use Rattle.std.proofs.lemmas.List.Elements.{All-append}
use Rattle.pg_run.specs.pg_announced.Announced.{NotesValue, aimed, change_note, key_at, lose_note, new_note, put_note}
use Rattle.pg_run.specs.pg_base.declared.head.Head.{Head}
use Rattle.pg_run.specs.pg_base.declared.id.FileId.{FileId}
use Rattle.pg_run.specs.pg_base.declared.stamp.Stamp.{Stamp}
use Rattle.pg_run.specs.pg_base.Version.{actor_of}
use Rattle.pg_run.specs.pg_content.Content.{head_at, is_covered}
use Rattle.pg_run.specs.pg_edges.declared.key.Key.TheVariants as key
use Rattle.pg_run.specs.theory_flood.Promises.Saying.{Other}
use Rattle.pg_run.specs.pg_msg.declared.message.Ends.{Ends}
use Rattle.pg_run.specs.pg_msg.declared.message.Message.TheVariants as message
use Rattle.pg_run.specs.pg_msg.declared.message.Sent.{Sent}
use Rattle.pg_run.specs.pg_msg.declared.message.Wanted.{Wanted}
use Rattle.pg_run.specs.pg_msg.declared.work.Work.{Work}
use Rattle.pg_run.specs.pg_msg.Ends.{back}
use Rattle.pg_run.specs.pg_msg.Work.{with_sent}
use Rattle.pg_run.specs.pg_store.declared.store.Store.{Store}
use Rattle.pg_run.specs.pg_store.Births.{has_birth}
use Rattle.pg_run.specs.pg_store.Links.{knows_later}
use Rattle.pg_run.specs.pg_store.Store.{content_of, replica_at, replica_of}
use Rattle.pg_run.specs.pg_store.Together.{birth_at}
use Rattle.pg_run.proofs.pg_store.Pairs.{link_as_before}
use Rattle.pg_run.specs.pg_pieces.declared.accepting.EdgeUse.TheVariants as manner
use Rattle.pg_run.specs.pg_pieces.Accepting.{accept, is_current, link_peer}
use Rattle.pg_run.specs.pg_pieces.Done.{Done}
use Rattle.pg_run.specs.pg_pieces.Posting.{reply, sent_to}
use Rattle.pg_run.specs.pg_server.pg_transfer.Asking.{ask, heard_by, listed, noted, offset_of, put_off, told_others, with_notes}
use Rattle.pg_run.specs.pg_server.pg_transfer.Harbinger.{harbinger, heard}
use Rattle.pg_run.specs.pg_server.pg_transfer.Later.{later}
use Rattle.pg_run.specs.pg_server.pg_transfer.Want.{most_in_piece, want}
use Rattle.pg_run.specs.theory_flood_pieces.Seen.{Along, Hearing, hears, saying, says}
use Rattle.pg_run.specs.theory_flood_pieces.Whole.{IsOther}
use Rattle.pg_run.proofs.theory_flood_pieces.Choices.{decided}
use Rattle.pg_run.proofs.theory_flood_pieces.Events.{harbinger_answer_sent, sends_on}
use Rattle.pg_run.proofs.theory_flood_pieces.Sending.{others_may}
use Rattle.pg_run.proofs.Still.{linked_still}
use Rattle.pg_run.proofs.TransferWays.{answered_goes, beside_goes, harbinger_goes, heard_goes, later_goes, others_hear, want_goes}
use Rattle.law_acks.proofs.Cells.{accepts_link, birth_by, replica_with}
use Rattle.law_acks.proofs.Contents.{content_held, link_content}
use Rattle.law_acks.proofs.Handlers.{accept_done}
use Rattle.law_acks.proofs.Heads.{IsHeadComing, head_held}
use Rattle.law_acks.proofs.Pieces.{IsDone, IsWellSaid, Stands, beside_done, link_done, posted, sent_done}

-- Server s of n came from a, having heard this
module _ (n s : ℕ) (a : Store) (heard_now : Hearing) where
  abbrev Is : Done → Type 0
  Is d = IsDone n s a heard_now d

  abbrev At : Store → Work → Type 0
  At b work = Stands n s a heard_now b work

  -- ---- what is noted and sent

  pub noted_done : (b : Store) (work : Work) → At b work → (notes : NotesValue) → At (with_notes b notes) work
  noted_done b work u notes =
      beside_done n s a heard_now b work u (with_notes b notes)
      (record { servers = refl; tags = refl; names = refl; replicas = refl }) u.way.whole.patches

  pub asked_done : (b : Store) (work : Work) → At b work → (ends : Ends) (stamp : Stamp) (offset : ℕ) (heads : List Stamp)
      → At b (ask b ends stamp offset heads work)
  asked_done b work u ends stamp offset heads =
      posted n s a heard_now b work u work.from
      (message.Want (back ends) (record { stamp = stamp; offset = offset; heads = heads })) (λ from. refl) tt

  off_done : (b : Store) (work : Work) → At b work → (ends : Ends) (stamp : Stamp) → At b (put_off b ends stamp work)
  off_done b work u ends stamp = posted n s a heard_now b work u work.from (message.Later (back ends) stamp) (λ from. refl) tt

  -- other peers hear of a version, under no tag
  others_done : (b : Store) (work : Work) → At b work → (file : FileId) (from : ℕ) (head : Head)
      → At b (told_others b file from head work)
  others_done b work u file from head =
      let more = flat_map (heard_by b file from head) (replica_of b file).edges in
      let unread : All (λ m. says m ≡ Other) more = others_hear (λ m. says m ≡ Other) b file from head (λ e among apart. refl) in
      let well : All (λ (m : Sent). IsWellSaid n m.packet.message) more =
      others_hear (λ (m : Sent). IsWellSaid n m.packet.message) b file from head (λ e among apart. tt) in
      record {
        way = sends_on n s a heard_now b work.sent u.way more (λ c f. others_may heard_now.along s a c heard_now.said more unread);
        said = All-append (λ (m : Sent). IsWellSaid n m.packet.message) work.sent more u.said well;
        last = u.last;
      }

  -- ---- who wants a body

  pub want_done : (work : Work) → At a work → (ends : Ends) (wanted : Wanted) → IsOther n s work.from
      → Is (want a ends wanted work)
  want_done work u ends wanted other =
      let d = accept a ends manner.Needs work in
      let v = accept_done n s a heard_now a work u ends manner.Needs other in
      let x = replica_of d.store ends.file in
      want_goes Is a ends work u wanted v
      (λ file is. answered_goes Is d.store ends d.work wanted x (head_at x.content.heads wanted.stamp)
      (λ none. off_done d.store d.work v ends wanted.stamp)
      (λ w offset there. posted n s a heard_now d.store d.work v d.work.from
      (message.Piece (back ends) (record { head = w.head; offset = offset; bytes = take most_in_piece (drop offset w.body) }))
      (λ from. refl) tt)
      (λ w ranges there makes. posted n s a heard_now d.store d.work v d.work.from
      (message.Delta (back ends) (record { head = w.head; from = wanted.heads; ranges = ranges })) (λ from. refl) tt))

  -- ---- who has none

  pub later_done : (work : Work) → At a work → (ends : Ends) (stamp : Stamp) → IsOther n s work.from
      → Is (later a ends stamp work)
  later_done work u ends stamp other =
      let d = accept a ends manner.Answers work in
      let v = accept_done n s a heard_now a work u ends manner.Answers other in
      later_goes Is a ends work u stamp v
      (λ file is. noted_done d.store d.work v (lose_note d.store.announced (key_at ends.file stamp) d.work.from))

-- ---- a harbinger

module _ (along : Along) (n s : ℕ) (a : Store) (ends : Ends) (tag : ℕ) (head : Head) (work : Work)
    (other : IsOther n s work.from) where
  abbrev Heard : Hearing
  Heard = hears along (saying work.from s (message.Harbinger ends tag head))

  abbrev Linked : Done
  Linked = link_peer a ends.file work.from ends.sender work

  module _ (u : Stands n s a Heard a work) (coming : IsHeadComing a ends.file head)
      (birth : birth_at a ends.file ≡ Some ends.receiver) where
    v : Stands n s a Heard Linked.store Linked.work
    v = link_done n s a Heard a work u ends.file work.from ends.sender other

    -- where a later version is held, or this one, it is answered
    answer_done : (tag == 0) ≡ false
        → is_covered (content_of Linked.store ends.file).heads (actor_of head) head.number ≡ true
        → Stands n s a Heard Linked.store (reply Linked.store (message.Ack (back ends) (key.Version head.stamp) tag) Linked.work)
    answer_done tagged covered =
        let b = Linked.store in
        let ack = message.Ack (back ends) (key.Version head.stamp) tag in
        let x = replica_with a ends.file ends.receiver birth in
        let y = replica_with b ends.file ends.receiver ((link_as_before a ends.file work.from ends.sender).births ends.file ∙ birth) in
        let same : y.0.content ≡ x.0.content =
        sym (content_held b ends.file y.0 y.1) ∙ link_content a ends.file work.from ends.sender ∙ content_held a ends.file x.0 x.1 in
        let holds = head_held a b ends.file head coming x.0 y.0 x.1 y.1 same covered in
        let from : Linked.work.from ≡ work.from = (linked_still a ends.file work.from ends.sender work).mail.from in
        subst (λ (to : ℕ). Stands n s a Heard b (with_sent Linked.work (sent_to b to ack))) (sym from)
        (sent_done n s a Heard b Linked.work v (sent_to b work.from ack)
        (harbinger_answer_sent along s a b work.from ends tag head tagged v.way.whole.server y.0 y.1 y.2 holds) tt)

    heard_done : IsDone n s a Heard (heard Linked.store ends tag head Linked.work)
    heard_done =
        let b = Linked.store in
        let w = Linked.work in
        let asked = ask b ends head.stamp 0 (listed b ends.file) w in
        let at = key_at ends.file head.stamp in
        heard_goes (IsDone n s a Heard) b ends w tag head
        (λ covered. decided (Stands n s a Heard b) (tag == 0) w (reply b (message.Ack (back ends) (key.Version head.stamp) tag) w)
        (λ none. v) (λ tagged. answer_done tagged covered))
        (λ new awaited. off_done n s a Heard b w v ends head.stamp)
        (λ new free. beside_goes (IsDone n s a Heard) b ends w tag head (noted b ends.file head.stamp)
        (λ first. noted_done n s a Heard b (told_others b ends.file w.from head asked)
        (others_done n s a Heard b asked (asked_done n s a Heard b w v ends head.stamp 0 (listed b ends.file)) ends.file w.from head)
        (put_note b.announced at (new_note head w.from tag)))
        (λ m again. noted_done n s a Heard b (ask b ends head.stamp (offset_of m.bytes) (listed b ends.file) w)
        (asked_done n s a Heard b w v ends head.stamp (offset_of m.bytes) (listed b ends.file))
        (change_note (aimed w.from tag) b.announced at)))

  pub harbinger_done : Stands n s a Heard a work → IsHeadComing a ends.file head
      → IsDone n s a Heard (harbinger a ends tag head work)
  harbinger_done u coming =
      harbinger_goes (IsDone n s a Heard) a ends work u tag head (accept_done n s a Heard a work u ends manner.Makes other)
      (λ file accepted.
      let current = (and_parts (is_current a work.from ends) true accepted).0 in
      let parts = and_parts (has_birth a ends.file ends.receiver) (not (knows_later a ends.file work.from ends.sender)) current in
      let is : accept a ends manner.Makes work ≡ Linked =
      accepts_link a ends work (has_birth a ends.file ends.receiver) (knows_later a ends.file work.from ends.sender)
      parts.0 (not-true (knows_later a ends.file work.from ends.sender) parts.1) in
      subst (λ (d : Done). IsDone n s a Heard (heard d.store ends tag head d.work)) (sym is)
      (heard_done u coming (birth_by (replica_at a ends.file) ends.receiver parts.0)))
