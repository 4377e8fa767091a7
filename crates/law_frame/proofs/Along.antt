-- Messages along edges: they are accepted, cells are taken, and bodies asked for and given.
use Rattle.std.proofs.Common.{ℕ, ◌≡◌, ◌||◌, true, cond, Some, refl, ◌∙◌}
use Rattle.std.proofs.lemmas.Bool.{or_parts}
use Rattle.pg_run.specs.pg_base.declared.head.Head.{Head}
use Rattle.pg_run.specs.pg_base.declared.id.FileId.{FileId}
use Rattle.pg_run.specs.pg_base.declared.stamp.Stamp.{Stamp}
use Rattle.pg_run.specs.pg_edges.declared.key.Key.{Key}
use Rattle.pg_run.specs.pg_entries.declared.cell.Cell.{Cell}
use Rattle.pg_run.specs.pg_entries.declared.cell.Cell.TheVariants as cells
use Rattle.pg_run.specs.pg_msg.declared.message.Delta.{Delta}
use Rattle.pg_run.specs.pg_msg.declared.message.Ends.{Ends}
use Rattle.pg_run.specs.pg_msg.declared.message.Message.{Message}
use Rattle.pg_run.specs.pg_msg.declared.message.Message.TheVariants as message
use Rattle.pg_run.specs.pg_msg.declared.message.Piece.{Piece}
use Rattle.pg_run.specs.pg_msg.declared.message.Wanted.{Wanted}
use Rattle.pg_run.specs.pg_msg.declared.work.Work.{Work}
use Rattle.pg_run.specs.pg_msg.Ends.{back}
use Rattle.pg_run.specs.pg_msg.Sent.{cell_key}
use Rattle.pg_run.specs.pg_store.declared.store.Store.{Store}
use Rattle.pg_run.specs.pg_store.Births.{has_birth, is_pending}
use Rattle.pg_run.specs.pg_store.Links.{knows_later}
use Rattle.pg_run.specs.pg_pieces.declared.accepting.EdgeUse.{EdgeUse}
use Rattle.pg_run.specs.pg_pieces.declared.accepting.EdgeUse.TheVariants as manner
use Rattle.pg_run.specs.pg_pieces.Accepting.{accept, is_accepted, is_answer, link_peer, met, with_gone}
use Rattle.pg_run.specs.pg_pieces.Done.{Done, idle}
use Rattle.pg_run.specs.pg_pieces.Posting.{reply}
use Rattle.pg_run.specs.pg_cells.Acks.{ack}
use Rattle.pg_run.specs.pg_cells.Cells.{cell as take_cell, fits, taken, taken_along}
use Rattle.pg_run.specs.pg_server.pg_transfer.Delta.{delta}
use Rattle.pg_run.specs.pg_server.pg_transfer.Harbinger.{harbinger}
use Rattle.pg_run.specs.pg_server.pg_transfer.Later.{later}
use Rattle.pg_run.specs.pg_server.pg_transfer.Piece.{piece}
use Rattle.pg_run.specs.pg_server.pg_transfer.Want.{want}
use Rattle.pg_run.proofs.theory_flood_pieces.Choices.{chosen, decided}
use Rattle.pg_run.proofs.Still.{entry_cell_still, flag_still, linked_still, place_still, version_still}
use Rattle.pg_run.proofs.Transfers as transfers
use Rattle.pg_run.proofs.Transfers.{IsAnswer, KeepsTransfers}
use Rattle.law_frame.proofs.Keeps.{Answers, Keeps, Kept, along, bringing, linking}

module _ (a : Store) (w : Work) (I : Done → Type 0) where
  abbrev J : Done → Type 0
  J d = Kept w I d

  module _ (m : Message) (k : Keeps a w m I) where
    -- ---- a piece, and who is answered behind it

    pub linked : (d : Done) (file : FileId) (birth : ℕ) → linking m ≡ Some (file, birth) → J d
        → J (link_peer d.store file d.work.from birth d.work)
    linked d file birth is h = (
      k.links d file birth is h.1 h.0,
      (linked_still d.store file d.work.from birth d.work).mail.from ∙ h.1,
    )

    pub answered : (d : Done) (r : Message) → Answers a m d.store r → J d
        → J (idle d.store (reply d.store r d.work))
    answered d r of h = (k.answers d r of h.1 h.0, h.1)

    -- ---- what is accepted

    -- a message that links its sender names it
    abbrev Names : EdgeUse → Ends → Type 0
    Names manner.Makes ends = linking m ≡ Some (ends.file, ends.sender)
    Names manner.Needs ends = Unit {0}
    Names manner.Answers ends = Unit {0}

    met_keeps : (way : EdgeUse) (ends : Ends) → Names way ends → J (idle a w) → J (met a ends way w)
    met_keeps manner.Makes ends names h = linked (idle a w) ends.file ends.sender names h
    met_keeps manner.Needs ends names h = h
    met_keeps manner.Answers ends names h = h

    pub accept_keeps : (way : EdgeUse) (ends : Ends) → along m ≡ Some ends → Names way ends
        → J (idle a w) → J (accept a ends way w)
    accept_keeps way ends of names h =
        let born = has_birth a ends.file ends.receiver in
        let late = knows_later a ends.file w.from ends.sender in
        let quiet = is_answer way || is_pending a ends.file ends.receiver in
        let r = message.Gone ends.file ends.receiver in
        decided J born (cond late (idle a w) (met a ends way w)) (idle a (with_gone a ends way w))
        (λ here. chosen J late (idle a w) (met a ends way w) h (met_keeps way ends names h))
        (λ away. decided (λ (v : Work). J (idle a v)) quiet w (reply a r w) (λ is. h)
        (λ tells. answered (idle a w) r (record {
          ends = ends;
          of = of;
          is = (refl, refl);
          away = away;
          over = (or_parts (is_answer way) (is_pending a ends.file ends.receiver) tells).1;
        }) h))

    -- ---- bodies on demand

    answer_is : (b : Store) (ends : Ends) (r : Message) → along m ≡ Some ends → IsAnswer ends r
        → Answers a m b r
    answer_is b ends (message.Want e wanted) of same = (ends, of, same)
    answer_is b ends (message.Delta e d) of same = (ends, of, same)
    answer_is b ends (message.Piece e p) of same = (ends, of, same)
    answer_is b ends (message.Later e stamp) of same = (ends, of, same)
    answer_is b ends (message.Ack e q tag) of same = (ends, of, same.0)
    answer_is b ends r of same = absurd same

    pub transfers_keep : (ends : Ends) → along m ≡ Some ends → bringing m ≡ Some ends.file
        → KeepsTransfers ends J
    transfers_keep ends of brings = record {
      notes = λ d ns h. (k.notes d ns h.0, h.1);
      keeps = λ d x h. (k.keeps d ends.file x h.0, h.1);
      takes = λ d v h. (
        k.version d ends.file v brings h.0,
        (version_still d.store ends.file v d.work).mail.from ∙ h.1,
      );
      answers = λ d r is h. answered d r (answer_is d.store ends r of is) h;
      tells = λ d head e there h. (k.tells d ends head e of there h.0, h.1);
    }

  -- ---- cells

  taken_keeps : (ends : Ends) (tag : ℕ) (c : Cell) → Keeps a w (message.Cell ends tag c) I
      → fits ends.file c ≡ true → is_accepted a w.from manner.Makes ends ≡ true → (d : Done) → J d
      → J (taken d.store ends.file c d.work)
  taken_keeps ends tag (cells.Place p) k fit accepted d h = (
    k.cell_place d ends tag p refl accepted h.0,
    (place_still d.store ends.file p d.work).mail.from ∙ h.1,
  )
  taken_keeps ends tag (cells.Flag g) k fit accepted d h = (
    k.cell_flag d ends tag g refl accepted h.0,
    (flag_still d.store ends.file g d.work).mail.from ∙ h.1,
  )
  taken_keeps ends tag (cells.Entry e sure) k fit accepted d h = (
    k.cell_entry d ends tag e sure refl fit accepted h.0,
    (entry_cell_still d.store ends.file e sure d.work).mail.from ∙ h.1,
  )
  taken_keeps ends tag (cells.Version v) k fit accepted d h = (
    k.version d ends.file v refl h.0,
    (version_still d.store ends.file v d.work).mail.from ∙ h.1,
  )

  pub cell_keeps : (ends : Ends) (tag : ℕ) (c : Cell) → Keeps a w (message.Cell ends tag c) I
      → J (idle a w) → J (take_cell a ends tag c w)
  cell_keeps ends tag c k h =
      let m = message.Cell ends tag c in
      let to = accept a ends manner.Makes w in
      let met_to = accept_keeps m k manner.Makes ends refl refl h in
      let accepted = is_accepted a w.from manner.Makes ends in
      let took = taken to.store ends.file c to.work in
      decided J (fits ends.file c) (cond accepted (taken_along ends tag c to) to) (idle a w)
      (λ fit. decided J accepted (taken_along ends tag c to) to
      (λ is. answered m k took (message.Ack (back ends) (cell_key c) tag) (ends, refl, refl)
      (taken_keeps ends tag c k fit is to met_to))
      (λ no. met_to)) (λ other. h)

  pub ack_keeps : (ends : Ends) (q : Key) (tag : ℕ) → Keeps a w (message.Ack ends q tag) I
      → J (idle a w) → J (ack a ends q tag w)
  ack_keeps ends q tag k h = (k.acknowledges (idle a w) ends q tag refl h.1 h.0, h.1)

  -- ---- bodies

  pub harbinger_keeps : (ends : Ends) (tag : ℕ) (head : Head)
      → Keeps a w (message.Harbinger ends tag head) I → J (idle a w)
      → J (harbinger a ends tag head w)
  harbinger_keeps ends tag head k h =
      let m = message.Harbinger ends tag head in
      transfers.harbinger_keeps ends J (transfers_keep m k ends refl refl) a w h tag head
      (accept_keeps m k manner.Makes ends refl refl h)

  pub want_keeps : (ends : Ends) (wanted : Wanted) → Keeps a w (message.Want ends wanted) I
      → J (idle a w) → J (want a ends wanted w)
  want_keeps ends wanted k h =
      let m = message.Want ends wanted in
      transfers.want_keeps ends J (transfers_keep m k ends refl refl) a w h wanted
      (accept_keeps m k manner.Needs ends refl tt h)

  pub delta_keeps : (ends : Ends) (x : Delta) → Keeps a w (message.Delta ends x) I
      → J (idle a w) → J (delta a ends x w)
  delta_keeps ends x k h =
      let m = message.Delta ends x in
      transfers.delta_keeps ends J (transfers_keep m k ends refl refl) a w h x
      (accept_keeps m k manner.Answers ends refl tt h)

  pub piece_keeps : (ends : Ends) (p : Piece) → Keeps a w (message.Piece ends p) I
      → J (idle a w) → J (piece a ends p w)
  piece_keeps ends p k h =
      let m = message.Piece ends p in
      transfers.piece_keeps ends J (transfers_keep m k ends refl refl) a w h p
      (accept_keeps m k manner.Answers ends refl tt h)

  pub later_keeps : (ends : Ends) (stamp : Stamp) → Keeps a w (message.Later ends stamp) I
      → J (idle a w) → J (later a ends stamp w)
  later_keeps ends stamp k h =
      let m = message.Later ends stamp in
      transfers.later_keeps ends J (transfers_keep m k ends refl refl) a w h stamp
      (accept_keeps m k manner.Answers ends refl tt h)
