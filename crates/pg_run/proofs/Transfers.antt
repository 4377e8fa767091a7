-- What outlives each message about bodies that is sent outlives the handlers: answers to the sender
-- of what came are one case, and so are the harbingers along the edges of the file's replica.
use Rattle.std.proofs.Common.{ℕ, ◌≡◌, ◌==◌, ◌++◌, List, [], ◌∷◌, All, refl, sym, subst}
use Rattle.std.specs.Prelude.{Contains}
use Rattle.std.specs.List.{flat_map}
use Rattle.std.proofs.lemmas.List.{append-nil, append_assoc}
use Rattle.std.proofs.lemmas.List.Elements.{All-contains_itself, All-head, All-tail}
use Rattle.pg_base.specs.declared.head.Head.{Head}
use Rattle.pg_base.specs.declared.stamp.Stamp.{Stamp}
use Rattle.pg_base.specs.Version.{VersionValue}
use Rattle.pg_edges.specs.declared.edge.Edge.{Edge}
use Rattle.pg_edges.specs.declared.key.Key.{Key}
use Rattle.pg_edges.specs.declared.key.Key.TheVariants as key
use Rattle.pg_delta.specs.declared.delta.KeptDelta.{KeptDelta}
use Rattle.pg_announced.specs.Announced.{NotesValue}
use Rattle.pg_server.specs.pg_pieces.pg_msg.declared.message.Delta.{Delta}
use Rattle.pg_server.specs.pg_pieces.pg_msg.declared.message.Ends.{Ends}
use Rattle.pg_server.specs.pg_pieces.pg_msg.declared.message.Message.{Message}
use Rattle.pg_server.specs.pg_pieces.pg_msg.declared.message.Message.TheVariants as message
use Rattle.pg_server.specs.pg_pieces.pg_msg.declared.message.Piece.{Piece}
use Rattle.pg_server.specs.pg_pieces.pg_msg.declared.message.Sent.{Sent}
use Rattle.pg_server.specs.pg_pieces.pg_msg.declared.message.Wanted.{Wanted}
use Rattle.pg_server.specs.pg_pieces.pg_msg.declared.work.Work.{Work}
use Rattle.pg_server.specs.pg_pieces.pg_msg.Ends.{back}
use Rattle.pg_server.specs.pg_pieces.pg_store.declared.store.Store.{Store}
use Rattle.pg_server.specs.pg_pieces.pg_store.Store.{keep_delta, replica_of}
use Rattle.pg_server.specs.pg_pieces.declared.accepting.EdgeUse.TheVariants as manner
use Rattle.pg_server.specs.pg_pieces.Accepting.{accept, ends_to}
use Rattle.pg_server.specs.pg_pieces.Done.{Done, idle}
use Rattle.pg_server.specs.pg_pieces.Posting.{post, reply, sent_to}
use Rattle.pg_server.specs.pg_pieces.Taking.{take_version_noted}
use Rattle.pg_server.specs.pg_transfer.Asking.{heard_by, told_others, with_notes}
use Rattle.pg_server.specs.pg_transfer.Delta as deltas
use Rattle.pg_server.specs.pg_transfer.Harbinger.{harbinger}
use Rattle.pg_server.specs.pg_transfer.Later.{later}
use Rattle.pg_server.specs.pg_transfer.Piece.{piece}
use Rattle.pg_server.specs.pg_transfer.Want.{want}
use Rattle.theory_flood_pieces.proofs.Choices.{chosen}
use Rattle.pg_run.proofs.Transferring.{OutlivesSteps, delta_has, harbinger_has, later_has, piece_has, want_has}

-- the key of a version
abbrev pub IsOfVersion : Key → Type 0
IsOfVersion q = (stamp : Stamp) × (q ≡ key.Version stamp)

-- what a message that came along these ends may be answered with here: a Want, a body or a part of
-- it, that there is none now, and that a version was taken
abbrev pub IsAnswer : Ends → Message → Type 0
IsAnswer ends (message.Want e wanted) = e ≡ back ends
IsAnswer ends (message.Delta e d) = e ≡ back ends
IsAnswer ends (message.Piece e p) = e ≡ back ends
IsAnswer ends (message.Later e stamp) = e ≡ back ends
IsAnswer ends (message.Ack e q tag) = (e ≡ back ends) × IsOfVersion q
IsAnswer ends _ = ⊥

-- P outlives each step of what comes along these ends
-- notes: something else is noted of versions
-- keeps: one more delta of the file is kept
-- takes: a version of the file is taken
-- answers: the sender is answered
-- tells: a peer of the file's replica hears of a version
pub record KeepsTransfers (ends : Ends) (P : Done → Type 0) : Type 0 where
  pub notes : (d : Done) (ns : NotesValue) → P d → P (idle (with_notes d.store ns) d.work)
  pub keeps : (d : Done) (delta : KeptDelta) → P d
      → P (idle (keep_delta d.store ends.file delta) d.work)
  pub takes : (d : Done) (v : VersionValue) → P d
      → P (take_version_noted d.store ends.file v d.work)
  pub answers : (d : Done) (m : Message) → IsAnswer ends m → P d
      → P (idle d.store (reply d.store m d.work))
  pub tells : (d : Done) (head : Head) (e : Edge)
      → Contains (replica_of d.store ends.file).edges e → P d
      → P (idle d.store (post d.store e.peer
      (message.Harbinger (ends_to d.store ends.file e.birth) 0 head) d.work))

module _ (ends : Ends) (P : Done → Type 0) (k : KeepsTransfers ends P) where
  -- behind what is sent already
  abbrev With : Done → List Sent → Done
  With d ms = idle d.store (record d.work { sent = d.work.sent ++ ms })

  abbrev IsSent : Done → List Sent → Type 0
  IsSent d ms = P (idle d.store (record d.work { sent = ms }))

  heard_by_keeps : (d : Done) (from : ℕ) (head : Head) (e : Edge)
      → Contains (replica_of d.store ends.file).edges e → P d
      → P (With d (heard_by d.store ends.file from head e))
  heard_by_keeps d from head e is h =
      let m = message.Harbinger (ends_to d.store ends.file e.birth) 0 head in
      chosen (λ (ms : List Sent). P (With d ms)) (e.peer == from) []
      (sent_to d.store e.peer m ∷ []) (subst (IsSent d) (sym (append-nil d.work.sent)) h)
      (k.tells d head e is h)

  told_keeps : (d : Done) (from : ℕ) (head : Head) (es : List Edge)
      → All (Contains (replica_of d.store ends.file).edges) es → P d
      → P (With d (flat_map (heard_by d.store ends.file from head) es))
  told_keeps d from head [] all h = subst (IsSent d) (sym (append-nil d.work.sent)) h
  told_keeps d from head (e ∷ es) all h =
      let Of = Contains (replica_of d.store ends.file).edges in
      let one = heard_by d.store ends.file from head e in
      let others = flat_map (heard_by d.store ends.file from head) es in
      subst (IsSent d) (append_assoc d.work.sent one others)
      (told_keeps (With d one) from head es (All-tail Of e es all)
      (heard_by_keeps d from head e (All-head Of e es all) h))

  told_others_keeps : (d : Done) (from : ℕ) (head : Head) → P d
      → P (idle d.store (told_others d.store ends.file from head d.work))
  told_others_keeps d from head h =
      let es = (replica_of d.store ends.file).edges in
      told_keeps d from head es (All-contains_itself es) h

  -- so it outlives each step
  pub outlives_steps : OutlivesSteps P ends
  outlives_steps = record {
    asks = λ d stamp offset heads h. k.answers d
        (message.Want (back ends) (record { stamp = stamp; offset = offset; heads = heads })) refl h;
    acknowledges = λ d stamp tag h. k.answers d
        (message.Ack (back ends) (key.Version stamp) tag) (refl, (stamp, refl)) h;
    puts_off = λ d stamp h. k.answers d (message.Later (back ends) stamp) refl h;
    gives = λ d v offset h. k.answers d (message.Piece (back ends) _) refl h;
    changes = λ d ranges v heads h. k.answers d (message.Delta (back ends) _) refl h;
    tells = λ d head h. told_others_keeps d d.work.from head h;
    notes = λ d ns h. k.notes d ns h;
    keeps = λ d delta h. k.keeps d delta h;
    takes = λ d v h. k.takes d v h;
  }

  -- EACH MESSAGE
  module _ (a : Store) (w : Work) (still : P (idle a w)) where
    pub harbinger_keeps : (tag : ℕ) (head : Head) → P (accept a ends manner.Makes w)
        → P (harbinger a ends tag head w)
    harbinger_keeps tag head met = harbinger_has P ends outlives_steps a w still tag head met

    pub want_keeps : (wanted : Wanted) → P (accept a ends manner.Needs w)
        → P (want a ends wanted w)
    want_keeps wanted met = want_has P ends outlives_steps a w still wanted met

    pub piece_keeps : (p : Piece) → P (accept a ends manner.Answers w) → P (piece a ends p w)
    piece_keeps p met = piece_has P ends outlives_steps a w still p met

    pub delta_keeps : (x : Delta) → P (accept a ends manner.Answers w)
        → P (deltas.delta a ends x w)
    delta_keeps x met = delta_has P ends outlives_steps a w still x met

    pub later_keeps : (stamp : Stamp) → P (accept a ends manner.Answers w)
        → P (later a ends stamp w)
    later_keeps stamp met = later_has P ends outlives_steps a w still stamp met
