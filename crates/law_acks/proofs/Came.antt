-- A body comes, in pieces or as a change: its version is taken, and the harbinger that told of it
-- is answered. It keeps the rule of the edges.
use Rattle.std.proofs.Common.{ℕ, ◌≡◌, ◌≤◌, ◌⊎◌, ◌==◌, ◌+◌, ◌&&◌, Bool, true, false, cond, not, [], length, Option, None, Some, option_map, refl, sym, ap, subst, ◌∙◌, inl, inr, arith}
use Rattle.std.specs.Prelude.{Contains, nat_le}
use Rattle.std.proofs.lemmas.Bool.{and_parts}
use Rattle.std.proofs.lemmas.Option.{none-some, same_Some}
use Rattle.pg_run.specs.pg_announced.declared.announced.Announced.{Announced}
use Rattle.pg_run.specs.pg_announced.Announced.{change_note, emptied, key_at, longer, without_note}
use Rattle.pg_run.specs.pg_base.declared.head.Head.{Head}
use Rattle.pg_run.specs.pg_base.declared.id.FileId.{FileId}
use Rattle.pg_run.specs.pg_base.declared.stamp.Stamp.{Stamp}
use Rattle.pg_run.specs.pg_base.Version.{VersionValue}
use Rattle.pg_run.specs.pg_delta.declared.delta.KeptDelta.{KeptDelta}
use Rattle.pg_run.specs.pg_delta.Taking.{delta_to, patched_version}
use Rattle.pg_run.specs.pg_edges.declared.key.Key.TheVariants as key
use Rattle.pg_run.specs.pg_entries.declared.cell.Cell.{Cell}
use Rattle.pg_run.specs.pg_entries.declared.cell.Cell.TheVariants as cell
use Rattle.pg_run.specs.theory_flood.Promises.{Saying}
use Rattle.pg_run.specs.theory_flood.Promises.Saying.{CellFor}
use Rattle.pg_run.specs.theory_flood.Protocol.{Covers}
use Rattle.pg_run.specs.theory_flood.Server.{Holds, Slot}
use Rattle.pg_run.proofs.theory_flood.Draws.{Draws, Draws-refl}
use Rattle.pg_run.proofs.theory_flood.Sends.{held_covers}
use Rattle.pg_run.proofs.theory_flood.Steps.{Steps}
use Rattle.pg_run.specs.pg_msg.declared.message.Delta.{Delta}
use Rattle.pg_run.specs.pg_msg.declared.message.Ends.{Ends}
use Rattle.pg_run.specs.pg_msg.declared.message.Message.TheVariants as message
use Rattle.pg_run.specs.pg_msg.declared.message.Piece.{Piece}
use Rattle.pg_run.specs.pg_msg.declared.work.Work.{Work}
use Rattle.pg_run.specs.pg_msg.Ends.{back}
use Rattle.pg_run.specs.pg_msg.Work.{with_sent}
use Rattle.pg_run.specs.pg_replica.declared.replica.Replica.{Replica}
use Rattle.pg_run.specs.pg_replica.Replica.{with_kept}
use Rattle.pg_run.specs.pg_replica.Replicas.{put_replica, replicas_keeping}
use Rattle.pg_run.specs.pg_store.declared.store.Store.{Store}
use Rattle.pg_run.specs.pg_store.Births.{has_birth}
use Rattle.pg_run.specs.pg_store.Cells.{cell_at}
use Rattle.pg_run.specs.pg_store.Links.{knows_later}
use Rattle.pg_run.specs.pg_store.Store.{keep_delta, replica_at}
use Rattle.pg_run.specs.pg_store.Together.{birth_at}
use Rattle.pg_run.proofs.pg_store.Pairs.{put_seen, replicas_only, together_as_before, version_as_before}
use Rattle.pg_run.specs.pg_pieces.declared.accepting.EdgeUse.TheVariants as manner
use Rattle.pg_run.specs.pg_pieces.Accepting.{accept, is_accepted, is_current, meets}
use Rattle.pg_run.specs.pg_pieces.Done.{Done, idle}
use Rattle.pg_run.specs.pg_pieces.Posting.{reply, sent_to}
use Rattle.pg_run.specs.pg_pieces.Taking.{take_version_noted}
use Rattle.pg_run.specs.pg_server.pg_transfer.Asking.{ask, listed, noted}
use Rattle.pg_run.specs.pg_server.pg_transfer.Delta.{changed, delta, made_at, made_by, patched, serves}
use Rattle.pg_run.specs.pg_server.pg_transfer.Piece.{is_next, piece, pieced, whole, without_noted}
use Rattle.pg_run.specs.pg_server.pg_transfer.Taking.{taken_for}
use Rattle.pg_run.specs.theory_flood_pieces.Seen.{Along, Hearing, cells_in, head_cell, hears, seen, standing}
use Rattle.pg_run.specs.theory_flood_pieces.UpTo.{IsUpTo}
use Rattle.pg_run.specs.theory_flood_pieces.Whole.{IsOther, IsWhole}
use Rattle.pg_run.proofs.theory_flood_pieces.Choices.{chosen, decided}
use Rattle.pg_run.proofs.theory_flood_pieces.Events.{holds_plain, late_sent}
use Rattle.pg_run.proofs.theory_flood_pieces.Linking.{edges_steps}
use Rattle.pg_run.proofs.theory_flood_pieces.Stores.{plain_at, replica_here}
use Rattle.pg_run.proofs.theory_flood_pieces.Whole.{edges_at, graphs_of, graphs_put, whole_by}
use Rattle.pg_run.proofs.Still.{version_still}
use Rattle.pg_run.proofs.TransferWays.{changed_goes, delta_goes, piece_goes, pieced_goes}
use Rattle.law_acks.proofs.Cells.{birth_by, replica_with}
use Rattle.law_acks.proofs.Handlers.{accept_done}
use Rattle.law_acks.proofs.Heads.{IsHeadComing, head_taken}
use Rattle.law_acks.proofs.Pieces.{IsDone, Stands, on_done, sent_done, version_done}
use Rattle.law_acks.proofs.Told.{asked_done, noted_done}

-- ---- one more delta is kept, which the edges do not see

module _ (b : Store) (file : FileId) (x : Replica) (here : replica_at b file ≡ Some x) (made : KeptDelta) where
  abbrev Kept : Store
  Kept = record b { replicas = put_replica b.replicas file (with_kept x made) }

  pub kept_is : keep_delta b file made ≡ Kept
  kept_is = ap (λ (o : Option Replica). record b { replicas = replicas_keeping b.replicas file made o }) here

  pub kept_here : replica_at (keep_delta b file made) file ≡ Some (with_kept x made)
  kept_here =
      subst (λ (c : Store). replica_at c file ≡ Some (with_kept x made)) (sym kept_is)
      (replica_here b Kept file x (with_kept x made) (record { old = here; replicas = refl }))

  kept_steps : Steps standing b Kept
  kept_steps =
      let y = with_kept x made in
      let no_tag : b.tags + 0 ≡ b.tags = omega arith in
      let P : ℕ → Type 0 = λ t. Draws b.tags (seen b file x) t (seen b file x) in
      let Q : ℕ → Type 0 = λ t. Steps standing b (record b { tags = t; replicas = put_replica b.replicas file y }) in
      subst Q no_tag (edges_steps b file x y here 0 refl (subst P (sym no_tag) (Draws-refl b.tags (seen b file x))))

  kept_whole : (n s : ℕ) → IsWhole n s b → IsWhole n s Kept
  kept_whole n s k =
      let y = with_kept x made in
      let graphs = graphs_of n s b k in
      whole_by n s b Kept k refl refl k.names
      (graphs_put n s b.replicas file graphs y (edges_at n s b.replicas file graphs x here))
      (together_as_before b Kept
      (replicas_only b Kept (λ q. refl) (put_seen (λ (z : Replica). z.birth) b.replicas file x y here refl) refl refl refl)
      k.together)
      k.patches

  pub kept_done : (n s : ℕ) (a : Store) (heard : Hearing) (work : Work) → Stands n s a heard b work
      → Stands n s a heard (keep_delta b file made) work
  kept_done n s a heard work u =
      subst (λ (c : Store). Stands n s a heard c work) (sym kept_is)
      (on_done n s a heard b work u Kept kept_steps (kept_whole n s u.way.whole))

-- ---- what is known of a version for which this server asks that one

-- its head is one of the history; and its harbinger told of it to this server, of a replica that is
-- here, or is over
pub record IsAwaited (along : Along) (s : ℕ) (a : Store) (file : FileId) (from : ℕ) (note : Announced) : Type 0 where
  pub coming : IsHeadComing a file note.head
  pub told : Slot
  pub peer : told.peer ≡ s
  pub of : told.file ≡ file
  pub birth : (x : Replica) → replica_at a file ≡ Some x
      → (x.birth ≡ told.birth) ⊎ (along.over told.file told.birth ≡ true)
  pub late : (note.tag == 0) ≡ false → Contains along.late (CellFor from told note.tag (head_cell note.head))

-- so of each version that is noted with a server as its source
abbrev pub SourceSuits : Along → ℕ → Store → ℕ → FileId → Stamp → Type 0
SourceSuits along s a from file stamp = (note : Announced) → noted a file stamp ≡ Some note
    → (note.source == from) ≡ true → 1 ≤ from → IsAwaited along s a file from note

-- ---- of which note a change makes the version

record IsMade (from : ℕ) (ox : Option Replica) (on : Option Announced) (made : VersionValue × ℕ) : Type 0 where
  pub note : Announced
  pub there : on ≡ Some note
  pub source : (note.source == from) ≡ true
  pub replica : Replica
  pub here : ox ≡ Some replica
  pub head : made.0.head ≡ note.head
  pub tagged : note.tag ≡ made.1

made_serving : (from : ℕ) (x : Replica) (note : Announced) (d : Delta) (made : VersionValue × ℕ) → (note.source == from) ≡ true
    → (old : VersionValue × ℕ) → old.0.head ≡ note.head → old.1 ≡ note.tag → (t : Bool) → cond t (Some old) None ≡ Some made
    → IsMade from (Some x) (Some note) made
made_serving from x note d made source old head tag false is = absurd (none-some made is)
made_serving from x note d made source old head tag true is =
    let same : old ≡ made = same_Some old made is in
    record {
      note = note;
      there = refl;
      source = source;
      replica = x;
      here = refl;
      head = ap (λ (z : VersionValue × ℕ). z.0.head) (sym same) ∙ head;
      tagged = sym tag ∙ ap (λ (z : VersionValue × ℕ). z.1) same;
    }

made_held : (from : ℕ) (ox : Option Replica) (note : Announced) (d : Delta) (made : VersionValue × ℕ)
    → (t : Bool) → (note.source == from) ≡ t → cond t (made_at ox note d) None ≡ Some made
    → IsMade from ox (Some note) made
made_held from ox note d made false other is = absurd (none-some made is)
made_held from None note d made true source is = absurd (none-some made is)
made_held from (Some x) note d made true source is =
    made_serving from x note d made source (patched_version x.content note.head d.ranges, note.tag) refl refl (serves x.content note d) is

made_is : (from : ℕ) (ox : Option Replica) (on : Option Announced) (d : Delta) (made : VersionValue × ℕ)
    → made_by from ox on d ≡ Some made → IsMade from ox on made
made_is from ox None d made is = absurd (none-some made is)
made_is from ox (Some note) d made is = made_held from ox note d made (note.source == from) refl is

-- ---- Server s of n came from a, having heard this

module _ (along : Along) (n s : ℕ) (a : Store) (said : Saying Slot Cell) where
  abbrev Heard : Hearing
  Heard = hears along said

  abbrev Is : Done → Type 0
  Is d = IsDone n s a Heard d

  abbrev At : Store → Work → Type 0
  At b work = Stands n s a Heard b work

  module _ (ends : Ends) (from : ℕ) (note : Announced) (k : IsAwaited along s a ends.file from note) (x : Replica)
      (held : replica_at a ends.file ≡ Some x) where
    abbrev F : FileId
    F = ends.file

    -- it covers what its harbinger told of
    module _ (c : Store) (birth : birth_at c F ≡ Some x.birth) (v : VersionValue) (is : v.head ≡ note.head)
        (holds : Holds IsUpTo (cell_at c F) (cell.Version v)) where
      covers_told : Covers (cells_in along) c k.told (head_cell note.head)
      covers_told = elim (k.birth x held) [
        | inl same ↦
            let z = replica_with c F x.birth birth in
            let at : replica_at c k.told.file ≡ Some z.0 = subst (λ (f : FileId). replica_at c f ≡ Some z.0) (sym k.of) z.1 in
            let told : Holds IsUpTo (plain_at c F) (head_cell note.head) =
            subst (λ (h : Head). Holds IsUpTo (plain_at c F) (head_cell h)) is (holds_plain c F (cell.Version v) holds) in
            held_covers (cells_in along) c k.told (head_cell note.head) (seen c k.told.file z.0)
            (ap (option_map (seen c k.told.file)) at) (z.2 ∙ same)
            (subst (λ (f : FileId). Holds IsUpTo (plain_at c f) (head_cell note.head)) (sym k.of) told) tt
        | inr over ↦ inr over
      ]

    -- the version is taken, and its harbinger answered
    taken_done : (b : Store) (work : Work) → At b work → work.from ≡ from → (y : Replica) → replica_at b F ≡ Some y
        → y.content ≡ x.content → y.birth ≡ x.birth → (v : VersionValue) → v.head ≡ note.head
        → Is (taken_for ends note.tag b v work)
    taken_done b work u came y here content born v is =
        let t = head_taken a b F note.head k.coming x y held here content v is in
        let d = take_version_noted b F v work in
        let went : At d.store d.work = version_done n s a Heard b work u F v t.0 in
        let ack = message.Ack (back ends) (key.Version v.head.stamp) note.tag in
        let birth : birth_at d.store F ≡ Some x.birth =
        (version_as_before b F v).births F ∙ ap (option_map (λ (z : Replica). z.birth)) here ∙ ap (λ (m : ℕ). Some m) born in
        let asker : d.work.from ≡ from = (version_still b F v work).mail.from ∙ came in
        decided (At d.store) (note.tag == 0) d.work (reply d.store ack d.work) (λ none. went)
        (λ tagged. subst (λ (to : ℕ). At d.store (with_sent d.work (sent_to d.store to ack))) (sym asker)
        (sent_done n s a Heard d.store d.work went (sent_to d.store from ack)
        (late_sent along s a d.store said from k.told note.tag note.head (k.late tagged) k.peer
        (covers_told d.store birth v is t.1) ends (key.Version v.head.stamp)) tt))

  -- ---- who answers is listed, and nothing is linked

  answers_idle : (ends : Ends) (work : Work) → accept a ends manner.Answers work ≡ idle a work
  answers_idle ends work =
      let P : Done → Type 0 = λ d. d ≡ idle a work in
      let later = knows_later a ends.file work.from ends.sender in
      chosen P (has_birth a ends.file ends.receiver) (cond later (idle a work) (idle a work)) (idle a work)
      (chosen P later (idle a work) (idle a work) refl refl) refl

  born_here : (ends : Ends) (from : ℕ) → is_accepted a from manner.Answers ends ≡ true
      → birth_at a ends.file ≡ Some ends.receiver
  born_here ends from accepted =
      let current = (and_parts (is_current a from ends) (meets a from manner.Answers ends) accepted).0 in
      birth_by (replica_at a ends.file) ends.receiver
      (and_parts (has_birth a ends.file ends.receiver) (not (knows_later a ends.file from ends.sender)) current).0

  -- ---- bytes

  module _ (ends : Ends) (p : Piece) (work : Work) (suits : SourceSuits along s a work.from ends.file p.head.stamp)
      (other : IsOther n s work.from) where
    completed_done : At a work → birth_at a ends.file ≡ Some ends.receiver → (note : Announced)
        → noted a ends.file p.head.stamp ≡ Some note → is_next work.from note p ≡ true
        → Is (taken_for ends note.tag (without_noted a ends.file p.head.stamp) (whole note p) work)
    completed_done u birth note there next =
        let source = (and_parts (note.source == work.from)
        ((p.offset == length note.bytes) && nat_le (length note.bytes + length p.bytes) note.head.length) next).0 in
        let x = replica_with a ends.file ends.receiver birth in
        taken_done ends work.from note (suits note there source other.least) x.0 x.1 (without_noted a ends.file p.head.stamp) work
        (noted_done n s a Heard a work u (without_note a.announced (key_at ends.file p.head.stamp))) refl x.0 x.1 refl refl
        (whole note p) refl

    pieced_done : At a work → birth_at a ends.file ≡ Some ends.receiver → Is (pieced a ends p work)
    pieced_done u birth =
        pieced_goes Is a ends work p u
        (λ note there next more.
        let offset = length note.bytes + length p.bytes in
        noted_done n s a Heard a (ask a ends p.head.stamp offset (listed a ends.file) work)
        (asked_done n s a Heard a work u ends p.head.stamp offset (listed a ends.file))
        (change_note (longer p.bytes) a.announced (key_at ends.file p.head.stamp)))
        (λ note there next last. completed_done u birth note there next)

    pub piece_done : At a work → Is (piece a ends p work)
    piece_done u =
        piece_goes Is a ends work u p (accept_done n s a Heard a work u ends manner.Answers other)
        (λ file accepted. subst (λ (d : Done). Is (pieced d.store ends p d.work)) (sym (answers_idle ends work))
        (pieced_done u (born_here ends work.from accepted)))

  -- ---- a change

  module _ (ends : Ends) (d : Delta) (work : Work) (suits : SourceSuits along s a work.from ends.file d.head.stamp)
      (other : IsOther n s work.from) where
    patched_done : At a work → (v : VersionValue) (tag : ℕ)
        → made_by work.from (replica_at a ends.file) (noted a ends.file d.head.stamp) d ≡ Some (v, tag)
        → Is (patched (v, tag) a ends d work)
    patched_done u v tag is =
        let m = made_is work.from (replica_at a ends.file) (noted a ends.file d.head.stamp) d (v, tag) is in
        let made = delta_to d.from v.head.stamp d.ranges in
        let b = keep_delta a ends.file made in
        subst (λ (t : ℕ). Is (taken_for ends t b v work)) m.tagged
        (taken_done ends work.from m.note (suits m.note m.there m.source other.least) m.replica m.here b work
        (kept_done a ends.file m.replica m.here made n s a Heard work u) refl (with_kept m.replica made)
        (kept_here a ends.file m.replica m.here made) refl refl v m.head)

    changed_done : At a work → Is (changed a ends d work)
    changed_done u =
        changed_goes Is a ends work d u
        (λ asked. noted_done n s a Heard a (ask a ends d.head.stamp 0 [] work) (asked_done n s a Heard a work u ends d.head.stamp 0 [])
        (change_note emptied a.announced (key_at ends.file d.head.stamp)))
        (λ v tag is. patched_done u v tag is)

    pub delta_done : At a work → Is (delta a ends d work)
    delta_done u =
        delta_goes Is a ends work u d (accept_done n s a Heard a work u ends manner.Answers other)
        (λ file accepted. subst (λ (m : Done). Is (changed m.store ends d m.work)) (sym (answers_idle ends work)) (changed_done u))
