-- What a server notes behind a message about a body comes of what it noted before and of what it
-- heard.
use Rattle.std.proofs.Common.{ℕ, ◌≡◌, Bool, true, false, cond, not, List, length, ◌+◌, Option, None, Some, refl, sym, subst, ◌∙◌}
use Rattle.std.proofs.lemmas.List.Elements.{All-nil}
use Rattle.pg_run.specs.pg_announced.declared.announced.Announced.{Announced}
use Rattle.pg_run.specs.pg_announced.declared.announced.NoteKey.{NoteKey}
use Rattle.pg_run.specs.pg_announced.Announced.{AreSorted, NotesValue, is_asked_of, is_over, key_at, note_at}
use Rattle.pg_run.proofs.pg_announced.Found.{kept_found, without_found}
use Rattle.pg_run.proofs.pg_announced.Sorted.{sorted_without}
use Rattle.pg_run.specs.pg_base.declared.head.Head.{Head}
use Rattle.pg_run.specs.pg_base.declared.id.FileId.{FileId}
use Rattle.pg_run.specs.pg_base.declared.policy.Policy.{Policy}
use Rattle.pg_run.specs.pg_base.declared.stamp.Stamp.{Stamp}
use Rattle.pg_run.specs.pg_base.Version.{VersionValue}
use Rattle.pg_run.specs.pg_delta.Taking.{delta_to}
use Rattle.pg_run.specs.pg_msg.declared.message.Delta.{Delta}
use Rattle.pg_run.specs.pg_msg.declared.message.Ends.{Ends}
use Rattle.pg_run.specs.pg_msg.declared.message.Piece.{Piece}
use Rattle.pg_run.specs.pg_msg.declared.message.Sent.{Sent}
use Rattle.pg_run.specs.pg_msg.declared.work.Work.{Work}
use Rattle.pg_run.specs.pg_msg.Work.{new_work}
use Rattle.pg_run.specs.pg_names.Names.{is_dir}
use Rattle.pg_run.specs.pg_pieces.declared.accepting.EdgeUse.TheVariants as manner
use Rattle.pg_run.specs.pg_pieces.Accepting.{accept, is_accepted}
use Rattle.pg_run.specs.pg_pieces.Done.{Done, idle}
use Rattle.pg_run.specs.pg_replica.declared.replica.Replica.{Replica}
use Rattle.pg_run.specs.Journal.{Born}
use Rattle.pg_run.proofs.Sends.{accept_fine}
use Rattle.pg_run.specs.pg_server.pg_transfer.declared.piecing.Progress.TheVariants as progress
use Rattle.pg_run.specs.pg_server.pg_transfer.Asking.{noted}
use Rattle.pg_run.specs.pg_server.pg_transfer.Delta.{changed_along, changed_by, delta, made_by}
use Rattle.pg_run.specs.pg_server.pg_transfer.Harbinger.{harbinger, heard}
use Rattle.pg_run.specs.pg_server.pg_transfer.Later.{later, later_along}
use Rattle.pg_run.specs.pg_server.pg_transfer.Piece.{advance, completed, is_last, is_next, piece, pieced_along, pieced_by, whole, without_noted}
use Rattle.pg_run.specs.pg_store.declared.store.Store.{Store}
use Rattle.pg_run.specs.pg_store.Store.{is_new_version, keep_delta, notes_behind, put_version, replica_at, take_version}
use Rattle.pg_run.specs.theory_bodies.Telling.{Telling}
use Rattle.pg_run.specs.theory_bodies.Telling.Telling.{Announces, Gives, Silent}
use Rattle.pg_run.proofs.theory_flood_pieces.Choices.{chosen}
use Rattle.law_contents.proofs.Accepted.{answers_idle}
use Rattle.law_contents.proofs.Changes.{noted_at}
use Rattle.law_contents.proofs.Handlers.{accept_quiet}
use Rattle.law_contents.proofs.NotesCome.{ComesBy, emptied_comes, fewer_come, heard_comes, later_comes, longer_comes, same_comes}

-- ---- some notes end

-- what the heads do not cover
behind_part : (notes : NotesValue) (file : FileId) (o : Option Replica) → AreSorted notes
    → (f : FileId) (t : Stamp) (n : Announced)
    → note_at (notes_behind notes file o) (key_at f t) ≡ Some n
    → note_at notes (key_at f t) ≡ Some n
behind_part notes file None sorted f t n e = e
behind_part notes file (Some x) sorted f t n e =
    let stays : NoteKey × Announced → Bool = (λ y. not (is_over file x.content.heads y)) in
    kept_found stays notes (key_at f t) n sorted e

-- where a version is taken
pub taken_part : (a : Store) (file : FileId) (v : VersionValue) → AreSorted a.announced
    → (f : FileId) (t : Stamp) (n : Announced) → noted_at (take_version a file v) f t ≡ Some n
    → noted_at a f t ≡ Some n
taken_part a file v sorted f t n =
    chosen (λ (b : Store). noted_at b f t ≡ Some n → noted_at a f t ≡ Some n)
    (is_new_version a file v) (put_version a file v) a
    (λ e. behind_part a.announced file (replica_at (put_version a file v) file) sorted f t n e)
    (λ e. e)

-- ---- messages about bodies

module _ (s : ℕ) (a : Store) (sorted : AreSorted a.announced) (from : ℕ) where
  abbrev work : Work
  work = new_work 0 from

  abbrev Follows : Telling → Done → Type 0
  Follows t d = ComesBy s t a.announced d.store.announced

  still : (t : Telling) → Follows t (idle a work)
  still t = same_comes s t a.announced

  -- ---- a harbinger

  module _ (us : List Born) (p : FileId → Policy) (N : FileId → Type 0) (ends : Ends) (tag : ℕ)
      (head : Head) where
    abbrev met : Done
    met = accept a ends manner.Makes work

    abbrev Told : Telling
    Told = Announces from s ends.file tag head

    met_same : met.store.announced ≡ a.announced
    met_same = (accept_quiet us p N a work ends manner.Makes).keeps.notes

    met_from : met.work.from ≡ from
    met_from =
        let Q : Sent → Type 0 = (λ m. Unit {0}) in
        (accept_fine Q (λ m is. tt) from a ends manner.Makes work (All-nil Q, All-nil Q, refl)).2

    met_follows : Follows Told met
    met_follows = subst (ComesBy s Told a.announced) (sym met_same) (still Told)

    heard_follows : Follows Told (heard met.store ends tag head met.work)
    heard_follows =
        let d = heard met.store ends tag head met.work in
        let P : ℕ → Type 0 = (λ g. ComesBy s (Announces g s ends.file tag head) met.store.announced
        d.store.announced) in
        subst (λ (ns : NotesValue). ComesBy s Told ns d.store.announced) met_same
        (subst P met_from
        (heard_comes s met.store ends tag head met.work (subst AreSorted (sym met_same) sorted)))

    pub harbinger_follows : Follows Told (harbinger a ends tag head work)
    harbinger_follows =
        chosen (Follows Told) (is_dir ends.file) (idle a work) _ (still Told)
        (chosen (Follows Told) (is_accepted a from manner.Makes ends)
        (heard met.store ends tag head met.work) met heard_follows met_follows)

  -- ---- answers

  module _ (ends : Ends) (t : Telling) where
    -- where it is accepted
    answered : (along : Done → Done) → Follows t (along (idle a work))
        → Follows t (cond (is_dir ends.file) (idle a work)
        (cond (is_accepted a from manner.Answers ends) (along (accept a ends manner.Answers work))
        (accept a ends manner.Answers work)))
    answered along h =
        let same = sym (answers_idle a ends work) in
        chosen (Follows t) (is_dir ends.file) (idle a work) _ (still t)
        (chosen (Follows t) (is_accepted a from manner.Answers ends)
        (along (accept a ends manner.Answers work)) (accept a ends manner.Answers work)
        (subst (λ (d : Done). Follows t (along d)) same h) (subst (Follows t) same (still t)))

  pub later_follows : (ends : Ends) (stamp : Stamp) → Follows Silent (later a ends stamp work)
  later_follows ends stamp =
      answered ends Silent (λ d. later_along true ends stamp d)
      (later_comes s Silent a.announced (key_at ends.file stamp) from sorted)

  module _ (ends : Ends) (d : Delta) where
    changed_follows : (o : Option (VersionValue × ℕ)) (asked : Bool)
        → Follows Silent (changed_by o asked a ends d work)
    changed_follows None true = emptied_comes s Silent a.announced ends.file d.head.stamp sorted
    changed_follows None false = still Silent
    changed_follows (Some v) asked =
        let done = changed_by (Some v) asked a ends d work in
        fewer_come s Silent a.announced done.store.announced
        (λ f t n e. taken_part
        (keep_delta a ends.file (delta_to d.from v.0.head.stamp d.ranges)) ends.file v.0 sorted f t n e)

    pub delta_follows : Follows Silent (delta a ends d work)
    delta_follows =
        let o = noted a ends.file d.head.stamp in
        answered ends Silent (λ z. changed_along true ends d z)
        (changed_follows (made_by from (replica_at a ends.file) o d) (is_asked_of from o))

  module _ (ends : Ends) (q : Piece) where
    abbrev Given : Telling
    Given = Gives from ends.file q.head q.offset q.bytes

    abbrev Key : NoteKey
    Key = key_at ends.file q.head.stamp

    module _ (n : Announced) (is : noted a ends.file q.head.stamp ≡ Some n) where
      same_note : (m : Announced) → Some n ≡ Some m → n ≡ m
      same_note m e = cc

      whole_follows : Follows Given (completed (noted a ends.file q.head.stamp) a ends q work)
      whole_follows =
          let left = without_noted a ends.file q.head.stamp in
          let P : Option Announced → Type 0 = (λ o. Follows Given (completed o a ends q work)) in
          subst P (sym is)
          (fewer_come s Given a.announced (completed (Some n) a ends q work).store.announced
          (λ f t m e. without_found a.announced Key (key_at f t) m sorted
          (taken_part left ends.file (whole n q) (sorted_without Key a.announced sorted) f t m e)))

      by_next : (next last : Bool) → is_next from n q ≡ next
          → Follows Given (pieced_by (cond next (cond last progress.Whole
          (progress.More (length n.bytes + length q.bytes))) progress.Nothing) a ends q work)
      by_next false last e = still Given
      by_next true true e = whole_follows
      by_next true false e =
          longer_comes s a.announced from ends.file q sorted (λ m there.
          subst (λ (y : Announced). is_next from y q ≡ true) (same_note m (sym is ∙ there)) e)

    pieced_follows : (o : Option Announced) → noted a ends.file q.head.stamp ≡ o
        → Follows Given (pieced_by (advance from o q) a ends q work)
    pieced_follows None is = still Given
    pieced_follows (Some n) is = by_next n is (is_next from n q) (is_last n q) refl

    pub piece_follows : Follows Given (piece a ends q work)
    piece_follows =
        answered ends Given (λ z. pieced_along true ends q z)
        (pieced_follows (noted a ends.file q.head.stamp) refl)
