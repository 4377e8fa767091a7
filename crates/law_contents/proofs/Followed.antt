-- What a server notes behind any input comes of what it noted before and of what it heard.
use Rattle.std.proofs.Common.{ℕ, ◌≡◌, Bool, cond, not, List, [], None, Some, inl, inr, is_some, refl, sym, subst}
use Rattle.pg_run.specs.pg_announced.declared.announced.Announced.{Announced}
use Rattle.pg_run.specs.pg_announced.declared.announced.NoteKey.{NoteKey}
use Rattle.pg_run.specs.pg_announced.Announced.{AreSorted, NotesValue, key_at}
use Rattle.pg_run.proofs.pg_announced.Found.{kept_found}
use Rattle.pg_run.specs.pg_base.declared.id.FileId.{FileId}
use Rattle.pg_run.specs.pg_base.declared.policy.Policy.{Policy}
use Rattle.pg_run.specs.pg_base.declared.stamp.Stamp.{Stamp}
use Rattle.pg_run.specs.pg_base.Id.{is_same_file}
use Rattle.pg_run.specs.pg_msg.declared.message.Ends.{Ends}
use Rattle.pg_run.specs.pg_msg.declared.message.Message.{Message}
use Rattle.pg_run.specs.pg_msg.declared.message.Message.TheVariants as message
use Rattle.pg_run.specs.pg_msg.declared.work.Work.{Work}
use Rattle.pg_run.specs.pg_msg.Work.{new_work}
use Rattle.pg_run.specs.Journal.{Born}
use Rattle.pg_run.specs.pg_server.declared.input.Input.{Input}
use Rattle.pg_run.specs.pg_server.declared.input.Input.TheVariants as input
use Rattle.pg_run.specs.pg_server.Local.{Effect, closed, effect, finished, first_effect, is_heard, receive, reply_to, takes_effect, ticked}
use Rattle.pg_run.specs.pg_store.declared.store.Store.{Store}
use Rattle.pg_run.specs.pg_store.Births.{birth_of}
use Rattle.pg_run.specs.pg_store.Store.{is_before_clock_end, replica_of}
use Rattle.pg_run.specs.pg_pieces.Done.{Done, idle}
use Rattle.pg_run.specs.pg_store.Beginning.{let_go}
use Rattle.pg_run.specs.pg_pieces.Parting.{stays_for}
use Rattle.pg_run.specs.pg_graph.Leaving.{goes, leave_ok, may_leave, without_leave}
use Rattle.pg_run.specs.theory_bodies.Telling.{IsTrue, Telling}
use Rattle.pg_run.specs.theory_bodies.Telling.Telling.{Announces, Gives, Silent}
use Rattle.pg_run.proofs.theory_flood_pieces.Choices.{chosen}
use Rattle.law_contents.proofs.AsksInputs.{CarriesInput}
use Rattle.law_contents.proofs.Carrying.{Carries}
use Rattle.law_contents.proofs.Changes.{Keeps}
use Rattle.law_contents.proofs.Ends.{closed_ends}
use Rattle.law_contents.proofs.GoesCalls.{call_goes}
use Rattle.law_contents.proofs.GoesMessages.{received_goes}
use Rattle.law_contents.proofs.Going.{byes_quiet}
use Rattle.law_contents.proofs.Goings.{Goes}
use Rattle.law_contents.proofs.NotesCome.{ComesBy, fewer_come, same_comes, tick_comes}
use Rattle.law_contents.proofs.NotesFollow.{delta_follows, harbinger_follows, later_follows, piece_follows}
use Rattle.law_contents.proofs.Servers.{Came, IsServer}
use Rattle.law_contents.proofs.Transfer.{book}

-- ---- what is heard

abbrev pub telling_in : ℕ → ℕ → Message → Telling
telling_in from to (message.Harbinger ends tag head) = Announces from to ends.file tag head
telling_in from to (message.Piece ends q) = Gives from ends.file q.head q.offset q.bytes
telling_in from to _ = Silent

abbrev pub telling : ℕ → Input → Telling
telling s (input.Arrival packet) = telling_in packet.from s packet.message
telling s _ = Silent

module _ (us : List Born) (p : FileId → Policy) (N : FileId → Type 0) where
  message_true : (from to : ℕ) (m : Message) → Carries us p N m
      → IsTrue (book us p) (telling_in from to m)
  message_true from to (message.Harbinger ends tag head) h = h
  message_true from to (message.Piece ends q) h = h
  message_true from to m h = tt

  pub telling_true : (s : ℕ) (asked : Input) → CarriesInput us p N asked
      → IsTrue (book us p) (telling s asked)
  telling_true s (input.Arrival packet) h = message_true packet.from s packet.message h
  telling_true s asked h = tt

-- ---- any input

none_noted : (n : Announced) → None ≡ Some n → ⊥
none_noted n e = cc

module _ {s : ℕ} {a : Store} {us : List Born} {p : FileId → Policy} {N : FileId → Type 0}
    {came : Came} (k : IsServer s a us p N came) where
  abbrev Follows : Telling → NotesValue → Type 0
  Follows t ns = ComesBy s t a.announced ns

  sorted : AreSorted a.announced
  sorted = k.stands.sorted

  still : (t : Telling) → Follows t a.announced
  still t = same_comes s t a.announced

  bare : (t : Telling) → Follows t []
  bare t = fewer_come s t a.announced [] (λ f stamp n e. absurd (none_noted n e))

  gone : {b : Store} → (t : Telling) → Goes a b → Follows t b.announced
  gone {b} t g = fewer_come s t a.announced b.announced g.stay

  -- ---- a replica goes

  module _ (from : ℕ) (ends : Ends) (stamp : Stamp) where
    abbrev work : Work
    work = new_work 0 from

    abbrev Unasking : Store
    Unasking = without_leave a ends.file

    abbrev Left : Store
    Left = let_go Unasking ends.file

    left_keeps : Keeps Left (goes Unasking ends.file work).store
    left_keeps =
        (byes_quiet us p N ends.file (birth_of Unasking ends.file)
        (replica_of Unasking ends.file).edges (idle Left work)).keeps

    left_follows : Follows Silent Left.announced
    left_follows =
        let stays : NoteKey × Announced → Bool = (λ e. not (is_same_file e.0.file ends.file)) in
        fewer_come s Silent a.announced Left.announced
        (λ f t n e. kept_found stays a.announced (key_at f t) n sorted e)

    went_follows : Follows Silent (goes Unasking ends.file work).store.announced
    went_follows = subst (Follows Silent) (sym left_keeps.notes) left_follows

    leave_follows : Follows Silent (leave_ok a ends stamp work).store.announced
    leave_follows =
        let Q : Done → Type 0 = (λ d. Follows Silent d.store.announced) in
        chosen Q (may_leave a ends stamp work)
        (cond (is_some (stays_for Unasking ends.file)) (idle Unasking work)
        (goes Unasking ends.file work)) (idle a work)
        (chosen Q (is_some (stays_for Unasking ends.file)) (idle Unasking work)
        (goes Unasking ends.file work) (still Silent) went_follows) (still Silent)

  -- ---- first effects

  message_follows : (from : ℕ) (m : Message)
      → Follows (telling_in from s m) (receive a m (new_work 0 from)).store.announced
  message_follows from (message.Harbinger ends tag head) =
      harbinger_follows s a sorted from us p N ends tag head
  message_follows from (message.Delta ends d) = delta_follows s a sorted from ends d
  message_follows from (message.Piece ends q) = piece_follows s a sorted from ends q
  message_follows from (message.Later ends stamp) = later_follows s a sorted from ends stamp
  message_follows from (message.LeaveOk ends stamp) = leave_follows from ends stamp
  message_follows from m = gone Silent (received_goes k from m refl)

  first_follows : (asked : Input)
      → Follows (telling s asked) (first_effect a asked).store.announced
  first_follows (input.Call moment c) = elim (call_goes k moment c) [
    | inl g ↦ gone Silent g
    | inr e ↦ subst (Follows Silent) (sym e.none) (bare Silent)
  ]
  first_follows (input.Tick moment word) =
      let w = new_work moment 0 in
      chosen (λ (d : Done). Follows Silent d.store.announced) (is_before_clock_end a)
      (ticked a word w) (idle a w) (tick_comes s Silent a.announced) (still Silent)
  first_follows (input.Arrival packet) =
      let w = new_work 0 packet.from in
      let t = telling_in packet.from s packet.message in
      chosen (λ (d : Done). Follows t d.store.announced) (is_heard a packet)
      (receive a packet.message w) (idle a w) (message_follows packet.from packet.message) (still t)
  first_follows input.Restart = bare Silent

  -- WHATEVER COMES
  pub notes_follow : (asked : Input)
      → Follows (telling s asked) (effect a asked).store.announced
  notes_follow asked =
      let d = first_effect a asked in
      let r = reply_to a asked in
      let t = telling s asked in
      let first = first_follows asked in
      chosen (λ (done : Effect). Follows t done.store.announced) (takes_effect a asked) (closed r d)
      (finished r d)
      (subst (Follows t) (sym (closed_ends d.store d.work r).keeps.notes) first) first
