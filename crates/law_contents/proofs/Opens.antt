-- No version is noted that the replica of its file covers.
use Rattle.std.proofs.Common.{ℕ, ◌≡◌, ◌<◌, ◌^◌, Bool, true, false, cond, not, List, [], Option, None, Some, is_some, inl, inr, refl, sym, ap, subst, ◌∙◌}
use Rattle.std.proofs.lemmas.Bool.{false≢true}
use Rattle.pg_run.specs.pg_announced.declared.announced.Announced.{Announced}
use Rattle.pg_run.specs.pg_announced.declared.announced.NoteKey.{NoteKey}
use Rattle.pg_run.specs.pg_announced.Announced.{AreSorted, NotesValue, aimed, change_note, emptied, is_asked_of, key_at, longer, new_note, note_at, put_note, unasked, without_note}
use Rattle.pg_run.proofs.pg_announced.Found.{changed_found, kept_found, put_found, released_found, without_found}
use Rattle.pg_run.proofs.pg_announced.Sorted.{sorted_without}
use Rattle.pg_run.specs.pg_base.declared.head.Head.{Head}
use Rattle.pg_run.specs.pg_base.declared.id.FileId.{FileId}
use Rattle.pg_run.specs.pg_base.declared.policy.Policy.{Policy}
use Rattle.pg_run.specs.pg_base.declared.stamp.Stamp.{Stamp}
use Rattle.pg_run.specs.pg_base.Id.{is_same_file}
use Rattle.pg_run.specs.pg_base.Version.{actor_of}
use Rattle.pg_run.proofs.pg_base.Orders.{is_same_file-true}
use Rattle.pg_run.specs.pg_content.Content.{ContentValue, is_covered}
use Rattle.pg_run.specs.pg_delta.Taking.{delta_to}
use Rattle.pg_run.specs.pg_event.declared.event.Event.{Event}
use Rattle.pg_run.specs.pg_intent.declared.key.IntentKey.TheVariants as intent_key
use Rattle.pg_run.specs.pg_intent.Intents.{ended}
use Rattle.pg_run.specs.pg_msg.declared.message.Delta.{Delta}
use Rattle.pg_run.specs.pg_msg.declared.message.Ends.{Ends}
use Rattle.pg_run.specs.pg_msg.declared.message.Message.{Message}
use Rattle.pg_run.specs.pg_msg.declared.message.Message.TheVariants as message
use Rattle.pg_run.specs.pg_msg.declared.message.Piece.{Piece}
use Rattle.pg_run.specs.pg_msg.declared.work.Work.{Work}
use Rattle.pg_run.specs.pg_msg.Work.{new_work}
use Rattle.pg_run.specs.Journal.{Born}
use Rattle.pg_run.specs.Run.{Taking, World, effect_step, run, taking_in, world_after}
use Rattle.pg_run.proofs.Frame.{Acts, holds_in_runs, no_server_comes}
use Rattle.pg_run.proofs.TransferWays.{beside_goes, changed_goes, delta_goes, harbinger_goes, heard_goes, later_goes, piece_goes, pieced_goes}
use Rattle.pg_run.specs.pg_store.declared.store.Store.{Store}
use Rattle.pg_run.specs.pg_store.Beginning.{let_go}
use Rattle.pg_run.specs.pg_store.Births.{birth_of}
use Rattle.pg_run.specs.pg_store.Store.{content_of, is_before_clock_end, keep_delta, new_store, replica_of}
use Rattle.pg_run.specs.pg_pieces.declared.accepting.EdgeUse.{EdgeUse}
use Rattle.pg_run.specs.pg_pieces.declared.accepting.EdgeUse.TheVariants as manner
use Rattle.pg_run.specs.pg_pieces.Accepting.{accept}
use Rattle.pg_run.specs.pg_pieces.Done.{Done, idle}
use Rattle.pg_run.specs.pg_pieces.Parting.{stays_for}
use Rattle.pg_run.specs.pg_graph.Leaving.{goes, leave_ok, may_leave, without_leave}
use Rattle.pg_run.specs.pg_server.declared.input.Input.{Input}
use Rattle.pg_run.specs.pg_server.declared.input.Input.TheVariants as input
use Rattle.pg_run.specs.pg_server.Local.{effect, first_effect, is_heard, receive, ticked, without_sources}
use Rattle.pg_run.specs.pg_server.pg_transfer.Asking.{noted}
use Rattle.pg_run.specs.pg_server.pg_transfer.Delta.{delta}
use Rattle.pg_run.specs.pg_server.pg_transfer.Harbinger.{harbinger}
use Rattle.pg_run.specs.pg_server.pg_transfer.Later.{later}
use Rattle.pg_run.specs.pg_server.pg_transfer.Piece.{piece, whole, without_noted}
use Rattle.pg_run.proofs.theory_flood_pieces.Choices.{chosen}
use Rattle.law_contents.specs.Together.{StandOn}
use Rattle.law_contents.proofs.Agreeing.{end_keeps}
use Rattle.law_contents.proofs.Changes.{AreOpen, Core, Covers, IsOpen, Keeps, content_in, content_is, core_at, keeps_open}
use Rattle.law_contents.proofs.Covered.{kept_open, taken_goes}
use Rattle.law_contents.proofs.GoesCalls.{Went, call_goes}
use Rattle.law_contents.proofs.GoesMessages.{is_of_bodies, received_goes}
use Rattle.law_contents.proofs.Going.{byes_quiet, core_gone, core_stays}
use Rattle.law_contents.proofs.Handlers.{accept_quiet}
use Rattle.law_contents.proofs.Pieces.{intents_keep}
use Rattle.law_contents.proofs.Runs.{run_sound, server_now}
use Rattle.law_contents.proofs.Servers.{Came, IsServer, stands_kept}
use Rattle.law_contents.proofs.Wanted.{wanted_run}
use Rattle.law_contents.proofs.Worlds.{by_server}

-- nothing is noted
none_open : (b : Store) → b.announced ≡ [] → AreOpen b
none_open b none f t n there covers =
    absurd (let z : None ≡ Some n =
    sym (ap (λ (ns : NotesValue). note_at ns (key_at f t)) none) ∙ there in cc)

-- a note changes, but not its head
module _ (b : Store) (sorted : AreSorted b.announced) (h : AreOpen b) where
  changed_open : (c : Announced → Announced) → ((n : Announced) → (c n).head ≡ n.head)
      → (K : NoteKey) → AreOpen (record b { announced = change_note c b.announced K })
  changed_open c same K f t m there covers =
      elim (changed_found c b.announced K (key_at f t) m sorted there) [
        | inl new ↦ (
            let n : Announced = new.1 in
            let P : Head → Type 0 = (λ y.
            is_covered (content_in (core_at b f)).heads (actor_of y) y.number ≡ true) in
            let is : m.head ≡ n.head = ap (λ (y : Announced). y.head) new.3 ∙ same n in
            h f t n (ap (note_at b.announced) new.0 ∙ new.2) (subst P is covers))
        | inr old ↦ h f t m old covers
      ]

  -- one ends
  without_open : (K : NoteKey) → AreOpen (record b { announced = without_note b.announced K })
  without_open K f t m there covers = h f t m (without_found b.announced K (key_at f t) m sorted there) covers

  -- one more, of a version that is not covered
  put_open : (file : FileId) (head : Head) (n : Announced) → n.head ≡ head
      → is_covered (content_of b file).heads (actor_of head) head.number ≡ false
      → AreOpen (record b { announced = put_note b.announced (key_at file head.stamp) n })
  put_open file head n is uncovered f t m there covers =
      elim (put_found b.announced (key_at file head.stamp) (key_at f t) n m there) [
        | inl new ↦ (
            let here : f ≡ file = ap (λ (y : NoteKey). y.file) new.0 in
            let same : m.head ≡ head = ap (λ (y : Announced). y.head) new.1 ∙ is in
            let P : FileId → Type 0 = (λ g. Covers (core_at b g) m) in
            let Q : Head → Type 0 = (λ y.
            is_covered (content_in (core_at b file)).heads (actor_of y) y.number ≡ true) in
            let R : ContentValue → Type 0 = (λ y. is_covered y.heads (actor_of head) head.number ≡ true) in
            let covered = subst R (sym (content_is b file)) (subst Q same (subst P here covers)) in
            false≢true (sym uncovered ∙ covered))
        | inr old ↦ h f t m old covers
      ]

module _ {s : ℕ} {a : Store} {us : List Born} {p : FileId → Policy} {N : FileId → Type 0}
    {came : Came} (k : IsServer s a us p N came) (h : AreOpen a) where
  abbrev Opens : Done → Type 0
  Opens d = AreOpen d.store

  module _ (from : ℕ) where
    abbrev work : Work
    work = new_work 0 from

    module _ (ends : Ends) where
      module _ (way : EdgeUse) where
        abbrev b : Store
        b = (accept a ends way work).store

        abbrev w : Work
        w = (accept a ends way work).work

        keeps : Keeps a b
        keeps = (accept_quiet us p N a work ends way).keeps

        met : AreOpen b
        met = keeps_open keeps h

        sorted : AreSorted b.announced
        sorted = (stands_kept k.stands b keeps).sorted

      harbinger_opens : (tag : ℕ) (head : Head) → Opens (harbinger a ends tag head work)
      harbinger_opens tag head =
          let way = manner.Makes in
          let K = key_at ends.file head.stamp in
          let note = new_note head (w way).from tag in
          harbinger_goes Opens a ends work h tag head (met way) (λ file accepted.
          heard_goes Opens (b way) ends (w way) tag head (λ covered. met way)
          (λ uncovered awaited. met way)
          (λ uncovered unawaited. beside_goes Opens (b way) ends (w way) tag head
          (noted (b way) ends.file head.stamp)
          (λ none. put_open (b way) (sorted way) (met way) ends.file head note refl uncovered)
          (λ n is. changed_open (b way) (sorted way) (met way) (aimed (w way).from tag) (λ m. refl) K)))

      piece_opens : (q : Piece) → Opens (piece a ends q work)
      piece_opens q =
          let way = manner.Answers in
          let K = key_at ends.file q.head.stamp in
          let left = without_noted (b way) ends.file q.head.stamp in
          let left_open = without_open (b way) (sorted way) (met way) K in
          piece_goes Opens a ends work h q (met way) (λ file accepted.
          pieced_goes Opens (b way) ends (w way) q (met way)
          (λ n is next more. changed_open (b way) (sorted way) (met way) (longer q.bytes) (λ m. refl) K)
          (λ n is next last. (taken_goes left ends.file (whole n q)
          (sorted_without K (b way).announced (sorted way))).free left_open))

      delta_opens : (d : Delta) → Opens (delta a ends d work)
      delta_opens d =
          let way = manner.Answers in
          let K = key_at ends.file d.head.stamp in
          delta_goes Opens a ends work h d (met way) (λ file accepted.
          changed_goes Opens (b way) ends (w way) d (met way)
          (λ asked. changed_open (b way) (sorted way) (met way) emptied (λ m. refl) K)
          (λ v tag made.
          let kept = delta_to d.from v.head.stamp d.ranges in
          (taken_goes (keep_delta (b way) ends.file kept) ends.file v (sorted way)).free
          (kept_open (b way) ends.file kept (met way))))

      later_opens : (stamp : Stamp) → Opens (later a ends stamp work)
      later_opens stamp =
          let way = manner.Answers in
          let K = key_at ends.file stamp in
          let m = accept a ends way work in
          later_goes Opens a ends work h stamp (met way) (λ file accepted.
          chosen (λ (ns : NotesValue). AreOpen (record (b way) { announced = ns }))
          (is_asked_of (w way).from (note_at (b way).announced K))
          (change_note unasked (b way).announced K) (b way).announced
          (changed_open (b way) (sorted way) (met way) unasked (λ m. refl) K) (met way))

      -- a replica goes
      abbrev Free : Store
      Free = without_leave a ends.file

      free_keeps : Keeps a Free
      free_keeps = intents_keep a (ended a.intents (intent_key.Leave ends.file))

      gone_by : (f : FileId) (same : Bool) → is_same_file f ends.file ≡ same
          → IsOpen (let_go Free ends.file) f (core_at (let_go Free ends.file) f)
      gone_by f true e t n there covers =
          let P : FileId → Type 0 = (λ g. Covers (core_at (let_go Free ends.file) g) n) in
          let here = subst P (is_same_file-true f ends.file e) covers in
          false≢true (subst (λ (o : Option Core). Covers o n) (core_gone Free ends.file) here)
      gone_by f false e t n there covers =
          let stays : NoteKey × Announced → Bool = λ x. not (is_same_file x.0.file ends.file) in
          h f t n (kept_found stays a.announced (key_at f t) n k.stands.sorted there)
          (subst (λ (o : Option Core). Covers o n) (core_stays Free ends.file f e) covers)

      gone_open : AreOpen (let_go Free ends.file)
      gone_open f = gone_by f (is_same_file f ends.file) refl

      leave_ok_opens : (stamp : Stamp) → Opens (leave_ok a ends stamp work)
      leave_ok_opens stamp =
          let gone = goes Free ends.file work in
          chosen Opens (may_leave a ends stamp work)
          (cond (is_some (stays_for Free ends.file)) (idle Free work) gone) (idle a work)
          (chosen Opens (is_some (stays_for Free ends.file)) (idle Free work) gone
          (keeps_open free_keeps h)
          (keeps_open (byes_quiet us p N ends.file (birth_of Free ends.file)
          (replica_of Free ends.file).edges (idle (let_go Free ends.file) work)).keeps gone_open)) h

    other_opens : (m : Message) → is_of_bodies m ≡ false → Opens (receive a m work)
    other_opens m is = (received_goes k from m is).free h

    received_opens : (m : Message) → Opens (receive a m work)
    received_opens (message.Harbinger ends tag head) = harbinger_opens ends tag head
    received_opens (message.Piece ends q) = piece_opens ends q
    received_opens (message.Delta ends d) = delta_opens ends d
    received_opens (message.Later ends stamp) = later_opens ends stamp
    received_opens (message.LeaveOk ends stamp) = leave_ok_opens ends stamp
    received_opens m = other_opens m refl

  -- ---- any input

  went_opens : (b : Store) → Went a b → AreOpen b
  went_opens b (inl g) = g.free h
  went_opens b (inr e) = none_open b e.none

  released_open : AreOpen (without_sources a)
  released_open f t m there covers =
      let old = released_found a.announced (key_at f t) m there in
      let P : Head → Type 0 = (λ y.
      is_covered (content_in (core_at a f)).heads (actor_of y) y.number ≡ true) in
      h f t old.0 old.1 (subst P (ap (λ (y : Announced). y.head) old.2) covers)

  first_opens : (asked : Input) → Opens (first_effect a asked)
  first_opens (input.Call moment c) = went_opens (first_effect a (input.Call moment c)).store (call_goes k moment c)
  first_opens (input.Tick moment word) =
      let w = new_work moment 0 in
      chosen Opens (is_before_clock_end a) (ticked a word w) (idle a w) released_open h
  first_opens (input.Arrival packet) =
      let w = new_work 0 packet.from in
      chosen Opens (is_heard a packet) (receive a packet.message w) (idle a w)
      (received_opens packet.from packet.message) h
  first_opens input.Restart = none_open (first_effect a input.Restart).store refl

  -- BEHIND ANY INPUT
  pub opens_behind : (asked : Input) → AreOpen (effect a asked).store
  opens_behind asked = keeps_open (end_keeps a asked) (first_opens asked)

-- what is noted is lacking here
pub open_lacks : (b : Store) → AreOpen b → (file : FileId) (stamp : Stamp) (n : Announced)
    → noted b file stamp ≡ Some n
    → is_covered (content_of b file).heads (actor_of n.head) n.head.number ≡ false
open_lacks b h file stamp n there =
    by (is_covered (content_of b file).heads (actor_of n.head) n.head.number) refl
  where
    by : (t : Bool) → is_covered (content_of b file).heads (actor_of n.head) n.head.number ≡ t
        → t ≡ false
    by false e = refl
    by true e =
        let R : ContentValue → Type 0 =
        (λ y. is_covered y.heads (actor_of n.head) n.head.number ≡ true) in
        absurd (h file stamp n there (subst R (content_is b file) e))

-- ---- AFTER ANY EVENTS

abbrev AllOpen : World → Type 0
AllOpen w = (s : ℕ) → AreOpen (w.stores s)

module _ (n : ℕ) (small : n < 2 ^ 32) (stand : StandOn n) where
  acted : (events : List Event) (e : Event) (t : Taking) → taking_in n (run n events) e ≡ Some t
      → Acts n (run n events) t → AllOpen (run n events)
      → AllOpen (world_after (run n events) (effect_step (run n events) e t.server t.asked))
  acted events e t taken acts h =
      let w = run n events in
      let s = t.server in
      let k = server_now n small w (stand.both events) (wanted_run n stand.named stand.intends events)
      (run_sound n small stand events) e s t.asked acts.least acts.most in
      by_server (λ j c ts. AreOpen c) w.stores w.took s (effect (w.stores s) t.asked).store []
      (opens_behind k (h s) t.asked) (λ j other. h j)

  pub opens_run : (events : List Event) → AllOpen (run n events)
  opens_run events = holds_in_runs n AllOpen (record {
    first = λ s. none_open (new_store n s) refl;
    idle = λ w e cause h. h;
    comes = λ past event server is k. absurd (no_server_comes event server is);
    acts = acted;
  }) events
