-- Behind the first effect of any input what is noted goes on with what was asked.
use Rattle.std.proofs.Common.{ℕ, ◌≡◌, ◌≢◌, ◌<◌, ◌≤◌, ◌==◌, ◌&&◌, ◌||◌, Bool, true, false, cond, not, List, length, Option, None, Some, inl, inr, refl, sym, ap, subst, ◌∙◌, arith}
use Rattle.std.proofs.lemmas.Bool.{false≢true}
use Rattle.std.proofs.lemmas.Bool.Decides.{Decides-eqb, nat_tests}
use Rattle.pg_run.specs.pg_announced.declared.announced.Announced.{Announced}
use Rattle.pg_run.specs.pg_announced.Announced.{NotesValue, key_at, note_at}
use Rattle.pg_run.proofs.pg_announced.Found.{released_found}
use Rattle.pg_run.specs.pg_base.declared.id.FileId.{FileId}
use Rattle.pg_run.specs.pg_base.declared.policy.Policy.{Policy}
use Rattle.pg_run.specs.pg_base.declared.stamp.Stamp.{Stamp}
use Rattle.pg_run.specs.pg_call.declared.call.Call.{Call}
use Rattle.pg_run.specs.pg_msg.declared.message.Ends.{Ends}
use Rattle.pg_run.specs.pg_msg.declared.message.Message.{Message}
use Rattle.pg_run.specs.pg_msg.declared.message.Message.TheVariants as message
use Rattle.pg_run.specs.pg_msg.declared.message.Packet.{Packet}
use Rattle.pg_run.specs.pg_msg.Work.{new_work}
use Rattle.pg_run.specs.pg_patch.Ranges.{body_limit}
use Rattle.pg_run.specs.Asked.{ends_asking, ends_with, enters, goes as is_gone}
use Rattle.pg_run.specs.Asking.{Asked, last_wanted}
use Rattle.pg_run.specs.Carried.{gone_by}
use Rattle.pg_run.specs.Journal.{Born, made_for}
use Rattle.pg_run.proofs.Sends.{AnswersHave}
use Rattle.pg_run.specs.pg_store.declared.store.Store.{Store}
use Rattle.pg_run.specs.pg_store.Seen.{view_of}
use Rattle.pg_run.specs.pg_store.Store.{is_before_clock_end}
use Rattle.pg_run.specs.pg_pieces.declared.accepting.EdgeUse.TheVariants as manner
use Rattle.pg_run.specs.pg_pieces.Accepting.{accept}
use Rattle.pg_run.specs.pg_pieces.Done.{Done, idle}
use Rattle.pg_run.specs.pg_calls.Calls.{do_call}
use Rattle.pg_run.specs.pg_server.declared.input.Input.{Input}
use Rattle.pg_run.specs.pg_server.declared.input.Input.TheVariants as input
use Rattle.pg_run.specs.pg_server.Local.{effect, first_effect, is_heard, receive, ticked, without_sources, without_volatile}
use Rattle.pg_run.specs.pg_server.pg_transfer.Asking.{noted}
use Rattle.pg_run.specs.theory_bodies.Asked.{Asking}
use Rattle.law_contents.proofs.Agreed.{Agrees}
use Rattle.law_contents.proofs.AsksBodies.{delta_asks, harbinger_asks, piece_asks}
use Rattle.law_contents.proofs.AsksEnding.{idle_base, later_step, leave_ok_step, released_step}
use Rattle.law_contents.proofs.Carrying.{Carries}
use Rattle.law_contents.proofs.Changes.{Keeps, Keeps-refl, noted_at}
use Rattle.law_contents.proofs.Covered.{noted_short}
use Rattle.law_contents.proofs.GoesCalls.{Went, call_goes}
use Rattle.law_contents.proofs.GoesMessages.{is_of_bodies, received_goes}
use Rattle.law_contents.proofs.Goings.{Step, go_step, keeps_go}
use Rattle.law_contents.proofs.Handlers.{accept_quiet}
use Rattle.law_contents.proofs.Inputs.{heard_sender}
use Rattle.law_contents.proofs.Servers.{Came, IsServer, stands_kept}
use Rattle.law_contents.proofs.Wantless.{AreOther, Other, call_other, last_same, plain_sent, received_other, tick_other}

-- what a message that comes carries
abbrev pub CarriesInput : List Born → (FileId → Policy) → (FileId → Type 0) → Input → Type 0
CarriesInput us p N (input.Arrival packet) = Carries us p N packet.message
CarriesInput us p N _ = Unit {0}

-- ---- other messages

no_end : (a : Store) (from : ℕ) (m : Message) (f : FileId) (t : Stamp) (old : Option Asking)
    → is_of_bodies m ≡ false
    → (ends_with a from m f t old || is_gone f (gone_by a from m)) ≡ false
no_end a from (message.Later ends stamp) f t old h = absurd (false≢true (sym h))
no_end a from (message.LeaveOk ends stamp) f t old h = absurd (false≢true (sym h))
no_end a from m f t old h = refl

pub answers_other : (a : Store) (from : ℕ) (m : Message) → is_of_bodies m ≡ false
    → AnswersHave Other plain_sent from a from m
answers_other a from (message.Cell ends tag c) h = λ fit accepted b by. refl
answers_other a from (message.Bye ends) h = refl
answers_other a from (message.Confirm dir e) h = λ b r. refl
answers_other a from (message.Tell dir e) h = λ b. refl
answers_other a from (message.Leave ends stamp) h = λ b. refl
answers_other a from (message.Harbinger ends tag head) h = absurd (false≢true (sym h))
answers_other a from (message.Want ends wanted) h = record {
  gives = λ b v offset by is. refl;
  changes = λ b v ranges by is. refl;
}
answers_other a from (message.Delta ends d) h = absurd (false≢true (sym h))
answers_other a from (message.Piece ends q) h = absurd (false≢true (sym h))
answers_other a from m h = tt

or_false : (t : Bool) → (t || false) ≡ t
or_false true = refl
or_false false = refl

module _ {s : ℕ} {a : Store} {us : List Born} {p : FileId → Policy} {N : FileId → Type 0}
    {came : Came} (k : IsServer s a us p N came) (wants : Asked) (agrees : Agrees a us came wants)
    (f : FileId) (t : Stamp) where
  abbrev was : Option Asking
  was = wants f t

  abbrev Steps : Store → Option Asking → Type 0
  Steps b now = Step a b f t was now

  -- where nothing is asked for
  at_base : (d : Done) (base : Option Asking) → AreOther d.work.sent → Steps d.store base
      → Steps d.store (last_wanted f t d.work.sent base)
  at_base d base other step = subst (Steps d.store) (sym (last_same f t d.work.sent base other)) step

  still : (b : Store) (ends_it : Bool) → Keeps a b → ends_it ≡ false
      → Steps b (cond ends_it None was)
  still b ends_it h e = go_step a b (keeps_go h) f t was (cond ends_it None was) (idle_base ends_it was e)

  -- ---- a message

  module _ (from : ℕ) (some : from ≢ 0) where
    abbrev Received : Message → Type 0
    Received m = let d = receive a m (new_work 0 from) in
        Steps d.store (last_wanted f t d.work.sent
        (cond (ends_with a from m f t was || is_gone f (gone_by a from m)) None was))

    other_received : (m : Message) → is_of_bodies m ≡ false → Received m
    other_received m is =
        let d = receive a m (new_work 0 from) in
        let base = cond (ends_with a from m f t was || is_gone f (gone_by a from m)) None was in
        at_base d base (received_other a from m (answers_other a from m is))
        (go_step a d.store (received_goes k from m is) f t was base
        (idle_base (ends_with a from m f t was || is_gone f (gone_by a from m)) was
        (no_end a from m f t was is)))

    -- no note has more bytes than a body may have
    short : (ends : Ends) (g : FileId) (n : Announced) (u : Stamp)
        → noted (accept a ends manner.Makes (new_work 0 from)).store g u ≡ Some n
        → length n.bytes ≤ body_limit
    short ends g n u is =
        let b = (accept a ends manner.Makes (new_work 0 from)).store in
        let note = (stands_kept k.stands b
        (accept_quiet us p N a (new_work 0 from) ends manner.Makes).keeps).notes g u n is in
        noted_short (p g) (made_for g us) body_limit (k.short g) n.head note.head n.bytes note.bytes

    received_step : (m : Message) → Carries us p N m → Received m
    received_step (message.Harbinger ends tag head) h =
        harbinger_asks k from wants ends (short ends) tag head f t
    received_step (message.Piece ends q) h = piece_asks k from wants ends some agrees q h f t
    received_step (message.Delta ends d) h = delta_asks k from wants ends d f t
    received_step (message.Later ends stamp) h =
        let m = message.Later ends stamp in
        let d = receive a m (new_work 0 from) in
        at_base d (cond (ends_with a from m f t was || false) None was) (received_other a from m tt)
        (subst (λ z. Steps d.store (cond z None was)) (sym (or_false (ends_with a from m f t was)))
        (later_step k from wants agrees ends stamp some f t))
    received_step (message.LeaveOk ends stamp) h =
        let m = message.LeaveOk ends stamp in
        let d = receive a m (new_work 0 from) in
        at_base d (cond (is_gone f (gone_by a from m)) None was) (received_other a from m tt)
        (leave_ok_step k from wants agrees ends stamp f t)
    received_step (message.Cell ends tag c) h = other_received (message.Cell ends tag c) refl
    received_step (message.Ack ends q tag) h = other_received (message.Ack ends q tag) refl
    received_step (message.Want ends wanted) h = other_received (message.Want ends wanted) refl
    received_step (message.Fetch file birth) h = other_received (message.Fetch file birth) refl
    received_step (message.Grant ends g) h = other_received (message.Grant ends g) refl
    received_step (message.NoGrant file birth) h = other_received (message.NoGrant file birth) refl
    received_step (message.Full ends) h = other_received (message.Full ends) refl
    received_step (message.Seek file birth) h = other_received (message.Seek file birth) refl
    received_step (message.Greet ends why) h = other_received (message.Greet ends why) refl
    received_step (message.NoneHere ask file child) h =
        other_received (message.NoneHere ask file child) refl
    received_step (message.Gone file birth) h = other_received (message.Gone file birth) refl
    received_step (message.Bye ends) h = other_received (message.Bye ends) refl
    received_step (message.ByeOk file birth) h = other_received (message.ByeOk file birth) refl
    received_step (message.Confirm dir e) h = other_received (message.Confirm dir e) refl
    received_step (message.PlaceIs dir e) h = other_received (message.PlaceIs dir e) refl
    received_step (message.Tell dir e) h = other_received (message.Tell dir e) refl
    received_step (message.TellOk dir child stamp) h =
        other_received (message.TellOk dir child stamp) refl
    received_step (message.Leave ends stamp) h = other_received (message.Leave ends stamp) refl
    received_step (message.Invite ends) h = other_received (message.Invite ends) refl
    received_step (message.Walk ends origin birth hops word) h =
        other_received (message.Walk ends origin birth hops word) refl

  -- whether it is heard or not
  module _ (packet : Packet) (h : Carries us p N packet.message) where
    abbrev Ends_it : Bool
    Ends_it = ends_with a packet.from packet.message f t was
        || is_gone f (gone_by a packet.from packet.message)

    abbrev ArrivedBy : Bool → Done
    ArrivedBy heard = cond heard (receive a packet.message (new_work 0 packet.from))
        (idle a (new_work 0 packet.from))

    arrived_by : (heard : Bool) → is_heard a packet ≡ heard → Steps (ArrivedBy heard).store
        (last_wanted f t (ArrivedBy heard).work.sent (cond (heard && Ends_it) None was))
    arrived_by true e = received_step packet.from (heard_sender a packet e) packet.message h
    arrived_by false e = still a false (Keeps-refl a) refl

  -- ---- a call

  differ : (x y : ℕ) → y < x → (x == y) ≡ false
  differ x y less = grind (arith, nat_tests)

  module _ (moment : ℕ) (c : Call) (end : Keeps (do_call a c (new_work moment 0)).store
      (effect a (input.Call moment c)).store) where
    abbrev r : Store
    r = (do_call a c (new_work moment 0)).store

    abbrev e : Store
    e = (effect a (input.Call moment c)).store

    same_view : view_of e ≡ view_of r
    same_view = ap (λ (xs : List ℕ). length xs) end.view

    went : Went a r → Steps r (cond (enters a (input.Call moment c)) None was)
    went (inl g) =
        let same : view_of e ≡ view_of a = same_view ∙ ap (λ (xs : List ℕ). length xs) g.view in
        let no : enters a (input.Call moment c) ≡ false =
        ap not ((Decides-eqb (view_of e) (view_of a)).1 same) in
        go_step a r g f t was (cond (enters a (input.Call moment c)) None was)
        (idle_base (enters a (input.Call moment c)) was no)
    went (inr g) =
        let longer = g.view in
        let same = same_view in
        let yes : enters a (input.Call moment c) ≡ true =
        ap not (differ (view_of e) (view_of a) (omega arith)) in
        let none : noted_at r f t ≡ None = ap (λ (ns : NotesValue). note_at ns (key_at f t)) g.none in
        released_step a r f t was (cond (enters a (input.Call moment c)) None was)
        (ap (λ z. cond z None was) yes)
        (λ n there. absurd (let z : None ≡ Some n = sym none ∙ there in cc))

  -- ---- a tick

  ticked_by : (moment word : ℕ) (going : Bool)
      → Steps (cond going (ticked a word (new_work moment 0)) (idle a (new_work moment 0))).store
      (cond going None was)
  ticked_by moment word true =
      released_step a (without_sources a) f t was None refl (λ n there.
      let old = released_found a.announced (key_at f t) n there in
      ap (λ (x : Announced). x.source) old.2)
  ticked_by moment word false = still a false (Keeps-refl a) refl

  -- ---- ANY INPUT

  abbrev pub Behind : Input → Type 0
  Behind asked = Steps (first_effect a asked).store
      (last_wanted f t (first_effect a asked).work.sent
      (cond (ends_asking a asked f t was) None was))

  pub first_step : (asked : Input) → CarriesInput us p N asked
      → Keeps (first_effect a asked).store (effect a asked).store → Behind asked
  first_step (input.Call moment c) h end =
      at_base (first_effect a (input.Call moment c)) (cond (enters a (input.Call moment c)) None was)
      (call_other a moment c) (went moment c end (call_goes k moment c))
  first_step (input.Tick moment word) h end =
      at_base (first_effect a (input.Tick moment word)) (cond (is_before_clock_end a) None was)
      (tick_other a moment word) (ticked_by moment word (is_before_clock_end a))
  first_step (input.Arrival packet) h end =
      arrived_by packet h (is_heard a packet) refl
  first_step input.Restart h end =
      released_step a (without_volatile a) f t was None refl
      (λ n there. absurd (let z : None ≡ Some n = there in cc))
