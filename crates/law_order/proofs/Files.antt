-- How many ids a server gave out: a call that makes a thing gives out one, and nothing else does.
use Rattle.std.proofs.Common.{ℕ, ◌≤◌, ◌+◌, arith, ◌≡◌, List, [], ◌∷◌, drop, length, Option, true, false, refl, ◌∙◌}
use Rattle.law_frame.specs.pg_run.pg_base.declared.id.FileId.{FileId}
use Rattle.law_frame.specs.pg_run.pg_base.declared.policy.Policy.{Policy}
use Rattle.law_frame.specs.pg_run.pg_msg.declared.message.Message.{Message}
use Rattle.law_frame.specs.pg_run.pg_msg.declared.work.Touched.{Touched}
use Rattle.law_frame.specs.pg_run.pg_msg.declared.work.Work.{Work}
use Rattle.law_frame.specs.pg_run.pg_names.Names.{blank_own}
use Rattle.law_frame.specs.pg_run.pg_house.House.{house}
use Rattle.law_frame.specs.pg_run.pg_house.Work.{state_of}
use Rattle.law_frame.specs.pg_run.pg_store.declared.store.Store.{Store}
use Rattle.law_frame.specs.pg_run.pg_store.Births.{draw_birth, with_birth}
use Rattle.law_frame.specs.pg_run.pg_store.Store.{is_before_clock_end, touch, with_names}
use Rattle.law_frame.specs.pg_run.pg_pieces.Done.{Done, idle}
use Rattle.law_frame.specs.pg_run.pg_pieces.Making.{own_next}
use Rattle.law_frame.specs.pg_run.pg_cells.Settling.{rules, settle, touch_all}
use Rattle.law_frame.specs.pg_run.pg_repair.Granting.{granted_own}
use Rattle.law_frame.proofs.pg_run.pg_intentions.Steady.{begin_end_stays}
use Rattle.law_frame.specs.pg_run.pg_checks.declared.checks.NewName.{NewName}
use Rattle.law_frame.specs.pg_run.pg_calls.Making.{make_place}
use Rattle.law_frame.specs.pg_run.pg_calls.Naming.{begun, next_id, place_in, with_id, with_thing}
use Rattle.law_frame.specs.pg_run.pg_server.Local.{closed, receive}
use Rattle.law_frame.specs.pg_run.pg_call.declared.reply.Reply.{Reply}
use Rattle.law_frame.proofs.pg_run.theory_flood_pieces.Choices.{chosen}
use Rattle.law_frame.proofs.pg_run.pg_cells.Settled.{settle_gives}
use Rattle.law_frame.specs.pg_run.pg_base.declared.policy.Policy.TheVariants.{Last}
use Rattle.law_frame.specs.pg_run.pg_call.declared.call.Call.{Call}
use Rattle.law_frame.specs.pg_run.pg_msg.Work.{new_work}
use Rattle.law_frame.specs.pg_run.pg_calls.Forgetting.{bare_entry, dead_at, unfilled}
use Rattle.law_frame.specs.pg_run.pg_calls.Calls.{do_call}
use Rattle.law_frame.specs.pg_run.pg_server.declared.input.Input.{Input}
use Rattle.law_frame.specs.pg_run.pg_server.declared.input.Input.TheVariants as input
use Rattle.law_frame.specs.pg_run.pg_server.Local.{Effect, effect, finished, first_effect, is_heard, reply_to, takes_effect, ticked}
use Rattle.law_frame.proofs.Called.{call_keeps}
use Rattle.law_frame.proofs.Keeps.{Keeps}
use Rattle.law_frame.proofs.KeepsCalls.{KeepsCalls}
use Rattle.law_frame.proofs.Received.{receive_keeps}
use Rattle.law_order.proofs.NoIds.{begin_files, either_done, enter_files, entry_files, flag_files, link_files, place_files, unlink_files, version_files}

-- ---- a thing begins

-- of a new thing
pub thing_files : (a : Store) (w : Work) (id : FileId) (policy : Policy) (new : NewName) → (with_thing a w id policy new).store.files ≡ a.files
thing_files a w id policy new =
    let b = begun a id policy in
    let d = make_place id (place_in a w.now new) (idle b w) in
    flag_files d.store id _ ∙ place_files b id (place_in a w.now new) ∙ begin_files (with_birth a) id _ policy _ true

-- ---- messages

abbrev HasFiles : ℕ → Done → Type 0
HasFiles files d = d.store.files ≡ files

files_kept : (a : Store) (w : Work) (m : Message) (files : ℕ) → Keeps a w m (HasFiles files)
files_kept a w m files = record {
  cell_place = λ d ends tag place is here h. place_files d.store ends.file place ∙ h;
  cell_flag = λ d ends tag flag is here h. flag_files d.store ends.file flag ∙ h;
  cell_entry = λ d ends tag e sure is dir here h. entry_files d.store ends.file e ∙ h;
  version = λ d file v is h. version_files d.store file v ∙ h;
  told_place = λ d dir e is held apart h. place_files d.store e.child e.place ∙ h;
  told_flag = λ d dir e flag is held among h. flag_files d.store e.child flag ∙ h;
  place_is = λ d dir e is held h. entry_files d.store dir e ∙ h;
  tell = λ d dir e is held h. entry_files d.store dir e ∙ h;
  links = λ d file birth is same h. link_files d.store file d.work.from birth ∙ h;
  meets = λ d ends origin birth hops word is here h. link_files d.store ends.file origin birth ∙ h;
  unlinks = λ d file birth is same h. unlink_files d.store file d.work.from birth ∙ h;
  acknowledges = λ d ends q tag is same h. h;
  begins = λ ends g is pending h. begin_files a ends.file ends.receiver g.policy (granted_own g) false ∙ h;
  fills = λ ends is here filling h. h;
  raises = λ d ends is here few h. flag_files d.store ends.file (own_next d.store ends.file true) ∙ h;
  goes = λ ends stamp is may h. h;
  says_bye = λ d ends stamp e is may among h. h;
  ends_intent = λ d q is h. h;
  turns_intent = λ d q to is h. h;
  asks_granter = λ d ends g is same h. h;
  turns_wish = λ d file to is h. h;
  answers = λ d r of same h. h;
  tells_origin = λ d ends origin birth hops word is here h. h;
  passes_on = λ ends origin birth hops word left rest i e is here at h. h;
  notes = λ d ns h. h;
  keeps = λ d file delta h. h;
  tells = λ d ends head e of there h. h;
}

-- A MESSAGE gives out no id
pub receive_files : (a : Store) (m : Message) (w : Work) → (receive a m w).store.files ≡ a.files
receive_files a m w = receive_keeps a w (HasFiles a.files) m (files_kept a w m a.files) refl

-- ---- the end of an event

touches_files : (a : Store) (ts : List Touched) → (touch_all a ts).files ≡ a.files
touches_files a [] = refl
touches_files a (t ∷ ts) = touches_files (touch a t.file t.key) ts

rules_files : (a : Store) (w : Work) → (rules a w).store.files ≡ a.files
rules_files a w =
    let st = house w.now (state_of a.names w) in
    touches_files (with_names a st.names) (drop (length w.touched) st.work.touched)

pub closed_files : (answer : Option Reply) (d : Done) → (closed answer d).store.files ≡ d.store.files
closed_files answer d =
    let m = settle d.store d.work in
    let P : Done → Type 0 = λ e. e.store.files ≡ d.store.files in
    (begin_end_stays m.store m.work).files
    ∙ settle_gives P P (λ e k. rules_files e.store e.work ∙ k)
    (λ e f k none. flag_files e.store f (own_next e.store f true) ∙ k) d refl

-- ---- calls

up_same : (m n : ℕ) → n ≡ m → m ≤ n
up_same m n e = omega arith

up_one : (m n : ℕ) → n ≡ m + 1 → m ≤ n
up_one m n e = omega arith

up_to : (m n k : ℕ) → m ≤ n → k ≡ n → m ≤ k
up_to m n k h e = omega arith

module _ (a : Store) (w : Work) where
  abbrev GoesUp : Done → Type 0
  GoesUp d = a.files ≤ d.store.files

  goes_up : (c : Call) → KeepsCalls a w c GoesUp GoesUp
  goes_up c = record {
    wishes = λ found some h. h;
    asks = λ file wish is some h. h;
    makes_new = λ kind policy path new is h. (
        let b = with_birth (with_id a) in
        let id = next_id a kind in
        up_one a.files _ (begin_files b id (draw_birth (with_id a)) policy (blank_own id) true));
    makes_place = λ d file place is h. up_to a.files d.store.files _ h (place_files d.store file place);
    makes_flag = λ d file raised is h. up_to a.files d.store.files _ h (flag_files d.store file (own_next d.store file raised));
    makes_version = λ d file ranges is h. h;
    begins_leave = λ file flag is h. h;
    fills = λ d id is h. h;
    strikes = λ id dir is h. h;
    marks = λ d id dir to is h. (
        let e = bare_entry id (dead_at a w.now id dir) in
        up_to a.files d.store.files _ h (entry_files d.store to e));
    begins_lost = λ id own is away h. (
        let b = unfilled (with_birth a) id in
        up_to a.files a.files _ h (begin_files b id (draw_birth a) Last own true));
    enters = λ view server is found h. up_to a.files a.files _ h (enter_files a server);
    leaves = λ d h. h;
  }

  -- A CALL never takes an id back
  pub call_files : (c : Call) → a.files ≤ (do_call a c w).store.files
  call_files c = call_keeps a w GoesUp GoesUp c (goes_up c) (up_same a.files a.files refl)

-- ---- any event

first_files : (a : Store) (asked : Input) → a.files ≤ (first_effect a asked).store.files
first_files a (input.Call moment x) = call_files a (new_work moment 0) x
first_files a (input.Tick moment word) =
    let w = new_work moment 0 in
    up_same a.files _ (either_done a (is_before_clock_end a) (ticked a word w) (idle a w) refl refl)
first_files a (input.Arrival packet) =
    let w = new_work 0 packet.from in
    up_same a.files _ (either_done a (is_heard a packet) (receive a packet.message w) (idle a w) (receive_files a packet.message w) refl)
first_files a input.Restart = up_same a.files a.files refl

-- behind the first effect no id is given out
pub effect_same : (a : Store) (asked : Input) → (effect a asked).store.files ≡ (first_effect a asked).store.files
effect_same a asked =
    let d = first_effect a asked in
    let r = reply_to a asked in
    chosen (λ (e : Effect). e.store.files ≡ d.store.files) (takes_effect a asked) (closed r d) (finished r d) (closed_files r d) refl

pub effect_files : (a : Store) (asked : Input) → a.files ≤ (effect a asked).store.files
effect_files a asked = up_to a.files (first_effect a asked).store.files _ (first_files a asked) (effect_same a asked)
