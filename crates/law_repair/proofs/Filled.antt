-- What becomes full in an event, and that what is full stays so.
use Rattle.std.proofs.Common.{ℕ, ◌≡◌, ◌==◌, not, Bool, true, false, cond, List, Option, None, Some, Result, Ok, Err, is_some, refl, sym, ap, subst, ◌∙◌, inl, inr, ◌⊎◌}
use Rattle.std.proofs.lemmas.Bool.{false≢true}
use Rattle.pg_run.specs.pg_base.declared.id.FileId.{FileId}
use Rattle.pg_run.specs.pg_base.declared.id.Kind.{Kind}
use Rattle.pg_run.specs.pg_base.declared.id.Kind.TheVariants.{Dir, File}
use Rattle.pg_run.specs.pg_base.declared.policy.Policy.{Policy}
use Rattle.pg_run.specs.pg_base.declared.policy.Policy.TheVariants.{Last}
use Rattle.pg_run.specs.pg_base.Id.{is_same_file}
use Rattle.pg_run.proofs.pg_base.Orders.{is_same_file-true}
use Rattle.pg_run.specs.pg_call.declared.call.Call.{Call}
use Rattle.pg_run.specs.pg_call.declared.call.Call.TheVariants as call
use Rattle.pg_run.specs.pg_call.declared.refusal.Refusal.TheVariants.{Held, Root, ClockEnd}
use Rattle.pg_run.specs.pg_call.declared.reply.Reply.{Reply}
use Rattle.pg_run.specs.pg_call.declared.reply.Reply.TheVariants as reply
use Rattle.pg_run.specs.pg_patch.Ranges.{RangesValue, cut_to, written}
use Rattle.pg_run.specs.pg_house.House.{house}
use Rattle.pg_run.specs.pg_house.Returning.{is_root}
use Rattle.pg_run.specs.pg_house.Work.{state_of}
use Rattle.pg_run.proofs.pg_house.Fullness.{rules_full}
use Rattle.pg_run.specs.pg_msg.declared.message.Ends.{Ends}
use Rattle.pg_run.specs.pg_msg.declared.message.Message.TheVariants as message
use Rattle.pg_run.specs.pg_msg.declared.message.Packet.{Packet}
use Rattle.pg_run.specs.pg_msg.declared.work.Work.{Work}
use Rattle.pg_run.specs.pg_msg.Work.{new_work}
use Rattle.pg_run.specs.pg_names.declared.attributes.Attributes.{Attributes}
use Rattle.pg_run.specs.pg_names.Names.{InodeValue, NamesValue, begin as begin_names, blank_own, fill as fill_names, is_full as names_full, is_full_of, is_held as names_held, join_entry, join_flag, join_place, known, let_go as let_go_names, new_held, update, with_flag, with_joined, with_place}
use Rattle.pg_run.proofs.pg_names.Gone.{gone_known}
use Rattle.pg_run.proofs.pg_names.Holding.{begun_known, fill_other, fill_same, full_kept}
use Rattle.pg_run.proofs.pg_names.Lookups.{update_frame}
use Rattle.pg_run.specs.pg_register.declared.flag.Flag.{Flag}
use Rattle.pg_run.specs.pg_register.declared.place.Place.{Place}
use Rattle.pg_run.specs.pg_calls.Bodies.{change, change_file, when_fit}
use Rattle.pg_run.specs.pg_calls.Calls.{do_call}
use Rattle.pg_run.specs.pg_calls.Demoting.{demoted_at, unless_root}
use Rattle.pg_run.specs.pg_calls.Dropping.{clean_gold, dropped_at, leaving}
use Rattle.pg_run.specs.pg_calls.Forgetting.{forget_lost, lost_at, unless_full}
use Rattle.pg_run.specs.pg_calls.GivingUp.{removal_at}
use Rattle.pg_run.specs.pg_calls.Naming.{begun, next_id, place_in, with_id, with_thing}
use Rattle.pg_run.proofs.pg_calls.Checked.{behind, unless_ok}
use Rattle.pg_run.specs.pg_checks.declared.checks.NewName.{NewName}
use Rattle.pg_run.specs.pg_checks.Answer.{Answer, answer, answered, replied, told}
use Rattle.pg_run.specs.pg_checks.Asking.{ask_by, ask_first, fetch, fresh_wish, holder, standing}
use Rattle.pg_run.specs.pg_checks.Checks.{dir_at, empty_dir_at, file_at, in_time, move_of, new_name, target_at}
use Rattle.pg_run.specs.pg_lookup.Walk.{and_then}
use Rattle.pg_run.specs.pg_lookup.declared.paths.Found.{Found}
use Rattle.pg_run.specs.pg_lookup.declared.paths.LookupError.{LookupError}
use Rattle.pg_run.specs.pg_lookup.declared.paths.LookupError.TheVariants as stop
use Rattle.pg_run.specs.pg_pieces.Done.{Done, idle}
use Rattle.pg_run.specs.pg_pieces.Golds.{is_gold}
use Rattle.pg_run.specs.pg_pieces.Making.{lower_flag, own_next}
use Rattle.pg_run.specs.pg_server.declared.input.Input.{Input}
use Rattle.pg_run.specs.pg_server.declared.input.Input.TheVariants as input
use Rattle.pg_run.specs.pg_server.Local.{effect, first_effect, reply_to, ticked}
use Rattle.pg_run.specs.pg_store.declared.store.Store.{Store}
use Rattle.pg_run.specs.pg_store.declared.wishes.Wish.{Wish}
use Rattle.pg_run.specs.pg_store.Births.{draw_birth, has_birth, with_birth, with_wish}
use Rattle.pg_run.specs.pg_store.Store.{is_full, is_before_clock_end, replica_at, take_place}
use Rattle.pg_run.specs.pg_store.Together.{birth_at}
use Rattle.pg_run.proofs.pg_store.Entered.{enter_names}
use Rattle.pg_run.proofs.theory_flood_pieces.Choices.{chosen}
use Rattle.pg_run.proofs.theory_flood_pieces.Together.{held_by_keys}
use Rattle.law_golds.proofs.law_births.Here.{of_birth}
use Rattle.law_full.proofs.Coming.{receive_kept}
use Rattle.law_full.proofs.Effects.{RulesKeep, arrival_kept, effect_kept}
use Rattle.law_full.proofs.Losing.{lost_kept}
use Rattle.law_full.proofs.Pieces.{AreKept, begin_kept, flag_kept, place_kept}
use Rattle.pg_run.specs.Run.{run}
use Rattle.law_repair.specs.Facts.{ForgetsIt, FullBegins, MakesIt, TellsFull}

-- ---- one thing, in any names

module _ (file : FileId) where
  abbrev pub Full : NamesValue → Bool
  Full s = names_full s file

  abbrev pub Held_in : NamesValue → Bool
  Held_in s = names_held s file

  pub begun_full : (s : NamesValue) (f : FileId) (own : Attributes) (full t : Bool) → is_same_file file f ≡ t
      → Full (begin_names s f own full) ≡ cond t full (Full s)
  begun_full s f own full t e = ap is_full_of (begun_known s f own full file ∙ ap (λ (b : Bool). cond b (Some (new_held own full)) (known s file)) e) ∙ by t
    where
      by : (u : Bool) → is_full_of (cond u (Some (new_held own full)) (known s file)) ≡ cond u full (Full s)
      by true = refl
      by false = refl

  pub gone_full : (s : NamesValue) (f : FileId) (t : Bool) → is_same_file f file ≡ t → known (let_go_names s f) file ≡ cond (not t) (known s file) None
  gone_full s f t e = gone_known s f file ∙ ap (λ (b : Bool). cond (not b) (known s file) None) e

  pub held_on : (s : NamesValue) (f : FileId) (change : InodeValue → InodeValue) → Held_in (update s f change) ≡ Held_in s
  held_on s f change = held_by_keys (update s f change) s file (update_frame s f change).keys

  pub filled_by : (s : NamesValue) (f : FileId) (t : Bool) → is_same_file f file ≡ t → (o : Option InodeValue) → known s file ≡ o
      → is_some o ≡ true → t ≡ true → Full (fill_names s f) ≡ true
  filled_by s f t e None is held same = absurd (false≢true held)
  filled_by s f t e (Some x) is held same =
      let one : f ≡ file = is_same_file-true f file (e ∙ same) in
      ap (λ (q : FileId). names_full (fill_names s q) file) one ∙ fill_same s file x is

-- ---- what becomes full

module _ (a : Store) (asked : Input) (file : FileId) where
  abbrev Why : Type 0
  Why = (is_full a file ≡ true) ⊎ TellsFull a asked file ⊎ MakesIt a file ⊎ ForgetsIt a asked file

  abbrev P : NamesValue → Type 0
  P s = Full file s ≡ true → Why

  abbrev AnyPlace : FileId → Place → Type 0
  AnyPlace f p = Unit {0}

  abbrev Begins : FileId → Attributes → Bool → Type 0
  Begins f own full = (full ≡ false) ⊎ (is_same_file file f ≡ false) ⊎ Why

  abbrev Fills : FileId → Type 0
  Fills f = is_same_file f file ≡ true → Why

  goes_on : (s t : NamesValue) → Full file t ≡ Full file s → P s → P t
  goes_on s t same h full = h (sym same ∙ full)

  begun_by : (s : NamesValue) (f : FileId) (own : Attributes) (full t : Bool) → is_same_file file f ≡ t → Begins f own full → P s → P (begin_names s f own full)
  begun_by s f own full false e may h is = h (sym (begun_full file s f own full false e) ∙ is)
  begun_by s f own full true e (inl filling) h is = absurd (false≢true (sym filling ∙ sym (begun_full file s f own full true e) ∙ is))
  begun_by s f own full true e (inr (inl other)) h is = absurd (false≢true (sym other ∙ e))
  begun_by s f own full true e (inr (inr why)) h is = why

  filling_by : (s : NamesValue) (f : FileId) (t : Bool) → is_same_file f file ≡ t → Fills f → P s → P (fill_names s f)
  filling_by s f false e may h is = goes_on s (fill_names s f) (fill_other s f file e) h is
  filling_by s f true e may h is = may e

  left_by : (s : NamesValue) (f : FileId) (t : Bool) → is_same_file f file ≡ t → P s → P (let_go_names s f)
  left_by s f false e h is = goes_on s (let_go_names s f) (ap is_full_of (gone_full file s f false e)) h is
  left_by s f true e h is = absurd (false≢true (sym (ap is_full_of (gone_full file s f true e)) ∙ is))

  p_kept : AreKept P AnyPlace Begins Fills
  p_kept = record {
    place = λ s f p may h. goes_on s (join_place s f p) (full_kept s f (with_place p) (λ x. refl) file) h;
    flag = λ s f g h. goes_on s (join_flag s f g) (full_kept s f (with_flag g) (λ x. refl) file) h;
    entry = λ s d e h. goes_on s (join_entry s d e) (full_kept s d (with_joined e) (λ x. refl) file) h;
    raised = λ s time h. h;
    begun = λ s f own full may h. begun_by s f own full (is_same_file file f) refl may h;
    filled = λ s f may h. filling_by s f (is_same_file f file) refl may h;
    removed = λ s server h. h;
  }

  p_rules : RulesKeep P
  p_rules = record {
    rules = λ moment s work h. goes_on s (house moment (state_of s work)).names (rules_full moment (state_of s work) file) h;
    flag = p_kept.flag;
  }

  before : P a.names
  before full = inl full

  -- ---- a call

  module _ (work : Work) where
    abbrev OfDone : Done → Type 0
    OfDone d = P d.store.names

    abbrev OfAnswer : Answer → Type 0
    OfAnswer b = P b.store.names

    first_asks : (f : FileId) (target : ℕ) → OfDone (ask_first a f target work)
    first_asks f target =
        let wish = fresh_wish a target in
        chosen OfDone (target == 0) (idle a work) (idle (with_wish (with_birth a) f wish) (fetch a f wish work)) before before

    asked_by : (found : Found) (o : Option Wish) → OfDone (ask_by a found o work)
    asked_by found None = first_asks found.file (holder a found)
    asked_by found (Some wish) = before

    answers : {A : Type 0} (check : Result A LookupError) (next : A → Answer) → ((x : A) → check ≡ Ok x → OfAnswer (next x)) → OfAnswer (answered a work check next)
    answers (Err (stop.Refused why)) next each = before
    answers (Err (stop.NotYet found)) next each = asked_by found (standing a found.file)
    answers (Ok x) next each = each x refl

    looks : {A : Type 0} (check : Result A LookupError) (tell : A → Reply) → OfAnswer (replied a work check tell)
    looks check tell = answers check (λ x. told a work (tell x)) (λ x is. before)

    changes : (text : List ℕ) (ranges : RangesValue) → OfAnswer (change a text ranges work)
    changes text ranges = answers (file_at a text) (change_file a ranges work) (λ f is. answers (when_fit a ranges f) _ (λ fit so. before))

    leaves : (f : FileId) (o : Option Flag) → OfAnswer (leaving a f work o)
    leaves f None = before
    leaves f (Some flag) = before

    placed_p : (f : FileId) (p : Place) → P (take_place a f p).names
    placed_p f p = place_kept P AnyPlace Begins Fills p_kept a f p tt before

    -- a new thing
    thing_by : (kind : Kind) (policy : Policy) (new : NewName) (t : Bool) → is_same_file file (next_id a kind) ≡ t
        → OfDone (with_thing (with_id a) work (next_id a kind) policy new)
    thing_by kind policy new t e =
        let id = next_id a kind in
        let b = begun (with_id a) id policy in
        let may : Begins id (blank_own id) true = by t e in
        let first : P b.names = begin_kept P AnyPlace Begins Fills p_kept (with_birth (with_id a)) id (draw_birth (with_id a)) policy (blank_own id) true may before in
        let place = place_in (with_id a) work.now new in
        let d = take_place b id place in
        flag_kept P AnyPlace Begins Fills p_kept d id (own_next d id true) (place_kept P AnyPlace Begins Fills p_kept b id place tt first)
      where
        by : (u : Bool) → is_same_file file (next_id a kind) ≡ u → Begins (next_id a kind) (blank_own (next_id a kind)) true
        by true same = inr (inr (inr (inr (inl (kind, is_same_file-true file (next_id a kind) same)))))
        by false other = inr (inl other)

    thing_p : (kind : Kind) (policy : Policy) (new : NewName) → OfDone (with_thing (with_id a) work (next_id a kind) policy new)
    thing_p kind policy new = thing_by kind policy new (is_same_file file (next_id a kind)) refl

    -- what is given up
    lost_id : (id found : FileId) → lost_at a id ≡ Ok found → id ≡ found
    lost_id id found is =
        let one = behind (and_then (in_time a id) unless_root) (unless_full a) found is in
        let last = unless_ok (is_full a one.0) Held one.0 found one.2 in
        let two = behind (in_time a id) unless_root one.0 one.1 in
        let root_not = unless_ok (is_root two.0) Root two.0 one.0 two.2 in
        let first = unless_ok (not (is_before_clock_end a)) ClockEnd id two.0 two.1 in
        first.1 ∙ root_not.1 ∙ last.1

    lost_p : (id found : FileId) → (lost_at a id ≡ Ok found → id ≡ file → Why) → lost_at a id ≡ Ok found → OfDone (forget_lost a found work)
    lost_p id found why is =
        let same = lost_id id found is in
        lost_kept P AnyPlace Begins Fills p_kept a found work (record {
          placed = λ b. tt;
          fills = λ e. why is (same ∙ is_same_file-true found file e);
          known = λ p k. by (is_same_file file found) refl;
          anew = by (is_same_file file found) refl;
        }) before
      where
        by : (t : Bool) → is_same_file file found ≡ t → Begins found (blank_own found) true
        by true e = inr (inr (why is (lost_id id found is ∙ sym (is_same_file-true file found e))))
        by false e = inr (inl e)

  module _ (moment : ℕ) where
    abbrev W : Work
    W = new_work moment 0

    done_of : (id found : FileId) → lost_at a id ≡ Ok found → reply_to a (input.Call moment (call.Forget id)) ≡ Some reply.Done
    done_of id found is =
        ap (λ (r : Result FileId LookupError). Some (answered a W r (λ f. answer (forget_lost a f W) reply.Done)).reply) is

    forgotten : (id found : FileId) → asked ≡ input.Call moment (call.Forget id) → lost_at a id ≡ Ok found → id ≡ file → Why
    forgotten id found is at same =
        let now : asked ≡ input.Call moment (call.Forget file) = is ∙ ap (λ (f : FileId). input.Call moment (call.Forget f)) same in
        inr (inr (inr (record { moment = moment; is = now; done = ap (reply_to a) is ∙ done_of id found at })))

    call_p : (c : Call) → asked ≡ input.Call moment c → P (do_call a c W).store.names
    call_p (call.Mkdir text) is = answers W (new_name a (next_id a Dir) text) _ (λ new at. thing_p W Dir Last new)
    call_p (call.Create text policy) is = answers W (new_name a (next_id a File) text) _ (λ new at. thing_p W File policy new)
    call_p (call.Write text offset bytes) is = changes W text (written offset bytes)
    call_p (call.Cut text length) is = changes W text (cut_to length)
    call_p (call.Read text offset count) is = looks W (file_at a text) _
    call_p (call.Fresh text) is = looks W (file_at a text) _
    call_p (call.Ls text from) is = looks W (dir_at a text) _
    call_p (call.Stat target) is = looks W (target_at a target) _
    call_p (call.Rename from to) is = answers W (move_of a from to) _ (λ move at. placed_p W move.thing _)
    call_p (call.Unlink text) is = answers W (file_at a text) _ (λ f at. placed_p W f _)
    call_p (call.Rmdir text) is = answers W (empty_dir_at a text) _ (λ f at. placed_p W f _)
    call_p (call.Forget id) is = answers W (lost_at a id) _ (λ found at. lost_p W id found (λ k same. forgotten id found is k same) at)
    call_p (call.Demote target) is =
        answers W (demoted_at a target) _
        (λ f at. chosen (λ (d : Done). P d.store.names) (is_gold a f) (lower_flag a f W) (idle a W)
        (flag_kept P AnyPlace Begins Fills p_kept a f (own_next a f false) before) before)
    call_p (call.Drop target) is = answers W (dropped_at a target) _ (λ f at. leaves W f (clean_gold a f))
    call_p (call.Giveup view server) is = answers W (removal_at a view server) _ (λ found at. subst P (sym (enter_names a server)) before)
    call_p call.Status is = looks W (in_time a (tt {0})) _
    call_p call.Stop is = looks W (in_time a (tt {0})) _

  -- ---- a message

  tells : (packet : Packet) → asked ≡ input.Arrival packet → (ends : Ends) → packet.message ≡ message.Full ends → has_birth a ends.file ends.receiver ≡ true
      → is_same_file ends.file file ≡ true → Why
  tells packet is ends says born same =
      let one : ends.file ≡ file = is_same_file-true ends.file file same in
      inr (inl (record {
        packet = packet;
        is = is;
        ends = ends;
        says = says;
        file_is = one;
        born = ap (birth_at a) (sym one) ∙ of_birth (replica_at a ends.file) ends.receiver born;
      }))

  first_by : (x : Input) → asked ≡ x → P (first_effect a x).store.names
  first_by (input.Call moment c) is = call_p moment c is
  first_by (input.Tick moment word) is =
      let w = new_work moment 0 in
      chosen (λ (d : Done). P d.store.names) (is_before_clock_end a) (ticked a word w) (idle a w) before before
  first_by (input.Arrival packet) is =
      arrival_kept P a packet before
      (λ heard. receive_kept P AnyPlace Begins Fills p_kept a before packet.message (new_work 0 packet.from)
      (record {
        cell = λ ends tag p same born. tt;
        confirm = λ dir e same. tt;
        grant = λ ends g same. inl refl;
        full = λ ends same born. tells packet is ends same born;
        goes = λ ends stamp work same may. left_by a.names ends.file (is_same_file ends.file file) refl before;
      }))
  first_by input.Restart is = before

  pub why_full : is_full (effect a asked).store file ≡ true → Why
  why_full = effect_kept P p_rules a asked (first_by asked refl)

-- WHAT BECOMES FULL
pub full_begins : (n : ℕ) → FullBegins n
full_begins n events event s asked takes file full = why_full ((run n events).stores s) asked file full
