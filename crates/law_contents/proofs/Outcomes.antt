-- What each call comes to: no version is made, be it that a directory begins, or one is.
use Rattle.std.proofs.Common.{ℕ, ◌≡◌, ◌≤◌, ◌==◌, cond, List, [], ◌++◌, map, Option, None, Some, Result, Ok, Err, refl, sym, subst, inl, inr, ◌⊎◌}
use Rattle.pg_run.specs.pg_base.declared.id.FileId.{FileId}
use Rattle.pg_run.specs.pg_base.declared.id.Kind.TheVariants.{Dir, File}
use Rattle.pg_run.specs.pg_base.declared.policy.Policy.{Policy}
use Rattle.pg_run.specs.pg_base.declared.policy.Policy.TheVariants.{Last}
use Rattle.pg_run.specs.pg_patch.Ranges.{IsRanges, RangesValue, body_limit, cut_to, written}
use Rattle.pg_run.specs.pg_call.declared.call.Call.{Call}
use Rattle.pg_run.specs.pg_call.declared.call.Call.TheVariants as call
use Rattle.pg_run.specs.pg_call.declared.call.Target.{Target}
use Rattle.pg_run.specs.pg_call.declared.reply.Reply.{Reply}
use Rattle.pg_run.specs.pg_call.declared.reply.Reply.TheVariants as reply
use Rattle.pg_run.specs.pg_call.declared.refusal.Refusal.{Refusal}
use Rattle.pg_run.specs.pg_call.declared.refusal.Refusal.TheVariants.{NotYet}
use Rattle.pg_run.specs.pg_msg.declared.message.Message.TheVariants as message
use Rattle.pg_run.specs.pg_msg.declared.work.Work.{Work}
use Rattle.pg_run.specs.pg_msg.Work.{new_work}
use Rattle.pg_run.specs.pg_register.declared.flag.Flag.{Flag}
use Rattle.pg_run.specs.pg_register.declared.place.Place.{Place}
use Rattle.pg_run.specs.pg_names.Names.{is_dir}
use Rattle.pg_run.specs.Asking.{Asked}
use Rattle.pg_run.specs.Carried.{begun_by, forgotten_takes, strikes_out}
use Rattle.pg_run.specs.Journal.{Born}
use Rattle.pg_run.specs.State.{is_made, policy_by, policy_named}
use Rattle.pg_run.specs.Run.{brought}
use Rattle.pg_run.specs.Took.{Take, stamps_taken, take_of}
use Rattle.pg_run.specs.pg_server.declared.input.Input.TheVariants as input
use Rattle.pg_run.specs.pg_store.Store.{is_held}
use Rattle.pg_run.specs.pg_store.declared.store.Store.{Store}
use Rattle.pg_run.specs.pg_store.declared.wishes.Wish.{Wish}
use Rattle.pg_run.specs.pg_store.Births.{with_birth, with_wish}
use Rattle.pg_run.specs.pg_pieces.Done.{Done, idle}
use Rattle.pg_run.specs.pg_pieces.Intending.{begin_intent}
use Rattle.pg_run.specs.pg_pieces.Posting.{post}
use Rattle.pg_run.specs.pg_server.Local.{done_of}
use Rattle.pg_run.specs.pg_lookup.declared.paths.Found.{Found}
use Rattle.pg_run.specs.pg_lookup.declared.paths.LookupError.{LookupError}
use Rattle.pg_run.specs.pg_lookup.declared.paths.LookupError.TheVariants as stop
use Rattle.pg_run.specs.pg_pieces.Making.{lower_flag}
use Rattle.pg_run.specs.pg_checks.Answer.{Answer, answer, answered, deny, replied, told}
use Rattle.pg_run.specs.pg_checks.Asking.{ask_by, ask_first, ask_for, fetch, fresh_wish, holder, standing}
use Rattle.pg_run.specs.pg_calls.Bodies.{change, change_file, when_fit}
use Rattle.pg_run.specs.pg_calls.Calls.{do_call}
use Rattle.pg_run.specs.pg_checks.Checks.{dir_at, empty_dir_at, file_at, in_time, move_of, new_name, target_at}
use Rattle.pg_run.specs.pg_pieces.Golds.{is_gold}
use Rattle.pg_run.specs.pg_calls.Demoting.{demoted_at, lowered}
use Rattle.pg_run.specs.pg_calls.Dropping.{clean_gold, dropped_at, leave_of, leaving}
use Rattle.pg_run.specs.pg_calls.Forgetting.{forget_lost, lost_at}
use Rattle.pg_run.specs.pg_calls.GivingUp.{removal_at}
use Rattle.pg_run.specs.pg_calls.Making.{make_place}
use Rattle.pg_run.specs.pg_calls.Naming.{dead_place, next_id, place_in}
use Rattle.pg_run.proofs.pg_calls.Checked.{fit_found}
use Rattle.pg_run.proofs.pg_calls.InTime.{name_in_time}
use Rattle.pg_run.proofs.theory_flood_pieces.Choices.{chosen}
use Rattle.law_contents.proofs.Arrivals.{Arrives, quiet_arrives}
use Rattle.law_contents.proofs.Beginning.{dir_arrives, dir_none, first_makes, unnamed}
use Rattle.law_contents.proofs.Entered.{entered_arrives, entered_none}
use Rattle.law_contents.proofs.Lost.{lost_comes}
use Rattle.law_contents.proofs.Making.{Makes, written_makes}
use Rattle.law_contents.proofs.Pieces.{wish_keeps}
use Rattle.law_contents.proofs.Quiet.{Quiet, begin_quiet, lower_quiet, make_place_quiet, quiet_idle, quiet_posted, quiet_store, quiet_then}
use Rattle.law_contents.proofs.Ranges.{cut_are, fit_long, fit_short, written_are}
use Rattle.law_contents.proofs.Servers.{Came, IsServer}
use Rattle.law_contents.proofs.Takes.{HasNone, begun_none, both_none, brought_made}

-- a call goes on with what a check found, or does not
pub answered_by : {A : Type 0} (P : Answer → Type 0) (store : Store) (work : Work)
    (r : Result A LookupError) (next : A → Answer) → ((why : LookupError) → P (deny store why work))
    → ((found : A) → r ≡ Ok found → P (next found)) → P (answered store work r next)
answered_by P store work (Err why) next denied goes_on = denied why
answered_by P store work (Ok found) next denied goes_on = goes_on found refl

-- the policies of the files after a call with this reply
abbrev pub policies_then : (FileId → Policy) → Call → Reply → FileId → Policy
policies_then p asked told_then f = policy_by (is_made f (Some told_then)) (policy_named asked) (p f)

-- ---- what is not here is asked for

module _ (us : List Born) (p : FileId → Policy) (N : FileId → Type 0) (a : Store) (work : Work) where
  fetch_quiet : (b : Store) (file : FileId) (wish : Wish)
      → Quiet us p N b work (idle b (fetch a file wish work))
  fetch_quiet b file wish =
      chosen (λ (w : Work). Quiet us p N b work (idle b w)) (wish.target == 0) work
      (post a wish.target (message.Fetch file wish.birth) work) (quiet_idle us p N b work)
      (quiet_posted us p N a b wish.target (message.Fetch file wish.birth) work tt)

  first_quiet : (file : FileId) (target : ℕ) → Quiet us p N a work (ask_first a file target work)
  first_quiet file target =
      let wish = fresh_wish a target in
      let b = with_wish (with_birth a) file wish in
      chosen (λ d. Quiet us p N a work d) (target == 0) (idle a work)
      (idle b (fetch a file wish work)) (quiet_idle us p N a work)
      (quiet_then us p N (quiet_store us p N a b work (wish_keeps a file wish))
      (fetch_quiet b file wish))

  asked_quiet : (found : Found) (o : Option Wish) → Quiet us p N a work (ask_by a found o work)
  asked_quiet found None = first_quiet found.file (holder a found)
  asked_quiet found (Some wish) = fetch_quiet a found.file wish

  -- a call that does not go on
  pub denied_quiet : (why : LookupError) → Quiet us p N a work (done_of (deny a why work))
  denied_quiet (stop.Refused why) = quiet_idle us p N a work
  denied_quiet (stop.NotYet found) = asked_quiet found (standing a found.file)

-- ---- calls

module _ {s : ℕ} {a : Store} {us : List Born} {p : FileId → Policy} {N : FileId → Type 0}
    {came : Came} (k : IsServer s a us p N came) (moment : ℕ) where
  abbrev work : Work
  work = new_work moment 0

  -- what a call brings
  abbrev brought_by : Answer → List Take
  brought_by r = map take_of r.work.made ++ begun_by (Some r.reply)

  -- no version is made
  abbrev Arrived : Answer → Type 0
  Arrived r = Arrives s a us p N came (done_of r) (brought_by r)
      × ((q : FileId) → HasNone q (brought_by r))

  -- what comes of a call that brings this
  abbrev pub OutcomeBy : List Take → Call → Answer → Type 0
  OutcomeBy more asked r = ((Arrives s a us p N came (done_of r) more × ((q : FileId) → HasNone q more))
      × ((f : FileId) → policies_then p asked r.reply f ≡ p f))
      ⊎ (Makes s a us p (policies_then p asked r.reply) N came r
      × ((f : FileId) → stamps_taken f more ≡ stamps_taken f (map take_of r.work.made)))

  -- and of one that brings what it makes
  abbrev Outcome : Call → Answer → Type 0
  Outcome asked r = (Arrived r × ((f : FileId) → policies_then p asked r.reply f ≡ p f))
      ⊎ Makes s a us p (policies_then p asked r.reply) N came r

  plain : (asked : Call) (r : Answer) → Outcome asked r → OutcomeBy (brought_by r) asked r
  plain asked r (inl still) = inl still
  plain asked r (inr makes) = inr (makes, λ f. brought_made f r.work.made (Some r.reply))

  quiet_comes : (d : Done) (r : Reply) → Quiet us p N a work d → Arrived (answer d r)
  quiet_comes d r h = (
    quiet_arrives k moment 0 d h (begun_by (Some r)) (λ q. begun_none q (Some r)),
    λ q. both_none q (map take_of d.work.made) (begun_by (Some r)) (h.takes q)
        (begun_none q (Some r)),
  )

  told_comes : (r : Reply) → Arrived (told a work r)
  told_comes r = quiet_comes (idle a work) r (quiet_idle us p N a work)

  denied_comes : (why : LookupError) → Arrived (deny a why work)
  denied_comes (stop.Refused why) = told_comes (reply.Refused why)
  denied_comes (stop.NotYet found) =
      quiet_comes (ask_for a found work) (reply.Refused (NotYet found.file))
      (denied_quiet us p N a work (stop.NotYet found))

  -- the policies stay where a call is denied
  abbrev Stays : Call → Type 0
  Stays asked = (why : Refusal) (f : FileId)
      → policies_then p asked (reply.Refused why) f ≡ p f

  denied_so : (asked : Call) → Stays asked → (why : LookupError) → Outcome asked (deny a why work)
  denied_so asked stays (stop.Refused why) =
      inl (denied_comes (stop.Refused why), stays why)
  denied_so asked stays (stop.NotYet found) =
      inl (denied_comes (stop.NotYet found), stays (NotYet found.file))

  -- a call that looks
  looked : {A : Type 0} (asked : Call) → ((r : Reply) (f : FileId)
      → policies_then p asked r f ≡ p f) → (check : Result A LookupError) (tell : A → Reply)
      → Outcome asked (replied a work check tell)
  looked asked stays check tell =
      answered_by (Outcome asked) a work check (λ found. told a work (tell found))
      (denied_so asked (λ why. stays (reply.Refused why)))
      (λ found is. inl (told_comes (tell found), stays (tell found)))

  -- a flag is lowered, or none
  lowered_quiet : (file : FileId) → Quiet us p N a work (lowered a file work)
  lowered_quiet file =
      chosen (λ d. Quiet us p N a work d) (is_gold a file) (lower_flag a file work) (idle a work)
      (lower_quiet us p N a file work) (quiet_idle us p N a work)

  -- a place is made
  moved_comes : (asked : Call) → ((r : Reply) (f : FileId) → policies_then p asked r f ≡ p f)
      → (thing : FileId) (place : Place)
      → Outcome asked (answer (make_place thing place (idle a work)) reply.Done)
  moved_comes asked stays thing place =
      inl (
        quiet_comes (make_place thing place (idle a work)) reply.Done
            (make_place_quiet us p N a thing place work),
        stays reply.Done,
      )

  mkdir_comes : (text : List ℕ) → Outcome (call.Mkdir text) (do_call a (call.Mkdir text) work)
  mkdir_comes text =
      answered_by (Outcome (call.Mkdir text)) a work (new_name a (next_id a Dir) text) _
      (denied_so (call.Mkdir text) (λ why f. refl))
      (λ new found. inl (
        (
          dir_arrives k moment Dir Last new
              (sym (k.bare (next_id a Dir) (unnamed k moment Dir Last new))),
          dir_none k moment Dir Last new,
        ),
        λ f. refl,
      ))

  create_comes : (text : List ℕ) (policy : Policy)
      → Outcome (call.Create text policy) (do_call a (call.Create text policy) work)
  create_comes text policy =
      answered_by (Outcome (call.Create text policy)) a work (new_name a (next_id a File) text) _
      (denied_so (call.Create text policy) (λ why f. refl))
      (λ new found. inr (first_makes k moment File policy new
      (name_in_time a (next_id a File) text new found) refl))

  -- a file is written
  change_comes : (asked : Call) → ((r : Reply) (f : FileId) → policies_then p asked r f ≡ p f)
      → ((r : Answer) → Makes s a us p p N came r
      → Makes s a us p (policies_then p asked r.reply) N came r)
      → (text : List ℕ) (ranges : RangesValue) → (ranges.least ≤ body_limit → IsRanges ranges)
      → Outcome asked (change a text ranges work)
  change_comes asked stays makes text ranges are =
      answered_by (Outcome asked) a work (file_at a text) (change_file a ranges work)
      (denied_so asked (λ why. stays (reply.Refused why)))
      (λ file found. answered_by (Outcome asked) a work (when_fit a ranges file) _
      (denied_so asked (λ why. stays (reply.Refused why)))
      (λ fit fits. inr (makes _ (written_makes k moment ranges
      (are (fit_short a ranges file fit fits)) text fit
      (subst (λ g. file_at a text ≡ Ok g) (fit_found a ranges file fit fits) found)
      (fit_long a ranges file fit fits)))))

  -- a gold replica is asked for leave, or none
  leaving_comes : (target : Target) (file : FileId) (o : Option Flag)
      → Outcome (call.Drop target) (leaving a file work o)
  leaving_comes target file None = inl (told_comes (reply.Leaving 0), λ f. refl)
  leaving_comes target file (Some flag) = inl (
    quiet_comes (begin_intent a (leave_of file flag) work) (reply.Leaving flag.server)
        (begin_quiet us p N a (leave_of file flag) work),
    λ f. refl,
  )

  -- what was lost is given up
  abbrev Lost : Result FileId LookupError → Answer
  Lost o = answered a work o (λ found. answer (forget_lost a found work) reply.Done)

  abbrev LostTakes : Result FileId LookupError → List Take
  LostTakes o =
      cond (strikes_out a o) [] (map take_of (Lost o).work.made) ++ forgotten_takes a moment o

  forgotten_by : (id : FileId) (o : Result FileId LookupError)
      → OutcomeBy (LostTakes o) (call.Forget id) (Lost o)
  forgotten_by id (Err (stop.Refused why)) =
      plain (call.Forget id) (Lost (Err (stop.Refused why)))
      (denied_so (call.Forget id) (λ why f. refl) (stop.Refused why))
  forgotten_by id (Err (stop.NotYet found)) =
      plain (call.Forget id) (Lost (Err (stop.NotYet found)))
      (denied_so (call.Forget id) (λ why f. refl) (stop.NotYet found))
  forgotten_by id (Ok f) =
      inl (lost_comes k moment f (is_held a f) (is_dir f) refl refl, λ g. refl)

  -- WHATEVER A CLIENT CALLS
  pub call_comes : (wants : Asked) (asked : Call)
      → OutcomeBy (brought a wants (input.Call moment asked)) asked (do_call a asked work)
  call_comes wants (call.Mkdir text) =
      plain (call.Mkdir text) (do_call a (call.Mkdir text) work)
      (mkdir_comes text)
  call_comes wants (call.Create text policy) =
      plain (call.Create text policy) (do_call a (call.Create text policy) work)
      (create_comes text policy)
  call_comes wants (call.Write text offset bytes) =
      plain (call.Write text offset bytes) (do_call a (call.Write text offset bytes) work)
      (change_comes (call.Write text offset bytes) (λ r f. refl) (λ r m. m) text
      (written offset bytes) (written_are offset bytes))
  call_comes wants (call.Cut text length) =
      plain (call.Cut text length) (do_call a (call.Cut text length) work)
      (change_comes (call.Cut text length) (λ r f. refl) (λ r m. m) text (cut_to length)
      (cut_are length))
  call_comes wants (call.Read text offset count) =
      plain (call.Read text offset count) (do_call a (call.Read text offset count) work)
      (looked (call.Read text offset count) (λ r f. refl) (file_at a text) _)
  call_comes wants (call.Fresh text) =
      plain (call.Fresh text) (do_call a (call.Fresh text) work)
      (looked (call.Fresh text) (λ r f. refl) (file_at a text) _)
  call_comes wants (call.Ls text from) =
      plain (call.Ls text from) (do_call a (call.Ls text from) work)
      (looked (call.Ls text from) (λ r f. refl) (dir_at a text) _)
  call_comes wants (call.Stat target) =
      plain (call.Stat target) (do_call a (call.Stat target) work)
      (looked (call.Stat target) (λ r f. refl) (target_at a target) _)
  call_comes wants (call.Rename from to) =
      plain (call.Rename from to) (do_call a (call.Rename from to) work)
      (answered_by (Outcome (call.Rename from to)) a work (move_of a from to) _
      (denied_so (call.Rename from to) (λ why f. refl))
      (λ move found. moved_comes (call.Rename from to) (λ r f. refl) move.thing
      (place_in a moment move.to)))
  call_comes wants (call.Unlink text) =
      plain (call.Unlink text) (do_call a (call.Unlink text) work)
      (answered_by (Outcome (call.Unlink text)) a work (file_at a text) _
      (denied_so (call.Unlink text) (λ why f. refl))
      (λ file found. moved_comes (call.Unlink text) (λ r f. refl) file
      (dead_place a moment file)))
  call_comes wants (call.Rmdir text) =
      plain (call.Rmdir text) (do_call a (call.Rmdir text) work)
      (answered_by (Outcome (call.Rmdir text)) a work (empty_dir_at a text) _
      (denied_so (call.Rmdir text) (λ why f. refl))
      (λ dir found. moved_comes (call.Rmdir text) (λ r f. refl) dir (dead_place a moment dir)))
  call_comes wants (call.Forget id) = forgotten_by id (lost_at a id)
  call_comes wants (call.Demote target) =
      plain (call.Demote target) (do_call a (call.Demote target) work)
      (answered_by (Outcome (call.Demote target)) a work (demoted_at a target) _
      (denied_so (call.Demote target) (λ why f. refl))
      (λ file found. inl (
        quiet_comes (lowered a file work) reply.Done (lowered_quiet file),
        λ f. refl,
      )))
  call_comes wants (call.Drop target) =
      plain (call.Drop target) (do_call a (call.Drop target) work)
      (answered_by (Outcome (call.Drop target)) a work (dropped_at a target) _
      (denied_so (call.Drop target) (λ why f. refl))
      (λ file found. leaving_comes target file (clean_gold a file)))
  call_comes wants (call.Giveup view server) =
      plain (call.Giveup view server) (do_call a (call.Giveup view server) work)
      (answered_by (Outcome (call.Giveup view server)) a work (removal_at a view server) _
      (denied_so (call.Giveup view server) (λ why f. refl))
      (λ found is. inl (
        (entered_arrives k moment 0 server, entered_none k moment 0 server),
        λ f. refl,
      )))
  call_comes wants call.Status =
      plain call.Status (do_call a call.Status work)
      (looked call.Status (λ r f. refl) (in_time a (tt {0})) _)
  call_comes wants call.Stop =
      plain call.Stop (do_call a call.Stop work)
      (looked call.Stop (λ r f. refl) (in_time a (tt {0})) _)
