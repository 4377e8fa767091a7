-- An input comes to a server: what it knows behind it is what its replicas took.
use Rattle.std.proofs.Common.{ℕ, ◌≡◌, Bool, true, false, cond, List, [], ◌++◌, map, drop, length, Option, refl, sym, ap, subst, ◌∙◌}
use Rattle.std.proofs.Math.Seq.{drop-append_seam}
use Rattle.std.proofs.lemmas.List.{append_assoc}
use Rattle.pg_run.specs.pg_base.declared.id.Kind.{Kind}
use Rattle.pg_run.specs.pg_content.Content.{Among}
use Rattle.pg_run.specs.pg_msg.declared.update.Update.{Update}
use Rattle.pg_run.specs.pg_msg.Work.{new_work}
use Rattle.pg_run.specs.pg_call.declared.reply.Reply.{Reply}
use Rattle.pg_run.specs.pg_names.Names.{NamesValue}
use Rattle.pg_run.proofs.pg_house.Truths.{chosen_false, chosen_true}
use Rattle.pg_run.proofs.theory_flood_pieces.Choices.{chosen}
use Rattle.pg_run.specs.pg_store.declared.store.Store.{Store}
use Rattle.pg_run.specs.pg_store.Seen.{removed_of}
use Rattle.pg_run.specs.pg_store.Store.{is_before_clock_end}
use Rattle.pg_run.specs.pg_pieces.Done.{Done, idle}
use Rattle.pg_run.specs.pg_cells.Ticks.{tick}
use Rattle.pg_run.specs.pg_intentions.Requests.{ask_all}
use Rattle.pg_run.proofs.pg_intentions.Steady.{begin_end_stays}
use Rattle.pg_run.specs.pg_calls.Calls.{do_call}
use Rattle.pg_run.specs.pg_calls.Naming.{next_id}
use Rattle.pg_run.proofs.pg_calls.Late.{late_does_nothing}
use Rattle.pg_run.specs.pg_server.declared.input.Input.{Input}
use Rattle.pg_run.specs.pg_server.declared.input.Input.TheVariants as input
use Rattle.pg_run.specs.pg_server.Local.{Effect, closed, effect, finished, first_effect, is_heard, receive, reply_to, settled, takes_effect, ticked, without_sources}
use Rattle.pg_run.specs.Asking.{Asked}
use Rattle.pg_run.specs.Carried.{came, carried, gone_by}
use Rattle.pg_run.specs.Known.{Told}
use Rattle.pg_run.specs.Passed.{passed, passed_with}
use Rattle.pg_run.specs.Run.{first_made, made_takes, removed_then, took_after, took_first}
use Rattle.pg_run.specs.Took.{Take, take_of, without_gone}
use Rattle.pg_run.proofs.Ticked.{tick_names}
use Rattle.law_names.specs.Goes.{Goes}
use Rattle.law_names.specs.Merged.{IsNewId}
use Rattle.law_passing.specs.Tells.{AreApart}
use Rattle.law_names.proofs.Called.{call_goes}
use Rattle.law_names.proofs.Going.{goes_itself, goes_on}
use Rattle.law_names.proofs.Messages.{IsReady, message_goes}
use Rattle.law_names.proofs.Notes.{tick_walk_made}
use Rattle.law_names.proofs.Settling.{Comes, settle_comes}
use Rattle.law_names.proofs.Sources.{IsInputGood}

-- ---- behind the first effect the house rules run

-- what the rules made, of all that was made
rest_is : (first more all : List Update) → all ≡ first ++ more → drop (length first) all ≡ more
rest_is first more all e = ap (drop (length first)) e ∙ drop-append_seam first more

module _ (gone : List ℕ) (answer : Option Reply) (d : Done) (now : List Take) (k : Goes gone d.store.names now)
    (apart : (us : List Update) → ((u : Update) → Among u us → Among u (closed answer d).out.made) → AreApart (map take_of us ++ now)) where
  -- intentions that end and begin make nothing, and leave names
  closed_made : (closed answer d).out.made ≡ (settled d).work.made
  closed_made = (begin_end_stays (settled d).store (settled d).work).made

  comes : Comes gone d.work.made now (settled d)
  comes =
      let P : List Update → Type 0 = λ all. (us : List Update) → ((u : Update) → Among u us → Among u all) → AreApart (map take_of us ++ now) in
      settle_comes gone d.work.made now (settled d).work.made (subst P closed_made apart) d k refl (λ u h. h)

  rest_made : drop (length d.work.made) (closed answer d).out.made ≡ comes.more
  rest_made = rest_is d.work.made comes.more (closed answer d).out.made (closed_made ∙ comes.is)

  closed_goes : Goes gone (closed answer d).store.names (passed_with gone (passed gone now) (drop (length d.work.made) (closed answer d).out.made))
  closed_goes =
      let P : List Update → Type 0 = λ us. Goes gone (settled d).store.names (passed_with gone (passed gone now) us) in
      goes_on gone (settled d).store.names (closed answer d).store.names (passed_with gone (passed gone now) (drop (length d.work.made) (closed answer d).out.made))
      (begin_end_stays (settled d).store (settled d).work).names (subst P (sym rest_made) comes.goes)

-- ---- any input

-- what is made in the event, with what was taken before it, is told apart
abbrev pub IsApart : Store → Asked → List Take → Input → List Update → Type 0
IsApart a wants takes asked all =
    (us : List Update) → ((u : Update) → Among u us → Among u all) → AreApart (map take_of us ++ took_first a wants takes asked)

module _ (p : Told) (a : Store) (wants : Asked) (takes : List Take) (k : Goes (removed_of a) a.names takes) (ready : IsReady p a) (ids : (kind : Kind) → IsNewId a (next_id a kind)) where
  -- who is removed then
  abbrev Gone : Input → List ℕ
  Gone asked = removed_then a asked

  abbrev FirstIs : Input → Type 0
  FirstIs asked = Goes (Gone asked) (first_effect a asked).store.names (took_first a wants takes asked)

  -- what was made and came, and what was taken before and is left
  put_together : (s : NamesValue) (made xs old : List Take) → Goes s.removed s (made ++ (xs ++ old)) → Goes s.removed s ((made ++ xs) ++ old)
  put_together s made xs old h =
      let P : List Take → Type 0 = λ ys. Goes s.removed s ys in
      subst P (sym (append_assoc made xs old)) h

  -- THE FIRST EFFECT
  pub first_goes : (asked : Input) → IsInputGood p asked → takes_effect a asked ≡ true → FirstIs asked
  first_goes (input.Call moment c) good going =
      let x = do_call a c (new_work moment 0) in
      put_together x.store.names (made_takes a (input.Call moment c)) (came a wants (input.Call moment c)) takes
      (call_goes (removed_of a) p a takes k ready ids moment c)
  first_goes (input.Tick moment word) good going =
      let w = new_work moment 0 in
      let free = without_sources a in
      let P : Done → Type 0 = λ d. Goes (removed_of d.store) d.store.names ((map take_of d.work.made ++ []) ++ takes) in
      let Q : List Update → Type 0 = λ us. Goes (removed_of a) a.names ((map take_of us ++ []) ++ takes) in
      chosen P (is_before_clock_end a) (ticked a word w) (idle a w) (subst Q (sym (tick_walk_made free word (ask_all free (tick free w)))) k) k
  first_goes (input.Arrival packet) good going =
      let w = new_work 0 packet.from in
      let d = receive a packet.message w in
      let is : first_effect a (input.Arrival packet) ≡ d = chosen_true (is_heard a packet) d (idle a w) going in
      let old = without_gone (gone_by a packet.from packet.message) takes in
      let P : Done → Type 0 = λ e. Goes (removed_of e.store) e.store.names ((map take_of e.work.made ++ carried a wants packet.from packet.message) ++ old) in
      let come = carried a wants packet.from packet.message in
      subst P (sym is) (put_together d.store.names (map take_of d.work.made) come old
      (goes_itself (removed_of a) d.store.names (map take_of d.work.made ++ (come ++ old))
      (message_goes (removed_of a) p a takes k ready packet.from wants packet.message good)))
  first_goes input.Restart good going = k

  -- where nothing takes effect names stay
  still : (asked : Input) → takes_effect a asked ≡ false → (first_effect a asked).store.names ≡ a.names
  still (input.Call moment c) late = ap (λ (s : Store). s.names) (late_does_nothing a c (new_work moment 0) late).0
  still (input.Tick moment word) late = tick_names a moment word
  still (input.Arrival packet) unheard =
      ap (λ (d : Done). d.store.names) (chosen_false (is_heard a packet) (receive a packet.message (new_work 0 packet.from)) (idle a (new_work 0 packet.from)) unheard)
  still input.Restart late = refl

  abbrev Ends : Input → Bool → Effect
  Ends asked t = cond t (closed (reply_to a asked) (first_effect a asked)) (finished (reply_to a asked) (first_effect a asked))

  by_test : (asked : Input) (t : Bool) → takes_effect a asked ≡ t → IsInputGood p asked → (t ≡ true → IsApart a wants takes asked (Ends asked t).out.made)
      → Goes (Gone asked) (Ends asked t).store.names
      (cond t (passed_with (Gone asked) (passed (Gone asked) (took_first a wants takes asked)) (drop (length (first_made a asked)) (Ends asked t).out.made)) takes)
  by_test asked true e good apart =
      closed_goes (Gone asked) (reply_to a asked) (first_effect a asked) (took_first a wants takes asked) (first_goes asked good e) (apart refl)
  by_test asked false e good apart =
      let s = (first_effect a asked).store.names in
      goes_itself (removed_of a) s takes (goes_on (removed_of a) a.names s takes (still asked e) k)

  -- AN INPUT
  pub input_goes : (asked : Input) → IsInputGood p asked → (takes_effect a asked ≡ true → IsApart a wants takes asked (effect a asked).out.made)
      → Goes (Gone asked) (effect a asked).store.names (took_after a wants takes asked)
  input_goes asked good apart = by_test asked (takes_effect a asked) refl good apart
