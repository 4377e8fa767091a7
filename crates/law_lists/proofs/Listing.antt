-- In every run: who comes back lists a child.
use Rattle.std.proofs.Common.{ℕ, ◌≡◌, true, List, [], sym, subst, refl}
use Rattle.std.proofs.lemmas.Option.{slice_get_within}
use Rattle.pg_run.specs.pg_msg.declared.update.Update.TheVariants as update
use Rattle.pg_run.specs.pg_event.declared.event.Event.{Event}
use Rattle.pg_run.specs.pg_house.Facts.{AreOrdered}
use Rattle.pg_run.specs.pg_store.declared.store.Store.{Store}
use Rattle.pg_run.specs.pg_server.declared.input.Input.{Input}
use Rattle.pg_run.specs.pg_server.Local.{first_effect, takes_effect}
use Rattle.pg_run.specs.Asking.{Asked}
use Rattle.pg_run.specs.Known.{of_run}
use Rattle.pg_run.specs.Passed.{passed, passed_with}
use Rattle.pg_run.specs.Run.{Taking, made_behind, removed_then, run, took_first}
use Rattle.pg_run.specs.Took.{Take}
use Rattle.pg_run.proofs.Frame.{acts_is}
use Rattle.law_order.specs.Laws.{FirstEffectsAreOrdered}
use Rattle.law_names.specs.Goes.{Goes}
use Rattle.law_names.specs.Merged.{StandsOn}
use Rattle.law_names.specs.law_passing.Tells.{AreApart}
use Rattle.law_names.proofs.Effects.{first_goes}
use Rattle.law_names.proofs.Runs.{AtServer, apart, input_of, merged_run, next_stands, ready_of}
use Rattle.law_names.proofs.law_passing.States.{tells_sorted}
use Rattle.law_returns.proofs.Staying.{going_by}
use Rattle.law_lists.specs.Laws.{ReturnsList}
use Rattle.law_lists.proofs.Behind.{Before, behind_is}
use Rattle.law_lists.proofs.Reasons.{AreReasoned, flags_reasoned, reasoned_at, reasoned_then}
use Rattle.law_lists.proofs.Returning.{house_follows}

-- behind one input
module _ (a : Store) (wants : Asked) (takes : List Take) (asked : Input)
    (going : takes_effect a asked ≡ true)
    (goes : Goes (removed_then a asked) (first_effect a asked).store.names
    (took_first a wants takes asked))
    (apart_first : AreApart (took_first a wants takes asked))
    (ordered : AreOrdered (first_effect a asked).store.names) where
  abbrev Gone : List ℕ
  Gone = removed_then a asked

  abbrev Now : List Take
  Now = took_first a wants takes asked

  behind_reasoned : AreReasoned Gone (passed Gone Now) (made_behind a asked)
  behind_reasoned =
      let d = first_effect a asked in
      let sorted = tells_sorted d.store.names Now goes.tells in
      let f = house_follows d.work.now (Before a asked going goes.dirs sorted goes.last ordered) Now
      goes.tells apart_first goes.dirs goes.last ordered in
      let rest = behind_is a asked going goes.dirs sorted goes.last ordered f.more f.is in
      subst (AreReasoned Gone (passed Gone Now)) (sym rest.1)
      (reasoned_then Gone (passed Gone Now) f.more rest.0 f.reasoned
      (flags_reasoned Gone (passed_with Gone (passed Gone Now) f.more) rest.0 rest.2))

-- WHO COMES BACK LISTS A CHILD
pub returns_list : (n : ℕ) → ((events : List Event) → StandsOn n (run n events))
    → FirstEffectsAreOrdered n → ReturnsList n
returns_list n all first_ordered events last s asked takes k dir place made dead =
    let w = run n events in
    let t : Taking = record { server = s; asked = asked } in
    let acts = acts_is n w last t takes in
    let at : AtServer n s = (acts.least, acts.most) in
    let on = all events in
    let m = merged_run n all events s acts.least acts.most in
    let a = w.stores s in
    let u = update.Place dir place in
    let going : takes_effect a asked ≡ true = going_by a asked k
    (slice_get_within (made_behind a asked) k u made) (takes_effect a asked) refl in
    let goes = first_goes (of_run n w) a (w.asked s) (w.took s) m.goes (ready_of n w on s at)
    (on.ids s acts.least acts.most) asked (input_of n w on s asked acts.came) going in
    let apart_all = apart n w last s asked at acts.came on m
    (next_stands n all events last t takes) in
    let gone = removed_then a asked in
    let now = took_first a (w.asked s) (w.took s) asked in
    reasoned_at gone (passed gone now) (made_behind a asked) k u
    (behind_reasoned a (w.asked s) (w.took s) asked going goes (apart_all [] (λ v h. absurd h))
    (first_ordered events last t takes)) made dir place refl dead
