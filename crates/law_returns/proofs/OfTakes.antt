-- What justified return stands on: stamps of their own, and own places in the midst of an event.
use Rattle.std.proofs.Common.{ℕ, ◌≡◌, true, false, List, [], ◌∷◌, take, zero, suc, refl, sym, ◌∙◌, inl, inr}
use Rattle.std.proofs.lemmas.List.Elements.{All-contains}
use Rattle.std.proofs.lemmas.Option.{slice_get_within}
use Rattle.pg_run.specs.pg_base.declared.id.FileId.{FileId}
use Rattle.pg_run.specs.pg_content.Content.{Among}
use Rattle.pg_run.specs.pg_register.declared.place.Place.{Place}
use Rattle.pg_run.specs.pg_msg.declared.update.Update.{Update}
use Rattle.pg_run.specs.pg_names.Names.{is_dir, own_or_blank}
use Rattle.pg_run.specs.pg_event.declared.event.Event.{Event}
use Rattle.pg_run.specs.pg_store.declared.store.Store.{Store}
use Rattle.pg_run.specs.pg_server.declared.input.Input.{Input}
use Rattle.pg_run.specs.pg_server.Local.{first_effect, takes_effect}
use Rattle.pg_run.specs.Asking.{Asked}
use Rattle.pg_run.specs.Known.{of_run}
use Rattle.pg_run.specs.Laws.{took_behind}
use Rattle.pg_run.specs.Run.{Taking, made_behind, removed_then, run, took_first}
use Rattle.pg_run.specs.Took.{Take, Taker, own_place, places_taken}
use Rattle.pg_run.proofs.Frame.{acts_is}
use Rattle.pg_run.proofs.Lists.{among_contained, contained_among}
use Rattle.law_returns.specs.Gate.{IsStillThere, place_at}
use Rattle.law_returns.specs.Returns.{DeadPlacesStay, IsTaken, TakesHaveOwnStamps}
use Rattle.law_returns.proofs.HouseDirs.{IsLiveOfDir, made_live}
use Rattle.law_returns.proofs.Staying.{going_by}
use Rattle.law_names.specs.Goes.{Goes}
use Rattle.law_names.specs.Merged.{StandsOn}
use Rattle.law_names.specs.law_passing.Newest.{IsAnyOf}
use Rattle.law_names.specs.law_passing.Tells.{KnowsPlace}
use Rattle.law_names.proofs.Effects.{IsApart, first_goes}
use Rattle.law_names.proofs.Runs.{AtServer, apart, behind_in, input_of, merged_run, next_stands, ready_of}
use Rattle.law_names.proofs.Sources.{takes_apart}
use Rattle.law_names.proofs.law_passing.DeadPlaces.{IsLiveMade, dead_behind}
use Rattle.law_names.proofs.law_passing.States.{place_is}
use Rattle.law_names.proofs.law_passing.Takes.{place_there}
use Rattle.pg_run.specs.Took.Taker.{Itself}

-- ---- in the midst of an event

among_take : (k : ℕ) (us : List Update) (u : Update) → Among u (take k us) → Among u us
among_take zero us u h = absurd h
among_take (suc k) [] u h = absurd h
among_take (suc k) (v ∷ us) u (inl e) = inl e
among_take (suc k) (v ∷ us) u (inr more) = inr (among_take k us u more)

-- what the rules make are live places
live_made : (a : Store) (asked : Input) (u : Update) → Among u (made_behind a asked) → IsLiveMade u
live_made a asked u h f p same =
    (All-contains IsLiveOfDir (made_behind a asked) u (made_live a asked) (among_contained (made_behind a asked) u h) f p same).1

module _ (a : Store) (wants : Asked) (takes : List Take) (asked : Input) (goes : Goes (removed_then a asked) (first_effect a asked).store.names (took_first a wants takes asked))
    (all : List Update) (apart_all : IsApart a wants takes asked all) (behind : (u : Update) → Among u (made_behind a asked) → Among u all) (dir : FileId) (is : is_dir dir ≡ true) where
  abbrev Now : List Take
  Now = took_first a wants takes asked

  -- what it had behind the first effect is what was taken by then
  own_first : place_at (first_effect a asked).store.names dir ≡ own_place dir Now
  own_first = place_is Now (apart_all [] (λ u h. absurd h)) Itself dir (own_or_blank (first_effect a asked).store.names dir).place (goes.tells.place dir)

  dead_stays : (k : ℕ) → (own_place dir (took_behind a wants takes asked k)).live ≡ false
      → IsStillThere (removed_then a asked) (own_place dir (took_behind a wants takes asked k))
      → place_at (first_effect a asked).store.names dir ≡ own_place dir (took_behind a wants takes asked k)
  dead_stays k dead there =
      let us = take k (made_behind a asked) in
      own_first
      ∙ sym (dead_behind dir is (removed_then a asked) us Now (λ u h. live_made a asked u (among_take k (made_behind a asked) u h))
      (apart_all us (λ u h. behind u (among_take k (made_behind a asked) u h))) dead there)

-- ---- of every run

taken_known : (takes : List Take) (by : Taker) (f : FileId) (p : Place) → IsTaken by f takes p → IsAnyOf f (KnowsPlace takes f) p
taken_known takes by f p (inl e) = inl e
taken_known takes by f p (inr h) = inr (by, place_there by f takes p (contained_among (places_taken by f takes) p h))

module _ (n : ℕ) (all : (events : List Event) → StandsOn n (run n events)) where
  -- no two places of a thing that a replica took have one stamp
  pub own_stamps : TakesHaveOwnStamps n
  own_stamps events s least most by f p q h k e =
      let w = run n events in
      let told = takes_apart n w (all events) (w.took s) (merged_run n all events s least most).told in
      told.places f p q (taken_known (w.took s) by f p h) (taken_known (w.took s) by f q k) e

  -- IN THE MIDST OF EVENTS
  pub dead_places : DeadPlacesStay n
  dead_places events last s asked takes i u h dir is dead there =
      let w = run n events in
      let t : Taking = record { server = s; asked = asked } in
      let acts = acts_is n w last t takes in
      let at : AtServer n s = (acts.least, acts.most) in
      let on = all events in
      let k = merged_run n all events s acts.least acts.most in
      let a = w.stores s in
      let going : takes_effect a asked ≡ true = going_by a asked i (slice_get_within (made_behind a asked) i u h) (takes_effect a asked) refl in
      let goes = first_goes (of_run n w) a (w.asked s) (w.took s) k.goes (ready_of n w on s at) (on.ids s acts.least acts.most) asked (input_of n w on s asked acts.came) going in
      dead_stays a (w.asked s) (w.took s) asked goes _ (apart n w last s asked at acts.came on k (next_stands n all events last t takes))
      (behind_in n w last s asked at acts.came on k) dir is i dead there
