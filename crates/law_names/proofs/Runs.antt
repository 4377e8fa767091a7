-- After any events each server knows of names what its replicas took.
use Rattle.std.proofs.Common.{ℕ, ◌≡◌, ◌≤◌, Bool, true, false, cond, List, [], ◌∷◌, ◌++◌, map, Option, Some, refl, sym, ap, subst, ◌∙◌, inl, inr}
use Rattle.pg_run.specs.pg_base.declared.id.FileId.{FileId}
use Rattle.pg_run.specs.pg_content.Content.{Among}
use Rattle.pg_run.specs.pg_msg.declared.update.Update.{Update}
use Rattle.pg_run.specs.pg_msg.declared.update.Update.TheVariants as update
use Rattle.pg_run.specs.pg_event.declared.event.Event.{Event}
use Rattle.pg_run.specs.pg_event.declared.entry.VoidCause.{VoidCause}
use Rattle.pg_run.specs.pg_store.declared.store.Store.{Store}
use Rattle.pg_run.specs.pg_store.Seen.{removed_of}
use Rattle.pg_run.specs.pg_server.declared.input.Input.{Input}
use Rattle.pg_run.specs.pg_server.declared.input.Input.TheVariants as input
use Rattle.pg_run.specs.pg_server.Local.{effect, takes_effect}
use Rattle.pg_run.specs.Asking.{Asked}
use Rattle.pg_run.specs.Carried.{came, gone_in, strikes}
use Rattle.pg_run.specs.Known.{IsPlaceOf, Told, of_run}
use Rattle.pg_run.specs.Laws.{NamesMerge}
use Rattle.pg_run.specs.Passed.{passed, passed_with}
use Rattle.pg_run.specs.Run.{Taking, World, brought, effect_step, first_made, idle_step, made_behind, made_takes, removed_then, run, start, taking_in, took_after, took_first, world_after}
use Rattle.pg_run.specs.Took.{Take, take_of, without_gone}
use Rattle.pg_run.proofs.Frame.{Acts, HasCome, holds_in_runs, next_is, no_server_comes, pair_after, run_more}
use Rattle.pg_run.proofs.Lists.{among_back, among_front}
use Rattle.pg_run.proofs.Makes.{is_made_in_parts}
use Rattle.law_names.specs.Goes.{Goes}
use Rattle.law_names.specs.Merged.{AreMerged, AreTakesTold, IsMerged, NamesStandOn, StandsOn}
use Rattle.law_names.proofs.Effects.{IsApart, input_goes}
use Rattle.law_names.proofs.Gone.{gone_among}
use Rattle.law_names.proofs.Messages.{IsReady}
use Rattle.law_names.proofs.Sources.{IsInputGood, both_told, came_told, later_told, made_told, only_first, takes_apart, unless_told, within_told}
use Rattle.law_names.proofs.Start.{start_merged}
use Rattle.law_names.proofs.Settling.{took_within}
use Rattle.law_passing.proofs.States.{entry_is, own_is}

-- ---- what a server has, as messages need it

-- it is one of the run
abbrev pub AtServer : ℕ → ℕ → Type 0
AtServer n s = (1 ≤ s) × (s ≤ n)

pub ready_of : (n : ℕ) (w : World) (on : StandsOn n w) (s : ℕ) → AtServer n s → IsReady (of_run n w) (w.stores s)
ready_of n w on s at = record {
  first = only_first n w on;
  intends = on.intends s at.0 at.1;
  patches = λ dir e target h. (let t = (on.known.stores s at.0 at.1).patches dir e target h in (t.0, t.1.sorted));
  cells = λ dir child e h. (
      let t = (on.known.stores s at.0 at.1).cells dir child e h in
      subst (λ (f : FileId). IsPlaceOf w f e.place) t.0 t.1.place_is);
}

-- a message that came is one of the run
pub input_of : (n : ℕ) (w : World) (on : StandsOn n w) (s : ℕ) (asked : Input) → HasCome w s asked → IsInputGood (of_run n w) asked
input_of n w on s (input.Call moment c) h = tt
input_of n w on s (input.Tick moment word) h = tt
input_of n w on s (input.Arrival packet) h = on.known.messages _ h
input_of n w on s input.Restart h = tt

-- ---- one server takes an input

module _ (n : ℕ) (w : World) (event : Event) (s : ℕ) (asked : Input) (at : AtServer n s) (come : HasCome w s asked)
    (on : StandsOn n w) (k : IsMerged n w s) where
  abbrev A : Store
  A = w.stores s

  abbrev V : Asked
  V = w.asked s

  abbrev T : List Take
  T = w.took s

  abbrev After : World
  After = world_after w (effect_step w event s asked)

  abbrev Then : Told
  Then = of_run n After

  good : IsInputGood (of_run n w) asked
  good = input_of n w on s asked come

  -- all of it was made by then
  made_in : (u : Update) → Among u (first_made A asked) → Among u (effect A asked).out.made
  made_in u h =
      let P : List Update → Type 0 = λ us. Among u us in
      subst P (sym (is_made_in_parts A asked)) (among_front u (first_made A asked) (made_behind A asked) h)

  pub behind_in : (u : Update) → Among u (made_behind A asked) → Among u (effect A asked).out.made
  behind_in u h =
      let P : List Update → Type 0 = λ us. Among u us in
      subst P (sym (is_made_in_parts A asked)) (among_back u (first_made A asked) (made_behind A asked) h)

  old_told : AreTakesTold Then T
  old_told = later_told n w After (effect_step w event s asked).entry refl T k.told

  new_told : AreTakesTold Then (came A V asked)
  new_told =
      came_told (of_run n w) Then (λ xs h. later_told n w After (effect_step w event s asked).entry refl xs h) A
      (λ dir e target h. ((on.known.stores s at.0 at.1).patches dir e target h).1) (ready_of n w on s at).cells V asked
      (λ f q h. inr (inl (made_in (update.Place f q) h))) good

  -- what is left of what was taken before
  left_told : AreTakesTold Then (without_gone (gone_in A asked) T)
  left_told x h = old_told x (gone_among (gone_in A asked) T x h)

  pub first_told : AreTakesTold Then (took_first A V T asked)
  first_told =
      both_told Then (brought A V asked) (without_gone (gone_in A asked) T)
      (both_told Then (made_takes A asked) (came A V asked)
      (unless_told Then (strikes A asked) (map take_of (first_made A asked))
      (made_told n After (effect_step w event s asked).entry w.journal refl (first_made A asked) made_in)) new_told) left_told

  end_told : AreTakesTold Then (took_after A V T asked)
  end_told = by (takes_effect A asked)
    where
      by : (t : Bool) → AreTakesTold Then (cond t (passed_with (removed_then A asked) (passed (removed_then A asked) (took_first A V T asked)) (made_behind A asked)) T)
      by true =
          within_told Then (passed_with (removed_then A asked) (passed (removed_then A asked) (took_first A V T asked)) (made_behind A asked)) (map take_of (made_behind A asked) ++ took_first A V T asked)
          (took_within (removed_then A asked) (made_behind A asked) (took_first A V T asked))
          (both_told Then (map take_of (made_behind A asked)) (took_first A V T asked)
          (made_told n After (effect_step w event s asked).entry w.journal refl (made_behind A asked) behind_in) first_told)
      by false = old_told

  module _ (later : StandsOn n After) where
    pub apart : IsApart A V T asked (effect A asked).out.made
    apart us within =
        takes_apart n After later (map take_of us ++ took_first A V T asked)
        (both_told Then (map take_of us) (took_first A V T asked)
        (made_told n After (effect_step w event s asked).entry w.journal refl us within) first_told)

    end_goes : Goes (removed_then A asked) (effect A asked).store.names (took_after A V T asked)
    end_goes = input_goes (of_run n w) A V T k.goes (ready_of n w on s at) (on.ids s at.0 at.1) asked good (λ going. apart)

    -- the server behind it
    acted : Goes (removed_of (effect A asked).store) (effect A asked).store.names (took_after A V T asked)
    acted = record { tells = end_goes.tells; dirs = end_goes.dirs; last = end_goes.last; same_removed = refl }

    pub merged_then : ((t : ℕ) → 1 ≤ t → t ≤ n → IsMerged n w t) → (t : ℕ) → 1 ≤ t → t ≤ n → IsMerged n After t
    merged_then all t least most =
        let P : ℕ → Store → List Take → Type 0 = λ i b taken. 1 ≤ i → i ≤ n → Goes (removed_of b) b.names taken × AreTakesTold Then taken in
        let step = effect_step w event s asked in
        let r = pair_after P w.stores w.took s (effect A asked).store (took_after A V T asked)
        (λ i l m. let x = all i l m in (x.goes, later_told n w After step.entry refl (w.took i) x.told)) (λ l m. (acted, end_told)) t least most in
        record { goes = r.0; told = r.1 }

-- ---- any events

module _ (n : ℕ) (all : (events : List Event) → StandsOn n (run n events)) where
  idle_merged : (w : World) (event : Event) (cause : Option VoidCause) → AreMerged n w → AreMerged n (world_after w (idle_step w event cause))
  idle_merged w event cause k t least most =
      let m = k t least most in
      record { goes = m.goes; told = later_told n w (world_after w (idle_step w event cause)) (idle_step w event cause).entry refl (w.took t) m.told }

  -- the next world of a run is one of a run
  pub next_stands : (events : List Event) (event : Event) (t : Taking) → taking_in n (run n events) event ≡ Some t
      → StandsOn n (world_after (run n events) (effect_step (run n events) event t.server t.asked))
  next_stands events event t h =
      let w = run n events in
      let P : World → Type 0 = StandsOn n in
      subst P (run_more n (start n) events event ∙ ap (world_after w) (next_is n w event t h)) (all (events ++ event ∷ []))

  acts_merged : (events : List Event) (event : Event) (t : Taking) → taking_in n (run n events) event ≡ Some t → Acts n (run n events) t
      → AreMerged n (run n events) → AreMerged n (world_after (run n events) (effect_step (run n events) event t.server t.asked))
  acts_merged events event t h acts k u least most =
      merged_then n (run n events) event t.server t.asked (acts.least, acts.most) acts.came (all events) (k t.server acts.least acts.most)
      (next_stands events event t h) k u least most

  pub merged_run : (events : List Event) → AreMerged n (run n events)
  merged_run events =
      holds_in_runs n (AreMerged n)
      (record {
        first = λ s least most. start_merged n s;
        idle = idle_merged;
        comes = λ past event server is k. absurd (no_server_comes event server is);
        acts = acts_merged;
      })
      events

  -- THE MERGE OF NAMES
  pub names_merge : NamesMerge n
  names_merge events s least most =
      let w = run n events in
      let k = merged_run events s least most in
      let apart = takes_apart n w (all events) (w.took s) k.told in
      record {
        held = λ f. (λ h. k.goes.tells.held f h, λ h. k.goes.tells.told f h);
        own = own_is (w.stores s).names (w.took s) apart k.goes.tells;
        entries = entry_is (w.stores s).names (w.took s) apart k.goes.tells;
      }

-- ---- from the laws of runs

pub stand_on : (n : ℕ) → NamesStandOn n → (events : List Event) → StandsOn n (run n events)
stand_on n on events = record {
  known = on.known events;
  stamps = on.stamps events;
  flags = on.flags events;
  intends = on.intends events;
  ids = on.ids events;
}
