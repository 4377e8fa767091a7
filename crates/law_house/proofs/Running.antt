-- In every event of every run names are fit for the rules behind the first effect.
use Rattle.std.proofs.Common.{ℕ, ◌≡◌, ◌++◌, Bool, true, false, cond, List, [], ◌∷◌, Some, drop, length, eq-eqb, refl, ap, subst, ◌∙◌}
use Rattle.std.specs.List.Sorted.{IsStrictlySortedBy}
use Rattle.std.specs.Map.{keys_of}
use Rattle.pg_run.specs.pg_base.declared.id.FileId.{FileId}
use Rattle.pg_run.specs.pg_base.Id.{file_cmp}
use Rattle.pg_run.specs.pg_cells.Settling.{settle}
use Rattle.pg_run.specs.pg_event.declared.event.Event.{Event}
use Rattle.pg_run.specs.pg_house.House.{house}
use Rattle.pg_run.specs.pg_house.Work.{state_of}
use Rattle.pg_run.specs.pg_intentions.Beginning.{begin_end}
use Rattle.pg_run.specs.pg_msg.declared.work.Work.{Work}
use Rattle.pg_run.specs.pg_names.Names.{NamesValue, with_flag}
use Rattle.pg_run.specs.pg_pieces.Done.{Done}
use Rattle.pg_run.specs.pg_pieces.Making.{own_next}
use Rattle.pg_run.specs.pg_register.declared.flag.Flag.{Flag}
use Rattle.pg_run.specs.pg_server.declared.input.Input.{Input}
use Rattle.pg_run.specs.pg_server.Local.{closed, effect, finished, first_effect, reply_to, takes_effect}
use Rattle.pg_run.specs.pg_store.declared.store.Store.{Store}
use Rattle.pg_run.specs.pg_store.Store.{is_newer_flag, put_flag, take_flag, with_names}
use Rattle.pg_run.specs.Run.{Step, Taking, World, run, start, taking_in}
use Rattle.pg_run.proofs.pg_cells.Ruled.{touched_names}
use Rattle.pg_run.proofs.pg_cells.Settled.{settle_keeps}
use Rattle.pg_run.proofs.pg_house.Keys.{rules_keys}
use Rattle.pg_run.proofs.pg_intentions.Steady.{begin_end_stays}
use Rattle.pg_run.proofs.pg_names.Lookups.{update_frame}
use Rattle.pg_run.proofs.theory_flood_pieces.Choices.{chosen}
use Rattle.pg_run.proofs.Frame.{acts_is, next_is, run_more}
use Rattle.law_order.specs.Laws.{FirstEffectsAreOrdered, FirstEffectsAreWhole, NamesAreById}
use Rattle.law_house.specs.Runs.{RulesGoBySteps}
use Rattle.law_house.specs.Steps.{AreFit}
use Rattle.law_house.proofs.Ending.{by_steps}

-- ---- the rules hold what was held, and so does the end of an event

abbrev held_keys : Store → List FileId
held_keys a = keys_of a.names.held

flag_keys : (a : Store) (f : FileId) (g : Flag) → held_keys (take_flag a f g) ≡ held_keys a
flag_keys a f g =
    chosen (λ (b : Store). held_keys b ≡ held_keys a) (is_newer_flag a f g) (put_flag a f g) a
    (update_frame a.names f (with_flag g)).keys refl

settled_keys : (a : Store) (w : Work) → held_keys (settle a w).store ≡ held_keys a
settled_keys a w =
    settle_keeps (λ (b : Store) (v : Work). held_keys b ≡ held_keys a)
    (λ b v k.
    let st = house v.now (state_of b.names v) in
    ap (λ (n : NamesValue). keys_of n.held) (touched_names (drop (length v.touched) st.work.touched) (with_names b st.names))
    ∙ rules_keys v.now (state_of b.names v) ∙ k)
    (λ b f v less k. flag_keys b f (own_next b f true) ∙ k) a w refl

ended_keys : (d : Done) → held_keys (begin_end (settle d.store d.work).store (settle d.store d.work).work).store ≡ held_keys d.store
ended_keys d =
    let s = settle d.store d.work in
    ap (λ (n : NamesValue). keys_of n.held) (begin_end_stays s.store s.work).names ∙ settled_keys d.store d.work

effect_keys : (a : Store) (asked : Input) → held_keys (effect a asked).store ≡ held_keys (first_effect a asked).store
effect_keys a asked = by (takes_effect a asked)
  where
    by : (t : Bool) → held_keys (cond t (closed (reply_to a asked) (first_effect a asked)) (finished (reply_to a asked) (first_effect a asked))).store
        ≡ held_keys (first_effect a asked).store
    by true = ended_keys (first_effect a asked)
    by false = refl

-- ---- runs

module _ (n : ℕ) (whole : FirstEffectsAreWhole n) (ordered : FirstEffectsAreOrdered n) (by_id : NamesAreById n) where
  module _ (events : List Event) (event : Event) (s : ℕ) (asked : Input) where
    abbrev t : Taking
    t = record { server = s; asked = asked }

    abbrev a : Store
    a = (run n events).stores s

    module _ (takes : taking_in n (run n events) event ≡ Some t) where
      then_is : (run n (events ++ event ∷ [])).stores s ≡ (effect a asked).store
      then_is =
          ap (λ (w : World). w.stores s) (run_more n (start n) events event)
          ∙ ap (λ (z : Step). z.stores s) (next_is n (run n events) event t takes)
          ∙ ap (λ u. cond u (effect a asked).store a) (eq-eqb s s refl)

      keys_are : held_keys ((run n (events ++ event ∷ [])).stores s) ≡ held_keys (first_effect a asked).store
      keys_are = ap held_keys then_is ∙ effect_keys a asked

      fit : AreFit (first_effect a asked).store.names
      fit =
          let acts = acts_is n (run n events) event t takes in
          let names = (whole events event t takes).names in
          record {
            of_dirs = names.dirs;
            by_server = names.sorted;
            last = names.last;
            things = subst (IsStrictlySortedBy file_cmp) keys_are (by_id (events ++ event ∷ []) s acts.least acts.most).things;
            entries = ordered events event t takes;
          }

  pub rules_by_steps : RulesGoBySteps n
  rules_by_steps events event s asked takes going =
      let d = first_effect ((run n events).stores s) asked in
      by_steps d.work.now (state_of d.store.names d.work) (fit events event s asked takes)
