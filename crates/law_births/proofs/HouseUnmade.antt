-- House rules make no versions.
use Rattle.std.proofs.Common.{ℕ, zero, suc, List, length, Option, None, Some, refl, ap, ◌∙◌}
use Rattle.pg_run.specs.pg_base.declared.id.FileId.{FileId}
use Rattle.pg_run.specs.pg_edges.declared.key.Key.TheVariants as key
use Rattle.pg_run.specs.pg_msg.declared.update.Update.TheVariants as update
use Rattle.pg_run.specs.pg_msg.declared.work.Work.{Work}
use Rattle.pg_run.specs.pg_msg.Work.{with_made, with_touched}
use Rattle.pg_run.specs.pg_register.Place.{root, tilde_name}
use Rattle.pg_run.specs.pg_names.Names.{directories}
use Rattle.pg_run.specs.pg_house.Work.{State}
use Rattle.pg_run.specs.pg_house.Cycles.{break_first, first_moving, moved}
use Rattle.pg_run.specs.pg_house.House.{house, movable}
use Rattle.pg_run.specs.pg_house.Passing.{pass_all}
use Rattle.pg_run.specs.pg_house.Placing.{drawn, live_place, made_at, place_at, placed, repeated}
use Rattle.pg_run.specs.pg_house.Returning.{first_returning, return_first, returned}
use Rattle.pg_run.proofs.pg_house.Made.{all_made, left_made, pass_made}
use Rattle.pg_run.specs.pg_store.declared.store.Store.{Store}
use Rattle.pg_run.specs.pg_cells.Settling.{settle}
use Rattle.pg_run.proofs.pg_cells.Settled.{settle_keeps}
use Rattle.pg_run.specs.Journal.{versions_in}
use Rattle.law_births.proofs.Unmade.{MakesNone, name_after, raised_none}

module _ (moment : ℕ) (ds : List FileId) where
  abbrev Follows : State → State → Type 0
  Follows a b = MakesNone a.work b.work

  rule_none : (st : State) (f p : FileId) (name : List ℕ) → Follows st (placed moment ds st f p name)
  rule_none st f p name =
      let place = live_place (drawn moment st.names) p name in
      let work = with_touched (with_made st.work (update.Place f place)) f key.Place in
      ap versions_in (pass_made (made_at st f place) ds f ∙ left_made work f (place_at st.names f))
      ∙ name_after st.work.made (update.Place f place) refl

  returned_none : (st : State) (o : Option FileId) → Follows st (returned moment ds st o)
  returned_none st None = refl
  returned_none st (Some d) = rule_none st d (place_at st.names d).parent (place_at st.names d).name

  moved_none : (st : State) (o : Option FileId) → Follows st (moved moment ds st o)
  moved_none st None = refl
  moved_none st (Some d) = rule_none st d root (tilde_name d)

  repeated_none : (step : State → State) → ((st : State) → Follows st (step st)) → (n : ℕ) (st : State)
      → Follows st (repeated n step st)
  repeated_none step each zero st = refl
  repeated_none step each (suc n) st = repeated_none step each n (step st) ∙ each st

pub house_none : (moment : ℕ) (st : State) → MakesNone st.work (house moment st).work
house_none moment st =
    let ds = directories st.names in
    let one = pass_all st ds (movable st.names) in
    let two = repeated (length ds) (return_first moment ds) one in
    repeated_none moment ds (break_first moment ds) (λ t. moved_none moment ds t (first_moving t.names (length ds) None ds)) (length ds) two
    ∙ repeated_none moment ds (return_first moment ds) (λ t. returned_none moment ds t (first_returning t.names ds)) (length ds) one
    ∙ ap versions_in (all_made st ds (movable st.names))

-- and no flag that is raised behind them does
pub settle_none : (b : Store) (w : Work) → MakesNone w (settle b w).work
settle_none b w =
    settle_keeps (λ (c : Store) (v : Work). MakesNone w v) (λ c v h. house_none v.now (record { names = c.names; work = v }) ∙ h)
    (λ c f v is h. raised_none c f v ∙ h) b w refl
