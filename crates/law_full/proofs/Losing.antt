-- What a forget keeps of names: a filling replica that is full as it is, a file that is struck out,
-- a directory that begins anew.
use Rattle.std.proofs.Common.{ℕ, ◌≡◌, Bool, true, cond, List, [], ◌∷◌, Option, None, Some, refl}
use Rattle.std.specs.Prelude.{nat_lt}
use Rattle.law_frame.specs.pg_run.pg_base.declared.id.FileId.{FileId}
use Rattle.law_frame.specs.pg_run.pg_base.declared.policy.Policy.TheVariants.{Last}
use Rattle.law_frame.specs.pg_run.pg_register.declared.place.Place.{Place}
use Rattle.law_frame.specs.pg_run.pg_msg.declared.work.Work.{Work}
use Rattle.law_frame.specs.pg_run.pg_names.declared.attributes.Attributes.{Attributes}
use Rattle.law_frame.specs.pg_run.pg_names.Names.{NamesValue, blank_own, is_dir}
use Rattle.law_frame.specs.pg_run.pg_names.Names as names
use Rattle.law_frame.specs.pg_run.pg_store.declared.store.Store.{Store}
use Rattle.law_frame.specs.pg_run.pg_store.Births.{draw_birth, with_birth}
use Rattle.law_frame.specs.pg_run.pg_store.Store.{is_held, take_entry, with_names}
use Rattle.law_frame.specs.pg_run.pg_pieces.Done.{Done, idle}
use Rattle.law_frame.specs.pg_run.pg_pieces.Making.{own_next, raise_flag}
use Rattle.law_frame.specs.pg_run.pg_repair.Filling.{fill, few_golds, live_golds, raise_if_few}
use Rattle.law_frame.specs.pg_run.pg_calls.Forgetting.{bare_entry, begin_lost, begun_at, begun_with, dead_at, dirs_of, fill_lost, forget_lost, has_blank_place, is_wanted, last_listing, last_place, marked_each, placed_in_root, placed_lost, root_place, strike_out, struck_out, unfilled, unwished}
use Rattle.law_frame.specs.pg_run.pg_calls.Naming.{raised}
use Rattle.law_frame.proofs.pg_run.theory_flood_pieces.Choices.{chosen}
use Rattle.law_full.proofs.Pieces.{AreKept, begin_kept, entry_kept, flag_kept, place_kept}

-- what a forget of a thing may bring: places in the root, a full replica with the place that the
-- latest cell tells, or with none
pub record MayLose (Places : FileId → Place → Type 0) (Begins : FileId → Attributes → Bool → Type 0) (Fills : FileId → Type 0) (a : Store) (moment : ℕ) (id : FileId)
    : Type 0 where
  pub placed : (b : Store) → Places id (root_place b moment id)
  pub fills : Fills id
  pub known : (p : Place) → last_place a.names id ≡ Some p → Begins id (record { place = p; flags = [] }) true
  pub anew : Begins id (blank_own id) true

module _ (P : NamesValue → Type 0) (Places : FileId → Place → Type 0) (Begins : FileId → Attributes → Bool → Type 0) (Fills : FileId → Type 0) (k : AreKept P Places Begins Fills) where
  abbrev OfDone : Done → Type 0
  OfDone d = P d.store.names

  -- it raises its flag where it sees few golds
  few_kept : (a : Store) (f : FileId) (work : Work) → P a.names → OfDone (raise_if_few a f work)
  few_kept a f work h =
      chosen OfDone (nat_lt (live_golds a f) few_golds) (raise_flag a f work) (idle a work)
      (flag_kept P Places Begins Fills k a f (own_next a f true) h) h

  pub fill_kept : (a : Store) (f : FileId) (work : Work) → Fills f → P a.names → OfDone (fill a f work)
  fill_kept a f work may h = few_kept (with_names a (names.fill a.names f)) f work (k.filled a.names f may h)

  -- ---- entries that are struck out

  marked_kept : (dirs : List FileId) (a : Store) (id : FileId) (place : Place) (work : Work) → P a.names → OfDone (marked_each a id place dirs work)
  marked_kept [] a id place work h = h
  marked_kept (dir ∷ dirs) a id place work h =
      marked_kept dirs (take_entry a dir (bare_entry id place)) id place _
      (entry_kept P Places Begins Fills k a dir (bare_entry id place) h)

  struck_kept : (a : Store) (id : FileId) (work : Work) (o : Option FileId) → P a.names → OfDone (struck_out a id work o)
  struck_kept a id work None h = h
  struck_kept a id work (Some dir) h =
      marked_kept (dirs_of a.names id) (unwished a id) id (dead_at a work.now id dir) _ h

  pub strike_kept : (a : Store) (id : FileId) (work : Work) → P a.names → OfDone (strike_out a id work)
  strike_kept a id work h =
      struck_kept a id work (last_listing a.names id (dirs_of a.names id)) h

  -- ---- what begins, and what is full

  module _ (a : Store) (id : FileId) (work : Work) (may : MayLose Places Begins Fills a work.now id) (h : P a.names) where
    -- it begins
    with_kept : (own : Attributes) → Begins id own true → P (begun_with a id own).names
    with_kept own begins =
        begin_kept P Places Begins Fills k (unfilled (with_birth a) id) id (draw_birth a) Last own true begins h

    at_kept : (o : Option Place) → last_place a.names id ≡ o → OfDone (begun_at a id work o)
    at_kept (Some p) is = with_kept (record { place = p; flags = [] }) (may.known p is)
    at_kept None is =
        let b = begun_with a id (blank_own id) in
        place_kept P Places Begins Fills k b id (root_place b work.now id) (may.placed b) (with_kept (blank_own id) may.anew)

    begin_lost_kept : OfDone (begin_lost a id work)
    begin_lost_kept =
        let d = begun_at a id work (last_place a.names id) in
        chosen OfDone (is_wanted a id) (raised id d) (idle a work)
        (flag_kept P Places Begins Fills k d.store id (own_next d.store id true) (at_kept (last_place a.names id) refl)) h

    fill_lost_kept : OfDone (fill_lost a id work)
    fill_lost_kept =
        let d = placed_lost a id work in
        fill_kept d.store id d.work may.fills
        (chosen OfDone (has_blank_place a id) (placed_in_root id a work) (idle a work)
        (place_kept P Places Begins Fills k a id (root_place a work.now id) (may.placed a) h) h)

    -- A FORGET
    pub lost_kept : OfDone (forget_lost a id work)
    lost_kept =
        chosen OfDone (is_held a id) (fill_lost a id work) (cond (is_dir id) (begin_lost a id work) (strike_out a id work)) fill_lost_kept
        (chosen OfDone (is_dir id) (begin_lost a id work) (strike_out a id work) begin_lost_kept (strike_kept a id work h))
