-- What the house rules leave at a server.
use Rattle.std.proofs.Common.{ℕ, drop, ◌≡◌, ◌+◌, Bool, true, false, cond, List, length, None, Some, refl, sym, ap, subst, ◌∙◌}
use Rattle.std.proofs.lemmas.Bool.{false≢true}
use Rattle.std.proofs.lemmas.Option.{none-some}
use Rattle.law_frame.specs.pg_run.pg_base.declared.id.FileId.{FileId}
use Rattle.law_frame.specs.pg_run.pg_base.Id.{is_same_file}
use Rattle.law_frame.specs.pg_run.pg_register.Place.{root}
use Rattle.law_frame.specs.pg_run.pg_entries.declared.entry.Entry.{Entry}
use Rattle.law_frame.specs.pg_run.pg_msg.declared.work.Work.{Work}
use Rattle.law_frame.specs.pg_run.pg_names.declared.attributes.Attributes.{Attributes}
use Rattle.law_frame.specs.pg_run.pg_names.Names.{NamesValue, cell_at, directories, own_at, own_of}
use Rattle.law_frame.specs.pg_run.pg_house.Cycles.{climb, is_inner, is_lost}
use Rattle.law_frame.specs.pg_run.pg_house.Facts.{is_among}
use Rattle.law_frame.specs.pg_run.pg_house.House.{house}
use Rattle.law_frame.specs.pg_run.pg_house.Work.{State, state_of}
use Rattle.law_frame.proofs.pg_run.pg_house.AllClimb.{none_lost}
use Rattle.law_frame.proofs.pg_run.pg_house.Ends as ends
use Rattle.law_frame.proofs.pg_run.pg_house.NoCycles.{inner_parts}
use Rattle.law_frame.specs.pg_run.pg_store.declared.store.Store.{Store}
use Rattle.law_frame.specs.pg_run.pg_store.Start.{first_names}
use Rattle.law_frame.specs.pg_run.pg_store.Store.{with_names}
use Rattle.law_frame.specs.pg_run.pg_cells.Settling.{rules}
use Rattle.law_frame.specs.pg_run.theory_flood_pieces.Whole.{AreOrderly}
use Rattle.law_frame.proofs.pg_run.theory_flood_pieces.Start.{Root, no_entry}
use Rattle.law_frame.proofs.pg_run.theory_flood_pieces.Touching.{same_names}
use Rattle.law_frame.specs.pg_run.Laws.{IsInOrder}
use Rattle.law_order.specs.Sound.{IsSettled, NoneLost}

-- ---- behind the house rules

module _ (moment : ℕ) (st : State) (o : AreOrderly st.names) where
  abbrev End : NamesValue
  End = (house moment st).names

  order_behind : IsInOrder End
  order_behind = record {
    passing = ends.passing moment st o.dirs o.sorted;
    own_parent = ends.own_parent moment st o.dirs o.sorted;
    returned = ends.no_dead_directory_lists moment st o.dirs o.sorted o.last;
    no_cycle = ends.no_cycle moment st o.dirs o.sorted o.last;
  }

  found_behind : NoneLost End
  found_behind d among =
      let same : directories End ≡ directories st.names = ends.same_dirs moment st o.dirs o.sorted in
      subst (λ (ds : List FileId). is_lost End (length ds) d ≡ false) (sym same)
      (none_lost End (length (directories st.names)) None (directories st.names) d
      (ends.none_moves_at moment st o.dirs o.sorted o.last) (ap (is_among d) (sym same) ∙ among))

  settled_behind : IsSettled End
  settled_behind = record { order = order_behind; found = found_behind }

pub settled : (a : Store) (work : Work) → AreOrderly a.names → IsSettled (rules a work).store.names
settled a work o =
    let st = house work.now (state_of a.names work) in
    subst IsSettled (sym (same_names (with_names a st.names) (drop (length work.touched) st.work.touched))) (settled_behind work.now (state_of a.names work) o)

-- ---- at the start

none_else : (n : ℕ) (b : Attributes) (t : Bool) → own_of (cond t (Some (Root n)) None) ≡ Some b → t ≡ false → ⊥
none_else n b true h apart = false≢true (sym apart)
none_else n b false h apart = none-some b h

module _ (n s : ℕ) where
  abbrev First : NamesValue
  First = first_names n s

  no_cell : (d g : FileId) (c : Entry) → cell_at First d g ≡ Some c → ⊥
  no_cell d g c h = no_entry n g c (is_same_file d root) h

  no_other : (f : FileId) (b : Attributes) → own_at First f ≡ Some b → is_same_file f root ≡ false → ⊥
  no_other f b h apart = none_else n b (is_same_file f root) h apart

  none_inner_by : (d : FileId) (t : Bool) → is_inner First d ≡ t → t ≡ false
  none_inner_by d false e = refl
  none_inner_by d true e = let live = inner_parts First d e in absurd (no_other d live.held.0 live.held.1 live.other)

  none_inner : (d : FileId) → is_inner First d ≡ false
  none_inner d = none_inner_by d (is_inner First d) refl

  pub settled_first : IsSettled First
  settled_first = record {
    order = record {
      passing = λ f b h apart. absurd (no_other f b h apart);
      own_parent = λ f b h apart. absurd (no_other f b h apart);
      returned = λ d b h dir gone g c at. absurd (no_cell d g c at);
      no_cycle = λ d k inner h. false≢true (sym (none_inner d) ∙ inner);
    };
    found = λ d among. none_inner (climb First (length (directories First) + length (directories First)) d);
  }
