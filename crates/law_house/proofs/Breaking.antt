-- Broken cycles as steps: the least of the latest members moves, each time.
use Rattle.std.proofs.Common.{◌≡◌, ℕ, zero, suc, ◌&&◌, true, false, not, List, length, Option, None, Some, refl, sym, ap, ◌∙◌, subst, inl, inr}
use Rattle.std.proofs.lemmas.Bool.{and_parts, false≢true, not-true}
use Rattle.pg_run.specs.pg_base.declared.id.FileId.{FileId}
use Rattle.pg_run.specs.pg_base.Id.{is_same_file}
use Rattle.pg_run.specs.pg_entries.declared.entry.Entry.{Entry}
use Rattle.pg_run.specs.pg_entries.Entry.{is_listed}
use Rattle.pg_run.specs.pg_house.Cycles.{break_first, first_moving, moved}
use Rattle.pg_run.specs.pg_house.Facts.{NoDeadLists}
use Rattle.pg_run.specs.pg_house.Passing.{is_in}
use Rattle.pg_run.specs.pg_house.Placing.{drawn, live_place, placed, repeated}
use Rattle.pg_run.specs.pg_house.Returning.{is_dead}
use Rattle.pg_run.specs.pg_house.Work.{State, is_root}
use Rattle.pg_run.specs.pg_names.declared.attributes.Attributes.{Attributes}
use Rattle.pg_run.specs.pg_names.Names.{NamesValue, cell_at, directories, is_dir, own_at}
use Rattle.pg_run.specs.pg_register.declared.place.Place.{Place}
use Rattle.pg_run.specs.pg_register.Place.{root, tilde_name}
use Rattle.pg_run.proofs.pg_base.Orders.{is_same_file-true}
use Rattle.pg_run.proofs.pg_house.AllReturned.{not_dead}
use Rattle.pg_run.proofs.pg_house.NoCycles.{IsLive, KeepsAll, inner_parts}
use Rattle.pg_run.proofs.pg_house.Placed.{placed_cells, placed_is_last, placed_own, placed_settled, placed_touches}
use Rattle.pg_run.proofs.pg_house.Truths.{bool_cases}
use Rattle.pg_run.proofs.pg_names.Lookups.{apart_back}
use Rattle.law_house.specs.Standing.{IsLeastLatest, IsWhoMoves}
use Rattle.law_house.specs.Steps.{NoneReturns}
use Rattle.law_house.proofs.Climbing.{round_of}
use Rattle.law_house.proofs.Drawn.{dead_by, drawn_is}
use Rattle.law_house.proofs.Moving.{who_moves}
use Rattle.law_house.proofs.Placing.{none_passes, placed_reaches, placed_same}
use Rattle.law_house.proofs.Walking.{Reaches, and_then}

pub none_returns : (s : NamesValue) → NoDeadLists s → NoneReturns s
none_returns s none d r =
    false≢true (sym (none d r.own r.held r.kind (dead_by d r.own.place r.other r.dead r.made) r.child r.cell r.has) ∙ r.lists)

module _ (moment : ℕ) (ds : List FileId) where
  -- between two rules, where no directory is to come back
  pub record KeptAll (st : State) : Type 0 where
    pub same : directories st.names ≡ ds
    pub all : KeepsAll moment ds st

  abbrev Goes : State → State → Type 0
  Goes st next = Reaches moment st next × KeptAll next

  -- ---- who moves to the root makes none come back

  module _ (st : State) (k : KeptAll st) (d : FileId) (live : IsLive st.names d) where
    abbrev New : Place
    New = live_place (drawn moment st.names) root (tilde_name d)

    abbrev After : NamesValue
    After = (placed moment ds st d root (tilde_name d)).names

    listed_by : (q child : FileId) (c : Entry) (own : Attributes) → own_at st.names q ≡ Some own → is_dir q ≡ true
        → is_dead q own.place ≡ true → cell_at After q child ≡ Some c
        → is_listed q c ≡ false
    listed_by q child c own h kind gone g = elim (bool_cases (is_same_file d child)) [
      | inl same ↦
          let new : c.place ≡ New =
          placed_cells moment ds st d root (tilde_name d) k.all.0 k.all.1 live.held q c
          (ap (cell_at After q) (is_same_file-true d child same) ∙ g) in
          let other = not-true (is_root q) (and_parts (not (is_root q)) _ gone).0 in
          ap (λ (p : Place). p.live && is_in q p) new ∙ apart_back q root other
      | inr apart ↦
          k.all.2 q own h kind gone child c
          (sym ((placed_touches moment ds st d root (tilde_name d) k.all.0.dirs).cells q child apart) ∙ g)
    ]

    none_lists : NoDeadLists After
    none_lists q own h kind gone child c g = elim (bool_cases (is_same_file d q)) [
      | inl same ↦
          let new : own.place ≡ New =
          placed_own moment ds st d root (tilde_name d) k.all.0 k.all.1 live.held own
          (ap (own_at After) (is_same_file-true d q same) ∙ h) in
          absurd (false≢true (sym (not_dead q own.place (ap (λ (p : Place). p.live) new)) ∙ gone))
      | inr apart ↦
          listed_by q child c own
          (sym ((placed_touches moment ds st d root (tilde_name d) k.all.0.dirs).own q apart) ∙ h) kind gone g
    ]

  -- ---- moves

  one_break : (st : State) → KeptAll st → (o : Option FileId) → first_moving st.names (length ds) None ds ≡ o → Goes st (moved moment ds st o)
  one_break st k None h = ((0, refl), k)
  one_break st k (Some d) h =
      let who : IsLeastLatest st.names d =
      subst (IsWhoMoves st.names) (ap (λ es. first_moving st.names (length es) None es) k.same ∙ h) (who_moves st.names) in
      let live = inner_parts st.names d (round_of st.names d who.latest.cycle).inner in (
        placed_reaches moment ds st k.same k.all.0 d root (tilde_name d) live.other
            (inr (inr (record {
              passed = none_passes moment ds st k.same k.all.0;
              returned = none_returns st.names k.all.2;
              dir = d;
              applies = who;
              stamp = drawn_is moment st.names;
              does = refl;
            }))),
        record {
          same = placed_same moment ds st k.same k.all.0 d root (tilde_name d);
          all = (
            placed_settled moment ds st d root (tilde_name d) k.all.0,
            placed_is_last moment ds st d root (tilde_name d) k.all.0 k.all.1 live.held,
            none_lists st k d live,
          );
        },
      )

  pub all_break : (n : ℕ) (st : State) → KeptAll st → Goes st (repeated n (break_first moment ds) st)
  all_break zero st k = ((0, refl), k)
  all_break (suc n) st k =
      let one = one_break st k (first_moving st.names (length ds) None ds) refl in
      let next = break_first moment ds st in
      let more = all_break n next one.1 in
      (and_then moment st next (repeated n (break_first moment ds) next) one.0 more.0, more.1)
