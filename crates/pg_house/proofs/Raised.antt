-- A flag that comes to a thing of calm names passes to the cells for the thing, and nothing else
-- changes.
use Rattle.std.proofs.Common.{◌≡◌, ℕ, Bool, true, false, ◌&&◌, ◌||◌, not, List, length, Option, None, Some, refl, sym, ap, ◌∙◌, subst, inl, inr}
use Rattle.std.specs.List.{filter}
use Rattle.std.specs.Map.{keys_of}
use Rattle.std.proofs.lemmas.Bool.{false≢true, not_from_false}
use Rattle.std.proofs.lemmas.Option.{same_Some}
use Rattle.pg_base.specs.declared.id.FileId.{FileId}
use Rattle.pg_base.specs.Id.{is_same_file}
use Rattle.pg_base.specs.Stamp.{is_before}
use Rattle.pg_base.proofs.Orders.{is_same_file-true}
use Rattle.pg_register.specs.declared.flag.Flag.{Flag}
use Rattle.pg_register.specs.declared.place.Place.{Place}
use Rattle.pg_register.specs.Flag.{is_removed}
use Rattle.pg_register.specs.Place.{root}
use Rattle.pg_entries.specs.declared.entry.Entry.{Entry}
use Rattle.pg_entries.specs.Entry.{is_listed}
use Rattle.pg_names.specs.declared.attributes.Attributes.{Attributes}
use Rattle.pg_names.specs.Names.{NamesValue, cell_at, directories, is_dir, own_at, with_flag}
use Rattle.pg_names.proofs.Alike.{own_of_parts}
use Rattle.pg_names.proofs.Lookups.{apart_back, flag_cell, flag_same, known_absent, own_with_flag}
use Rattle.pg_house.specs.Work.{State}
use Rattle.pg_house.specs.Passing.{cell_for, greatest, is_cell, is_held_back, is_in, is_update, own_taken, pass, pass_all, pass_own, spread, wants}
use Rattle.pg_house.specs.Returning.{first_returning, is_dead, is_root}
use Rattle.pg_house.specs.Cycles.{first_moving}
use Rattle.pg_house.specs.House.{house, house_with, movable}
use Rattle.pg_house.specs.Facts.{AreOrdered, HasPassed, IsPassed, NoDeadLists, is_among}
use Rattle.pg_house.specs.Calm.{DiffersByFlags, IsCalm, IsSameOrPlaced, flagged, held_place}
use Rattle.pg_house.proofs.Truths.{bool_cases}
use Rattle.pg_house.proofs.Flags.{join_again}
use Rattle.pg_house.proofs.AfterPassing.{AreDirs}
use Rattle.pg_house.proofs.Touches.{kept_by, passed_of}
use Rattle.pg_house.proofs.Passes.{one_pass}
use Rattle.pg_house.proofs.Counting.{among_kept}
use Rattle.pg_house.proofs.Spreading.{spread_child, spread_frame, spread_own}
use Rattle.pg_house.proofs.Fullness.{spread_full}
use Rattle.pg_house.proofs.Idle.{AreHeld, pass_idle, taking_same, wanting}
use Rattle.pg_house.proofs.Ends.{first_dirs, key_of_held}
use Rattle.pg_house.proofs.Ordered.{pass_ordered}
use Rattle.pg_house.proofs.Settling.{all_idle, calm_behind, calm_stays, dirs_held, has_passed, movable_apart, none_returns_at, rules_end}
use Rattle.pg_house.proofs.Flagging.{flagged_by_server, flagged_dirs, flagged_frame, flagged_last, flagged_ordered, flagged_place, flagged_touches, greatest_beside, was_held}
use Rattle.pg_house.proofs.Unmoved.{first_same}
use Rattle.pg_house.proofs.Alone.{HaveCells, only_one, spread_spreads, spread_work}

-- nothing changes
pub differs_not : (f : FileId) (st : State) → DiffersByFlags f st st
differs_not f st = record {
  own = λ q. refl;
  others = λ d g apart. refl;
  cells = λ d. inl refl;
  full = λ q. refl;
  keys = refl;
  last = refl;
  server = refl;
  removed = refl;
  work = refl;
}

module _ (moment : ℕ) (st : State) (f : FileId) (flag : Flag) (calm : IsCalm st.names) where
  abbrev S : NamesValue
  S = st.names

  abbrev pub Raised : State
  Raised = flagged st f flag

  abbrev R : NamesValue
  R = Raised.names

  abbrev Ds : List FileId
  Ds = directories S

  same_dirs : directories R ≡ Ds
  same_dirs = ap (filter is_dir) (flagged_frame S f flag).keys

  -- names are calm again behind the rules
  pub raised_calm : IsCalm (house moment Raised).names
  raised_calm =
      calm_behind moment Raised (flagged_dirs S f flag calm.of_dirs) (flagged_by_server S f flag calm.by_server)
      (flagged_last S f flag calm.last) (flagged_ordered S f flag calm.ordered)

  -- ---- what stands where it stood

  -- in the end no dead directory lists a child
  listed_by : (t : State) → DiffersByFlags f Raised t → (d : FileId) (own : Attributes) → own_at S d ≡ Some own → is_dir d ≡ true → is_dead d own.place ≡ true
      → (child : FileId) (c : Entry) → cell_at t.names d child ≡ Some c → (b : Bool) → is_same_file f child ≡ b → is_listed d c ≡ false
  listed_by t k d own h dir gone child c g false apart =
      calm.no_dead_lists d own h dir gone child c (sym (k.others d child apart ∙ flag_cell S f flag d child) ∙ g)
  listed_by t k d own h dir gone child c g true same =
      let e = is_same_file-true f child same in
      let there : cell_at t.names d f ≡ Some c = ap (cell_at t.names d) e ∙ g in
      elim (k.cells d) [
        | inl as_before ↦ calm.no_dead_lists d own h dir gone f c (sym (as_before ∙ flag_cell S f flag d f) ∙ there)
        | inr some ↦
            let here : some.1 ≡ c = same_Some some.1 c (sym some.3 ∙ there) in
            ap (λ (p : Place). p.live && is_same_file p.parent d) (ap (λ (x : Entry). x.place) (sym here) ∙ some.4)
            ∙ calm.no_dead_lists d own h dir gone f some.0 (sym (flag_cell S f flag d f) ∙ some.2)
      ]

  no_lists : (t : State) → DiffersByFlags f Raised t → NoDeadLists t.names
  no_lists t k d own h dir gone child c g =
      let was = was_held S f flag d own (sym (k.own d) ∙ h) in
      listed_by t k d was.0 was.1 dir (ap (is_dead d) (sym was.2) ∙ gone) child c g (is_same_file f child) refl

  -- and no cycle breaks
  none_moves : (t : State) → DiffersByFlags f Raised t → first_moving t.names (length Ds) None Ds ≡ None
  none_moves t k =
      first_same S t.names (λ q. ap held_place (k.own q) ∙ flagged_place S f flag q) (length Ds) None Ds ∙ calm.none_moves

  -- so the rules end with passing
  ends : (t : State) → DiffersByFlags f Raised t → AreOrdered t.names → pass_all Raised Ds (movable R) ≡ t → house moment Raised ≡ t
  ends t k ordered passed =
      let dirs : directories t.names ≡ Ds = ap (filter is_dir) k.keys ∙ same_dirs in
      ap (λ ds. house_with moment ds (movable R) Raised) same_dirs
      ∙ rules_end moment Ds (movable R) Raised t passed
      (ap (first_returning t.names) (sym dirs) ∙ none_returns_at t.names ordered (no_lists t k)) (none_moves t k)

  -- ---- the other things have passed

  dirs_there : AreHeld R Ds
  dirs_there = subst (AreHeld R) same_dirs (dirs_held R)

  others : (g : FileId) → is_among g (movable R) ≡ true → is_same_file f g ≡ false → HasPassed R Ds g
  others g among apart =
      kept_by f S R (flagged_touches S f flag) Ds g apart
      (has_passed S calm g (movable_apart R g among))

  -- nothing passes to the root
  of_root : is_root f ≡ true → house moment Raised ≡ Raised
  of_root is =
      let e : f ≡ root = is_same_file-true f root is in
      ends Raised (differs_not f Raised) (flagged_ordered S f flag calm.ordered)
      (all_idle Raised Ds (movable R) dirs_there
      (λ g among. others g among (ap (λ q. is_same_file q g) e ∙ apart_back g root (movable_apart R g among))))

  of_none : own_at S f ≡ None → house moment Raised ≡ Raised
  of_none h =
      let e : Raised ≡ st = ap (λ (n : NamesValue). let u : State = record { names = n; work = st.work } in u) (known_absent S f (with_flag flag) h) in
      ap (house moment) e ∙ calm_stays moment st calm ∙ sym e

  -- ---- the thing itself passes

  module _ (own : Attributes) (held : own_at S f ≡ Some own) (other : is_root f ≡ false) where
    k : IsPassed S Ds f own
    k = calm.passing f own held other

    abbrev More : Attributes
    More = own_with_flag flag own

    abbrev Old : Attributes
    Old = greatest S f own Ds

    abbrev New : Attributes
    New = greatest R f More Ds

    beside : (New.place ≡ Old.place) × (New.flags ≡ More.flags)
    beside =
        greatest_beside S R f own.flags More.flags (join_again own.flags flag (calm.by_server f own held)) (λ d. flag_cell S f flag d f)
        (λ d c h. ap (λ (e : Entry). e.flags) (k.cells d c h) ∙ sym k.flags) own More Ds (refl, refl)

    abbrev Back : Bool
    Back = is_held_back R.removed f More New

    back_same : Back ≡ is_held_back S.removed f own Old
    back_same =
        ap (λ r. is_held_back r f More New) (flagged_frame S f flag).removed
        ∙ ap (λ (p : Place). is_dir f && (not p.live && (is_before own.place.stamp p.stamp && not (is_removed S.removed p.stamp.server)))) beside.0

    have_cells : HaveCells f More New Back Raised Ds
    have_cells q among w =
        let cell = flag_cell S f flag q f in
        let P : Option Entry → Place → Bool → Type 0 = λ o p b. (is_cell o || ((is_update p && is_in q p) || (b && (own.place.live && is_in q own.place)))) ≡ true in
        let one : P (cell_at S q f) New.place Back = subst (λ o. P o New.place Back) cell w in
        let two : P (cell_at S q f) Old.place Back = subst (λ p. P (cell_at S q f) p Back) beside.0 one in
        let three : wants S f own Old (is_held_back S.removed f own Old) q ≡ true = subst (P (cell_at S q f) Old.place) back_same two in
        ap is_cell cell ∙ wanting st Ds f own (dirs_held S) held k (calm.own_parent f own held other) (is_held_back S.removed f own Old) q among three

    taken_by : (t : Bool) → is_held_back S.removed f own Old ≡ t → own_taken More New t ≡ More
    taken_by true b = own_of_parts own.place own.place New.flags More.flags refl beside.1
    taken_by false b =
        let still : Old.place ≡ own.place = elim k.place [
          | inl same ↦ ap (λ (o : Attributes). o.place) (sym same)
          | inr back ↦ absurd (false≢true (sym b ∙ back))
        ] in
        own_of_parts New.place own.place New.flags More.flags (beside.0 ∙ still) beside.1

    abbrev End : State
    End = spread Raised f More New Back Ds

    passes : pass Raised Ds f ≡ End
    passes =
        ap (pass_own Raised Ds f) (flag_same S f flag own held)
        ∙ taking_same End f More (own_taken More New Back) (ap (own_taken More New) back_same ∙ taken_by (is_held_back S.removed f own Old) refl)

    cells_by : (d : FileId) → IsSameOrPlaced (cell_at R d f) (cell_at End.names d f)
    cells_by d =
        elim (spread_spreads f More New Back Raised Ds have_cells d) [
          | inl same ↦ inl same
          | inr some ↦
              let was : some.0 ≡ cell_for f Old = k.cells d some.0 (sym (flag_cell S f flag d f) ∙ some.1) in
              inr (some.0, cell_for f New, some.1, some.2, beside.0 ∙ ap (λ (e : Entry). e.place) (sym was))
        ]

    differs : DiffersByFlags f Raised End
    differs =
        let frame = spread_frame Raised f More New Back Ds in
        record {
          own = λ q. spread_own Raised f More New Back Ds q;
          others = λ d g apart. spread_child Raised f More New Back Ds d g (apart_back f g apart);
          cells = cells_by;
          full = λ q. spread_full q Raised f More New Back Ds;
          keys = frame.keys;
          last = frame.last;
          server = frame.server;
          removed = frame.removed;
          work = spread_work f More New Back Raised Ds;
        }

    dirs : AreDirs R Ds
    dirs = subst (AreDirs R) same_dirs (first_dirs moment Raised (flagged_dirs S f flag calm.of_dirs) (flagged_by_server S f flag calm.by_server))

    all_passed : (g : FileId) → is_among g (movable R) ≡ true → HasPassed End.names Ds g
    all_passed g among =
        let one = one_pass Raised Ds f dirs in
        subst (λ (t : State). HasPassed t.names Ds g) passes
        (passed_of f R (pass Raised Ds f).names one.touches Ds one.passed g
        (elim (bool_cases (is_same_file f g)) [ inl same ↦ inl same | inr apart ↦ inr (others g among apart) ]))

    end_dirs : AreHeld End.names Ds
    end_dirs = subst (AreHeld End.names) (ap (filter is_dir) differs.keys ∙ same_dirs) (dirs_held End.names)

    alone : pass_all Raised Ds (movable R) ≡ End
    alone =
        only_one Raised End Ds f passes (movable R)
        (λ g among apart. pass_idle Raised Ds g dirs_there (others g among apart))
        (λ g among. pass_idle End Ds g end_dirs (all_passed g among))
        (among_kept (λ q. not (is_root q)) (keys_of R.held) f (key_of_held R f More (flag_same S f flag own held)) (not_from_false (is_root f) other))

    of_held : DiffersByFlags f Raised (house moment Raised)
    of_held =
        let ordered : AreOrdered End.names = subst (λ (t : State). AreOrdered t.names) passes (pass_ordered Raised Ds f (flagged_ordered S f flag calm.ordered)) in
        subst (DiffersByFlags f Raised) (sym (ends End differs ordered alone)) differs

  by_own : (o : Option Attributes) → own_at S f ≡ o → (t : Bool) → is_root f ≡ t → DiffersByFlags f Raised (house moment Raised)
  by_own None h t e = subst (DiffersByFlags f Raised) (sym (of_none h)) (differs_not f Raised)
  by_own (Some own) h true e = subst (DiffersByFlags f Raised) (sym (of_root e)) (differs_not f Raised)
  by_own (Some own) h false e = of_held own h e

  -- but for the flags in the cells for the thing all is as it was
  pub raised_differs : DiffersByFlags f Raised (house moment Raised)
  raised_differs = by_own (own_at S f) refl (is_root f) refl
