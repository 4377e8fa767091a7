-- Names in which one directory was removed, and nothing else changed: the house rules make no place
-- of it.
use Rattle.std.proofs.Common.{ℕ, ◌≡◌, ◌&&◌, not, Bool, true, false, List, [], ◌∷◌, ◌++◌, length, Option, None, Some, All, refl, sym, ap, subst, ◌∙◌, inl, inr}
use Rattle.std.specs.List.{filter}
use Rattle.std.proofs.lemmas.Bool.{false≢true, and_parts, or_left, or_right}
use Rattle.std.proofs.lemmas.List.{append-nil, append_assoc}
use Rattle.std.proofs.lemmas.List.Elements.{All-append, All-cons, All-nil}
use Rattle.std.proofs.lemmas.Option.{none-some, same_Some}
use Rattle.pg_run.specs.pg_base.declared.id.FileId.{FileId}
use Rattle.pg_run.specs.pg_base.Id.{is_same_file}
use Rattle.pg_run.specs.pg_base.Stamp.{is_before}
use Rattle.pg_run.proofs.pg_base.Orders.{is_same_file-refl, is_same_file-true}
use Rattle.pg_run.specs.pg_edges.declared.key.Key.TheVariants as key
use Rattle.pg_run.specs.pg_entries.declared.entry.Entry.{Entry}
use Rattle.pg_run.specs.pg_entries.Entry.{is_listed}
use Rattle.pg_run.specs.pg_register.declared.place.Place.{Place}
use Rattle.pg_run.specs.pg_register.Place.{newer_place, root, tilde_name}
use Rattle.pg_run.specs.pg_msg.declared.update.Update.{Update}
use Rattle.pg_run.specs.pg_msg.declared.update.Update.TheVariants as update
use Rattle.pg_run.specs.pg_msg.Work.{with_made, with_touched}
use Rattle.pg_run.specs.pg_names.declared.attributes.Attributes.{Attributes}
use Rattle.pg_run.specs.pg_names.Names.{NamesValue, cell_at, directories, is_dir, own_at, with_last}
use Rattle.pg_run.proofs.pg_names.Lookups.{own_other}
use Rattle.pg_run.specs.pg_house.Work.{State}
use Rattle.pg_run.specs.pg_house.Passing.{greatest, is_held_back, joined_with, own_taken, pass, pass_all}
use Rattle.pg_run.specs.pg_house.Placing.{drawn, live_place, made_at, own_with, place_at, placed, repeated}
use Rattle.pg_run.specs.pg_house.Returning.{first_returning, is_root, return_first}
use Rattle.pg_run.specs.pg_house.Cycles.{break_first, first_moving, is_live_own, moved}
use Rattle.pg_run.specs.pg_house.House.{house, movable}
use Rattle.pg_run.specs.pg_house.Facts.{AreByServer, AreOrdered, HasPassed, IsOfDirs, NoDeadLists, OwnParent, Passing, is_among}
use Rattle.pg_run.proofs.pg_house.AfterPassing.{AreDirs}
use Rattle.pg_run.proofs.pg_house.AllClimb.{IsDeep, member_deep, moving_member}
use Rattle.pg_run.proofs.pg_house.Ends.{first_dirs}
use Rattle.pg_run.proofs.pg_house.Idle.{AreHeld, pass_idle}
use Rattle.pg_run.proofs.pg_house.Made.{all_made, left_made, pass_made}
use Rattle.pg_run.proofs.pg_house.NoCycles.{some_dirs}
use Rattle.pg_run.proofs.pg_house.Ordered.{pass_ordered}
use Rattle.pg_run.proofs.pg_house.Passes.{one_pass, pass_touches}
use Rattle.pg_run.proofs.pg_house.Repeating.{none_returns, repeated_keeps, repeated_still}
use Rattle.pg_run.proofs.pg_house.Settling.{dirs_held, movable_apart, none_returns_at}
use Rattle.pg_run.proofs.pg_house.Touches.{Touches, Touches-refl, Touches-trans, kept_by}
use Rattle.pg_run.proofs.pg_house.Truths.{bool_cases, chosen_false}
use Rattle.law_names.proofs.law_passing.Coming.{ComesTo, all_come, pass_held}
use Rattle.law_names.proofs.law_passing.Movable.{is_movable}

-- ---- where every cell is older than this place, it is the greatest

not_older : (place : Place) (top : Attributes) (c : Entry) → top.place ≡ place
    → is_before place.stamp c.place.stamp ≡ false → newer_place top.place c.place ≡ place
not_older place top c same older = ap (λ (q : Place). newer_place q c.place) same
    ∙ chosen_false (is_before place.stamp c.place.stamp) c.place place older

fresh_with : (place : Place) (top : Attributes) (o : Option Entry) → top.place ≡ place
    → ((c : Entry) → o ≡ Some c → is_before place.stamp c.place.stamp ≡ false)
    → (joined_with top o).place ≡ place
fresh_with place top None same older = same
fresh_with place top (Some c) same older = not_older place top c same (older c refl)

fresh_greatest : (s : NamesValue) (f : FileId) (place : Place)
    → ((d : FileId) (c : Entry) → cell_at s d f ≡ Some c
    → is_before place.stamp c.place.stamp ≡ false)
    → (top : Attributes) → top.place ≡ place → (ds : List FileId)
    → (greatest s f top ds).place ≡ place
fresh_greatest s f place older top same [] = same
fresh_greatest s f place older top same (d ∷ ds) = fresh_greatest s f place older
    (joined_with top (cell_at s d f)) (fresh_with place top (cell_at s d f) same (older d)) ds

-- ---- where all others have passed, passing changes nothing but what is known of one thing

module _ (ds : List FileId) (d : FileId) where
  abbrev OthersPassed : NamesValue → Type 0
  OthersPassed s = (g : FileId) → is_root g ≡ false → is_same_file d g ≡ false → HasPassed s ds g

  all_touch : (t : State) (fs : List FileId) → AreDirs t.names ds → AreHeld t.names ds
      → OthersPassed t.names → ((g : FileId) → is_among g fs ≡ true → is_root g ≡ false)
      → Touches d t.names (pass_all t ds fs).names
  all_touch t [] dirs held others free = Touches-refl d t.names
  all_touch t (f ∷ fs) dirs held others free =
      let rest : (g : FileId) → is_among g fs ≡ true → is_root g ≡ false =
      λ g among. free g (or_right (is_same_file f g) _ among) in
      elim (bool_cases (is_same_file d f)) [
        | inl same ↦ (
            let P : FileId → Type 0 = λ x. Touches d t.names (pass_all (pass t ds x) ds fs).names in
            let next = pass t ds d in
            let one = one_pass t ds d dirs in
            subst P (is_same_file-true d f same)
            (Touches-trans d t.names next.names (pass_all next ds fs).names one.touches
            (all_touch next fs one.dirs (pass_held t ds d dirs held)
            (λ g moves apart. kept_by d t.names next.names one.touches ds g apart
            (others g moves apart)) rest)))
        | inr apart ↦ (
            let Q : State → Type 0 = λ x. Touches d t.names (pass_all x ds fs).names in
            let idle = pass_idle t ds f held
            (others f (free f (or_left (is_same_file f f) _ (is_same_file-refl f))) apart) in
            subst Q (sym idle) (all_touch t fs dirs held others rest))
      ]

all_ordered : (st : State) (ds fs : List FileId) → AreOrdered st.names
    → AreOrdered (pass_all st ds fs).names
all_ordered st ds [] ordered = ordered
all_ordered st ds (f ∷ fs) ordered = all_ordered (pass st ds f) ds fs (pass_ordered st ds f ordered)

-- ---- no place of it is made

abbrev pub IsOfOther : FileId → Update → Type 0
IsOfOther d u = (p : Place) → u ≡ update.Place d p → ⊥

same_file_of : (f g : FileId) (p q : Place) → update.Place f p ≡ update.Place g q → f ≡ g
same_file_of f g p q h = cc

-- these were made behind what was made before, and the directory is dead
pub record Rests (base : List Update) (d : FileId) (st : State) : Type 0 where
  pub more : List Update
  pub is : st.work.made ≡ base ++ more
  pub others : All (IsOfOther d) more
  pub dead : (own : Attributes) → own_at st.names d ≡ Some own → own.place.live ≡ false

module _ (moment : ℕ) (ds : List FileId) (base : List Update) (d : FileId) where
  live_apart : (st : State) → Rests base d st → (q : FileId) (o : Option Attributes)
      → own_at st.names q ≡ o → is_live_own o ≡ true → is_same_file q d ≡ false
  live_apart st k q None h live = absurd (false≢true live)
  live_apart st k q (Some own) h live = elim (bool_cases (is_same_file q d)) [
    | inr apart ↦ apart
    | inl same ↦ absurd (false≢true
        (sym (k.dead own (ap (own_at st.names) (sym (is_same_file-true q d same)) ∙ h)) ∙ live))
  ]

  placed_rests : (st : State) → Rests base d st → (q p : FileId) (name : List ℕ)
      → is_same_file q d ≡ false → Rests base d (placed moment ds st q p name)
  placed_rests st k q p name apart =
      let new = live_place (drawn moment st.names) p name in
      let u = update.Place q new in
      let made_now = made_at st q new in
      let late = with_last st.names new.stamp.time in
      let other : IsOfOther d u =
      λ x same. false≢true
      (sym apart ∙ ap (is_same_file q) (sym (same_file_of q d new x same))
      ∙ is_same_file-refl q) in
      record {
        more = k.more ++ u ∷ [];
        is = pass_made made_now ds q
            ∙ left_made (with_touched (with_made st.work u) q key.Place) q (place_at st.names q)
            ∙ ap (λ us. us ++ u ∷ []) k.is ∙ append_assoc base k.more (u ∷ []);
        others = All-append (IsOfOther d) k.more (u ∷ []) k.others
            (All-cons (IsOfOther d) u [] other (All-nil (IsOfOther d)));
        dead = λ own h. k.dead own
            (sym ((pass_touches made_now ds q).own d apart
            ∙ own_other late q (own_with st.names q new) d apart) ∙ h);
      }

  moved_rests : (st : State) → Rests base d st → (o : Option FileId)
      → first_moving st.names (length ds) None ds ≡ o → Rests base d (moved moment ds st o)
  moved_rests st k None h = k
  moved_rests st k (Some q) h =
      elim (moving_member st.names (length ds) None ds q h) [
        | inl never ↦ absurd (none-some q never)
        | inr m ↦ (
            let deep : IsDeep st.names q = subst (IsDeep st.names) m.2
            (member_deep st.names (length ds) m.0
            (some_dirs moment ds st.names (length ds) ds q h) m.1) in
            let live = (and_parts (not (is_root q)) _ (and_parts (is_dir q) _ deep.0).1).1 in
            placed_rests st k q root (tilde_name q)
            (live_apart st k q (own_at st.names q) refl live))
      ]

-- ---- it was removed, and nothing else changed

-- passing, own_parent, returned: no rule applied before
-- held, dead, fresh: it has a dead place, later than all that is known of it
-- empty: it listed no child
pub record IsGone (before : NamesValue) (st : State) (d : FileId) (own : Attributes) : Type 0 where
  pub passing : Passing before
  pub own_parent : OwnParent before
  pub returned : NoDeadLists before
  pub touches : Touches d before st.names
  pub cells : (q g : FileId) → cell_at st.names q g ≡ cell_at before q g
  pub held : own_at st.names d ≡ Some own
  pub dead : own.place.live ≡ false
  pub fresh : (q : FileId) (c : Entry) → cell_at before q d ≡ Some c
      → is_before own.place.stamp c.place.stamp ≡ false
  pub free : is_root d ≡ false
  pub empty : (child : FileId) (c : Entry) → cell_at before d child ≡ Some c → is_listed d c ≡ false
  pub of_dirs : IsOfDirs st.names
  pub sorted : AreByServer st.names
  pub ordered : AreOrdered st.names

module _ (moment : ℕ) (before : NamesValue) (st : State) (d : FileId) (own : Attributes)
    (k : IsGone before st d own) where
  abbrev Ds : List FileId
  Ds = directories st.names

  abbrev One : State
  One = pass_all st Ds (movable st.names)

  abbrev Top : Attributes
  Top = greatest st.names d own Ds

  dirs : AreDirs st.names Ds
  dirs = first_dirs moment st k.of_dirs k.sorted

  others_passed : OthersPassed Ds d st.names
  others_passed g free apart =
      let all : HasPassed before (directories before) g = λ o h.
      (k.passing g o h free, k.own_parent g o h free) in
      let same : directories before ≡ Ds = ap (λ qs. filter is_dir qs) (sym k.touches.keys) in
      subst (λ (ds : List FileId). HasPassed st.names ds g) same
      (kept_by d before st.names k.touches (directories before) g apart all)

  one_touch : Touches d st.names One.names
  one_touch = all_touch Ds d st (movable st.names) dirs (dirs_held st.names) others_passed
      (movable_apart st.names)

  come : ComesTo st.names One.names Ds d own Top (is_held_back st.names.removed d own Top)
  come = all_come Ds d st (movable st.names) own dirs (dirs_held st.names) k.held
      (is_movable st.names d own k.held k.free)

  top_is : Top.place ≡ own.place
  top_is = fresh_greatest st.names d own.place (λ q c h. k.fresh q c (sym (k.cells q d) ∙ h)) own
      refl Ds

  top_dead : Top.place.live ≡ false
  top_dead = ap (λ (p : Place). p.live) top_is ∙ k.dead

  taken_dead : (t : Bool) → (own_taken own Top t).place.live ≡ false
  taken_dead true = k.dead
  taken_dead false = top_dead

  one_dead : (o : Attributes) → own_at One.names d ≡ Some o → o.place.live ≡ false
  one_dead o h =
      let back = is_held_back st.names.removed d own Top in
      subst (λ (x : Attributes). x.place.live ≡ false)
      (same_Some (own_taken own Top back) o (sym come.own_is ∙ h)) (taken_dead back)

  -- still no dead directory lists a child
  none_listed : NoDeadLists One.names
  none_listed q o h dir gone child c g =
      elim (bool_cases (is_same_file d child)) [
        | inl same ↦ (
            let is = come.same q c (ap (cell_at One.names q) (is_same_file-true d child same) ∙ g)
            in
            ap (λ (e : Entry). e.place.live && is_same_file e.place.parent q) is
            ∙ ap (λ t. t && is_same_file Top.place.parent q) top_dead)
        | inr apart ↦ (
            let was : cell_at before q child ≡ Some c =
            sym (one_touch.cells q child apart ∙ k.cells q child) ∙ g in
            elim (bool_cases (is_same_file d q)) [
              | inl itself ↦ (
                  let e = is_same_file-true d q itself in
                  subst (λ (x : FileId). is_listed x c ≡ false) e
                  (k.empty child c (ap (λ (x : FileId). cell_at before x child) e ∙ was)))
              | inr other ↦ k.returned q o (sym (one_touch.own q other ∙ k.touches.own q other) ∙ h)
                  dir gone child c was
            ])
      ]

  none_back : first_returning One.names Ds ≡ None
  none_back =
      subst (λ (ds : List FileId). first_returning One.names ds ≡ None)
      (ap (λ qs. filter is_dir qs) one_touch.keys)
      (none_returns_at One.names (all_ordered st Ds (movable st.names) k.ordered) none_listed)

  one_rests : Rests st.work.made d One
  one_rests = record {
    more = [];
    is = all_made st Ds (movable st.names) ∙ sym (append-nil st.work.made);
    others = All-nil (IsOfOther d);
    dead = one_dead;
  }

  -- THE HOUSE RULES RUN
  pub house_rests : Rests st.work.made d (house moment st)
  house_rests =
      let n = length Ds in
      let P : State → Type 0 = Rests st.work.made d in
      let two : repeated n (return_first moment Ds) One ≡ One =
      repeated_still (return_first moment Ds) n One (none_returns moment Ds One none_back) in
      repeated_keeps P (break_first moment Ds)
      (λ t q. moved_rests moment Ds st.work.made d t q
      (first_moving t.names (length Ds) None Ds) refl) n _
      (subst P (sym two) one_rests)
