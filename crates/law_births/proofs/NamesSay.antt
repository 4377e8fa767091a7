-- What is said of all flags that are known is said of them behind each change of names, and behind
-- the house rules.
use Rattle.std.proofs.Common.{ℕ, ◌≡◌, zero, suc, Bool, true, false, cond, List, [], ◌∷◌, length, Option, None, Some, All, refl, sym, ap, subst, ◌∙◌}
use Rattle.std.proofs.lemmas.List.Elements.{All-nil}
use Rattle.std.proofs.lemmas.Option.{none-some, same_Some}
use Rattle.pg_run.specs.pg_base.declared.id.FileId.{FileId}
use Rattle.pg_run.specs.pg_base.Id.{file_cmp, is_same_file}
use Rattle.pg_run.proofs.pg_base.Maps.{lookup-insert_entry}
use Rattle.pg_run.proofs.pg_base.Orders.{file_total, is_same_file-true}
use Rattle.pg_run.specs.pg_register.declared.flag.Flag.{Flag}
use Rattle.pg_run.specs.pg_register.declared.place.Place.{Place}
use Rattle.pg_run.specs.pg_register.Place.{root, tilde_name}
use Rattle.pg_run.specs.pg_entries.declared.entry.Entry.{Entry}
use Rattle.pg_run.specs.pg_entries.Entry.{entry_of, joined_to}
use Rattle.pg_run.proofs.pg_entries.Found.{joined_is_found}
use Rattle.pg_run.specs.pg_names.declared.attributes.Attributes.{Attributes}
use Rattle.pg_run.specs.pg_names.Names.{InodeValue, NamesValue, begin, cell_at, changed, directories, entry_in, fill, filled, join_entry, join_flag, join_place, known, new_held, own_at, own_of, set_entry, set_own, update, with_entry, with_flag, with_joined, with_last, with_own, with_place}
use Rattle.pg_run.specs.pg_names.Same.{is_same_own}
use Rattle.pg_run.proofs.pg_names.Holding.{begun_known}
use Rattle.pg_run.proofs.pg_names.Lookups.{known_held, update_frame}
use Rattle.pg_run.specs.pg_house.Cycles.{break_first, first_moving, moved}
use Rattle.pg_run.specs.pg_house.House.{house, movable}
use Rattle.pg_run.specs.pg_house.Passing.{cell_for, gets, given, greatest, is_held_back, joined_with, own_taken, pass, pass_all, pass_own, spread, took}
use Rattle.pg_run.specs.pg_house.Placing.{drawn, flags_of, live_place, made_at, own_with, place_at, placed, repeated}
use Rattle.pg_run.specs.pg_house.Returning.{first_returning, return_first, returned}
use Rattle.pg_run.specs.pg_house.Work.{State}
use Rattle.law_births.specs.Flags.{SaysEntry, SaysNames}
use Rattle.law_births.proofs.Joined.{join_all, joins_all}

-- ---- what is held of one thing changes

module _ (Q : FileId → Flag → Type 0) (n : ℕ) (s : NamesValue) (f : FileId) (change : InodeValue → InodeValue) (k : SaysNames Q n s)
    (owns : (x : InodeValue) → known s f ≡ Some x → All (Q f) (change x).own.flags)
    (cells : (x : InodeValue) (g : FileId) (c : Entry) → known s f ≡ Some x → entry_of (change x).entries g ≡ Some c
    → (c.child ≡ g) × All (Q g) c.flags) where
  own_if : (q : FileId) (b : Attributes) (x : InodeValue) (t : Bool) → known s f ≡ Some x → is_same_file f q ≡ t
      → own_of (cond t (Some (change x)) (known s q)) ≡ Some b → All (Q q) b.flags
  own_if q b x true there e here =
      let P : FileId → Type 0 = λ z. All (Q z) b.flags in
      let R : Attributes → Type 0 = λ o. All (Q f) o.flags in
      subst P (is_same_file-true f q e) (subst R (same_Some (change x).own b here) (owns x there))
  own_if q b x false there e here = k.own q b here

  own_by : (o : Option InodeValue) → known s f ≡ o → (q : FileId) (b : Attributes) → own_at (changed s f change o) q ≡ Some b → All (Q q) b.flags
  own_by None there q b here = k.own q b here
  own_by (Some x) there q b here =
      own_if q b x (is_same_file f q) there refl (sym (ap own_of (known_held s f x (change x) q there)) ∙ here)

  cell_if : (q g : FileId) (c : Entry) (x : InodeValue) (t : Bool) → known s f ≡ Some x → is_same_file f q ≡ t
      → entry_in g (cond t (Some (change x)) (known s q)) ≡ Some c → (c.child ≡ g) × All (Q g) c.flags
  cell_if q g c x true there e here = cells x g c there here
  cell_if q g c x false there e here = k.cells q g c here

  cell_by : (o : Option InodeValue) → known s f ≡ o → (q g : FileId) (c : Entry) → cell_at (changed s f change o) q g ≡ Some c
      → (c.child ≡ g) × All (Q g) c.flags
  cell_by None there q g c here = k.cells q g c here
  cell_by (Some x) there q g c here =
      cell_if q g c x (is_same_file f q) there refl (sym (ap (entry_in g) (known_held s f x (change x) q there)) ∙ here)

  pub says_update : SaysNames Q n (update s f change)
  says_update = record {
    server = (update_frame s f change).server ∙ k.server;
    own = own_by (known s f) refl;
    cells = cell_by (known s f) refl;
  }

module _ (Q : FileId → Flag → Type 0) (n : ℕ) where
  -- ---- each change of names

  known_flags : (s : NamesValue) (f : FileId) (x : InodeValue) → SaysNames Q n s → known s f ≡ Some x → All (Q f) x.own.flags
  known_flags s f x k there = k.own f x.own (ap own_of there)

  known_cells : (s : NamesValue) (f : FileId) (x : InodeValue) (g : FileId) (c : Entry) → SaysNames Q n s → known s f ≡ Some x
      → entry_of x.entries g ≡ Some c → (c.child ≡ g) × All (Q g) c.flags
  known_cells s f x g c k there here = k.cells f g c (ap (entry_in g) there ∙ here)

  pub says_last : (s : NamesValue) (time : ℕ) → SaysNames Q n s → SaysNames Q n (with_last s time)
  says_last s time k = record { server = k.server; own = k.own; cells = k.cells }

  pub says_place : (s : NamesValue) (f : FileId) (place : Place) → SaysNames Q n s → SaysNames Q n (join_place s f place)
  says_place s f place k =
      says_update Q n s f (with_place place) k (λ x there. known_flags s f x k there) (λ x g c there here. known_cells s f x g c k there here)

  pub says_flag : (s : NamesValue) (f : FileId) (flag : Flag) → Q f flag → SaysNames Q n s → SaysNames Q n (join_flag s f flag)
  says_flag s f flag one k =
      says_update Q n s f (with_flag flag) k (λ x there. join_all (Q f) x.own.flags flag (known_flags s f x k there) one)
      (λ x g c there here. known_cells s f x g c k there here)

  pub says_fill : (s : NamesValue) (f : FileId) → SaysNames Q n s → SaysNames Q n (fill s f)
  says_fill s f k =
      says_update Q n s f filled k (λ x there. known_flags s f x k there) (λ x g c there here. known_cells s f x g c k there here)

  pub says_own : (s : NamesValue) (f : FileId) (own : Attributes) → All (Q f) own.flags → SaysNames Q n s → SaysNames Q n (set_own s f own)
  says_own s f own all k =
      says_update Q n s f (with_own own) k (λ x there. all) (λ x g c there here. known_cells s f x g c k there here)

  -- a cell that comes is joined to the one that is there
  joined_says : (e : Entry) (o : Option Entry) (g : FileId) → e.child ≡ g → All (Q e.child) e.flags
      → ((c : Entry) → o ≡ Some c → (c.child ≡ g) × All (Q g) c.flags) → ((joined_to o e).child ≡ g) × All (Q g) (joined_to o e).flags
  joined_says e None g child all was = (child, let P : FileId → Type 0 = λ z. All (Q z) e.flags in subst P child all)
  joined_says e (Some c) g child all was =
      let here = was c refl in
      let P : FileId → Type 0 = λ z. All (Q z) e.flags in
      (here.0, joins_all (Q g) e.flags c.flags here.1 (subst P child all))

  joined_if : (e c : Entry) (o : Option Entry) (g : FileId) (t : Bool) → is_same_file g e.child ≡ t → All (Q e.child) e.flags
      → ((x : Entry) → o ≡ Some x → (x.child ≡ g) × All (Q g) x.flags) → cond t (Some (joined_to o e)) o ≡ Some c
      → (c.child ≡ g) × All (Q g) c.flags
  joined_if e c o g true same all was here =
      let P : Entry → Type 0 = λ z. (z.child ≡ g) × All (Q g) z.flags in
      subst P (same_Some (joined_to o e) c here) (joined_says e o g (sym (is_same_file-true g e.child same)) all was)
  joined_if e c o g false other all was here = was c here

  pub says_entry : (s : NamesValue) (d : FileId) (e : Entry) → SaysEntry Q e → SaysNames Q n s → SaysNames Q n (join_entry s d e)
  says_entry s d e all k =
      says_update Q n s d (with_joined e) k (λ x there. known_flags s d x k there)
      (λ x g c there here. joined_if e c (entry_of x.entries g) g (is_same_file g e.child) refl all
      (λ z was. known_cells s d x g z k there was) (sym (joined_is_found x.entries e g) ∙ here))

  put_if : (e c : Entry) (o : Option Entry) (g : FileId) (t : Bool) → is_same_file g e.child ≡ t → All (Q e.child) e.flags
      → ((x : Entry) → o ≡ Some x → (x.child ≡ g) × All (Q g) x.flags) → cond t (Some e) o ≡ Some c → (c.child ≡ g) × All (Q g) c.flags
  put_if e c o g true same all was here =
      let P : Entry → Type 0 = λ z. (z.child ≡ g) × All (Q g) z.flags in
      let R : FileId → Type 0 = λ z. All (Q z) e.flags in
      let child : e.child ≡ g = sym (is_same_file-true g e.child same) in
      subst P (same_Some e c here) (child, subst R child all)
  put_if e c o g false other all was here = was c here

  pub says_cell : (s : NamesValue) (d : FileId) (e : Entry) → SaysEntry Q e → SaysNames Q n s → SaysNames Q n (set_entry s d e)
  says_cell s d e all k =
      says_update Q n s d (with_entry e) k (λ x there. known_flags s d x k there)
      (λ x g c there here. put_if e c (entry_of x.entries g) g (is_same_file g e.child) refl all
      (λ z was. known_cells s d x g z k there was) (sym (lookup-insert_entry file_cmp file_total g e.child e x.entries) ∙ here))

  -- one thing more is held
  begun_own : (s : NamesValue) (f : FileId) (own : Attributes) (full : Bool) (q : FileId) (b : Attributes) (t : Bool) → is_same_file q f ≡ t
      → All (Q f) own.flags → SaysNames Q n s → own_of (cond t (Some (new_held own full)) (known s q)) ≡ Some b → All (Q q) b.flags
  begun_own s f own full q b true e all k here =
      let P : FileId → Type 0 = λ z. All (Q z) b.flags in
      let R : Attributes → Type 0 = λ o. All (Q f) o.flags in
      subst P (sym (is_same_file-true q f e)) (subst R (same_Some own b here) all)
  begun_own s f own full q b false e all k here = k.own q b here

  begun_cell : (s : NamesValue) (own : Attributes) (full : Bool) (q g : FileId) (c : Entry) (t : Bool) → SaysNames Q n s
      → entry_in g (cond t (Some (new_held own full)) (known s q)) ≡ Some c → (c.child ≡ g) × All (Q g) c.flags
  begun_cell s own full q g c true k here = absurd (none-some c here)
  begun_cell s own full q g c false k here = k.cells q g c here

  pub says_begin : (s : NamesValue) (f : FileId) (own : Attributes) (full : Bool) → All (Q f) own.flags → SaysNames Q n s
      → SaysNames Q n (begin s f own full)
  says_begin s f own full all k = record {
    server = k.server;
    own = λ q b here. begun_own s f own full q b (is_same_file q f) refl all k (sym (ap own_of (begun_known s f own full q)) ∙ here);
    cells = λ q g c here. begun_cell s own full q g c (is_same_file q f) k (sym (ap (entry_in g) (begun_known s f own full q)) ∙ here);
  }

  -- ---- the house rules

  abbrev Holds : State → Type 0
  Holds st = SaysNames Q n st.names

  joined_with_says : (f : FileId) (top : Attributes) (o : Option Entry) → All (Q f) top.flags
      → ((e : Entry) → o ≡ Some e → (e.child ≡ f) × All (Q f) e.flags) → All (Q f) (joined_with top o).flags
  joined_with_says f top None all cell = all
  joined_with_says f top (Some e) all cell = joins_all (Q f) e.flags top.flags all (cell e refl).1

  greatest_says : (s : NamesValue) (f : FileId) (ds : List FileId) (top : Attributes) → SaysNames Q n s → All (Q f) top.flags
      → All (Q f) (greatest s f top ds).flags
  greatest_says s f [] top k all = all
  greatest_says s f (d ∷ ds) top k all =
      greatest_says s f ds (joined_with top (cell_at s d f)) k (joined_with_says f top (cell_at s d f) all (λ e here. k.cells d f e here))

  taken_says : (f : FileId) (own top : Attributes) (back : Bool) → All (Q f) top.flags → All (Q f) (own_taken own top back).flags
  taken_says f own top true all = all
  taken_says f own top false all = all

  offered_by : (st : State) (f : FileId) (top : Attributes) (d : FileId) (t : Bool) → All (Q f) top.flags → Holds st → Holds (cond t (given st f top d) st)
  offered_by st f top d true all k = says_cell st.names d (cell_for f top) all k
  offered_by st f top d false all k = k

  spread_says : (ds : List FileId) (st : State) (f : FileId) (own top : Attributes) (back : Bool) → All (Q f) top.flags → Holds st
      → Holds (spread st f own top back ds)
  spread_says [] st f own top back all k = k
  spread_says (d ∷ ds) st f own top back all k =
      let t = gets st.names f own top back d in
      spread_says ds (cond t (given st f top d) st) f own top back all (offered_by st f top d t all k)

  taking_by : (st : State) (f : FileId) (own taken : Attributes) (t : Bool) → All (Q f) taken.flags → Holds st → Holds (cond t st (took st f own taken))
  taking_by st f own taken true all k = k
  taking_by st f own taken false all k = says_own st.names f taken all k

  passed_says : (st : State) (ds : List FileId) (f : FileId) (o : Option Attributes) → own_at st.names f ≡ o → Holds st → Holds (pass_own st ds f o)
  passed_says st ds f None there k = k
  passed_says st ds f (Some own) there k =
      let top = greatest st.names f own ds in
      let back = is_held_back st.names.removed f own top in
      let all = greatest_says st.names f ds own k (k.own f own there) in
      taking_by (spread st f own top back ds) f own (own_taken own top back) (is_same_own own (own_taken own top back))
      (taken_says f own top back all) (spread_says ds st f own top back all k)

  pass_says : (st : State) (ds : List FileId) (f : FileId) → Holds st → Holds (pass st ds f)
  pass_says st ds f k = passed_says st ds f (own_at st.names f) refl k

  passes_say : (fs ds : List FileId) (st : State) → Holds st → Holds (pass_all st ds fs)
  passes_say [] ds st k = k
  passes_say (f ∷ fs) ds st k = passes_say fs ds (pass st ds f) (pass_says st ds f k)

  flags_says : (s : NamesValue) (f : FileId) (o : Option Attributes) → own_at s f ≡ o → SaysNames Q n s → All (Q f) (flags_of o)
  flags_says s f None there k = All-nil (Q f)
  flags_says s f (Some own) there k = k.own f own there

  placed_says : (moment : ℕ) (ds : List FileId) (st : State) (f parent : FileId) (name : List ℕ) → Holds st → Holds (placed moment ds st f parent name)
  placed_says moment ds st f parent name k =
      let place = live_place (drawn moment st.names) parent name in
      pass_says (made_at st f place) ds f
      (says_own (with_last st.names place.stamp.time) f (own_with st.names f place)
      (flags_says st.names f (own_at st.names f) refl k) (says_last st.names place.stamp.time k))

  returned_says : (moment : ℕ) (ds : List FileId) (st : State) (o : Option FileId) → Holds st → Holds (returned moment ds st o)
  returned_says moment ds st None k = k
  returned_says moment ds st (Some d) k = placed_says moment ds st d (place_at st.names d).parent (place_at st.names d).name k

  moved_says : (moment : ℕ) (ds : List FileId) (st : State) (o : Option FileId) → Holds st → Holds (moved moment ds st o)
  moved_says moment ds st None k = k
  moved_says moment ds st (Some d) k = placed_says moment ds st d root (tilde_name d) k

  repeated_says : (m : ℕ) (step : State → State) → ((st : State) → Holds st → Holds (step st)) → (st : State) → Holds st → Holds (repeated m step st)
  repeated_says zero step keeps st k = k
  repeated_says (suc m) step keeps st k = repeated_says m step keeps (step st) (keeps st k)

  -- THE HOUSE RULES KEEP IT
  pub house_says : (moment : ℕ) (st : State) → Holds st → Holds (house moment st)
  house_says moment st k =
      let ds = directories st.names in
      let passed = pass_all st ds (movable st.names) in
      let returns = repeated (length ds) (return_first moment ds) passed in
      repeated_says (length ds) (break_first moment ds)
      (λ x h. moved_says moment ds x (first_moving x.names (length ds) None ds) h) returns
      (repeated_says (length ds) (return_first moment ds)
      (λ x h. returned_says moment ds x (first_returning x.names ds) h) passed
      (passes_say (movable st.names) ds st k))
