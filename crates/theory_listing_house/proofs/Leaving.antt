-- A held directory has in the end a cell for each held child that was live in it at the start,
-- unless a later place was there that the child takes.
use Rattle.std.proofs.Common.{◌≡◌, if◌then◌else◌, ℕ, Bool, true, false, List, [], ◌∷◌, length, Option, None, Some, refl, sym, ap, ◌∙◌, subst, inl, inr, ◌⊎◌}
use Rattle.std.proofs.lemmas.Bool.{false≢true, or_left}
use Rattle.pg_base.specs.declared.id.FileId.{FileId}
use Rattle.pg_base.specs.Id.{is_same_file}
use Rattle.pg_base.specs.Stamp.{is_before}
use Rattle.pg_base.proofs.Orders.{is_same_file-true}
use Rattle.pg_register.specs.declared.place.Place.{Place}
use Rattle.pg_register.specs.Place.{root, tilde_name}
use Rattle.pg_entries.specs.declared.entry.Entry.{Entry}
use Rattle.pg_names.specs.declared.attributes.Attributes.{Attributes}
use Rattle.pg_names.specs.Names.{NamesValue, cell_at, directories, is_dir, own_at, with_last}
use Rattle.pg_names.proofs.Lookups.{apart_back, own_cell}
use Rattle.pg_house.specs.Work.{State}
use Rattle.pg_house.specs.Holding.{waits}
use Rattle.pg_house.specs.Passing.{cell_for, greatest, is_cell, is_held_back, joined_with, own_taken, pass, pass_all, pass_own, passed}
use Rattle.pg_house.specs.Placing.{drawn, live_place, made_at, own_with, place_at, placed}
use Rattle.pg_house.specs.Returning.{first_returning, return_first, returned}
use Rattle.pg_house.specs.Cycles.{break_first, first_moving, moved}
use Rattle.pg_house.specs.House.{house, movable}
use Rattle.pg_house.specs.Facts.{AreByServer, HasOwnParent, IsHeld, IsOfDirs}
use Rattle.pg_house.proofs.Truths.{before_itself, bool_cases}
use Rattle.pg_house.proofs.Greatest.{cell_held, cell_is}
use Rattle.pg_house.proofs.AfterPassing.{AreDirs, after_all, after_child, after_frame, after_gives, after_other, after_own}
use Rattle.pg_house.proofs.Passes.{one_pass}
use Rattle.pg_house.proofs.Repeating.{repeated_keeps}
use Rattle.pg_house.proofs.Placed.{Settled, made_dirs, placed_settled}
use Rattle.pg_house.proofs.Ends.{first_dirs, one_settled}
use Rattle.theory_listing_house.proofs.Seen.{before_trans}
use Rattle.theory_listing_house.proofs.Settled.{dead_later}

-- ---- cells stay

abbrev HasCell : NamesValue → FileId → FileId → Type 0
HasCell s d g = is_cell (cell_at s d g) ≡ true

same_gives : (st : State) (ds : List FileId) (f : FileId) (own top : Attributes) (back : Bool) → AreDirs st.names ds → (d : FileId) → HasCell st.names d f → HasCell (passed st ds f own top back).names d f
same_gives st ds f own top back dirs d h =
    let c = cell_is (cell_at st.names d f) h in
    let b = cell_held st.names d f c.0 c.1 in
    ap is_cell (after_gives st ds f own top back d b.0 b.1 (dirs.cells d f c.0 c.1) (or_left (is_cell (cell_at st.names d f)) _ h))

passed_cell : (st : State) (ds : List FileId) (f : FileId) (own top : Attributes) (back : Bool) → AreDirs st.names ds → (d g : FileId) (t : Bool) → is_same_file f g ≡ t → HasCell st.names d g → HasCell (passed st ds f own top back).names d g
passed_cell st ds f own top back dirs d g false apart h = ap is_cell (after_child st ds f own top back d g (apart_back f g apart)) ∙ h
passed_cell st ds f own top back dirs d g true same h =
    let e = is_same_file-true f g same in
    subst (λ z. HasCell (passed st ds f own top back).names d z) e (same_gives st ds f own top back dirs d (subst (λ z. HasCell st.names d z) (sym e) h))

pass_own_cell : (st : State) (ds : List FileId) (f : FileId) (o : Option Attributes) → AreDirs st.names ds → (d g : FileId) → HasCell st.names d g → HasCell (pass_own st ds f o).names d g
pass_own_cell st ds f None dirs d g h = h
pass_own_cell st ds f (Some own) dirs d g h =
    let top = greatest st.names f own ds in passed_cell st ds f own top (is_held_back st.names.removed f own top) dirs d g (is_same_file f g) refl h

pass_cell : (st : State) (ds : List FileId) (f : FileId) → AreDirs st.names ds → (d g : FileId) → HasCell st.names d g → HasCell (pass st ds f).names d g
pass_cell st ds f dirs d g h = pass_own_cell st ds f (own_at st.names f) dirs d g h

-- what stands in the directories, and that this one has a cell
abbrev Goes : List FileId → FileId → FileId → State → Type 0
Goes ds d g t = Settled ds t.names × HasCell t.names d g

placed_goes : (moment : ℕ) (ds : List FileId) (st : State) (f p : FileId) (name : List ℕ) (d g : FileId) → Goes ds d g st → Goes ds d g (placed moment ds st f p name)
placed_goes moment ds st f p name d g k =
    let place = live_place (drawn moment st.names) p name in (
      placed_settled moment ds st f p name k.0,
      pass_cell (made_at st f place) ds f (made_dirs moment ds st f p name k.0.dirs) d g (ap is_cell (own_cell (with_last st.names place.stamp.time) f (own_with st.names f place) d g) ∙ k.1),
    )

returned_goes : (moment : ℕ) (ds : List FileId) (st : State) (o : Option FileId) (d g : FileId) → Goes ds d g st → Goes ds d g (returned moment ds st o)
returned_goes moment ds st None d g k = k
returned_goes moment ds st (Some f) d g k = placed_goes moment ds st f (place_at st.names f).parent (place_at st.names f).name d g k

moved_goes : (moment : ℕ) (ds : List FileId) (st : State) (o : Option FileId) (d g : FileId) → Goes ds d g st → Goes ds d g (moved moment ds st o)
moved_goes moment ds st None d g k = k
moved_goes moment ds st (Some f) d g k = placed_goes moment ds st f root (tilde_name f) d g k

-- ---- the own place stays where each later cell is held back

-- each cell for the thing that is later than this place is held back from it
abbrev pub OnlyBack : NamesValue → FileId → Place → Type 0
OnlyBack s g own = (d : FileId) (c : Entry) → cell_at s d g ≡ Some c → is_before own.stamp c.place.stamp ≡ true → waits s.removed g own c.place ≡ true

module _ (removed : List ℕ) (g : FileId) (own : Place) where
  -- the own place, or one that is held back
  abbrev Fits : Place → Type 0
  Fits z = (z ≡ own) ⊎ (waits removed g own z ≡ true)

  later_than : (z c : Place) → Fits z → is_before z.stamp c.stamp ≡ true → is_before own.stamp c.stamp ≡ true
  later_than z c (inl e) h = subst (λ (x : Place). is_before x.stamp c.stamp ≡ true) e h
  later_than z c (inr b) h = before_trans own.stamp z.stamp c.stamp (dead_later removed g own z b).1 h

  newer_fits : (z c : Place) (t : Bool) → is_before z.stamp c.stamp ≡ t → Fits z → ((is_before own.stamp c.stamp ≡ true) → waits removed g own c ≡ true) → Fits (if t then c else z)
  newer_fits z c false h fits back = fits
  newer_fits z c true h fits back = inr (back (later_than z c fits h))

  joined_fits : (top : Attributes) (o : Option Entry) → Fits top.place → ((c : Entry) → o ≡ Some c → is_before own.stamp c.place.stamp ≡ true → waits removed g own c.place ≡ true) → Fits (joined_with top o).place
  joined_fits top None fits back = fits
  joined_fits top (Some c) fits back = newer_fits top.place c.place (is_before top.place.stamp c.place.stamp) refl fits (back c refl)

  -- which is later than the own one waits
  fits_later : (z : Place) → Fits z → is_before own.stamp z.stamp ≡ true → waits removed g own z ≡ true
  fits_later z (inl e) later = absurd (false≢true (sym (before_itself own.stamp) ∙ subst (λ (x : Place). is_before own.stamp x.stamp ≡ true) e later))
  fits_later z (inr b) later = b

greatest_fits : (s : NamesValue) (g : FileId) (own : Place) (top : Attributes) (ds : List FileId) → OnlyBack s g own → Fits s.removed g own top.place → Fits s.removed g own (greatest s g top ds).place
greatest_fits s g own top [] back fits = fits
greatest_fits s g own top (d ∷ ds) back fits = greatest_fits s g own (joined_with top (cell_at s d g)) ds back (joined_fits s.removed g own top (cell_at s d g) fits (λ c h later. back d c h later))

-- the thing has this place, each later cell is held back, and the directories are these
record Stays (ds : List FileId) (g : FileId) (place : Place) (s : NamesValue) : Type 0 where
  own : Attributes
  held : own_at s g ≡ Some own
  same : own.place ≡ place
  back : OnlyBack s g place
  dirs : AreDirs s ds

module _ (st : State) (ds : List FileId) (g : FileId) (place : Place) (k : Stays ds g place st.names) where
  abbrev Top : Attributes
  Top = greatest st.names g k.own ds

  abbrev Then : Bool → NamesValue
  Then t = (passed st ds g k.own Top t).names

  fits : Fits st.names.removed g place Top.place
  fits = greatest_fits st.names g place k.own ds k.back (inl k.same)

  taken_same : (t : Bool) → is_held_back st.names.removed g k.own Top ≡ t → Fits st.names.removed g place Top.place → (own_taken k.own Top t).place ≡ place
  taken_same true h f = k.same
  taken_same false h (inl e) = e
  taken_same false h (inr b) = absurd (false≢true (sym h ∙ subst (λ (z : Place). waits st.names.removed g z Top.place ≡ true) (sym k.same) b))

  -- behind its pass each cell is the greatest
  own_stays : (t : Bool) → is_held_back st.names.removed g k.own Top ≡ t → AreDirs (Then t) ds → Stays ds g place (Then t)
  own_stays t h dirs = record {
    own = own_taken k.own Top t;
    held = after_own st ds g k.own Top t k.held;
    same = taken_same t h fits;
    back = λ d c there later. (
        let e : c ≡ cell_for g Top = after_all st ds g k.own Top t k.dirs d c there in
        let here : is_before place.stamp Top.place.stamp ≡ true = subst (λ (z : Entry). is_before place.stamp z.place.stamp ≡ true) e later in
        subst (λ (z : Entry). waits (Then t).removed g place z.place ≡ true) (sym e)
        (subst (λ r. waits r g place Top.place ≡ true) (sym (after_frame st ds g k.own Top t).removed) (fits_later st.names.removed g place Top.place fits here))
        );
    dirs = dirs;
  }

  -- a pass of another thing
  other_stays : (f : FileId) → is_same_file f g ≡ false → Stays ds g place (pass st ds f).names
  other_stays f apart =
      let one = one_pass st ds f k.dirs in
      record {
        own = k.own;
        held = one.touches.own g apart ∙ k.held;
        same = k.same;
        back = λ d c there later. (
            let old = k.back d c (sym (one.touches.cells d g apart) ∙ there) later in
            subst (λ r. waits r g place c.place ≡ true) (sym one.touches.removed) old
            );
        dirs = one.dirs;
      }

  self_stays : Stays ds g place (pass st ds g).names
  self_stays =
      let t = is_held_back st.names.removed g k.own Top in
      let P : Option Attributes → Type 0 = λ o. AreDirs (pass_own st ds g o).names ds → Stays ds g place (pass_own st ds g o).names in
      subst P (sym k.held) (λ dirs. own_stays t refl dirs) (one_pass st ds g k.dirs).dirs

  one_stays : (f : FileId) → (is_same_file f g ≡ true) ⊎ (is_same_file f g ≡ false) → Stays ds g place (pass st ds f).names
  one_stays f (inr apart) = other_stays f apart
  one_stays f (inl same) = subst (λ z. Stays ds g place (pass st ds z).names) (sym (is_same_file-true f g same)) self_stays

all_stay : (st : State) (ds fs : List FileId) (g : FileId) (place : Place) → Stays ds g place st.names → Stays ds g place (pass_all st ds fs).names
all_stay st ds [] g place k = k
all_stay st ds (f ∷ fs) g place k = all_stay (pass st ds f) ds fs g place (one_stays st ds g place k f (bool_cases (is_same_file f g)))

-- ---- what is held stays held

held_by : (st : State) (ds : List FileId) (f : FileId) (o : Option Attributes) → own_at st.names f ≡ o → (q : FileId) (t : Bool) → is_same_file f q ≡ t → IsHeld st.names q → IsHeld (pass_own st ds f o).names q
held_by st ds f None e q t s h = h
held_by st ds f (Some own) e q false s h =
    let top = greatest st.names f own ds in
    (h.0, after_other st ds f own top (is_held_back st.names.removed f own top) q s ∙ h.1)
held_by st ds f (Some own) e q true s h =
    let top = greatest st.names f own ds in
    let back = is_held_back st.names.removed f own top in
    subst (IsHeld (passed st ds f own top back).names) (is_same_file-true f q s) (own_taken own top back, after_own st ds f own top back e)

all_held : (st : State) (ds fs : List FileId) (q : FileId) → IsHeld st.names q → IsHeld (pass_all st ds fs).names q
all_held st ds [] q h = h
all_held st ds (f ∷ fs) q h = all_held (pass st ds f) ds fs q (held_by st ds f (own_at st.names f) refl q (is_same_file f q) refl h)

-- ---- to the end

module _ (moment : ℕ) (st : State) (of_dirs : IsOfDirs st.names) (sorted : AreByServer st.names) where
  abbrev Dirs : List FileId
  Dirs = directories st.names

  abbrev One : State
  One = pass_all st Dirs (movable st.names)

  -- behind all passes
  after_passing : (g d : FileId) (own : Attributes) → is_same_file g root ≡ false → own_at st.names g ≡ Some own → own.place.live ≡ true → own.place.parent ≡ d → is_dir d ≡ true → IsHeld st.names d → OnlyBack st.names g own.place → HasCell One.names d g
  after_passing g d own apart held live parent dir there back =
      let dirs = first_dirs moment st of_dirs sorted in
      let k : Stays Dirs g own.place One.names = all_stay st Dirs (movable st.names) g own.place (record { own = own; held = held; same = refl; back = back; dirs = dirs }) in
      let up : k.own.place.parent ≡ d = ap (λ (z : Place). z.parent) k.same ∙ parent in
      let now = all_held st Dirs (movable st.names) d there in
      let has : HasOwnParent One.names g k.own = ((one_settled moment st of_dirs sorted).passed g apart k.own k.held).1 in
      subst (λ z. HasCell One.names z g) up
      (has now.0 (ap (λ (z : Place). z.live) k.same ∙ live) (ap (own_at One.names) up ∙ now.1) (ap is_dir up ∙ dir))

  -- THE PARENT AT THE START has a cell in the end
  pub start_parent : (g d : FileId) (own : Attributes) → is_same_file g root ≡ false → own_at st.names g ≡ Some own → own.place.live ≡ true → own.place.parent ≡ d → is_dir d ≡ true → IsHeld st.names d → OnlyBack st.names g own.place → is_cell (cell_at (house moment st).names d g) ≡ true
  start_parent g d own apart held live parent dir there back =
      let one = after_passing g d own apart held live parent dir there back in
      (repeated_keeps (Goes Dirs d g) (break_first moment Dirs) (λ t k. moved_goes moment Dirs t (first_moving t.names (length Dirs) None Dirs) d g k) (length Dirs) _
      (repeated_keeps (Goes Dirs d g) (return_first moment Dirs) (λ t k. returned_goes moment Dirs t (first_returning t.names Dirs) d g k) (length Dirs) One
      (one_settled moment st of_dirs sorted, one))).1
