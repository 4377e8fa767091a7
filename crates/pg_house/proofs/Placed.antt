-- What holds after a rule made a place and it passed.
use Rattle.std.proofs.Common.{◌≡◌, ℕ, ◌<◌, ◌≤◌, ◌+◌, ◌^◌, Bool, true, false, ◌&&◌, not, max, min, List, [], ◌∷◌, Option, None, Some, refl, sym, ap, ◌∙◌, subst, arith, inl, inr, ◌⊎◌}
use Rattle.std.proofs.lemmas.Bool.Decides.{nat_tests}
use Rattle.std.proofs.lemmas.Option.{same_Some}
use Rattle.std.proofs.lemmas.Bool.{and_right}
use Rattle.pg_base.specs.declared.id.FileId.{FileId}
use Rattle.pg_base.specs.declared.stamp.Stamp.{Stamp}
use Rattle.pg_base.specs.Id.{is_same_file}
use Rattle.pg_base.specs.Stamp.{is_before}
use Rattle.pg_base.proofs.Orders.{is_same_file-true}
use Rattle.pg_register.specs.declared.place.Place.{Place}
use Rattle.pg_register.specs.Flag.{IsByServer, is_removed}
use Rattle.pg_register.specs.Place.{root, newer_place}
use Rattle.pg_register.proofs.ByServer.{IsByServer-nil}
use Rattle.pg_entries.specs.declared.entry.Entry.{Entry}
use Rattle.pg_names.specs.declared.attributes.Attributes.{Attributes}
use Rattle.pg_names.specs.Names.{NamesValue, own_at, cell_at, is_dir, with_last, with_own}
use Rattle.pg_names.proofs.Lookups.{own_other, own_same, own_cell, update_frame, own_back}
use Rattle.pg_house.specs.Work.{State}
use Rattle.pg_house.specs.Passing.{greatest, is_held_back, joined_with, pass_own, passed}
use Rattle.pg_house.specs.Placing.{drawn, flags_of, live_place, made_at, own_with, placed}
use Rattle.pg_house.specs.Facts.{IsLast, HasPassed}
use Rattle.pg_house.proofs.Truths.{bool_cases, chosen_false}
use Rattle.pg_house.proofs.AfterPassing.{AreDirs, after_all, after_own}
use Rattle.pg_house.proofs.Touches.{IsHeld, Touches, Touches-trans, passed_of}
use Rattle.pg_house.proofs.Passes.{one_pass}
use Rattle.pg_house.proofs.Lasting.{placed_last}

drawn_late : (moment last a n : ℕ) → n ≡ max (min moment (2 ^ 62)) (last + 1) → a ≤ last → a < n
drawn_late moment last a n h g = grind arith

before_less : (s a : Stamp) → a.time < s.time → is_before s a ≡ false
before_less s a h = grind (arith, nat_tests)

at_most : (a b n : ℕ) → a ≡ b → n ≡ b → a ≤ n
at_most a b n h g = omega arith

up_to : (a b n : ℕ) → a < b → n ≡ b → a ≤ n
up_to a b n h g = omega arith

-- a live place is not held back
live_passes : (removed : List ℕ) (f : FileId) (own top : Attributes) → top.place.live ≡ true → is_held_back removed f own top ≡ false
live_passes removed f own top live = and_right (is_dir f) _ (ap (λ t. not t && (is_before own.place.stamp top.place.stamp && not (is_removed removed top.place.stamp.server))) live)

-- where every cell is older than this place, it is the greatest
not_older : (place : Place) (top : Attributes) (c : Entry) → top.place ≡ place → is_before place.stamp c.place.stamp ≡ false → newer_place top.place c.place ≡ place
not_older place top c same older = ap (λ (q : Place). newer_place q c.place) same ∙ chosen_false (is_before place.stamp c.place.stamp) c.place place older

fresh_with : (place : Place) (top : Attributes) (o : Option Entry) → top.place ≡ place → ((c : Entry) → o ≡ Some c → is_before place.stamp c.place.stamp ≡ false) → (joined_with top o).place ≡ place
fresh_with place top None same older = same
fresh_with place top (Some c) same older = not_older place top c same (older c refl)

fresh_greatest : (s : NamesValue) (f : FileId) (place : Place) → ((d : FileId) (c : Entry) → cell_at s d f ≡ Some c → is_before place.stamp c.place.stamp ≡ false) → (top : Attributes) → top.place ≡ place → (ds : List FileId) → (greatest s f top ds).place ≡ place
fresh_greatest s f place older top same [] = same
fresh_greatest s f place older top same (d ∷ ds) = fresh_greatest s f place older (joined_with top (cell_at s d f)) (fresh_with place top (cell_at s d f) same (older d)) ds

-- what holds of a server between two rules: its files have passed
pub record Settled (ds : List FileId) (s : NamesValue) : Type 0 where
  pub dirs : AreDirs s ds
  pub passed : (g : FileId) → is_same_file g root ≡ false → HasPassed s ds g

module _ (moment : ℕ) (ds : List FileId) (st : State) (f p : FileId) (name : List ℕ) where
  abbrev New : Place
  New = live_place (drawn moment st.names) p name

  abbrev Mine : Attributes
  Mine = own_with st.names f New

  abbrev Made : State
  Made = made_at st f New

  abbrev Late : NamesValue
  Late = with_last st.names (drawn moment st.names).time

  abbrev pub After : NamesValue
  After = (placed moment ds st f p name).names

  made_touches : Touches f st.names Made.names
  made_touches = record {
    own = λ q a. own_other Late f Mine q a;
    cells = λ q g a. own_cell Late f Mine q g;
    was = λ q h. own_back Late f (with_own Mine) q h.0 h.1;
    removed = (update_frame Late f (with_own Mine)).removed;
    server = (update_frame Late f (with_own Mine)).server;
    keys = (update_frame Late f (with_own Mine)).keys;
  }

  flags_by : (o : Option Attributes) → own_at st.names f ≡ o → AreDirs st.names ds → IsByServer (flags_of o)
  flags_by None h dirs = IsByServer-nil
  flags_by (Some x) h dirs = dirs.sorted f x h

  made_sorted : AreDirs st.names ds → (q : FileId) (b : Attributes) (s : Bool) → is_same_file f q ≡ s → own_at Made.names q ≡ Some b → IsByServer b.flags
  made_sorted dirs q b false apart h = dirs.sorted q b (sym (own_other Late f Mine q apart) ∙ h)
  made_sorted dirs q b true same h =
      let was = own_back Late f (with_own Mine) q b h in
      let here : own_at st.names f ≡ Some was.0 = ap (own_at st.names) (is_same_file-true f q same) ∙ was.1 in
      let e : Mine ≡ b = same_Some Mine b (sym (own_same Late f was.0 Mine here) ∙ ap (own_at Made.names) (is_same_file-true f q same) ∙ h) in
      subst (λ (x : Attributes). IsByServer x.flags) e (flags_by (own_at st.names f) refl dirs)

  pub made_dirs : AreDirs st.names ds → AreDirs Made.names ds
  made_dirs dirs = record {
    cells = λ q g c h. dirs.cells q g c (sym (own_cell Late f Mine q g) ∙ h);
    held = λ q b h d. let was = own_back Late f (with_own Mine) q b h in dirs.held q was.0 was.1 d;
    sorted = λ q b h. made_sorted dirs q b (is_same_file f q) refl h;
  }

  pub placed_touches : AreDirs st.names ds → Touches f st.names After
  placed_touches dirs = Touches-trans f st.names Made.names After made_touches (one_pass Made ds f (made_dirs dirs)).touches

  pub placed_settled : Settled ds st.names → Settled ds After
  placed_settled k = record {
    dirs = (one_pass Made ds f (made_dirs k.dirs)).dirs;
    passed = λ g apart. passed_of f st.names After (placed_touches k.dirs) ds (one_pass Made ds f (made_dirs k.dirs)).passed g (inr (k.passed g apart));
  }

  -- ---- the new place is the latest

  later_time : (n : ℕ) → n ≤ st.names.last → n < New.stamp.time
  later_time n h = drawn_late moment st.names.last n New.stamp.time refl h

  module _ (k : Settled ds st.names) (last : IsLast st.names) (held : IsHeld st.names f) where
    abbrev Top : Attributes
    Top = greatest Made.names f Mine ds

    made_own : own_at Made.names f ≡ Some Mine
    made_own = own_same Late f held.0 Mine held.1

    top_place : Top.place ≡ New
    top_place = fresh_greatest Made.names f New (λ d c h. before_less New.stamp c.place.stamp (later_time c.place.stamp.time (last.cells d f c (sym (own_cell Late f Mine d f) ∙ h)))) Mine refl ds

    after_is : After ≡ (passed Made ds f Mine Top false).names
    after_is =
        ap (λ (o : Option Attributes). (pass_own Made ds f o).names) made_own
        ∙ ap (λ t. (passed Made ds f Mine Top t).names) (live_passes Made.names.removed f Mine Top (ap (λ (q : Place). q.live) top_place))

    -- the file has the new place, and so has every cell for it
    pub placed_own : (c : Attributes) → own_at After f ≡ Some c → c.place ≡ New
    placed_own c h =
        let same : c ≡ Top = same_Some c Top (sym h ∙ ap (λ (s : NamesValue). own_at s f) after_is ∙ after_own Made ds f Mine Top false made_own) in
        ap (λ (x : Attributes). x.place) same ∙ top_place

    pub placed_cells : (q : FileId) (c : Entry) → cell_at After q f ≡ Some c → c.place ≡ New
    placed_cells q c h =
        ap (λ (x : Entry). x.place) (after_all Made ds f Mine Top false (made_dirs k.dirs) q c (sym (ap (λ (s : NamesValue). cell_at s q f) after_is) ∙ h)) ∙ top_place

    time_is : After.last ≡ New.stamp.time
    time_is = placed_last moment ds st f p name

    new_time : (q : Place) → q ≡ New → q.stamp.time ≤ After.last
    new_time q h = let e : q.stamp.time ≡ New.stamp.time = ap (λ (x : Place). x.stamp.time) h in at_most q.stamp.time New.stamp.time After.last e time_is

    old_time : (n : ℕ) → n ≤ st.names.last → n ≤ After.last
    old_time n h = up_to n New.stamp.time After.last (later_time n h) time_is

    own_time : (q : FileId) (c : Attributes) → own_at After q ≡ Some c → (is_same_file f q ≡ true) ⊎ (is_same_file f q ≡ false) → c.place.stamp.time ≤ After.last
    own_time q c h (inl same) = new_time c.place (placed_own c (ap (own_at After) (is_same_file-true f q same) ∙ h))
    own_time q c h (inr apart) = old_time c.place.stamp.time (last.own q c (sym ((placed_touches k.dirs).own q apart) ∙ h))

    cell_time : (q g : FileId) (c : Entry) → cell_at After q g ≡ Some c → (is_same_file f g ≡ true) ⊎ (is_same_file f g ≡ false) → c.place.stamp.time ≤ After.last
    cell_time q g c h (inl same) = new_time c.place (placed_cells q c (ap (cell_at After q) (is_same_file-true f g same) ∙ h))
    cell_time q g c h (inr apart) = old_time c.place.stamp.time (last.cells q g c (sym ((placed_touches k.dirs).cells q g apart) ∙ h))

    pub placed_is_last : IsLast After
    placed_is_last = record {
      own = λ q c h. own_time q c h (bool_cases (is_same_file f q));
      cells = λ q g c h. cell_time q g c h (bool_cases (is_same_file f g));
    }
