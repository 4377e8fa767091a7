-- A place that a house rule makes: it is taken, and all that is held passes again.
use Rattle.std.proofs.Common.{ℕ, ◌≡◌, ◌<◌, Bool, true, false, List, [], ◌∷◌, None, Some, refl, sym, ap, subst, ◌∙◌, inl, inr, ◌⊎◌}
use Rattle.std.proofs.lemmas.Bool.{false≢true}
use Rattle.std.proofs.lemmas.Option.{none-some}
use Rattle.pg_run.specs.pg_base.declared.id.FileId.{FileId}
use Rattle.pg_run.specs.pg_base.Id.{is_same_file}
use Rattle.pg_run.specs.pg_base.Stamp.{is_before}
use Rattle.pg_run.proofs.pg_base.Orders.{is_same_file-true}
use Rattle.pg_run.specs.pg_register.declared.place.Place.{Place}
use Rattle.pg_run.specs.pg_register.Place.{newer_place}
use Rattle.pg_run.specs.pg_names.declared.attributes.Attributes.{Attributes}
use Rattle.pg_run.specs.pg_names.Names.{NamesValue, or_blank, own_at, own_or_blank, with_last, with_own}
use Rattle.pg_run.proofs.pg_names.Lookups.{own_back, own_cell, own_other, own_same, update_frame}
use Rattle.pg_run.specs.pg_house.Work.{State}
use Rattle.pg_run.specs.pg_house.Passing.{pass}
use Rattle.pg_run.specs.pg_house.Placing.{drawn, flags_of, live_place, made_at, own_with, placed}
use Rattle.pg_run.specs.pg_house.Returning.{is_root}
use Rattle.pg_run.specs.pg_house.Facts.{HasPassed, IsHeld, IsLast}
use Rattle.pg_run.proofs.pg_house.AfterPassing.{AreDirs}
use Rattle.pg_run.proofs.pg_house.Idle.{AreHeld, pass_idle}
use Rattle.pg_run.proofs.pg_house.Passes.{one_pass}
use Rattle.pg_run.proofs.pg_house.Placed.{Settled, made_dirs as placed_dirs, placed_is_last, placed_settled, placed_touches}
use Rattle.pg_run.proofs.pg_house.Touches.{Touches, kept_own_parent, kept_passed}
use Rattle.pg_run.proofs.pg_house.Truths.{chosen_true}
use Rattle.pg_run.proofs.pg_house.Lasting.{drawn_late}
use Rattle.pg_run.specs.Took.{Take}
use Rattle.pg_run.specs.Took.Take.{TookPlace}
use Rattle.pg_run.specs.Took.Taker.{Itself}
use Rattle.pg_run.specs.Passed.{passed}
use Rattle.law_passing.specs.Tells.{AreApart, Tells}
use Rattle.law_passing.proofs.Coming.{Comes, IsStill, comes_on, held_by_keys, one_comes}
use Rattle.law_passing.proofs.PassedAll.{AllPassed, passed_apart, passed_tells}
use Rattle.law_passing.proofs.Pieces.{OwnComes, own_tells}
use Rattle.law_passing.proofs.Singles.{one_place, place_all, place_latest, place_newest}
use Rattle.law_passing.proofs.Times.{earlier, late_apart, less, own_time}

-- between two rules: all that is held has passed, and is what was taken
pub record Stands (removed : List ℕ) (ds : List FileId) (st : State) (takes : List Take) : Type 0 where
  pub settled : Settled ds st.names
  pub last : IsLast st.names
  pub tells : Tells st.names takes
  pub apart : AreApart takes
  pub same_removed : st.names.removed ≡ removed
  pub dirs_held : AreHeld st.names ds

module _ (moment : ℕ) (removed : List ℕ) (ds : List FileId) (st : State) (takes : List Take) (k : Stands removed ds st takes) (f p : FileId) (name : List ℕ) (held : IsHeld st.names f) (moves : is_root f ≡ false) where
  abbrev New : Place
  New = live_place (drawn moment st.names) p name

  abbrev Late : NamesValue
  Late = with_last st.names New.stamp.time

  abbrev Mine : Attributes
  Mine = own_with st.names f New

  abbrev Made : State
  Made = made_at st f New

  abbrev More : List Take
  More = TookPlace Itself f New ∷ takes

  abbrev After : NamesValue
  After = (placed moment ds st f p name).names

  -- ---- the place is taken

  made_own : own_at Made.names f ≡ Some Mine
  made_own = own_same Late f held.0 Mine held.1

  late : st.names.last < New.stamp.time
  late = drawn_late moment st.names.last New.stamp.time refl

  was_own : own_or_blank st.names f ≡ held.0
  was_own = ap (or_blank f) held.1

  newer : New ≡ newer_place (own_or_blank st.names f).place New
  newer =
      sym (chosen_true (is_before (own_or_blank st.names f).place.stamp New.stamp) New (own_or_blank st.names f).place
      (earlier (own_or_blank st.names f).place.stamp New.stamp (less (own_or_blank st.names f).place.stamp.time New.stamp.time st.names.last (own_time st.names takes k.tells k.last f) late)))

  made_stays : (q : FileId) → IsHeld st.names q → IsHeld Made.names q
  made_stays q h = held_by_keys st.names Made.names (update_frame Late f (with_own Mine)).keys q h

  made_was : (q : FileId) → IsHeld Made.names q → IsHeld st.names q
  made_was q h = own_back Late f (with_own Mine) q h.0 h.1

  made_comes : OwnComes st.names Made.names (one_place f New) f New []
  made_comes = record {
    all = place_all f New;
    latest = place_latest f New;
    newest = place_newest f New;
    place = ap (λ (o : Attributes). o.place) (ap (or_blank f) made_own) ∙ newer;
    flags = ap (λ (o : Attributes). o.flags) (ap (or_blank f) made_own) ∙ ap flags_of held.1 ∙ sym (ap (λ (o : Attributes). o.flags) was_own);
    others = λ q apart. ap (or_blank q) (own_other Late f Mine q apart);
    cells = λ d q. own_cell Late f Mine d q;
    stays = made_stays;
    was = made_was;
  }

  made_tells : Tells Made.names More
  made_tells = own_tells st.names Made.names takes (one_place f New) f New [] k.tells made_comes

  made_apart : AreApart More
  made_apart = late_apart st.names takes k.tells k.last f New late k.apart

  -- ---- what has passed but for this

  made_dirs : AreDirs Made.names ds
  made_dirs = placed_dirs moment ds st f p name k.settled.dirs

  made_dirs_held : AreHeld Made.names ds
  made_dirs_held q among = let d = k.dirs_held q among in (made_stays q d.0, d.1)

  made_touches : Touches f st.names Made.names
  made_touches = record {
    own = λ q a. own_other Late f Mine q a;
    cells = λ q g a. own_cell Late f Mine q g;
    was = made_was;
    removed = (update_frame Late f (with_own Mine)).removed;
    server = (update_frame Late f (with_own Mine)).server;
    keys = (update_frame Late f (with_own Mine)).keys;
  }

  others_passed : (g : FileId) → is_root g ≡ false → is_same_file f g ≡ false → HasPassed Made.names ds g
  others_passed g free apart own h =
      let old = k.settled.passed g free own (sym (own_other Late f Mine g apart) ∙ h) in
      (kept_passed f st.names Made.names made_touches g apart ds own old.0, kept_own_parent f st.names Made.names made_touches g apart own old.1)

  -- ---- all passes

  after_touches : Touches f Made.names After
  after_touches = (one_pass Made ds f made_dirs).touches

  still_apart : (g : FileId) → is_same_file f g ≡ false → IsStill Made.names After g
  still_apart g apart = record { own = after_touches.own g apart; cells = λ q. after_touches.cells q g apart }

  come_by : (g : FileId) (own : Attributes) → own_at Made.names g ≡ Some own → is_root g ≡ false → (t : Bool) → is_same_file f g ≡ t → Comes Made.names After ds g own
  come_by g own h free true same =
      let e : f ≡ g = is_same_file-true f g same in
      let P : FileId → Type 0 = λ x. Comes Made.names (pass Made ds x).names ds g own in
      subst P (sym e) (one_comes Made ds g own made_dirs h)
  come_by g own h free false apart =
      let idle = pass_idle Made ds g made_dirs_held (others_passed g free apart) in
      let Q : State → Type 0 = λ x. Comes Made.names x.names ds g own in
      let still = still_apart g apart in
      comes_on Made.names Made.names After ds g own _ _ still.own still.cells (subst Q idle (one_comes Made ds g own made_dirs h))

  away_apart : (g : FileId) → (is_root g ≡ true) ⊎ (own_at Made.names g ≡ None) → (t : Bool) → is_same_file f g ≡ t → t ≡ false
  away_apart g away false e = refl
  away_apart g (inl top) true e = absurd (false≢true (sym moves ∙ ap is_root (is_same_file-true f g e) ∙ top))
  away_apart g (inr none) true e = absurd (none-some Mine (sym none ∙ sym (ap (own_at Made.names) (is_same_file-true f g e)) ∙ made_own))

  all_passed_then : AllPassed Made.names After ds
  all_passed_then = record {
    stays = λ q h. held_by_keys Made.names After after_touches.keys q h;
    was = after_touches.was;
    come = λ g own h free. come_by g own h free (is_same_file f g) refl;
    still = λ g away. still_apart g (away_apart g away (is_same_file f g) refl);
  }

  after_tells : Tells After (passed Made.names.removed More)
  after_tells = passed_tells Made.names After More ds made_tells made_apart made_dirs made_dirs_held all_passed_then

  after_apart : AreApart (passed Made.names.removed More)
  after_apart = passed_apart Made.names After More ds made_tells made_apart made_dirs made_dirs_held all_passed_then

  removed_then : Made.names.removed ≡ removed
  removed_then = (update_frame Late f (with_own Mine)).removed ∙ k.same_removed

  after_stays : (q : FileId) → IsHeld st.names q → IsHeld After q
  after_stays q h = held_by_keys Made.names After after_touches.keys q (made_stays q h)

  -- A PLACE WAS MADE
  pub placed_stands : Stands removed ds (placed moment ds st f p name) (passed removed (TookPlace Itself f New ∷ takes))
  placed_stands = record {
    settled = placed_settled moment ds st f p name k.settled;
    last = placed_is_last moment ds st f p name k.settled k.last held;
    tells = (let P : List ℕ → Type 0 = λ r. Tells After (passed r More) in subst P removed_then after_tells);
    apart = (let P : List ℕ → Type 0 = λ r. AreApart (passed r More) in subst P removed_then after_apart);
    same_removed = (placed_touches moment ds st f p name k.settled.dirs).removed ∙ k.same_removed;
    dirs_held = λ q among. (let d = k.dirs_held q among in (after_stays q d.0, d.1));
  }
