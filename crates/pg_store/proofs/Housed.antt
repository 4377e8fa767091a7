-- Whose flags the house rules change is among what is touched.
use Rattle.std.proofs.Common.{ℕ, zero, suc, ◌≡◌, Bool, true, false, length, Option, None, Some, List, [], ◌∷◌, refl, sym, ap, ◌∙◌, subst, inl, inr, ◌⊎◌}
use Rattle.std.specs.Option.{option_map}
use Rattle.std.proofs.lemmas.Bool.{false≢true, or_left, or_right}
use Rattle.pg_base.specs.declared.id.FileId.{FileId}
use Rattle.pg_base.specs.Id.{is_same_file}
use Rattle.pg_base.proofs.Orders.{is_same_file-true, is_same_file-refl}
use Rattle.pg_register.specs.declared.flag.Flag.{Flag}
use Rattle.pg_register.specs.declared.place.Place.{Place}
use Rattle.pg_register.specs.Flag.{flag_of}
use Rattle.pg_register.specs.Place.{root, tilde_name}
use Rattle.pg_index.specs.Ids.{is_one_of}
use Rattle.pg_edges.specs.declared.key.Key.TheVariants as key
use Rattle.pg_house.specs.pg_msg.declared.update.Update.TheVariants as update
use Rattle.pg_house.specs.pg_msg.declared.work.Touched.{Touched}
use Rattle.pg_house.specs.pg_msg.declared.work.Work.{Work}
use Rattle.pg_house.specs.pg_msg.Work.{with_made, with_touched}
use Rattle.pg_names.specs.declared.attributes.Attributes.{Attributes}
use Rattle.pg_names.specs.Names.{NamesValue, directories, is_full, own_at, with_last, with_own, or_blank, own_or_blank}
use Rattle.pg_names.proofs.Lookups.{known_absent, own_other, own_same, update_frame}
use Rattle.pg_house.specs.Work.{State}
use Rattle.pg_house.specs.Passing.{greatest, is_held_back, own_taken, pass, pass_all, pass_own}
use Rattle.pg_house.specs.Placing.{drawn, flags_of, live_place, made_at, own_with, place_at, placed, repeated}
use Rattle.pg_house.specs.Returning.{first_returning, return_first, returned}
use Rattle.pg_house.specs.Cycles.{break_first, first_moving, moved}
use Rattle.pg_house.specs.House.{house, movable}
use Rattle.pg_house.specs.Facts.{IsIn, IsTouched}
use Rattle.pg_house.proofs.AfterPassing.{after_other, after_own}
use Rattle.pg_house.proofs.Drawn.{pass_frame}
use Rattle.pg_house.proofs.Fullness.{rules_full}
use Rattle.pg_house.proofs.Telling.{in_front, left_stays, pass_tells}
use Rattle.pg_house.proofs.Truths.{bool_cases}
use Rattle.pg_replica.specs.declared.replica.Replica.{Replica}
use Rattle.pg_replica.specs.Replicas.{ByFile, or_nothing, replica_in}
use Rattle.pg_store.specs.declared.seekers.Seekers.{Seekers}
use Rattle.pg_store.specs.Seekers.{AreMarked, Marks, is_touched, may_seek, seeks, seeks_as}
use Rattle.pg_walkers.specs.Walkers.{sends_as}
use Rattle.pg_store.proofs.Marked.{free_fresh, marked_stale}
use Rattle.pg_store.proofs.Rising.{SomeNew, greatest_rises, new_differs}

abbrev FlagsAt : NamesValue → FileId → Option (List Flag)
FlagsAt s q = option_map (λ (own : Attributes). own.flags) (own_at s q)

abbrev SomeTouched : Work → FileId → Type 0
SomeTouched work q = (n : ℕ) × IsTouched work q (key.Flag n)

-- of each thing the flags are as before, or one is touched; and what was touched stays so
record Shows (s t : State) : Type 0 where
  pub server : t.names.server ≡ s.names.server
  pub removed : t.names.removed ≡ s.names.removed
  pub flags : (q : FileId) → (FlagsAt t.names q ≡ FlagsAt s.names q) ⊎ SomeTouched t.work q
  pub stays : (x : Touched) → IsIn x s.work.touched → IsIn x t.work.touched

Shows-refl : (s : State) → Shows s s
Shows-refl s = record { server = refl; removed = refl; flags = λ q. inl refl; stays = λ x h. h }

joined : (s t u : State) (q : FileId) → ((x : Touched) → IsIn x t.work.touched → IsIn x u.work.touched)
    → (FlagsAt t.names q ≡ FlagsAt s.names q) ⊎ SomeTouched t.work q → (FlagsAt u.names q ≡ FlagsAt t.names q) ⊎ SomeTouched u.work q
    → (FlagsAt u.names q ≡ FlagsAt s.names q) ⊎ SomeTouched u.work q
joined s t u q stays one (inr new) = inr new
joined s t u q stays (inl e) (inl d) = inl (d ∙ e)
joined s t u q stays (inr old) (inl d) = inr (old.0, stays _ old.1)

Shows-trans : (s t u : State) → Shows s t → Shows t u → Shows s u
Shows-trans s t u a b = record {
  server = b.server ∙ a.server;
  removed = b.removed ∙ a.removed;
  flags = λ q. joined s t u q b.stays (a.flags q) (b.flags q);
  stays = λ x h. b.stays x (a.stays x h);
}

-- ---- a thing passes

taken_flags : (own top : Attributes) (back : Bool) → (own_taken own top back).flags ≡ top.flags
taken_flags own top true = refl
taken_flags own top false = refl

module _ (st : State) (ds : List FileId) (f : FileId) (own : Attributes) (h : own_at st.names f ≡ Some own) where
  abbrev Top : Attributes
  Top = greatest st.names f own ds

  abbrev Back : Bool
  Back = is_held_back st.names.removed f own Top

  abbrev Passed : State
  Passed = pass_own st ds f (Some own)

  taken : own_at Passed.names f ≡ Some (own_taken own Top Back)
  taken = after_own st ds f own Top Back h

  flags_here : (own_or_blank Passed.names f).flags ≡ Top.flags
  flags_here = ap (λ (o : Option Attributes). (or_blank f o).flags) taken ∙ taken_flags own Top Back

  flags_there : (own_or_blank st.names f).flags ≡ own.flags
  flags_there = ap (λ (o : Option Attributes). (or_blank f o).flags) h

  new_touched : (new : SomeNew own.flags Top.flags)
      → (flag_of (own_or_blank Passed.names f).flags new.0 ≡ flag_of (own_or_blank st.names f).flags new.0) ⊎ IsTouched Passed.work f (key.Flag new.0)
      → SomeTouched Passed.work f
  new_touched new (inr done) = (new.0, done)
  new_touched new (inl same) =
      absurd (new_differs own.flags Top.flags new.0 new.1
      (sym (ap (λ (fs : List Flag). flag_of fs new.0) flags_here) ∙ same ∙ ap (λ (fs : List Flag). flag_of fs new.0) flags_there))

  passed_here : (Top.flags ≡ own.flags) ⊎ SomeNew own.flags Top.flags
      → ((n : ℕ) → (flag_of (own_or_blank Passed.names f).flags n ≡ flag_of (own_or_blank st.names f).flags n) ⊎ IsTouched Passed.work f (key.Flag n))
      → (FlagsAt Passed.names f ≡ FlagsAt st.names f) ⊎ SomeTouched Passed.work f
  passed_here (inr new) told = inr (new_touched new (told new.0))
  passed_here (inl same) told =
      inl (ap (option_map (λ (o : Attributes). o.flags)) taken ∙ ap (λ (fs : List Flag). Some fs) (taken_flags own Top Back ∙ same)
      ∙ sym (ap (option_map (λ (o : Attributes). o.flags)) h))

  passed_at : (q : FileId) → ((n : ℕ) → (flag_of (own_or_blank Passed.names f).flags n ≡ flag_of (own_or_blank st.names f).flags n) ⊎ IsTouched Passed.work f (key.Flag n))
      → (is_same_file f q ≡ true) ⊎ (is_same_file f q ≡ false) → (FlagsAt Passed.names q ≡ FlagsAt st.names q) ⊎ SomeTouched Passed.work q
  passed_at q told (inr apart) = inl (ap (option_map (λ (o : Attributes). o.flags)) (after_other st ds f own Top Back q apart))
  passed_at q told (inl same) =
      subst (λ (x : FileId). (FlagsAt Passed.names x ≡ FlagsAt st.names x) ⊎ SomeTouched Passed.work x) (is_same_file-true f q same)
      (passed_here (greatest_rises st.names f own ds).some told)

pass_flags : (st : State) (ds : List FileId) (f : FileId) (o : Option Attributes) → own_at st.names f ≡ o
    → ((n : ℕ) → (flag_of (own_or_blank (pass_own st ds f o).names f).flags n ≡ flag_of (own_or_blank st.names f).flags n) ⊎ IsTouched (pass_own st ds f o).work f (key.Flag n))
    → (q : FileId) → (FlagsAt (pass_own st ds f o).names q ≡ FlagsAt st.names q) ⊎ SomeTouched (pass_own st ds f o).work q
pass_flags st ds f None h told q = inl refl
pass_flags st ds f (Some own) h told q = passed_at st ds f own h q told (bool_cases (is_same_file f q))

pass_shows : (st : State) (ds : List FileId) (f : FileId) → Shows st (pass st ds f)
pass_shows st ds f =
    let tells = pass_tells st ds f in
    let frame = pass_frame st ds f in
    record {
      server = frame.server;
      removed = frame.removed;
      flags = pass_flags st ds f (own_at st.names f) refl (tells.told.flags f);
      stays = tells.stays;
    }

all_shows : (st : State) (ds fs : List FileId) → Shows st (pass_all st ds fs)
all_shows st ds [] = Shows-refl st
all_shows st ds (f ∷ fs) = Shows-trans st (pass st ds f) (pass_all (pass st ds f) ds fs) (pass_shows st ds f) (all_shows (pass st ds f) ds fs)

-- ---- a place is made: flags stay

module _ (st : State) (f : FileId) (place : Place) where
  abbrev Made : State
  Made = made_at st f place

  abbrev Late : NamesValue
  Late = with_last st.names place.stamp.time

  abbrev Mine : Attributes
  Mine = own_with st.names f place

  -- what was made, before the old place is noted
  abbrev Noted : Work
  Noted = with_touched (with_made st.work (update.Place f place)) f key.Place

  flags_by : (o : Option Attributes) → own_at st.names f ≡ o → FlagsAt Made.names f ≡ FlagsAt st.names f
  flags_by None h = ap (λ (s : NamesValue). FlagsAt s f) (known_absent Late f (with_own Mine) h)
  flags_by (Some own) h =
      ap (option_map (λ (o : Attributes). o.flags)) (own_same Late f own Mine h) ∙ ap (λ (o : Option Attributes). Some (flags_of o)) h
      ∙ sym (ap (option_map (λ (o : Attributes). o.flags)) h)

  flags_at : (q : FileId) → (is_same_file f q ≡ true) ⊎ (is_same_file f q ≡ false) → FlagsAt Made.names q ≡ FlagsAt st.names q
  flags_at q (inr apart) = ap (option_map (λ (o : Attributes). o.flags)) (own_other Late f Mine q apart)
  flags_at q (inl same) = subst (λ (x : FileId). FlagsAt Made.names x ≡ FlagsAt st.names x) (is_same_file-true f q same) (flags_by (own_at st.names f) refl)

  made_shows : Shows st Made
  made_shows =
      let frame = update_frame Late f (with_own Mine) in
      record {
        server = frame.server;
        removed = frame.removed;
        flags = λ q. inl (flags_at q (bool_cases (is_same_file f q)));
        stays = λ x h. left_stays Noted f (place_at st.names f) x (in_front x st.work.touched _ h);
      }

placed_shows : (moment : ℕ) (ds : List FileId) (st : State) (f p : FileId) (name : List ℕ) → Shows st (placed moment ds st f p name)
placed_shows moment ds st f p name =
    let place = live_place (drawn moment st.names) p name in
    let made = made_at st f place in
    Shows-trans st made (pass made ds f) (made_shows st f place) (pass_shows made ds f)

returned_shows : (moment : ℕ) (ds : List FileId) (st : State) (o : Option FileId) → Shows st (returned moment ds st o)
returned_shows moment ds st None = Shows-refl st
returned_shows moment ds st (Some d) = placed_shows moment ds st d (place_at st.names d).parent (place_at st.names d).name

moved_shows : (moment : ℕ) (ds : List FileId) (st : State) (o : Option FileId) → Shows st (moved moment ds st o)
moved_shows moment ds st None = Shows-refl st
moved_shows moment ds st (Some d) = placed_shows moment ds st d root (tilde_name d)

repeated_shows : (step : State → State) → ((st : State) → Shows st (step st)) → (n : ℕ) (st : State) → Shows st (repeated n step st)
repeated_shows step each zero st = Shows-refl st
repeated_shows step each (suc n) st = Shows-trans st (step st) (repeated n step (step st)) (each st) (repeated_shows step each n (step st))

house_shows : (moment : ℕ) (st : State) → Shows st (house moment st)
house_shows moment st =
    let ds = directories st.names in
    let one = pass_all st ds (movable st.names) in
    let two = repeated (length ds) (return_first moment ds) one in
    Shows-trans st one (house moment st) (all_shows st ds (movable st.names))
    (Shows-trans one two (house moment st)
    (repeated_shows (return_first moment ds) (λ t. returned_shows moment ds t (first_returning t.names ds)) (length ds) one)
    (repeated_shows (break_first moment ds) (λ t. moved_shows moment ds t (first_moving t.names (length ds) None ds)) (length ds) two))

-- ---- what is marked

touched_by : (x : Touched) (q : FileId) (xs : List Touched) → x.file ≡ q → IsIn x xs → is_touched q xs ≡ true
touched_by x q [] same h = absurd h
touched_by x q (y ∷ ys) same (inl here) = or_left (is_same_file y.file q) (is_touched q ys)
    (ap (λ (z : Touched). is_same_file z.file q) here ∙ ap (λ (f : FileId). is_same_file f q) same ∙ is_same_file-refl q)
touched_by x q (y ∷ ys) same (inr later) = or_right (is_same_file y.file q) (is_touched q ys) (touched_by x q ys same later)

abbrev FlagsSeek : ℕ → List ℕ → Option (List Flag) → Replica → Bool
FlagsSeek n removed None x = false
FlagsSeek n removed (Some fs) x = seeks n removed fs x.birth x.edges

by_flags : (n : ℕ) (removed : List ℕ) (o : Option Attributes) (x : Replica) → seeks_as n removed o x ≡ FlagsSeek n removed (option_map (λ (own : Attributes). own.flags) o) x
by_flags n removed None x = refl
by_flags n removed (Some own) x = refl

same_flags : (s t : NamesValue) (rs : ByFile) (q : FileId) → t.server ≡ s.server → t.removed ≡ s.removed → FlagsAt t q ≡ FlagsAt s q → may_seek t rs q ≡ may_seek s rs q
same_flags s t rs q server removed flags =
    let x = or_nothing (replica_in rs q) in
    by_flags t.server t.removed (own_at t q) x
    ∙ ap (λ n. FlagsSeek n t.removed (FlagsAt t q) x) server
    ∙ ap (λ r. FlagsSeek s.server r (FlagsAt t q) x) removed
    ∙ ap (λ fs. FlagsSeek s.server s.removed fs x) flags
    ∙ sym (by_flags s.server s.removed (own_at s q) x)

-- all that is touched is marked, behind the rules
pub house_marked : (moment : ℕ) (st : State) (t : NamesValue) (touched : List Touched) (rs : ByFile) (old new : Seekers)
    → t ≡ (house moment st).names → touched ≡ (house moment st).work.touched
    → Marks (λ q. is_touched q touched) old new
    → AreMarked st.names rs old → AreMarked t rs new
house_marked moment st t touched rs old new names work more marked q = (
  λ free. (
      let both = more.more q free in
      let shows = house_shows moment st in
      ap (λ (s : NamesValue). may_seek s rs q) names
      ∙ elim (shows.flags q) [
        | inl same ↦ same_flags st.names (house moment st).names rs q shows.server shows.removed same ∙ (marked q).0 both.1
        | inr done ↦ absurd (false≢true (sym both.0 ∙ ap (is_touched q) work ∙ touched_by _ q (house moment st).work.touched refl done.1))
      ]),
  λ fresh. (
      let both = more.more q (marked_stale new q more.whole fresh) in
      let full : is_full t q ≡ is_full st.names q = ap (λ (s : NamesValue). is_full s q) names ∙ rules_full moment st q in
      ap (is_one_of q) more.walkers ∙ (marked q).1 (free_fresh old q both.1)
      ∙ ap (λ f. sends_as q f (or_nothing (replica_in rs q))) (sym full)),
)
