-- How many places the rules make.
use Rattle.std.proofs.Common.{◌≡◌, ℕ, zero, suc, ◌≤◌, ◌+◌, Bool, ◌&&◌, not, List, [], ◌∷◌, ◌++◌, length, Option, None, Some, refl, sym, ap, ◌∙◌, subst, arith}
use Rattle.std.specs.List.{filter}
use Rattle.pg_base.specs.declared.id.FileId.{FileId}
use Rattle.pg_register.specs.declared.flag.Flag.{Flag}
use Rattle.pg_register.specs.declared.place.Place.{Place}
use Rattle.pg_register.specs.Flag.{flag_of}
use Rattle.pg_register.specs.Place.{root, tilde_name}
use Rattle.pg_edges.specs.declared.key.Key.{Key}
use Rattle.pg_edges.specs.declared.key.Key.TheVariants as key
use Rattle.pg_msg.specs.declared.update.Update.{Update}
use Rattle.pg_msg.specs.declared.work.Work.{Work}
use Rattle.pg_msg.specs.declared.update.Update.TheVariants as update
use Rattle.pg_msg.specs.Work.{with_left, with_made, with_touched}
use Rattle.pg_names.specs.declared.attributes.Attributes.{Attributes}
use Rattle.pg_names.specs.Names.{directories, is_dir, own_at}
use Rattle.pg_names.specs.Same.{is_same_own, is_same_place}
use Rattle.pg_house.specs.Work.{State, note_left, place_touched, touched}
use Rattle.pg_house.specs.Passing.{flags_touched, gets, given, greatest, is_held_back, is_other_flag, offered, own_taken, pass, pass_own, pass_all, spread, taking, took}
use Rattle.pg_house.specs.Placing.{drawn, live_place, made_at, place_at, placed, repeated}
use Rattle.pg_house.specs.Returning.{first_returning, is_root, return_first, returned}
use Rattle.pg_house.specs.Cycles.{break_first, first_moving, moved}
use Rattle.pg_house.specs.House.{house, movable}
use Rattle.pg_house.proofs.Truths.{chosen}
use Rattle.pg_house.proofs.Keys.{rules_keys}

-- ---- passing makes none

touched_made : (work : Work) (f : FileId) (k : Key) (t : Bool) → (touched work f k t).made ≡ work.made
touched_made work f k t = chosen (λ (w : Work). w.made ≡ work.made) t (with_touched work f k) work refl refl

pub left_made : (work : Work) (f : FileId) (old : Place) → (note_left work f old).made ≡ work.made
left_made work f old = chosen (λ (w : Work). w.made ≡ work.made) (old.live && not (is_root f)) (with_left work old.parent f) work refl refl

pub place_made : (work : Work) (f : FileId) (old : Place) (t : Bool) → (place_touched work f old t).made ≡ work.made
place_made work f old t = chosen (λ (w : Work). w.made ≡ work.made) t (note_left (with_touched work f key.Place) f old) work (left_made (with_touched work f key.Place) f old) refl

flags_made : (work : Work) (f : FileId) (held flags : List Flag) → (flags_touched work f held flags).made ≡ work.made
flags_made work f held [] = refl
flags_made work f held (g ∷ gs) =
    let other = is_other_flag (flag_of held g.server) g in
    flags_made (touched work f (key.Flag g.server) other) f held gs ∙ touched_made work f (key.Flag g.server) other

pub spread_made : (st : State) (f : FileId) (own top : Attributes) (back : Bool) (ds : List FileId) → (spread st f own top back ds).work.made ≡ st.work.made
spread_made st f own top back [] = refl
spread_made st f own top back (d ∷ ds) =
    spread_made (offered st f own top back d) f own top back ds
    ∙ chosen (λ (s : State). s.work.made ≡ st.work.made) (gets st.names f own top back d) (given st f top d) st refl refl

pub taking_made : (st : State) (f : FileId) (own taken : Attributes) → (taking st f own taken).work.made ≡ st.work.made
taking_made st f own taken =
    let moved = not (is_same_place own.place taken.place) in
    chosen (λ (s : State). s.work.made ≡ st.work.made) (is_same_own own taken) st (took st f own taken) refl
    (flags_made (place_touched st.work f own.place moved) f own.flags taken.flags ∙ place_made st.work f own.place moved)

pass_own_made : (st : State) (ds : List FileId) (f : FileId) (o : Option Attributes) → (pass_own st ds f o).work.made ≡ st.work.made
pass_own_made st ds f None = refl
pass_own_made st ds f (Some own) =
    let top = greatest st.names f own ds in
    let back = is_held_back st.names.removed f own top in
    taking_made (spread st f own top back ds) f own (own_taken own top back) ∙ spread_made st f own top back ds

pub pass_made : (st : State) (ds : List FileId) (f : FileId) → (pass st ds f).work.made ≡ st.work.made
pass_made st ds f = pass_own_made st ds f (own_at st.names f)

pub all_made : (st : State) (ds fs : List FileId) → (pass_all st ds fs).work.made ≡ st.work.made
all_made st ds [] = refl
all_made st ds (f ∷ fs) = all_made (pass st ds f) ds fs ∙ pass_made st ds f

-- ---- each return and each move one

abbrev count : State → ℕ
count st = length st.work.made

one_longer : (xs : List Update) (x : Update) → length (xs ++ x ∷ []) ≤ length xs + 1
one_longer [] x = omega arith
one_longer (y ∷ xs) x = let h = one_longer xs x in omega arith

placed_made : (moment : ℕ) (ds : List FileId) (st : State) (f p : FileId) (name : List ℕ) → count (placed moment ds st f p name) ≤ count st + 1
placed_made moment ds st f p name =
    let place = live_place (drawn moment st.names) p name in
    let made = made_at st f place in
    let noted = left_made (with_touched (with_made st.work (update.Place f place)) f key.Place) f (place_at st.names f) in
    subst (λ (us : List Update). length us ≤ count st + 1) (sym (pass_made made ds f ∙ noted)) (one_longer st.work.made (update.Place f place))

none_longer : (n : ℕ) → n ≤ n + 1
none_longer n = omega arith

returned_made : (moment : ℕ) (ds : List FileId) (st : State) (o : Option FileId) → count (returned moment ds st o) ≤ count st + 1
returned_made moment ds st None = none_longer (count st)
returned_made moment ds st (Some d) = placed_made moment ds st d (place_at st.names d).parent (place_at st.names d).name

moved_made : (moment : ℕ) (ds : List FileId) (st : State) (o : Option FileId) → count (moved moment ds st o) ≤ count st + 1
moved_made moment ds st None = none_longer (count st)
moved_made moment ds st (Some d) = placed_made moment ds st d root (tilde_name d)

repeated_made : (step : State → State) → ((st : State) → count (step st) ≤ count st + 1) → (n : ℕ) (st : State) → count (repeated n step st) ≤ count st + n
repeated_made step each zero st = let h = none_longer (count st) in omega arith
repeated_made step each (suc n) st = let h = each st in let g = repeated_made step each n (step st) in omega arith

both : (a b c n : ℕ) → c ≤ b + n → b ≤ a + n → c ≤ a + (n + n)
both a b c n h g = omega arith

rules_made : (moment : ℕ) (st : State) → count (house moment st) ≤ count st + (length (directories st.names) + length (directories st.names))
rules_made moment st =
    let ds = directories st.names in
    let one = pass_all st ds (movable st.names) in
    let two = repeated (length ds) (return_first moment ds) one in
    let a = repeated_made (return_first moment ds) (λ t. returned_made moment ds t (first_returning t.names ds)) (length ds) one in
    let b = repeated_made (break_first moment ds) (λ t. moved_made moment ds t (first_moving t.names (length ds) None ds)) (length ds) two in
    subst (λ (us : List Update). count (house moment st) ≤ length us + (length ds + length ds)) (all_made st ds (movable st.names)) (both (count one) (count two) (count (house moment st)) (length ds) b a)

-- so no more than two for each directory that is held
pub few_made : (moment : ℕ) (st : State) → length (house moment st).work.made ≤ length st.work.made + (length (directories (house moment st).names) + length (directories (house moment st).names))
few_made moment st =
    let same : directories (house moment st).names ≡ directories st.names = ap (filter is_dir) (rules_keys moment st) in
    subst (λ (ds : List FileId). length (house moment st).work.made ≤ length st.work.made + (length ds + length ds)) (sym same) (rules_made moment st)
