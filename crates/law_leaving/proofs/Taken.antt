-- What a replica took it took, as more comes, and as other replicas go.
use Rattle.std.proofs.Common.{ℕ, ◌≡◌, ◌&&◌, true, false, cond, List, [], ◌∷◌, refl, sym, ap, subst, ◌∙◌, inl, inr}
use Rattle.std.specs.Prelude.{Contains}
use Rattle.std.specs.List.{flat_map}
use Rattle.std.proofs.lemmas.Bool.{and_from}
use Rattle.pg_run.specs.pg_base.declared.id.FileId.{FileId}
use Rattle.pg_run.specs.pg_base.Id.{is_same_file}
use Rattle.pg_run.proofs.pg_base.Orders.{is_same_file-refl, is_same_file-true}
use Rattle.pg_run.specs.pg_content.Content.{Among}
use Rattle.pg_run.proofs.pg_content.Members.{map_among}
use Rattle.pg_run.specs.pg_entries.declared.cell.Cell.{Cell}
use Rattle.pg_run.specs.pg_entries.declared.cell.Cell.TheVariants as cell
use Rattle.pg_run.specs.pg_msg.declared.update.Update.{Update}
use Rattle.pg_run.specs.pg_register.declared.flag.Flag.{Flag}
use Rattle.pg_run.specs.pg_register.declared.place.Place.{Place}
use Rattle.pg_run.specs.Passed.{passed, passed_with, passes}
use Rattle.pg_run.specs.Took.{Take, Taker, flag_taken_by, flags_taken, held, is_same_taker, is_taker, place_taken_by, places_taken, take_of, takes_in, without}
use Rattle.pg_run.specs.Took.Take.{TookFlag, TookPlace}
use Rattle.pg_run.specs.Took.Taker.{InDir, Itself}
use Rattle.pg_run.proofs.Gone.{flags_stay, places_stay}
use Rattle.pg_run.proofs.Lists.{among_back, among_contained, among_pieces, contained_among, pieces_among}
use Rattle.law_leaving.specs.Taken.{IsTaken}

-- all that is among the first is among the second
abbrev pub AllAmong : List Take → List Take → Type 0
AllAmong takes more = (t : Take) → Among t takes → Among t more

-- the replica of a thing took as much, or more: places and flags by the takers that it is
pub record TakesOn (file : FileId) (takes more : List Take) : Type 0 where
  pub places : (by : Taker) (thing : FileId) (place : Place) → is_taker file by thing ≡ true
      → Contains (places_taken by thing takes) place → Contains (places_taken by thing more) place
  pub flags : (by : Taker) (thing : FileId) (flag : Flag) → is_taker file by thing ≡ true
      → Contains (flags_taken by thing takes) flag → Contains (flags_taken by thing more) flag

pub on_then : (file : FileId) (a b c : List Take) → TakesOn file a b → TakesOn file b c → TakesOn file a c
on_then file a b c f g = record {
  places = λ by thing place is h. g.places by thing place is (f.places by thing place is h);
  flags = λ by thing flag is h. g.flags by thing flag is (f.flags by thing flag is h);
}

pieces_on : {A : Type 0} (f : Take → List A) (takes more : List Take) → AllAmong takes more → (y : A)
    → Contains (flat_map f takes) y → Contains (flat_map f more) y
pieces_on f takes more all y h =
    let p = among_pieces f y takes (contained_among (flat_map f takes) y h) in
    among_contained (flat_map f more) y (pieces_among f y p.0 more (all p.0 p.1) p.2)

-- where more came
pub more_on : (file : FileId) (takes more : List Take) → AllAmong takes more → TakesOn file takes more
more_on file takes more all = record {
  places = λ by thing place is h. pieces_on (place_taken_by by thing) takes more all place h;
  flags = λ by thing flag is h. pieces_on (flag_taken_by by thing) takes more all flag h;
}

-- where the replica of another thing went
other_taker : (file g : FileId) (by : Taker) (thing : FileId) → is_same_file file g ≡ false → is_taker file by thing ≡ true
    → is_taker g by thing ≡ false
other_taker file g Itself thing apart is = ap (λ x. is_same_file x g) (is_same_file-true thing file is) ∙ apart
other_taker file g (InDir dir) thing apart is = ap (λ x. is_same_file x g) (is_same_file-true dir file is) ∙ apart

pub other_on : (file g : FileId) (takes : List Take) → is_same_file file g ≡ false → TakesOn file takes (without g takes)
other_on file g takes apart = record {
  places = λ by thing place is h. subst (λ ps. Contains ps place) (sym (places_stay g by thing takes (other_taker file g by thing apart is))) h;
  flags = λ by thing flag is h. subst (λ fs. Contains fs flag) (sym (flags_stay g by thing takes (other_taker file g by thing apart is))) h;
}

-- so what a cell tells stays taken
pub taken_on : (file : FileId) (takes more : List Take) (c : Cell) → TakesOn file takes more → IsTaken takes file c → IsTaken more file c
taken_on file takes more (cell.Place place) on h = λ is. on.places Itself file place (is_same_file-refl file) (h is)
taken_on file takes more (cell.Flag flag) on h = on.flags Itself file flag (is_same_file-refl file) h
taken_on file takes more (cell.Entry e sure) on h = (
  λ is. on.places (InDir file) e.child e.place (is_same_file-refl file) (h.0 is),
  λ flag is. on.flags (InDir file) e.child flag (is_same_file-refl file) (h.1 flag is),
)
taken_on file takes more (cell.Version v) on h = tt

-- ---- what passing and the house rules add

passed_on : (removed : List ℕ) (takes : List Take) → AllAmong takes (passed removed takes)
passed_on removed takes t k = among_back t (flat_map (passes removed takes) (held takes)) takes k

pub with_on : (removed : List ℕ) (takes : List Take) (us : List Update) → AllAmong takes (passed_with removed takes us)
with_on removed takes [] t k = k
with_on removed takes (u ∷ us) t k =
    with_on removed (passed removed (take_of u ∷ takes)) us t (passed_on removed (take_of u ∷ takes) t (inr k))

pub all_on : (removed : List ℕ) (takes : List Take) (us : List Update) → AllAmong takes (passed_with removed (passed removed takes) us)
all_on removed takes us t k = with_on removed (passed removed takes) us t (passed_on removed takes t k)

-- ---- what a cell brings

here : (y : Taker) → is_same_taker y y ≡ true
here Itself = refl
here (InDir d) = is_same_file-refl d

taker_here : (by : Taker) (thing : FileId) → (is_same_taker by by && is_same_file thing thing) ≡ true
taker_here by thing = and_from (is_same_taker by by) (is_same_file thing thing) (here by) (is_same_file-refl thing)

pub place_among : (by : Taker) (thing : FileId) (place : Place) (takes : List Take) → Among (TookPlace by thing place) takes
    → Contains (places_taken by thing takes) place
place_among by thing place takes k =
    let P : List Place → Type 0 = (λ ps. Among place ps) in
    among_contained (places_taken by thing takes) place
    (pieces_among (place_taken_by by thing) place (TookPlace by thing place) takes k
    (subst (λ t. P (cond t (place ∷ []) [])) (sym (taker_here by thing)) (inl refl)))

pub flag_among : (by : Taker) (thing : FileId) (flag : Flag) (takes : List Take) → Among (TookFlag by thing flag) takes
    → Contains (flags_taken by thing takes) flag
flag_among by thing flag takes k =
    let P : List Flag → Type 0 = (λ fs. Among flag fs) in
    among_contained (flags_taken by thing takes) flag
    (pieces_among (flag_taken_by by thing) flag (TookFlag by thing flag) takes k
    (subst (λ t. P (cond t (flag ∷ []) [])) (sym (taker_here by thing)) (inl refl)))

-- who took what a cell brings took what it tells
pub brings : (file : FileId) (takes : List Take) (c : Cell) → AllAmong (takes_in file c) takes → IsTaken takes file c
brings file takes (cell.Place place) all = λ is. place_among Itself file place takes (all (TookPlace Itself file place) (inl refl))
brings file takes (cell.Flag flag) all = flag_among Itself file flag takes (all (TookFlag Itself file flag) (inl refl))
brings file takes (cell.Entry e sure) all = (
  λ is. place_among (InDir file) e.child e.place takes (all (TookPlace (InDir file) e.child e.place) (inl refl)),
  λ flag is. flag_among (InDir file) e.child flag takes
      (all (TookFlag (InDir file) e.child flag)
      (inr (map_among (TookFlag (InDir file) e.child) e.flags flag (contained_among e.flags flag is)))),
)
brings file takes (cell.Version v) all = tt
