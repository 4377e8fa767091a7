-- Every cell that a rule changes is among the keys touched.
use Rattle.std.proofs.Common.{◌≡◌, ℕ, Bool, true, false, ◌==◌, ◌&&◌, cond, not, List, [], ◌∷◌, ◌++◌, Option, None, Some, refl, sym, ap, ◌∙◌, subst, inl, inr, ◌⊎◌}
use Rattle.std.proofs.lemmas.Bool.{false≢true, not-false}
use Rattle.std.proofs.lemmas.Bool.Decides.{Decides-eqb}
use Rattle.pg_base.specs.declared.id.FileId.{FileId}
use Rattle.pg_base.specs.Id.{is_same_file}
use Rattle.pg_base.proofs.Orders.{is_same_file-true}
use Rattle.pg_register.specs.declared.flag.Flag.{Flag}
use Rattle.pg_register.specs.declared.place.Place.{Place}
use Rattle.pg_register.specs.Flag.{flag_of}
use Rattle.pg_edges.specs.declared.key.Key.{Key}
use Rattle.pg_edges.specs.declared.key.Key.TheVariants as key
use Rattle.pg_msg.specs.declared.work.Touched.{Touched}
use Rattle.pg_msg.specs.declared.work.Work.{Work}
use Rattle.pg_msg.specs.Work.{with_left, with_touched}
use Rattle.pg_names.specs.declared.attributes.Attributes.{Attributes}
use Rattle.pg_names.specs.Names.{cell_at, own_at, or_blank, own_or_blank}
use Rattle.pg_names.specs.Same.{is_same_flag, is_same_own, is_same_place}
use Rattle.pg_names.proofs.Alike.{flag-true, place-true}
use Rattle.pg_names.proofs.Lookups.{apart_back, entry_other_child, entry_other_dir, entry_own, own_cell, own_other, own_same}
use Rattle.pg_house.specs.Work.{State, note_left, place_touched, touched}
use Rattle.pg_house.specs.Passing.{cell_for, flags_touched, gets, given, greatest, is_held_back, is_other_flag, offered, own_taken, pass, pass_own, pass_all, spread, taking, took}
use Rattle.pg_house.specs.Returning.{is_root}
use Rattle.pg_house.specs.Facts.{IsIn, IsTold, IsTouched}
use Rattle.pg_house.proofs.Truths.{bool_cases, chosen}
use Rattle.pg_house.proofs.Greatest.{greatest_flag}
use Rattle.pg_house.proofs.Spreading.{spread_own}

-- ---- what is among the keys touched

pub in_front : (t : Touched) (xs ys : List Touched) → IsIn t xs → IsIn t (xs ++ ys)
in_front t [] ys h = absurd h
in_front t (x ∷ xs) ys (inl same) = inl same
in_front t (x ∷ xs) ys (inr more) = inr (in_front t xs ys more)

pub in_last : (t : Touched) (xs : List Touched) → IsIn t (xs ++ t ∷ [])
in_last t [] = inl refl
in_last t (x ∷ xs) = inr (in_last t xs)

-- what is noted of a place touches nothing
pub left_stays : (work : Work) (f : FileId) (old : Place) (x : Touched) → IsIn x work.touched → IsIn x (note_left work f old).touched
left_stays work f old x h = chosen (λ (w : Work). IsIn x w.touched) (old.live && not (is_root f)) (with_left work old.parent f) work h h

pub place_stays : (work : Work) (f : FileId) (old : Place) (t : Bool) (x : Touched) → IsIn x work.touched → IsIn x (place_touched work f old t).touched
place_stays work f old t x h =
    chosen (λ (w : Work). IsIn x w.touched) t (note_left (with_touched work f key.Place) f old) work
    (left_stays (with_touched work f key.Place) f old x (in_front x work.touched _ h)) h

touched_stays : (work : Work) (f : FileId) (k : Key) (t : Bool) (x : Touched) → IsIn x work.touched → IsIn x (touched work f k t).touched
touched_stays work f k t x h = chosen (λ (w : Work). IsIn x w.touched) t (with_touched work f k) work (in_front x work.touched _ h) h

pub flags_stay : (work : Work) (f : FileId) (held flags : List Flag) (x : Touched) → IsIn x work.touched → IsIn x (flags_touched work f held flags).touched
flags_stay work f held [] x h = h
flags_stay work f held (g ∷ gs) x h =
    let other = is_other_flag (flag_of held g.server) g in
    flags_stay (touched work f (key.Flag g.server) other) f held gs x (touched_stays work f (key.Flag g.server) other x h)

-- ---- what one state tells of its changes since another

pub record Tells (s t : State) : Type 0 where
  pub told : IsTold s.names t.names t.work
  pub stays : (x : Touched) → IsIn x s.work.touched → IsIn x t.work.touched

pub Tells-refl : (s : State) → Tells s s
Tells-refl s = record { told = record { cells = λ q g. inl refl; places = λ q. inl refl; flags = λ q n. inl refl }; stays = λ x h. h }

-- as it was then, or touched, and then as it was before, or touched
joined : {A : Type 0} (a b c : A) (P Q : Type 0) → (P → Q) → (b ≡ a) ⊎ P → (c ≡ b) ⊎ Q → (c ≡ a) ⊎ Q
joined a b c P Q stays one (inr q) = inr q
joined a b c P Q stays (inl e) (inl d) = inl (d ∙ e)
joined a b c P Q stays (inr p) (inl d) = inr (stays p)

pub Tells-trans : (s t u : State) → Tells s t → Tells t u → Tells s u
Tells-trans s t u a b = record {
  told = record {
    cells = λ q g. joined (cell_at s.names q g) (cell_at t.names q g) (cell_at u.names q g) (IsTouched t.work q (key.Entry g)) (IsTouched u.work q (key.Entry g)) (b.stays _) (a.told.cells q g) (b.told.cells q g);
    places = λ q. joined (own_or_blank s.names q).place (own_or_blank t.names q).place (own_or_blank u.names q).place (IsTouched t.work q key.Place) (IsTouched u.work q key.Place) (b.stays _) (a.told.places q) (b.told.places q);
    flags = λ q n. joined (flag_of (own_or_blank s.names q).flags n) (flag_of (own_or_blank t.names q).flags n) (flag_of (own_or_blank u.names q).flags n) (IsTouched t.work q (key.Flag n)) (IsTouched u.work q (key.Flag n)) (b.stays _) (a.told.flags q n) (b.told.flags q n);
  };
  stays = λ x h. b.stays x (a.stays x h);
}

-- ---- a cell is given

module _ (st : State) (f : FileId) (top : Attributes) (d : FileId) where
  abbrev Given : State
  Given = given st f top d

  given_cell : (q g : FileId) → (is_same_file d q ≡ true) ⊎ (is_same_file d q ≡ false) → (is_same_file f g ≡ true) ⊎ (is_same_file f g ≡ false) → (cell_at Given.names q g ≡ cell_at st.names q g) ⊎ IsTouched Given.work q (key.Entry g)
  given_cell q g (inr apart) child = inl (entry_other_dir st.names d (cell_for f top) q g apart)
  given_cell q g (inl here) (inr apart) = inl (entry_other_child st.names d (cell_for f top) q g (apart_back f g apart))
  given_cell q g (inl here) (inl same) =
      let P : FileId → FileId → Type 0 = λ x y. IsTouched Given.work x (key.Entry y) in
      inr (subst (λ y. P q y) (is_same_file-true f g same) (subst (λ x. P x f) (is_same_file-true d q here) (in_last (record { file = d; key = key.Entry f }) st.work.touched)))

  given_tells : Tells st Given
  given_tells = record {
    told = record {
      cells = λ q g. given_cell q g (bool_cases (is_same_file d q)) (bool_cases (is_same_file f g));
      places = λ q. inl (ap (λ (o : Option Attributes). (or_blank q o).place) (entry_own st.names d (cell_for f top) q));
      flags = λ q n. inl (ap (λ (o : Option Attributes). flag_of (or_blank q o).flags n) (entry_own st.names d (cell_for f top) q));
    };
    stays = λ x h. in_front x st.work.touched _ h;
  }

offered_tells : (st : State) (f : FileId) (own top : Attributes) (back : Bool) (d : FileId) → Tells st (offered st f own top back d)
offered_tells st f own top back d = chosen (Tells st) (gets st.names f own top back d) (given st f top d) st (given_tells st f top d) (Tells-refl st)

pub spread_tells : (st : State) (f : FileId) (own top : Attributes) (back : Bool) (ds : List FileId) → Tells st (spread st f own top back ds)
spread_tells st f own top back [] = Tells-refl st
spread_tells st f own top back (d ∷ ds) =
    let next = offered st f own top back d in
    Tells-trans st next (spread next f own top back ds) (offered_tells st f own top back d) (spread_tells next f own top back ds)

-- ---- the thing takes a place and flags

-- a flag that is not another is the one that is held
same_flag : (o : Option Flag) (g : Flag) → is_other_flag o g ≡ false → o ≡ Some g
same_flag None g h = absurd (false≢true (sym h))
same_flag (Some x) g h = ap Some (flag-true x g (not-false (is_same_flag x g) h))

-- of each server these flags have none, or the one that is held, or it is touched
abbrev FlagTold : Work → FileId → List Flag → List Flag → ℕ → Type 0
FlagTold work f held flags n = (flag_of flags n ≡ None) ⊎ ((flag_of flags n ≡ flag_of held n) ⊎ IsTouched (flags_touched work f held flags) f (key.Flag n))

flag_here : (work : Work) (f : FileId) (held gs : List Flag) (g : Flag) (n : ℕ) (u : Bool) → g.server ≡ n → is_other_flag (flag_of held g.server) g ≡ u
    → (Some g ≡ flag_of held n) ⊎ IsTouched (flags_touched (touched work f (key.Flag g.server) u) f held gs) f (key.Flag n)
flag_here work f held gs g n false same e = inl (sym (ap (flag_of held) (sym same) ∙ same_flag (flag_of held g.server) g e))
flag_here work f held gs g n true same e =
    let w = with_touched work f (key.Flag g.server) in
    inr (flags_stay w f held gs _ (subst (λ k. IsIn (record { file = f; key = key.Flag k }) w.touched) same (in_last (record { file = f; key = key.Flag g.server }) work.touched)))

flag_at : (work : Work) (f : FileId) (held gs : List Flag) (g : Flag) (n : ℕ) (t : Bool) → (g.server == n) ≡ t → FlagTold (touched work f (key.Flag g.server) (is_other_flag (flag_of held g.server) g)) f held gs n
    → (cond t (Some g) (flag_of gs n) ≡ None) ⊎ ((cond t (Some g) (flag_of gs n) ≡ flag_of held n) ⊎ IsTouched (flags_touched work f held (g ∷ gs)) f (key.Flag n))
flag_at work f held gs g n false e rest = rest
flag_at work f held gs g n true e rest = inr (flag_here work f held gs g n (is_other_flag (flag_of held g.server) g) ((Decides-eqb g.server n).0 e) refl)

flags_told : (work : Work) (f : FileId) (held flags : List Flag) (n : ℕ) → FlagTold work f held flags n
flags_told work f held [] n = inl refl
flags_told work f held (g ∷ gs) n = flag_at work f held gs g n (g.server == n) refl (flags_told (touched work f (key.Flag g.server) (is_other_flag (flag_of held g.server) g)) f held gs n)

-- each server that has a flag keeps one
abbrev KeepFlags : List Flag → List Flag → Type 0
KeepFlags fs gs = (n : ℕ) (g : Flag) → flag_of fs n ≡ Some g → (h : Flag) × (flag_of gs n ≡ Some h)

none_some : (o : Option Flag) (g : Flag) → o ≡ None → o ≡ Some g → ⊥
none_some None g h e = let x : None ≡ Some g = e in cc
none_some (Some y) g h e = let x : Some y ≡ None = h in cc

none_before : (fs gs : List Flag) (n : ℕ) (o : Option Flag) → KeepFlags fs gs → flag_of gs n ≡ None → flag_of fs n ≡ o → None ≡ o
none_before fs gs n None keep h e = refl
none_before fs gs n (Some g) keep h e = let k = keep n g e in absurd (none_some (flag_of gs n) k.0 h k.1)

module _ (st : State) (f : FileId) (own taken : Attributes) (h : own_at st.names f ≡ Some own) (keep : KeepFlags own.flags taken.flags) where
  abbrev Took : State
  Took = took st f own taken

  abbrev Moved : Work
  Moved = place_touched st.work f own.place (not (is_same_place own.place taken.place))

  before : own_or_blank st.names f ≡ own
  before = ap (or_blank f) h

  after : own_or_blank Took.names f ≡ taken
  after = ap (or_blank f) (own_same st.names f own taken h)

  place_here : (t : Bool) → is_same_place own.place taken.place ≡ t → (taken.place ≡ own.place) ⊎ IsTouched (place_touched st.work f own.place (not t)) f key.Place
  place_here true e = inl (sym (place-true own.place taken.place e))
  place_here false e = inr (left_stays (with_touched st.work f key.Place) f own.place _ (in_last (record { file = f; key = key.Place }) st.work.touched))

  place_at : (q : FileId) → (is_same_file f q ≡ true) ⊎ (is_same_file f q ≡ false) → ((own_or_blank Took.names q).place ≡ (own_or_blank st.names q).place) ⊎ IsTouched Took.work q key.Place
  place_at q (inr apart) = inl (ap (λ (o : Option Attributes). (or_blank q o).place) (own_other st.names f taken q apart))
  place_at q (inl same) =
      subst (λ (x : FileId). ((own_or_blank Took.names x).place ≡ (own_or_blank st.names x).place) ⊎ IsTouched Took.work x key.Place) (is_same_file-true f q same)
      (elim (place_here (is_same_place own.place taken.place) refl) [
        | inl e ↦ inl (ap (λ (o : Attributes). o.place) after ∙ e ∙ sym (ap (λ (o : Attributes). o.place) before))
        | inr done ↦ inr (flags_stay Moved f own.flags taken.flags _ done)
      ])

  flag_told : (n : ℕ) → (flag_of taken.flags n ≡ flag_of own.flags n) ⊎ IsTouched Took.work f (key.Flag n)
  flag_told n =
      elim (flags_told Moved f own.flags taken.flags n) [
        | inl none ↦ inl (none ∙ none_before own.flags taken.flags n (flag_of own.flags n) keep none refl)
        | inr some ↦ some
      ]

  flags_at : (q : FileId) (n : ℕ) → (is_same_file f q ≡ true) ⊎ (is_same_file f q ≡ false) → (flag_of (own_or_blank Took.names q).flags n ≡ flag_of (own_or_blank st.names q).flags n) ⊎ IsTouched Took.work q (key.Flag n)
  flags_at q n (inr apart) = inl (ap (λ (o : Option Attributes). flag_of (or_blank q o).flags n) (own_other st.names f taken q apart))
  flags_at q n (inl same) =
      subst (λ (x : FileId). (flag_of (own_or_blank Took.names x).flags n ≡ flag_of (own_or_blank st.names x).flags n) ⊎ IsTouched Took.work x (key.Flag n)) (is_same_file-true f q same)
      (elim (flag_told n) [
        | inl e ↦ inl (ap (λ (o : Attributes). flag_of o.flags n) after ∙ e ∙ sym (ap (λ (o : Attributes). flag_of o.flags n) before))
        | inr done ↦ inr done
      ])

  took_tells : Tells st Took
  took_tells = record {
    told = record {
      cells = λ q g. inl (own_cell st.names f taken q g);
      places = λ q. place_at q (bool_cases (is_same_file f q));
      flags = λ q n. flags_at q n (bool_cases (is_same_file f q));
    };
    stays = λ x i. flags_stay Moved f own.flags taken.flags x (place_stays st.work f own.place (not (is_same_place own.place taken.place)) x i);
  }

  taking_tells : Tells st (taking st f own taken)
  taking_tells = chosen (Tells st) (is_same_own own taken) st Took (Tells-refl st) took_tells

-- ---- a pass

keeps_taken : (own top : Attributes) (t : Bool) → KeepFlags own.flags top.flags → KeepFlags own.flags (own_taken own top t).flags
keeps_taken own top true keep = keep
keeps_taken own top false keep = keep

pass_own_tells : (st : State) (ds : List FileId) (f : FileId) (o : Option Attributes) → own_at st.names f ≡ o → Tells st (pass_own st ds f o)
pass_own_tells st ds f None h = Tells-refl st
pass_own_tells st ds f (Some own) h =
    let top = greatest st.names f own ds in
    let back = is_held_back st.names.removed f own top in
    let mid = spread st f own top back ds in
    let taken = own_taken own top back in
    Tells-trans st mid (taking mid f own taken) (spread_tells st f own top back ds)
    (taking_tells mid f own taken (spread_own st f own top back ds f ∙ h) (keeps_taken own top back (λ n g e. greatest_flag st.names f own ds n g e)))

pub pass_tells : (st : State) (ds : List FileId) (f : FileId) → Tells st (pass st ds f)
pass_tells st ds f = pass_own_tells st ds f (own_at st.names f) refl

pub all_tells : (st : State) (ds fs : List FileId) → Tells st (pass_all st ds fs)
all_tells st ds [] = Tells-refl st
all_tells st ds (f ∷ fs) = Tells-trans st (pass st ds f) (pass_all (pass st ds f) ds fs) (pass_tells st ds f) (all_tells (pass st ds f) ds fs)
