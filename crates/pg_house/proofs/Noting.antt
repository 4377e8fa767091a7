-- What is noted as a thing takes another place.
use Rattle.std.proofs.Common.{◌≡◌, Bool, true, false, ◌&&◌, not, if◌then◌else◌, List, [], ◌∷◌, ◌++◌, Some, refl, sym, ap, ◌∙◌, subst, inl, inr, ◌⊎◌}
use Rattle.std.proofs.lemmas.Option.{same_Some}
use Rattle.std.proofs.lemmas.Bool.{and_parts, and_from, not_from_false, not-true}
use Rattle.pg_base.specs.declared.id.FileId.{FileId}
use Rattle.pg_base.specs.Id.{is_same_file}
use Rattle.pg_base.proofs.Orders.{is_same_file-true}
use Rattle.pg_register.specs.declared.flag.Flag.{Flag}
use Rattle.pg_register.specs.declared.place.Place.{Place}
use Rattle.pg_register.specs.Flag.{flag_of}
use Rattle.pg_edges.specs.declared.key.Key.{Key}
use Rattle.pg_edges.specs.declared.key.Key.TheVariants as key
use Rattle.pg_msg.specs.declared.work.Slot.{Slot}
use Rattle.pg_msg.specs.declared.work.Touched.{Touched}
use Rattle.pg_msg.specs.declared.work.Work.{Work}
use Rattle.pg_msg.specs.Work.{with_left, with_touched}
use Rattle.pg_names.specs.declared.attributes.Attributes.{Attributes}
use Rattle.pg_names.specs.Names.{own_at}
use Rattle.pg_names.specs.Same.{is_same_own, is_same_place}
use Rattle.pg_names.proofs.Alike.{place-true}
use Rattle.pg_names.proofs.Lookups.{own_other, own_same}
use Rattle.pg_house.specs.Work.{State, is_root, note_left, place_touched, touched}
use Rattle.pg_house.specs.Passing.{flags_touched, is_other_flag, taking, took}
use Rattle.pg_house.specs.Facts.{IsHeld, IsIn, IsKeptOrLeft, IsLeft, IsOneOf, IsTouched}
use Rattle.pg_house.proofs.Truths.{bool_cases, chosen, chosen_true}
use Rattle.pg_house.proofs.Telling.{flags_stay, in_last, left_stays, place_stays}

-- ---- what is among others

pub one_front : {A : Type 0} (a : A) (xs ys : List A) → IsOneOf a xs → IsOneOf a (xs ++ ys)
one_front a [] ys h = absurd h
one_front a (x ∷ xs) ys (inl same) = inl same
one_front a (x ∷ xs) ys (inr more) = inr (one_front a xs ys more)

pub one_last : {A : Type 0} (a : A) (xs : List A) → IsOneOf a (xs ++ a ∷ [])
one_last a [] = inl refl
one_last a (x ∷ xs) = inr (one_last a xs)

pub one_back : {A : Type 0} (a b : A) (xs : List A) → IsOneOf a (xs ++ b ∷ []) → IsOneOf a xs ⊎ (b ≡ a)
one_back a b [] (inl same) = inr same
one_back a b [] (inr none) = absurd none
one_back a b (x ∷ xs) (inl same) = inl (inl same)
one_back a b (x ∷ xs) (inr more) =
    elim (one_back a b xs more) [
      | inl old ↦ inl (inr old)
      | inr new ↦ inr new
    ]

-- ---- what is noted of one place

abbrev pub slot : FileId → FileId → Slot
slot dir child = record { dir = dir; child = child }

module _ (work : Work) (f : FileId) (old : Place) where
  abbrev Noting : Bool
  Noting = old.live && not (is_root f)

  pub noted_stays : (x : Slot) → IsOneOf x work.left → IsOneOf x (note_left work f old).left
  noted_stays x h = chosen (λ (w : Work). IsOneOf x w.left) Noting (with_left work old.parent f) work (one_front x work.left _ h) h

  -- a live place is noted
  pub noted_live : is_root f ≡ false → old.live ≡ true → IsLeft (note_left work f old) old.parent f
  noted_live other live =
      subst (λ (w : Work). IsLeft w old.parent f) (sym (chosen_true Noting (with_left work old.parent f) work (and_from old.live _ live (not_from_false (is_root f) other))))
      (one_last (slot old.parent f) work.left)

  -- and nothing else
  abbrev pub IsThis : Slot → Type 0
  IsThis x = (slot old.parent f ≡ x) × (old.live ≡ true) × (is_root f ≡ false)

  only_by : (x : Slot) (t : Bool) → Noting ≡ t → IsOneOf x (if t then with_left work old.parent f else work).left → IsOneOf x work.left ⊎ IsThis x
  only_by x false e h = inl h
  only_by x true e h =
      let both = and_parts old.live _ e in
      elim (one_back x (slot old.parent f) work.left h) [
        | inl was ↦ inl was
        | inr same ↦ inr (same, both.0, not-true (is_root f) both.1)
      ]

  pub noted_only : (x : Slot) → IsOneOf x (note_left work f old).left → IsOneOf x work.left ⊎ IsThis x
  noted_only x h = only_by x Noting refl h

-- ---- what is noted as a thing takes another place

-- a live place that the thing had in this directory
pub record IsMoved (s t : State) (x : Slot) : Type 0 where
  pub own : Attributes
  pub was : own_at s.names x.child ≡ Some own
  pub live : own.place.live ≡ true
  pub parent : own.place.parent ≡ x.dir
  pub other : is_root x.child ≡ false
  pub held : IsHeld t.names x.child
  pub touched : IsTouched t.work x.child key.Place

-- what a step notes, of the places at its start
pub record Notes (s t : State) : Type 0 where
  pub all : (q : FileId) (a : Attributes) → own_at s.names q ≡ Some a → IsKeptOrLeft t q a
  pub only : (x : Slot) → IsOneOf x t.work.left → IsOneOf x s.work.left ⊎ IsMoved s t x
  pub stays : (x : Slot) → IsOneOf x s.work.left → IsOneOf x t.work.left
  pub told : (x : Touched) → IsIn x s.work.touched → IsIn x t.work.touched

Notes-refl : (s : State) → Notes s s
Notes-refl s = record { all = λ q a h. (a, h, λ other live. inl refl); only = λ x h. inl h; stays = λ x h. h; told = λ x h. h }

-- it is noted of the place that the thing had
pub moved_this : (s t : State) (f : FileId) (own : Attributes) → own_at s.names f ≡ Some own → IsHeld t.names f → IsTouched t.work f key.Place → (x : Slot) → (slot own.place.parent f ≡ x) × (own.place.live ≡ true) × (is_root f ≡ false) → IsMoved s t x
moved_this s t f own was held touched x this =
    subst (IsMoved s t) this.0 (record { own = own; was = was; live = this.1; parent = refl; other = this.2; held = held; touched = touched })

touched_left : (work : Work) (f : FileId) (k : Key) (t : Bool) → (touched work f k t).left ≡ work.left
touched_left work f k t = chosen (λ (w : Work). w.left ≡ work.left) t (with_touched work f k) work refl refl

flags_left : (work : Work) (f : FileId) (held flags : List Flag) → (flags_touched work f held flags).left ≡ work.left
flags_left work f held [] = refl
flags_left work f held (g ∷ gs) =
    let other = is_other_flag (flag_of held g.server) g in
    flags_left (touched work f (key.Flag g.server) other) f held gs ∙ touched_left work f (key.Flag g.server) other

module _ (st : State) (f : FileId) (own taken : Attributes) (h : own_at st.names f ≡ Some own) where
  abbrev Took : State
  Took = took st f own taken

  abbrev First : Work
  First = with_touched st.work f key.Place

  abbrev Moved : Work
  Moved = place_touched st.work f own.place (not (is_same_place own.place taken.place))

  same_left : Took.work.left ≡ Moved.left
  same_left = flags_left Moved f own.flags taken.flags

  place_here : is_root f ≡ false → own.place.live ≡ true → (t : Bool) → is_same_place own.place taken.place ≡ t → (taken.place ≡ own.place) ⊎ IsLeft (place_touched st.work f own.place (not t)) own.place.parent f
  place_here other live true e = inl (sym (place-true own.place taken.place e))
  place_here other live false e = inr (noted_live First f own.place other live)

  here : IsKeptOrLeft Took f own
  here = (
    taken,
    own_same st.names f own taken h,
    λ other live.
        elim (place_here other live (is_same_place own.place taken.place) refl) [
          | inl same ↦ inl same
          | inr left ↦ inr (subst (IsOneOf (slot own.place.parent f)) (sym same_left) left)
        ],
  )

  took_all : (q : FileId) (a : Attributes) → own_at st.names q ≡ Some a → (is_same_file f q ≡ true) ⊎ (is_same_file f q ≡ false) → IsKeptOrLeft Took q a
  took_all q a g (inr apart) = (a, own_other st.names f taken q apart ∙ g, λ other live. inl refl)
  took_all q a g (inl same) =
      let is : f ≡ q = is_same_file-true f q same in
      let one : own ≡ a = same_Some own a (sym h ∙ ap (own_at st.names) is ∙ g) in
      subst (λ (x : FileId). IsKeptOrLeft Took x a) is (subst (IsKeptOrLeft Took f) one here)

  only_here : (x : Slot) (t : Bool) → IsOneOf x (place_touched st.work f own.place t).left → IsOneOf x st.work.left ⊎ (IsThis First f own.place x × IsTouched (place_touched st.work f own.place t) f key.Place)
  only_here x false g = inl g
  only_here x true g =
      elim (noted_only First f own.place x g) [
        | inl was ↦ inl was
        | inr this ↦ inr (this, left_stays First f own.place _ (in_last (record { file = f; key = key.Place }) st.work.touched))
      ]

  took_only : (x : Slot) → IsOneOf x Took.work.left → IsOneOf x st.work.left ⊎ IsMoved st Took x
  took_only x g =
      elim (only_here x (not (is_same_place own.place taken.place)) (subst (IsOneOf x) same_left g)) [
        | inl was ↦ inl was
        | inr new ↦ inr (moved_this st Took f own h (taken, own_same st.names f own taken h) (flags_stay Moved f own.flags taken.flags _ new.1) x new.0)
      ]

  took_stays : (x : Slot) → IsOneOf x st.work.left → IsOneOf x Took.work.left
  took_stays x g =
      subst (IsOneOf x) (sym same_left)
      (chosen (λ (w : Work). IsOneOf x w.left) (not (is_same_place own.place taken.place)) (note_left First f own.place) st.work (noted_stays First f own.place x g) g)

  took_notes : Notes st Took
  took_notes = record {
    all = λ q a g. took_all q a g (bool_cases (is_same_file f q));
    only = took_only;
    stays = took_stays;
    told = λ x i. flags_stay Moved f own.flags taken.flags x (place_stays st.work f own.place (not (is_same_place own.place taken.place)) x i);
  }

  pub taking_notes : Notes st (taking st f own taken)
  taking_notes = chosen (Notes st) (is_same_own own taken) st Took (Notes-refl st) took_notes
