-- Passing makes no stamp: none is later than the greatest time.
use Rattle.std.proofs.Common.{◌≡◌, ℕ, ◌≤◌, Bool, true, false, List, [], ◌∷◌, Option, None, Some, refl, sym, ap, ◌∙◌, subst, inl, inr, ◌⊎◌}
use Rattle.std.proofs.lemmas.Option.{same_Some}
use Rattle.pg_base.specs.declared.id.FileId.{FileId}
use Rattle.pg_base.specs.Id.{is_same_file}
use Rattle.pg_base.proofs.Orders.{is_same_file-true}
use Rattle.pg_register.specs.declared.place.Place.{Place}
use Rattle.pg_entries.specs.declared.entry.Entry.{Entry}
use Rattle.pg_names.specs.declared.attributes.Attributes.{Attributes}
use Rattle.pg_names.specs.Names.{NamesValue, own_at, cell_at}
use Rattle.pg_names.proofs.Lookups.{apart_back}
use Rattle.pg_house.specs.Work.{State}
use Rattle.pg_house.specs.Passing.{greatest, is_held_back, own_taken, pass, pass_own, pass_all, passed}
use Rattle.pg_house.specs.Facts.{IsLast}
use Rattle.pg_house.proofs.Truths.{bool_cases}
use Rattle.pg_house.proofs.AfterPassing.{AreDirs, after_all, after_child, after_frame, after_other, after_own}
use Rattle.pg_house.proofs.Greatest.{greatest_place}
use Rattle.pg_house.proofs.Passes.{one_pass}

-- no later than this
abbrev IsUpTo : ℕ → Place → Type 0
IsUpTo n p = p.stamp.time ≤ n

taken_up : (n : ℕ) (own top : Attributes) (t : Bool) → IsUpTo n own.place → IsUpTo n top.place → IsUpTo n (own_taken own top t).place
taken_up n own top true a b = a
taken_up n own top false a b = b

module _ (st : State) (ds : List FileId) (f : FileId) (dirs : AreDirs st.names ds) (last : IsLast st.names) where
  module _ (own : Attributes) (held : own_at st.names f ≡ Some own) (t : Bool) where
    abbrev Top : Attributes
    Top = greatest st.names f own ds

    abbrev Then : NamesValue
    Then = (passed st ds f own Top t).names

    same_last : st.names.last ≡ Then.last
    same_last = sym (after_frame st ds f own Top t).last

    top_up : IsUpTo Then.last Top.place
    top_up = subst (λ n. IsUpTo n Top.place) same_last (greatest_place (IsUpTo st.names.last) st.names f (λ d c h. last.cells d f c h) own ds (last.own f own held))

    own_up : IsUpTo Then.last (own_taken own Top t).place
    own_up = taken_up Then.last own Top t (subst (λ n. IsUpTo n own.place) same_last (last.own f own held)) top_up

    own_by : (q : FileId) (c : Attributes) → own_at Then q ≡ Some c → (is_same_file f q ≡ true) ⊎ (is_same_file f q ≡ false) → IsUpTo Then.last c.place
    own_by q c h (inl same) =
        let e : own_taken own Top t ≡ c = same_Some (own_taken own Top t) c (sym (after_own st ds f own Top t held) ∙ ap (own_at Then) (is_same_file-true f q same) ∙ h) in
        subst (λ (x : Attributes). IsUpTo Then.last x.place) e own_up
    own_by q c h (inr apart) = subst (λ n. IsUpTo n c.place) same_last (last.own q c (sym (after_other st ds f own Top t q apart) ∙ h))

    cells_by : (q g : FileId) (c : Entry) → cell_at Then q g ≡ Some c → (is_same_file f g ≡ true) ⊎ (is_same_file f g ≡ false) → IsUpTo Then.last c.place
    cells_by q g c h (inl same) = subst (λ (x : Entry). IsUpTo Then.last x.place) (sym (after_all st ds f own Top t dirs q c (ap (cell_at Then q) (is_same_file-true f g same) ∙ h))) top_up
    cells_by q g c h (inr apart) = subst (λ n. IsUpTo n c.place) same_last (last.cells q g c (sym (after_child st ds f own Top t q g (apart_back f g apart)) ∙ h))

    some_last : IsLast Then
    some_last = record { own = λ q c h. own_by q c h (bool_cases (is_same_file f q)); cells = λ q g c h. cells_by q g c h (bool_cases (is_same_file f g)) }

  by_own : (o : Option Attributes) → own_at st.names f ≡ o → IsLast (pass_own st ds f o).names
  by_own None h = last
  by_own (Some own) h = some_last own h (is_held_back st.names.removed f own (greatest st.names f own ds))

  pub pass_is_last : IsLast (pass st ds f).names
  pass_is_last = by_own (own_at st.names f) refl

pub all_last : (st : State) (ds fs : List FileId) → AreDirs st.names ds → IsLast st.names → IsLast (pass_all st ds fs).names
all_last st ds [] dirs last = last
all_last st ds (f ∷ fs) dirs last = all_last (pass st ds f) ds fs (one_pass st ds f dirs).dirs (pass_is_last st ds f dirs last)
