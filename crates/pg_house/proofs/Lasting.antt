-- How late the stamps become.
use Rattle.std.proofs.Common.{◌≡◌, ℕ, ◌≤◌, ◌<◌, ◌+◌, ◌^◌, max, min, List, [], ◌∷◌, Option, None, Some, refl, sym, ap, ◌∙◌, subst, arith}
use Rattle.pg_base.specs.declared.id.FileId.{FileId}
use Rattle.pg_names.specs.declared.attributes.Attributes.{Attributes}
use Rattle.pg_names.specs.Names.{own_at, with_last, with_own}
use Rattle.pg_names.proofs.Lookups.{update_frame}
use Rattle.pg_house.specs.Work.{State}
use Rattle.pg_house.specs.Passing.{greatest, is_held_back, pass, pass_own, pass_all}
use Rattle.pg_house.specs.Placing.{drawn, live_place, made_at, own_with, placed}
use Rattle.pg_house.specs.Returning.{return_first, returned}
use Rattle.pg_house.specs.Cycles.{break_first, moved}
use Rattle.pg_house.proofs.AfterPassing.{after_frame}

pass_own_last : (st : State) (ds : List FileId) (f : FileId) (o : Option Attributes) → (pass_own st ds f o).names.last ≡ st.names.last
pass_own_last st ds f None = refl
pass_own_last st ds f (Some own) = (after_frame st ds f own (greatest st.names f own ds) (is_held_back st.names.removed f own (greatest st.names f own ds))).last

pub pass_last : (st : State) (ds : List FileId) (f : FileId) → (pass st ds f).names.last ≡ st.names.last
pass_last st ds f = pass_own_last st ds f (own_at st.names f)

pub pass_all_last : (st : State) (ds fs : List FileId) → (pass_all st ds fs).names.last ≡ st.names.last
pass_all_last st ds [] = refl
pass_all_last st ds (f ∷ fs) = pass_all_last (pass st ds f) ds fs ∙ pass_last st ds f

pub placed_last : (moment : ℕ) (ds : List FileId) (st : State) (f p : FileId) (name : List ℕ) → (placed moment ds st f p name).names.last ≡ (drawn moment st.names).time
placed_last moment ds st f p name =
    let place = live_place (drawn moment st.names) p name in
    pass_last (made_at st f place) ds f ∙ (update_frame (with_last st.names place.stamp.time) f (with_own (own_with st.names f place))).last

-- a new stamp is later than the last
pub drawn_late : (moment last n : ℕ) → n ≡ max (min moment (2 ^ 62)) (last + 1) → last < n
drawn_late moment last n h = grind arith

-- a new stamp is at most one later than the last, or no later than the latest moment
drawn_up : (moment last n : ℕ) → n ≡ max (min moment (2 ^ 62)) (last + 1) → n ≤ max (2 ^ 62) (last + 1)
drawn_up moment last n h = grind arith

placed_up : (moment : ℕ) (ds : List FileId) (st : State) (f p : FileId) (name : List ℕ) → (placed moment ds st f p name).names.last ≤ max (2 ^ 62) (st.names.last + 1)
placed_up moment ds st f p name = drawn_up moment st.names.last _ (placed_last moment ds st f p name)

same_up : (n : ℕ) → n ≤ max (2 ^ 62) (n + 1)
same_up n = grind arith

returned_up : (moment : ℕ) (ds : List FileId) (st : State) (o : Option FileId) → (returned moment ds st o).names.last ≤ max (2 ^ 62) (st.names.last + 1)
returned_up moment ds st None = same_up st.names.last
returned_up moment ds st (Some d) = placed_up moment ds st d _ _

moved_up : (moment : ℕ) (ds : List FileId) (st : State) (o : Option FileId) → (moved moment ds st o).names.last ≤ max (2 ^ 62) (st.names.last + 1)
moved_up moment ds st None = same_up st.names.last
moved_up moment ds st (Some d) = placed_up moment ds st d _ _

one_more : (a b c i : ℕ) → a ≤ max (2 ^ 62) (b + 1) → b ≤ max (2 ^ 62) c + i → a ≤ max (2 ^ 62) c + (i + 1)
one_more a b c i h g = grind arith

-- after so many steps and one more
pub return_up : (moment : ℕ) (ds : List FileId) (st t : State) (first i : ℕ) → t ≡ return_first moment ds st → st.names.last ≤ max (2 ^ 62) first + i → t.names.last ≤ max (2 ^ 62) first + (i + 1)
return_up moment ds st t first i h k =
    one_more t.names.last st.names.last first i (subst (λ (u : State). u.names.last ≤ max (2 ^ 62) (st.names.last + 1)) (sym h) (returned_up moment ds st _)) k

pub break_up : (moment : ℕ) (ds : List FileId) (st t : State) (first i : ℕ) → t ≡ break_first moment ds st → st.names.last ≤ max (2 ^ 62) first + i → t.names.last ≤ max (2 ^ 62) first + (i + 1)
break_up moment ds st t first i h k =
    one_more t.names.last st.names.last first i (subst (λ (u : State). u.names.last ≤ max (2 ^ 62) (st.names.last + 1)) (sym h) (moved_up moment ds st _)) k

pub within : (a c i n : ℕ) → a ≤ max (2 ^ 62) c + (i + 1) → i < n → a ≤ max (2 ^ 62) c + n
within a c i n h lt = grind arith

fits : (a b n : ℕ) → a ≡ b → b ≤ 2 ^ 62 + 2 ^ 40 → n < 2 ^ 60 → max (2 ^ 62) a + n < 2 ^ 63
fits a b n h k few = grind arith

-- after passing there is room for so many stamps
pub room : (st t : State) (ds fs : List FileId) (n : ℕ) → t ≡ pass_all st ds fs → st.names.last ≤ 2 ^ 62 + 2 ^ 40 → n < 2 ^ 60 → max (2 ^ 62) t.names.last + n < 2 ^ 63
room st t ds fs n h first few = let same : t.names.last ≡ st.names.last = ap (λ (u : State). u.names.last) h ∙ pass_all_last st ds fs in fits t.names.last st.names.last n same first few

-- and after these for as many more
pub more_room : (a b n : ℕ) → a ≤ max (2 ^ 62) b + n → b ≤ 2 ^ 62 + 2 ^ 40 → n < 2 ^ 60 → max (2 ^ 62) a + n < 2 ^ 63
more_room a b n h k few = grind arith
