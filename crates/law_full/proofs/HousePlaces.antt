-- What the house rules make of the place of one thing: it stays, becomes a greater one that is
-- known, or a live one is made.
use Rattle.std.proofs.Common.{ℕ, ◌≡◌, ◌≤◌, ◌+◌, ◌^◌, Bool, true, false, max, min, List, [], ◌∷◌, length, Option, None, Some, All, refl, sym, ap, subst, ◌∙◌, inl, inr, ◌⊎◌, arith}
use Rattle.std.proofs.lemmas.Bool.Decides.{nat_tests}
use Rattle.std.proofs.lemmas.List.Elements.{All-append, All-cons, All-nil}
use Rattle.std.proofs.lemmas.Option.{none-some}
use Rattle.law_frame.specs.pg_run.pg_base.declared.id.FileId.{FileId}
use Rattle.law_frame.specs.pg_run.pg_base.declared.stamp.Stamp.{Stamp}
use Rattle.law_frame.specs.pg_run.pg_base.Id.{is_same_file}
use Rattle.law_frame.specs.pg_run.pg_base.Stamp.{is_before}
use Rattle.law_frame.proofs.pg_run.pg_base.Orders.{is_same_file-true}
use Rattle.law_frame.specs.pg_run.pg_register.declared.place.Place.{Place}
use Rattle.law_frame.specs.pg_run.pg_register.Place.{newer_place, root, tilde_name}
use Rattle.law_frame.specs.pg_run.pg_entries.declared.entry.Entry.{Entry}
use Rattle.law_frame.specs.pg_run.pg_edges.declared.key.Key.TheVariants as key
use Rattle.law_frame.specs.pg_run.pg_msg.declared.update.Update.{Update}
use Rattle.law_frame.specs.pg_run.pg_msg.declared.update.Update.TheVariants as update
use Rattle.law_frame.specs.pg_run.pg_msg.Work.{with_made, with_touched}
use Rattle.law_frame.specs.pg_run.pg_names.declared.attributes.Attributes.{Attributes}
use Rattle.law_frame.specs.pg_run.pg_names.Names.{NamesValue, cell_at, directories, known, or_blank, own_at, own_or_blank, with_last, with_own}
use Rattle.law_frame.proofs.pg_run.pg_names.Lookups.{own_other, own_same, update_frame}
use Rattle.law_frame.specs.pg_run.pg_house.Cycles.{break_first, first_moving, moved}
use Rattle.law_frame.specs.pg_run.pg_house.Facts.{IsHeld}
use Rattle.law_frame.specs.pg_run.pg_house.House.{house, movable}
use Rattle.law_frame.specs.pg_run.pg_house.Passing.{greatest, is_held_back, joined_with, own_taken, pass, pass_all, pass_own, passed}
use Rattle.law_frame.specs.pg_run.pg_house.Placing.{drawn, live_place, made_at, own_with, place_at, placed}
use Rattle.law_frame.specs.pg_run.pg_house.Returning.{first_returning, is_returning, return_first, returned}
use Rattle.law_frame.specs.pg_run.pg_house.Work.{State}
use Rattle.law_frame.proofs.pg_run.pg_house.AfterPassing.{after_frame, after_other, after_own}
use Rattle.law_frame.proofs.pg_run.pg_house.AllClimb.{IsDeep, member_deep, moving_member}
use Rattle.law_frame.proofs.pg_run.pg_house.AllReturned.{returning_by}
use Rattle.law_frame.proofs.pg_run.pg_house.Counting.{find_found}
use Rattle.law_frame.proofs.pg_run.pg_house.Made.{left_made, pass_made}
use Rattle.law_frame.proofs.pg_run.pg_house.NoCycles.{inner_parts, some_dirs}
use Rattle.law_frame.proofs.pg_run.pg_house.Repeating.{repeated_keeps}
use Rattle.law_frame.proofs.pg_run.pg_house.Truths.{chosen_false, chosen_true}

-- ---- the greatest is later

pub before_further : (a b c : Stamp) → is_before a b ≡ true → is_before b c ≡ true → is_before a c ≡ true
before_further a b c h k = grind (arith, nat_tests)

-- the same place, or one with a later stamp
abbrev pub IsUp : Place → Place → Type 0
IsUp a b = (b ≡ a) ⊎ (is_before a.stamp b.stamp ≡ true)

up_further : (a b c : Place) → IsUp a b → IsUp b c → IsUp a c
up_further a b c h (inl e) = subst (IsUp a) (sym e) h
up_further a b c (inl e) (inr k) = inr (ap (λ (p : Place). is_before p.stamp c.stamp) (sym e) ∙ k)
up_further a b c (inr h) (inr k) = inr (before_further a.stamp b.stamp c.stamp h k)

newer_by : (a b : Place) (t : Bool) → is_before a.stamp b.stamp ≡ t → IsUp a (newer_place a b)
newer_by a b true e = subst (IsUp a) (sym (chosen_true (is_before a.stamp b.stamp) b a e)) (inr e)
newer_by a b false e = inl (chosen_false (is_before a.stamp b.stamp) b a e)

pub newer_up : (a b : Place) → IsUp a (newer_place a b)
newer_up a b = newer_by a b (is_before a.stamp b.stamp) refl

joined_up : (top : Attributes) (o : Option Entry) → IsUp top.place (joined_with top o).place
joined_up top None = inl refl
joined_up top (Some e) = newer_up top.place e.place

greatest_up : (s : NamesValue) (f : FileId) (top : Attributes) (ds : List FileId) → IsUp top.place (greatest s f top ds).place
greatest_up s f top [] = inl refl
greatest_up s f top (d ∷ ds) =
    let next = joined_with top (cell_at s d f) in
    up_further top.place next.place (greatest s f next ds).place (joined_up top (cell_at s d f)) (greatest_up s f next ds)

-- a stamp that is drawn is no first one
some_time : (moment last n : ℕ) → n ≡ max (min moment (2 ^ 62)) (last + 1) → 1 ≤ n
some_time moment last n h = grind arith

pub drawn_some : (moment last : ℕ) → 1 ≤ max (min moment (2 ^ 62)) (last + 1)
drawn_some moment last = some_time moment last (max (min moment (2 ^ 62)) (last + 1)) refl

-- ---- one thing

-- what its place is, where these servers are removed: it stays so where it takes what is greater,
-- and where a live place is made; and what is said of updates is so of each live place that is made
pub record StaysSo (d : FileId) (R : List ℕ) (Q : Place → Type 0) (M : Update → Type 0) : Type 0 where
  pub taken : (own top : Attributes) → IsUp own.place top.place → Q own.place → Q (own_taken own top (is_held_back R d own top)).place
  pub live : (p : Place) → p.live ≡ true → 1 ≤ p.stamp.time → Q p
  pub made : (f : FileId) (p : Place) → p.live ≡ true → M (update.Place f p)

module _ (d : FileId) (R : List ℕ) (Q : Place → Type 0) (M : Update → Type 0) (so : StaysSo d R Q M) where
  abbrev pub place_in : NamesValue → Place
  place_in s = (own_or_blank s d).place

  pub record Stays (st : State) : Type 0 where
    pub removed : st.names.removed ≡ R
    pub place : Q (place_in st.names)
    pub made : All M st.work.made

  abbrev OfOwn : Option Attributes → Type 0
  OfOwn o = Q (or_blank d o).place

  -- ---- passing

  abbrev passed_names : State → List FileId → FileId → Attributes → NamesValue
  passed_names st ds f own = (passed st ds f own (greatest st.names f own ds) (is_held_back st.names.removed f own (greatest st.names f own ds))).names

  pass_place : (st : State) (ds : List FileId) (f : FileId) (own : Attributes) → own_at st.names f ≡ Some own → Stays st → (t : Bool) → is_same_file f d ≡ t → Q (place_in (passed_names st ds f own))
  pass_place st ds f own h k false e =
      let top = greatest st.names f own ds in
      subst OfOwn (sym (after_other st ds f own top (is_held_back st.names.removed f own top) d e)) k.place
  pass_place st ds f own h k true e =
      let top = greatest st.names f own ds in
      let b = is_held_back st.names.removed f own top in
      let one : f ≡ d = is_same_file-true f d e in
      let held : own_at st.names d ≡ Some own = ap (own_at st.names) (sym one) ∙ h in
      let new : own_at (passed_names st ds f own) d ≡ Some (own_taken own top b) = ap (own_at (passed_names st ds f own)) (sym one) ∙ after_own st ds f own top b h in
      let same : b ≡ is_held_back R d own top = ap (λ (x : FileId). is_held_back st.names.removed x own top) one ∙ ap (λ (r : List ℕ). is_held_back r d own top) k.removed in
      let there : Q (own_taken own top b).place =
      subst (λ (t : Bool). Q (own_taken own top t).place) (sym same) (so.taken own top (greatest_up st.names f own ds) (subst OfOwn held k.place)) in
      subst OfOwn (sym new) there

  pass_by : (st : State) (ds : List FileId) (f : FileId) (o : Option Attributes) → own_at st.names f ≡ o → Stays st → (All M (pass_own st ds f o).work.made) → Stays (pass_own st ds f o)
  pass_by st ds f None h k made = k
  pass_by st ds f (Some own) h k made = record {
    removed = (after_frame st ds f own (greatest st.names f own ds) (is_held_back st.names.removed f own (greatest st.names f own ds))).removed ∙ k.removed;
    place = pass_place st ds f own h k (is_same_file f d) refl;
    made = made;
  }

  pass_stays : (st : State) (ds : List FileId) (f : FileId) → Stays st → Stays (pass st ds f)
  pass_stays st ds f k = pass_by st ds f (own_at st.names f) refl k (subst (All M) (sym (pass_made st ds f)) k.made)

  all_stay : (st : State) (ds fs : List FileId) → Stays st → Stays (pass_all st ds fs)
  all_stay st ds [] k = k
  all_stay st ds (f ∷ fs) k = all_stay (pass st ds f) ds fs (pass_stays st ds f k)

  -- ---- a live place is made

  abbrev late : State → Place → NamesValue
  late st new = with_last st.names new.stamp.time

  made_place : (st : State) (f : FileId) (new : Place) → Q new → IsHeld st.names f → Stays st → (t : Bool) → is_same_file f d ≡ t → Q (place_in (made_at st f new).names)
  made_place st f new is held k false e = subst OfOwn (sym (own_other (late st new) f (own_with st.names f new) d e)) k.place
  made_place st f new is held k true e =
      let one : f ≡ d = is_same_file-true f d e in
      let new_own : own_at (made_at st f new).names d ≡ Some (own_with st.names f new) = ap (own_at (made_at st f new).names) (sym one) ∙ own_same (late st new) f held.0 (own_with st.names f new) held.1 in
      subst OfOwn (sym new_own) is

  made_stays : (st : State) (f : FileId) (new : Place) → new.live ≡ true → 1 ≤ new.stamp.time → IsHeld st.names f → Stays st → Stays (made_at st f new)
  made_stays st f new live some held k = record {
    removed = (update_frame (late st new) f (with_own (own_with st.names f new))).removed ∙ k.removed;
    place = made_place st f new (so.live new live some) held k (is_same_file f d) refl;
    made = subst (All M) (sym (left_made (with_touched (with_made st.work (update.Place f new)) f key.Place) f (place_at st.names f)))
        (All-append M st.work.made (update.Place f new ∷ []) k.made (All-cons M (update.Place f new) [] (so.made f new live) (All-nil M)));
  }

  placed_stays : (moment : ℕ) (ds : List FileId) (st : State) (f q : FileId) (name : List ℕ) → IsHeld st.names f → Stays st → Stays (placed moment ds st f q name)
  placed_stays moment ds st f q name held k =
      let new = live_place (drawn moment st.names) q name in
      pass_stays (made_at st f new) ds f (made_stays st f new refl (drawn_some moment st.names.last) held k)

  returned_stays : (moment : ℕ) (ds : List FileId) (st : State) (o : Option FileId) → first_returning st.names ds ≡ o → Stays st → Stays (returned moment ds st o)
  returned_stays moment ds st None h k = k
  returned_stays moment ds st (Some f) h k =
      let found = find_found (is_returning st.names) ds f h in
      let r = returning_by st.names f (known st.names f) refl found.0 in
      placed_stays moment ds st f (place_at st.names f).parent (place_at st.names f).name r.held k

  moved_stays : (moment : ℕ) (ds : List FileId) (st : State) (o : Option FileId) → first_moving st.names (length ds) None ds ≡ o → Stays st → Stays (moved moment ds st o)
  moved_stays moment ds st None h k = k
  moved_stays moment ds st (Some f) h k =
      elim (moving_member st.names (length ds) None ds f h) [
        | inl never ↦ absurd (none-some f never)
        | inr m ↦
            let deep : IsDeep st.names f = subst (IsDeep st.names) m.2 (member_deep st.names (length ds) m.0 (some_dirs moment ds st.names (length ds) ds f h) m.1) in
            placed_stays moment ds st f root (tilde_name f) (inner_parts st.names f deep.0).held k
      ]

  -- THE HOUSE RULES
  pub house_stays : (moment : ℕ) (st : State) → Stays st → Stays (house moment st)
  house_stays moment st k =
      let ds = directories st.names in
      repeated_keeps Stays (break_first moment ds) (λ t q. moved_stays moment ds t (first_moving t.names (length ds) None ds) refl q) (length ds) _
      (repeated_keeps Stays (return_first moment ds) (λ t q. returned_stays moment ds t (first_returning t.names ds) refl q) (length ds) _ (all_stay st ds (movable st.names) k))
