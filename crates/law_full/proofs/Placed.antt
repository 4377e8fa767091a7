-- A place with a later stamp than the first: it is never replaced by one with the first; and what
-- becomes full.
use Rattle.std.proofs.Common.{ℕ, ◌≡◌, ◌≤◌, ◌==◌, ◌&&◌, ◌||◌, Bool, true, false, cond, not, List, Option, None, Some, is_some, refl, sym, ap, subst, ◌∙◌, inl, inr, ◌⊎◌, arith}
use Rattle.std.specs.Prelude.{nat_lt}
use Rattle.std.proofs.lemmas.Bool.{false≢true}
use Rattle.std.proofs.lemmas.Bool.Decides.{nat_tests}
use Rattle.law_frame.specs.pg_run.pg_base.declared.id.FileId.{FileId}
use Rattle.law_frame.specs.pg_run.pg_base.declared.stamp.Stamp.{Stamp}
use Rattle.law_frame.specs.pg_run.pg_base.Id.{is_same_file}
use Rattle.law_frame.specs.pg_run.pg_base.Stamp.{UpTo, is_before}
use Rattle.law_frame.proofs.pg_run.pg_base.Orders.{is_before-false, is_same_file-true, stamp_of_parts}
use Rattle.law_frame.specs.pg_run.pg_register.declared.flag.Flag.{Flag}
use Rattle.law_frame.specs.pg_run.pg_register.declared.place.Place.{Place}
use Rattle.law_frame.specs.pg_run.pg_register.Place.{first_stamp, newer_place}
use Rattle.law_frame.specs.pg_run.pg_entries.declared.entry.Entry.{Entry}
use Rattle.law_frame.specs.pg_run.pg_msg.declared.update.Update.{Update}
use Rattle.law_frame.specs.pg_run.pg_msg.declared.work.Work.{Work}
use Rattle.law_frame.specs.pg_run.pg_names.declared.attributes.Attributes.{Attributes}
use Rattle.law_frame.specs.pg_run.pg_names.Same.{is_same_stamp}
use Rattle.law_frame.specs.pg_run.pg_names.Names.{InodeValue, NamesValue, begin as begin_names, fill, filled, is_full, is_full_of, is_held, is_place_new, let_go, join_entry, join_flag, join_place, known, new_held, or_blank, own_at, own_of, update, with_flag, with_joined, with_place}
use Rattle.law_frame.proofs.pg_run.pg_names.Holding.{begun_known, begun_other, fill_other, fill_own, full_kept}
use Rattle.law_frame.proofs.pg_run.pg_names.Gone.{gone_known}
use Rattle.law_frame.proofs.pg_run.pg_names.Lookups.{flag_other, flag_same, joined_own, known_absent, own_with_flag, own_with_place, place_other, place_same, update_frame}
use Rattle.law_frame.specs.pg_run.pg_house.House.{house}
use Rattle.law_frame.specs.pg_run.pg_house.Passing.{is_held_back}
use Rattle.law_frame.specs.pg_run.pg_house.Work.{state_of}
use Rattle.law_frame.proofs.pg_run.pg_house.Fullness.{rules_full}
use Rattle.law_frame.specs.pg_run.pg_store.declared.store.Store.{Store}
use Rattle.law_frame.specs.pg_run.pg_store.Store.{is_newer_place, put_place, take_place}
use Rattle.law_frame.proofs.pg_run.theory_flood_pieces.Choices.{chosen, decided}
use Rattle.law_frame.proofs.pg_run.theory_flood_pieces.Together.{held_by_keys}
use Rattle.law_full.specs.Filled.{IsLate, IsPlaced}
use Rattle.law_full.proofs.Effects.{RulesKeep}
use Rattle.law_full.proofs.HousePlaces.{IsUp, StaysSo, before_further, house_stays, newer_up}
use Rattle.law_full.proofs.Pieces.{AreKept}

-- ---- later stamps

late_stamp : (a b : Stamp) → a.time ≤ b.time → (b.time ≤ a.time → a.server ≤ b.server) → is_before first_stamp a ≡ true → is_before first_stamp b ≡ true
late_stamp a b time server late = grind (arith, nat_tests)

pub late_upto : (p q : Place) → UpTo p.stamp q.stamp → IsLate p → IsLate q
late_upto p q up late = late_stamp p.stamp q.stamp up.time up.server late

late_up : (p q : Place) → IsUp p q → IsLate p → IsLate q
late_up p q (inl same) late = subst IsLate (sym same) late
late_up p q (inr later) late = before_further first_stamp p.stamp q.stamp late later

-- a stamp other than the first is later
pub not_first : (s : Stamp) → is_same_stamp s first_stamp ≡ false → is_before first_stamp s ≡ true
not_first s other = grind (arith, nat_tests)

time_is : (a b : ℕ) → (nat_lt 0 a || (0 == a && nat_lt 0 b)) ≡ false → a ≡ 0
time_is a b h = grind (arith, nat_tests)

server_is : (a b : ℕ) → (nat_lt 0 a || (0 == a && nat_lt 0 b)) ≡ false → b ≡ 0
server_is a b h = grind (arith, nat_tests)

-- and one that is not later is the first
pub first_is : (s : Stamp) → is_before first_stamp s ≡ false → s ≡ first_stamp
first_is s none = stamp_of_parts s.time 0 s.server 0 (time_is s.time s.server none) (server_is s.time s.server none)

pub late_time : (s : Stamp) → 1 ≤ s.time → is_before first_stamp s ≡ true
late_time s some = grind (arith, nat_tests)

-- ---- the place of one thing

module _ (file : FileId) where
  abbrev pub At : NamesValue → Type 0
  At s = IsPlaced s file

  abbrev pub OfOwn : Option Attributes → Type 0
  OfOwn o = IsLate (or_blank file o).place

  place_at_by : (s : NamesValue) (f : FileId) (p : Place) (o : Option Attributes) → own_at s f ≡ o → At s → (t : Bool) → is_same_file f file ≡ t → At (join_place s f p)
  place_at_by s f p None none h t e = subst At (sym (known_absent s f (with_place p) none)) h
  place_at_by s f p (Some b) held h false e = subst OfOwn (sym (place_other s f p file e)) h
  place_at_by s f p (Some b) held h true e =
      let one : f ≡ file = is_same_file-true f file e in
      let now : own_at (join_place s f p) file ≡ Some (own_with_place p b) = ap (own_at (join_place s f p)) (sym one) ∙ place_same s f p b held in
      let old : IsLate b.place = subst OfOwn (ap (own_at s) (sym one) ∙ held) h in
      subst OfOwn (sym now) (late_up b.place (own_with_place p b).place (newer_up b.place p) old)

  place_at : (s : NamesValue) (f : FileId) (p : Place) → At s → At (join_place s f p)
  place_at s f p h = place_at_by s f p (own_at s f) refl h (is_same_file f file) refl

  flag_at_by : (s : NamesValue) (f : FileId) (g : Flag) (o : Option Attributes) → own_at s f ≡ o → At s → (t : Bool) → is_same_file f file ≡ t → At (join_flag s f g)
  flag_at_by s f g None none h t e = subst At (sym (known_absent s f (with_flag g) none)) h
  flag_at_by s f g (Some b) held h false e = subst OfOwn (sym (flag_other s f g file e)) h
  flag_at_by s f g (Some b) held h true e =
      let one : f ≡ file = is_same_file-true f file e in
      let now : own_at (join_flag s f g) file ≡ Some (own_with_flag g b) = ap (own_at (join_flag s f g)) (sym one) ∙ flag_same s f g b held in
      subst OfOwn (sym now) (subst OfOwn (ap (own_at s) (sym one) ∙ held) h)

  flag_at : (s : NamesValue) (f : FileId) (g : Flag) → At s → At (join_flag s f g)
  flag_at s f g h = flag_at_by s f g (own_at s f) refl h (is_same_file f file) refl

  entry_at : (s : NamesValue) (d : FileId) (e : Entry) → At s → At (join_entry s d e)
  entry_at s d e h = subst OfOwn (sym (joined_own s d e file)) h

  begun_at : (s : NamesValue) (f : FileId) (own : Attributes) (full : Bool) → is_same_file file f ≡ false → At s → At (begin_names s f own full)
  begun_at s f own full apart h = subst (λ (o : Option InodeValue). OfOwn (own_of o)) (sym (begun_other s f own full file apart)) h

  filled_at : (s : NamesValue) (f : FileId) → At s → At (fill s f)
  filled_at s f h = subst OfOwn (sym (fill_own s f file)) h

  abbrev pub AnyPlace : FileId → Place → Type 0
  AnyPlace f p = Unit {0}

  abbrev pub OtherBegins : FileId → Attributes → Bool → Type 0
  OtherBegins f own full = is_same_file file f ≡ false

  abbrev pub AnyFills : FileId → Type 0
  AnyFills f = Unit {0}

  pub at_kept : AreKept At AnyPlace OtherBegins AnyFills
  at_kept = record {
    place = λ s f p may h. place_at s f p h;
    flag = flag_at;
    entry = entry_at;
    raised = λ s time h. h;
    begun = begun_at;
    filled = λ s f may h. filled_at s f h;
    removed = λ s server h. h;
  }

  -- the house rules
  at_so : (R : List ℕ) → StaysSo file R IsLate (λ (u : Update). Unit {0})
  at_so R = record {
    taken = λ own top up late.
        chosen (λ (o : Attributes). IsLate o.place) (is_held_back R file own top) (record { place = own.place; flags = top.flags }) top late (late_up own.place top.place up late);
    live = λ p live some. late_time p.stamp some;
    made = λ f p live. tt;
  }

  house_at : (moment : ℕ) (s : NamesValue) (work : Work) → At s → At (house moment (state_of s work)).names
  house_at moment s work h =
      (house_stays file s.removed IsLate (λ (u : Update). Unit {0}) (at_so s.removed) moment (state_of s work) (record { removed = refl; place = h; made = λ i d lt. tt })).place

  -- ---- a held thing takes a place

  newer_late : (a p : Place) → IsLate p → IsLate (newer_place a p)
  newer_late a p late =
      decided IsLate (is_before a.stamp p.stamp) p a (λ t. late) (λ f. late_upto p a (is_before-false a.stamp p.stamp f) late)

  pub taken_at : (b : Store) (own : Attributes) → own_at b.names file ≡ Some own → (p : Place) → IsLate p → At (take_place b file p).names
  taken_at b own held p late =
      decided (λ (c : Store). At c.names) (is_newer_place b file p) (put_place b file p) b
      (λ newer. subst OfOwn (sym (place_same b.names file p own held)) (newer_late own.place p late))
      (λ old. subst OfOwn (sym held) (late_upto p own.place (is_before-false own.place.stamp p.stamp (ap (λ (o : Option Attributes). is_place_new o p) (sym held) ∙ old)) late))

-- ---- what is held stays held

module _ (file : FileId) where
  abbrev pub HeldIn : NamesValue → Type 0
  HeldIn s = is_held s file ≡ true

  changed_held : (s : NamesValue) (f : FileId) (change : InodeValue → InodeValue) → HeldIn s → HeldIn (update s f change)
  changed_held s f change h = held_by_keys (update s f change) s file (update_frame s f change).keys ∙ h

  pub begun_held : (s : NamesValue) (f : FileId) (own : Attributes) (full t : Bool) → is_same_file file f ≡ t → HeldIn s → HeldIn (begin_names s f own full)
  begun_held s f own full true e h = ap is_some (begun_known s f own full file ∙ ap (λ (b : Bool). cond b (Some (new_held own full)) (known s file)) e)
  begun_held s f own full false e h = ap is_some (begun_other s f own full file e) ∙ h

  pub held_kept : AreKept HeldIn (λ f p. Unit {0}) (λ f own full. Unit {0}) (λ f. Unit {0})
  held_kept = record {
    place = λ s f p may h. changed_held s f (with_place p) h;
    flag = λ s f g h. changed_held s f (with_flag g) h;
    entry = λ s d e h. changed_held s d (with_joined e) h;
    raised = λ s time h. h;
    begun = λ s f own full may h. begun_held s f own full (is_same_file file f) refl h;
    filled = λ s f may h. changed_held s f filled h;
    removed = λ s server h. h;
  }

-- ---- what is full

-- what is full has a place; and it has one in any case where this holds of the event
module _ (a : Store) (file : FileId) (T : Type 0) where
  abbrev pub FullIf : NamesValue → Type 0
  FullIf s = (is_full s file ≡ true → IsPlaced s file) × (T → IsPlaced s file)

  abbrev pub FillsIt : FileId → Type 0
  FillsIt f = is_same_file f file ≡ true → T

  abbrev pub BeginsOther : FileId → Attributes → Bool → Type 0
  BeginsOther f own full = ((full ≡ false) × (T → ⊥)) ⊎ (is_same_file file f ≡ false)

  goes_on : (s t : NamesValue) → is_full t file ≡ is_full s file → (IsPlaced s file → IsPlaced t file) → FullIf s → FullIf t
  goes_on s t same up h = (λ full. up (h.0 (sym same ∙ full)), λ x. up (h.1 x))

  begun_by : (s : NamesValue) (f : FileId) (own : Attributes) (full t : Bool) → is_same_file file f ≡ t → BeginsOther f own full → FullIf s → FullIf (begin_names s f own full)
  begun_by s f own full false e may h = goes_on s (begin_names s f own full) (ap is_full_of (begun_other s f own full file e)) (begun_at file s f own full e) h
  begun_by s f own full true e (inr other) h = absurd (false≢true (sym other ∙ e))
  begun_by s f own full true e (inl filling) h = (
    λ is. absurd (false≢true (sym filling.0
        ∙ sym (ap is_full_of (begun_known s f own full file ∙ ap (λ (b : Bool). cond b (Some (new_held own full)) (known s file)) e)) ∙ is)),
    λ x. absurd (filling.1 x),
  )

  filled_by : (s : NamesValue) (f : FileId) (t : Bool) → is_same_file f file ≡ t → FillsIt f → FullIf s → FullIf (fill s f)
  filled_by s f false e may h = goes_on s (fill s f) (fill_other s f file e) (filled_at file s f) h
  filled_by s f true e may h = (λ is. filled_at file s f (h.1 (may e)), λ x. filled_at file s f (h.1 x))

  -- a replica goes
  left_by : (s : NamesValue) (f : FileId) (t : Bool) → is_same_file f file ≡ t → (T → ⊥) → FullIf s → FullIf (let_go s f)
  left_by s f false e none h =
      let same : known (let_go s f) file ≡ known s file =
      gone_known s f file ∙ ap (λ (b : Bool). cond (not b) (known s file) None) e in
      goes_on s (let_go s f) (ap is_full_of same) (λ at. subst (λ (o : Option InodeValue). OfOwn file (own_of o)) (sym same) at) h
  left_by s f true e none h = (
    λ is. absurd (false≢true (sym (ap is_full_of (gone_known s f file ∙ ap (λ (b : Bool). cond (not b) (known s file) None) e)) ∙ is)),
    λ x. absurd (none x),
  )

  pub left_full : (s : NamesValue) (f : FileId) → (T → ⊥) → FullIf s → FullIf (let_go s f)
  left_full s f none h = left_by s f (is_same_file f file) refl none h

  pub full_kept_if : AreKept FullIf (λ f p. Unit {0}) BeginsOther FillsIt
  full_kept_if = record {
    place = λ s f p may h. goes_on s (join_place s f p) (full_kept s f (with_place p) (λ x. refl) file) (place_at file s f p) h;
    flag = λ s f g h. goes_on s (join_flag s f g) (full_kept s f (with_flag g) (λ x. refl) file) (flag_at file s f g) h;
    entry = λ s d e h. goes_on s (join_entry s d e) (full_kept s d (with_joined e) (λ x. refl) file) (entry_at file s d e) h;
    raised = λ s time h. h;
    begun = λ s f own full may h. begun_by s f own full (is_same_file file f) refl may h;
    filled = λ s f may h. filled_by s f (is_same_file f file) refl may h;
    removed = λ s server h. h;
  }

  house_full : (moment : ℕ) (s : NamesValue) (work : Work) → FullIf s → FullIf (house moment (state_of s work)).names
  house_full moment s work h = goes_on s (house moment (state_of s work)).names (rules_full moment (state_of s work) file) (house_at file moment s work) h

  pub rules_full_if : RulesKeep FullIf
  rules_full_if = record { rules = house_full; flag = full_kept_if.flag }
