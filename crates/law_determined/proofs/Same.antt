-- Two lists with the same updates of a thing come to the same place, flags and entry.
use Rattle.std.proofs.Common.{◌≡◌, ◌↔◌, Bool, true, false, cond, List, Option, None, Some, refl, sym, inl, inr}
use Rattle.pg_run.specs.pg_base.declared.id.FileId.{FileId}
use Rattle.pg_run.specs.pg_content.Content.{Among}
use Rattle.pg_run.specs.pg_entries.declared.entry.Entry.{Entry}
use Rattle.pg_run.specs.pg_register.declared.flag.Flag.{Flag}
use Rattle.pg_run.specs.pg_register.declared.place.Place.{Place}
use Rattle.pg_run.proofs.pg_names.Alike.{own_of_parts}
use Rattle.pg_run.specs.Passed.{has_cell}
use Rattle.pg_run.specs.State.{entry_state, own_state}
use Rattle.pg_run.specs.Took.{Take, Taker, flags_in, flags_taken, is_held, place_in, places_taken}
use Rattle.pg_run.specs.Took.Taker.{InDir, Itself}
use Rattle.law_names.specs.law_passing.Newest.{AreNewest, IsLatest}
use Rattle.law_names.specs.law_passing.Tells.{AreApart, HasFlag, HasPlace}
use Rattle.law_names.proofs.law_passing.Latest.{latest_of, latest_same}
use Rattle.law_names.proofs.law_passing.Newest.{newest_of, newest_same}
use Rattle.law_names.proofs.law_passing.States.{flags_are, place_is}
use Rattle.law_names.proofs.law_passing.Takes.{HasEntry, began_held, entry_there, flag_there, held_began, place_there, there_entry, there_flag, there_place}
use Rattle.law_determined.specs.Determined.{AreTheSame, TookTheSame}

-- ---- places and flags

module _ (here there : List Take) (apart : AreApart here) where
  module _ (by : Taker) (f : FileId) (same : AreTheSame by f here there) where
    -- the latest place that was taken there is the latest of those that were taken here
    latest_there : IsLatest f (HasPlace here by f) (place_in by f there)
    latest_there =
        let P : Place → Type 0 = λ p. Among p (places_taken by f there) in
        let from : (p : Place) → P p → HasPlace here by f p =
        λ p h. (same.places p).1 (place_there by f there p h) in
        let to : (p : Place) → HasPlace here by f p → P p =
        λ p h. there_place by f there p ((same.places p).0 h) in
        latest_same {f = f} {P = P} {Q = HasPlace here by f} from to (place_in by f there)
        (latest_of f (places_taken by f there))

    pub same_place : place_in by f here ≡ place_in by f there
    same_place = sym (place_is here apart by f (place_in by f there) latest_there)

    newest_there : AreNewest (HasFlag here by f) (flags_in by f there)
    newest_there =
        let P : Flag → Type 0 = λ g. Among g (flags_taken by f there) in
        let from : (g : Flag) → P g → HasFlag here by f g =
        λ g h. (same.flags g).1 (flag_there by f there g h) in
        let to : (g : Flag) → HasFlag here by f g → P g =
        λ g h. there_flag by f there g ((same.flags g).0 h) in
        newest_same {P = P} {Q = HasFlag here by f} from to (flags_in by f there)
        (newest_of (flags_taken by f there))

    pub same_flags : flags_in by f here ≡ flags_in by f there
    same_flags = sym (flags_are here apart by f (flags_in by f there) newest_there)

  pub same_own : (f : FileId) → AreTheSame Itself f here there
      → own_state f here ≡ own_state f there
  same_own f same =
      own_of_parts (place_in Itself f here) (place_in Itself f there) (flags_in Itself f here)
      (flags_in Itself f there) (same_place Itself f same) (same_flags Itself f same)

-- ---- entries

both_ways : (t u : Bool) → (t ≡ true → u ≡ true) → (u ≡ true → t ≡ true) → t ≡ u
both_ways true u to back = sym (to refl)
both_ways false true to back = back refl
both_ways false false to back = refl

moved : (d c : FileId) (here there : List Take) → AreTheSame (InDir d) c here there
    → HasEntry here d c → HasEntry there d c
moved d c here there same (inl h) = inl (h.0, (same.places h.0).0 h.1)
moved d c here there same (inr h) = inr (h.0, (same.flags h.0).0 h.1)

turned : (by : Taker) (f : FileId) (here there : List Take) → AreTheSame by f here there
    → AreTheSame by f there here
turned by f here there same = record {
  places = λ p. ((same.places p).1, (same.places p).0);
  flags = λ g. ((same.flags g).1, (same.flags g).0);
}

same_cell : (d c : FileId) (here there : List Take) → AreTheSame (InDir d) c here there
    → has_cell d c here ≡ has_cell d c there
same_cell d c here there same =
    both_ways (has_cell d c here) (has_cell d c there)
    (λ h. there_entry d c there (moved d c here there same (entry_there d c here h)))
    (λ h. there_entry d c here
    (moved d c there here (turned (InDir d) c here there same) (entry_there d c there h)))

entry_of : (c : FileId) (t u : Bool) (p q : Place) (fs gs : List Flag) → t ≡ u → p ≡ q → fs ≡ gs
    → ◌≡◌ {A = Option Entry} (cond t (Some (record { child = c; place = p; flags = fs })) None)
    (cond u (Some (record { child = c; place = q; flags = gs })) None)
entry_of c t u p q fs gs a b e = cc

pub same_entry : (here there : List Take) → AreApart here → (d c : FileId)
    → AreTheSame (InDir d) c here there → entry_state d c here ≡ entry_state d c there
same_entry here there apart d c same =
    entry_of c (has_cell d c here) (has_cell d c there) (place_in (InDir d) c here)
    (place_in (InDir d) c there) (flags_in (InDir d) c here) (flags_in (InDir d) c there)
    (same_cell d c here there same) (same_place here there apart (InDir d) c same)
    (same_flags here there apart (InDir d) c same)

-- ---- what is held

pub held_there : (f : FileId) (here there : List Take) → TookTheSame f here there
    → is_held f here ≡ true ↔ is_held f there ≡ true
held_there f here there same = (
  λ h. began_held there f (same.began.0 (held_began here f h)),
  λ h. began_held here f (same.began.1 (held_began there f h)),
)
