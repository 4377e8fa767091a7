-- The entries of each directory stay in order.
use Rattle.std.proofs.Common.{◌≡◌, ℕ, Bool, true, false, cond, List, [], ◌∷◌, length, Option, None, Some, refl, sym, ◌∙◌, subst}
use Rattle.std.specs.List.Sorted.{IsStrictlySortedBy}
use Rattle.std.specs.Map.{keys_of}
use Rattle.std.proofs.lemmas.Option.{same_Some}
use Rattle.pg_base.specs.declared.id.FileId.{FileId}
use Rattle.pg_base.specs.Id.{file_cmp, is_same_file}
use Rattle.pg_base.proofs.Orders.{file_total}
use Rattle.pg_base.proofs.Entries.{IsStrictlySortedBy-insert_entry}
use Rattle.pg_register.specs.Place.{root, tilde_name}
use Rattle.pg_entries.specs.declared.entry.Entry.{Entry}
use Rattle.pg_names.specs.declared.attributes.Attributes.{Attributes}
use Rattle.pg_names.specs.Names.{InodeValue, NamesValue, changed, directories, known, own_at, set_entry, set_own, with_entry, with_last, with_own}
use Rattle.pg_names.specs.Same.{is_same_own}
use Rattle.pg_names.proofs.Lookups.{known_held}
use Rattle.pg_house.specs.Work.{State}
use Rattle.pg_house.specs.Passing.{cell_for, gets, given, greatest, is_held_back, offered, own_taken, pass, pass_own, pass_all, spread, taking, took}
use Rattle.pg_house.specs.Placing.{drawn, live_place, made_at, own_with, place_at, placed}
use Rattle.pg_house.specs.Returning.{first_returning, return_first, returned}
use Rattle.pg_house.specs.Cycles.{break_first, first_moving, moved}
use Rattle.pg_house.specs.House.{house, movable}
use Rattle.pg_house.specs.Facts.{AreOrdered}
use Rattle.pg_house.proofs.Truths.{chosen}
use Rattle.pg_house.proofs.Repeating.{repeated_keeps}

ordered_at : (s : NamesValue) (d : FileId) (x y : InodeValue) → known s d ≡ Some x → AreOrdered s → IsStrictlySortedBy file_cmp (keys_of y.entries) → (q : FileId) (z : InodeValue) (t : Bool) → cond t (Some y) (known s q) ≡ Some z → IsStrictlySortedBy file_cmp (keys_of z.entries)
ordered_at s d x y h ordered sorted q z false g = ordered q z g
ordered_at s d x y h ordered sorted q z true g = subst (λ (w : InodeValue). IsStrictlySortedBy file_cmp (keys_of w.entries)) (same_Some y z g) sorted

-- a change that keeps the order of entries
pub changed_ordered : (s : NamesValue) (d : FileId) (change : InodeValue → InodeValue) → ((x : InodeValue) → IsStrictlySortedBy file_cmp (keys_of x.entries) → IsStrictlySortedBy file_cmp (keys_of (change x).entries)) → (o : Option InodeValue) → known s d ≡ o → AreOrdered s → AreOrdered (changed s d change o)
changed_ordered s d change keeps None h ordered = ordered
changed_ordered s d change keeps (Some x) h ordered = λ q z g. ordered_at s d x (change x) h ordered (keeps x (ordered d x h)) q z (is_same_file d q) (sym (known_held s d x (change x) q h) ∙ g)

entry_ordered : (s : NamesValue) (d : FileId) (e : Entry) → AreOrdered s → AreOrdered (set_entry s d e)
entry_ordered s d e ordered = changed_ordered s d (with_entry e) (λ x h. IsStrictlySortedBy-insert_entry file_cmp file_total e.child e x.entries h) (known s d) refl ordered

own_ordered : (s : NamesValue) (f : FileId) (c : Attributes) → AreOrdered s → AreOrdered (set_own s f c)
own_ordered s f c ordered = changed_ordered s f (with_own c) (λ x h. h) (known s f) refl ordered

spread_ordered : (st : State) (f : FileId) (own top : Attributes) (back : Bool) (ds : List FileId) → AreOrdered st.names → AreOrdered (spread st f own top back ds).names
spread_ordered st f own top back [] ordered = ordered
spread_ordered st f own top back (d ∷ ds) ordered =
    spread_ordered (offered st f own top back d) f own top back ds
    (chosen (λ (s : State). AreOrdered s.names) (gets st.names f own top back d) (given st f top d) st (entry_ordered st.names d (cell_for f top) ordered) ordered)

taking_ordered : (st : State) (f : FileId) (own taken : Attributes) → AreOrdered st.names → AreOrdered (taking st f own taken).names
taking_ordered st f own taken ordered = chosen (λ (s : State). AreOrdered s.names) (is_same_own own taken) st (took st f own taken) ordered (own_ordered st.names f taken ordered)

pass_ordered_by : (st : State) (ds : List FileId) (f : FileId) (o : Option Attributes) → AreOrdered st.names → AreOrdered (pass_own st ds f o).names
pass_ordered_by st ds f None ordered = ordered
pass_ordered_by st ds f (Some own) ordered =
    let top = greatest st.names f own ds in
    let back = is_held_back st.names.removed f own top in
    taking_ordered (spread st f own top back ds) f own (own_taken own top back) (spread_ordered st f own top back ds ordered)

pub pass_ordered : (st : State) (ds : List FileId) (f : FileId) → AreOrdered st.names → AreOrdered (pass st ds f).names
pass_ordered st ds f ordered = pass_ordered_by st ds f (own_at st.names f) ordered

all_ordered : (st : State) (ds fs : List FileId) → AreOrdered st.names → AreOrdered (pass_all st ds fs).names
all_ordered st ds [] ordered = ordered
all_ordered st ds (f ∷ fs) ordered = all_ordered (pass st ds f) ds fs (pass_ordered st ds f ordered)

placed_ordered : (moment : ℕ) (ds : List FileId) (st : State) (f p : FileId) (name : List ℕ) → AreOrdered st.names → AreOrdered (placed moment ds st f p name).names
placed_ordered moment ds st f p name ordered =
    let place = live_place (drawn moment st.names) p name in
    pass_ordered (made_at st f place) ds f (own_ordered (with_last st.names place.stamp.time) f (own_with st.names f place) ordered)

returned_ordered : (moment : ℕ) (ds : List FileId) (st : State) (o : Option FileId) → AreOrdered st.names → AreOrdered (returned moment ds st o).names
returned_ordered moment ds st None ordered = ordered
returned_ordered moment ds st (Some d) ordered = placed_ordered moment ds st d (place_at st.names d).parent (place_at st.names d).name ordered

moved_ordered : (moment : ℕ) (ds : List FileId) (st : State) (o : Option FileId) → AreOrdered st.names → AreOrdered (moved moment ds st o).names
moved_ordered moment ds st None ordered = ordered
moved_ordered moment ds st (Some d) ordered = placed_ordered moment ds st d root (tilde_name d) ordered

pub rules_ordered : (moment : ℕ) (st : State) → AreOrdered st.names → AreOrdered (house moment st).names
rules_ordered moment st ordered =
    let ds = directories st.names in
    repeated_keeps (λ (t : State). AreOrdered t.names) (break_first moment ds) (λ t h. moved_ordered moment ds t (first_moving t.names (length ds) None ds) h) (length ds) _
    (repeated_keeps (λ (t : State). AreOrdered t.names) (return_first moment ds) (λ t h. returned_ordered moment ds t (first_returning t.names ds) h) (length ds) _ (all_ordered st ds (movable st.names) ordered))
