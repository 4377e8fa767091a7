-- Things and entries stay in order, and the root held and full, whatever comes and whatever the
-- house rules do.
use Rattle.std.proofs.Common.{ℕ, ◌≡◌, Bool, true, false, cond, List, [], Option, None, Some, refl, sym, ap, subst, ◌∙◌}
use Rattle.std.specs.List.Sorted.{IsStrictlySortedBy}
use Rattle.std.specs.Map.{keys_of}
use Rattle.std.proofs.lemmas.Bool.{false≢true}
use Rattle.std.proofs.lemmas.Option.{same_Some}
use Rattle.law_frame.specs.pg_run.pg_base.declared.id.FileId.{FileId}
use Rattle.law_frame.specs.pg_run.pg_base.Id.{file_cmp, is_same_file}
use Rattle.law_frame.proofs.pg_run.pg_base.Entries.{IsStrictlySortedBy-insert_entry}
use Rattle.law_frame.proofs.pg_run.pg_base.Orders.{file_total, is_same_file-true}
use Rattle.law_frame.specs.pg_run.pg_entries.declared.entry.Entry.{Entry}
use Rattle.law_frame.specs.pg_run.pg_names.declared.attributes.Attributes.{Attributes}
use Rattle.law_frame.specs.pg_run.pg_names.Names.{InodeValue, NamesValue, begin, fill, filled, is_full, is_full_of, join_entry, join_flag, join_place, known, new_held, raise, remove_server, update, with_flag, with_joined, with_place}
use Rattle.law_frame.proofs.pg_run.pg_names.Holding.{begun_known, begun_stays, fill_other, fill_same, full_kept}
use Rattle.law_frame.proofs.pg_run.pg_names.Lookups.{update_frame}
use Rattle.law_frame.specs.pg_run.pg_register.declared.flag.Flag.{Flag}
use Rattle.law_frame.specs.pg_run.pg_register.declared.place.Place.{Place}
use Rattle.law_frame.specs.pg_run.pg_register.Place.{root}
use Rattle.law_frame.specs.pg_run.pg_house.House.{house}
use Rattle.law_frame.specs.pg_run.pg_house.Work.{State}
use Rattle.law_frame.proofs.pg_run.pg_house.Fullness.{rules_full}
use Rattle.law_frame.proofs.pg_run.pg_house.Keys.{rules_keys}
use Rattle.law_frame.proofs.pg_run.pg_house.Ordered.{rules_ordered}
use Rattle.law_order.specs.Sound.{AreTidy}
use Rattle.law_order.proofs.Changes.{ordered_update}

abbrev pub IsInOrder : InodeValue → Type 0
IsInOrder x = IsStrictlySortedBy file_cmp (keys_of x.entries)

-- a stamp is taken
pub tidy_raised : (s : NamesValue) (time : ℕ) → AreTidy s → AreTidy (raise s time)
tidy_raised s time k = record { ordered = k.ordered; keys = k.keys; top = k.top }

-- a server is removed
pub tidy_removed : (s : NamesValue) (server : ℕ) → AreTidy s → AreTidy (remove_server s server)
tidy_removed s server k = record { ordered = k.ordered; keys = k.keys; top = k.top }

-- ---- what is held of one thing changes, and it is as full as it was

tidy_update : (s : NamesValue) (f : FileId) (change : InodeValue → InodeValue) → ((x : InodeValue) → IsInOrder x → IsInOrder (change x))
    → ((x : InodeValue) → (change x).full ≡ x.full) → AreTidy s → AreTidy (update s f change)
tidy_update s f change order full k = record {
  ordered = ordered_update s f change order k.ordered;
  keys = subst (IsStrictlySortedBy file_cmp) (sym (update_frame s f change).keys) k.keys;
  top = full_kept s f change full root ∙ k.top;
}

pub tidy_place : (s : NamesValue) (f : FileId) (place : Place) → AreTidy s → AreTidy (raise (join_place s f place) place.stamp.time)
tidy_place s f place k =
    tidy_raised (join_place s f place) place.stamp.time (tidy_update s f (with_place place) (λ x h. h) (λ x. refl) k)

pub tidy_flag : (s : NamesValue) (f : FileId) (flag : Flag) → AreTidy s → AreTidy (join_flag s f flag)
tidy_flag s f flag k = tidy_update s f (with_flag flag) (λ x h. h) (λ x. refl) k

pub tidy_entry : (s : NamesValue) (d : FileId) (e : Entry) → AreTidy s → AreTidy (raise (join_entry s d e) e.place.stamp.time)
tidy_entry s d e k =
    tidy_raised (join_entry s d e) e.place.stamp.time
    (tidy_update s d (with_joined e) (λ x h. IsStrictlySortedBy-insert_entry file_cmp file_total e.child _ x.entries h) (λ x. refl) k)

-- ---- a thing begins that was not held

abbrev NoEntries : List (FileId × Entry)
NoEntries = []

pub none_sorted : IsStrictlySortedBy file_cmp (keys_of NoEntries)
unfolding IsStrictlySortedBy
none_sorted = tt

full_some : (o : Option InodeValue) → is_full_of o ≡ true → (x : InodeValue) × (o ≡ Some x) × (x.full ≡ true)
full_some None h = absurd (false≢true h)
full_some (Some x) h = (x, refl, h)

module _ (s : NamesValue) (f : FileId) (own : Attributes) (full : Bool) (none : known s f ≡ None) (k : AreTidy s) where
  begun_by : (q : FileId) (x : InodeValue) (t : Bool) → cond t (Some (new_held own full)) (known s q) ≡ Some x → IsInOrder x
  begun_by q x true h = subst IsInOrder (same_Some (new_held own full) x h) none_sorted
  begun_by q x false h = k.ordered q x h

  pub tidy_begun : (time : ℕ) → AreTidy (raise (begin s f own full) time)
  tidy_begun time =
      let top = full_some (known s root) k.top in
      record {
        ordered = λ q x h. begun_by q x (is_same_file q f) (sym (begun_known s f own full q) ∙ h);
        keys = IsStrictlySortedBy-insert_entry file_cmp file_total f (new_held own full) s.held k.keys;
        top = ap is_full_of (begun_stays s f own full none root top.0 top.1) ∙ top.2;
      }

-- ---- a thing is full

filled_top : (s : NamesValue) (f : FileId) (t : Bool) → is_same_file f root ≡ t → is_full s root ≡ true → is_full (fill s f) root ≡ true
filled_top s f false apart top = fill_other s f root apart ∙ top
filled_top s f true same top =
    let at : f ≡ root = is_same_file-true f root same in
    let x = full_some (known s root) top in
    ap (is_full (fill s f)) (sym at) ∙ fill_same s f x.0 (ap (known s) at ∙ x.1)

pub tidy_filled : (s : NamesValue) (f : FileId) → AreTidy s → AreTidy (fill s f)
tidy_filled s f k = record {
  ordered = ordered_update s f filled (λ x h. h) k.ordered;
  keys = subst (IsStrictlySortedBy file_cmp) (sym (update_frame s f filled).keys) k.keys;
  top = filled_top s f (is_same_file f root) refl k.top;
}

-- ---- the house rules run

pub tidy_house : (moment : ℕ) (st : State) → AreTidy st.names → AreTidy (house moment st).names
tidy_house moment st k = record {
  ordered = rules_ordered moment st k.ordered;
  keys = subst (IsStrictlySortedBy file_cmp) (sym (rules_keys moment st)) k.keys;
  top = rules_full moment st root ∙ k.top;
}
