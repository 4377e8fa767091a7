-- Returns as steps: the least directory that is to come back does, each time.
use Rattle.std.proofs.Common.{◌≡◌, ℕ, zero, suc, ◌<◌, Bool, true, false, cond, List, [], ◌∷◌, length, get_or, Option, None, Some, refl, sym, ap, ◌∙◌, subst, arith, inl, inr}
use Rattle.std.specs.List.{find, list_any}
use Rattle.std.specs.List.Sorted.{IsStrictlySortedBy}
use Rattle.std.specs.Map.{keys_of, lookup, values_of}
use Rattle.std.specs.Ordering.{is_lt}
use Rattle.std.proofs.lemmas.Bool.{and_from, and_parts, false≢true, or_left, or_right}
use Rattle.std.proofs.lemmas.List.{get_or-map}
use Rattle.std.proofs.lemmas.List.Folds.{Any-from_list_any}
use Rattle.std.proofs.lemmas.Map.Entries.{length-values_of}
use Rattle.std.proofs.lemmas.Option.{none-some, same_Some}
use Rattle.pg_run.specs.pg_base.declared.id.FileId.{FileId}
use Rattle.pg_run.specs.pg_base.Id.{file_cmp, is_same_file}
use Rattle.pg_run.specs.pg_entries.declared.entry.Entry.{Entry}
use Rattle.pg_run.specs.pg_entries.Entry.{entry_of, is_listed, lists_any}
use Rattle.pg_run.specs.pg_house.Facts.{AreOrdered, IsLast, is_among}
use Rattle.pg_run.specs.pg_house.Placing.{place_at, repeated}
use Rattle.pg_run.specs.pg_house.Returning.{first_returning, is_dead, is_returning, is_returning_held, return_first, returned}
use Rattle.pg_run.specs.pg_house.Work.{State}
use Rattle.pg_run.specs.pg_names.declared.attributes.Attributes.{Attributes}
use Rattle.pg_run.specs.pg_names.Names.{InodeValue, NamesValue, directories, entry_in, is_dir, known, own_at, own_of}
use Rattle.pg_run.specs.pg_register.Place.{root}
use Rattle.pg_run.proofs.pg_base.Entries.{lookup-place}
use Rattle.pg_run.proofs.pg_base.Orders.{file_total, is_same_file-true}
use Rattle.pg_run.proofs.pg_house.AllReturned.{not_root, returning_by}
use Rattle.pg_run.proofs.pg_house.Counting.{find_found}
use Rattle.pg_run.proofs.pg_house.Placed.{Settled, placed_is_last, placed_settled}
use Rattle.pg_run.proofs.pg_house.Settling.{dirs_held}
use Rattle.pg_run.proofs.pg_house.Truths.{or_cases}
use Rattle.law_house.specs.Steps.{Returns}
use Rattle.law_house.proofs.Drawn.{dead_by, dead_other, dead_place, drawn_is}
use Rattle.law_house.proofs.Placing.{none_passes, placed_ordered, placed_reaches, placed_same}
use Rattle.law_house.proofs.Walking.{Reaches, above_first, and_then, sorted_rest}

-- ---- where any child is listed, there is one

listed_child : (d : FileId) (es : List (FileId × Entry)) → IsStrictlySortedBy file_cmp (keys_of es) → lists_any es d ≡ true
    → (child : FileId) × (c : Entry) × (entry_of es child ≡ Some c) × (is_listed d c ≡ true)
listed_child d es sorted any =
    let a = Any-from_list_any (is_listed d) (values_of es) any in
    let lt = a.2 in
    let inside : a.0 < length es = let e = length-values_of es in omega (arith, lt) in
    let e = get_or es a.0 (root, a.1) in
    let same : e.1 ≡ a.1 = sym (get_or-map (λ (x : FileId × Entry). x.1) es a.0 (root, a.1) a.1 inside) ∙ a.3 in
    (e.0, e.1, lookup-place file_cmp file_total e.0 e.1 es a.0 (root, a.1) sorted inside refl, ap (is_listed d) same ∙ a.4)

listed_at : (p : Entry → Bool) (e : FileId × Entry) (es : List (FileId × Entry)) (c : Entry) (rest : Option Entry) (t : Bool)
    → cond t (Some e.1) rest ≡ Some c → p c ≡ true → ((rest ≡ Some c) → list_any p (values_of es) ≡ true)
    → list_any p (values_of (e ∷ es)) ≡ true
listed_at p e es c rest true h g more = or_left (p e.1) _ (ap p (same_Some e.1 c h) ∙ g)
listed_at p e es c rest false h g more = or_right (p e.1) _ (more h)

listed_any : (p : Entry → Bool) (test : FileId → Bool) (es : List (FileId × Entry)) (c : Entry) → lookup test es ≡ Some c → p c ≡ true
    → list_any p (values_of es) ≡ true
listed_any p test [] c h g = absurd (none-some c h)
listed_any p test (e ∷ es) c h g = listed_at p e es c (lookup test es) (test e.0) h g (λ more. listed_any p test es c more g)

-- ---- who is to come back, by the test and in words

module _ (s : NamesValue) (d : FileId) where
  returns_by : (o : Option InodeValue) → known s d ≡ o → is_returning_held d o ≡ true → is_dir d ≡ true → AreOrdered s → Returns s d
  returns_by None h r kind ordered = absurd (false≢true r)
  returns_by (Some x) h r kind ordered =
      let parts = and_parts (is_dead d x.own.place) _ r in
      let l = listed_child d x.entries (ordered d x h) parts.1 in
      record {
        kind = kind;
        other = dead_other d x.own.place parts.0;
        own = x.own;
        held = ap own_of h;
        dead = (dead_place d x.own.place parts.0).0;
        made = (dead_place d x.own.place parts.0).1;
        child = l.0;
        cell = l.1;
        has = ap (entry_in l.0) h ∙ l.2;
        lists = l.3;
      }

  pub returns_of : is_returning s d ≡ true → is_dir d ≡ true → AreOrdered s → Returns s d
  returns_of r = returns_by (known s d) refl r

  test_by : (o : Option InodeValue) → known s d ≡ o → Returns s d → is_returning_held d o ≡ true
  test_by None h r = absurd (none-some r.own (ap own_of (sym h) ∙ r.held))
  test_by (Some x) h r =
      let own : x.own ≡ r.own = same_Some x.own r.own (ap own_of (sym h) ∙ r.held) in
      and_from (is_dead d x.own.place) _ (ap (λ (a : Attributes). is_dead d a.place) own ∙ dead_by d r.own.place r.other r.dead r.made)
      (listed_any (is_listed d) _ x.entries r.cell (ap (entry_in r.child) (sym h) ∙ r.has) r.lists)

  pub test_of : Returns s d → is_returning s d ≡ true
  test_of r = test_by (known s d) refl r

-- ---- the first that is found is the least

least_at : (test : FileId → Bool) (e f g : FileId) (ds : List FileId) (t : Bool) → test e ≡ t → cond t (Some e) (find test ds) ≡ Some f
    → IsStrictlySortedBy file_cmp (e ∷ ds) → is_among g (e ∷ ds) ≡ true → is_lt (file_cmp g f) ≡ true
    → ((find test ds ≡ Some f) → is_among g ds ≡ true → test g ≡ false)
    → test g ≡ false
least_at test e f g ds true h found sorted among lt rest =
    absurd (above_first e g ds sorted among (subst (λ x. is_lt (file_cmp g x) ≡ true) (sym (same_Some e f found)) lt))
least_at test e f g ds false h found sorted among lt rest =
    elim (or_cases (is_same_file e g) (is_among g ds) among) [
      | inl same ↦ ap test (sym (is_same_file-true e g same)) ∙ h
      | inr later ↦ rest found later
    ]

find_least : (test : FileId → Bool) (f g : FileId) (ds : List FileId) → find test ds ≡ Some f → IsStrictlySortedBy file_cmp ds
    → is_among g ds ≡ true → is_lt (file_cmp g f) ≡ true
    → test g ≡ false
find_least test f g [] h sorted among lt = absurd (false≢true among)
find_least test f g (e ∷ ds) h sorted among lt =
    least_at test e f g ds (test e) refl h sorted among lt
    (λ found later. find_least test f g ds found (sorted_rest e ds sorted) later lt)

-- ---- returns

-- between two rules: all has passed, and what is held is by id
pub record Kept (ds : List FileId) (st : State) : Type 0 where
  pub same : directories st.names ≡ ds
  pub settled : Settled ds st.names
  pub last : IsLast st.names
  pub ordered : AreOrdered st.names

module _ (moment : ℕ) (ds : List FileId) (sorted : IsStrictlySortedBy file_cmp ds) where
  abbrev Goes : State → State → Type 0
  Goes st next = Reaches moment st next × Kept ds next

  one_return : (st : State) → Kept ds st → (o : Option FileId) → first_returning st.names ds ≡ o → Goes st (returned moment ds st o)
  one_return st k None h = ((0, refl), k)
  one_return st k (Some d) h =
      let found = find_found (is_returning st.names) ds d h in
      let back = returning_by st.names d (known st.names d) refl found.0 in
      let kind = (dirs_held st.names d (ap (is_among d) k.same ∙ found.1)).1 in
      let place = place_at st.names d in (
        placed_reaches moment ds st k.same k.settled d place.parent place.name
            (not_root d (own_at st.names d) back.dead_one)
            (inr (inl (record {
              passed = none_passes moment ds st k.same k.settled;
              dir = d;
              applies = returns_of st.names d found.0 kind k.ordered;
              least = λ g lt r. false≢true (sym (find_least (is_returning st.names) d g ds h sorted
                  (k.settled.dirs.held g r.own r.held r.kind) lt) ∙ test_of st.names g r);
              stamp = drawn_is moment st.names;
              does = refl;
            }))),
        record {
          same = placed_same moment ds st k.same k.settled d place.parent place.name;
          settled = placed_settled moment ds st d place.parent place.name k.settled;
          last = placed_is_last moment ds st d place.parent place.name k.settled k.last back.held;
          ordered = placed_ordered moment ds st k.same k.settled d place.parent place.name k.ordered;
        },
      )

  pub all_return : (n : ℕ) (st : State) → Kept ds st → Goes st (repeated n (return_first moment ds) st)
  all_return zero st k = ((0, refl), k)
  all_return (suc n) st k =
      let one = one_return st k (first_returning st.names ds) refl in
      let next = return_first moment ds st in
      let more = all_return n next one.1 in
      (and_then moment st next (repeated n (return_first moment ds) next) one.0 more.0, more.1)
