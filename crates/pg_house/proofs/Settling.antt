-- Behind the house rules none applies: run again they change nothing.
use Rattle.std.proofs.Common.{◌≡◌, ℕ, ◌<◌, Bool, true, false, ◌&&◌, ◌||◌, not, cond, List, [], ◌∷◌, length, get_or, Option, None, Some, refl, sym, ap, ◌∙◌, subst, arith, inl, inr, ◌⊎◌}
use Rattle.std.specs.List.{filter, find}
use Rattle.std.specs.Map.{lookup, keys_of, values_of}
use Rattle.std.specs.List.Sorted.{IsStrictlySortedBy}
use Rattle.std.specs.BTreeMap.{is_at}
use Rattle.std.proofs.lemmas.Bool.{false≢true, not-true, or_left, or_right}
use Rattle.std.proofs.lemmas.List.{get_or-map}
use Rattle.std.proofs.lemmas.Map.Entries.{length-values_of}
use Rattle.std.proofs.lemmas.List.Folds.{list_any_none}
use Rattle.pg_base.specs.declared.id.FileId.{FileId}
use Rattle.pg_base.specs.Id.{is_same_file, file_cmp}
use Rattle.pg_base.proofs.Orders.{file_total, is_same_file-true, is_same_file-refl}
use Rattle.pg_base.proofs.Entries.{lookup-place}
use Rattle.pg_register.specs.Place.{root}
use Rattle.pg_entries.specs.declared.entry.Entry.{Entry}
use Rattle.pg_entries.specs.Entry.{is_listed, lists_any}
use Rattle.pg_names.specs.Names.{InodeValue, NamesValue, directories, is_dir, known, entry_in, own_of}
use Rattle.pg_house.specs.Work.{State}
use Rattle.pg_house.specs.Passing.{pass_all}
use Rattle.pg_house.specs.Placing.{repeated}
use Rattle.pg_house.specs.Returning.{first_returning, is_dead, is_returning, is_returning_held, is_root, return_first}
use Rattle.pg_house.specs.Cycles.{break_first, first_moving}
use Rattle.pg_house.specs.House.{house, house_with, movable}
use Rattle.pg_house.specs.Calm.{IsCalm}
use Rattle.pg_house.specs.Facts.{IsLast, IsOfDirs, AreByServer, NoDeadLists, AreOrdered, HasPassed, is_among}
use Rattle.pg_house.proofs.Truths.{or_cases}
use Rattle.pg_house.proofs.Counting.{kept_dir}
use Rattle.pg_house.proofs.Repeating.{none_moves, none_returns, repeated_still}
use Rattle.pg_house.proofs.Idle.{AreHeld, pass_idle}
use Rattle.pg_house.proofs.Ordered.{rules_ordered}
use Rattle.pg_house.proofs.Skipping.{pass_some}
use Rattle.pg_house.proofs.Ends.{by_server, is_last, is_of_dirs, no_dead_directory_lists, none_moves_at, own_parent, passing, same_dirs}

-- ---- what is among the keys is held

found_at : (q : FileId) (e : FileId × InodeValue) (es : List (FileId × InodeValue)) (t : Bool) → is_at (file_cmp q) e.0 ≡ t → (is_same_file e.0 q ≡ true) ⊎ (is_among q (keys_of es) ≡ true) → ((is_among q (keys_of es) ≡ true) → (x : InodeValue) × (lookup (is_at (file_cmp q)) es ≡ Some x)) → (x : InodeValue) × (cond t (Some e.1) (lookup (is_at (file_cmp q)) es) ≡ Some x)
found_at q e es true h among rest = (e.1, refl)
found_at q e es false h (inl same) rest = absurd (false≢true (sym h ∙ ap (is_same_file q) (is_same_file-true e.0 q same) ∙ is_same_file-refl q))
found_at q e es false h (inr later) rest = rest later

pub key_found : (q : FileId) (es : List (FileId × InodeValue)) → is_among q (keys_of es) ≡ true → (x : InodeValue) × (lookup (is_at (file_cmp q)) es ≡ Some x)
key_found q [] among = absurd (false≢true among)
key_found q (e ∷ es) among = found_at q e es (is_at (file_cmp q) e.0) refl (or_cases (is_same_file e.0 q) (is_among q (keys_of es)) among) (key_found q es)

was_at : (test : FileId → Bool) (d f : FileId) (ds : List FileId) (t : Bool) → is_among f (cond t (d ∷ filter test ds) (filter test ds)) ≡ true → ((is_among f (filter test ds) ≡ true) → is_among f ds ≡ true) → (is_same_file d f || is_among f ds) ≡ true
was_at test d f ds false h rest = or_right (is_same_file d f) _ (rest h)
was_at test d f ds true h rest =
    elim (or_cases (is_same_file d f) (is_among f (filter test ds)) h) [
      | inl same ↦ or_left (is_same_file d f) _ same
      | inr later ↦ or_right (is_same_file d f) _ (rest later)
    ]

pub among_was : (test : FileId → Bool) (ds : List FileId) (f : FileId) → is_among f (filter test ds) ≡ true → is_among f ds ≡ true
among_was test [] f h = h
among_was test (d ∷ ds) f h = was_at test d f ds (test d) h (among_was test ds f)

pub dirs_held : (s : NamesValue) → AreHeld s (directories s)
dirs_held s q among =
    let x = key_found q s.held (among_was is_dir (keys_of s.held) q among) in
    ((x.0.own, ap own_of x.1), kept_dir is_dir (keys_of s.held) q among)

-- ---- none comes back

nothing_at : (test : FileId → Bool) (d : FileId) (ds : List FileId) (t : Bool) → test d ≡ t → t ≡ false → find test ds ≡ None → cond t (Some d) (find test ds) ≡ None
nothing_at test d ds true h none rest = absurd (false≢true (sym none))
nothing_at test d ds false h none rest = rest

nothing_found : (test : FileId → Bool) (ds : List FileId) → ((d : FileId) → is_among d ds ≡ true → test d ≡ false) → find test ds ≡ None
nothing_found test [] all = refl
nothing_found test (d ∷ ds) all =
    nothing_at test d ds (test d) refl (all d (or_left (is_same_file d d) _ (is_same_file-refl d))) (nothing_found test ds (λ q among. all q (or_right (is_same_file d q) _ among)))

none_listed : (d : FileId) (es : List (FileId × Entry)) → IsStrictlySortedBy file_cmp (keys_of es) → ((child : FileId) (c : Entry) → lookup (is_at (file_cmp child)) es ≡ Some c → is_listed d c ≡ false) → lists_any es d ≡ false
none_listed d es sorted all =
    list_any_none (is_listed d) (values_of es) (λ i c lt.
    let inside : i < length es = let e = length-values_of es in omega (arith, lt) in
    let e = get_or es i (root, c) in
    ap (is_listed d) (get_or-map (λ (x : FileId × Entry). x.1) es i (root, c) c inside) ∙ all e.0 e.1 (lookup-place file_cmp file_total e.0 e.1 es i (root, c) sorted inside refl))

dead_or_not : (s : NamesValue) (d : FileId) (x : InodeValue) → known s d ≡ Some x → is_dir d ≡ true → AreOrdered s → NoDeadLists s → (t : Bool) → is_dead d x.own.place ≡ t → (t && lists_any x.entries d) ≡ false
dead_or_not s d x h dir ordered none false e = refl
dead_or_not s d x h dir ordered none true e =
    none_listed d x.entries (ordered d x h) (λ child c g. none d x.own (ap own_of h) dir e child c (ap (entry_in child) h ∙ g))

no_return_by : (s : NamesValue) (d : FileId) (o : Option InodeValue) → known s d ≡ o → is_dir d ≡ true → AreOrdered s → NoDeadLists s → is_returning_held d o ≡ false
no_return_by s d None h dir ordered none = refl
no_return_by s d (Some x) h dir ordered none = dead_or_not s d x h dir ordered none (is_dead d x.own.place) refl

pub none_returns_at : (s : NamesValue) → AreOrdered s → NoDeadLists s → first_returning s (directories s) ≡ None
none_returns_at s ordered none = nothing_found (is_returning s) (directories s) (λ d among. no_return_by s d (known s d) refl (dirs_held s d among).1 ordered none)

-- ---- none passes

pub all_idle : (st : State) (ds fs : List FileId) → AreHeld st.names ds → ((g : FileId) → is_among g fs ≡ true → HasPassed st.names ds g) → pass_all st ds fs ≡ st
all_idle st ds [] dirs done = refl
all_idle st ds (f ∷ fs) dirs done =
    ap (λ (s : State). pass_all s ds fs) (pass_idle st ds f dirs (done f (or_left (is_same_file f f) _ (is_same_file-refl f))))
    ∙ all_idle st ds fs dirs (λ g among. done g (or_right (is_same_file f g) _ among))

-- ---- so all is as it was

-- the rules end where these things have passed, none comes back and no cycle breaks
pub rules_end : (moment : ℕ) (ds fs : List FileId) (st t : State) → pass_all st ds fs ≡ t → first_returning t.names ds ≡ None → first_moving t.names (length ds) None ds ≡ None → house_with moment ds fs st ≡ t
rules_end moment ds fs st t passed none_back still =
    ap (λ (s : State). repeated (length ds) (break_first moment ds) (repeated (length ds) (return_first moment ds) s)) passed
    ∙ ap (repeated (length ds) (break_first moment ds)) (repeated_still (return_first moment ds) (length ds) t (none_returns moment ds t none_back))
    ∙ repeated_still (break_first moment ds) (length ds) t (none_moves moment ds t still)

pub has_passed : (s : NamesValue) → IsCalm s → (g : FileId) → is_root g ≡ false → HasPassed s (directories s) g
has_passed s calm g apart own h = (calm.passing g own h apart, calm.own_parent g own h apart)

-- what may pass is not the root
pub movable_apart : (s : NamesValue) (g : FileId) → is_among g (movable s) ≡ true → is_root g ≡ false
movable_apart s g among = not-true (is_root g) (kept_dir (λ f. not (is_root f)) (keys_of s.held) g among)

calm_passed : (s : NamesValue) → IsCalm s → (g : FileId) → is_among g (movable s) ≡ true → HasPassed s (directories s) g
calm_passed s calm g among = has_passed s calm g (movable_apart s g among)

-- no rule applies to calm names
pub calm_stays : (moment : ℕ) (st : State) → IsCalm st.names → house moment st ≡ st
calm_stays moment st calm =
    let ds = directories st.names in
    rules_end moment ds (movable st.names) st st
    (all_idle st ds (movable st.names) (dirs_held st.names) (calm_passed st.names calm))
    (none_returns_at st.names calm.ordered calm.no_dead_lists) calm.none_moves

-- and behind the rules names are calm
module _ (moment : ℕ) (st : State) (of_dirs : IsOfDirs st.names) (sorted : AreByServer st.names) (last : IsLast st.names) (ordered : AreOrdered st.names) where
  pub calm_behind : IsCalm (house moment st).names
  calm_behind = record {
    of_dirs = is_of_dirs moment st of_dirs sorted;
    by_server = by_server moment st of_dirs sorted;
    last = is_last moment st of_dirs sorted last;
    ordered = rules_ordered moment st ordered;
    passing = passing moment st of_dirs sorted;
    own_parent = own_parent moment st of_dirs sorted;
    no_dead_lists = no_dead_directory_lists moment st of_dirs sorted last;
    none_moves = subst (λ ds. first_moving (house moment st).names (length ds) None ds ≡ None) (sym (same_dirs moment st of_dirs sorted)) (none_moves_at moment st of_dirs sorted last);
  }

  pub none_applies : house moment (house moment st) ≡ house moment st
  none_applies = calm_stays moment (house moment st) calm_behind

-- ---- and only the files that have not passed need to

pub changed_pass : (moment : ℕ) (st : State) (changed : List FileId) → ((f : FileId) → is_among f changed ≡ false → HasPassed st.names (directories st.names) f)
    → house_with moment (directories st.names) (filter (λ f. is_among f changed) (movable st.names)) st ≡ house moment st
changed_pass moment st changed done =
    let ds = directories st.names in
    ap (λ (s : State). repeated (length ds) (break_first moment ds) (repeated (length ds) (return_first moment ds) s))
    (pass_some (λ f. is_among f changed) st ds (movable st.names) (dirs_held st.names) done)
