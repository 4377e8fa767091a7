-- What is to be filled: the files that the fold over all that is held comes to.
use Rattle.std.proofs.Common.{◌≡◌, ◌⊎◌, inl, inr, Bool, true, false, not, cond, ◌&&◌, ◌||◌, List, [], ◌∷◌, get_or, Option, Some, is_some, refl, sym, ap, subst, ◌∙◌}
use Rattle.std.specs.BTreeMap.{insert_entry, is_at}
use Rattle.std.specs.List.{All, list_any}
use Rattle.std.specs.List.Sorted.{IsStrictlySortedBy}
use Rattle.std.specs.Map.{keys_of, lookup}
use Rattle.std.proofs.lemmas.Bool.{false≢true, not-true, and_parts, and_from, or_left, or_right, not_from_false}
use Rattle.std.proofs.lemmas.List.Elements.{All-head, All-tail}
use Rattle.std.proofs.lemmas.Option.{none-some, same_Some}
use Rattle.pg_base.specs.declared.id.FileId.{FileId}
use Rattle.pg_base.specs.Id.{file_cmp, is_same_file}
use Rattle.pg_base.proofs.Entries.{lookup-place}
use Rattle.pg_base.proofs.Maps.{lookup-insert_entry}
use Rattle.pg_base.proofs.Orders.{file_total, is_same_file-refl, is_same_file-true}
use Rattle.pg_graph.specs.pg_names.Names.{InodeValue, NamesValue, is_held, known}
use Rattle.pg_graph.specs.pg_house.Work.{is_root}
use Rattle.pg_graph.specs.pg_replica.Index.{Files}
use Rattle.pg_intentions.specs.Fills.{files_to_fill, is_in, lacks_parent, with_each, with_filling, with_held}
use Rattle.pg_intentions.specs.Needed.{IsLackedParent, IsToFill, IsWhatIsToFill}

-- ---- truths

one_true : (a b : Bool) → (a || b) ≡ true → (a ≡ true) ⊎ (b ≡ true)
one_true true b h = inl refl
one_true false b h = inr h

left_true : (a : Bool) → (a || false) ≡ true → a ≡ true
left_true true h = refl
left_true false h = h

joined : (a b c : Bool) → (a || (b || c)) ≡ ((a || b) || c)
joined true b c = refl
joined false b c = refl

-- of three, the first two in the other order
pub turned : (any a b : Bool) → (any || (a || b)) ≡ ((a || any) || b)
turned true true b = refl
turned true false b = refl
turned false true b = refl
turned false false b = refl

-- ---- a list of which some passes

found_by : {A : Type 0} (p : A → Bool) (Q : A → Type 0) (x : A) (xs : List A) → All Q (x ∷ xs) → (t : Bool) → p x ≡ t
    → (list_any p xs ≡ true → (y : A) × (p y ≡ true) × Q y) → (t || list_any p xs) ≡ true → (y : A) × (p y ≡ true) × Q y
found_by p Q x xs all true is rest h = (x, is, All-head Q x xs all)
found_by p Q x xs all false is rest h = rest h

found_any : {A : Type 0} (p : A → Bool) (Q : A → Type 0) (xs : List A) → All Q xs → list_any p xs ≡ true → (x : A) × (p x ≡ true) × Q x
found_any p Q [] all h = absurd (false≢true h)
found_any p Q (x ∷ xs) all h = found_by p Q x xs all (p x) refl (found_any p Q xs (All-tail Q x xs all)) h

abbrev Held : Type 0
Held = FileId × InodeValue

there_by : (p : Held → Bool) (k : FileId) (x : InodeValue) (h : Held) (hs : List Held) (t : Bool) → is_same_file k h.0 ≡ t
    → (lookup (is_at (file_cmp k)) hs ≡ Some x → list_any p hs ≡ true)
    → cond t (Some h.1) (lookup (is_at (file_cmp k)) hs) ≡ Some x → p (k, x) ≡ true → (p h || list_any p hs) ≡ true
there_by p k x h hs true same rest there passes =
    let q : (a b : FileId) (v w : InodeValue) → a ≡ b → v ≡ w → p (a, w) ≡ true → p (b, v) ≡ true =
    λ a b v w ab vw is. subst (λ (f : FileId). p (f, v) ≡ true) ab (subst (λ (y : InodeValue). p (a, y) ≡ true) (sym vw) is) in
    or_left (p h) (list_any p hs) (q k h.0 h.1 x (is_same_file-true k h.0 same) (same_Some h.1 x there) passes)
there_by p k x h hs false same rest there passes = or_right (p h) (list_any p hs) (rest there)

-- what a look-up finds, and passes
there_any : (p : Held → Bool) (k : FileId) (x : InodeValue) → p (k, x) ≡ true → (hs : List Held) → lookup (is_at (file_cmp k)) hs ≡ Some x → list_any p hs ≡ true
there_any p k x passes [] there = absurd (none-some x there)
there_any p k x passes (h ∷ hs) there =
    there_by p k x h hs (is_same_file k h.0) refl (there_any p k x passes hs) there passes

-- what is held is what a look-up finds
all_known : (s : NamesValue) → IsStrictlySortedBy file_cmp (keys_of s.held) → All (λ (h : Held). known s h.0 ≡ Some h.1) s.held
all_known s sorted =
    λ i d lt. lookup-place file_cmp file_total (get_or s.held i d).0 (get_or s.held i d).1 s.held i d sorted lt refl

-- ---- what comes to the files

pub either_in : (t : Bool) (o : Option (Unit {0})) → is_some (cond t (Some tt) o) ≡ (t || is_some o)
either_in true o = refl
either_in false o = refl

put_in : (files : Files) (k f : FileId) → is_in (insert_entry file_cmp files k tt) f ≡ (is_same_file f k || is_in files f)
put_in files k f = ap is_some (lookup-insert_entry file_cmp file_total f k tt files) ∙ either_in (is_same_file f k) (lookup (is_at (file_cmp f)) files)

-- where a test passes a file comes, and where it does not
comes_where : (t : Bool) (files : Files) (k f : FileId) → is_in (cond t (insert_entry file_cmp files k tt) files) f ≡ ((t && is_same_file f k) || is_in files f)
comes_where true files k f = put_in files k f
comes_where false files k f = refl

comes_unless : (t : Bool) (files : Files) (k f : FileId) → is_in (cond t files (insert_entry file_cmp files k tt)) f ≡ ((not t && is_same_file f k) || is_in files f)
comes_unless true files k f = refl
comes_unless false files k f = put_in files k f

module _ (s : NamesValue) (f : FileId) where
  abbrev is_it : Held → Bool
  is_it h = not h.1.full && is_same_file f h.0

  abbrev is_above : Held → Bool
  is_above h = lacks_parent s h.0 h.1 && is_same_file f h.1.own.place.parent

  -- a held thing brings the file: as its parent, or itself
  abbrev brings : Held → Bool
  brings h = is_above h || is_it h

  held_in : (files : Files) (h : Held) → is_in (with_held s files h.0 h.1) f ≡ (brings h || is_in files f)
  held_in files h =
      comes_where (lacks_parent s h.0 h.1) (with_filling files h.0 h.1) h.1.own.place.parent f
      ∙ ap (λ t. is_above h || t) (comes_unless h.1.full files h.0 f)
      ∙ joined (is_above h) (is_it h) (is_in files f)

  each_in : (hs : List Held) (files : Files) → is_in (with_each s files hs) f ≡ (list_any brings hs || is_in files f)
  each_in [] files = refl
  each_in (h ∷ hs) files =
      each_in hs (with_held s files h.0 h.1)
      ∙ ap (λ t. list_any brings hs || t) (held_in files h)
      ∙ turned (list_any brings hs) (brings h) (is_in files f)

  lacks_it : (l : IsLackedParent s f) → lacks_parent s l.child l.x ≡ true
  lacks_it l =
      and_from (not (is_root l.child)) (l.x.own.place.live && not (is_held s l.x.own.place.parent)) (not_from_false (is_root l.child) l.inner)
      (and_from l.x.own.place.live (not (is_held s l.x.own.place.parent)) l.live
      (not_from_false (is_held s l.x.own.place.parent) (ap (is_held s) l.parent ∙ l.away)))

  some_brings : IsToFill s f → list_any brings s.held ≡ true
  some_brings (inl it) =
      there_any brings f it.0
      (or_right (is_above (f, it.0)) (is_it (f, it.0)) (and_from (not it.0.full) (is_same_file f f) (not_from_false it.0.full it.2) (is_same_file-refl f)))
      s.held it.1
  some_brings (inr l) =
      there_any brings l.child l.x
      (or_left (is_above (l.child, l.x)) (is_it (l.child, l.x))
      (and_from (lacks_parent s l.child l.x) (is_same_file f l.x.own.place.parent) (lacks_it l) (ap (is_same_file f) l.parent ∙ is_same_file-refl f)))
      s.held l.held

  brought_by : (h : Held) → known s h.0 ≡ Some h.1 → (is_above h ≡ true) ⊎ (is_it h ≡ true) → IsToFill s f
  brought_by h there (inl above) =
      let both = and_parts (lacks_parent s h.0 h.1) (is_same_file f h.1.own.place.parent) above in
      let parts = and_parts (not (is_root h.0)) (h.1.own.place.live && not (is_held s h.1.own.place.parent)) both.0 in
      let more = and_parts h.1.own.place.live (not (is_held s h.1.own.place.parent)) parts.1 in
      let same = is_same_file-true f h.1.own.place.parent both.1 in
      inr (record {
        away = ap (is_held s) same ∙ not-true (is_held s h.1.own.place.parent) more.1;
        child = h.0;
        x = h.1;
        held = there;
        inner = not-true (is_root h.0) parts.0;
        live = more.0;
        parent = sym same;
      })
  brought_by h there (inr it) =
      let both = and_parts (not h.1.full) (is_same_file f h.0) it in
      inl (h.1, ap (known s) (is_same_file-true f h.0 both.1) ∙ there, not-true h.1.full both.0)

  brought : IsStrictlySortedBy file_cmp (keys_of s.held) → list_any brings s.held ≡ true → IsToFill s f
  brought sorted any =
      let found = found_any brings (λ (h : Held). known s h.0 ≡ Some h.1) s.held (all_known s sorted) any in
      brought_by found.0 found.2 (one_true (is_above found.0) (is_it found.0) found.1)

-- what is to be filled comes, with no premise on the order
pub needed_comes : (s : NamesValue) (f : FileId) → IsToFill s f → is_in (files_to_fill s) f ≡ true
needed_comes s f need = each_in s f s.held [] ∙ or_left (list_any (brings s f) s.held) false (some_brings s f need)

pub what_is_needed : (s : NamesValue) (f : FileId) → IsWhatIsToFill s f
what_is_needed s f = λ sorted.
    (λ there. brought s f sorted (left_true (list_any (brings s f) s.held) (sym (each_in s f s.held []) ∙ there)), needed_comes s f)
