-- Files that have nothing to send need not be gone over.
use Rattle.std.proofs.Common.{◌≡◌, ℕ, ◌<◌, ◌+◌, ◌==◌, length, take, get_or, Bool, true, false, cond, ◌&&◌, ◌||◌, Bor, Option, None, Some, List, [], ◌∷◌, ◌++◌, refl, sym, ap, ◌∙◌}
use Rattle.std.proofs.lemmas.List.Folds.{list_any_more}
use Rattle.std.proofs.lemmas.Bool.{false≢true, or_from}
use Rattle.std.proofs.lemmas.Option.{none-some}
use Rattle.std.specs.declared.cmp.Ordering.{Ordering}
use Rattle.std.specs.BTreeMap.{insert_entry, is_at}
use Rattle.std.specs.List.{filter, flat_map, list_any}
use Rattle.std.specs.List.Sorted.{IsStrictlySortedBy}
use Rattle.std.specs.Map.{keys_of, lookup}
use Rattle.std.specs.Ordering.{eq_by_cmp}
use Rattle.pg_base.specs.declared.id.FileId.{FileId}
use Rattle.pg_base.specs.Id.{file_cmp, is_same_file}
use Rattle.pg_base.proofs.Maps.{lookup-insert_entry}
use Rattle.pg_base.proofs.Orders.{file_total, is_same_file-true, is_same_file-refl, file_exact}
use Rattle.pg_edges.specs.declared.edge.Edge.{Edge}
use Rattle.pg_edges.specs.declared.key.Key.{Key}
use Rattle.pg_edges.specs.Key.{is_same_key}
use Rattle.pg_pieces.specs.pg_msg.declared.work.Linked.{Linked}
use Rattle.pg_pieces.specs.pg_msg.declared.work.Touched.{Touched}
use Rattle.pg_pieces.specs.pg_replica.Index.{Files, IsIndex}
use Rattle.pg_pieces.proofs.pg_replica.Clean.{clean_pieces}
use Rattle.pg_pieces.proofs.pg_replica.Merging.{by_index}
use Rattle.pg_pieces.specs.pg_store.declared.store.Store.{Store}
use Rattle.pg_pieces.specs.pg_store.Store.{replica_at}
use Rattle.pg_cells.specs.declared.key_filter.KeyFilter.{KeyFilter}
use Rattle.pg_cells.specs.declared.key_filter.KeyFilter.TheVariants as choice
use Rattle.pg_cells.specs.KeyFilter.{ListsChosen, ListsLinked, ListsTouched, chosen_cells, file_cells, passes}
use Rattle.pg_cells.specs.Sending.{cells_where, edge_cells, is_chosen, is_linked, is_touched, key_cell, replica_cells}

-- ---- the keys of an edge

one_by : {A B : Type 0} (p : A → Bool) (f : A → List B) (x : A) (xs : List A) (t : Bool)
    → flat_map (λ k. cond (p k) (f k) []) xs ≡ flat_map f (filter p xs)
    → cond t (f x) [] ++ flat_map (λ k. cond (p k) (f k) []) xs ≡ flat_map f (cond t (x ∷ filter p xs) (filter p xs))
one_by p f x xs true ih = ap (λ l. f x ++ l) ih
one_by p f x xs false ih = ih

-- the pieces of those that pass a test
pub chosen_pieces : {A B : Type 0} (p : A → Bool) (f : A → List B) (xs : List A) → flat_map (λ k. cond (p k) (f k) []) xs ≡ flat_map f (filter p xs)
chosen_pieces p f [] = refl
chosen_pieces p f (x ∷ xs) = one_by p f x xs (p x) (chosen_pieces p f xs)

pub chosen_edge : (store : Store) (which : KeyFilter) (file : FileId) (birth : ℕ) (e : Edge)
    → flat_map (chosen_cells store which file birth e) e.keys ≡ edge_cells store (passes which) file birth e
chosen_edge store which file birth e = chosen_pieces (λ (k : Key × ℕ). passes which file e.peer k.0) (key_cell store file birth e) e.keys

-- ---- all files that have something are listed

pub all_chosen : (store : Store) (which : KeyFilter) (files : Files) → IsStrictlySortedBy file_cmp (keys_of files) → IsStrictlySortedBy file_cmp (keys_of store.replicas)
    → ListsChosen store which files
    → flat_map (λ k. file_cells store (passes which) k (replica_at store k)) (keys_of files) ≡ cells_where store (passes which)
all_chosen store which files su se lists =
    by_index file_cmp file_total file_exact (replica_cells store (passes which)) (file_cells store (passes which)) files store.replicas su se (λ e. refl) (λ k. refl) lists

-- ---- of a tick: a replica whose peers have acknowledged every key has nothing

pub all_unacknowledged : (store : Store) (files : Files) → IsIndex files store.replicas → ListsChosen store choice.All files
all_unacknowledged store files index = λ file x there none.
    clean_pieces (edge_cells store (passes choice.All) file x.birth)
    (λ e h. ap (λ (ks : List (Key × ℕ)). flat_map (key_cell store file x.birth e) (filter (λ k. passes choice.All file e.peer k.0) ks)) h)
    x.edges (index.lists file x there none)

-- ---- of the end of an event: a file of which nothing was touched or linked has nothing

no_pieces : {A B : Type 0} (f : A → List B) (xs : List A) → ((x : A) → f x ≡ []) → flat_map f xs ≡ []
no_pieces f [] none = refl
no_pieces f (x ∷ xs) none = ap (λ l. l ++ flat_map f xs) (none x) ∙ no_pieces f xs none

pub none_pass : {A : Type 0} (p : A → Bool) (xs : List A) → ((x : A) → p x ≡ false) → filter p xs ≡ []
none_pass p [] none = refl
none_pass p (x ∷ xs) none = ap (λ t. cond t (x ∷ filter p xs) (filter p xs)) (none x) ∙ none_pass p xs none

-- of two parts that are not, the first and a further test, or the second
other_by : (b p rest any : Bool) → (b || any) ≡ false → (any ≡ false → rest ≡ false) → ((b && p) || rest) ≡ false
other_by true p rest any h ih = absurd (false≢true (sym h))
other_by false p rest any h ih = ih h

not_touched : (ts : List Touched) (file : FileId) (k : Key) → list_any (λ (t : Touched). is_same_file t.file file) ts ≡ false → is_touched ts file k ≡ false
not_touched [] file k h = refl
not_touched (t ∷ ts) file k h =
    other_by (is_same_file t.file file) (is_same_key t.key k) (is_touched ts file k) (list_any (λ (u : Touched). is_same_file u.file file) ts) h (not_touched ts file k)

not_linked : (ls : List Linked) (file : FileId) (peer : ℕ) → list_any (λ (l : Linked). is_same_file l.file file) ls ≡ false → is_linked ls file peer ≡ false
not_linked [] file peer h = refl
not_linked (l ∷ ls) file peer h =
    other_by (is_same_file l.file file) (l.peer == peer) (is_linked ls file peer) (list_any (λ (u : Linked). is_same_file u.file file) ls) h (not_linked ls file peer)

pub all_changed : (store : Store) (ts : Bor (List Touched)) (ls : Bor (List Linked)) (files : Files)
    → ListsTouched files ts.now → ListsLinked files ls.now → ListsChosen store (choice.Changed ts ls) files
all_changed store ts ls files touched linked = λ file x there none.
    no_pieces (edge_cells store (is_chosen ts.now ls.now) file x.birth) x.edges
    (λ e. ap (flat_map (key_cell store file x.birth e))
    (none_pass (λ (k : Key × ℕ). is_chosen ts.now ls.now file e.peer k.0) e.keys
    (λ k. or_from (is_touched ts.now file k.0) (is_linked ls.now file e.peer) (not_touched ts.now file k.0 (touched file none)) (not_linked ls.now file e.peer (linked file none)))))

-- ---- the files of touched keys and of edges that were made

same_back : (a b : FileId) (t : Bool) → is_same_file a b ≡ t → is_same_file b a ≡ false → t ≡ false
same_back a b true h other = absurd (false≢true (sym other ∙ ap (λ c. is_same_file b c) (is_same_file-true a b h) ∙ is_same_file-refl b))
same_back a b false h other = refl

no_other : (t : Bool) (o : Option (Unit {0})) → cond t (Some tt) o ≡ None → (t ≡ false) × (o ≡ None)
no_other true o h = absurd (none-some tt (sym h))
no_other false o h = (refl, h)

-- what is not listed behind an insert is another file, and was not listed
not_put : (R : FileId → FileId → Ordering) → R ≡ file_cmp → (files new : Files) (last file : FileId)
    → new ≡ insert_entry R files last tt → lookup (is_at (file_cmp file)) new ≡ None
    → (eq_by_cmp file_cmp file last ≡ false) × (lookup (is_at (file_cmp file)) files ≡ None)
not_put R same files new last file made none =
    no_other (eq_by_cmp file_cmp file last) (lookup (is_at (file_cmp file)) files)
    (sym (lookup-insert_entry file_cmp file_total file last tt files)
    ∙ ap (λ (r : FileId → FileId → Ordering). lookup (is_at (file_cmp file)) (insert_entry r files last tt)) (sym same)
    ∙ ap (lookup (is_at (file_cmp file))) (sym made) ∙ none)

pub one_more_file : (R : FileId → FileId → Ordering) → R ≡ file_cmp → (files new : Files) (ts : List Touched) (i : ℕ) (d : Touched) → i < length ts
    → new ≡ insert_entry R files (get_or ts i d).file tt → ListsTouched files (take i ts) → ListsTouched new (take (i + 1) ts)
one_more_file R same files new ts i d lt made lists = λ file none.
    let last = (get_or ts i d).file in
    let both = not_put R same files new last file made none in
    list_any_more (λ (t : Touched). is_same_file t.file file) ts i d lt
    ∙ ap (λ b. b || is_same_file last file) (lists file both.1)
    ∙ same_back last file (is_same_file last file) refl both.0

pub one_more_edge : (R : FileId → FileId → Ordering) → R ≡ file_cmp → (files new : Files) (ls : List Linked) (i : ℕ) (d : Linked) → i < length ls
    → new ≡ insert_entry R files (get_or ls i d).file tt → ListsLinked files (take i ls) → ListsLinked new (take (i + 1) ls)
one_more_edge R same files new ls i d lt made lists = λ file none.
    let last = (get_or ls i d).file in
    let both = not_put R same files new last file made none in
    list_any_more (λ (l : Linked). is_same_file l.file file) ls i d lt
    ∙ ap (λ b. b || is_same_file last file) (lists file both.1)
    ∙ same_back last file (is_same_file last file) refl both.0

-- nothing is listed no longer
pub still_listed : (R : FileId → FileId → Ordering) → R ≡ file_cmp → (files new : Files) (last : FileId)
    → new ≡ insert_entry R files last tt → (ts : List Touched) → ListsTouched files ts → ListsTouched new ts
still_listed R same files new last made ts lists = λ file none. lists file (not_put R same files new last file made none).1
