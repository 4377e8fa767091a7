-- The keys of a replica are all that have a cell.
use Rattle.std.proofs.Common.{ℕ, ◌≡◌, ◌==◌, Bool, true, false, cond, List, [], ◌∷◌, ◌++◌, map, Option, None, Some, is_some, option_map, refl, sym, ap, subst, inl, inr}
use Rattle.std.specs.Prelude.{Contains}
use Rattle.std.specs.BTreeMap.{is_at}
use Rattle.std.specs.List.{find}
use Rattle.std.specs.Map.{keys_of, lookup}
use Rattle.std.proofs.lemmas.Bool.{eqb-true}
use Rattle.std.proofs.lemmas.List.Elements.{All-contains_itself}
use Rattle.pg_base.specs.declared.id.FileId.{FileId}
use Rattle.pg_base.specs.Id.{file_cmp, is_same_file}
use Rattle.pg_base.specs.Version.{VersionValue}
use Rattle.pg_base.proofs.Orders.{is_same_file-true}
use Rattle.pg_content.specs.Content.{Among}
use Rattle.pg_content.proofs.Members.{all_among}
use Rattle.pg_edges.specs.declared.key.Key.{Key}
use Rattle.pg_edges.specs.declared.key.Key.TheVariants as key
use Rattle.pg_entries.specs.declared.cell.Cell.{Cell}
use Rattle.pg_entries.specs.declared.entry.Entry.{Entry}
use Rattle.pg_cells.specs.pg_names.Names.{InodeValue, entry_in, is_held, known, or_blank, own_of}
use Rattle.pg_register.specs.declared.flag.Flag.{Flag}
use Rattle.pg_register.specs.Flag.{flag_of}
use Rattle.pg_cells.specs.pg_replica.Replica.{cell_at as head_at, key_of}
use Rattle.pg_cells.specs.pg_replica.Replica as replica
use Rattle.pg_cells.proofs.pg_replica.Growth.{cell_head}
use Rattle.pg_cells.specs.pg_store.declared.store.Store.{Store}
use Rattle.pg_cells.specs.pg_store.Cells.{cell_at, entry_cell, flag_cell, is_sure, version_cell}
use Rattle.pg_cells.specs.pg_store.Links.{keys, name_keys}
use Rattle.pg_cells.specs.pg_store.Store.{content_of}
use Rattle.theory_flood_pieces.proofs.Stores.{plain_at}
use Rattle.theory_flood_pieces.specs.Seen.{plain}

-- ---- members

front : {A : Type 0} (x : A) (xs ys : List A) → Among x xs → Among x (xs ++ ys)
front x [] ys k = absurd k
front x (y ∷ xs) ys k = elim k [ inl same ↦ inl same | inr later ↦ inr (front x xs ys later) ]

back : {A : Type 0} (x : A) (xs ys : List A) → Among x ys → Among x (xs ++ ys)
back x [] ys k = k
back x (y ∷ xs) ys k = inr (back x xs ys k)

mapped : {A B : Type 0} (f : A → B) (x : A) (xs : List A) → Among x xs → Among (f x) (map f xs)
mapped f x [] k = absurd k
mapped f x (y ∷ xs) k = elim k [ inl same ↦ inl (ap f same) | inr later ↦ inr (mapped f x xs later) ]

-- ---- the flag of a server

flag_by : (f : Flag) (fs : List Flag) (n : ℕ) (g : Flag) (t : Bool) → (f.server == n) ≡ t → cond t (Some f) (find (λ flag. flag.server == n) fs) ≡ Some g
    → (find (λ flag. flag.server == n) fs ≡ Some g → Among (key.Flag n) (map (λ flag. key.Flag flag.server) fs))
    → Among (key.Flag n) (map (λ flag. key.Flag flag.server) (f ∷ fs))
flag_by f fs n g true e is rest = inl (ap key.Flag (sym (eqb-true f.server n e)))
flag_by f fs n g false e is rest = inr (rest is)

flag_key : (fs : List Flag) (n : ℕ) (g : Flag) → flag_of fs n ≡ Some g → Among (key.Flag n) (map (λ flag. key.Flag flag.server) fs)
flag_key [] n g is = absurd (let z : None ≡ Some g = is in cc)
flag_key (f ∷ fs) n g is = flag_by f fs n g (f.server == n) refl is (flag_key fs n g)

-- ---- the entry of a child

child_by : (q : FileId) (e : FileId × Entry) (es : List (FileId × Entry)) (g : Entry) (t : Bool) → is_same_file q e.0 ≡ t → cond t (Some e.1) (lookup (is_at (file_cmp q)) es) ≡ Some g
    → (lookup (is_at (file_cmp q)) es ≡ Some g → Among q (keys_of es)) → Among q (keys_of (e ∷ es))
child_by q e es g true same is rest = inl (is_same_file-true q e.0 same)
child_by q e es g false apart is rest = inr (rest is)

child_key : (q : FileId) (es : List (FileId × Entry)) (g : Entry) → lookup (is_at (file_cmp q)) es ≡ Some g → Among q (keys_of es)
child_key q [] g is = absurd (let z : None ≡ Some g = is in cc)
child_key q (e ∷ es) g is = child_by q e es g (is_same_file q e.0) refl is (child_key q es g)

-- ---- each kind of key

module _ (a : Store) (file : FileId) where
  abbrev Heads : List VersionValue
  Heads = (content_of a file).heads

  abbrev Names : Option InodeValue → List Key
  Names o = name_keys o

  place_key : (o : Option InodeValue) → is_some o ≡ true → Among key.Place (Names o)
  place_key None h = absurd (let z : false ≡ true = h in cc)
  place_key (Some x) h = inl refl

  flag_named : (n : ℕ) (o : Option InodeValue) (f : Option Flag) (c : Cell) → is_some o ≡ true → flag_of (or_blank file (own_of o)).flags n ≡ f → flag_cell f ≡ Some c → Among (key.Flag n) (Names o)
  flag_named n None f c h e is = absurd (let z : false ≡ true = h in cc)
  flag_named n (Some x) None c h e is = absurd (let z : None ≡ Some c = is in cc)
  flag_named n (Some x) (Some g) c h e is =
      front (key.Flag n) (key.Place ∷ map (λ flag. key.Flag flag.server) x.own.flags) (map (λ child. key.Entry child) (keys_of x.entries)) (inr (flag_key x.own.flags n g e))

  entry_named : (g : FileId) (sure : Bool) (o : Option InodeValue) (f : Option Entry) (c : Cell) → is_some o ≡ true → entry_in g o ≡ f → entry_cell f sure ≡ Some c → Among (key.Entry g) (Names o)
  entry_named g sure None f c h e is = absurd (let z : false ≡ true = h in cc)
  entry_named g sure (Some x) None c h e is = absurd (let z : None ≡ Some c = is in cc)
  entry_named g sure (Some x) (Some f) c h e is =
      back (key.Entry g) (key.Place ∷ map (λ flag. key.Flag flag.server) x.own.flags) (map (λ child. key.Entry child) (keys_of x.entries))
      (mapped (λ child. key.Entry child) g (keys_of x.entries) (child_key g x.entries f e))

  version_named : (q : Key) (o : Option VersionValue) (c : Cell) → head_at Heads q ≡ o → version_cell o ≡ Some c → Among q (replica.keys Heads)
  version_named q None c e is = absurd (let z : None ≡ Some c = is in cc)
  version_named q (Some v) c e is =
      let h = cell_head Heads q v e in
      subst (λ k. Among k (replica.keys Heads)) (sym h.1) (mapped key_of v Heads h.0)

  key_among : (k : Key) (c : Cell) → is_held a.names file ≡ true → cell_at a file k ≡ Some c → Among k (keys a file)
  key_among key.Place c held is = front key.Place (Names (known a.names file)) (replica.keys Heads) (place_key (known a.names file) held)
  key_among (key.Flag n) c held is =
      front (key.Flag n) (Names (known a.names file)) (replica.keys Heads)
      (flag_named n (known a.names file) (flag_of (or_blank file (own_of (known a.names file))).flags n) c held refl is)
  key_among (key.Entry g) c held is =
      front (key.Entry g) (Names (known a.names file)) (replica.keys Heads)
      (entry_named g (is_sure a file g) (known a.names file) (entry_in g (known a.names file)) c held refl is)
  key_among (key.Version stamp) c held is =
      back (key.Version stamp) (Names (known a.names file)) (replica.keys Heads)
      (version_named (key.Version stamp) (head_at Heads (key.Version stamp)) c refl is)

pub keys_all : (a : Store) (file : FileId) (k : Key) (c : Cell) → is_held a.names file ≡ true → cell_at a file k ≡ Some c → Contains (keys a file) k
keys_all a file k c held is = all_among (Contains (keys a file)) (keys a file) k (All-contains_itself (keys a file)) (key_among a file k c held is)

-- and so of all that are seen
some_seen : (o : Option Cell) (c : Cell) → option_map plain o ≡ Some c → (d : Cell) × (o ≡ Some d)
some_seen None c h = absurd (let z : None ≡ Some c = h in cc)
some_seen (Some d) c h = (d, refl)

pub keys_seen : (a : Store) (file : FileId) → is_held a.names file ≡ true → (k : Key) (c : Cell) → plain_at a file k ≡ Some c → Contains (keys a file) k
keys_seen a file held k c is = let d = some_seen (cell_at a file k) c is in keys_all a file k d.0 held d.1
