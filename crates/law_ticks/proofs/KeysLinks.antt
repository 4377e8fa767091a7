-- Each key on an edge has a cell: an edge that is made has the keys of cells alone.
use Rattle.std.proofs.Common.{ℕ, ◌≡◌, ◌==◌, Bool, true, false, cond, List, [], ◌∷◌, length, ◌+◌, Option, None, Some, refl, sym, ap, subst, ◌∙◌, inl, inr, ◌⊎◌}
use Rattle.std.specs.BTreeMap.{insert_entry, is_at}
use Rattle.std.specs.Map.{keys_of, lookup}
use Rattle.std.specs.Option.{option_map}
use Rattle.std.proofs.lemmas.Option.{none-some}
use Rattle.law_frame.specs.pg_run.pg_base.declared.id.FileId.{FileId}
use Rattle.law_frame.specs.pg_run.pg_base.Id.{file_cmp, is_same_file}
use Rattle.law_frame.specs.pg_run.pg_base.Version.{VersionValue}
use Rattle.law_frame.proofs.pg_run.pg_base.Orders.{is_same_file-refl}
use Rattle.law_frame.specs.pg_run.pg_content.Content.{Among}
use Rattle.law_frame.specs.pg_run.pg_delta.declared.delta.KeptDelta.{KeptDelta}
use Rattle.law_frame.specs.pg_run.pg_edges.declared.key.Key.{Key}
use Rattle.law_frame.specs.pg_run.pg_edges.declared.key.Key.TheVariants as key
use Rattle.law_frame.specs.pg_run.pg_edges.declared.edge.Edge.{Edge}
use Rattle.law_frame.specs.pg_run.pg_edges.Edges.{edge_to, keys_if_born, linked, makes_edge, new_edge, put_edge, tag_at, tag_of}
use Rattle.law_frame.specs.pg_run.pg_edges.Key.{is_same_key, key_cmp}
use Rattle.law_frame.specs.pg_run.pg_edges.Keys.{tag_in, touch_each}
use Rattle.law_frame.specs.pg_run.pg_edges.Laws.Change.{Ack, Unlink}
use Rattle.law_frame.proofs.pg_run.pg_edges.Lookups.{edge_to-put_edge, tag_in-insert}
use Rattle.law_frame.proofs.pg_run.pg_edges.Orders.{is_same_key-true}
use Rattle.law_frame.proofs.pg_run.pg_edges.Tags.{keeps_or_brings}
use Rattle.law_frame.specs.pg_run.pg_entries.declared.cell.Cell.TheVariants as cell
use Rattle.law_frame.specs.pg_run.pg_entries.declared.entry.Entry.{Entry}
use Rattle.law_frame.specs.pg_run.pg_names.Names.{InodeValue, entry_in, known, or_blank, own_of}
use Rattle.law_frame.specs.pg_run.pg_register.declared.flag.Flag.{Flag}
use Rattle.law_frame.specs.pg_run.pg_register.Flag.{flag_of}
use Rattle.law_frame.specs.pg_run.pg_replica.declared.link.Link.{Link}
use Rattle.law_frame.specs.pg_run.pg_replica.declared.replica.Replica.{Replica}
use Rattle.law_frame.specs.pg_run.pg_replica.Laws.{IsKeyOf}
use Rattle.law_frame.specs.pg_run.pg_replica.Replica.{has_edge, keys as head_keys, with_ack, with_kept, with_link, with_unlink}
use Rattle.law_frame.specs.pg_run.pg_replica.Replicas.{ByFile, put_replica, replicas_acked, replicas_keeping, replicas_linked, replicas_unlinked}
use Rattle.law_frame.proofs.pg_run.pg_replica.Heads.{head_cell}
use Rattle.law_frame.specs.pg_run.pg_store.declared.store.Store.{Store}
use Rattle.law_frame.specs.pg_run.pg_store.Cells.{version_cell}
use Rattle.law_frame.specs.pg_run.pg_store.Links.{entry_keys, flag_keys, is_linked, is_new_link, keys, link, name_keys, put_link, unlink}
use Rattle.law_frame.specs.pg_run.pg_store.Store.{acknowledge, content_of, keep_delta, replica_at, with_drawn}
use Rattle.law_frame.proofs.pg_run.theory_flood_pieces.Choices.{chosen}
use Rattle.law_frame.proofs.pg_run.theory_flood_pieces.Stores.{Changes}
use Rattle.law_frame.proofs.pg_run.Lists.{among_parts}
use Rattle.law_ticks.proofs.Keyed.{NameHas, IsMember, member_found}
use Rattle.law_ticks.proofs.KeysCells.{AllHaveCells, HasCell, beside_have, cell_stays, name_cell, one_changed, same_content}

-- ---- the keys of a replica have cells

flag_member : (k : Key) (fs : List Flag) → Among k (flag_keys fs) → (g : Flag) × IsMember g fs × (k ≡ key.Flag g.server)
flag_member k [] h = absurd h
flag_member k (f ∷ fs) h = elim h [
  | inl same ↦ (f, inl refl, same)
  | inr later ↦ (let r = flag_member k fs later in (r.0, inr r.1, r.2))
]

entry_at_key : (q : FileId) (e : FileId × Entry) (es : List (FileId × Entry)) (t : Bool) → is_same_file q e.0 ≡ t → (q ≡ e.0) ⊎ ((x : Entry) × (lookup (is_at (file_cmp q)) es ≡ Some x))
    → (x : Entry) × (cond t (Some e.1) (lookup (is_at (file_cmp q)) es) ≡ Some x)
entry_at_key q e es true is h = (e.1, refl)
entry_at_key q e es false is h = elim h [
  | inl same ↦ absurd (let z : false ≡ true = sym is ∙ ap (is_same_file q) (sym same) ∙ is_same_file-refl q in cc)
  | inr later ↦ later
]

entry_member : (k : Key) (es : List (FileId × Entry)) → Among k (entry_keys (keys_of es))
    → (q : FileId) × (k ≡ key.Entry q) × ((x : Entry) × (lookup (is_at (file_cmp q)) es ≡ Some x))
entry_member k [] h = absurd h
entry_member k (e ∷ es) h = elim h [
  | inl same ↦ (e.0, same, entry_at_key e.0 e es (is_same_file e.0 e.0) refl (inl refl))
  | inr later ↦ (let r = entry_member k es later in (r.0, r.1, entry_at_key r.0 e es (is_same_file r.0 e.0) refl (inr r.2)))
]

head_member : (k : Key) (vs : List VersionValue) → Among k (head_keys vs) → IsKeyOf vs k
head_member k [] h = absurd h
head_member k (v ∷ vs) h = elim h [
  | inl same ↦ (v, inl refl, same)
  | inr later ↦ (let r = head_member k vs later in (r.0, inr r.1, r.2))
]

module _ (a : Store) (f : FileId) where
  named_by : (k : Key) (o : Option InodeValue) → known a.names f ≡ o → Among k (name_keys o) → NameHas a.names f k
  named_by k None e h = absurd h
  named_by k (Some x) e h = elim h [
    | inl place ↦ subst (λ (q : Key). NameHas a.names f q) (sym place) tt
    | inr more ↦ elim (among_parts k (flag_keys x.own.flags) (entry_keys (keys_of x.entries)) more) [
      | inl flag ↦ (
          let r = flag_member k x.own.flags flag in
          let there = member_found r.0 x.own.flags r.1 in
          subst (λ (q : Key). NameHas a.names f q) (sym r.2)
          (there.0, ap (λ (o : Option InodeValue). flag_of (or_blank f (own_of o)).flags r.0.server) e ∙ there.1))
      | inr child ↦ (
          let r = entry_member k x.entries child in
          subst (λ (q : Key). NameHas a.names f q) (sym r.1)
          (r.2.0, ap (λ (o : Option InodeValue). entry_in r.0 o) e ∙ r.2.1))
    ]
  ]

  headed : (k : Key) → IsKeyOf (content_of a f).heads k → HasCell a f k
  headed k is =
      let h = head_cell (content_of a f).heads k is in
      let own : key.Version h.0.head.stamp ≡ k = sym h.2 in
      let c = head_cell (content_of a f).heads (key.Version h.0.head.stamp) (is.0, is.1, own ∙ is.2) in
      subst (HasCell a f) own (cell.Version c.0, ap version_cell c.1)

  -- of names, or a head
  pub key_has : (k : Key) → Among k (keys a f) → HasCell a f k
  key_has k h = elim (among_parts k (name_keys (known a.names f)) (head_keys (content_of a f).heads) h) [
    | inl name ↦ name_cell a f k (named_by k (known a.names f) refl name)
    | inr head ↦ headed k (head_member k (content_of a f).heads head)
  ]

-- ---- the keys of an edge that is made

each_by : (old : List (Key × ℕ)) (q : Key) (t : ℕ) (k : Key) (g : ℕ) (same : Bool) → is_same_key k q ≡ same → cond same (Some t) (tag_in old k) ≡ Some g
    → (tag_in old k ≡ Some g) ⊎ (k ≡ q)
each_by old q t k g true is h = inr (is_same_key-true k q is)
each_by old q t k g false is h = inl h

each_touched : (old : List (Key × ℕ)) (ks : List Key) (t : ℕ) (k : Key) (g : ℕ) → tag_in (touch_each old ks t) k ≡ Some g → (tag_in old k ≡ Some g) ⊎ Among k ks
each_touched old [] t k g h = inl h
each_touched old (q ∷ ks) t k g h = elim (each_touched (insert_entry key_cmp old q t) ks (t + 1) k g h) [
  | inl was ↦ elim (each_by old q t k g (is_same_key k q) refl (sym (tag_in-insert old q t k) ∙ was)) [ inl old ↦ inl old | inr same ↦ inr (inl same) ]
  | inr later ↦ inr (inr later)
]

born_by : (e : Edge) (b : ℕ) (k : Key) (g : ℕ) (t : Bool) → tag_of (option_map (λ keys. tag_in keys k) (cond t (Some e.keys) None)) ≡ Some g → tag_in e.keys k ≡ Some g
born_by e b k g true h = h
born_by e b k g false h = absurd (none-some g h)

module _ (es : List Edge) (peer birth : ℕ) (ks : List Key) (tags : ℕ) where
  abbrev New : Edge
  New = new_edge peer birth ks tags

  put_by : (p b : ℕ) (k : Key) (g : ℕ) (t : Bool) → tag_of (option_map (λ keys. tag_in keys k) (keys_if_born (cond t (Some New) (edge_to es p)) b)) ≡ Some g
      → (tag_at es p b k ≡ Some g) ⊎ Among k ks
  put_by p b k g false h = inl h
  put_by p b k g true h = elim (each_touched [] ks tags k g (born_by New b k g (birth == b) h)) [ inl none ↦ absurd (none-some g none) | inr there ↦ inr there ]

  put_brings : (p b : ℕ) (k : Key) (g : ℕ) → tag_at (put_edge es New) p b k ≡ Some g → (tag_at es p b k ≡ Some g) ⊎ Among k ks
  put_brings p b k g h =
      put_by p b k g (peer == p)
      (sym (ap (λ (o : Option Edge). tag_of (option_map (λ keys. tag_in keys k) (keys_if_born o b))) (edge_to-put_edge es New p)) ∙ h)

  pub link_brings : (p b : ℕ) (k : Key) (g : ℕ) → tag_at (linked es peer birth ks tags) p b k ≡ Some g → (tag_at es p b k ≡ Some g) ⊎ Among k ks
  link_brings p b k g =
      chosen (λ (zs : List Edge). tag_at zs p b k ≡ Some g → (tag_at es p b k ≡ Some g) ⊎ Among k ks) (makes_edge es peer birth) (put_edge es New) es
      (put_brings p b k g) (λ h. inl h)

-- ---- edges are made and go

link_by : (a : Store) (f : FileId) (peer birth : ℕ) (o : Option Replica) → replica_at a f ≡ o → AllHaveCells a
    → AllHaveCells (with_drawn a (length (keys a f)) (replicas_linked a.replicas f peer birth (keys a f) a.tags o))
link_by a f peer birth None e k = beside_have a (with_drawn a (length (keys a f)) a.replicas) refl (λ g r h. h) k
link_by a f peer birth (Some x) e k =
    let y = with_link x peer birth (keys a f) a.tags in
    let b = with_drawn a (length (keys a f)) (replicas_linked a.replicas f peer birth (keys a f) a.tags (Some x)) in
    let ch : Changes a b f x y = record { old = e; replicas = refl } in
    let same = same_content a b f x y ch (λ g r h. h) refl in
    one_changed a b f x y ch (λ g r h. h) refl
    (λ p i r g h. elim (link_brings x.edges peer birth (keys a f) a.tags p i r g h) [
      | inl old ↦ inl old
      | inr new ↦ inr (cell_stays a b f (λ q h. h) (same f) r (key_has a f r new))
    ]) k

pub link_have : (a : Store) (f : FileId) (peer birth : ℕ) → AllHaveCells a → AllHaveCells (link a f peer birth)
link_have a f peer birth k =
    chosen AllHaveCells (is_new_link a f peer birth) (put_link a f peer birth) a (link_by a f peer birth (replica_at a f) refl k) k

abbrev without_link : Store → FileId → ℕ → ℕ → Option Replica → Store
without_link a f peer birth o = record a { replicas = replicas_unlinked a.replicas f peer birth o }

unlink_by : (a : Store) (f : FileId) (peer birth : ℕ) (o : Option Replica) → replica_at a f ≡ o → AllHaveCells a → AllHaveCells (without_link a f peer birth o)
unlink_by a f peer birth None e k = k
unlink_by a f peer birth (Some x) e k =
    let y = with_unlink x peer birth in
    let b = without_link a f peer birth (Some x) in
    let ch : Changes a b f x y = record { old = e; replicas = refl } in
    one_changed a b f x y ch (λ g r h. h) refl
    (λ p i r g h. elim (keeps_or_brings (Unlink peer birth) x.edges p i r g h) [ inl old ↦ inl old | inr none ↦ absurd none ]) k

pub unlink_have : (a : Store) (f : FileId) (peer birth : ℕ) → AllHaveCells a → AllHaveCells (unlink a f peer birth)
unlink_have a f peer birth k =
    chosen AllHaveCells (is_linked a f peer birth) (without_link a f peer birth (replica_at a f)) a (unlink_by a f peer birth (replica_at a f) refl k) k

abbrev with_answer : Store → FileId → Link → Key → ℕ → Option Replica → Store
with_answer a f link q tag o = record a { replicas = replicas_acked a.replicas f link q tag o }

acked_here : (a : Store) (f : FileId) (link : Link) (q : Key) (tag : ℕ) (x : Replica) → replica_at a f ≡ Some x → AllHaveCells a
    → AllHaveCells (record a { replicas = put_replica a.replicas f (with_ack x link.peer link.birth q tag) })
acked_here a f link q tag x e k =
    let y = with_ack x link.peer link.birth q tag in
    let b = record a { replicas = put_replica a.replicas f y } in
    let ch : Changes a b f x y = record { old = e; replicas = refl } in
    one_changed a b f x y ch (λ g r h. h) refl
    (λ p i r g h. elim (keeps_or_brings (Ack link.peer link.birth q tag) x.edges p i r g h) [ inl old ↦ inl old | inr none ↦ absurd none ]) k

acked_by : (a : Store) (f : FileId) (link : Link) (q : Key) (tag : ℕ) (o : Option Replica) → replica_at a f ≡ o → AllHaveCells a → AllHaveCells (with_answer a f link q tag o)
acked_by a f link q tag None e k = k
acked_by a f link q tag (Some x) e k =
    chosen (λ (rs : ByFile). AllHaveCells (record a { replicas = rs })) (has_edge x link) (put_replica a.replicas f (with_ack x link.peer link.birth q tag)) a.replicas
    (acked_here a f link q tag x e k) k

pub acknowledged_have : (a : Store) (f : FileId) (link : Link) (q : Key) (tag : ℕ) → AllHaveCells a → AllHaveCells (acknowledge a f link q tag)
acknowledged_have a f link q tag k = acked_by a f link q tag (replica_at a f) refl k

-- ---- one more delta is kept

abbrev with_one_more : Store → FileId → KeptDelta → Option Replica → Store
with_one_more a f d o = record a { replicas = replicas_keeping a.replicas f d o }

kept_by : (a : Store) (f : FileId) (d : KeptDelta) (o : Option Replica) → replica_at a f ≡ o → AllHaveCells a → AllHaveCells (with_one_more a f d o)
kept_by a f d None e k = k
kept_by a f d (Some x) e k =
    let y = with_kept x d in
    let b = with_one_more a f d (Some x) in
    let ch : Changes a b f x y = record { old = e; replicas = refl } in
    one_changed a b f x y ch (λ g r h. h) refl (λ p i r g h. inl h) k

pub kept_have : (a : Store) (f : FileId) (d : KeptDelta) → AllHaveCells a → AllHaveCells (keep_delta a f d)
kept_have a f d k = kept_by a f d (replica_at a f) refl k
