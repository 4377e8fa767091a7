-- Each key on an edge has a cell, whatever names come to a server and whichever edges are made.
use Rattle.std.proofs.Common.{ℕ, ◌≡◌, Bool, true, false, List, [], ◌∷◌, Option, None, Some, refl, sym, ap, subst, ◌∙◌, inl, inr, ◌⊎◌}
use Rattle.std.specs.BTreeMap.{is_at}
use Rattle.std.specs.Map.{lookup}
use Rattle.std.proofs.lemmas.Option.{none-some}
use Rattle.law_frame.specs.pg_run.pg_base.declared.id.FileId.{FileId}
use Rattle.law_frame.specs.pg_run.pg_base.Id.{file_cmp}
use Rattle.law_frame.specs.pg_run.pg_base.Version.{VersionValue}
use Rattle.law_frame.specs.pg_run.pg_content.Content.{ContentValue}
use Rattle.law_frame.specs.pg_run.pg_edges.declared.key.Key.{Key}
use Rattle.law_frame.specs.pg_run.pg_edges.declared.key.Key.TheVariants as key
use Rattle.law_frame.specs.pg_run.pg_edges.declared.edge.Edge.{Edge}
use Rattle.law_frame.specs.pg_run.pg_edges.Edges.{tag_at}
use Rattle.law_frame.specs.pg_run.pg_edges.Laws.Change.{Touch}
use Rattle.law_frame.proofs.pg_run.pg_edges.Tags.{keeps_or_brings}
use Rattle.law_frame.specs.pg_run.pg_entries.declared.cell.Cell.{Cell}
use Rattle.law_frame.specs.pg_run.pg_entries.declared.cell.Cell.TheVariants as cell
use Rattle.law_frame.specs.pg_run.pg_entries.declared.entry.Entry.{Entry}
use Rattle.law_frame.specs.pg_run.pg_house.Facts.{IsIn}
use Rattle.law_frame.specs.pg_run.pg_msg.declared.work.Touched.{Touched}
use Rattle.law_frame.specs.pg_run.pg_names.declared.attributes.Attributes.{Attributes}
use Rattle.law_frame.specs.pg_run.pg_names.Names.{InodeValue, NamesValue, cell_at as entry_at, is_entry_new, is_flag_new, join_entry, join_flag, join_place, known, or_blank, own_at, own_of, own_or_blank, raise, remove_server, with_place}
use Rattle.law_frame.proofs.pg_run.pg_names.Lookups.{flag_same, joined_same, known_absent, own_with_flag}
use Rattle.law_frame.specs.pg_run.pg_register.declared.flag.Flag.{Flag}
use Rattle.law_frame.specs.pg_run.pg_register.declared.place.Place.{Place}
use Rattle.law_frame.specs.pg_run.pg_register.Flag.{flag_of}
use Rattle.law_frame.specs.pg_run.pg_register.Flag as flags
use Rattle.law_frame.specs.pg_run.pg_replica.declared.replica.Replica.{Replica}
use Rattle.law_frame.specs.pg_run.pg_replica.Replica.{cell_at as head_at, with_touch}
use Rattle.law_frame.specs.pg_run.pg_replica.Replicas.{edge_count, or_nothing, replicas_touched}
use Rattle.law_frame.specs.pg_run.pg_store.declared.store.Store.{Store}
use Rattle.law_frame.specs.pg_run.pg_store.Cells.{cell_at, entry_cell, flag_cell, is_sure, version_cell}
use Rattle.law_frame.specs.pg_run.pg_store.Store.{content_of, is_newer_entry, is_newer_flag, is_newer_place, put_entry, put_flag, put_place, replica_at, take_entry, take_flag, take_place, touch, with_drawn, with_names}
use Rattle.law_frame.specs.pg_run.pg_cells.Settling.{touch_all}
use Rattle.law_frame.specs.pg_run.theory_flood_pieces.Names.{AreNamesUpTo, IsEntryKnownBy}
use Rattle.law_frame.proofs.pg_run.theory_flood_pieces.Choices.{chosen, decided}
use Rattle.law_frame.proofs.pg_run.theory_flood_pieces.Flags.{flag_there}
use Rattle.law_frame.proofs.pg_run.theory_flood_pieces.Growth.{entry_grows, flag_grows, place_grows}
use Rattle.law_frame.proofs.pg_run.theory_flood_pieces.Stores.{Changes, by_file}
use Rattle.law_ticks.proofs.Keyed.{NameHas, known_up}

-- ---- cells

abbrev pub HasCell : Store → FileId → Key → Type 0
HasCell a f q = (c : Cell) × (cell_at a f q ≡ Some c)

-- the keys of these edges have cells at a server
abbrev pub HaveCells : Store → FileId → List Edge → Type 0
HaveCells a f es = (p b : ℕ) (q : Key) (g : ℕ) → tag_at es p b q ≡ Some g → HasCell a f q

abbrev pub HaveIn : Store → FileId → Option Replica → Type 0
HaveIn a f None = Unit {0}
HaveIn a f (Some x) = HaveCells a f x.edges

-- of every replica
pub record AllHaveCells (a : Store) : Type 0 where
  pub each : (f : FileId) → HaveIn a f (replica_at a f)

pub flag_named : (o : Option Flag) (c : Cell) → flag_cell o ≡ Some c → (f : Flag) × (o ≡ Some f)
flag_named None c h = absurd (none-some c h)
flag_named (Some f) c h = (f, refl)

pub entry_named : (o : Option Entry) (sure : Bool) (c : Cell) → entry_cell o sure ≡ Some c → (e : Entry) × (o ≡ Some e)
entry_named None sure c h = absurd (none-some c h)
entry_named (Some e) sure c h = (e, refl)

pub version_named : (o : Option VersionValue) (c : Cell) → version_cell o ≡ Some c → (v : VersionValue) × (o ≡ Some v)
version_named None c h = absurd (none-some c h)
version_named (Some v) c h = (v, refl)

-- a name's key has a cell where one is known
pub name_cell : (a : Store) (f : FileId) (q : Key) → NameHas a.names f q → HasCell a f q
name_cell a f key.Place h = (cell.Place (own_or_blank a.names f).place, refl)
name_cell a f (key.Flag m) h = (cell.Flag h.0, ap flag_cell h.1)
name_cell a f (key.Entry g) h = (cell.Entry h.0 (is_sure a f g), ap (λ (o : Option Entry). entry_cell o (is_sure a f g)) h.1)
name_cell a f (key.Version stamp) h = absurd h

abbrev pub NamesStay : NamesValue → NamesValue → Type 0
NamesStay s t = (f : FileId) (k : Key) → NameHas s f k → NameHas t f k

-- names have grown, and contents are the same
pub cell_stays : (a b : Store) (f : FileId) → ((k : Key) → NameHas a.names f k → NameHas b.names f k) → content_of b f ≡ content_of a f → (q : Key) → HasCell a f q → HasCell b f q
cell_stays a b f up same key.Place h = (cell.Place (own_or_blank b.names f).place, refl)
cell_stays a b f up same (key.Flag m) h = name_cell b f (key.Flag m) (up (key.Flag m) (flag_named (flag_of (own_or_blank a.names f).flags m) h.0 h.1))
cell_stays a b f up same (key.Entry g) h = name_cell b f (key.Entry g) (up (key.Entry g) (entry_named (entry_at a.names f g) (is_sure a f g) h.0 h.1))
cell_stays a b f up same (key.Version stamp) h =
    (h.0, ap (λ (c : ContentValue). version_cell (head_at c.heads (key.Version stamp))) same ∙ h.1)

entry_up : (o p : Option Entry) → IsEntryKnownBy o p → (e : Entry) → o ≡ Some e → (g : Entry) × (p ≡ Some g)
entry_up None p up e h = absurd (none-some e h)
entry_up (Some a) None up e h = absurd up
entry_up (Some a) (Some b) up e h = (b, refl)

pub names_stay : (s t : NamesValue) → AreNamesUpTo s t → NamesStay s t
names_stay s t up f key.Place h = tt
names_stay s t up f (key.Flag m) h = known_up (flag_of (own_or_blank s f).flags m) (flag_of (own_or_blank t f).flags m) (up.flags f m) h.0 h.1
names_stay s t up f (key.Entry g) h = entry_up (entry_at s f g) (entry_at t f g) (up.entries f g) h.0 h.1
names_stay s t up f (key.Version stamp) h = absurd h

pub raised_up : (s : NamesValue) (time : ℕ) → NamesStay s (raise s time)
raised_up s time f key.Place h = tt
raised_up s time f (key.Flag m) h = h
raised_up s time f (key.Entry g) h = h
raised_up s time f (key.Version stamp) h = absurd h

pub removed_up : (s : NamesValue) (server : ℕ) → NamesStay s (remove_server s server)
removed_up s server f key.Place h = tt
removed_up s server f (key.Flag m) h = h
removed_up s server f (key.Entry g) h = h
removed_up s server f (key.Version stamp) h = absurd h

-- ---- no replica changes

pub have_in : (a b : Store) (f : FileId) (o : Option Replica) → ((q : Key) → HasCell a f q → HasCell b f q) → HaveIn a f o → HaveIn b f o
have_in a b f None up k = tt
have_in a b f (Some x) up k = λ p i q g h. up q (k p i q g h)

-- names may grow, and all that stands beside may be another
pub beside_have : (a b : Store) → b.replicas ≡ a.replicas → NamesStay a.names b.names → AllHaveCells a → AllHaveCells b
beside_have a b same up k = record {
  each = λ f.
      let at : replica_at b f ≡ replica_at a f = ap (lookup (is_at (file_cmp f))) same in
      let content : content_of b f ≡ content_of a f = ap (λ (o : Option Replica). (or_nothing o).content) at in
      subst (HaveIn b f) (sym at) (have_in a b f (replica_at a f) (cell_stays a b f (up f) content) (k.each f));
}

pub named_have : (a : Store) (names : NamesValue) → NamesStay a.names names → AllHaveCells a → AllHaveCells (with_names a names)
named_have a names up k = beside_have a (with_names a names) refl up k

-- ---- one replica changes, but not its content

module _ (a b : Store) (f : FileId) (x y : Replica) (ch : Changes a b f x y) (up : NamesStay a.names b.names) (content : y.content ≡ x.content) where
  pub same_content : (g : FileId) → content_of b g ≡ content_of a g
  same_content =
      by_file (λ g o. (or_nothing o).content ≡ content_of a g) a b f x y ch
      (content ∙ sym (ap (λ (o : Option Replica). (or_nothing o).content) ch.old)) (λ g apart. refl)

  pub one_changed : ((p i : ℕ) (q : Key) (g : ℕ) → tag_at y.edges p i q ≡ Some g → (tag_at x.edges p i q ≡ Some g) ⊎ HasCell b f q)
      → AllHaveCells a → AllHaveCells b
  one_changed tags k =
      let old : HaveIn a f (Some x) = subst (HaveIn a f) ch.old (k.each f) in
      record {
        each = by_file (λ g o. HaveIn b g o) a b f x y ch
            (λ p i q g h. elim (tags p i q g h) [
              | inl was ↦ cell_stays a b f (up f) (same_content f) q (old p i q g was)
              | inr has ↦ has
            ])
            (λ g apart. have_in a b g (replica_at a g) (cell_stays a b g (up g) (same_content g)) (k.each g));
      }

-- ---- a key is touched

touch_by : (a : Store) (f : FileId) (q : Key) (o : Option Replica) → replica_at a f ≡ o → HasCell a f q → AllHaveCells a
    → AllHaveCells (with_drawn a (edge_count o) (replicas_touched a.replicas f q a.tags o))
touch_by a f q None e has k = beside_have a (with_drawn a 0 a.replicas) refl (λ g r h. h) k
touch_by a f q (Some x) e has k =
    let y = with_touch x q a.tags in
    let b = with_drawn a (edge_count (Some x)) (replicas_touched a.replicas f q a.tags (Some x)) in
    let ch : Changes a b f x y = record { old = e; replicas = refl } in
    let same = same_content a b f x y ch (λ g r h. h) refl in
    one_changed a b f x y ch (λ g r h. h) refl
    (λ p i r g h. elim (keeps_or_brings (Touch q a.tags) x.edges p i r g h) [
      | inl old ↦ inl old
      | inr new ↦ inr (subst (HasCell b f) (sym new.0) (cell_stays a b f (λ r h. h) (same f) q has))
    ]) k

pub touch_have : (a : Store) (f : FileId) (q : Key) → HasCell a f q → AllHaveCells a → AllHaveCells (touch a f q)
touch_have a f q has k = touch_by a f q (replica_at a f) refl has k

-- a touch leaves names, so it leaves their cells
pub touches_have : (a : Store) (ts : List Touched) → ((x : Touched) → IsIn x ts → NameHas a.names x.file x.key) → AllHaveCells a → AllHaveCells (touch_all a ts)
touches_have a [] has k = k
touches_have a (t ∷ ts) has k =
    touches_have (touch a t.file t.key) ts (λ x h. has x (inr h))
    (touch_have a t.file t.key (name_cell a t.file t.key (has t (inl refl))) k)

-- ---- what comes

place_by : (a : Store) (f : FileId) (place : Place) (o : Option Attributes) → own_at a.names f ≡ o → AllHaveCells a → AllHaveCells (put_place a f place)
place_by a f place None e k =
    let names = raise (join_place a.names f place) place.stamp.time in
    let b = with_names a names in
    let up : NamesStay a.names names = λ g q h. raised_up (join_place a.names f place) place.stamp.time g q (subst (λ (s : NamesValue). NameHas s g q) (sym (known_absent a.names f (with_place place) e)) h) in
    touch_have b f key.Place (cell.Place (own_or_blank names f).place, refl) (named_have a names up k)
place_by a f place (Some own) e k =
    let placed = join_place a.names f place in
    let names = raise placed place.stamp.time in
    let b = with_names a names in
    let up : NamesStay a.names names = λ g q h. raised_up placed place.stamp.time g q (names_stay a.names placed (place_grows a.names f own e place) g q h) in
    touch_have b f key.Place (cell.Place (own_or_blank names f).place, refl) (named_have a names up k)

pub place_have : (a : Store) (f : FileId) (place : Place) → AllHaveCells a → AllHaveCells (take_place a f place)
place_have a f place k =
    chosen AllHaveCells (is_newer_place a f place) (put_place a f place) a (place_by a f place (own_at a.names f) refl k) k

flag_by : (a : Store) (f : FileId) (flag : Flag) (o : Option Attributes) → own_at a.names f ≡ o → is_flag_new o flag ≡ true → AllHaveCells a → AllHaveCells (put_flag a f flag)
flag_by a f flag None e new k = absurd (let z : false ≡ true = new in cc)
flag_by a f flag (Some own) e new k =
    let names = join_flag a.names f flag in
    let b = with_names a names in
    let up : NamesStay a.names names = names_stay a.names names (flag_grows a.names f own e flag) in
    let is : own_or_blank names f ≡ own_with_flag flag own = ap (or_blank f) (flag_same a.names f flag own e) in
    let there = known_up (Some flag) (flag_of (flags.join_flag own.flags flag) flag.server) (flag_there own.flags flag) flag refl in
    let has : NameHas names f (key.Flag flag.server) = (there.0, ap (λ (x : Attributes). flag_of x.flags flag.server) is ∙ there.1) in
    touch_have b f (key.Flag flag.server) (name_cell b f (key.Flag flag.server) has) (named_have a names up k)

pub flag_have : (a : Store) (f : FileId) (flag : Flag) → AllHaveCells a → AllHaveCells (take_flag a f flag)
flag_have a f flag k =
    decided AllHaveCells (is_newer_flag a f flag) (put_flag a f flag) a (λ new. flag_by a f flag (own_at a.names f) refl new k) (λ old. k)

entry_by : (a : Store) (d : FileId) (e : Entry) (o : Option InodeValue) → known a.names d ≡ o → is_entry_new o e ≡ true → AllHaveCells a → AllHaveCells (put_entry a d e)
entry_by a d e None is new k = absurd (let z : false ≡ true = new in cc)
entry_by a d e (Some x) is new k =
    let held : own_at a.names d ≡ Some x.own = ap own_of is in
    let joined = join_entry a.names d e in
    let names = raise joined e.place.stamp.time in
    let b = with_names a names in
    let up : NamesStay a.names names = λ g q h. raised_up joined e.place.stamp.time g q (names_stay a.names joined (entry_grows a.names d x.own held e) g q h) in
    let has : NameHas names d (key.Entry e.child) = (_, joined_same a.names d x.own e held) in
    touch_have b d (key.Entry e.child) (name_cell b d (key.Entry e.child) has) (named_have a names up k)

pub entry_have : (a : Store) (d : FileId) (e : Entry) → AllHaveCells a → AllHaveCells (take_entry a d e)
entry_have a d e k =
    decided AllHaveCells (is_newer_entry a d e) (put_entry a d e) a (λ new. entry_by a d e (known a.names d) refl new k) (λ old. k)
