-- Each piece of an event leaves edges to other servers, names as the house rules ask, and just what
-- is held with a replica.
use Rattle.std.proofs.Common.{ℕ, ◌≡◌, Bool, true, false, cond, is_some, List, [], ◌∷◌, Option, None, Some, refl, sym, ap, subst, ◌∙◌, All}
use Rattle.std.specs.List.Sorted.{IsStrictlySortedBy}
use Rattle.std.specs.Map.{keys_of}
use Rattle.pg_base.specs.declared.id.FileId.{FileId}
use Rattle.pg_base.specs.declared.stamp.Stamp.{Stamp}
use Rattle.pg_base.specs.Id.{file_cmp}
use Rattle.pg_base.specs.Version.{VersionValue}
use Rattle.pg_base.proofs.Orders.{file_total}
use Rattle.pg_base.proofs.Entries.{All-insert_entry, IsStrictlySortedBy-insert_entry}
use Rattle.pg_patch.specs.Ranges.{RangesValue}
use Rattle.pg_edges.specs.declared.key.Key.{Key}
use Rattle.pg_edges.specs.declared.key.Key.TheVariants as key
use Rattle.pg_entries.specs.declared.entry.Entry.{Entry}
use Rattle.pg_cells.specs.pg_msg.declared.work.Touched.{Touched}
use Rattle.pg_cells.specs.pg_names.declared.attributes.Attributes.{Attributes}
use Rattle.pg_cells.specs.pg_names.Names.{InodeValue, NamesValue, is_dir, is_entry_new, is_flag_new, is_held, is_place_new, known, own_at, own_of, with_flag, with_joined, with_place}
use Rattle.pg_cells.proofs.pg_names.Lookups.{update_frame}
use Rattle.pg_register.specs.declared.flag.Flag.{Flag}
use Rattle.pg_register.specs.declared.place.Place.{Place}
use Rattle.pg_cells.specs.pg_replica.declared.link.Link.{Link}
use Rattle.pg_cells.specs.pg_replica.declared.replica.Replica.{Replica}
use Rattle.pg_edges.specs.Edges.{touched}
use Rattle.pg_cells.specs.pg_replica.Replica.{covered_heads, has_edge, keys, key_of, with_ack, without_keys}
use Rattle.pg_cells.specs.pg_replica.Replicas.{ByFile, put_replica, replica_in, replicas_acked, replicas_linked, replicas_taking, replicas_touched, replicas_unlinked, replicas_writing}
use Rattle.pg_cells.specs.pg_store.declared.store.Store.{Store}
use Rattle.pg_cells.specs.pg_store.Links.{is_linked, is_new_link, link, put_link, unlink}
use Rattle.pg_cells.specs.pg_store.Links as links
use Rattle.pg_cells.specs.pg_store.Seen.{server_of}
use Rattle.pg_cells.specs.pg_store.Store.{acknowledge, is_new_version, is_newer_entry, is_newer_flag, is_newer_place, put_entry, put_flag, put_place, put_version, replica_at, take_entry, take_flag, take_place, take_version, touch, with_names, write}
use Rattle.pg_cells.specs.pg_store.Together.{AreTogether}
use Rattle.pg_cells.proofs.pg_store.Pairs.{acknowledge_as_before, entry_as_before, flag_as_before, link_as_before, place_as_before, together_as_before, touch_as_before, unlink_as_before, version_as_before, write_as_before}
use Rattle.pg_cells.specs.Settling.{touch_all}
use Rattle.theory_flood_pieces.specs.Laws.{AreAlike}
use Rattle.theory_flood_pieces.specs.Whole.{AreEdges, AreOrderly, IsOther, IsWhole, PatchesAreForDirs}
use Rattle.theory_flood_pieces.proofs.Choices.{chosen, decided, found_replica}
use Rattle.theory_flood_pieces.proofs.Graphs.{edges_acked, edges_linked, edges_touched, edges_unlinked, edges_without}
use Rattle.theory_flood_pieces.proofs.Orderly.{orderly_entry, orderly_flag, orderly_place, orderly_raised}

-- ---- replicas

-- the edges of all replicas of server s of n
pub record AreGraphs (n s : ℕ) (rs : ByFile) : Type 0 where
  pub all : All (λ (r : FileId × Replica). AreEdges n s r.1.edges) rs
  pub order : IsStrictlySortedBy file_cmp (keys_of rs)

pub graphs_of : (n s : ℕ) (a : Store) → IsWhole n s a → AreGraphs n s a.replicas
graphs_of n s a k = record { all = k.replicas; order = k.order }

module _ (n s : ℕ) (rs : ByFile) (file : FileId) (k : AreGraphs n s rs) where
  pub graphs_put : (y : Replica) → AreEdges n s y.edges → AreGraphs n s (put_replica rs file y)
  graphs_put y edges = record {
    all = All-insert_entry file_cmp (λ (r : FileId × Replica). AreEdges n s r.1.edges) file y rs k.all edges (λ e t. edges);
    order = IsStrictlySortedBy-insert_entry file_cmp file_total file y rs k.order;
  }

  pub edges_at : (x : Replica) → replica_in rs file ≡ Some x → AreEdges n s x.edges
  edges_at x e = found_replica (λ z. AreEdges n s z.edges) file x rs k.all e

  pub graphs_touched : (q : Key) (t : ℕ) (o : Option Replica) → replica_in rs file ≡ o → AreGraphs n s (replicas_touched rs file q t o)
  graphs_touched q t None e = k
  graphs_touched q t (Some x) e = graphs_put _ (edges_touched n s q x.edges t (edges_at x e))

  news_edges : (x : Replica) (q : Key) (gone : List VersionValue) (t : ℕ) → replica_in rs file ≡ Some x → AreEdges n s (touched (without_keys x.edges (keys gone)) q t)
  news_edges x q gone t e = edges_touched n s q (without_keys x.edges (keys gone)) t (edges_without n s x.edges (keys gone) (edges_at x e))

  pub graphs_taking : (v : VersionValue) (t : ℕ) (o : Option Replica) → replica_in rs file ≡ o → AreGraphs n s (replicas_taking rs file v t o)
  graphs_taking v t None e = k
  graphs_taking v t (Some x) e = graphs_put _ (news_edges x (key_of v) (covered_heads x.content.heads v) t e)

  pub graphs_writing : (stamp : Stamp) (ranges : RangesValue) (t : ℕ) (o : Option Replica) → replica_in rs file ≡ o → AreGraphs n s (replicas_writing rs file stamp ranges t o)
  graphs_writing stamp ranges t None e = k
  graphs_writing stamp ranges t (Some x) e = graphs_put _ (news_edges x (key.Version stamp) x.content.heads t e)

  pub graphs_linked : (peer birth : ℕ) (ks : List Key) (t : ℕ) → IsOther n s peer → (o : Option Replica) → replica_in rs file ≡ o → AreGraphs n s (replicas_linked rs file peer birth ks t o)
  graphs_linked peer birth ks t other None e = k
  graphs_linked peer birth ks t other (Some x) e = graphs_put _ (edges_linked n s x.edges peer birth ks t other (edges_at x e))

  pub graphs_unlinked : (peer birth : ℕ) (o : Option Replica) → replica_in rs file ≡ o → AreGraphs n s (replicas_unlinked rs file peer birth o)
  graphs_unlinked peer birth None e = k
  graphs_unlinked peer birth (Some x) e = graphs_put _ (edges_unlinked n s x.edges peer birth (edges_at x e))

  pub graphs_acked : (l : Link) (q : Key) (g : ℕ) (o : Option Replica) → replica_in rs file ≡ o → AreGraphs n s (replicas_acked rs file l q g o)
  graphs_acked l q g None e = k
  graphs_acked l q g (Some x) e =
      let y = with_ack x l.peer l.birth q g in
      chosen (AreGraphs n s) (has_edge x l) (put_replica rs file y) rs (graphs_put y (edges_acked n s x.edges l.peer l.birth q g (edges_at x e))) k

-- ---- a server

pub whole_by : (n s : ℕ) (a b : Store) → IsWhole n s a → server_of b ≡ server_of a → b.servers ≡ a.servers → AreOrderly b.names → AreGraphs n s b.replicas → AreTogether b → PatchesAreForDirs b
    → IsWhole n s b
whole_by n s a b k server servers own graphs both patches = record {
  server = server ∙ k.server;
  servers = servers ∙ k.servers;
  names = own;
  replicas = graphs.all;
  order = graphs.order;
  together = both;
  patches = patches;
}

module _ (n s : ℕ) (a : Store) (k : IsWhole n s a) where
  -- ---- keys are touched

  pub whole_touch : (file : FileId) (q : Key) → IsWhole n s (touch a file q)
  whole_touch file q =
      whole_by n s a (touch a file q) k refl refl k.names
      (graphs_touched n s a.replicas file (graphs_of n s a k) q a.tags (replica_at a file) refl)
      (together_as_before a (touch a file q) (touch_as_before a file q) k.together) k.patches

  -- ---- names change, and just the same is held

  pub whole_names : (other : NamesValue) → other.server ≡ server_of a → AreOrderly other → ((f : FileId) → is_held other f ≡ is_held a.names f) → IsWhole n s (with_names a other)
  whole_names other server own held =
      whole_by n s a (with_names a other) k server refl own (graphs_of n s a k) (λ f. k.together f ∙ sym (held f)) k.patches

  -- ---- a place, a flag, an entry

  -- what is together where a choice went this way
  chosen_so : (b c : Store) (t : Bool) → t ≡ true → b ≡ cond t c a → AreTogether b → AreTogether c
  chosen_so b c true h e both = subst AreTogether e both
  chosen_so b c false h e both = absurd (let z : false ≡ true = h in cc)

  place_own : (o : Option Attributes) (place : Place) → is_place_new o place ≡ true → (own : Attributes) × (o ≡ Some own)
  place_own None place h = absurd (let z : false ≡ true = h in cc)
  place_own (Some own) place h = (own, refl)

  pub whole_place : (f : FileId) (place : Place) → IsWhole n s (take_place a f place)
  whole_place f place = decided (IsWhole n s) (is_newer_place a f place) (put_place a f place) a (λ new.
      let own = place_own (own_at a.names f) place new in
      whole_by n s a (put_place a f place) k (update_frame a.names f (with_place place)).server refl
      (orderly_place a.names f own.0 own.1 k.names place)
      (graphs_touched n s a.replicas f (graphs_of n s a k) key.Place a.tags (replica_at a f) refl)
      (chosen_so (take_place a f place) (put_place a f place) (is_newer_place a f place) new refl (together_as_before a (take_place a f place) (place_as_before a f place) k.together)) k.patches)
      (λ old. k)

  flag_own : (o : Option Attributes) (flag : Flag) → is_flag_new o flag ≡ true → (own : Attributes) × (o ≡ Some own)
  flag_own None flag h = absurd (let z : false ≡ true = h in cc)
  flag_own (Some own) flag h = (own, refl)

  pub whole_flag : (f : FileId) (flag : Flag) → IsWhole n s (take_flag a f flag)
  whole_flag f flag = decided (IsWhole n s) (is_newer_flag a f flag) (put_flag a f flag) a (λ new.
      let own = flag_own (own_at a.names f) flag new in
      whole_by n s a (put_flag a f flag) k (update_frame a.names f (with_flag flag)).server refl
      (orderly_flag a.names f own.0 own.1 k.names flag)
      (graphs_touched n s a.replicas f (graphs_of n s a k) (key.Flag flag.server) a.tags (replica_at a f) refl)
      (chosen_so (take_flag a f flag) (put_flag a f flag) (is_newer_flag a f flag) new refl (together_as_before a (take_flag a f flag) (flag_as_before a f flag) k.together)) k.patches)
      (λ old. k)

  entry_own : (o : Option InodeValue) (e : Entry) → is_entry_new o e ≡ true → (own : Attributes) × (own_of o ≡ Some own)
  entry_own None e h = absurd (let z : false ≡ true = h in cc)
  entry_own (Some x) e h = (x.own, refl)

  pub whole_entry : (d : FileId) (e : Entry) → is_dir d ≡ true → IsWhole n s (take_entry a d e)
  whole_entry d e dir = decided (IsWhole n s) (is_newer_entry a d e) (put_entry a d e) a (λ new.
      let own = entry_own (known a.names d) e new in
      whole_by n s a (put_entry a d e) k (update_frame a.names d (with_joined e)).server refl
      (orderly_entry a.names d own.0 own.1 dir k.names e)
      (graphs_touched n s a.replicas d (graphs_of n s a k) (key.Entry e.child) a.tags (replica_at a d) refl)
      (chosen_so (take_entry a d e) (put_entry a d e) (is_newer_entry a d e) new refl (together_as_before a (take_entry a d e) (entry_as_before a d e) k.together)) k.patches)
      (λ old. k)

  -- ---- versions

  pub whole_version : (f : FileId) (v : VersionValue) → IsWhole n s (take_version a f v)
  whole_version f v = decided (IsWhole n s) (is_new_version a f v) (put_version a f v) a (λ new.
      whole_by n s a (put_version a f v) k refl refl (orderly_raised a.names v.head.stamp.time k.names)
      (graphs_taking n s a.replicas f (graphs_of n s a k) v a.tags (replica_at a f) refl)
      (chosen_so (take_version a f v) (put_version a f v) (is_new_version a f v) new refl (together_as_before a (take_version a f v) (version_as_before a f v) k.together)) k.patches)
      (λ old. k)

  pub whole_write : (f : FileId) (stamp : Stamp) (ranges : RangesValue) → IsWhole n s (write a f stamp ranges)
  whole_write f stamp ranges =
      whole_by n s a (write a f stamp ranges) k refl refl (orderly_raised a.names stamp.time k.names)
      (graphs_writing n s a.replicas f (graphs_of n s a k) stamp ranges a.tags (replica_at a f) refl)
      (together_as_before a (write a f stamp ranges) (write_as_before a f stamp ranges) k.together) k.patches

  -- ---- edges

  pub whole_acknowledge : (f : FileId) (l : Link) (q : Key) (g : ℕ) → IsWhole n s (acknowledge a f l q g)
  whole_acknowledge f l q g =
      whole_by n s a (acknowledge a f l q g) k refl refl k.names
      (graphs_acked n s a.replicas f (graphs_of n s a k) l q g (replica_at a f) refl)
      (together_as_before a (acknowledge a f l q g) (acknowledge_as_before a f l q g) k.together) k.patches

  pub whole_link : (f : FileId) (peer birth : ℕ) → IsOther n s peer → IsWhole n s (link a f peer birth)
  whole_link f peer birth other = decided (IsWhole n s) (is_new_link a f peer birth) (put_link a f peer birth) a (λ new.
      whole_by n s a (put_link a f peer birth) k refl refl k.names
      (graphs_linked n s a.replicas f (graphs_of n s a k) peer birth (links.keys a f) a.tags other (replica_at a f) refl)
      (chosen_so (link a f peer birth) (put_link a f peer birth) (is_new_link a f peer birth) new refl (together_as_before a (link a f peer birth) (link_as_before a f peer birth) k.together)) k.patches)
      (λ old. k)

  abbrev without_link : FileId → ℕ → ℕ → Store
  without_link f peer birth = record a { replicas = replicas_unlinked a.replicas f peer birth (replica_at a f) }

  pub whole_unlink : (f : FileId) (peer birth : ℕ) → IsWhole n s (unlink a f peer birth)
  whole_unlink f peer birth = decided (IsWhole n s) (is_linked a f peer birth) (without_link f peer birth) a (λ there.
      whole_by n s a (without_link f peer birth) k refl refl k.names
      (graphs_unlinked n s a.replicas f (graphs_of n s a k) peer birth (replica_at a f) refl)
      (chosen_so (unlink a f peer birth) (without_link f peer birth) (is_linked a f peer birth) there refl (together_as_before a (unlink a f peer birth) (unlink_as_before a f peer birth) k.together)) k.patches)
      (λ none. k)

  -- ---- what the edges do not see

  pub whole_alike : (b : Store) → AreAlike a b → PatchesAreForDirs b → IsWhole n s b
  whole_alike b same patches =
      whole_by n s a b k (ap (λ (t : NamesValue). t.server) same.names) same.servers (subst AreOrderly (sym same.names) k.names)
      (subst (AreGraphs n s) (sym same.replicas) (graphs_of n s a k))
      (λ f. ap (λ rs. is_some (replica_in rs f)) same.replicas ∙ k.together f ∙ sym (ap (λ (t : NamesValue). is_held t f) same.names)) patches

pub whole_touches : (n s : ℕ) (a : Store) (ts : List Touched) → IsWhole n s a → IsWhole n s (touch_all a ts)
whole_touches n s a [] k = k
whole_touches n s a (t ∷ ts) k = whole_touches n s (touch a t.file t.key) ts (whole_touch n s a k t.file t.key)
