-- The start of a run: each server is whole, no tag stands, and all hold the same of the root.
use Rattle.std.proofs.Common.{ℕ, zero, suc, ◌≡◌, ◌≤◌, ◌==◌, Bool, true, false, cond, List, [], Option, None, Some, is_some, option_map, refl, sym, ap, subst, ◌∙◌, inl, arith}
use Rattle.std.specs.List.Sorted.{IsStrictlySortedBy}
use Rattle.std.specs.Map.{keys_of}
use Rattle.std.proofs.lemmas.Bool.{eqb-true}
use Rattle.std.proofs.lemmas.List.Elements.{All-nil}
use Rattle.std.proofs.lemmas.Option.{none-some, same_Some}
use Rattle.pg_base.specs.declared.id.FileId.{FileId}
use Rattle.pg_base.specs.Id.{file_cmp, is_same_file}
use Rattle.pg_edges.specs.declared.edge.Edge.{Edge}
use Rattle.pg_edges.specs.declared.key.Key.{Key}
use Rattle.pg_edges.specs.declared.key.Key.TheVariants as key
use Rattle.pg_edges.specs.Edges.{is_listed, keys_at, keys_if_born, put_edge}
use Rattle.pg_edges.proofs.Lookups.{puts}
use Rattle.theory_flood.specs.Laws.{IsClean}
use Rattle.theory_flood.specs.Protocol.{Covers, Has, KeepsEdges}
use Rattle.theory_flood.specs.Server.{Replica as Seen, Slot}
use Rattle.theory_flood.proofs.Servers.{has_none, has_parts, some_same}
use Rattle.theory_flood.proofs.Steps.{HasSoundTags}
use Rattle.theory_flood.proofs.Worlds.{clean_server, start_keeps}
use Rattle.pg_entries.specs.declared.cell.Cell.{Cell}
use Rattle.pg_entries.specs.declared.entry.Entry.{Entry}
use Rattle.pg_cells.specs.pg_names.declared.attributes.Attributes.{Attributes}
use Rattle.pg_cells.specs.pg_names.Names.{InodeValue, cell_at as entry_at, entry_in, own_at, own_of}
use Rattle.pg_register.specs.Flag.{IsByServer}
use Rattle.pg_register.specs.Place.{root}
use Rattle.pg_register.proofs.ByServer.{IsByServer-join_flag, IsByServer-nil}
use Rattle.pg_cells.specs.pg_replica.declared.replica.Replica.{Replica}
use Rattle.pg_cells.specs.pg_replica.Replica.{cell_at as head_at}
use Rattle.pg_cells.specs.pg_replica.Replicas.{or_nothing}
use Rattle.pg_cells.specs.pg_replica.Root.{clean_edge, clean_edges, first_root}
use Rattle.pg_cells.specs.pg_store.Cells.{version_cell}
use Rattle.pg_cells.specs.pg_store.Start.{first_flag, first_flags, first_names, root_own}
use Rattle.pg_cells.specs.pg_store.Store.{new_store}
use Rattle.pg_cells.proofs.pg_store.Pairs.{start_together}
use Rattle.theory_flood_pieces.specs.Seen.{cells, plain, seen}
use Rattle.theory_flood_pieces.specs.Whole.{AreOrderly, IsWhole}
use Rattle.theory_flood_pieces.proofs.Graphs.{clean_are, new_clean}
use Rattle.theory_flood_pieces.proofs.Stores.{plain_at}
use Rattle.theory_flood_pieces.proofs.UpTo.{cell_itself}
use Rattle.theory_flood_pieces.proofs.Whole.{AreGraphs, graphs_put}

-- ---- the root alone is held

abbrev pub Root : ℕ → InodeValue
Root n = record { full = true; own = root_own n; entries = [] }

pub no_entry : (n : ℕ) (g : FileId) (c : Entry) (t : Bool) → entry_in g (cond t (Some (Root n)) None) ≡ Some c → ⊥
no_entry n g c true h = none-some c h
no_entry n g c false h = none-some c h

root_own_by : (n : ℕ) (b : Attributes) (t : Bool) → own_of (cond t (Some (Root n)) None) ≡ Some b → b ≡ root_own n
root_own_by n b true h = sym (same_Some (root_own n) b h)
root_own_by n b false h = absurd (none-some b h)

first_own : (n s : ℕ) (f : FileId) (b : Attributes) → own_at (first_names n s) f ≡ Some b → b ≡ root_own n
first_own n s f b h = root_own_by n b (is_same_file f root) h

none_first : (n s : ℕ) (d g : FileId) (c : Entry) → entry_at (first_names n s) d g ≡ Some c → ⊥
none_first n s d g c h = no_entry n g c (is_same_file d root) h

pub first_sorted : (n : ℕ) → IsByServer (first_flags n)
first_sorted zero = IsByServer-nil
first_sorted (suc k) = IsByServer-join_flag (first_flag (suc k)) (first_flags k) (first_sorted k)

first_orderly : (n s : ℕ) → AreOrderly (first_names n s)
first_orderly n s =
    let P : Attributes → Type 0 = λ o. IsByServer o.flags in
    let Q : Attributes → Type 0 = λ o. o.place.stamp.time ≤ 0 in
    let zero_least : 0 ≤ 0 = omega arith in
    record {
      dirs = λ d g c h. absurd (none_first n s d g c h);
      sorted = λ f b h. subst P (sym (first_own n s f b h)) (first_sorted n);
      last = record { own = λ f b h. subst Q (sym (first_own n s f b h)) zero_least; cells = λ d g c h. absurd (none_first n s d g c h) };
      children = λ d g c h. absurd (none_first n s d g c h);
    }

abbrev NoReplicas : List (FileId × Replica)
NoReplicas = []

none_sorted : IsStrictlySortedBy file_cmp (keys_of NoReplicas)
unfolding IsStrictlySortedBy
none_sorted = tt

no_graphs : (n s : ℕ) → AreGraphs n s NoReplicas
no_graphs n s = record { all = All-nil _; order = none_sorted }

-- each server is whole
pub start_whole : (n s : ℕ) → IsWhole n s (new_store n s)
start_whole n s =
    let graphs = graphs_put n s NoReplicas root (no_graphs n s) (first_root s n) (clean_are n s) in
    record {
      server = refl;
      servers = refl;
      names = first_orderly n s;
      replicas = graphs.all;
      order = graphs.order;
      together = start_together n s;
      patches = λ dir e target k. absurd (let lt = k.1.0 in omega arith);
    }

-- ---- edges

clean_by : (n s : ℕ) (file : FileId) (x : Seen Cell) (t : Bool) → option_map (seen (new_store n s) file) (cond t (Some (first_root s n)) None) ≡ Some x → IsClean x.edges
clean_by n s file x true e = let P : Seen Cell → Type 0 = λ z. IsClean z.edges in subst P (some_same (seen (new_store n s) file (first_root s n)) x e) (new_clean n s)
clean_by n s file x false e = absurd (none-some x e)

start_clean : (n s : ℕ) (file : FileId) (x : Seen Cell) → (cells.see (new_store n s)).replicas file ≡ Some x → IsClean x.edges
start_clean n s file x e = clean_by n s file x (is_same_file file root) e

-- no tag stands
pub start_tags : (n s : ℕ) → HasSoundTags cells (new_store n s)
start_tags n s = clean_server cells (new_store n s) (start_clean n s)

-- the first births alone are listed
born_put : (es : List Edge) (m p b : ℕ) (t : Bool) → (p == m) ≡ t → (is_listed es p b ≡ true → b ≡ 1) → is_listed (put_edge es (clean_edge m)) p b ≡ true → b ≡ 1
born_put es m p b true e rest h =
    sym (eqb-true 1 b (born_at (1 == b)
    (sym (ap (λ (o : Option (List (Key × ℕ))). is_some o) (puts es (clean_edge m) p b)
    ∙ ap (λ c. is_some (cond c (keys_if_born (Some (clean_edge m)) b) (keys_at es p b))) e) ∙ h)))
  where
    born_at : (t : Bool) → is_some (cond t (Some (clean_edge m).keys) None) ≡ true → t ≡ true
    born_at true h = refl
    born_at false h = absurd (let z : false ≡ true = h in cc)
born_put es m p b false e rest h =
    rest (sym (ap (λ (o : Option (List (Key × ℕ))). is_some o) (puts es (clean_edge m) p b)
    ∙ ap (λ c. is_some (cond c (keys_if_born (Some (clean_edge m)) b) (keys_at es p b))) e) ∙ h)

born_more : (s k p b : ℕ) (t : Bool) → (is_listed (clean_edges s k) p b ≡ true → b ≡ 1)
    → is_listed (cond t (clean_edges s k) (put_edge (clean_edges s k) (clean_edge (suc k)))) p b ≡ true → b ≡ 1
born_more s k p b true rest h = rest h
born_more s k p b false rest h = born_put (clean_edges s k) (suc k) p b (p == suc k) refl rest h

pub first_born : (s k p b : ℕ) → is_listed (clean_edges s k) p b ≡ true → b ≡ 1
first_born s zero p b h = absurd (let z : false ≡ true = h in cc)
first_born s (suc k) p b h = born_more s k p b (suc k == s) (first_born s k p b) h

-- every server has the same cells
no_version : (n s t : ℕ) (q : Key) (b : Bool)
    → option_map plain (version_cell (head_at (or_nothing (cond b (Some (first_root t n)) None)).content.heads q))
    ≡ option_map plain (version_cell (head_at (or_nothing (cond b (Some (first_root s n)) None)).content.heads q))
no_version n s t q true = refl
no_version n s t q false = refl

same_cells : (n s t : ℕ) (f : FileId) (q : Key) → plain_at (new_store n t) f q ≡ plain_at (new_store n s) f q
same_cells n s t f key.Place = refl
same_cells n s t f (key.Flag m) = refl
same_cells n s t f (key.Entry g) = refl
same_cells n s t f (key.Version stamp) = no_version n s t (key.Version stamp) (is_same_file f root)

covers_by : (n s : ℕ) (q : Slot) (c : Cell) (t : Bool) → is_same_file q.file root ≡ t → Has cells (new_store n s) q c → Covers cells (new_store n q.peer) q c
covers_by n s q c false e h =
    absurd (has_none (cells.see (new_store n s)) q c (ap (λ b. option_map (seen (new_store n s) q.file) (cond b (Some (first_root s n)) None)) e) h)
covers_by n s q c true e h =
    let here = ap (λ b. option_map (seen (new_store n s) q.file) (cond b (Some (first_root s n)) None)) e in
    let t = has_parts (cells.see (new_store n s)) q c (seen (new_store n s) q.file (first_root s n)) here h in
    inl (
      record {
        replica = seen (new_store n q.peer) q.file (first_root q.peer n);
        is = ap (λ b. option_map (seen (new_store n q.peer) q.file) (cond b (Some (first_root q.peer n)) None)) e;
        other = sym (first_born s n q.peer q.birth t.1);
        holds = record { key = q.key; cell = c; is = same_cells n s q.peer q.file q.key ∙ t.2; upto = cell_itself c };
      },
      tt,
    )

-- THE EDGES KEEP WHAT THEY PROMISE AT THE START
pub start_kept : (n : ℕ) → KeepsEdges cells (new_store n) []
start_kept n = start_keeps cells (new_store n) (λ s q c h tag. covers_by n s q c (is_same_file q.file root) refl h) (λ s x h. h)
