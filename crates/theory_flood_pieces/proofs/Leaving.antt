-- A replica goes, whose birth counts as over: what edges promise is kept, and the server stays
-- whole.
use Rattle.std.proofs.Common.{ℕ, ◌≡◌, ◌≤◌, true, false, cond, not, Option, None, Some, option_map, refl, ap, ◌∙◌, arith}
use Rattle.std.specs.BTreeMap.{is_at}
use Rattle.std.proofs.lemmas.List.Elements.{All-filter}
use Rattle.std.proofs.lemmas.Option.{none-some, same_Some}
use mathlib.Core.Path.{fun_ext}
use Rattle.pg_base.specs.declared.id.FileId.{FileId}
use Rattle.pg_base.specs.Id.{file_cmp, is_same_file}
use Rattle.pg_base.proofs.Orders.{is_same_file-refl}
use Rattle.pg_edges.specs.declared.key.Key.{Key}
use Rattle.theory_flood.specs.Server.{Replica as Seen}
use Rattle.theory_flood.proofs.Dropped.{drop_steps}
use Rattle.theory_flood.proofs.Servers.{OthersStay}
use Rattle.theory_flood.proofs.Steps.{Steps}
use Rattle.pg_entries.specs.declared.cell.Cell.{Cell}
use Rattle.pg_cells.specs.pg_names.Names.{InodeValue, entry_in, known, or_blank, own_of}
use Rattle.pg_cells.proofs.pg_names.Lookups.{apart_back}
use Rattle.pg_cells.specs.pg_replica.declared.replica.Replica.{Replica}
use Rattle.pg_cells.proofs.pg_replica.Going.{replica_behind}
use Rattle.pg_cells.proofs.pg_replica.Merging.{sorted_filter}
use Rattle.pg_cells.specs.pg_store.declared.store.Store.{Store}
use Rattle.pg_cells.specs.pg_store.Beginning.{let_go}
use Rattle.pg_cells.specs.pg_store.Store.{replica_at}
use Rattle.pg_cells.proofs.pg_store.Going.{cell_left, go_together, own_left}
use Rattle.pg_cells.proofs.pg_store.Over.{known_behind}
use Rattle.theory_flood_pieces.specs.Laws.{GoingsAreSteps}
use Rattle.theory_flood_pieces.specs.Seen.{Along, cells_in, see, seen}
use Rattle.theory_flood_pieces.specs.Whole.{AreEdges, AreOrderly, IsWhole}
use Rattle.theory_flood_pieces.proofs.Stores.{cell_same, content_same, plain_at}
use Rattle.theory_flood_pieces.proofs.Whole.{whole_by}

module _ (a : Store) (file : FileId) where
  abbrev Left : Store
  Left = let_go a file

  -- ---- it is a step

  left_here : replica_at Left file ≡ None
  left_here =
      replica_behind a.replicas file file ∙ ap (λ t. cond (not t) (replica_at a file) None) (is_same_file-refl file)

  left_elsewhere : (f : FileId) → is_same_file f file ≡ false → replica_at Left f ≡ replica_at a f
  left_elsewhere f apart =
      replica_behind a.replicas file f ∙ ap (λ t. cond (not t) (replica_at a f) None) (apart_back f file apart)

  known_elsewhere : (f : FileId) → is_same_file f file ≡ false → known Left.names f ≡ known a.names f
  known_elsewhere f apart =
      known_behind a file f ∙ ap (λ t. cond (not t) (known a.names f) None) (apart_back f file apart)

  other_cells : (f : FileId) → is_same_file f file ≡ false → plain_at Left f ≡ plain_at a f
  other_cells f apart = fun_ext (cell_same a Left f (record {
    own = ap (λ (o : Option InodeValue). or_blank f (own_of o)) (known_elsewhere f apart);
    entries = λ g. ap (λ (o : Option InodeValue). entry_in g o) (known_elsewhere f apart);
    content = content_same a Left f (left_elsewhere f apart);
  }))

  abbrev seen_with : Replica → (Key → Option Cell) → Seen Cell
  seen_with z cs = record { birth = z.birth; edges = z.edges; cells = cs }

  seen_same : (f : FileId) → is_same_file f file ≡ false → (o : Option Replica) → option_map (seen Left f) o ≡ option_map (seen a f) o
  seen_same f apart None = refl
  seen_same f apart (Some z) = ap (λ cs. Some (seen_with z cs)) (other_cells f apart)

  others : OthersStay (see a) (see Left) file
  others f apart = ap (option_map (seen Left f)) (left_elsewhere f apart) ∙ seen_same f apart (replica_at a f)

  left_steps : (along : Along) (x : Replica) → replica_at a file ≡ Some x → along.over file x.birth ≡ true → Steps (cells_in along) a Left
  left_steps along x here is =
      let up : a.tags ≤ a.tags = omega arith in
      drop_steps (cells_in along) a Left file (seen a file x) (ap (option_map (seen a file)) here)
      (ap (option_map (seen Left file)) left_here) up others
      (record { over = λ f n c h. h; taken = λ f n c h. tt }) (λ c h took. is)

  steps_by : (along : Along) (n : ℕ) (o : Option Replica) → replica_at a file ≡ o
      → option_map (λ (x : Replica). x.birth) o ≡ Some n → along.over file n ≡ true → Steps (cells_in along) a Left
  steps_by along n None here is counts = absurd (none-some n is)
  steps_by along n (Some x) here is counts =
      left_steps along x here (ap (along.over file) (same_Some x.birth n is) ∙ counts)

  -- ---- the server is whole

  left_orderly : AreOrderly a.names → AreOrderly Left.names
  left_orderly k = record {
    dirs = λ d g c h. k.dirs d g c (cell_left a file d g c h);
    sorted = λ f own h. k.sorted f own (own_left a file f own h);
    last = record {
      own = λ f own h. k.last.own f own (own_left a file f own h);
      cells = λ d g c h. k.last.cells d g c (cell_left a file d g c h);
    };
    children = λ d g c h. k.children d g c (cell_left a file d g c h);
  }

pub whole_gone : (n s : ℕ) (a : Store) (file : FileId) → IsWhole n s a → IsWhole n s (let_go a file)
whole_gone n s a file k =
    whole_by n s a (let_go a file) k refl refl (left_orderly a file k.names)
    (record {
      all = All-filter (λ (r : FileId × Replica). not (is_at (file_cmp file) r.0))
          (λ (r : FileId × Replica). AreEdges n s r.1.edges) a.replicas k.replicas;
      order = sorted_filter file_cmp (λ k. not (is_at (file_cmp file) k)) a.replicas k.order;
    })
    (go_together a file k.together) k.patches

-- A REPLICA GOES
pub go_steps : GoingsAreSteps
go_steps n s a file birth along k is counts = steps_by a file along birth (replica_at a file) refl is counts
