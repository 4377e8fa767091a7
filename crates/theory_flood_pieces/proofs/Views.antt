-- A view is entered: edges to the server go, and intentions and wishes change; what edges promise
-- is kept, and the server stays whole.
use Rattle.std.proofs.Common.{ℕ, ◌≡◌, Bool, true, false, cond, List, [], ◌∷◌, Option, None, Some, refl}
use Rattle.std.specs.Map.{keys_of}
use Rattle.pg_base.specs.declared.id.FileId.{FileId}
use Rattle.theory_flood.proofs.Steps.{Steps, Steps-refl, Steps-trans}
use Rattle.pg_cells.specs.pg_intent.declared.key.IntentKey.{IntentKey}
use Rattle.pg_cells.specs.pg_intent.Intents.{aimed, ended, keys_to, turned, turned_each}
use Rattle.pg_cells.specs.pg_intent.Key.{is_for_peer}
use Rattle.pg_cells.specs.pg_names.Names.{remove_server}
use Rattle.pg_cells.specs.pg_store.declared.store.Store.{Store}
use Rattle.pg_cells.specs.pg_store.Beginning.{with_intents}
use Rattle.pg_cells.specs.pg_store.Links.{unlink}
use Rattle.pg_cells.specs.pg_store.Servers.{next_target}
use Rattle.pg_cells.specs.pg_store.Store.{with_names}
use Rattle.pg_cells.specs.pg_store.Views.{cut, cut_born, cut_each, enter, listed_birth, turn, with_removed}
use Rattle.theory_flood_pieces.specs.Laws.{AreAlike}
use Rattle.theory_flood_pieces.specs.Seen.{standing}
use Rattle.theory_flood_pieces.specs.Whole.{AreOrderly, IsWhole, PatchesAreForDirs}
use Rattle.theory_flood_pieces.proofs.Intents.{aimed_patches, ended_patches}
use Rattle.theory_flood_pieces.proofs.Linking.{alike_steps, unlink_steps}
use Rattle.theory_flood_pieces.proofs.Single.{same_steps}
use Rattle.theory_flood_pieces.proofs.Stores.{cell_same}
use Rattle.theory_flood_pieces.proofs.Whole.{whole_alike, whole_names, whole_unlink}

-- WHAT THE PIECES OF A VIEW KEEP, it keeps: one server more is removed, edges go, and what stands
-- beside names and replicas changes
module _ (P : Store → Type 0) (removed : (b : Store) (server : ℕ) → P b → P (with_removed b server))
    (unlinked : (b : Store) (file : FileId) (peer birth : ℕ) → P b → P (unlink b file peer birth))
    (beside : (b c : Store) → c.names ≡ b.names → c.replicas ≡ b.replicas → P b → P c) where
  cut_by : (server : ℕ) (b : Store) (file : FileId) (o : Option ℕ) → P b → P (cut_born server b file o)
  cut_by server b file None h = h
  cut_by server b file (Some birth) h = unlinked b file server birth h

  cuts_by : (server : ℕ) (files : List FileId) (b : Store) → P b → P (cut_each server b files)
  cuts_by server [] b h = h
  cuts_by server (file ∷ files) b h =
      cuts_by server files (cut server b file) (cut_by server b file (listed_birth b file server) h)

  pub enter_by : (a : Store) (server : ℕ) → P a → P (enter a server)
  enter_by a server h =
      let files = keys_of a.names.held in
      let b = cut_each server (with_removed a server) files in
      beside b (turn server (next_target b server) b) refl refl
      (cuts_by server files (with_removed a server) (removed a server h))

-- what the edges see of intentions that ask another server, and of wishes, is nothing
turn_alike : (server to : ℕ) (a : Store) → AreAlike a (turn server to a)
turn_alike server to a = record { servers = refl; tags = refl; names = refl; replicas = refl }

-- ---- what edges promise

removed_steps : (a : Store) (server : ℕ) → Steps standing a (with_removed a server)
removed_steps a server = same_steps a (with_removed a server) (record {
  tags = refl;
  files = λ f. record {
    replica = refl;
    cells = cell_same a (with_removed a server) f (record { own = refl; entries = λ g. refl; content = refl });
  };
})

module _ (server : ℕ) where
  cut_steps_by : (a : Store) (file : FileId) (o : Option ℕ) → Steps standing a (cut_born server a file o)
  cut_steps_by a file None = Steps-refl standing a
  cut_steps_by a file (Some birth) = unlink_steps a file server birth

  cuts_steps : (files : List FileId) (a : Store) → Steps standing a (cut_each server a files)
  cuts_steps [] a = Steps-refl standing a
  cuts_steps (file ∷ files) a =
      Steps-trans standing (cut_steps_by a file (listed_birth a file server)) (cuts_steps files (cut server a file))

-- A VIEW IS ENTERED
pub enter_steps : (a : Store) (server : ℕ) → Steps standing a (enter a server)
enter_steps a server =
    let files = keys_of a.names.held in
    let b = cut_each server (with_removed a server) files in
    let to = next_target b server in
    Steps-trans standing (removed_steps a server)
    (Steps-trans standing (cuts_steps server files (with_removed a server)) (alike_steps b (turn server to b) (turn_alike server to b)))

-- ---- a server stays whole

-- intentions that ask another server, or end, leave Patches for directories
turned_patches : (a : Store) (k : IntentKey) (to : ℕ) → PatchesAreForDirs a → PatchesAreForDirs (with_intents a (turned a.intents k to))
turned_patches a k to h = by (is_for_peer k)
  where
    by : (t : Bool) → PatchesAreForDirs (with_intents a (cond t (ended a.intents k) (aimed a.intents k to)))
    by true = ended_patches a k h
    by false = aimed_patches a k to h

turns_patches : (ks : List IntentKey) (a : Store) (to : ℕ) → PatchesAreForDirs a
    → PatchesAreForDirs (with_intents a (turned_each a.intents ks to))
turns_patches [] a to h = h
turns_patches (k ∷ ks) a to h = turns_patches ks (with_intents a (turned a.intents k to)) to (turned_patches a k to h)

module _ (n s server : ℕ) where
  removed_whole : (a : Store) → IsWhole n s a → IsWhole n s (with_removed a server)
  removed_whole a k =
      let names : AreOrderly (remove_server a.names server) = record {
        dirs = k.names.dirs;
        sorted = k.names.sorted;
        last = record { own = k.names.last.own; cells = k.names.last.cells };
        children = k.names.children;
      } in
      let b = with_names a (remove_server a.names server) in
      let whole : IsWhole n s b = whole_names n s a k (remove_server a.names server) refl names (λ f. refl) in
      whole_alike n s b whole (with_removed a server)
      (record { servers = refl; tags = refl; names = refl; replicas = refl }) whole.patches

  cut_whole_by : (a : Store) (file : FileId) → IsWhole n s a → (o : Option ℕ) → IsWhole n s (cut_born server a file o)
  cut_whole_by a file k None = k
  cut_whole_by a file k (Some birth) = whole_unlink n s a k file server birth

  cuts_whole : (files : List FileId) (a : Store) → IsWhole n s a → IsWhole n s (cut_each server a files)
  cuts_whole [] a k = k
  cuts_whole (file ∷ files) a k =
      cuts_whole files (cut server a file) (cut_whole_by a file k (listed_birth a file server))

  pub whole_enter : (a : Store) → IsWhole n s a → IsWhole n s (enter a server)
  whole_enter a k =
      let files = keys_of a.names.held in
      let b = cut_each server (with_removed a server) files in
      let to = next_target b server in
      let whole = cuts_whole files (with_removed a server) (removed_whole a k) in
      whole_alike n s b whole (turn server to b) (turn_alike server to b)
      (turns_patches (keys_to server b.intents) b to whole.patches)
