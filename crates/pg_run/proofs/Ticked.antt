-- A tick first forgets of whom versions were asked. What it sends is what it would have sent
-- before: nothing of that is read.
use Rattle.std.proofs.Common.{ℕ, ◌≡◌, ◌==◌, ◌++◌, ◌/◌, ◌%◌, cond, true, List, [], length, slice_get, Option, None, Some, refl, ap, sym, subst, ◌∙◌}
use Rattle.std.specs.List.{filter, flat_map}
use mathlib.Core.Path.{fun_ext}
use Rattle.pg_base.specs.declared.id.FileId.{FileId}
use Rattle.pg_edges.specs.declared.edge.Edge.{Edge}
use Rattle.pg_edges.specs.declared.key.Key.{Key}
use Rattle.pg_edges.specs.declared.key.Key.TheVariants as key
use Rattle.pg_entries.specs.declared.cell.Cell.{Cell}
use Rattle.pg_server.specs.pg_pieces.pg_intent.declared.intent.Intent.{Intent}
use Rattle.pg_server.specs.pg_pieces.pg_intent.declared.intent.Intent.TheVariants as intent
use Rattle.pg_server.specs.pg_pieces.pg_intent.Intent.{target_of}
use Rattle.pg_server.specs.pg_pieces.pg_msg.declared.message.Message.{Message}
use Rattle.pg_server.specs.pg_pieces.pg_msg.declared.message.Sent.{Sent}
use Rattle.pg_server.specs.pg_pieces.pg_msg.declared.work.Work.{Work}
use Rattle.pg_server.specs.pg_pieces.pg_msg.Work.{new_work}
use Rattle.pg_server.specs.pg_pieces.pg_names.declared.attributes.Attributes.{Attributes}
use Rattle.pg_server.specs.pg_pieces.pg_names.Names.{own_at}
use Rattle.pg_server.specs.pg_pieces.pg_replica.declared.replica.Replica.{Replica}
use Rattle.pg_server.specs.pg_pieces.pg_store.declared.store.Store.{Store}
use Rattle.pg_server.specs.pg_pieces.pg_store.Births.{birth_of}
use Rattle.pg_server.specs.pg_pieces.pg_store.Cells.{cell_at}
use Rattle.pg_server.specs.pg_pieces.pg_store.Seen.{server_of}
use Rattle.pg_server.specs.pg_pieces.pg_store.Store.{is_before_clock_end}
use Rattle.pg_server.specs.pg_cells.Sending.{Wanted, cell_under, cells_where, edge_cells, is_any, key_cell, replica_cells, waits}
use Rattle.pg_server.specs.pg_cells.Ticks.{tick}
use Rattle.pg_server.specs.pg_graph.Walks.{edges_of, most_hops, walk_along, walk_from, walk_of_tick, with_few_edges}
use Rattle.pg_server.specs.pg_intentions.Requests.{ask_all, asked_of, asks, leave_message, request}
use Rattle.pg_server.specs.pg_pieces.Done.{Done, idle}
use Rattle.pg_server.specs.declared.input.Input.TheVariants as input
use Rattle.pg_server.specs.Local.{first_effect, sent_again, ticked, without_sources}
use Rattle.theory_flood_pieces.proofs.Choices.{chosen, decided}

module _ (a : Store) where
  abbrev Free : Store
  Free = without_sources a

  -- ---- cells

  cell_same : (f : FileId) (q : Key) → cell_at Free f q ≡ cell_at a f q
  cell_same f key.Place = refl
  cell_same f (key.Flag server) = refl
  cell_same f (key.Entry child) = refl
  cell_same f (key.Version stamp) = refl

  under_same : (f : FileId) (birth : ℕ) (e : Edge) (tag : ℕ) (o : Option Cell) → cell_under Free f birth e tag o ≡ cell_under a f birth e tag o
  under_same f birth e tag None = refl
  under_same f birth e tag (Some c) = refl

  key_same : (f : FileId) (birth : ℕ) (e : Edge) (k : Key × ℕ) → key_cell Free f birth e k ≡ key_cell a f birth e k
  key_same f birth e k =
      ap (λ (ms : List Sent). cond (waits a f e k.0) [] ms)
      (under_same f birth e k.1 (cell_at Free f k.0) ∙ ap (cell_under a f birth e k.1) (cell_same f k.0))

  edge_same : (wanted : Wanted) (f : FileId) (birth : ℕ) (e : Edge) → edge_cells Free wanted f birth e ≡ edge_cells a wanted f birth e
  edge_same wanted f birth e =
      ap (λ (g : Key × ℕ → List Sent). flat_map g (filter (λ k. wanted f e.peer k.0) e.keys)) (fun_ext (key_same f birth e))

  replica_same : (wanted : Wanted) (r : FileId × Replica) → replica_cells Free wanted r ≡ replica_cells a wanted r
  replica_same wanted r =
      ap (λ (g : Edge → List Sent). flat_map g r.1.edges) (fun_ext (edge_same wanted r.0 r.1.birth))

  -- the cells that are wanted
  pub cells_same : (wanted : Wanted) → cells_where Free wanted ≡ cells_where a wanted
  cells_same wanted = ap (λ (g : FileId × Replica → List Sent). flat_map g a.replicas) (fun_ext (replica_same wanted))

  -- ---- intentions

  leave_same : (f : FileId) (birth : ℕ) (o : Option Attributes) → leave_message Free f birth o ≡ leave_message a f birth o
  leave_same f birth None = refl
  leave_same f birth (Some own) = refl

  pub request_same : (i : Intent) → request Free i ≡ request a i
  request_same (intent.Bye file birth peer peer_birth) = refl
  request_same (intent.Seek file target) = refl
  request_same (intent.Fill file birth target) = refl
  request_same (intent.Patch dir entry target) = refl
  request_same (intent.Confirm dir child target) = refl
  request_same (intent.Leave file peer peer_birth) = leave_same file peer_birth (own_at a.names file)

  asked_same : (to : ℕ) (o : Option Message) → asked_of Free to o ≡ asked_of a to o
  asked_same to None = refl
  asked_same to (Some m) = refl

  -- what an intention asks
  pub asks_same : (i : Intent) → asks Free i ≡ asks a i
  asks_same i =
      ap (λ (ms : List Sent). cond (target_of i == 0) [] ms)
      (asked_same (target_of i) (request Free i) ∙ ap (asked_of a (target_of i)) (request_same i))

  -- ---- the walk

  along_same : (f : FileId) (origin birth hops word : ℕ) (w : Work) (o : Option Edge)
      → walk_along Free f origin birth hops word w o ≡ walk_along a f origin birth hops word w o
  along_same f origin birth hops word w None = refl
  along_same f origin birth hops word w (Some e) = refl

  from_same : (word : ℕ) (w : Work) (o : Option FileId) → walk_from Free word w o ≡ walk_from a word w o
  from_same word w None = refl
  from_same word w (Some f) =
      let edges = edges_of a f in
      along_same f (server_of a) (birth_of a f) most_hops (word / length edges) w (slice_get edges (word % length edges))

  walk_same : (word : ℕ) (w : Work) → walk_of_tick Free word w ≡ walk_of_tick a word w
  walk_same word w =
      let files = with_few_edges a in
      ap (λ (v : Work). cond (word == 0) w v) (from_same (word / length files) w (slice_get files (word % length files)))

  -- WHAT A TICK SENDS
  tick_same : (w : Work) → tick Free w ≡ tick a w
  tick_same w = ap (λ (ms : List Sent). record w { sent = w.sent ++ ms }) (cells_same is_any)

  all_same : (w : Work) → ask_all Free w ≡ ask_all a w
  all_same w = ap (λ (g : Intent → List Sent). record w { sent = w.sent ++ flat_map g a.intents }) (fun_ext asks_same)

  pub sent_again_same : (word : ℕ) (w : Work) → sent_again Free word w ≡ sent_again a word w
  sent_again_same word w =
      walk_same word (ask_all Free (tick Free w))
      ∙ ap (walk_of_tick a word) (all_same (tick Free w) ∙ ap (ask_all a) (tick_same w))

  -- ---- its first effect

  module _ (moment word : ℕ) where
    abbrev Came : Done
    Came = first_effect a (input.Tick moment word)

    -- what holds of the server holds of it then, where it outlives that sources are forgotten
    pub tick_store : (P : Store → Type 0) → P a → P Free → P Came.store
    tick_store P h free =
        let w = new_work moment 0 in
        chosen (λ (d : Done). P d.store) (is_before_clock_end a) (ticked a word w) (idle a w) free h

    pub tick_names : Came.store.names ≡ a.names
    tick_names = tick_store (λ (b : Store). b.names ≡ a.names) refl refl

    -- what comes of it is nothing, at the end of the clock, or what is sent again
    pub tick_work : (Q : Work → Type 0) → Q (new_work moment 0)
        → (is_before_clock_end a ≡ true → Q (sent_again a word (new_work moment 0))) → Q Came.work
    tick_work Q none again =
        let w = new_work moment 0 in
        decided (λ (d : Done). Q d.work) (is_before_clock_end a) (ticked a word w) (idle a w)
        (λ early. subst Q (sym (sent_again_same word w)) (again early)) (λ late. none)
