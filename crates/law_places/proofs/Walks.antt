-- The walk of a tick: a message that tells of no place.
use Rattle.std.proofs.Common.{ℕ, ◌==◌, ◌/◌, ◌%◌, length, Option, None, Some, refl}
use Rattle.std.specs.List.{slice_get}
use Rattle.law_frame.specs.pg_run.pg_base.declared.id.FileId.{FileId}
use Rattle.law_frame.specs.pg_run.pg_edges.declared.edge.Edge.{Edge}
use Rattle.law_frame.specs.pg_run.pg_msg.declared.message.Message.TheVariants as message
use Rattle.law_frame.specs.pg_run.pg_msg.declared.work.Work.{Work}
use Rattle.law_frame.specs.pg_run.pg_msg.Work.{with_tail}
use Rattle.law_frame.proofs.pg_run.theory_flood_pieces.Choices.{chosen}
use Rattle.law_frame.specs.pg_run.pg_register.declared.place.Place.{Place}
use Rattle.law_frame.specs.pg_run.pg_store.Births.{birth_of}
use Rattle.law_frame.specs.pg_run.pg_store.Seen.{server_of}
use Rattle.law_frame.specs.pg_run.pg_pieces.Done.{Done, idle}
use Rattle.law_frame.specs.pg_run.pg_pieces.Posting.{sent_to}
use Rattle.law_frame.specs.pg_run.pg_repair.Fetching.{ends_to}
use Rattle.law_frame.specs.pg_run.pg_graph.Walks.{edges_of, most_hops, walk_along, walk_from, walk_of, walk_of_tick, with_few_edges}
use Rattle.law_places.proofs.Fine.{IsFine, as_before}

module _ (P : FileId → Place → Type 0) (s least : ℕ) where
  abbrev Fine : Done → Type 0
  Fine d = IsFine P s least d

  along_fine : (f : FileId) (origin birth hops word : ℕ) (d : Done) (o : Option Edge) → Fine d → Fine (idle d.store (walk_along d.store f origin birth hops word d.work o))
  along_fine f origin birth hops word d None k = k
  along_fine f origin birth hops word d (Some e) k =
      let m = sent_to d.store e.peer (message.Walk (ends_to d.store f e.birth) origin birth hops word) in
      as_before P s least d (idle d.store (with_tail d.work m)) refl refl refl refl k

  -- the walk of a tick
  from_fine : (word : ℕ) (d : Done) (o : Option FileId) → Fine d → Fine (idle d.store (walk_from d.store word d.work o))
  from_fine word d None k = k
  from_fine word d (Some f) k =
      let edges = edges_of d.store f in
      along_fine f (server_of d.store) (birth_of d.store f) most_hops (word / length edges) d (slice_get edges (word % length edges)) k

  pub tick_fine : (word : ℕ) (d : Done) → Fine d → Fine (idle d.store (walk_of_tick d.store word d.work))
  tick_fine word d k =
      let files = with_few_edges d.store in
      chosen (λ (w : Work). Fine (idle d.store w)) (word == 0) d.work (walk_of d.store word files d.work) k
      (from_fine (word / length files) d (slice_get files (word % length files)) k)
