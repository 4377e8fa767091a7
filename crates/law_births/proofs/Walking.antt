-- What is said of births and flags is said of the walk of a tick.
use Rattle.std.proofs.Common.{[], Contains, ℕ, ◌≡◌, ◌==◌, ◌/◌, ◌%◌, List, length, slice_get, Option, None, Some, All, refl, sym, ap, subst}
use Rattle.std.specs.Option.{option_map}
use Rattle.std.proofs.lemmas.List.Elements.{All-contains, All-nil}
use Rattle.std.proofs.lemmas.Option.{get_or_from_slice_get, slice_get_within}
use Rattle.pg_run.specs.pg_base.declared.id.FileId.{FileId}
use Rattle.pg_run.specs.pg_edges.declared.edge.Edge.{Edge}
use Rattle.pg_run.specs.pg_msg.declared.message.Message.TheVariants as message
use Rattle.pg_run.specs.pg_msg.declared.work.Work.{Work}
use Rattle.pg_run.specs.pg_register.declared.flag.Flag.{Flag}
use Rattle.pg_run.specs.pg_replica.declared.replica.Replica.{Replica}
use Rattle.pg_run.specs.pg_replica.Replicas.{or_nothing}
use Rattle.pg_run.specs.pg_store.declared.store.Store.{Store}
use Rattle.pg_run.specs.pg_store.Births.{birth_of}
use Rattle.pg_run.specs.pg_store.Seen.{server_of}
use Rattle.pg_run.specs.pg_store.Store.{replica_at}
use Rattle.pg_run.specs.pg_pieces.Done.{Done, idle}
use Rattle.pg_run.specs.pg_repair.Fetching.{ends_to}
use Rattle.pg_run.specs.pg_graph.Walks.{edges_of, most_hops, walk_along, walk_from, walk_of, walk_of_tick, with_few_edges}
use Rattle.pg_run.proofs.theory_flood_pieces.Choices.{chosen}
use Rattle.law_births.proofs.Ends.{ends}
use Rattle.law_births.proofs.EndsSay.{SaysEnds, edges_all}
use Rattle.law_births.proofs.Pieces.{shape}
use Rattle.law_births.proofs.Saying.{Born, IsSaid, said_last, own_named}

module _ (P : FileId → ℕ → ℕ → Type 0) (Q : FileId → Flag → Type 0) (G : FileId → ℕ → Type 0) (s from : ℕ) where
  abbrev Said : Done → Type 0
  Said d = IsSaid P Q G s from d

  abbrev IsBorn : Store → Type 0
  IsBorn a = Born P Q G s from a

  pub got : {A : Type 0} (R : A → Type 0) (xs : List A) (i : ℕ) (x : A) → All R xs → slice_get xs i ≡ Some x → R x
  got R xs i x all there = subst R (get_or_from_slice_get xs i x x there) (all i x (slice_get_within xs i x there))

  pub edges_named : (a : Store) (f : FileId) (o : Option Replica) → replica_at a f ≡ o → SaysEnds P a
      → All (λ (e : Edge). P f e.peer e.birth) (or_nothing o).edges
  edges_named a f None there ends_said = All-nil (λ (e : Edge). P f e.peer e.birth)
  edges_named a f (Some x) there ends_said = edges_all P f x.edges (ends_said f x.birth (ends x.edges) (ap (option_map shape) there))

  -- the birth of a replica with edges was given out
  pub own_given : (b : Store) (f : FileId) (e : Edge) (o : Option Replica) → replica_at b f ≡ o → Contains (or_nothing o).edges e → IsBorn b
      → P f s (birth_of b f)
  own_given b f e None there is born = absurd (All-contains (λ (x : Edge). ⊥) [] e (All-nil (λ (x : Edge). ⊥)) is)
  own_given b f e (Some x) there is born = own_named P Q G s from b f born (x.birth, ap (option_map (λ (y : Replica). y.birth)) there)

  -- it goes on along an edge, if there is one
  along_by : (a : Store) (f : FileId) (origin birth hops word : ℕ) (w : Work) (o : Option Edge)
      → ((e : Edge) → o ≡ Some e → P f e.peer e.birth × (P f s (birth_of a f) × P f origin birth)) → Said (idle a w)
      → Said (idle a (walk_along a f origin birth hops word w o))
  along_by a f origin birth hops word w None named k = k
  along_by a f origin birth hops word w (Some e) named k =
      let each = named e refl in
      said_last P Q G s from a e.peer (message.Walk (ends_to a f e.birth) origin birth hops word) w ((each.1.0, each.0), each.1.1) tt k

  -- the walk of a tick, from a replica here
  from_file : (a : Store) (f : FileId) (word i : ℕ) (w : Work) (o : Option Replica) → replica_at a f ≡ o → IsBorn a → Said (idle a w)
      → Said (idle a (walk_along a f (server_of a) (birth_of a f) most_hops word w (slice_get (or_nothing o).edges i)))
  from_file a f word i w None there born k = k
  from_file a f word i w (Some x) there born k =
      let own = own_named P Q G s from a f born (x.birth, ap (option_map (λ (y : Replica). y.birth)) there) in
      let R : ℕ → Type 0 = λ z. P f z (birth_of a f) in
      along_by a f (server_of a) (birth_of a f) most_hops word w (slice_get x.edges i)
      (λ e is. (got (λ (z : Edge). P f z.peer z.birth) x.edges i e (edges_named a f (Some x) there k.edges) is, (own, subst R (sym k.store.names.server) own))) k

  from_by : (a : Store) (word : ℕ) (w : Work) (o : Option FileId) → IsBorn a → Said (idle a w) → Said (idle a (walk_from a word w o))
  from_by a word w None born k = k
  from_by a word w (Some f) born k =
      let count = length (edges_of a f) in
      from_file a f (word / count) (word % count) w (replica_at a f) refl born k

  pub said_walk_of_tick : (a : Store) (word : ℕ) (w : Work) → IsBorn a → Said (idle a w) → Said (idle a (walk_of_tick a word w))
  said_walk_of_tick a word w born k =
      let files = with_few_edges a in
      chosen (λ (v : Work). Said (idle a v)) (word == 0) w (walk_of a word files w) k
      (from_by a (word / length files) w (slice_get files (word % length files)) born k)
