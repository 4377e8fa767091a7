-- Who seeks a gold replica is linked and told, and walks go on: it keeps the rule of the edges.
use Rattle.std.proofs.Common.{ℕ, ◌≡◌, ◌==◌, ◌≤◌, ◌-◌, ◌/◌, ◌%◌, true, false, cond, length, Option, None, Some, refl, sym, ◌∙◌}
use Rattle.std.specs.List.{slice_get}
use Rattle.std.proofs.lemmas.Bool.{eq-eqb}
use Rattle.pg_run.specs.pg_base.declared.id.FileId.{FileId}
use Rattle.pg_run.specs.pg_edges.declared.edge.Edge.{Edge}
use Rattle.pg_run.specs.pg_msg.declared.message.Ask.TheVariants as ask
use Rattle.pg_run.specs.pg_msg.declared.message.Ends.{Ends}
use Rattle.pg_run.specs.pg_msg.declared.message.Message.TheVariants as message
use Rattle.pg_run.specs.pg_msg.declared.summary.Greeting.TheVariants as greeting
use Rattle.pg_run.specs.pg_msg.declared.work.Work.{Work}
use Rattle.pg_run.specs.pg_store.declared.store.Store.{Store}
use Rattle.pg_run.specs.pg_store.Births.{birth_of}
use Rattle.pg_run.specs.pg_store.Links.{knows_later}
use Rattle.pg_run.specs.pg_store.Seen.{server_of}
use Rattle.pg_run.specs.pg_store.Store.{is_held}
use Rattle.pg_run.specs.pg_pieces.declared.accepting.EdgeUse.TheVariants as manner
use Rattle.pg_run.specs.pg_pieces.Accepting.{accept, is_accepted, link_peer}
use Rattle.pg_run.specs.pg_pieces.Done.{Done, idle}
use Rattle.pg_run.specs.pg_pieces.Posting.{reply}
use Rattle.pg_run.specs.pg_repair.Fetching.{ends_to}
use Rattle.pg_run.specs.pg_graph.Seeking.{answered_seek, seek}
use Rattle.pg_run.specs.pg_graph.Walks.{edges_of, goes_on, meet_origin, most_hops, onward, walk, walk_along, walk_from, walk_of, walk_of_tick, walk_on, walked, with_few_edges}
use Rattle.pg_run.specs.theory_flood_pieces.Seen.{Hearing}
use Rattle.pg_run.specs.theory_flood_pieces.Whole.{IsOther}
use Rattle.pg_run.proofs.theory_flood_pieces.Choices.{chosen, decided}
use Rattle.law_acks.proofs.Pieces.{IsDone, Stands, link_done, posted, posted_last}
use Rattle.law_acks.proofs.Handlers.{accept_done}

same_not : (i j : ℕ) → i ≡ j → (i == j) ≡ false → ⊥
same_not i j same apart = let z : true ≡ false = sym (eq-eqb i j same) ∙ apart in cc

-- Server s of n came from a, having heard this, and the message came from another server
module _ (n s : ℕ) (a : Store) (heard : Hearing) where
  abbrev Is : Done → Type 0
  Is d = IsDone n s a heard d

  abbrev At : Store → Work → Type 0
  At b work = Stands n s a heard b work

  -- ---- who seeks a gold replica

  pub seek_done : (b : Store) (work : Work) → At b work → (file : FileId) (birth : ℕ)
      → IsOther n s work.from → Is (seek b file birth work)
  seek_done b work u file birth other =
      let linked = link_peer b file work.from birth work in
      let later = knows_later b file work.from birth in
      let none = message.NoneHere ask.Seek file file in
      chosen Is (is_held b file) (cond later (idle b work) (answered_seek file birth linked))
      (idle b (reply b none work))
      (chosen Is later (idle b work) (answered_seek file birth linked) u
      (posted n s a heard linked.store linked.work
      (link_done n s a heard b work u file work.from birth other) linked.work.from
      (message.Greet (ends_to linked.store file birth) greeting.Here) (λ from. refl) tt))
      (posted n s a heard b work u work.from none (λ from. refl) tt)

  -- ---- walks

  along_done : (b : Store) (work : Work) → At b work → (file : FileId) (origin birth hops word : ℕ)
      → 1 ≤ origin → origin ≤ n → (o : Option Edge)
      → At b (walk_along b file origin birth hops word work o)
  along_done b work u file origin birth hops word least most None = u
  along_done b work u file origin birth hops word least most (Some e) =
      posted_last n s a heard b work u e.peer
      (message.Walk (ends_to b file e.birth) origin birth hops word) (λ from. refl) (least, most)

  met_origin_done : (b : Store) (work : Work) → At b work → (file : FileId) (origin birth : ℕ)
      → IsOther n s origin → Is (meet_origin b file origin birth work)
  met_origin_done b work u file origin birth other =
      let linked = link_peer b file origin birth work in
      posted n s a heard linked.store linked.work
      (link_done n s a heard b work u file origin birth other) origin
      (message.Greet (ends_to linked.store file birth) greeting.Meet) (λ from. refl) tt

  -- the origin is another server of the run
  origin_other : (b : Store) (work : Work) → At b work → (origin : ℕ) → 1 ≤ origin → origin ≤ n
      → (origin == server_of b) ≡ false → IsOther n s origin
  origin_other b work u origin least most apart = record {
    least = least;
    most = most;
    apart = λ same. same_not origin (server_of b) (same ∙ sym u.way.whole.server) apart;
  }

  pub walk_done : (b : Store) (work : Work) → At b work → (ends : Ends) (origin birth hops word : ℕ)
      → IsOther n s work.from → 1 ≤ origin → origin ≤ n
      → Is (walk b ends origin birth hops word work)
  walk_done b work u ends origin birth hops word other least most =
      let edges = onward b ends.file work.from origin in
      let here = origin == server_of b in
      let gone = walked b ends origin birth hops word edges work in
      chosen Is (is_accepted b work.from manner.Needs ends) (cond here (idle b work) gone)
      (accept b ends manner.Needs work)
      (decided Is here (idle b work) gone (λ t. u)
      (λ apart. chosen Is (goes_on hops edges) (idle b (walk_on b ends.file origin birth hops word edges work))
      (meet_origin b ends.file origin birth work)
      (along_done b work u ends.file origin birth (hops - 1) (word / length edges) least most
      (slice_get edges (word % length edges)))
      (met_origin_done b work u ends.file origin birth (origin_other b work u origin least most apart))))
      (accept_done n s a heard b work u ends manner.Needs other)

  -- the walk of a tick
  from_done : (b : Store) (work : Work) → At b work → 1 ≤ server_of b → server_of b ≤ n
      → (word : ℕ) (o : Option FileId) → At b (walk_from b word work o)
  from_done b work u least most word None = u
  from_done b work u least most word (Some file) =
      let edges = edges_of b file in
      along_done b work u file (server_of b) (birth_of b file) most_hops (word / length edges) least most
      (slice_get edges (word % length edges))

  pub tick_walk_done : (b : Store) (work : Work) → At b work → 1 ≤ server_of b → server_of b ≤ n
      → (word : ℕ) → At b (walk_of_tick b word work)
  tick_walk_done b work u least most word =
      let files = with_few_edges b in
      chosen (At b) (word == 0) work (walk_of b word files work) u
      (from_done b work u least most (word / length files) (slice_get files (word % length files)))
