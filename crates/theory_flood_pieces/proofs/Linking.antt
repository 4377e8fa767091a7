-- Edges are made and go, and what stands beside names and replicas changes: what edges promise is
-- kept.
use Rattle.std.proofs.Common.{ℕ, ◌≡◌, ◌+◌, Bool, true, cond, List, length, Option, None, Some, refl, sym, ap, subst, ◌∙◌, arith}
use mathlib.Core.Path.{fun_ext}
use Rattle.pg_base.specs.declared.id.FileId.{FileId}
use Rattle.pg_edges.specs.declared.key.Key.{Key}
use Rattle.pg_edges.specs.Edges.{makes_edge}
use Rattle.theory_flood.specs.Server.{Replica as Seen}
use Rattle.theory_flood.proofs.Draws.{Draws}
use Rattle.theory_flood.proofs.Link.{link_draws}
use Rattle.theory_flood.proofs.Steps.{Steps, Steps-refl}
use Rattle.theory_flood.proofs.Unlink.{unlink_draws}
use Rattle.pg_entries.specs.declared.cell.Cell.{Cell}
use Rattle.pg_cells.specs.pg_names.Names.{NamesValue, cell_at as entry_at, fill, is_held, or_blank, own_or_blank}
use Rattle.pg_cells.proofs.pg_names.Holding.{fill_cells, fill_own}
use Rattle.pg_cells.specs.pg_replica.declared.replica.Replica.{Replica}
use Rattle.pg_cells.specs.pg_replica.Replica.{with_link, with_unlink}
use Rattle.pg_cells.specs.pg_replica.Replicas.{lists_peer, or_nothing, put_replica, replicas_linked, replicas_unlinked, takes_link}
use Rattle.pg_cells.specs.pg_store.declared.store.Store.{Store}
use Rattle.pg_cells.specs.pg_store.Links.{keys, link, unlink}
use Rattle.pg_cells.specs.pg_store.Store.{content_of, replica_at, with_drawn, with_names}
use Rattle.theory_flood_pieces.specs.Laws.{AreAlike}
use Rattle.theory_flood_pieces.specs.Seen.{seen, standing}
use Rattle.theory_flood_pieces.proofs.AllKeys.{keys_seen}
use Rattle.theory_flood_pieces.proofs.Choices.{decided}
use Rattle.theory_flood_pieces.proofs.Growth.{SameNames-refl}
use Rattle.theory_flood_pieces.proofs.Single.{one_steps, same_steps}
use Rattle.theory_flood_pieces.proofs.Stores.{Changes, by_file, cell_same, content_same, plain_at, replica_same}
use Rattle.theory_flood_pieces.proofs.UpTo.{cell_itself}

-- ---- the edges of one replica change, and nothing else

abbrev with_edges : Store → ℕ → FileId → Replica → Store
with_edges a n file y = record a { tags = a.tags + n; replicas = put_replica a.replicas file y }

abbrev seen_with : Replica → (Key → Option Cell) → Seen Cell
seen_with z cs = record { birth = z.birth; edges = z.edges; cells = cs }

module _ (a : Store) (file : FileId) (x y : Replica) (held : replica_at a file ≡ Some x) (n : ℕ) (content : y.content ≡ x.content) where
  abbrev Now : Store
  Now = with_edges a n file y

  changes : Changes a Now file x y
  changes = record { old = held; replicas = refl }

  same_content : (f : FileId) → content_of Now f ≡ content_of a f
  same_content =
      by_file (λ f o. (or_nothing o).content ≡ content_of a f) a Now file x y changes
      (content ∙ sym (ap (λ (o : Option Replica). (or_nothing o).content) held)) (λ f apart. refl)

  same_cells : plain_at Now file ≡ plain_at a file
  same_cells = fun_ext (cell_same a Now file (record { own = refl; entries = λ h. refl; content = same_content file }))

  -- what the replica draws with the cells that it had
  pub edges_steps : Draws a.tags (seen a file x) (a.tags + n) (seen_with y (plain_at a file)) → Steps standing a Now
  edges_steps draws =
      let P : (Key → Option Cell) → Type 0 = λ cs. Draws a.tags (seen a file x) (a.tags + n) (seen_with y cs) in
      one_steps a Now file x y changes (SameNames-refl a.names) (subst P (sym same_cells) draws)
      (λ q c is. record { key = q; cell = c; is = ap (λ (cs : Key → Option Cell). cs q) same_cells ∙ is; upto = cell_itself c })

-- ---- a birth is linked

module _ (a : Store) (file : FileId) (peer birth : ℕ) (held : is_held a.names file ≡ true) where
  abbrev Ks : List Key
  Ks = keys a file

  abbrev linked_if : Option Replica → Store
  linked_if o = cond (takes_link o peer birth) (with_drawn a (length Ks) (replicas_linked a.replicas file peer birth Ks a.tags o)) a

  made_steps : (x : Replica) → replica_at a file ≡ Some x → makes_edge x.edges peer birth ≡ true
      → Steps standing a (with_drawn a (length Ks) (replicas_linked a.replicas file peer birth Ks a.tags (Some x)))
  made_steps x there made =
      let y = with_link x peer birth Ks a.tags in
      let P : Bool → Type 0 = λ t. Draws a.tags (seen a file x) (a.tags + cond t (length Ks) 0) (seen_with y (plain_at a file)) in
      edges_steps a file x y there (length Ks) refl
      (subst P made (link_draws a.tags (seen a file x) peer birth Ks (keys_seen a file held)))

  link_by : (o : Option Replica) → replica_at a file ≡ o → Steps standing a (linked_if o)
  link_by None e = Steps-refl standing a
  link_by (Some x) e =
      decided (Steps standing a) (makes_edge x.edges peer birth) (with_drawn a (length Ks) (replicas_linked a.replicas file peer birth Ks a.tags (Some x))) a
      (made_steps x e) (λ no. Steps-refl standing a)

  -- A LINK, to a thing that is held
  pub held_link_steps : Steps standing a (link a file peer birth)
  held_link_steps = link_by (replica_at a file) refl

-- ---- an edge goes

module _ (a : Store) (file : FileId) (peer birth : ℕ) where
  abbrev unlinked_if : Option Replica → Store
  unlinked_if o = cond (lists_peer o peer birth) (record a { replicas = replicas_unlinked a.replicas file peer birth o }) a

  no_tag : a.tags + 0 ≡ a.tags
  no_tag = omega arith

  gone_steps : (x : Replica) → replica_at a file ≡ Some x → Steps standing a (record a { replicas = replicas_unlinked a.replicas file peer birth (Some x) })
  gone_steps x there =
      let y = with_unlink x peer birth in
      let P : ℕ → Type 0 = λ t. Draws a.tags (seen a file x) t (seen_with y (plain_at a file)) in
      let Q : ℕ → Type 0 = λ t. Steps standing a (record a { tags = t; replicas = put_replica a.replicas file y }) in
      subst Q no_tag (edges_steps a file x y there 0 refl (subst P (sym no_tag) (unlink_draws a.tags (seen a file x) peer birth)))

  unlink_by : (o : Option Replica) → replica_at a file ≡ o → Steps standing a (unlinked_if o)
  unlink_by None e = Steps-refl standing a
  unlink_by (Some x) e =
      decided (Steps standing a) (lists_peer (Some x) peer birth) (record a { replicas = replicas_unlinked a.replicas file peer birth (Some x) }) a
      (λ there. gone_steps x e) (λ no. Steps-refl standing a)

  -- AN UNLINK
  pub unlink_steps : Steps standing a (unlink a file peer birth)
  unlink_steps = unlink_by (replica_at a file) refl

-- ---- what is not seen

pub alike_steps : (a b : Store) → AreAlike a b → Steps standing a b
alike_steps a b k = same_steps a b (record {
  tags = k.tags;
  files = λ f.
      let same = replica_same a b f k.replicas in
      record {
        replica = same;
        cells = cell_same a b f (record {
          own = ap (λ (t : NamesValue). own_or_blank t f) k.names;
          entries = λ g. ap (λ (t : NamesValue). entry_at t f g) k.names;
          content = content_same a b f same;
        });
      };
})

pub fill_steps : (a : Store) (file : FileId) → Steps standing a (with_names a (fill a.names file))
fill_steps a file = same_steps a (with_names a (fill a.names file)) (record {
  tags = refl;
  files = λ f. record {
    replica = refl;
    cells = cell_same a (with_names a (fill a.names file)) f (record {
      own = ap (or_blank f) (fill_own a.names file f);
      entries = λ g. fill_cells a.names file f g;
      content = refl;
    });
  };
})
