-- One replica of a server changes, or none that is seen.
use Rattle.std.proofs.Common.{◌≡◌, ◌≤◌, Bool, true, false, Option, None, Some, option_map, refl, sym, ap, subst, ◌∙◌, inl, inr, arith}
use Rattle.pg_base.specs.declared.id.FileId.{FileId}
use Rattle.pg_base.specs.Id.{is_same_file}
use Rattle.pg_base.proofs.Orders.{is_same_file-true}
use Rattle.pg_edges.specs.declared.key.Key.{Key}
use Rattle.theory_flood.specs.Server.{Slot, HoldsAll, tag_on}
use Rattle.theory_flood.proofs.Bulk.{Goes, GoesIf, bulk_steps}
use Rattle.theory_flood.proofs.Draws.{Draws}
use Rattle.theory_flood.proofs.Steps.{Steps, fewer_tags}
use Rattle.pg_cells.specs.pg_replica.declared.replica.Replica.{Replica}
use Rattle.pg_cells.specs.pg_store.declared.store.Store.{Store}
use Rattle.pg_cells.specs.pg_store.Store.{replica_at}
use Rattle.theory_flood_pieces.specs.Seen.{seen, standing}
use Rattle.theory_flood_pieces.specs.UpTo.{IsUpTo}
use Rattle.theory_flood_pieces.proofs.Growth.{SameNames}
use Rattle.theory_flood_pieces.proofs.Stores.{Changes, bare_seen, cell_same, content_same, from_bare, over_stays, plain_at, replica_elsewhere, replica_here, tags_drawn, to_bare}
use Rattle.theory_flood_pieces.proofs.UpTo.{cell_itself, in_order}

-- ---- nothing that is seen changes

-- of this file two servers show the same: the same replica, or none; and the same cells
pub record SameAt (a b : Store) (f : FileId) : Type 0 where
  pub replica : replica_at b f ≡ replica_at a f
  pub cells : (q : Key) → plain_at b f q ≡ plain_at a f q

same_goes : (a b : Store) (f : FileId) (x : Replica) → ((q : Key) → plain_at b f q ≡ plain_at a f q) → Goes standing a.tags b.tags (seen a f x) (seen b f x)
same_goes a b f x same = record {
  birth = refl;
  brings = λ p n q g h. inl h;
  slots = λ p n q c listed cell. inr (listed, sym (same q) ∙ cell, refl);
  holds = λ q c is. record { key = q; cell = c; is = same q ∙ is; upto = cell_itself c };
}

same_if : (a b : Store) (f : FileId) (o : Option Replica) → ((q : Key) → plain_at b f q ≡ plain_at a f q)
    → GoesIf standing a.tags b.tags (option_map (seen a f) o) (option_map (seen b f) o)
same_if a b f None same = tt
same_if a b f (Some x) same = same_goes a b f x same

pub goes_same : (a b : Store) (f : FileId) → SameAt a b f → GoesIf standing a.tags b.tags ((standing.see a).replicas f) ((standing.see b).replicas f)
goes_same a b f k =
    let P : Option Replica → Type 0 = λ o. GoesIf standing a.tags b.tags (option_map (seen a f) (replica_at a f)) (option_map (seen b f) o) in
    subst P (sym k.replica) (same_if a b f (replica_at a f) k.cells)

pub record SameSeen (a b : Store) : Type 0 where
  pub tags : b.tags ≡ a.tags
  pub files : (f : FileId) → SameAt a b f

tag_same : (a b : Store) (q : Slot) (o : Option Replica) → tag_on (option_map (seen b q.file) o) q ≡ tag_on (option_map (seen a q.file) o) q
tag_same a b q None = refl
tag_same a b q (Some x) = refl

pub same_steps : (a b : Store) → SameSeen a b → Steps standing a b
same_steps a b k =
    let up : a.tags ≤ b.tags = (let e = k.tags in omega arith) in
    bulk_steps standing in_order a b (record {
      up = up;
      files = λ f. goes_same a b f (k.files f);
      single = λ s. (fewer_tags standing a b up
          (λ q g h. sym (tag_same a b q (replica_at a q.file)) ∙ sym (ap (λ (o : Option Replica). tag_on (option_map (seen b q.file) o) q) (k.files q.file).replica) ∙ h) s).single;
      over = over_stays a b;
    })

-- ---- one replica changes

draws_goes : (a b : Store) (f : FileId) (x y : Replica) → Draws a.tags (seen a f x) b.tags (seen b f y) → HoldsAll IsUpTo (plain_at a f) (plain_at b f) → Goes standing a.tags b.tags (seen a f x) (seen b f y)
draws_goes a b f x y d holds = record { birth = d.birth; brings = d.brings; slots = d.slots; holds = holds }

bare_draws : (a b : Store) (f : FileId) (x y : Replica) → Draws a.tags (seen a f x) b.tags (seen b f y) → Draws a.tags (bare_seen x) b.tags (bare_seen y)
bare_draws a b f x y d = record {
  birth = d.birth;
  up = d.up;
  brings = d.brings;
  single = d.single;
  slots = λ p n q c listed cell. absurd (let z : None ≡ Some c = cell in cc);
}

-- the cells of all other files are as they were
module _ (a b : Store) (file : FileId) (x y : Replica) (k : Changes a b file x y) (names : SameNames a.names b.names)
    (draws : Draws a.tags (seen a file x) b.tags (seen b file y)) (holds : HoldsAll IsUpTo (plain_at a file) (plain_at b file)) where
  abbrev GoesAt : FileId → Option Replica → Type 0
  GoesAt f o = GoesIf standing a.tags b.tags (option_map (seen a f) (replica_at a f)) (option_map (seen b f) o)

  goes_here : GoesAt file (Some y)
  goes_here =
      let P : Option Replica → Type 0 = λ o. GoesIf standing a.tags b.tags (option_map (seen a file) o) (Some (seen b file y)) in
      subst P (sym k.old) (draws_goes a b file x y draws holds)

  goes_at : (f : FileId) → GoesAt f (replica_at b f)
  goes_at f = at (is_same_file f file) refl
    where
      at : (t : Bool) → is_same_file f file ≡ t → GoesAt f (replica_at b f)
      at true e =
          let Q : FileId → Type 0 = λ g. GoesAt g (replica_at b g) in
          subst Q (sym (is_same_file-true f file e)) (subst (GoesAt file) (sym (replica_here a b file x y k)) goes_here)
      at false e =
          let same = replica_elsewhere a b file x y f k e in
          goes_same a b f (record {
            replica = same;
            cells = cell_same a b f (record { own = names.own f; entries = names.entries f; content = content_same a b f same });
          })

  pub one_steps : Steps standing a b
  one_steps = bulk_steps standing in_order a b (record {
    up = draws.up;
    files = goes_at;
    single = λ s. (from_bare b (tags_drawn a b file x y k (bare_draws a b file x y draws) (to_bare a s))).single;
    over = over_stays a b;
  })
