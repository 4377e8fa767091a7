-- What a join and a write do to the edges and cells, as the flooding sees it: for each head the
-- cell at its key.
use Rattle.std.proofs.Common.{ℕ, ◌≡◌, ◌+◌, Bool, true, false, cond, List, [], ◌∷◌, length, Option, None, refl, sym, ap, subst, ◌∙◌}
use Rattle.pg_base.specs.declared.stamp.Stamp.{Stamp}
use Rattle.pg_base.specs.declared.vector.Actor.{Actor}
use Rattle.pg_patch.specs.Ranges.{RangesValue}
use Rattle.pg_edges.specs.declared.key.Key.{Key}
use Rattle.pg_edges.specs.Edges.{touched, retired}
use Rattle.pg_edges.proofs.Orders.{is_same_key-refl}
use Rattle.pg_base.specs.Version.{VersionValue}
use Rattle.pg_content.specs.Content.{covers_version, put_version, next_version}
use Rattle.pg_content.specs.StandsFor.{InStrictOrder}
use Rattle.theory_flood.specs.Server.{Replica as Seen}
use Rattle.theory_flood.proofs.Draws.{Draws, Draws-refl, Draws-trans}
use Rattle.theory_flood.proofs.Touch.{SameBut, touch_draws}
use Rattle.theory_flood.proofs.Retire.{retire_draws}
use Rattle.pg_replica.specs.declared.replica.Replica.{Replica}
use Rattle.pg_replica.specs.Replica.{key_of, keys, cell_at, covers, covered_heads, without_keys, with_head, with_version, tags_after, with_write}
use Rattle.pg_replica.proofs.Listed.{length-without_keys}
use Rattle.pg_replica.proofs.Cells.{less_one, less, cell_at-put, cell_at-alone, less_all}

-- the replica as the flooding sees it
abbrev pub seen : Replica → Seen VersionValue
seen x = record { birth = x.birth; edges = x.edges; cells = cell_at x.content.heads }

module _ {C : Type 0} where
  abbrev with_less : Seen C → List Key → Seen C
  with_less x ks = record { birth = x.birth; edges = without_keys x.edges ks; cells = less ks x.cells }

  -- cells go, and their keys with them
  pub retire_all_draws : (t : ℕ) (ks : List Key) (x : Seen C) → Draws t x t (with_less x ks)
  retire_all_draws t [] x = Draws-refl t x
  retire_all_draws t (k ∷ ks) x =
      Draws-trans
      (retire_draws t x k (less_one k x.cells) (λ q other. ap (λ c. cond c None (x.cells q)) other) (ap (λ c. cond c None (x.cells k)) (is_same_key-refl k)))
      (retire_all_draws t ks (record { birth = x.birth; edges = retired x.edges k; cells = less_one k x.cells }))

  -- then a cell comes, and its key is touched
  pub put_draws : (t : ℕ) (ks : List Key) (k : Key) (x : Seen C) (cells : Key → Option C) → SameBut k (less ks x.cells) cells
      → Draws t x (t + length x.edges) (record { birth = x.birth; edges = touched (without_keys x.edges ks) k t; cells = cells })
  put_draws t ks k x cells same =
      let d = Draws-trans (retire_all_draws t ks x) (touch_draws t (with_less x ks) k cells same) in
      let P : ℕ → Type 0 = λ n. Draws t x (t + n) (record { birth = x.birth; edges = touched (without_keys x.edges ks) k t; cells = cells }) in
      subst P (length-without_keys x.edges ks) d

module _ (t : ℕ) (x : Replica) where
  version_by : (v : VersionValue) (b : Bool) → covers x v ≡ b → InStrictOrder x.content.heads → Draws t (seen x) (cond b t (t + length x.edges)) (seen (cond b x (with_head x v t)))
  version_by v true e order = Draws-refl t (seen x)
  version_by v false e order =
      put_draws t (keys (covered_heads x.content.heads v)) (key_of v) (seen x) (cell_at (with_head x v t).content.heads) (λ q other.
      ap (λ c. cell_at (cond c x.content.heads (put_version x.content.heads v)) q) e ∙ cell_at-put v q (covers_version v.head.vector) x.content.heads order other)

  -- A VERSION COMES, where no two heads have one stamp
  pub version_draws : (v : VersionValue) → InStrictOrder x.content.heads → Draws t (seen x) (tags_after x v t) (seen (with_version x v t))
  version_draws v order = version_by v (covers x v) refl order

  -- A WRITE, whatever the heads' stamps are
  pub write_draws : (actor : Actor) (stamp : Stamp) (ranges : RangesValue) → Draws t (seen x) (t + length x.edges) (seen (with_write x actor stamp ranges t))
  write_draws actor stamp ranges =
      let v = next_version x.content actor stamp ranges in
      put_draws t (keys x.content.heads) (key_of v) (seen x) (cell_at (v ∷ [])) (λ q other. cell_at-alone v q other ∙ sym (less_all x.content.heads q))
