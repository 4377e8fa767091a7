-- Cells and heads: a cell is a head, and a head is the cell at its key.
use Rattle.std.proofs.Common.{◌≡◌, Bool, true, false, cond, List, [], ◌∷◌, None, Some, refl, sym, ap, subst, ◌∙◌, inl, inr, ◌⊎◌, All}
use Rattle.std.proofs.lemmas.List.Elements.{All-head, All-tail}
use Rattle.pg_base.specs.Vector.{Covers}
use Rattle.pg_base.specs.Version.{VersionValue, actor_of}
use Rattle.pg_edges.specs.declared.key.Key.{Key}
use Rattle.pg_edges.specs.Key.{is_same_key}
use Rattle.pg_edges.proofs.Orders.{is_same_key-true, is_same_key-refl}
use Rattle.pg_content.specs.Content.{Among, covers_version}
use Rattle.pg_content.specs.StandsFor.{InStrictOrder}
use Rattle.pg_replica.specs.declared.replica.Replica.{Replica}
use Rattle.pg_replica.specs.Replica.{key_of, cell_at}
use Rattle.pg_replica.proofs.Cells.{Before, key_before}

-- the second version's vector covers the first
abbrev pub IsUpTo : VersionValue → VersionValue → Type 0
IsUpTo c d = Covers d.head.vector (actor_of c.head) c.head.number

-- its own vector covers it
abbrev pub CoversItself : VersionValue → Type 0
CoversItself v = IsUpTo v v

-- ---- a cell is a head

cell_is : (v c : VersionValue) → Some v ≡ Some c → v ≡ c
cell_is v c e = cc

-- a cell is a head, at its own key
head_by : (q : Key) (c v : VersionValue) (vs : List VersionValue) (s : Bool) → is_same_key q (key_of v) ≡ s → cond s (Some v) (cell_at vs q) ≡ Some c → (cell_at vs q ≡ Some c → Among c vs × (q ≡ key_of c)) → Among c (v ∷ vs) × (q ≡ key_of c)
head_by q c v vs true e is rest = (inl (sym (cell_is v c is)), is_same_key-true q (key_of v) e ∙ ap key_of (cell_is v c is))
head_by q c v vs false e is rest = let r = rest is in (inr r.0, r.1)

pub cell_head : (vs : List VersionValue) (q : Key) (c : VersionValue) → cell_at vs q ≡ Some c → Among c vs × (q ≡ key_of c)
cell_head [] q c is = absurd (let z : None ≡ Some c = is in cc)
cell_head (v ∷ vs) q c is = head_by q c v vs (is_same_key q (key_of v)) refl is (cell_head vs q c)

-- where a version comes: each head covers itself, and a head with the stamp of the version is
-- covered by it
pub record CanTake (x : Replica) (v : VersionValue) : Type 0 where
  pub own : (c : VersionValue) → Among c x.content.heads → CoversItself c
  pub one : (c : VersionValue) → Among c x.content.heads → c.head.stamp ≡ v.head.stamp → covers_version v.head.vector c ≡ true

at_own_by : (v w : VersionValue) (vs : List VersionValue) → All (Before v) vs → (w ≡ v) ⊎ Among w vs → (Among w vs → (Before v w) × (cell_at vs (key_of w) ≡ Some w)) → cell_at (v ∷ vs) (key_of w) ≡ Some w
at_own_by v w vs h m rest = elim m [
  | inl same ↦ ap (λ c. cond c (Some v) (cell_at vs (key_of w))) (ap (λ x. is_same_key (key_of x) (key_of v)) same ∙ is_same_key-refl (key_of v)) ∙ ap Some (sym same)
  | inr later ↦ let r = rest later in ap (λ c. cond c (Some v) (cell_at vs (key_of w))) (key_before v.head.stamp w.head.stamp r.0) ∙ r.1
]

all_among : (P : VersionValue → Type 0) (vs : List VersionValue) (v : VersionValue) → All P vs → Among v vs → P v
all_among P [] v h k = absurd k
all_among P (w ∷ vs) v h k = elim k [
  | inl same ↦ subst P (sym same) (All-head P w vs h)
  | inr later ↦ all_among P vs v (All-tail P w vs h) later
]

-- where no two heads have one stamp, each is the cell at its own key
pub head_at : (vs : List VersionValue) (w : VersionValue) → InStrictOrder vs → Among w vs → cell_at vs (key_of w) ≡ Some w
head_at [] w h m = absurd m
head_at (v ∷ vs) w h m = at_own_by v w vs h.0 m (λ later. (all_among (Before v) vs w h.0 later, head_at vs w h.1 later))
