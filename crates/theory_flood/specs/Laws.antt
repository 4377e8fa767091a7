-- What holds wherever nothing is owed.
use Rattle.std.specs.Prelude.{ℕ, ◌≡◌, true, List, [], ◌∷◌, All, Some}
use Rattle.pg_base.specs.declared.id.FileId.{FileId}
use Rattle.pg_edges.specs.declared.edge.Edge.{Edge}
use Rattle.pg_edges.specs.Edges.{is_listed}
use Rattle.theory_flood.specs.Server.{Replica, HoldsAll}
use Rattle.theory_flood.specs.Protocol.{Protocol, IsSound, KeepsEdges}

-- no edge has an unacknowledged key
abbrev pub IsClean : List Edge → Type 0
IsClean es = All (λ e. e.keys ≡ []) es

module _ {N M C : Type 0} (p : Protocol N M C) where
  -- no message is under way, and no key of any replica is unacknowledged
  pub record IsQuiet (nodes : ℕ → N) (bag : List M) : Type 0 where
    pub silent : bag ≡ []
    pub owed :
        (s : ℕ) (file : FileId) (x : Replica C)
        → (p.see (nodes s)).replicas file ≡ Some x → IsClean x.edges

  -- two servers hold these replicas of the file, and each has an edge to the other's present birth
  pub record AreLinked (nodes : ℕ → N) (file : FileId) (s t : ℕ) (x y : Replica C) : Type 0 where
    pub one : (p.see (nodes s)).replicas file ≡ Some x
    pub two : (p.see (nodes t)).replicas file ≡ Some y
    pub there : is_listed x.edges t y.birth ≡ true
    pub back : is_listed y.edges s x.birth ≡ true

  -- a chain of such edges leads from one replica to the other
  abbrev pub AreConnected :
      (ℕ → N) → FileId → ℕ → Replica C → List (ℕ × Replica C) → ℕ → Replica C → Type 0
  AreConnected nodes file s x [] t y = AreLinked nodes file s t x y
  AreConnected nodes file s x (u ∷ us) t y =
      AreLinked nodes file s u.0 x u.1 × AreConnected nodes file u.0 u.1 us t y

  -- each holds what the other holds, or more
  abbrev pub Agree : Replica C → Replica C → Type 0
  Agree x y = HoldsAll p.IsUpTo x.cells y.cells × HoldsAll p.IsUpTo y.cells x.cells

  abbrev pub LinkedAgree : Type 0
  LinkedAgree =
      IsSound p → (nodes : ℕ → N) (bag : List M) → KeepsEdges p nodes bag → IsQuiet nodes bag
      → (file : FileId) (s t : ℕ) (x y : Replica C) → AreLinked nodes file s t x y → Agree x y

  abbrev pub ConnectedAgree : Type 0
  ConnectedAgree =
      IsSound p → (nodes : ℕ → N) (bag : List M) → KeepsEdges p nodes bag → IsQuiet nodes bag
      → (file : FileId) (between : List (ℕ × Replica C)) (s t : ℕ) (x y : Replica C)
      → AreConnected nodes file s x between t y → Agree x y
