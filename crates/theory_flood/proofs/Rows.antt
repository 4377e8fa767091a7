-- The premises of the laws can be met: servers 1 and 2 hold one cell of every file, with clean
-- edges to each other.
use Rattle.std.proofs.Common.{ℕ, ◌≡◌, subst, ◌≤◌, ◌==◌, Bool, true, false, cond, List, [], ◌∷◌, None, Some, is_some, refl, inl, arith}
use Rattle.std.proofs.lemmas.List.Elements.{All-nil, All-cons}
use Rattle.pg_base.specs.declared.id.FileId.{FileId}
use Rattle.pg_edges.specs.declared.key.Key.TheVariants.{Place}
use Rattle.pg_edges.specs.declared.edge.Edge.{Edge}
use Rattle.pg_edges.specs.Edges.{keys_if_born}
use Rattle.std.proofs.lemmas.Bool.{eqb-true}
use Rattle.theory_flood.specs.Promises.{Saying}
use Rattle.theory_flood.specs.Server.{Replica, Server, Slot, HasCell}
use Rattle.theory_flood.specs.Protocol.{Protocol, IsSound, KeepsEdges, Covers}
use Rattle.theory_flood.specs.Laws.{IsClean, IsQuiet, AreLinked}
use Rattle.theory_flood.proofs.Servers.{some_same, has_parts}
use Rattle.theory_flood.proofs.Worlds.{start_keeps}

abbrev first : Edge
first = record { peer = 1; birth = 1; keys = [] }

abbrev second : Edge
second = record { peer = 2; birth = 1; keys = [] }

abbrev edges : List Edge
edges = first ∷ second ∷ []

abbrev replica : Replica ℕ
replica = record { birth = 1; edges = edges; cells = λ k. Some 7 }

abbrev server : Server ℕ
server = record { tags = 1; replicas = λ f. Some replica }

abbrev numbers : Protocol (Server ℕ) (Saying Slot ℕ) ℕ
numbers = record { see = λ a. a; IsUpTo = λ a b. a ≤ b; IsOver = λ a f b c. ⊥; Took = λ a f b c. Unit {0}; says = λ m. m; Noted = λ a x. ⊥ }

sound : IsSound numbers
sound = record { order = record { same = λ c. omega arith; further = λ a b c h k. omega arith }; ends = λ a f b c x h. absurd h }

named : (b : ℕ) (u : Bool) → (1 == b) ≡ u → is_some (cond u (Some first.keys) None) ≡ true → 1 ≡ b
named b true e h = eqb-true 1 b e
named b false e h = absurd (let z : false ≡ true = h in cc)

born_by : (b : ℕ) (s t : Bool) → is_some (keys_if_born (cond s (Some first) (cond t (Some second) None)) b) ≡ true → 1 ≡ b
born_by b true t h = named b (1 == b) refl h
born_by b false true h = named b (1 == b) refl h
born_by b false false h = absurd (let z : false ≡ true = h in cc)

covered : (q : Slot) (c : ℕ) → HasCell server q c → Covers numbers server q c
covered q c h =
    let t = has_parts server q c replica refl h in
    inl (
      record {
        replica = replica;
        is = refl;
        other = born_by q.birth (1 == q.peer) (2 == q.peer) t.1;
        holds = record { key = Place; cell = 7; is = refl; upto = (let z : Some 7 ≡ Some c = t.2 in let e : 7 ≡ c = cc in omega arith) };
      },
      tt,
    )

kept : KeepsEdges numbers (λ s. server) []
kept = start_keeps numbers (λ s. server) (λ s q c h tag. covered q c h) (λ s x h. h)

quiet : IsQuiet numbers (λ s. server) []
quiet = record { silent = refl; owed = λ s f x e. (let P : Replica ℕ → Type 0 = (λ z. IsClean z.edges) in subst P (some_same replica x e) (All-cons (λ (z : Edge). z.keys ≡ []) first (second ∷ []) refl (All-cons (λ (z : Edge). z.keys ≡ []) second [] refl (All-nil (λ (z : Edge). z.keys ≡ []))))) }

linked : (file : FileId) → AreLinked numbers (λ s. server) file 1 2 replica replica
linked file = record { one = refl; two = refl; there = refl; back = refl }
