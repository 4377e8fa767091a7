-- Chains of edges, joined and turned.
use Rattle.std.proofs.Common.{ℕ, List, [], ◌∷◌, ◌++◌, ◌≡◌, ◌⊎◌, inl, inr, sym, subst}
use Rattle.pg_run.specs.pg_base.declared.id.FileId.{FileId}
use Rattle.pg_run.specs.Graphs.{AreJoined, HasEdge, IsChain}
use Rattle.pg_run.specs.Run.{World}

module _ (w : World) (file : FileId) where
  pub turned : (s t : ℕ) → HasEdge w file s t → HasEdge w file t s
  turned s t e = record { here = e.there; there = e.here; names = e.named; named = e.names }

  chains : (us vs : List ℕ) (s u t : ℕ) → IsChain w file s us u → IsChain w file u vs t
      → IsChain w file s (us ++ u ∷ vs) t
  chains [] vs s u t a b = (a, b)
  chains (v ∷ us) vs s u t a b = (a.0, chains us vs v u t a.1 b)

  pub join : (s u t : ℕ) → AreJoined w file s u → AreJoined w file u t → AreJoined w file s t
  join s u t a b = (a.0 ++ u ∷ b.0, chains a.0 b.0 s u t a.1 b.1)

  pub one : (s t : ℕ) → HasEdge w file s t → AreJoined w file s t
  one s t e = ([], e)

  turn : (us : List ℕ) (s t : ℕ) → IsChain w file s us t → AreJoined w file t s
  turn [] s t e = one t s (turned s t e)
  turn (u ∷ us) s t k = join t u s (turn us u t k.1) (one u s (turned s u k.0))

  -- the same, or joined
  abbrev pub AreOne : ℕ → ℕ → Type 0
  AreOne s t = (s ≡ t) ⊎ AreJoined w file s t

  pub back : (s t : ℕ) → AreOne s t → AreOne t s
  back s t (inl same) = inl (sym same)
  back s t (inr k) = inr (turn k.0 s t k.1)

  pub further : (s u t : ℕ) → AreOne s u → AreOne u t → AreOne s t
  further s u t (inl a) b = subst (λ i. AreOne i t) (sym a) b
  further s u t (inr a) (inl b) = inr (subst (AreJoined w file s) b a)
  further s u t (inr a) (inr b) = inr (join s u t a b)
