-- What stands in a server's replicas before and after a change of one of them.
use Rattle.std.proofs.Common.{ℕ, ◌≡◌, Bool, true, false, Option, None, Some, refl, sym, ap, subst, ◌∙◌, inl, inr, ◌⊎◌}
use Rattle.pg_base.specs.declared.id.FileId.{FileId}
use Rattle.pg_base.specs.Id.{is_same_file}
use Rattle.pg_base.proofs.Orders.{is_same_file-true}
use Rattle.pg_edges.specs.declared.key.Key.{Key}
use Rattle.pg_edges.specs.Edges.{is_listed}
use Rattle.theory_flood.specs.Server.{Replica, Server, Slot, HasCell, Holds, HoldsThere}

-- what is found twice is one thing
pub some_same : {A : Type 0} (x y : A) → Some x ≡ Some y → x ≡ y
some_same x y e = cc

pub slot_of_parts : (f f' : FileId) (o o' t t' b b' : ℕ) (k k' : Key) → f ≡ f' → o ≡ o' → t ≡ t' → b ≡ b' → k ≡ k'
    → ◌≡◌ {A = Slot} (record { file = f; own = o; peer = t; birth = b; key = k }) (record { file = f'; own = o'; peer = t'; birth = b'; key = k' })
slot_of_parts f f' o o' t t' b b' k k' d e h i j = cc

module _ {C : Type 0} where
  -- no other file's replica changes
  abbrev pub OthersStay : Server C → Server C → FileId → Type 0
  OthersStay a b file = (f : FileId) → is_same_file f file ≡ false → b.replicas f ≡ a.replicas f

  -- a file is the one that changed, and these are its replicas before and after; or its replica
  -- stayed
  abbrev pub AtFile : Server C → Server C → FileId → Option (Replica C) → Option (Replica C) → FileId → Type 0
  AtFile a b file o n f = ((f ≡ file) × (a.replicas f ≡ o) × (b.replicas f ≡ n)) ⊎ (b.replicas f ≡ a.replicas f)

  by_test : (a b : Server C) (file : FileId) (o n : Option (Replica C)) → a.replicas file ≡ o → b.replicas file ≡ n → OthersStay a b file → (f : FileId) (s : Bool) → is_same_file f file ≡ s → AtFile a b file o n f
  by_test a b file o n old new others f true e = let same = is_same_file-true f file e in inl (same, ap a.replicas same ∙ old, ap b.replicas same ∙ new)
  by_test a b file o n old new others f false e = inr (others f e)

  pub by_file : (a b : Server C) (file : FileId) (o n : Option (Replica C)) → a.replicas file ≡ o → b.replicas file ≡ n → OthersStay a b file → (f : FileId) → AtFile a b file o n f
  by_file a b file o n old new others f = by_test a b file o n old new others f (is_same_file f file) refl

  -- what stands in the replica of a slot's file
  pub has_parts : (a : Server C) (q : Slot) (c : C) (x : Replica C) → a.replicas q.file ≡ Some x → HasCell a q c → (x.birth ≡ q.own) × (is_listed x.edges q.peer q.birth ≡ true) × (x.cells q.key ≡ Some c)
  has_parts a q c x e h =
      let P : Replica C → Type 0 = (λ z. (z.birth ≡ q.own) × (is_listed z.edges q.peer q.birth ≡ true) × (z.cells q.key ≡ Some c)) in
      subst P (some_same h.replica x (sym h.is ∙ e)) (h.own, h.listed, h.cell)

  pub there_parts : (IsUpTo : C → C → Type 0) (a : Server C) (q : Slot) (c : C) (x : Replica C) → a.replicas q.file ≡ Some x → HoldsThere IsUpTo a q c → (x.birth ≡ q.birth) × Holds IsUpTo x.cells c
  there_parts IsUpTo a q c x e h =
      let P : Replica C → Type 0 = (λ z. (z.birth ≡ q.birth) × Holds IsUpTo z.cells c) in
      subst P (some_same h.replica x (sym h.is ∙ e)) (h.other, h.holds)

  pub has_none : (a : Server C) (q : Slot) (c : C) → a.replicas q.file ≡ None → HasCell a q c → ⊥
  has_none a q c e h = let w : None ≡ Some h.replica = sym e ∙ h.is in cc

  pub has_same : (a b : Server C) (q : Slot) (c : C) → b.replicas q.file ≡ a.replicas q.file → HasCell b q c → HasCell a q c
  has_same a b q c e h = record { replica = h.replica; is = sym e ∙ h.is; own = h.own; listed = h.listed; cell = h.cell }

  pub there_same : (IsUpTo : C → C → Type 0) (a b : Server C) (q : Slot) (c : C) → b.replicas q.file ≡ a.replicas q.file → HoldsThere IsUpTo a q c → HoldsThere IsUpTo b q c
  there_same IsUpTo a b q c e h = record { replica = h.replica; is = e ∙ h.is; other = h.other; holds = h.holds }
