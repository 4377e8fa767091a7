-- A replica is dropped.
use Rattle.std.proofs.Common.{ℕ, ◌≡◌, ◌≤◌, None, Some, sym, ap, subst, ◌∙◌, inl, inr, ◌⊎◌}
use Rattle.pg_base.specs.declared.id.FileId.{FileId}
use Rattle.theory_flood.specs.Server.{Replica, Slot, tag_on, Holds}
use Rattle.theory_flood.specs.Protocol.{Protocol, tags_of, tag, Has, Covers}
use Rattle.theory_flood.proofs.Servers.{OthersStay, AtFile, by_file, there_parts, has_none, has_same, there_same}
use Rattle.theory_flood.proofs.Steps.{fewer_tags, OverStays, Steps}

module _ {N M C : Type 0} (p : Protocol N M C) where
  dropped_covers : (a b : N) (file : FileId) (x : Replica C) → OverStays p a b → ((c : C) → Holds p.IsUpTo x.cells c → p.Took a file x.birth c → p.IsOver b file x.birth c) → (q : Slot) (c : C)
      → AtFile (p.see a) (p.see b) file (Some x) None q.file → Covers p a q c → Covers p b q c
  dropped_covers a b file x over ended q c w (inr o) = inr (over.over q.file q.birth c o)
  dropped_covers a b file x over ended q c (inl w) (inl h) =
      let t = there_parts p.IsUpTo (p.see a) q c x w.1 h.0 in
      let P : FileId → Type 0 = (λ f. p.IsOver b f q.birth c) in
      let Q : ℕ → Type 0 = (λ n. p.IsOver b file n c) in
      let T : FileId → Type 0 = (λ f. p.Took a f q.birth c) in
      let U : ℕ → Type 0 = (λ n. p.Took a file n c) in
      inr (subst P (sym w.0) (subst Q t.0 (ended c t.1 (subst U (sym t.0) (subst T w.0 h.1)))))
  dropped_covers a b file x over ended q c (inr w) (inl h) = inl (there_same p.IsUpTo (p.see a) (p.see b) q c w h.0, over.taken q.file q.birth c h.1)

  dropped_slots : (a b : N) (file : FileId) (x : Replica C) (q : Slot) (c : C)
      → AtFile (p.see a) (p.see b) file (Some x) None q.file → Has p b q c
      → ((g : ℕ) × (tag p b q ≡ Some g) × (tags_of p a ≤ g)) ⊎ (Has p a q c × (tag p b q ≡ tag p a q))
  dropped_slots a b file x q c (inl w) h = absurd (has_none (p.see b) q c w.2 h)
  dropped_slots a b file x q c (inr w) h = inr (has_same (p.see a) (p.see b) q c w h, ap (λ o. tag_on o q) w)

  dropped_stood : (a b : N) (file : FileId) (x : Replica C) (q : Slot) (g : ℕ) → AtFile (p.see a) (p.see b) file (Some x) None q.file → tag p b q ≡ Some g → tag p a q ≡ Some g
  dropped_stood a b file x q g (inl w) h = absurd (let z : None ≡ Some g = sym (ap (λ o. tag_on o q) w.2) ∙ h in cc)
  dropped_stood a b file x q g (inr w) h = sym (ap (λ o. tag_on o q) w) ∙ h

  -- a replica is dropped, and with its birth over what it held and took counts as covered
  pub drop_steps : (a b : N) (file : FileId) (x : Replica C) → (p.see a).replicas file ≡ Some x → (p.see b).replicas file ≡ None → tags_of p a ≤ tags_of p b
      → OthersStay (p.see a) (p.see b) file → OverStays p a b → ((c : C) → Holds p.IsUpTo x.cells c → p.Took a file x.birth c → p.IsOver b file x.birth c) → Steps p a b
  drop_steps a b file x old new up others over ended =
      let split = by_file (p.see a) (p.see b) file (Some x) None old new others in
      record {
        moves = record {
          tags_up = up;
          covers = λ q c h. dropped_covers a b file x over ended q c (split q.file) h;
          slots = λ q c h. dropped_slots a b file x q c (split q.file) h;
        };
        tags = fewer_tags p a b up (λ q g h. dropped_stood a b file x q g (split q.file) h);
      }
