-- One replica is changed, or none.
use Rattle.std.proofs.Common.{ℕ, ◌≡◌, ◌<◌, ◌≤◌, Some, sym, ap, ◌∙◌, inl, inr, arith, ◌⊎◌}
use Rattle.pg_base.specs.declared.id.FileId.{FileId}
use Rattle.theory_flood.specs.Server.{Replica, Slot, slot, tag_on, HoldsAll}
use Rattle.theory_flood.specs.Protocol.{Protocol, IsOrdered, tags_of, tag, Has, Covers}
use Rattle.theory_flood.proofs.Servers.{OthersStay, AtFile, by_file, has_parts, there_parts, has_same, there_same}
use Rattle.theory_flood.proofs.Steps.{IsSamePlace, HasSoundTags, fewer_tags, OverStays, Steps}
use Rattle.theory_flood.proofs.Draws.{Draws, Draws-below}
use Rattle.theory_flood.proofs.Single.{IsBelow, IsSingle}

module _ {N M C : Type 0} (p : Protocol N M C) where
  file_covers : IsOrdered p → (a b : N) (file : FileId) (x y : Replica C) → y.birth ≡ x.birth → HoldsAll p.IsUpTo x.cells y.cells → OverStays p a b → (q : Slot) (c : C)
      → AtFile (p.see a) (p.see b) file (Some x) (Some y) q.file → Covers p a q c → Covers p b q c
  file_covers k a b file x y same grows over q c w (inr o) = inr (over.over q.file q.birth c o)
  file_covers k a b file x y same grows over q c (inl w) (inl h) =
      let t = there_parts p.IsUpTo (p.see a) q c x w.1 h.0 in
      let old = t.1 in
      let new = grows old.key old.cell old.is in
      inl (record { replica = y; is = w.2; other = same ∙ t.0; holds = record { key = new.key; cell = new.cell; is = new.is; upto = k.further c old.cell new.cell old.upto new.upto } }, over.taken q.file q.birth c h.1)
  file_covers k a b file x y same grows over q c (inr w) (inl h) = inl (there_same p.IsUpTo (p.see a) (p.see b) q c w h.0, over.taken q.file q.birth c h.1)

  file_slots : (a b : N) (file : FileId) (x y : Replica C) → Draws (tags_of p a) x (tags_of p b) y → (q : Slot) (c : C)
      → AtFile (p.see a) (p.see b) file (Some x) (Some y) q.file → Has p b q c
      → ((g : ℕ) × (tag p b q ≡ Some g) × (tags_of p a ≤ g)) ⊎ (Has p a q c × (tag p b q ≡ tag p a q))
  file_slots a b file x y d q c (inl w) h =
      let t = has_parts (p.see b) q c y w.2 h in
      let old = ap (λ o. tag_on o q) w.1 in
      let new = ap (λ o. tag_on o q) w.2 in
      elim (d.slots q.peer q.birth q.key c t.1 t.2) [
        | inl f ↦ inl (f.0, new ∙ f.1, f.2)
        | inr r ↦ inr (record { replica = x; is = w.1; own = sym d.birth ∙ t.0; listed = r.0; cell = r.1 }, new ∙ r.2 ∙ sym old)
      ]
  file_slots a b file x y d q c (inr w) h = inr (has_same (p.see a) (p.see b) q c w h, ap (λ o. tag_on o q) w)

  -- the tags of one replica, of all that stand at a server
  replica_below : (a : N) (file : FileId) (x : Replica C) → (p.see a).replicas file ≡ Some x → HasSoundTags p a → IsBelow (tags_of p a) x.edges
  replica_below a file x old k peer birth key g h = k.below (slot file 0 peer birth key) g (ap (λ o. tag_on o (slot file 0 peer birth key)) old ∙ h)

  replica_single : (a : N) (file : FileId) (x : Replica C) → (p.see a).replicas file ≡ Some x → HasSoundTags p a → IsSingle x.edges
  replica_single a file x old k p1 b1 p2 b2 k1 k2 g h i =
      let same = k.single (slot file 0 p1 b1 k1) (slot file 0 p2 b2 k2) g (ap (λ o. tag_on o (slot file 0 p1 b1 k1)) old ∙ h) (ap (λ o. tag_on o (slot file 0 p2 b2 k2)) old ∙ i) in
      (same.1, same.2, same.3)

  -- a tag that stands in the replica that changed, and one that stands elsewhere
  new_and_old : (a b : N) (file : FileId) (x y : Replica C) → Draws (tags_of p a) x (tags_of p b) y → HasSoundTags p a → (q r : Slot) (g : ℕ) → (p.see a).replicas q.file ≡ Some x → (p.see b).replicas q.file ≡ Some y
      → tag p b q ≡ Some g → tag p a r ≡ Some g → IsSamePlace q r
  new_and_old a b file x y d k q r g old new h i = elim (d.brings q.peer q.birth q.key g (sym (ap (λ o. tag_on o q) new) ∙ h)) [
    | inl z ↦ k.single q r g (ap (λ o. tag_on o q) old ∙ z) i
    | inr z ↦ absurd (let lt = k.below r g i in let le = z.0 in omega arith)
  ]

  file_single : (a b : N) (file : FileId) (x y : Replica C) → (p.see a).replicas file ≡ Some x → Draws (tags_of p a) x (tags_of p b) y → HasSoundTags p a → (q r : Slot) (g : ℕ)
      → AtFile (p.see a) (p.see b) file (Some x) (Some y) q.file → AtFile (p.see a) (p.see b) file (Some x) (Some y) r.file → tag p b q ≡ Some g → tag p b r ≡ Some g → IsSamePlace q r
  file_single a b file x y here d k q r g (inl w) (inl v) h i =
      let same = d.single (replica_below a file x here k) (replica_single a file x here k) q.peer q.birth r.peer r.birth q.key r.key g (sym (ap (λ o. tag_on o q) w.2) ∙ h) (sym (ap (λ o. tag_on o r) v.2) ∙ i) in
      (w.0 ∙ sym v.0, same.0, same.1, same.2)
  file_single a b file x y here d k q r g (inl w) (inr v) h i = new_and_old a b file x y d k q r g w.1 w.2 h (sym (ap (λ o. tag_on o r) v) ∙ i)
  file_single a b file x y here d k q r g (inr w) (inl v) h i =
      let same = new_and_old a b file x y d k r q g v.1 v.2 i (sym (ap (λ o. tag_on o q) w) ∙ h) in
      (sym same.0, sym same.1, sym same.2, sym same.3)
  file_single a b file x y here d k q r g (inr w) (inr v) h i = k.single q r g (sym (ap (λ o. tag_on o q) w) ∙ h) (sym (ap (λ o. tag_on o r) v) ∙ i)

  file_below : (a b : N) (file : FileId) (x y : Replica C) → (p.see a).replicas file ≡ Some x → Draws (tags_of p a) x (tags_of p b) y → HasSoundTags p a → (q : Slot) (g : ℕ)
      → AtFile (p.see a) (p.see b) file (Some x) (Some y) q.file → tag p b q ≡ Some g → g < tags_of p b
  file_below a b file x y here d k q g (inl w) h = Draws-below d (replica_below a file x here k) q.peer q.birth q.key g (sym (ap (λ o. tag_on o q) w.2) ∙ h)
  file_below a b file x y here d k q g (inr w) h =
      let up = d.up in
      let lt = k.below q g (sym (ap (λ o. tag_on o q) w) ∙ h) in
      omega arith

  -- one replica is changed, and holds no less than before
  pub file_steps : IsOrdered p → (a b : N) (file : FileId) (x y : Replica C) → (p.see a).replicas file ≡ Some x → (p.see b).replicas file ≡ Some y
      → Draws (tags_of p a) x (tags_of p b) y → HoldsAll p.IsUpTo x.cells y.cells → OthersStay (p.see a) (p.see b) file → OverStays p a b → Steps p a b
  file_steps sound a b file x y old new d grows others over =
      let split = by_file (p.see a) (p.see b) file (Some x) (Some y) old new others in
      record {
        moves = record {
          tags_up = d.up;
          covers = λ q c h. file_covers sound a b file x y d.birth grows over q c (split q.file) h;
          slots = λ q c h. file_slots a b file x y d q c (split q.file) h;
        };
        tags = λ k. record {
          below = λ q g h. file_below a b file x y old d k q g (split q.file) h;
          single = λ q r g h i. file_single a b file x y old d k q r g (split q.file) (split r.file) h i;
        };
      }

  -- no replica is changed
  pub idle_steps : (a b : N) → ((f : FileId) → (p.see b).replicas f ≡ (p.see a).replicas f) → tags_of p a ≤ tags_of p b → OverStays p a b → Steps p a b
  idle_steps a b same up over = record {
    moves = record {
      tags_up = up;
      covers = λ q c h. elim h [ inl t ↦ inl (there_same p.IsUpTo (p.see a) (p.see b) q c (same q.file) t.0, over.taken q.file q.birth c t.1) | inr o ↦ inr (over.over q.file q.birth c o) ];
      slots = λ q c h. inr (has_same (p.see a) (p.see b) q c (same q.file) h, ap (λ o. tag_on o q) (same q.file));
    };
    tags = fewer_tags p a b up (λ q g h. sym (ap (λ o. tag_on o q) (same q.file)) ∙ h);
  }
