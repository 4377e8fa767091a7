-- Many replicas of one server are changed at once.
use Rattle.std.proofs.Common.{ℕ, ◌≡◌, ◌<◌, ◌≤◌, true, Option, None, Some, refl, sym, ap, ◌∙◌, inl, inr, arith, ◌⊎◌}
use Rattle.pg_base.specs.declared.id.FileId.{FileId}
use Rattle.pg_edges.specs.declared.key.Key.{Key}
use Rattle.pg_edges.specs.Edges.{is_listed, tag_at}
use Rattle.theory_flood.specs.Server.{Replica, Slot, tag_on, HoldsAll}
use Rattle.theory_flood.specs.Protocol.{Protocol, IsOrdered, tags_of, tag, Has, Covers}
use Rattle.theory_flood.proofs.Draws.{IsFreshAt, IsAsBefore}
use Rattle.theory_flood.proofs.Servers.{has_none, has_parts, there_parts}
use Rattle.theory_flood.proofs.Steps.{IsSamePlace, HasSoundTags, OverStays, Steps}

module _ {N M C : Type 0} (p : Protocol N M C) where
  -- A replica before and after, where the tags from t on and below u are given out: each key that
  -- has a cell has such a tag, or is as it was, and no other tags are new. It holds no less than
  -- before
  pub record Goes (t u : ℕ) (x y : Replica C) : Type 0 where
    pub birth : y.birth ≡ x.birth
    pub brings : (peer birth : ℕ) (key : Key) (g : ℕ) → tag_at y.edges peer birth key ≡ Some g → (tag_at x.edges peer birth key ≡ Some g) ⊎ ((t ≤ g) × (g < u))
    pub slots : (peer birth : ℕ) (key : Key) (c : C) → is_listed y.edges peer birth ≡ true → y.cells key ≡ Some c → IsFreshAt t y.edges peer birth key ⊎ IsAsBefore x y peer birth key c
    pub holds : HoldsAll p.IsUpTo x.cells y.cells

  -- the same of what a server has of a file: no replica comes or goes
  abbrev pub GoesIf : ℕ → ℕ → Option (Replica C) → Option (Replica C) → Type 0
  GoesIf t u None None = Unit {0}
  GoesIf t u None (Some y) = ⊥
  GoesIf t u (Some x) None = ⊥
  GoesIf t u (Some x) (Some y) = Goes t u x y

  -- so each replica of a server, and then each tag stands once
  pub record AllGo (a b : N) : Type 0 where
    pub up : tags_of p a ≤ tags_of p b
    pub files : (file : FileId) → GoesIf (tags_of p a) (tags_of p b) ((p.see a).replicas file) ((p.see b).replicas file)
    pub single : HasSoundTags p a → (q r : Slot) (g : ℕ) → tag p b q ≡ Some g → tag p b r ≡ Some g → IsSamePlace q r
    pub over : OverStays p a b

  abbrev At : N → N → Slot → Option (Replica C) → Option (Replica C) → Type 0
  At a b q o n = ((p.see a).replicas q.file ≡ o) × ((p.see b).replicas q.file ≡ n) × GoesIf (tags_of p a) (tags_of p b) o n

  bulk_covers : IsOrdered p → (a b : N) → OverStays p a b → (q : Slot) (c : C) (o n : Option (Replica C)) → At a b q o n → Covers p a q c → Covers p b q c
  bulk_covers k a b over q c o n w (inr h) = inr (over.over q.file q.birth c h)
  bulk_covers k a b over q c None n w (inl h) = absurd (let t = h.0 in let z : None ≡ Some t.replica = sym w.0 ∙ t.is in cc)
  bulk_covers k a b over q c (Some x) None w (inl h) = absurd w.2
  bulk_covers k a b over q c (Some x) (Some y) w (inl h) =
      let t = there_parts p.IsUpTo (p.see a) q c x w.0 h.0 in
      let old = t.1 in
      let new = w.2.holds old.key old.cell old.is in
      inl (record { replica = y; is = w.1; other = w.2.birth ∙ t.0; holds = record { key = new.key; cell = new.cell; is = new.is; upto = k.further c old.cell new.cell old.upto new.upto } }, over.taken q.file q.birth c h.1)

  bulk_slots : (a b : N) (q : Slot) (c : C) (o n : Option (Replica C)) → At a b q o n → Has p b q c
      → ((g : ℕ) × (tag p b q ≡ Some g) × (tags_of p a ≤ g)) ⊎ (Has p a q c × (tag p b q ≡ tag p a q))
  bulk_slots a b q c o None w h = absurd (has_none (p.see b) q c w.1 h)
  bulk_slots a b q c None (Some y) w h = absurd w.2
  bulk_slots a b q c (Some x) (Some y) w h =
      let t = has_parts (p.see b) q c y w.1 h in
      let old = ap (λ o. tag_on o q) w.0 in
      let new = ap (λ o. tag_on o q) w.1 in
      elim (w.2.slots q.peer q.birth q.key c t.1 t.2) [
        | inl f ↦ inl (f.0, new ∙ f.1, f.2)
        | inr r ↦ inr (record { replica = x; is = w.0; own = sym w.2.birth ∙ t.0; listed = r.0; cell = r.1 }, new ∙ r.2 ∙ sym old)
      ]

  -- a tag that stands stood there, or is new
  bulk_brings : (a b : N) (q : Slot) (g : ℕ) (o n : Option (Replica C)) → At a b q o n → tag p b q ≡ Some g → (tag p a q ≡ Some g) ⊎ (g < tags_of p b)
  bulk_brings a b q g o None w h = absurd (let z : None ≡ Some g = sym (ap (λ o. tag_on o q) w.1) ∙ h in cc)
  bulk_brings a b q g None (Some y) w h = absurd w.2
  bulk_brings a b q g (Some x) (Some y) w h =
      elim (w.2.brings q.peer q.birth q.key g (sym (ap (λ o. tag_on o q) w.1) ∙ h)) [
        | inl z ↦ inl (ap (λ o. tag_on o q) w.0 ∙ z)
        | inr z ↦ inr z.1
      ]

  bulk_below : (a b : N) → tags_of p a ≤ tags_of p b → HasSoundTags p a → (q : Slot) (g : ℕ) → (tag p a q ≡ Some g) ⊎ (g < tags_of p b) → g < tags_of p b
  bulk_below a b up k q g (inl old) = let lt = k.below q g old in omega arith
  bulk_below a b up k q g (inr new) = new

  -- ALL REPLICAS ARE CHANGED AT ONCE, and hold no less than before
  pub bulk_steps : IsOrdered p → (a b : N) → AllGo a b → Steps p a b
  bulk_steps sound a b k =
      let at : (q : Slot) → At a b q ((p.see a).replicas q.file) ((p.see b).replicas q.file) = λ q. (refl, refl, k.files q.file) in
      record {
        moves = record {
          tags_up = k.up;
          covers = λ q c h. bulk_covers sound a b k.over q c _ _ (at q) h;
          slots = λ q c h. bulk_slots a b q c _ _ (at q) h;
        };
        tags = λ s. record {
          below = λ q g h. bulk_below a b k.up s q g (bulk_brings a b q g _ _ (at q) h);
          single = k.single s;
        };
      }
