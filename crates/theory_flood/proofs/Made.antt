-- A replica is made.
use Rattle.std.proofs.Common.{ℕ, ◌≡◌, ◌<◌, ◌≤◌, true, false, [], None, Some, sym, ap, ◌∙◌, inl, inr, arith, ◌⊎◌}
use Rattle.pg_base.specs.declared.id.FileId.{FileId}
use Rattle.pg_edges.specs.declared.key.Key.{Key}
use Rattle.pg_edges.specs.Edges.{is_listed, tag_at}
use Rattle.theory_flood.specs.Server.{Replica, Slot, tag_on}
use Rattle.theory_flood.specs.Protocol.{Protocol, tags_of, tag, Has, Covers}
use Rattle.theory_flood.proofs.Draws.{Draws, Draws-below}
use Rattle.theory_flood.proofs.Servers.{OthersStay, AtFile, by_file, has_parts, has_same, there_same}
use Rattle.theory_flood.proofs.Steps.{IsSamePlace, HasSoundTags, OverStays, Steps}
use Rattle.theory_flood.proofs.Single.{IsBelow, IsSingle}

module _ {C : Type 0} where
  -- on no edge no tag stands
  no_tag : (x : Replica C) → x.edges ≡ [] → (p b : ℕ) (k : Key) (g : ℕ) → tag_at x.edges p b k ≡ Some g → ⊥
  no_tag x none p b k g h = let z : None ≡ Some g = sym (ap (λ es. tag_at es p b k) none) ∙ h in cc

  none_below : (x : Replica C) (t : ℕ) → x.edges ≡ [] → IsBelow t x.edges
  none_below x t none p b k g h = absurd (no_tag x none p b k g h)

  none_single : (x : Replica C) → x.edges ≡ [] → IsSingle x.edges
  none_single x none p b p' b' k k' g h h' = absurd (no_tag x none p b k g h)

module _ {N M C : Type 0} (p : Protocol N M C) where
  made_covers : (a b : N) (file : FileId) (y : Replica C) → OverStays p a b → (q : Slot) (c : C) → AtFile (p.see a) (p.see b) file None (Some y) q.file → Covers p a q c → Covers p b q c
  made_covers a b file y over q c w (inr o) = inr (over.over q.file q.birth c o)
  made_covers a b file y over q c (inl w) (inl h) = absurd (let t = h.0 in let z : None ≡ Some t.replica = sym w.1 ∙ t.is in cc)
  made_covers a b file y over q c (inr w) (inl h) = inl (there_same p.IsUpTo (p.see a) (p.see b) q c w h.0, over.taken q.file q.birth c h.1)

  made_slots : (a b : N) (file : FileId) (x y : Replica C) → x.edges ≡ [] → Draws (tags_of p a) x (tags_of p b) y → (q : Slot) (c : C) → AtFile (p.see a) (p.see b) file None (Some y) q.file → Has p b q c
      → ((g : ℕ) × (tag p b q ≡ Some g) × (tags_of p a ≤ g)) ⊎ (Has p a q c × (tag p b q ≡ tag p a q))
  made_slots a b file x y none d q c (inl w) h =
      let t = has_parts (p.see b) q c y w.2 h in
      elim (d.slots q.peer q.birth q.key c t.1 t.2) [
        | inl f ↦ inl (f.0, ap (λ o. tag_on o q) w.2 ∙ f.1, f.2)
        | inr r ↦ absurd (let z : false ≡ true = sym (ap (λ es. is_listed es q.peer q.birth) none) ∙ r.0 in cc)
      ]
  made_slots a b file x y none d q c (inr w) h = inr (has_same (p.see a) (p.see b) q c w h, ap (λ o. tag_on o q) w)

  made_below : (a b : N) (file : FileId) (x y : Replica C) → x.edges ≡ [] → Draws (tags_of p a) x (tags_of p b) y → HasSoundTags p a → (q : Slot) (g : ℕ) → AtFile (p.see a) (p.see b) file None (Some y) q.file
      → tag p b q ≡ Some g → g < tags_of p b
  made_below a b file x y none d k q g (inl w) h = Draws-below d (none_below x (tags_of p a) none) q.peer q.birth q.key g (sym (ap (λ o. tag_on o q) w.2) ∙ h)
  made_below a b file x y none d k q g (inr w) h =
      let up = d.up in
      let lt = k.below q g (sym (ap (λ o. tag_on o q) w) ∙ h) in
      omega arith

  -- a tag of the new replica stood nowhere before
  made_new : (a b : N) (x y : Replica C) → x.edges ≡ [] → Draws (tags_of p a) x (tags_of p b) y → HasSoundTags p a → (q r : Slot) (g : ℕ) → (p.see b).replicas q.file ≡ Some y → tag p b q ≡ Some g → tag p a r ≡ Some g → ⊥
  made_new a b x y none d k q r g new h i = elim (d.brings q.peer q.birth q.key g (sym (ap (λ o. tag_on o q) new) ∙ h)) [
    | inl z ↦ no_tag x none q.peer q.birth q.key g z
    | inr z ↦ (let lt = k.below r g i in let le = z.0 in absurd (omega arith))
  ]

  made_single : (a b : N) (file : FileId) (x y : Replica C) → x.edges ≡ [] → Draws (tags_of p a) x (tags_of p b) y → HasSoundTags p a → (q r : Slot) (g : ℕ) → AtFile (p.see a) (p.see b) file None (Some y) q.file
      → AtFile (p.see a) (p.see b) file None (Some y) r.file → tag p b q ≡ Some g → tag p b r ≡ Some g → IsSamePlace q r
  made_single a b file x y none d k q r g (inl w) (inl v) h i =
      let same = d.single (none_below x (tags_of p a) none) (none_single x none) q.peer q.birth r.peer r.birth q.key r.key g (sym (ap (λ o. tag_on o q) w.2) ∙ h) (sym (ap (λ o. tag_on o r) v.2) ∙ i) in
      (w.0 ∙ sym v.0, same.0, same.1, same.2)
  made_single a b file x y none d k q r g (inl w) (inr v) h i = absurd (made_new a b x y none d k q r g w.2 h (sym (ap (λ o. tag_on o r) v) ∙ i))
  made_single a b file x y none d k q r g (inr w) (inl v) h i = absurd (made_new a b x y none d k r q g v.2 i (sym (ap (λ o. tag_on o q) w) ∙ h))
  made_single a b file x y none d k q r g (inr w) (inr v) h i = k.single q r g (sym (ap (λ o. tag_on o q) w) ∙ h) (sym (ap (λ o. tag_on o r) v) ∙ i)

  -- a replica without edges is made, and then changed, all in one step
  pub make_steps : (a b : N) (file : FileId) (x y : Replica C) → (p.see a).replicas file ≡ None → (p.see b).replicas file ≡ Some y → x.edges ≡ [] → Draws (tags_of p a) x (tags_of p b) y
      → OthersStay (p.see a) (p.see b) file → OverStays p a b → Steps p a b
  make_steps a b file x y old new none d others over =
      let split = by_file (p.see a) (p.see b) file None (Some y) old new others in
      record {
        moves = record {
          tags_up = d.up;
          covers = λ q c h. made_covers a b file y over q c (split q.file) h;
          slots = λ q c h. made_slots a b file x y none d q c (split q.file) h;
        };
        tags = λ k. record {
          below = λ q g h. made_below a b file x y none d k q g (split q.file) h;
          single = λ q r g h i. made_single a b file x y none d k q r g (split q.file) (split r.file) h i;
        };
      }
