-- Heads stay in the order of their stamps, no two with one stamp.
use Rattle.std.proofs.Common.{◌≡◌, ℕ, Bool, true, false, cond, not, List, [], ◌∷◌, refl, sym, ap, subst, ◌∙◌, inl, inr, ◌⊎◌, All}
use Rattle.std.specs.List.{filter}
use Rattle.std.proofs.lemmas.List.Elements.{All-nil, All-cons, All-head, All-tail}
use Rattle.pg_base.specs.declared.stamp.Stamp.{Stamp}
use Rattle.pg_base.specs.declared.vector.Actor.{Actor}
use Rattle.pg_patch.specs.Ranges.{RangesValue}
use Rattle.pg_base.specs.Version.{VersionValue}
use Rattle.pg_content.specs.Content.{Among, covers_version, put_version, next_version}
use Rattle.pg_content.specs.StandsFor.{InStrictOrder}
use Rattle.pg_content.proofs.StrictOrder.{InStrictOrder-inserted}
use Rattle.pg_replica.specs.declared.replica.Replica.{Replica}
use Rattle.pg_replica.specs.Replica.{covers, with_head, with_version, with_write}
use Rattle.pg_replica.proofs.Cells.{Before}
use Rattle.pg_replica.proofs.Growth.{CanTake}

-- ---- of heads in their order, some go

module _ (keeps : VersionValue → Bool) where
  before_by : (u w : VersionValue) (ws : List VersionValue) (b : Bool) → Before u w → All (Before u) (filter keeps ws) → All (Before u) (cond b (w ∷ filter keeps ws) (filter keeps ws))
  before_by u w ws true h k = All-cons (Before u) w (filter keeps ws) h k
  before_by u w ws false h k = k

  before_left : (u : VersionValue) (ws : List VersionValue) → All (Before u) ws → All (Before u) (filter keeps ws)
  before_left u [] h = h
  before_left u (w ∷ ws) h = before_by u w ws (keeps w) (All-head (Before u) w ws h) (before_left u ws (All-tail (Before u) w ws h))

  order_by : (w : VersionValue) (ws : List VersionValue) (b : Bool) → InStrictOrder (w ∷ ws) → InStrictOrder (filter keeps ws) → InStrictOrder (cond b (w ∷ filter keeps ws) (filter keeps ws))
  order_by w ws true h k = (before_left w ws h.0, k)
  order_by w ws false h k = k

  order_left : (ws : List VersionValue) → InStrictOrder ws → InStrictOrder (filter keeps ws)
  order_left [] h = tt
  order_left (w ∷ ws) h = order_by w ws (keeps w) h (order_left ws h.1)

module _ (test : VersionValue → Bool) (w : VersionValue) where
  among_by : (v : VersionValue) (vs : List VersionValue) (b : Bool) → test v ≡ b → (Among w (filter (λ h. not (test h)) vs) → Among w vs × (test w ≡ false))
      → Among w (cond (not b) (v ∷ filter (λ h. not (test h)) vs) (filter (λ h. not (test h)) vs)) → ((w ≡ v) ⊎ Among w vs) × (test w ≡ false)
  among_by v vs true e rest m = let r = rest m in (inr r.0, r.1)
  among_by v vs false e rest m = elim m [
    | inl same ↦ (inl same, ap test same ∙ e)
    | inr later ↦ (let r = rest later in (inr r.0, r.1))
  ]

  -- what stays was there, and does not pass the test
  among_left : (vs : List VersionValue) → Among w (filter (λ h. not (test h)) vs) → Among w vs × (test w ≡ false)
  among_left [] m = absurd m
  among_left (v ∷ vs) m = among_by v vs (test v) refl (among_left vs) m

-- ---- what is kept

module _ (x : Replica) (v : VersionValue) where
  put_order : InStrictOrder x.content.heads → CanTake x v → InStrictOrder (put_version x.content.heads v)
  put_order order can =
      InStrictOrder-inserted v (filter (λ h. not (covers_version v.head.vector h)) x.content.heads)
      (λ w m e. (let r = among_left (covers_version v.head.vector) w x.content.heads m in let z : true ≡ false = sym (can.one w r.0 (sym e)) ∙ r.1 in cc))
      (order_left (λ h. not (covers_version v.head.vector h)) x.content.heads order)

  order_after : (t : ℕ) (s : Bool) → covers x v ≡ s → InStrictOrder x.content.heads → CanTake x v → InStrictOrder (cond s x (with_head x v t)).content.heads
  order_after t true e order can = order
  order_after t false e order can = subst InStrictOrder (sym (ap (λ b. cond b x.content.heads (put_version x.content.heads v)) e)) (put_order order can)

  -- a version comes
  pub version_order : (t : ℕ) → InStrictOrder x.content.heads → CanTake x v → InStrictOrder (with_version x v t).content.heads
  version_order t order can = order_after t (covers x v) refl order can

-- a write leaves one head
pub write_order : (x : Replica) (actor : Actor) (stamp : Stamp) (ranges : RangesValue) (t : ℕ) → InStrictOrder (with_write x actor stamp ranges t).content.heads
write_order x actor stamp ranges t = (All-nil (Before (next_version x.content actor stamp ranges)), tt)
