-- No key stands on an edge but a head's.
use Rattle.std.proofs.Common.{ℕ, ◌≡◌, Bool, true, false, cond, not, List, [], ◌∷◌, Option, None, Some, refl, sym, ap, subst, ◌∙◌, inl, inr, ◌⊎◌, All}
use Rattle.std.specs.List.{filter}
use Rattle.pg_base.specs.declared.stamp.Stamp.{Stamp}
use Rattle.pg_base.specs.declared.vector.Actor.{Actor}
use Rattle.pg_patch.specs.Ranges.{RangesValue}
use Rattle.pg_edges.specs.declared.key.Key.{Key}
use Rattle.pg_edges.specs.declared.edge.Edge.{Edge}
use Rattle.pg_edges.specs.Key.{is_same_key}
use Rattle.pg_edges.specs.Edges.{slot_at, tag_of, tag_at, touched, retired, acked}
use Rattle.pg_edges.specs.Laws.{acknowledged as off}
use Rattle.pg_edges.specs.Laws.Change.{Touch, Ack}
use Rattle.pg_edges.proofs.Orders.{is_same_key-true, is_same_key-refl}
use Rattle.pg_edges.proofs.Lookups.{retires}
use Rattle.pg_edges.proofs.Tags.{keeps_or_brings}
use Rattle.pg_base.specs.Version.{VersionValue}
use Rattle.pg_content.specs.Content.{Among, covers_version, put_version, next_version}
use Rattle.pg_content.proofs.Inserting.{inserted_among}
use Rattle.theory_flood.proofs.Worlds.{clean_tags}
use Rattle.pg_replica.specs.declared.replica.Replica.{Replica}
use Rattle.pg_replica.specs.Replica.{key_of, keys, cell_at, covers, covered_heads, without_keys, with_head, with_version, with_write, with_ack}
use Rattle.pg_replica.specs.Laws.{IsKeyOf, OnlyHeads, KeysAreHeads}

-- ---- keys that leave every edge

off_by : (b : Bool) (slot new : Option (Option ℕ)) (g : ℕ) → new ≡ cond b (off slot) slot → tag_of new ≡ Some g → (tag_of slot ≡ Some g) × (b ≡ false)
off_by true None new g e h = absurd (let z : None ≡ Some g = sym (ap tag_of e) ∙ h in cc)
off_by true (Some t) new g e h = absurd (let z : None ≡ Some g = sym (ap tag_of e) ∙ h in cc)
off_by false slot new g e h = (sym (ap tag_of e) ∙ h, refl)

-- a key that stands after one left every edge stood before, and is another one
retired_tag : (es : List Edge) (k q : Key) (p b g : ℕ) → tag_at (retired es k) p b q ≡ Some g → (tag_at es p b q ≡ Some g) × (q ≡ k → ⊥)
retired_tag es k q p b g h =
    let r = off_by (is_same_key q k) (slot_at es p b q) (slot_at (retired es k) p b q) g (retires es k p b q) h in
    (r.0, λ e. (let z : true ≡ false = sym (ap (λ x. is_same_key x k) e ∙ is_same_key-refl k) ∙ r.1 in cc))

pub left_tag : (ks : List Key) (es : List Edge) (q : Key) (p b g : ℕ) → tag_at (without_keys es ks) p b q ≡ Some g → (tag_at es p b q ≡ Some g) × (Among q ks → ⊥)
left_tag [] es q p b g h = (h, λ m. m)
left_tag (k ∷ ks) es q p b g h =
    let r = left_tag ks (retired es k) q p b g h in
    let t = retired_tag es k q p b g r.0 in
    (t.0, λ m. elim m [ inl e ↦ t.1 e | inr n ↦ r.1 n ])

-- ---- heads that stay

module _ (test : VersionValue → Bool) (q : Key) (w : VersionValue) where
  kept_by : (v : VersionValue) (vs : List VersionValue) (b : Bool) → q ≡ key_of w → (w ≡ v) ⊎ Among w vs
      → ((Among q (keys (filter test vs)) → ⊥) → Among w vs → Among w (filter (λ h. not (test h)) vs))
      → (Among q (keys (cond b (v ∷ filter test vs) (filter test vs))) → ⊥) → Among w (cond (not b) (v ∷ filter (λ h. not (test h)) vs) (filter (λ h. not (test h)) vs))
  kept_by v vs true is m rest none = elim m [
    | inl same ↦ absurd (none (inl (is ∙ ap key_of same)))
    | inr later ↦ rest (λ n. none (inr n)) later
  ]
  kept_by v vs false is m rest none = elim m [ inl same ↦ inl same | inr later ↦ inr (rest none later) ]

  -- a head whose key is that of none of the heads that go is none of them
  kept : (vs : List VersionValue) → q ≡ key_of w → (Among q (keys (filter test vs)) → ⊥) → Among w vs → Among w (filter (λ h. not (test h)) vs)
  kept [] is none m = absurd m
  kept (v ∷ vs) is none m = kept_by v vs (test v) is m (kept vs is) none

among_keys : (vs : List VersionValue) (w : VersionValue) (q : Key) → q ≡ key_of w → Among w vs → Among q (keys vs)
among_keys [] w q is m = m
among_keys (v ∷ vs) w q is m = elim m [ inl same ↦ inl (is ∙ ap key_of same) | inr later ↦ inr (among_keys vs w q is later) ]

-- ---- what is kept

module _ (es : List Edge) (heads : List VersionValue) (only : OnlyHeads es heads) where
  put_only : (v : VersionValue) (t : ℕ) → OnlyHeads (touched (without_keys es (keys (covered_heads heads v))) (key_of v) t) (put_version heads v)
  put_only v t p b q g h = elim (keeps_or_brings (Touch (key_of v) t) (without_keys es (keys (covered_heads heads v))) p b q g h) [
    | inl old ↦
        let r = left_tag (keys (covered_heads heads v)) es q p b g old in
        let k = only p b q g r.0 in
        let stays = kept (covers_version v.head.vector) q k.0 heads k.2 r.1 k.1 in
        (k.0, inserted_among k.0 v (filter (λ h. not (covers_version v.head.vector h)) heads) (inr stays), k.2)
    | inr new ↦ (v, inserted_among v v (filter (λ h. not (covers_version v.head.vector h)) heads) (inl refl), new.0)
  ]

  write_only : (v : VersionValue) (t : ℕ) → OnlyHeads (touched (without_keys es (keys heads)) (key_of v) t) (v ∷ [])
  write_only v t p b q g h = elim (keeps_or_brings (Touch (key_of v) t) (without_keys es (keys heads)) p b q g h) [
    | inl old ↦
        let r = left_tag (keys heads) es q p b g old in
        let k = only p b q g r.0 in
        absurd (r.1 (among_keys heads k.0 q k.2 k.1))
    | inr new ↦ (v, inl refl, new.0)
  ]

  ack_only : (peer birth : ℕ) (k : Key) (tag : ℕ) → OnlyHeads (acked es peer birth k tag) heads
  ack_only peer birth k tag p b q g h = elim (keeps_or_brings (Ack peer birth k tag) es p b q g h) [ inl old ↦ only p b q g old | inr r ↦ absurd r ]

module _ (x : Replica) where
  pub keys_start : All (λ (e : Edge). e.keys ≡ []) x.edges → KeysAreHeads x
  keys_start clean p b q g h = absurd (let z : None ≡ Some g = sym (clean_tags x.edges p b q clean) ∙ h in cc)

  join_by : (v : VersionValue) (t : ℕ) (s : Bool) → covers x v ≡ s → KeysAreHeads x → KeysAreHeads (cond s x (with_head x v t))
  join_by v t true e only p b q g h = only p b q g h
  join_by v t false e only p b q g h =
      let k = put_only x.edges x.content.heads only v t p b q g h in
      (k.0, (let P : List VersionValue → Type 0 = λ hs. Among k.0 hs in subst P (sym (ap (λ c. cond c x.content.heads (put_version x.content.heads v)) e)) k.1), k.2)

  pub keys_join : KeysAreHeads x → (v : VersionValue) (t : ℕ) → KeysAreHeads (with_version x v t)
  keys_join only v t = join_by v t (covers x v) refl only

  pub keys_write : KeysAreHeads x → (actor : Actor) (stamp : Stamp) (ranges : RangesValue) (t : ℕ) → KeysAreHeads (with_write x actor stamp ranges t)
  keys_write only actor stamp ranges t = write_only x.edges x.content.heads only (next_version x.content actor stamp ranges) t

  pub keys_answer : KeysAreHeads x → (peer birth : ℕ) (k : Key) (tag : ℕ) → KeysAreHeads (with_ack x peer birth k tag)
  keys_answer only peer birth k tag = ack_only x.edges x.content.heads only peer birth k tag

-- ---- the key of a head has a cell

head_cell_by : (v : VersionValue) (vs : List VersionValue) (q : Key) (b : Bool) → is_same_key q (key_of v) ≡ b → ((q ≡ key_of v → ⊥) → (w : VersionValue) × (cell_at vs q ≡ Some w) × (q ≡ key_of w))
    → (w : VersionValue) × (cond b (Some v) (cell_at vs q) ≡ Some w) × (q ≡ key_of w)
head_cell_by v vs q true e rest = (v, refl, is_same_key-true q (key_of v) e)
head_cell_by v vs q false e rest = rest (λ s. (let z : true ≡ false = sym (ap (λ x. is_same_key x (key_of v)) s ∙ is_same_key-refl (key_of v)) ∙ e in cc))

-- so on each edge each key has a cell
pub head_cell : (vs : List VersionValue) (q : Key) → IsKeyOf vs q → (w : VersionValue) × (cell_at vs q ≡ Some w) × (q ≡ key_of w)
head_cell [] q k = absurd k.1
head_cell (v ∷ vs) q k =
    head_cell_by v vs q (is_same_key q (key_of v)) refl (λ other. elim k.1 [
      | inl same ↦ absurd (other (k.2 ∙ ap key_of same))
      | inr later ↦ head_cell vs q (k.0, later, k.2)
    ])
