-- What a server holds of a file is of its history, whatever comes to it and whatever it makes.
use Rattle.std.proofs.Common.{◌≡◌, ◌⊎◌, Option, Some, List, [], ◌∷◌, ◌++◌, map, length, inl, inr, refl, sym, ap, subst, ◌∙◌, Bool, true, false, cond, not, ℕ}
use Rattle.std.specs.List.{filter}
use Rattle.std.proofs.lemmas.Bool.{cond_both}
use Rattle.pg_base.specs.declared.head.Head.{Head}
use Rattle.pg_base.specs.declared.id.FileId.{FileId}
use Rattle.pg_base.specs.declared.policy.Policy.{Policy}
use Rattle.pg_base.specs.declared.stamp.Stamp.{Stamp}
use Rattle.pg_base.specs.Version.{VersionValue, actor_of, stamp_of}
use Rattle.pg_patch.specs.Ranges.{RangesValue, applied}
use Rattle.pg_content.specs.Content.{Among, ContentValue, covers_version, is_covered, joined_all, joined_content, joined_version, next_length, next_vector, next_version, one_more, put_version, shown_bytes, version_with}
use Rattle.pg_content.specs.Covering.{AreVersionsOf}
use Rattle.pg_content.specs.History.{IsHistory, Made, body_of, maker, vector_of, version_of}
use Rattle.pg_content.specs.Shown.{shown}
use Rattle.pg_content.proofs.Inserting.{among_inserted}
use Rattle.pg_content.proofs.Members.{among_filter, map_map}
use Rattle.pg_content.proofs.Numbers.{vector_here}
use Rattle.pg_content.proofs.Stamps.{same_true}
use Rattle.pg_delta.specs.declared.delta.KeptDelta.{KeptDelta}
use Rattle.pg_delta.specs.Kept.{is_small, is_within, longest_end, with_delta}
use Rattle.pg_delta.specs.Leading.{AreTrueDeltas, IsTrueDelta, shown_of}
use Rattle.pg_delta.specs.Taking.{delta_to, patched_version, stamps_of, with_patched}
use Rattle.pg_delta.proofs.Leads.{true_made}
use Rattle.theory_bodies.specs.Book.{Book, GrowsTo, IsBook, IsHeadIn, IsVersionIn, body_in, version_in}
use Rattle.theory_bodies.specs.Protocol.{Holding, IsHoldingIn}
use Rattle.theory_bodies.specs.Rule.{HasBegun, HasWritten, IsFrom}
use Rattle.theory_bodies.proofs.Books.{delta_grows, grown_among, grown_version, head_length, whole_version}

-- ---- which heads and which deltas are there then

-- behind a join there is no head but the version and those before it
pub joined_among : (heads : List VersionValue) (v w : VersionValue) → Among w (joined_version heads v)
    → (w ≡ v) ⊎ Among w heads
joined_among heads v w l =
    let stays : VersionValue → Bool = λ h. not (covers_version v.head.vector h) in
    let P : List VersionValue → Type 0 = λ ws. Among w ws → (w ≡ v) ⊎ Among w heads in
    cond_both (is_covered heads (actor_of v.head) v.head.number) heads (put_version heads v) P
    (λ e k. inr k)
    (λ e k. elim (among_inserted w v (filter stays heads) k) [
      | inl put ↦ inl put
      | inr there ↦ inr (among_filter stays w heads there).0
    ])
    l

end_by : (t : Bool) (e : KeptDelta) (ds : List KeptDelta) (d : KeptDelta)
    → (Among d (longest_end ds) → Among d ds) → Among d (cond t (e ∷ ds) (longest_end ds))
    → Among d (e ∷ ds)
end_by true e ds d rest l = l
end_by false e ds d rest l = inr (rest l)

end_among : (ds : List KeptDelta) (d : KeptDelta) → Among d (longest_end ds) → Among d ds
end_among [] d l = absurd l
end_among (e ∷ ds) d l = end_by (is_within (e ∷ ds)) e ds d (end_among ds d) l

last_among : (ds : List KeptDelta) (e d : KeptDelta) → Among d (ds ++ e ∷ []) → (d ≡ e) ⊎ Among d ds
last_among [] e d l = elim l [ inl here ↦ inl here | inr none ↦ absurd none ]
last_among (x ∷ ds) e d l = elim l [
  | inl here ↦ inr (inl here)
  | inr later ↦ elim (last_among ds e d later) [ inl last ↦ inl last | inr there ↦ inr (inr there) ]
]

-- no delta is kept but the last one and those before it
pub with_among : (kept : List KeptDelta) (e d : KeptDelta) → Among d (with_delta kept e)
    → (d ≡ e) ⊎ Among d kept
with_among kept e d l =
    let P : List KeptDelta → Type 0 = λ ds. Among d ds → (d ≡ e) ⊎ Among d kept in
    cond_both (is_small e) (longest_end (kept ++ e ∷ [])) kept P
    (λ t k. last_among kept e d (end_among (kept ++ e ∷ []) d k)) (λ t k. inr k) l

pub deltas_with : (policy : Policy) (h : List Made) (kept : List KeptDelta) (e : KeptDelta)
    → AreTrueDeltas policy h kept → IsTrueDelta policy h e → AreTrueDeltas policy h (with_delta kept e)
deltas_with policy h kept e old new d l = elim (with_among kept e d l) [
  | inl last ↦ subst (IsTrueDelta policy h) (sym last) new
  | inr there ↦ old d there
]

-- ---- what is shown of versions of a history

head_bodies : (policy : Policy) (h : List Made) (heads : List VersionValue)
    → AreVersionsOf policy h heads
    → map {B = Stamp × List ℕ} (λ s. (s, body_of policy h s)) (map stamp_of heads)
    ≡ map {B = Stamp × List ℕ} (λ (v : VersionValue). (v.head.stamp, v.body)) heads
head_bodies policy h heads are =
    let with_body : Stamp → Stamp × List ℕ = λ s. (s, body_of policy h s) in
    let of_head : VersionValue → Stamp × List ℕ = λ v. (v.head.stamp, v.body) in
    let P : VersionValue → Type 0 = λ w. body_of policy h w.head.stamp ≡ w.body in
    let body : (v : VersionValue) → Among v heads → body_of policy h v.head.stamp ≡ v.body =
    λ v l. subst P (sym (are v l).2) refl in
    map_map with_body stamp_of of_head heads (λ v l i. (v.head.stamp, body v l i))

head_vectors : (policy : Policy) (h : List Made) (heads : List VersionValue)
    → AreVersionsOf policy h heads
    → map (vector_of h) (map stamp_of heads) ≡ map (λ (v : VersionValue). v.head.vector) heads
head_vectors policy h heads are =
    let P : VersionValue → Type 0 = λ w. vector_of h w.head.stamp ≡ w.head.vector in
    let vector : (v : VersionValue) → Among v heads → vector_of h v.head.stamp ≡ v.head.vector =
    λ v l. subst P (sym (are v l).2) refl in
    map_map (vector_of h) stamp_of (λ (v : VersionValue). v.head.vector) heads vector

-- what is made on all heads is the latest version of the history with it
written_is : (c : ContentValue) (m : Made) (h : List Made) → IsHistory (m ∷ h)
    → AreVersionsOf c.policy h c.heads → m.bases ≡ map stamp_of c.heads
    → next_version c (maker m) m.stamp m.ranges ≡ version_of c.policy (m ∷ h) m
written_is c m h k are based =
    let vectors = ap (map (vector_of h)) based ∙ head_vectors c.policy h c.heads are in
    let with_body : Stamp → Stamp × List ℕ = λ s. (s, body_of c.policy h s) in
    let bodies = ap (map with_body) based ∙ head_bodies c.policy h c.heads are in
    let last_vector : vector_of (m ∷ h) m.stamp ≡ next_vector c.heads (maker m) =
    vector_here m h m.stamp refl ∙ ap (λ vs. one_more (joined_all vs) (maker m)) vectors in
    let last_body : body_of c.policy (m ∷ h) m.stamp ≡ applied (shown_bytes c) m.ranges =
    ap (λ b. cond b (applied (shown c.policy (map with_body m.bases)) m.ranges) (body_of c.policy h m.stamp))
    (same_true m.stamp m.stamp refl)
    ∙ ap (λ bs. applied (shown c.policy bs) m.ranges) bodies in
    λ i. version_with m.stamp (maker m) (sym last_vector i) (sym last_body i)

-- ---- what is held

module _ (b : Book) (file : FileId) where
  abbrev Heads : List VersionValue → Type 0
  Heads vs = AreVersionsOf (b.policy file) (b.made file) vs

  abbrev Deltas : List KeptDelta → Type 0
  Deltas ds = AreTrueDeltas (b.policy file) (b.made file) ds

  pub begun_holds : (x : Holding) → HasBegun b file x → IsHoldingIn b file x
  begun_holds x k = record {
    created = k.created;
    policy = k.policy;
    heads = subst Heads (sym k.heads) (λ v l. absurd l);
    kept = subst Deltas (sym k.kept) (λ d l. absurd l);
  }

  heads_with : (c : ContentValue) (v : VersionValue) → Heads c.heads → IsVersionIn b file v
      → Heads ((joined_content c v).heads)
  heads_with c v are is w l = elim (joined_among c.heads v w l) [
    | inl new ↦ (is.made, is.among, new ∙ is.whole)
    | inr there ↦ are w there
  ]

  pub joined_holds : (was x : Holding) (v : VersionValue) → IsHoldingIn b file was → IsVersionIn b file v
      → x.content ≡ joined_content was.content v → x.kept ≡ was.kept → IsHoldingIn b file x
  joined_holds was x v k is content kept = record {
    created = k.created;
    policy = ap (λ (c : ContentValue). c.policy) content ∙ k.policy;
    heads = subst Heads (sym (ap (λ (c : ContentValue). c.heads) content)) (heads_with was.content v k.heads is);
    kept = subst Deltas (sym kept) k.kept;
  }

  -- what is shown is what the history says of the heads
  pub shown_is : (x : Holding) → IsHoldingIn b file x
      → shown_bytes x.content ≡ shown_of (b.policy file) (b.made file) (stamps_of x.content)
  shown_is x k =
      ap (λ p. shown p (map {B = Stamp × List ℕ} (λ (v : VersionValue). (v.head.stamp, v.body)) x.content.heads)) k.policy
      ∙ ap (shown (b.policy file)) (sym (head_bodies (b.policy file) (b.made file) x.content.heads k.heads))

  module _ (x : Holding) (k : IsHoldingIn b file x) (head : Head) (of : IsHeadIn b file head) (ranges : RangesValue)
      (true_ : IsTrueDelta (b.policy file) (b.made file) (delta_to (stamps_of x.content) head.stamp ranges)) where
    patched_body : applied (shown_bytes x.content) ranges ≡ body_in b file head.stamp
    patched_body = ap (λ ys. applied ys ranges) (shown_is x k) ∙ true_.body

    -- A DELTA AT ITS HEADS makes the version
    pub patched_is : IsVersionIn b file (patched_version x.content head ranges)
    patched_is = whole_version b file (patched_version x.content head ranges) of patched_body

    pub patched_long : next_length x.content ranges ≡ head.length
    patched_long = ap length patched_body ∙ head_length b file head of

    pub patched_holds : (y : Holding) → y.content ≡ with_patched x.content head ranges
        → y.kept ≡ with_delta x.kept (delta_to (stamps_of x.content) head.stamp ranges) → IsHoldingIn b file y
    patched_holds y content kept = record {
      created = k.created;
      policy = ap (λ (c : ContentValue). c.policy) content ∙ k.policy;
      heads = subst Heads (sym (ap (λ (c : ContentValue). c.heads) content))
          (heads_with x.content (patched_version x.content head ranges) k.heads patched_is);
      kept = subst Deltas (sym kept)
          (deltas_with (b.policy file) (b.made file) x.kept (delta_to (stamps_of x.content) head.stamp ranges) k.kept true_);
    }

-- ---- more was made

module _ (b c : Book) (old : IsBook b) (now : IsBook c) (g : GrowsTo b c) (file : FileId) where
  pub holding_grows : (x : Holding) → IsHoldingIn b file x → IsHoldingIn c file x
  holding_grows x k = record {
    created = g.created file k.created;
    policy = k.policy ∙ sym (g.policy file k.created);
    heads = λ v l. (let r = k.heads v l in (
      r.0,
      grown_among b c old now g file r.0 r.1,
      r.2 ∙ sym (grown_version b c old now g file r.0 r.1),
    ));
    kept = λ d l. delta_grows b c old now g file k.created d (k.kept d l);
  }

  -- what was held, or began
  pub from_holds : (o : Option Holding) → ((x : Holding) → o ≡ Some x → IsHoldingIn b file x) → (was : Holding)
      → IsFrom c file o was → IsHoldingIn c file was
  from_holds o here was f = elim f [
    | inl e ↦ holding_grows was (here was e)
    | inr k ↦ begun_holds c file was k
  ]

  -- its heads are versions of what was made before
  from_heads : (o : Option Holding) → ((x : Holding) → o ≡ Some x → IsHoldingIn b file x) → (was : Holding)
      → IsFrom c file o was → AreVersionsOf (c.policy file) (b.made file) was.content.heads
  from_heads o here was f = elim f [
    | inl e ↦ (let k = here was e in
        let P : Policy → Type 0 = λ p. AreVersionsOf p (b.made file) was.content.heads in
        subst P (sym (g.policy file k.created)) k.heads)
    | inr k ↦ (let P : List VersionValue → Type 0 = λ vs. AreVersionsOf (c.policy file) (b.made file) vs in
        subst P (sym k.heads) (λ v l. absurd l))
  ]

  pub written_holds : (o : Option Holding) → ((x : Holding) → o ≡ Some x → IsHoldingIn b file x) → (x : Holding)
      → HasWritten b c file o x → IsHoldingIn c file x
  written_holds o here x k =
      let m = k.made in
      let h = b.made file in
      let before = from_holds o here k.was k.from in
      let history : IsHistory (m ∷ h) = subst IsHistory k.now (now.histories file) in
      let P : Policy → Type 0 = λ p. AreVersionsOf p h k.was.content.heads in
      let heads : AreVersionsOf k.was.content.policy h k.was.content.heads =
      subst P (sym before.policy) (from_heads o here k.was k.from) in
      let next : next_version k.was.content (maker m) m.stamp m.ranges ≡ version_in c file m =
      written_is k.was.content m h history heads k.bases
      ∙ ap (λ p. version_of p (m ∷ h) m) before.policy
      ∙ ap (λ ms. version_of (c.policy file) ms m) (sym k.now) in
      let last : Among m (c.made file) = subst (Among m) (sym k.now) (inl refl) in
      let Q : List Made → Type 0 = λ ms. IsTrueDelta (c.policy file) ms (delta_to m.bases m.stamp m.ranges) in
      let made_true = subst Q (sym k.now) (true_made (c.policy file) m h history) in
      let R : List Stamp → Type 0 = λ bs. IsTrueDelta (c.policy file) (c.made file) (delta_to bs m.stamp m.ranges) in
      let new : IsTrueDelta (c.policy file) (c.made file) (delta_to (stamps_of k.was.content) m.stamp m.ranges) =
      subst R k.bases made_true in
      record {
        created = before.created;
        policy = ap (λ (z : ContentValue). z.policy) k.content ∙ before.policy;
        heads = subst (Heads c file) (sym (ap (λ (z : ContentValue). z.heads) k.content)) (λ v l. elim l [
          | inl e ↦ (m, last, e ∙ next)
          | inr none ↦ absurd none
        ]);
        kept = subst (Deltas c file) (sym k.kept)
            (deltas_with (c.policy file) (c.made file) k.was.kept (delta_to (stamps_of k.was.content) m.stamp m.ranges) before.kept new);
      }
