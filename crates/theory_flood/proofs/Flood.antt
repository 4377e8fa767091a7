-- Edges that keep what they promise, whatever servers hold and send. A protocol says what its
-- servers have and cover, what tags stand, and what its messages say. Then it proves of each
-- handler that it keeps the rule for one server, `Local`, mostly by a chain of `Moves`;
-- `step_keeps` gives the invariant of all servers after it. For a message lost or copied only the
-- list of promises changes.
use Rattle.std.proofs.Common.{ℕ, ◌≡◌, ◌<◌, ◌≤◌, ◌≢◌, cond, Option, None, Some, List, [], ◌++◌, refl, sym, subst, inl, inr, All, arith, ◌⊎◌, ap, ◌∙◌}
use Rattle.std.proofs.lemmas.List.Elements.{All-append, All-weaker}
use Rattle.std.proofs.lemmas.Bool.Decides.{eqb_tells}
use Rattle.theory_flood.specs.World.{after}
use Rattle.theory_flood.specs.Promises.{Saying, Promise, Kept}
use Rattle.theory_flood.specs.Promises.Saying.{CellFor, AckTo, Other}
use Rattle.theory_flood.specs.Rule as rule

-- which server it is
pub here : {N : Type 0} (nodes : ℕ → N) (s : ℕ) (b : N) (k : ℕ) → ((k ≡ s) × (after nodes s b k ≡ b)) ⊎ ((k ≢ s) × (after nodes s b k ≡ nodes k))
here nodes s b k = elim (eqb_tells k s) [
  | inl p ↦ inl (p.1, ap (λ t. cond t b (nodes k)) p.0)
  | inr p ↦ inr (p.1, ap (λ t. cond t b (nodes k)) p.0)
]

pub after_itself : {N : Type 0} (nodes : ℕ → N) (s : ℕ) (b : N) → after nodes s b s ≡ b
after_itself nodes s b = elim (here nodes s b s) [ inl e ↦ e.1 | inr e ↦ absurd (e.0 refl) ]

-- the parameters are those of the promises
module _ {N S C M : Type 0} (says : M → Saying S C) (tags : N → ℕ) (tag : N → S → Option ℕ) (Has Covers : N → S → C → Type 0) (peer : S → ℕ) (Noted : N → Saying S C → Type 0) where
  abbrev pub Promised : (ℕ → N) → Saying S C → Type 0
  Promised nodes x = Promise says tags tag Has Covers peer Noted nodes x

  abbrev pub AllKept : (ℕ → N) → List M → Type 0
  AllKept nodes bag = Kept says tags tag Has Covers peer Noted nodes bag

  abbrev pub Onward : N → N → Type 0
  Onward a b = rule.Onward says tags tag Has Covers peer Noted a b

  abbrev pub Settled : ℕ → N → Saying S C → S → Type 0
  Settled s a heard q = rule.Settled says tags tag Has Covers peer Noted s a heard q

  abbrev pub MaySend : ℕ → N → N → Saying S C → Saying S C → Type 0
  MaySend s a b heard x = rule.MaySend says tags tag Has Covers peer Noted s a b heard x

  abbrev pub Local : ℕ → N → N → Saying S C → List M → Type 0
  Local s a b heard sent = rule.Local says tags tag Has Covers peer Noted s a b heard sent

  Onward-refl : (a : N) → Onward a a
  Onward-refl a = record { tags_up = omega arith; covers = λ q c h. h; owed = λ q c g h t. inl (h, t) }

  onward_at : (nodes : ℕ → N) (s : ℕ) (b : N) → Onward (nodes s) b → (k : ℕ) → Onward (nodes k) (after nodes s b k)
  onward_at nodes s b h k = elim (here nodes s b k) [
    | inl p ↦ let P : N → Type 0 = (λ x. Onward (nodes k) x) in let Q : ℕ → Type 0 = (λ j. Onward (nodes j) b) in subst P (sym p.1) (subst Q (sym p.0) h)
    | inr p ↦ let P : N → Type 0 = (λ x. Onward (nodes k) x) in subst P (sym p.1) (Onward-refl (nodes k))
  ]

  -- a promise outlives every event
  promise_on : (nodes nodes' : ℕ → N) → ((k : ℕ) → Onward (nodes k) (nodes' k)) → (x : Saying S C) → Promised nodes x → Promised nodes' x
  promise_on nodes nodes' on (CellFor o q g c) p =
      let up = (on o).tags_up in
      let low : g < tags (nodes o) = p.0 in
      (omega arith, λ r d h t. elim ((on o).owed r d g h t) [ inl k ↦ p.1 r d k.0 k.1 | inr k ↦ absurd (omega arith) ])
  promise_on nodes nodes' on (AckTo o q g) p =
      let up = (on o).tags_up in
      let low : g < tags (nodes o) = p.0 in
      (omega arith, λ d h t. elim ((on o).owed q d g h t) [ inl r ↦ (on (peer q)).covers q d (p.1 d r.0 r.1) | inr r ↦ absurd (omega arith) ])
  promise_on nodes nodes' on Other p = tt

  -- what a server sends by the rule is a promise kept
  sent_promise : (nodes nodes' : ℕ → N) (s : ℕ) (b : N) (heard : Saying S C) → ((k : ℕ) → Onward (nodes k) (nodes' k)) → nodes' s ≡ b → Promised nodes heard → ((x : Saying S C) → Noted (nodes s) x → Promised nodes x)
      → (x : Saying S C) → MaySend s (nodes s) b heard x → Promised nodes' x
  sent_promise nodes nodes' s b heard on is p ns (CellFor o q g c) m =
      let P : N → Type 0 = (λ n. (g < tags n) × ((r : S) (d : C) → Has n r d → tag n r ≡ Some g → (r ≡ q) × (d ≡ c))) in
      let e : nodes' o ≡ b = ap nodes' m.0 ∙ is in
      subst P (sym e) (m.1, m.2)
  sent_promise nodes nodes' s b heard on is p ns (AckTo o r g) m =
      let q = m.0 in
      let c = m.1 in
      let P : Saying S C → Type 0 = Promised nodes in
      let before : Promised nodes (CellFor o q g c) = elim m.3 [ inl e ↦ subst P e p | inr k ↦ ns (CellFor o q g c) k ] in
      let now = promise_on nodes nodes' on (CellFor o q g c) before in
      let V : N → Type 0 = (λ n. Covers n q c) in
      let e : nodes' (peer q) ≡ b = ap nodes' m.2 ∙ is in
      let covered : Covers (nodes' (peer q)) q c = subst V (sym e) m.4 in (
        now.0,
        λ d h t.
            let same = now.1 r d h t in
            let U : S → Type 0 = (λ z. Covers (nodes' (peer z)) z c) in
            let W : C → Type 0 = (λ z. Covers (nodes' (peer r)) r z) in
            subst W (sym same.1) (subst U (sym same.0) covered),
      )
  sent_promise nodes nodes' s b heard on is p ns Other m = tt

  -- the acknowledged keys of the server that did it
  own_edges : (nodes nodes' : ℕ → N) (s : ℕ) (b : N) (heard : Saying S C) → ((k : ℕ) → Onward (nodes k) (nodes' k)) → Promised nodes heard
      → ((q : S) (c : C) → Has b q c → tag b q ≡ None → Has (nodes s) q c × Settled s (nodes s) heard q)
      → ((q : S) (c : C) → Has (nodes s) q c → tag (nodes s) q ≡ None → Covers (nodes (peer q)) q c)
      → (q : S) (c : C) → Has b q c → tag b q ≡ None → Covers (nodes' (peer q)) q c
  own_edges nodes nodes' s b heard on p free edges q c h t = elim (free q c h t).1 [
    | inl none ↦ (on (peer q)).covers q c (edges q c (free q c h t).0 none)
    | inr f ↦ let P : Saying S C → Type 0 = Promised nodes in (on (peer q)).covers q c ((subst P f.2 p).1 c (free q c h t).0 f.1)
  ]

  -- WHAT ONE SERVER DOES BY THE RULE KEEPS ALL PROMISES, with those that are left of the messages
  -- under way
  pub step_keeps : (nodes : ℕ → N) (s : ℕ) (b : N) (heard : Saying S C) (sent bag rest : List M) → AllKept nodes bag → Local s (nodes s) b heard sent
      → Promised nodes heard → All (λ m. Promised nodes (says m)) rest → AllKept (after nodes s b) (rest ++ sent)
  step_keeps nodes s b heard sent bag rest k l p r =
      let on = onward_at nodes s b l.onward in
      let is : after nodes s b s ≡ b = elim (here nodes s b s) [ inl e ↦ e.1 | inr e ↦ absurd (e.0 refl) ] in
      record {
        edges = λ j q c. elim (here nodes s b j) [
          | inl e ↦ let P : N → Type 0 = (λ n. Has n q c → tag n q ≡ None → Covers (after nodes s b (peer q)) q c) in
              subst P (sym e.1) (own_edges nodes (after nodes s b) s b heard on p l.free (k.edges s) q c)
          | inr e ↦ let P : N → Type 0 = (λ n. Has n q c → tag n q ≡ None → Covers (after nodes s b (peer q)) q c) in
              subst P (sym e.1) (λ h t. (on (peer q)).covers q c (k.edges j q c h t))
        ];
        promises =
            let P : M → Type 0 = (λ m. Promised nodes (says m)) in
            let Q : M → Type 0 = (λ m. Promised (after nodes s b) (says m)) in
            let R : M → Type 0 = (λ m. MaySend s (nodes s) b heard (says m)) in
            All-append Q rest sent
            (All-weaker P Q (λ m h. promise_on nodes (after nodes s b) on (says m) h) rest r)
            (All-weaker R Q (λ m h. sent_promise nodes (after nodes s b) s b heard on is p (k.notes s) (says m) h) sent l.sends);
        notes = λ j x. elim (here nodes s b j) [
          | inl e ↦ let P : N → Type 0 = (λ n. Noted n x → Promised (after nodes s b) x) in
              subst P (sym e.1) (λ h. promise_on nodes (after nodes s b) on x (elim (l.notes x h) [ inl old ↦ k.notes s x old | inr now ↦ let Q : Saying S C → Type 0 = Promised nodes in subst Q now p ]))
          | inr e ↦ let P : N → Type 0 = (λ n. Noted n x → Promised (after nodes s b) x) in
              subst P (sym e.1) (λ h. promise_on nodes (after nodes s b) on x (k.notes j x h))
        ];
      }

  -- A step in which no answer is heard: afterwards each slot has a tag given out in it, or it has
  -- the tag and the cell that it had. What a server does in an event is a chain of these
  pub record Moves (a b : N) : Type 0 where
    pub tags_up : tags a ≤ tags b
    pub covers : (q : S) (c : C) → Covers a q c → Covers b q c
    pub slots : (q : S) (c : C) → Has b q c → ((g : ℕ) × (tag b q ≡ Some g) × (tags a ≤ g)) ⊎ (Has a q c × (tag b q ≡ tag a q))

  pub Moves-refl : (a : N) → Moves a a
  Moves-refl a = record { tags_up = omega arith; covers = λ q c h. h; slots = λ q c h. inr (h, refl) }

  pub Moves-trans : (a b c : N) → Moves a b → Moves b c → Moves a c
  Moves-trans a b c m n =
      let low = m.tags_up in
      let high = n.tags_up in
      record {
        tags_up = omega arith;
        covers = λ q d h. n.covers q d (m.covers q d h);
        slots = λ q d h. elim (n.slots q d h) [
          | inl f ↦ let le : tags b ≤ f.0 = f.2 in inl (f.0, f.1, omega arith)
          | inr r ↦ elim (m.slots q d r.0) [ inl f ↦ inl (f.0, r.1 ∙ f.1, f.2) | inr k ↦ inr (k.0, r.1 ∙ k.1) ]
        ];
      }

  -- the rule, for what is such a chain
  pub by_moves : (s : ℕ) (a b : N) (heard : Saying S C) (sent : List M) → Moves a b → ((x : Saying S C) → Noted b x → Noted a x ⊎ (heard ≡ x)) → All (λ m. MaySend s a b heard (says m)) sent
      → Local s a b heard sent
  by_moves s a b heard sent moves notes sends = record {
    onward = record {
      tags_up = moves.tags_up;
      covers = moves.covers;
      owed = λ q c g h t. elim (moves.slots q c h) [
        | inl f ↦ let e : f.0 ≡ g = (let x = f.1 in cc) in let le : tags a ≤ f.0 = f.2 in inr (omega arith)
        | inr r ↦ inl (r.0, sym r.1 ∙ t)
      ];
    };
    free = λ q c h t. elim (moves.slots q c h) [
      | inl f ↦ absurd (let x = f.1 in cc)
      | inr r ↦ (r.0, inl (sym r.1 ∙ t))
    ];
    notes = notes;
    sends = sends;
  }

  -- and where an answer was heard first
  pub goes_on : (s : ℕ) (a b c : N) (heard : Saying S C) (sent : List M) → Local s a b heard [] → Moves b c → ((x : Saying S C) → Noted c x → Noted a x ⊎ (heard ≡ x))
      → All (λ m. MaySend s a c heard (says m)) sent → Local s a c heard sent
  goes_on s a b c heard sent l m notes sends =
      let low = l.onward.tags_up in
      let high = m.tags_up in
      record {
        onward = record {
          tags_up = omega arith;
          covers = λ q d h. m.covers q d (l.onward.covers q d h);
          owed = λ q d g h t. elim (m.slots q d h) [
            | inl f ↦ let e : f.0 ≡ g = (let x = f.1 in cc) in let le : tags b ≤ f.0 = f.2 in inr (omega arith)
            | inr r ↦ l.onward.owed q d g r.0 (sym r.1 ∙ t)
          ];
        };
        free = λ q d h t. elim (m.slots q d h) [
          | inl f ↦ absurd (let x = f.1 in cc)
          | inr r ↦ l.free q d r.0 (sym r.1 ∙ t)
        ];
        notes = notes;
        sends = sends;
      }
