-- One server steps: what it knew elsewhere stays, what it knows itself it knows now.
use Rattle.std.proofs.Common.{ℕ, ◌≡◌, ◌≢◌, ◌≤◌, ◌⊎◌, cond, List, [], ◌∷◌, Option, None, Some, All, refl, sym, subst, ap, inl, inr, arith}
use Rattle.std.proofs.lemmas.List.Elements.{All-head, All-tail}
use Rattle.std.proofs.lemmas.Bool.Decides.{eqb_tells}
use Rattle.theory_listing.specs.Protocol.{Protocol, IsOrdered, AtMost, Above}
use Rattle.theory_listing.specs.World.{Saying, Message, World, Among, after, IsCurrent, stepped}
use Rattle.theory_listing.specs.World.Saying.{Other}
use Rattle.theory_listing.specs.Promises.{Somewhere, Promise, IsPromised, Kept}
use Rattle.theory_listing.specs.Rule.{HasCell, IsSupersededAt, IsSettled}
use Rattle.theory_listing.specs.Runs.{IsStep}

-- which server it is
pub here : {N : Type 0} (nodes : ℕ → N) (s : ℕ) (b : N) (k : ℕ) → ((k ≡ s) × (after nodes s b k ≡ b)) ⊎ ((k ≢ s) × (after nodes s b k ≡ nodes k))
here nodes s b k = elim (eqb_tells k s) [
  | inl e ↦ inl (e.1, ap (λ t. cond t b (nodes k)) e.0)
  | inr e ↦ inr (e.1, ap (λ t. cond t b (nodes k)) e.0)
]

pub at_self : {N : Type 0} (nodes : ℕ → N) (s : ℕ) (b : N) → after nodes s b s ≡ b
at_self nodes s b = elim (here nodes s b s) [ inl e ↦ e.1 | inr e ↦ absurd (e.0 refl) ]

pub at_other : {N : Type 0} (nodes : ℕ → N) (s : ℕ) (b : N) (k : ℕ) → k ≢ s → after nodes s b k ≡ nodes k
at_other nodes s b k other = elim (here nodes s b k) [ inl e ↦ absurd (other e.0) | inr e ↦ e.1 ]

-- what holds of all holds of each
pub among_all : {A : Type 0} (Q : A → Type 0) (x : A) (xs : List A) → All Q xs → Among x xs → Q x
among_all Q x [] all h = absurd h
among_all Q x (y ∷ ys) all (inl e) = subst Q (sym e) (All-head Q y ys all)
among_all Q x (y ∷ ys) all (inr h) = among_all Q x ys (All-tail Q y ys all) h

module _ {N F P S : Type 0} (p : Protocol N F P S) where
  pub below_then : IsOrdered p → (a b c : S) → p.IsBelow a b → AtMost p b c → p.IsBelow a c
  below_then o a b c h (inl e) = let Q : S → Type 0 = (λ z. p.IsBelow a z) in subst Q e h
  below_then o a b c h (inr k) = o.further a b c h k

  pub most_then : IsOrdered p → (a b c : S) → AtMost p a b → AtMost p b c → AtMost p a c
  most_then o a b c (inl e) k = let Q : S → Type 0 = (λ z. AtMost p z c) in subst Q (sym e) k
  most_then o a b c (inr h) k = inr (below_then o a b c h k)

  -- where a place was replaced, a later one is left behind in the directory, or in a Patch where
  -- that is not held
  left_by : IsOrdered p → (b : N) → IsSettled p b → (d c : F) (q r : P) → c ≢ p.root → p.own b c ≡ Some r → p.IsBelow (p.stamp q) (p.stamp r) → (own : Option P) → p.own b d ≡ own
      → ((x : P) → p.own b d ≡ Some x → HasCell p b d c) → (p.own b d ≡ None → Above p (p.stamp q) (p.patch b d c)) → IsSupersededAt p b d c q
  left_by o b k d c q r inner now low None is cell patch = inr (patch is)
  left_by o b k d c q r inner now low (Some x) is cell patch =
      let y = cell x is in
      elim (k.passing d c r y.0 inner now y.1) [
        | inl e ↦ let Q : P → Type 0 = (λ z. p.IsBelow (p.stamp q) (p.stamp z)) in inl (y.0, y.1, subst Q e low)
        | inr m ↦ inl (y.0, y.1, o.further (p.stamp q) (p.stamp r) (p.stamp y.0) low m.1)
      ]

  pub left_behind : IsOrdered p → (b : N) → IsSettled p b → (d c : F) (q r : P) → c ≢ p.root → p.own b c ≡ Some r → p.IsBelow (p.stamp q) (p.stamp r)
      → ((x : P) → p.own b d ≡ Some x → HasCell p b d c) → (p.own b d ≡ None → Above p (p.stamp q) (p.patch b d c)) → IsSupersededAt p b d c q
  left_behind o b k d c q r inner now low cell patch = left_by o b k d c q r inner now low (p.own b d) refl cell patch

  pub weaker : (w : World N F P S) (A B : N → Type 0) → ((a : N) → A a → B a) → Somewhere p w A → Somewhere p w B
  weaker w A B f h = record { server = h.server; current = h.current; has = f (w.nodes h.server) h.has }

  module _ (w : World N F P S) (s : ℕ) (b : N) (heard : Message F P S) (sent : List (Saying F P S)) (k : IsStep p w s b heard sent) where
    -- the server that stepped knows it
    pub by_self : (A : N → Type 0) → w.least ≤ p.view b → A b → Somewhere p (stepped p w s b sent) A
    by_self A up h =
        let e = at_self w.nodes s b in
        record {
          server = s;
          current = record { live = k.live; view = (let Q : N → Type 0 = (λ z. w.least ≤ p.view z) in subst Q (sym e) up) };
          has = subst A (sym e) h;
        }

    -- another knows it
    pub by_other : (A : N → Type 0) (x : ℕ) → x ≢ s → IsCurrent p w x → A (w.nodes x) → Somewhere p (stepped p w s b sent) A
    by_other A x other current h =
        let e = at_other w.nodes s b x other in
        record {
          server = x;
          current = record { live = current.live; view = (let Q : N → Type 0 = (λ z. w.least ≤ p.view z) in subst Q (sym e) current.view) };
          has = subst A (sym e) h;
        }

    -- it stays known if it does where the server that steps knew it
    pub stays_if : (A : N → Type 0) → Somewhere p w A → (w.least ≤ p.view (w.nodes s) → A (w.nodes s) → Somewhere p (stepped p w s b sent) A) → Somewhere p (stepped p w s b sent) A
    stays_if A h own = elim (here w.nodes s b h.server) [
      | inl e ↦ let Q : ℕ → Type 0 = (λ z. w.least ≤ p.view (w.nodes z)) in let R : ℕ → Type 0 = (λ z. A (w.nodes z)) in own (subst Q e.0 h.current.view) (subst R e.0 h.has)
      | inr e ↦ by_other A h.server e.0 h.current h.has
    ]

    -- what was heard is promised
    pub heard_promise : Kept p w → (heard.says ≢ Other) → w.least ≤ p.view (w.nodes s) → Promise p w heard.sender heard.says
    heard_promise kept not up = elim k.said [
      | inl e ↦ absurd (not e)
      | inr m ↦ elim k.rule.hears [
        | inl e ↦ absurd (not e)
        | inr e ↦ let Q : ℕ → Type 0 = (λ z. w.least ≤ z) in (among_all (IsPromised p w) heard w.messages kept.promises m).says (subst Q (sym e) up)
      ]
    ]

    -- who sent it is as far as the view in which it is heard
    pub heard_view : Kept p w → (heard.says ≢ Other) → w.least ≤ p.view (w.nodes s) → w.least ≤ p.view (w.nodes heard.sender)
    heard_view kept not up = elim k.said [
      | inl e ↦ absurd (not e)
      | inr m ↦ elim k.rule.hears [
        | inl e ↦ absurd (not e)
        | inr e ↦ let le = (among_all (IsPromised p w) heard w.messages kept.promises m).view in omega arith
      ]
    ]
