-- From one moment to the next: the server that acts, and the others.
use Rattle.std.proofs.Common.{ℕ, ◌≡◌, ◌≢◌, List, inl, inr, ◌⊎◌, sym, subst, ◌∙◌}
use Rattle.std.specs.Prelude.{Contains}
use Rattle.std.proofs.lemmas.Bool.Decides.{eqb_tells}
use Rattle.std.proofs.lemmas.List.Elements.{Contains-append_cases}
use Rattle.theory_flood.specs.Server.{Replica}
use Rattle.theory_flood.proofs.Servers.{some_same}
use Rattle.theory_leaving.specs.Protocol.{Protocol, Has}
use Rattle.theory_leaving.specs.Moment.{IsPast}
use Rattle.theory_leaving.specs.Rule.{Turn, Follows}

module _ {W N M C : Type 0} (p : Protocol W N M C) where
  -- a server has one replica
  pub same_replica : (a : N) (x y : Replica C) → Has p a x → Has p a y → x ≡ y
  same_replica a x y h k = some_same x y (sym h ∙ k)

  module _ {w v : W} {turn : Turn N M} (f : Follows p w v turn) where
    -- a fact of each server: of the one that acts, and of the others
    pub at_each : (P : ℕ → N → Type 0) → P turn.server turn.next
        → ((k : ℕ) → k ≢ turn.server → P k (p.nodes w k)) → (k : ℕ) → P k (p.nodes v k)
    at_each P now others k = elim (eqb_tells k turn.server) [
      | inl e ↦
          let Q : ℕ → Type 0 = (λ j. P j (p.nodes v j)) in
          let R : N → Type 0 = P turn.server in
          subst Q (sym e.1) (subst R (sym f.own) now)
      | inr e ↦ let R : N → Type 0 = P k in subst R (sym (f.others k e.1)) (others k e.1)
    ]

    -- the same of one that is known to act, or not to
    pub at_own : (P : N → Type 0) (k : ℕ) → k ≡ turn.server → P turn.next → P (p.nodes v k)
    at_own P k e h =
        let Q : ℕ → Type 0 = (λ j. P (p.nodes v j)) in
        subst Q (sym e) (subst P (sym f.own) h)

    -- what was ever sent is sent now, or was before
    pub sent_or : (m : M) → Contains (p.mail v) m → Contains turn.sent m ⊎ Contains (p.mail w) m
    sent_or m h =
        let P : List M → Type 0 = (λ ms. Contains ms m) in
        Contains-append_cases turn.sent (p.mail w) m (subst P f.mail h)

    -- what went stays so
    pub past_on : (k birth : ℕ) → IsPast p w k birth → IsPast p v k birth
    past_on k birth h = (h.0, f.stays k birth h.0 h.1)

    -- of another server it was so before
    pub past_other : (k birth : ℕ) (y : Replica C) → k ≢ turn.server → p.Went v k birth y → p.Went w k birth y
    past_other k birth y apart h = elim (f.from k birth y h) [ inl was ↦ was | inr own ↦ absurd (apart own.0) ]
