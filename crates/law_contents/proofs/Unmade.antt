-- Of which births no version was made.
use Rattle.std.proofs.Common.{ℕ, ◌≡◌, ◌+◌, true, false, List, sym, ap, subst, ◌∙◌, arith}
use Rattle.pg_run.specs.pg_base.declared.id.FileId.{FileId}
use Rattle.pg_run.specs.pg_base.declared.policy.Policy.{Policy}
use Rattle.pg_run.specs.pg_base.declared.vector.Actor.{Actor}
use Rattle.pg_run.specs.pg_content.Content.{Among}
use Rattle.pg_run.specs.pg_content.History.{Made, maker}
use Rattle.pg_run.specs.Journal.{Born, made_for, made_of}
use Rattle.pg_run.specs.pg_store.declared.store.Store.{Store}
use Rattle.pg_run.specs.pg_store.Births.{is_pending}
use Rattle.law_contents.proofs.Histories.{update_of}
use Rattle.law_contents.proofs.Servers.{Came, IsServer}

-- what is to come made no version, nor did any replica of what was not given out
module _ {s : ℕ} {a : Store} {us : List Born} {p : FileId → Policy} {N : FileId → Type 0}
    {came : Came} (k : IsServer s a us p N came) (file : FileId) where
  pub pending_unmade : (birth : ℕ) → is_pending a file birth ≡ true → (m : Made)
      → Among m (made_for file us) → ¬ (maker m ≡ record { server = s; birth = birth })
  pending_unmade birth asked m l by =
      let r = update_of file m us l in
      let made : maker (made_of r.0) ≡ record { server = s; birth = birth } =
      ap maker (sym r.3) ∙ by in
      let past = k.born r.0 r.1 (ap (λ (q : Actor). q.server) made) in
      let same : r.0.birth ≡ birth = ap (λ (q : Actor). q.birth) made in
      let P : FileId → Type 0 = (λ f. is_pending a f r.0.birth ≡ true) in
      let Q : ℕ → Type 0 = (λ n. is_pending a file n ≡ true) in
      let there : is_pending a r.0.made.file r.0.birth ≡ true =
      subst P r.2 (subst Q (sym same) asked) in
      absurd (let z : true ≡ false = sym there ∙ past.1 in cc)

  -- a birth that is given out next made no version
  pub fresh_unmade : (m : Made) → Among m (made_for file us)
      → ¬ (maker m ≡ record { server = s; birth = a.births + 1 })
  fresh_unmade m l by =
      let r = update_of file m us l in
      let made : maker (made_of r.0) ≡ record { server = s; birth = a.births + 1 } =
      ap maker (sym r.3) ∙ by in
      let past = (k.born r.0 r.1 (ap (λ (q : Actor). q.server) made)).0 in
      let same : r.0.birth ≡ a.births + 1 = ap (λ (q : Actor). q.birth) made in
      omega arith

  pub unnamed_unmade : (N file → ⊥) → (m : Made) → Among m (made_for file us) → ⊥
  unnamed_unmade unnamed m l =
      let r = update_of file m us l in unnamed (subst N (sym r.2) (k.named r.0 r.1))
