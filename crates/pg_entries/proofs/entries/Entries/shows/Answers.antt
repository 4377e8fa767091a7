use Rattle.std.proofs.Common.{◌≡◌, true, false, not, ◌&&◌, IsTrue, ◌↔◌, List, ℕ, ◌++◌, sym, ap, ◌∙◌, subst}
use Rattle.std.specs.Ordering.{is_eq}
use Rattle.pg_register.specs.Place.{tilde_name}
use Rattle.pg_entries.specs.Entry.{is_listed}
use Rattle.pg_entries.specs.Names.{same_name}
use Rattle.pg_entries.specs.Shown.{claim_of, first_claim, is_beaten}
use Rattle.pg_entries.proofs.Claims.{shows_own, shows_other}
use Rattle.pg_entries.proofs.entries.Entries.shows.Goals as goal

pub returns-then-is_eq : goal.returns-then-is_eq
returns-then-is_eq c =
    let e = c.args.entry.now in
    let shown = c.args.shown.now in
    let listed : is_listed c.args.dir c.args.entry.now ≡ true = sym c.is_listed.ensures ∙ c.if-not-is_listed.false in
    let same : same_name c.args.entry.now.place.name c.args.shown.now ≡ true = ap (λ n. same_name n shown) (sym c.as_slice-name.ensures) ∙ ap is_eq (sym c.cmp.ensures) ∙ sym c.is_eq.ensures ∙ c.if-is_eq.true in
    ap not (c.is_beaten.ensures ∙ ap (λ o. is_beaten o c.of.result) c.requires ∙ ap (is_beaten (first_claim c.args.self.now c.args.dir shown)) c.of.ensures)
    ∙ shows_own c.args.self.now c.args.dir e shown listed same

pub returns-then-is_with_id : goal.returns-then-is_with_id
returns-then-is_with_id c =
    let e = c.args.entry.now in
    let es = c.args.self.now in
    let shown = c.args.shown.now in
    let r = c.is_with_id.result in
    let listed : is_listed c.args.dir c.args.entry.now ≡ true = sym c.is_listed.ensures ∙ c.if-not-is_listed.false in
    let other : same_name c.args.entry.now.place.name c.args.shown.now ≡ false = ap (λ n. same_name n shown) (sym c.as_slice-name.ensures) ∙ ap is_eq (sym c.cmp.ensures) ∙ sym c.is_eq.ensures ∙ c.if-is_eq.false in
    let P : List ℕ → Type 0 = (λ n. IsTrue r ↔ (shown ≡ n ++ tilde_name e.child)) in
    let b = is_beaten (first_claim es c.args.dir e.place.name) (claim_of e) in
    c.is_beaten-then-is_with_id.ensures ∙ ap (λ o. is_beaten o c.of-then-is_with_id.result) c.first_claim.ensures ∙ ap (is_beaten (first_claim es c.args.dir c.as_slice-name.result.now)) c.of-then-is_with_id.ensures
    ∙ ap (λ n. is_beaten (first_claim es c.args.dir n) (claim_of e)) c.as_slice-name.ensures ∙ sym (ap (λ t. t && b) c.if-is_with_id.true)
    ∙ shows_other es c.args.dir e shown r listed (subst P c.as_slice-name.ensures c.is_with_id.ensures) other

pub returns-else-is_with_id : goal.returns-else-is_with_id
returns-else-is_with_id c =
    let e = c.args.entry.now in
    let es = c.args.self.now in
    let shown = c.args.shown.now in
    let r = c.is_with_id.result in
    let listed : is_listed c.args.dir c.args.entry.now ≡ true = sym c.is_listed.ensures ∙ c.if-not-is_listed.false in
    let other : same_name c.args.entry.now.place.name c.args.shown.now ≡ false = ap (λ n. same_name n shown) (sym c.as_slice-name.ensures) ∙ ap is_eq (sym c.cmp.ensures) ∙ sym c.is_eq.ensures ∙ c.if-is_eq.false in
    let P : List ℕ → Type 0 = (λ n. IsTrue r ↔ (shown ≡ n ++ tilde_name e.child)) in
    let b = is_beaten (first_claim es c.args.dir e.place.name) (claim_of e) in
    c.if-is_with_id.false ∙ sym (ap (λ t. t && b) c.if-is_with_id.false)
    ∙ shows_other es c.args.dir e shown r listed (subst P c.as_slice-name.ensures c.is_with_id.ensures) other
