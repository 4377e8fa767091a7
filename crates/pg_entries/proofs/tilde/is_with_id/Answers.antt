use Rattle.std.proofs.Common.{◌≡◌, false, true}
use Rattle.pg_register.specs.Place.{tilde_name}
use Rattle.pg_entries.proofs.Tildes.{begins, not_begins}
use Rattle.pg_entries.proofs.tilde.is_with_id.Goals as goal

pub returns-in-Some : goal.returns-in-Some
returns-in-Some c = begins c.args.text.now c.args.name.now c.in-Some.rest.now (tilde_name c.args.id) c.is_tilde_name.result c.in-Some.ensures.cases.0 c.in-Some.ensures.cases.1 c.is_tilde_name.ensures

pub returns-in-None : goal.returns-in-None
returns-in-None c = (λ h. absurd (let x : false ≡ true = h in cc), λ e. absurd (not_begins c.args.text.now c.args.name.now (tilde_name c.args.id) c.in-None.ensures.cases e))
