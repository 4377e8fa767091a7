use Rattle.std.proofs.Common.{rules, tests, ◌≡◌}
use Rattle.std.proofs.lemmas.Iterator.{YieldsList-from_slice, first_from_find}
use Rattle.std.proofs.lemmas.Iterator.Consumers.{YieldsList-from_copied}
use Rattle.pg_journal_lines.specs.Reason.{reason_name, reason_number}
use Rattle.pg_journal_lines.proofs.Reasons.{IsOther, none_named, reasons}
use Rattle.pg_journal_lines.proofs.refusal.read_reason.Goals as goal

pub returns-clause-none : goal.returns-clause-none
returns-clause-none c =
    let number = c.args.number.now in
    let name = c.args.name.now in
    none_named number name _ _ (first_from_find _ _ c.find.result (λ k. (number ≡ reason_number k) × (name ≡ reason_name k)) (IsOther number name) c.find.ensures.ran (YieldsList-from_copied (YieldsList-from_slice reasons cc))
    (λ x q k. search (rules, tests)) (λ x q k. search (rules, tests)))
