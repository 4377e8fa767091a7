use Rattle.std.proofs.Common.{refl}
use Rattle.std.proofs.lemmas.Bool.{iff_false}
use Rattle.pg_command.proofs.Pairs.{digits_of_payload, payload_of_dash, payload_of_digits}
use Rattle.pg_command.proofs.argument.is_payload.Goals as goal

pub returns-then-is_same : goal.returns-then-is_same
returns-then-is_same c =
    (λ true. payload_of_dash c.args.word.now (c.is_same.ensures.0 c.if-is_same.true), λ h. refl)

pub returns-else-is_same : goal.returns-else-is_same
returns-else-is_same c =
    let dash = iff_false c.is_same.ensures c.if-is_same.false in
    let word = c.args.word.now in (
      λ digits. payload_of_digits word (c.are_digits.ensures.0 digits),
      λ h. c.are_digits.ensures.1 (digits_of_payload word dash h),
    )
