use Rattle.std.proofs.Common.{rules, ◌≡◌, ℕ, List, subst}
use Rattle.pg_patch.specs.Ranges.{write_end, written}
use Rattle.pg_calls.specs.Bodies.{Makes}
use Rattle.pg_calls.proofs.Lengths.{long_write}
use Rattle.pg_calls.proofs.Made.{makes}
use Rattle.pg_calls.proofs.bodies.write_ranges.Goals as goal

pub returns : goal.returns
returns c =
    let same : c.as_slice.result.now ≡ c.args.bytes.now = search rules in
    let P : List ℕ → Type 0 = λ bytes. Makes c.make.result (written c.args.offset bytes) in
    subst P same
    (makes c.make.result (written c.args.offset c.as_slice.result.now) (write_end c.args.offset c.as_slice.result.now)
    c.make.ensures.made c.make.ensures.too_long (long_write c.args.offset c.as_slice.result.now))
