use Rattle.std.proofs.Common.{◌≡◌, ℕ, Option, None, Some, arith}
use Rattle.std.specs.Str.Parse.{ExplainsUnsignedError, HasUnsignedDigitsIfOk, ParsesUnsigned}
use Rattle.clap.specs.Matches.{found_of}
use Rattle.pg_command.proofs.Values.{number_is}
use Rattle.pg_command.proofs.reading.number_at.Goals as goal

pub returns : goal.returns
returns c =
    let e : Some c.in-Some.n ≡ Some c.args.checked =
    number_is (λ bs r. ParsesUnsigned 64 10 bs r × ExplainsUnsignedError 10 bs r × HasUnsignedDigitsIfOk bs r)
    (found_of c.args.found.now) c.args.name.now c.args.checked (Some c.in-Some.n) (omega arith)
    (λ t x g. g.0) c.requires c.in-Some.ensures.value in
    cc

pub unreachable-requires : goal.unreachable-requires
unreachable-requires c =
    let e : ◌≡◌ {A = Option ℕ} None (Some c.args.checked) =
    number_is (λ bs r. ParsesUnsigned 64 10 bs r × ExplainsUnsignedError 10 bs r × HasUnsignedDigitsIfOk bs r)
    (found_of c.args.found.now) c.args.name.now c.args.checked None (omega arith)
    (λ t x g. g.0) c.requires c.in-None.ensures.value in
    absurd cc
