use Rattle.std.proofs.Common.{◌≤◌, ◌-◌, ◌≡◌, ap, ◌∙◌, arith}
use Rattle.pg_patch.specs.Parts.{bytes_of_parts}
use Rattle.pg_patch.proofs.Parts.{bytes_of_parts-most}
use Rattle.pg_patch.proofs.ranges.Ranges.bytes_of_parts.Goals as goal

pub bytes_of-requires : goal.bytes_of-requires
bytes_of-requires c =
    let r = c.args.self.now in
    let most : bytes_of_parts c.args.self.now.parts ≤ c.args.self.now.least - 0 = bytes_of_parts-most 0 r.least r.parts c.parts.ensures.ranges.parts in
    let same : bytes_of_parts c.parts.result.now ≡ bytes_of_parts c.args.self.now.parts = ap bytes_of_parts c.parts.ensures.parts in
    let fits = c.parts.ensures.ranges.least in
    omega arith

pub returns-clause-most : goal.returns-clause-most
returns-clause-most c =
    let r = c.args.self.now in
    let most : bytes_of_parts c.args.self.now.parts ≤ c.args.self.now.least - 0 = bytes_of_parts-most 0 r.least r.parts c.parts.ensures.ranges.parts in
    let same : c.bytes_of.result ≡ bytes_of_parts c.args.self.now.parts = c.bytes_of.ensures ∙ ap bytes_of_parts c.parts.ensures.parts in
    omega arith
