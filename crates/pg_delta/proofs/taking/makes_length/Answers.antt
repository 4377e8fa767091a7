use Rattle.std.proofs.Common.{◌≡◌, sym, ◌∙◌, arith}
use Rattle.std.proofs.lemmas.Bool.Decides.{Decides-eqb}
use Rattle.pg_content.specs.Content.{shown_bytes}
use Rattle.pg_delta.proofs.Fronts.{length_is}
use Rattle.pg_delta.proofs.taking.makes_length.Goals as goal

pub returns : goal.returns
returns c =
    let cases = length_is (shown_bytes c.args.content.now) c.args.ranges.now c.length.result c.args.length c.length.ensures (omega arith) in
    let same = Decides-eqb c.length_after.result c.from.result in
    let from : c.from.result ≡ c.args.length = omega arith in
    (λ e. cases.0 (sym c.length_after.ensures.length ∙ same.0 e ∙ from), λ e. same.1 (c.length_after.ensures.length ∙ cases.1 e ∙ sym from))
