use Rattle.std.proofs.Common.{◌≡◌, ◌∙◌, ℕ, List, Option, None, Some}
use Rattle.clap.proofs.WalkLemmas.{first_value-rows}
use Rattle.clap.specs.Matches.{found_of}
use Rattle.pg_command.proofs.reading.text_at.Goals as goal

pub returns : goal.returns
returns c =
    let e : Some c.in-Some.text.now ≡ Some c.args.checked.now =
    c.in-Some.ensures ∙ first_value-rows (found_of c.args.found.now) c.args.name.now ∙ c.requires in
    cc

pub unreachable-requires : goal.unreachable-requires
unreachable-requires c =
    let e : ◌≡◌ {A = Option (List ℕ)} None (Some c.args.checked.now) =
    c.in-None.ensures ∙ first_value-rows (found_of c.args.found.now) c.args.name.now ∙ c.requires in
    absurd cc
