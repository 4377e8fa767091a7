use Rattle.std.proofs.Common.{rules, ◌≡◌, refl, ◌∙◌}
use Rattle.pg_house.specs.Work.{State, state_of}
use Rattle.pg_house.proofs.Dirty.{house_by}
use Rattle.pg_house.proofs.rules.house.Goals as goal

pub returns : goal.returns
returns c =
    let st : State = state_of c.args.names.now c.args.work.now in
    let settled : state_of c.settle.new.self c.run.new.work ≡ state_of c.run.new.names c.run.new.work = search rules in
    let same : c.as_slice.result.now ≡ c.in_ok-files.files = search rules in
    settled ∙ house_by c.args.moment st c.as_slice.result.now c.in_ok-files.files (state_of c.run.new.names c.run.new.work) c.in_ok-run.ensures (c.in_ok-files.ensures st refl) same
