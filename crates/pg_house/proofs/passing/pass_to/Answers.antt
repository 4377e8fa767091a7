use Rattle.std.proofs.Common.{rules, ◌≡◌}
use Rattle.std.specs.List.{filter}
use Rattle.pg_names.specs.Names.{directories}
use Rattle.pg_house.specs.Work.{State, state_of}
use Rattle.pg_house.specs.Passing.{wants}
use Rattle.pg_house.proofs.Takers.{passes_to}
use Rattle.pg_house.proofs.passing.pass_to.Goals as goal

pub returns : goal.returns
returns c =
    let s = c.args.names.now in
    let st : State = state_of s c.args.work.now in
    let f = c.args.file.now in
    let own = c.args.own.now in
    let top = c.args.top.now in
    let back = c.is_held_back-back.result in
    let ds = c.as_slice.result.now in
    let near : ds ≡ filter (wants s f own top back) (directories s) = search rules in
    passes_to st f own top c.in_ok-own_taken.field-0 back ds (state_of c.spread.new.names c.spread.new.work) (state_of c.take.new.names c.take.new.work) c.in_ok-spread.ensures c.in_ok-take.ensures
    c.is_held_back-back.ensures near c.in_ok-own_taken.ensures
