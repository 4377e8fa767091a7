use Rattle.std.proofs.Common.{rules, ◌≡◌, Some}
use Rattle.std.specs.List.{filter}
use Rattle.pg_names.specs.Calm.{holders}
use Rattle.pg_names.specs.Names.{is_dir, own_at}
use Rattle.pg_house.specs.Work.{State, state_of}
use Rattle.pg_house.proofs.Takers.{passes_by}
use Rattle.pg_house.proofs.passing.pass.Goals as goal

pub returns : goal.returns
returns c =
    let s = c.args.names.now in
    let f = c.args.file.now in
    let st : State = state_of s c.args.work.now in
    let own = c.in_ok-own-in-Some.own in
    let near : c.as_slice.result.now ≡ filter is_dir (holders s f) = search rules in
    let held : own_at s f ≡ Some own = search rules in
    passes_by st f own c.in_ok-top.top c.as_slice.result.now (state_of c.pass_to.new.names c.pass_to.new.work) c.in_ok-pass_to.ensures c.in_ok-top.ensures near held
