use Rattle.std.proofs.Common.{rules, ◌≡◌, ap, ◌∙◌}
use Rattle.pg_names.specs.Names.{directories}
use Rattle.pg_house.specs.Work.{State, state_of}
use Rattle.pg_house.specs.Passing.{pass}
use Rattle.pg_house.specs.Placing.{drawn, live_place, made_at}
use Rattle.pg_house.proofs.Keys.{made_dirs}
use Rattle.pg_house.proofs.placing.place.Goals as goal

pub returns : goal.returns
returns c =
    let st : State = state_of c.args.names.now c.args.work.now in
    let f = c.args.file.now in
    let place = live_place (drawn c.args.moment st.names) c.args.parent c.args.name in
    let made : state_of c.make.new.names c.make.new.work ≡ made_at st f place = search rules in
    c.in_ok-pass.ensures ∙ ap (λ (u : State). pass u (directories u.names) f) made ∙ ap (λ ds. pass (made_at st f place) ds f) (made_dirs st f place)
