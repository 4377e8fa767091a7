use Rattle.std.proofs.Common.{◌≡◌, ap, rules}
use Rattle.pg_house.specs.House.{house}
use Rattle.pg_house.specs.Work.{State, state_of}
use Rattle.pg_store.proofs.Housed.{house_marked}
use Rattle.pg_store.proofs.store.Store.house.Goals as goal

pub invariant_of-self-2 : goal.invariant_of-self-2
invariant_of-self-2 c =
    let i = c.self.inside in
    let st = state_of i.names c.args.work.now in
    let touched : c.as_slice.result.now ≡ (house c.args.moment st).work.touched = search rules in
    house_marked c.args.moment st c.house.new.names c.as_slice.result.now i.replicas i.seekers c.mark_each.new.self
    (ap (λ (s : State). s.names) c.in_ok-house.ensures) touched c.mark_each.ensures c.self.invariant
