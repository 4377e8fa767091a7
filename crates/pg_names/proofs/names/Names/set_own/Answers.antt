use Rattle.std.proofs.Common.{refl, sym}
use Rattle.pg_names.specs.Names.{with_own}
use Rattle.pg_names.proofs.Changing.{grown_indexed}
use Rattle.pg_names.proofs.Frames.{grown_insert}
use Rattle.pg_names.proofs.Lookups.{own_same}
use Rattle.pg_names.proofs.Moves.{own_step}
use Rattle.pg_names.proofs.names.Names.set_own.Goals as goal

pub invariant_of-self-in_err-shift : goal.invariant_of-self-in_err-shift
invariant_of-self-in_err-shift c =
    let i = c.self.inside in
    grown_indexed i.held i.dirty c.insert.new.self i.dirs i.spots c.shift.new.self i.holders i.holders c.self.invariant (grown_insert i.dirty c.insert.new.self c.args.file.now c.in_ok-insert.ensures.ok)
    c.in_err-shift.ensures.err (λ k q. refl)

pub invariant_of-self-2 : goal.invariant_of-self-2
invariant_of-self-2 c =
    let i = c.self.inside in
    let own = c.args.own in
    own_step i.held c.set_own.new.self c.args.file.now (with_own own) (λ x. refl) c.set_own.ensures i.dirty c.insert.new.self i.dirs i.spots c.shift.new.self i.holders c.in_ok-insert.ensures.ok c.self.invariant
    c.in-Some.before.now own c.of-from.result c.of-to.result c.in-Some.ensures (own_same i.held c.args.file.now c.in-Some.before.now own (sym c.in-Some.ensures)) c.of-from.ensures c.of-to.ensures c.in_ok-shift.ensures.ok
