use Rattle.std.proofs.Common.{refl, sym}
use Rattle.pg_names.specs.Names.{with_place}
use Rattle.pg_names.proofs.Changing.{grown_indexed}
use Rattle.pg_names.proofs.Frames.{grown_insert}
use Rattle.pg_names.proofs.Lookups.{own_with_place, place_same}
use Rattle.pg_names.proofs.Moves.{own_step}
use Rattle.pg_names.proofs.names.Names.join_place.Goals as goal

pub invariant_of-self-in_err-shift : goal.invariant_of-self-in_err-shift
invariant_of-self-in_err-shift c =
    let i = c.self.inside in
    grown_indexed i.held i.dirty c.insert.new.self i.dirs i.spots c.shift.new.self i.holders i.holders c.self.invariant (grown_insert i.dirty c.insert.new.self c.args.file.now c.in_ok-insert.ensures.ok)
    c.in_err-shift.ensures.err (λ k q. refl)

pub invariant_of-self-2 : goal.invariant_of-self-2
invariant_of-self-2 c =
    let i = c.self.inside in
    let a = c.in-Some.before.now in
    own_step i.held c.join_place.new.self c.args.file.now (with_place c.args.place) (λ x. refl) c.join_place.ensures.joined i.dirty c.insert.new.self i.dirs i.spots c.shift.new.self i.holders c.in_ok-insert.ensures.ok c.self.invariant
    a (own_with_place c.args.place a) c.of-from.result c.newer_spot-to.result c.in-Some.ensures (place_same i.held c.args.file.now c.args.place a (sym c.in-Some.ensures)) c.of-from.ensures c.newer_spot-to.ensures c.in_ok-shift.ensures.ok
