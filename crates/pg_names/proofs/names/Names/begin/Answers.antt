use Rattle.std.proofs.Common.{◌≡◌, None, ◌∙◌}
use Rattle.pg_names.specs.Names.{known}
use Rattle.pg_names.proofs.Frames.{grown_insert, grown_more}
use Rattle.pg_names.proofs.Moves.{absent, begun_step, begun_value, not_begun, ready}
use Rattle.pg_names.proofs.Steps.{marks_more}
use Rattle.pg_names.proofs.names.Names.begin.Goals as goal

pub invariant_of-self-in_err-mark_each : goal.invariant_of-self-in_err-mark_each
invariant_of-self-in_err-mark_each c =
    let i = c.self.inside in
    marks_more i.held i.dirty c.mark_each.new.marks i.dirs i.spots i.holders
    (grown_more i.dirty c.insert.new.self c.mark_each.new.marks (grown_insert i.dirty c.insert.new.self c.args.file c.in_ok-insert.ensures.ok) c.mark_each.ensures.stays) c.self.invariant

pub invariant_of-self-in_err-mark_each-2 : goal.invariant_of-self-in_err-mark_each-2
invariant_of-self-in_err-mark_each-2 c =
    let i = c.self.inside in
    marks_more i.held i.dirty c.mark_each-2.new.marks i.dirs i.spots i.holders
    (grown_more i.dirty c.insert.new.self c.mark_each-2.new.marks (grown_insert i.dirty c.insert.new.self c.args.file c.in_ok-insert.ensures.ok)
    (grown_more c.insert.new.self c.mark_each.new.marks c.mark_each-2.new.marks c.mark_each.ensures.stays c.mark_each-2.ensures.stays)) c.self.invariant

pub invariant_of-self-in_err-enter : goal.invariant_of-self-in_err-enter
invariant_of-self-in_err-enter c =
    let i = c.self.inside in
    let f = c.args.file in
    let none : known i.held f ≡ None = absent c.args.self.now i.held f (c.self.view_is ∙ c.in_ok-let_go.ensures.ok) in
    let r =
    ready i.held f i.dirty c.insert.new.self c.mark_each.new.marks c.mark_each-2.new.marks i.dirs c.at.result.now c.at-2.result.now i.spots i.holders c.self.invariant c.in_ok-insert.ensures.ok
    c.at.ensures c.mark_each.ensures.stays c.in_ok-mark_each.ensures.all c.at-2.ensures c.mark_each-2.ensures.stays c.in_ok-mark_each-2.ensures.all in
    not_begun i.held c.enter.new.held f none c.in_err-enter.ensures.err i.dirty c.mark_each-2.new.marks i.dirs c.enter.new.dirs i.spots c.enter.new.spots i.holders c.self.invariant r.stays
    c.in_err-enter.ensures.dirs_err c.in_err-enter.ensures.spots_err

pub invariant_of-self-2 : goal.invariant_of-self-2
invariant_of-self-2 c =
    let i = c.self.inside in
    let f = c.args.file in
    let none : known i.held f ≡ None = absent c.args.self.now i.held f (c.self.view_is ∙ c.in_ok-let_go.ensures.ok) in
    let r =
    ready i.held f i.dirty c.insert.new.self c.mark_each.new.marks c.mark_each-2.new.marks i.dirs c.at.result.now c.at-2.result.now i.spots i.holders c.self.invariant c.in_ok-insert.ensures.ok
    c.at.ensures c.mark_each.ensures.stays c.in_ok-mark_each.ensures.all c.at-2.ensures c.mark_each-2.ensures.stays c.in_ok-mark_each-2.ensures.all in
    begun_step i.held c.enter.new.held f c.args.own c.args.full none c.in_ok-enter.ensures.held i.dirty c.mark_each-2.new.marks i.dirs c.enter.new.dirs i.spots c.enter.new.spots i.holders c.self.invariant r
    c.in_ok-enter.ensures.dirs c.in_ok-enter.ensures.spots

pub returns : goal.returns
returns c =
    let i = c.self.inside in
    begun_value c.args.self.now i.held c.enter.new.held c.args.file c.args.own c.args.full c.as_map-held.ensures.sorted (c.self.view_is ∙ c.in_ok-let_go.ensures.ok) c.in_ok-enter.ensures.held
