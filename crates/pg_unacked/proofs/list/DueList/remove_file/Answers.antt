use Rattle.std.proofs.Common.{◌≤◌, List, ap, ◌∙◌, arith, sym}
use Rattle.std.specs.List.{remove_range}
use Rattle.std.proofs.lemmas.Bool.Decides.{nat_tests}
use Rattle.pg_unacked.specs.declared.due.Due.{Due}
use Rattle.pg_unacked.proofs.Places.{cut_out, none_out, ordered_filter, without}
use Rattle.pg_unacked.proofs.list.DueList.remove_file.Goals as goal

pub returns-then-start-end : goal.returns-then-start-end
returns-then-start-end c =
    let s = c.start_of-start.result in
    let e = c.end_of-end.result in
    c.drop-drain.ensures.items ∙ c.drain.ensures.kept ∙ ap (λ (ds : List Due). remove_range ds s e) c.self.view_is
    ∙ cut_out c.args.self.now c.args.file.now s e c.start_of-start.ensures.parted c.end_of-end.ensures.parted c.if-start-end.true c.end_of-end.ensures.range

pub invariant_of-self : goal.invariant_of-self
invariant_of-self c =
    ordered_filter _ c.self.inside.dues.items _ c.self.invariant (returns-then-start-end c ∙ ap (λ (ds : List Due). without c.args.file.now ds) (sym c.self.view_is))

pub returns-else-start-end : goal.returns-else-start-end
returns-else-start-end c =
    let s = c.start_of-start.result in
    let e = c.end_of-end.result in
    none_out c.args.self.now c.args.file.now s e c.start_of-start.ensures.parted c.end_of-end.ensures.parted (let le : e ≤ s = grind (arith, nat_tests) in le)
