use Rattle.std.proofs.Common.{◌≡◌, ◌<◌, ◌≤◌, length, drop, get_or, max, ap, ◌∙◌, arith}
use Rattle.pg_patch.specs.declared.part.Part.{Part}
use Rattle.pg_patch.specs.Laying.{laid}
use Rattle.pg_patch.specs.Ranges.{all}
use Rattle.pg_patch.proofs.Over.{over-start, over_next, passed_next, over-all}
use Rattle.pg_patch.proofs.Parts.{in_order-wider}
use Rattle.pg_patch.proofs.Passing.{passed-start, passed_at}
use Rattle.pg_patch.proofs.Pieces.{laid-wider}
use Rattle.pg_patch.proofs.composing.laid_over.Goals as goal

pub loop-part-init : goal.loop-part-init
loop-part-init c =
    let a = c.args.a.now in
    record {
      order = c.new-laying.ensures.laid;
      over = rw c.new-laying.ensures.empty (over-start a.parts c.args.b.now.parts c.args.limit (in_order-wider 0 a.least 0 all a.parts (omega arith) (omega (arith, c.parts-lower.ensures.ranges.least)) c.parts-lower.ensures.ranges.parts));
      passed = passed-start c.args.b.now.parts c.args.b.now.least c.parts-part-items.ensures.ranges.parts;
    }

pub put-requires-clause-laid : goal.put-requires-clause-laid
put-requires-clause-laid c =
    let upper = c.args.b.now.parts in
    let j = c.loop-part.part-index in
    let p : Part = c.part-item.result in
    let lt : j < length upper = omega (arith, c.loop-part-test.true, ap length c.parts-part-items.ensures.parts) in
    let is : p ≡ get_or upper j p = c.part-item.is ∙ ap (λ xs. get_or xs j p) c.parts-part-items.ensures.parts in
    let g = passed_at upper j p c.loop-part.at c.args.b.now.least lt is c.loop-part.invariant.passed in
    laid-wider c.in_ok-more.more (max c.loop-part.at c.min.result) p.offset (omega (arith, g.order.0, c.min.ensures)) c.in_ok-more.ensures.laid

pub loop-part-preserved : goal.loop-part-preserved
loop-part-preserved c =
    let lower = c.args.a.now.parts in
    let upper = c.args.b.now.parts in
    let j = c.loop-part.part-index in
    let p : Part = c.part-item.result in
    let lt : j < length upper = omega (arith, c.loop-part-test.true, ap length c.parts-part-items.ensures.parts) in
    let is : p ≡ get_or upper j p = c.part-item.is ∙ ap (λ xs. get_or xs j p) c.parts-part-items.ensures.parts in
    record {
      order = laid-wider c.in_ok-laying.laying c.end.result c.end-at.result (omega (arith, c.end.ensures, c.end-at.ensures)) c.in_ok-laying.ensures.laid;
      over = over_next lower upper (laid c.loop-part.laying) (laid c.in_ok-more.more) (laid c.in_ok-laying.laying) (drop c.loop-part.next lower) (drop c.in_ok-more.further lower) j p c.args.limit c.loop-part.at c.args.b.now.least c.min.result c.end.result c.end-at.result
          lt is c.loop-part.invariant.over c.loop-part.invariant.passed c.min.ensures c.end.ensures c.end-at.ensures c.in_ok-more.ensures.laid.parts (rw c.parts-lower.ensures.parts at c.in_ok-more.ensures.between) c.in_ok-laying.ensures.added;
      passed = passed_next upper j p c.loop-part.at c.args.b.now.least c.end-at.result lt is c.loop-part.invariant.passed c.end-at.ensures;
    }

pub returns-clause-over : goal.returns-clause-over
returns-clause-over c =
    let lower = c.args.a.now in
    let upper = c.args.b.now in
    let le : length upper.parts ≤ c.loop-part.part-index = omega (arith, c.loop-part-test.false, ap length c.parts-part-items.ensures.parts) in
    let whole = over-all lower upper (laid c.loop-part.laying) (laid c.in_ok-laying-2.laying) (drop c.loop-part.next lower.parts) (drop c.in_ok-laying-2.field-0-1 lower.parts) c.loop-part.part-index c.args.limit c.loop-part.at
    c.loop-part.invariant.over c.loop-part.invariant.passed le c.in_ok-laying-2.ensures.laid.parts (rw c.parts-lower.ensures.parts at c.in_ok-laying-2.ensures.between) in
    rw c.in_ok-into_parts.ensures whole
