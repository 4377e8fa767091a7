use Rattle.std.proofs.Common.{arith, drop, max, min}
use Rattle.pg_patch.specs.Parts.{end_of}
use Rattle.pg_patch.specs.Laying.{laid}
use Rattle.pg_patch.proofs.Over.{between-start, between_at, between_next, between_stop, between_all}
use Rattle.pg_patch.proofs.Pieces.{laid-wider}
use Rattle.pg_patch.proofs.composing.laid_between.Goals as goal
use Rattle.pg_patch.proofs.composing.laid_between.Goals.{else-loop-next-test, then-loop-next-test+in_ok-laying+then-until-end}

pub loop-next-init : goal.loop-next-init
loop-next-init c = record {
  low = omega arith;
  high = omega arith;
  order = c.requires.laid;
  between = between-start _ _ c.args.from c.requires.parts;
}

pub end-end-requires : goal.end-end-requires
end-end-requires c =
    let h = between_at _ _ _ c.args.parts.now c.loop-next.next c.index-parts-next.result c.args.from c.loop-next.at c.loop-next-test.true c.index-parts-next.is c.loop-next.invariant.between in
    omega (arith, h.rest_order.2)

pub laid_within-requires-clause-small : goal.laid_within-requires-clause-small
laid_within-requires-clause-small c =
    let h = between_at _ _ _ c.args.parts.now c.loop-next.next c.index-parts-next.result c.args.from c.loop-next.at c.loop-next-test.true c.index-parts-next.is c.loop-next.invariant.between in
    omega (arith, h.rest_order.2)

pub loop-next-preserved : goal.loop-next-preserved
loop-next-preserved c = record {
  low = omega (arith, c.loop-next.invariant.low, c.max-at.ensures);
  high = omega (arith, c.loop-next.invariant.high, c.max-at.ensures, c.min.ensures);
  order = laid-wider c.in_ok-laying.laying (max c.loop-next.at (min c.args.until (end_of c.index-parts-next.result))) c.max-at.result (omega (arith, c.max-at.ensures, c.min.ensures, c.end-end.ensures)) c.in_ok-laying.ensures.laid;
  between = between_next (laid c.args.laying) (laid c.loop-next.laying) (laid c.in_ok-laying.laying) (drop c.args.first c.args.parts.now) c.args.parts.now c.loop-next.next c.index-parts-next.result c.args.from c.loop-next.at c.args.until c.max-at.result
      c.loop-next-test.true c.index-parts-next.is c.loop-next.invariant.low c.loop-next.invariant.order.parts c.loop-next.invariant.between c.in_ok-laying.ensures.added
      (omega (arith, c.max-at.ensures, c.min.ensures, c.end-end.ensures)) (omega (arith, c.if-until-end.false, c.end-end.ensures));
}

pub returns-clause-laid : goal.returns-clause-laid
returns-clause-laid c =
    let to = max c.args.from c.args.until in
    elim c.loop-next-test.branch [
      | else-loop-next-test w ↦ rw w.laying-is (laid-wider c.loop-next.laying c.loop-next.at to (omega (arith, c.loop-next.invariant.high)) c.loop-next.invariant.order)
      | then-loop-next-test+in_ok-laying+then-until-end w ↦ rw w.laying-is (laid-wider w.in_ok-laying.laying _ to (omega (arith, c.loop-next.invariant.high)) w.in_ok-laying.ensures.laid)
    ]

pub returns-clause-between : goal.returns-clause-between
returns-clause-between c =
    let to = max c.args.from c.args.until in
    let old = laid c.args.laying in
    let others = drop c.args.first c.args.parts.now in
    elim c.loop-next-test.branch [
      | else-loop-next-test w ↦ rw w.laying-is (between_all old (laid c.loop-next.laying) others c.args.parts.now c.loop-next.next c.args.from c.loop-next.at to w.loop-next-test.false c.loop-next.invariant.high c.loop-next.invariant.order.parts c.loop-next.invariant.between)
      | then-loop-next-test+in_ok-laying+then-until-end w ↦ rw w.laying-is (between_stop old (laid c.loop-next.laying) (laid w.in_ok-laying.laying) others c.args.parts.now c.loop-next.next w.index-parts-next.result c.args.from c.loop-next.at c.args.until
          w.loop-next-test.true w.index-parts-next.is c.loop-next.invariant.low c.loop-next.invariant.high c.loop-next.invariant.order.parts c.loop-next.invariant.between w.in_ok-laying.ensures.added (omega (arith, w.if-until-end.true, w.end-end.ensures)))
    ]
