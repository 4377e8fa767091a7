use Rattle.std.proofs.Common.{◌≡◌, ◌<◌, ◌++◌, ◌+◌, length, take, drop, get_or, ◌∙◌, ap, arith}
use Rattle.pg_patch.specs.declared.part.Part.{Part}
use Rattle.pg_patch.specs.Filling.{Fills}
use Rattle.pg_patch.specs.Ranges.{kept}
use Rattle.pg_patch.proofs.Built.{built-more, passed-built, built-all}
use Rattle.pg_patch.proofs.Passing.{passed_at}
use Rattle.pg_patch.proofs.applying.apply.Goals as goal

pub loop-part-preserved : goal.loop-part-preserved
loop-part-preserved c =
    let parts = c.args.ranges.now.parts in
    let j = c.loop-part.part-index in
    let p : Part = c.part-item.result in
    let lt : j < length parts = omega (arith, c.loop-part-test.true, ap length c.parts-part-items.ensures.parts) in
    let e : p ≡ get_or parts j p = c.part-item.is ∙ ap (λ xs. get_or xs j p) c.parts-part-items.ensures.parts in
    let g = passed_at parts j p (length c.loop-part.out.items) c.args.ranges.now.least lt e c.loop-part.invariant.passed in
    let f : Fills c.loop-part.out.items c.fill.new.out.items (take c.kept_length-kept.result c.args.body.now) p.offset = c.in_ok-fill.ensures in
    let n : c.extend_from_slice.new.self.items ≡ c.fill.new.out.items ++ p.bytes = c.in_ok-extend_from_slice.ensures.items ∙ ap (λ xs. c.fill.new.out.items ++ xs) c.as_slice.ensures in
    record {
      built = rw n (built-more parts p (drop (j + 1) parts) _ c.loop-part.out.items c.fill.new.out.items c.args.ranges.now.least c.loop-part.invariant.built g f);
      passed = rw n (passed-built parts p (drop (j + 1) parts) _ c.loop-part.out.items c.fill.new.out.items c.args.ranges.now.least g f);
    }

pub fill-requires-2 : goal.fill-requires-2
fill-requires-2 c = omega (arith, c.loop-part.invariant.passed.upto, c.length_after-len.ensures.length)

pub returns : goal.returns
returns c =
    c.from_vec.ensures
    ∙ built-all c.args.body.now c.loop-part.out.items c.fill-2.new.out.items c.args.ranges.now c.loop-part.part-index c.kept_length-kept.result c.length_after-len.result
    (c.kept_length-kept.ensures ∙ ap (λ k. kept k (length c.args.body.now)) c.keep.ensures) c.length_after-len.ensures.length
    c.loop-part.invariant.built c.loop-part.invariant.passed (omega (arith, c.loop-part-test.false, ap length c.parts-part-items.ensures.parts)) c.in_ok-fill-2.ensures
