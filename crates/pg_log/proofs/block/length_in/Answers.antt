use Rattle.std.proofs.Common.{◌≤◌, ◌<◌, ◌∙◌, ap, subst, arith, get_or, refl, List, ℕ, w32}
use Rattle.std.specs.Int.{from_be_bytes}
use Rattle.pg_log.proofs.Lengths.{padded_more, end_at, bad_length}
use Rattle.pg_log.proofs.block.length_in.Goals as goal

pub returns-then-block-i-clause-err : goal.returns-then-block-i-clause-err
returns-then-block-i-clause-err c =
    let inv = c.loop-i.invariant in
    end_at c.args.block.now c.loop-i.i (λ k. let b = c.type_inv.block k in omega arith) c.loop-i-test.true c.if-block-i.true inv.within
    (subst (λ (l : List ℕ). from_be_bytes w32 l ≤ 65536) inv.field_is inv.small)

pub returns-then-from_be_bytes-gt-MOST-clause-err : goal.returns-then-from_be_bytes-gt-MOST-clause-err
returns-then-from_be_bytes-gt-MOST-clause-err c =
    let inv = c.loop-i.invariant in
    let large = c.if-from_be_bytes-gt-MOST.true in
    let value = c.from_be_bytes.ensures in
    let byte : ℕ = get_or c.args.block.now c.loop-i.i 0 in
    let more = padded_more c.args.block.now c.loop-i.field c.loop-i.i byte c.loop-i-test.true c.if-block-i.false inv.field_is refl in
    bad_length c.args.block.now c.loop-i.i (λ k. let b = c.type_inv.block k in omega arith) c.loop-i-test.true c.if-block-i.false
    (subst (λ (l : List ℕ). from_be_bytes w32 l ≤ 65536) inv.field_is inv.small)
    (subst (λ (v : ℕ). 65536 < v) (value ∙ ap (from_be_bytes w32) more) large)
