use Rattle.std.proofs.Common.{arith}
use Rattle.pg_patch.specs.Laying.{opened}
use Rattle.pg_patch.proofs.Pieces.{IsPiece, open_to, grown_order, grown_adds, new_order, new_adds}
use Rattle.pg_patch.proofs.laying.Laying.put.Goals as goal

pub ends_at-requires : goal.ends_at-requires
ends_at-requires c = λ p e. omega (arith, open_to _ _ p c.args.start c.requires.laid.parts e)

pub returns-then-ends_at-clause-laid : goal.returns-then-ends_at-clause-laid
returns-then-ends_at-clause-laid c =
    let t = c.ends_at.ensures.touches c.if-ends_at.true in
    let e = rw c.as_slice.ensures at (c.in_ok-open.ensures t.0 t.1) in
    let h : IsPiece c.args.part.now c.args.start c.args.end = record { from = c.requires.from; some = c.requires.some; upto = c.requires.to } in
    record {
      parts = grown_order c.args.self.done.items (opened c.args.self.open) (opened c.in_ok-open.open) c.args.part.now t.0 c.args.start c.args.end c.requires.laid.parts h t.1 t.2 e;
      begun = λ n. absurd (cc (n, e));
    }

pub returns-then-ends_at-clause-added : goal.returns-then-ends_at-clause-added
returns-then-ends_at-clause-added c =
    let t = c.ends_at.ensures.touches c.if-ends_at.true in
    let e = rw c.as_slice.ensures at (c.in_ok-open.ensures t.0 t.1) in
    let h : IsPiece c.args.part.now c.args.start c.args.end = record { from = c.requires.from; some = c.requires.some; upto = c.requires.to } in
    grown_adds c.args.self.done.items (opened c.args.self.open) (opened c.in_ok-open.open) c.args.part.now t.0 c.args.start c.args.end c.requires.laid.parts h t.1 t.2 e

pub returns-clause-laid : goal.returns-clause-laid
returns-clause-laid c =
    let h : IsPiece c.args.part.now c.args.start c.args.end = record { from = c.requires.from; some = c.requires.some; upto = c.requires.to } in
    let n = new_order c.args.self.done.items c.args.self.open (opened c.in_ok-open-2.open) c.args.part.now c.args.start c.args.end c.requires.laid.parts c.requires.laid.begun (c.ends_at.ensures.apart c.if-ends_at.false) h c.in_ok-open-2.ensures in
    record {
      parts = rw c.in_ok-close.ensures n;
      begun = λ n. absurd (cc (n, c.in_ok-open-2.ensures));
    }

pub returns-clause-added : goal.returns-clause-added
returns-clause-added c =
    let h : IsPiece c.args.part.now c.args.start c.args.end = record { from = c.requires.from; some = c.requires.some; upto = c.requires.to } in
    rw c.in_ok-close.ensures (new_adds _ (opened c.in_ok-open-2.open) c.args.part.now c.args.start c.args.end c.requires.laid.parts h c.in_ok-open-2.ensures)
