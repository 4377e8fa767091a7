use Rattle.std.proofs.Common.{arith, ◌∙◌, ◌+◌, subst}
use Rattle.pg_disk.specs.Told.{Told, given, IsRead}
use Rattle.pg_checkpoint.proofs.Pieces.{read_more, size_more}
use Rattle.pg_checkpoint.proofs.reading.read_bytes.Goals as goal

pub loop-piece-preserved : goal.loop-piece-preserved
loop-piece-preserved g c = record {
  read = λ tells.
      let same = c.loop-piece.invariant.same tells in
      let read = subst (λ (t : Told). IsRead (given t c.args.file) (c.args.at + c.len-in-loop-piece.result) c.in_ok-count.count c.read.new.buf) same (c.in_ok-count.ensures.bytes tells) in
      read_more (given (g.D.Disk.told c.args.disk.now) c.args.file) c.loop-piece.bytes.items c.extend_from_slice.new.self.items c.read.new.buf c.args.at _ c.in_ok-count.count _
      (omega arith) (omega arith) c.in_ok-count.ensures.bound.0 (c.loop-piece.invariant.read tells) read c.in_ok-extend_from_slice.ensures.items;
  within =
      let size = size_more c.loop-piece.bytes.items c.extend_from_slice.new.self.items c.read.new.buf c.in_ok-count.count _ c.in_ok-extend_from_slice.ensures.items (omega arith) c.in_ok-count.ensures.bound.0 in
      omega arith;
  same = λ tells. c.read.ensures.same tells ∙ c.loop-piece.invariant.same tells;
  later = omega (arith, c.loop-piece.invariant.later, c.read.ensures.cause.later);
}
