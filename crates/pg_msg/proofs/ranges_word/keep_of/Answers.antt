use Rattle.std.proofs.Common.{arith}
use Rattle.std.proofs.lemmas.Bool.{iff_false}
use Rattle.pg_msg.proofs.Parts.{no_keep}
use Rattle.pg_msg.proofs.ranges_word.keep_of.Goals as goal

pub returns-then-keep-clause-none : goal.returns-then-keep-clause-none
returns-then-keep-clause-none c k lt e =
    no_keep c.args.word.now c.in_ok-keep.keep k (omega arith) c.if-keep.true lt c.in_ok-keep.ensures.found (iff_false c.is_same.ensures c.if-is_same.false) e
