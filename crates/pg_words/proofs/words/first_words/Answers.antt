use Rattle.std.proofs.Common.{arith}
use Rattle.pg_words.proofs.FirstWords.{left, word_cut, word_last, all_words, full_room}
use Rattle.pg_words.proofs.words.first_words.Goals as goal
use Rattle.pg_words.proofs.words.first_words.Goals.{in-Some-cut_at, in-None}

pub returns-in_default-clause-first : goal.returns-in_default-clause-first
returns-in_default-clause-first c =
    let so_far = rw c.in_default.is at c.loop-index.invariant in
    all_words c.args.line.now c.loop-index.room c.loop-index.index (omega arith) so_far

pub loop-index-preserved : goal.loop-index-preserved
loop-index-preserved c =
    let so_far = rw c.in-Some.is at c.loop-index.invariant in
    elim c.match-cut_at.branch [
      | in-Some-cut_at w ↦ rw (w.room-is, w.rest-is) (word_cut c.args.line.now c.loop-index.room c.loop-index.index c.in-Some.text w.in-Some-cut_at.word w.in-Some-cut_at.more (omega arith) so_far
          w.in-Some-cut_at.ensures.whole w.in-Some-cut_at.ensures.first)
      | in-None w ↦ rw (w.room-is, w.rest-is) (word_last c.args.line.now c.loop-index.room c.loop-index.index c.in-Some.text (omega arith) so_far w.in-None.ensures.none)
    ]

pub returns-clause-first : goal.returns-clause-first
returns-clause-first c =
    full_room c.args.line.now c.loop-index.room c.loop-index.index (left c.loop-index.rest) (omega arith) c.loop-index.invariant
