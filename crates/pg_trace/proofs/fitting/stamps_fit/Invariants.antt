use Rattle.std.proofs.Common.{take}
use Rattle.std.specs.List.{AllByRecursion}
use Rattle.pg_words.specs.StampWord.{IsStamp}
use Rattle.pg_trace.proofs.fitting.stamps_fit.Given as goal

abbrev pub invariant-loop-stamp : goal.invariant-loop-stamp
invariant-loop-stamp l = AllByRecursion IsStamp (take l.stamp-index l.stamps)
