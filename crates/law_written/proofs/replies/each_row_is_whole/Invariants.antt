use Rattle.std.proofs.Common.{take}
use Rattle.std.specs.List.{AllByRecursion}
use Rattle.pg_packet_read.specs.Replies.{IsWholeRow}
use Rattle.law_written.proofs.replies.each_row_is_whole.Given as goal

abbrev pub invariant-loop-row : goal.invariant-loop-row
invariant-loop-row l = AllByRecursion IsWholeRow (take l.row-index l.rows)
