use Rattle.std.proofs.Common.{◌≡◌, take, true}
use Rattle.std.specs.List.{list_all}
use Rattle.pg_state_read.specs.Whole.{is_head_in_time}
use Rattle.pg_state_read.proofs.time.are_heads_in_time.Given as goal

abbrev pub invariant-loop-version : goal.invariant-loop-version
invariant-loop-version l = list_all (is_head_in_time l.last) (take l.version-index l.heads) ≡ true
