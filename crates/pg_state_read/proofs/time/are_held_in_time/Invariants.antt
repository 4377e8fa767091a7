use Rattle.std.proofs.Common.{◌≡◌, take, true}
use Rattle.std.specs.List.{list_all}
use Rattle.pg_state_read.specs.Whole.{is_held_in_time}
use Rattle.pg_state_read.proofs.time.are_held_in_time.Given as goal

abbrev pub invariant-loop-held : goal.invariant-loop-held
invariant-loop-held l = list_all (is_held_in_time l.last) (take l.held-index l.all) ≡ true
