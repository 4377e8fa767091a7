use Rattle.std.proofs.Common.{◌≡◌, ◌≤◌, ◌+◌, ◌-◌, ◌^◌, max, length}
use Rattle.pg_names.specs.Names.{directories}
use Rattle.pg_house.specs.Work.{state_of}
use Rattle.pg_house.specs.Placing.{repeated}
use Rattle.pg_house.specs.Cycles.{break_first}
use Rattle.pg_house.proofs.cycles.break_all.Given as goal

-- the same directories are held throughout
abbrev pub invariant-loop-i : goal.invariant-loop-i
invariant-loop-i l =
    let ds = directories l.initial.names in
    (repeated (l.count - l.i) (break_first l.moment ds) (state_of l.names l.work) ≡ repeated (length ds) (break_first l.moment ds) (state_of l.initial.names l.initial.work))
    × (l.names.last ≤ max (2 ^ 62) l.initial.names.last + l.i) × (directories l.names ≡ ds) × (l.count ≡ length ds)
