use Rattle.std.proofs.Common.{◌≡◌, drop}
use Rattle.pg_names.specs.Names.{directories}
use Rattle.pg_house.specs.Work.{state_of}
use Rattle.pg_house.specs.Passing.{pass_all}
use Rattle.pg_house.proofs.passing.pass_all.Given as goal

-- the same directories are held throughout
abbrev pub invariant-loop-file : goal.invariant-loop-file
invariant-loop-file l =
    (pass_all (state_of l.names l.work) (directories l.initial.names) (drop l.file-index l.files) ≡ pass_all (state_of l.initial.names l.initial.work) (directories l.initial.names) l.files)
    × (directories l.names ≡ directories l.initial.names)
