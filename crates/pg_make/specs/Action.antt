-- The table of what can happen.
use Rattle.std.specs.Prelude.{List, [], ◌∷◌, slice_index_or}
use Rattle.pg_base.specs.declared.policy.Policy.TheVariants.{Last, Join}
use Rattle.pg_make.specs.Draw.{below}
use Rattle.pg_make.specs.declared.action.Request.TheVariants as ask
use Rattle.pg_make.specs.declared.action.Action.{Action}
use Rattle.pg_make.specs.declared.action.Action.TheVariants.{Ask, Repeat, Lose, Restart, Tick, Deliver}
use Rattle.rand_pcg.specs.Lcg.{Lcg}

-- what a number below 16 stands for, from 0 on
abbrev pub actions : List Action
actions =
    Ask ask.Mkdir ∷ Ask (ask.Create Last) ∷ Ask (ask.Create Join) ∷ Ask ask.Write
    ∷ Ask ask.Cut ∷ Ask ask.Rename ∷ Ask ask.Unlink ∷ Ask ask.Rmdir
    ∷ Ask ask.Read ∷ Repeat ∷ Lose ∷ Restart
    ∷ Tick ∷ Deliver ∷ Deliver ∷ Deliver ∷ []

abbrev pub next_action : Lcg → Action × Lcg
next_action words =
    let row = below 16 words in (slice_index_or actions row.0 Deliver, row.1)
