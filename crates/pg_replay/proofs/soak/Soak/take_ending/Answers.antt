use Rattle.std.proofs.Common.{[], ◌∷◌, subst}
use Rattle.pg_sched.specs.declared.line.Line.{Line}
use Rattle.pg_sched.specs.declared.line.Line.TheVariants.{Quiet}
use Rattle.pg_replay.specs.Soaked.{SoaksOn}
use Rattle.pg_replay.proofs.Soaked.{soaks_then}
use Rattle.pg_replay.proofs.soak.Soak.take_ending.Goals as goal

pub returns : goal.returns
returns c =
    let a = c.args.self.now in
    let b = c.take.new.self in
    let d = c.take_quiet.new.self in
    let last = c.last_settling.result in
    let P : Line → Type 0 = λ l. SoaksOn a d (l ∷ Quiet ∷ []) in
    subst P c.last_settling.ensures.settling
    (soaks_then a b d (last ∷ []) (Quiet ∷ []) c.in_ok-take.ensures c.in_ok-take_quiet.ensures)

pub take_quiet-requires-clause-going : goal.take_quiet-requires-clause-going
take_quiet-requires-clause-going c = c.in_ok-take.ensures.going

pub take_quiet-requires-clause-counted : goal.take_quiet-requires-clause-counted
take_quiet-requires-clause-counted c = c.in_ok-take.ensures.marks
