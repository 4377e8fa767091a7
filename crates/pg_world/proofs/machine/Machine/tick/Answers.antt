use Rattle.std.proofs.Common.{length, refl, sym, ◌∙◌}
use Rattle.pg_event.specs.declared.event.Event.TheVariants.{Tick}
use Rattle.pg_server.specs.declared.input.Input.TheVariants as input
use Rattle.pg_world.specs.Stands.{IsEntryOf, IsStepEntry, StandsBehind, StepsBehind}
use Rattle.pg_world.proofs.Standing.{none_is_server, served, served_entry, then_if, then_ok}
use Rattle.pg_world.proofs.machine.Machine.tick.Goals as goal

pub serve-requires : goal.serve-requires
serve-requires c = λ none. none_is_server _ c.args.self.now.removed c.args.server (sym c.void_at-void.ensures ∙ none)

pub returns-clause-state : goal.returns-clause-state
returns-clause-state c =
    let m = c.args.self.now in
    let e = Tick c.args.server c.args.moment c.args.word in
    let asked = input.Tick c.args.moment c.args.word in
    then_ok c.serve.result (StepsBehind m c.serve.new.self c.void_at-void.result e c.args.server asked) (StandsBehind m c.serve.new.self e)
    c.serve.ensures.state (λ steps w h.
    served m c.serve.new.self (length m.servers.items) c.void_at-void.result e c.args.server asked w c.void_at-void.ensures steps h
    (record { bag = λ void sent. refl; removed = λ void. refl }))

pub returns-clause-entry : goal.returns-clause-entry
returns-clause-entry c =
    let m = c.args.self.now in
    let e = Tick c.args.server c.args.moment c.args.word in
    let asked = input.Tick c.args.moment c.args.word in
    then_if c.serve.result (IsStepEntry m c.void_at-void.result e c.args.server asked) (IsEntryOf m e)
    c.serve.ensures.entry (λ entry tells w h.
    served_entry m c.serve.new.self (length m.servers.items) c.void_at-void.result e c.args.server asked w entry c.void_at-void.ensures tells h)
