use Rattle.std.proofs.Common.{◌≡◌, IfOk, OnOk, length, rules, subst, sym, ◌∙◌}
use Rattle.pg_call.specs.declared.call.Call.{Call}
use Rattle.pg_event.specs.declared.event.Event.TheVariants as event
use Rattle.pg_server.specs.declared.input.Input.TheVariants as input
use Rattle.pg_world.specs.Stands.{IsEntryOf, IsStepEntry, StandsBehind, StepsBehind}
use Rattle.pg_world.proofs.Standing.{call_is_server, called, called_entry, then_if, then_ok}
use Rattle.pg_world.proofs.machine.Machine.call.Goals as goal

pub serve-requires : goal.serve-requires
serve-requires c = λ none. call_is_server _ c.args.self.now.removed c.args.server c.args.call (sym c.void_call-void.ensures ∙ none)

pub returns-clause-state : goal.returns-clause-state
returns-clause-state c =
    let m = c.args.self.now in
    let e = event.Call c.args.server c.args.moment c.args.call in
    let asked = input.Call c.args.moment c.args.call in
    let copied : c.in_ok-copy.field-0 ≡ c.args.call = search rules in
    then_ok c.serve.result (StepsBehind m c.serve.new.self c.void_call-void.result e c.args.server asked) (StandsBehind m c.serve.new.self e)
    (subst (λ (x : Call). OnOk c.serve.result (StepsBehind m c.serve.new.self c.void_call-void.result (event.Call c.args.server c.args.moment x) c.args.server asked))
    copied c.serve.ensures.state) (λ steps w h.
    called m c.serve.new.self (length m.servers.items) c.void_call-void.result c.args.server c.args.moment c.args.call w c.void_call-void.ensures steps h)

pub returns-clause-entry : goal.returns-clause-entry
returns-clause-entry c =
    let m = c.args.self.now in
    let e = event.Call c.args.server c.args.moment c.args.call in
    let asked = input.Call c.args.moment c.args.call in
    let copied : c.in_ok-copy.field-0 ≡ c.args.call = search rules in
    then_if c.serve.result (IsStepEntry m c.void_call-void.result e c.args.server asked) (IsEntryOf m e)
    (subst (λ (x : Call). IfOk c.serve.result (IsStepEntry m c.void_call-void.result (event.Call c.args.server c.args.moment x) c.args.server asked))
    copied c.serve.ensures.entry) (λ entry tells w h.
    called_entry m c.serve.new.self (length m.servers.items) c.void_call-void.result c.args.server c.args.moment c.args.call w entry c.void_call-void.ensures tells h)
