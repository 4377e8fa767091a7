use Rattle.std.proofs.Common.{rules, ◌∙◌, ap}
use Rattle.std.specs.Ordering.{is_eq}
use Rattle.pg_base.specs.Id.{Fits}
use Rattle.pg_entries.proofs.Tildes.{read_is}
use Rattle.pg_entries.proofs.tilde.is_spelling.Goals as goal

pub returns-in-Ok : goal.returns-in-Ok
returns-in-Ok c =
    let read : Fits c.in-Ok.read = record { server = search rules; number = search rules } in
    let id : Fits c.args.id = record { server = search rules; number = search rules } in
    read_is c.args.text.now c.in-Ok.read c.args.id c.is_eq.result read id c.in-Ok.ensures.found (c.is_eq.ensures ∙ ap is_eq c.compare.ensures)
