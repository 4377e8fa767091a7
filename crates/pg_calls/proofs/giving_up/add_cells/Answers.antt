use Rattle.std.proofs.Common.{◌++◌, ◌∙◌, Option, sym, ap}
use Rattle.std.proofs.lemmas.List.{append-nil}
use Rattle.pg_cells.specs.pg_names.Names.{InodeValue}
use Rattle.pg_calls.specs.GivingUp.{slots_in}
use Rattle.pg_calls.proofs.giving_up.add_cells.Goals as goal

pub returns-in_default : goal.returns-in_default
returns-in_default c =
    sym (append-nil c.args.slots.now)
    ∙ ap (λ (o : Option InodeValue). c.args.slots.now ++ slots_in c.args.dir o) c.in_default.ensures
