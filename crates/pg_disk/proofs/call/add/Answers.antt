use Rattle.std.proofs.Common.{[], ◌∷◌, ap, ◌∙◌, List, ℕ}
use Rattle.pg_disk.specs.Disk.{contents}
use Rattle.pg_disk.specs.Told.{steps_of}
use Rattle.pg_disk.specs.Memory.{with_calls, step_of, change_of}
use Rattle.pg_disk.proofs.Calls.{with_calls-push}
use Rattle.pg_disk.proofs.call.add.Goals as goal

pub returns-clause-ok : goal.returns-clause-ok
returns-clause-ok c =
    let history = with_calls [] c.args.calls.now.items in
    ap (with_calls []) c.in_ok-push.ensures.items ∙ with_calls-push [] c.args.calls.now.items _ ∙ ap (λ (name : List ℕ). record {
      name = name;
      file = c.args.file;
      step = step_of c.args.is_done (change_of c.args.edit) (contents (steps_of name c.args.file history));
    } ∷ history) c.in_ok-from_str.ensures.ok
