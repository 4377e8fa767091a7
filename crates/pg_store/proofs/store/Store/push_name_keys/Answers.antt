use Rattle.std.proofs.Common.{◌++◌, ◌∙◌, Option, sym, ap}
use Rattle.std.proofs.lemmas.List.{append-nil}
use Rattle.pg_names.specs.Names.{InodeValue}
use Rattle.pg_store.specs.Links.{name_keys}
use Rattle.pg_store.proofs.store.Store.push_name_keys.Goals as goal

pub returns-in_default : goal.returns-in_default
returns-in_default c =
    rw (← c.self.view_is) (sym (append-nil c.args.keys.now) ∙ ap (λ (o : Option InodeValue). c.args.keys.now ++ name_keys o) c.in_default.ensures)
