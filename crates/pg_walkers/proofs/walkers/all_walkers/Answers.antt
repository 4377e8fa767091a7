use Rattle.std.proofs.Common.{◌≡◌, List, ap, sym, ◌∙◌, rules}
use Rattle.std.specs.Map.{keys_of}
use Rattle.pg_base.specs.declared.id.FileId.{FileId}
use Rattle.pg_index.specs.Ids.{is_one_of}
use Rattle.pg_walkers.proofs.Relisted.{none_listed}
use Rattle.pg_walkers.proofs.walkers.all_walkers.Goals as goal

pub relist_each-requires : goal.relist_each-requires
relist_each-requires c q free =
    let held : c.as_slice.result.now ≡ keys_of c.args.names.now.held = search rules in
    ap (λ (ids : List FileId). is_one_of q ids) c.new-ids.ensures
    ∙ none_listed c.args.names.now c.args.replicas.now q (ap (λ (ids : List FileId). is_one_of q ids) (sym held) ∙ free)
