use Rattle.std.proofs.Common.{rules, ◌≡◌}
use Rattle.pg_intentions.specs.Seeks.{to_seek}
use Rattle.pg_intentions.proofs.Marked.{seekers_may}
use Rattle.pg_intentions.proofs.beginning.begin_end.Goals as goal

pub settle-requires : goal.settle-requires
settle-requires c =
    let s = c.args.store.now in
    let are : c.as_slice.result.now ≡ to_seek s = search rules in
    seekers_may s c.as_slice.result.now are
