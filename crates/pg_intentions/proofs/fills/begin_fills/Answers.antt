use Rattle.std.proofs.Common.{◌∙◌}
use Rattle.std.specs.Map.{keys_of}
use Rattle.std.specs.Map.Iter.{deref}
use Rattle.std.proofs.lemmas.Map.Iter.{rest_more}
use Rattle.pg_intentions.specs.Fills.{begin_fill, begin_fills}
use Rattle.pg_graph.proofs.pg_pieces.Each.{begins, one_each}
use Rattle.pg_intentions.proofs.fills.begin_fills.Goals as goal

pub loop-file-init : goal.loop-file-init
loop-file-init c =
    begins begin_fill c.args.store.now c.args.work.now _ (keys_of c.args.files.now.entries)
    (c.into_iter-file-iterator.ensures.into_iter_gives ∙ c.keys-file-items.ensures.rest)

pub loop-file-preserved : goal.loop-file-preserved
loop-file-preserved c =
    one_each begin_fill c.loop-file.store _ c.loop-file.work _ c.loop-file.file-iterator c.next.new.self c.in-Some.file.now
    (begin_fills c.args.store.now (keys_of c.args.files.now.entries) c.args.work.now)
    (rest_more deref c.loop-file.file-iterator c.next.new.self c.next.result c.in-Some.file c.in-Some.is c.next.ensures.steps)
    c.in_ok-begin_fill.ensures.store c.in_ok-begin_fill.ensures.work c.loop-file.invariant
