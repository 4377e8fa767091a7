use Rattle.std.proofs.Common.{◌≡◌, rules, List, [], ap, ◌∙◌}
use Rattle.std.specs.Map.{keys_of}
use Rattle.std.specs.Map.Iter.{deref}
use Rattle.std.proofs.lemmas.Map.Iter.{rest_more}
use Rattle.pg_base.specs.declared.id.FileId.{FileId}
use Rattle.pg_entries.specs.declared.entry.Entry.{Entry}
use Rattle.pg_names.proofs.Marking.{drops_all, drops_from, drops_on}
use Rattle.pg_names.proofs.marks.drop_holder.Goals as goal

pub loop-child-init : goal.loop-child-init
loop-child-init c =
    drops_from c.args.dir.now c.args.holders.now (keys_of c.args.entries.now) _
    (c.into_iter-child-iterator.ensures.into_iter_gives ∙ c.keys-child-items.ensures.rest ∙ ap (λ (es : List (FileId × Entry)). keys_of es) c.as_map.ensures.entries)

pub loop-child-preserved : goal.loop-child-preserved
loop-child-preserved c =
    drops_on c.args.dir.now c.args.holders.now c.loop-child.holders _ (keys_of c.args.entries.now) c.loop-child.child-iterator c.next.new.self c.in-Some.child.now c.loop-child.invariant
    (rest_more deref c.loop-child.child-iterator c.next.new.self c.next.result c.in-Some.child c.in-Some.is c.next.ensures.steps) c.remove.ensures

pub returns : goal.returns
returns c =
    let none : c.loop-child.child-iterator ≡ [] = search rules in
    drops_all c.args.dir.now c.args.holders.now c.loop-child.holders c.args.entries.now c.loop-child.child-iterator c.loop-child.invariant none
