use Rattle.std.proofs.Common.{◌≡◌, rules, List, [], ap, ◌∙◌}
use Rattle.pg_base.specs.declared.id.FileId.{FileId}
use Rattle.pg_names.specs.Names.{InodeValue}
use Rattle.std.specs.Map.{keys_of}
use Rattle.pg_index.proofs.Members.{found}
use Rattle.std.specs.Map.Iter.{deref}
use Rattle.std.proofs.lemmas.Map.Iter.{rest_more}
use Rattle.pg_index.specs.Ids.{is_one_of}
use Rattle.pg_names.proofs.Marking.{goes_all, goes_from, goes_on}
use Rattle.pg_names.proofs.marks.mark_all.Goals as goal

pub loop-file-init : goal.loop-file-init
loop-file-init c = goes_from c.args.marks.now (keys_of c.args.held.now.held) _ (c.into_iter-file-iterator.ensures.into_iter_gives ∙ c.keys-file-items.ensures.rest ∙ ap (λ (es : List (FileId × InodeValue)). keys_of es) c.as_map.ensures.held)

pub loop-file-preserved : goal.loop-file-preserved
loop-file-preserved c =
    goes_on c.args.marks.now c.loop-file.marks _ (keys_of c.args.held.now.held) c.loop-file.file-iterator c.next.new.self c.in-Some.file.now c.loop-file.invariant
    (rest_more deref c.loop-file.file-iterator c.next.new.self c.next.result c.in-Some.file c.in-Some.is c.next.ensures.steps) c.in_ok-insert.ensures.ok

pub returns-clause-stays : goal.returns-clause-stays
returns-clause-stays c = c.loop-file.invariant.stays

pub returns-clause-all : goal.returns-clause-all
returns-clause-all c =
    let none : c.loop-file.file-iterator ≡ [] = search rules in
    λ q h. goes_all c.args.marks.now c.loop-file.marks (keys_of c.args.held.now.held) c.loop-file.file-iterator c.loop-file.invariant none q (found q c.args.held.now.held ∙ h)

pub returns-in_err-insert-clause-stays : goal.returns-in_err-insert-clause-stays
returns-in_err-insert-clause-stays c = λ q h. ap (is_one_of q) c.in_err-insert.ensures.err ∙ c.loop-file.invariant.stays q h
