use Rattle.pg_base.specs.Id.{is_same_file}
use Rattle.pg_index.specs.Ids.{is_one_of}
use Rattle.pg_names.specs.Calm.{holders}
use Rattle.pg_house.proofs.Among.{same_back}
use Rattle.pg_house.proofs.Takers.{two_first}
use Rattle.pg_house.proofs.passing.candidates.Goals as goal

pub returns : goal.returns
returns c =
    λ q.
    let a = c.args.own.now.place.parent in
    let b = c.args.top.now.place.parent in
    two_first (is_same_file a q) (is_same_file q a) (is_same_file b q) (is_same_file q b) (is_one_of q c.insert-2.new.self) (is_one_of q c.insert.new.self) (is_one_of q c.in_ok-ids.ids)
    (is_one_of q (holders c.args.names.now c.args.file.now))
    (c.in_ok-insert-2.ensures.ok q) (same_back a q) (c.in_ok-insert.ensures.ok q) (same_back b q) (c.in_ok-ids.ensures q)
