use Rattle.pg_names.proofs.Marking.{spot_back}
use Rattle.pg_names.proofs.marks.enter.Goals as goal

pub returns-in-Err-clause-spots_err : goal.returns-in-Err-clause-spots_err
returns-in-Err-clause-spots_err c = spot_back c.args.spots.now c.put.new.self c.cut.new.self c.args.file c.of-spot.result c.in_ok-put.ensures.ok c.cut.ensures
