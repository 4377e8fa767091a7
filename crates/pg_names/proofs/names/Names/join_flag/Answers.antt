use Rattle.pg_names.proofs.Frames.{grown_insert}
use Rattle.pg_names.proofs.Moves.{flag_step}
use Rattle.pg_names.proofs.Steps.{along, marks_more}
use Rattle.pg_names.proofs.names.Names.join_flag.Goals as goal

pub invariant_of-self-in_err-join_flag : goal.invariant_of-self-in_err-join_flag
invariant_of-self-in_err-join_flag c =
    let i = c.self.inside in
    along i.held c.join_flag.new.self c.insert.new.self i.dirs i.spots i.holders c.in_err-join_flag.ensures.err
    (marks_more i.held i.dirty c.insert.new.self i.dirs i.spots i.holders (grown_insert i.dirty c.insert.new.self c.args.file.now c.in_ok-insert.ensures.ok) c.self.invariant)

pub invariant_of-self-2 : goal.invariant_of-self-2
invariant_of-self-2 c =
    let i = c.self.inside in
    flag_step i.held c.join_flag.new.self c.args.file.now c.args.flag c.in_ok-join_flag.ensures.joined i.dirty c.insert.new.self i.dirs i.spots i.holders c.in_ok-insert.ensures.ok c.self.invariant
