use Rattle.std.proofs.Common.{Some, None}
use Rattle.pg_world.proofs.Standing.{removal_by}
use Rattle.pg_world.proofs.machine.Machine.is_removal.Goals as goal

pub returns-in-Some : goal.returns-in-Some
returns-in-Some c = removal_by c.args.self.now.removed c.args.number c.args.server (Some c.in-Some.removed) c.in-Some.ensures

pub returns-in-None : goal.returns-in-None
returns-in-None c = removal_by c.args.self.now.removed c.args.number c.args.server None c.in-None.ensures
