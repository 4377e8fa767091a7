use Rattle.pg_names.proofs.Steps.{marks_more}
use Rattle.pg_names.proofs.names.Names.remove_server.Goals as goal

pub invariant_of-self : goal.invariant_of-self
invariant_of-self c = let i = c.self.inside in marks_more i.held i.dirty c.mark_all.new.marks i.dirs i.spots i.holders c.mark_all.ensures.stays c.self.invariant
