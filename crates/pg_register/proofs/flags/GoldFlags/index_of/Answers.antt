use Rattle.std.proofs.Common.{◌∙◌, None, ap, length}
use Rattle.pg_register.proofs.Indexes.{index-found}
use Rattle.pg_register.proofs.flags.GoldFlags.index_of.Goals as goal

pub returns-in-None : goal.returns-in-None
returns-in-None c = c.len.ensures ∙ c.self.inside.flags.ok.0 ∙ ap length c.self.view_is ∙ index-found c.args.self.now c.args.server None c.in-None.ensures
