use Rattle.std.proofs.Common.{refl, sym, ◌∙◌}
use Rattle.pg_names.proofs.Shifting.{cut_dead, cut_live}
use Rattle.pg_names.proofs.spots.Spots.cut.Goals as goal

pub returns-then-spot : goal.returns-then-spot
returns-then-spot c =
    cut_live c.args.self.now (record { live = c.remove.new.self; dead = c.args.self.now.dead }) c.args.file c.args.spot (sym c.is_root.ensures ∙ c.if-is_root.false) c.if-spot.true refl c.remove.ensures

pub returns-else-spot : goal.returns-else-spot
returns-else-spot c =
    cut_dead c.args.self.now (record { live = c.args.self.now.live; dead = c.remove-else-spot.new.self }) c.args.file c.args.spot (sym c.is_root.ensures ∙ c.if-is_root.false) c.if-spot.false refl c.remove-else-spot.ensures
