use Rattle.std.proofs.Common.{refl, sym, ◌∙◌}
use Rattle.pg_names.proofs.Shifting.{put_dead, put_live}
use Rattle.pg_names.proofs.spots.Spots.put.Goals as goal

pub returns-then-spot-clause-ok : goal.returns-then-spot-clause-ok
returns-then-spot-clause-ok c =
    put_live c.args.self.now (record { live = c.insert.new.self; dead = c.args.self.now.dead }) c.args.file c.args.spot (sym c.is_root.ensures ∙ c.if-is_root.false) c.if-spot.true refl c.in_ok-insert.ensures.ok

pub returns-clause-ok : goal.returns-clause-ok
returns-clause-ok c =
    put_dead c.args.self.now (record { live = c.args.self.now.live; dead = c.insert-2.new.self }) c.args.file c.args.spot (sym c.is_root.ensures ∙ c.if-is_root.false) c.if-spot.false refl c.in_ok-insert-2.ensures.ok
