use Rattle.std.proofs.Common.{rules, ◌<◌, length}
use Rattle.pg_path.specs.Path.{IsComponent, parts_of}
use Rattle.pg_path.proofs.Firsts.{kept_at}
use Rattle.pg_path.proofs.Cuts.{part_at}
use Rattle.pg_path.proofs.path.Path.part.Goals as goal

pub returns-clause-kept : goal.returns-clause-kept
returns-clause-kept c =
    let text = c.self.inside.text in
    let within : c.args.k < length (parts_of text) = search rules in
    rw c.as_slice.ensures (kept_at IsComponent (parts_of text) c.args.k _ c.self.invariant.0.each (part_at text c.self.inside.cuts.items c.args.k c.index.result.now c.self.invariant.2 within c.index.ensures))
