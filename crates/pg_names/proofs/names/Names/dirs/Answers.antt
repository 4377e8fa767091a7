use Rattle.std.proofs.Common.{ap, ◌∙◌}
use Rattle.pg_names.specs.Names.{NamesValue, directories}
use Rattle.pg_names.proofs.Listed.{listed_dirs}
use Rattle.pg_names.proofs.names.Names.dirs.Goals as goal

pub returns : goal.returns
returns c =
    let i = c.self.inside in
    listed_dirs i.held c.as_map-held.ensures.sorted i.dirs c.as_slice-dirs.ensures.sorted c.self.invariant.dirs_are ∙ ap (λ (s : NamesValue). directories s) c.self.view_is
