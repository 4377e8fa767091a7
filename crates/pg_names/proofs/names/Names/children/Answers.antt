use Rattle.std.proofs.Common.{true, ap, ◌∙◌}
use Rattle.pg_index.specs.Ids.{is_one_of}
use Rattle.pg_names.specs.Names.{NamesValue}
use Rattle.pg_names.specs.Calm.{children}
use Rattle.pg_names.proofs.Listed.{listed_children}
use Rattle.pg_names.proofs.names.Names.children.Goals as goal

pub returns : goal.returns
returns c =
    let i = c.self.inside in
    listed_children i.held c.as_map-held.ensures.sorted c.args.dir.now c.at-found.result.now c.as_slice-found.ensures.sorted (λ q. ap (is_one_of q) c.at-found.ensures ∙ c.self.invariant.spots_are true c.args.dir.now q)
    ∙ ap (λ (s : NamesValue). children s c.args.dir.now) c.self.view_is
