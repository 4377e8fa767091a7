use Rattle.std.proofs.Common.{ap, ◌∙◌}
use Rattle.pg_index.specs.Ids.{is_one_of}
use Rattle.pg_names.specs.Names.{NamesValue}
use Rattle.pg_names.specs.Calm.{holders}
use Rattle.pg_names.proofs.Listed.{listed_holders}
use Rattle.pg_names.proofs.names.Names.holders.Goals as goal

pub returns : goal.returns
returns c =
    let i = c.self.inside in
    listed_holders i.held c.as_map-held.ensures.sorted c.args.child.now c.get-found.result.now c.as_slice-found.ensures.sorted (λ q. ap (is_one_of q) c.get-found.ensures ∙ c.self.invariant.holders_are c.args.child.now q)
    ∙ ap (λ (s : NamesValue). holders s c.args.child.now) c.self.view_is
