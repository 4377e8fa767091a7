use Rattle.std.proofs.Common.{ap}
use Rattle.pg_content.specs.Content.{ContentValue}
use Rattle.pg_content.proofs.Indexes.{most_is}
use Rattle.pg_content.proofs.content.Content.join_of_heads.Goals as goal

pub returns-in-Some-clause-most : goal.returns-in-Some-clause-most
returns-in-Some-clause-most c =
    most_is c.self.inside.index c.in-Some.index c.self.inside.heads.items c.args.self.now.heads (ap (λ (v : ContentValue). v.heads) c.self.view_is) c.copy.result c.join.result.now
    c.self.invariant.index c.in-Some.is c.copy.ensures.same c.join.ensures
