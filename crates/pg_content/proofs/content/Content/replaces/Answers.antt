use Rattle.std.proofs.Common.{ap}
use Rattle.pg_content.specs.Content.{ContentValue}
use Rattle.pg_content.proofs.Indexes.{replaces_is}
use Rattle.pg_content.proofs.content.Content.replaces.Goals as goal

pub returns-in-Some : goal.returns-in-Some
returns-in-Some c =
    replaces_is c.self.inside.index c.in-Some.index c.self.inside.heads.items c.args.self.now.heads (ap (λ (v : ContentValue). v.heads) c.self.view_is) c.is_some_covered.result c.head.result.now c.args.version.now
    c.self.invariant.index c.in-Some.is c.is_some_covered.ensures.some c.is_some_covered.ensures.vector c.head.ensures.head
