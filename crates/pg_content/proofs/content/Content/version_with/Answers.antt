use Rattle.std.proofs.Common.{ap, arith}
use Rattle.pg_base.specs.Vector.{number_at}
use Rattle.pg_content.specs.Content.{join_of}
use Rattle.pg_content.proofs.Numbers.{more_same}
use Rattle.pg_content.proofs.content.Content.version_with.Goals as goal

pub new-requires-clause-some : goal.new-requires-clause-some
new-requires-clause-some c =
    let knows = ap (λ v. number_at v c.args.actor) c.in_ok-vector.ensures in
    let more = more_same (join_of c.args.self.now.heads) c.args.actor in
    omega (arith, c.get.ensures.number)
