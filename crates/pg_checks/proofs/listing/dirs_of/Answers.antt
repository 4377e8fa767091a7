use Rattle.std.proofs.Common.{rules}
use Rattle.pg_checks.proofs.Holders.{holders_are}
use Rattle.pg_checks.proofs.listing.dirs_of.Goals as goal

pub returns : goal.returns
returns c = holders_are c.args.names.now c.args.id _ (search rules)
