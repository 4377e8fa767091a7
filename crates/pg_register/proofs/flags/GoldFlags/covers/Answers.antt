use Rattle.std.proofs.Common.{◌≡◌, not, ap}
use Rattle.pg_register.specs.Flag.{covers_flag}
use Rattle.pg_register.proofs.Joining.{covers_flag-stays}
use Rattle.pg_register.proofs.flags.GoldFlags.covers.Goals as goal

pub returns-clause-no_change : goal.returns-clause-no_change
returns-clause-no_change c =
    let covers : not c.is_new.result ≡ covers_flag c.args.self.now c.args.flag.now = ap not c.is_new.ensures in
    covers_flag-stays c.args.self.now c.args.flag.now (not c.is_new.result) covers
