use Rattle.std.proofs.Common.{◌∙◌, sym}
use Rattle.pg_saving.proofs.Usable.{is_usable}
use Rattle.pg_saving.proofs.loading.usable.Goals as goal

pub returns-then-is_of-clause-usable : goal.returns-then-is_of-clause-usable
returns-then-is_of-clause-usable c =
    is_usable c.args.server c.args.servers c.args.entries c.args.saved.folded c.in-Ok.store c.in-Ok.ensures.fits
    (sym c.is_of.ensures ∙ c.if-is_of.true)
