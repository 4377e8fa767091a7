use Rattle.pg_server.specs.declared.server.Server.{Server}
use Rattle.pg_store.specs.Store.{new_store}
use Rattle.pg_host.proofs.Stepped.{begins_fit}
use Rattle.pg_host.proofs.folding.begin.Goals as goal

pub returns-clause-fits : goal.returns-clause-fits
returns-clause-fits c =
    begins_fit (λ (s : Server). s.store) (new_store c.args.servers c.args.server) c.new.result
    (c.spelled.ensures.new c.args.servers c.args.server c.requires.first c.requires.last c.requires.most) c.new.ensures.store
