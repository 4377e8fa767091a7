use Rattle.pg_msg.proofs.Updates.{no_update}
use Rattle.pg_words.proofs.ListWords.{texts}
use Rattle.pg_msg.proofs.update.read_update.Goals as goal

pub returns-clause-none : goal.returns-clause-none
returns-clause-none c =
    no_update (texts c.args.words.now) c.in_ok-made.field-0 c.in_ok-found.found c.in_default.is c.in_ok-made.ensures.none c.in_default-read_flag_update.ensures.none c.in_ok-found.ensures.none
