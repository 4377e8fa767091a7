use Rattle.std.proofs.Common.{codes, rules}
use Rattle.pg_command.proofs.Readings.{only_word}
use Rattle.pg_command.proofs.grammar.is_metered.Goals as goal

pub returns-clause-found : goal.returns-clause-found
returns-clause-found c =
    only_word c.args.words.now c.word-item.result c.as_bytes.result.now (codes "--meters")
    c.in-len1-up.len_at_least c.word-item.is c.as_bytes.ensures.value (search rules) (search rules)
