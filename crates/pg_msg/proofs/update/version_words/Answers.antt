use Rattle.std.proofs.Common.{arith, []}
use Rattle.pg_msg.proofs.UpdateWords.{eleven}
use Rattle.pg_msg.proofs.update.version_words.Goals as goal

pub returns-clause-found : goal.returns-clause-found
returns-clause-found c =
    let v = c.is_version.ensures.0 c.if-not-is_version.false in
    let k = c.are_ranges.ensures.0 c.if-not-are_ranges.false in
    eleven c.args.words.now (record { ref_ptr = (0, 0); now = [] }) (omega arith) v.0 v.1 k.0 k.1 k.2
