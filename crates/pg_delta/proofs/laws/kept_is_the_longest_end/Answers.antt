use Rattle.pg_delta.proofs.Ends.{kept_end, kept_longest, kept_next, kept_within}
use Rattle.pg_delta.proofs.laws.kept_is_the_longest_end.Goals as goal

pub returns : goal.returns
returns c = record { next = kept_next; end = kept_end; within = kept_within; longest = kept_longest }
