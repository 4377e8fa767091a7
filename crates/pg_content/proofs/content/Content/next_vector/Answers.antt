use Rattle.std.proofs.Common.{◌^◌, arith}
use Rattle.pg_content.proofs.content.Content.next_vector.Goals as goal

pub overflow_add-number : goal.overflow_add-number
overflow_add-number c = let most = c.in_ok-vector.ensures.most c.args.actor (2 ^ 63) (omega arith) c.requires in omega (arith, c.get-number.ensures.number)
