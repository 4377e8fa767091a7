use Rattle.std.proofs.Common.{rules, arith, ◌<◌, length}
use Rattle.pg_words.proofs.HexWords.{none_read, two_read, no_digits, no_half}
use Rattle.pg_words.proofs.hex_word.decoded.Goals as goal

pub loop-rest-init : goal.loop-rest-init
loop-rest-init c = let start = none_read c.args.word.now c.in_ok-bytes.bytes.items c.in_ok-bytes.ensures.items in record { each = start.0; so_far = start.1 }

pub returns-in_default-byte_of-clause-none : goal.returns-in_default-byte_of-clause-none
returns-in_default-byte_of-clause-none c b is =
    no_digits c.args.word.now c.loop-rest.bytes.items c.loop-rest.rest.now b c.in-len2-up.len_at_least c.loop-rest.invariant.so_far c.in_default-byte_of.ensures.none is

pub loop-rest-preserved : goal.loop-rest-preserved
loop-rest-preserved c =
    let next = two_read c.args.word.now c.loop-rest.bytes.items c.loop-rest.rest.now c.push.new.self.items c.in-Some.byte c.in-len2-up.len_at_least (omega arith)
    c.loop-rest.invariant.each c.loop-rest.invariant.so_far c.in-Some.ensures.found c.in_ok-push.ensures.items in
    record { each = next.0; so_far = next.1 }

pub returns-else-is_empty-clause-none : goal.returns-else-is_empty-clause-none
returns-else-is_empty-clause-none c b is =
    let some : 0 < length c.loop-rest.rest.now = search rules in
    no_half c.args.word.now c.loop-rest.bytes.items c.loop-rest.rest.now b c.loop-rest.invariant.so_far some (omega arith) is
