use Rattle.std.proofs.Common.{arith}
use Rattle.std.proofs.lemmas.Bool.{iff_false}
use Rattle.pg_msg.proofs.Parts.{no_ranges}
use Rattle.pg_msg.proofs.Parts.{ranges_fit, part_bytes}
use Rattle.pg_msg.proofs.ranges_word.ranges_of.Goals as goal

pub returns-in_default-2-clause-none : goal.returns-in_default-2-clause-none
returns-in_default-2-clause-none c r is bytes e f g =
    let none = rw c.in_default-2.is at c.in_ok-parts.ensures.none in
    none r.parts (ranges_fit r is bytes) g

pub returns-then-not-are_in_order-clause-none : goal.returns-then-not-are_in_order-clause-none
returns-then-not-are_in_order-clause-none c r is bytes e f g =
    let found = rw c.in-Some-2.is at c.in_ok-parts.ensures.found in
    let none = rw c.as_slice.ensures at (iff_false c.are_in_order.ensures c.if-not-are_in_order.true) in
    no_ranges c.args.parts.now c.args.least.now c.in-Some-2.parts c.in-Some-number_u32.least (omega arith) found.0 found.1 c.in-Some-number_u32.ensures.found none r is bytes f g

pub returns-clause-found : goal.returns-clause-found
returns-clause-found c =
    let found = rw c.in-Some-2.is at c.in_ok-parts.ensures.found in
    let order = rw c.as_slice.ensures at (c.are_in_order.ensures.0 c.if-not-are_in_order.false) in
    rw c.from_parts.ensures (record { keep = omega arith; least = omega arith; parts = order }, part_bytes c.in-Some-2.parts found.0, c.in-Some.ensures.found, c.in-Some-number_u32.ensures.found, found.1)
