use Rattle.std.proofs.Common.{◌≡◌, ◌∙◌, sym, length, arith, rules, ap, btree_map_len}
use Rattle.pg_lookup.proofs.Steps.{next_member}
use Rattle.pg_lookup.proofs.chain.is_above.Goals as goal

pub loop-member-preserved : goal.loop-member-preserved
loop-member-preserved c =
    let held : btree_map_len c.as_map.result.now ≡ length c.args.names.now.held =
    ap (λ es. length es) c.as_map.ensures.held in
    sym
    (next_member c.args.names.now c.args.thing c.loop-member.at c.in-Some.own.now
    c.loop-member._member (length c.args.names.now.held) (omega (arith, held, c.len-member-end.ensures.len))
    (search rules) (search rules) (search rules)) ∙ c.loop-member.invariant
