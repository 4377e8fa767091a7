use Rattle.std.proofs.Common.{◌≡◌, ◌-◌, length}
use Rattle.pg_lookup.specs.Chain.{is_above, is_above_within}
use Rattle.pg_lookup.proofs.chain.is_above.Given as goal

-- as many members of the chain as are left tell of the directory what all tell
abbrev pub invariant-loop-member : goal.invariant-loop-member
invariant-loop-member l =
    is_above_within l.names l.thing (length l.names.held - l._member) l.at
    ≡ is_above l.names l.thing l.initial.at
