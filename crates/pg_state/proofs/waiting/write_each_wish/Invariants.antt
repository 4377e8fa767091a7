use Rattle.std.proofs.Common.{◌≡◌, ◌++◌}
use Rattle.std.specs.List.{flat_map}
use Rattle.pg_state.specs.Spelling.{wish_bytes}
use Rattle.pg_state.proofs.waiting.write_each_wish.Given as goal

abbrev pub invariant-loop-id : goal.invariant-loop-id
invariant-loop-id l =
    l.out ++ flat_map wish_bytes l.id-iterator ≡ l.initial.out ++ flat_map wish_bytes l.wishes.entries
