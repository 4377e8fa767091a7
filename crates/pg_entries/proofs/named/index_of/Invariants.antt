use Rattle.pg_entries.proofs.Indexing.{NamesSome}
use Rattle.pg_entries.proofs.named.index_of.Given as goal

abbrev pub invariant-loop-child : goal.invariant-loop-child
invariant-loop-child l = NamesSome l.entries.entries l.named l.child-iterator
