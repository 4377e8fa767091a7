use Rattle.std.proofs.Common.{◌≡◌, drop}
use Rattle.pg_store.specs.Views.{cut_each}
use Rattle.pg_store.proofs.store.Store.cut_each.Given as goal

abbrev pub invariant-loop-file : goal.invariant-loop-file
invariant-loop-file l = cut_each l.server l.self (drop l.file-index l.files) ≡ cut_each l.server l.fn.self l.files
