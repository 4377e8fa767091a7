use Rattle.std.proofs.Common.{◌≡◌, drop}
use Rattle.pg_store.specs.Beginning.{take_patches}
use Rattle.pg_store.proofs.store.Store.take_patches.Given as goal

abbrev pub invariant-loop-key : goal.invariant-loop-key
invariant-loop-key l = take_patches l.self l.dir (drop l.key-index l.key-items) ≡ take_patches l.fn.self l.dir l.key-items
