use Rattle.std.proofs.Common.{◌≡◌, ◌++◌, drop, take}
use Rattle.pg_content.specs.Content.{bodies_of}
use Rattle.pg_content.proofs.content.Content.view.Given as goal

abbrev pub invariant-loop-version : goal.invariant-loop-version
invariant-loop-version l = l.out.items ++ take l.left (drop l.skip (bodies_of (drop l.version-index l.version-items))) ≡ take l.count (drop l.offset (bodies_of l.version-items))
