use Rattle.std.proofs.Common.{◌≡◌, take}
use Rattle.pg_content.proofs.content.Content.copy.Given as goal

abbrev pub invariant-loop-version : goal.invariant-loop-version
invariant-loop-version l = l.heads.items ≡ take l.version-index l.self-inside.heads.items
