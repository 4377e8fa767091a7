use Rattle.std.proofs.Common.{◌≤◌, drop}
use Rattle.std.specs.List.{AllByRecursion}
use Rattle.pg_base.specs.Version.{VersionValue}
use Rattle.pg_state.proofs.time.are_heads_in_time.Given as goal

abbrev pub invariant-loop-version : goal.invariant-loop-version
invariant-loop-version l = record {
  there : AllByRecursion (λ (v : VersionValue). v.head.stamp.time ≤ l.last) l.heads → AllByRecursion (λ (v : VersionValue). v.head.stamp.time ≤ l.last) (drop l.version-index l.heads);
  back : AllByRecursion (λ (v : VersionValue). v.head.stamp.time ≤ l.last) (drop l.version-index l.heads) → AllByRecursion (λ (v : VersionValue). v.head.stamp.time ≤ l.last) l.heads;
}
