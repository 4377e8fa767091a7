use Rattle.std.proofs.Common.{◌<◌, ◌^◌, drop}
use Rattle.std.specs.List.{AllByRecursion}
use Rattle.pg_register.specs.declared.flag.Flag.{Flag}
use Rattle.pg_state.proofs.fields.are_low.Given as goal

abbrev pub invariant-loop-flag : goal.invariant-loop-flag
invariant-loop-flag l = record {
  there : AllByRecursion (λ (flag : Flag). flag.number < 2 ^ 63) l.flags → AllByRecursion (λ (flag : Flag). flag.number < 2 ^ 63) (drop l.flag-index l.flags);
  back : AllByRecursion (λ (flag : Flag). flag.number < 2 ^ 63) (drop l.flag-index l.flags) → AllByRecursion (λ (flag : Flag). flag.number < 2 ^ 63) l.flags;
}
