use Rattle.std.specs.List.{AllByRecursion}
use Rattle.pg_base.specs.declared.id.FileId.{FileId}
use Rattle.pg_store.specs.declared.wishes.Wish.{Wish}
use Rattle.pg_state.specs.Fits.{IsTarget}
use Rattle.pg_state.proofs.expecting.fit_each_wish.Given as goal

abbrev pub invariant-loop-wish : goal.invariant-loop-wish
invariant-loop-wish l = record {
  there : AllByRecursion (λ (w : FileId × Wish). IsTarget w.1.target) l.wishes.entries → AllByRecursion (λ (w : FileId × Wish). IsTarget w.1.target) l.wish-iterator;
  back : AllByRecursion (λ (w : FileId × Wish). IsTarget w.1.target) l.wish-iterator → AllByRecursion (λ (w : FileId × Wish). IsTarget w.1.target) l.wishes.entries;
}
