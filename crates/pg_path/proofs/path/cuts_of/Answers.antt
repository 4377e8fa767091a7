use Rattle.std.proofs.Common.{◌+◌, List, ℕ, length, sym, subst}
use Rattle.pg_path.specs.Path.{AreCuts}
use Rattle.pg_path.proofs.Cuts.{Cut, cut_next, cut_last}
use Rattle.pg_path.proofs.path.cuts_of.Goals as goal

pub loop-part-preserved : goal.loop-part-preserved
loop-part-preserved c = record {
  so_far =
      let P : List (ℕ × ℕ) → Type 0 = λ cuts. Cut c.args.text.now (c.loop-part.start + length c.in-Some.part.now + 1) c.in-Some.behind.now cuts in
      subst P (sym c.in_ok-push.ensures.items) (cut_next c.args.text.now c.loop-part.start c.loop-part.rest.now c.loop-part.cuts.items c.in-Some.part.now c.in-Some.behind.now c.loop-part.invariant.so_far c.in-Some.ensures.whole c.in-Some.ensures.first).1;
  some = c.loop-part.invariant.some;
}

pub returns : goal.returns
returns c =
    let P : List (ℕ × ℕ) → Type 0 = λ cuts. AreCuts c.args.text.now cuts in
    subst P (sym c.in_ok-push-2.ensures.items) (cut_last c.args.text.now c.loop-part.start c.loop-part.rest.now c.loop-part.cuts.items c.loop-part.invariant.some c.loop-part.invariant.so_far c.in_default.ensures.none)
