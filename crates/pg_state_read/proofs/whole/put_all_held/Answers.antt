use Rattle.std.proofs.Common.{List, ◌∙◌, ap, sym}
use Rattle.std.specs.Vec.Iter.{into_iter_items}
use Rattle.pg_names.specs.Names.{NamesValue}
use Rattle.pg_replica.specs.Replicas.{ByFile}
use Rattle.pg_state_fields.specs.declared.replicas.Held.{Held}
use Rattle.pg_state_read.specs.Whole.{with_all_held, with_replicas}
use Rattle.pg_state_read.proofs.whole.put_all_held.Goals as goal

pub loop-held-init : goal.loop-held-init
loop-held-init c =
    let all = c.into_iter-held-iterator.ensures.into_iter_gives.0 ∙ c.into_vec-held-items.ensures in (
      ap (λ (rest : List Held). with_all_held c.args.names.now rest) all,
      ap (λ (rest : List Held). with_replicas c.args.replicas.now rest) all,
    )

pub loop-held-preserved : goal.loop-held-preserved
loop-held-preserved c =
    let left : List Held = into_iter_items c.next.new.self in (
      ap (λ (names : NamesValue). with_all_held names left) c.in_ok-put_held.ensures.names
          ∙ sym (ap (λ (rest : List Held). with_all_held c.loop-held.names rest) c.in-Some.ensures.steps.0) ∙ c.loop-held.invariant.0,
      ap (λ (rs : ByFile). with_replicas rs left) c.in_ok-put_held.ensures.replicas
          ∙ sym (ap (λ (rest : List Held). with_replicas c.loop-held.replicas rest) c.in-Some.ensures.steps.0) ∙ c.loop-held.invariant.1,
    )
