use Rattle.std.proofs.Common.{ℕ, List, ◌∷◌, ◌++◌, ◌+◌, ◌∙◌, ap, sym, drop}
use Rattle.std.proofs.lemmas.List.{drop_more}
use Rattle.pg_msg.specs.declared.message.Sent.{Sent}
use Rattle.pg_run.specs.Journal.{to_live}
use Rattle.pg_world.specs.Stands.{unless_removed}
use Rattle.pg_world.proofs.Bags.{one_sent}
use Rattle.pg_world.proofs.machine.Machine.send.Goals as goal

pub loop-message-preserved : goal.loop-message-preserved
loop-message-preserved c =
    let old = c.loop-message.invariant in
    let removed = c.args.self.now.removed in
    let xs = c.args.sent.now in
    let i = c.loop-message.message-index in
    let x = c.message-item.result in
    record {
      bag = one_sent removed c.loop-message.self.bag c.send_one.new.self.bag x (drop (i + 1) xs) _
          (c.in_ok-send_one.ensures.bag ∙ ap (λ (r : List ℕ). c.loop-message.self.bag ++ unless_removed r x) old.removed)
          (ap (λ (ms : List Sent). c.loop-message.self.bag ++ to_live removed ms)
          (sym (drop_more xs i x c.loop-message-test.true ∙ ap (λ (y : Sent). y ∷ drop (i + 1) xs) (sym c.message-item.is)))
          ∙ old.bag);
      servers = c.in_ok-send_one.ensures.servers ∙ old.servers;
      removed = c.in_ok-send_one.ensures.removed ∙ old.removed;
    }
