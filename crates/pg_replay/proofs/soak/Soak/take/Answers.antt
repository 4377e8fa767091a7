use Rattle.std.proofs.Common.{List, rules, ap, ◌∙◌}
use Rattle.pg_replay.specs.declared.mark.Mark.{Mark}
use Rattle.pg_replay.specs.declared.soak.Tally.{Tally}
use Rattle.pg_replay.specs.Soaking.{with_marks}
use Rattle.pg_replay.proofs.Soaked.{line_tallied}
use Rattle.pg_replay.proofs.soak.Soak.take.Goals as goal

pub returns : goal.returns
returns c =
    let a = c.args.self.now in
    let r = c.take.new.self in
    let t = c.in_ok-take.ensures in
    record {
      world = t.world;
      going = t.going;
      servers = t.servers;
      marks = search rules;
      out = λ e. search rules;
      tally = c.add_all.ensures ∙ ap (λ (ms : List Mark). with_marks ms c.add_line.new.self) c.deref.ensures.value
          ∙ ap (λ (s : Tally). with_marks r.marks.items s) c.add_line.ensures
          ∙ line_tallied a.replay r _ c.args.line.now a.tally c.requires.counted t;
    }
