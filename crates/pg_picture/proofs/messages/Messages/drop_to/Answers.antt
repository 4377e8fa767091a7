use Rattle.std.proofs.Common.{ap, ◌∙◌, not, rules, List}
use Rattle.std.proofs.lemmas.Fn.{filter_same}
use Rattle.pg_picture.specs.Messages.{is_for, without_to}
use Rattle.pg_picture.specs.declared.messages.Message.{Message}
use Rattle.pg_picture.proofs.messages.Messages.drop_to.Goals as goal

pub returns : goal.returns
returns c =
    filter_same _ (λ (m : Message). not (is_for c.args.server m)) _ (λ x b f r. search rules)
    c.self.inside.values.items c.retain.new.self.items c.retain.ensures.filtered
    ∙ ap (λ (bag : List Message). without_to c.args.server bag) c.self.view_is
