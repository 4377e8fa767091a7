use Rattle.std.proofs.Common.{ap, ◌∙◌, not, rules}
use Rattle.std.specs.List.{filter}
use Rattle.std.proofs.lemmas.Fn.{filter_same}
use Rattle.pg_base.specs.declared.head.Head.{Head}
use Rattle.pg_base.specs.Version.{VersionValue}
use Rattle.pg_content.specs.Content.{covers_version}
use Rattle.pg_content.proofs.writing.drop_covered.Goals as goal

pub returns-clause-heads : goal.returns-clause-heads
returns-clause-heads c =
    let vector = c.head.result.now.vector in
    filter_same _ (λ (h : VersionValue). not (covers_version vector h)) _ (λ x b f r. search rules) c.args.heads.now.items c.retain.new.self.items c.retain.ensures.filtered
    ∙ ap (λ (head : Head). filter (λ h. not (covers_version head.vector h)) c.args.heads.now.items) c.head.ensures.head
