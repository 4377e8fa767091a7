use Rattle.std.proofs.lemmas.Bool.{iff_false}
use Rattle.pg_command.proofs.Targets.{id_of_target, id_target, path_target, text_of_target}
use Rattle.pg_command.proofs.argument.is_target.Goals as goal

pub returns-then-has_slash : goal.returns-then-has_slash
returns-then-has_slash c =
    let slash = c.has_slash.ensures.0 c.if-has_slash.true in
    let word = c.args.word.now in (
      λ text. path_target word slash (c.is_text.ensures.0 text),
      λ h. c.is_text.ensures.1 (text_of_target word slash h),
    )

pub returns-else-has_slash : goal.returns-else-has_slash
returns-else-has_slash c =
    let none = iff_false c.has_slash.ensures c.if-has_slash.false in
    let word = c.args.word.now in (
      λ id. id_target word (c.is_id.ensures.0 id),
      λ h. c.is_id.ensures.1 (id_of_target word none h),
    )
