use Rattle.std.proofs.Common.{rules}
use Rattle.pg_command.proofs.Counted.{is_among, one_of}
use Rattle.pg_command.proofs.node.is_among.Goals as goal

pub returns-in-Some : goal.returns-in-Some
returns-in-Some c =
    let words = c.args.words.now in
    let bytes = c.as_bytes.result.now in (
      λ is. is_among words c.word-item.result bytes c.args.server c.in-Some.servers
          c.in-len1-up.len_at_least c.word-item.is c.as_bytes.ensures.value c.in-Some.ensures.found (search rules)
          (c.is_one_of.ensures.0 is),
      λ h. c.is_one_of.ensures.1 (one_of words c.word-item.result bytes c.args.server c.in-Some.servers
          c.in-len1-up.len_at_least c.word-item.is c.as_bytes.ensures.value c.in-Some.ensures.found h),
    )
