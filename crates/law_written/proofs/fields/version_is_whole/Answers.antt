use Rattle.std.proofs.Common.{◌∙◌, subst}
use Rattle.pg_codec.specs.Laws.{AreBytes}
use Rattle.pg_packet_fields.specs.Heads.{IsHead}
use Rattle.law_written.proofs.Lists.{version_is}
use Rattle.law_written.proofs.fields.version_is_whole.Goals as goal

pub returns : goal.returns
returns c = version_is c.args.version.now c.requires (subst IsHead c.head.ensures.head c.head_is_whole.ensures)
    (subst AreBytes (c.as_slice.ensures ∙ c.body.ensures.body) c.bytes_are.ensures)
