use Rattle.pg_svg.proofs.Plain.{escaped_is_xml}
use Rattle.pg_svg.proofs.escaped.escaped_is_plain.Goals as goal

pub returns : goal.returns
returns c = escaped_is_xml
