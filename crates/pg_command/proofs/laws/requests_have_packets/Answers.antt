use Rattle.pg_command.proofs.Requests.{fits_request}
use Rattle.pg_command.proofs.laws.requests_have_packets.Goals as goal

pub returns : goal.returns
returns c = fits_request
