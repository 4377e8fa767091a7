use Rattle.pg_node_entry.proofs.Readings.{apart, fits_entry, spelled, written}
use Rattle.pg_node_entry.proofs.laws.entries_read_back.Goals as goal

pub returns : goal.returns
returns c = record { written = written; spelled = spelled; apart = apart; fits = fits_entry }
