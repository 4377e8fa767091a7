-- Messages that can be read can be written again.
use Rattle.pg_base.specs.declared.id.FileId.{FileId}
use Rattle.pg_entries.specs.declared.entry.Entry.{Entry}
use Rattle.pg_msg.specs.declared.message.Message.{Message}
use Rattle.pg_msg.specs.declared.message.Message.TheVariants as message
use Rattle.pg_packet_write.specs.Messages.{FitsMessage, FitsTold}
use Rattle.pg_packet_fields.specs.Places.{IsWholeEntry}
use Rattle.pg_packet_fields.proofs.Fitting.{fits_cell, fits_entry, fits_golds, fits_head, fits_key, fits_place, fits_ranges, fits_stamps}
use Rattle.pg_packet_read.specs.Messages.{IsWholeMessage}
use Rattle.pg_words.specs.FileWord.{IsDirectory}

fits_told : (dir : FileId) (entry : Entry) → IsDirectory dir → IsWholeEntry entry → FitsTold dir entry
fits_told dir entry is w = record { dir = is; entry = fits_entry entry w }

pub fits_message : (m : Message) → IsWholeMessage m → FitsMessage m
fits_message (message.Cell ends tag cell) w = fits_cell cell w.1.1
fits_message (message.Ack ends key tag) w = fits_key key w.1.0
fits_message (message.Harbinger ends tag head) w = fits_head head w.1.1
fits_message (message.Want ends wanted) w = fits_stamps wanted.heads w.1.heads
fits_message (message.Delta ends delta) w = record {
  head = fits_head delta.head w.1.head;
  from = fits_stamps delta.from w.1.from;
  ranges = fits_ranges delta.ranges w.1.ranges;
}
fits_message (message.Piece ends piece) w = record { head = fits_head piece.head w.1.head; short = w.1.bytes.most }
fits_message (message.Later ends stamp) w = tt
fits_message (message.Fetch file birth) w = tt
fits_message (message.Grant ends granted) w = record { place = fits_place granted.place w.1.place; flags = fits_golds granted.flags w.1.flags }
fits_message (message.NoGrant file birth) w = tt
fits_message (message.Full ends) w = tt
fits_message (message.Seek file birth) w = tt
fits_message (message.Greet ends why) w = tt
fits_message (message.NoneHere ask file child) w = tt
fits_message (message.Gone file birth) w = tt
fits_message (message.Bye ends) w = tt
fits_message (message.ByeOk file birth) w = tt
fits_message (message.Confirm dir entry) w = fits_told dir entry w.0 w.1
fits_message (message.PlaceIs dir entry) w = fits_told dir entry w.0 w.1
fits_message (message.Tell dir entry) w = fits_told dir entry w.0 w.1
fits_message (message.TellOk dir child stamp) w = w.0
fits_message (message.Leave ends stamp) w = tt
fits_message (message.LeaveOk ends stamp) w = tt
fits_message (message.Invite ends) w = tt
fits_message (message.Walk ends origin birth hops word) w = record { origin = w.1.0; least = w.1.1.1.0.least; most = w.1.1.1.0.most }
