-- A place that a server makes, and takes; and a version.
use Rattle.std.proofs.Common.{◌≤◌, length}
use Rattle.pg_base.specs.declared.id.FileId.{FileId}
use Rattle.pg_base.specs.declared.stamp.Stamp.{Stamp}
use Rattle.pg_content.specs.Content.{next_vector}
use Rattle.pg_msg.specs.declared.update.Update.TheVariants as update
use Rattle.pg_msg.specs.Work.{with_made}
use Rattle.pg_patch.specs.Ranges.{RangesValue}
use Rattle.pg_register.specs.declared.place.Place.{Place}
use Rattle.pg_server.specs.pg_pieces.pg_replica.Replica.{own_actor}
use Rattle.pg_server.specs.pg_pieces.pg_store.Store.{content_of, replica_of}
use Rattle.pg_server.specs.pg_pieces.Done.{Done}
use Rattle.pg_server.specs.pg_calls.Making.{make_place, make_version}
use Rattle.pg_packet_write.specs.Fits.{IsServer}
use Rattle.law_spelled.specs.Stores.{FitsPlace}
use Rattle.law_spelled.proofs.Stores.{FitsDone, place_noted, written_fits}

pub made_place : (f : FileId) (p : Place) (done : Done) → FitsPlace f p → FitsDone done → FitsDone (make_place f p done)
made_place f p done k h =
    place_noted done.store (with_made done.work (update.Place f p))
    (record {
      store = h.store;
      work = record { sent = h.work.sent; tail = h.work.tail; left = h.work.left; unsure = h.work.unsure; from = h.work.from };
    }) f p k

pub made_version : (f : FileId) (stamp : Stamp) (ranges : RangesValue) (done : Done) → IsServer stamp.server
    → length (next_vector (content_of done.store f).heads (own_actor (replica_of done.store f) stamp.server)) ≤ 256 → FitsDone done
    → FitsDone (make_version f stamp ranges done)
made_version f stamp ranges done k few h = record {
  store = written_fits done.store h.store f stamp ranges k few;
  work = record { sent = h.work.sent; tail = h.work.tail; left = h.work.left; unsure = h.work.unsure; from = h.work.from };
}
