-- A place that a server makes, and takes, suits.
use Rattle.std.proofs.lemmas.List.Elements.{All-push}
use Rattle.law_frame.specs.pg_run.pg_base.declared.id.FileId.{FileId}
use Rattle.law_frame.specs.pg_run.pg_msg.declared.update.Update.TheVariants as update
use Rattle.law_frame.specs.pg_run.pg_msg.Work.{with_made}
use Rattle.law_frame.specs.pg_run.pg_register.declared.place.Place.{Place}
use Rattle.law_frame.specs.pg_run.pg_pieces.Done.{Done}
use Rattle.law_frame.specs.pg_run.pg_calls.Making.{make_place}
use Rattle.pg_trace.specs.Suited.{SuitsUpdate}
use Rattle.law_printable.proofs.Places.{IsOwnPlace, suits_place}
use Rattle.law_printable.proofs.Stores.{DoneSuits, place_noted}

pub made_place : (f : FileId) (p : Place) (done : Done) → IsOwnPlace f p → DoneSuits done → DoneSuits (make_place f p done)
made_place f p done k h =
    place_noted done.store (with_made done.work (update.Place f p))
    (record {
      store = h.store;
      work = record {
        made = All-push SuitsUpdate done.work.made (update.Place f p) h.work.made (suits_place f p k);
        sent = h.work.sent;
        left = h.work.left;
        unsure = h.work.unsure;
      };
    }) f p k
