-- The fields that only replies have are fields.
use Rattle.std.proofs.Common.{ℕ, Bool, List, refl, arith}
use Rattle.pg_base.specs.declared.id.FileId.{FileId}
use Rattle.pg_base.specs.declared.stamp.Stamp.{Stamp}
use Rattle.pg_call.specs.declared.reply.Counts.{Counts}
use Rattle.pg_call.specs.declared.reply.Stat.{Stat}
use Rattle.pg_codec.specs.Laws.{IsField}
use Rattle.pg_packet_write.specs.Calls.{counts_bytes, row_bytes, stat_bytes}
use Rattle.pg_packet_write.specs.Fields.{listed}
use Rattle.pg_path.specs.declared.row.Row.{Row}
use Rattle.pg_packet_fields.proofs.Joining.{then_is, view_is}
use Rattle.pg_packet_fields.proofs.Many.{list_is}
use Rattle.pg_packet_fields.proofs.PlaceFields.{flag_is, name_field}
use Rattle.pg_packet_fields.proofs.Plain.{byte_is, dir_field, file_is, stamp_is, text_field, wide_is}
use Rattle.pg_packet_read.specs.Replies.{AreCounts, AreRows, IsWholeRow, IsWholeStat, any_row, counts_at, row_at, rows_at, stat_at, unchanged}

abbrev row_view : List ℕ × FileId → Row
row_view x = record { name = x.0; child = x.1 }

row_field : IsField IsWholeRow row_bytes row_at
unfolding row_at row_bytes
row_field = view_is (then_is text_field file_is) row_view IsWholeRow row_bytes
    (λ x fits. (record { name = fits.0; child = fits.1 }, refl))
    (λ r fits. ((r.name, r.child), (fits.name, fits.child), refl))

pub rows_field : IsField AreRows (listed 1 row_bytes) rows_at
unfolding rows_at
rows_field = list_is (λ before. IsWholeRow) unchanged row_bytes any_row (λ before. row_field) 1 100 tt (omega arith) byte_is

abbrev stat_view : FileId × (Stamp × (FileId × (List ℕ × (Bool × (Bool × (ℕ × (ℕ × (ℕ × ℕ)))))))) → Stat
stat_view x = record {
  id = x.0;
  place = record {
    stamp = x.1.0;
    parent = x.1.1.0;
    name = x.1.1.1.0;
    live = x.1.1.1.1.0;
  };
  gold = x.1.1.1.1.1.0;
  golds = x.1.1.1.1.1.1.0;
  heads = x.1.1.1.1.1.1.1.0;
  length = x.1.1.1.1.1.1.1.1.0;
  edges = x.1.1.1.1.1.1.1.1.1;
}

pub stat_field : IsField IsWholeStat stat_bytes stat_at
unfolding stat_at stat_bytes
stat_field = view_is (then_is file_is (then_is stamp_is (then_is dir_field (then_is name_field (then_is flag_is (then_is flag_is (then_is wide_is (then_is wide_is (then_is wide_is wide_is))))))))) stat_view IsWholeStat stat_bytes
    (λ x fits. (
      record {
        id = fits.0;
        place = record { stamp = fits.1.0; parent = fits.1.1.0; name = fits.1.1.1.0 };
        golds = fits.1.1.1.1.1.1.0;
        heads = fits.1.1.1.1.1.1.1.0;
        long = fits.1.1.1.1.1.1.1.1.0;
        edges = fits.1.1.1.1.1.1.1.1.1;
      },
      refl,
    ))
    (λ s fits. (
      (s.id, (s.place.stamp, (s.place.parent, (s.place.name, (s.place.live, (s.gold, (s.golds, (s.heads, (s.length, s.edges))))))))),
      (fits.id, (fits.place.stamp, (fits.place.parent, (fits.place.name, (tt, (tt, (fits.golds, (fits.heads, (fits.long, fits.edges))))))))),
      refl,
    ))

abbrev counts_view : ℕ × (ℕ × (ℕ × (ℕ × (ℕ × ℕ)))) → Counts
counts_view x = record {
  view = x.0;
  last = x.1.0;
  replicas = x.1.1.0;
  intents = x.1.1.1.0;
  cells = x.1.1.1.1.0;
  held = x.1.1.1.1.1;
}

pub counts_field : IsField AreCounts counts_bytes counts_at
unfolding counts_at counts_bytes
counts_field = view_is (then_is wide_is (then_is wide_is (then_is wide_is (then_is wide_is (then_is wide_is wide_is))))) counts_view AreCounts counts_bytes
    (λ x fits. (
      record {
        view = fits.0;
        last = fits.1.0;
        replicas = fits.1.1.0;
        intents = fits.1.1.1.0;
        cells = fits.1.1.1.1.0;
        held = fits.1.1.1.1.1;
      },
      refl,
    ))
    (λ c fits. (
      (c.view, (c.last, (c.replicas, (c.intents, (c.cells, c.held))))),
      (fits.view, (fits.last, (fits.replicas, (fits.intents, (fits.cells, fits.held))))),
      refl,
    ))
