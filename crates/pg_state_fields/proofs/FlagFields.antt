-- Places with flags, and entries, are fields.
use Rattle.std.proofs.Common.{ℕ, Bool, List, Option, None, refl, arith}
use Rattle.pg_base.specs.Id as id
use Rattle.pg_base.specs.Id.{file_cmp}
use Rattle.pg_base.specs.declared.id.FileId.{FileId}
use Rattle.pg_codec.specs.Spelling.{file_bytes, number_bytes}
use Rattle.pg_codec.specs.Laws.{HasWidth, IsField}
use Rattle.pg_entries.specs.declared.entry.Entry.{Entry}
use Rattle.pg_names.specs.declared.attributes.Attributes.{Attributes}
use Rattle.pg_packet_write.specs.Fields.{entry_bytes, gold_bytes, golds_bytes, listed}
use Rattle.pg_register.specs.declared.flag.Flag.{Flag}
use Rattle.pg_register.specs.declared.place.Place.{Place}
use Rattle.pg_packet_fields.specs.Places.{to_server}
use Rattle.pg_packet_fields.proofs.Joining.{then_is, view_is}
use Rattle.pg_packet_fields.proofs.Many.{list_is}
use Rattle.pg_packet_fields.proofs.PlaceFields.{flag_is, place_field}
use Rattle.pg_packet_fields.proofs.Plain.{byte_is, file_is, narrow_is, wide_is}
use Rattle.pg_state_fields.specs.Flags.{AreEntries, AreGolds, IsEntry, IsGold, IsOwn, above_at, entries_at, entry_at, entry_with, flag_number_at, gold_at, golds_at, is_above, is_flag_number, own_at, to_child}
use Rattle.pg_state_fields.specs.Spelling.{own_bytes}
use Rattle.pg_state_fields.specs.Orders.{Passes, is_behind, next_file_at}
use Rattle.pg_state_fields.proofs.Tested.{counted_list_is, tested_is}

pub next_file_field : (last : Option FileId) → IsField (Passes id.Fits (is_behind file_cmp last)) file_bytes (next_file_at last)
unfolding next_file_at
next_file_field last = tested_is file_is (is_behind file_cmp last)

pub above_field : (last : ℕ) → IsField (Passes (HasWidth 4) (is_above last)) (number_bytes 4) (above_at last)
unfolding above_at
above_field last = tested_is narrow_is (is_above last)

flag_number_field : IsField (Passes (HasWidth 8) is_flag_number) (number_bytes 8) flag_number_at
unfolding flag_number_at
flag_number_field = tested_is wide_is is_flag_number

abbrev gold_view : ℕ × (ℕ × (ℕ × Bool)) → Flag
gold_view x = record { server = x.0; birth = x.1.0; number = x.1.1.0; raised = x.1.1.1 }

gold_field : (last : ℕ) → IsField (IsGold last) gold_bytes (gold_at last)
unfolding gold_at gold_bytes
gold_field last = view_is (then_is (above_field last) (then_is wide_is (then_is flag_number_field flag_is))) gold_view (IsGold last) gold_bytes
    (λ x fits. (record { server = fits.0; birth = fits.1.0; number = fits.1.1.0 }, refl))
    (λ f fits. ((f.server, (f.birth, (f.number, f.raised))), (fits.server, (fits.birth, (fits.number, tt))), refl))

pub golds_field : IsField AreGolds golds_bytes golds_at
unfolding golds_at golds_bytes
golds_field = list_is IsGold to_server gold_bytes gold_at gold_field 1 64 0 (omega arith) byte_is

abbrev own_view : Place × List Flag → Attributes
own_view x = record { place = x.0; flags = x.1 }

pub own_field : IsField IsOwn own_bytes own_at
unfolding own_at
own_field = view_is (then_is place_field golds_field) own_view IsOwn own_bytes
    (λ x fits. (record { place = fits.0; flags = fits.1 }, refl))
    (λ own fits. ((own.place, own.flags), (fits.place, fits.flags), refl))

abbrev entry_view : FileId × Attributes → Entry
entry_view x = entry_with x.0 x.1

pub entry_field : (last : Option FileId) → IsField (IsEntry last) entry_bytes (entry_at last)
unfolding entry_at entry_bytes
entry_field last = view_is (then_is (next_file_field last) own_field) entry_view (IsEntry last) entry_bytes
    (λ x fits. (record { child = fits.0; place = fits.1.place; flags = fits.1.flags }, refl))
    (λ e fits. ((e.child, record { place = e.place; flags = e.flags }), (fits.child, record { place = fits.place; flags = fits.flags }), refl))

pub entries_field : IsField AreEntries (listed 4 entry_bytes) entries_at
unfolding entries_at
entries_field = counted_list_is IsEntry to_child entry_bytes entry_at entry_field 4 None narrow_is
