-- Entries, heads, versions and cells, and the fields that only messages and replies have.
use Rattle.std.proofs.Common.{ℕ, zero, suc, refl, arith}
use Rattle.std.specs.Prelude.{nat_le, ◌&&◌}
use Rattle.pg_codec.specs.Reading.{Field, followed_by, seen_as, flag_at}
use Rattle.pg_base.specs.declared.head.Head.{Head}
use Rattle.pg_entries.specs.declared.cell.Cell.{Cell}
use Rattle.pg_entries.specs.declared.cell.Cell.TheVariants as cell
use Rattle.pg_register.specs.declared.place.Place.{Place}
use Rattle.pg_packet_fields.specs.Cells.{cell_at, cell_of}
use Rattle.pg_packet_fields.specs.Faults.{of_packet}
use Rattle.pg_packet_fields.specs.Heads.{front_at, head_at, version_at}
use Rattle.pg_packet_fields.specs.Places.{entry_at, gold_at, place_at}
use Rattle.pg_packet_fields.specs.declared.error.PacketError.{PacketError}
use Rattle.pg_packet_fields.proofs.Plain.{byte_is, narrow_is}
use Rattle.pg_packet_read.specs.MessageFields.{about_at, delta_at, granted_at, hops_at, hops_of, listed_at, piece_at, replica_at, wanted_at}
use Rattle.law_packets.proofs.Atoms.{bytes_sure, narrow_sure, wide_sure}
use Rattle.law_packets.proofs.Checks.{test_check}
use Rattle.law_packets.proofs.Items.{first_flag_sure, golds_sure, some_sure, stamps_sure, vector_sure}
use Rattle.law_packets.proofs.Names.{place_sure}
use Rattle.law_packets.proofs.Opened.{SameBut, same}
use Rattle.law_packets.proofs.Parts.{block_sure, ranges_sure}
use Rattle.law_packets.proofs.Plain.{IsByKind, check_sure, count_sure, dir_sure, ends_sure, file_sure, flag_sure, kinds_sure, policy_sure, stamp_sure}
use Rattle.law_packets.proofs.Sure.{IsSure, followed_sure, seen_sure, then_sure}

pub entry_sure : IsSure SameBut entry_at
unfolding entry_at
entry_sure = seen_sure _ (then_sure same (file_sure same) (then_sure same (place_sure same) golds_sure))

pub head_sure : IsSure SameBut head_at
unfolding head_at
head_sure = seen_sure _ (then_sure same (stamp_sure same) (then_sure same (wide_sure same) (then_sure same (some_sure same) (then_sure same vector_sure (narrow_sure same)))))

front_sure : IsSure SameBut front_at
unfolding front_at
front_sure = seen_sure _ (then_sure same (stamp_sure same) (then_sure same (wide_sure same) (then_sure same (some_sure same) (then_sure same vector_sure (count_sure same 4 1024 (omega arith) (omega arith) narrow_is)))))

version_sure : IsSure SameBut version_at
unfolding version_at
version_sure = seen_sure _ (followed_sure same front_sure (λ (head : Head). bytes_sure same head.length))

-- ---- cells

abbrev cell_by : ℕ → Field PacketError Cell
cell_by (suc (suc zero)) from = seen_as cell.Flag (gold_at 0) from
cell_by (suc (suc (suc zero))) from = seen_as (λ x. cell.Entry x.0 x.1) (followed_by entry_at (λ entry. of_packet flag_at)) from
cell_by (suc (suc (suc (suc zero)))) from = seen_as cell.Version version_at from
cell_by n from = seen_as cell.Place place_at from

cell_one : IsByKind cell_of cell_by
cell_one place zero to = refl
cell_one place (suc zero) to = refl
cell_one place (suc (suc zero)) to = refl
cell_one place (suc (suc (suc zero))) to = refl
cell_one place (suc (suc (suc (suc zero)))) to = refl
cell_one place (suc (suc (suc (suc (suc n))))) to = refl

cell_each : (n : ℕ) → IsSure SameBut (cell_by n)
cell_each zero = seen_sure _ (place_sure same)
cell_each (suc zero) = seen_sure _ (place_sure same)
cell_each (suc (suc zero)) = seen_sure _ (first_flag_sure same)
cell_each (suc (suc (suc zero))) = seen_sure _ (then_sure same entry_sure (flag_sure same))
cell_each (suc (suc (suc (suc zero)))) = seen_sure _ version_sure
cell_each (suc (suc (suc (suc (suc n))))) = seen_sure _ (place_sure same)

pub cell_sure : IsSure SameBut cell_at
unfolding cell_at
cell_sure = kinds_sure cell_of cell_by same cell_one cell_each

-- ---- of messages

pub wanted_sure : IsSure SameBut wanted_at
unfolding wanted_at
wanted_sure = seen_sure _ (then_sure same (stamp_sure same) (then_sure same (narrow_sure same) stamps_sure))

pub delta_sure : IsSure SameBut delta_at
unfolding delta_at
delta_sure = seen_sure _ (then_sure same head_sure (then_sure same stamps_sure ranges_sure))

pub piece_sure : IsSure SameBut piece_at
unfolding piece_at
piece_sure = seen_sure _ (then_sure same head_sure (then_sure same (narrow_sure same) (block_sure same)))

pub granted_sure : IsSure SameBut granted_at
unfolding granted_at
granted_sure = seen_sure _ (then_sure same (policy_sure same) (then_sure same (place_sure same) golds_sure))

pub replica_sure : IsSure SameBut replica_at
unfolding replica_at
replica_sure = then_sure same (file_sure same) (wide_sure same)

pub listed_sure : IsSure SameBut listed_at
unfolding listed_at
listed_sure = then_sure same (dir_sure same) entry_sure

pub about_sure : IsSure SameBut about_at
unfolding about_at
about_sure = then_sure same (ends_sure same) (stamp_sure same)

pub hops_sure : IsSure SameBut hops_at
unfolding hops_at
hops_sure = check_sure same 1 hops_of (omega arith) byte_is (test_check (λ n. nat_le 1 n && nat_le n 3)) 1 1 (omega arith) (λ place. refl)
