-- Whom a server hears: another live server in its view.
use Rattle.std.proofs.Common.{ℕ, ◌≡◌, ◌==◌, ◌&&◌, true, not, sym, ◌∙◌, ap}
use Rattle.std.specs.Prelude.{nat_le}
use Rattle.std.proofs.lemmas.Bool.{and_parts, false≢true}
use Rattle.pg_run.specs.pg_msg.declared.message.Packet.{Packet}
use Rattle.pg_run.specs.pg_msg.Numbers.{is_in_range}
use Rattle.pg_run.specs.pg_register.Flag.{is_removed}
use Rattle.pg_run.specs.pg_server.declared.input.Input.TheVariants as input
use Rattle.pg_run.specs.pg_server.Local.{takes_effect}
use Rattle.pg_run.specs.pg_store.declared.store.Store.{Store}
use Rattle.pg_run.specs.pg_store.Seen.{removed_of, server_of, view_of}
use Rattle.pg_run.specs.pg_store.Servers.{is_live_other}
use Rattle.pg_run.specs.pg_store.Store.{is_before_clock_end}

pub sender_live : (a : Store) (packet : Packet) → takes_effect a (input.Arrival packet) ≡ true
    → is_live_other a packet.from ≡ true
sender_live a packet heard =
    let in_view = packet.view == view_of a in
    let live = is_live_other a packet.from in
    let range = is_in_range packet.message in
    let behind = (and_parts (is_before_clock_end a) (in_view && (live && range)) heard).1 in
    (and_parts live range (and_parts in_view (live && range) behind).1).0

pub live_unremoved : (a : Store) (u : ℕ) → is_live_other a u ≡ true → is_removed (removed_of a) u ≡ true → ⊥
live_unremoved a u live gone =
    let up = nat_le u a.servers in
    let apart = not (u == server_of a) in
    let kept = not (is_removed (removed_of a) u) in
    let rest = (and_parts (nat_le 1 u) (up && (apart && kept)) live).1 in
    let left = (and_parts apart kept (and_parts up (apart && kept) rest).1).1 in
    false≢true (sym (ap not gone) ∙ left)
