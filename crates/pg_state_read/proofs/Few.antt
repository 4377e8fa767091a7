-- Of what was read, few servers were removed.
use Rattle.std.proofs.Common.{◌≡◌, ℕ, ◌<◌, List, length, Ok, arith}
use Rattle.pg_codec.specs.Laws.{AreBytes}
use Rattle.pg_codec.specs.Reading.{unread}
use Rattle.pg_codec.specs.Unread.{Unread}
use Rattle.pg_state_read.specs.Whole.{marked_at}
use Rattle.pg_state_read.specs.declared.parts.Parts.{Parts}
use Rattle.pg_state_read.proofs.PartFields.{marked_field}

pub few_removed : (bytes : List ℕ) (p : Parts) (to : Unread) → AreBytes bytes → marked_at (unread bytes) ≡ Ok (p, to) → length p.servers.removed < 256
few_removed bytes p to width read =
    let few = (marked_field.takes (unread bytes) (p, to) width read).0.servers.removed.count in
    omega (arith, few)
