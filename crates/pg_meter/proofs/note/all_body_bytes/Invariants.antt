use Rattle.std.proofs.Common.{◌≡◌, ◌≤◌, ◌+◌, ◌-◌, ◌^◌, drop, map, min}
use Rattle.std.specs.List.{sum}
use Rattle.pg_meter.specs.Note.{all_body_bytes, body_bytes}
use Rattle.pg_meter.proofs.note.all_body_bytes.Given as goal

-- what is left makes the whole
abbrev pub invariant-loop-message : goal.invariant-loop-message
invariant-loop-message l = record {
  small : l.total ≤ 2 ^ 64 - 1;
  whole : min (l.total + sum (map (λ m. body_bytes m.packet.message) (drop l.message-index l.sent))) (2 ^ 64 - 1)
      ≡ all_body_bytes l.fn.sent;
}
