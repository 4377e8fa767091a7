-- Reading a list one item after the other, as a loop does.
use Rattle.std.proofs.Common.{◌≡◌, ℕ, suc, ◌-◌, ◌+◌, ◌≤◌, ◌<◌, List, [], ◌∷◌, ◌++◌, Result, Ok, Err, refl, sym, ◌∙◌, arith}
use Rattle.pg_codec.specs.Unread.{Unread}
use Rattle.pg_codec.specs.Reading.{Field}
use Rattle.pg_packet_fields.specs.Faults.{Fails}
use Rattle.pg_packet_fields.specs.Lists.{many}
use Rattle.pg_packet_fields.specs.declared.error.PacketError.{PacketError}
use Rattle.pg_packet_fields.specs.declared.error.PacketError.TheVariants.{OutOfMemory, Short, BadTag, TooLong, Tail}

pub goes_on : {X S : Type 0} (item : S → Field PacketError X) (next : S → X → S) (n i : ℕ) (state : S) (done : List X) (from : Unread) (x : X) (to : Unread) (total : Result (List X × Unread) PacketError)
    → i < n → item state from ≡ Ok (x, to) → many item next (n - i) state done from ≡ total
    → many item next (n - (i + 1)) (next state x) (done ++ x ∷ []) to ≡ total
unfolding many
goes_on item next n i state done from x to total lt read so_far =
    let k : n - i ≡ suc (n - (i + 1)) = omega arith in
    let one : many item next (n - i) state done from ≡ many item next (n - (i + 1)) (next state x) (done ++ x ∷ []) to = rw (k, read) refl in
    sym one ∙ so_far

stops : {X S : Type 0} (item : S → Field PacketError X) (next : S → X → S) (n i : ℕ) (state : S) (done : List X) (from : Unread) (e : PacketError) (total : Result (List X × Unread) PacketError)
    → i < n → item state from ≡ Err e → many item next (n - i) state done from ≡ total → total ≡ Err e
unfolding many
stops item next n i state done from e total lt read so_far =
    let k : n - i ≡ suc (n - (i + 1)) = omega arith in
    let one : many item next (n - i) state done from ≡ Err e = rw (k, read) refl in
    sym so_far ∙ one

pub ends : {X S : Type 0} (e : PacketError) (item : S → Field PacketError X) (next : S → X → S) (n i : ℕ) (state : S) (done : List X) (from : Unread) (total : Result (List X × Unread) PacketError)
    → i < n → Fails e (item state from) → many item next (n - i) state done from ≡ total → Fails e total
ends OutOfMemory item next n i state done from total lt read so_far = tt
ends (Short p) item next n i state done from total lt read so_far = stops item next n i state done from (Short p) total lt read so_far
ends (BadTag p) item next n i state done from total lt read so_far = stops item next n i state done from (BadTag p) total lt read so_far
ends (TooLong p) item next n i state done from total lt read so_far = stops item next n i state done from (TooLong p) total lt read so_far
ends (Tail p) item next n i state done from total lt read so_far = stops item next n i state done from (Tail p) total lt read so_far

pub is_done : {X S : Type 0} (item : S → Field PacketError X) (next : S → X → S) (n i : ℕ) (state : S) (done : List X) (from : Unread) (total : Result (List X × Unread) PacketError)
    → n ≤ i → many item next (n - i) state done from ≡ total → total ≡ Ok (done, from)
unfolding many
is_done item next n i state done from total le so_far =
    let k : n - i ≡ 0 = omega arith in
    let one : many item next (n - i) state done from ≡ Ok (done, from) = rw k refl in
    sym so_far ∙ one
