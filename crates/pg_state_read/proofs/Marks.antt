-- Bytes that have to stand there, read one after the other.
use Rattle.std.proofs.Common.{◌≡◌, ℕ, ◌+◌, ◌≤◌, ◌<◌, List, ◌∷◌, drop, length, get_or, Result, Ok, Err, refl, sym, ap, ◌∙◌}
use Rattle.std.proofs.lemmas.List.{at_drop_more, drop_all}
use Rattle.pg_codec.specs.Reading.{◌>>=◌}
use Rattle.pg_codec.specs.Unread.{Unread}
use Rattle.pg_packet_fields.specs.Faults.{Fails}
use Rattle.pg_packet_fields.specs.declared.error.PacketError.{PacketError}
use Rattle.pg_packet_fields.specs.declared.error.PacketError.TheVariants.{OutOfMemory, Short, BadTag, TooLong, Tail}
use Rattle.pg_state_read.specs.Whole.{byte_at, these_at}

abbrev Total : Type 0
Total = Result (Unit {0} × Unread) PacketError

-- what is read behind a byte
abbrev behind_byte : ℕ → Total → Total
behind_byte n r = (r >>= λ (b : Unit {0} × Unread). Ok ((n, b.0), b.1)) >>= λ (a : (ℕ × Unit {0}) × Unread). Ok (a.0.1, a.1)

again : (n : ℕ) (r : Total) → behind_byte n r ≡ r
again n (Ok x) = refl
again n (Err e) = refl

pub goes_on : (bytes : List ℕ) (i d n : ℕ) (from to : Unread) (total : Total) → i < length bytes → byte_at (get_or bytes i d) from ≡ Ok (n, to)
    → these_at (drop i bytes) from ≡ total → these_at (drop (i + 1) bytes) to ≡ total
unfolding these_at
goes_on bytes i d n from to total lt read so_far =
    let opened : these_at (drop i bytes) from ≡ these_at (get_or bytes i d ∷ drop (i + 1) bytes) from = at_drop_more (λ (rest : List ℕ). these_at rest from) bytes i d lt in
    let one : these_at (get_or bytes i d ∷ drop (i + 1) bytes) from ≡ these_at (drop (i + 1) bytes) to = rw read (again n (these_at (drop (i + 1) bytes) to)) in
    sym (opened ∙ one) ∙ so_far

stops : (bytes : List ℕ) (i d : ℕ) (from : Unread) (e : PacketError) (total : Total) → i < length bytes → byte_at (get_or bytes i d) from ≡ Err e
    → these_at (drop i bytes) from ≡ total → total ≡ Err e
unfolding these_at
stops bytes i d from e total lt read so_far =
    let opened : these_at (drop i bytes) from ≡ these_at (get_or bytes i d ∷ drop (i + 1) bytes) from = at_drop_more (λ (rest : List ℕ). these_at rest from) bytes i d lt in
    let one : these_at (get_or bytes i d ∷ drop (i + 1) bytes) from ≡ Err e = rw read refl in
    sym so_far ∙ opened ∙ one

pub ends : (e : PacketError) (bytes : List ℕ) (i d : ℕ) (from : Unread) (total : Total) → i < length bytes → Fails e (byte_at (get_or bytes i d) from)
    → these_at (drop i bytes) from ≡ total → Fails e total
ends OutOfMemory bytes i d from total lt read so_far = tt
ends (Short p) bytes i d from total lt read so_far = stops bytes i d from (Short p) total lt read so_far
ends (BadTag p) bytes i d from total lt read so_far = stops bytes i d from (BadTag p) total lt read so_far
ends (TooLong p) bytes i d from total lt read so_far = stops bytes i d from (TooLong p) total lt read so_far
ends (Tail p) bytes i d from total lt read so_far = stops bytes i d from (Tail p) total lt read so_far

pub is_done : (bytes : List ℕ) (i : ℕ) (from : Unread) (total : Total) → length bytes ≤ i → these_at (drop i bytes) from ≡ total → total ≡ Ok (tt, from)
unfolding these_at
is_done bytes i from total le so_far =
    sym so_far ∙ ap (λ (rest : List ℕ). these_at rest from) (drop_all i bytes le)
