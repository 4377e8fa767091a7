-- Names of places: which bytes are one, as a test that goes over bytes and ids.
use Rattle.std.specs.Prelude.{ℕ, zero, suc, ◌^◌, ◌&&◌, ◌||◌, not, Bool, true, false, List, [], ◌∷◌, length, nat_le, ◌==◌, if◌then◌else◌, Result, Ok, Err}
use Rattle.std.specs.List.{list_all}
use Rattle.pg_base.specs.declared.id.Kind.{Kind}
use Rattle.pg_base.specs.declared.id.Kind.TheVariants.{Dir, File}
use Rattle.pg_codec.specs.Reading.{Field, followed_by, seen_as, checked, bytes_at, number_at}
use Rattle.pg_entries.specs.Names.{same_name}
use Rattle.pg_register.specs.Place.{tilde_name}
use Rattle.pg_packet_fields.specs.Faults.{of_packet}
use Rattle.pg_packet_fields.specs.declared.error.PacketError.{PacketError}
use Rattle.pg_packet_fields.specs.declared.error.PacketError.TheVariants.{BadTag}

-- a byte that can be seen, and neither `/` nor `~`
abbrev pub is_name_byte : ℕ → Bool
is_name_byte byte =
    (nat_le 33 byte && nat_le byte 126) && (not (byte == 47) && not (byte == 126))

-- 1 to 255 of these
abbrev pub is_client_name : List ℕ → Bool
is_client_name text =
    (nat_le 1 (length text) && nat_le (length text) 255) && list_all is_name_byte text

-- whether a number below n passes the test
unfoldable pub is_some_below : ℕ → (ℕ → Bool) → Bool
is_some_below zero test = false
is_some_below (suc n) test = test n || is_some_below n test

-- a tilde, and the text of an id of the kind
unfoldable pub is_tilde_name : Kind → List ℕ → Bool
is_tilde_name kind text = is_some_below (2 ^ 32) (λ server. is_some_below (2 ^ 64) (λ number.
    same_name text (tilde_name (record { kind = kind; server = server; number = number }))))

abbrev pub is_empty : List ℕ → Bool
is_empty [] = true
is_empty (byte ∷ bytes) = false

-- none, a client's name, or a tilde and the text of an id
unfoldable pub is_place_name : List ℕ → Bool
is_place_name text = is_empty text
    || (is_client_name text || (is_tilde_name Dir text || is_tilde_name File text))

-- bytes behind their number, which takes so many bytes
abbrev pub counted_at : ℕ → Field PacketError (List ℕ)
counted_at size from = seen_as (λ x. x.1)
    (followed_by (of_packet (number_at size)) (λ count. of_packet (bytes_at count))) from

-- the name that the bytes are, else a fault at their length
abbrev pub name_of : ℕ → List ℕ → Result (List ℕ) PacketError
name_of place text = if is_place_name text then Ok text else Err (BadTag place)

unfoldable pub name_at : Field PacketError (List ℕ)
name_at from = checked name_of (counted_at 1) from
