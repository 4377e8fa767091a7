-- What a call is about: an id where the text spells one, and else a path.
use Rattle.std.specs.Prelude.{ℕ, zero, suc, ◌^◌, List, Option, Some, None, if◌then◌else◌}
use Rattle.pg_base.specs.Id.{Fits, spelling}
use Rattle.pg_base.specs.declared.id.FileId.{FileId}
use Rattle.pg_base.specs.declared.id.Kind.{Kind}
use Rattle.pg_base.specs.declared.id.Kind.TheVariants.{Dir, File}
use Rattle.pg_call.specs.declared.call.Target.{Target}
use Rattle.pg_call.specs.declared.call.Target.TheVariants as target
use Rattle.pg_codec.specs.Reading.{Field, seen_as}
use Rattle.pg_entries.specs.Names.{same_name}
use Rattle.pg_packet_write.specs.Calls.{SpellsNone}
use Rattle.pg_packet_fields.specs.Reading.{text_at}
use Rattle.pg_packet_fields.specs.Values.{IsShortText}
use Rattle.pg_packet_fields.specs.declared.error.PacketError.{PacketError}

abbrev pub either_of : {X : Type 0} → Option X → Option X → Option X
either_of (Some x) other = Some x
either_of None other = other

-- what is found at a number below n
unfoldable pub found_below : {X : Type 0} → ℕ → (ℕ → Option X) → Option X
found_below zero found = None
found_below (suc n) found = either_of (found n) (found_below n found)

-- the id, where it is what the text spells
abbrev pub spelled_by : List ℕ → FileId → Option FileId
spelled_by text id = if same_name text (spelling id) then Some id else None

-- the id of the kind that the text spells
unfoldable pub id_of : Kind → List ℕ → Option FileId
id_of kind text = found_below (2 ^ 32) (λ server. found_below (2 ^ 64) (λ number.
    spelled_by text (record { kind = kind; server = server; number = number })))

abbrev pub id_or_path : Option FileId → List ℕ → Target
id_or_path (Some id) text = target.Id id
id_or_path None text = target.Path text

unfoldable pub target_of : List ℕ → Target
target_of text = id_or_path (either_of (id_of Dir text) (id_of File text)) text

-- a text, as what it names
unfoldable pub target_at : Field PacketError Target
target_at from = seen_as target_of text_at from

-- what can be read: an id, or any other text
abbrev pub IsWholeTarget : Target → Type 0
IsWholeTarget (target.Path text) = IsShortText text × SpellsNone text
IsWholeTarget (target.Id id) = Fits id
