-- How the parts of a state are spelled.
use Rattle.std.specs.Prelude.{ℕ, ◌-◌, List, ◌++◌}
use Rattle.pg_codec.specs.Spelling.{number_bytes}
use Rattle.pg_packet_write.specs.Fields.{listed}
use Rattle.pg_state.specs.Spelling.{intent_bytes, mark, note_bytes, wish_bytes}
use Rattle.pg_state_fields.specs.Spelling.{held_spelling}
use Rattle.pg_state_read.specs.declared.parts.Counters.{Counters}
use Rattle.pg_state_read.specs.declared.parts.Parts.{Parts}
use Rattle.pg_state_read.specs.declared.parts.Servers.{Servers}
use Rattle.pg_state_read.specs.declared.parts.Waiting.{Waiting}

-- the server, how many there are, those that were removed
unfoldable pub servers_spelling : Servers → List ℕ
servers_spelling s = number_bytes 4 s.server
    ++ (number_bytes 4 s.servers ++ listed 1 (number_bytes 4) s.removed)

-- the greatest time, the latest id, birth and tag
unfoldable pub counters_spelling : Counters → List ℕ
counters_spelling c = number_bytes 8 c.last
    ++ (number_bytes 8 c.files ++ (number_bytes 8 c.births ++ number_bytes 8 (c.tags - 1)))

-- intentions, wishes, announced versions
unfoldable pub waiting_spelling : Waiting → List ℕ
waiting_spelling w = listed 4 intent_bytes w.intents
    ++ (listed 4 wish_bytes w.wishes ++ listed 4 note_bytes w.announced)

-- what stands behind the mark
unfoldable pub parts_spelling : Parts → List ℕ
parts_spelling p = servers_spelling p.servers ++ (counters_spelling p.counters
    ++ (listed 4 held_spelling p.held ++ waiting_spelling p.waiting))

-- all
unfoldable pub marked_spelling : Parts → List ℕ
marked_spelling p = mark ++ parts_spelling p
