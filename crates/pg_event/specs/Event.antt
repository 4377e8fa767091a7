-- What happens in a run: what it is spelled as.
use Rattle.std.specs.Prelude.{ℕ, ◌<◌, ◌^◌, List, [], ◌∷◌, decimal, codes}
use Rattle.std.specs.List.{join_with_byte}
use Rattle.pg_call.specs.Call.{call_words, IsCall}
use Rattle.pg_event.specs.declared.event.Event.{Event}
use Rattle.pg_event.specs.declared.event.Event.TheVariants.{Call, Tick, Deliver, Lose, Repeat, Restart, Remove}

-- the words of a call whose words for the server, the moment and the call itself are these
abbrev pub called_words : List ℕ → List ℕ → List (List ℕ) → List (List ℕ)
called_words server moment call = codes "call" ∷ server ∷ moment ∷ call

-- the words of a tick whose words after the verb are these
abbrev pub tick_words : List ℕ → List ℕ → List ℕ → List (List ℕ)
tick_words server moment word = codes "tick" ∷ server ∷ moment ∷ word ∷ []

abbrev pub event_words : Event → List (List ℕ)
event_words (Call server moment call) =
    called_words (decimal server) (decimal moment) (call_words call)
event_words (Tick server moment word) = tick_words (decimal server) (decimal moment) (decimal word)
event_words (Deliver number) = codes "deliver" ∷ decimal number ∷ []
event_words (Lose number) = codes "lose" ∷ decimal number ∷ []
event_words (Repeat number) = codes "repeat" ∷ decimal number ∷ []
event_words (Restart server) = codes "restart" ∷ decimal server ∷ []
event_words (Remove server) = codes "remove" ∷ decimal server ∷ []

-- an event's words with a space between two of them
abbrev pub event_body : Event → List ℕ
event_body event = join_with_byte 32 (event_words event)

-- what has a spelling
abbrev pub IsEvent : Event → Type 0
IsEvent (Call server moment call) = (server < 2 ^ 32) × (moment < 2 ^ 64) × IsCall call
IsEvent (Tick server moment word) = (server < 2 ^ 32) × (moment < 2 ^ 64) × (word < 2 ^ 64)
IsEvent (Deliver number) = number < 2 ^ 64
IsEvent (Lose number) = number < 2 ^ 64
IsEvent (Repeat number) = number < 2 ^ 64
IsEvent (Restart server) = server < 2 ^ 32
IsEvent (Remove server) = server < 2 ^ 32
