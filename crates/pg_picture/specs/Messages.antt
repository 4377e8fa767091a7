-- The messages under way, in the order in which they were sent, as `bag` of a run has them.
use Rattle.std.specs.Prelude.{ℕ, ◌-◌, ◌==◌, List, [], ◌∷◌, ◌++◌, Bool, true, not, Option, None, Some, if◌then◌else◌, filter, slice_get, slice_set, remove}
use Rattle.std.specs.List.{list_any}
use Rattle.pg_picture.specs.declared.messages.Message.{Message}

-- the message with this number; messages are counted from 1
abbrev pub message_at : {M : Type 0} → List M → ℕ → Option M
message_at bag number = if number == 0 then None else slice_get bag (number - 1)

-- without the message of this number, where there is one
abbrev pub without : {M : Type 0} → List M → ℕ → Option M → List M
without bag number None = bag
without bag number (Some m) = remove bag (number - 1)

-- a message whose way goes on in front of the receiver from this height on
abbrev pub split : Message → ℕ → Message
split m height = record { summary = m.summary; since = height; split = true }

-- the message of this number, where there is one, is copied to the end: both go on from there
abbrev pub with_copy : List Message → ℕ → ℕ → Option Message → List Message
with_copy bag number height None = bag
with_copy bag number height (Some m) =
    slice_set bag (number - 1) (split m height) ++ split m height ∷ []

-- the server is one of the removed ones
abbrev pub is_gone : List ℕ → ℕ → Bool
is_gone removed server = list_any (λ one. one == server) removed

-- the message is for this server
abbrev pub is_for : ℕ → Message → Bool
is_for server m = m.summary.to == server

-- the messages that are not
abbrev pub without_to : ℕ → List Message → List Message
without_to server bag = filter (λ m. not (is_for server m)) bag
