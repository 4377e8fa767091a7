-- Intentions, each with a key that none before it has.
use Rattle.std.specs.Prelude.{ℕ, zero, suc, ◌==◌, Bool, not, List, [], ◌∷◌, ◌++◌, Err}
use Rattle.pg_base.specs.Id as id
use Rattle.pg_base.specs.declared.id.FileId.{FileId}
use Rattle.pg_codec.specs.Laws.{HasWidth}
use Rattle.pg_codec.specs.Reading.{Field, ◌>>=◌, followed_by, seen_as, checked, number_at, file_at}
use Rattle.pg_intent.specs.Intents.{stands}
use Rattle.pg_intent.specs.declared.intent.Intent.{Intent}
use Rattle.pg_intent.specs.declared.intent.Intent.TheVariants as intent
use Rattle.pg_intent.specs.declared.key.IntentKey.{IntentKey}
use Rattle.pg_intent.specs.declared.key.IntentKey.TheVariants as key
use Rattle.pg_packet_write.specs.Fits.{IsServer}
use Rattle.pg_words.specs.FileWord.{IsDirectory}
use Rattle.pg_packet_fields.specs.Faults.{of_packet}
use Rattle.pg_packet_fields.specs.Reading.{dir_at, server_at}
use Rattle.pg_packet_fields.specs.declared.error.PacketError.{PacketError}
use Rattle.pg_packet_fields.specs.declared.error.PacketError.TheVariants.{BadTag}
use Rattle.pg_state_fields.specs.declared.intents.FileKey.{FileKey}
use Rattle.pg_state_fields.specs.declared.intents.FileKey.TheVariants as of
use Rattle.pg_state_fields.specs.Flags.{IsOwn, entry_with, own_at, own_of}
use Rattle.pg_state_fields.specs.Orders.{AreCounted, Passes, counted_list_at, is_target, target_at, tested_of}

-- no intention of these has the key
abbrev pub is_fresh : List Intent → IntentKey → Bool
is_fresh done k = not (stands done k)

-- the key of an intention, whose last part is a file
abbrev pub key_with : FileKey → FileId → IntentKey
key_with of.Seek file = key.Seek file
key_with of.Fill file = key.Fill file
key_with of.Leave file = key.Leave file
key_with (of.Patch dir) child = key.Patch dir child
key_with (of.Confirm dir) child = key.Confirm dir child

-- a file that makes a key which none of these has
unfoldable pub fresh_file_at : List Intent → FileKey → Field PacketError FileId
fresh_file_at done part from =
    checked (tested_of (λ file. is_fresh done (key_with part file))) (of_packet file_at) from

-- a peer that makes the key of a Bye which none of these has
unfoldable pub fresh_peer_at : List Intent → FileId → ℕ → Field PacketError ℕ
fresh_peer_at done file birth from =
    checked (tested_of (λ peer. is_fresh done (key.Bye file birth peer))) server_at from

-- the target of a Bye and a Leave is the peer
unfoldable pub same_at : ℕ → Field PacketError ℕ
same_at peer from = checked (tested_of (λ n. n == peer)) (of_packet (number_at 4)) from

-- the birth of a peer, and the target
unfoldable pub peer_birth_at : ℕ → Field PacketError ℕ
peer_birth_at peer from = seen_as (λ x. x.0)
    (followed_by (of_packet (number_at 8)) (λ birth. same_at peer)) from

-- ---- behind the kind

unfoldable pub bye_at : List Intent → Field PacketError Intent
bye_at done from = seen_as (λ x. intent.Bye x.0 x.1.0 x.1.1.0 x.1.1.1)
    (followed_by (of_packet file_at) (λ file. followed_by (of_packet (number_at 8))
    (λ birth. followed_by (fresh_peer_at done file birth) peer_birth_at))) from

unfoldable pub seek_at : List Intent → Field PacketError Intent
seek_at done from = seen_as (λ x. intent.Seek x.0 x.1)
    (followed_by (fresh_file_at done of.Seek) (λ file. target_at)) from

unfoldable pub fill_at : List Intent → Field PacketError Intent
fill_at done from = seen_as (λ x. intent.Fill x.0 x.1.0 x.1.1)
    (followed_by (fresh_file_at done of.Fill) (λ file. followed_by (of_packet (number_at 8))
    (λ birth. target_at))) from

unfoldable pub patch_at : List Intent → Field PacketError Intent
patch_at done from = seen_as (λ x. intent.Patch x.0 (entry_with x.1.0 x.1.1.0) x.1.1.1)
    (followed_by dir_at (λ dir. followed_by (fresh_file_at done (of.Patch dir))
    (λ child. followed_by own_at (λ own. target_at)))) from

unfoldable pub confirm_at : List Intent → Field PacketError Intent
confirm_at done from = seen_as (λ x. intent.Confirm x.0 x.1.0 x.1.1)
    (followed_by dir_at (λ dir. followed_by (fresh_file_at done (of.Confirm dir))
    (λ child. target_at))) from

unfoldable pub leave_at : List Intent → Field PacketError Intent
leave_at done from = seen_as (λ x. intent.Leave x.0 x.1.0 x.1.1)
    (followed_by (fresh_file_at done of.Leave) (λ file. followed_by server_at peer_birth_at)) from

-- what stands behind a kind, which is at the place
abbrev pub intent_of : List Intent → ℕ → ℕ → Field PacketError Intent
intent_of done place (suc zero) from = bye_at done from
intent_of done place (suc (suc zero)) from = seek_at done from
intent_of done place (suc (suc (suc zero))) from = fill_at done from
intent_of done place (suc (suc (suc (suc zero)))) from = patch_at done from
intent_of done place (suc (suc (suc (suc (suc zero))))) from = confirm_at done from
intent_of done place (suc (suc (suc (suc (suc (suc zero)))))) from = leave_at done from
intent_of done place n from = Err (BadTag place)

-- an intention behind these
unfoldable pub intent_at : List Intent → Field PacketError Intent
intent_at done from =
    of_packet (number_at 1) from >>= λ kind. intent_of done from.place kind.0 kind.1

abbrev pub with_intent : List Intent → Intent → List Intent
with_intent done i = done ++ i ∷ []

-- a count of four bytes, and so many intentions, in the order in which they began
unfoldable pub all_intents_at : Field PacketError (List Intent)
all_intents_at from = counted_list_at 4 intent_at with_intent [] from

-- ---- what can be read

abbrev pub IsFreshFile : List Intent → FileKey → FileId → Type 0
IsFreshFile done part file = Passes id.Fits (λ f. is_fresh done (key_with part f)) file

abbrev pub IsFreshPeer : List Intent → FileId → ℕ → ℕ → Type 0
IsFreshPeer done file birth peer =
    Passes IsServer (λ p. is_fresh done (key.Bye file birth p)) peer

abbrev pub IsTargetNumber : ℕ → Type 0
IsTargetNumber n = Passes (HasWidth 4) is_target n

-- an intention behind these
abbrev pub IsIntent : List Intent → Intent → Type 0
IsIntent done (intent.Bye file birth peer peer_birth) = id.Fits file
    × (HasWidth 8 birth × (IsFreshPeer done file birth peer × HasWidth 8 peer_birth))
IsIntent done (intent.Seek file target) =
    IsFreshFile done of.Seek file × IsTargetNumber target
IsIntent done (intent.Fill file birth target) =
    IsFreshFile done of.Fill file × (HasWidth 8 birth × IsTargetNumber target)
IsIntent done (intent.Patch dir entry target) = IsDirectory dir
    × (IsFreshFile done (of.Patch dir) entry.child × (IsOwn (own_of entry)
    × IsTargetNumber target))
IsIntent done (intent.Confirm dir child target) = IsDirectory dir
    × (IsFreshFile done (of.Confirm dir) child × IsTargetNumber target)
IsIntent done (intent.Leave file peer peer_birth) =
    IsFreshFile done of.Leave file × (IsServer peer × HasWidth 8 peer_birth)

abbrev pub AreIntents : List Intent → Type 0
AreIntents intents = AreCounted 4 IsIntent with_intent [] intents
