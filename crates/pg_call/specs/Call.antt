-- What a client asks of a server: what it is spelled as.
use Rattle.std.specs.Prelude.{ℕ, ◌≡◌, ◌<◌, ◌≤◌, ◌^◌, List, [], ◌∷◌, decimal, codes}
use Rattle.std.specs.List.{join_with_byte}
use Rattle.pg_base.specs.Id.{spelling, Fits}
use Rattle.pg_base.specs.declared.policy.Policy.{Policy}
use Rattle.pg_base.specs.declared.policy.Policy.TheVariants as policy
use Rattle.pg_call.specs.declared.call.Target.{Target}
use Rattle.pg_call.specs.declared.call.Target.TheVariants as target
use Rattle.pg_call.specs.declared.call.Call.{Call}
use Rattle.pg_call.specs.declared.call.Call.TheVariants as call
use Rattle.pg_call.specs.declared.call.CallKind.{CallKind}
use Rattle.pg_call.specs.declared.call.CallKind.TheVariants as kind
use Rattle.pg_words.specs.HexWord.{AreAtMost, hex_word}
use Rattle.pg_words.specs.TextWord.{IsText}

abbrev pub call_kind : Call → CallKind
call_kind (call.Mkdir path) = kind.Mkdir
call_kind (call.Create path policy) = kind.Create
call_kind (call.Write path offset bytes) = kind.Write
call_kind (call.Cut path n) = kind.Cut
call_kind (call.Read path offset count) = kind.Read
call_kind (call.Fresh path) = kind.Fresh
call_kind (call.Ls path from) = kind.Ls
call_kind (call.Stat what) = kind.Stat
call_kind (call.Rename from to) = kind.Rename
call_kind (call.Unlink path) = kind.Unlink
call_kind (call.Rmdir path) = kind.Rmdir
call_kind (call.Forget id) = kind.Forget
call_kind (call.Demote what) = kind.Demote
call_kind (call.Drop what) = kind.Drop
call_kind (call.Giveup view server) = kind.Giveup
call_kind call.Status = kind.Status
call_kind call.Stop = kind.Stop

-- the word that a call is named by
abbrev pub kind_word : CallKind → List ℕ
kind_word kind.Mkdir = codes "mkdir"
kind_word kind.Create = codes "create"
kind_word kind.Write = codes "write"
kind_word kind.Cut = codes "cut"
kind_word kind.Read = codes "read"
kind_word kind.Fresh = codes "fresh"
kind_word kind.Ls = codes "ls"
kind_word kind.Stat = codes "stat"
kind_word kind.Rename = codes "rename"
kind_word kind.Unlink = codes "unlink"
kind_word kind.Rmdir = codes "rmdir"
kind_word kind.Forget = codes "forget"
kind_word kind.Demote = codes "demote"
kind_word kind.Drop = codes "drop"
kind_word kind.Giveup = codes "giveup"
kind_word kind.Status = codes "status"
kind_word kind.Stop = codes "stop"

abbrev pub policy_word : Policy → List ℕ
policy_word policy.Last = codes "last"
policy_word policy.Join = codes "join"

-- a path as it stands, or an id
abbrev pub target_word : Target → List ℕ
target_word (target.Path path) = path
target_word (target.Id id) = spelling id

-- the words of a call behind its own
abbrev pub argument_words : Call → List (List ℕ)
argument_words (call.Mkdir path) = path ∷ []
argument_words (call.Create path policy) = path ∷ policy_word policy ∷ []
argument_words (call.Write path offset bytes) = path ∷ decimal offset ∷ hex_word bytes ∷ []
argument_words (call.Cut path n) = path ∷ decimal n ∷ []
argument_words (call.Read path offset count) = path ∷ decimal offset ∷ decimal count ∷ []
argument_words (call.Fresh path) = path ∷ []
argument_words (call.Ls path from) = path ∷ decimal from ∷ []
argument_words (call.Stat what) = target_word what ∷ []
argument_words (call.Rename from to) = from ∷ to ∷ []
argument_words (call.Unlink path) = path ∷ []
argument_words (call.Rmdir path) = path ∷ []
argument_words (call.Forget id) = spelling id ∷ []
argument_words (call.Demote what) = target_word what ∷ []
argument_words (call.Drop what) = target_word what ∷ []
argument_words (call.Giveup view server) = decimal view ∷ decimal server ∷ []
argument_words call.Status = []
argument_words call.Stop = []

abbrev pub call_words : Call → List (List ℕ)
call_words call = kind_word (call_kind call) ∷ argument_words call

-- the words with a space between two of them
abbrev pub call_body : Call → List ℕ
call_body call = join_with_byte 32 (call_words call)

-- a word that begins as a path does
abbrev pub HasSlash : List ℕ → Type 0
HasSlash [] = ⊥
HasSlash (byte ∷ bytes) = byte ≡ 47

-- what has a spelling: any word in the place of a path; a target is a path where it begins with a
-- slash, and else an id
abbrev pub IsTarget : Target → Type 0
IsTarget (target.Path path) = IsText path × HasSlash path
IsTarget (target.Id id) = Fits id

-- what one write may bring: bytes, and not too many
abbrev pub IsPayload : List ℕ → Type 0
IsPayload bytes = AreAtMost 32768 bytes

abbrev pub IsCall : Call → Type 0
IsCall (call.Mkdir path) = IsText path
IsCall (call.Create path policy) = IsText path
IsCall (call.Write path offset bytes) = IsText path × (offset < 2 ^ 32) × IsPayload bytes
IsCall (call.Cut path n) = IsText path × (n < 2 ^ 32)
IsCall (call.Read path offset count) = IsText path × (offset < 2 ^ 32) × (count ≤ 32768)
IsCall (call.Fresh path) = IsText path
IsCall (call.Ls path from) = IsText path × (from < 2 ^ 32)
IsCall (call.Stat what) = IsTarget what
IsCall (call.Rename from to) = IsText from × IsText to
IsCall (call.Unlink path) = IsText path
IsCall (call.Rmdir path) = IsText path
IsCall (call.Forget id) = Fits id
IsCall (call.Demote what) = IsTarget what
IsCall (call.Drop what) = IsTarget what
IsCall (call.Giveup view server) = (view < 2 ^ 64) × (server < 2 ^ 32)
IsCall call.Status = Unit {0}
IsCall call.Stop = Unit {0}
