-- The words of a command.
use Rattle.std.specs.Prelude.{ℕ, ◌≡◌, ◌≤◌, ◌<◌, ◌-◌, ◌^◌, ◌⊎◌, true, false, List, [], ◌∷◌, Vec, String, codes, decimal, drop, map}
use Rattle.std.specs.String.{string_bytes}
use Rattle.std.specs.Global.{Global}
use Rattle.pg_call.specs.Call.{IsCall, argument_words, call_kind, call_words, kind_word}
use Rattle.pg_call.specs.Fields.{Field, call_fields}
use Rattle.pg_packet_write.specs.declared.datagram.Request.{Request}
use Rattle.pg_packet_write.specs.declared.datagram.Request.TheVariants as request
use Rattle.pg_sched.specs.Cause.{Unless}
use Rattle.pg_sched.specs.Schedule.{IsCount}
use Rattle.pg_command.specs.Slots.{AreShort, IsFirstWrong, IsNodeName, IsNumber, Slot}
use Rattle.pg_command.specs.Slots.Slot.{Argued, Name, Number, Text}
use Rattle.pg_command.specs.Verb.{IsHelp, IsVerb, help_words, verb_word}
use Rattle.pg_command.specs.declared.asked.Asked.{Asked}
use Rattle.pg_command.specs.declared.asked.Asked.TheVariants as asked
use Rattle.pg_command.specs.declared.command.Command.{Command}
use Rattle.pg_command.specs.declared.command.Command.TheVariants.{Replay, Make, Soak, Node, Call, Help}
use Rattle.pg_command.specs.declared.command.Numbers.{Numbers}
use Rattle.pg_command.specs.declared.verb.Verb.{Verb}
use Rattle.pg_command.specs.declared.verb.Verb.TheVariants as verb

abbrev pub Words : Type 0
Words = Vec (String Global) Global

-- the words behind the program's name
abbrev pub words_behind : Words → List (List ℕ)
words_behind words = map string_bytes (drop 1 words.items)

-- ---- commands

-- the numbers from which a schedule is made: the seed, the servers and the events
pub record AreNumbers (numbers : Numbers) : Type 0 where
  pub seed : numbers.seed < 2 ^ 64
  pub servers : IsCount numbers.servers
  pub events : numbers.events ≤ 1000000

abbrev pub number_words : Numbers → List (List ℕ)
number_words numbers =
    decimal numbers.seed ∷ decimal numbers.servers ∷ decimal numbers.events ∷ []

-- 64 servers have ports behind it
pub record IsPort (port : ℕ) : Type 0 where
  pub least : 1 ≤ port
  pub most : port ≤ 65471

-- a server among so many, which have their ports behind this one, and its name
pub record IsNode (server servers port : ℕ) (name : List ℕ) (turns : ℕ) : Type 0 where
  pub least : 1 ≤ server
  pub among : server ≤ servers
  pub count : IsCount servers
  pub ports : IsPort port
  pub named : IsNodeName name
  pub few : turns < 2 ^ 64

abbrev pub node_words : ℕ → ℕ → ℕ → List ℕ → ℕ → List (List ℕ)
node_words server servers port name turns =
    decimal server ∷ decimal servers ∷ decimal port ∷ name ∷ decimal turns ∷ []

-- the words of a call, as a schedule has them, or of a tick
abbrev pub request_words : Request → List (List ℕ)
request_words (request.Call call) = call_words call
request_words request.Tick = codes "tick" ∷ []

-- its paths and targets are not too long
abbrev pub IsRequest : Request → Type 0
IsRequest (request.Call call) =
    IsCall call × AreShort (call_fields (call_kind call)) (argument_words call)
IsRequest request.Tick = Unit {0}

-- what is asked of a server that has its port behind this one
pub record IsCalling (server port : ℕ) (request : Request) : Type 0 where
  pub count : IsCount server
  pub ports : IsPort port
  pub fits : IsRequest request

-- the words of a command
abbrev pub command_words : Command → List (List ℕ)
command_words (Replay false) = codes "replay" ∷ []
command_words (Replay true) = codes "replay" ∷ codes "--meters" ∷ []
command_words (Make numbers) = codes "make" ∷ number_words numbers
command_words (Soak numbers) = codes "soak" ∷ number_words numbers
command_words (Node server servers port name turns) =
    codes "node" ∷ node_words server servers port name turns
command_words (Call server port request) =
    codes "call" ∷ decimal server ∷ decimal port ∷ request_words request
command_words (Help help) = help_words help

-- its numbers are in their ranges, and its texts are such as it takes
abbrev pub IsCommand : Command → Type 0
IsCommand (Replay metered) = Unit {0}
IsCommand (Make numbers) = AreNumbers numbers
IsCommand (Soak numbers) = AreNumbers numbers
IsCommand (Node server servers port name turns) = IsNode server servers port name turns
IsCommand (Call server port request) = IsCalling server port request
IsCommand (Help help) = Unit {0}

-- the words ask for this
pub record Asks (words : Words) (command : Command) : Type 0 where
  pub fits : IsCommand command
  pub spelled : words_behind words ≡ command_words command

-- it reads a schedule
abbrev pub IsReplay : Command → Type 0
IsReplay (Replay metered) = Unit {0}
IsReplay (Make numbers) = ⊥
IsReplay (Soak numbers) = ⊥
IsReplay (Node server servers port name turns) = ⊥
IsReplay (Call server port request) = ⊥
IsReplay (Help help) = ⊥

abbrev pub AsksForReplay : Words → Type 0
AsksForReplay words = Asks words (Replay true) ⊎ Asks words (Replay false)

-- it is a node
abbrev pub IsOfNode : Command → Type 0
IsOfNode (Replay metered) = ⊥
IsOfNode (Make numbers) = ⊥
IsOfNode (Soak numbers) = ⊥
IsOfNode (Node server servers port name turns) = Unit {0}
IsOfNode (Call server port request) = ⊥
IsOfNode (Help help) = ⊥

-- it asks a node
abbrev pub IsOfCall : Command → Type 0
IsOfCall (Replay metered) = ⊥
IsOfCall (Make numbers) = ⊥
IsOfCall (Soak numbers) = ⊥
IsOfCall (Node server servers port name turns) = ⊥
IsOfCall (Call server port request) = Unit {0}
IsOfCall (Help help) = ⊥

abbrev pub AsksForNode : Words → Type 0
AsksForNode words = (command : Command) × IsOfNode command × Asks words command

abbrev pub AsksForCall : Words → Type 0
AsksForCall words = (command : Command) × IsOfCall command × Asks words command

-- ---- words at fault

abbrev pub number_slots : List Slot
number_slots = Number 0 (2 ^ 64 - 1) ∷ Number 1 64 ∷ Number 0 1000000 ∷ []

-- behind `replay` there is nothing, or one word
abbrev pub replay_slots : List (List ℕ) → List Slot
replay_slots [] = []
replay_slots (word ∷ words) = Text (codes "--meters") ∷ []

-- behind the server of a node: how many there are, the port, the name and the turns
abbrev pub node_slots : List Slot
node_slots = Number 1 64 ∷ Number 1 65471 ∷ Name ∷ Number 0 (2 ^ 64 - 1) ∷ []

-- one of so many servers, where these are a count at all
abbrev pub IsOneOf : ℕ → ℕ → Type 0
IsOneOf server servers = (servers ≡ 0) ⊎ (64 < servers) ⊎ (server ≤ servers)

-- where the next word is a count of servers, the server is one of so many
abbrev pub IsAmong : ℕ → List (List ℕ) → Type 0
IsAmong server [] = Unit {0}
IsAmong server (word ∷ words) =
    (servers : ℕ) → IsCount servers → word ≡ decimal servers → server ≤ servers

-- a server of 1 to 64, and one of so many as the next word counts
pub record IsServerOf (words : List (List ℕ)) (word : List ℕ) : Type 0 where
  pub server : ℕ
  pub count : IsCount server
  pub among : IsAmong server words
  pub spelled : word ≡ decimal server

abbrev pub IsFaultOfNode : List (List ℕ) → ℕ → Type 0
IsFaultOfNode [] k = k ≡ 2
IsFaultOfNode (word ∷ words) k =
    Unless (IsServerOf words word) (k ≡ 2) (IsFirstWrong 3 node_slots words k)

-- the word that names what is asked for, and what stands behind it
abbrev pub asked_word : Asked → List ℕ
asked_word (asked.Call kind) = kind_word kind
asked_word asked.Tick = codes "tick"

abbrev pub asked_fields : Asked → List Field
asked_fields (asked.Call kind) = call_fields kind
asked_fields asked.Tick = []

-- it names something to be asked for
pub record IsAskedWord (word : List ℕ) : Type 0 where
  pub asked : Asked
  pub spelled : word ≡ asked_word asked

abbrev pub LacksAsked : List (List ℕ) → Type 0
LacksAsked [] = Unit {0}
LacksAsked (word ∷ words) = IsAskedWord word → ⊥

pub record IsFaultOfArguments (word : List ℕ) (words : List (List ℕ)) (k : ℕ) : Type 0 where
  pub asked : Asked
  pub spelled : word ≡ asked_word asked
  pub wrong : IsFirstWrong 5 (map Argued (asked_fields asked)) words k

abbrev pub IsFaultOfAsked : List (List ℕ) → ℕ → Type 0
IsFaultOfAsked [] k = k ≡ 4
IsFaultOfAsked (word ∷ words) k =
    Unless (IsAskedWord word) (k ≡ 4) (IsFaultOfArguments word words k)

abbrev pub IsFaultOfPort : List (List ℕ) → ℕ → Type 0
IsFaultOfPort [] k = k ≡ 3
IsFaultOfPort (word ∷ words) k = Unless (IsNumber 1 65471 word) (k ≡ 3) (IsFaultOfAsked words k)

abbrev pub IsFaultOfCall : List (List ℕ) → ℕ → Type 0
IsFaultOfCall [] k = k ≡ 2
IsFaultOfCall (word ∷ words) k = Unless (IsNumber 1 64 word) (k ≡ 2) (IsFaultOfPort words k)

-- ---- all commands

abbrev pub IsFaultOf : Verb → List (List ℕ) → ℕ → Type 0
IsFaultOf verb.Replay words k = IsFirstWrong 2 (replay_slots words) words k
IsFaultOf verb.Make words k = IsFirstWrong 2 number_slots words k
IsFaultOf verb.Soak words k = IsFirstWrong 2 number_slots words k
IsFaultOf verb.Node words k = IsFaultOfNode words k
IsFaultOf verb.Call words k = IsFaultOfCall words k

pub record IsFaultBehind (word : List ℕ) (words : List (List ℕ)) (k : ℕ) : Type 0 where
  pub verb : Verb
  pub spelled : word ≡ verb_word verb
  pub wrong : IsFaultOf verb words k

-- the first of the words behind the program's name that no command has there, or the number of the
-- one that is missing
abbrev pub IsFaultIn : List (List ℕ) → ℕ → Type 0
IsFaultIn [] k = k ≡ 1
IsFaultIn (word ∷ words) k = Unless (IsVerb word) (k ≡ 1) (IsFaultBehind word words k)

-- where they ask for no help
abbrev pub IsFaultOfAll : List (List ℕ) → ℕ → Type 0
IsFaultOfAll words k = (IsHelp words → ⊥) × IsFaultIn words k

abbrev pub IsFault : Words → ℕ → Type 0
IsFault words k = IsFaultOfAll (words_behind words) k
