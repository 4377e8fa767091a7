-- Words that have a command have no fault.
use Rattle.std.proofs.Common.{ℕ, Bool, ◌≡◌, ◌≤◌, ◌^◌, ◌-◌, ◌∙◌, List, [], ◌∷◌, Option, Some, ap, arith, codes, decimal, inl, inr, map, refl, sym, subst, true, false}
use Rattle.std.proofs.lemmas.Fmt.{decimal_injective}
use Rattle.pg_call.proofs.CallTable.{call_tabled}
use Rattle.pg_call.specs.Call.{argument_words, call_kind}
use Rattle.pg_call.specs.Fields.{AreWordsOf, Field, call_fields}
use Rattle.pg_command.proofs.Faults.{AreFit, arguments_fit, fault_of_verb, none_wrong, same_asked}
use Rattle.pg_command.proofs.Helps.{help_spelled, with_verb}
use Rattle.pg_command.specs.Slots.{AreArguments, AreShort, IsFirstWrong, IsNumber}
use Rattle.pg_command.specs.Slots.Slot.{Argued}
use Rattle.pg_command.specs.Verb.{help_word}
use Rattle.pg_command.specs.Words.{AreNumbers, IsCalling, IsCommand, IsFaultIn, IsFaultOf, IsFaultOfArguments, IsFaultOfAll, IsFaultOfAsked, IsFaultOfCall, IsFaultOfNode, IsFaultOfPort, IsNode, IsPort, IsRequest, IsServerOf, asked_fields, asked_word, command_words, node_slots, node_words, number_slots, number_words, request_words}
use Rattle.pg_command.specs.declared.asked.Asked.{Asked}
use Rattle.pg_command.specs.declared.asked.Asked.TheVariants as asked
use Rattle.pg_command.specs.declared.command.Command.{Command}
use Rattle.pg_command.specs.declared.command.Command.TheVariants.{Replay, Make, Soak, Node, Call, Help}
use Rattle.pg_command.specs.declared.command.Numbers.{Numbers}
use Rattle.pg_command.specs.declared.verb.Verb.{Verb}
use Rattle.pg_command.specs.declared.verb.Verb.TheVariants as verb
use Rattle.pg_packet_write.specs.declared.datagram.Request.{Request}
use Rattle.pg_packet_write.specs.declared.datagram.Request.TheVariants as request
use Rattle.pg_sched.specs.Schedule.{IsCount}
use Rattle.pg_words.proofs.Splitting.{behind}

-- ---- no fault

is_number : (least most n : ℕ) → least ≤ n → n ≤ most → IsNumber least most (decimal n)
is_number least most n low high = record { number = n; low = low; high = high; spelled = refl }

numbers_fit : (n : Numbers) → AreNumbers n → AreFit number_slots (number_words n)
numbers_fit n h =
    let seed = h.seed in
    let servers = h.servers in
    let one = is_number 0 (2 ^ 64 - 1) n.seed (omega arith) (omega arith) in
    let two = is_number 1 64 n.servers servers.0 servers.1 in
    let three = is_number 0 1000000 n.events (omega arith) h.events in
    (one, (two, (three, tt)))

-- the server of a node stands among those that are counted behind it
server_of : (server servers : ℕ) (words : List (List ℕ)) → 1 ≤ server → server ≤ servers
    → IsCount servers
    → IsServerOf (decimal servers ∷ words) (decimal server)
server_of server servers words least among count =
    let most = count.1 in
    record {
      server = server;
      count = (least, omega arith);
      among = λ n few e.
          let fits = few.1 in
          subst (λ x. server ≤ x) (decimal_injective servers n (omega arith) (omega arith) e) among;
      spelled = refl;
    }

pub no_fault_of_node : (server servers port : ℕ) (name : List ℕ) (turns k : ℕ)
    → IsNode server servers port name turns
    → IsFaultOfNode (node_words server servers port name turns) k
    → ⊥
no_fault_of_node server servers port name turns k h (inl f) =
    f.0 (server_of server servers (decimal port ∷ name ∷ decimal turns ∷ []) h.least h.among h.count)
no_fault_of_node server servers port name turns k h (inr f) =
    let count = h.count in
    let at = h.ports in
    let few = h.few in
    let one = is_number 1 64 servers count.0 count.1 in
    let two = is_number 1 65471 port at.least at.most in
    let four = is_number 0 (2 ^ 64 - 1) turns (omega arith) (omega arith) in
    none_wrong 3 node_slots (decimal servers ∷ decimal port ∷ name ∷ decimal turns ∷ []) k
    (one, (two, (h.named, (four, tt))))
    f.1

no_fault_of_arguments : (asked : Asked) (words : List (List ℕ)) (k : ℕ)
    → AreArguments (asked_fields asked) words
    → IsFaultOfArguments (asked_word asked) words k
    → ⊥
no_fault_of_arguments a words k are f =
    let P : Asked → Type 0 = λ x. IsFirstWrong 5 (map Argued (asked_fields x)) words k in
    let wrong = subst P (same_asked f.asked a (sym f.spelled)) f.wrong in
    none_wrong 5 (map Argued (asked_fields a)) words k (arguments_fit (asked_fields a) words are) wrong

no_fault_of_asked : (asked : Asked) (words : List (List ℕ)) (k : ℕ)
    → AreArguments (asked_fields asked) words
    → IsFaultOfAsked (asked_word asked ∷ words) k
    → ⊥
no_fault_of_asked a words k are (inl f) = f.0 (record { asked = a; spelled = refl })
no_fault_of_asked a words k are (inr f) = no_fault_of_arguments a words k are f.1

no_fault_of_port : (port : ℕ) (asked : Asked) (words : List (List ℕ)) (k : ℕ) → IsPort port
    → AreArguments (asked_fields asked) words
    → IsFaultOfPort (decimal port ∷ asked_word asked ∷ words) k
    → ⊥
no_fault_of_port port a words k at are (inl f) = f.0 (is_number 1 65471 port at.least at.most)
no_fault_of_port port a words k at are (inr f) = no_fault_of_asked a words k are f.1

pub no_fault_of_call : (server port : ℕ) (asked : Asked) (words : List (List ℕ)) (k : ℕ)
    → IsCount server
    → IsPort port
    → AreArguments (asked_fields asked) words
    → IsFaultOfCall (decimal server ∷ decimal port ∷ asked_word asked ∷ words) k
    → ⊥
no_fault_of_call server port a words k count at are (inl f) =
    f.0 (is_number 1 64 server count.0 count.1)
no_fault_of_call server port a words k count at are (inr f) =
    no_fault_of_port port a words k at are f.1

-- what is asked for, and its words
abbrev pub asked_of : Request → Asked
asked_of (request.Call call) = asked.Call (call_kind call)
asked_of request.Tick = asked.Tick

abbrev pub words_of : Request → List (List ℕ)
words_of (request.Call call) = argument_words call
words_of request.Tick = []

request_spelled : (r : Request) → request_words r ≡ asked_word (asked_of r) ∷ words_of r
request_spelled (request.Call call) = refl
request_spelled request.Tick = refl

-- words of a schedule that are short enough are arguments
pub are_arguments : (fields : List Field) (words : List (List ℕ)) → AreWordsOf fields words
    → AreShort fields words
    → AreArguments fields words
are_arguments [] [] h s = tt
are_arguments [] (w ∷ ws) h s = h
are_arguments (x ∷ xs) [] h s = h
are_arguments (x ∷ xs) (w ∷ ws) h s =
    (record { spelled = h.0; short = s.0 }, are_arguments xs ws h.1 s.1)

arguments_of_request : (r : Request) → IsRequest r
    → AreArguments (asked_fields (asked_of r)) (words_of r)
arguments_of_request (request.Call call) h =
    are_arguments (call_fields (call_kind call)) (argument_words call) (call_tabled call h.0) h.1
arguments_of_request request.Tick h = tt

-- ---- the command's own words

abbrev pub verb_of : Command → Option Verb
verb_of (Replay metered) = Some verb.Replay
verb_of (Make numbers) = Some verb.Make
verb_of (Soak numbers) = Some verb.Soak
verb_of (Node server servers port name turns) = Some verb.Node
verb_of (Call server port request) = Some verb.Call
verb_of (Help help) = help.of

-- what stands behind the verb's word, where there is one
abbrev pub rest_of : Command → List (List ℕ)
rest_of (Replay metered) = behind (command_words (Replay metered))
rest_of (Make numbers) = number_words numbers
rest_of (Soak numbers) = number_words numbers
rest_of (Node server servers port name turns) = node_words server servers port name turns
rest_of (Call server port request) = decimal server ∷ decimal port ∷ request_words request
rest_of (Help help) = help_word help.long ∷ []

pub command_spelled : (c : Command) → command_words c ≡ with_verb (verb_of c) (rest_of c)
command_spelled (Replay false) = refl
command_spelled (Replay true) = refl
command_spelled (Make numbers) = refl
command_spelled (Soak numbers) = refl
command_spelled (Node server servers port name turns) = refl
command_spelled (Call server port request) = refl
command_spelled (Help help) = help_spelled help.of help.long

-- a fault of a command's words stands behind its verb's word
fault_behind : (words : List (List ℕ)) (c : Command) (v : Verb) (k : ℕ) → verb_of c ≡ Some v
    → words ≡ command_words c
    → IsFaultIn words k
    → IsFaultOf v (rest_of c) k
fault_behind words c v k is e f =
    let P : List (List ℕ) → Type 0 = λ ws. IsFaultIn ws k in
    let same = e ∙ command_spelled c ∙ ap (λ o. with_verb o (rest_of c)) is in
    fault_of_verb v (rest_of c) k (subst P same f)

no_fault_of_call_words : (server port : ℕ) (r : Request) (k : ℕ) → IsCalling server port r
    → IsFaultOfCall (decimal server ∷ decimal port ∷ request_words r) k
    → ⊥
no_fault_of_call_words server port r k h f =
    let P : List (List ℕ) → Type 0 = λ ws. IsFaultOfCall (decimal server ∷ decimal port ∷ ws) k in
    no_fault_of_call server port (asked_of r) (words_of r) k h.count h.ports
    (arguments_of_request r h.fits)
    (subst P (request_spelled r) f)

no_fault_of_metered : (k : ℕ) → IsFaultOf verb.Replay (codes "--meters" ∷ []) k → ⊥
no_fault_of_metered k (inl f) = f.0 refl
no_fault_of_metered k (inr f) = f.1

-- what the look before clap found has no fault
pub no_fault_of_replay : (metered : Bool) (words : List (List ℕ)) (k : ℕ)
    → command_words (Replay metered) ≡ codes "replay" ∷ words
    → IsFaultOf verb.Replay words k
    → ⊥
no_fault_of_replay false [] k e f = f
no_fault_of_replay false (w ∷ ws) k e f = let none : [] ≡ w ∷ ws = ap behind e in absurd cc
no_fault_of_replay true words k e f =
    let P : List (List ℕ) → Type 0 = λ ws. IsFaultOf verb.Replay ws k in
    no_fault_of_metered k (subst P (sym (ap behind e)) f)

pub no_fault_of_numbers : (n : Numbers) (words : List (List ℕ)) (k : ℕ) → AreNumbers n
    → number_words n ≡ words
    → IsFirstWrong 2 number_slots words k
    → ⊥
no_fault_of_numbers n words k h same f =
    let P : List (List ℕ) → Type 0 = λ ws. IsFirstWrong 2 number_slots ws k in
    none_wrong 2 number_slots (number_words n) k (numbers_fit n h) (subst P (sym same) f)

pub no_fault : (words : List (List ℕ)) (c : Command) (k : ℕ) → IsCommand c
    → words ≡ command_words c
    → IsFaultOfAll words k
    → ⊥
no_fault words (Replay false) k h e f =
    fault_behind words (Replay false) verb.Replay k refl e f.1
no_fault words (Replay true) k h e f =
    no_fault_of_metered k (fault_behind words (Replay true) verb.Replay k refl e f.1)
no_fault words (Make n) k h e f =
    none_wrong 2 number_slots (number_words n) k (numbers_fit n h)
    (fault_behind words (Make n) verb.Make k refl e f.1)
no_fault words (Soak n) k h e f =
    none_wrong 2 number_slots (number_words n) k (numbers_fit n h)
    (fault_behind words (Soak n) verb.Soak k refl e f.1)
no_fault words (Node server servers port name turns) k h e f =
    no_fault_of_node server servers port name turns k h
    (fault_behind words (Node server servers port name turns) verb.Node k refl e f.1)
no_fault words (Call server port request) k h e f =
    no_fault_of_call_words server port request k h
    (fault_behind words (Call server port request) verb.Call k refl e f.1)
no_fault words (Help help) k h e f = f.0 (record { help = help; spelled = e })
