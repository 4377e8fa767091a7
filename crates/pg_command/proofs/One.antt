-- Words have one command.
use Rattle.std.proofs.Common.{ℕ, ◌≡◌, ◌∙◌, List, ◌∷◌, ap, arith, decimal, refl, sym, true, false}
use Rattle.std.proofs.lemmas.Fmt.{decimal_injective}
use Rattle.pg_call.proofs.CallSpelling.{one_call}
use Rattle.pg_call.specs.Call.{call_kind}
use Rattle.pg_command.proofs.Commands.{command_spelled, rest_of, verb_of}
use Rattle.pg_command.proofs.Faults.{not_tick}
use Rattle.pg_command.proofs.Helps.{not_meters, one_help, one_rest, verb_in, verb_of_help}
use Rattle.pg_command.specs.Words.{AreNumbers, IsCalling, IsCommand, IsNode, IsRequest, command_words, node_words, number_words, request_words}
use Rattle.pg_command.specs.declared.command.Command.{Command}
use Rattle.pg_command.specs.declared.command.Command.TheVariants.{Replay, Make, Soak, Node, Call, Help}
use Rattle.pg_command.specs.declared.command.Numbers.{Numbers}
use Rattle.pg_packet_write.specs.declared.datagram.Request.{Request}
use Rattle.pg_packet_write.specs.declared.datagram.Request.TheVariants as request
use Rattle.pg_words.proofs.Splitting.{word_at}

numbers_of_parts : (a b c d e f : ℕ) → a ≡ d → b ≡ e → c ≡ f
    → ◌≡◌ {A = Numbers} (record { seed = a; servers = b; events = c })
    (record { seed = d; servers = e; events = f })
numbers_of_parts a b c d e f p q r = cc

one_numbers : (m n : Numbers) → AreNumbers m → AreNumbers n → number_words m ≡ number_words n
    → m ≡ n
one_numbers m n h k e =
    let ms = h.seed in
    let ns = k.seed in
    let mv = h.servers in
    let nv = k.servers in
    let me = h.events in
    let ne = k.events in
    let a : decimal m.seed ≡ decimal n.seed = cc in
    let b : decimal m.servers ≡ decimal n.servers = cc in
    let c : decimal m.events ≡ decimal n.events = cc in
    numbers_of_parts m.seed m.servers m.events n.seed n.servers n.events
    (decimal_injective m.seed n.seed ms ns a)
    (decimal_injective m.servers n.servers (omega arith) (omega arith) b)
    (decimal_injective m.events n.events (omega arith) (omega arith) c)

node_of_parts : (a b c d e f g h : ℕ) (x y : List ℕ) → a ≡ e → b ≡ f → c ≡ g → x ≡ y → d ≡ h
    → Node a b c x d ≡ Node e f g y h
node_of_parts a b c d e f g h x y p q r s t = cc

one_node : (a b c d e f g h : ℕ) (x y : List ℕ) → IsNode a b c x d → IsNode e f g y h
    → node_words a b c x d ≡ node_words e f g y h
    → Node a b c x d ≡ Node e f g y h
one_node a b c d e f g h x y m n same =
    let mc = m.count in
    let nc = n.count in
    let ma = m.among in
    let na = n.among in
    let mp = m.ports.most in
    let np = n.ports.most in
    let ea : decimal a ≡ decimal e = cc in
    let eb : decimal b ≡ decimal f = cc in
    let ec : decimal c ≡ decimal g = cc in
    let ex : x ≡ y = cc in
    let ed : decimal d ≡ decimal h = cc in
    let mb = mc.1 in
    let nb = nc.1 in
    node_of_parts a b c d e f g h x y
    (decimal_injective a e (omega arith) (omega arith) ea)
    (decimal_injective b f (omega arith) (omega arith) eb)
    (decimal_injective c g (omega arith) (omega arith) ec)
    ex
    (decimal_injective d h m.few n.few ed)

one_request : (a b : Request) → IsRequest a → IsRequest b → request_words a ≡ request_words b
    → a ≡ b
one_request (request.Call a) (request.Call b) h k e = ap request.Call (one_call a b h.0 k.0 e)
one_request (request.Call a) request.Tick h k e = absurd (not_tick (call_kind a) (ap (word_at 0) e))
one_request request.Tick (request.Call b) h k e =
    absurd (not_tick (call_kind b) (ap (word_at 0) (sym e)))
one_request request.Tick request.Tick h k e = refl

call_of_parts : (a b c d : ℕ) (x y : Request) → a ≡ c → b ≡ d → x ≡ y → Call a b x ≡ Call c d y
call_of_parts a b c d x y p q r = cc

one_calling : (a b c d : ℕ) (x y : Request) → IsCalling a b x → IsCalling c d y
    → ◌≡◌ {A = List (List ℕ)} (decimal a ∷ decimal b ∷ request_words x)
    (decimal c ∷ decimal d ∷ request_words y)
    → Call a b x ≡ Call c d y
one_calling a b c d x y m n same =
    let mc = m.count.1 in
    let nc = n.count.1 in
    let mp = m.ports.most in
    let np = n.ports.most in
    let ea : decimal a ≡ decimal c = cc in
    let eb : decimal b ≡ decimal d = cc in
    let ex : request_words x ≡ request_words y = cc in
    call_of_parts a b c d x y
    (decimal_injective a c (omega arith) (omega arith) ea)
    (decimal_injective b d (omega arith) (omega arith) eb)
    (one_request x y m.fits n.fits ex)

-- two commands with the same words have one verb
verb_found : (c : Command) → verb_in (command_words c) ≡ verb_of c
verb_found (Replay false) = refl
verb_found (Replay true) = refl
verb_found (Make numbers) = refl
verb_found (Soak numbers) = refl
verb_found (Node server servers port name turns) = refl
verb_found (Call server port request) = refl
verb_found (Help help) = verb_of_help help.of help.long

one_verb : (words : List (List ℕ)) (c d : Command) → words ≡ command_words c
    → words ≡ command_words d
    → verb_of c ≡ verb_of d
one_verb words c d e f = sym (verb_found c) ∙ ap verb_in (sym e ∙ f) ∙ verb_found d

-- and are the same
same_command : (c d : Command) → IsCommand c → IsCommand d → verb_of c ≡ verb_of d
    → rest_of c ≡ rest_of d
    → c ≡ d
same_command (Replay false) (Replay false) h k v e = refl
same_command (Replay true) (Replay true) h k v e = refl
same_command (Replay false) (Replay true) h k v e = absurd cc
same_command (Replay true) (Replay false) h k v e = absurd cc
same_command (Replay m) (Make n) h k v e = absurd cc
same_command (Replay m) (Soak n) h k v e = absurd cc
same_command (Replay m) (Node s t p n u) h k v e = absurd cc
same_command (Replay m) (Call s p r) h k v e = absurd cc
same_command (Make m) (Replay n) h k v e = absurd cc
same_command (Make m) (Make n) h k v e = ap Make (one_numbers m n h k e)
same_command (Make m) (Soak n) h k v e = absurd cc
same_command (Make m) (Node s t p n u) h k v e = absurd cc
same_command (Make m) (Call s p r) h k v e = absurd cc
same_command (Soak m) (Replay n) h k v e = absurd cc
same_command (Soak m) (Make n) h k v e = absurd cc
same_command (Soak m) (Soak n) h k v e = ap Soak (one_numbers m n h k e)
same_command (Soak m) (Node s t p n u) h k v e = absurd cc
same_command (Soak m) (Call s p r) h k v e = absurd cc
same_command (Node s t p n u) (Replay m) h k v e = absurd cc
same_command (Node s t p n u) (Make m) h k v e = absurd cc
same_command (Node s t p n u) (Soak m) h k v e = absurd cc
same_command (Node a b c x d) (Node s t p y u) h k v e = one_node a b c d s t p u x y h k e
same_command (Node s t p n u) (Call a b r) h k v e = absurd cc
same_command (Call s p r) (Replay m) h k v e = absurd cc
same_command (Call s p r) (Make m) h k v e = absurd cc
same_command (Call s p r) (Soak m) h k v e = absurd cc
same_command (Call s p r) (Node a b c n u) h k v e = absurd cc
same_command (Call a b x) (Call c d y) h k v e = one_calling a b c d x y h k e
same_command (Replay false) (Help x) h k v e = absurd cc
same_command (Replay true) (Help x) h k v e = absurd (not_meters x.long (ap (word_at 0) (sym e)))
same_command (Make n) (Help x) h k v e = absurd cc
same_command (Soak n) (Help x) h k v e = absurd cc
same_command (Node s t p n u) (Help x) h k v e = absurd cc
same_command (Call s p r) (Help x) h k v e = absurd cc
same_command (Help x) (Replay false) h k v e = absurd cc
same_command (Help x) (Replay true) h k v e = absurd (not_meters x.long (ap (word_at 0) e))
same_command (Help x) (Make n) h k v e = absurd cc
same_command (Help x) (Soak n) h k v e = absurd cc
same_command (Help x) (Node s t p n u) h k v e = absurd cc
same_command (Help x) (Call s p r) h k v e = absurd cc
same_command (Help x) (Help y) h k v e = ap Help (one_help x y v (ap (word_at 0) e))

pub one_command : (words : List (List ℕ)) (c d : Command) → IsCommand c → IsCommand d
    → words ≡ command_words c
    → words ≡ command_words d
    → c ≡ d
one_command words c d h k e f =
    let v = one_verb words c d e f in
    let same = sym (command_spelled c) ∙ sym e ∙ f ∙ command_spelled d in
    same_command c d h k v (one_rest (verb_of c) (verb_of d) (rest_of c) (rest_of d) v same)
