-- What clap reads of checked words is what the look before found.
use Rattle.std.proofs.Common.{ℕ, ◌≡◌, ◌≢◌, ◌<◌, ◌^◌, ◌⊎◌, ◌∙◌, arith, codes, decimal, true, false, List, [], ◌∷◌, Option, Some, None, Ok, Err, Result, ap, inl, inr, is_some, option_map, refl, sym}
use Rattle.std.proofs.lemmas.Fmt.{parse-decimal}
use Rattle.std.specs.Int.{IsInRange}
use Rattle.std.specs.List.{slice_index_or}
use Rattle.std.specs.Str.Parse.{ParsesUnsigned}
use Rattle.clap.proofs.WalkLemmas.{one_text-rows}
use Rattle.clap.specs.Matches.{ReadsOne, one_text}
use Rattle.clap.specs.Simple.{subcommand_of}
use Rattle.clap.specs.Takes.{takes}
use Rattle.clap.specs.Walk.{Row, Text, first_of, one_of, rows_of}
use Rattle.clap.specs.declared.parser.matches.Found.{Found}
use Rattle.pg_base.proofs.Parts.{decimal-without}
use Rattle.pg_command.proofs.Rows.{call_found, call_rows, call_takes, make_found, make_takes, node_found, node_rows, node_takes, numbers_rows, soak_found, soak_takes}
use Rattle.pg_command.proofs.Walks.{IsPlainWord, plain_word}
use Rattle.pg_command.specs.Program.{program_app}
use Rattle.pg_command.specs.Slots.{IsNameByte, IsNodeName}
use Rattle.pg_command.specs.Words.{AreNumbers, IsNode, node_words, number_words}
use Rattle.pg_command.specs.declared.command.Numbers.{Numbers}

-- ---- no such word begins with a hyphen

plain_decimal : (n : ℕ) → n < 2 ^ 64 → IsPlainWord (decimal n)
plain_decimal n few =
    let outside : IsInRange 48 57 45 → ⊥ = λ h. absurd (let least = h.0 in omega arith) in
    plain_word (decimal n) (decimal-without 45 n outside few)

no_hyphen : (byte : ℕ) → IsNameByte byte → byte ≢ 45
no_hyphen byte (inl letter) = λ e. absurd (let least = letter.0 in omega arith)
no_hyphen byte (inr digit) = λ e. absurd (let least = digit.0 in omega arith)

plain_name : (name : List ℕ) → IsNodeName name → IsPlainWord name
plain_name name h =
    plain_word name (λ k d within. no_hyphen (slice_index_or name k d) (h.each k d within))

-- ---- what clap takes, and what it reads

-- the words name a subcommand, with these rows
abbrev pub Gives : List Text → List Row → Type 0
Gives words rows = (name : Text) × (subcommand_of program_app words ≡ Some (name, rows))

abbrev pub IsMadeOf : List Text → Numbers → Type 0
IsMadeOf words n =
    (words ≡ codes "make" ∷ number_words n) ⊎ (words ≡ codes "soak" ∷ number_words n)

pub made_of : (all words : List Text) (n : Numbers) → number_words n ≡ words
    → (all ≡ codes "make" ∷ words) ⊎ (all ≡ codes "soak" ∷ words)
    → IsMadeOf all n
made_of all words n same (inl e) = inl (e ∙ ap (λ ws. codes "make" ∷ ws) (sym same))
made_of all words n same (inr e) = inr (e ∙ ap (λ ws. codes "soak" ∷ ws) (sym same))

pub numbers_taken : (words : List Text) (n : Numbers) → AreNumbers n → IsMadeOf words n
    → takes program_app words ≡ true
numbers_taken words n h (inl is) =
    let servers = h.servers.1 in
    let events = h.events in
    ap (takes program_app) is
    ∙ make_takes (decimal n.seed) (decimal n.servers) (decimal n.events)
    (plain_decimal n.seed h.seed) (plain_decimal n.servers (omega arith))
    (plain_decimal n.events (omega arith))
numbers_taken words n h (inr is) =
    let servers = h.servers.1 in
    let events = h.events in
    ap (takes program_app) is
    ∙ soak_takes (decimal n.seed) (decimal n.servers) (decimal n.events)
    (plain_decimal n.seed h.seed) (plain_decimal n.servers (omega arith))
    (plain_decimal n.events (omega arith))

pub numbers_given : (words : List Text) (n : Numbers) → AreNumbers n → IsMadeOf words n
    → Gives words (numbers_rows (decimal n.seed) (decimal n.servers) (decimal n.events))
numbers_given words n h (inl is) =
    let servers = h.servers.1 in
    let events = h.events in (
      codes "make",
      ap (subcommand_of program_app) is
          ∙ make_found (decimal n.seed) (decimal n.servers) (decimal n.events)
          (plain_decimal n.seed h.seed) (plain_decimal n.servers (omega arith))
          (plain_decimal n.events (omega arith)),
    )
numbers_given words n h (inr is) =
    let servers = h.servers.1 in
    let events = h.events in (
      codes "soak",
      ap (subcommand_of program_app) is
          ∙ soak_found (decimal n.seed) (decimal n.servers) (decimal n.events)
          (plain_decimal n.seed h.seed) (plain_decimal n.servers (omega arith))
          (plain_decimal n.events (omega arith)),
    )

pub node_taken : (words : List Text) (server servers port : ℕ) (name : List ℕ) (turns : ℕ)
    → IsNode server servers port name turns
    → words ≡ codes "node" ∷ node_words server servers port name turns
    → takes program_app words ≡ true
node_taken words server servers port name turns h is =
    let count = h.count.1 in
    let among = h.among in
    let most = h.ports.most in
    ap (takes program_app) is
    ∙ node_takes (decimal server) (decimal servers) (decimal port) name (decimal turns)
    (plain_decimal server (omega arith)) (plain_decimal servers (omega arith))
    (plain_decimal port (omega arith)) (plain_name name h.named) (plain_decimal turns h.few)

pub node_given : (words : List Text) (server servers port : ℕ) (name : List ℕ) (turns : ℕ)
    → IsNode server servers port name turns
    → words ≡ codes "node" ∷ node_words server servers port name turns
    → Gives words (node_rows (decimal server) (decimal servers) (decimal port) name (decimal turns))
node_given words server servers port name turns h is =
    let count = h.count.1 in
    let among = h.among in
    let most = h.ports.most in (
      codes "node",
      ap (subcommand_of program_app) is
          ∙ node_found (decimal server) (decimal servers) (decimal port) name (decimal turns)
          (plain_decimal server (omega arith)) (plain_decimal servers (omega arith))
          (plain_decimal port (omega arith)) (plain_name name h.named) (plain_decimal turns h.few),
    )

pub call_taken : (words : List Text) (server port : ℕ) → server < 2 ^ 32 → port < 2 ^ 16
    → words ≡ codes "call" ∷ decimal server ∷ decimal port ∷ []
    → takes program_app words ≡ true
call_taken words server port few low is =
    ap (takes program_app) is
    ∙ call_takes (decimal server) (decimal port) (plain_decimal server (omega arith))
    (plain_decimal port (omega arith))

pub call_given : (words : List Text) (server port : ℕ) → server < 2 ^ 32 → port < 2 ^ 16
    → words ≡ codes "call" ∷ decimal server ∷ decimal port ∷ []
    → Gives words (call_rows (decimal server) (decimal port))
call_given words server port few low is = (
  codes "call",
  ap (subcommand_of program_app) is
      ∙ call_found (decimal server) (decimal port) (plain_decimal server (omega arith))
      (plain_decimal port (omega arith)),
)

-- ---- what stands in the matches

-- they name one
pub are_named : (words : List Text) (rows : List Row) → Gives words rows
    → is_some (subcommand_of program_app words) ≡ true
are_named words rows gives = ap is_some gives.1

pub one_named : (found : Option (Text × List Row)) → is_some found ≡ true
    → ◌≡◌ {A = Option (List Row)} None (option_map (λ p. p.1) found)
    → ⊥
one_named None named none = let bad : false ≡ true = named in absurd cc
one_named (Some p) named none =
    let bad : ◌≡◌ {A = Option (List Row)} None (Some p.1) = none in absurd cc

-- the one that is found has these rows
same_rows : (words : List Text) (here rows : List Row)
    → option_map (λ p. p.1) (subcommand_of program_app words) ≡ Some here
    → Gives words rows
    → here ≡ rows
same_rows words here rows has gives =
    let e : Some here ≡ Some rows = sym has ∙ ap (option_map (λ p. p.1)) gives.1 in cc

-- and what they have under a name
pub number_stands : (words : List Text) (here rows : List Row) (name text : Text)
    → option_map (λ p. p.1) (subcommand_of program_app words) ≡ Some here
    → Gives words rows
    → one_of name rows ≡ Some text
    → one_of name here ≡ Some text
number_stands words here rows name text has gives at =
    ap (one_of name) (same_rows words here rows has gives) ∙ at

pub text_stands : (words : List Text) (here rows : List Row) (name text : Text)
    → option_map (λ p. p.1) (subcommand_of program_app words) ≡ Some here
    → Gives words rows
    → first_of name rows ≡ Some text
    → first_of name here ≡ Some text
text_stands words here rows name text has gives at =
    ap (first_of name) (same_rows words here rows has gives) ∙ at

-- a number that is read is the one whose text stands there
pub number_is : {E : Type 0} (G : List ℕ → Result ℕ E → Type 0) (found : Found) (name : Text) (n : ℕ)
    (r : Option ℕ)
    → n < 2 ^ 64
    → ((t : List ℕ) (x : Result ℕ E) → G t x → ParsesUnsigned 64 10 t x)
    → one_of name (rows_of found) ≡ Some (decimal n)
    → ((t : List ℕ) → one_text found name ≡ Some t → ReadsOne G t r)
    → r ≡ Some n
number_is {E} G found name n r few parses is reads =
    read_so r (reads (decimal n) (one_text-rows found name ∙ is))
  where
    read_so : (o : Option ℕ) → ReadsOne G (decimal n) o → o ≡ Some n
    read_so (Some m) h =
        let e : ◌≡◌ {A = Result ℕ E} (Ok m) (Ok n) =
        parse-decimal 64 n (decimal n) (Ok m) few few refl (parses (decimal n) (Ok m) h) in cc
    read_so None h =
        let e : ◌≡◌ {A = Result ℕ E} (Err h.0) (Ok n) =
        parse-decimal 64 n (decimal n) (Err h.0) few few refl (parses (decimal n) (Err h.0) h.1) in absurd cc
