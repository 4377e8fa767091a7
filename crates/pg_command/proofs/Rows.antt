-- What clap reads of the words of each command, and that it takes them.
use Rattle.std.proofs.Common.{◌≡◌, ◌∙◌, ◌&&◌, ap, codes, false, true, List, [], ◌∷◌, Some, option_map, refl}
use Rattle.clap.proofs.OnLiterals.{clap_on_literals}
use Rattle.clap.specs.Simple.{Shape, built_leaf, inherited, marked_built, subcommand_of, with_leaf_noted}
use Rattle.clap.specs.Takes.{level_passes, takes}
use Rattle.clap.specs.Walk.{Row, Text, finished, first_of, nothing_held, one_of, rows_after, walk_from}
use Rattle.pg_command.proofs.Walks.{AreTaken, IsPlainWord, behind_all, level_passes_so, rows_are}
use Rattle.pg_command.specs.Program.{call_app, node_app, numbers_app, program_app, top_app}

-- a command's shape, once all is built
abbrev pub shape_in : Shape → Shape
shape_in s = built_leaf (inherited (with_leaf_noted (marked_built top_app.top)) s)

-- ---- three numbers

abbrev pub numbers_shape : Shape
numbers_shape = shape_in (numbers_app (codes "make")).top

numbers_taken : (a b c : Text) → IsPlainWord a → IsPlainWord b → IsPlainWord c
    → AreTaken numbers_shape (walk_from nothing_held) (a ∷ b ∷ c ∷ [])
numbers_taken a b c p q r =
    (((refl, refl, refl), p, refl), (((refl, refl, refl), q, refl), (((refl, refl, refl), r, refl), tt)))

-- the rows that clap makes of these words
abbrev pub numbers_rows : Text → Text → Text → List Row
numbers_rows a b c = finished numbers_shape.rules (behind_all numbers_shape (a ∷ b ∷ c ∷ []))

make_entered : (a b c : Text)
    → subcommand_of program_app (codes "make" ∷ a ∷ b ∷ c ∷ [])
    ≡ Some (codes "make", rows_after numbers_shape.rules [] (a ∷ b ∷ c ∷ []))
unfolding clap_on_literals
make_entered a b c = refl

pub make_found : (a b c : Text) → IsPlainWord a → IsPlainWord b → IsPlainWord c
    → subcommand_of program_app (codes "make" ∷ a ∷ b ∷ c ∷ []) ≡ Some (codes "make", numbers_rows a b c)
make_found a b c p q r =
    make_entered a b c
    ∙ ap (λ rows. Some (codes "make", rows)) (rows_are numbers_shape (a ∷ b ∷ c ∷ []) (numbers_taken a b c p q r))

make_level : (a b c : Text)
    → takes program_app (codes "make" ∷ a ∷ b ∷ c ∷ [])
    ≡ (level_passes numbers_shape [] nothing_held (a ∷ b ∷ c ∷ []) false && true)
unfolding clap_on_literals
make_level a b c = refl

pub make_takes : (a b c : Text) → IsPlainWord a → IsPlainWord b → IsPlainWord c
    → takes program_app (codes "make" ∷ a ∷ b ∷ c ∷ []) ≡ true
make_takes a b c p q r =
    make_level a b c
    ∙ ap (λ b. b && true)
    (level_passes_so numbers_shape (a ∷ b ∷ c ∷ []) (numbers_taken a b c p q r) refl)

soak_entered : (a b c : Text)
    → subcommand_of program_app (codes "soak" ∷ a ∷ b ∷ c ∷ [])
    ≡ Some (codes "soak", rows_after numbers_shape.rules [] (a ∷ b ∷ c ∷ []))
unfolding clap_on_literals
soak_entered a b c = refl

pub soak_found : (a b c : Text) → IsPlainWord a → IsPlainWord b → IsPlainWord c
    → subcommand_of program_app (codes "soak" ∷ a ∷ b ∷ c ∷ []) ≡ Some (codes "soak", numbers_rows a b c)
soak_found a b c p q r =
    soak_entered a b c
    ∙ ap (λ rows. Some (codes "soak", rows)) (rows_are numbers_shape (a ∷ b ∷ c ∷ []) (numbers_taken a b c p q r))

soak_level : (a b c : Text)
    → takes program_app (codes "soak" ∷ a ∷ b ∷ c ∷ [])
    ≡ (level_passes numbers_shape [] nothing_held (a ∷ b ∷ c ∷ []) false && true)
unfolding clap_on_literals
soak_level a b c = refl

pub soak_takes : (a b c : Text) → IsPlainWord a → IsPlainWord b → IsPlainWord c
    → takes program_app (codes "soak" ∷ a ∷ b ∷ c ∷ []) ≡ true
soak_takes a b c p q r =
    soak_level a b c
    ∙ ap (λ b. b && true)
    (level_passes_so numbers_shape (a ∷ b ∷ c ∷ []) (numbers_taken a b c p q r) refl)

pub numbers_seed : (a b c : Text) → one_of (codes "SEED") (numbers_rows a b c) ≡ Some a
numbers_seed a b c = refl

pub numbers_servers : (a b c : Text) → one_of (codes "SERVERS") (numbers_rows a b c) ≡ Some b
numbers_servers a b c = refl

pub numbers_events : (a b c : Text) → one_of (codes "EVENTS") (numbers_rows a b c) ≡ Some c
numbers_events a b c = refl

-- ---- a node

abbrev pub node_shape : Shape
node_shape = shape_in node_app.top

node_taken : (a b c d e : Text) → IsPlainWord a → IsPlainWord b → IsPlainWord c → IsPlainWord d → IsPlainWord e
    → AreTaken node_shape (walk_from nothing_held) (a ∷ b ∷ c ∷ d ∷ e ∷ [])
node_taken a b c d e p q r s t =
    (((refl, refl, refl), p, refl), (((refl, refl, refl), q, refl), (((refl, refl, refl), r, refl), (((refl, refl, refl), s, refl), (((refl, refl, refl), t, refl), tt)))))

-- the rows that clap makes of these words
abbrev pub node_rows : Text → Text → Text → Text → Text → List Row
node_rows a b c d e = finished node_shape.rules (behind_all node_shape (a ∷ b ∷ c ∷ d ∷ e ∷ []))

node_entered : (a b c d e : Text)
    → subcommand_of program_app (codes "node" ∷ a ∷ b ∷ c ∷ d ∷ e ∷ [])
    ≡ Some (codes "node", rows_after node_shape.rules [] (a ∷ b ∷ c ∷ d ∷ e ∷ []))
unfolding clap_on_literals
node_entered a b c d e = refl

pub node_found : (a b c d e : Text) → IsPlainWord a → IsPlainWord b → IsPlainWord c → IsPlainWord d → IsPlainWord e
    → subcommand_of program_app (codes "node" ∷ a ∷ b ∷ c ∷ d ∷ e ∷ []) ≡ Some (codes "node", node_rows a b c d e)
node_found a b c d e p q r s t =
    node_entered a b c d e
    ∙ ap (λ rows. Some (codes "node", rows)) (rows_are node_shape (a ∷ b ∷ c ∷ d ∷ e ∷ []) (node_taken a b c d e p q r s t))

node_level : (a b c d e : Text)
    → takes program_app (codes "node" ∷ a ∷ b ∷ c ∷ d ∷ e ∷ [])
    ≡ (level_passes node_shape [] nothing_held (a ∷ b ∷ c ∷ d ∷ e ∷ []) false && true)
unfolding clap_on_literals
node_level a b c d e = refl

pub node_takes : (a b c d e : Text) → IsPlainWord a → IsPlainWord b → IsPlainWord c → IsPlainWord d → IsPlainWord e
    → takes program_app (codes "node" ∷ a ∷ b ∷ c ∷ d ∷ e ∷ []) ≡ true
node_takes a b c d e p q r s t =
    node_level a b c d e
    ∙ ap (λ b. b && true)
    (level_passes_so node_shape (a ∷ b ∷ c ∷ d ∷ e ∷ []) (node_taken a b c d e p q r s t) refl)

pub node_server : (a b c d e : Text) → one_of (codes "SERVER") (node_rows a b c d e) ≡ Some a
node_server a b c d e = refl

pub node_servers : (a b c d e : Text) → one_of (codes "SERVERS") (node_rows a b c d e) ≡ Some b
node_servers a b c d e = refl

pub node_port : (a b c d e : Text) → one_of (codes "PORT") (node_rows a b c d e) ≡ Some c
node_port a b c d e = refl

pub node_name : (a b c d e : Text) → first_of (codes "NAME") (node_rows a b c d e) ≡ Some d
node_name a b c d e = refl

pub node_turns : (a b c d e : Text) → one_of (codes "TURNS") (node_rows a b c d e) ≡ Some e
node_turns a b c d e = refl

-- ---- a call

abbrev pub call_shape : Shape
call_shape = shape_in call_app.top

call_taken : (a b : Text) → IsPlainWord a → IsPlainWord b
    → AreTaken call_shape (walk_from nothing_held) (a ∷ b ∷ [])
call_taken a b p q =
    (((refl, refl, refl), p, refl), (((refl, refl, refl), q, refl), tt))

-- the rows that clap makes of these words
abbrev pub call_rows : Text → Text → List Row
call_rows a b = finished call_shape.rules (behind_all call_shape (a ∷ b ∷ []))

call_entered : (a b : Text)
    → subcommand_of program_app (codes "call" ∷ a ∷ b ∷ [])
    ≡ Some (codes "call", rows_after call_shape.rules [] (a ∷ b ∷ []))
unfolding clap_on_literals
call_entered a b = refl

pub call_found : (a b : Text) → IsPlainWord a → IsPlainWord b
    → subcommand_of program_app (codes "call" ∷ a ∷ b ∷ []) ≡ Some (codes "call", call_rows a b)
call_found a b p q =
    call_entered a b
    ∙ ap (λ rows. Some (codes "call", rows)) (rows_are call_shape (a ∷ b ∷ []) (call_taken a b p q))

call_level : (a b : Text)
    → takes program_app (codes "call" ∷ a ∷ b ∷ [])
    ≡ (level_passes call_shape [] nothing_held (a ∷ b ∷ []) false && true)
unfolding clap_on_literals
call_level a b = refl

pub call_takes : (a b : Text) → IsPlainWord a → IsPlainWord b
    → takes program_app (codes "call" ∷ a ∷ b ∷ []) ≡ true
call_takes a b p q =
    call_level a b
    ∙ ap (λ b. b && true)
    (level_passes_so call_shape (a ∷ b ∷ []) (call_taken a b p q) refl)

pub call_server : (a b : Text) → one_of (codes "SERVER") (call_rows a b) ≡ Some a
call_server a b = refl

pub call_port : (a b : Text) → one_of (codes "PORT") (call_rows a b) ≡ Some b
call_port a b = refl

-- ---- a replay

pub plain_found : option_map (λ p. one_of (codes "meters") p.1) (subcommand_of program_app (codes "replay" ∷ []))
    ≡ Some (Some (codes "false"))
unfolding clap_on_literals
plain_found = refl

pub plain_takes : takes program_app (codes "replay" ∷ []) ≡ true
unfolding clap_on_literals
plain_takes = refl

pub metered_found : option_map (λ p. one_of (codes "meters") p.1) (subcommand_of program_app (codes "replay" ∷ codes "--meters" ∷ []))
    ≡ Some (Some (codes "true"))
unfolding clap_on_literals
metered_found = refl

pub metered_takes : takes program_app (codes "replay" ∷ codes "--meters" ∷ []) ≡ true
unfolding clap_on_literals
metered_takes = refl
