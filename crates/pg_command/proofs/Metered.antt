-- What clap reads of the words of a replay.
use Rattle.std.proofs.Common.{◌≡◌, ◌∙◌, Bool, false, true, List, Option, Some, None, ap, codes, is_some, option_map, refl, sym}
use Rattle.clap.proofs.WalkLemmas.{one_text-rows}
use Rattle.clap.specs.Matches.{one_text}
use Rattle.clap.specs.Simple.{subcommand_of}
use Rattle.clap.specs.Takes.{takes}
use Rattle.clap.specs.Walk.{Row, Text, one_of, rows_of}
use Rattle.clap.specs.declared.parser.matches.Found.{Found}
use Rattle.pg_command.proofs.Rows.{metered_found, metered_takes, plain_found, plain_takes}
use Rattle.pg_command.specs.Program.{program_app}
use Rattle.pg_command.specs.Words.{command_words}
use Rattle.pg_command.specs.declared.command.Command.TheVariants.{Replay}

-- what clap writes of the flag
abbrev pub flag_text : Bool → Text
flag_text false = codes "false"
flag_text true = codes "true"

abbrev flag_in : Option (Text × List Row) → Option (Option Text)
flag_in = option_map (λ p. one_of (codes "meters") p.1)

pub metered_taken : (words : List Text) (m : Bool) → words ≡ command_words (Replay m)
    → takes program_app words ≡ true
metered_taken words false is = ap (takes program_app) is ∙ plain_takes
metered_taken words true is = ap (takes program_app) is ∙ metered_takes

flag_found : (words : List Text) (m : Bool) → words ≡ command_words (Replay m)
    → flag_in (subcommand_of program_app words) ≡ Some (Some (flag_text m))
flag_found words false is = ap (λ ws. flag_in (subcommand_of program_app ws)) is ∙ plain_found
flag_found words true is = ap (λ ws. flag_in (subcommand_of program_app ws)) is ∙ metered_found

flag_there : (found : Option (Text × List Row)) (here : List Row) (o : Option Text)
    → option_map (λ p. p.1) found ≡ Some here
    → flag_in found ≡ Some o
    → one_of (codes "meters") here ≡ o
flag_there None here o has at =
    let bad : ◌≡◌ {A = Option (Option Text)} None (Some o) = at in absurd cc
flag_there (Some p) here o has at =
    let e : Some p.1 ≡ Some here = has in
    let same : p.1 ≡ here = cc in
    let f : Some (one_of (codes "meters") p.1) ≡ Some o = at in
    let there : one_of (codes "meters") p.1 ≡ o = cc in
    ap (one_of (codes "meters")) (sym same) ∙ there

flag_named : (found : Option (Text × List Row)) (o : Option Text) → flag_in found ≡ Some o
    → is_some found ≡ true
flag_named None o at =
    let bad : ◌≡◌ {A = Option (Option Text)} None (Some o) = at in absurd cc
flag_named (Some p) o at = refl

-- they name the command
pub metered_named : (words : List Text) (m : Bool) → words ≡ command_words (Replay m)
    → is_some (subcommand_of program_app words) ≡ true
metered_named words m spelled =
    flag_named (subcommand_of program_app words) (Some (flag_text m)) (flag_found words m spelled)

flag_is : (m : Bool) (found : Found) (r : Bool)
    → one_text found (codes "meters") ≡ Some (flag_text m)
    → (one_text found (codes "meters") ≡ Some (codes "true") → r ≡ true)
    → (one_text found (codes "meters") ≡ Some (codes "false") → r ≡ false)
    → r ≡ m
flag_is false found r at on off = off at
flag_is true found r at on off = on at

-- the flag that is read is the one that the words have
pub metered_is : (words : List Text) (m : Bool) (here : Found) (r : Bool)
    → words ≡ command_words (Replay m)
    → option_map (λ p. p.1) (subcommand_of program_app words) ≡ Some (rows_of here)
    → (one_text here (codes "meters") ≡ Some (codes "true") → r ≡ true)
    → (one_text here (codes "meters") ≡ Some (codes "false") → r ≡ false)
    → r ≡ m
metered_is words m here r spelled has on off =
    flag_is m here r
    (one_text-rows here (codes "meters")
    ∙ flag_there (subcommand_of program_app words) (rows_of here) (Some (flag_text m)) has
    (flag_found words m spelled))
    on off
