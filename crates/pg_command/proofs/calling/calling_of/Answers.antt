use Rattle.std.proofs.Common.{ℕ, ◌∙◌, ◌∷◌, List, ap, codes, decimal, map, subst, sym}
use Rattle.std.proofs.lemmas.List.{length-take-le}
use Rattle.std.specs.String.{string_bytes}
use Rattle.pg_command.proofs.Commands.{no_fault_of_call}
use Rattle.pg_command.proofs.Readings.{no_memory_fault}
use Rattle.pg_command.proofs.Taken.{first_three}
use Rattle.pg_command.proofs.calling.calling_of.Goals as goal
use Rattle.pg_command.specs.Words.{IsFaultOfCall, asked_word}

pub slice_bounds-named-end : goal.slice_bounds-named-end
slice_bounds-named-end c =
    let call = c.in-Ok.call in
    sym (length-take-le 3 c.args.all.now
    (first_three c.args.all.now (codes "call") (decimal call.server) (decimal call.port)
    (asked_word call.asked ∷ map string_bytes call.arguments.now)
    (c.requires ∙ ap (λ ws. codes "call" ∷ ws) c.in-Ok.ensures.found)).0)

pub target_read-requires : goal.target_read-requires
target_read-requires c =
    let call = c.in-Ok.call in
    (first_three c.args.all.now (codes "call") (decimal call.server) (decimal call.port)
    (asked_word call.asked ∷ map string_bytes call.arguments.now)
    (c.requires ∙ ap (λ ws. codes "call" ∷ ws) c.in-Ok.ensures.found)).1

pub returns-in_err-server-clause-memory : goal.returns-in_err-server-clause-memory
returns-in_err-server-clause-memory c =
    let call = c.in-Ok.call in
    let words = map string_bytes c.args.words.now in
    no_memory_fault (λ k. IsFaultOfCall words k) _
    (λ k f.
    let P : List (List ℕ) → Type 0 = λ ws. IsFaultOfCall ws k in
    no_fault_of_call call.server call.port call.asked (map string_bytes call.arguments.now) k
    c.in-Ok.ensures.server c.in-Ok.ensures.port c.in-Ok.ensures.fits (subst P c.in-Ok.ensures.found f))
