use Rattle.std.proofs.Common.{ℕ, List, map, subst, sym}
use Rattle.std.specs.String.{string_bytes}
use Rattle.pg_command.proofs.Commands.{no_fault_of_node}
use Rattle.pg_command.proofs.Readings.{no_memory_fault}
use Rattle.pg_command.proofs.node.node_of.Goals as goal
use Rattle.pg_command.specs.Words.{IsFaultOfNode}

pub returns-in_err-node-clause-memory : goal.returns-in_err-node-clause-memory
returns-in_err-node-clause-memory c =
    let n = c.in-Ok.node in
    no_memory_fault (λ k. IsFaultOfNode (map string_bytes c.args.words.now) k) _
    (λ k f.
    let P : List (List ℕ) → Type 0 = λ ws. IsFaultOfNode ws k in
    no_fault_of_node n.server n.servers n.port n.name.now n.turns k c.in-Ok.ensures.fits (subst P (sym c.in-Ok.ensures.found) f))

pub returns-in_err-name-clause-memory : goal.returns-in_err-name-clause-memory
returns-in_err-name-clause-memory c =
    let n = c.in-Ok.node in
    no_memory_fault (λ k. IsFaultOfNode (map string_bytes c.args.words.now) k) _
    (λ k f.
    let P : List (List ℕ) → Type 0 = λ ws. IsFaultOfNode ws k in
    no_fault_of_node n.server n.servers n.port n.name.now n.turns k c.in-Ok.ensures.fits (subst P (sym c.in-Ok.ensures.found) f))
