use Rattle.std.proofs.Common.{rules, ◌≡◌, ◌∙◌, sym, count_by}
use Rattle.std.proofs.lemmas.List.Sums.{length-filter}
use Rattle.pg_graph.specs.Walks.{edges_of, is_onward}
use Rattle.pg_graph.proofs.walks.onward_count_of.Goals as goal

pub returns-in-Some : goal.returns-in-Some
returns-in-Some c =
    let edges = edges_of c.args.store.now c.args.file.now in
    let count : c.onward_count.result ≡ count_by (is_onward c.args.from c.args.origin) edges = search rules in
    count ∙ sym (length-filter (is_onward c.args.from c.args.origin) edges)
