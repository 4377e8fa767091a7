use Rattle.std.proofs.Common.{ap, sym, ◌≡◌, ◌∙◌, length, arith}
use Rattle.std.proofs.Math.Dec.{leb}
use Rattle.pg_edges.specs.Edges.{are_clean}
use Rattle.pg_edges.proofs.Cleaning.{clean_by_first}
use Rattle.pg_edges.proofs.edges.Edges.are_clean.Goals as goal

pub returns : goal.returns
returns c =
    let es = c.deref.result.now in
    let count : c.len.result ≡ length es = omega (arith, c.len.ensures, c.deref.ensures.len) in
    let first = c.first_unclean.ensures in
    clean_by_first es c.first_unclean.result (leb c.len.result c.first_unclean.result) (ap (λ n. leb n c.first_unclean.result) (sym count)) first.before first.first
    ∙ ap are_clean (c.deref.ensures.value ∙ c.self.view_is)
