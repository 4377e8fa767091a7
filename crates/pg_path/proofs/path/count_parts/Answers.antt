use Rattle.std.proofs.Common.{rules, ◌≡◌, ◌+◌, ◌==◌, sym, ap, ◌∙◌, count_by}
use Rattle.std.proofs.lemmas.List.Splits.{length-slice_split}
use Rattle.pg_path.proofs.path.count_parts.Goals as goal

pub returns : goal.returns
returns c =
    let n : c.count.result ≡ count_by (λ b. b == 47) c.args.text.now = search rules in
    ap (λ k. k + 1) n ∙ sym (length-slice_split (λ b. b == 47) c.args.text.now)
