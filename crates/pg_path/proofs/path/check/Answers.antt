use Rattle.std.proofs.Common.{rules, arith, ◌≡◌, ◌+◌, ◌<◌, ◌≤◌, ap, length, ℕ, Result, Err, subst, slice_index}
use Rattle.pg_path.specs.declared.error.BadPath.{BadPath}
use Rattle.pg_path.specs.declared.error.BadPath.TheVariants.{BadName}
use Rattle.pg_path.specs.Path.{cut_at_slashes as cut, HasBadName}
use Rattle.pg_path.proofs.Paths.{is_path, has_bad, one_bad, behind}
use Rattle.pg_path.proofs.path.check.Goals as goal

same_bad : {A : Type 0} (a b : ℕ) → a ≡ b → ◌≡◌ {A = Result A BadPath} (Err (BadName a)) (Err (BadName b))
same_bad a b e = ap (λ n. Err (BadName n)) e

which_bad : {A : Type 0} (a b : ℕ) → ◌≡◌ {A = Result A BadPath} (Err (BadName a)) (Err (BadName b)) → a ≡ b
which_bad a b e = cc

pub returns-in-Some-clause-bad : goal.returns-in-Some-clause-bad
returns-in-Some-clause-bad c component =
    let slash : slice_index c.args.text.now 0 ≡ 47 = search rules in
    let some : 1 < length c.args.text.now = search rules in
    let few : c.count_parts.result ≡ length (cut (behind c.args.text.now)) = c.count_parts.ensures in
    let h : HasBadName c.args.text.now (c.in-Some.index + 1) = has_bad c.args.text.now c.in-Some.index slash some (search rules) (omega arith) (search rules) in
    let P : ℕ → Type 0 = λ n. HasBadName c.args.text.now n in
    (λ e. subst P (which_bad _ _ e) h, λ k. same_bad _ _ (one_bad c.args.text.now _ _ h k))

pub returns-in-None-clause-found : goal.returns-in-None-clause-found
returns-in-None-clause-found c =
    let slash : slice_index c.args.text.now 0 ≡ 47 = search rules in
    let some : 1 < length c.args.text.now = search rules in
    let short : length c.args.text.now ≤ 4096 = search rules in
    let few : c.count_parts.result ≡ length (cut (behind c.args.text.now)) = c.count_parts.ensures in
    let p = is_path c.args.text.now slash some short (omega arith) (search rules) in
    (short, p.0, p.1)
