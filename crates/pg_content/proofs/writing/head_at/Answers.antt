use Rattle.std.proofs.Common.{◌≡◌, ◌∙◌, ◌<◌, ap, sym, refl, length, Some, None, true, false, option_copied, arith}
use Rattle.std.specs.List.{slice_get}
use Rattle.std.proofs.lemmas.Bool.Decides.{nat_tests}
use Rattle.std.proofs.lemmas.Option.{slice_get_past, slice_get_read}
use Rattle.pg_base.specs.declared.head.Head.{Head}
use Rattle.pg_content.proofs.Stamps.{same_stamp, same_true}
use Rattle.pg_content.proofs.Heads.{head_found}
use Rattle.pg_content.proofs.writing.head_at.Goals as goal

pub returns-in_err-head : goal.returns-in_err-head
returns-in_err-head c =
    let vs = c.args.heads.now in
    let at = c.index_of.result in
    ap option_copied c.from_residual.ensures ∙ sym (head_found vs c.args.stamp at None c.requires c.index_of.ensures (sym (slice_get_past vs at c.in_err-head.ensures.lookup.3)))

pub returns-then-eq : goal.returns-then-eq
returns-then-eq c =
    let vs = c.args.heads.now in
    let v = c.in_ok-head.head.now in
    let at = c.index_of.result in
    let found = c.in_ok-head.ensures.lookup in
    let first = found.0 in
    let read : Some v ≡ slice_get vs at = sym (slice_get_read vs (length vs) at v refl (let lt : at < length vs = grind (arith, nat_tests) in lt) found.1) in
    let same = same_stamp c.head.result.now.stamp c.args.stamp (sym c.eq.ensures ∙ c.if-eq.true) in
    sym ((head_found vs c.args.stamp at (Some v) c.requires c.index_of.ensures read).0 (ap (λ (h : Head). h.stamp) (sym c.head.ensures.head) ∙ same))

pub returns-else-eq : goal.returns-else-eq
returns-else-eq c =
    let vs = c.args.heads.now in
    let v = c.in_ok-head.head.now in
    let at = c.index_of.result in
    let found = c.in_ok-head.ensures.lookup in
    let first = found.0 in
    let read : Some v ≡ slice_get vs at = sym (slice_get_read vs (length vs) at v refl (let lt : at < length vs = grind (arith, nat_tests) in lt) found.1) in
    sym ((head_found vs c.args.stamp at (Some v) c.requires c.index_of.ensures read).1 (λ same.
    (let z : true ≡ false = sym (same_true c.head.result.now.stamp c.args.stamp (ap (λ (h : Head). h.stamp) c.head.ensures.head ∙ same)) ∙ sym c.eq.ensures ∙ c.if-eq.false in cc)))
