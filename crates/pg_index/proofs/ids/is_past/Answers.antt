use Rattle.std.proofs.Common.{ap, arith, length, ◌+◌, ◌-◌, ◌≡◌, ◌∙◌, sym}
use Rattle.std.proofs.lemmas.List.{get_or_default}
use Rattle.pg_base.specs.declared.id.FileId.{FileId}
use Rattle.pg_base.specs.Id.{file_cmp}
use Rattle.pg_index.proofs.Searching.{is_less, past_last, past_none}
use Rattle.pg_index.proofs.ids.is_past.Goals as goal

pub returns-then-count-eq0 : goal.returns-then-count-eq0
returns-then-count-eq0 c = λ t. past_none c.args.ids.now c.args.file.now c.requires c.if-count-eq0.true

pub returns : goal.returns
returns c = λ t.
    let ids = c.args.ids.now in
    let last = length ids - 1 in
    let some : last + 1 ≡ length ids = (let n = c.if-count-eq0.false in omega arith) in
    past_last ids c.args.file.now last c.requires some
    (λ d. ap (λ (x : FileId). file_cmp x c.args.file.now) (get_or_default ids last d _ (omega arith)) ∙ sym c.compare.ensures ∙ is_less _ (sym c.is_lt.ensures ∙ t))
