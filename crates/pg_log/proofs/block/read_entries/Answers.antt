use Rattle.std.proofs.Common.{◌∙◌, ◌++◌, ◌∷◌, [], ap, inr, refl, List, ℕ}
use Rattle.pg_log.proofs.Entries.{read_more, count_read, bad_read}
use Rattle.pg_log.proofs.block.read_entries.Goals as goal

pub loop-entry-preserved : goal.loop-entry-preserved
loop-entry-preserved c =
    let so_far = c.loop-entry.invariant in
    let begins = rw c.in-Ok-Some.field-0-is at c.in-Ok-Some.ensures.ok in
    let pushed = c.in_ok-push-in-Ok-Some.ensures.ok ∙ ap (λ (e : List ℕ). c.loop-entry.entries ++ e ∷ []) c.in_ok-from_slice-in-Ok-Some.ensures in
    let more = read_more c.args.file.now c.loop-entry.rest.now c.in-Ok-Some.entry.now c.loop-entry.entries c.push.new.self so_far.fit so_far.read begins pushed in
    record { fit = more.fit; read = more.read }

pub returns-in-Ok-None-clause-ok : goal.returns-in-Ok-None-clause-ok
returns-in-Ok-None-clause-ok c =
    let so_far = c.loop-entry.invariant in
    let end = rw c.in-Ok-None.field-0-is at c.in-Ok-None.ensures.ok in
    (so_far.fit, count_read c.args.file.now c.loop-entry.rest.now c.loop-entry.entries so_far.read, (c.loop-entry.rest.now, so_far.read, end))

pub returns-in-Err-clause-err : goal.returns-in-Err-clause-err
returns-in-Err-clause-err c =
    let so_far = c.loop-entry.invariant in
    inr (_, refl, bad_read c.args.file.now c.loop-entry.rest.now c.loop-entry.entries c.in-Err.place so_far.fit c.requires so_far.read c.in-Err.ensures.err)
