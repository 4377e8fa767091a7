use Rattle.std.proofs.Common.{sym, ap, ◌∙◌, None, cond, Some, map}
use Rattle.std.specs.List.{fold}
use Rattle.pg_entries.specs.Shown.{lesser, take_claim}
use Rattle.pg_entries.specs.Names.{same_name}
use Rattle.pg_entries.proofs.Claims.{firsts_more}
use Rattle.pg_entries.proofs.entries.Entries.first_claims.Goals as goal

pub loop-entry-preserved-in_ok-insert : goal.loop-entry-preserved-in_ok-insert
loop-entry-preserved-in_ok-insert c q =
    let dir = c.args.dir in
    let r = c.in-Some.entry in
    let name = c.as_slice-name.result in
    let es = map (λ x. x.now) c.loop-entry.yielded in
    let first = c.lesser-first.ensures ∙ ap (λ o. lesser o c.of.result) (c.copied.ensures ∙ c.get.ensures.value ∙ c.loop-entry.invariant name ∙ ap (λ n. fold (take_claim dir n) None es) c.as_slice-name.ensures)
    ∙ ap (lesser (fold (take_claim dir r.now.place.name) None es)) c.of.ensures in
    firsts_more dir q.now c.loop-entry.yielded r c.lesser-first.result _ (sym c.is_listed.ensures ∙ c.if-is_listed.true) first
    (c.in_ok-insert.ensures.updates.0 q ∙ ap (λ o. cond (same_name name.now q.now) (Some c.lesser-first.result) o) (c.loop-entry.invariant q) ∙ ap (λ n. cond (same_name n q.now) (Some c.lesser-first.result) (fold (take_claim dir q.now) None es)) c.as_slice-name.ensures)
