use Rattle.std.proofs.Common.{ap, ◌∙◌, option_map}
use Rattle.pg_entries.specs.declared.claim.Claim.{Claim}
use Rattle.pg_entries.specs.Shown.{first_claim}
use Rattle.pg_entries.specs.Slots.{lesser_of, shown_by}
use Rattle.pg_entries.proofs.Finding.{find_is}
use Rattle.pg_entries.proofs.entries.Entries.find.Goals as goal

pub returns : goal.returns
returns c =
    let es = c.args.self.now in
    let dir = c.args.dir in
    let shown = c.args.shown.now in
    let plain = c.showing-plain.ensures ∙ ap (shown_by es dir shown) (c.claimant.ensures ∙ ap (option_map (λ (x : Claim). x.child)) c.first_claim-first.ensures) in
    c.lesser_id.ensures
    ∙ ap (λ a. lesser_of a c.showing-tilde.result) plain
    ∙ ap (lesser_of (shown_by es dir shown (option_map (λ (x : Claim). x.child) (first_claim es dir shown)))) c.showing-tilde.ensures
    ∙ find_is es dir shown c.id_behind.result c.keeps.ensures.by_child c.keeps.ensures.fit c.id_behind.ensures
