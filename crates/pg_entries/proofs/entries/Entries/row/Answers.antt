use Rattle.std.proofs.Common.{◌≡◌, ◌++◌, sym, ap, ◌∙◌}
use Rattle.pg_register.specs.Place.{tilde_name}
use Rattle.pg_entries.specs.Shown.{first_claim, is_beaten, is_hidden}
use Rattle.pg_entries.proofs.Claims.{is_hidden-first, row_hidden, row_plain}
use Rattle.pg_entries.proofs.entries.Entries.row.Goals as goal
use Rattle.pg_entries.proofs.entries.Entries.row.Goals.{then-is_beaten+in_ok-name, else-is_beaten+in_ok-name-2}

pub returns : goal.returns
returns c =
    let e = c.args.entry.now in
    let es = c.args.self.now in
    let dir = c.args.dir in
    let name = c.as_slice-name.result in
    let first = c.copied.ensures ∙ c.get.ensures.value ∙ c.requires name ∙ ap (first_claim es dir) c.as_slice-name.ensures in
    let hidden : is_hidden c.args.self.now c.args.dir c.args.entry.now ≡ c.is_beaten.result =
    is_hidden-first es dir e ∙ sym (c.is_beaten.ensures ∙ ap (λ o. is_beaten o c.of.result) first ∙ ap (is_beaten (first_claim es dir e.place.name)) c.of.ensures) in
    elim c.if-is_beaten.branch [
      | then-is_beaten+in_ok-name w ↦ row_hidden es dir e c.if-is_beaten.name (hidden ∙ w.if-is_beaten.true) (w.name-is ∙ w.in_ok-name.ensures ∙ ap (λ n. n ++ tilde_name e.child) c.as_slice-name.ensures)
      | else-is_beaten+in_ok-name-2 w ↦ row_plain es dir e c.if-is_beaten.name (hidden ∙ w.if-is_beaten.false) (w.name-is ∙ w.in_ok-name-2.ensures)
    ]
