use Rattle.std.proofs.Common.{rules, sym, ap, ◌∙◌, Some}
use Rattle.pg_base.specs.Id.{Fits, spelling}
use Rattle.pg_base.specs.declared.id.FileId.{FileId}
use Rattle.pg_base.proofs.Spellings.{spelling-same}
use Rattle.pg_entries.proofs.Tildes.{spelling-lacks}
use Rattle.pg_entries.proofs.tilde.id_behind.Goals as goal

pub returns-in-Ok : goal.returns-in-Ok
returns-in-Ok c = λ name id fits whole.
    let read : Fits c.in-Ok.id = record { server = search rules; number = search rules } in
    let same = c.behind_tildes.ensures name (spelling id) (spelling-lacks id fits) whole in
    ap (λ (x : FileId). Some x) (spelling-same c.in-Ok.id id read fits (sym c.in-Ok.ensures.found ∙ same))

pub returns-in-Err : goal.returns-in-Err
returns-in-Err c = λ name id fits whole.
    absurd (c.in-Err.ensures.refused id fits (c.behind_tildes.ensures name (spelling id) (spelling-lacks id fits) whole))
