use Rattle.std.proofs.Common.{List, option_map, slice_get, ap, ◌∙◌}
use Rattle.std.specs.Map.{values_of}
use Rattle.std.proofs.lemmas.Iterator.Consumers.{YieldsList-from_rest, nth_from_yields_List}
use Rattle.std.proofs.lemmas.Option.{slice_get-map}
use Rattle.pg_base.specs.declared.id.FileId.{FileId}
use Rattle.pg_entries.specs.declared.entry.Entry.{Entry}
use Rattle.pg_entries.proofs.entries.Entries.at.Goals as goal

pub returns-clause-entry : goal.returns-clause-entry
returns-clause-entry c =
    let es = c.self.inside.entries.entries in
    let k = c.args.k in
    nth_from_yields_List c.nth.result c.nth.new.self k c.nth.ensures.ran (YieldsList-from_rest (values_of es) c.values.ensures.rest)
    ∙ slice_get-map (λ (e : FileId × Entry). e.1) es k
    ∙ ap (λ (xs : List (FileId × Entry)). option_map (λ (e : FileId × Entry). e.1) (slice_get xs k)) c.self.view_is
