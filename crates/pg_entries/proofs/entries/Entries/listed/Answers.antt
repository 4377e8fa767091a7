use Rattle.std.proofs.Common.{List, ap, ◌∙◌}
use Rattle.pg_base.specs.declared.id.FileId.{FileId}
use Rattle.pg_index.specs.Ids.{ids_at, is_one_of}
use Rattle.pg_entries.specs.declared.entry.Entry.{Entry}
use Rattle.pg_entries.specs.Entry.{entry_of}
use Rattle.pg_entries.proofs.Indexing.{rival_listed}
use Rattle.pg_entries.proofs.entries.Entries.listed.Goals as goal

pub returns : goal.returns
returns c child e there rival =
    let ids = c.as_slice.ensures.ids ∙ c.get.ensures ∙ ap (ids_at c.self.inside.named) c.slot_of.ensures in
    ap (is_one_of child) ids
    ∙ rival_listed c.self.inside.entries.entries c.self.inside.named c.args.dir c.args.name.now child e c.self.invariant.named (ap (λ (xs : List (FileId × Entry)). entry_of xs child) c.self.view_is ∙ there) rival
