-- Things that become gold, one after another.
use Rattle.std.proofs.Common.{◌≡◌, ℕ, ◌+◌, ◌<◌, drop, get_or, length, List, sym, ap, ◌∙◌}
use Rattle.std.proofs.lemmas.List.{at_drop_more}
use Rattle.pg_base.specs.declared.id.FileId.{FileId}
use Rattle.pg_pieces.specs.pg_msg.declared.work.Work.{Work}
use Rattle.pg_pieces.specs.pg_store.declared.store.Store.{Store}
use Rattle.pg_pieces.specs.Done.{Done, idle}
use Rattle.pg_cells.specs.Settling.{raise_gold, raise_golds}

-- one more
pub one_gold : (s t : Store) (v w : Work) (files : List FileId) (i : ℕ) (f : FileId) (r : Done) → i < length files
    → t ≡ (raise_gold s (get_or files i f) v).store → w ≡ (raise_gold s (get_or files i f) v).work
    → raise_golds (drop i files) (idle s v) ≡ r → raise_golds (drop (i + 1) files) (idle t w) ≡ r
one_gold s t v w files i f r lt store work left =
    let rest = drop (i + 1) files in
    ap (λ (x : Store). raise_golds rest (idle x w)) store
    ∙ ap (λ (x : Work). raise_golds rest (idle (raise_gold s (get_or files i f) v).store x)) work
    ∙ sym (at_drop_more (λ (fs : List FileId). raise_golds fs (idle s v)) files i f lt) ∙ left
