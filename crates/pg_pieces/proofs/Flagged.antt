-- Flags that a thing takes, one after another.
use Rattle.std.proofs.Common.{◌≡◌, ℕ, ◌+◌, ◌<◌, drop, get_or, length, List, sym, ap, ◌∙◌}
use Rattle.std.proofs.lemmas.List.{at_drop_more}
use Rattle.pg_base.specs.declared.id.FileId.{FileId}
use Rattle.pg_register.specs.declared.flag.Flag.{Flag}
use Rattle.pg_store.specs.pg_house.pg_msg.declared.work.Work.{Work}
use Rattle.pg_store.specs.declared.store.Store.{Store}
use Rattle.pg_pieces.specs.Done.{Done}
use Rattle.pg_pieces.specs.Taking.{take_flag_noted, take_flags_noted}

-- one more
pub one_flag : (s t : Store) (v w : Work) (file : FileId) (flags : List Flag) (i : ℕ) (d : Flag) (r : Done) → i < length flags
    → t ≡ (take_flag_noted s file (get_or flags i d) v).store
    → w ≡ (take_flag_noted s file (get_or flags i d) v).work
    → take_flags_noted s file (drop i flags) v ≡ r
    → take_flags_noted t file (drop (i + 1) flags) w ≡ r
one_flag s t v w file flags i d r lt store work left =
    let rest = drop (i + 1) flags in
    ap (λ (x : Store). take_flags_noted x file rest w) store
    ∙ ap (λ (x : Work). take_flags_noted (take_flag_noted s file (get_or flags i d) v).store file rest x) work
    ∙ sym (at_drop_more (λ (fs : List Flag). take_flags_noted s file fs v) flags i d lt) ∙ left
