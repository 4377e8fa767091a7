-- What comes to the files that are to be filled. R is the derived order of ids, which is theirs.
use Rattle.std.proofs.Common.{◌≡◌, ℕ, Bool, true, false, cond, is_some, sym, ap, ◌∙◌}
use Rattle.std.specs.declared.cmp.Ordering.{Ordering}
use Rattle.std.specs.BTreeMap.{insert_entry, is_at}
use Rattle.std.specs.Map.{lookup}
use Rattle.pg_base.specs.declared.id.FileId.{FileId}
use Rattle.pg_base.specs.Id.{file_cmp}
use Rattle.pg_graph.specs.pg_intent.declared.intent.Intent.{Intent}
use Rattle.pg_graph.specs.pg_intent.declared.intent.Intent.TheVariants as intent
use Rattle.pg_graph.specs.pg_msg.declared.work.Work.{Work}
use Rattle.pg_graph.specs.pg_names.declared.attributes.Attributes.{Attributes}
use Rattle.pg_graph.specs.pg_names.Names.{InodeValue, NamesValue}
use Rattle.pg_graph.specs.pg_replica.Index.{Files}
use Rattle.pg_graph.specs.pg_store.declared.store.Store.{Store}
use Rattle.pg_graph.specs.pg_store.Births.{fill_at}
use Rattle.pg_graph.specs.pg_store.Servers.{first_target}
use Rattle.pg_graph.specs.pg_pieces.Done.{Done, idle}
use Rattle.pg_intentions.specs.Beginning.{still_stands}
use Rattle.pg_intentions.specs.Fills.{begin_fill, fill_birth, fill_of, lacks_parent, with_fill_birth, with_filling, with_parent}
use Rattle.pg_intentions.specs.Intending.{begin_intent}

-- a thing that is not full
pub filling_comes : (R : FileId → FileId → Ordering) → R ≡ file_cmp → (files new : Files) (file : FileId) (x : InodeValue) (t : Bool)
    → t ≡ x.full → t ≡ false → new ≡ insert_entry R files file tt → new ≡ with_filling files file x
filling_comes R same files new file x t is filling made =
    made ∙ ap (λ (r : FileId → FileId → Ordering). insert_entry r files file tt) same
    ∙ sym (ap (λ (b : Bool). cond b files (insert_entry file_cmp files file tt)) (sym is ∙ filling))

-- a parent that is not held
pub parent_comes : (R : FileId → FileId → Ordering) → R ≡ file_cmp → (s : NamesValue) (files new : Files) (file : FileId) (x : InodeValue) (own : Attributes) (t : Bool)
    → t ≡ lacks_parent s file x → t ≡ true → own ≡ x.own → new ≡ insert_entry R files own.place.parent tt → new ≡ with_parent s files file x
parent_comes R same s files new file x own t is lacks held made =
    made ∙ ap (λ (r : FileId → FileId → Ordering). insert_entry r files own.place.parent tt) same
    ∙ ap (λ (o : Attributes). insert_entry file_cmp files o.place.parent tt) held
    ∙ sym (ap (λ (b : Bool). cond b (insert_entry file_cmp files x.own.place.parent tt) files) (sym is ∙ lacks))

-- a Fill stands while its thing is to be filled
pub fill_stays : (R : FileId → FileId → Ordering) → R ≡ file_cmp → (store : Store) (files : Files) (i : Intent) (file : FileId) (birth target : ℕ) (r : Bool)
    → i ≡ intent.Fill file birth target → r ≡ is_some (lookup (is_at (R file)) files) → r ≡ still_stands store files i
fill_stays R same store files i file birth target r at is =
    is ∙ ap (λ (o : FileId → FileId → Ordering). is_some (lookup (is_at (o file)) files)) same
    ∙ sym (ap (λ (j : Intent). still_stands store files j) at)

-- a Fill that begins. Its birth is decided first, then the server that is asked
pub fill_comes : (s t u : Store) (file : FileId) (w : Work) (has : Bool) (birth target : ℕ) → has ≡ is_some (fill_at s file) → has ≡ false
    → birth ≡ fill_birth s file → t ≡ with_fill_birth s file → target ≡ first_target t w.from
    → u ≡ (begin_intent t (intent.Fill file birth target) w).store → u ≡ (begin_fill s file w).store
fill_comes s t u file w has birth target is none born store asked made =
    let begins : Done = begin_intent (with_fill_birth s file) (fill_of s file w) w in
    made
    ∙ ap (λ (n : ℕ). (begin_intent t (intent.Fill file birth n) w).store) asked
    ∙ ap (λ (n : ℕ). (begin_intent t (intent.Fill file n (first_target t w.from)) w).store) born
    ∙ ap (λ (a : Store). (begin_intent a (intent.Fill file (fill_birth s file) (first_target a w.from)) w).store) store
    ∙ sym (ap (λ (b : Bool). (cond b (idle s w) begins).store) (sym is ∙ none))
