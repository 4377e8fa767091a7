-- What the writes of the program are in the definitions. R is the derived order of ids, which is
-- theirs.
use Rattle.std.proofs.Common.{◌≡◌, ℕ, Bool, List, Some, None, sym, ap, ◌∙◌, subst}
use Rattle.std.specs.declared.cmp.Ordering.{Ordering}
use Rattle.std.specs.Map.{lookup, set_value}
use Rattle.std.specs.BTreeMap.{is_at, insert_entry}
use Rattle.std.proofs.lemmas.Map.Steps.{set_value_same}
use Rattle.pg_base.specs.declared.id.FileId.{FileId}
use Rattle.pg_base.specs.Id.{file_cmp}
use Rattle.pg_names.specs.declared.attributes.Attributes.{Attributes}
use Rattle.pg_names.specs.Names.{InodeValue, NamesValue, begin, changed, known, new_held, own_at, own_of, update, with_held}

abbrev pub Order : Type 0
Order = FileId → FileId → Ordering

-- the names of a server's parts
abbrev pub names_of : ℕ → ℕ → List ℕ → List (FileId × InodeValue) → NamesValue
names_of server last removed es = record { server = server; last = last; removed = removed; held = es }

-- what is held of a thing is written
pub held_put : (R : Order) → R ≡ file_cmp → (server last : ℕ) (removed : List ℕ) (es fs : List (FileId × InodeValue)) (file : FileId) (x : InodeValue) → fs ≡ set_value (is_at (R file)) es x → names_of server last removed fs ≡ with_held (names_of server last removed es) file x
held_put R same server last removed es fs file x h = ap (names_of server last removed) (subst (λ (r : Order). fs ≡ set_value (is_at (r file)) es x) same h)

-- what was found is written again
pub same_put : (R : Order) → R ≡ file_cmp → (server last : ℕ) (removed : List ℕ) (es fs : List (FileId × InodeValue)) (file : FileId) (x y : InodeValue) → lookup (is_at (R file)) es ≡ Some x → y ≡ x → fs ≡ set_value (is_at (R file)) es y
    → names_of server last removed fs ≡ names_of server last removed es
same_put R order server last removed es fs file x y there same set =
    ap (names_of server last removed) (set ∙ ap (set_value (is_at (R file)) es) same ∙ set_value_same (is_at (R file)) es x there)

found : (R : Order) → R ≡ file_cmp → (es : List (FileId × InodeValue)) (file : FileId) (x : InodeValue) → lookup (is_at (R file)) es ≡ Some x → lookup (is_at (file_cmp file)) es ≡ Some x
found R same es file x h = subst (λ (r : Order). lookup (is_at (r file)) es ≡ Some x) same h

-- and stood there before
pub update_there : (R : Order) → R ≡ file_cmp → (s t : NamesValue) (file : FileId) (change : InodeValue → InodeValue) (x y : InodeValue) → lookup (is_at (R file)) s.held ≡ Some x → y ≡ change x → t ≡ with_held s file y → t ≡ update s file change
update_there R same s t file change x y there new h = h ∙ ap (with_held s file) new ∙ sym (ap (changed s file change) (found R same s.held file x there))

-- where it did not stand there, nothing changes
pub update_absent : (R : Order) → R ≡ file_cmp → (s : NamesValue) (file : FileId) (change : InodeValue → InodeValue) → lookup (is_at (R file)) s.held ≡ None → s ≡ update s file change
update_absent R same s file change h = sym (ap (changed s file change) (subst (λ (r : Order). lookup (is_at (r file)) s.held ≡ None) same h))

-- one thing more is held
pub new_put : (R : Order) → R ≡ file_cmp → (server last : ℕ) (removed : List ℕ) (es fs : List (FileId × InodeValue)) (file : FileId) (own : Attributes) (full : Bool) (x : InodeValue) → x ≡ new_held own full → fs ≡ insert_entry R es file x → names_of server last removed fs ≡ begin (names_of server last removed es) file own full
new_put R same server last removed es fs file own full x is h =
    ap (names_of server last removed) (subst (λ (r : Order). fs ≡ insert_entry r es file x) same h ∙ ap (insert_entry file_cmp es file) is)

-- what was found there
pub known_found : (R : Order) → R ≡ file_cmp → (s : NamesValue) (file : FileId) (x : InodeValue) → lookup (is_at (R file)) s.held ≡ Some x → known s file ≡ Some x
known_found R same s file x h = found R same s.held file x h

pub own_found : (R : Order) → R ≡ file_cmp → (s : NamesValue) (file : FileId) (x : InodeValue) → lookup (is_at (R file)) s.held ≡ Some x → own_at s file ≡ Some x.own
own_found R same s file x h = ap own_of (found R same s.held file x h)

pub known_absent : (R : Order) → R ≡ file_cmp → (s : NamesValue) (file : FileId) → lookup (is_at (R file)) s.held ≡ None → known s file ≡ None
known_absent R same s file h = subst (λ (r : Order). lookup (is_at (r file)) s.held ≡ None) same h
