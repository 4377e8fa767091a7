-- The store that is made of parts whose things stand in the order of their ids.
use Rattle.std.proofs.Common.{◌≡◌, ℕ, max, Bool, true, cond, List, [], ◌∷◌, ◌++◌, map, Option, None, Some, Greater, refl, sym, ap, ◌∙◌, append_assoc}
use Rattle.std.specs.Ordering.{is_eq}
use Rattle.std.specs.Cmp.{tied_itself}
use Rattle.std.specs.List.{AllByRecursion}
use Rattle.std.specs.Map.{lookup, set_value}
use Rattle.std.specs.BTreeMap.{insert_entry, is_at}
use Rattle.std.proofs.Math.Nat.{zero-max}
use Rattle.std.proofs.lemmas.List.{append-nil}
use Rattle.pg_base.specs.Id.{file_cmp}
use Rattle.pg_base.specs.declared.id.FileId.{FileId}
use Rattle.pg_base.proofs.Orders.{file_total}
use Rattle.pg_entries.specs.declared.entry.Entry.{Entry}
use Rattle.pg_names.specs.Names.{InodeValue, NamesValue, changed, new_held, new_names, raise, remove_server, set_entry, with_entry}
use Rattle.pg_names.specs.declared.attributes.Attributes.{Attributes}
use Rattle.pg_replica.specs.Replicas.{ByFile}
use Rattle.pg_replica.specs.declared.replica.Replica.{Replica}
use Rattle.pg_state_read.specs.Built.{at_child, inode_of, named, plain_store, replicated}
use Rattle.pg_state_fields.specs.Orders.{is_behind}
use Rattle.pg_state_read.specs.Whole.{AreParts, first_names, store_with, with_all_held, with_entries, with_held, with_removed, with_replicas}
use Rattle.pg_state_read.specs.declared.parts.Parts.{Parts}
use Rattle.pg_state_read.specs.declared.parts.Servers.{Servers}
use Rattle.pg_state_fields.specs.declared.replicas.Held.{Held}
use Rattle.pg_state_fields.proofs.Lasts.{Up, insert_last, none_up, up_more}
use Rattle.pg_state_read.proofs.Rows.{AreChildren, AreRows, rows_of}

-- ---- replicas

made_replicas : (last : Option FileId) (rs : ByFile) (hs : List Held) → Up file_cmp last rs → AreRows last hs
    → with_replicas rs hs ≡ rs ++ map replicated hs
made_replicas last rs [] up row = sym (append-nil rs)
made_replicas last rs (h ∷ hs) up row =
    ap (λ (xs : ByFile). with_replicas xs hs) (insert_last file_cmp h.file h.replica rs (up h.file row.0))
    ∙ made_replicas (Some h.file) (rs ++ replicated h ∷ []) hs (up_more file_cmp file_total last h.file h.replica rs up row.0) row.1.1
    ∙ append_assoc rs (replicated h ∷ []) (map replicated hs)

-- ---- names

abbrev names_with : NamesValue → List (FileId × InodeValue) → NamesValue
names_with n held = record { server = n.server; last = n.last; removed = n.removed; held = held }

abbrev Behind : FileId → List (FileId × InodeValue) → Type 0
Behind file held = AllByRecursion (λ (q : FileId × InodeValue). file_cmp file q.0 ≡ Greater) held

at_itself : (file : FileId) → is_at (file_cmp file) file ≡ true
at_itself file = ap is_eq (tied_itself file_total file)

pub found_in : {X : Type 0} (file : FileId) (x : X) (front back : List (FileId × X)) → AllByRecursion (λ (q : FileId × X). file_cmp file q.0 ≡ Greater) front
    → lookup (is_at (file_cmp file)) (front ++ (file, x) ∷ back) ≡ Some x
found_in file x [] back behind = ap (λ (t : Bool). cond t (Some x) (lookup (is_at (file_cmp file)) back)) (at_itself file)
found_in file x (q ∷ qs) back behind =
    ap (λ o. cond (is_eq o) (Some q.1) (lookup (is_at (file_cmp file)) (qs ++ (file, x) ∷ back))) behind.0 ∙ found_in file x qs back behind.1

set_last : (file : FileId) (x y : InodeValue) (held : List (FileId × InodeValue)) → Behind file held
    → set_value (is_at (file_cmp file)) (held ++ (file, x) ∷ []) y ≡ held ++ (file, y) ∷ []
set_last file x y [] behind = ap (λ (t : Bool). cond t ((file, y) ∷ []) ((file, x) ∷ [])) (at_itself file)
set_last file x y (q ∷ qs) behind =
    ap (λ o. cond (is_eq o) ((q.0, y) ∷ (qs ++ (file, x) ∷ [])) (q ∷ set_value (is_at (file_cmp file)) (qs ++ (file, x) ∷ []) y)) behind.0
    ∙ ap (λ (es : List (FileId × InodeValue)). q ∷ es) (set_last file x y qs behind.1)

abbrev inode : Bool → Attributes → List (FileId × Entry) → InodeValue
inode full own entries = record { full = full; own = own; entries = entries }

one_entry : (n : NamesValue) (file : FileId) (full : Bool) (own : Attributes) (entries : List (FileId × Entry)) (e : Entry) (held : List (FileId × InodeValue)) → Behind file held
    → set_entry (names_with n (held ++ (file, inode full own entries) ∷ [])) file e
    ≡ names_with n (held ++ (file, inode full own (insert_entry file_cmp entries e.child e)) ∷ [])
one_entry n file full own entries e held behind =
    let x : InodeValue = inode full own entries in
    let names : NamesValue = names_with n (held ++ (file, x) ∷ []) in
    ap (λ (o : Option InodeValue). changed names file (with_entry e) o) (found_in file x held [] behind)
    ∙ ap (λ (es : List (FileId × InodeValue)). names_with n es) (set_last file x (with_entry e x) held behind)

made_entries : (n : NamesValue) (file : FileId) (full : Bool) (own : Attributes) (held : List (FileId × InodeValue)) → Behind file held
    → (last : Option FileId) (entries : List (FileId × Entry)) (es : List Entry) → Up file_cmp last entries → AreChildren last es
    → with_entries file (names_with n (held ++ (file, inode full own entries) ∷ [])) es
    ≡ names_with n (held ++ (file, inode full own (entries ++ map at_child es)) ∷ [])
made_entries n file full own held behind last entries [] up row =
    ap (λ (xs : List (FileId × Entry)). names_with n (held ++ (file, inode full own xs) ∷ [])) (sym (append-nil entries))
made_entries n file full own held behind last entries (e ∷ es) up row =
    let put = insert_last file_cmp e.child e entries (up e.child row.0) in
    ap (λ (names : NamesValue). with_entries file names es) (one_entry n file full own entries e held behind
    ∙ ap (λ (xs : List (FileId × Entry)). names_with n (held ++ (file, inode full own xs) ∷ [])) put)
    ∙ made_entries n file full own held behind (Some e.child) (entries ++ at_child e ∷ []) es (up_more file_cmp file_total last e.child e entries up row.0) row.1
    ∙ ap (λ (xs : List (FileId × Entry)). names_with n (held ++ (file, inode full own xs) ∷ [])) (append_assoc entries (at_child e ∷ []) (map at_child es))

one_held : (n : NamesValue) (last : Option FileId) (held : List (FileId × InodeValue)) (h : Held) → Up file_cmp last held → is_behind file_cmp last h.file ≡ true → AreChildren None h.entries
    → with_held (names_with n held) h ≡ names_with n (held ++ named h ∷ [])
one_held n last held h up behind children =
    let put = insert_last file_cmp h.file (new_held h.own h.full) held (up h.file behind) in
    ap (λ (es : List (FileId × InodeValue)). with_entries h.file (names_with n es) h.entries) put
    ∙ made_entries n h.file h.full h.own held (up h.file behind) None [] h.entries (none_up Entry file_cmp) children

made_names : (n : NamesValue) (last : Option FileId) (held : List (FileId × InodeValue)) (hs : List Held) → Up file_cmp last held → AreRows last hs
    → with_all_held (names_with n held) hs ≡ names_with n (held ++ map named hs)
made_names n last held [] up row = ap (λ (es : List (FileId × InodeValue)). names_with n es) (sym (append-nil held))
made_names n last held (h ∷ hs) up row =
    ap (λ (names : NamesValue). with_all_held names hs) (one_held n last held h up row.0 row.1.0)
    ∙ made_names n (Some h.file) (held ++ named h ∷ []) hs (up_more file_cmp file_total last h.file (inode_of h) held up row.0) row.1.1
    ∙ ap (λ (es : List (FileId × InodeValue)). names_with n es) (append_assoc held (named h ∷ []) (map named hs))

-- ---- the servers that were removed

made_removed : (names : NamesValue) (servers : List ℕ) → with_removed names servers ≡ record names { removed = names.removed ++ servers }
made_removed names [] = ap (λ (xs : List ℕ). record names { removed = xs }) (sym (append-nil names.removed))
made_removed names (s ∷ servers) =
    made_removed (remove_server names s) servers ∙ ap (λ (xs : List ℕ). record names { removed = xs }) (append_assoc names.removed (s ∷ []) servers)

first_is : (servers : Servers) (last : ℕ) → first_names servers last ≡ record { server = servers.server; last = last; removed = servers.removed; held = [] }
first_is servers last =
    let from : max 0 last ≡ last = zero-max last in
    ap (λ (names : NamesValue). raise names last) (made_removed (new_names servers.server) servers.removed)
    ∙ ap (λ (time : ℕ). record { server = servers.server; last = time; removed = servers.removed; held = [] }) from

-- ---- the store

pub store_is : (p : Parts) → AreParts p → store_with p ≡ plain_store p
store_is p fits =
    let rows = rows_of None p.held fits.held.chain in
    let n : NamesValue = record { server = p.servers.server; last = p.counters.last; removed = p.servers.removed; held = [] } in
    let names : with_all_held (first_names p.servers p.counters.last) p.held ≡ names_with n (map named p.held) =
    ap (λ (names : NamesValue). with_all_held names p.held) (first_is p.servers p.counters.last) ∙ made_names n None [] p.held (none_up InodeValue file_cmp) rows in
    let replicas : with_replicas [] p.held ≡ map replicated p.held = made_replicas None [] p.held (none_up Replica file_cmp) rows in
    rw (names, replicas) refl
