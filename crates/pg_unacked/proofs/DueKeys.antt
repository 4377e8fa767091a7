-- Which keys of a file are due, one change after another.
use Rattle.std.proofs.Common.{ℕ, ◌≡◌, ◌<◌, ◌+◌, length, drop, get_or, Bool, true, false, not, cond, ◌==◌, ◌&&◌, ◌||◌, List, ◌∷◌, Option, Some, is_some, refl, sym, ap, ◌∙◌, Less, Equal, Greater}
use Rattle.std.specs.declared.cmp.Ordering.{Ordering}
use Rattle.std.specs.Ordering.{eq_by_cmp, is_eq, ordering_then}
use Rattle.std.specs.Cmp.{tied_itself}
use Rattle.std.proofs.lemmas.List.{drop_more}
use Rattle.pg_base.specs.declared.id.FileId.{FileId}
use Rattle.pg_base.specs.Id.{file_cmp, is_same_file}
use Rattle.pg_base.proofs.Orders.{file_total, is_same_file-refl, is_same_file-true}
use Rattle.pg_edges.specs.declared.edge.Edge.{Edge}
use Rattle.pg_edges.specs.declared.key.Key.{Key}
use Rattle.pg_edges.specs.Key.{key_cmp, is_same_key}
use Rattle.pg_edges.specs.Edges.{edge_to}
use Rattle.pg_unacked.specs.declared.due.Due.{Due}
use Rattle.pg_unacked.specs.Due.{UnackedValue, has_due, is_same_due}
use Rattle.pg_unacked.specs.Owes.{is_key_of, is_to}
use Rattle.pg_unacked.specs.Changes.{OthersStay, due_at}

-- ---- one due

pub other_way : (file q : FileId) → eq_by_cmp file_cmp q file ≡ false → is_same_file file q ≡ false
other_way file q other = other_by (is_same_file file q) refl
  where
    other_by : (t : Bool) → is_same_file file q ≡ t → t ≡ false
    other_by true h =
        let same : file ≡ q = is_same_file-true file q h in
        let k : true ≡ false = sym (is_same_file-refl q) ∙ ap (λ z. eq_by_cmp file_cmp q z) (sym same) ∙ other in cc
    other_by false h = refl

pub same_due_here : (file : FileId) (key k : Key) → is_same_due (due_at file key) (due_at file k) ≡ is_same_key key k
same_due_here file key k = ap (λ o. is_eq (ordering_then o (key_cmp key k))) (tied_itself file_total file)

not_then : (o r : Ordering) → is_eq o ≡ false → is_eq (ordering_then o r) ≡ false
not_then Less r h = refl
not_then Equal r h = absurd (let z : true ≡ false = h in cc)
not_then Greater r h = refl

other_due : (file : FileId) (key : Key) (d : Due) → eq_by_cmp file_cmp d.file file ≡ false → is_same_due (due_at file key) d ≡ false
other_due file key d other = not_then (file_cmp file d.file) (key_cmp key d.key) (other_way file d.file other)

-- a due comes at a peer, or goes
abbrev pub Comes : UnackedValue → UnackedValue → ℕ → Due → Type 0
Comes u v peer due = (p : ℕ) (d : Due) → has_due v p d ≡ ((peer == p && is_same_due due d) || has_due u p d)

abbrev pub Goes : UnackedValue → UnackedValue → ℕ → Due → Type 0
Goes u v peer due = (p : ℕ) (d : Due) → has_due v p d ≡ (not (peer == p && is_same_due due d) && has_due u p d)

-- a key comes at the peers of these edges, or goes there
abbrev pub KeyCame : UnackedValue → UnackedValue → FileId → Key → List Edge → Type 0
KeyCame u v file key es = (p : ℕ) (k : Key) → has_due v p (due_at file k) ≡ ((is_to es p && is_same_key key k) || has_due u p (due_at file k))

abbrev pub KeyWent : UnackedValue → UnackedValue → FileId → Key → List Edge → Type 0
KeyWent u v file key es = (p : ℕ) (k : Key) → has_due v p (due_at file k) ≡ (not (is_to es p && is_same_key key k) && has_due u p (due_at file k))

come_none : (t h : Bool) → ((t && false) || h) ≡ h
come_none true h = refl
come_none false h = refl

go_none : (t h : Bool) → (not (t && false) && h) ≡ h
go_none true h = refl
go_none false h = refl

module _ (u v : UnackedValue) (peer : ℕ) (file : FileId) where
  pub come_others : (key : Key) → Comes u v peer (due_at file key) → OthersStay u v file
  come_others key h p d other =
      h p d ∙ ap (λ s. (peer == p && s) || has_due u p d) (other_due file key d other) ∙ come_none (peer == p) (has_due u p d)

  pub go_others : (key : Key) → Goes u v peer (due_at file key) → OthersStay u v file
  go_others key h p d other =
      h p d ∙ ap (λ s. not (peer == p && s) && has_due u p d) (other_due file key d other) ∙ go_none (peer == p) (has_due u p d)

  pub come_own : (key : Key) → Comes u v peer (due_at file key) → (p : ℕ) (k : Key)
      → has_due v p (due_at file k) ≡ ((peer == p && is_same_key key k) || has_due u p (due_at file k))
  come_own key h p k = h p (due_at file k) ∙ ap (λ s. (peer == p && s) || has_due u p (due_at file k)) (same_due_here file key k)

  pub go_own : (key : Key) → Goes u v peer (due_at file key) → (p : ℕ) (k : Key)
      → has_due v p (due_at file k) ≡ (not (peer == p && is_same_key key k) && has_due u p (due_at file k))
  go_own key h p k = h p (due_at file k) ∙ ap (λ s. not (peer == p && s) && has_due u p (due_at file k)) (same_due_here file key k)

pub others_on : (u v w : UnackedValue) (file : FileId) → OthersStay u v file → OthersStay v w file → OthersStay u w file
others_on u v w file h k p d other = k p d other ∙ h p d other

-- all dues of the file go, of one peer or of each
pub one_file_others : (u v : UnackedValue) (peer : ℕ) (file : FileId)
    → ((p : ℕ) (d : Due) → has_due v p d ≡ (not (peer == p && is_same_file file d.file) && has_due u p d)) → OthersStay u v file
one_file_others u v peer file h p d other =
    h p d ∙ ap (λ s. not (peer == p && s) && has_due u p d) (other_way file d.file other) ∙ go_none (peer == p) (has_due u p d)

always : (t : Bool) → (t && true) ≡ t
always true = refl
always false = refl

pub one_file_own : (u v : UnackedValue) (peer : ℕ) (file : FileId)
    → ((p : ℕ) (d : Due) → has_due v p d ≡ (not (peer == p && is_same_file file d.file) && has_due u p d)) → (p : ℕ) (k : Key)
    → has_due v p (due_at file k) ≡ (not (peer == p) && has_due u p (due_at file k))
one_file_own u v peer file h p k =
    h p (due_at file k)
    ∙ ap (λ s. not s && has_due u p (due_at file k)) (ap (λ s. peer == p && s) (is_same_file-refl file) ∙ always (peer == p))

pub file_others : (u v : UnackedValue) (file : FileId)
    → ((p : ℕ) (d : Due) → has_due v p d ≡ (not (is_same_file file d.file) && has_due u p d)) → OthersStay u v file
file_others u v file h p d other = h p d ∙ ap (λ s. not s && has_due u p d) (other_way file d.file other)

pub file_own : (u v : UnackedValue) (file : FileId)
    → ((p : ℕ) (d : Due) → has_due v p d ≡ (not (is_same_file file d.file) && has_due u p d)) → (p : ℕ) (k : Key)
    → has_due v p (due_at file k) ≡ false
file_own u v file h p k = h p (due_at file k) ∙ ap (λ s. not s && has_due u p (due_at file k)) (is_same_file-refl file)

-- ---- at the peers of edges, one after another

-- the elements from an index on
pub pieces_from : {X : Type 0} (xs : List X) (i : ℕ) (x : X) → i < length xs → x ≡ get_or xs i x → drop i xs ≡ x ∷ drop (i + 1) xs
pieces_from xs i x lt is = drop_more xs i x lt ∙ ap (λ y. y ∷ drop (i + 1) xs) (sym is)

to_cons : (s : Bool) (e : Edge) (o : Option Edge) → is_some (cond s (Some e) o) ≡ (s || is_some o)
to_cons true e o = refl
to_cons false e o = refl

pub add_bits : (t s r h : Bool) → ((r && s) || ((t && s) || h)) ≡ (((t || r) && s) || h)
add_bits true true true h = refl
add_bits true true false h = refl
add_bits true false true h = refl
add_bits true false false h = refl
add_bits false true true h = refl
add_bits false true false h = refl
add_bits false false true h = refl
add_bits false false false h = refl

pub drop_bits : (t s r h : Bool) → (not (r && s) && (not (t && s) && h)) ≡ (not ((t || r) && s) && h)
drop_bits true true true h = refl
drop_bits true true false h = refl
drop_bits true false true h = refl
drop_bits true false false h = refl
drop_bits false true true h = refl
drop_bits false true false h = refl
drop_bits false false true h = refl
drop_bits false false false h = refl

pub to_at : (es rest : List Edge) (e : Edge) → es ≡ e ∷ rest → (p : ℕ) → is_to es p ≡ ((e.peer == p) || is_to rest p)
to_at es rest e at p = ap (λ xs. is_to xs p) at ∙ to_cons (e.peer == p) e (edge_to rest p)

module _ (u v : UnackedValue) (file : FileId) (key : Key) (es rest : List Edge) (e : Edge) (at : es ≡ e ∷ rest) where
  pub key_more : Comes u v e.peer (due_at file key) → (p : ℕ) (k : Key)
      → ((is_to rest p && is_same_key key k) || has_due v p (due_at file k)) ≡ ((is_to es p && is_same_key key k) || has_due u p (due_at file k))
  key_more h p k =
      ap (λ b. (is_to rest p && is_same_key key k) || b) (come_own u v e.peer file key h p k)
      ∙ add_bits (e.peer == p) (is_same_key key k) (is_to rest p) (has_due u p (due_at file k))
      ∙ ap (λ b. (b && is_same_key key k) || has_due u p (due_at file k)) (sym (to_at es rest e at p))

  pub key_less : Goes u v e.peer (due_at file key) → (p : ℕ) (k : Key)
      → (not (is_to rest p && is_same_key key k) && has_due v p (due_at file k)) ≡ (not (is_to es p && is_same_key key k) && has_due u p (due_at file k))
  key_less h p k =
      ap (λ b. not (is_to rest p && is_same_key key k) && b) (go_own u v e.peer file key h p k)
      ∙ drop_bits (e.peer == p) (is_same_key key k) (is_to rest p) (has_due u p (due_at file k))
      ∙ ap (λ b. not (b && is_same_key key k) && has_due u p (due_at file k)) (sym (to_at es rest e at p))

-- ---- one key after another

pub keys_bits : (t s a h : Bool) → ((t && a) || ((t && s) || h)) ≡ ((t && (s || a)) || h)
keys_bits true true true h = refl
keys_bits true true false h = refl
keys_bits true false a h = refl
keys_bits false s a h = refl

pub keys_more : (u v : UnackedValue) (file : FileId) (peer : ℕ) (ks rest : List Key) (key : Key) → ks ≡ key ∷ rest
    → Comes u v peer (due_at file key) → (p : ℕ) (k : Key)
    → ((peer == p && is_key_of k rest) || has_due v p (due_at file k)) ≡ ((peer == p && is_key_of k ks) || has_due u p (due_at file k))
keys_more u v file peer ks rest key at h p k =
    ap (λ b. (peer == p && is_key_of k rest) || b) (come_own u v peer file key h p k)
    ∙ keys_bits (peer == p) (is_same_key key k) (is_key_of k rest) (has_due u p (due_at file k))
    ∙ ap (λ xs. (peer == p && is_key_of k xs) || has_due u p (due_at file k)) (sym at)
