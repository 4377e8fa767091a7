-- What a change of the replica of a file makes of all replicas of a server.
use Rattle.std.proofs.Common.{ℕ, ◌≡◌, ◌+◌, Bool, true, false, cond, not, List, Option, None, Some, Result, Ok, Err, OnOk, IfErr, refl, sym, ap, subst, ◌∙◌, arith}
use Rattle.std.specs.List.Sorted.{IsStrictlySortedBy}
use Rattle.std.specs.Map.{set_value, keys_of}
use Rattle.std.specs.BTreeMap.{is_at}
use Rattle.std.proofs.lemmas.Map.Steps.{set_value_same}
use Rattle.pg_base.specs.declared.id.FileId.{FileId}
use Rattle.pg_base.specs.Id.{file_cmp}
use Rattle.pg_base.proofs.Entries.{insert_there}
use Rattle.pg_base.proofs.Orders.{file_total}
use Rattle.pg_edges.specs.declared.key.Key.{Key}
use Rattle.pg_edges.specs.Edges.{is_listed, makes_edge, new_edge, put_edge, without_edge}
use Rattle.pg_replica.specs.declared.link.Link.{Link}
use Rattle.pg_replica.specs.declared.replica.Replica.{Replica}
use Rattle.pg_replica.specs.Replica.{has_edge, with_ack, with_ack_along, with_link, with_unlink}
use Rattle.pg_replica.specs.Replicas.{ByFile, put_replica, replica_in, replicas_acked}

-- what follows where a call succeeded, or was refused
pub ok_more : {T E : Type 0} (r : Result T E) (A B : Type 0) → OnOk r A → (A → B) → OnOk r B
ok_more (Ok x) A B a f = f a
ok_more (Err e) A B a f = tt

pub err_more : {T E : Type 0} (r : Result T E) (N : E → Type 0) (A B : Type 0) → IfErr r (λ e. N e → A) → (A → B) → IfErr r (λ e. N e → B)
err_more (Ok x) N A B h f = tt
err_more (Err e) N A B h f = λ n. f (h n)

-- ---- a replica that was there, and is another one now

module _ (es ds : ByFile) (file : FileId) (x w : Replica) (sorted : IsStrictlySortedBy file_cmp (keys_of es))
    (there : replica_in es file ≡ Some x) (set : ds ≡ set_value (is_at (file_cmp file)) es w) where
  pub put_there : ds ≡ put_replica es file w
  put_there = set ∙ sym (insert_there file_cmp file_total file x w es sorted there)

  -- nothing came of it
  pub same_there : w ≡ x → ds ≡ es
  same_there is = set ∙ ap (set_value (is_at (file_cmp file)) es) is ∙ set_value_same (is_at (file_cmp file)) es x there

  -- a change of what is there
  pub made_there : (made : Option Replica → ByFile) (y : Replica) → made (Some x) ≡ put_replica es file y → w ≡ y
      → ds ≡ made (replica_in es file)
  made_there made y put is = put_there ∙ ap (put_replica es file) is ∙ sym put ∙ sym (ap made there)

  -- one that comes where a test holds
  tested_there : (made : Option Replica → ByFile) (y : Replica) (t : Bool) → made (Some x) ≡ put_replica es file y
      → (t ≡ true → w ≡ y) → (t ≡ false → w ≡ x) → ds ≡ cond t (made (replica_in es file)) es
  tested_there made y true put is same = made_there made y put (is refl)
  tested_there made y false put is same = same_there (same refl)

  pub chosen_there : (test : Option Replica → Bool) (made : Option Replica → ByFile) (y : Replica)
      → made (Some x) ≡ put_replica es file y → (test (Some x) ≡ true → w ≡ y) → (test (Some x) ≡ false → w ≡ x)
      → ds ≡ cond (test (replica_in es file)) (made (replica_in es file)) es
  chosen_there test made y put is same =
      tested_there made y (test (Some x)) put is same
      ∙ ap (λ b. cond b (made (replica_in es file)) es) (sym (ap test there))

-- ---- an answer

module _ (es ds : ByFile) (file : FileId) (x w : Replica) (sorted : IsStrictlySortedBy file_cmp (keys_of es))
    (there : replica_in es file ≡ Some x) (set : ds ≡ set_value (is_at (file_cmp file)) es w) where
  acked_by : (y : Replica) (t : Bool) → w ≡ cond t y x → ds ≡ cond t (put_replica es file y) es
  acked_by y true is = put_there es ds file x w sorted there set ∙ ap (put_replica es file) is
  acked_by y false is = same_there es ds file x w sorted there set is

  pub acked_there : (link : Link) (k : Key) (tag : ℕ) → w ≡ with_ack_along x link k tag
      → ds ≡ replicas_acked es file link k tag (replica_in es file)
  acked_there link k tag is =
      acked_by (with_ack x link.peer link.birth k tag) (has_edge x link) is
      ∙ sym (ap (replicas_acked es file link k tag) there)

-- ---- a file that has none

module _ (es ds : ByFile) (file : FileId) (gap : ◌≡◌ {A = Option Replica} (replica_in es file) None) (same : ds ≡ es) where
  pub made_nowhere : (made : Option Replica → ByFile) → made None ≡ es → ds ≡ made (replica_in es file)
  made_nowhere made none = same ∙ sym none ∙ sym (ap made gap)

  pub chosen_nowhere : (test : Option Replica → Bool) (made : Option Replica → ByFile) → test None ≡ false
      → ds ≡ cond (test (replica_in es file)) (made (replica_in es file)) es
  chosen_nowhere test made none =
      same ∙ sym (ap (λ b. cond b (made (replica_in es file)) es) (ap test gap ∙ none))

-- ---- look-ups in the same replicas

pub found_in : {es rs : ByFile} → es ≡ rs → (file : FileId) (x : Replica) → replica_in es file ≡ Some x → replica_in rs file ≡ Some x
found_in same file x there =
    let P : ByFile → Type 0 = λ zs. replica_in zs file ≡ Some x in
    subst P same there

pub none_in : {es rs : ByFile} → es ≡ rs → (file : FileId) → ◌≡◌ {A = Option Replica} (replica_in es file) None
    → ◌≡◌ {A = Option Replica} (replica_in rs file) None
none_in same file gap =
    let P : ByFile → Type 0 = λ zs. ◌≡◌ {A = Option Replica} (replica_in zs file) None in
    subst P same gap

-- ---- links that make no edge

pub old_link : (x : Replica) (peer birth : ℕ) (ks : List Key) (tags : ℕ) → makes_edge x.edges peer birth ≡ false
    → with_link x peer birth ks tags ≡ x
old_link x peer birth ks tags old =
    ap (λ b. record x { edges = cond b (put_edge x.edges (new_edge peer birth ks tags)) x.edges }) old

pub old_unlink : (x : Replica) (peer birth : ℕ) → is_listed x.edges peer birth ≡ false → with_unlink x peer birth ≡ x
old_unlink x peer birth other =
    ap (λ b. record x { edges = cond b (without_edge x.edges peer) x.edges }) other

-- ---- choices

pub if_not : {A : Type 0} (b : Bool) (x y : A) → cond b x y ≡ cond (not b) y x
if_not true x y = refl
if_not false x y = refl

pub if_true : {A : Type 0} (b : Bool) (x y : A) → b ≡ true → cond b x y ≡ x
if_true b x y h = ap (λ t. cond t x y) h

pub if_false : {A : Type 0} (b : Bool) (x y : A) → b ≡ false → cond b x y ≡ y
if_false b x y h = ap (λ t. cond t x y) h

pub plus_if : (b : Bool) (m n : ℕ) → m + cond b n 0 ≡ cond b (m + n) m
plus_if true m n = refl
plus_if false m n = omega arith
