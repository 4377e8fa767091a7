-- The children that a directory lists, each once, and how many they are.
use Rattle.std.proofs.Common.{ℕ, suc, ◌≡◌, ◌&&◌, ◌||◌, Bool, true, false, cond, All, List, [], ◌∷◌, length, get_or, Option, None, Some, refl, sym, ap, ◌∙◌}
use Rattle.std.specs.List.{filter}
use Rattle.std.specs.List.Sorted.{IsStrictlySortedBy}
use Rattle.std.specs.Map.{keys_of, values_of}
use Rattle.std.specs.BTreeMap.{is_at}
use Rattle.std.proofs.lemmas.Bool.{false≢true, or_left, or_right}
use Rattle.std.proofs.lemmas.List.Elements.{All-head, All-tail}
use Rattle.std.proofs.lemmas.List.Kept.{IsStrictlySortedBy-filter}
use Rattle.std.proofs.lemmas.List.Sums.{length-filter}
use Rattle.std.proofs.lemmas.Option.{none-some}
use Rattle.pg_run.specs.pg_base.declared.id.FileId.{FileId}
use Rattle.pg_run.specs.pg_base.Id.{file_cmp, is_same_file}
use Rattle.pg_run.proofs.pg_base.Entries.{lookup-place}
use Rattle.pg_run.proofs.pg_base.Orders.{file_total, is_same_file-refl, is_same_file-true}
use Rattle.pg_run.specs.pg_entries.declared.entry.Entry.{Entry}
use Rattle.pg_run.specs.pg_entries.Entry.{count_listed, entry_of, is_listed, is_listed_entry}
use Rattle.pg_run.specs.pg_house.Facts.{is_among}

-- ---- among those that pass a test

-- one key more: t, it passes; u, it is the one asked for; so is the test of that one
one_more : (t u a x : Bool) (asked : Bool) → (u ≡ true → asked ≡ t) → x ≡ (a && asked) → cond t (u || x) x ≡ ((u || a) && asked)
one_more true true a x asked h e = sym (h refl)
one_more true false a x asked h e = e
one_more false true true x asked h e = e
one_more false true false x asked h e = e ∙ sym (h refl)
one_more false false a x asked h e = e

over_cond : (t : Bool) (f k : FileId) (ks : List FileId) → is_among f (cond t (k ∷ ks) ks) ≡ cond t (is_same_file k f || is_among f ks) (is_among f ks)
over_cond true f k ks = refl
over_cond false f k ks = refl

among_filter : (p : FileId → Bool) (f : FileId) (ks : List FileId) → is_among f (filter p ks) ≡ (is_among f ks && p f)
among_filter p f [] = refl
among_filter p f (k ∷ ks) =
    over_cond (p k) f k (filter p ks)
    ∙ one_more (p k) (is_same_file k f) (is_among f ks) (is_among f (filter p ks)) (p f) (λ same. ap p (sym (is_same_file-true k f same))) (among_filter p f ks)

both : (a b : Bool) → (b ≡ true → a ≡ true) → (a && b) ≡ b
both true b h = refl
both false true h = h refl
both false false h = refl

-- ---- what is found is among the keys

key_at : (f : FileId) (e : FileId × Entry) (es : List (FileId × Entry)) (x : Entry) (t : Bool) → is_at (file_cmp f) e.0 ≡ t → cond t (Some e.1) (entry_of es f) ≡ Some x → (entry_of es f ≡ Some x → is_among f (keys_of es) ≡ true) → is_among f (keys_of (e ∷ es)) ≡ true
key_at f e es x true h g rest = or_left (is_same_file e.0 f) _ (ap (λ q. is_same_file q f) (sym (is_same_file-true f e.0 h)) ∙ is_same_file-refl f)
key_at f e es x false h g rest = or_right (is_same_file e.0 f) _ (rest g)

key_there : (f : FileId) (es : List (FileId × Entry)) (x : Entry) → entry_of es f ≡ Some x → is_among f (keys_of es) ≡ true
key_there f [] x h = absurd (none-some x h)
key_there f (e ∷ es) x h = key_at f e es x (is_at (file_cmp f) e.0) refl h (key_there f es x)

-- ---- counting keys and values

counts_by : (t : Bool) (a : FileId) (b : Entry) (ks : List FileId) (vs : List Entry) → length ks ≡ length vs → length (cond t (a ∷ ks) ks) ≡ length (cond t (b ∷ vs) vs)
counts_by true a b ks vs h = ap (λ (n : ℕ). suc n) h
counts_by false a b ks vs h = h

same_count : (p : FileId → Bool) (q : Entry → Bool) (es : List (FileId × Entry)) → All (λ (e : FileId × Entry). p e.0 ≡ q e.1) es → length (filter p (keys_of es)) ≡ length (filter q (values_of es))
same_count p q [] h = refl
same_count p q (e ∷ es) h =
    counts_by (p e.0) e.0 e.1 (filter p (keys_of es)) (filter q (values_of es)) (same_count p q es (All-tail (λ (x : FileId × Entry). p x.0 ≡ q x.1) e es h))
    ∙ ap (λ t. length (cond t (e.1 ∷ filter q (values_of es)) (filter q (values_of es)))) (All-head (λ (x : FileId × Entry). p x.0 ≡ q x.1) e es h)

-- ---- the children that are listed

module _ (dir : FileId) (es : List (FileId × Entry)) (sorted : IsStrictlySortedBy file_cmp (keys_of es)) where
  abbrev lists_it : FileId → Bool
  lists_it child = is_listed_entry dir (entry_of es child)

  abbrev pub children : List FileId
  children = filter lists_it (keys_of es)

  pub each_once : IsStrictlySortedBy file_cmp children
  each_once = IsStrictlySortedBy-filter file_cmp lists_it (keys_of es) sorted

  is_key : (child : FileId) (o : Option Entry) → entry_of es child ≡ o → is_listed_entry dir o ≡ true → is_among child (keys_of es) ≡ true
  is_key child None at h = absurd (false≢true h)
  is_key child (Some e) at h = key_there child es e at

  pub listed : (child : FileId) → is_among child children ≡ is_listed_entry dir (entry_of es child)
  listed child = among_filter lists_it child (keys_of es) ∙ both (is_among child (keys_of es)) (lists_it child) (is_key child (entry_of es child) refl)

  at_own_key : All (λ (e : FileId × Entry). lists_it e.0 ≡ is_listed dir e.1) es
  at_own_key i d lt = ap (is_listed_entry dir) (lookup-place file_cmp file_total (get_or es i d).0 (get_or es i d).1 es i d sorted lt refl)

  pub as_many : count_listed es dir ≡ length children
  as_many = sym (same_count lists_it (is_listed dir) es at_own_key ∙ length-filter (is_listed dir) (values_of es))
