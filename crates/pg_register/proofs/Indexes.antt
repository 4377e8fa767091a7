-- Flags at an index: where the flag of a server stands or goes, and the first that passes a test.
use Rattle.std.proofs.Common.{ℕ, ◌≡◌, ◌≢◌, ◌<◌, ◌≤◌, ◌+◌, Bool, true, false, cond, ltb, leb, not, Option, None, Some, List, [], ◌∷◌, length, get_or, refl, sym, ap, ◌∙◌, subst, arith, suc, Less, Equal, Greater}
use Rattle.std.specs.declared.cmp.Ordering.{Ordering}
use Rattle.std.specs.Ordering.{nat_cmp, match_ordering, MatchOrdering}
use Rattle.std.specs.Cmp.{ranks}
use Rattle.std.specs.List.{find, position, position_or_len, insert, All}
use Rattle.std.specs.Option.{option_map, IfSome, MatchOption}
use Rattle.std.specs.Prelude.{slice_set}
use Rattle.std.proofs.lemmas.Bool.{ltb-false}
use Rattle.std.proofs.lemmas.Bool.Decides.{nat_tests}
use Rattle.std.proofs.lemmas.List.Elements.{All-nil, All-cons, All-weaker}
use Rattle.std.proofs.lemmas.List.{get_or_default}
use Rattle.std.proofs.lemmas.List.Sums.{prefix_len-le-length}
use Rattle.pg_register.specs.declared.flag.Flag.{Flag}
use Rattle.pg_register.specs.Flag.{IsByServer, put_flag}
use Rattle.pg_register.proofs.ByServer.{Above, below, IsByServer-head, IsByServer-tail}

-- ---- the index of a server

-- the number of flags of lesser servers
abbrev pub index_of : List Flag → ℕ → ℕ
index_of fs s = position_or_len (λ (h : Flag). leb s h.server) fs

index_by : (fs : List Flag) (s : ℕ) (t : Bool) → ltb (index_of fs s) (length fs) ≡ t → MatchOption (cond t (Some (index_of fs s)) None) (length fs ≡ index_of fs s) (λ i. i ≡ index_of fs s)
index_by fs s true e = refl
index_by fs s false e = let most = prefix_len-le-length (λ (h : Flag). not (leb s h.server)) fs in let least = ltb-false (index_of fs s) (length fs) e in omega arith

-- the index, as a search gives it
pub index-found : (fs : List Flag) (s : ℕ) (o : Option ℕ) → o ≡ position (λ (h : Flag). leb s h.server) fs → MatchOption o (length fs ≡ index_of fs s) (λ i. i ≡ index_of fs s)
index-found fs s o e = rw e (index_by fs s (ltb (index_of fs s) (length fs)) refl)

pub index-most : (fs : List Flag) (s : ℕ) → index_of fs s ≤ length fs
index-most fs s = prefix_len-le-length (λ (h : Flag). not (leb s h.server)) fs

-- what was read at an index
pub read_at : (xs ys : List Flag) (i : ℕ) (x f : Flag) → xs ≡ ys → i < length ys → x ≡ get_or xs i x → x.server ≡ (get_or ys i f).server
read_at xs ys i x f same lt is = ap (λ (g : Flag). g.server) (is ∙ ap (λ zs. get_or zs i x) same ∙ get_or_default ys i x f lt)

set_behind : (h f : Flag) (hs : List Flag) (i j : ℕ) → j ≡ suc i → slice_set (h ∷ hs) j f ≡ h ∷ slice_set hs i f
set_behind h f hs i j e = rw e refl

get_behind : (h d : Flag) (hs : List Flag) (i j : ℕ) → j ≡ suc i → get_or (h ∷ hs) j d ≡ get_or hs i d
get_behind h d hs i j e = rw e refl

insert_behind : (h f : Flag) (hs : List Flag) (i j : ℕ) → j ≡ suc i → insert (h ∷ hs) j f ≡ h ∷ insert hs i f
insert_behind h f hs i j e = rw e refl

put_set_by : (f h : Flag) (hs : List Flag) (t : Bool) (o : Ordering) → MatchOrdering o (f.server < h.server) (f.server ≡ h.server) (h.server < f.server) → leb f.server h.server ≡ t
    → (index_of hs f.server < length hs → (get_or hs (index_of hs f.server) f).server ≡ f.server → put_flag hs f ≡ slice_set hs (index_of hs f.server) f)
    → cond (not t) (1 + index_of hs f.server) 0 < length (h ∷ hs) → (get_or (h ∷ hs) (cond (not t) (1 + index_of hs f.server) 0) f).server ≡ f.server
    → match_ordering o (f ∷ h ∷ hs) (f ∷ hs) (h ∷ put_flag hs f) ≡ slice_set (h ∷ hs) (cond (not t) (1 + index_of hs f.server) 0) f
put_set_by f h hs true Less o e more lt same = absurd (let q : h.server ≡ f.server = same in omega arith)
put_set_by f h hs true Equal o e more lt same = refl
put_set_by f h hs true Greater o e more lt same = absurd (grind (arith, nat_tests))
put_set_by f h hs false Less o e more lt same = absurd (grind (arith, nat_tests))
put_set_by f h hs false Equal o e more lt same = absurd (grind (arith, nat_tests))
put_set_by f h hs false Greater o e more lt same =
    let i = index_of hs f.server in
    let next : 1 + index_of hs f.server ≡ suc (index_of hs f.server) = omega arith in
    let there : (get_or hs (index_of hs f.server) f).server ≡ f.server = ap (λ (x : Flag). x.server) (sym (get_behind h f hs (index_of hs f.server) (1 + index_of hs f.server) next)) ∙ same in
    ap (λ xs. h ∷ xs) (more (omega arith) there) ∙ sym (set_behind h f hs (index_of hs f.server) (1 + index_of hs f.server) next)

put_set : (f : Flag) (fs : List Flag) → index_of fs f.server < length fs → (get_or fs (index_of fs f.server) f).server ≡ f.server → put_flag fs f ≡ slice_set fs (index_of fs f.server) f
put_set f [] lt same = absurd (omega arith)
put_set f (h ∷ hs) lt same = put_set_by f h hs (leb f.server h.server) (nat_cmp f.server h.server) (ranks f.server h.server) refl (put_set f hs) lt same

put_insert_by : (f h : Flag) (hs : List Flag) (t : Bool) (o : Ordering) → MatchOrdering o (f.server < h.server) (f.server ≡ h.server) (h.server < f.server) → leb f.server h.server ≡ t
    → ((index_of hs f.server < length hs → (get_or hs (index_of hs f.server) f).server ≢ f.server) → put_flag hs f ≡ insert hs (index_of hs f.server) f)
    → (cond (not t) (1 + index_of hs f.server) 0 < length (h ∷ hs) → (get_or (h ∷ hs) (cond (not t) (1 + index_of hs f.server) 0) f).server ≢ f.server)
    → match_ordering o (f ∷ h ∷ hs) (f ∷ hs) (h ∷ put_flag hs f) ≡ insert (h ∷ hs) (cond (not t) (1 + index_of hs f.server) 0) f
put_insert_by f h hs true Less o e more other = refl
put_insert_by f h hs true Equal o e more other = absurd (other (omega arith) (sym o))
put_insert_by f h hs true Greater o e more other = absurd (grind (arith, nat_tests))
put_insert_by f h hs false Less o e more other = absurd (grind (arith, nat_tests))
put_insert_by f h hs false Equal o e more other = absurd (grind (arith, nat_tests))
put_insert_by f h hs false Greater o e more other =
    let next : 1 + index_of hs f.server ≡ suc (index_of hs f.server) = omega arith in
    let apart : index_of hs f.server < length hs → (get_or hs (index_of hs f.server) f).server ≢ f.server =
    (λ lt same. other (omega arith) (ap (λ (x : Flag). x.server) (get_behind h f hs (index_of hs f.server) (1 + index_of hs f.server) next) ∙ same)) in
    ap (λ xs. h ∷ xs) (more apart) ∙ sym (insert_behind h f hs (index_of hs f.server) (1 + index_of hs f.server) next)

put_insert : (f : Flag) (fs : List Flag) → (index_of fs f.server < length fs → (get_or fs (index_of fs f.server) f).server ≢ f.server) → put_flag fs f ≡ insert fs (index_of fs f.server) f
put_insert f [] other = refl
put_insert f (h ∷ hs) other = put_insert_by f h hs (leb f.server h.server) (nat_cmp f.server h.server) (ranks f.server h.server) refl (put_insert f hs) other

-- the flag that stands at the index of its server gives way
pub put_flag-there : (f : Flag) (fs : List Flag) (i : ℕ) → i ≡ index_of fs f.server → i < length fs → (get_or fs i f).server ≡ f.server → put_flag fs f ≡ slice_set fs i f
put_flag-there f fs i e = let P : ℕ → Type 0 = (λ k. k < length fs → (get_or fs k f).server ≡ f.server → put_flag fs f ≡ slice_set fs k f) in subst P (sym e) (put_set f fs)

-- and where none stands, the flag goes there
pub put_flag-new : (f : Flag) (fs : List Flag) (i : ℕ) → i ≡ index_of fs f.server → (i < length fs → (get_or fs i f).server ≢ f.server) → put_flag fs f ≡ insert fs i f
put_flag-new f fs i e = let P : ℕ → Type 0 = (λ k. (k < length fs → (get_or fs k f).server ≢ f.server) → put_flag fs f ≡ insert fs k f) in subst P (sym e) (put_insert f fs)

-- ---- the least of the flags that pass a test is the first

All-above : (s : ℕ) (fs : List Flag) → Above s fs → All (λ (g : Flag). s ≤ g.server) fs
All-above s [] up = All-nil (λ (g : Flag). s ≤ g.server)
All-above s (f ∷ fs) up = All-cons (λ (g : Flag). s ≤ g.server) f fs (let m = below s f.server up.0 in omega arith) (All-above s fs up.1)

skipped : (p : Flag → Bool) (f : Flag) (fs : List Flag) (o : Option Flag) → p f ≡ false → IfSome (option_map (λ (g : Flag). g.server) o) (λ q. All (λ (g : Flag). p g ≡ true → q ≤ g.server) fs)
    → IfSome (option_map (λ (g : Flag). g.server) o) (λ q. All (λ (g : Flag). p g ≡ true → q ≤ g.server) (f ∷ fs))
skipped p f fs None e more = tt
skipped p f fs (Some h) e more = All-cons (λ (g : Flag). p g ≡ true → h.server ≤ g.server) f fs (λ t. absurd (let x : true ≡ false = sym t ∙ e in cc)) more

first_by : (p : Flag → Bool) (f : Flag) (fs : List Flag) (t : Bool) → p f ≡ t → All (λ (g : Flag). f.server ≤ g.server) fs
    → IfSome (option_map (λ (g : Flag). g.server) (find p fs)) (λ q. All (λ (g : Flag). p g ≡ true → q ≤ g.server) fs)
    → IfSome (option_map (λ (g : Flag). g.server) (cond t (Some f) (find p fs))) (λ q. All (λ (g : Flag). p g ≡ true → q ≤ g.server) (f ∷ fs))
first_by p f fs true e above more = All-cons (λ (g : Flag). p g ≡ true → f.server ≤ g.server) f fs (λ _. omega arith) (All-weaker (λ (g : Flag). f.server ≤ g.server) (λ (g : Flag). p g ≡ true → f.server ≤ g.server) (λ x h _. h) fs above)
first_by p f fs false e above more = skipped p f fs (find p fs) e more

pub first-least : (p : Flag → Bool) (fs : List Flag) → IsByServer fs → IfSome (option_map (λ (g : Flag). g.server) (find p fs)) (λ q. All (λ (g : Flag). p g ≡ true → q ≤ g.server) fs)
first-least p [] s = tt
first-least p (f ∷ fs) s = first_by p f fs (p f) refl (All-above f.server fs (IsByServer-head f fs s)) (first-least p fs (IsByServer-tail f fs s))
