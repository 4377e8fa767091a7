-- Who goes first among the children with one name.
use Rattle.std.proofs.Common.{◌≡◌, ℕ, Bool, true, false, cond, ◌||◌, ◌&&◌, not, IsTrue, ◌↔◌, Option, None, Some, List, [], ◌∷◌, ◌++◌, map, refl, sym, ap, ◌∙◌}
use Rattle.std.specs.declared.cmp.Ordering.{Ordering}
use Rattle.std.specs.Ordering.{nat_cmp, is_lt, is_eq}
use Rattle.std.specs.List.{fold, list_any}
use Rattle.std.specs.Map.{values_of}
use Rattle.std.specs.Cmp.{IsTotalOrder, IsStrictWeakOrder, nat_cmp_total, on_total, then_total, tied_itself, Equal-is}
use Rattle.std.proofs.lemmas.List.Sorted.{ranks_by, answers_always}
use Rattle.pg_base.specs.declared.id.FileId.{FileId}
use Rattle.std.specs.Cmp.Lexicographic.{slice_cmp, lists_total}
use Rattle.std.proofs.lemmas.Map.Lookups.{exact_bytes}
use Rattle.std.proofs.lemmas.Bool.{or_right, or_left, or_from, false_from_ne_true, and_right, and_from}
use Rattle.pg_base.specs.Id.{spelling}
use Rattle.pg_register.specs.Place.{tilde_name}
use Rattle.pg_register.proofs.Joining.{or-false, or_assoc}
use Rattle.pg_entries.specs.Entry.{is_listed}
use Rattle.pg_entries.specs.Names.{same_name}
use Rattle.pg_base.proofs.Orders.{file_total, stamp_total}
use Rattle.pg_entries.specs.declared.entry.Entry.{Entry}
use Rattle.pg_entries.specs.declared.claim.Claim.{Claim}
use Rattle.pg_entries.specs.Shown.{claim_of, claim_cmp, is_rival, is_hidden, lesser, take_claim, first_claim, is_beaten, shown_name, shows, row_of, row_cmp}
use Rattle.pg_path.specs.declared.row.Row.{Row}
use Rattle.std.specs.Fn.{Called, ComparesAs}
use Rattle.std.specs.List.Sorted.{IsSortedBy}
use Rattle.std.proofs.lemmas.List.{map-append}
use Rattle.std.proofs.lemmas.List.Sums.{fold-append}
use denote.Ref.{Bor}
use denote.Param.Members.{Mut}

pub claim_total : IsTotalOrder claim_cmp
claim_total = then_total (on_total (λ (c : Claim). c.stamp) stamp_total) (on_total (λ (c : Claim). c.child) file_total)

ranked : IsStrictWeakOrder (λ (a b : Claim). is_lt (claim_cmp a b))
ranked = ranks_by claim_total (λ (c : Claim). c)

least_by : (b o c : Claim) (t u v : Bool) → is_lt (claim_cmp o b) ≡ t → is_lt (claim_cmp b c) ≡ u → is_lt (claim_cmp o c) ≡ v → is_lt (claim_cmp (cond t o b) c) ≡ (is_lt (claim_cmp b c) || is_lt (claim_cmp o c))
least_by b o c true u true ht hu hv = hv ∙ sym (or_right (is_lt (claim_cmp b c)) (is_lt (claim_cmp o c)) hv)
least_by b o c true u false ht hu hv = hv ∙ sym (or_from (is_lt (claim_cmp b c)) (is_lt (claim_cmp o c)) (ranked.chain b o c (ranked.one_way o b ht) hv) hv)
least_by b o c false true v ht hu hv = hu ∙ sym (or_left (is_lt (claim_cmp b c)) (is_lt (claim_cmp o c)) hu)
least_by b o c false false v ht hu hv = hu ∙ sym (or_from (is_lt (claim_cmp b c)) (is_lt (claim_cmp o c)) hu (ranked.chain o b c ht hu))

-- the lesser of two claims goes before a third where one of them does
lesser_beats : (first : Option Claim) (o c : Claim) → is_lt (claim_cmp (lesser first o) c) ≡ (is_beaten first c || is_lt (claim_cmp o c))
lesser_beats None o c = refl
lesser_beats (Some b) o c = least_by b o c (is_lt (claim_cmp o b)) (is_lt (claim_cmp b c)) (is_lt (claim_cmp o c)) refl refl refl

pub take_beats_by : (first : Option Claim) (e : Entry) (c : Claim) (t : Bool) → is_beaten (cond t (Some (lesser first (claim_of e))) first) c ≡ (is_beaten first c || (t && is_lt (claim_cmp (claim_of e) c)))
take_beats_by first e c true = lesser_beats first (claim_of e) c
take_beats_by first e c false = sym (or-false (is_beaten first c))

pub fold_beats : (dir : FileId) (name : List ℕ) (c : Claim) (es : List Entry) (first : Option Claim) → is_beaten (fold (take_claim dir name) first es) c ≡ (is_beaten first c || list_any (λ o. is_rival dir name o && is_lt (claim_cmp (claim_of o) c)) es)
fold_beats dir name c [] first = sym (or-false (is_beaten first c))
fold_beats dir name c (e ∷ es) first =
    fold_beats dir name c es (take_claim dir name first e)
    ∙ ap (λ t. t || list_any (λ o. is_rival dir name o && is_lt (claim_cmp (claim_of o) c)) es) (take_beats_by first e c (is_rival dir name e))
    ∙ or_assoc (is_beaten first c) (is_rival dir name e && is_lt (claim_cmp (claim_of e) c)) (list_any (λ o. is_rival dir name o && is_lt (claim_cmp (claim_of o) c)) es)

-- a child is hidden where the first claim on its name goes before its own
pub is_hidden-first : (es : List (FileId × Entry)) (dir : FileId) (e : Entry) → is_hidden es dir e ≡ is_beaten (first_claim es dir e.place.name) (claim_of e)
is_hidden-first es dir e = sym (fold_beats dir e.place.name (claim_of e) (values_of es) None)

-- ---- names

pub same_name-true : (a b : List ℕ) → same_name a b ≡ true → a ≡ b
same_name-true a b h = exact_bytes a b ((Equal-is (slice_cmp nat_cmp a b)).0 h)

pub same_name-refl : (a : List ℕ) → same_name a a ≡ true
same_name-refl a = ap is_eq (tied_itself (lists_total nat_cmp_total) a)

pub same_name-is : (a b : List ℕ) → a ≡ b → same_name a b ≡ true
same_name-is a b e = ap (λ x. same_name x b) e ∙ same_name-refl b

no_longer : (a b : List ℕ) (c : ℕ) → a ++ c ∷ b ≡ a → ⊥
no_longer [] b c e = cc
no_longer (x ∷ xs) b c e = no_longer xs b c (let r : xs ++ c ∷ b ≡ xs = cc in r)

-- the name that a child shows, where it is known whether it is hidden
abbrev name_by : Bool → Entry → List ℕ
name_by t e = cond t (e.place.name ++ tilde_name e.child) e.place.name

shows_own_by : (e : Entry) (shown : List ℕ) (t : Bool) → e.place.name ≡ shown → not t ≡ same_name (name_by t e) shown
shows_own_by e shown false same = sym (same_name-is e.place.name shown same)
shows_own_by e shown true same =
    let other : same_name (e.place.name ++ tilde_name e.child) shown ≡ false =
    false_from_ne_true (same_name (e.place.name ++ tilde_name e.child) shown) (λ h. no_longer e.place.name (spelling e.child) 126 (same_name-true (e.place.name ++ tilde_name e.child) shown h ∙ sym same)) in
    sym other

-- whether a child shows its own name
pub shows_own : (es : List (FileId × Entry)) (dir : FileId) (e : Entry) (shown : List ℕ) → is_listed dir e ≡ true → same_name e.place.name shown ≡ true → not (is_beaten (first_claim es dir shown) (claim_of e)) ≡ shows es dir shown e
shows_own es dir e shown listed same =
    let name = same_name-true e.place.name shown same in
    let hidden : is_beaten (first_claim es dir shown) (claim_of e) ≡ is_hidden es dir e = ap (λ n. is_beaten (first_claim es dir n) (claim_of e)) (sym name) ∙ sym (is_hidden-first es dir e) in
    ap not hidden ∙ shows_own_by e shown (is_hidden es dir e) name ∙ sym (ap (λ t. t && same_name (shown_name es dir e) shown) listed)

shows_other_by : (e : Entry) (shown : List ℕ) (t with : Bool) → (IsTrue with ↔ (shown ≡ e.place.name ++ tilde_name e.child)) → same_name e.place.name shown ≡ false → (with && t) ≡ same_name (name_by t e) shown
shows_other_by e shown false true w other = sym other
shows_other_by e shown false false w other = sym other
shows_other_by e shown true true w other = sym (same_name-is (e.place.name ++ tilde_name e.child) shown (sym (w.0 refl)))
shows_other_by e shown true false w other = sym (false_from_ne_true (same_name (e.place.name ++ tilde_name e.child) shown) (λ h. let x : false ≡ true = w.1 (sym (same_name-true (e.place.name ++ tilde_name e.child) shown h)) in cc))

-- whether a child shows another name
pub shows_other : (es : List (FileId × Entry)) (dir : FileId) (e : Entry) (shown : List ℕ) (with : Bool) → is_listed dir e ≡ true → (IsTrue with ↔ (shown ≡ e.place.name ++ tilde_name e.child)) → same_name e.place.name shown ≡ false
    → (with && is_beaten (first_claim es dir e.place.name) (claim_of e)) ≡ shows es dir shown e
shows_other es dir e shown with listed w other =
    ap (λ t. with && t) (sym (is_hidden-first es dir e)) ∙ shows_other_by e shown (is_hidden es dir e) with w other ∙ sym (ap (λ t. t && same_name (shown_name es dir e) shown) listed)

-- ---- the rows

pub row_hidden : (es : List (FileId × Entry)) (dir : FileId) (e : Entry) (name : List ℕ) → is_hidden es dir e ≡ true → name ≡ e.place.name ++ tilde_name e.child → ◌≡◌ {A = Row} (record { name = name; child = e.child }) (row_of es dir e)
row_hidden es dir e name hidden is =
    let n : name ≡ shown_name es dir e = is ∙ sym (ap (λ t. name_by t e) hidden) in
    ap (λ (x : List ℕ). let r : Row = record { name = x; child = e.child } in r) n

pub row_plain : (es : List (FileId × Entry)) (dir : FileId) (e : Entry) (name : List ℕ) → is_hidden es dir e ≡ false → name ≡ e.place.name → ◌≡◌ {A = Row} (record { name = name; child = e.child }) (row_of es dir e)
row_plain es dir e name hidden is =
    let n : name ≡ shown_name es dir e = is ∙ sym (ap (λ t. name_by t e) hidden) in
    ap (λ (x : List ℕ). let r : Row = record { name = x; child = e.child } in r) n

take_other : (dir : FileId) (q : List ℕ) (e : Entry) (first : Option Claim) → same_name e.place.name q ≡ false → take_claim dir q first e ≡ first
take_other dir q e first other = ap (λ t. cond t (Some (lesser first (claim_of e))) first) (and_right (is_listed dir e) (same_name e.place.name q) other)

take_same : (dir : FileId) (q : List ℕ) (e : Entry) (first : Option Claim) → is_listed dir e ≡ true → same_name e.place.name q ≡ true → take_claim dir q first e ≡ Some (lesser first (claim_of e))
take_same dir q e first listed same = ap (λ t. cond t (Some (lesser first (claim_of e))) first) (and_from (is_listed dir e) (same_name e.place.name q) listed same)

firsts_by : (dir : FileId) (q : List ℕ) (es : List Entry) (e : Entry) (first : Claim) (t : Bool) → is_listed dir e ≡ true → same_name e.place.name q ≡ t → first ≡ lesser (fold (take_claim dir e.place.name) None es) (claim_of e)
    → cond t (Some first) (fold (take_claim dir q) None es) ≡ take_claim dir q (fold (take_claim dir q) None es) e
firsts_by dir q es e first true listed same is =
    let name = same_name-true e.place.name q same in
    ap Some (is ∙ ap (λ n. lesser (fold (take_claim dir n) None es) (claim_of e)) name) ∙ sym (take_same dir q e (fold (take_claim dir q) None es) listed same)
firsts_by dir q es e first false listed other is = sym (take_other dir q e (fold (take_claim dir q) None es) other)

-- the first claim on each name after one more child
pub firsts_more : (dir : FileId) (q : List ℕ) (rs : List (Bor Entry)) (r : Bor Entry) (first : Claim) (g : Option Claim) → is_listed dir r.now ≡ true → first ≡ lesser (fold (take_claim dir r.now.place.name) None (map (λ (x : Bor Entry). x.now) rs)) (claim_of r.now)
    → g ≡ cond (same_name r.now.place.name q) (Some first) (fold (take_claim dir q) None (map (λ (x : Bor Entry). x.now) rs)) → g ≡ fold (take_claim dir q) None (map (λ (x : Bor Entry). x.now) (rs ++ r ∷ []))
firsts_more dir q rs r first g listed is at =
    let es = map (λ (x : Bor Entry). x.now) rs in
    at ∙ firsts_by dir q es r.now first (same_name r.now.place.name q) listed refl is ∙ sym (fold-append (take_claim dir q) None es (r.now ∷ [])) ∙ sym (ap (fold (take_claim dir q) None) (map-append (λ (x : Bor Entry). x.now) rs (r ∷ [])))

pub row_total : IsTotalOrder row_cmp
row_total = then_total (on_total (λ (r : Row). r.name) (lists_total nat_cmp_total)) (on_total (λ (r : Row). r.child) file_total)

-- what `sort_by` gives where each call compares two rows
pub rows_sorted : {F : Type 0} {g : Mut F (Bor Row × (Bor Row × Unit {0})) Ordering} {f : F} (xs : List Row) → ((lt : Row → Row → Bool) → IsStrictWeakOrder lt → ComparesAs g lt f → IsSortedBy lt xs)
    → ((f : F) (a : Bor Row × (Bor Row × Unit {0})) (r : Ordering) (f' : F) → Called g f a r f' → r ≡ row_cmp a.0.now a.1.0.now) → IsSortedBy (λ a b. is_lt (row_cmp a b)) xs
rows_sorted {g = g} {f = f} xs h calls =
    h (λ a b. is_lt (row_cmp a b)) (ranks_by row_total (λ (r : Row). r)) (answers_always g (λ a r. is_lt r ≡ is_lt (row_cmp a.0.now a.1.0.now)) f (λ k a r k' called. ap is_lt (calls k a r k' called)))
