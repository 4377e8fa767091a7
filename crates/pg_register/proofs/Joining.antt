-- Several flags that come one after another.
use Rattle.std.proofs.Common.{ℕ, ◌≡◌, ◌≢◌, ◌<◌, ◌≤◌, ◌+◌, Bool, true, false, cond, not, eqb, ◌||◌, ◌↔◌, IsTrue, Some, List, [], ◌∷◌, length, get_or, drop, refl, sym, ap, ◌∙◌, subst, arith}
use Rattle.std.proofs.lemmas.Bool.{or_parts}
use Rattle.std.proofs.lemmas.Bool.Decides.{nat_tests}
use Rattle.std.proofs.lemmas.List.{drop_more, drop_all}
use Rattle.pg_register.specs.declared.flag.Flag.{Flag}
use Rattle.pg_register.specs.Flag.{newest, is_new, IsByServer, flag_of, put_flag, join_flag, join_flags, brings_news, covers_flag, covers_flags}
use Rattle.pg_register.proofs.ByServer.{not_older, put_flag-changes, Above, below, IsByServer-head, IsByServer-tail, flag_of-join_flag, flag_of-join_flags, joined_new, first}

later_news : (f : Flag) (fs gs : List Flag) → Above f.server gs → brings_news (join_flag fs f) gs ≡ brings_news fs gs
later_news f fs [] up = refl
later_news f fs (g ∷ gs) up =
    let m = below f.server g.server up.0 in
    let other : eqb f.server g.server ≡ false = grind (arith, nat_tests) in
    let same : flag_of (join_flag fs f) g.server ≡ flag_of fs g.server = flag_of-join_flag f fs g.server ∙ ap (λ t. cond t (newest (flag_of fs g.server) (Some f)) (flag_of fs g.server)) other in
    ap (λ o. is_new o g || brings_news (join_flag fs f) gs) same ∙ ap (λ t. is_new (flag_of fs g.server) g || t) (later_news f fs gs up.1)

-- what a loop over other flags keeps: those that are left, joined now, give all of them joined
pub record Joining (fs gs now : List Flag) (changed : Bool) (left : List Flag) : Type 0 where
  pub whole : join_flags now left ≡ join_flags fs gs
  pub by_server : IsByServer left
  pub news : (changed || brings_news now left) ≡ brings_news fs gs

pub or_assoc : (a b c : Bool) → ((a || b) || c) ≡ (a || (b || c))
or_assoc true b c = refl
or_assoc false b c = refl

joining_by : (fs gs now left : List Flag) (changed : Bool) (f : Flag) → Joining fs gs now changed (f ∷ left) → Joining fs gs (join_flag now f) (changed || is_new (flag_of now f.server) f) left
joining_by fs gs now left changed f j = record {
  whole = j.whole;
  by_server = IsByServer-tail f left j.by_server;
  news = ap (λ t. (changed || is_new (flag_of now f.server) f) || t) (later_news f now left (IsByServer-head f left j.by_server)) ∙ or_assoc changed (is_new (flag_of now f.server) f) (brings_news now left) ∙ j.news;
}

pub joining_more : (fs gs now new : List Flag) (changed is : Bool) (i : ℕ) (d : Flag) → i < length gs → new ≡ join_flag now (get_or gs i d) → is ≡ is_new (flag_of now (get_or gs i d).server) (get_or gs i d) → Joining fs gs now changed (drop i gs)
    → Joining fs gs new (changed || is) (drop (i + 1) gs)
joining_more fs gs now new changed is i d lt joined tested j =
    let f = get_or gs i d in
    let P : List Flag → Type 0 = (λ xs. Joining fs gs now changed xs) in
    let step = joining_by fs gs now (drop (i + 1) gs) changed f (subst P (drop_more gs i d lt) j) in
    let Q : List Flag → Type 0 = (λ xs. Joining fs gs xs (changed || is) (drop (i + 1) gs)) in
    let R : Bool → Type 0 = (λ t. Joining fs gs (join_flag now f) (changed || t) (drop (i + 1) gs)) in
    subst Q (sym joined) (subst R (sym tested) step)

pub or-false : (a : Bool) → (a || false) ≡ a
or-false true = refl
or-false false = refl

pub joining_all : (fs gs now : List Flag) (changed : Bool) (i : ℕ) → length gs ≤ i → Joining fs gs now changed (drop i gs) → (now ≡ join_flags fs gs) × (changed ≡ brings_news fs gs)
joining_all fs gs now changed i le j =
    let P : List Flag → Type 0 = (λ xs. Joining fs gs now changed xs) in
    let k = subst P (drop_all i gs le) j in
    (k.whole, sym (or-false changed) ∙ k.news)

old_stays : (f : Flag) (fs : List Flag) → is_new (flag_of fs f.server) f ≡ false → join_flag fs f ≡ fs
old_stays f fs e = ap (λ t. cond t (put_flag fs f) fs) e

no_news : (fs gs : List Flag) → brings_news fs gs ≡ false → join_flags fs gs ≡ fs
no_news fs [] e = refl
no_news fs (g ∷ gs) e =
    let p = or_parts (is_new (flag_of fs g.server) g) (brings_news fs gs) e in
    ap (λ xs. join_flags xs gs) (old_stays g fs p.0) ∙ no_news fs gs p.1

first_news : (fs gs : List Flag) (g : Flag) → IsByServer (g ∷ gs) → is_new (flag_of fs g.server) g ≡ true → join_flags fs (g ∷ gs) ≡ fs → ⊥
first_news fs gs g s new same =
    let there : flag_of fs g.server ≡ Some g = sym (ap (λ xs. flag_of xs g.server) same) ∙ flag_of-join_flags fs (g ∷ gs) g.server s ∙ ap (newest (flag_of fs g.server)) (first g gs) ∙ joined_new (flag_of fs g.server) g new in
    let old : is_new (flag_of fs g.server) g ≡ false = ap (λ o. is_new o g) there ∙ not_older g in
    cc

some_news_by : (fs gs : List Flag) (g : Flag) (t : Bool) → is_new (flag_of fs g.server) g ≡ t → IsByServer (g ∷ gs) → (t || brings_news fs gs) ≡ true → (brings_news fs gs ≡ true → join_flags fs gs ≡ fs → ⊥) → join_flags fs (g ∷ gs) ≡ fs → ⊥
some_news_by fs gs g true new s e more same = first_news fs gs g s new same
some_news_by fs gs g false old s e more same = more e (sym (ap (λ xs. join_flags xs gs) (old_stays g fs old)) ∙ same)

some_news : (fs gs : List Flag) → IsByServer gs → brings_news fs gs ≡ true → join_flags fs gs ≡ fs → ⊥
some_news fs [] s e same = cc
some_news fs (g ∷ gs) s e same = some_news_by fs gs g (is_new (flag_of fs g.server) g) refl s e (some_news fs gs (IsByServer-tail g gs s)) same

-- flags change exactly where news came
pub news_change : (fs gs now : List Flag) (changed : Bool) → IsByServer gs → now ≡ join_flags fs gs → changed ≡ brings_news fs gs → IsTrue changed ↔ (now ≢ fs)
news_change fs gs now true s joined news = (λ _ same. some_news fs gs s (sym news) (sym joined ∙ same), λ _. refl)
news_change fs gs now false s joined news = (λ e. absurd (let x : false ≡ true = e in cc), λ other. absurd (other (joined ∙ no_news fs gs (sym news))))

-- ---- to join would change nothing

flag_by : (fs : List Flag) (f : Flag) (t new : Bool) → is_new (flag_of fs f.server) f ≡ new → t ≡ not new → IsTrue t ↔ (join_flag fs f ≡ fs)
flag_by fs f t true new e = (λ h. absurd (let x : true ≡ false = sym h ∙ e in cc), λ same. absurd (put_flag-changes f fs new (sym (ap (λ b. cond b (put_flag fs f) fs) new) ∙ same)))
flag_by fs f t false old e = (λ _. old_stays f fs old, λ _. e)

pub covers_flag-stays : (fs : List Flag) (f : Flag) (t : Bool) → t ≡ covers_flag fs f → IsTrue t ↔ (join_flag fs f ≡ fs)
covers_flag-stays fs f t = flag_by fs f t (is_new (flag_of fs f.server) f) refl

flags_by : (fs gs : List Flag) (t new : Bool) → IsByServer gs → brings_news fs gs ≡ new → t ≡ not new → IsTrue t ↔ (join_flags fs gs ≡ fs)
flags_by fs gs t true s new e = (λ h. absurd (let x : true ≡ false = sym h ∙ e in cc), λ same. absurd (some_news fs gs s new same))
flags_by fs gs t false s old e = (λ _. no_news fs gs old, λ _. e)

pub covers_flags-stays : (fs gs : List Flag) (t : Bool) → IsByServer gs → t ≡ covers_flags fs gs → IsTrue t ↔ (join_flags fs gs ≡ fs)
covers_flags-stays fs gs t s = flags_by fs gs t (brings_news fs gs) s refl
