-- Files that are logs of servers: of one kind each, and gone on with.
use Rattle.std.proofs.Common.{◌≡◌, ◌⊎◌, inl, inr, ℕ, ◌+◌, ◌≤◌, List, [], ◌∷◌, ◌++◌, length, map, Option, Some, None, Result, Ok, Err, refl, sym, ◌∙◌, ap, subst, arith}
use Rattle.pg_log.specs.Bytes.{IsBadAt, OpensTo, front}
use Rattle.pg_log.proofs.Unique.{never_both, one_place, opens_once}
use Rattle.pg_server.specs.declared.input.Input.{Input}
use Rattle.pg_host.specs.Entries.{input_of, start_of}
use Rattle.pg_host.specs.Logs.{AreGood, IsBadBehind, IsBadEntry, IsBadLog, IsLogOf, IsOldLog, IsOtherLog, IsOwnLog, Old}

abbrev place_in : {X : Type 0} → Result X ℕ → ℕ
place_in (Ok x) = 0
place_in (Err at) = at

ok_err : {X : Type 0} (r : Result X ℕ) (x : X) (at : ℕ) → r ≡ Ok x → r ≡ Err at → ⊥
ok_err r x at ok err = let e : Ok x ≡ Err at = sym ok ∙ err in cc

one_err : {X : Type 0} (r : Result X ℕ) (a b : ℕ) → r ≡ Err a → r ≡ Err b → a ≡ b
one_err r a b first second = sym (ap place_in first) ∙ ap place_in second

abbrev named_in : Result (ℕ × ℕ) ℕ → ℕ × ℕ
named_in (Ok named) = named
named_in (Err at) = (0, 0)

-- ---- entries of inputs, and one that is none

good_bad : (before : List (List ℕ)) (entry : List ℕ) (behind : List (List ℕ)) (inputs : List Input) (at : ℕ) → map input_of (before ++ entry ∷ behind) ≡ map Ok inputs → input_of entry ≡ Err at → ⊥
good_bad [] entry behind [] at read bad = absurd (omega (arith, ap length read))
good_bad [] entry behind (i ∷ inputs) at read bad =
    let same : input_of entry ∷ map input_of behind ≡ Ok i ∷ map Ok inputs = read in
    let head : input_of entry ≡ Ok i = cc in
    ok_err (input_of entry) i at head bad
good_bad (x ∷ before) entry behind [] at read bad = absurd (omega (arith, ap length read))
good_bad (x ∷ before) entry behind (i ∷ inputs) at read bad =
    let same : input_of x ∷ map input_of (before ++ entry ∷ behind) ≡ Ok i ∷ map Ok inputs = read in
    let more : map input_of (before ++ entry ∷ behind) ≡ map Ok inputs = cc in
    good_bad before entry behind inputs at more bad

-- the first entry that is none
one_bad : (b d : List (List ℕ)) (x y : List ℕ) (e f : List (List ℕ)) (is js : List Input) (m n : ℕ) → b ++ x ∷ e ≡ d ++ y ∷ f → map input_of b ≡ map Ok is → map input_of d ≡ map Ok js
    → input_of x ≡ Err m → input_of y ≡ Err n → (b ≡ d) × (x ≡ y)
one_bad [] [] x y e f is js m n whole first second bad other = (refl, (let same : x ∷ e ≡ y ∷ f = whole in cc))
one_bad [] (z ∷ d) x y e f is js m n whole first second bad other =
    let same : x ∷ e ≡ z ∷ (d ++ y ∷ f) = whole in
    let head : x ≡ z = cc in
    absurd (good_bad [] z d js m second (subst (λ (l : List ℕ). input_of l ≡ Err m) head bad))
one_bad (z ∷ b) [] x y e f is js m n whole first second bad other =
    let same : z ∷ (b ++ x ∷ e) ≡ y ∷ f = whole in
    let head : y ≡ z = cc in
    absurd (good_bad [] z b is n first (subst (λ (l : List ℕ). input_of l ≡ Err n) head other))
one_bad (z ∷ b) (w ∷ d) x y e f [] js m n whole first second bad other = absurd (omega (arith, ap length first))
one_bad (z ∷ b) (w ∷ d) x y e f (i ∷ is) [] m n whole first second bad other = absurd (omega (arith, ap length second))
one_bad (z ∷ b) (w ∷ d) x y e f (i ∷ is) (j ∷ js) m n whole first second bad other =
    let same : z ∷ (b ++ x ∷ e) ≡ w ∷ (d ++ y ∷ f) = whole in
    let head : z ≡ w = cc in
    let rest : b ++ x ∷ e ≡ d ++ y ∷ f = cc in
    let read : input_of z ∷ map input_of b ≡ Ok i ∷ map Ok is = first in
    let read_b : map input_of b ≡ map Ok is = cc in
    let also : input_of w ∷ map input_of d ≡ Ok j ∷ map Ok js = second in
    let read_d : map input_of d ≡ map Ok js = cc in
    let more = one_bad b d x y e f is js m n rest read_b read_d bad other in
    ((λ k. head k ∷ more.0 k), more.1)

-- ---- entries that are a log's, or bad from one place on

one_entry_at : (b d : List (List ℕ)) (x y : List ℕ) (e f : List (List ℕ)) (m n : ℕ) → AreGood b → AreGood d → IsBadBehind b x m → IsBadBehind d y n → b ++ x ∷ e ≡ d ++ y ∷ f
    → length (front b) + (5 + m) ≡ length (front d) + (5 + n)
one_entry_at [] [] x y e f m n good other bad also whole =
    let same : x ∷ e ≡ y ∷ f = whole in
    let head : x ≡ y = cc in
    ap (λ (k : ℕ). length (front []) + (5 + k)) (one_err (start_of y) m n (subst (λ (l : List ℕ). start_of l ≡ Err m) head bad) also)
one_entry_at [] (z ∷ d) x y e f m n good other bad also whole =
    let same : x ∷ e ≡ z ∷ (d ++ y ∷ f) = whole in
    let head : x ≡ z = cc in
    absurd (ok_err (start_of z) (other.0.0, other.0.1) m other.0.2.read (subst (λ (l : List ℕ). start_of l ≡ Err m) head bad))
one_entry_at (z ∷ b) [] x y e f m n good other bad also whole =
    let same : z ∷ (b ++ x ∷ e) ≡ y ∷ f = whole in
    let head : y ≡ z = cc in
    absurd (ok_err (start_of z) (good.0.0, good.0.1) n good.0.2.read (subst (λ (l : List ℕ). start_of l ≡ Err n) head also))
one_entry_at (z ∷ b) (w ∷ d) x y e f m n good other bad also whole =
    let same : z ∷ (b ++ x ∷ e) ≡ w ∷ (d ++ y ∷ f) = whole in
    let head : z ≡ w = cc in
    let rest : b ++ x ∷ e ≡ d ++ y ∷ f = cc in
    let both = one_bad b d x y e f good.1.0 other.1.0 m n rest good.1.1.read other.1.1.read bad also in
    let at : m ≡ n = one_err (input_of y) m n (subst (λ (l : List ℕ). input_of l ≡ Err m) both.1 bad) also in
    λ k. length (front (head k ∷ both.0 k)) + (5 + at k)

one_place_bad : (entries : List (List ℕ)) (p q : ℕ) → IsBadEntry entries p → IsBadEntry entries q → p ≡ q
one_place_bad entries p q b d = b.place_is ∙ one_entry_at b.before d.before b.entry d.entry b.behind d.behind b.at d.at b.good d.good b.bad d.bad (sym b.whole ∙ d.whole) ∙ sym d.place_is

log_bad_at : (first : List ℕ) (later before : List (List ℕ)) (entry : List ℕ) (behind : List (List ℕ)) (server servers at : ℕ) (inputs : List Input) → start_of first ≡ Ok (server, servers)
    → map input_of later ≡ map Ok inputs → IsBadBehind before entry at → first ∷ later ≡ before ++ entry ∷ behind → ⊥
log_bad_at first later [] entry behind server servers at inputs start read bad whole =
    let same : first ∷ later ≡ entry ∷ behind = whole in
    let head : entry ≡ first = cc in
    ok_err (start_of first) (server, servers) at start (subst (λ (l : List ℕ). start_of l ≡ Err at) head bad)
log_bad_at first later (z ∷ before) entry behind server servers at inputs start read bad whole =
    let same : first ∷ later ≡ z ∷ (before ++ entry ∷ behind) = whole in
    let rest : later ≡ before ++ entry ∷ behind = cc in
    good_bad before entry behind inputs at (ap (map input_of) (sym rest) ∙ read) bad

log_bad : (server servers place : ℕ) (inputs : List Input) (entries : List (List ℕ)) → IsLogOf server servers inputs entries → IsBadEntry entries place → ⊥
log_bad server servers place inputs entries log b =
    log_bad_at log.first log.later b.before b.entry b.behind server servers b.at inputs log.start.read log.are.read b.bad (sym log.whole ∙ b.whole)

pub none_bad_at : (before : List (List ℕ)) (entry : List ℕ) (behind : List (List ℕ)) → [] ≡ before ++ entry ∷ behind → ⊥
none_bad_at [] entry behind whole = omega (arith, ap length whole)
none_bad_at (z ∷ before) entry behind whole = omega (arith, ap length whole)

old_bad : (server servers place : ℕ) (old : Old) (entries : List (List ℕ)) → IsOldLog server servers old entries → IsBadEntry entries place → ⊥
old_bad server servers place None entries none b = none_bad_at b.before b.entry b.behind (sym none ∙ b.whole)
old_bad server servers place (Some inputs) entries log b = log_bad server servers place inputs entries log b

one_name : (a b c d : ℕ) (is js : List Input) (entries : List (List ℕ)) → IsLogOf a b is entries → IsLogOf c d js entries → (a ≡ c) × (b ≡ d)
one_name a b c d is js entries log also =
    let same : log.first ∷ log.later ≡ also.first ∷ also.later = sym log.whole ∙ also.whole in
    let head : log.first ≡ also.first = cc in
    let pair : (a, b) ≡ (c, d) = sym (ap named_in log.start.read) ∙ ap (λ (l : List ℕ). named_in (start_of l)) head ∙ ap named_in also.start.read in
    (ap (λ (p : ℕ × ℕ). p.0) pair, ap (λ (p : ℕ × ℕ). p.1) pair)

pub none_log : (server servers : ℕ) (inputs : List Input) (entries : List (List ℕ)) → entries ≡ [] → IsLogOf server servers inputs entries → ⊥
none_log server servers inputs entries none log = omega (arith, ap length (sym none ∙ log.whole))

old_other : (server servers a b : ℕ) (old : Old) (inputs : List Input) (entries : List (List ℕ)) → IsOldLog server servers old entries → IsLogOf a b inputs entries → ((a ≡ server) × (b ≡ servers) → ⊥) → ⊥
old_other server servers a b None inputs entries none log another = none_log a b inputs entries none log
old_other server servers a b (Some own) inputs entries old log another = another (one_name a b server servers inputs own entries log old)

-- ---- files

bad_once : (file : List ℕ) (p q : ℕ) → IsBadLog file p → IsBadLog file q → p ≡ q
bad_once file p q (inl bad) (inl also) = one_place file p q bad also
bad_once file p q (inl bad) (inr also) = absurd (never_both file also.0 p also.1 bad)
bad_once file p q (inr bad) (inl also) = absurd (never_both file bad.0 q bad.1 also)
bad_once file p q (inr bad) (inr also) =
    one_place_bad also.0 p q (subst (λ (es : List (List ℕ)). IsBadEntry es p) (opens_once file bad.0 also.0 bad.1 also.1) bad.2) also.2

bad_opens : (file : List ℕ) (place : ℕ) (entries : List (List ℕ)) → IsBadLog file place → OpensTo file entries → (IsBadEntry entries place → ⊥) → ⊥
bad_opens file place entries (inl bad) opens none = never_both file entries place opens bad
bad_opens file place entries (inr bad) opens none = none (subst (λ (es : List (List ℕ)). IsBadEntry es place) (opens_once file bad.0 entries bad.1 opens) bad.2)

pub one_bad_place : (file : List ℕ) (a b : ℕ) → IsBadLog file a → IsBadLog file b → a ≡ b
one_bad_place file a b bad also = bad_once file a b bad also

pub not_bad_own : (server servers place : ℕ) (file : List ℕ) → IsBadLog file place → IsOwnLog server servers file → ⊥
not_bad_own server servers place file bad own = bad_opens file place own.1.entries bad own.1.opens (old_bad server servers place own.0 own.1.entries own.1.is)

pub not_bad_other : (server servers place a b : ℕ) (file : List ℕ) → IsBadLog file place → IsOtherLog server servers a b file → ⊥
not_bad_other server servers place a b file bad other = bad_opens file place other.entries bad other.opens (log_bad a b place other.inputs other.entries other.is)

pub not_own_other : (server servers a b : ℕ) (file : List ℕ) → IsOwnLog server servers file → IsOtherLog server servers a b file → ⊥
not_own_other server servers a b file own other =
    let same : own.1.entries ≡ other.entries = opens_once file own.1.entries other.entries own.1.opens other.opens in
    old_other server servers a b own.0 other.inputs other.entries (subst (λ (es : List (List ℕ)). IsOldLog server servers own.0 es) same own.1.is) other.is other.another

pub one_other : (server servers a b c d : ℕ) (file : List ℕ) → IsOtherLog server servers a b file → IsOtherLog server servers c d file → (a ≡ c) × (b ≡ d)
one_other server servers a b c d file one also =
    let same : one.entries ≡ also.entries = opens_once file one.entries also.entries one.opens also.opens in
    one_name a b c d one.inputs also.inputs also.entries (subst (λ (es : List (List ℕ)). IsLogOf a b one.inputs es) same one.is) also.is
