-- Flags by server, each of a server: so they stay, and there are at most 64.
use Rattle.std.proofs.Common.{ℕ, ◌+◌, ◌<◌, ◌≤◌, Bool, List, [], ◌∷◌, length, Option, None, Some, All, Less, Equal, Greater, arith}
use Rattle.std.specs.declared.cmp.Ordering.{Ordering}
use Rattle.std.specs.Ordering.{match_ordering, nat_cmp}
use Rattle.std.specs.List.{find}
use Rattle.std.proofs.lemmas.List.Elements.{All-cons, All-from_recursion, All-head, All-nil, All-tail, recursion_from_All}
use Rattle.pg_register.specs.declared.flag.Flag.{Flag}
use Rattle.pg_register.specs.Flag.{IsByServer, flag_of, is_new, join_flag, join_flags, put_flag}
use Rattle.pg_register.proofs.ByServer.{Above, IsByServer-head, IsByServer-join_flag, IsByServer-nil, IsByServer-tail, below}
use Rattle.pg_server.proofs.pg_pieces.pg_house.Truths.{chosen}
use Rattle.pg_packet_write.specs.Fits.{FitGolds, IsServer}
use Rattle.law_spelled.specs.Stores.{FitFlags}

abbrev pub IsOfServer : Flag → Type 0
IsOfServer flag = IsServer flag.server

pub no_flags : FitFlags []
no_flags = record { by_server = IsByServer-nil; each = All-nil IsOfServer }

-- ---- one more comes, or several

put_by : (g h : Flag) (hs : List Flag) (o : Ordering) → IsOfServer g → All IsOfServer (h ∷ hs) → All IsOfServer (put_flag hs g)
    → All IsOfServer (match_ordering o (g ∷ h ∷ hs) (g ∷ hs) (h ∷ put_flag hs g))
put_by g h hs Less k all more = All-cons IsOfServer g (h ∷ hs) k all
put_by g h hs Equal k all more = All-cons IsOfServer g hs k (All-tail IsOfServer h hs all)
put_by g h hs Greater k all more = All-cons IsOfServer h (put_flag hs g) (All-head IsOfServer h hs all) more

put_each : (g : Flag) (fs : List Flag) → IsOfServer g → All IsOfServer fs → All IsOfServer (put_flag fs g)
put_each g [] k all = All-cons IsOfServer g [] k all
put_each g (h ∷ hs) k all = put_by g h hs (nat_cmp g.server h.server) k all (put_each g hs k (All-tail IsOfServer h hs all))

pub one_more : (fs : List Flag) (g : Flag) → IsOfServer g → FitFlags fs → FitFlags (join_flag fs g)
one_more fs g k h = record {
  by_server = IsByServer-join_flag g fs h.by_server;
  each = chosen (All IsOfServer) (is_new (flag_of fs g.server) g) (put_flag fs g) fs (put_each g fs k h.each) h.each;
}

pub many_more : (fs gs : List Flag) → All IsOfServer gs → FitFlags fs → FitFlags (join_flags fs gs)
many_more fs [] all h = h
many_more fs (g ∷ gs) all h =
    many_more (join_flag fs g) gs (All-tail IsOfServer g gs all) (one_more fs g (All-head IsOfServer g gs all) h)

-- ---- how many there are

few_above : (s : ℕ) (fs : List Flag) → s ≤ 64 → Above s fs → All IsOfServer fs → IsByServer fs → s + length fs ≤ 64
few_above s [] most up all by = omega (arith, most)
few_above s (f ∷ fs) most up all by =
    let lt : s < f.server = below s f.server up.0 in
    let high : f.server ≤ 64 = (All-head IsOfServer f fs all).most in
    let rest : f.server + length fs ≤ 64 = few_above f.server fs high (IsByServer-head f fs by) (All-tail IsOfServer f fs all) (IsByServer-tail f fs by) in
    omega (arith, lt, rest)

few_flags : (fs : List Flag) → FitFlags fs → length fs ≤ 64
few_flags [] h = omega arith
few_flags (f ∷ fs) h =
    let k = All-head IsOfServer f fs h.each in
    let low : 1 ≤ f.server = k.least in
    let high : f.server ≤ 64 = k.most in
    let rest : f.server + length fs ≤ 64 = few_above f.server fs high (IsByServer-head f fs h.by_server) (All-tail IsOfServer f fs h.each) (IsByServer-tail f fs h.by_server) in
    omega (arith, low, rest)

pub golds : (fs : List Flag) → FitFlags fs → FitGolds fs
golds fs h = record { few = few_flags fs h; each = recursion_from_All IsOfServer fs h.each }

pub of_golds : (fs : List Flag) → FitGolds fs → IsByServer fs → FitFlags fs
of_golds fs h by = record { by_server = by; each = All-from_recursion IsOfServer fs h.each }

-- ---- the first of some

-- there is none, or it is of a server
abbrev pub MayBeFlag : Option Flag → Type 0
MayBeFlag None = Unit {0}
MayBeFlag (Some flag) = IsOfServer flag

pub first_flag : (p : Flag → Bool) (fs : List Flag) → All IsOfServer fs → MayBeFlag (find p fs)
first_flag p [] all = tt
first_flag p (f ∷ fs) all =
    chosen MayBeFlag (p f) (Some f) (find p fs) (All-head IsOfServer f fs all) (first_flag p fs (All-tail IsOfServer f fs all))
