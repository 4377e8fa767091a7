-- Flags, places and entries that come: what is known grows, and what came is known.
use Rattle.std.proofs.Common.{ℕ, ◌≡◌, ◌==◌, eqb, ◌||◌, ◌&&◌, nat_lt, Bool, true, false, cond, List, [], ◌∷◌, Option, None, Some, refl, sym, ap, subst, ◌∙◌, arith}
use Rattle.std.proofs.lemmas.Bool.{eqb-true, eq-eqb, false≢true, or_parts}
use Rattle.std.proofs.lemmas.Bool.Decides.{nat_tests}
use Rattle.pg_base.specs.Stamp.{UpTo, is_before}
use Rattle.pg_base.proofs.Orders.{UpTo-refl, is_before-true, is_before-false}
use Rattle.pg_register.specs.declared.flag.Flag.{Flag}
use Rattle.pg_register.specs.declared.place.Place.{Place}
use Rattle.pg_register.specs.Flag.{brings_news, flag_of, is_new, is_older, join_flag, join_flags, newest}
use Rattle.pg_register.specs.Place.{newer_place}
use Rattle.pg_register.proofs.ByServer.{flag_of-join_flag}
use Rattle.pg_entries.specs.declared.entry.Entry.{Entry}
use Rattle.pg_entries.specs.Entry.{brings, joined, joined_to}
use Rattle.theory_flood_pieces.specs.Names.{IsEntryKnownBy}
use Rattle.theory_flood_pieces.specs.UpTo.{AreFlagsUpTo, IsEntryUpTo, IsFlagKnownBy, IsFlagUpTo}
use Rattle.theory_flood_pieces.proofs.UpTo.{entry_itself, flag_itself, known_further, known_itself}

-- ---- places

place_by : (a b : Place) (t : Bool) → is_before a.stamp b.stamp ≡ t → UpTo a.stamp (cond t b a).stamp × UpTo b.stamp (cond t b a).stamp
place_by a b true e = (is_before-true a.stamp b.stamp e, UpTo-refl b.stamp)
place_by a b false e = (UpTo-refl a.stamp, is_before-false a.stamp b.stamp e)

-- both places are up to the newer one
pub newer_of_both : (a b : Place) → UpTo a.stamp (newer_place a b).stamp × UpTo b.stamp (newer_place a b).stamp
newer_of_both a b = place_by a b (is_before a.stamp b.stamp) refl

-- ---- a flag

-- the flag of a server is of that server
server_by : (f : Flag) (fs : List Flag) (n : ℕ) (t : Bool) (g : Flag) → (f.server == n) ≡ t → cond t (Some f) (flag_of fs n) ≡ Some g → (flag_of fs n ≡ Some g → g.server ≡ n) → g.server ≡ n
server_by f fs n true g e h rest = let same : f ≡ g = cc in ap (λ (x : Flag). x.server) (sym same) ∙ eqb-true f.server n e
server_by f fs n false g e h rest = rest h

pub flag_server : (fs : List Flag) (n : ℕ) (g : Flag) → flag_of fs n ≡ Some g → g.server ≡ n
flag_server [] n g h = absurd (let z : None ≡ Some g = h in cc)
flag_server (f ∷ fs) n g h = server_by f fs n (f.server == n) g refl h (flag_server fs n g)

older_once : (b n c m : ℕ) → (nat_lt b c || (b == c && nat_lt n m)) ≡ true → (nat_lt c b || (c == b && nat_lt m n)) ≡ false
older_once b n c m h = grind (arith, nat_tests)

-- of two flags of one server both are up to the newer one
newest_by : (f g : Flag) (t : Bool) → f.server ≡ g.server → is_older f g ≡ t → IsFlagUpTo f (cond t g f) × IsFlagUpTo g (cond t g f)
newest_by f g true same e = ((same, older_once f.birth f.number g.birth g.number e), flag_itself g)
newest_by f g false same e = (flag_itself f, (sym same, e))

newest_known : (o : Option Flag) (g : Flag) → ((f : Flag) → o ≡ Some f → f.server ≡ g.server) → IsFlagKnownBy o (newest o (Some g)) × IsFlagKnownBy (Some g) (newest o (Some g))
newest_known None g same = (tt, flag_itself g)
newest_known (Some f) g same = newest_by f g (is_older f g) (same f refl) refl

-- after a flag came what was known is known, and the flag is
join_by : (fs : List Flag) (g : Flag) (n : ℕ) (t : Bool) → eqb g.server n ≡ t → IsFlagKnownBy (flag_of fs n) (cond t (newest (flag_of fs n) (Some g)) (flag_of fs n))
join_by fs g n true e = (newest_known (flag_of fs n) g (λ f h. flag_server fs n f h ∙ sym (eqb-true g.server n e))).0
join_by fs g n false e = known_itself (flag_of fs n)

pub flag_joined : (fs : List Flag) (g : Flag) → AreFlagsUpTo fs (join_flag fs g)
flag_joined fs g n = let P : Option Flag → Type 0 = λ o. IsFlagKnownBy (flag_of fs n) o in subst P (sym (flag_of-join_flag g fs n)) (join_by fs g n (eqb g.server n) refl)

pub flag_there : (fs : List Flag) (g : Flag) → IsFlagKnownBy (Some g) (flag_of (join_flag fs g) g.server)
flag_there fs g =
    let P : Option Flag → Type 0 = λ o. IsFlagKnownBy (Some g) o in
    let own : flag_of (join_flag fs g) g.server ≡ newest (flag_of fs g.server) (Some g) =
    flag_of-join_flag g fs g.server ∙ ap (λ t. cond t (newest (flag_of fs g.server) (Some g)) (flag_of fs g.server)) (eq-eqb g.server g.server refl) in
    subst P (sym own) (newest_known (flag_of fs g.server) g (λ f h. flag_server fs g.server f h)).1

-- of another server the flag stays
pub flag_apart : (fs : List Flag) (g : Flag) (n : ℕ) → eqb g.server n ≡ false → flag_of (join_flag fs g) n ≡ flag_of fs n
flag_apart fs g n apart = flag_of-join_flag g fs n ∙ ap (λ t. cond t (newest (flag_of fs n) (Some g)) (flag_of fs n)) apart

-- a flag that is not new is known
pub old_known : (o : Option Flag) (g : Flag) → ((f : Flag) → o ≡ Some f → f.server ≡ g.server) → is_new o g ≡ false → IsFlagKnownBy (Some g) o
old_known None g same old = absurd (false≢true (sym old))
old_known (Some f) g same old = (sym (same f refl), old)

-- ---- flags

pub flags_joined : (fs gs : List Flag) → AreFlagsUpTo fs (join_flags fs gs)
flags_joined fs [] n = known_itself (flag_of fs n)
flags_joined fs (g ∷ gs) n =
    known_further (flag_of fs n) (flag_of (join_flag fs g) n) (flag_of (join_flags (join_flag fs g) gs) n) (flag_joined fs g n) (flags_joined (join_flag fs g) gs n)

there_by : (fs : List Flag) (g : Flag) (gs : List Flag) (n : ℕ) (t : Bool) → (g.server == n) ≡ t → (IsFlagKnownBy (flag_of gs n) (flag_of (join_flags (join_flag fs g) gs) n))
    → IsFlagKnownBy (cond t (Some g) (flag_of gs n)) (flag_of (join_flags (join_flag fs g) gs) n)
there_by fs g gs n true e rest =
    let P : ℕ → Type 0 = λ m. IsFlagKnownBy (Some g) (flag_of (join_flag fs g) m) in
    known_further (Some g) (flag_of (join_flag fs g) n) (flag_of (join_flags (join_flag fs g) gs) n) (subst P (eqb-true g.server n e) (flag_there fs g)) (flags_joined (join_flag fs g) gs n)
there_by fs g gs n false e rest = rest

pub flags_there : (fs gs : List Flag) → AreFlagsUpTo gs (join_flags fs gs)
flags_there fs [] n = tt
flags_there fs (g ∷ gs) n = there_by fs g gs n (g.server == n) refl (flags_there (join_flag fs g) gs n)

-- flags that bring no news are known
none_by : (fs : List Flag) (g : Flag) (gs : List Flag) (n : ℕ) (t : Bool) → (g.server == n) ≡ t → is_new (flag_of fs g.server) g ≡ false → IsFlagKnownBy (flag_of gs n) (flag_of fs n)
    → IsFlagKnownBy (cond t (Some g) (flag_of gs n)) (flag_of fs n)
none_by fs g gs n true e old rest =
    let P : ℕ → Type 0 = λ m. IsFlagKnownBy (Some g) (flag_of fs m) in
    subst P (eqb-true g.server n e) (old_known (flag_of fs g.server) g (λ f h. flag_server fs g.server f h) old)
none_by fs g gs n false e old rest = rest

pub no_news : (fs gs : List Flag) → brings_news fs gs ≡ false → AreFlagsUpTo gs fs
no_news fs [] h n = tt
no_news fs (g ∷ gs) h n =
    let both = or_parts (is_new (flag_of fs g.server) g) (brings_news fs gs) h in
    none_by fs g gs n (g.server == n) refl both.0 (no_news fs gs both.1 n)

-- ---- entries

pub entry_joined : (held e : Entry) → IsEntryUpTo held (joined held e)
entry_joined held e = record { child = refl; place = (newer_of_both held.place e.place).0; flags = flags_joined held.flags e.flags }

entry_there : (held e : Entry) → held.child ≡ e.child → IsEntryUpTo e (joined held e)
entry_there held e same = record { child = sym same; place = (newer_of_both held.place e.place).1; flags = flags_there held.flags e.flags }

pub known_joined : (o : Option Entry) (e : Entry) → IsEntryKnownBy o (Some (joined_to o e))
known_joined None e = tt
known_joined (Some held) e = entry_joined held e

pub known_there : (o : Option Entry) (e : Entry) → ((held : Entry) → o ≡ Some held → held.child ≡ e.child) → IsEntryUpTo e (joined_to o e)
known_there None e same = entry_itself e
known_there (Some held) e same = entry_there held e (same held refl)

-- an entry that brings nothing is known
pub old_entry : (o : Option Entry) (e : Entry) → ((held : Entry) → o ≡ Some held → held.child ≡ e.child) → brings o e ≡ false → IsEntryKnownBy (Some e) o
old_entry None e same old = absurd (false≢true (sym old))
old_entry (Some held) e same old =
    let both = or_parts (is_before held.place.stamp e.place.stamp) (brings_news held.flags e.flags) old in
    record { child = sym (same held refl); place = is_before-false held.place.stamp e.place.stamp both.0; flags = no_news held.flags e.flags both.1 }
