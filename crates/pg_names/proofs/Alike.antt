-- The tests whether two places, flags or cells are the same decide it.
use Rattle.std.proofs.Common.{◌≡◌, ℕ, Bool, true, false, ◌==◌, List, [], ◌∷◌, refl, sym}
use Rattle.std.specs.Str.{bytes_eq}
use Rattle.std.proofs.lemmas.Bool.{and_from, and_parts, false≢true}
use Rattle.std.proofs.lemmas.Slice.Eq.{bytes_eq-Decides}
use Rattle.std.proofs.lemmas.Bool.Decides.{Decides-eqb}
use Rattle.pg_base.specs.declared.id.FileId.{FileId}
use Rattle.pg_base.specs.declared.stamp.Stamp.{Stamp}
use Rattle.pg_base.specs.Id.{is_same_file}
use Rattle.pg_base.proofs.Orders.{is_same_file-true, is_same_file-refl, stamp_of_parts}
use Rattle.pg_register.specs.declared.flag.Flag.{Flag}
use Rattle.pg_register.specs.declared.place.Place.{Place}
use Rattle.pg_entries.specs.declared.entry.Entry.{Entry}
use Rattle.pg_names.specs.declared.attributes.Attributes.{Attributes}
use Rattle.pg_names.specs.Same.{is_same_entry, is_same_flag, is_same_flags, is_same_own, is_same_place, is_same_stamp, is_same_truth}

truth-true : (a b : Bool) → is_same_truth a b ≡ true → a ≡ b
truth-true true b h = sym h
truth-true false true h = absurd (false≢true h)
truth-true false false h = refl

truth-refl : (a : Bool) → is_same_truth a a ≡ true
truth-refl true = refl
truth-refl false = refl

numbers : (a b : ℕ) → (a == b) ≡ true → a ≡ b
numbers a b h = (Decides-eqb a b).0 h

number-refl : (a : ℕ) → (a == a) ≡ true
number-refl a = (Decides-eqb a a).1 refl

stamp-true : (a b : Stamp) → is_same_stamp a b ≡ true → a ≡ b
stamp-true a b h =
    let x = and_parts (a.time == b.time) _ h in
    stamp_of_parts a.time b.time a.server b.server (numbers a.time b.time x.0) (numbers a.server b.server x.1)

place_of_parts : (s t : Stamp) (p q : FileId) (m n : List ℕ) (k l : Bool) → s ≡ t → p ≡ q → m ≡ n → k ≡ l → ◌≡◌ {A = Place} (record { stamp = s; parent = p; name = m; live = k }) (record { stamp = t; parent = q; name = n; live = l })
place_of_parts s t p q m n k l a b c d = cc

pub place-true : (a b : Place) → is_same_place a b ≡ true → a ≡ b
place-true a b h =
    let x = and_parts (is_same_stamp a.stamp b.stamp) _ h in
    let y = and_parts (is_same_file a.parent b.parent) _ x.1 in
    let z = and_parts (bytes_eq a.name b.name) _ y.1 in
    place_of_parts a.stamp b.stamp a.parent b.parent a.name b.name a.live b.live (stamp-true a.stamp b.stamp x.0) (is_same_file-true a.parent b.parent y.0) ((bytes_eq-Decides a.name b.name).0 z.0) (truth-true a.live b.live z.1)

pub place-refl : (a : Place) → is_same_place a a ≡ true
place-refl a =
    and_from (is_same_stamp a.stamp a.stamp) _ (and_from (a.stamp.time == a.stamp.time) _ (number-refl a.stamp.time) (number-refl a.stamp.server))
    (and_from (is_same_file a.parent a.parent) _ (is_same_file-refl a.parent)
    (and_from (bytes_eq a.name a.name) _ ((bytes_eq-Decides a.name a.name).1 refl) (truth-refl a.live)))

flag_of_parts : (s t m n k l : ℕ) (a b : Bool) → s ≡ t → m ≡ n → k ≡ l → a ≡ b → ◌≡◌ {A = Flag} (record { server = s; birth = m; number = k; raised = a }) (record { server = t; birth = n; number = l; raised = b })
flag_of_parts s t m n k l a b e f g h = cc

pub flag-true : (a b : Flag) → is_same_flag a b ≡ true → a ≡ b
flag-true a b h =
    let x = and_parts (a.server == b.server) _ h in
    let y = and_parts (a.birth == b.birth) _ x.1 in
    let z = and_parts (a.number == b.number) _ y.1 in
    flag_of_parts a.server b.server a.birth b.birth a.number b.number a.raised b.raised (numbers a.server b.server x.0) (numbers a.birth b.birth y.0) (numbers a.number b.number z.0) (truth-true a.raised b.raised z.1)

pub flag-refl : (a : Flag) → is_same_flag a a ≡ true
flag-refl a =
    and_from (a.server == a.server) _ (number-refl a.server)
    (and_from (a.birth == a.birth) _ (number-refl a.birth) (and_from (a.number == a.number) _ (number-refl a.number) (truth-refl a.raised)))

flags_of_parts : (f g : Flag) (fs gs : List Flag) → f ≡ g → fs ≡ gs → ◌≡◌ {A = List Flag} (f ∷ fs) (g ∷ gs)
flags_of_parts f g fs gs a b = cc

pub flags-true : (a b : List Flag) → is_same_flags a b ≡ true → a ≡ b
flags-true [] [] h = refl
flags-true [] (g ∷ gs) h = absurd (false≢true h)
flags-true (f ∷ fs) [] h = absurd (false≢true h)
flags-true (f ∷ fs) (g ∷ gs) h = let x = and_parts (is_same_flag f g) _ h in flags_of_parts f g fs gs (flag-true f g x.0) (flags-true fs gs x.1)

pub flags-refl : (a : List Flag) → is_same_flags a a ≡ true
flags-refl [] = refl
flags-refl (f ∷ fs) = and_from (is_same_flag f f) _ (flag-refl f) (flags-refl fs)

pub own_of_parts : (p q : Place) (fs gs : List Flag) → p ≡ q → fs ≡ gs → ◌≡◌ {A = Attributes} (record { place = p; flags = fs }) (record { place = q; flags = gs })
own_of_parts p q fs gs a b = cc

pub own-true : (a b : Attributes) → is_same_own a b ≡ true → a ≡ b
own-true a b h =
    let x = and_parts (is_same_place a.place b.place) _ h in
    own_of_parts a.place b.place a.flags b.flags (place-true a.place b.place x.0) (flags-true a.flags b.flags x.1)

pub own-refl : (a : Attributes) → is_same_own a a ≡ true
own-refl a = and_from (is_same_place a.place a.place) _ (place-refl a.place) (flags-refl a.flags)

pub entry_of_parts : (c d : FileId) (p q : Place) (fs gs : List Flag) → c ≡ d → p ≡ q → fs ≡ gs → ◌≡◌ {A = Entry} (record { child = c; place = p; flags = fs }) (record { child = d; place = q; flags = gs })
entry_of_parts c d p q fs gs a b e = cc

pub entry-true : (a b : Entry) → is_same_entry a b ≡ true → a ≡ b
entry-true a b h =
    let x = and_parts (is_same_file a.child b.child) _ h in
    let y = and_parts (is_same_place a.place b.place) _ x.1 in
    entry_of_parts a.child b.child a.place b.place a.flags b.flags (is_same_file-true a.child b.child x.0) (place-true a.place b.place y.0) (flags-true a.flags b.flags y.1)

pub entry-refl : (a : Entry) → is_same_entry a a ≡ true
entry-refl a = and_from (is_same_file a.child a.child) _ (is_same_file-refl a.child) (and_from (is_same_place a.place a.place) _ (place-refl a.place) (flags-refl a.flags))
