-- The test of names tells which bytes are the name of a place.
use Rattle.std.proofs.Common.{◌≡◌, ℕ, zero, suc, ◌<◌, ◌^◌, Bool, true, false, eqb, List, [], ◌∷◌, length, refl, sym, subst, arith, inl, inr, All}
use Rattle.std.specs.Prelude.{◌≢◌, ◌&&◌, ◌||◌, not, nat_le, IsTrue, ◌↔◌}
use Rattle.std.specs.List.{list_all}
use Rattle.std.proofs.lemmas.Bool.{cases_lt, leb-true, le-leb, eqb-true, eq-eqb, and_parts, or_left, or_right, and_from}
use Rattle.std.proofs.lemmas.List.Elements.{All-head, All-tail, All-cons, All-nil}
use Rattle.pg_base.specs.Id.{Fits}
use Rattle.pg_base.specs.declared.id.FileId.{FileId}
use Rattle.pg_base.specs.declared.id.Kind.{Kind}
use Rattle.pg_base.specs.declared.id.Kind.TheVariants.{Dir, File}
use Rattle.pg_entries.specs.Names.{same_name}
use Rattle.pg_entries.proofs.Claims.{same_name-true, same_name-is}
use Rattle.pg_path.specs.Name.{IsNameByte, IsClientName}
use Rattle.pg_register.specs.Place.{IsPlaceName, tilde_name}
use Rattle.pg_packet_fields.specs.Names.{is_client_name, is_empty, is_name_byte, is_place_name, is_some_below, is_tilde_name}

pub either_true : {P : Type 0} (a b : Bool) → (a ≡ true → P) → (b ≡ true → P) → (a || b) ≡ true → P
either_true true b left right e = left refl
either_true false b left right e = right e

-- ---- some number below

some_case : (t : Bool) (n : ℕ) (test : ℕ → Bool) → (is_some_below n test ≡ true → (k : ℕ) × (k < n) × (test k ≡ true))
    → test n ≡ t → (t || is_some_below n test) ≡ true → (k : ℕ) × (k < suc n) × (test k ≡ true)
some_case true n test below here e = (n, omega arith, here)
some_case false n test below here e = let m = below e in let lt = m.1 in (m.0, omega (arith, lt), m.2)

some_is : (n : ℕ) (test : ℕ → Bool) → is_some_below n test ≡ true → (k : ℕ) × (k < n) × (test k ≡ true)
unfolding is_some_below
some_is zero test e = absurd cc
some_is (suc n) test e = some_case (test n) n test (λ h. some_is n test h) refl e

some_there : (n : ℕ) (test : ℕ → Bool) (k : ℕ) → k < n → test k ≡ true → is_some_below n test ≡ true
unfolding is_some_below
some_there zero test k lt e = absurd (omega arith)
some_there (suc n) test k lt e =
    elim (cases_lt k n) [
      | inl less ↦ or_right (test n) (is_some_below n test) (some_there n test k less e)
      | inr le ↦ or_left (test n) (is_some_below n test) (let same : k ≡ n = omega arith in subst (λ (j : ℕ). test j ≡ true) same e)
    ]

-- ---- client names

no_true : (t : Bool) → t ≡ true → not t ≡ true → ⊥
no_true true h e = absurd cc
no_true false h e = absurd cc

unlike : (a b : ℕ) → not (eqb a b) ≡ true → a ≢ b
unlike a b e same = no_true (eqb a b) (eq-eqb a b same) e

pub differs : (t : Bool) (a b : ℕ) → eqb a b ≡ t → (a ≡ b → ⊥) → t ≡ false
differs true a b e apart = absurd (apart (eqb-true a b e))
differs false a b e apart = refl

byte_is : (b : ℕ) → is_name_byte b ≡ true → IsNameByte b
byte_is b e =
    let p = and_parts (nat_le 33 b && nat_le b 126) (not (eqb b 47) && not (eqb b 126)) e in
    let q = and_parts (nat_le 33 b) (nat_le b 126) p.0 in
    let r = and_parts (not (eqb b 47)) (not (eqb b 126)) p.1 in
    record { least = leb-true 33 b q.0; most = leb-true b 126 q.1; no_slash = unlike b 47 r.0; no_tilde = unlike b 126 r.1 }

byte_test : (b : ℕ) → IsNameByte b → is_name_byte b ≡ true
byte_test b fits =
    let least : nat_le 33 b ≡ true = le-leb 33 b fits.least in
    let most : nat_le b 126 ≡ true = le-leb b 126 fits.most in
    let slash : eqb b 47 ≡ false = differs (eqb b 47) b 47 refl fits.no_slash in
    let tilde : eqb b 126 ≡ false = differs (eqb b 126) b 126 refl fits.no_tilde in
    rw (least, most, slash, tilde) refl

each_is : (text : List ℕ) → list_all is_name_byte text ≡ true → All IsNameByte text
each_is [] e = All-nil IsNameByte
each_is (b ∷ bs) e =
    let p = and_parts (is_name_byte b) (list_all is_name_byte bs) e in
    All-cons IsNameByte b bs (byte_is b p.0) (each_is bs p.1)

each_test : (text : List ℕ) → All IsNameByte text → list_all is_name_byte text ≡ true
each_test [] h = refl
each_test (b ∷ bs) h = and_from (is_name_byte b) (list_all is_name_byte bs) (byte_test b (All-head IsNameByte b bs h)) (each_test bs (All-tail IsNameByte b bs h))

client_is : (text : List ℕ) → is_client_name text ≡ true → IsClientName text
client_is text e =
    let p = and_parts (nat_le 1 (length text) && nat_le (length text) 255) (list_all is_name_byte text) e in
    let q = and_parts (nat_le 1 (length text)) (nat_le (length text) 255) p.0 in
    record { some = leb-true 1 (length text) q.0; most = leb-true (length text) 255 q.1; each = each_is text p.1 }

client_test : (text : List ℕ) → IsClientName text → is_client_name text ≡ true
client_test text fits =
    and_from (nat_le 1 (length text) && nat_le (length text) 255) (list_all is_name_byte text)
    (and_from (nat_le 1 (length text)) (nat_le (length text) 255) (le-leb 1 (length text) fits.some) (le-leb (length text) 255 fits.most))
    (each_test text fits.each)

-- ---- names that are made of ids

tilde_is : (kind : Kind) (text : List ℕ) → is_tilde_name kind text ≡ true → (id : FileId) × Fits id × (text ≡ tilde_name id)
unfolding is_tilde_name
tilde_is kind text e =
    let s = some_is (2 ^ 32) (λ server. is_some_below (2 ^ 64) (λ number. same_name text (tilde_name (record { kind = kind; server = server; number = number })))) e in
    let n = some_is (2 ^ 64) (λ number. same_name text (tilde_name (record { kind = kind; server = s.0; number = number }))) s.2 in
    (record { kind = kind; server = s.0; number = n.0 }, record { server = s.1; number = n.1 }, same_name-true text (tilde_name (record { kind = kind; server = s.0; number = n.0 })) n.2)

tilde_test : (id : FileId) (text : List ℕ) → Fits id → text ≡ tilde_name id → is_tilde_name id.kind text ≡ true
unfolding is_tilde_name
tilde_test id text fits same =
    some_there (2 ^ 32) (λ server. is_some_below (2 ^ 64) (λ number. same_name text (tilde_name (record { kind = id.kind; server = server; number = number })))) id.server fits.server
    (some_there (2 ^ 64) (λ number. same_name text (tilde_name (record { kind = id.kind; server = id.server; number = number }))) id.number fits.number (same_name-is text (tilde_name id) same))

of_kind : (k : Kind) (text : List ℕ) → is_tilde_name k text ≡ true → (is_tilde_name Dir text || is_tilde_name File text) ≡ true
of_kind Dir text e = or_left (is_tilde_name Dir text) (is_tilde_name File text) e
of_kind File text e = or_right (is_tilde_name Dir text) (is_tilde_name File text) e

-- ---- names

empty_is : (text : List ℕ) → is_empty text ≡ true → text ≡ []
empty_is [] e = refl
empty_is (b ∷ bs) e = absurd cc

empty_test : (text : List ℕ) → text ≡ [] → is_empty text ≡ true
empty_test [] e = refl
empty_test (b ∷ bs) e = absurd cc

pub place_name_is : (text : List ℕ) → is_place_name text ≡ true → IsPlaceName text
unfolding is_place_name
place_name_is text e =
    either_true {P = IsPlaceName text} (is_empty text) (is_client_name text || (is_tilde_name Dir text || is_tilde_name File text))
    (λ none. inl (empty_is text none))
    (λ more. either_true {P = IsPlaceName text} (is_client_name text) (is_tilde_name Dir text || is_tilde_name File text)
    (λ client. inr (inl (client_is text client)))
    (λ tilde. inr (inr (either_true {P = (id : FileId) × Fits id × (text ≡ tilde_name id)} (is_tilde_name Dir text) (is_tilde_name File text) (tilde_is Dir text) (tilde_is File text) tilde))) more) e

pub place_name_test : (text : List ℕ) → IsPlaceName text → is_place_name text ≡ true
unfolding is_place_name
place_name_test text (inl none) = or_left (is_empty text) (is_client_name text || (is_tilde_name Dir text || is_tilde_name File text)) (empty_test text none)
place_name_test text (inr (inl client)) =
    or_right (is_empty text) (is_client_name text || (is_tilde_name Dir text || is_tilde_name File text))
    (or_left (is_client_name text) (is_tilde_name Dir text || is_tilde_name File text) (client_test text client))
place_name_test text (inr (inr named)) =
    or_right (is_empty text) (is_client_name text || (is_tilde_name Dir text || is_tilde_name File text))
    (or_right (is_client_name text) (is_tilde_name Dir text || is_tilde_name File text)
    (of_kind named.0.kind text (tilde_test named.0 text named.1 named.2)))

same_bool : (a b : Bool) → (a ≡ true → b ≡ true) → (b ≡ true → a ≡ true) → a ≡ b
same_bool true b f g = sym (f refl)
same_bool false true f g = g refl
same_bool false false f g = refl

-- what tells it is this test
pub name_test : (b : Bool) (text : List ℕ) → IsTrue b ↔ IsPlaceName text → b ≡ is_place_name text
name_test b text says = same_bool b (is_place_name text) (λ h. place_name_test text (says.0 h)) (λ h. says.1 (place_name_is text h))
