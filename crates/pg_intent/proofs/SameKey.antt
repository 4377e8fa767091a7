-- Keys: the derived test is the one of the definition, and it tells whether two keys are one.
use Rattle.std.proofs.Common.{ℕ, ◌≡◌, ◌∙◌, Bool, true, false, ◌&&◌, eqb, refl, sym, ap}
use Rattle.std.proofs.lemmas.Bool.{and_parts, and_from, eq-eqb, eqb-true}
use Rattle.std.proofs.lemmas.Bool.Decides.{same_from_decides}
use mathlib.Core.Path.{fun_ext}
use Rattle.pg_base.specs.declared.id.Kind.{Kind}
use Rattle.pg_base.specs.declared.id.Kind.TheVariants.{Dir, File}
use Rattle.pg_base.specs.declared.id.FileId.{FileId}
use Rattle.pg_base.specs.Id.{is_same_file}
use Rattle.pg_base.proofs.Orders.{file_of_parts, is_same_file-true, is_same_file-refl}
use Rattle.pg_base.specs.contracts.id.FileIdPartialEq.TheImpl as file
use Rattle.pg_intent.specs.declared.key.IntentKey.{IntentKey}
use Rattle.pg_intent.specs.declared.key.IntentKey.TheVariants as key
use Rattle.pg_intent.specs.Key.{is_same_key}
use Rattle.pg_intent.specs.contracts.key.IntentKeyPartialEq.TheImpl as derived

-- ---- the derived tests

abbrev same_file : FileId → FileId → Bool
same_file = (file.eq-value).it

numbers : (k : Kind) (s t n m : ℕ) → (eqb s t && eqb n m) ≡ true → ◌≡◌ {A = FileId} (record { kind = k; server = s; number = n }) (record { kind = k; server = t; number = m })
numbers k s t n m h =
    let p = and_parts (eqb s t) (eqb n m) h in
    file_of_parts k k s t n m refl (eqb-true s t p.0) (eqb-true n m p.1)

parts : (k j : Kind) (s t n m : ℕ) → same_file (record { kind = k; server = s; number = n }) (record { kind = j; server = t; number = m }) ≡ true
    → ◌≡◌ {A = FileId} (record { kind = k; server = s; number = n }) (record { kind = j; server = t; number = m })
parts Dir Dir s t n m h = numbers Dir s t n m h
parts File File s t n m h = numbers File s t n m h
parts Dir File s t n m h = absurd (let e : false ≡ true = h in cc)
parts File Dir s t n m h = absurd (let e : false ≡ true = h in cc)

itself : (k : Kind) (s n : ℕ) → same_file (record { kind = k; server = s; number = n }) (record { kind = k; server = s; number = n }) ≡ true
itself Dir s n = and_from (eqb s s) (eqb n n) (eq-eqb s s refl) (eq-eqb n n refl)
itself File s n = and_from (eqb s s) (eqb n n) (eq-eqb s s refl) (eq-eqb n n refl)

same_file_is : (a b : FileId) → same_file a b ≡ is_same_file a b
same_file_is a b =
    same_from_decides {P = a ≡ b} (same_file a b) (is_same_file a b)
    (parts a.kind b.kind a.server b.server a.number b.number, λ e. ap (same_file a) (sym e) ∙ itself a.kind a.server a.number)
    (is_same_file-true a b, λ e. ap (is_same_file a) (sym e) ∙ is_same_file-refl a)

abbrev pub same_key : IntentKey → IntentKey → Bool
same_key = (derived.eq-value).it

-- it is that of the definition
pub test_of : (a b : IntentKey) → same_key a b ≡ is_same_key a b
test_of (key.Bye f b p) (key.Bye g c q) = ap (λ t. t && (eqb b c && eqb p q)) (same_file_is f g)
test_of (key.Seek f) (key.Seek g) = same_file_is f g
test_of (key.Fill f) (key.Fill g) = same_file_is f g
test_of (key.Patch d f) (key.Patch e g) = ap (λ t. t && same_file f g) (same_file_is d e) ∙ ap (λ t. is_same_file d e && t) (same_file_is f g)
test_of (key.Confirm d f) (key.Confirm e g) = ap (λ t. t && same_file f g) (same_file_is d e) ∙ ap (λ t. is_same_file d e && t) (same_file_is f g)
test_of (key.Leave f) (key.Leave g) = same_file_is f g
test_of a b = refl

pub same_key_is : same_key ≡ is_same_key
same_key_is = fun_ext (λ (a : IntentKey). fun_ext (λ (b : IntentKey). test_of a b))

-- ---- the test of the definition

pub is_same_key-true : (a b : IntentKey) → is_same_key a b ≡ true → a ≡ b
is_same_key-true (key.Bye f b p) (key.Bye g c q) h =
    let x = and_parts (is_same_file f g) (eqb b c && eqb p q) h in
    let y = and_parts (eqb b c) (eqb p q) x.1 in
    let s = is_same_file-true f g x.0 in
    let t = eqb-true b c y.0 in
    let u = eqb-true p q y.1 in
    cc
is_same_key-true (key.Seek f) (key.Seek g) h = ap key.Seek (is_same_file-true f g h)
is_same_key-true (key.Fill f) (key.Fill g) h = ap key.Fill (is_same_file-true f g h)
is_same_key-true (key.Patch d f) (key.Patch e g) h =
    let x = and_parts (is_same_file d e) (is_same_file f g) h in
    let s = is_same_file-true d e x.0 in
    let t = is_same_file-true f g x.1 in
    cc
is_same_key-true (key.Confirm d f) (key.Confirm e g) h =
    let x = and_parts (is_same_file d e) (is_same_file f g) h in
    let s = is_same_file-true d e x.0 in
    let t = is_same_file-true f g x.1 in
    cc
is_same_key-true (key.Leave f) (key.Leave g) h = ap key.Leave (is_same_file-true f g h)
is_same_key-true a b h = absurd (let e : false ≡ true = h in cc)

pub is_same_key-refl : (a : IntentKey) → is_same_key a a ≡ true
is_same_key-refl (key.Bye f b p) = and_from (is_same_file f f) (eqb b b && eqb p p) (is_same_file-refl f) (and_from (eqb b b) (eqb p p) (eq-eqb b b refl) (eq-eqb p p refl))
is_same_key-refl (key.Seek f) = is_same_file-refl f
is_same_key-refl (key.Fill f) = is_same_file-refl f
is_same_key-refl (key.Patch d f) = and_from (is_same_file d d) (is_same_file f f) (is_same_file-refl d) (is_same_file-refl f)
is_same_key-refl (key.Confirm d f) = and_from (is_same_file d d) (is_same_file f f) (is_same_file-refl d) (is_same_file-refl f)
is_same_key-refl (key.Leave f) = is_same_file-refl f

-- whatever is one with a key is one with itself told from the other side
pub is_same_key-symm : (a b : IntentKey) → is_same_key a b ≡ is_same_key b a
is_same_key-symm a b =
    same_from_decides {P = a ≡ b} (is_same_key a b) (is_same_key b a)
    (is_same_key-true a b, λ e. ap (is_same_key a) (sym e) ∙ is_same_key-refl a)
    (λ h. sym (is_same_key-true b a h), λ e. ap (is_same_key b) e ∙ is_same_key-refl b)
