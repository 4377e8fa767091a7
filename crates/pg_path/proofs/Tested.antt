-- The tests of components and of client names tell what the relations say.
use Rattle.std.proofs.Common.{ℕ, ◌≡◌, ◌==◌, Bool, true, false, List, [], ◌∷◌, length, All, sym, ap, ◌∙◌, refl, inl, inr}
use Rattle.std.specs.Prelude.{◌≢◌, ◌&&◌, not, nat_le}
use Rattle.std.specs.List.{list_all}
use Rattle.std.proofs.lemmas.Bool.{and_from, and_parts, false≢true, le-leb, leb-true}
use Rattle.std.proofs.lemmas.Bool.Decides.{eqb_tells}
use Rattle.std.proofs.lemmas.List.Elements.{All-cons, All-head, All-nil, All-tail}
use Rattle.pg_path.specs.Name.{IsClientName, IsComponentByte, IsNameByte}
use Rattle.pg_path.specs.Path.{IsComponent}
use Rattle.pg_path.specs.Tested.{is_client_name, is_component, is_component_byte}

-- ---- bytes

differs : (a b : ℕ) → a ≢ b → (a == b) ≡ false
differs a b apart = elim (eqb_tells a b) [ inl h ↦ absurd (apart h.1) | inr h ↦ h.0 ]

apart_by : (a b : ℕ) → not (a == b) ≡ true → a ≢ b
apart_by a b h e = elim (eqb_tells a b) [ inl p ↦ (let g : not (a == b) ≡ false = ap not p.0 in absurd (false≢true (sym g ∙ h))) | inr p ↦ absurd (p.1 e) ]

component_byte : (byte : ℕ) → IsComponentByte byte → is_component_byte byte ≡ true
component_byte byte h =
    and_from (nat_le 33 byte) (nat_le byte 126 && not (byte == 47)) (le-leb 33 byte h.least)
    (and_from (nat_le byte 126) (not (byte == 47)) (le-leb byte 126 h.most) (ap not (differs byte 47 h.no_slash)))

component_byte_is : (byte : ℕ) → is_component_byte byte ≡ true → IsComponentByte byte
component_byte_is byte e =
    let p = and_parts (nat_le 33 byte) (nat_le byte 126 && not (byte == 47)) e in
    let q = and_parts (nat_le byte 126) (not (byte == 47)) p.1 in
    record { least = leb-true 33 byte p.0; most = leb-true byte 126 q.0; no_slash = apart_by byte 47 q.1 }

abbrev is_name_byte : ℕ → Bool
is_name_byte byte = is_component_byte byte && not (byte == 126)

name_byte : (byte : ℕ) → IsNameByte byte → is_name_byte byte ≡ true
name_byte byte h =
    and_from (is_component_byte byte) (not (byte == 126))
    (component_byte byte (record { least = h.least; most = h.most; no_slash = h.no_slash }))
    (ap not (differs byte 126 h.no_tilde))

name_byte_is : (byte : ℕ) → is_name_byte byte ≡ true → IsNameByte byte
name_byte_is byte e =
    let p = and_parts (is_component_byte byte) (not (byte == 126)) e in
    let b = component_byte_is byte p.0 in
    record { least = b.least; most = b.most; no_slash = b.no_slash; no_tilde = apart_by byte 126 p.1 }

-- ---- texts of bytes

all_pass : {X : Type 0} (P : X → Type 0) (test : X → Bool) → ((x : X) → P x → test x ≡ true) → (xs : List X) → All P xs → list_all test xs ≡ true
all_pass P test passes [] h = refl
all_pass P test passes (x ∷ xs) h = and_from (test x) (list_all test xs) (passes x (All-head P x xs h)) (all_pass P test passes xs (All-tail P x xs h))

all_have : {X : Type 0} (P : X → Type 0) (test : X → Bool) → ((x : X) → test x ≡ true → P x) → (xs : List X) → list_all test xs ≡ true → All P xs
all_have P test has [] e = All-nil P
all_have P test has (x ∷ xs) e =
    let p = and_parts (test x) (list_all test xs) e in
    All-cons P x xs (has x p.0) (all_have P test has xs p.1)

pub component : (part : List ℕ) → IsComponent part → is_component part ≡ true
component part h =
    and_from (nat_le 1 (length part)) (nat_le (length part) 288 && list_all is_component_byte part) (le-leb 1 (length part) h.some)
    (and_from (nat_le (length part) 288) (list_all is_component_byte part) (le-leb (length part) 288 h.most) (all_pass IsComponentByte is_component_byte component_byte part h.each))

pub component_is : (part : List ℕ) → is_component part ≡ true → IsComponent part
component_is part e =
    let p = and_parts (nat_le 1 (length part)) (nat_le (length part) 288 && list_all is_component_byte part) e in
    let q = and_parts (nat_le (length part) 288) (list_all is_component_byte part) p.1 in
    record { some = leb-true 1 (length part) p.0; most = leb-true (length part) 288 q.0; each = all_have IsComponentByte is_component_byte component_byte_is part q.1 }

pub client_name : (name : List ℕ) → IsClientName name → is_client_name name ≡ true
client_name name h =
    and_from (nat_le 1 (length name)) (nat_le (length name) 255 && list_all is_name_byte name) (le-leb 1 (length name) h.some)
    (and_from (nat_le (length name) 255) (list_all is_name_byte name) (le-leb (length name) 255 h.most) (all_pass IsNameByte is_name_byte name_byte name h.each))

pub client_name_is : (name : List ℕ) → is_client_name name ≡ true → IsClientName name
client_name_is name e =
    let p = and_parts (nat_le 1 (length name)) (nat_le (length name) 255 && list_all is_name_byte name) e in
    let q = and_parts (nat_le (length name) 255) (list_all is_name_byte name) p.1 in
    record { some = leb-true 1 (length name) p.0; most = leb-true (length name) 255 q.0; each = all_have IsNameByte is_name_byte name_byte_is name q.1 }
