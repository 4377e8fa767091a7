-- The tests of components and of client names tell what the relations on paths say, and so does the
-- check of a whole text.
use Rattle.std.proofs.Common.{ℕ, suc, ◌≡◌, ◌<◌, ◌≤◌, ◌-◌, ◌==◌, Bool, true, false, List, [], ◌∷◌, Some, None, Ok, length, get_or, All, arith, refl, sym, ap, ◌∙◌, inl, inr}
use Rattle.std.specs.Prelude.{◌≢◌, ◌||◌, ◌↔◌, IsTrue, not, nat_lt, slice_index}
use Rattle.std.specs.List.{position, position_or_len, slice_get}
use Rattle.std.proofs.lemmas.Bool.{false≢true, le-leb, le-ltb}
use Rattle.std.proofs.lemmas.List.Sums.{position_or_len_is}
use Rattle.std.proofs.lemmas.Option.{get_or_from_slice_get}
use Rattle.pg_path.specs.First.{IsFirstWithout}
use Rattle.pg_path.specs.Name.{IsClientName}
use Rattle.pg_path.specs.Path.{HasBadName, IsComponent, IsPath, parts_of, path_text}
use Rattle.pg_path.specs.Tested.{is_client_name, is_component}
use Rattle.pg_path.proofs.Tested.{client_name, client_name_is, component, component_is}
use Rattle.pg_pieces.specs.pg_call.declared.refusal.Refusal.TheVariants.{BadPath}
use Rattle.pg_lookup.specs.Walk.{refused}
use Rattle.pg_pieces.proofs.pg_house.Truths.{bool_cases, chosen_false}
use Rattle.pg_checks.specs.Paths.{all_of, checked_parts, is_none, last_of, path_of}

-- ---- components and client names

no_component : (part : List ℕ) → ¬ (IsComponent part) → is_component part ≡ false
no_component part h = elim (bool_cases (is_component part)) [ inl e ↦ absurd (h (component_is part e)) | inr e ↦ e ]

-- a test that tells client names is the test of client names
tells_names : (t : Bool) (name : List ℕ) → (IsTrue t ↔ IsClientName name) → t ≡ is_client_name name
tells_names true name h = sym (client_name name (h.0 refl))
tells_names false name h = elim (bool_cases (is_client_name name)) [ inl e ↦ absurd (false≢true (h.1 (client_name_is name e))) | inr e ↦ sym e ]

-- ---- the last component

last_at : (parts : List (List ℕ)) (d : List ℕ) → 0 < length parts → get_or parts (length parts - 1) d ≡ last_of parts
last_at [] d h = absurd (omega arith)
last_at (part ∷ []) d h = refl
last_at (part ∷ next ∷ parts) d h =
    let e : length (part ∷ next ∷ parts) - 1 ≡ suc (length (next ∷ parts) - 1) = omega arith in
    ap (λ k. get_or (part ∷ next ∷ parts) k d) e ∙ last_at (next ∷ parts) d (omega arith)

pub last_is : (parts : List (List ℕ)) (k : ℕ) (part : List ℕ) → 0 < length parts → k ≡ length parts - 1 → slice_get parts k ≡ Some part → part ≡ last_of parts
last_is parts k part some e at =
    sym (get_or_from_slice_get parts k part part at) ∙ ap (λ i. get_or parts i part) e ∙ last_at parts part some

-- there is no last component, or it is tested
pub ends_in_name : (parts : List (List ℕ)) (t : Bool) (name : List ℕ) → (length parts == 0) ≡ false → name ≡ last_of parts → (IsTrue t ↔ IsClientName name) → t ≡ (is_none parts || is_client_name (last_of parts))
ends_in_name [] t name none e h = absurd (false≢true (sym none))
ends_in_name (part ∷ parts) t name none e h = tells_names t name h ∙ ap is_client_name e

-- ---- whole texts

abbrev is_bad : List ℕ → Bool
is_bad part = not (is_component part)

first_bad : (parts : List (List ℕ)) (i : ℕ) → IsFirstWithout IsComponent parts i → position is_bad parts ≡ Some i
first_bad parts i h =
    let inside = h.inside in
    let at : position_or_len is_bad parts ≡ i = position_or_len_is is_bad parts i [] (omega arith)
    (λ k lt. ap not (component (get_or parts k []) (h.before k [] (omega arith) lt)))
    (λ lt. ap not (no_component (get_or parts i []) (h.lacks []))) in
    let within : nat_lt i (length parts) ≡ true = le-leb (suc i) (length parts) (omega arith) in
    rw (at, within) refl

none_bad : (parts : List (List ℕ)) → All IsComponent parts → position is_bad parts ≡ None
none_bad parts each =
    let at : position_or_len is_bad parts ≡ length parts = position_or_len_is is_bad parts (length parts) [] (omega arith)
    (λ k lt. ap not (component (get_or parts k []) (each k [] lt)))
    (λ lt. absurd (omega arith)) in
    let within : nat_lt (length parts) (length parts) ≡ false = le-ltb (length parts) (length parts) (omega arith) in
    rw (at, within) refl

-- a text with a slash in front, neither too long nor too deep, is told by its components
checked : (text : List ℕ) → slice_index text 0 ≡ 47 → length text ≤ 4096 → length (parts_of text) ≤ 64 → path_of text ≡ checked_parts (parts_of text)
checked text slash short few =
    let front : not (slice_index text 0 == 47) ≡ false = ap (λ b. not (b == 47)) slash in
    let long : nat_lt 4096 (length text) ≡ false = le-ltb 4096 (length text) short in
    let deep : nat_lt 64 (length (parts_of text)) ≡ false = le-ltb 64 (length (parts_of text)) few in
    chosen_false (not (slice_index text 0 == 47)) _ _ front
    ∙ chosen_false (nat_lt 4096 (length text)) _ _ long
    ∙ chosen_false (nat_lt 64 (length (parts_of text))) _ _ deep

pub bad_number : (text : List ℕ) (number : ℕ) → HasBadName text number → number ≤ 64
bad_number text number h =
    let few = h.few in
    let e = h.first.1 in
    let inside = h.first.2.inside in
    omega arith

pub bad_component : (text : List ℕ) (number : ℕ) → HasBadName text number → path_of text ≡ refused (BadPath number)
bad_component text number h =
    let i = h.first.0 in
    let e = h.first.1 in
    checked text h.slash h.short h.few
    ∙ ap (all_of (parts_of text)) (first_bad (parts_of text) i h.first.2)
    ∙ ap (λ n. refused (BadPath n)) (sym e)

pub whole_path : (text : List ℕ) (parts : List (List ℕ)) → IsPath parts → text ≡ path_text parts → parts ≡ parts_of text → path_of text ≡ Ok parts
whole_path text parts h spelled e =
    let slash : slice_index text 0 ≡ 47 = ap (λ t. slice_index t 0) spelled in
    let size : length text ≡ length (path_text parts) = ap length spelled in
    let short = h.short in
    let few = h.few in
    let count : length parts ≡ length (parts_of text) = ap length e in
    checked text slash (omega arith) (omega arith)
    ∙ ap checked_parts (sym e)
    ∙ ap (all_of parts) (none_bad parts h.each)
