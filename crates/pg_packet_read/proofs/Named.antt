-- What a call is about is a field.
use Rattle.std.proofs.Common.{◌≡◌, ℕ, zero, suc, ◌<◌, ◌^◌, Bool, true, false, cond, List, length, Option, Some, None, refl, sym, ap, subst, ◌∙◌, arith, inl, inr, All}
use Rattle.std.proofs.lemmas.Bool.{cases_lt}
use Rattle.std.proofs.lemmas.List.{get_or_past}
use Rattle.std.proofs.lemmas.List.Elements.{All-get_or}
use Rattle.pg_base.specs.Id.{Fits, spelling}
use Rattle.pg_base.specs.declared.id.FileId.{FileId}
use Rattle.pg_base.specs.declared.id.Kind.{Kind}
use Rattle.pg_base.specs.declared.id.Kind.TheVariants.{Dir, File}
use Rattle.pg_base.proofs.Spellings.{spelling-same}
use Rattle.pg_call.specs.Call.{target_word}
use Rattle.pg_call.specs.declared.call.Target.{Target}
use Rattle.pg_call.specs.declared.call.Target.TheVariants as target
use Rattle.pg_codec.specs.Laws.{AreBytes, IsField}
use Rattle.pg_entries.specs.Names.{same_name}
use Rattle.pg_entries.proofs.Claims.{same_name-true, same_name-is}
use Rattle.pg_packet_write.specs.Calls.{SpellsNone, text_bytes}
use Rattle.pg_packet_fields.specs.Values.{IsShortText}
use Rattle.pg_packet_fields.proofs.Joining.{view_is}
use Rattle.pg_packet_fields.proofs.Plain.{text_field}
use Rattle.pg_packet_read.specs.Targets.{IsWholeTarget, either_of, found_below, id_of, id_or_path, spelled_by, target_at, target_of}
use Rattle.pg_words.proofs.WordBytes.{IsWordByte, spelling_word}

one_of : {X : Type 0} (x y : X) → Some x ≡ Some y → x ≡ y
one_of x y e = cc

-- ---- what is found below

below_case : {X : Type 0} (o : Option X) (n : ℕ) (found : ℕ → Option X) (x : X) → (found_below n found ≡ Some x → (k : ℕ) × (k < n) × (found k ≡ Some x))
    → found n ≡ o → either_of o (found_below n found) ≡ Some x → (k : ℕ) × (k < suc n) × (found k ≡ Some x)
below_case (Some y) n found x below here e = let same : y ≡ x = one_of y x e in (n, omega arith, here ∙ ap (λ z. Some z) same)
below_case None n found x below here e = let m = below e in let lt = m.1 in (m.0, omega (arith, lt), m.2)

below_is : {X : Type 0} (n : ℕ) (found : ℕ → Option X) (x : X) → found_below n found ≡ Some x → (k : ℕ) × (k < n) × (found k ≡ Some x)
unfolding found_below
below_is zero found x e = absurd cc
below_is (suc n) found x e = below_case (found n) n found x (λ h. below_is n found x h) refl e

-- one of two that each find only this
left_found : {X : Type 0} (a b : Option X) (x : X) → a ≡ Some x → either_of a b ≡ Some x
left_found a b x e = rw e refl

right_found : {X : Type 0} (a b : Option X) (x : X) → ((y : X) → a ≡ Some y → y ≡ x) → b ≡ Some x → either_of a b ≡ Some x
right_found None b x only e = e
right_found (Some y) b x only e = ap (λ z. Some z) (only y refl)

below_there : {X : Type 0} (n : ℕ) (found : ℕ → Option X) (x : X) (k : ℕ) → ((i : ℕ) (y : X) → i < n → found i ≡ Some y → y ≡ x)
    → k < n → found k ≡ Some x → found_below n found ≡ Some x
unfolding found_below
below_there zero found x k only lt e = absurd (omega arith)
below_there (suc n) found x k only lt e =
    elim (cases_lt k n) [
      | inl less ↦ right_found (found n) (found_below n found) x (λ y h. only n y (omega arith) h) (below_there n found x k (λ i y l h. only i y (omega (arith, l)) h) less e)
      | inr le ↦ left_found (found n) (found_below n found) x (let same : k ≡ n = omega arith in subst (λ (j : ℕ). found j ≡ Some x) same e)
    ]

-- ---- ids

spelled_case : (t : Bool) (text : List ℕ) (id x : FileId) → same_name text (spelling id) ≡ t → cond t (Some id) None ≡ Some x
    → (id ≡ x) × (text ≡ spelling x)
spelled_case true text id x test e = let same : id ≡ x = one_of id x e in (same, same_name-true text (spelling id) test ∙ ap spelling same)
spelled_case false text id x test e = absurd cc

spelled_is : (text : List ℕ) (id x : FileId) → spelled_by text id ≡ Some x → (id ≡ x) × (text ≡ spelling x)
spelled_is text id x e = spelled_case (same_name text (spelling id)) text id x refl e

spelled_here : (text : List ℕ) (id : FileId) → text ≡ spelling id → spelled_by text id ≡ Some id
spelled_here text id same = let test : same_name text (spelling id) ≡ true = same_name-is text (spelling id) same in rw test refl

abbrev id_at : Kind → ℕ → ℕ → FileId
id_at kind server number = record { kind = kind; server = server; number = number }

abbrev ids_by : Kind → List ℕ → ℕ → ℕ → Option FileId
ids_by kind text server number = spelled_by text (id_at kind server number)

-- the id that was found fits, and is what the text spells
pub id_is : (kind : Kind) (text : List ℕ) (x : FileId) → id_of kind text ≡ Some x → Fits x × (text ≡ spelling x)
unfolding id_of
id_is kind text x e =
    let s = below_is (2 ^ 32) (λ server. found_below (2 ^ 64) (ids_by kind text server)) x e in
    let n = below_is (2 ^ 64) (ids_by kind text s.0) x s.2 in
    let same = spelled_is text (id_at kind s.0 n.0) x n.2 in
    let fits : Fits (id_at kind s.0 n.0) = record { server = s.1; number = n.1 } in
    (subst Fits same.0 fits, same.1)

only_it : (text : List ℕ) (id : FileId) → Fits id → text ≡ spelling id → (y : FileId) → Fits y → text ≡ spelling y → y ≡ id
only_it text id fits same y fits_y same_y = spelling-same y id fits_y fits (sym same_y ∙ same)

number_found : (text : List ℕ) (id : FileId) → Fits id → text ≡ spelling id → found_below (2 ^ 64) (ids_by id.kind text id.server) ≡ Some id
number_found text id fits same = below_there (2 ^ 64) (ids_by id.kind text id.server) id id.number
    (λ n y lt e.
    let is = spelled_is text (id_at id.kind id.server n) y e in
    let fits_n : Fits (id_at id.kind id.server n) = record { server = fits.server; number = lt } in
    only_it text id fits same y (subst Fits is.0 fits_n) is.1)
    fits.number (spelled_here text id same)

-- the id that the text spells is found
id_there : (text : List ℕ) (id : FileId) → Fits id → text ≡ spelling id → id_of id.kind text ≡ Some id
unfolding id_of
id_there text id fits same = below_there (2 ^ 32) (λ server. found_below (2 ^ 64) (ids_by id.kind text server)) id id.server
    (λ s y lt e.
    let n = below_is (2 ^ 64) (ids_by id.kind text s) y e in
    let is = spelled_is text (id_at id.kind s n.0) y n.2 in
    let fits_n : Fits (id_at id.kind s n.0) = record { server = lt; number = n.1 } in
    only_it text id fits same y (subst Fits is.0 fits_n) is.1)
    fits.server (number_found text id fits same)

by_kind : (text : List ℕ) (id : FileId) → Fits id → text ≡ spelling id → (k : Kind) → id_of k text ≡ Some id
    → either_of (id_of Dir text) (id_of File text) ≡ Some id
by_kind text id fits same Dir e = left_found (id_of Dir text) (id_of File text) id e
by_kind text id fits same File e = right_found (id_of Dir text) (id_of File text) id
    (λ y h. let is = id_is Dir text y h in only_it text id fits same y is.0 is.1) e

-- ---- targets

pub spelled_target : (text : List ℕ) (id : FileId) → Fits id → text ≡ spelling id → target_of text ≡ target.Id id
unfolding target_of
spelled_target text id fits same =
    ap (λ o. id_or_path o text) (by_kind text id fits same id.kind (id_there text id fits same))

either_is : (a b : Option FileId) (x : FileId) (P : FileId → Type 0) → ((y : FileId) → a ≡ Some y → P y) → ((y : FileId) → b ≡ Some y → P y)
    → either_of a b ≡ Some x → P x
either_is None b x P left right e = right x e
either_is (Some y) b x P left right e = left x e

some_id : (text : List ℕ) (x : FileId) → either_of (id_of Dir text) (id_of File text) ≡ Some x → Fits x × (text ≡ spelling x)
some_id text x e = either_is (id_of Dir text) (id_of File text) x (λ y. Fits y × (text ≡ spelling y)) (id_is Dir text) (id_is File text) e

other_case : (o : Option FileId) (text : List ℕ) → either_of (id_of Dir text) (id_of File text) ≡ o → SpellsNone text → id_or_path o text ≡ target.Path text
other_case None text e none = refl
other_case (Some x) text e none = let is = some_id text x e in absurd (none x is.0 is.1)

pub other_target : (text : List ℕ) → SpellsNone text → target_of text ≡ target.Path text
unfolding target_of
other_target text none = other_case (either_of (id_of Dir text) (id_of File text)) text refl none

-- what was read as an id, and what was not
pub read_target : (text : List ℕ) (id : FileId) → id.server < 2 ^ 32 → id.number < 2 ^ 64 → text ≡ spelling id → target.Id id ≡ target_of text
read_target text id server number same = sym (spelled_target text id (record { server = server; number = number }) same)

nothing_found : (text : List ℕ) → either_of (id_of Dir text) (id_of File text) ≡ None → SpellsNone text
nothing_found text e id fits same =
    let there = by_kind text id fits same id.kind (id_there text id fits same) in
    let wrong : None ≡ Some id = sym e ∙ there in
    absurd cc

to_case : (o : Option FileId) (text : List ℕ) → either_of (id_of Dir text) (id_of File text) ≡ o → IsShortText text
    → IsWholeTarget (id_or_path o text) × (text_bytes (target_word (id_or_path o text)) ≡ text_bytes text)
to_case None text e short = ((short, nothing_found text e), refl)
to_case (Some x) text e short = let is = some_id text x e in (is.0, ap text_bytes (sym is.1))

target_to : (text : List ℕ) → IsShortText text → IsWholeTarget (target_of text) × (text_bytes (target_word (target_of text)) ≡ text_bytes text)
unfolding target_of
target_to text short = to_case (either_of (id_of Dir text) (id_of File text)) text refl short

word_bytes : (text : List ℕ) → All IsWordByte text → AreBytes text
word_bytes text each i =
    elim (cases_lt i (length text)) [
      | inl lt ↦ (let byte = All-get_or IsWordByte text i 0 lt each in let most = byte.1 in omega (arith, most))
      | inr le ↦ rw (get_or_past text i 0 le) (omega arith)
    ]

pub id_short : (id : FileId) → Fits id → IsShortText (spelling id)
id_short id fits =
    let word = spelling_word id fits in
    let few = word.few in
    record { short = omega (arith, few); width = word_bytes (spelling id) word.each }

target_back : (t : Target) → IsWholeTarget t → (text : List ℕ) × IsShortText text × (target_of text ≡ t)
target_back (target.Path text) fits = (text, fits.0, other_target text fits.1)
target_back (target.Id id) fits = (spelling id, id_short id fits, spelled_target (spelling id) id fits refl)

abbrev pub target_bytes : Target → List ℕ
target_bytes t = text_bytes (target_word t)

pub target_field : IsField IsWholeTarget target_bytes target_at
unfolding target_at
target_field = view_is text_field target_of IsWholeTarget target_bytes target_to target_back
