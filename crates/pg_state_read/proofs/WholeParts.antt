-- Bytes are read exactly where they are the spelling of parts of a state.
use Rattle.std.proofs.Common.{◌≡◌, ℕ, ◌+◌, ◌<◌, Bool, true, false, cond, eqb, List, [], ◌∷◌, ◌++◌, length, Ok, Err, refl, sym, ap, subst, ◌∙◌, arith}
use Rattle.std.proofs.lemmas.Bool.{eqb-true, ne_eqb}
use Rattle.std.proofs.lemmas.List.{append-nil}
use Rattle.pg_codec.specs.Laws.{AreBytes}
use Rattle.pg_codec.specs.Reading.{◌>>=◌, unread}
use Rattle.pg_codec.specs.Unread.{Unread}
use Rattle.pg_codec.proofs.Binding.{bind_ok, ok_is}
use Rattle.pg_packet_fields.specs.declared.error.PacketError.{PacketError}
use Rattle.pg_packet_fields.specs.declared.error.PacketError.TheVariants.{BadTag, Tail}
use Rattle.pg_state_read.specs.Spelling.{marked_spelling}
use Rattle.pg_state_read.specs.Whole.{AreParts, are_in_time, ended, last_place, marked_at, parts_of, timed}
use Rattle.pg_state_read.specs.declared.parts.Parts.{Parts}
use Rattle.pg_state_read.proofs.PartFields.{marked_field}

pub read_alone : (p : Parts) → AreParts p → marked_at (unread (marked_spelling p)) ≡ Ok (p, record { place = 0 + length (marked_spelling p); rest = [] })
read_alone p fits =
    ap (λ (bytes : List ℕ). marked_at (unread bytes)) (sym (append-nil (marked_spelling p))) ∙ marked_field.again p 0 [] fits

pub written : (p : Parts) → AreParts p → are_in_time p ≡ true → parts_of (marked_spelling p) ≡ Ok p
unfolding parts_of
written p fits test = rw (read_alone p fits) (ap (λ (t : Bool). cond t (Ok p) (Err (BadTag (last_place p.servers)))) test)

pub no_more : (bytes : List ℕ) → length bytes ≡ 0 → bytes ≡ []
no_more [] e = refl
no_more (b ∷ bs) e = absurd (omega (arith, e))

ended_case : (t : Bool) (x : Parts × Unread) (p : Parts) → eqb (length x.1.rest) 0 ≡ t → cond t (Ok x.0) (Err (Tail x.1.place)) ≡ Ok p
    → (x.0 ≡ p) × (x.1.rest ≡ [])
ended_case true x p test e = (ok_is PacketError x.0 p e, no_more x.1.rest (eqb-true (length x.1.rest) 0 test))
ended_case false x p test e = absurd cc

timed_case : (t : Bool) (q p : Parts) → are_in_time q ≡ t → cond t (Ok q) (Err (BadTag (last_place q.servers))) ≡ Ok p
    → (q ≡ p) × (are_in_time q ≡ true)
timed_case true q p test e = (ok_is PacketError q p e, test)
timed_case false q p test e = absurd cc

pub spelled : (bytes : List ℕ) (p : Parts) → AreBytes bytes → parts_of bytes ≡ Ok p → (AreParts p × (are_in_time p ≡ true)) × (bytes ≡ marked_spelling p)
unfolding parts_of
spelled bytes p width e =
    let timely = bind_ok (marked_at (unread bytes) >>= ended) timed p e in
    let read = bind_ok (marked_at (unread bytes)) ended timely.0 timely.1 in
    let last = timed_case (are_in_time timely.0) timely.0 p refl timely.2 in
    let end = ended_case (eqb (length read.0.1.rest) 0) read.0 timely.0 refl read.2 in
    let taken = marked_field.takes (unread bytes) read.0 width read.1 in
    let all : bytes ≡ marked_spelling read.0.0 = taken.1.parts ∙ ap (λ (rest : List ℕ). marked_spelling read.0.0 ++ rest) end.1 ∙ append-nil (marked_spelling read.0.0) in
    let fits : AreParts read.0.0 × (bytes ≡ marked_spelling read.0.0) = (taken.0, all) in
    let seen = subst (λ (x : Parts). AreParts x × (bytes ≡ marked_spelling x)) end.0 fits in
    subst (λ (x : Parts). (AreParts x × (are_in_time x ≡ true)) × (bytes ≡ marked_spelling x)) last.0 ((seen.0, last.1), seen.1)

some_is : (n : ℕ) → 0 < n → eqb n 0 ≡ false
some_is n some = ne_eqb n 0 (λ none. omega (arith, some, none))

-- what stands behind the parts of a state is a fault there
pub behind : (p : Parts) (rest : List ℕ) → AreParts p → 0 < length rest → parts_of (marked_spelling p ++ rest) ≡ Err (Tail (length (marked_spelling p)))
unfolding parts_of
behind p rest fits some =
    let read = marked_field.again p 0 rest fits in
    let more : eqb (length rest) 0 ≡ false = some_is (length rest) some in
    let here : 0 + length (marked_spelling p) ≡ length (marked_spelling p) = omega arith in
    rw (read, more) (ap (λ (place : ℕ). Err (Tail place)) here)
