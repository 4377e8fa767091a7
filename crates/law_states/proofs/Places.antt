-- The faults of states, and their places.
use Rattle.std.proofs.Common.{◌≡◌, ◌⊎◌, inl, inr, ℕ, ◌+◌, ◌<◌, ◌≤◌, Bool, true, false, cond, eqb, List, [], ◌++◌, length, Ok, Err, refl, sym, ap, subst, ◌∙◌, append_assoc, arith}
use Rattle.std.proofs.lemmas.Bool.{eqb-false, eqb-true}
use Rattle.std.proofs.lemmas.List.{append-nil}
use Rattle.pg_codec.specs.Laws.{AreBytes}
use Rattle.pg_codec.specs.Reading.{◌>>=◌, unread}
use Rattle.pg_codec.specs.Unread.{Unread}
use Rattle.pg_codec.proofs.Binding.{bind_ok, ok_is}
use Rattle.pg_packet_fields.specs.declared.error.PacketError.{PacketError}
use Rattle.pg_packet_fields.specs.declared.error.PacketError.TheVariants.{OutOfMemory, Short, BadTag, TooLong, Tail}
use Rattle.pg_state.specs.Spelling.{state_bytes}
use Rattle.pg_state_read.specs.Built.{IsWholeState}
use Rattle.pg_state_read.specs.Spelling.{marked_spelling}
use Rattle.pg_state_read.specs.Whole.{AreParts, are_in_time, ended, last_place, marked_at, parts_of, state_of, store_with, timed}
use Rattle.pg_state_read.specs.declared.parts.Parts.{Parts}
use Rattle.pg_state_read.proofs.PartFields.{marked_field}
use Rattle.pg_state_read.proofs.WholeParts.{no_more, read_alone}
use Rattle.pg_state_read.proofs.WholeStore.{same_bytes}
use Rattle.pg_store.specs.declared.store.Store.{Store}
use Rattle.law_packets.proofs.Telling.{Refused, Stops, bind_err, err_is, no_error}
use Rattle.law_states.specs.Faults.{BeginsState, EndsAt, IsBadAt, IsLateAt, IsShortAt}
use Rattle.law_states.proofs.PartFields.{marked}
use Rattle.law_states.proofs.Told.{Anywhere}

-- ---- what a fault of a state is

pub Fault : List ℕ → PacketError → Type 0
Fault bytes e = Stops Anywhere marked_at (unread bytes) e
    ⊎ (((place : ℕ) × (e ≡ Tail place) × EndsAt bytes place) ⊎ ((place : ℕ) × (e ≡ BadTag place) × IsLateAt bytes place))

some_more : (n : ℕ) → (n ≡ 0 → ⊥) → 0 < n
some_more n not_none = omega (arith, not_none)

ended_case : (t : Bool) (x : Parts × Unread) (e : PacketError) → eqb (length x.1.rest) 0 ≡ t → cond t (Ok x.0) (Err (Tail x.1.place)) ≡ Err e
    → (e ≡ Tail x.1.place) × (0 < length x.1.rest)
ended_case true x e test k = absurd (no_error x.0 e k)
ended_case false x e test k = (sym (err_is Parts (Tail x.1.place) e k), some_more (length x.1.rest) (eqb-false (length x.1.rest) 0 test))

timed_case : (t : Bool) (p : Parts) (e : PacketError) → are_in_time p ≡ t → cond t (Ok p) (Err (BadTag (last_place p.servers))) ≡ Err e
    → (e ≡ BadTag (last_place p.servers)) × (are_in_time p ≡ false)
timed_case true p e test k = absurd (no_error p e k)
timed_case false p e test k = (sym (err_is Parts (BadTag (last_place p.servers)) e k), test)

ended_ok : (t : Bool) (x : Parts × Unread) (p : Parts) → eqb (length x.1.rest) 0 ≡ t → cond t (Ok x.0) (Err (Tail x.1.place)) ≡ Ok p
    → (x.0 ≡ p) × (x.1.rest ≡ [])
ended_ok true x p test e = (ok_is PacketError x.0 p e, no_more x.1.rest (eqb-true (length x.1.rest) 0 test))
ended_ok false x p test e = absurd cc

behind_fault : (bytes : List ℕ) (x : Parts × Unread) (e : PacketError) → AreBytes bytes → marked_at (unread bytes) ≡ Ok x → ended x ≡ Err e → Fault bytes e
unfolding Fault
behind_fault bytes x e width read k =
    let end = ended_case (eqb (length x.1.rest) 0) x e refl k in
    let taken = marked_field.takes (unread bytes) x width read in
    let place = taken.1.place in
    inr (inl (x.1.place, end.0, record { parts = x.0; rest = x.1.rest; whole = taken.0; spelled = taken.1.parts; at = omega (arith, place); some = end.1 }))

late_fault : (bytes : List ℕ) (p : Parts) (e : PacketError) → AreBytes bytes → (marked_at (unread bytes) >>= ended) ≡ Ok p → timed p ≡ Err e → Fault bytes e
unfolding Fault
late_fault bytes p e width read k =
    let late = timed_case (are_in_time p) p e refl k in
    let first = bind_ok (marked_at (unread bytes)) ended p read in
    let end = ended_ok (eqb (length first.0.1.rest) 0) first.0 p refl first.2 in
    let taken = marked_field.takes (unread bytes) first.0 width first.1 in
    let all : bytes ≡ marked_spelling first.0.0 = taken.1.parts ∙ ap (λ (rest : List ℕ). marked_spelling first.0.0 ++ rest) end.1 ∙ append-nil (marked_spelling first.0.0) in
    let both : AreParts first.0.0 × (bytes ≡ marked_spelling first.0.0) = (taken.0, all) in
    let seen = subst (λ (q : Parts). AreParts q × (bytes ≡ marked_spelling q)) end.0 both in
    inr (inr (last_place p.servers, late.0, record { parts = p; whole = seen.0; spelled = seen.1; late = late.1; at = refl }))

parts_fault : (bytes : List ℕ) (e : PacketError) → AreBytes bytes → parts_of bytes ≡ Err e → Fault bytes e
unfolding parts_of Fault
parts_fault bytes e width k =
    elim (bind_err (marked_at (unread bytes) >>= ended) timed e k) [
      | inl first ↦ elim (bind_err (marked_at (unread bytes)) ended e first) [
        | inl h ↦ inl (marked.stops (unread bytes) e width h)
        | inr h ↦ behind_fault bytes h.0 e width h.1 h.2
      ]
      | inr late ↦ late_fault bytes late.0 e width late.1 late.2
    ]

pub state_fault : (bytes : List ℕ) (e : PacketError) → AreBytes bytes → state_of bytes ≡ Err e → Fault bytes e
unfolding state_of
state_fault bytes e width k =
    elim (bind_err (parts_of bytes) (λ p. Ok (store_with p)) e k) [
      | inl h ↦ parts_fault bytes e width h
      | inr h ↦ absurd (no_error (store_with h.0) e h.2)
    ]

-- ---- what it says of states

-- the bytes of a state are read
read_on : (store : Store) (before more : List ℕ) → IsWholeState store → state_bytes store ≡ before ++ more
    → (x : Parts × Unread) × (marked_at (record { place = 0; rest = before ++ more }) ≡ Ok x)
read_on store before more whole spelled =
    let p = whole.parts in
    let end : Unread = record { place = 0 + length (marked_spelling p); rest = [] } in
    let same : marked_spelling p ≡ before ++ more = sym (same_bytes p store whole.whole whole.made) ∙ spelled in
    ((p, end), ap (λ (bytes : List ℕ). marked_at (unread bytes)) (sym same) ∙ read_alone p whole.whole)

not_begun : (bytes : List ℕ) (e : PacketError) (s : Stops Anywhere marked_at (unread bytes) e)
    → ((behind : List ℕ) → Refused e s.field s.size (s.field ++ behind)) → BeginsState (s.before ++ s.field) → ⊥
not_begun bytes e s refused b =
    let spelled : state_bytes b.store ≡ s.before ++ (s.field ++ b.more) = b.spelled ∙ append_assoc s.before s.field b.more in
    let read = read_on b.store s.before (s.field ++ b.more) b.whole spelled in
    s.refused (s.field ++ b.more) (refused b.more) read.0 read.1

tag_of : (p q : ℕ) → BadTag p ≡ BadTag q → p ≡ q
tag_of p q e = cc

tail_of : (p q : ℕ) → Tail p ≡ Tail q → p ≡ q
tail_of p q e = cc

tag_not_tail : (p q : ℕ) → BadTag p ≡ Tail q → ⊥
tag_not_tail p q e = cc

pub bad : (bytes : List ℕ) (place : ℕ) → Fault bytes (BadTag place) → IsBadAt bytes place ⊎ IsLateAt bytes place
unfolding Fault
bad bytes place (inl s) =
    let at = s.told.0 in
    inl (record {
      before = s.before;
      field = s.field;
      rest = s.rest;
      parts = s.parts;
      at = omega (arith, at);
      some = s.told.1;
      none = not_begun bytes (BadTag place) s (λ behind. (behind, refl));
    })
bad bytes place (inr (inl end)) = absurd (tag_not_tail place end.0 end.1)
bad bytes place (inr (inr late)) = inr (subst (λ (n : ℕ). IsLateAt bytes n) (sym (tag_of place late.0 late.1)) late.2)

pub long : (bytes : List ℕ) (place : ℕ) → Fault bytes (TooLong place) → IsBadAt bytes place
unfolding Fault
long bytes place (inl s) =
    let at = s.told.0 in
    record {
      before = s.before;
      field = s.field;
      rest = s.rest;
      parts = s.parts;
      at = omega (arith, at);
      some = s.told.1;
      none = not_begun bytes (TooLong place) s (λ behind. (behind, refl));
    }
long bytes place (inr (inl end)) = absurd (let e = end.1 in cc)
long bytes place (inr (inr late)) = absurd (let e = late.1 in cc)

least_of : (size n : ℕ) → (n < size → ⊥) → size ≤ n
least_of size n none = omega (arith, none)

pub short : (bytes : List ℕ) (place : ℕ) → Fault bytes (Short place) → IsShortAt bytes place
unfolding Fault
short bytes place (inl s) =
    let at = s.told.0 in
    record {
      before = s.before;
      field = s.field;
      least = s.size;
      parts = s.parts ∙ ap (λ (rest : List ℕ). s.before ++ (s.field ++ rest)) s.told.1.0 ∙ ap (λ (back : List ℕ). s.before ++ back) (append-nil s.field);
      at = omega (arith, at);
      fewer = s.told.1.1;
      each = λ store more whole spelled.
          let read = read_on store s.before more whole spelled in
          least_of s.size (length more) (λ few. s.refused more few read.0 read.1);
    }
short bytes place (inr (inl end)) = absurd (let e = end.1 in cc)
short bytes place (inr (inr late)) = absurd (let e = late.1 in cc)

pub tail : (bytes : List ℕ) (place : ℕ) → Fault bytes (Tail place) → EndsAt bytes place
unfolding Fault
tail bytes place (inl s) = absurd s.told
tail bytes place (inr (inl end)) = subst (λ (n : ℕ). EndsAt bytes n) (sym (tail_of place end.0 end.1)) end.2
tail bytes place (inr (inr late)) = absurd (tag_not_tail late.0 place (sym late.1))

pub memory : (bytes : List ℕ) → Fault bytes OutOfMemory → ⊥
unfolding Fault
memory bytes (inl s) = s.told
memory bytes (inr (inl end)) = absurd (let e = end.1 in cc)
memory bytes (inr (inr late)) = absurd (let e = late.1 in cc)
