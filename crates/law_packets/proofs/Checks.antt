-- Fields that are checked: a fault is at the place of the field, whatever stands behind it.
use Rattle.std.proofs.Common.{◌≡◌, ℕ, ◌+◌, ◌<◌, ◌⊎◌, inl, inr, Bool, true, false, cond, List, [], ◌∷◌, ◌++◌, length, Result, Ok, Err, refl, sym, ap, subst, ◌∙◌, arith}
use Rattle.pg_codec.specs.Unread.{Unread}
use Rattle.pg_codec.specs.Reading.{Field, ◌>>=◌, checked}
use Rattle.pg_codec.proofs.Binding.{bind_ok, ok_is}
use Rattle.pg_packet_fields.specs.declared.error.PacketError.{PacketError}
use Rattle.pg_packet_fields.specs.declared.error.PacketError.TheVariants.{BadTag, TooLong}
use Rattle.law_packets.proofs.Telling.{IsTold, Reads, Stops, Took, bind_err, err_is, no_error}

-- a check fails at the place that it is given, and succeeds at each
pub record IsCheck {A B : Type 0} (check : ℕ → A → Result B PacketError) : Type 0 where
  pub fault : (place : ℕ) (a : A) (e : PacketError) → check place a ≡ Err e → (e ≡ BadTag place) ⊎ (e ≡ TooLong place)
  pub steady : (p q : ℕ) (a : A) (b : B) → check p a ≡ Ok b → check q a ≡ Ok b

-- ---- tests

abbrev pub bad : {A : Type 0} → ℕ → A → Result A PacketError
bad place a = Err (BadTag place)

abbrev pub long : {A : Type 0} → ℕ → A → Result A PacketError
long place a = Err (TooLong place)

bad_case : {A : Type 0} (t : Bool) (place : ℕ) (a : A) (e : PacketError) → cond t (Ok a) (bad place a) ≡ Err e → e ≡ BadTag place
bad_case true place a e k = absurd (no_error a e k)
bad_case {A = A} false place a e k = sym (err_is A (BadTag place) e k)

long_case : {A : Type 0} (t : Bool) (place : ℕ) (a : A) (e : PacketError) → cond t (Ok a) (long place a) ≡ Err e → e ≡ TooLong place
long_case true place a e k = absurd (no_error a e k)
long_case {A = A} false place a e k = sym (err_is A (TooLong place) e k)

bad_steady : {A : Type 0} (t : Bool) (p q : ℕ) (a b : A) → cond t (Ok a) (bad p a) ≡ Ok b → cond t (Ok a) (bad q a) ≡ Ok b
bad_steady true p q a b k = k
bad_steady false p q a b k = absurd (no_error b (BadTag p) (sym k))

long_steady : {A : Type 0} (t : Bool) (p q : ℕ) (a b : A) → cond t (Ok a) (long p a) ≡ Ok b → cond t (Ok a) (long q a) ≡ Ok b
long_steady true p q a b k = k
long_steady false p q a b k = absurd (no_error b (TooLong p) (sym k))

pub test_check : {A : Type 0} (test : A → Bool) → IsCheck (λ place a. cond (test a) (Ok a) (bad place a))
test_check test = record {
  fault = λ place a e k. inl (bad_case (test a) place a e k);
  steady = λ p q a b k. bad_steady (test a) p q a b k;
}

pub most_check : {A : Type 0} (test : A → Bool) → IsCheck (λ place a. cond (test a) (Ok a) (long place a))
most_check test = record {
  fault = λ place a e k. inr (long_case (test a) place a e k);
  steady = λ p q a b k. long_steady (test a) p q a b k;
}

-- ---- what is checked

some_bytes : (t : List ℕ) → (t ≡ [] → ⊥) → 0 < length t
some_bytes [] none = absurd (none refl)
some_bytes (b ∷ bs) none = omega arith

bad_stops : {X : Type 0} (P : List ℕ → Type 0) (read : Field PacketError X) (from : Unread) (e : PacketError) (field rest : List ℕ)
    → P [] → from.rest ≡ field ++ rest → 0 < length field
    → ((behind : List ℕ) (x : X × Unread) → read (record { place = from.place; rest = field ++ behind }) ≡ Ok x → ⊥)
    → (e ≡ BadTag from.place) ⊎ (e ≡ TooLong from.place) → Stops P read from e
bad_stops P read from e field rest reached parts some never (inl is) =
    let s : Stops P read from (BadTag from.place) = record {
      before = [];
      field = field;
      rest = rest;
      size = 0;
      parts = parts;
      told = (omega arith, some);
      reached = reached;
      refused = λ more r x k. never r.0 x (ap (λ (t : List ℕ). read (record { place = from.place; rest = t })) (sym r.1) ∙ k);
    } in
    subst (λ (d : PacketError). Stops P read from d) (sym is) s
bad_stops P read from e field rest reached parts some never (inr is) =
    let s : Stops P read from (TooLong from.place) = record {
      before = [];
      field = field;
      rest = rest;
      size = 0;
      parts = parts;
      told = (omega arith, some);
      reached = reached;
      refused = λ more r x k. never r.0 x (ap (λ (t : List ℕ). read (record { place = from.place; rest = t })) (sym r.1) ∙ k);
    } in
    subst (λ (d : PacketError). Stops P read from d) (sym is) s

check_stops : {A B : Type 0} (P : List ℕ → Type 0) (check : ℕ → A → Result B PacketError) (read : Field PacketError A) (from : Unread) (e : PacketError) (a : A × Unread)
    → IsCheck check → P [] → ((place : ℕ) (x : A × Unread) → read (record { place = place; rest = [] }) ≡ Ok x → ⊥)
    → Took read from a → check from.place a.0 ≡ Err e → Stops P (checked check read) from e
check_stops {A = A} {B = B} P check read from e a is reached wants took k =
    let end : Unread = record { place = from.place + length took.text; rest = [] } in
    let none : took.text ≡ [] → ⊥ = λ empty. wants from.place (a.0, end) (ap (λ (t : List ℕ). read (record { place = from.place; rest = t ++ [] })) (sym empty) ∙ took.reads from.place []) in
    let never : (behind : List ℕ) (x : B × Unread) → checked check read (record { place = from.place; rest = took.text ++ behind }) ≡ Ok x → ⊥ =
    λ behind x j.
    let fails : checked check read (record { place = from.place; rest = took.text ++ behind }) ≡ Err e = rw (took.reads from.place behind) (rw k refl) in
    no_error x e (sym j ∙ fails) in
    bad_stops P (checked check read) from e took.text a.1.rest reached took.taken.parts (some_bytes took.text none) never (is.fault from.place a.0 e k)

pub checked_told : {A B : Type 0} (P : List ℕ → Type 0) (check : ℕ → A → Result B PacketError) (read : Field PacketError A)
    → IsCheck check → P [] → ((place : ℕ) (x : A × Unread) → read (record { place = place; rest = [] }) ≡ Ok x → ⊥)
    → IsTold P read → IsTold P (checked check read)
checked_told {A = A} {B = B} P check read is reached wants told = record {
  takes = λ from x bytes k.
      let a = bind_ok (read from) (λ a. (check from.place a.0 >>= λ b. Ok (b, a.1))) x k in
      let b = bind_ok (check from.place a.0.0) (λ b. Ok (b, a.0.1)) x a.2 in
      let t = told.takes from a.0 bytes a.1 in
      let made : B × Unread = (b.0, a.0.1) in
      let reads : Reads (checked check read) t.text b.0 = λ place rest. rw (t.reads place rest) (rw (is.steady from.place place a.0.0 b.0 b.1) refl) in
      let took : Took (checked check read) from made = record { text = t.text; taken = t.taken; reads = reads } in
      subst (λ (y : B × Unread). Took (checked check read) from y) (ok_is PacketError made x b.2) took;
  stops = λ from e bytes k.
      elim (bind_err (read from) (λ a. (check from.place a.0 >>= λ b. Ok (b, a.1))) e k) [
        | inl h ↦
            let s = told.stops from e bytes h in
            record {
              before = s.before;
              field = s.field;
              rest = s.rest;
              size = s.size;
              parts = s.parts;
              told = s.told;
              reached = s.reached;
              refused = λ more r x j.
                  let a = bind_ok (read (record { place = from.place; rest = s.before ++ more })) (λ a. (check from.place a.0 >>= λ b. Ok (b, a.1))) x j in
                  s.refused more r a.0 a.1;
            }
        | inr h ↦
            elim (bind_err (check from.place h.0.0) (λ b. Ok (b, h.0.1)) e h.2) [
              | inl f ↦ check_stops P check read from e h.0 is reached wants (told.takes from h.0 bytes h.1) f
              | inr f ↦ absurd (no_error (f.0, h.0.1) e f.2)
            ]
      ];
}
