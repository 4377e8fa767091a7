-- Fields behind fields: what holds of each holds of both.
use Rattle.std.proofs.Common.{◌≡◌, ℕ, ◌+◌, List, ◌++◌, length, Result, Ok, Err, refl, sym, ap, subst, ◌∙◌, append_assoc, arith}
use Rattle.std.proofs.lemmas.List.{length-append}
use Rattle.pg_codec.specs.Unread.{Unread}
use Rattle.pg_codec.specs.Reading.{Field, ◌>>=◌, followed_by, seen_as, checked}
use Rattle.pg_codec.specs.Laws.{AreBytes, Takes, IsField}

-- the value of a step that did not fail
pub bind_ok : {A B E : Type 0} (r : Result A E) (f : A → Result B E) (y : B) → (r >>= f) ≡ Ok y
    → (x : A) × (r ≡ Ok x) × (f x ≡ Ok y)
bind_ok (Ok x) f y e = (x, refl, e)
bind_ok (Err d) f y e = absurd cc

abbrev done : {A : Type 0} (E : Type 0) → A → Result A E
done E x = Ok x

pub ok_is : {A : Type 0} (E : Type 0) (x y : A) → done E x ≡ done E y → x ≡ y
ok_is E x y e = cc

pub takes_then : (a : Unread) (x : List ℕ) (b : Unread) (y : List ℕ) (c : Unread) → Takes a x b → Takes b y c
    → Takes a (x ++ y) c
takes_then a x b y c p q = record {
  parts = p.parts ∙ ap (λ (t : List ℕ). x ++ t) q.parts ∙ sym (append_assoc x y c.rest);
  place = omega (arith, p.place, q.place, length-append x y);
  width = q.width;
}

both_takes : {A B E : Type 0} (FA : A → Type 0) (sA : A → List ℕ) (rA : Field E A)
    (FB : A → B → Type 0) (sB : A → B → List ℕ) (rB : A → Field E B)
    → IsField FA sA rA → ((a : A) → FA a → IsField (FB a) (sB a) (rB a))
    → (from : Unread) (x : (A × B) × Unread) → AreBytes from.rest → followed_by rA rB from ≡ Ok x
    → (FA x.0.0 × FB x.0.0 x.0.1) × Takes from (sA x.0.0 ++ sB x.0.0 x.0.1) x.1
both_takes {A = A} {B = B} {E = E} FA sA rA FB sB rB fa fb from x bytes e =
    let a = bind_ok (rA from) (λ a. (rB a.0 a.1 >>= λ b. Ok ((a.0, b.0), b.1))) x e in
    let b = bind_ok (rB a.0.0 a.0.1) (λ b. Ok ((a.0.0, b.0), b.1)) x a.2 in
    let ta = fa.takes from a.0 bytes a.1 in
    let tb = (fb a.0.0 ta.0).takes a.0.1 b.0 ta.1.width b.1 in
    let both = takes_then from (sA a.0.0) a.0.1 (sB a.0.0 b.0.0) b.0.1 ta.1 tb.1 in
    let made : (A × B) × Unread = ((a.0.0, b.0.0), b.0.1) in
    subst (λ (y : (A × B) × Unread). (FA y.0.0 × FB y.0.0 y.0.1) × Takes from (sA y.0.0 ++ sB y.0.0 y.0.1) y.1) (ok_is E made x b.2) ((ta.0, tb.0), both)

both_again : {A B E : Type 0} (FA : A → Type 0) (sA : A → List ℕ) (rA : Field E A)
    (FB : A → B → Type 0) (sB : A → B → List ℕ) (rB : A → Field E B)
    → IsField FA sA rA → ((a : A) → FA a → IsField (FB a) (sB a) (rB a))
    → (x : A × B) (place : ℕ) (rest : List ℕ) → FA x.0 × FB x.0 x.1
    → followed_by rA rB (record { place = place; rest = (sA x.0 ++ sB x.0 x.1) ++ rest })
    ≡ Ok (x, record { place = place + length (sA x.0 ++ sB x.0 x.1); rest = rest })
both_again {A = A} {B = B} {E = E} FA sA rA FB sB rB fa fb x place rest fits =
    let one = fa.again x.0 place (sB x.0 x.1 ++ rest) fits.0 in
    let two = (fb x.0 fits.0).again x.1 (place + length (sA x.0)) rest fits.1 in
    let after : ℕ → Unread = λ (p : ℕ). record { place = p; rest = rest } in
    let joined : followed_by rA rB (record { place = place; rest = sA x.0 ++ (sB x.0 x.1 ++ rest) }) ≡ Ok (x, after (place + length (sA x.0) + length (sB x.0 x.1))) = rw one (rw two refl) in
    let far : place + length (sA x.0) + length (sB x.0 x.1) ≡ place + length (sA x.0 ++ sB x.0 x.1) = omega (arith, length-append (sA x.0) (sB x.0 x.1)) in
    ap (λ (bytes : List ℕ). followed_by rA rB (record { place = place; rest = bytes })) (append_assoc (sA x.0) (sB x.0 x.1) rest) ∙ joined ∙ ap (λ (p : ℕ). Ok (x, after p)) far

-- One field and another behind it.
pub both_are : {A B E : Type 0} (FA : A → Type 0) (sA : A → List ℕ) (rA : Field E A)
    (FB : A → B → Type 0) (sB : A → B → List ℕ) (rB : A → Field E B)
    → IsField FA sA rA → ((a : A) → FA a → IsField (FB a) (sB a) (rB a))
    → IsField (λ x. FA x.0 × FB x.0 x.1) (λ x. sA x.0 ++ sB x.0 x.1) (followed_by rA rB)
both_are FA sA rA FB sB rB fa fb = record {
  takes = both_takes FA sA rA FB sB rB fa fb;
  again = both_again FA sA rA FB sB rB fa fb;
}

-- A field whose value is seen as another, which has the same spelling.
pub seen_is : {A B E : Type 0} (view : A → B) (FA : A → Type 0) (sA : A → List ℕ) (rA : Field E A)
    (FB : B → Type 0) (sB : B → List ℕ)
    → ((a : A) → FA a → FB (view a) × (sB (view a) ≡ sA a))
    → ((b : B) → FB b → (a : A) × FA a × (view a ≡ b))
    → IsField FA sA rA → IsField FB sB (seen_as view rA)
seen_is {A = A} {B = B} {E = E} view FA sA rA FB sB to back field = record {
  takes = λ from x bytes e.
      let a = bind_ok (rA from) (λ a. Ok (view a.0, a.1)) x e in
      let t = field.takes from a.0 bytes a.1 in
      let same = to a.0.0 t.0 in
      let made : B × Unread = (view a.0.0, a.0.1) in
      let taken : Takes from (sB (view a.0.0)) a.0.1 = subst (λ (s : List ℕ). Takes from s a.0.1) (sym same.1) t.1 in
      subst (λ (y : B × Unread). FB y.0 × Takes from (sB y.0) y.1) (ok_is E made x a.2) (same.0, taken);
  again = λ b place rest fits.
      let a = back b fits in
      let same : sA a.0 ≡ sB b = sym (to a.0 a.1).1 ∙ ap sB a.2 in
      let read = field.again a.0 place rest a.1 in
      let seen : seen_as view rA (record { place = place; rest = sA a.0 ++ rest }) ≡ Ok (view a.0, record { place = place + length (sA a.0); rest = rest }) = rw read refl in
      let moved : seen_as view rA (record { place = place; rest = sB b ++ rest }) ≡ Ok (view a.0, record { place = place + length (sB b); rest = rest }) =
      subst (λ (s : List ℕ). seen_as view rA (record { place = place; rest = s ++ rest }) ≡ Ok (view a.0, record { place = place + length s; rest = rest })) same seen in
      moved ∙ ap (λ (y : B). Ok (y, record { place = place + length (sB b); rest = rest })) a.2;
}

-- A field that is checked, and stands for a value of the same spelling.
pub checked_is : {A B E : Type 0} (check : ℕ → A → Result B E) (FA : A → Type 0) (sA : A → List ℕ) (rA : Field E A)
    (FB : B → Type 0) (sB : B → List ℕ)
    → ((place : ℕ) (a : A) (b : B) → FA a → check place a ≡ Ok b → FB b × (sB b ≡ sA a))
    → ((b : B) → FB b → (a : A) × FA a × ((place : ℕ) → check place a ≡ Ok b))
    → IsField FA sA rA → IsField FB sB (checked check rA)
checked_is {A = A} {B = B} {E = E} check FA sA rA FB sB to back field = record {
  takes = λ from x bytes e.
      let a = bind_ok (rA from) (λ a. (check from.place a.0 >>= λ b. Ok (b, a.1))) x e in
      let b = bind_ok (check from.place a.0.0) (λ b. Ok (b, a.0.1)) x a.2 in
      let t = field.takes from a.0 bytes a.1 in
      let same = to from.place a.0.0 b.0 t.0 b.1 in
      let made : B × Unread = (b.0, a.0.1) in
      let taken : Takes from (sB b.0) a.0.1 = subst (λ (s : List ℕ). Takes from s a.0.1) (sym same.1) t.1 in
      subst (λ (y : B × Unread). FB y.0 × Takes from (sB y.0) y.1) (ok_is E made x b.2) (same.0, taken);
  again = λ b place rest fits.
      let a = back b fits in
      let same : sA a.0 ≡ sB b = sym (to place a.0 b a.1 (a.2 place)).1 in
      let read = field.again a.0 place rest a.1 in
      let checks = a.2 place in
      let seen : checked check rA (record { place = place; rest = sA a.0 ++ rest }) ≡ Ok (b, record { place = place + length (sA a.0); rest = rest }) = rw read (rw checks refl) in
      subst (λ (s : List ℕ). checked check rA (record { place = place; rest = s ++ rest }) ≡ Ok (b, record { place = place + length s; rest = rest })) same seen;
}
