-- What readers tell where they fail: where the field is at which they do, and that they do so whatever stands behind it.
use Rattle.std.proofs.Common.{◌≡◌, ℕ, zero, suc, ◌+◌, ◌<◌, ◌⊎◌, inl, inr, List, [], ◌∷◌, ◌++◌, length, Result, Ok, Err, refl, sym, ap, subst, ◌∙◌, append_assoc, arith}
use Rattle.std.proofs.lemmas.List.{append-nil, length-append}
use Rattle.pg_codec.specs.Unread.{Unread}
use Rattle.pg_codec.specs.Reading.{Field, ◌>>=◌, seen_as, end_of}
use Rattle.pg_codec.specs.Laws.{AreBytes, IsField, Takes}
use Rattle.pg_codec.proofs.Binding.{bind_ok, ok_is, takes_then}
use Rattle.pg_packet_fields.specs.declared.error.PacketError.{PacketError}
use Rattle.pg_packet_fields.specs.declared.error.PacketError.TheVariants.{OutOfMemory, Short, BadTag, TooLong, Tail}

-- ---- bytes

pub bytes_join : (a b : List ℕ) → AreBytes a → AreBytes b → AreBytes (a ++ b)
bytes_join [] b p q i = q i
bytes_join (x ∷ a) b p q zero = p 0
bytes_join (x ∷ a) b p q (suc i) = bytes_join a b (λ k. p (suc k)) q i

pub bytes_front : (a b : List ℕ) → AreBytes (a ++ b) → AreBytes a
bytes_front [] b p i = omega arith
bytes_front (x ∷ a) b p zero = p 0
bytes_front (x ∷ a) b p (suc i) = bytes_front a b (λ k. p (suc k)) i

pub bytes_back : (a b : List ℕ) → AreBytes (a ++ b) → AreBytes b
bytes_back [] b p i = p i
bytes_back (x ∷ a) b p i = bytes_back a b (λ k. p (suc k)) i

-- ---- what readers tell

-- these bytes are read as the value, whatever follows them
abbrev pub Reads : {X : Type 0} → Field PacketError X → List ℕ → X → Type 0
Reads read text x = (place : ℕ) (rest : List ℕ) → read (record { place = place; rest = text ++ rest }) ≡ Ok (x, record { place = place + length text; rest = rest })

-- what was read, and that it is read so whatever follows
pub record Took {X : Type 0} (read : Field PacketError X) (from : Unread) (x : X × Unread) : Type 0 where
  pub text : List ℕ
  pub taken : Takes from text x.1
  pub reads : Reads read text x.0

-- some text that is read begins so
pub record Starts {X : Type 0} (read : Field PacketError X) (bytes : List ℕ) : Type 0 where
  pub value : X
  pub more : List ℕ
  pub width : AreBytes (bytes ++ more)
  pub reads : Reads read (bytes ++ more) value

-- a fault, of the field that begins here: of which there are not all of its bytes, or all
abbrev pub Told : PacketError → ℕ → ℕ → List ℕ → List ℕ → ℕ → Type 0
Told OutOfMemory here end field rest size = ⊥
Told (Short n) here end field rest size = (n ≡ end) × ((rest ≡ []) × (length field < size))
Told (BadTag n) here end field rest size = (n ≡ here) × (0 < length field)
Told (TooLong n) here end field rest size = (n ≡ here) × (0 < length field)
Told (Tail n) here end field rest size = ⊥

-- what cannot stand where the field begins
abbrev pub Refused : PacketError → List ℕ → ℕ → List ℕ → Type 0
Refused (Short n) field size more = length more < size
Refused e field size more = (behind : List ℕ) × (more ≡ field ++ behind)

pub record Stops {X : Type 0} (P : List ℕ → Type 0) (read : Field PacketError X) (from : Unread) (e : PacketError) : Type 0 where
  pub before : List ℕ
  pub field : List ℕ
  pub rest : List ℕ
  pub size : ℕ
  pub parts : from.rest ≡ before ++ (field ++ rest)
  pub told : Told e (from.place + length before) (end_of from) field rest size
  pub reached : P before
  pub refused : (more : List ℕ) → Refused e field size more → (x : X × Unread) → read (record { place = from.place; rest = before ++ more }) ≡ Ok x → ⊥

pub record IsTold {X : Type 0} (P : List ℕ → Type 0) (read : Field PacketError X) : Type 0 where
  pub takes : (from : Unread) (x : X × Unread) → AreBytes from.rest → read from ≡ Ok x → Took read from x
  pub stops : (from : Unread) (e : PacketError) → AreBytes from.rest → read from ≡ Err e → Stops P read from e

pub took_field : {X : Type 0} (F : X → Type 0) (s : X → List ℕ) (read : Field PacketError X) → IsField F s read
    → (from : Unread) (x : X × Unread) → AreBytes from.rest → read from ≡ Ok x → Took read from x
took_field F s read field from x bytes e =
    let t = field.takes from x bytes e in
    record { text = s x.0; taken = t.1; reads = λ place rest. field.again x.0 place rest t.0 }

-- what is read of a field fits, and is its spelling
pub reads_field : {X : Type 0} (F : X → Type 0) (s : X → List ℕ) (read : Field PacketError X) → IsField F s read
    → (text : List ℕ) (x : X) → AreBytes text → Reads read text x → F x × (text ≡ s x)
reads_field F s read field text x bytes reads =
    let end : Unread = record { place = 0 + length text; rest = [] } in
    let width : AreBytes (text ++ []) = subst AreBytes (sym (append-nil text)) bytes in
    let t = field.takes (record { place = 0; rest = text ++ [] }) (x, end) width (reads 0 []) in
    (t.0, sym (append-nil text) ∙ t.1.parts ∙ append-nil (s x))

pub other_reached : {X : Type 0} (P Q : List ℕ → Type 0) (read : Field PacketError X) → IsTold P read → ((b : List ℕ) → AreBytes b → P b → Q b) → IsTold Q read
other_reached P Q read told to = record {
  takes = told.takes;
  stops = λ from e bytes h.
      let s = told.stops from e bytes h in
      let width : AreBytes s.before = bytes_front s.before (s.field ++ s.rest) (subst AreBytes s.parts bytes) in
      record { before = s.before; field = s.field; rest = s.rest; size = s.size; parts = s.parts; told = s.told; reached = to s.before width s.reached; refused = s.refused };
}

-- ---- one reader behind another

abbrev pub failed : {E : Type 0} (A : Type 0) → E → Result A E
failed A e = Err e

pub err_is : {E : Type 0} (A : Type 0) (d e : E) → failed A d ≡ failed A e → d ≡ e
err_is A d e same = cc

pub bind_err : {A B E : Type 0} (r : Result A E) (f : A → Result B E) (e : E) → (r >>= f) ≡ Err e
    → (r ≡ Err e) ⊎ ((x : A) × (r ≡ Ok x) × (f x ≡ Err e))
bind_err (Ok x) f e h = inr (x, refl, h)
bind_err {A = A} {B = B} (Err d) f e h = inl (ap (λ z. failed A z) (err_is B d e h))

abbrev pub pair : {A B : Type 0} → A → B → A × B
pair a b = (a, b)

-- what `seen_as` and `checked` do with a value that was read
abbrev pub seen_step : {A B : Type 0} (E : Type 0) → (A → B) → A × Unread → Result (B × Unread) E
seen_step E view a = Ok (view a.0, a.1)

abbrev pub value_step : {B : Type 0} (E : Type 0) → Unread → B → Result (B × Unread) E
value_step E rest b = Ok (b, rest)

abbrev pub bound : {A B : Type 0} → Field PacketError A → (A → Field PacketError B) → Field PacketError B
bound first second from = first from >>= λ a. second a.0 a.1

pub reads_then : {A B : Type 0} (first : Field PacketError A) (second : A → Field PacketError B) (s t : List ℕ) (a : A) (b : B)
    → Reads first s a → Reads (second a) t b → Reads (bound first second) (s ++ t) b
reads_then {B = B} first second s t a b one two place rest =
    let read : Field PacketError B = bound first second in
    let after : ℕ → Unread = λ (p : ℕ). record { place = p; rest = rest } in
    let here = one place (t ++ rest) in
    let there = two (place + length s) rest in
    let joined : read (record { place = place; rest = s ++ (t ++ rest) }) ≡ Ok (b, after (place + length s + length t)) = rw here there in
    let far : place + length s + length t ≡ place + length (s ++ t) = omega (arith, length-append s t) in
    ap (λ (bytes : List ℕ). read (record { place = place; rest = bytes })) (append_assoc s t rest) ∙ joined ∙ ap (λ (p : ℕ). Ok (b, after p)) far

first_stops : {A B : Type 0} (PA P : List ℕ → Type 0) (first : Field PacketError A) (second : A → Field PacketError B)
    → ((b : List ℕ) → AreBytes b → PA b → P b)
    → (from : Unread) (e : PacketError) → AreBytes from.rest → Stops PA first from e → Stops P (bound first second) from e
first_stops PA P first second to from e bytes s =
    let width : AreBytes s.before = bytes_front s.before (s.field ++ s.rest) (subst AreBytes s.parts bytes) in
    record {
      before = s.before;
      field = s.field;
      rest = s.rest;
      size = s.size;
      parts = s.parts;
      told = s.told;
      reached = to s.before width s.reached;
      refused = λ more r x k.
          let a = bind_ok (first (record { place = from.place; rest = s.before ++ more })) (λ a. second a.0 a.1) x k in
          s.refused more r a.0 a.1;
    }

second_stops : {A B : Type 0} (PB P : List ℕ → Type 0) (first : Field PacketError A) (second : A → Field PacketError B)
    (from : Unread) (e : PacketError) (a : A × Unread) → AreBytes from.rest
    → (one : Took first from a)
    → ((b : List ℕ) → AreBytes (one.text ++ b) → PB b → P (one.text ++ b))
    → Stops PB (second a.0) a.1 e → Stops P (bound first second) from e
second_stops {B = B} PB P first second from e a bytes one to s =
    let parts : from.rest ≡ (one.text ++ s.before) ++ (s.field ++ s.rest) =
    one.taken.parts ∙ ap (λ (t : List ℕ). one.text ++ t) s.parts ∙ sym (append_assoc one.text s.before (s.field ++ s.rest)) in
    let place = one.taken.place in
    let long = ap length one.taken.parts in
    let here : a.1.place + length s.before ≡ from.place + length (one.text ++ s.before) = omega (arith, place, length-append one.text s.before) in
    let end : a.1.place + length a.1.rest ≡ from.place + length from.rest = omega (arith, place, long, length-append one.text a.1.rest) in
    let told_here : Told e (from.place + length (one.text ++ s.before)) (end_of a.1) s.field s.rest s.size = subst (λ (n : ℕ). Told e n (end_of a.1) s.field s.rest s.size) here s.told in
    let read : Field PacketError B = bound first second in
    record {
      before = one.text ++ s.before;
      field = s.field;
      rest = s.rest;
      size = s.size;
      parts = parts;
      told = subst (λ (n : ℕ). Told e (from.place + length (one.text ++ s.before)) n s.field s.rest s.size) end told_here;
      reached = to s.before (bytes_front (one.text ++ s.before) (s.field ++ s.rest) (subst AreBytes parts bytes)) s.reached;
      refused = λ more r x k.
          let apart : read (record { place = from.place; rest = one.text ++ (s.before ++ more) }) ≡ Ok x =
          ap (λ (t : List ℕ). read (record { place = from.place; rest = t })) (sym (append_assoc one.text s.before more)) ∙ k in
          let taken : read (record { place = from.place; rest = one.text ++ (s.before ++ more) }) ≡ second a.0 (record { place = from.place + length one.text; rest = s.before ++ more }) =
          rw (one.reads from.place (s.before ++ more)) refl in
          let moved : second a.0 (record { place = a.1.place; rest = s.before ++ more }) ≡ Ok x =
          ap (λ (p : ℕ). second a.0 (record { place = p; rest = s.before ++ more })) place ∙ sym taken ∙ apart in
          s.refused more r x moved;
    }

pub bound_told : {A B : Type 0} (PA P : List ℕ → Type 0) (PB : A → List ℕ → Type 0) (first : Field PacketError A) (second : A → Field PacketError B)
    → IsTold PA first → ((a : A) → IsTold (PB a) (second a))
    → ((b : List ℕ) → AreBytes b → PA b → P b)
    → ((a : A) (text b : List ℕ) → AreBytes (text ++ b) → Reads first text a → PB a b → P (text ++ b))
    → IsTold P (bound first second)
bound_told PA P PB first second one two to_first to_second = record {
  takes = λ from x bytes k.
      let a = bind_ok (first from) (λ a. second a.0 a.1) x k in
      let s = one.takes from a.0 bytes a.1 in
      let t = (two a.0.0).takes a.0.1 x s.taken.width a.2 in
      record {
        text = s.text ++ t.text;
        taken = takes_then from s.text a.0.1 t.text x.1 s.taken t.taken;
        reads = reads_then first second s.text t.text a.0.0 x.0 s.reads t.reads;
      };
  stops = λ from e bytes k.
      elim (bind_err (first from) (λ a. second a.0 a.1) e k) [
        | inl h ↦ first_stops PA P first second to_first from e bytes (one.stops from e bytes h)
        | inr h ↦
            let s = one.takes from h.0 bytes h.1 in
            second_stops (PB h.0.0) P first second from e h.0 bytes s (λ b width p. to_second h.0.0 s.text b width s.reads p) ((two h.0.0).stops h.0.1 e s.taken.width h.2)
      ];
}

-- ---- the same reader, seen as another or checked

pub no_error : {A E : Type 0} (x : A) (e : E) → Ok x ≡ failed A e → ⊥
no_error x e h = absurd cc

pub seen_told : {A B : Type 0} (P : List ℕ → Type 0) (view : A → B) (read : Field PacketError A) → IsTold P read → IsTold P (seen_as view read)
seen_told {A = A} {B = B} P view read told = record {
  takes = λ from x bytes k.
      let a = bind_ok (read from) (λ a. Ok (view a.0, a.1)) x k in
      let t = told.takes from a.0 bytes a.1 in
      let made : B × Unread = (view a.0.0, a.0.1) in
      let took : Took (seen_as view read) from made = record { text = t.text; taken = t.taken; reads = λ place rest. rw (t.reads place rest) refl } in
      subst (λ (y : B × Unread). Took (seen_as view read) from y) (ok_is PacketError made x a.2) took;
  stops = λ from e bytes k.
      elim (bind_err (read from) (λ a. Ok (view a.0, a.1)) e k) [
        | inl h ↦
            let s = told.stops from e bytes h in
            record {
              before = s.before;
              field = s.field;
              rest = s.rest;
              size = s.size;
              parts = s.parts;
              told = s.told;
              reached = s.reached;
              refused = λ more r x j.
                  let a = bind_ok (read (record { place = from.place; rest = s.before ++ more })) (λ a. Ok (view a.0, a.1)) x j in
                  s.refused more r a.0 a.1;
            }
        | inr h ↦ absurd (no_error (view h.0.0, h.0.1) e h.2)
      ];
}

-- the same results
pub same_told : {X : Type 0} (P : List ℕ → Type 0) (read other : Field PacketError X) → ((from : Unread) → other from ≡ read from) → IsTold P read → IsTold P other
same_told P read other same told = record {
  takes = λ from x bytes k.
      let t = told.takes from x bytes (sym (same from) ∙ k) in
      record { text = t.text; taken = t.taken; reads = λ place rest. same (record { place = place; rest = t.text ++ rest }) ∙ t.reads place rest };
  stops = λ from e bytes k.
      let s = told.stops from e bytes (sym (same from) ∙ k) in
      record {
        before = s.before;
        field = s.field;
        rest = s.rest;
        size = s.size;
        parts = s.parts;
        told = s.told;
        reached = s.reached;
        refused = λ more r x j. s.refused more r x (sym (same (record { place = from.place; rest = s.before ++ more })) ∙ j);
      };
}
