-- Fields with the faults of packets, and fields whose kind stands in front.
use Rattle.std.proofs.Common.{◌≡◌, ℕ, ◌+◌, List, [], ◌++◌, length, Result, Ok, Err, refl, sym, ap, subst, ◌∙◌, append_assoc, arith}
use Rattle.std.proofs.lemmas.List.{length-append}
use Rattle.pg_codec.specs.Unread.{Unread}
use Rattle.pg_codec.specs.declared.error.ReadError.{ReadError}
use Rattle.pg_codec.specs.Reading.{Field, ◌>>=◌, followed_by, seen_as}
use Rattle.pg_codec.specs.Laws.{Takes, IsField}
use Rattle.pg_codec.proofs.Binding.{bind_ok, both_are, ok_is, seen_is, takes_then}
use Rattle.pg_packet_fields.specs.Faults.{of_packet, with_fault}
use Rattle.pg_packet_fields.specs.declared.error.PacketError.{PacketError}

unfaulted : {X : Type 0} (r : Result X ReadError) (x : X) → with_fault r ≡ Ok x → r ≡ Ok x
unfaulted (Ok y) x e = let same : y ≡ x = ok_is PacketError y x e in ap (λ z. Ok z) same
unfaulted (Err d) x e = absurd cc

pub packet_is : {X : Type 0} (F : X → Type 0) (s : X → List ℕ) (r : Field ReadError X) → IsField F s r → IsField F s (of_packet r)
packet_is F s r field = record {
  takes = λ from x bytes e. field.takes from x bytes (unfaulted (r from) x e);
  again = λ x place rest fits. ap with_fault (field.again x place rest fits);
}

failed : {X : Type 0} (E : Type 0) (e : E) (x : X) → Err e ≡ Ok x → ⊥
failed E e x same = absurd cc

-- What always fails reads nothing.
pub never_is : {B E : Type 0} (F : B → Type 0) (s : B → List ℕ) (e : E) → ((b : B) → F b → ⊥) → IsField F s (λ from. Err e)
never_is {B = B} {E = E} F s e none = record {
  takes = λ from x bytes same. absurd (failed E e x same);
  again = λ b place rest fits. absurd (none b fits);
}

-- A value that takes no bytes.
pub nothing_is : {B E : Type 0} (F : B → Type 0) (s : B → List ℕ) (one : B) → F one → s one ≡ [] → ((b : B) → F b → one ≡ b)
    → IsField {E = E} F s (λ from. Ok (one, from))
nothing_is {B = B} {E = E} F s one fits empty only = record {
  takes = λ from x bytes e.
      let here : Takes from (s one) from = subst (λ (t : List ℕ). Takes from t from) (sym empty) (record { parts = refl; place = omega arith; width = bytes }) in
      let made : B × Unread = (one, from) in
      subst (λ (y : B × Unread). F y.0 × Takes from (s y.0) y.1) (ok_is E made x e) (fits, here);
  again = λ b place rest fits_b.
      let same = only b fits_b in
      let none : s b ≡ [] = subst (λ (y : B). s y ≡ []) same empty in
      rw none (rw (← same) (ap (λ (p : ℕ). Ok (one, record { place = p; rest = rest })) (omega arith)));
}

-- A kind, and behind it what the kind says.
pub chosen_is : {A B E : Type 0} (kind : B → A) (FA : A → Type 0) (sA : A → List ℕ) (rA : Field E A)
    (FB : B → Type 0) (sB behind : B → List ℕ) (rB : ℕ → A → Field E B)
    → IsField FA sA rA
    → ((b : B) → FB b → FA (kind b))
    → ((b : B) → sB b ≡ sA (kind b) ++ behind b)
    → ((place : ℕ) (a : A) → IsField (λ b. FB b × (kind b ≡ a)) behind (rB place a))
    → IsField FB sB (λ from. rA from >>= λ a. rB from.place a.0 a.1)
chosen_is {A = A} {B = B} {E = E} kind FA sA rA FB sB behind rB fa fits_kind spelled fb = record {
  takes = λ from x bytes e.
      let a = bind_ok (rA from) (λ a. rB from.place a.0 a.1) x e in
      let ta = fa.takes from a.0 bytes a.1 in
      let tb = (fb from.place a.0.0).takes a.0.1 x ta.1.width a.2 in
      let both = takes_then from (sA a.0.0) a.0.1 (behind x.0) x.1 ta.1 tb.1 in
      let named : Takes from (sA (kind x.0) ++ behind x.0) x.1 = subst (λ (k : A). Takes from (sA k ++ behind x.0) x.1) (sym tb.0.1) both in
      (tb.0.0, subst (λ (t : List ℕ). Takes from t x.1) (sym (spelled x.0)) named);
  again = λ b place rest fits.
      let one = fa.again (kind b) place (behind b ++ rest) (fits_kind b fits) in
      let two = (fb place (kind b)).again b (place + length (sA (kind b))) rest (fits, refl) in
      let after : ℕ → Unread = λ (p : ℕ). record { place = p; rest = rest } in
      let read : Field E B = λ (from : Unread). rA from >>= λ a. rB from.place a.0 a.1 in
      let joined : read (record { place = place; rest = sA (kind b) ++ (behind b ++ rest) }) ≡ Ok (b, after (place + length (sA (kind b)) + length (behind b))) = rw one two in
      let far : place + length (sA (kind b)) + length (behind b) ≡ place + length (sA (kind b) ++ behind b) = omega (arith, length-append (sA (kind b)) (behind b)) in
      let whole : read (record { place = place; rest = (sA (kind b) ++ behind b) ++ rest }) ≡ Ok (b, after (place + length (sA (kind b) ++ behind b))) =
      ap (λ (t : List ℕ). read (record { place = place; rest = t })) (append_assoc (sA (kind b)) (behind b) rest) ∙ joined ∙ ap (λ (p : ℕ). Ok (b, after p)) far in
      subst (λ (t : List ℕ). read (record { place = place; rest = t ++ rest }) ≡ Ok (b, after (place + length t))) (sym (spelled b)) whole;
}

-- One field and another behind it, which does not depend on the first.
pub then_is : {A B E : Type 0} {FA : A → Type 0} {sA : A → List ℕ} {rA : Field E A} {FB : B → Type 0} {sB : B → List ℕ} {rB : Field E B}
    → IsField FA sA rA → IsField FB sB rB
    → IsField (λ (x : A × B). FA x.0 × FB x.1) (λ (x : A × B). sA x.0 ++ sB x.1) (followed_by rA (λ a. rB))
then_is {FA = FA} {sA = sA} {rA = rA} {FB = FB} {sB = sB} {rB = rB} fa fb = both_are FA sA rA (λ a. FB) (λ a. sB) (λ a. rB) fa (λ a _. fb)

-- The same field, whose value is seen as another.
pub view_is : {A B E : Type 0} {FA : A → Type 0} {sA : A → List ℕ} {rA : Field E A}
    → IsField FA sA rA → (view : A → B) (FB : B → Type 0) (sB : B → List ℕ)
    → ((a : A) → FA a → FB (view a) × (sB (view a) ≡ sA a))
    → ((b : B) → FB b → (a : A) × FA a × (view a ≡ b))
    → IsField FB sB (seen_as view rA)
view_is {FA = FA} {sA = sA} {rA = rA} fa view FB sB to back = seen_is view FA sA rA FB sB to back fa
