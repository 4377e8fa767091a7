-- A stamp behind another, which is wrong as a whole.
use Rattle.std.proofs.Common.{◌≡◌, ℕ, ◌+◌, ◌-◌, ◌<◌, inl, inr, Bool, true, false, cond, ltb, List, [], length, take, Option, Ok, Err, refl, sym, ap, subst, ◌∙◌, arith}
use Rattle.std.proofs.lemmas.Bool.{ltb-false}
use Rattle.std.proofs.lemmas.List.{append-nil, length-drop}
use Rattle.byteorder.specs.Endian.{big_number}
use Rattle.pg_base.specs.declared.stamp.Stamp.{Stamp}
use Rattle.pg_codec.specs.Unread.{Unread}
use Rattle.pg_codec.specs.declared.error.ReadError.TheVariants as read
use Rattle.pg_codec.specs.Reading.{Field, ◌>>=◌, followed_by, seen_as, behind, bytes_at, end_of, number_at, stamp_at}
use Rattle.pg_codec.specs.Laws.{HasStampWidth}
use Rattle.pg_codec.specs.Spelling.{stamp_bytes}
use Rattle.pg_codec.proofs.Binding.{bind_ok, ok_is}
use Rattle.pg_packet_fields.specs.Faults.{of_packet, with_fault}
use Rattle.pg_packet_fields.specs.Lists.{is_later, later_at, later_of}
use Rattle.pg_packet_fields.specs.declared.error.PacketError.{PacketError}
use Rattle.pg_packet_fields.specs.declared.error.PacketError.TheVariants.{Short}
use Rattle.pg_packet_fields.proofs.Plain.{stamp_is}
use Rattle.law_packets.proofs.Atoms.{Nothing, bytes_only, of_followed, of_seen}
use Rattle.law_packets.proofs.Checks.{checked_told, test_check}
use Rattle.law_packets.proofs.Telling.{IsTold, Stops, bind_err, no_error, pair, seen_step, took_field}

-- so many bytes, of which fewer are too few and no others are wrong
record IsAtom {X : Type 0} (size : ℕ) (read : Field PacketError X) : Type 0 where
  only : (from : Unread) (e : PacketError) → read from ≡ Err e → (e ≡ Short (end_of from)) × (length from.rest < size)
  moves : (from : Unread) (x : X × Unread) → read from ≡ Ok x → (length from.rest ≡ size + length x.1.rest) × (end_of x.1 ≡ end_of from)

move_case : (t : Bool) (n : ℕ) (from : Unread) (x : List ℕ × Unread) → ltb (length from.rest) n ≡ t
    → with_fault {X = List ℕ × Unread} (cond t (Err (read.Short (end_of from))) (Ok (take n from.rest, behind n from))) ≡ Ok x → (length from.rest ≡ n + length x.1.rest) × (end_of x.1 ≡ end_of from)
move_case true n from x test k = absurd (no_error x (Short (end_of from)) (sym k))
move_case false n from x test k =
    let made : List ℕ × Unread = (take n from.rest, behind n from) in
    let long = ltb-false (length from.rest) n test in
    let fewer = length-drop n from.rest in
    subst (λ (y : List ℕ × Unread). (length from.rest ≡ n + length y.1.rest) × (end_of y.1 ≡ end_of from)) (ok_is PacketError made x k)
    (omega (arith, long, fewer), omega (arith, long, fewer))

bytes_atom : (n : ℕ) → IsAtom n (of_packet (bytes_at n))
bytes_atom n = record { only = bytes_only n; moves = λ from x k. move_case (ltb (length from.rest) n) n from x refl k }

seen_atom : {A B : Type 0} (size : ℕ) (view : A → B) (read : Field PacketError A) → IsAtom size read → IsAtom size (seen_as view read)
seen_atom {A = A} {B = B} size view read atom = record {
  only = λ from e k.
      elim (bind_err (read from) (λ a. Ok (view a.0, a.1)) e k) [
        | inl h ↦ atom.only from e h
        | inr h ↦ absurd (no_error (view h.0.0, h.0.1) e h.2)
      ];
  moves = λ from x k.
      let a = bind_ok (read from) (λ a. Ok (view a.0, a.1)) x k in
      let made : B × Unread = (view a.0.0, a.0.1) in
      subst (λ (y : B × Unread). (length from.rest ≡ size + length y.1.rest) × (end_of y.1 ≡ end_of from)) (ok_is PacketError made x a.2) (atom.moves from a.0 a.1);
}

same_atom : {X : Type 0} (size : ℕ) (read other : Field PacketError X) → ((from : Unread) → other from ≡ read from) → IsAtom size read → IsAtom size other
same_atom size read other is atom = record {
  only = λ from e k. atom.only from e (sym (is from) ∙ k);
  moves = λ from x k. atom.moves from x (sym (is from) ∙ k);
}

then_atom : {A B : Type 0} (m n : ℕ) (first : Field PacketError A) (second : Field PacketError B) → IsAtom m first → IsAtom n second → IsAtom (m + n) (followed_by first (λ a. second))
then_atom {A = A} {B = B} m n first second one two =
    let two_seen : (a : A) → IsAtom n (seen_as (pair a) second) = λ a. seen_atom n (pair a) second two in
    record {
      only = λ from e k.
          elim (bind_err (first from) (λ a. (second a.1 >>= seen_step PacketError (pair a.0))) e k) [
            | inl h ↦ let o = one.only from e h in let few = o.1 in (o.0, omega (arith, few))
            | inr h ↦
                let moved = one.moves from h.0 h.1 in
                let o = (two_seen h.0.0).only h.0.1 e h.2 in
                let long = moved.0 in
                let few = o.1 in
                (o.0 ∙ ap Short moved.1, omega (arith, long, few))
          ];
      moves = λ from x k.
          let a = bind_ok (first from) (λ a. (second a.1 >>= seen_step PacketError (pair a.0))) x k in
          let one_moved = one.moves from a.0 a.1 in
          let two_moved = (two_seen a.0.0).moves a.0.1 x a.2 in
          let long = one_moved.0 in
          let more = two_moved.0 in
          (omega (arith, long, more), two_moved.1 ∙ one_moved.1);
    }

number_atom : (width : ℕ) → IsAtom width (of_packet (number_at width))
unfolding number_at
number_atom width = same_atom width (seen_as (big_number width) (of_packet (bytes_at width))) (of_packet (number_at width)) (of_seen (big_number width) (bytes_at width))
    (seen_atom width (big_number width) (of_packet (bytes_at width)) (bytes_atom width))

abbrev stamp_view : ℕ × ℕ → Stamp
stamp_view x = record { time = x.0; server = x.1 }

stamp_atom : IsAtom 12 (of_packet stamp_at)
unfolding stamp_at
stamp_atom =
    let both = followed_by (number_at 8) (λ time. number_at 4) in
    same_atom 12 (seen_as stamp_view (of_packet both)) (of_packet stamp_at) (of_seen stamp_view both)
    (seen_atom 12 stamp_view (of_packet both) (same_atom 12 (followed_by (of_packet (number_at 8)) (λ time. of_packet (number_at 4))) (of_packet both) (of_followed (number_at 8) (λ time. number_at 4))
    (then_atom 8 4 (of_packet (number_at 8)) (of_packet (number_at 4)) (number_atom 8) (number_atom 4))))

stamp_told : IsTold Nothing (of_packet stamp_at)
stamp_told = record {
  takes = took_field HasStampWidth stamp_bytes (of_packet stamp_at) stamp_is;
  stops = λ from e bytes k.
      let only = stamp_atom.only from e k in
      let s : Stops Nothing (of_packet stamp_at) from (Short (end_of from)) = record {
        before = [];
        field = from.rest;
        rest = [];
        size = 12;
        parts = sym (append-nil from.rest);
        told = (refl, (refl, only.1));
        reached = refl;
        refused = λ more few x j.
            let moved = stamp_atom.moves (record { place = from.place; rest = more }) x j in
            let long = moved.0 in
            omega (arith, long, few);
      } in
      subst (λ (d : PacketError). Stops Nothing (of_packet stamp_at) from d) (sym only.0) s;
}

stamp_wants : (place : ℕ) (x : Stamp × Unread) → of_packet stamp_at (record { place = place; rest = [] }) ≡ Ok x → ⊥
stamp_wants place x k =
    let moved = stamp_atom.moves (record { place = place; rest = [] }) x k in
    let long = moved.0 in
    omega (arith, long)

pub later_told : (last : Option Stamp) → IsTold Nothing (later_at last)
unfolding later_at
later_told last = checked_told Nothing (later_of last) (of_packet stamp_at) (test_check (is_later last)) refl stamp_wants stamp_told
