-- Bytes are read as a store exactly where they are its spelling.
use Rattle.std.proofs.Common.{◌≡◌, ℕ, ◌<◌, List, ◌++◌, length, None, Ok, Err, refl, sym, ap, ◌∙◌}
use Rattle.pg_codec.specs.Laws.{AreBytes}
use Rattle.pg_codec.proofs.Binding.{bind_ok, ok_is}
use Rattle.pg_packet_fields.specs.declared.error.PacketError.{PacketError}
use Rattle.pg_packet_fields.specs.declared.error.PacketError.TheVariants.{Tail}
use Rattle.pg_state.specs.Spelling.{state_bytes}
use Rattle.pg_state_read.specs.Built.{IsWholeState, plain_store}
use Rattle.pg_state_read.specs.Spelling.{marked_spelling}
use Rattle.pg_state_read.specs.Whole.{AreParts, parts_of, state_of, store_with}
use Rattle.pg_state_read.specs.declared.parts.Parts.{Parts}
use Rattle.pg_store.specs.declared.store.Store.{Store}
use Rattle.pg_state_read.proofs.Built.{store_is}
use Rattle.pg_state_read.proofs.Rows.{rows_of}
use Rattle.pg_state_read.proofs.StoreSpelled.{store_spelled}
use Rattle.pg_state_read.proofs.WholeParts as parts

-- the parts are spelled as the store that they make
pub same_bytes : (p : Parts) (store : Store) → AreParts p → plain_store p ≡ store → state_bytes store ≡ marked_spelling p
same_bytes p store fits made =
    ap state_bytes (sym made) ∙ store_spelled p (rows_of None p.held fits.held.chain)

pub written : (store : Store) → IsWholeState store → state_of (state_bytes store) ≡ Ok store
unfolding state_of
written store whole =
    let p = whole.parts in
    let read : parts_of (state_bytes store) ≡ Ok p = ap parts_of (same_bytes p store whole.whole whole.made) ∙ parts.written p whole.whole whole.time in
    let made : store_with p ≡ store = store_is p whole.whole ∙ whole.made in
    rw read (ap (λ (s : Store). Ok s) made)

pub spelled : (bytes : List ℕ) (store : Store) → AreBytes bytes → state_of bytes ≡ Ok store → IsWholeState store × (bytes ≡ state_bytes store)
unfolding state_of
spelled bytes store width e =
    let read = bind_ok (parts_of bytes) (λ p. Ok (store_with p)) store e in
    let known = parts.spelled bytes read.0 width read.1 in
    let made : plain_store read.0 ≡ store = sym (store_is read.0 known.0.0) ∙ ok_is PacketError (store_with read.0) store read.2 in
    (record { parts = read.0; whole = known.0.0; time = known.0.1; made = made }, known.1 ∙ sym (same_bytes read.0 store known.0.0 made))

-- what stands behind a state is a fault there
pub behind : (store : Store) (rest : List ℕ) → IsWholeState store → 0 < length rest → state_of (state_bytes store ++ rest) ≡ Err (Tail (length (state_bytes store)))
unfolding state_of
behind store rest whole some =
    let p = whole.parts in
    let bytes : state_bytes store ≡ marked_spelling p = same_bytes p store whole.whole whole.made in
    let read : parts_of (state_bytes store ++ rest) ≡ Err (Tail (length (state_bytes store))) =
    ap (λ (front : List ℕ). parts_of (front ++ rest)) bytes ∙ parts.behind p rest whole.whole some
    ∙ ap (λ (front : List ℕ). Err (Tail (length front))) (sym bytes) in
    rw read refl
