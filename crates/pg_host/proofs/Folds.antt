-- How the entries of a log are read, one behind another.
use Rattle.std.proofs.Common.{◌≡◌, ◌⊎◌, inl, inr, ℕ, suc, ◌+◌, ◌≤◌, ◌<◌, ◌^◌, List, [], ◌∷◌, ◌++◌, length, take, drop, map, get_or, Result, Ok, Err, refl, sym, ◌∙◌, ap, subst, arith, length-append, w32}
use Rattle.std.specs.Int.{to_be_bytes}
use Rattle.std.proofs.lemmas.List.{drop_all, drop-append-le, length-map, length-take, take_more, take_all, map-append}
use Rattle.std.proofs.Math.Seq.{split_at}
use Rattle.pg_node_input.specs.law_lengths.Laws.{store_behind}
use Rattle.pg_event.specs.declared.status.Status.{Status}
use Rattle.pg_event.specs.declared.status.Status.TheVariants as status
use Rattle.pg_log.specs.Bytes.{blocks, front, start}
use Rattle.pg_server.specs.Local.{effect_of}
use Rattle.pg_server.specs.declared.input.Input.{Input}
use Rattle.pg_store.specs.declared.store.Store.{Store}
use Rattle.pg_host.specs.Entries.{entry_for, input_of, start_of}
use Rattle.pg_host.specs.Logs.{AreInputs, IsBadEntry, IsStart}
use Rattle.pg_host.specs.Starts.{IsBadIn, IsFold, IsFoldedTo, IsNoFold, IsTakenBehind, IsReadTo, IsUnfolded, IsUnread}

abbrev ok : Input → Result Input ℕ
ok i = Ok i

-- ---- lengths

abbrev block_of : List ℕ → List ℕ
block_of entry = (1 ∷ to_be_bytes w32 (length entry)) ++ entry

block_length : (entry : List ℕ) → length (block_of entry) ≡ 5 + length entry
block_length entry =
    let field : List ℕ = 1 ∷ to_be_bytes w32 (length entry) in
    let five : length field ≡ 5 = refl in
    omega (arith, five, length-append field entry)

pub blocks_length : (a b : List (List ℕ)) → length (blocks (a ++ b)) ≡ length (blocks a) + length (blocks b)
blocks_length [] b = let none : length (blocks []) ≡ 0 = refl in omega (arith, none)
blocks_length (e ∷ a) b =
    let more = blocks_length a b in
    let whole : length (blocks (e ∷ (a ++ b))) ≡ length (block_of e) + length (blocks (a ++ b)) = length-append (block_of e) (blocks (a ++ b)) in
    let first : length (blocks (e ∷ a)) ≡ length (block_of e) + length (blocks a) = length-append (block_of e) (blocks a) in
    omega (arith, more, whole, first)

pub first_length : (e : List ℕ) (a : List (List ℕ)) → length (blocks (e ∷ a)) ≡ 5 + length e + length (blocks a)
first_length e a =
    let one = block_length e in
    let whole : length (blocks (e ∷ a)) ≡ length (block_of e) + length (blocks a) = length-append (block_of e) (blocks a) in
    omega (arith, one, whole)

pub front_length : (a : List (List ℕ)) → length (front a) ≡ 16 + length (blocks a)
front_length a =
    let sixteen : length start ≡ 16 = refl in
    omega (arith, sixteen, length-append start (blocks a))

pub first_room : (first : List ℕ) (later : List (List ℕ)) → length (front (first ∷ later)) ≡ 21 + length first + length (blocks later)
first_room first later = omega (arith, front_length (first ∷ later), first_length first later)

-- ---- one entry more

module _ (entries : List (List ℕ)) (k : ℕ) (entry : List ℕ) (within : k < length entries) (is : entry ≡ get_or entries k entry) where
  parts : entries ≡ take k entries ++ entry ∷ drop (suc k) entries
  parts = split_at entries k entry within ∙ ap (λ (x : List ℕ). take k entries ++ x ∷ drop (suc k) entries) (sym is)

  pushed : take (k + 1) entries ≡ take k entries ++ entry ∷ []
  pushed = take_more entries k entry within ∙ ap (λ (x : List ℕ). take k entries ++ x ∷ []) (sym is)

  pub room_for : (from gate : ℕ) → gate ≡ from + length (blocks (take k entries)) → from + length (blocks entries) < 2 ^ 64 → gate + (5 + length entry) < 2 ^ 64
  room_for from gate gate_is room =
      let whole : length (blocks entries) ≡ length (blocks (take k entries)) + length (blocks (entry ∷ drop (suc k) entries)) = ap (λ (es : List (List ℕ)). length (blocks es)) parts ∙ blocks_length (take k entries) (entry ∷ drop (suc k) entries) in
      let one = first_length entry (drop (suc k) entries) in
      omega (arith, gate_is, room, whole, one)

  gate_on : (from gate next : ℕ) → gate ≡ from + length (blocks (take k entries)) → next ≡ gate + 5 + length entry → next ≡ from + length (blocks (take (k + 1) entries))
  gate_on from gate next gate_is next_is =
      let whole : length (blocks (take (k + 1) entries)) ≡ length (blocks (take k entries)) + length (blocks (entry ∷ [])) = ap (λ (es : List (List ℕ)). length (blocks es)) pushed ∙ blocks_length (take k entries) (entry ∷ []) in
      let one = first_length entry [] in
      let none : length (blocks []) ≡ 0 = refl in
      omega (arith, gate_is, next_is, whole, one, none)

  inputs_on : (done : List Input) (input : Input) → AreInputs (take k entries) done → input_of entry ≡ Ok input → entry ≡ entry_for input → AreInputs (take (k + 1) entries) (done ++ input ∷ [])
  inputs_on done input read found spelled = record {
    spelled = pushed ∙ (λ i. read.spelled i ++ spelled i ∷ []) ∙ sym (map-append entry_for done (input ∷ []));
    read = ap (map input_of) pushed ∙ map-append input_of (take k entries) (entry ∷ []) ∙ (λ i. read.read i ++ found i ∷ []) ∙ sym (map-append ok done (input ∷ []));
  }

  pub read_more : (from gate next : ℕ) (input : Input) → IsReadTo entries k from gate → input_of entry ≡ Ok input → entry ≡ entry_for input → next ≡ gate + 5 + length entry → IsReadTo entries (k + 1) from next
  read_more from gate next input so_far found spelled next_is = record {
    done = so_far.done ++ input ∷ [];
    read = inputs_on so_far.done input so_far.read found spelled;
    gate_is = gate_on from gate next so_far.gate_is next_is;
  }

  behind_push : (s : Store) (done : List Input) (input : Input) → store_behind s (done ++ input ∷ []) ≡ (effect_of (store_behind s done) input).store
  behind_push s [] input = refl
  behind_push s (i ∷ done) input = behind_push (effect_of s i).store done input

  module _ (skip : ℕ) (s0 s1 s2 : Store) (done : List Input) (input : Input) (read : AreInputs (take k entries) done) (so_far : s1 ≡ store_behind s0 (drop skip done)) where
    many : length done ≡ k
    many =
        let whole : length (take k entries) ≡ length done = ap length read.spelled ∙ length-map done entry_for in
        omega (arith, whole, within, length-take k entries)

    -- the server took it, or only read it
    taken_behind : IsTakenBehind k skip s1 input s2 → s2 ≡ store_behind s0 (drop skip (done ++ input ∷ []))
    taken_behind (inl before) =
        let one : length (done ++ input ∷ []) ≡ length done + 1 = length-append done (input ∷ []) in
        let few : length done ≤ skip = omega (arith, many, before.0) in
        let more : length (done ++ input ∷ []) ≤ skip = omega (arith, many, before.0, one) in
        before.1 ∙ so_far ∙ ap (store_behind s0) (drop_all skip done few ∙ sym (drop_all skip (done ++ input ∷ []) more))
    taken_behind (inr behind) =
        let reached : skip ≤ length done = omega (arith, many, behind.0) in
        behind.1 ∙ ap (λ (s : Store). (effect_of s input).store) so_far ∙ sym (behind_push s0 (drop skip done) input) ∙ ap (store_behind s0) (sym (drop-append-le skip done (input ∷ []) reached))

  pub fold_more : (from gate next skip : ℕ) (input : Input) (s0 s1 s2 : Store) → IsFoldedTo entries skip k from gate s0 s1 → input_of entry ≡ Ok input → entry ≡ entry_for input → next ≡ gate + 5 + length entry
      → IsTakenBehind k skip s1 input s2 → IsFoldedTo entries skip (k + 1) from next s0 s2
  fold_more from gate next skip input s0 s1 s2 so_far found spelled next_is stepped = record {
    done = so_far.done ++ input ∷ [];
    read = inputs_on so_far.done input so_far.read found spelled;
    gate_is = gate_on from gate next so_far.gate_is next_is;
    store = taken_behind skip s0 s1 s2 so_far.done input so_far.read so_far.store stepped;
  }

  -- it is none
  pub unfolded : (from gate : ℕ) (done : List Input) (e : Status) → AreInputs (take k entries) done → gate ≡ from + length (blocks (take k entries)) → IsUnread gate (input_of entry) e → IsUnfolded from entries e
  unfolded from gate done e read gate_is (inl memory) = inl memory
  unfolded from gate done e read gate_is (inr bad) = inr (record {
    before = take k entries;
    entry = entry;
    behind = drop (suc k) entries;
    whole = parts;
    inputs = done;
    read = read;
    at = bad.0;
    bad = bad.1;
    is = bad.2 ∙ ap (λ (g : ℕ). status.BadLog (g + (5 + bad.0))) gate_is;
  })

none_read : AreInputs [] []
none_read = record { spelled = refl; read = refl }

pub read_none : (entries : List (List ℕ)) (from : ℕ) → IsReadTo entries 0 from from
read_none entries from = record { done = []; read = none_read; gate_is = let none : length (blocks []) ≡ 0 = refl in omega (arith, none) }

pub fold_none : (entries : List (List ℕ)) (skip from : ℕ) (s : Store) → IsFoldedTo entries skip 0 from from s s
fold_none entries skip from s = record {
  done = [];
  read = none_read;
  gate_is = (let none : length (blocks []) ≡ 0 = refl in omega (arith, none));
  store = ap (store_behind s) (sym (drop_all skip [] (omega arith)));
}

-- ---- all entries

all_read : (entries : List (List ℕ)) (k : ℕ) (done : List Input) → length entries ≤ k → AreInputs (take k entries) done → AreInputs entries done
all_read entries k done all read = subst (λ (es : List (List ℕ)). AreInputs es done) (take_all k entries all) read

pub read_all : (entries : List (List ℕ)) (k from gate : ℕ) → length entries ≤ k → IsReadTo entries k from gate → (inputs : List Input) × AreInputs entries inputs
read_all entries k from gate all so_far = (so_far.done, all_read entries k so_far.done all so_far.read)

pub fold_all : (entries : List (List ℕ)) (skip k from gate : ℕ) (s0 s1 : Store) → length entries ≤ k → IsFoldedTo entries skip k from gate s0 s1 → IsFold entries skip s0 s1
fold_all entries skip k from gate s0 s1 all so_far = record { inputs = so_far.done; read = all_read entries k so_far.done all so_far.read; store = so_far.store }

-- ---- behind the first entry

module _ (server servers : ℕ) (entries : List (List ℕ)) (first : List ℕ) (later : List (List ℕ)) (whole : entries ≡ first ∷ later) (e : Status) where
  pub bad_first : IsUnread 16 (start_of first) e → IsNoFold server servers entries e
  bad_first (inl memory) = inl memory
  bad_first (inr bad) = inr (inl (
    16 + (5 + bad.0),
    bad.2,
    record {
      before = [];
      entry = first;
      behind = later;
      whole = whole;
      good = tt;
      at = bad.0;
      bad = bad.1;
      place_is = let none = front_length [] in let zero : length (blocks []) ≡ 0 = refl in omega (arith, none, zero);
    },
  ))

  pub bad_later : (own of gate : ℕ) → IsStart own of first → gate ≡ 21 + length first → IsUnfolded gate later e → IsNoFold server servers entries e
  bad_later own of gate start gate_is (inl memory) = inl memory
  bad_later own of gate start gate_is (inr bad) = inr (inl (
    gate + length (blocks bad.before) + (5 + bad.at),
    bad.is,
    record {
      before = first ∷ bad.before;
      entry = bad.entry;
      behind = bad.behind;
      whole = whole ∙ ap (λ (es : List (List ℕ)). first ∷ es) bad.whole;
      good = ((own, of, start), (bad.inputs, bad.read));
      at = bad.at;
      bad = bad.bad;
      place_is = omega (arith, gate_is, first_room first bad.before);
    },
  ))
