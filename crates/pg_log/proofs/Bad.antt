-- Where bytes are no log.
use Rattle.std.proofs.Common.{◌≡◌, ◌≢◌, ℕ, ◌+◌, ◌<◌, ◌≤◌, List, [], ◌∷◌, ◌++◌, length, take, drop, get_or, refl, sym, ◌∙◌, ap, subst, arith, append_assoc, length-append, take-append-drop, w32}
use Rattle.std.proofs.Math.Seq.{take-append-add}
use Rattle.std.proofs.lemmas.List.{append-nil, take_at, take_more, take-append-le, length-take, append_cancel_left}
use Rattle.std.specs.Int.{to_be_bytes}
use Rattle.pg_log.specs.Bytes.{start, blocks, AllFit, front, IsTail, IsLog, IsLogStart, IsBadAt, IsTailStart, IsBadTail}
use Rattle.pg_log.proofs.Unique.{head_of, peeled}

-- ---- beginnings

pub tail_begins : (bytes : List ℕ) (entries : List (List ℕ)) (k : ℕ) → IsTail bytes entries → IsTailStart (take k bytes)
tail_begins bytes entries k is = (drop k bytes, entries, subst (λ (l : List ℕ). IsTail l entries) (sym (take-append-drop k bytes)) is)

pub log_begins : (bytes : List ℕ) (entries : List (List ℕ)) (k : ℕ) → IsLog bytes entries → IsLogStart (take k bytes)
log_begins bytes entries k is = (drop k bytes, entries, subst (λ (l : List ℕ). IsLog l entries) (sym (take-append-drop k bytes)) is)

-- a byte that no tail continues
pub bad_byte : (bytes : List ℕ) (place : ℕ) → place < length bytes → IsTailStart (take place bytes) → (IsTailStart (take (place + 1) bytes) → ⊥) → IsBadTail bytes place
bad_byte bytes place within before byte = record {
  within = omega (arith, within);
  before = before;
  byte = λ in_bytes. byte;
  no_tail = λ entries is. byte (tail_begins bytes entries (place + 1) is);
}

-- ---- behind some entries

tail_behind : (entries : List (List ℕ)) (bytes : List ℕ) (others : List (List ℕ)) → AllFit entries → IsTail bytes others → IsTail (blocks entries ++ bytes) (entries ++ others)
tail_behind [] bytes others fit is = is
tail_behind (entry ∷ entries) bytes others fit is =
    let rest = tail_behind entries bytes others fit.1 is in
    let head : List ℕ = head_of entry ++ entry in
    record {
      gate = rest.gate;
      rest = rest.rest;
      spelled = append_assoc head (blocks entries) bytes ∙ ap (λ (l : List ℕ). head ++ l) rest.spelled ∙ sym (append_assoc head (blocks (entries ++ others)) (rest.gate ∷ rest.rest));
      closed = rest.closed;
      fit = (fit.0, rest.fit);
    }

start_behind : (entries : List (List ℕ)) (bytes : List ℕ) → AllFit entries → IsTailStart bytes → IsLogStart (front entries ++ bytes)
start_behind entries bytes fit begins =
    let more : List ℕ = begins.0 in (
      more,
      entries ++ begins.1,
      record {
        tail = blocks entries ++ (bytes ++ more);
        spelled = append_assoc (front entries) bytes more ∙ append_assoc start (blocks entries) (bytes ++ more);
        is_tail = tail_behind entries (bytes ++ more) begins.1 fit begins.2;
      },
    )

all_peeled : (entries : List (List ℕ)) (bytes : List ℕ) (others : List (List ℕ)) → AllFit entries → IsTail (blocks entries ++ bytes) others → (rest : List (List ℕ)) × IsTail bytes rest
all_peeled [] bytes others fit is = (others, is)
all_peeled (entry ∷ entries) bytes others fit is =
    let regrouped = subst (λ (l : List ℕ). IsTail l others) (append_assoc (head_of entry ++ entry) (blocks entries) bytes) is in
    let first = peeled entry (blocks entries ++ bytes) others fit.0 regrouped in
    all_peeled entries bytes first.others fit.1 first.is_tail

log_peeled : (entries : List (List ℕ)) (bytes : List ℕ) (others : List (List ℕ)) → AllFit entries → IsLog (front entries ++ bytes) others → (rest : List (List ℕ)) × IsTail bytes rest
log_peeled entries bytes others fit is =
    let tails : blocks entries ++ bytes ≡ is.tail = append_cancel_left start (blocks entries ++ bytes) is.tail (sym (append_assoc start (blocks entries) bytes) ∙ is.spelled) in
    all_peeled entries bytes others fit (subst (λ (l : List ℕ). IsTail l others) (sym tails) is.is_tail)

start_peeled : (entries : List (List ℕ)) (bytes : List ℕ) → AllFit entries → IsLogStart (front entries ++ bytes) → IsTailStart bytes
start_peeled entries bytes fit begins =
    let rest = log_peeled entries (bytes ++ begins.0) begins.1 fit (subst (λ (l : List ℕ). IsLog l begins.1) (append_assoc (front entries) bytes begins.0) begins.2) in
    (begins.0, rest.0, rest.1)

-- a tail that is bad makes the log bad at the same byte
pub bad_behind : (entries : List (List ℕ)) (rest file : List ℕ) (place : ℕ) → AllFit entries → file ≡ front entries ++ rest → 17 < length file → IsBadTail rest place → IsBadAt file (length (front entries) + place)
bad_behind entries rest file place fit is long bad =
    let size : length file ≡ length (front entries) + length rest = ap length is ∙ length-append (front entries) rest in
    let cut : (k : ℕ) → take (length (front entries) + k) file ≡ front entries ++ take k rest = λ k. ap (take (length (front entries) + k)) is ∙ take-append-add (front entries) rest k in
    record {
      long = long;
      within = omega (arith, size, bad.within);
      before = subst IsLogStart (sym (cut place)) (start_behind entries (take place rest) fit bad.before);
      byte = λ within begins. bad.byte (omega (arith, size, within))
          (start_peeled entries (take (place + 1) rest) fit
          (subst IsLogStart (ap (λ (k : ℕ). take k file) (let same : length (front entries) + place + 1 ≡ length (front entries) + (place + 1) = omega arith in same) ∙ cut (place + 1)) begins));
      no_log = λ others log.
          let found = log_peeled entries rest others fit (subst (λ (l : List ℕ). IsLog l others) is log) in
          bad.no_tail found.0 found.1;
    }

-- ---- at a gate

closed_tail : (rest : List ℕ) → IsTail (0 ∷ rest) []
closed_tail rest = record { gate = 0; rest = rest; spelled = refl; closed = λ (e : 0 ≡ 1). omega arith; fit = tt }

no_tail_in_none : (entries : List (List ℕ)) → IsTail [] entries → ⊥
no_tail_in_none entries is = let size = ap length is.spelled in omega (arith, size, length-append (blocks entries) (is.gate ∷ is.rest))

-- where a gate is missing
pub bad_end : IsBadTail [] 0
bad_end = record {
  within = omega arith;
  before = (0 ∷ [], [], closed_tail []);
  byte = λ within begins. omega (arith, within);
  no_tail = no_tail_in_none;
}

-- what stands behind an open gate
pub record IsOpened (bytes : List ℕ) : Type 0 where
  pub entry : List ℕ
  pub tail : List ℕ
  pub spelled : bytes ≡ to_be_bytes w32 (length entry) ++ entry ++ tail
  pub fits : length entry ≤ 65536
  pub goes_on : 0 < length tail

pub opened : (bytes : List ℕ) (entries : List (List ℕ)) → IsTail (1 ∷ bytes) entries → IsOpened bytes
opened bytes [] is = absurd (is.closed (sym (ap (λ (l : List ℕ). get_or l 0 0) is.spelled)))
opened bytes (entry ∷ entries) is = record {
  entry = entry;
  tail = blocks entries ++ is.gate ∷ is.rest;
  spelled = ap (drop 1) is.spelled ∙ append_assoc (to_be_bytes w32 (length entry) ++ entry) (blocks entries) (is.gate ∷ is.rest);
  fits = is.fit.0;
  goes_on = omega (arith, length-append (blocks entries) (is.gate ∷ is.rest));
}

-- bytes that an entry's length and bytes continue
pub opens_so : (bytes more entry : List ℕ) → length entry ≤ 65536 → bytes ++ more ≡ to_be_bytes w32 (length entry) ++ entry ++ 0 ∷ [] → IsTailStart (1 ∷ bytes)
opens_so bytes more entry fits is = (
  more,
  entry ∷ [],
  record {
    gate = 0;
    rest = [];
    spelled = ap (λ (l : List ℕ). 1 ∷ l) is ∙ ap (λ (l : List ℕ). l ++ 0 ∷ []) (sym (append-nil (head_of entry ++ entry)));
    closed = λ (e : 0 ≡ 1). omega arith;
    fit = (fits, tt);
  },
)

pub bad_none : (bytes : List ℕ) → length bytes < 1 → IsBadTail bytes 0
bad_none [] none = bad_end
bad_none (byte ∷ bytes) none = absurd (omega arith)

-- ---- at the start

-- the first byte that is another
pub bad_start_at : (file : List ℕ) (i : ℕ) → 17 < length file → i < 16 → take i file ≡ take i start → get_or file i 0 ≢ get_or start i 0 → IsBadAt file i
bad_start_at file i long within same other =
    let byte : IsLogStart (take (i + 1) file) → ⊥ = λ begins.
    let log = begins.2 in
    let first : take (i + 1) file ≡ take (i + 1) start =
    sym (take_at (take (i + 1) file) begins.0 (i + 1) (omega (arith, length-take (i + 1) file, long, within)))
    ∙ ap (take (i + 1)) log.spelled ∙ take-append-le (i + 1) start log.tail (omega (arith, within)) in
    let bytes : take i file ++ get_or file i 0 ∷ [] ≡ take i start ++ get_or start i 0 ∷ [] =
    sym (take_more file i 0 (omega (arith, long, within))) ∙ first ∙ take_more start i 0 within in
    let lasts : get_or file i 0 ∷ [] ≡ get_or start i 0 ∷ [] =
    append_cancel_left (take i start) (get_or file i 0 ∷ []) (get_or start i 0 ∷ []) (ap (λ (l : List ℕ). l ++ get_or file i 0 ∷ []) (sym same) ∙ bytes) in
    other (ap (λ (l : List ℕ). get_or l 0 0) lasts) in
    record {
      long = long;
      within = omega (arith, long, within);
      before = (
        drop i start ++ 0 ∷ [],
        [],
        record {
          tail = 0 ∷ [];
          spelled = ap (λ (l : List ℕ). l ++ (drop i start ++ 0 ∷ [])) same ∙ sym (append_assoc (take i start) (drop i start) (0 ∷ [])) ∙ ap (λ (l : List ℕ). l ++ 0 ∷ []) (take-append-drop i start);
          is_tail = closed_tail [];
        },
      );
      byte = λ in_file. byte;
      no_log = λ entries log. byte (log_begins file entries (i + 1) log);
    }

pub start_more : (file : List ℕ) (i : ℕ) → 17 < length file → i < 16 → take i file ≡ take i start → get_or file i 0 ≡ get_or start i 0 → take (i + 1) file ≡ take (i + 1) start
start_more file i long within same byte =
    take_more file i 0 (omega (arith, long, within)) ∙ (λ k. same k ++ byte k ∷ []) ∙ sym (take_more start i 0 within)
