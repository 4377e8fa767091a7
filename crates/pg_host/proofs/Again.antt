-- What a server appended is a log that it goes on with.
use Rattle.std.proofs.Common.{◌≡◌, ℕ, zero, suc, ◌≤◌, ◌==◌, Bool, false, List, [], ◌∷◌, ◌++◌, length, map, take, Option, Some, None, Result, Ok, refl, sym, ◌∙◌, ap, subst, arith}
use Rattle.std.proofs.lemmas.Bool.Decides.{nat_tests}
use Rattle.std.proofs.lemmas.List.{map-append}
use Rattle.pg_node_input.specs.law_lengths.Laws.{store_behind}
use Rattle.pg_server.specs.Local.{effect_of}
use Rattle.pg_server.specs.declared.input.Input.{Input}
use Rattle.pg_server.specs.declared.input.Input.TheVariants.{Restart}
use Rattle.pg_store.specs.Store.{new_store}
use Rattle.pg_store.specs.declared.store.Store.{Store}
use Rattle.pg_host.specs.declared.asking.Asked.{Asked}
use Rattle.pg_host.specs.Entries.{entries_for, entry_for, input_of, start_entry}
use Rattle.pg_host.specs.Host.{AreRead}
use Rattle.pg_host.specs.Logs.{AreInputs, IsLogOf, IsOldLog, Old, begin_entry, begun, goes_on, is_empty}
use Rattle.pg_host.specs.Sends.{after_all}
use Rattle.pg_host.proofs.Readable.{AreWritten, input_read, start_read}

abbrev pub inputs_of : List Asked → List Input
inputs_of own = map (λ (a : Asked). a.input) own

spelled_inputs : (own : List Asked) → entries_for own ≡ map entry_for (inputs_of own)
spelled_inputs [] = refl
spelled_inputs (a ∷ own) = ap (λ (es : List (List ℕ)). entry_for a.input ∷ es) (spelled_inputs own)

abbrev ok : Input → Result Input ℕ
ok i = Ok i

abbrev ok_of : Asked → Result Input ℕ
ok_of a = Ok a.input

ok_inputs : (own : List Asked) → map ok_of own ≡ map ok (inputs_of own)
ok_inputs [] = refl
ok_inputs (a ∷ own) = λ i. ok_of a ∷ ok_inputs own i

pub read_take : (k : ℕ) (own : List Asked) → AreRead own → AreRead (take k own)
read_take zero own read = refl
read_take (suc k) [] read = refl
read_take (suc k) (a ∷ own) read =
    let same : input_of (entry_for a.input) ∷ map input_of (entries_for own) ≡ ok_of a ∷ map ok_of own = read in
    let head : input_of (entry_for a.input) ≡ Ok a.input = cc in
    let more : map input_of (entries_for own) ≡ map ok_of own = cc in
    λ i. head i ∷ read_take k own more i

pub are_inputs : (own : List Asked) → AreRead own → AreInputs (entries_for own) (inputs_of own)
are_inputs own read = record { spelled = spelled_inputs own; read = read ∙ ok_inputs own }

module _ (written : AreWritten) (server servers : ℕ) (few : server ≤ 64) (most : servers ≤ 64) (own : List Asked) (read : AreRead own) where
  log_at : (old : Old) (entries : List (List ℕ)) → IsOldLog server servers old entries
      → IsOldLog server servers (goes_on old own) (entries ++ begin_entry server servers (is_empty entries) ∷ entries_for own)
  log_at None entries none = record {
    first = start_entry server servers;
    later = entries_for own;
    whole = ap (λ (es : List (List ℕ)). es ++ begin_entry server servers (is_empty es) ∷ entries_for own) none;
    start = record { spelled = refl; read = start_read written server servers few most };
    are = are_inputs own read;
  }
  log_at (Some inputs) entries log =
      let own_are : AreInputs (entries_for own) (inputs_of own) = are_inputs own read in
      let some : (suc (length log.later) == 0) ≡ false = grind (arith, nat_tests) in
      record {
        first = log.first;
        later = log.later ++ entry_for Restart ∷ entries_for own;
        whole = ap (λ (es : List (List ℕ)). es ++ begin_entry server servers (is_empty es) ∷ entries_for own) log.whole
            ∙ ap (λ (none : Bool). (log.first ∷ log.later) ++ begin_entry server servers none ∷ entries_for own) some;
        start = log.start;
        are = record {
          spelled = (λ i. log.are.spelled i ++ entry_for Restart ∷ own_are.spelled i) ∙ sym (map-append entry_for inputs (Restart ∷ inputs_of own));
          read = map-append input_of log.later (entry_for Restart ∷ entries_for own)
              ∙ (λ i. log.are.read i ++ input_read written Restart tt i ∷ own_are.read i)
              ∙ sym (map-append ok inputs (Restart ∷ inputs_of own));
        };
      }

pub goes_on_log : AreWritten → (server servers k : ℕ) (old : Old) (entries : List (List ℕ)) (own : List Asked) → server ≤ 64 → servers ≤ 64 → IsOldLog server servers old entries → AreRead own
    → IsOldLog server servers (goes_on old (take k own)) (entries ++ begin_entry server servers (is_empty entries) ∷ entries_for (take k own))
goes_on_log written server servers k old entries own few most log read = log_at written server servers few most (take k own) (read_take k own read) old entries log

-- ---- what it holds

pub behind_all : (s : Store) (own : List Asked) → store_behind s (inputs_of own) ≡ after_all s own
behind_all s [] = refl
behind_all s (a ∷ own) = behind_all (effect_of s a.input).store own

pub behind-append : (s : Store) (is js : List Input) → store_behind s (is ++ js) ≡ store_behind (store_behind s is) js
behind-append s [] js = refl
behind-append s (i ∷ is) js = behind-append (effect_of s i).store is js

pub goes_on_begun : (server servers : ℕ) (old : Old) (own : List Asked) → begun server servers None (goes_on old own) ≡ (effect_of (after_all (begun server servers None old) own) Restart).store
goes_on_begun server servers None own = ap (λ (s : Store). (effect_of s Restart).store) (behind_all (new_store servers server) own)
goes_on_begun server servers (Some inputs) own =
    ap (λ (s : Store). (effect_of s Restart).store)
    (behind-append (new_store servers server) inputs (Restart ∷ inputs_of own)
    ∙ behind_all (effect_of (store_behind (new_store servers server) inputs) Restart).store own)
