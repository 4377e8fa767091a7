-- Slots that agree with a log.
use Rattle.std.proofs.Common.{◌≡◌, ◌⊎◌, inl, inr, ℕ, zero, suc, ◌+◌, ◌-◌, ◌≤◌, ◌==◌, Bool, false, true, List, [], ◌∷◌, ◌++◌, length, map, take, drop, Option, Some, None, Result, Ok, refl, sym, ◌∙◌, ap, subst, arith, append_assoc, length-append, take-append-drop}
use Rattle.std.proofs.lemmas.Bool.Decides.{nat_tests}
use Rattle.std.proofs.lemmas.List.{append-nil, map-append, length-map, take-append-le, take_all}
use Rattle.pg_node_input.specs.law_lengths.Laws.{store_behind}
use Rattle.pg_server.specs.Local.{effect_of}
use Rattle.pg_server.specs.declared.input.Input.{Input}
use Rattle.pg_server.specs.declared.input.Input.TheVariants.{Restart}
use Rattle.pg_checkpoint.specs.Slots.{Slot}
use Rattle.pg_saving.specs.Usable.{usable}
use Rattle.pg_saving.specs.declared.loading.Checkpoint.{Checkpoint}
use Rattle.pg_saving.proofs.Usable.{of_is, of_more, usable_is, usable_none, used_is}
use Rattle.pg_store.specs.Store.{new_store}
use Rattle.pg_store.specs.declared.store.Store.{Store}
use Rattle.pg_host.specs.Entries.{entry_for, input_of, start_entry, start_of}
use Rattle.pg_host.specs.Logs.{AreInputs, IsFound, IsLogOf, IsOldLog, Old, begin_entry, begun, count_of, folded_on, is_empty}
use Rattle.pg_host.specs.Slots.{Agrees, IsFoldOf}
use Rattle.pg_host.proofs.Again.{behind-append}

abbrev ok : Input → Result Input ℕ
ok i = Ok i

-- ---- logs that go on

pub inputs_append : (a b : List (List ℕ)) (is js : List Input) → AreInputs a is → AreInputs b js → AreInputs (a ++ b) (is ++ js)
inputs_append a b is js first second = record {
  spelled = (λ i. first.spelled i ++ second.spelled i) ∙ sym (map-append entry_for is js);
  read = map-append input_of a b ∙ (λ i. first.read i ++ second.read i) ∙ sym (map-append ok is js);
}

module _ (server servers : ℕ) where
  pub log_append : (inputs more : List Input) (entries behind : List (List ℕ)) → IsLogOf server servers inputs entries → AreInputs behind more → IsLogOf server servers (inputs ++ more) (entries ++ behind)
  log_append inputs more entries behind log are = record {
    first = log.first;
    later = log.later ++ behind;
    whole = ap (λ (es : List (List ℕ)). es ++ behind) log.whole;
    start = log.start;
    are = inputs_append log.later behind inputs more log.are are;
  }

  -- how many entries and inputs there are
  pub log_count : (inputs : List Input) (entries : List (List ℕ)) → IsLogOf server servers inputs entries → length entries ≡ length inputs + 1
  log_count inputs entries log =
      let whole : length entries ≡ length (log.first ∷ log.later) = ap length log.whole in
      let all : length log.later ≡ length inputs = ap length log.are.spelled ∙ length-map inputs entry_for in
      omega (arith, whole, all)

  -- ---- slots that agree go on to

  take_on : (n : ℕ) (inputs more : List Input) → n ≤ length inputs → take n (inputs ++ more) ≡ take n inputs
  take_on n inputs more within = take-append-le n inputs more within

  fold_on : (slot : Slot) (entries behind : List (List ℕ)) (more : List Input) → AreInputs behind more → IsFoldOf server servers entries slot → IsFoldOf server servers (entries ++ behind) slot
  fold_on slot entries behind more are fold =
      let used = usable_is server servers (length entries) slot fold.checkpoint fold.used in
      let within = of_is server servers (length entries) slot.folded fold.checkpoint.store used.is in
      let count = log_count fold.inputs entries fold.log in
      let most : slot.folded ≤ length entries = within.3 in
      let folded : fold.checkpoint.folded ≡ slot.folded = used.folded in
      let grown : length entries ≤ length (entries ++ behind) = omega (arith, length-append entries behind) in
      let few : fold.checkpoint.folded - 1 ≤ length fold.inputs = omega (arith, most, count, folded) in
      record {
        checkpoint = fold.checkpoint;
        used = used_is server servers (length (entries ++ behind)) slot fold.checkpoint (record {
          numbered = used.numbered;
          state = used.state;
          folded = used.folded;
          is = of_more server servers (length entries) slot.folded fold.checkpoint.store (length (entries ++ behind)) grown used.is;
        });
        inputs = fold.inputs ++ more;
        log = log_append fold.inputs more entries behind fold.log are;
        fold = fold.fold ∙ ap (store_behind (new_store servers server)) (sym (take_on (fold.checkpoint.folded - 1) fold.inputs more few));
      }

  pub agrees_on : (slot : Option Slot) (entries behind : List (List ℕ)) (more : List Input) → AreInputs behind more → Agrees server servers entries slot → Agrees server servers (entries ++ behind) slot
  agrees_on None entries behind more are agrees = tt
  agrees_on (Some slot) entries behind more are (inl nobody) = inl nobody
  agrees_on (Some slot) entries behind more are (inr fold) = inr (fold_on slot entries behind more are fold)

  -- with a log without entries only such slots agree as agree with any
  none_fold : (slot : Slot) → IsFoldOf server servers [] slot → ⊥
  none_fold slot fold =
      let none : List (List ℕ) = [] in
      let e : length none ≡ length (fold.log.first ∷ fold.log.later) = ap length fold.log.whole in omega (arith, e)

  pub agrees_any : (slot : Option Slot) (entries : List (List ℕ)) → Agrees server servers [] slot → Agrees server servers entries slot
  agrees_any None entries agrees = tt
  agrees_any (Some slot) entries (inl nobody) = inl nobody
  agrees_any (Some slot) entries (inr fold) = absurd (none_fold slot fold)

  -- behind the entry of a begin
  pub agrees_begun : (slot : Option Slot) (entries : List (List ℕ)) → input_of (entry_for Restart) ≡ Ok Restart → Agrees server servers entries slot
      → Agrees server servers (entries ++ begin_entry server servers (is_empty entries) ∷ []) slot
  agrees_begun slot [] read agrees = agrees_any slot (begin_entry server servers (is_empty []) ∷ []) agrees
  agrees_begun slot (entry ∷ entries) read agrees =
      let some : (suc (length entries) == 0) ≡ false = grind (arith, nat_tests) in
      agrees_on slot (entry ∷ entries) (begin_entry server servers (is_empty (entry ∷ entries)) ∷ []) (Restart ∷ [])
      (record { spelled = ap (λ (b : Bool). begin_entry server servers b ∷ []) some; read = ap (λ (b : Bool). input_of (begin_entry server servers b) ∷ []) some ∙ (λ i. read i ∷ []) }) agrees

  -- ---- what is begun

  ok_once : (is js : List Input) → map ok is ≡ map ok js → is ≡ js
  ok_once [] [] same = refl
  ok_once [] (j ∷ js) same = absurd (let e : [] ≡ ok j ∷ map ok js = same in cc)
  ok_once (i ∷ is) [] same = absurd (let e : ok i ∷ map ok is ≡ [] = same in cc)
  ok_once (i ∷ is) (j ∷ js) same =
      let e : ok i ∷ map ok is ≡ ok j ∷ map ok js = same in
      let head : i ≡ j = cc in
      let more : map ok is ≡ map ok js = cc in
      λ k. head k ∷ ok_once is js more k

  -- a log has one list of inputs
  pub one_log : (is js : List Input) (entries : List (List ℕ)) → IsLogOf server servers is entries → IsLogOf server servers js entries → is ≡ js
  one_log is js entries one other =
      let e : one.first ∷ one.later ≡ other.first ∷ other.later = sym one.whole ∙ other.whole in
      let later : one.later ≡ other.later = cc in
      ok_once is js (sym one.are.read ∙ ap (map input_of) later ∙ other.are.read)

  -- a fold of the first, and then of the others, is one of all
  folds_all : (c : Checkpoint) (inputs : List Input) → c.store ≡ store_behind (new_store servers server) (take (c.folded - 1) inputs)
      → store_behind c.store (drop (c.folded - 1) inputs) ≡ store_behind (new_store servers server) inputs
  folds_all c inputs fold =
      ap (λ (s : Store). store_behind s (drop (c.folded - 1) inputs)) fold
      ∙ sym (behind-append (new_store servers server) (take (c.folded - 1) inputs) (drop (c.folded - 1) inputs))
      ∙ ap (store_behind (new_store servers server)) (take-append-drop (c.folded - 1) inputs)

  begun_by : (checkpoint : Option Checkpoint) (old : Old) (entries : List (List ℕ)) (slot : Slot) (fold : IsFoldOf server servers entries slot) → checkpoint ≡ Some fold.checkpoint → IsOldLog server servers old entries
      → begun server servers checkpoint old ≡ begun server servers None old
  begun_by checkpoint None entries slot fold is log = refl
  begun_by checkpoint (Some inputs) entries slot fold is log =
      let same : fold.inputs ≡ inputs = one_log fold.inputs inputs entries fold.log log in
      ap (λ (c : Option Checkpoint). (effect_of (folded_on server servers c inputs) Restart).store) is
      ∙ ap (λ (s : Store). (effect_of s Restart).store) (folds_all fold.checkpoint inputs (fold.fold ∙ ap (λ (l : List Input). store_behind (new_store servers server) (take (fold.checkpoint.folded - 1) l)) same))

  -- where the slots agree with the log, it is begun as with none
  pub begun_agreed : (checkpoint : Option Checkpoint) (old : Old) (entries : List (List ℕ)) (slot : Option Slot) → Agrees server servers entries slot → checkpoint ≡ usable server servers (length entries) slot
      → IsOldLog server servers old entries → begun server servers checkpoint old ≡ begun server servers None old
  begun_agreed checkpoint old entries None agrees is log = ap (λ (c : Option Checkpoint). begun server servers c old) is
  begun_agreed checkpoint old entries (Some slot) (inl nobody) is log = ap (λ (c : Option Checkpoint). begun server servers c old) (is ∙ usable_none server servers (length entries) slot nobody)
  begun_agreed checkpoint old entries (Some slot) (inr fold) is log = begun_by checkpoint old entries slot fold (is ∙ fold.used) log

  -- ---- the log that a begin goes on with

  pub old_count : (old : Old) (entries : List (List ℕ)) → IsOldLog server servers old entries → length entries ≡ count_of old
  old_count None entries none = ap length none
  old_count (Some inputs) entries log = log_count inputs entries log

  -- with the entry of the begin its inputs lead to what the server begins with
  pub begun_log : (old : Old) (entries : List (List ℕ)) → input_of (entry_for Restart) ≡ Ok Restart → start_of (start_entry server servers) ≡ Ok (server, servers) → IsOldLog server servers old entries
      → (inputs : List Input) × IsLogOf server servers inputs (entries ++ begin_entry server servers (is_empty entries) ∷ []) × (begun server servers None old ≡ store_behind (new_store servers server) inputs)
  begun_log None entries restart starts none = (
    [],
    record {
      first = start_entry server servers;
      later = [];
      whole = ap (λ (es : List (List ℕ)). es ++ begin_entry server servers (is_empty es) ∷ []) none;
      start = record { spelled = refl; read = starts };
      are = record { spelled = refl; read = refl };
    },
    refl,
  )
  begun_log (Some inputs) entries restart starts log =
      let count = log_count inputs entries log in
      let some : is_empty entries ≡ false = grind (arith, nat_tests) in (
        inputs ++ Restart ∷ [],
        subst (λ (b : Bool). IsLogOf server servers (inputs ++ Restart ∷ []) (entries ++ begin_entry server servers b ∷ [])) (sym some)
            (log_append inputs (Restart ∷ []) entries (entry_for Restart ∷ []) log (record { spelled = refl; read = λ i. restart i ∷ [] })),
        sym (behind-append (new_store servers server) inputs (Restart ∷ [])),
      )
