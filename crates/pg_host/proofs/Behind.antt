-- What is saved behind inputs, one after another, and how slots agree while a server makes a turn.
use Rattle.std.proofs.Common.{◌≡◌, ◌⊎◌, inl, inr, ℕ, zero, suc, ◌+◌, ◌-◌, ◌*◌, ◌/◌, ◌%◌, ◌^◌, ◌==◌, ◌≤◌, ◌<◌, min, Bool, true, false, List, [], ◌∷◌, ◌++◌, length, map, take, Option, Some, None, Ok, refl, sym, ◌∙◌, ap, subst, arith, length-append}
use Rattle.std.proofs.Math.Nat.{mod-add-div, add-mul-mod_self_left}
use Rattle.std.proofs.lemmas.Bool.Decides.{nat_tests}
use Rattle.std.proofs.lemmas.List.{length-map, take-map, take_all}
use Rattle.std.specs.Option.{ForSome}
use Rattle.pg_node_input.specs.law_lengths.Laws.{store_behind}
use Rattle.pg_server.specs.Local.{effect_of}
use Rattle.pg_server.specs.declared.input.Input.{Input}
use Rattle.pg_checkpoint.specs.Loads.{LoadsTo}
use Rattle.pg_checkpoint.specs.Saves.{AreSettled, KeepsRest, Loads, SlotsLeave}
use Rattle.pg_checkpoint.specs.Slots.{Slot}
use Rattle.pg_checkpoint.proofs.Counts.{loads_once}
use Rattle.pg_disk.specs.Told.{Told, given}
use Rattle.pg_disk.specs.Synced.{KeepsOthers}
use Rattle.pg_log.specs.Bytes.{OpensTo, blocks, front}
use Rattle.pg_log.specs.Log.{Stands}
use Rattle.pg_log.proofs.Standing.{stands_opens}
use Rattle.pg_log.proofs.Unique.{opens_once}
use Rattle.pg_saving.specs.Saves.{IsReadAgain, LeavesSaved, saved}
use Rattle.pg_saving.proofs.Usable.{is_of_own, used_is}
use Rattle.pg_store.specs.Store.{new_store}
use Rattle.pg_store.specs.declared.store.Store.{Store}
use Rattle.pg_host.specs.declared.asking.Asked.{Asked}
use Rattle.pg_host.specs.Entries.{entries_for, entry_for}
use Rattle.pg_host.specs.Host.{AreRead, LeavesSome, Scene}
use Rattle.pg_host.specs.Logs.{AreInputs, IsLogOf, OpensToSome}
use Rattle.pg_host.specs.Savings.{IsNear, StandsWith}
use Rattle.pg_host.specs.Sends.{after_all}
use Rattle.pg_host.specs.Slots.{Agree, AgreeSince, Agrees, AreWell, IsFoldOf, SavesIf, SlotsBehind, between}
use Rattle.pg_host.proofs.Again.{are_inputs, behind-append, behind_all, inputs_of, read_take}
use Rattle.pg_host.proofs.Agreeing.{agrees_on, log_append, log_count}
use Rattle.pg_host.proofs.Files.{log_moves, slots_leave, slots_load, slots_settled}
use Rattle.pg_host.proofs.Folds.{first_length, front_length}

-- ---- numbers

-- what is left behind another multiple
pub mod_on : (a n : ℕ) → (a % between + n) % between ≡ (a + n) % between
mod_on a n =
    let all : a % 1024 + 1024 * (a / 1024) ≡ a = mod-add-div a 1024 in
    let same : a + n ≡ (a % 1024 + n) + 1024 * (a / 1024) = omega (arith, all) in
    sym (add-mul-mod_self_left (a % 1024 + n) 1024 (a / 1024)) ∙ ap (λ (k : ℕ). k % 1024) (sym same)

-- a log has at most as many entries as bytes
few_blocks : (es : List (List ℕ)) → length es ≤ length (blocks es)
few_blocks [] = omega arith
few_blocks (e ∷ es) = let more = few_blocks es in omega (arith, more, first_length e es)

some_near : (log : Option ℕ) (place : ℕ) → log ≡ Some place → IsNear log → place + 1 < 2 ^ 64
some_near log place is near = near place is

-- so they can be counted
pub few_entries : (log : Option ℕ) (told : Told) (entries : List (List ℕ)) → Stands log told entries → IsNear log → length entries + 17 < 2 ^ 64
few_entries log told entries stands near =
    let place : length (front entries) + 1 < 2 ^ 64 = some_near log (length (front entries)) stands.place near in
    omega (arith, place, front_length entries, few_blocks entries)

pub own_count : (own : List Asked) → length (entries_for own) ≡ length own
own_count own = length-map own (λ (a : Asked). entry_for a.input)

pub stands_with : (entries : List (List ℕ)) (own : List Asked) (count0 count1 : ℕ) (a b : Scene) → StandsWith entries count0 a → Stands b.log b.disk (entries ++ entries_for own) → IsNear b.log
    → count1 ≡ min (count0 + length own) (2 ^ 64 - 1) → StandsWith (entries ++ entries_for own) count1 b
stands_with entries own count0 count1 a b with stands near counted =
    let few = few_entries b.log b.disk (entries ++ entries_for own) stands near in
    let all = length-append entries (entries_for own) in
    record { stands = stands; counted = omega (arith, few, all, own_count own, counted, with.counted) }

-- ---- one after another

module _ (server servers : ℕ) where
  pub slots-append : (appended count : ℕ) (s : Store) (was mid now : Option Slot) (own more : List Asked) → SlotsBehind server servers appended count s was own mid
      → SlotsBehind server servers (appended + length own) (count + length own) (after_all s own) mid more now → SlotsBehind server servers appended count s was (own ++ more) now
  slots-append appended count s was mid now [] more first second =
      subst (λ (o : Option Slot). SlotsBehind server servers appended count s o more now) first
      (subst (λ (n : ℕ). SlotsBehind server servers n count s mid more now) (let e : appended + 0 ≡ appended = omega arith in e)
      (subst (λ (n : ℕ). SlotsBehind server servers (appended + 0) n s mid more now) (let e : count + 0 ≡ count = omega arith in e) second))
  slots-append appended count s was mid now (a ∷ own) more first second = (
    first.0,
    first.1,
    slots-append (appended + 1) (count + 1) (effect_of s a.input).store first.0 mid now own more first.2
        (subst (λ (n : ℕ). SlotsBehind server servers n (count + 1 + length own) (after_all (effect_of s a.input).store own) mid more now) (let e : appended + suc (length own) ≡ appended + 1 + length own = omega arith in e)
        (subst (λ (n : ℕ). SlotsBehind server servers (appended + suc (length own)) n (after_all (effect_of s a.input).store own) mid more now) (let e : count + suc (length own) ≡ count + 1 + length own = omega arith in e) second)),
  )

  -- ---- a turn

  some_inputs : (k : ℕ) (own : List Asked) → AreRead own → AreInputs (take k (entries_for own)) (inputs_of (take k own))
  some_inputs k own read = subst (λ (l : List (List ℕ)). AreInputs l (inputs_of (take k own))) (sym (take-map (λ (a : Asked). entry_for a.input) k own)) (are_inputs (take k own) (read_take k own read))

  module _ (entries : List (List ℕ)) (own : List Asked) (d0 d1 : Told) (s0 : Store) (keeps : KeepsOthers 0 d0 d1) (w : AreWell server servers entries d0 s0) (read : AreRead own) where
    agree_here : (log : List ℕ) → OpensToSome entries (entries_for own) log → Agree server servers log (given d0 1) (given d0 2)
    agree_here log opens = λ es opened slot loads.
        let k : ℕ = opens.0 in
        let slot_is : w.slot ≡ slot = loads_once (given d0 1) (given d0 2) w.slot slot w.loads loads in
        let es_are : entries ++ take k (entries_for own) ≡ es = opens_once log (entries ++ take k (entries_for own)) es opens.2 opened in
        subst (λ (o : Option Slot). Agrees server servers es o) slot_is
        (subst (λ (l : List (List ℕ)). Agrees server servers l w.slot) es_are
        (agrees_on server servers w.slot entries (take k (entries_for own)) (inputs_of (take k own)) (some_inputs k own read) w.agrees))

    -- at each moment of a turn
    pub turn_agrees : LeavesSome entries own d0 d1 → AgreeSince server servers d0 d1
    turn_agrees leaves = log_moves d0 d1 keeps w.settled (OpensToSome entries (entries_for own)) (Agree server servers) leaves agree_here

    -- and behind it
    pub turn_well : (s1 : Store) → s1 ≡ after_all s0 own → AreWell server servers (entries ++ entries_for own) d1 s1
    turn_well s1 store = record {
      settled = slots_settled d0 d1 keeps w.settled;
      slot = w.slot;
      loads = slots_load d0 d1 keeps w.slot w.loads;
      agrees = agrees_on server servers w.slot entries (entries_for own) (inputs_of own) (are_inputs own read) w.agrees;
      inputs = w.inputs ++ inputs_of own;
      log = log_append server servers w.inputs (inputs_of own) entries (entries_for own) w.log (are_inputs own read);
      fold = store ∙ ap (λ (s : Store). after_all s own) w.fold ∙ sym (behind_all (store_behind (new_store servers server) w.inputs) own)
          ∙ sym (behind-append (new_store servers server) w.inputs (inputs_of own));
    }

  -- ---- a saving

  module _ (entries : List (List ℕ)) (count : ℕ) (d0 d1 : Told) (s : Store) (rest : KeepsRest d0 d1) (w : AreWell server servers entries d0 s) (counted : length entries ≡ count) where
    -- what was saved is the fold of all entries
    fold_of_all : IsReadAgain server servers s → IsFoldOf server servers entries (saved count s w.slot)
    fold_of_all again =
        let many = log_count server servers w.inputs entries w.log in
        let all : count - 1 ≡ length w.inputs = omega (arith, many, counted) in
        let some : 1 ≤ count = omega (arith, many, counted) in
        let within : count ≤ length entries = omega (arith, counted) in
        record {
          checkpoint = record { folded = count; store = s };
          used = used_is server servers (length entries) (saved count s w.slot) (record { folded = count; store = s }) (record {
            numbered = grind (arith, nat_tests);
            state = again.read;
            folded = refl;
            is = is_of_own server servers (length entries) count s again.own again.all some within;
          });
          inputs = w.inputs;
          log = w.log;
          fold = w.fold ∙ ap (store_behind (new_store servers server)) (sym (take_all (count - 1) w.inputs (omega (arith, all))));
        }

    saved_agree : (log first second : List ℕ) → OpensTo log entries → LeavesSaved server servers count s w.slot first second → Agree server servers log first second
    saved_agree log first second opens leaves = λ es opened slot loads.
        let es_are : entries ≡ es = opens_once log entries es opens opened in
        let on : (o : Option Slot) → LoadsTo first second o → Agrees server servers entries o → Agrees server servers es slot =
        λ o there agrees. subst (λ (x : Option Slot). Agrees server servers es x) (loads_once first second o slot there loads) (subst (λ (l : List (List ℕ)). Agrees server servers l o) es_are agrees) in
        elim leaves [
          | inl as_before ↦ on w.slot as_before w.agrees
          | inr more ↦ elim more [
            | inl new ↦ on (Some (saved count s w.slot)) new.1 (inr (fold_of_all new.0))
            | inr none ↦ on None none.1 tt
          ]
        ]

    -- at each moment of a saving
    pub saving_agrees : (log : Option ℕ) → Stands log d0 entries → SlotsLeave d0 d1 (LeavesSaved server servers count s w.slot) → AgreeSince server servers d0 d1
    saving_agrees log stands leaves =
        slots_leave d0 d1 rest (λ image. OpensTo image entries) (LeavesSaved server servers count s w.slot) (Agree server servers) (λ image is. stands_opens log d0 entries stands image is) leaves saved_agree

    agrees_by : (due : Bool) (now : Option Slot) → SavesIf due server servers count s w.slot now → Agrees server servers entries now
    agrees_by true now (inl done) = subst (λ (o : Option Slot). Agrees server servers entries o) (sym done.2) (inr (fold_of_all done.1))
    agrees_by true now (inr not) = subst (λ (o : Option Slot). Agrees server servers entries o) (sym not.1) w.agrees
    agrees_by false now same = subst (λ (o : Option Slot). Agrees server servers entries o) (sym same) w.agrees

    -- and behind it
    pub saving_well : (due : Bool) (now : Option Slot) → AreSettled d1 → Loads d1 now → SavesIf due server servers count s w.slot now → AreWell server servers entries d1 s
    saving_well due now settled loads saves = record { settled = settled; slot = now; loads = loads; agrees = agrees_by due now saves; inputs = w.inputs; log = w.log; fold = w.fold }
