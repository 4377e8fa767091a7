-- What a node begins with is its own, and what it takes keeps that.
use Rattle.std.proofs.Common.{[], ℕ, ◌≡◌, ◌+◌, ◌-◌, ◌*◌, ◌≤◌, ◌<◌, ◌^◌, List, ◌∷◌, length, drop, take, Option, None, Some, refl, sym, ◌∙◌, subst, arith}
use Rattle.law_lengths.specs.Laws.{store_behind}
use Rattle.pg_server.specs.Local.{effect_of}
use Rattle.pg_server.specs.declared.input.Input.{Input}
use Rattle.pg_server.specs.declared.input.Input.TheVariants.{Restart}
use Rattle.law_stays.specs.Stays.{IsSameServer}
use Rattle.law_stays.proofs.Events.{server_stays}
use Rattle.pg_checkpoint.specs.Loads.{number_of}
use Rattle.pg_checkpoint.specs.Slots.{Slot}
use Rattle.pg_host.specs.declared.asking.Asked.{Asked}
use Rattle.pg_host.specs.Logs.{Old, begun, count_of, folded_on}
use Rattle.pg_host.specs.Sends.{after_all}
use Rattle.pg_host.specs.Slots.{IsSavedLast, SlotsBehind, between}
use Rattle.pg_saving.specs.declared.loading.Checkpoint.{Checkpoint}
use Rattle.pg_saving.specs.Saves.{IsSavable}
use Rattle.pg_saving.specs.Usable.{usable}
use Rattle.pg_saving.proofs.Usable.{of_is, usable_is}
use Rattle.pg_state.specs.Spelling.{state_bytes}
use Rattle.pg_store.specs.Store.{new_store}
use Rattle.pg_store.specs.declared.store.Store.{Store}
use Rattle.law_saved.specs.Saved.{GoesOn, IsOwn, SavesLastWhole, StatesAreOwn, behind}

module _ (server servers : ℕ) where
  abbrev Own : Store → Type 0
  Own = IsOwn server servers

  steps_own : (s : Store) (i : Input) → Own s → Own (effect_of s i).store
  unfolding effect_of
  steps_own s i k =
      let same : IsSameServer s (effect_of s i).store = server_stays s i in
      record { own = same.0 ∙ k.own; all = same.1 ∙ k.all }

  folds_own : (inputs : List Input) (s : Store) → Own s → Own (store_behind s inputs)
  folds_own [] s k = k
  folds_own (i ∷ inputs) s k = folds_own inputs (effect_of s i).store (steps_own s i k)

  takes_own : (own : List Asked) (s : Store) → Own s → Own (after_all s own)
  takes_own [] s k = k
  takes_own (a ∷ own) s k = takes_own own (effect_of s a.input).store (steps_own s a.input k)

  new_own : Own (new_store servers server)
  new_own = record { own = refl; all = refl }

  -- what slots give is its own, where it is usable
  loaded_own : (entries : ℕ) (slot : Option Slot) (c : Checkpoint) → Some c ≡ usable server servers entries slot → Own c.store
  loaded_own entries None c is = absurd (let e : Some c ≡ None = is in cc)
  loaded_own entries (Some slot) c is =
      let used = usable_is server servers entries slot c (sym is) in
      let of = of_is server servers entries slot.folded c.store used.is in
      record { own = of.0; all = of.1 }

  begun_own : (checkpoint : Option Checkpoint) (old : Old) → GoesOn server servers checkpoint old → Own (begun server servers checkpoint old)
  begun_own checkpoint None goes = new_own
  begun_own None (Some inputs) goes =
      let s = folded_on server servers None inputs in
      steps_own s Restart (folds_own inputs (new_store servers server) new_own)
  begun_own (Some c) (Some inputs) goes =
      let found = goes.3 in
      let s = folded_on server servers (Some c) inputs in
      steps_own s Restart (folds_own (drop (c.folded - 1) inputs) c.store (loaded_own (length found.entries) found.slot c found.checkpoint_is))

pub states_are_own : StatesAreOwn
states_are_own server servers checkpoint old goes own =
    takes_own server servers own (begun server servers checkpoint old) (begun_own server servers checkpoint old goes)

-- what pg_host says of what was saved last
abbrev pub IsSaid : Type 0
IsSaid = (server servers k count : ℕ) (s : Store) (was now : Option Slot)
    (own : List Asked) → 1 ≤ k → between * k ≤ length own + 1
    → length own + 1 < between * k + between
    → SlotsBehind server servers 1 count s was own now
    → IsSavable server servers (after_all s (take (between * k - 1) own))
    → length (state_bytes (after_all s (take (between * k - 1) own))) < 2 ^ 32
    → number_of was + k < 2 ^ 64
    → IsSavedLast (count + (between * k - 1)) (after_all s (take (between * k - 1) own)) now

pub saves_last : IsSaid → SavesLastWhole
saves_last said server servers k checkpoint old goes own was now some enough few slots fits short room =
    let s = begun server servers checkpoint old in
    let is = states_are_own server servers checkpoint old goes (take (between * k - 1) own) in
    let savable : IsSavable server servers (behind server servers checkpoint old own k) = record { own = is.own; all = is.all; fits = fits } in
    let last = said server servers k (count_of old + 1) s was now own some enough few slots savable short room in
    let same : count_of old + 1 + (between * k - 1) ≡ count_of old + between * k = omega (arith, some) in
    subst (λ (n : ℕ). IsSavedLast n (behind server servers checkpoint old own k) now) same last
