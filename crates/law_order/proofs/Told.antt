-- The laws of names along every run.
use Rattle.std.proofs.Common.{[], ℕ, ◌≡◌, ◌++◌, Bool, true, false, cond, List, ◌∷◌, refl, sym, ap, subst, ◌∙◌}
use Rattle.std.proofs.lemmas.Bool.{false≢true}
use Rattle.std.proofs.lemmas.List.Elements.{All-contains, All-head, All-tail}
use Rattle.law_frame.specs.pg_run.pg_base.declared.id.FileId.{FileId}
use Rattle.law_frame.specs.pg_run.pg_base.Id.{is_same_file}
use Rattle.law_frame.proofs.pg_run.pg_base.Orders.{is_same_file-true}
use Rattle.law_frame.specs.pg_run.pg_event.declared.event.Event.{Event}
use Rattle.law_frame.specs.pg_run.pg_intent.declared.intent.Intent.{Intent}
use Rattle.law_frame.specs.pg_run.pg_intent.declared.intent.Intent.TheVariants as intent
use Rattle.law_frame.specs.pg_run.pg_intent.declared.key.IntentKey.TheVariants as intent_key
use Rattle.law_frame.specs.pg_run.pg_msg.declared.message.Message.{Message}
use Rattle.law_frame.specs.pg_run.pg_msg.declared.message.Message.TheVariants as message
use Rattle.law_frame.specs.pg_run.pg_msg.declared.message.Sent.{Sent}
use Rattle.law_frame.specs.pg_run.pg_register.Place.{root}
use Rattle.law_frame.specs.pg_run.pg_store.Beginning.{patch_key, patch_key_if, patches_of}
use Rattle.law_frame.specs.pg_run.pg_calls.Naming.{next_id}
use Rattle.law_frame.specs.pg_run.Away.{DirectoriesAreTold, NamesDirectory, WhatBeginsIsAway}
use Rattle.law_frame.specs.pg_run.Journal.{mail}
use Rattle.law_frame.specs.pg_run.Run.{run}
use Rattle.law_frame.proofs.pg_run.Frame.{acts_is}
use Rattle.law_order.specs.Laws.{AllIsNamed, BirthsAreGiven, FirstEffectsAreOrdered, FirstEffectsAreWhole, HouseStaysInOrder, NamesAreById, NextIdsAreNew, ServersAreWhole, ThingsArePlacedWell, files_of}
use Rattle.law_order.specs.Named.{IsMade, naming}
use Rattle.law_order.specs.Saying.{AreIntended, IsIntended, IsSaidOfMessage}
use Rattle.law_order.proofs.Ended.{IsAtRest}
use Rattle.law_order.proofs.Runs.{first_ordered, first_runs, has_no_fill, is_away, not_made, sound_run}
use Rattle.law_order.proofs.Sounding.{for_dirs}

-- what each server of a run has
rest : (n : ℕ) (events : List Event) (s : ℕ) → IsAtRest (naming n (files_of (run n events).stores)) n s ((run n events).stores s)
rest n events s = (sound_run n events).servers s

pub house_in_order : HouseStaysInOrder
house_in_order n events s least most = (rest n events s).settled.order

pub servers_whole : (n : ℕ) → ServersAreWhole n
servers_whole n events s least most = (rest n events s).sound.whole

pub first_effects_whole : (n : ℕ) → FirstEffectsAreWhole n
first_effects_whole n events event t is =
    let act = acts_is n (run n events) event t is in
    first_runs n (run n events) (sound_run n events) t.server act.least act.most t.asked act.came

pub first_effects_ordered : (n : ℕ) → FirstEffectsAreOrdered n
first_effects_ordered n events event t is =
    let act = acts_is n (run n events) event t is in
    first_ordered n (run n events) (sound_run n events) t.server act.least act.most t.asked act.came

pub names_by_id : (n : ℕ) → NamesAreById n
names_by_id n events s least most =
    let tidy = (rest n events s).sound.named.tidy in
    record { entries = tidy.ordered; things = tidy.keys }

-- ---- what is said

pub all_named : (n : ℕ) → AllIsNamed n
all_named n events =
    let k = sound_run n events in
    record {
      names = λ s least most. (k.servers s).sound.named.said;
      intents = λ s least most. (k.servers s).sound.named.intents;
      mail = λ m sent.
          All-contains (λ (x : Sent). IsSaidOfMessage (naming n (files_of (run n events).stores)) x.packet.message) (mail (run n events).journal) m k.mail sent;
    }

pub placed_well : (n : ℕ) → ThingsArePlacedWell n
placed_well n events s least most =
    let k = rest n events s in
    let said = k.sound.named.said in
    record {
      dirs = λ f own h. (said.own f own h).place.dir;
      first = λ own h. (said.own root own h).place.first refl;
      inner = λ d e h. false≢true (sym (said.cells d root e h).child);
      found = k.settled.found;
    }

names_dir : (n : ℕ) (files : ℕ → ℕ) (m : Message) → IsSaidOfMessage (naming n files) m → NamesDirectory m
names_dir n files (message.PlaceIs dir entry) said = said.dir
names_dir n files (message.Tell dir entry) said = said.dir
names_dir n files m said = tt

pub directories_told : (n : ℕ) → DirectoriesAreTold n
directories_told n events =
    let files = files_of (run n events).stores in
    record {
      patches = λ s least most. for_dirs (naming n files) ((run n events).stores s).intents (rest n events s).sound.named.intents;
      told = λ m sent. names_dir n files m.packet.message ((all_named n events).mail m sent);
    }

-- ---- what begins

pub births_given : (n : ℕ) → BirthsAreGiven n
births_given n events s least most = (rest n events s).sound.births

-- no Patch is for what was not made
module _ (n : ℕ) (files : ℕ → ℕ) (id : FileId) (unmade : IsMade n files id → ⊥) where
  key_by : (to child : FileId) (t : Bool) → is_same_file to id ≡ t → IsMade n files to → patch_key_if id to child ≡ []
  key_by to child true same made = absurd (unmade (subst (IsMade n files) (is_same_file-true to id same) made))
  key_by to child false apart made = ap (λ (t : Bool). cond t (intent_key.Patch id child ∷ []) []) apart

  no_key : (i : Intent) → IsIntended (naming n files) i → patch_key id i ≡ []
  no_key (intent.Bye file birth peer peer_birth) said = refl
  no_key (intent.Seek file target) said = refl
  no_key (intent.Fill file birth target) said = refl
  no_key (intent.Patch to entry target) said = key_by to entry.child (is_same_file to id) refl said.of
  no_key (intent.Confirm dir child target) said = refl
  no_key (intent.Leave file peer peer_birth) said = refl

  none_told : (is : List Intent) → AreIntended (naming n files) is → patches_of id is ≡ []
  none_told [] all = refl
  none_told (i ∷ is) all =
      let P : Intent → Type 0 = IsIntended (naming n files) in
      ap (λ ks. ks ++ patches_of id is) (no_key i (All-head P i is all)) ∙ none_told is (All-tail P i is all)

pub ids_new : (n : ℕ) → NextIdsAreNew n
ids_new n events s least most kind =
    let a = (run n events).stores s in
    let files = files_of (run n events).stores in
    let k = rest n events s in
    record {
      away = is_away n s a files least refl k kind;
      untold = none_told n files (next_id a kind) (not_made n s a files least refl k kind) a.intents k.sound.named.intents;
      unfilled = has_no_fill n s a files least refl k kind;
    }

pub what_begins_away : (n : ℕ) → WhatBeginsIsAway n
what_begins_away n events s least most = record {
  wished = λ f wish there. ((rest n events s).sound.births.wished f wish there).0;
  fresh = λ kind. (ids_new n events s least most kind).away;
}
