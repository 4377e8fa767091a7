-- A thing that was just made has no version.
use Rattle.std.proofs.Common.{ℕ, ◌≡◌, true, cond, List, [], ◌∷◌, Option, None, Some, refl, sym, ap, subst, ◌∙◌}
use Rattle.std.specs.Option.{is_some}
use Rattle.pg_base.specs.declared.id.FileId.{FileId}
use Rattle.pg_base.specs.declared.policy.Policy.{Policy}
use Rattle.pg_base.specs.Id.{file_cmp}
use Rattle.pg_base.proofs.Maps.{lookup-insert_entry}
use Rattle.pg_base.proofs.Orders.{file_total, is_same_file-refl}
use Rattle.pg_edges.specs.declared.key.Key.{Key}
use Rattle.pg_edges.specs.declared.key.Key.TheVariants as key
use Rattle.pg_register.specs.declared.flag.Flag.{Flag}
use Rattle.pg_register.specs.declared.place.Place.{Place}
use Rattle.pg_entries.specs.declared.entry.Entry.{Entry}
use Rattle.pg_cells.specs.pg_intent.declared.intent.Intent.{Intent}
use Rattle.pg_cells.specs.pg_intent.declared.intent.Intent.TheVariants as intent
use Rattle.pg_cells.specs.pg_intent.declared.key.IntentKey.{IntentKey}
use Rattle.pg_cells.specs.pg_intent.Intents.{ended, intent_at}
use Rattle.pg_cells.specs.pg_names.Names.{blank_own, join_entry, join_flag, join_place, raise}
use Rattle.pg_cells.specs.pg_replica.declared.replica.Replica.{Replica}
use Rattle.pg_cells.specs.pg_replica.Replica.{new_replica, with_touch}
use Rattle.pg_cells.specs.pg_replica.Replicas.{ByFile, or_nothing, put_replica, replica_in, replicas_touched}
use Rattle.pg_cells.proofs.pg_house.Truths.{chosen}
use Rattle.pg_cells.specs.pg_msg.declared.work.Work.{Work}
use Rattle.pg_cells.specs.pg_store.declared.store.Store.{Store}
use Rattle.pg_cells.specs.pg_store.Beginning.{patches_of, put_new, take_patch, take_patches, take_told, take_told_in, with_intents}
use Rattle.pg_cells.specs.pg_store.Births.{draw_birth, with_birth}
use Rattle.pg_cells.specs.pg_store.Store.{is_newer_entry, is_newer_flag, is_newer_place, put_entry, put_flag, put_place, replica_at, take_entry, take_flag, take_place, touch, with_names}
use Rattle.pg_cells.specs.pg_pieces.Done.{idle}
use Rattle.pg_cells.specs.pg_pieces.Making.{own_next}
use Rattle.pg_checks.specs.declared.checks.NewName.{NewName}
use Rattle.pg_calls.specs.Making.{HasNoVersion, make_place}
use Rattle.pg_calls.specs.Naming.{begun, place_in, with_thing}

-- ---- no version

-- a replica that has no version
abbrev IsNew : Option Replica → Type 0
IsNew None = ⊥
IsNew (Some x) = x.content.heads ≡ []

put_same : (replicas : ByFile) (f : FileId) (x : Replica) → replica_in (put_replica replicas f x) f ≡ Some x
put_same replicas f x =
    lookup-insert_entry file_cmp file_total f f x replicas
    ∙ ap (λ b. cond b (Some x) (replica_in replicas f)) (is_same_file-refl f)

touched_by : (replicas : ByFile) (f : FileId) (k : Key) (tags : ℕ) (o : Option Replica) → IsNew o
    → replica_in replicas f ≡ o → IsNew (replica_in (replicas_touched replicas f k tags o) f)
touched_by replicas f k tags None h e = absurd h
touched_by replicas f k tags (Some x) h e = subst IsNew (sym (put_same replicas f (with_touch x k tags))) h

module _ (s : Store) (f : FileId) (h : IsNew (replica_at s f)) where
  touch_new : (k : Key) → IsNew (replica_at (touch s f k) f)
  touch_new k = touched_by s.replicas f k s.tags (replica_at s f) h refl

-- what comes to the thing brings no version
module _ (s : Store) (f : FileId) (h : IsNew (replica_at s f)) where
  place_new : (place : Place) → IsNew (replica_at (take_place s f place) f)
  place_new place =
      chosen (λ (t : Store). IsNew (replica_at t f)) (is_newer_place s f place) (put_place s f place) s
      (touch_new (with_names s (raise (join_place s.names f place) place.stamp.time)) f h key.Place) h

  flag_new : (flag : Flag) → IsNew (replica_at (take_flag s f flag) f)
  flag_new flag =
      chosen (λ (t : Store). IsNew (replica_at t f)) (is_newer_flag s f flag) (put_flag s f flag) s
      (touch_new (with_names s (join_flag s.names f flag)) f h (key.Flag flag.server)) h

  entry_new : (entry : Entry) → IsNew (replica_at (take_entry s f entry) f)
  entry_new entry =
      chosen (λ (t : Store). IsNew (replica_at t f)) (is_newer_entry s f entry) (put_entry s f entry) s
      (touch_new (with_names s (raise (join_entry s.names f entry) entry.place.stamp.time)) f h (key.Entry entry.child)) h

told_new : (s : Store) (f : FileId) (patch : Intent) → IsNew (replica_at s f) → IsNew (replica_at (take_told s f patch) f)
told_new s f (intent.Patch to entry target) h = entry_new s f h entry
told_new s f (intent.Bye file birth peer peer_birth) h = h
told_new s f (intent.Seek file target) h = h
told_new s f (intent.Fill file birth target) h = h
told_new s f (intent.Confirm dir child target) h = h
told_new s f (intent.Leave file peer peer_birth) h = h

told_in_new : (s : Store) (f : FileId) (o : Option Intent) → IsNew (replica_at s f)
    → IsNew (replica_at (take_told_in s f o) f)
told_in_new s f None h = h
told_in_new s f (Some patch) h = told_new s f patch h

patches_new : (s : Store) (f : FileId) (ks : List IntentKey) → IsNew (replica_at s f)
    → IsNew (replica_at (take_patches s f ks) f)
patches_new s f [] h = h
patches_new s f (k ∷ ks) h =
    patches_new (take_patch s f k) f ks
    (told_in_new (with_intents s (ended s.intents k)) f (intent_at s.intents k) h)

begun_new : (s : Store) (id : FileId) (policy : Policy) → IsNew (replica_at (begun s id policy) id)
begun_new s id policy =
    patches_new (put_new (with_birth s) id (draw_birth s) policy (blank_own id) true) id (patches_of id s.intents)
    (subst IsNew (sym (put_same s.replicas id (new_replica (draw_birth s) policy))) refl)

none_by : (o : Option Replica) → IsNew o → (is_some o ≡ true) × ((or_nothing o).content.heads ≡ [])
none_by None h = absurd h
none_by (Some x) h = (refl, h)

-- so a new thing has none
pub thing_new : (s : Store) (w : Work) (id : FileId) (policy : Policy) (new : NewName)
    → HasNoVersion (with_thing s w id policy new).store id
thing_new s w id policy new =
    let d = make_place id (place_in s w.now new) (idle (begun s id policy) w) in
    none_by (replica_at (with_thing s w id policy new).store id)
    (flag_new d.store id (place_new (begun s id policy) id (begun_new s id policy) (place_in s w.now new))
    (own_next d.store id true))
