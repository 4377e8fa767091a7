-- What each piece of an event keeps of names: places, flags and entries that come, replicas that
-- begin or become full.
use Rattle.std.proofs.Common.{ℕ, Bool, List, [], ◌∷◌, Option, None, Some}
use Rattle.law_frame.specs.pg_run.pg_base.declared.id.FileId.{FileId}
use Rattle.law_frame.specs.pg_run.pg_base.declared.policy.Policy.{Policy}
use Rattle.law_frame.specs.pg_run.pg_base.Version.{VersionValue}
use Rattle.law_frame.specs.pg_run.pg_register.declared.flag.Flag.{Flag}
use Rattle.law_frame.specs.pg_run.pg_register.declared.place.Place.{Place}
use Rattle.law_frame.specs.pg_run.pg_entries.declared.entry.Entry.{Entry}
use Rattle.law_frame.specs.pg_run.pg_intent.declared.intent.Intent.{Intent}
use Rattle.law_frame.specs.pg_run.pg_intent.declared.intent.Intent.TheVariants as intent
use Rattle.law_frame.specs.pg_run.pg_intent.declared.key.IntentKey.{IntentKey}
use Rattle.law_frame.specs.pg_run.pg_intent.Intents.{ended, intent_at}
use Rattle.law_frame.specs.pg_run.pg_names.declared.attributes.Attributes.{Attributes}
use Rattle.law_frame.specs.pg_run.pg_names.Names.{NamesValue, begin as begin_names, fill, join_entry, join_flag, join_place, raise, remove_server}
use Rattle.law_frame.specs.pg_run.pg_store.declared.store.Store.{Store}
use Rattle.law_frame.specs.pg_run.pg_store.Beginning.{begin, patches_of, put_new, take_patch, take_patches, take_told_in, with_intents}
use Rattle.law_frame.specs.pg_run.pg_store.Links.{is_linked, is_new_link, link, put_link, unlink}
use Rattle.law_frame.specs.pg_run.pg_store.Store.{is_new_version, is_newer_entry, is_newer_flag, is_newer_place, put_entry, put_flag, put_place, put_version, take_entry, take_flag, take_place, take_version}
use Rattle.law_frame.proofs.pg_run.theory_flood_pieces.Choices.{chosen}

-- a property of names that each piece keeps, where these places may come, such replicas begin, and
-- these things become full; and where a server is removed
pub record AreKept (P : NamesValue → Type 0) (Places : FileId → Place → Type 0) (Begins : FileId → Attributes → Bool → Type 0) (Fills : FileId → Type 0) : Type 0 where
  pub place : (s : NamesValue) (f : FileId) (p : Place) → Places f p → P s → P (join_place s f p)
  pub flag : (s : NamesValue) (f : FileId) (g : Flag) → P s → P (join_flag s f g)
  pub entry : (s : NamesValue) (d : FileId) (e : Entry) → P s → P (join_entry s d e)
  pub raised : (s : NamesValue) (time : ℕ) → P s → P (raise s time)
  pub begun : (s : NamesValue) (f : FileId) (own : Attributes) (full : Bool) → Begins f own full → P s → P (begin_names s f own full)
  pub filled : (s : NamesValue) (f : FileId) → Fills f → P s → P (fill s f)
  pub removed : (s : NamesValue) (server : ℕ) → P s → P (remove_server s server)

module _ (P : NamesValue → Type 0) (Places : FileId → Place → Type 0) (Begins : FileId → Attributes → Bool → Type 0) (Fills : FileId → Type 0) (k : AreKept P Places Begins Fills) where
  abbrev Of : Store → Type 0
  Of a = P a.names

  -- ---- what comes

  pub place_kept : (a : Store) (f : FileId) (p : Place) → Places f p → Of a → Of (take_place a f p)
  place_kept a f p may h = chosen Of (is_newer_place a f p) (put_place a f p) a (k.raised (join_place a.names f p) p.stamp.time (k.place a.names f p may h)) h

  pub flag_kept : (a : Store) (f : FileId) (g : Flag) → Of a → Of (take_flag a f g)
  flag_kept a f g h = chosen Of (is_newer_flag a f g) (put_flag a f g) a (k.flag a.names f g h) h

  pub entry_kept : (a : Store) (d : FileId) (e : Entry) → Of a → Of (take_entry a d e)
  entry_kept a d e h = chosen Of (is_newer_entry a d e) (put_entry a d e) a (k.raised (join_entry a.names d e) e.place.stamp.time (k.entry a.names d e h)) h

  pub version_kept : (a : Store) (f : FileId) (v : VersionValue) → Of a → Of (take_version a f v)
  version_kept a f v h = chosen Of (is_new_version a f v) (put_version a f v) a (k.raised a.names v.head.stamp.time h) h

  -- ---- edges

  pub link_kept : (a : Store) (f : FileId) (peer birth : ℕ) → Of a → Of (link a f peer birth)
  link_kept a f peer birth h = chosen Of (is_new_link a f peer birth) (put_link a f peer birth) a h h

  pub unlink_kept : (a : Store) (f : FileId) (peer birth : ℕ) → Of a → Of (unlink a f peer birth)
  unlink_kept a f peer birth h = chosen Of (is_linked a f peer birth) _ a h h

  -- ---- a replica begins

  told_kept : (a : Store) (d : FileId) (o : Option Intent) → Of a → Of (take_told_in a d o)
  told_kept a d None h = h
  told_kept a d (Some (intent.Bye file birth peer peer_birth)) h = h
  told_kept a d (Some (intent.Seek file target)) h = h
  told_kept a d (Some (intent.Fill file birth target)) h = h
  told_kept a d (Some (intent.Patch to e target)) h = entry_kept a d e h
  told_kept a d (Some (intent.Confirm to child target)) h = h
  told_kept a d (Some (intent.Leave file peer peer_birth)) h = h

  pub patches_kept : (a : Store) (d : FileId) (qs : List IntentKey) → Of a → Of (take_patches a d qs)
  patches_kept a d [] h = h
  patches_kept a d (q ∷ qs) h =
      patches_kept (take_patch a d q) d qs (told_kept (with_intents a (ended a.intents q)) d (intent_at a.intents q) h)

  pub begin_kept : (a : Store) (f : FileId) (birth : ℕ) (policy : Policy) (own : Attributes) (full : Bool) → Begins f own full → Of a → Of (begin a f birth policy own full)
  begin_kept a f birth policy own full may h =
      patches_kept (put_new a f birth policy own full) f (patches_of f a.intents)
      (k.raised (begin_names a.names f own full) own.place.stamp.time (k.begun a.names f own full may h))
