-- Each change of what a server holds keeps who it is.
use Rattle.std.proofs.Common.{[], ℕ, ◌≡◌, Bool, List, ◌∷◌, Option, None, Some, refl, ◌∙◌}
use Rattle.std.specs.Map.{keys_of}
use Rattle.law_frame.specs.pg_run.pg_base.declared.id.FileId.{FileId}
use Rattle.law_frame.specs.pg_run.pg_base.declared.policy.Policy.{Policy}
use Rattle.law_frame.specs.pg_run.pg_base.Version.{VersionValue}
use Rattle.law_frame.specs.pg_run.pg_entries.declared.entry.Entry.{Entry}
use Rattle.law_frame.specs.pg_run.pg_intent.declared.intent.Intent.{Intent}
use Rattle.law_frame.specs.pg_run.pg_intent.declared.intent.Intent.TheVariants as intent
use Rattle.law_frame.specs.pg_run.pg_intent.declared.key.IntentKey.{IntentKey}
use Rattle.law_frame.specs.pg_run.pg_intent.Intents.{ended, intent_at}
use Rattle.law_frame.specs.pg_run.pg_names.declared.attributes.Attributes.{Attributes}
use Rattle.law_frame.specs.pg_run.pg_names.Names as names
use Rattle.law_frame.proofs.pg_run.pg_names.Lookups.{update_frame}
use Rattle.law_frame.specs.pg_run.pg_register.declared.flag.Flag.{Flag}
use Rattle.law_frame.specs.pg_run.pg_register.declared.place.Place.{Place}
use Rattle.law_frame.specs.pg_run.pg_replica.Replicas.{replicas_unlinked}
use Rattle.law_frame.specs.pg_run.pg_store.declared.store.Store.{Store}
use Rattle.law_frame.specs.pg_run.pg_store.Beginning.{begin, patches_of, put_new, take_patch, take_patches, take_told, take_told_in, with_intents}
use Rattle.law_frame.specs.pg_run.pg_store.Links.{is_linked, is_new_link, link, put_link, unlink}
use Rattle.law_frame.specs.pg_run.pg_store.Seen.{server_of}
use Rattle.law_frame.specs.pg_run.pg_store.Store.{is_new_version, is_newer_entry, is_newer_flag, is_newer_place, put_entry, put_flag, put_place, put_version, replica_at, take_entry, take_flag, take_place, take_version}
use Rattle.law_frame.specs.pg_run.pg_store.Views.{cut, cut_born, cut_each, enter, listed_birth, with_removed}
use Rattle.law_frame.proofs.pg_run.theory_flood_pieces.Choices.{chosen}
use Rattle.law_stays.specs.Stays.{IsSameServer}

module _ (first : Store) where
  abbrev pub Same : Store → Type 0
  Same = IsSameServer first

  -- other names of the same server
  pub same_by : (a b : Store) → server_of b ≡ server_of a → b.servers ≡ a.servers → Same a → Same b
  same_by a b server servers k = (server ∙ k.0, servers ∙ k.1)

  -- ---- what is taken

  pub same_place : (a : Store) (file : FileId) (place : Place) → Same a → Same (take_place a file place)
  same_place a file place k =
      let frame = update_frame a.names file (names.with_place place) in
      chosen Same (is_newer_place a file place) (put_place a file place) a
      (same_by a (put_place a file place) frame.server refl k) k

  pub same_flag : (a : Store) (file : FileId) (flag : Flag) → Same a → Same (take_flag a file flag)
  same_flag a file flag k =
      let frame = update_frame a.names file (names.with_flag flag) in
      chosen Same (is_newer_flag a file flag) (put_flag a file flag) a
      (same_by a (put_flag a file flag) frame.server refl k) k

  pub same_entry : (a : Store) (dir : FileId) (e : Entry) → Same a → Same (take_entry a dir e)
  same_entry a dir e k =
      let frame = update_frame a.names dir (names.with_joined e) in
      chosen Same (is_newer_entry a dir e) (put_entry a dir e) a
      (same_by a (put_entry a dir e) frame.server refl k) k

  pub same_version : (a : Store) (file : FileId) (v : VersionValue) → Same a → Same (take_version a file v)
  same_version a file v k = chosen Same (is_new_version a file v) (put_version a file v) a k k

  -- ---- edges

  pub same_link : (a : Store) (file : FileId) (peer birth : ℕ) → Same a → Same (link a file peer birth)
  same_link a file peer birth k =
      chosen Same (is_new_link a file peer birth) (put_link a file peer birth) a k k

  pub same_unlink : (a : Store) (file : FileId) (peer birth : ℕ) → Same a → Same (unlink a file peer birth)
  same_unlink a file peer birth k =
      let b = record a { replicas = replicas_unlinked a.replicas file peer birth (replica_at a file) } in
      chosen Same (is_linked a file peer birth) b a k k

  -- ---- replicas begin

  told_same : (a : Store) (dir : FileId) (i : Intent) → Same a → Same (take_told a dir i)
  told_same a dir (intent.Patch to e target) k = same_entry a dir e k
  told_same a dir i k = k

  told_in_same : (a : Store) (dir : FileId) (o : Option Intent) → Same a → Same (take_told_in a dir o)
  told_in_same a dir None k = k
  told_in_same a dir (Some i) k = told_same a dir i k

  patches_same : (ks : List IntentKey) (a : Store) (dir : FileId) → Same a → Same (take_patches a dir ks)
  patches_same [] a dir k = k
  patches_same (q ∷ ks) a dir k =
      patches_same ks (take_patch a dir q) dir
      (told_in_same (with_intents a (ended a.intents q)) dir (intent_at a.intents q) k)

  pub same_begin : (a : Store) (file : FileId) (birth : ℕ) (policy : Policy) (own : Attributes) (full : Bool) → Same a
      → Same (begin a file birth policy own full)
  same_begin a file birth policy own full k =
      patches_same (patches_of file a.intents) (put_new a file birth policy own full) file k

  -- ---- a view is entered

  cuts_same : (server : ℕ) (files : List FileId) (a : Store) → Same a → Same (cut_each server a files)
  cuts_same server [] a k = k
  cuts_same server (file ∷ files) a k =
      cuts_same server files (cut server a file) (born_same server a file (listed_birth a file server) k)
    where
      born_same : (server : ℕ) (a : Store) (file : FileId) (o : Option ℕ) → Same a → Same (cut_born server a file o)
      born_same server a file None k = k
      born_same server a file (Some birth) k = same_unlink a file server birth k

  pub same_enter : (a : Store) (server : ℕ) → Same a → Same (enter a server)
  same_enter a server k =
      cuts_same server (keys_of a.names.held) (with_removed a server) k
