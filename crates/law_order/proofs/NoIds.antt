-- What gives out no id: the pieces of an event, and a view that is entered.
use Rattle.std.proofs.Common.{ℕ, ◌≡◌, Bool, cond, List, [], ◌∷◌, Option, None, Some, refl, ◌∙◌}
use Rattle.law_frame.specs.pg_run.pg_base.declared.id.FileId.{FileId}
use Rattle.law_frame.specs.pg_run.pg_base.declared.policy.Policy.{Policy}
use Rattle.law_frame.specs.pg_run.pg_base.Version.{VersionValue}
use Rattle.law_frame.specs.pg_run.pg_entries.declared.entry.Entry.{Entry}
use Rattle.law_frame.specs.pg_run.pg_intent.declared.intent.Intent.{Intent}
use Rattle.law_frame.specs.pg_run.pg_intent.declared.intent.Intent.TheVariants as intent
use Rattle.law_frame.specs.pg_run.pg_intent.declared.key.IntentKey.{IntentKey}
use Rattle.law_frame.specs.pg_run.pg_intent.Intents.{ended, intent_at}
use Rattle.law_frame.specs.pg_run.pg_names.declared.attributes.Attributes.{Attributes}
use Rattle.law_frame.specs.pg_run.pg_register.declared.flag.Flag.{Flag}
use Rattle.law_frame.specs.pg_run.pg_register.declared.place.Place.{Place}
use Rattle.law_frame.specs.pg_run.pg_store.declared.store.Store.{Store}
use Rattle.law_frame.specs.pg_run.pg_store.Beginning.{begin, patches_of, put_new, take_patch, take_patches, take_told, take_told_in, with_intents}
use Rattle.law_frame.specs.pg_run.pg_store.Links.{is_linked, is_new_link, link, put_link, unlink}
use Rattle.law_frame.specs.pg_run.pg_store.Store.{is_new_version, is_newer_entry, is_newer_flag, is_newer_place, put_entry, put_flag, put_place, put_version, take_entry, take_flag, take_place, take_version}
use Rattle.law_frame.specs.pg_run.pg_pieces.Done.{Done}
use Rattle.law_frame.proofs.pg_run.theory_flood_pieces.Choices.{chosen}
use Rattle.std.specs.Map.{keys_of}
use Rattle.law_frame.specs.pg_run.pg_store.Views.{cut, cut_born, cut_each, enter, listed_birth, with_removed}

-- ---- the pieces

-- of two
pub either_files : (a : Store) (t : Bool) (b d : Store) → b.files ≡ a.files → d.files ≡ a.files → (cond t b d).files ≡ a.files
either_files a t b d one other = chosen (λ (x : Store). x.files ≡ a.files) t b d one other

pub either_done : (a : Store) (t : Bool) (d e : Done) → d.store.files ≡ a.files → e.store.files ≡ a.files → (cond t d e).store.files ≡ a.files
either_done a t d e one other = chosen (λ (x : Done). x.store.files ≡ a.files) t d e one other

pub place_files : (a : Store) (f : FileId) (place : Place) → (take_place a f place).files ≡ a.files
place_files a f place = either_files a (is_newer_place a f place) (put_place a f place) a refl refl

pub flag_files : (a : Store) (f : FileId) (flag : Flag) → (take_flag a f flag).files ≡ a.files
flag_files a f flag = either_files a (is_newer_flag a f flag) (put_flag a f flag) a refl refl

pub entry_files : (a : Store) (d : FileId) (e : Entry) → (take_entry a d e).files ≡ a.files
entry_files a d e = either_files a (is_newer_entry a d e) (put_entry a d e) a refl refl

pub version_files : (a : Store) (f : FileId) (v : VersionValue) → (take_version a f v).files ≡ a.files
version_files a f v = either_files a (is_new_version a f v) (put_version a f v) a refl refl

pub link_files : (a : Store) (f : FileId) (peer birth : ℕ) → (link a f peer birth).files ≡ a.files
link_files a f peer birth = either_files a (is_new_link a f peer birth) (put_link a f peer birth) a refl refl

pub unlink_files : (a : Store) (f : FileId) (peer birth : ℕ) → (unlink a f peer birth).files ≡ a.files
unlink_files a f peer birth = either_files a (is_linked a f peer birth) _ a refl refl

-- ---- a replica begins

told_files : (a : Store) (d : FileId) (i : Intent) → (take_told a d i).files ≡ a.files
told_files a d (intent.Bye file birth peer peer_birth) = refl
told_files a d (intent.Seek file target) = refl
told_files a d (intent.Fill file birth target) = refl
told_files a d (intent.Patch to entry target) = entry_files a d entry
told_files a d (intent.Confirm to child target) = refl
told_files a d (intent.Leave file peer peer_birth) = refl

told_in_files : (a : Store) (d : FileId) (o : Option Intent) → (take_told_in a d o).files ≡ a.files
told_in_files a d None = refl
told_in_files a d (Some i) = told_files a d i

patches_files : (d : FileId) (qs : List IntentKey) (a : Store) → (take_patches a d qs).files ≡ a.files
patches_files d [] a = refl
patches_files d (q ∷ qs) a =
    patches_files d qs (take_patch a d q) ∙ told_in_files (with_intents a (ended a.intents q)) d (intent_at a.intents q)

pub begin_files : (a : Store) (f : FileId) (birth : ℕ) (policy : Policy) (own : Attributes) (full : Bool) → (begin a f birth policy own full).files ≡ a.files
begin_files a f birth policy own full = patches_files f (patches_of f a.intents) (put_new a f birth policy own full)

-- ---- a view is entered

cut_files : (server : ℕ) (a : Store) (f : FileId) (o : Option ℕ) → (cut_born server a f o).files ≡ a.files
cut_files server a f None = refl
cut_files server a f (Some birth) = unlink_files a f server birth

cuts_files : (server : ℕ) (fs : List FileId) (a : Store) → (cut_each server a fs).files ≡ a.files
cuts_files server [] a = refl
cuts_files server (f ∷ fs) a = cuts_files server fs (cut server a f) ∙ cut_files server a f (listed_birth a f server)

pub enter_files : (a : Store) (server : ℕ) → (enter a server).files ≡ a.files
enter_files a server = cuts_files server (keys_of a.names.held) (with_removed a server)
