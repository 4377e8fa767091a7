-- What making a place and a flag makes; and that a thing that begins has the place and flags with
-- which it begins.
use Rattle.std.proofs.Common.{ℕ, ◌≡◌, Bool, true, List, [], ◌∷◌, ◌++◌, Option, None, Some, refl, ap, ◌∙◌}
use Rattle.law_frame.specs.pg_run.pg_base.declared.id.FileId.{FileId}
use Rattle.law_frame.specs.pg_run.pg_base.declared.policy.Policy.{Policy}
use Rattle.law_frame.specs.pg_run.pg_entries.declared.entry.Entry.{Entry}
use Rattle.law_frame.specs.pg_run.pg_intent.declared.intent.Intent.{Intent}
use Rattle.law_frame.specs.pg_run.pg_intent.declared.intent.Intent.TheVariants as intent
use Rattle.law_frame.specs.pg_run.pg_intent.declared.key.IntentKey.{IntentKey}
use Rattle.law_frame.specs.pg_run.pg_intent.Intents.{ended, intent_at}
use Rattle.law_frame.specs.pg_run.pg_msg.declared.update.Update.TheVariants as update
use Rattle.law_frame.specs.pg_run.pg_msg.Work.{with_made}
use Rattle.law_frame.specs.pg_run.pg_names.declared.attributes.Attributes.{Attributes}
use Rattle.law_frame.specs.pg_run.pg_names.Names.{own_at, own_of}
use Rattle.law_frame.proofs.pg_run.pg_names.Holding.{begun_same}
use Rattle.law_frame.proofs.pg_run.pg_names.Lookups.{joined_own}
use Rattle.law_frame.proofs.pg_run.theory_flood_pieces.Choices.{chosen}
use Rattle.law_frame.specs.pg_run.pg_register.declared.place.Place.{Place}
use Rattle.law_frame.specs.pg_run.pg_store.declared.store.Store.{Store}
use Rattle.law_frame.specs.pg_run.pg_store.Beginning.{begin as begin_replica, patches_of, put_new, take_patch, take_patches, take_told, take_told_in, with_intents}
use Rattle.law_frame.specs.pg_run.pg_store.Store.{is_newer_entry, put_entry, take_entry}
use Rattle.law_frame.specs.pg_run.pg_pieces.Done.{Done}
use Rattle.law_frame.specs.pg_run.pg_pieces.Making.{own_next}
use Rattle.law_frame.specs.pg_run.pg_calls.Making.{make_place}
use Rattle.law_frame.specs.pg_run.pg_calls.Naming.{raised}
use Rattle.law_frame.proofs.pg_run.Still.{flag_still, place_still}

-- ---- what is made

pub place_made : (d : Done) (f : FileId) (place : Place) → (make_place f place d).work.made ≡ d.work.made ++ update.Place f place ∷ []
place_made d f place = (place_still d.store f place (with_made d.work (update.Place f place))).made

pub flag_made : (f : FileId) (d : Done) → (raised f d).work.made ≡ d.work.made ++ update.Flag f (own_next d.store f true) ∷ []
flag_made f d =
    let flag = own_next d.store f true in
    (flag_still d.store f flag (with_made d.work (update.Flag f flag))).made

-- ---- what is held behind a beginning

took_own : (a : Store) (d : FileId) (e : Entry) (q : FileId) → own_at (take_entry a d e).names q ≡ own_at a.names q
took_own a d e q =
    chosen (λ (b : Store). own_at b.names q ≡ own_at a.names q) (is_newer_entry a d e) (put_entry a d e) a (joined_own a.names d e q) refl

told_own : (a : Store) (f : FileId) (i : Intent) (q : FileId) → own_at (take_told a f i).names q ≡ own_at a.names q
told_own a f (intent.Patch to e target) q = took_own a f e q
told_own a f (intent.Bye x b p c) q = refl
told_own a f (intent.Seek x t) q = refl
told_own a f (intent.Fill x b t) q = refl
told_own a f (intent.Confirm x c t) q = refl
told_own a f (intent.Leave x p b) q = refl

told_in_own : (a : Store) (f : FileId) (o : Option Intent) (q : FileId) → own_at (take_told_in a f o).names q ≡ own_at a.names q
told_in_own a f None q = refl
told_in_own a f (Some i) q = told_own a f i q

patches_own : (ks : List IntentKey) (a : Store) (f q : FileId) → own_at (take_patches a f ks).names q ≡ own_at a.names q
patches_own [] a f q = refl
patches_own (k ∷ ks) a f q =
    patches_own ks (take_patch a f k) f q ∙ told_in_own (with_intents a (ended a.intents k)) f (intent_at a.intents k) q

pub begun_own : (a : Store) (f : FileId) (birth : ℕ) (policy : Policy) (own : Attributes) (full : Bool) → own_at (begin_replica a f birth policy own full).names f ≡ Some own
begun_own a f birth policy own full =
    patches_own (patches_of f a.intents) (put_new a f birth policy own full) f f ∙ ap own_of (begun_same a.names f own full)
