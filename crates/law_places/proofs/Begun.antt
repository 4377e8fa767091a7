-- A replica begins: each place that is known then may stand, where its own may.
use Rattle.std.proofs.Common.{ℕ, ◌≡◌, Bool, List, [], ◌∷◌, Option, None, Some, refl}
use Rattle.law_frame.specs.pg_run.pg_base.declared.id.FileId.{FileId}
use Rattle.law_frame.specs.pg_run.pg_base.declared.policy.Policy.{Policy}
use Rattle.law_frame.specs.pg_run.pg_intent.declared.intent.Intent.{Intent}
use Rattle.law_frame.specs.pg_run.pg_intent.declared.key.IntentKey.{IntentKey}
use Rattle.law_frame.specs.pg_run.pg_intent.Intents.{ended, intent_at}
use Rattle.law_frame.specs.pg_run.pg_msg.declared.work.Work.{Work}
use Rattle.law_frame.specs.pg_run.pg_names.declared.attributes.Attributes.{Attributes}
use Rattle.law_frame.specs.pg_run.pg_names.Names.{begin}
use Rattle.law_frame.specs.pg_run.pg_register.declared.place.Place.{Place}
use Rattle.law_frame.specs.pg_run.pg_store.declared.store.Store.{Store}
use Rattle.law_frame.specs.pg_run.pg_store.Beginning.{begin as begin_replica, patches_of, put_new, take_patch, take_patches, take_told, take_told_in, with_intents}
use Rattle.law_frame.specs.pg_run.pg_pieces.Done.{Done, idle}
use Rattle.law_places.proofs.Known.{OfIntent, begun_names, filter_is, found_is, raised_names}
use Rattle.law_frame.specs.pg_run.pg_intent.declared.intent.Intent.TheVariants as intent
use Rattle.law_places.proofs.Fine.{IsFine, intending, same_drawn, took_entry}
use Rattle.law_places.proofs.Timed.{at_least, begin_timed}

module _ (P : FileId → Place → Type 0) (s least : ℕ) (f : FileId) where
  abbrev Fine : Done → Type 0
  Fine d = IsFine P s least d

  told_fine : (a : Store) (work : Work) (i : Intent) → OfIntent P i → Fine (idle a work) → Fine (idle (take_told a f i) work)
  told_fine a work (intent.Patch to e target) of k = took_entry P s least (idle a work) k f e of
  told_fine a work (intent.Bye x b p c) of k = k
  told_fine a work (intent.Seek x t) of k = k
  told_fine a work (intent.Fill x b t) of k = k
  told_fine a work (intent.Confirm x c t) of k = k
  told_fine a work (intent.Leave x p b) of k = k

  told_in : (a : Store) (work : Work) (o : Option Intent) → ((i : Intent) → o ≡ Some i → OfIntent P i) → Fine (idle a work) → Fine (idle (take_told_in a f o) work)
  told_in a work None of k = k
  told_in a work (Some i) of k = told_fine a work i (of i refl) k

  patch_fine : (a : Store) (work : Work) (q : IntentKey) → Fine (idle a work) → Fine (idle (take_patch a f q) work)
  patch_fine a work q k =
      let is = a.intents in
      let less = with_intents a (ended is q) in
      told_in less work (intent_at is q) (λ i e. found_is P is q i k.known.intents e) (intending P s least (idle a work) (ended is q) (filter_is P _ is k.known.intents) k)

  patches_fine : (qs : List IntentKey) (a : Store) (work : Work) → Fine (idle a work) → Fine (idle (take_patches a f qs) work)
  patches_fine [] a work k = k
  patches_fine (q ∷ qs) a work k = patches_fine qs (take_patch a f q) work (patch_fine a work q k)

  pub begin_fine : (d : Done) (birth : ℕ) (policy : Policy) (own : Attributes) (full : Bool) → P f own.place → Fine d
      → Fine (idle (begin_replica d.store f birth policy own full) d.work)
  begin_fine d birth policy own full new k =
      let a = d.store in
      let first : Fine (idle (put_new a f birth policy own full) d.work) = record {
        known = record { names = raised_names P (begin a.names f own full) (begun_names P a.names k.known.names f own full new) own.place.stamp.time; intents = k.known.intents };
        timed = begin_timed a.names k.timed f own full;
        sent = k.sent;
        drawn = same_drawn P s least d (idle (put_new a f birth policy own full) d.work) refl (at_least a.names.last own.place.stamp.time) refl k;
      } in
      patches_fine (patches_of f a.intents) (put_new a f birth policy own full) d.work first
