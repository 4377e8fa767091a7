-- What stands at the key of a Bye: most of what an event does leaves it as it was.
use Rattle.std.proofs.Common.{Some, sym, subst, ℕ, ◌≡◌, ◌++◌, Bool, true, false, cond, List, [], ◌∷◌, Option, None, refl, ap, ◌∙◌}
use Rattle.std.specs.List.{AllByRecursion}
use Rattle.std.specs.Option.{option_map}
use Rattle.std.proofs.lemmas.Bool.{false≢true}
use Rattle.std.proofs.lemmas.Option.{none-some, same_Some}
use Rattle.pg_run.specs.pg_base.declared.id.FileId.{FileId}
use Rattle.pg_run.specs.pg_base.declared.policy.Policy.{Policy}
use Rattle.pg_run.specs.pg_base.declared.stamp.Stamp.{Stamp}
use Rattle.pg_run.specs.pg_base.Id.{is_same_file}
use Rattle.pg_run.specs.pg_entries.declared.entry.Entry.{Entry}
use Rattle.pg_run.specs.pg_intent.declared.intent.Intent.{Intent}
use Rattle.pg_run.specs.pg_intent.declared.intent.Intent.TheVariants as intent
use Rattle.pg_run.specs.pg_intent.declared.key.IntentKey.{IntentKey}
use Rattle.pg_run.specs.pg_intent.declared.key.IntentKey.TheVariants as intent_key
use Rattle.pg_run.specs.pg_intent.Intent.{aimed_at}
use Rattle.pg_run.specs.pg_intent.Intents.{aimed, ended, has_key, intent_at}
use Rattle.pg_run.specs.pg_intent.Key.{is_same_key}
use Rattle.pg_run.proofs.pg_intent.Found.{aimed_found, ended_found}
use Rattle.pg_run.specs.pg_msg.declared.message.Ends.{Ends}
use Rattle.pg_run.specs.pg_msg.declared.message.Message.{Message}
use Rattle.pg_run.specs.pg_msg.declared.message.Message.TheVariants as message
use Rattle.pg_run.specs.pg_msg.declared.work.Work.{Work}
use Rattle.pg_run.specs.pg_names.declared.attributes.Attributes.{Attributes}
use Rattle.pg_run.specs.pg_register.declared.flag.Flag.{Flag}
use Rattle.pg_run.specs.pg_register.declared.place.Place.{Place}
use Rattle.pg_run.specs.pg_base.Version.{VersionValue}
use Rattle.pg_run.specs.pg_replica.Index.{Files}
use Rattle.pg_run.specs.pg_store.declared.store.Store.{Store}
use Rattle.pg_run.specs.pg_store.Beginning.{begin, patch_key, patches_of, put_new, take_patch, take_patches, with_intents}
use Rattle.pg_run.specs.pg_store.Links.{is_linked, is_new_link, link, put_link, unlink}
use Rattle.pg_run.specs.pg_store.Store.{is_new_version, is_newer_entry, is_newer_flag, is_newer_place, put_entry, put_flag, put_place, put_version, take_entry, take_flag, take_place, take_version}
use Rattle.pg_run.specs.pg_pieces.Done.{Done}
use Rattle.pg_run.specs.pg_pieces.Making.{own_next}
use Rattle.pg_run.specs.pg_cells.Settling.{settle}
use Rattle.pg_run.proofs.pg_cells.Settled.{settle_keeps}
use Rattle.pg_run.proofs.pg_graph.LeaveOk.{found_keyed}
use Rattle.law_order.proofs.law_frame.Keeps.{Keeps, ending}
use Rattle.law_order.proofs.law_frame.Received.{receive_keeps}
use Rattle.pg_run.specs.pg_server.Local.{receive}
use Rattle.pg_run.specs.pg_intentions.Seeks.{begin_seek, to_seek, begin_seeks}
use Rattle.pg_run.specs.pg_intentions.Beginning.{begin_end, end_others, still_stands}
use Rattle.pg_run.specs.pg_intentions.Confirms.{begin_confirm}
use Rattle.pg_run.specs.pg_intentions.Fills.{begin_fill, begin_fills, files_to_fill, to_fill}
use Rattle.pg_run.specs.pg_repair.Granting.{granted_own}
use Rattle.pg_run.specs.pg_intentions.Intending.{in_order}
use Rattle.pg_run.specs.pg_intentions.Patches.{begin_patch, begin_patches}
use Rattle.pg_run.proofs.pg_intentions.Standing.{confirm_at, each_at, fill_other, filtered, patch_at, seek_other}
use Rattle.law_order.proofs.Sounding.{patch_intents, rules_intents}
use Rattle.pg_run.proofs.theory_flood_pieces.Choices.{chosen}

module _ (file : FileId) (birth peer : ℕ) where
  abbrev pub ByeKey : IntentKey
  ByeKey = intent_key.Bye file birth peer

  abbrev pub bye_in : Store → Option Intent
  bye_in a = intent_at a.intents ByeKey

  -- ---- keys of a directory's Patches

  abbrev Others : List IntentKey → Type 0
  Others ks = AllByRecursion (λ (k : IntentKey). is_same_key ByeKey k ≡ false) ks

  others_both : (xs ys : List IntentKey) → Others xs → Others ys → Others (xs ++ ys)
  others_both [] ys h k = k
  others_both (x ∷ xs) ys h k = (h.0, others_both xs ys h.1 k)

  others_if : (dir child : FileId) (t : Bool) → Others (cond t (intent_key.Patch dir child ∷ []) [])
  others_if dir child true = (refl, tt)
  others_if dir child false = tt

  others_one : (dir : FileId) (i : Intent) → Others (patch_key dir i)
  others_one dir (intent.Bye f b p n) = tt
  others_one dir (intent.Seek f t) = tt
  others_one dir (intent.Fill f b t) = tt
  others_one dir (intent.Patch to e t) = others_if dir e.child (is_same_file to dir)
  others_one dir (intent.Confirm d c t) = tt
  others_one dir (intent.Leave f p n) = tt

  others_all : (dir : FileId) (is : List Intent) → Others (patches_of dir is)
  others_all dir [] = tt
  others_all dir (i ∷ is) = others_both (patch_key dir i) (patches_of dir is) (others_one dir i) (others_all dir is)

  -- ---- a Bye asks nobody else

  bye_aimed : (to : ℕ) (i : Intent) → has_key ByeKey i ≡ true → aimed_at to i ≡ i
  bye_aimed to (intent.Bye f n p m) has = refl
  bye_aimed to (intent.Leave f p n) has = refl
  bye_aimed to (intent.Seek f t) has = absurd (false≢true has)
  bye_aimed to (intent.Fill f n t) has = absurd (false≢true has)
  bye_aimed to (intent.Patch d e t) has = absurd (false≢true has)
  bye_aimed to (intent.Confirm d c t) has = absurd (false≢true has)

  found_aimed : (to : ℕ) (o : Option Intent) → ((i : Intent) → o ≡ Some i → has_key ByeKey i ≡ true) → option_map (aimed_at to) o ≡ o
  found_aimed to None has = refl
  found_aimed to (Some i) has = ap (λ (x : Intent). Some x) (bye_aimed to i (has i refl))

  -- ---- pieces

  module _ (a : Store) where
    abbrev pub Same : Store → Type 0
    Same b = bye_in b ≡ bye_in a

    abbrev pub To : Done → Type 0
    To d = Same d.store

    either_same : (t : Bool) (b : Store) → Same b → Same (cond t b a)
    either_same t b k = chosen Same t b a k refl

    pub link_same : (f : FileId) (p n : ℕ) → Same (link a f p n)
    link_same f p n = either_same (is_new_link a f p n) (put_link a f p n) refl

    pub unlink_same : (f : FileId) (p n : ℕ) → Same (unlink a f p n)
    unlink_same f p n = chosen Same (is_linked a f p n) _ a refl refl

    pub place_same : (f : FileId) (place : Place) → Same (take_place a f place)
    place_same f place = either_same (is_newer_place a f place) (put_place a f place) refl

    pub flag_same : (f : FileId) (flag : Flag) → Same (take_flag a f flag)
    flag_same f flag = either_same (is_newer_flag a f flag) (put_flag a f flag) refl

    pub entry_same : (d : FileId) (e : Entry) → Same (take_entry a d e)
    entry_same d e = either_same (is_newer_entry a d e) (put_entry a d e) refl

    pub version_same : (f : FileId) (v : VersionValue) → Same (take_version a f v)
    version_same f v = either_same (is_new_version a f v) (put_version a f v) refl

    pub aimed_same : (q : IntentKey) (to : ℕ) → Same (with_intents a (aimed a.intents q to))
    aimed_same q to =
        aimed_found a.intents q to ByeKey
        ∙ chosen (λ (o : Option Intent). o ≡ bye_in a) (is_same_key ByeKey q) (option_map (aimed_at to) (bye_in a)) (bye_in a)
        (found_aimed to (bye_in a) (λ i is. found_keyed ByeKey i a.intents is)) refl

    pub ended_same : (q : IntentKey) → is_same_key ByeKey q ≡ false → Same (with_intents a (ended a.intents q))
    ended_same q other = ended_found a.intents q ByeKey ∙ ap (λ t. cond t None (bye_in a)) other

  patches_same : (dir : FileId) (ks : List IntentKey) (a : Store) → Others ks → Same a (take_patches a dir ks)
  patches_same dir [] a h = refl
  patches_same dir (k ∷ ks) a h =
      patches_same dir ks (take_patch a dir k) h.1
      ∙ ap (λ (is : List Intent). intent_at is ByeKey) (patch_intents a dir k) ∙ ended_same a k h.0

  pub begin_same : (a : Store) (f : FileId) (n : ℕ) (policy : Policy) (own : Attributes) (full : Bool) → Same a (begin a f n policy own full)
  begin_same a f n policy own full =
      patches_same f (patches_of f a.intents) (put_new a f n policy own full) (others_all f a.intents)

  -- ---- the end of an event

  pub settle_same : (a : Store) (w : Work) → To a (settle a w)
  settle_same a w =
      settle_keeps (λ (b : Store) (v : Work). Same a b)
      (λ b v k. ap (λ (is : List Intent). intent_at is ByeKey) (rules_intents b v) ∙ k)
      (λ b f v is k. flag_same b f (own_next b f true) ∙ k) a w refl

  -- it ends by its answer alone
  stays_on : (a : Store) (files : Files) (i : Intent) → has_key ByeKey i ≡ true → still_stands a files i ≡ true
  stays_on a files (intent.Bye f b p n) has = refl
  stays_on a files (intent.Seek f t) has = absurd (false≢true has)
  stays_on a files (intent.Fill f b t) has = absurd (false≢true has)
  stays_on a files (intent.Patch d e t) has = absurd (false≢true has)
  stays_on a files (intent.Confirm d c t) has = absurd (false≢true has)
  stays_on a files (intent.Leave f p n) has = absurd (false≢true has)

  pub end_same : (a : Store) (w : Work) → To a (begin_end a w)
  end_same a w =
      let k = ByeKey in
      let files = files_to_fill a.names in
      let b = end_others a files in
      let p = begin_patches b w in
      let q = begin_fills p.store (to_fill a.names) p.work in
      let r = begin_seeks q.store (to_seek a) q.work in
      each_at begin_confirm k (confirm_at k (λ d c. refl)) (in_order r.work.unsure) r.store r.work
      ∙ each_at begin_seek k (seek_other k (λ f. refl)) (to_seek a) q.store q.work
      ∙ each_at begin_fill k (fill_other k (λ f. refl)) (to_fill a.names) p.store p.work
      ∙ each_at begin_patch k (patch_at k (λ d c. refl)) (in_order w.left) b w
      ∙ filtered k (still_stands a files) true (stays_on a files) a.intents

  -- ---- messages

  -- by these it may change
  abbrev pub may_change : Message → Bool
  may_change (message.ByeOk f n) = true
  may_change (message.LeaveOk x stamp) = true
  may_change _ = false

  ending_other : (asker : ℕ) (m : Message) (q : IntentKey) → may_change m ≡ false → ending asker m ≡ Some q → is_same_key ByeKey q ≡ false
  ending_other asker (message.ByeOk f n) q none is = absurd (false≢true (sym none))
  ending_other asker (message.LeaveOk x stamp) q none is = absurd (false≢true (sym none))
  ending_other asker (message.PlaceIs dir e) q none is =
      subst (λ (k : IntentKey). is_same_key ByeKey k ≡ false) (same_Some (intent_key.Confirm dir e.child) q is) refl
  ending_other asker (message.TellOk dir child stamp) q none is =
      subst (λ (k : IntentKey). is_same_key ByeKey k ≡ false) (same_Some (intent_key.Patch dir child) q is) refl
  ending_other asker m q none is = absurd (none-some q is)

  module _ (a : Store) (w : Work) (m : Message) (none : may_change m ≡ false) where
    leaves_not : (x : Ends) (stamp : Stamp) → m ≡ message.LeaveOk x stamp → ⊥
    leaves_not x stamp is = false≢true (sym (subst (λ (y : Message). may_change y ≡ false) is none))

    keeps_same : Keeps a w m (To a)
    keeps_same = record {
      cell_place = λ d ends tag place is here k. place_same d.store ends.file place ∙ k;
      cell_flag = λ d ends tag flag is here k. flag_same d.store ends.file flag ∙ k;
      cell_entry = λ d ends tag e sure is dir here k. entry_same d.store ends.file e ∙ k;
      version = λ d f v is k. version_same d.store f v ∙ k;
      told_place = λ d dir e is held apart k. place_same d.store e.child e.place ∙ k;
      told_flag = λ d dir e flag is held among k. flag_same d.store e.child flag ∙ k;
      place_is = λ d dir e is held k. entry_same d.store dir e ∙ k;
      tell = λ d dir e is held k. entry_same d.store dir e ∙ k;
      links = λ d f n is same k. link_same d.store f d.work.from n ∙ k;
      meets = λ d ends origin n hops word is here k. link_same d.store ends.file origin n ∙ k;
      unlinks = λ d f n is same k. unlink_same d.store f d.work.from n ∙ k;
      acknowledges = λ d ends q tag is same k. k;
      begins = λ ends g is pending k. begin_same a ends.file ends.receiver g.policy (granted_own g) false ∙ k;
      fills = λ ends is here filling k. k;
      raises = λ d ends is here few k. flag_same d.store ends.file (own_next d.store ends.file true) ∙ k;
      goes = λ ends stamp is may k. absurd (leaves_not ends stamp is);
      says_bye = λ d ends stamp e is may among k. absurd (leaves_not ends stamp is);
      ends_intent = λ d q is k. ended_same d.store q (ending_other w.from m q none is) ∙ k;
      turns_intent = λ d q to is k. aimed_same d.store q to ∙ k;
      asks_granter = λ d ends g is same k. aimed_same d.store (intent_key.Fill ends.file) d.work.from ∙ k;
      turns_wish = λ d f to is k. k;
      answers = λ d r of same k. k;
      tells_origin = λ d ends origin n hops word is here k. k;
      passes_on = λ ends origin n hops word left rest i e is here at k. k;
      notes = λ d ns k. k;
      keeps = λ d f delta k. k;
      tells = λ d ends head e of there k. k;
    }

    pub received_same : Same a (receive a m w).store
    received_same = receive_keeps a w (To a) m keeps_same refl
