-- The pieces of an event leave a server sound: whole, with births that were given out, and all that
-- is known said.
use Rattle.std.proofs.Common.{ℕ, drop, length, ◌≡◌, Bool, true, not, List, [], ◌∷◌, Option, None, Some, is_some, refl, sym, ap, subst, ◌∙◌}
use Rattle.std.specs.List.{IsAmong}
use Rattle.law_frame.specs.pg_run.pg_base.declared.id.FileId.{FileId}
use Rattle.law_frame.specs.pg_run.pg_base.declared.policy.Policy.{Policy}
use Rattle.law_frame.specs.pg_run.pg_base.declared.stamp.Stamp.{Stamp}
use Rattle.law_frame.specs.pg_run.pg_base.Version.{VersionValue}
use Rattle.law_frame.specs.pg_run.pg_patch.Ranges.{RangesValue}
use Rattle.law_frame.specs.pg_run.pg_edges.declared.key.Key.{Key}
use Rattle.law_frame.specs.pg_run.pg_entries.declared.entry.Entry.{Entry}
use Rattle.law_frame.specs.pg_run.pg_intent.declared.intent.Intent.{Intent}
use Rattle.law_frame.specs.pg_run.pg_intent.declared.intent.Intent.TheVariants as intent
use Rattle.law_frame.specs.pg_run.pg_intent.declared.key.IntentKey.{IntentKey}
use Rattle.law_frame.specs.pg_run.pg_intent.Intents.{HaveOwnKeys, ended, has_key, intent_at}
use Rattle.law_frame.proofs.pg_run.pg_intent.Kept.{own-ended}
use Rattle.law_frame.specs.pg_run.pg_msg.declared.work.Touched.{Touched}
use Rattle.law_frame.specs.pg_run.pg_msg.declared.work.Work.{Work}
use Rattle.law_frame.specs.pg_run.pg_names.declared.attributes.Attributes.{Attributes}
use Rattle.law_frame.specs.pg_run.pg_names.Names.{InodeValue, NamesValue, fill, is_dir, known, own_of}
use Rattle.law_frame.proofs.pg_run.pg_names.Holding.{fill_own}
use Rattle.law_frame.specs.pg_run.pg_register.declared.flag.Flag.{Flag}
use Rattle.law_frame.specs.pg_run.pg_register.declared.place.Place.{Place}
use Rattle.law_frame.specs.pg_run.pg_register.Flag.{IsByServer}
use Rattle.law_frame.specs.pg_run.pg_replica.declared.link.Link.{Link}
use Rattle.law_frame.specs.pg_run.pg_house.House.{house}
use Rattle.law_frame.specs.pg_run.pg_house.Work.{state_of}
use Rattle.law_frame.proofs.pg_run.pg_house.Keys.{rules_keys}
use Rattle.law_frame.specs.pg_run.pg_store.declared.store.Store.{Store}
use Rattle.law_frame.specs.pg_run.pg_store.Beginning.{begin, patches_of, put_new, take_patch, take_patches, take_told, take_told_in, with_intents}
use Rattle.law_frame.specs.pg_run.pg_store.Links.{is_linked, is_new_link, link, put_link, unlink}
use Rattle.law_frame.specs.pg_run.pg_store.Store.{acknowledge, is_new_version, is_newer_entry, is_newer_flag, is_newer_place, put_entry, put_flag, put_place, put_version, take_entry, take_flag, take_place, take_version, touch, with_names, write}
use Rattle.law_frame.specs.pg_run.pg_store.Together.{AreBirths, HoldsAsBefore, MayBegin}
use Rattle.law_frame.proofs.pg_run.pg_store.Given.{begin_births, births_as_before}
use Rattle.law_frame.proofs.pg_run.pg_store.Pairs.{acknowledge_as_before, as_before, ended_as_before, entry_as_before, flag_as_before, link_as_before, names_as_before, place_as_before, then_as_before, touch_as_before, unlink_as_before, version_as_before, write_as_before}
use Rattle.law_frame.specs.pg_run.pg_cells.Settling.{rules, touch_all}
use Rattle.law_frame.specs.pg_run.theory_flood_pieces.Laws.{AreAlike}
use Rattle.law_frame.specs.pg_run.theory_flood_pieces.Whole.{IsOther, IsWhole}
use Rattle.law_frame.proofs.pg_run.theory_flood_pieces.Choices.{chosen}
use Rattle.law_frame.proofs.pg_run.theory_flood_pieces.Settling.{whole_rules}
use Rattle.law_frame.proofs.pg_run.theory_flood_pieces.Together.{held_by_keys}
use Rattle.law_frame.proofs.pg_run.theory_flood_pieces.Whole.{whole_acknowledge, whole_alike, whole_entry, whole_flag, whole_link, whole_place, whole_unlink, whole_version, whole_write}
use Rattle.law_frame.proofs.pg_run.theory_flood_pieces.WholeBeginning.{whole_begun, whole_filled}
use Rattle.law_order.specs.Saying.{AreIntended, IsClosed, IsIntended, IsSaidOf, IsSaidOwn, IsSaidTold, Saying}
use Rattle.law_order.specs.Sound.{AreTidy, IsNamed, IsSound}
use Rattle.law_order.proofs.HouseSays.{AreLeft}
use Rattle.law_order.proofs.Pieces.{named_begun, named_entry, named_filled, named_flag, named_link, named_on, named_place, named_rules, named_unlink, named_version, named_write, fewer_intents, same_intents}

-- Patches are for directories
pub for_dirs : (p : Saying) (is : List Intent) → AreIntended p is → (dir : FileId) (e : Entry) (target : ℕ) → IsAmong is (intent.Patch dir e target) → is_dir dir ≡ true
for_dirs p is all dir e target among =
    let i = intent.Patch dir e target in
    let said : IsIntended p i = subst (IsIntended p) (sym among.1.1) (all among.0 i among.1.0) in
    said.dir

-- ---- intentions of a directory that begins

entry_intents : (a : Store) (d : FileId) (e : Entry) → (take_entry a d e).intents ≡ a.intents
entry_intents a d e = chosen (λ (b : Store). b.intents ≡ a.intents) (is_newer_entry a d e) (put_entry a d e) a refl refl

told_intents : (a : Store) (d : FileId) (i : Intent) → (take_told a d i).intents ≡ a.intents
told_intents a d (intent.Bye file birth peer peer_birth) = refl
told_intents a d (intent.Seek file target) = refl
told_intents a d (intent.Fill file birth target) = refl
told_intents a d (intent.Patch to entry target) = entry_intents a d entry
told_intents a d (intent.Confirm to child target) = refl
told_intents a d (intent.Leave file peer peer_birth) = refl

told_in_intents : (a : Store) (d : FileId) (o : Option Intent) → (take_told_in a d o).intents ≡ a.intents
told_in_intents a d None = refl
told_in_intents a d (Some i) = told_intents a d i

pub patch_intents : (a : Store) (d : FileId) (q : IntentKey) → (take_patch a d q).intents ≡ ended a.intents q
patch_intents a d q = told_in_intents (with_intents a (ended a.intents q)) d (intent_at a.intents q)

patches_keys : (d : FileId) (qs : List IntentKey) (a : Store) → HaveOwnKeys a.intents → HaveOwnKeys (take_patches a d qs).intents
patches_keys d [] a h = h
patches_keys d (q ∷ qs) a h = patches_keys d qs (take_patch a d q) (subst HaveOwnKeys (sym (patch_intents a d q)) (own-ended a.intents q h))

-- ---- the same is held

some_own : (o : Option InodeValue) → is_some o ≡ is_some (own_of o)
some_own None = refl
some_own (Some x) = refl

filled_held : (s : NamesValue) (f q : FileId) → is_some (known (fill s f) q) ≡ is_some (known s q)
filled_held s f q =
    some_own (known (fill s f) q) ∙ ap (λ (o : Option Attributes). is_some o) (fill_own s f q) ∙ sym (some_own (known s q))

touches_as_before : (a : Store) (ts : List Touched) → HoldsAsBefore a (touch_all a ts)
touches_as_before a [] = as_before a
touches_as_before a (t ∷ ts) =
    then_as_before a (touch a t.file t.key) (touch_all (touch a t.file t.key) ts) (touch_as_before a t.file t.key) (touches_as_before (touch a t.file t.key) ts)

pub rules_as_before : (a : Store) (work : Work) → HoldsAsBefore a (rules a work).store
rules_as_before a work =
    let st = house work.now (state_of a.names work) in
    let b = with_names a st.names in
    then_as_before a b (rules a work).store (names_as_before a st.names (λ q. held_by_keys st.names a.names q (rules_keys work.now (state_of a.names work))))
    (touches_as_before b (drop (length work.touched) st.work.touched))

pub rules_intents : (a : Store) (work : Work) → (rules a work).store.intents ≡ a.intents
rules_intents a work =
    let st = house work.now (state_of a.names work) in
    same_intents (with_names a st.names) (drop (length work.touched) st.work.touched)

-- ---- the pieces

module _ (p : Saying) (n s : ℕ) where
  abbrev pub Sound : Store → Type 0
  Sound a = IsSound p n s a

  module _ (a : Store) (k : Sound a) where
    -- the same is held and intended
    pub sound_by : (b : Store) → IsWhole n s b → IsNamed p b → HoldsAsBefore a b → b.intents ≡ a.intents → Sound b
    sound_by b whole named same intents = record {
      whole = whole;
      births = births_as_before a b same k.births;
      keys = subst HaveOwnKeys (sym intents) k.keys;
      named = named;
    }

    abbrev Intends : Store → Type 0
    Intends b = b.intents ≡ a.intents

    pub sound_place : (f : FileId) (place : Place) → p.IsPlace f place → Sound (take_place a f place)
    sound_place f place here =
        sound_by (take_place a f place) (whole_place n s a k.whole f place) (named_place p a k.named f place here) (place_as_before a f place)
        (chosen Intends (is_newer_place a f place) (put_place a f place) a refl refl)

    pub sound_flag : (f : FileId) (flag : Flag) → p.IsFlag flag → Sound (take_flag a f flag)
    sound_flag f flag here =
        sound_by (take_flag a f flag) (whole_flag n s a k.whole f flag) (named_flag p a k.named f flag here) (flag_as_before a f flag)
        (chosen Intends (is_newer_flag a f flag) (put_flag a f flag) a refl refl)

    pub sound_entry : (d : FileId) (e : Entry) → IsSaidTold p d e → Sound (take_entry a d e)
    sound_entry d e here =
        sound_by (take_entry a d e) (whole_entry n s a k.whole d e here.dir) (named_entry p a k.named d e here.cell) (entry_as_before a d e) (entry_intents a d e)

    pub sound_version : (f : FileId) (v : VersionValue) → Sound (take_version a f v)
    sound_version f v =
        sound_by (take_version a f v) (whole_version n s a k.whole f v) (named_version p a k.named f v) (version_as_before a f v)
        (chosen Intends (is_new_version a f v) (put_version a f v) a refl refl)

    pub sound_write : (f : FileId) (stamp : Stamp) (ranges : RangesValue) → Sound (write a f stamp ranges)
    sound_write f stamp ranges =
        sound_by (write a f stamp ranges) (whole_write n s a k.whole f stamp ranges) (named_write p a k.named f stamp ranges) (write_as_before a f stamp ranges) refl

    pub sound_acknowledge : (f : FileId) (l : Link) (q : Key) (g : ℕ) → Sound (acknowledge a f l q g)
    sound_acknowledge f l q g =
        sound_by (acknowledge a f l q g) (whole_acknowledge n s a k.whole f l q g) (named_on p a (acknowledge a f l q g) k.named refl refl)
        (acknowledge_as_before a f l q g) refl

    pub sound_link : (f : FileId) (peer birth : ℕ) → IsOther n s peer → Sound (link a f peer birth)
    sound_link f peer birth other =
        sound_by (link a f peer birth) (whole_link n s a k.whole f peer birth other) (named_link p a k.named f peer birth) (link_as_before a f peer birth)
        (chosen Intends (is_new_link a f peer birth) (put_link a f peer birth) a refl refl)

    pub sound_unlink : (f : FileId) (peer birth : ℕ) → Sound (unlink a f peer birth)
    sound_unlink f peer birth =
        sound_by (unlink a f peer birth) (whole_unlink n s a k.whole f peer birth) (named_unlink p a k.named f peer birth) (unlink_as_before a f peer birth)
        (chosen Intends (is_linked a f peer birth) _ a refl refl)

    pub sound_filled : (f : FileId) → Sound (with_names a (fill a.names f))
    sound_filled f =
        sound_by (with_names a (fill a.names f)) (whole_filled n s a f k.whole) (named_filled p a k.named f)
        (names_as_before a (fill a.names f) (filled_held a.names f)) refl

    pub sound_begun : (file : FileId) (birth : ℕ) (policy : Policy) (own : Attributes) (full : Bool) → MayBegin a file birth → IsByServer own.flags → IsSaidOwn p file own
        → Sound (begin a file birth policy own full)
    sound_begun file birth policy own full may order here = record {
      whole = whole_begun n s a file birth policy own full may.away order k.whole;
      births = begin_births a file birth policy own full k.births may;
      keys = patches_keys file (patches_of file a.intents) (put_new a file birth policy own full) k.keys;
      named = named_begun p a k.named file birth policy own full may.away here;
    }

    -- what the edges do not see changes, and what is intended
    pub sound_alike : (b : Store) → AreAlike a b → AreBirths b → HaveOwnKeys b.intents → AreIntended p b.intents → Sound b
    sound_alike b same births keys all = record {
      whole = whole_alike n s a k.whole b same (for_dirs p b.intents all);
      births = births;
      keys = keys;
      named = record {
        tidy = subst AreTidy (sym same.names) k.named.tidy;
        said = subst (IsSaidOf p) (sym same.names) k.named.said;
        intents = all;
      };
    }

    pub sound_ended : (q : IntentKey) → Sound (with_intents a (ended a.intents q))
    sound_ended q =
        sound_alike (with_intents a (ended a.intents q)) (record { servers = refl; tags = refl; names = refl; replicas = refl })
        (births_as_before a (with_intents a (ended a.intents q)) (ended_as_before a q) k.births) (own-ended a.intents q k.keys)
        (fewer_intents p a k.named (λ i. not (has_key q i)))

    pub sound_rules : (c : IsClosed p) (work : Work) → AreLeft p c work.left → Sound (rules a work).store × AreLeft p c (rules a work).work.left
    sound_rules c work all =
        let named = named_rules p a k.named c work all in
        (sound_by (rules a work).store (whole_rules n s a work k.whole) named.0 (rules_as_before a work) (rules_intents a work), named.1)
