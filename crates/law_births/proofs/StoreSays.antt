-- What is said of all flags is said of what a server holds and intends behind each change.
use Rattle.std.proofs.Common.{ℕ, ◌≡◌, Bool, true, false, cond, not, List, [], ◌∷◌, ◌++◌, length, drop, filter, max, Option, None, Some, All, refl, subst}
use Rattle.std.proofs.lemmas.Bool.{and_parts}
use Rattle.std.proofs.lemmas.List.Elements.{All-cons, All-filter, All-head, All-nil, All-push, All-tail}
use Rattle.pg_run.specs.pg_base.declared.id.FileId.{FileId}
use Rattle.pg_run.specs.pg_base.declared.policy.Policy.{Policy}
use Rattle.pg_run.specs.pg_base.declared.stamp.Stamp.{Stamp}
use Rattle.pg_run.specs.pg_base.Id.{is_same_file}
use Rattle.pg_run.specs.pg_base.Version.{VersionValue}
use Rattle.pg_run.proofs.pg_base.Orders.{is_same_file-true}
use Rattle.pg_run.specs.pg_patch.Ranges.{RangesValue}
use Rattle.pg_run.specs.pg_edges.declared.key.Key.{Key}
use Rattle.pg_run.specs.pg_register.declared.flag.Flag.{Flag}
use Rattle.pg_run.specs.pg_register.declared.place.Place.{Place}
use Rattle.pg_run.specs.pg_entries.declared.entry.Entry.{Entry}
use Rattle.pg_run.specs.pg_entries.Entry.{joined}
use Rattle.pg_run.specs.pg_intent.declared.intent.Intent.{Intent}
use Rattle.pg_run.specs.pg_intent.declared.intent.Intent.TheVariants as intent
use Rattle.pg_run.specs.pg_intent.declared.key.IntentKey.{IntentKey}
use Rattle.pg_run.specs.pg_intent.declared.key.IntentKey.TheVariants as intent_key
use Rattle.pg_run.specs.pg_intent.Intent.{aimed_at, key_of, rejoined}
use Rattle.pg_run.specs.pg_intent.Intents.{aimed, begun, changed, ended, has_key, intent_at, stands}
use Rattle.pg_run.specs.pg_msg.declared.work.Touched.{Touched}
use Rattle.pg_run.specs.pg_msg.declared.work.Work.{Work}
use Rattle.pg_run.specs.pg_names.declared.attributes.Attributes.{Attributes}
use Rattle.pg_run.specs.pg_names.Names.{NamesValue, begin as begin_names, fill, join_entry, join_place, or_blank, own_at, own_or_blank}
use Rattle.pg_run.specs.pg_house.House.{house}
use Rattle.pg_run.specs.pg_house.Work.{state_of}
use Rattle.pg_run.specs.pg_replica.declared.link.Link.{Link}
use Rattle.pg_run.specs.pg_store.declared.store.Store.{Store}
use Rattle.pg_run.specs.pg_store.Beginning.{begin, let_go, patches_of, put_new, take_patch, take_patches, take_told, take_told_in, with_intents}
use Rattle.pg_run.specs.pg_store.Links.{is_linked, is_new_link, link, put_link, unlink}
use Rattle.pg_run.specs.pg_store.Store.{acknowledge, is_new_version, is_newer_entry, is_newer_flag, is_newer_place, put_entry, put_flag, put_place, put_version, take_entry, take_flag, take_place, take_version, touch, with_names, write}
use Rattle.pg_run.proofs.pg_store.Going.{cell_left, own_left}
use Rattle.pg_run.specs.pg_pieces.Done.{Done, idle}
use Rattle.pg_run.specs.pg_cells.Settling.{rules, touch_all}
use Rattle.pg_run.specs.pg_intentions.Beginning.{begin_end, still_stands}
use Rattle.pg_run.specs.pg_repair.Confirming.{own_entry}
use Rattle.pg_run.specs.pg_intentions.Confirms.{confirm_of}
use Rattle.pg_run.specs.pg_intentions.Fills.{fill_of, files_to_fill, with_fill_birth}
use Rattle.pg_run.specs.pg_intentions.Intending.{begin_intent}
use Rattle.pg_run.specs.pg_intentions.Patches.{patch_of}
use Rattle.pg_run.specs.pg_intentions.Seeks.{seek_target}
use Rattle.pg_run.proofs.theory_flood_pieces.Choices.{chosen}
use Rattle.law_order.proofs.law_frame.Ended.{fill_born, intents_keep}
use Rattle.law_births.specs.Flags.{SaysEntry, SaysIntent, SaysNames, SaysStore}
use Rattle.law_births.proofs.Joined.{joins_all}
use Rattle.law_births.proofs.NamesSay.{house_says, says_begin, says_entry, says_fill, says_flag, says_last, says_place}

-- ---- intentions

module _ (P : Intent → Type 0) where
  changed_by : (f : Intent → Intent) (i : Intent) (is more : List Intent) (t : Bool) → P i → (t ≡ true → P (f i)) → All P is → All P more
      → All P (cond t (f i ∷ is) (i ∷ more))
  changed_by f i is more true one new all rest = All-cons P (f i) is (new refl) all
  changed_by f i is more false one new all rest = All-cons P i more one rest

  changed_all : (f : Intent → Intent) (k : IntentKey) → ((i : Intent) → has_key k i ≡ true → P i → P (f i)) → (is : List Intent) → All P is
      → All P (changed f is k)
  changed_all f k keeps [] all = All-nil P
  changed_all f k keeps (i ∷ is) all =
      let rest = All-tail P i is all in
      let one = All-head P i is all in
      changed_by f i is (changed f is k) (has_key k i) one (λ t. keeps i t one) rest (changed_all f k keeps is rest)

  found_by : (i j : Intent) (o : Option Intent) (t : Bool) → P i → (o ≡ Some j → P j) → cond t (Some i) o ≡ Some j → P j
  found_by i j o true one rest there = subst P (let same : i ≡ j = cc in same) one
  found_by i j o false one rest there = rest there

  pub found_has : (is : List Intent) (k : IntentKey) (j : Intent) → All P is → intent_at is k ≡ Some j → P j
  found_has [] k j all there = cc
  found_has (i ∷ is) k j all there =
      found_by i j (intent_at is k) (has_key k i) (All-head P i is all) (found_has is k j (All-tail P i is all)) there

module _ (Q : FileId → Flag → Type 0) (B : FileId → ℕ → ℕ → ℕ → Type 0) (n : ℕ) where
  aimed_says : (to : ℕ) (i : Intent) → SaysIntent Q B i → SaysIntent Q B (aimed_at to i)
  aimed_says to (intent.Bye file birth peer peer_birth) k = k
  aimed_says to (intent.Seek file target) k = k
  aimed_says to (intent.Fill file birth target) k = k
  aimed_says to (intent.Patch dir e target) k = k
  aimed_says to (intent.Confirm dir child target) k = k
  aimed_says to (intent.Leave file peer peer_birth) k = k

  entry_joined : (e f : Entry) → f.child ≡ e.child → SaysEntry Q e → SaysEntry Q f → SaysEntry Q (joined e f)
  entry_joined e f same one two =
      let R : FileId → Type 0 = λ z. All (Q z) f.flags in
      joins_all (Q e.child) f.flags e.flags one (subst R same two)

  rejoined_says : (held i : Intent) → has_key (key_of i) held ≡ true → SaysIntent Q B held → SaysIntent Q B i → SaysIntent Q B (rejoined held i)
  rejoined_says (intent.Patch d e t) (intent.Patch to f u) key one two =
      entry_joined e f (is_same_file-true f.child e.child (and_parts (is_same_file to d) (is_same_file f.child e.child) key).1) one two
  rejoined_says held i key one two = one

  begun_by : (is : List Intent) (i : Intent) (t : Bool) → All (SaysIntent Q B) is → SaysIntent Q B i
      → All (SaysIntent Q B) (cond t (changed (λ held. rejoined held i) is (key_of i)) (is ++ i ∷ []))
  begun_by is i true all one =
      changed_all (SaysIntent Q B) (λ held. rejoined held i) (key_of i) (λ held k was. rejoined_says held i k was one) is all
  begun_by is i false all one = All-push (SaysIntent Q B) is i all one

  pub begun_says : (is : List Intent) (i : Intent) → All (SaysIntent Q B) is → SaysIntent Q B i → All (SaysIntent Q B) (begun is i)
  begun_says is i all one = begun_by is i (stands is (key_of i)) all one

  -- ---- a server

  abbrev Says : Store → Type 0
  Says a = SaysStore Q B n a

  pub say_names : (a : Store) (names : NamesValue) → SaysNames Q n names → Says a → Says (with_names a names)
  say_names a names new k = record { names = new; intents = k.intents }

  pub say_intents : (a : Store) (is : List Intent) → All (SaysIntent Q B) is → Says a → Says (with_intents a is)
  say_intents a is new k = record { names = k.names; intents = new }

  pub say_touch : (a : Store) (file : FileId) (q : Key) → Says a → Says (touch a file q)
  say_touch a file q k = record { names = k.names; intents = k.intents }

  pub say_place : (a : Store) (file : FileId) (place : Place) → Says a → Says (take_place a file place)
  say_place a file place k =
      let names = join_place a.names file place in
      chosen Says (is_newer_place a file place) (put_place a file place) a
      (record { names = says_last Q n names (max names.last place.stamp.time) (says_place Q n a.names file place k.names); intents = k.intents }) k

  pub say_flag : (a : Store) (file : FileId) (flag : Flag) → Q file flag → Says a → Says (take_flag a file flag)
  say_flag a file flag one k =
      chosen Says (is_newer_flag a file flag) (put_flag a file flag) a
      (record { names = says_flag Q n a.names file flag one k.names; intents = k.intents }) k

  pub say_entry : (a : Store) (dir : FileId) (e : Entry) → SaysEntry Q e → Says a → Says (take_entry a dir e)
  say_entry a dir e one k =
      let names = join_entry a.names dir e in
      chosen Says (is_newer_entry a dir e) (put_entry a dir e) a
      (record { names = says_last Q n names (max names.last e.place.stamp.time) (says_entry Q n a.names dir e one k.names); intents = k.intents }) k

  pub say_version : (a : Store) (file : FileId) (v : VersionValue) → Says a → Says (take_version a file v)
  say_version a file v k =
      chosen Says (is_new_version a file v) (put_version a file v) a
      (record { names = says_last Q n a.names (max a.names.last v.head.stamp.time) k.names; intents = k.intents }) k

  pub say_write : (a : Store) (file : FileId) (stamp : Stamp) (ranges : RangesValue) → Says a → Says (write a file stamp ranges)
  say_write a file stamp ranges k =
      record { names = says_last Q n a.names (max a.names.last stamp.time) k.names; intents = k.intents }

  pub say_acknowledge : (a : Store) (file : FileId) (along : Link) (q : Key) (tag : ℕ) → Says a → Says (acknowledge a file along q tag)
  say_acknowledge a file along q tag k = record { names = k.names; intents = k.intents }

  pub say_link : (a : Store) (file : FileId) (peer birth : ℕ) → Says a → Says (link a file peer birth)
  say_link a file peer birth k =
      chosen Says (is_new_link a file peer birth) (put_link a file peer birth) a (record { names = k.names; intents = k.intents }) k

  unlink_by : (a b : Store) (t : Bool) → Says b → Says a → Says (cond t b a)
  unlink_by a b true new old = new
  unlink_by a b false new old = old

  pub say_unlink : (a : Store) (file : FileId) (peer birth : ℕ) → Says a → Says (unlink a file peer birth)
  say_unlink a file peer birth k = unlink_by a _ (is_linked a file peer birth) (record { names = k.names; intents = k.intents }) k

  pub say_fill : (a : Store) (file : FileId) → Says a → Says (with_names a (fill a.names file))
  say_fill a file k = record { names = says_fill Q n a.names file k.names; intents = k.intents }

  pub say_aimed : (a : Store) (q : IntentKey) (to : ℕ) → Says a → Says (with_intents a (aimed a.intents q to))
  say_aimed a q to k = record {
    names = k.names;
    intents = changed_all (SaysIntent Q B) (aimed_at to) q (λ i t one. aimed_says to i one) a.intents k.intents;
  }

  pub say_ended : (a : Store) (q : IntentKey) → Says a → Says (with_intents a (ended a.intents q))
  say_ended a q k = record { names = k.names; intents = All-filter (λ i. not (has_key q i)) (SaysIntent Q B) a.intents k.intents }

  -- ---- a replica goes

  pub say_let_go : (a : Store) (file : FileId) → Says a → Says (let_go a file)
  say_let_go a file k = record {
    names = record {
      server = k.names.server;
      own = λ q own there. k.names.own q own (own_left a file q own there);
      cells = λ dir child e there. k.names.cells dir child e (cell_left a file dir child e there);
    };
    intents = k.intents;
  }

  -- ---- a replica begins

  told_says : (a : Store) (dir : FileId) (i : Intent) → SaysIntent Q B i → Says a → Says (take_told a dir i)
  told_says a dir (intent.Patch to e target) one k = say_entry a dir e one k
  told_says a dir i one k = k

  told_in_says : (a : Store) (dir : FileId) (o : Option Intent) → ((i : Intent) → o ≡ Some i → SaysIntent Q B i) → Says a
      → Says (take_told_in a dir o)
  told_in_says a dir None one k = k
  told_in_says a dir (Some i) one k = told_says a dir i (one i refl) k

  patches_say : (ks : List IntentKey) (a : Store) (dir : FileId) → Says a → Says (take_patches a dir ks)
  patches_say [] a dir k = k
  patches_say (q ∷ ks) a dir k =
      patches_say ks (take_patch a dir q) dir
      (told_in_says (with_intents a (ended a.intents q)) dir (intent_at a.intents q)
      (λ i there. found_has (SaysIntent Q B) a.intents q i k.intents there) (say_ended a q k))

  pub say_begin : (a : Store) (file : FileId) (birth : ℕ) (policy : Policy) (own : Attributes) (full : Bool) → All (Q file) own.flags → Says a
      → Says (begin a file birth policy own full)
  say_begin a file birth policy own full all k =
      let names = begin_names a.names file own full in
      patches_say (patches_of file a.intents) (put_new a file birth policy own full) file
      (record {
        names = says_last Q n names (max names.last own.place.stamp.time) (says_begin Q n a.names file own full all k.names);
        intents = k.intents;
      })

  -- ---- the house rules

  touches_say : (ts : List Touched) (a : Store) → Says a → Says (touch_all a ts)
  touches_say [] a k = k
  touches_say (t ∷ ts) a k = touches_say ts (touch a t.file t.key) (say_touch a t.file t.key k)

  pub say_rules : (a : Store) (work : Work) → Says a → Says (rules a work).store
  say_rules a work k =
      let st = house work.now (state_of a.names work) in
      touches_say (drop (length work.touched) st.work.touched) (with_names a st.names)
      (say_names a st.names (house_says Q n work.now (state_of a.names work) k.names) k)

  -- ---- intentions behind them

  blank_says : (file : FileId) (o : Option Attributes) → ((own : Attributes) → o ≡ Some own → All (Q file) own.flags) → All (Q file) (or_blank file o).flags
  blank_says file None held = All-nil (Q file)
  blank_says file (Some own) held = held own refl

  -- what is known of a thing itself
  pub own_says : (a : Store) (file : FileId) → Says a → All (Q file) (own_or_blank a.names file).flags
  own_says a file k = blank_says file (own_at a.names file) (λ own there. k.names.own file own there)

  pub entry_says : (a : Store) (file : FileId) → Says a → SaysEntry Q (own_entry a file)
  entry_says a file k = own_says a file k

  pub intends_says : (a : Store) (i : Intent) (work : Work) → SaysIntent Q B i → Says a → Says (begin_intent a i work).store
  intends_says a i work one k = say_intents a (begun a.intents i) (begun_says a.intents i k.intents one) k

  pub say_begin_end : (s : Store) (w : Work) → Says s → Says (begin_end s w).store
  say_begin_end s w =
      intents_keep (idle s w) (λ (d : Done). Says d.store) (record {
        ends = λ k. (
            let test = still_stands s (files_to_fill s.names) in
            say_intents s (filter test s.intents) (All-filter test (SaysIntent Q B) s.intents k.intents) k);
        patches = λ d slot is k. intends_says d.store (patch_of d.store slot d.work) d.work (entry_says d.store slot.child k) k;
        fills = λ d file none k. (
            let b = d.store in
            intends_says (with_fill_birth b file) (fill_of b file d.work) d.work tt
            (fill_born Says b file k (record { names = k.names; intents = k.intents }) (record { names = k.names; intents = k.intents })));
        seeks = λ d file is k. intends_says d.store (intent.Seek file (seek_target d.store file)) d.work tt k;
        aims_seek = λ d file k. say_aimed d.store (intent_key.Seek file) (seek_target d.store file) k;
        confirms = λ d slot is k. intends_says d.store (confirm_of d.store slot) d.work tt k;
      })
