-- The pieces of an event at a server: what is said of all that it knows and intends is said of it
-- again.
use Rattle.std.proofs.Common.{ℕ, drop, length, not, ◌≡◌, Bool, true, false, cond, is_some, List, [], ◌∷◌, Option, None, Some, All, refl, sym, subst}
use Rattle.std.specs.List.{filter}
use Rattle.std.proofs.lemmas.List.Elements.{All-filter, All-head, All-tail}
use Rattle.std.proofs.lemmas.Option.{same_Some}
use Rattle.law_frame.specs.pg_run.pg_base.declared.id.FileId.{FileId}
use Rattle.law_frame.specs.pg_run.pg_base.declared.policy.Policy.{Policy}
use Rattle.law_frame.specs.pg_run.pg_base.declared.stamp.Stamp.{Stamp}
use Rattle.law_frame.specs.pg_run.pg_base.Version.{VersionValue}
use Rattle.law_frame.specs.pg_run.pg_patch.Ranges.{RangesValue}
use Rattle.law_frame.specs.pg_run.pg_entries.declared.entry.Entry.{Entry}
use Rattle.law_frame.specs.pg_run.pg_intent.declared.intent.Intent.{Intent}
use Rattle.law_frame.specs.pg_run.pg_intent.declared.intent.Intent.TheVariants as intent
use Rattle.law_frame.specs.pg_run.pg_intent.declared.key.IntentKey.{IntentKey}
use Rattle.law_frame.specs.pg_run.pg_intent.Intents.{ended, has_key, intent_at}
use Rattle.law_frame.specs.pg_run.pg_msg.declared.work.Touched.{Touched}
use Rattle.law_frame.specs.pg_run.pg_msg.declared.work.Work.{Work}
use Rattle.law_frame.specs.pg_run.pg_names.declared.attributes.Attributes.{Attributes}
use Rattle.law_frame.specs.pg_run.pg_names.Names.{InodeValue, fill, is_entry_new, is_flag_new, is_place_new, known, own_at, own_of, raise}
use Rattle.law_frame.specs.pg_run.pg_register.declared.flag.Flag.{Flag}
use Rattle.law_frame.specs.pg_run.pg_register.declared.place.Place.{Place}
use Rattle.law_frame.specs.pg_run.pg_house.House.{house}
use Rattle.law_frame.specs.pg_run.pg_house.Work.{state_of}
use Rattle.law_frame.specs.pg_run.pg_store.declared.store.Store.{Store}
use Rattle.law_frame.specs.pg_run.pg_store.Beginning.{begin, patches_of, put_new, take_patch, take_patches, take_told, take_told_in, with_intents}
use Rattle.law_frame.specs.pg_run.pg_store.Links.{is_linked, is_new_link, link, put_link, unlink}
use Rattle.law_frame.specs.pg_run.pg_store.Store.{is_held, is_new_version, is_newer_entry, is_newer_flag, is_newer_place, put_entry, put_flag, put_place, put_version, take_entry, take_flag, take_place, take_version, touch, with_names, write}
use Rattle.law_frame.specs.pg_run.pg_replica.Replicas.{replicas_unlinked}
use Rattle.law_frame.specs.pg_run.pg_store.Store.{replica_at}
use Rattle.law_frame.specs.pg_run.pg_cells.Settling.{rules, touch_all}
use Rattle.law_frame.proofs.pg_run.theory_flood_pieces.Choices.{chosen, decided}
use Rattle.law_frame.proofs.pg_run.theory_flood_pieces.Touching.{same_names}
use Rattle.law_order.specs.Saying.{AreIntended, IsClosed, IsIntended, IsSaidCell, IsSaidOf, IsSaidOwn, Saying}
use Rattle.law_order.specs.Sound.{AreTidy, IsNamed}
use Rattle.law_order.proofs.HouseSays.{AreLeft, house_said}
use Rattle.law_order.proofs.NamesSay.{said_begun, said_entry, said_filled, said_flag, said_place, said_raised}
use Rattle.law_order.proofs.Tidy.{tidy_begun, tidy_entry, tidy_filled, tidy_flag, tidy_house, tidy_place, tidy_raised}

-- ---- what a piece of news says of what is held

place_own : (o : Option Attributes) (place : Place) → is_place_new o place ≡ true → (own : Attributes) × (o ≡ Some own)
place_own None place h = absurd (let z : false ≡ true = h in cc)
place_own (Some own) place h = (own, refl)

flag_own : (o : Option Attributes) (flag : Flag) → is_flag_new o flag ≡ true → (own : Attributes) × (o ≡ Some own)
flag_own None flag h = absurd (let z : false ≡ true = h in cc)
flag_own (Some own) flag h = (own, refl)

entry_own : (o : Option InodeValue) (e : Entry) → is_entry_new o e ≡ true → (own : Attributes) × (own_of o ≡ Some own)
entry_own None e h = absurd (let z : false ≡ true = h in cc)
entry_own (Some x) e h = (x.own, refl)

none_known : (o : Option InodeValue) → is_some o ≡ false → o ≡ None
none_known None h = refl
none_known (Some x) h = absurd (let z : true ≡ false = h in cc)

-- what is found has what all have
pub found_has : (P : Intent → Type 0) (k : IntentKey) (i : Intent) (is : List Intent) → All P is → intent_at is k ≡ Some i → P i
found_has P k i [] all h = absurd (let z : None ≡ Some i = h in cc)
found_has P k i (j ∷ js) all h = at (has_key k j) (found_has P k i js (All-tail P j js all)) h
  where
    at : (t : Bool) → (intent_at js k ≡ Some i → P i) → cond t (Some j) (intent_at js k) ≡ Some i → P i
    at true rest same = subst P (same_Some j i same) (All-head P j js all)
    at false rest later = rest later

pub same_intents : (a : Store) (ts : List Touched) → (touch_all a ts).intents ≡ a.intents
same_intents a [] = refl
same_intents a (t ∷ ts) = same_intents (touch a t.file t.key) ts

module _ (p : Saying) where
  -- ---- what is known and intended, where names and intentions are as they were

  abbrev pub Named : Store → Type 0
  Named a = IsNamed p a

  pub named_on : (a b : Store) → Named a → b.names ≡ a.names → b.intents ≡ a.intents → Named b
  named_on a b k names intents = record {
    tidy = subst AreTidy (sym names) k.tidy;
    said = subst (IsSaidOf p) (sym names) k.said;
    intents = subst (AreIntended p) (sym intents) k.intents;
  }

  -- where a stamp was taken
  raised_on : (a b : Store) (time : ℕ) → Named a → b.names ≡ raise a.names time → b.intents ≡ a.intents → Named b
  raised_on a b time k names intents = record {
    tidy = subst AreTidy (sym names) (tidy_raised a.names time k.tidy);
    said = subst (IsSaidOf p) (sym names) (said_raised p a.names time k.said);
    intents = subst (AreIntended p) (sym intents) k.intents;
  }

  module _ (a : Store) (k : Named a) where
    pub named_place : (f : FileId) (place : Place) → p.IsPlace f place → Named (take_place a f place)
    named_place f place here =
        decided Named (is_newer_place a f place) (put_place a f place) a
        (λ new. (let own = place_own (own_at a.names f) place new in record {
          tidy = tidy_place a.names f place k.tidy;
          said = said_place p a.names f own.0 own.1 k.said place here;
          intents = k.intents;
        }))
        (λ old. k)

    pub named_flag : (f : FileId) (flag : Flag) → p.IsFlag flag → Named (take_flag a f flag)
    named_flag f flag here =
        decided Named (is_newer_flag a f flag) (put_flag a f flag) a
        (λ new. (let own = flag_own (own_at a.names f) flag new in record {
          tidy = tidy_flag a.names f flag k.tidy;
          said = said_flag p a.names f own.0 own.1 k.said flag here;
          intents = k.intents;
        }))
        (λ old. k)

    pub named_entry : (d : FileId) (e : Entry) → IsSaidCell p e.child e → Named (take_entry a d e)
    named_entry d e here =
        decided Named (is_newer_entry a d e) (put_entry a d e) a
        (λ new. (let own = entry_own (known a.names d) e new in record {
          tidy = tidy_entry a.names d e k.tidy;
          said = said_entry p a.names d own.0 own.1 e here k.said;
          intents = k.intents;
        }))
        (λ old. k)

    pub named_version : (f : FileId) (v : VersionValue) → Named (take_version a f v)
    named_version f v =
        chosen Named (is_new_version a f v) (put_version a f v) a
        (raised_on a (put_version a f v) v.head.stamp.time k refl refl) k

    pub named_write : (f : FileId) (stamp : Stamp) (ranges : RangesValue) → Named (write a f stamp ranges)
    named_write f stamp ranges = raised_on a (write a f stamp ranges) stamp.time k refl refl

    pub named_link : (f : FileId) (peer birth : ℕ) → Named (link a f peer birth)
    named_link f peer birth = chosen Named (is_new_link a f peer birth) (put_link a f peer birth) a (named_on a (put_link a f peer birth) k refl refl) k

    abbrev Unlinked : FileId → ℕ → ℕ → Store
    Unlinked f peer birth = record a { replicas = replicas_unlinked a.replicas f peer birth (replica_at a f) }

    pub named_unlink : (f : FileId) (peer birth : ℕ) → Named (unlink a f peer birth)
    named_unlink f peer birth = chosen Named (is_linked a f peer birth) (Unlinked f peer birth) a (named_on a (Unlinked f peer birth) k refl refl) k

    pub named_filled : (f : FileId) → Named (with_names a (fill a.names f))
    named_filled f = record { tidy = tidy_filled a.names f k.tidy; said = said_filled p a.names f k.said; intents = k.intents }

    pub named_intents : (is : List Intent) → AreIntended p is → Named (with_intents a is)
    named_intents is all = record { tidy = k.tidy; said = k.said; intents = all }

    -- some end
    pub fewer_intents : (test : Intent → Bool) → AreIntended p (filter test a.intents)
    fewer_intents test = All-filter test (IsIntended p) a.intents k.intents

    -- the house rules run
    pub named_rules : (c : IsClosed p) (work : Work) → AreLeft p c work.left → Named (rules a work).store × AreLeft p c (rules a work).work.left
    named_rules c work all =
        let st = house work.now (state_of a.names work) in
        let keys = drop (length work.touched) st.work.touched in
        let said = house_said p c work.now (state_of a.names work) (k.said, all) in
        let b = with_names a st.names in
        let named : Named b = record { tidy = tidy_house work.now (state_of a.names work) k.tidy; said = said.0; intents = k.intents } in
        (named_on b (touch_all b keys) named (same_names b keys) (same_intents b keys), said.1)

  -- ---- a directory takes its Patches

  module _ (dir : FileId) where
    told_named : (a : Store) → Named a → (i : Intent) → IsIntended p i → Named (take_told a dir i)
    told_named a k (intent.Bye file birth peer peer_birth) said = k
    told_named a k (intent.Seek file target) said = k
    told_named a k (intent.Fill file birth target) said = k
    told_named a k (intent.Patch to entry target) said = named_entry a k dir entry said.cell
    told_named a k (intent.Confirm to child target) said = k
    told_named a k (intent.Leave file peer peer_birth) said = k

    told_in_named : (a : Store) → Named a → (o : Option Intent) → ((i : Intent) → o ≡ Some i → IsIntended p i) → Named (take_told_in a dir o)
    told_in_named a k None said = k
    told_in_named a k (Some i) said = told_named a k i (said i refl)

    patch_named : (a : Store) → Named a → (q : IntentKey) → Named (take_patch a dir q)
    patch_named a k q =
        told_in_named (with_intents a (ended a.intents q)) (named_intents a k (ended a.intents q) (fewer_intents a k (λ i. not (has_key q i))))
        (intent_at a.intents q) (λ i h. found_has (IsIntended p) q i a.intents k.intents h)

    patches_named : (ks : List IntentKey) (a : Store) → Named a → Named (take_patches a dir ks)
    patches_named [] a k = k
    patches_named (q ∷ qs) a k = patches_named qs (take_patch a dir q) (patch_named a k q)

  -- a thing begins that was not held
  pub named_begun : (a : Store) → Named a → (file : FileId) (birth : ℕ) (policy : Policy) (own : Attributes) (full : Bool) → is_held a file ≡ false → IsSaidOwn p file own
      → Named (begin a file birth policy own full)
  named_begun a k file birth policy own full away here =
      let none = none_known (known a.names file) away in
      patches_named file (patches_of file a.intents) (put_new a file birth policy own full) (record {
        tidy = tidy_begun a.names file own full none k.tidy own.place.stamp.time;
        said = said_begun p a.names file own full none here k.said own.place.stamp.time;
        intents = k.intents;
      })
