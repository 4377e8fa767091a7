-- Intentions begin and end behind the house rules with births that were given out, and no two have
-- one key.
use Rattle.std.proofs.Common.{ℕ, ◌≡◌, ◌≤◌, ◌+◌, Bool, true, false, not, cond, is_some, Option, None, Some, option_map, refl, sym, ap, ◌∙◌, arith}
use Rattle.std.proofs.lemmas.Bool.{false≢true}
use Rattle.std.proofs.lemmas.Option.{none-some}
use Rattle.law_frame.specs.pg_run.pg_base.declared.id.FileId.{FileId}
use Rattle.law_frame.proofs.pg_run.pg_base.Orders.{is_same_file-refl}
use Rattle.law_frame.specs.pg_run.pg_intent.declared.intent.Intent.{Intent}
use Rattle.law_frame.specs.pg_run.pg_intent.declared.key.IntentKey.TheVariants as intent_key
use Rattle.law_frame.specs.pg_run.pg_intent.Intent.{key_of}
use Rattle.law_frame.specs.pg_run.pg_intent.Intents.{HaveOwnKeys, begun}
use Rattle.law_frame.specs.pg_run.pg_intent.Key.{is_same_key}
use Rattle.law_frame.specs.pg_run.pg_intent.declared.intent.Intent.TheVariants as intent
use Rattle.law_frame.proofs.pg_run.pg_intent.Kept.{own-aimed, own-begun, own-filter}
use Rattle.law_frame.specs.pg_run.pg_msg.declared.work.Work.{Work}
use Rattle.law_frame.specs.pg_run.pg_replica.declared.replica.Replica.{Replica}
use Rattle.law_frame.specs.pg_run.pg_replica.Replicas.{or_nothing}
use Rattle.law_frame.specs.pg_run.pg_store.declared.store.Store.{Store}
use Rattle.law_frame.specs.pg_run.pg_store.declared.wishes.Wish.{Wish}
use Rattle.law_frame.specs.pg_run.pg_store.Births.{birth_of, fill_at, wish_at, with_birth, with_wishes}
use Rattle.law_frame.specs.pg_run.pg_store.Servers.{first_target}
use Rattle.law_frame.specs.pg_run.pg_store.Store.{is_held}
use Rattle.law_frame.specs.pg_run.pg_store.Together.{AreBirths, AreTogether, IsGiven, birth_at}
use Rattle.law_frame.specs.pg_run.pg_store.Wishes.{wish_in, without_wish}
use Rattle.law_frame.proofs.pg_run.pg_store.Aiming.{aimed_births, gone_as_before}
use Rattle.law_frame.proofs.pg_run.pg_store.Given.{births_as_before}
use Rattle.law_frame.proofs.pg_run.pg_store.Pairs.{birth_as_before, intents_as_before}
use Rattle.law_frame.proofs.pg_run.pg_store.Wanted.{wish_behind}
use Rattle.law_frame.proofs.pg_run.pg_store.Wishing.{fill_births}
use Rattle.law_frame.specs.pg_run.pg_pieces.Done.{Done}
use Rattle.law_frame.specs.pg_run.pg_intentions.Beginning.{end_others, still_stands}
use Rattle.law_frame.specs.pg_run.pg_intentions.Confirms.{confirm_of}
use Rattle.law_frame.specs.pg_run.pg_intentions.Fills.{fill_birth, fill_of, files_to_fill, is_in, with_fill_birth, without_wished, wished_birth}
use Rattle.law_frame.specs.pg_run.pg_intentions.Intending.{begin_intent}
use Rattle.law_frame.specs.pg_run.pg_intentions.Patches.{patch_of}
use Rattle.law_frame.specs.pg_run.pg_intentions.Seeks.{seek_target}
use Rattle.law_frame.proofs.pg_run.pg_intentions.Standing.{begun_other, fill_ended}
use Rattle.law_frame.proofs.pg_run.theory_flood_pieces.Together.{replica_of_held}
use Rattle.law_frame.specs.pg_run.pg_server.Local.{intended}
use Rattle.law_frame.proofs.Ended.{intents_keep}

-- a Patch, a Seek or a Confirm is no Fill
pub other_births : (b : Store) (i : Intent) (w : Work) → ((q : FileId) → is_same_key (intent_key.Fill q) (key_of i) ≡ false) → AreBirths b → AreBirths (begin_intent b i w).store
other_births b i w other h =
    births_as_before b (begin_intent b i w).store
    (intents_as_before b (begun b.intents i) (λ q x there. sym (begun_other b i w (intent_key.Fill q) (other q)) ∙ there)) h

-- what is held, and what was given out; and no two intentions have one key
abbrev Given : Store → Type 0
Given b = AreTogether b × AreBirths b × HaveOwnKeys b.intents

given_begins : (b : Store) (i : Intent) (w : Work) → ((q : FileId) → is_same_key (intent_key.Fill q) (key_of i) ≡ false) → Given b → Given (begin_intent b i w).store
given_begins b i w other k = (k.0, other_births b i w other k.1, own-begun b.intents i k.2)

none_of : {A : Type 0} (o : Option A) → is_some o ≡ false → o ≡ None
none_of None h = refl
none_of (Some x) h = absurd (false≢true (sym h))

-- ---- a Fill

-- a Fill of the thing with this birth may begin
record IsReady (file : FileId) (d : Store) (birth : ℕ) : Type 0 where
  pub both : AreTogether d
  pub births : AreBirths d
  pub keys : HaveOwnKeys d.intents
  pub unwished : wish_at d file ≡ None
  pub gap : fill_at d file ≡ None
  pub given : IsGiven d birth
  pub own : is_held d file ≡ true → birth_at d file ≡ Some birth

pub fresh_given : (n : ℕ) → (1 ≤ n + 1) × (n + 1 ≤ n + 1)
fresh_given n = (omega arith, omega arith)

module _ (b : Store) (file : FileId) (k : Given b) (gap : fill_at b file ≡ None) where
  no_wish : is_held b file ≡ true → (o : Option Wish) → wish_at b file ≡ o → wish_at b file ≡ None
  no_wish held None there = there
  no_wish held (Some wish) there = absurd (false≢true (sym (k.1.wished file wish there).0 ∙ held))

  held_birth : is_held b file ≡ true → birth_at b file ≡ Some (birth_of b file)
  held_birth held =
      let x = replica_of_held b k.0 file held in
      ap (option_map (λ (y : Replica). y.birth)) x.1 ∙ sym (ap (λ (o : Option Replica). Some (or_nothing o).birth) x.1)

  wished_ready : is_held b file ≡ false → (o : Option Wish) → wish_at b file ≡ o → IsReady file (without_wished b file o) (wished_birth b o)
  wished_ready away None there = record {
    both = k.0;
    births = births_as_before b (with_birth b) (birth_as_before b) k.1;
    keys = k.2;
    unwished = there;
    gap = gap;
    given = fresh_given b.births;
    own = λ held. absurd (false≢true (sym away ∙ held));
  }
  wished_ready away (Some wish) there = record {
    both = k.0;
    births = births_as_before b (with_wishes b (without_wish b.wishes file)) (gone_as_before b file) k.1;
    keys = k.2;
    unwished = wish_behind b.wishes file file ∙ ap (λ t. cond (not t) (wish_in b.wishes file) None) (is_same_file-refl file);
    gap = gap;
    given = k.1.wishes file wish there;
    own = λ held. absurd (false≢true (sym away ∙ held));
  }

  ready_by : (t : Bool) → is_held b file ≡ t
      → IsReady file (cond t b (without_wished b file (wish_at b file))) (cond t (birth_of b file) (wished_birth b (wish_at b file)))
  ready_by true held = record {
    both = k.0;
    births = k.1;
    keys = k.2;
    unwished = no_wish held (wish_at b file) refl;
    gap = gap;
    given = k.1.replicas file (birth_of b file) (held_birth held);
    own = λ here. held_birth held;
  }
  ready_by false away = wished_ready away (wish_at b file) refl

stays_by : (t : Bool) (o : Option Intent) (i : Intent) → cond t o None ≡ Some i → o ≡ Some i
stays_by true o i h = h
stays_by false o i h = absurd (none-some i h)

still_given : (b : Store) → Given b → Given (end_others b (files_to_fill b.names))
still_given b k =
    let files = files_to_fill b.names in
    let e = end_others b files in
    let births : AreBirths e = births_as_before b e
    (intents_as_before b e.intents (λ q i there. stays_by (is_in files q) (fill_at b q) i (sym (fill_ended b q) ∙ there))) k.1 in
    (k.0, births, own-filter (still_stands b files) b.intents k.2)

-- INTENTIONS END AND BEGIN
pub given_end : (d : Done) → Given d.store → Given (intended d).store
given_end d k =
    intents_keep d (λ (e : Done). Given e.store) (record {
      ends = λ h. still_given d.store h;
      patches = λ e slot away h. given_begins e.store (patch_of e.store slot e.work) e.work (λ q. refl) h;
      fills = λ e file none h. (
          let b = with_fill_birth e.store file in
          let r = ready_by e.store file h (none_of (fill_at e.store file) none) (is_held e.store file) refl in
          let to = first_target b e.work.from in
          (r.both, fill_births b file (fill_birth e.store file) to r.births r.unwished r.gap r.given r.own, own-begun b.intents (fill_of e.store file e.work) r.keys));
      seeks = λ e file none h. given_begins e.store (intent.Seek file (seek_target e.store file)) e.work (λ q. refl) h;
      aims_seek = λ e file h. (
          let q = intent_key.Seek file in
          let to = seek_target e.store file in
          (h.0, aimed_births e.store q to h.1, own-aimed e.store.intents q to h.2));
      confirms = λ e slot doubted h. given_begins e.store (confirm_of e.store slot) e.work (λ q. refl) h;
    }) k
