-- Intentions begin and end behind the house rules, and what is intended then is said too.
use Rattle.std.proofs.Common.{ℕ, ◌≡◌, ◌++◌, Bool, true, false, cond, not, is_some, List, [], ◌∷◌, Option, None, Some, All, refl, ap, subst}
use Rattle.std.proofs.lemmas.Bool.{and_parts, false≢true}
use Rattle.std.proofs.lemmas.List.Elements.{All-cons, All-contains, All-filter, All-head, All-nil, All-push, All-tail}
use Rattle.law_frame.specs.pg_run.pg_base.declared.id.FileId.{FileId}
use Rattle.law_frame.specs.pg_run.pg_base.Id.{is_same_file}
use Rattle.law_frame.specs.pg_run.pg_base.Stamp.{is_before}
use Rattle.law_frame.proofs.pg_run.pg_base.Orders.{is_same_file-true}
use Rattle.law_frame.specs.pg_run.pg_intent.declared.intent.Intent.{Intent}
use Rattle.law_frame.specs.pg_run.pg_intent.declared.intent.Intent.TheVariants as intent
use Rattle.law_frame.specs.pg_run.pg_intent.declared.key.IntentKey.{IntentKey}
use Rattle.law_frame.specs.pg_run.pg_intent.declared.key.IntentKey.TheVariants as intent_key
use Rattle.law_frame.specs.pg_run.pg_intent.Intent.{aimed_at, key_of, rejoined}
use Rattle.law_frame.specs.pg_run.pg_intent.Intents.{aimed, begun, changed, ended, has_key, stands, turned, turned_each}
use Rattle.law_frame.specs.pg_run.pg_intent.Key.{is_for_peer}
use Rattle.law_frame.specs.pg_run.pg_msg.declared.work.Slot.{Slot}
use Rattle.law_frame.specs.pg_run.pg_msg.declared.work.Work.{Work}
use Rattle.law_frame.specs.pg_run.pg_names.declared.attributes.Attributes.{Attributes}
use Rattle.law_frame.specs.pg_run.pg_names.Names.{InodeValue, known, or_blank, own_at, own_of}
use Rattle.law_frame.specs.pg_run.pg_store.declared.store.Store.{Store}
use Rattle.law_frame.specs.pg_run.pg_store.Store.{is_held}
use Rattle.law_frame.specs.pg_run.pg_pieces.Done.{Done, idle}
use Rattle.law_frame.specs.pg_run.pg_intentions.Beginning.{begin_end, still_stands}
use Rattle.law_frame.specs.pg_run.pg_repair.Confirming.{entry_for, own_entry}
use Rattle.law_frame.specs.pg_run.pg_intentions.Confirms.{confirm_of}
use Rattle.law_frame.specs.pg_run.pg_intentions.Fills.{fill_of, files_to_fill, with_fill_birth}
use Rattle.law_frame.specs.pg_run.pg_intentions.Intending.{begin_intent}
use Rattle.law_frame.specs.pg_run.pg_intentions.Patches.{patch_of}
use Rattle.law_frame.specs.pg_run.pg_intentions.Seeks.{seek_target}
use Rattle.law_frame.proofs.pg_run.pg_register.ByServer.{IsByServer-join_flags, IsByServer-nil}
use Rattle.law_frame.proofs.pg_run.theory_flood_pieces.Choices.{chosen}
use Rattle.law_frame.proofs.Ended.{fill_born, intents_keep}
use Rattle.law_order.specs.Saying.{AreIntended, IsClosed, IsIntended, IsSaidCell, IsSaidLeft, IsSaidOf, IsSaidTold, Saying}
use Rattle.law_order.proofs.FlagsSay.{all_joined}
use Rattle.law_order.proofs.HouseSays.{AreLeft}

-- ---- what all have

-- where those with the key have it again as they are changed
pub all_changed : (P : Intent → Type 0) (f : Intent → Intent) (k : IntentKey) → ((held : Intent) → has_key k held ≡ true → P held → P (f held))
    → (is : List Intent) → All P is → All P (changed f is k)
all_changed P f k again [] all = All-nil P
all_changed P f k again (i ∷ is) all = at (has_key k i) refl (all_changed P f k again is (All-tail P i is all))
  where
    at : (t : Bool) → has_key k i ≡ t → All P (changed f is k) → All P (cond t (f i ∷ is) (i ∷ changed f is k))
    at true same rest = All-cons P (f i) is (again i same (All-head P i is all)) (All-tail P i is all)
    at false other rest = All-cons P i (changed f is k) (All-head P i is all) rest

-- what stands behind a beginning stood, is new, or is one that stood and began again
pub all_begun : (P : Intent → Type 0) (is : List Intent) (i : Intent) → All P is → P i
    → ((held : Intent) → has_key (key_of i) held ≡ true → P held → P (rejoined held i)) → All P (begun is i)
all_begun P is i all here again =
    chosen (λ (js : List Intent). All P js) (stands is (key_of i)) (changed (λ held. rejoined held i) is (key_of i)) (is ++ i ∷ [])
    (all_changed P (λ held. rejoined held i) (key_of i) again is all) (All-push P is i all here)

-- ---- what is said of them

module _ (p : Saying) where
  rejoined_said : (i held : Intent) → has_key (key_of i) held ≡ true → IsIntended p held → IsIntended p i → IsIntended p (rejoined held i)
  rejoined_said (intent.Patch d e t) (intent.Patch dir entry target) same was here =
      let child = is_same_file-true e.child entry.child (and_parts (is_same_file d dir) (is_same_file e.child entry.child) same).1 in
      record {
        dir = was.dir;
        of = was.of;
        cell = record {
          thing = was.cell.thing;
          child = was.cell.child;
          place = chosen (p.IsPlace entry.child) (is_before entry.place.stamp e.place.stamp) e.place entry.place
              (subst (λ (x : FileId). p.IsPlace x e.place) child here.cell.place) was.cell.place;
          flags = all_joined p.IsFlag entry.flags e.flags was.cell.flags here.cell.flags;
          order = IsByServer-join_flags entry.flags e.flags was.cell.order;
        };
      }
  rejoined_said i (intent.Patch dir entry target) same was here = was
  rejoined_said i (intent.Bye file birth peer peer_birth) same was here = was
  rejoined_said i (intent.Seek file target) same was here = was
  rejoined_said i (intent.Fill file birth target) same was here = was
  rejoined_said i (intent.Confirm dir child target) same was here = was
  rejoined_said i (intent.Leave file peer peer_birth) same was here = was

  pub begun_said : (is : List Intent) (i : Intent) → AreIntended p is → IsIntended p i → AreIntended p (begun is i)
  begun_said is i all here =
      all_begun (IsIntended p) is i all here (λ (held : Intent) (same : has_key (key_of i) held ≡ true) (was : IsIntended p held). rejoined_said i held same was here)

  -- another server is asked
  aimed_said : (to : ℕ) (i : Intent) → IsIntended p i → IsIntended p (aimed_at to i)
  aimed_said to (intent.Bye file birth peer peer_birth) h = h
  aimed_said to (intent.Seek file target) h = h
  aimed_said to (intent.Fill file birth target) h = h
  aimed_said to (intent.Patch dir entry target) h = h
  aimed_said to (intent.Confirm dir child target) h = h
  aimed_said to (intent.Leave file peer peer_birth) h = h

  pub all_aimed : (is : List Intent) (q : IntentKey) (to : ℕ) → AreIntended p is → AreIntended p (aimed is q to)
  all_aimed is q to all = all_changed (IsIntended p) (aimed_at to) q (λ held same was. aimed_said to held was) is all

  -- who is removed is asked no more
  turned_said : (is : List Intent) (q : IntentKey) (to : ℕ) → AreIntended p is → AreIntended p (turned is q to)
  turned_said is q to all =
      chosen (λ (js : List Intent). AreIntended p js) (is_for_peer q) (ended is q) (aimed is q to)
      (All-filter (λ i. not (has_key q i)) (IsIntended p) is all) (all_aimed is q to all)

  pub turns_said : (qs : List IntentKey) (is : List Intent) (to : ℕ) → AreIntended p is → AreIntended p (turned_each is qs to)
  turns_said [] is to all = all
  turns_said (q ∷ qs) is to all = turns_said qs (turned is q to) to (turned_said is q to all)

  abbrev Keeps : Store → Type 0
  Keeps b = IsSaidOf p b.names × AreIntended p b.intents

  begins : (b : Store) (i : Intent) (w : Work) → Keeps b → IsIntended p i → Keeps (begin_intent b i w).store
  begins b i w k here = (k.0, begun_said b.intents i k.1 here)

  -- what seeks is held
  held_thing : (a : Store) (file : FileId) (o : Option InodeValue) → known a.names file ≡ o → is_some o ≡ true → Keeps a → p.IsThing file
  held_thing a file None at held k = absurd (false≢true held)
  held_thing a file (Some x) at held k = (k.0.own file x.own (ap own_of at)).thing

  -- what is known of a thing, for a directory
  module _ (c : IsClosed p) where
    own_by : (b : Store) (slot : Slot) (o : Option Attributes) → own_at b.names slot.child ≡ o → Keeps b → IsSaidLeft p slot → IsSaidCell p slot.child (entry_for slot.child (or_blank slot.child o))
    own_by b slot None h k here = record {
      thing = here.thing;
      child = here.child;
      place = c.blank slot.child (c.other slot.child here.child) here.thing;
      flags = All-nil p.IsFlag;
      order = IsByServer-nil;
    }
    own_by b slot (Some own) h k here =
        let was = k.0.own slot.child own h in
        record { thing = was.thing; child = here.child; place = was.place; flags = was.flags; order = was.order }

    pub own_said : (b : Store) (slot : Slot) → Keeps b → IsSaidLeft p slot → IsSaidTold p slot.dir (own_entry b slot.child)
    own_said b slot k here = record { dir = here.dir; of = here.of; cell = own_by b slot (own_at b.names slot.child) refl k here }

    pub keeps_end : (a : Store) (w : Work) → Keeps a → AreLeft p c w.left → Keeps (begin_end a w).store
    keeps_end a w k left =
        intents_keep (idle a w) (λ (d : Done). Keeps d.store) (record {
          ends = λ h. (h.0, All-filter (still_stands a (files_to_fill a.names)) (IsIntended p) a.intents h.1);
          patches = λ d slot is h.
              begins d.store (patch_of d.store slot d.work) d.work h (own_said d.store slot h (All-contains (IsSaidLeft p) w.left slot left is.1));
          fills = λ d file none h. (
              let b = d.store in
              begins (with_fill_birth b file) (fill_of b file d.work) d.work (fill_born Keeps b file h (h.0, h.1) (h.0, h.1)) tt);
          seeks = λ d file is h. (
              let held = (and_parts (is_held a file) _ is.1).0 in
              begins d.store (intent.Seek file (seek_target d.store file)) d.work h (held_thing a file (known a.names file) refl held k));
          aims_seek = λ d file h. (h.0, all_aimed d.store.intents (intent_key.Seek file) (seek_target d.store file) h.1);
          confirms = λ d slot is h. begins d.store (confirm_of d.store slot) d.work h tt;
        }) k
