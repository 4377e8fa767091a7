-- What fits in a state, and has the widths of its types, can be read: intentions, wishes and announced versions.
use Rattle.std.proofs.Common.{◌≡◌, ℕ, Bool, true, false, List, [], ◌∷◌, ◌++◌, map, Option, None, Some, Less, Equal, Greater, refl, ap, subst, ◌∙◌, arith}
use Rattle.std.specs.Prelude.{not, ◌||◌}
use Rattle.std.specs.List.{AllByRecursion, IsDistinct, list_any}
use Rattle.std.specs.List.Sorted.{IsStrictlySortedBy}
use Rattle.std.specs.Map.{keys_of}
use Rattle.std.specs.Ordering.{is_le, is_lt, ordering_then}
use Rattle.std.specs.declared.cmp.Ordering.{Ordering}
use Rattle.std.proofs.lemmas.Bool.{le-leb}
use Rattle.pg_announced.specs.Announced.{NotesValue, key_at, key_cmp}
use Rattle.pg_announced.specs.declared.announced.Announced.{Announced}
use Rattle.pg_announced.specs.declared.announced.NoteKey.{NoteKey}
use Rattle.pg_base.specs.Id.{file_cmp}
use Rattle.pg_base.specs.Stamp.{stamp_cmp}
use Rattle.pg_base.specs.declared.id.FileId.{FileId}
use Rattle.pg_base.specs.declared.stamp.Stamp.{Stamp}
use Rattle.pg_intent.specs.Intent.{key_of}
use Rattle.pg_intent.specs.Intents.{HaveOwnKeys, has_key}
use Rattle.pg_intent.specs.Key.{is_same_key}
use Rattle.pg_intent.specs.declared.intent.Intent.{Intent}
use Rattle.pg_intent.specs.declared.intent.Intent.TheVariants as intent
use Rattle.pg_intent.specs.declared.key.IntentKey.{IntentKey}
use Rattle.pg_intent.proofs.SameKey.{is_same_key-symm}
use Rattle.pg_packet_fields.specs.Lists.{Chain}
use Rattle.pg_state.specs.Fits.{FitIntents, FitNotes, FitWishes, FitsIntent, FitsNote, IsTarget}
use Rattle.pg_state_fields.specs.Contents.{is_ordinal}
use Rattle.pg_state_fields.specs.Flags.{own_of}
use Rattle.pg_state_fields.specs.Intents.{AreIntents, IsIntent, IsTargetNumber, is_fresh, with_intent}
use Rattle.pg_state_fields.specs.Orders.{is_behind, is_target}
use Rattle.pg_state_read.specs.Later.{AreNotes, AreWishes, IsNote, IsWish, is_from, to_noted, to_wished}
use Rattle.pg_store.specs.Wishes.{WishesValue}
use Rattle.pg_store.specs.declared.wishes.Wish.{Wish}
use Rattle.law_written.proofs.Lists.{known_are}
use Rattle.law_states.specs.Widths.{HasIntentWidth, HasNoteWidth, HasWishWidth}
use Rattle.law_states.proofs.Leaves.{own_is}

target_is : (n : ℕ) → IsTarget n → IsTargetNumber n
target_is n fits =
    let most = fits.most in
    let test : is_target n ≡ true = le-leb n 64 most in
    (omega (arith, most), test)

-- ---- intentions

step : (a x y : Bool) → (not x ≡ true → not y ≡ true) → not (a || x) ≡ true → not (a || y) ≡ true
step true x y more h = h
step false x y more h = more h

-- a key that none has stays so where one of another key begins
fresh_more : (done : List Intent) (i : Intent) (k : IntentKey) → is_same_key k (key_of i) ≡ false → is_fresh done k ≡ true → is_fresh (done ++ i ∷ []) k ≡ true
fresh_more [] i k apart fresh = rw apart refl
fresh_more (d ∷ done) i k apart fresh =
    step (has_key k d) (list_any (has_key k) done) (list_any (has_key k) (done ++ i ∷ [])) (λ h. fresh_more done i k apart h) fresh

abbrev AreFresh : List Intent → List Intent → Type 0
AreFresh done is = AllByRecursion (λ (i : Intent). is_fresh done (key_of i) ≡ true) is

still_fresh : (done : List Intent) (i : Intent) (is : List Intent) → AreFresh done is
    → AllByRecursion (λ y. is_same_key (key_of i) y ≡ false) (map key_of is) → AreFresh (done ++ i ∷ []) is
still_fresh done i [] fresh apart = tt
still_fresh done i (j ∷ is) fresh apart =
    (fresh_more done i (key_of j) (is_same_key-symm (key_of j) (key_of i) ∙ apart.0) fresh.0, still_fresh done i is fresh.1 apart.1)

none_yet : (is : List Intent) → AreFresh [] is
none_yet [] = tt
none_yet (i ∷ is) = (refl, none_yet is)

intent_is : (done : List Intent) (i : Intent) → is_fresh done (key_of i) ≡ true → FitsIntent i → HasIntentWidth i → IsIntent done i
intent_is done (intent.Bye file birth peer peer_birth) fresh fits widths = (widths.0, (widths.1.0, ((fits, fresh), widths.1.1)))
intent_is done (intent.Seek file target) fresh fits widths = ((widths, fresh), target_is target fits)
intent_is done (intent.Fill file birth target) fresh fits widths = ((widths.0, fresh), (widths.1, target_is target fits))
intent_is done (intent.Patch dir entry target) fresh fits widths =
    (fits.dir, ((widths.child, fresh), (own_is (own_of entry) fits.child.place fits.child.flags (record { name = widths.name; flags = widths.flags }), target_is target fits.target)))
intent_is done (intent.Confirm dir child target) fresh fits widths = (fits.dir, ((widths, fresh), target_is target fits.target))
intent_is done (intent.Leave file peer peer_birth) fresh fits widths = ((widths.0, fresh), (fits, widths.1))

intents_chain : (done is : List Intent) → AreFresh done is → HaveOwnKeys is → AllByRecursion FitsIntent is → AllByRecursion HasIntentWidth is
    → Chain IsIntent with_intent done is
unfolding IsDistinct
intents_chain done [] fresh own fits widths = tt
intents_chain done (i ∷ is) fresh own fits widths =
    (intent_is done i fresh.0 fits.0 widths.0, intents_chain (done ++ i ∷ []) is (still_fresh done i is fresh.1 own.0) own.1 fits.1 widths.1)

pub intents_are : (is : List Intent) → FitIntents is → AllByRecursion HasIntentWidth is → AreIntents is
intents_are is fits widths =
    let few = fits.few in record { count = omega (arith, few); chain = intents_chain [] is (none_yet is) fits.own_keys fits.each widths }

-- ---- wishes

abbrev FitsWish : FileId × Wish → Type 0
FitsWish w = IsTarget w.1.target

wish_is : (last : Option FileId) (w : FileId × Wish) → is_behind file_cmp last w.0 ≡ true → FitsWish w → HasWishWidth w → IsWish last w
wish_is last w behind fits widths = record { file = (widths.file, behind); birth = widths.birth; target = target_is w.1.target fits }

wishes_behind : (last : FileId) (ws : WishesValue) → IsStrictlySortedBy file_cmp (last ∷ keys_of ws) → AllByRecursion FitsWish ws → AllByRecursion HasWishWidth ws
    → Chain IsWish to_wished (Some last) ws
unfolding IsStrictlySortedBy
wishes_behind last [] sorted fits widths = tt
wishes_behind last (w ∷ ws) sorted fits widths = (wish_is (Some last) w (ap is_lt sorted.0.0) fits.0 widths.0, wishes_behind w.0 ws sorted.1 fits.1 widths.1)

wishes_chain : (ws : WishesValue) → IsStrictlySortedBy file_cmp (keys_of ws) → AllByRecursion FitsWish ws → AllByRecursion HasWishWidth ws → Chain IsWish to_wished None ws
wishes_chain [] sorted fits widths = tt
wishes_chain (w ∷ ws) sorted fits widths = (wish_is None w refl fits.0 widths.0, wishes_behind w.0 ws sorted fits.1 widths.1)

pub wishes_are : (ws : WishesValue) → FitWishes ws → AllByRecursion HasWishWidth ws → AreWishes ws
wishes_are ws fits widths = let few = fits.few in record { count = omega (arith, few); chain = wishes_chain ws fits.by_id fits.each widths }

-- ---- announced versions

note_is : (last : Option NoteKey) (n : NoteKey × Announced) → is_behind key_cmp last n.0 ≡ true → is_from last n.0.file ≡ true → FitsNote n → HasNoteWidth n → IsNote last n
note_is last n behind from fits widths =
    let short = fits.short in
    let ordinal : is_ordinal n.1.head.number ≡ true = le-leb 1 n.1.head.number fits.head.number in
    record {
      file = (widths.file, from);
      head = record {
        stamp = (widths.head.stamp, subst (λ (s : Stamp). is_behind key_cmp last (key_at n.0.file s) ≡ true) fits.stamp behind);
        birth = widths.head.birth;
        number = (widths.head.number, ordinal);
        vector = known_are n.1.head.vector fits.vector fits.head.vector;
        long = widths.head.long;
      };
      stamp = fits.stamp;
      source = target_is n.1.source fits.source;
      tag = widths.tag;
      bytes = record { short = omega (arith, short); width = widths.bytes };
    }

from_case : (o p : Ordering) → ordering_then o p ≡ Less → is_le o ≡ true
from_case Less p h = refl
from_case Equal p h = refl
from_case Greater p h = cc

-- a version behind another is of a file that is not before the other's
from_is : (a b : NoteKey) → key_cmp a b ≡ Less → is_from (Some a) b.file ≡ true
from_is a b less = from_case (file_cmp a.file b.file) (stamp_cmp a.stamp b.stamp) less

notes_behind : (last : NoteKey) (ns : NotesValue) → IsStrictlySortedBy key_cmp (last ∷ keys_of ns) → AllByRecursion FitsNote ns → AllByRecursion HasNoteWidth ns
    → Chain IsNote to_noted (Some last) ns
unfolding IsStrictlySortedBy
notes_behind last [] sorted fits widths = tt
notes_behind last (n ∷ ns) sorted fits widths =
    (note_is (Some last) n (ap is_lt sorted.0.0) (from_is last n.0 sorted.0.0) fits.0 widths.0, notes_behind n.0 ns sorted.1 fits.1 widths.1)

notes_chain : (ns : NotesValue) → IsStrictlySortedBy key_cmp (keys_of ns) → AllByRecursion FitsNote ns → AllByRecursion HasNoteWidth ns → Chain IsNote to_noted None ns
notes_chain [] sorted fits widths = tt
notes_chain (n ∷ ns) sorted fits widths = (note_is None n refl refl fits.0 widths.0, notes_behind n.0 ns sorted fits.1 widths.1)

pub notes_are : (ns : NotesValue) → FitNotes ns → AllByRecursion HasNoteWidth ns → AreNotes ns
notes_are ns fits widths = let few = fits.few in record { count = omega (arith, few); chain = notes_chain ns fits.by_version fits.each widths }
