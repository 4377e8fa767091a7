-- What can be read fits in a state: intentions, wishes and announced versions.
use Rattle.std.proofs.Common.{◌≡◌, ℕ, Bool, true, false, List, [], ◌∷◌, ◌++◌, map, Option, None, Some, refl, sym, ap, subst, ◌∙◌, arith}
use Rattle.std.specs.Prelude.{not, ◌||◌}
use Rattle.std.specs.List.{AllByRecursion, IsDistinct}
use Rattle.std.proofs.lemmas.Bool.{leb-true}
use Rattle.std.proofs.lemmas.List.Folds.{list_any-append}
use Rattle.pg_announced.specs.Announced.{NotesValue, key_at, key_cmp}
use Rattle.pg_announced.specs.declared.announced.Announced.{Announced}
use Rattle.pg_announced.specs.declared.announced.NoteKey.{NoteKey}
use Rattle.pg_announced.proofs.Keys.{key_total}
use Rattle.pg_base.specs.Id.{file_cmp}
use Rattle.pg_base.specs.declared.id.FileId.{FileId}
use Rattle.pg_base.specs.declared.stamp.Stamp.{Stamp}
use Rattle.pg_base.proofs.Orders.{file_total}
use Rattle.pg_intent.specs.Intent.{key_of}
use Rattle.pg_intent.specs.Intents.{HaveOwnKeys, has_key, stands}
use Rattle.pg_intent.specs.Key.{is_same_key}
use Rattle.pg_intent.specs.declared.intent.Intent.{Intent}
use Rattle.pg_intent.specs.declared.intent.Intent.TheVariants as intent
use Rattle.pg_intent.specs.declared.key.IntentKey.{IntentKey}
use Rattle.pg_intent.proofs.SameKey.{is_same_key-symm}
use Rattle.pg_packet_fields.specs.Lists.{Chain}
use Rattle.pg_packet_fields.proofs.Fitting.{fits_place, fits_vector}
use Rattle.pg_state.specs.Fits.{FitIntents, FitNotes, FitWishes, FitsIntent, FitsNote, IsTarget}
use Rattle.pg_state_fields.specs.Intents.{AreIntents, IsIntent, IsTargetNumber, is_fresh, with_intent}
use Rattle.pg_state_fields.specs.Orders.{is_behind}
use Rattle.pg_state_read.specs.Later.{AreNotes, AreWishes, IsNote, IsWish, to_noted, to_wished}
use Rattle.pg_store.specs.Wishes.{WishesValue}
use Rattle.pg_store.specs.declared.wishes.Wish.{Wish}
use Rattle.law_states.proofs.Fitting.{flags_fit, vector_is}
use Rattle.law_states.proofs.Ordered.{Rows, sorted}

target_fits : (n : ℕ) → IsTargetNumber n → IsTarget n
target_fits n is = record { most = leb-true n 64 is.1 }

-- ---- intentions

neither : (a b : Bool) → not (a || b) ≡ true → (a ≡ false) × (b ≡ false)
neither true b h = absurd (let k : false ≡ true = h in cc)
neither false true h = absurd (let k : false ≡ true = h in cc)
neither false false h = (refl, refl)

-- of one behind others: none of those has its key, and it has another than the last
parted : (done : List Intent) (i : Intent) (k : IntentKey) → is_fresh (done ++ i ∷ []) k ≡ true → (stands done k ≡ false) × ((has_key k i || false) ≡ false)
parted done i k fresh =
    let apart : not (stands done k || (has_key k i || false)) ≡ true = ap not (sym (list_any-append (has_key k) done (i ∷ []))) ∙ fresh in
    neither (stands done k) (has_key k i || false) apart

alone : (b : Bool) → (b || false) ≡ false → b ≡ false
alone true h = h
alone false h = h

-- whoever is fresh has another key than this intention
abbrev KeepsApart : Intent → List Intent → Type 0
KeepsApart i done = (k : IntentKey) → is_fresh done k ≡ true → is_same_key k (key_of i) ≡ false

keeps_last : (done : List Intent) (i : Intent) → KeepsApart i (done ++ i ∷ [])
keeps_last done i k fresh = alone (has_key k i) (parted done i k fresh).1

keeps_more : (done : List Intent) (i j : Intent) → KeepsApart i done → KeepsApart i (done ++ j ∷ [])
keeps_more done i j keeps k fresh = keeps k (ap not (parted done j k fresh).0)

fresh_of : (done : List Intent) (i : Intent) → IsIntent done i → is_fresh done (key_of i) ≡ true
fresh_of done (intent.Bye file birth peer peer_birth) is = is.1.1.0.1
fresh_of done (intent.Seek file target) is = is.0.1
fresh_of done (intent.Fill file birth target) is = is.0.1
fresh_of done (intent.Patch dir entry target) is = is.1.0.1
fresh_of done (intent.Confirm dir child target) is = is.1.0.1
fresh_of done (intent.Leave file peer peer_birth) is = is.0.1

apart_from : (i : Intent) (done is : List Intent) → KeepsApart i done → Chain IsIntent with_intent done is
    → AllByRecursion (λ y. is_same_key (key_of i) y ≡ false) (map key_of is)
apart_from i done [] keeps chain = tt
apart_from i done (j ∷ is) keeps chain = (
  is_same_key-symm (key_of i) (key_of j) ∙ keeps (key_of j) (fresh_of done j chain.0),
  apart_from i (done ++ j ∷ []) is (keeps_more done i j keeps) chain.1,
)

own_keys : (done is : List Intent) → Chain IsIntent with_intent done is → HaveOwnKeys is
unfolding IsDistinct
own_keys done [] chain = tt
own_keys done (i ∷ is) chain = (apart_from i (done ++ i ∷ []) is (keeps_last done i) chain.1, own_keys (done ++ i ∷ []) is chain.1)

intent_fits : (done : List Intent) (i : Intent) → IsIntent done i → FitsIntent i
intent_fits done (intent.Bye file birth peer peer_birth) is = is.1.1.0.0
intent_fits done (intent.Seek file target) is = target_fits target is.1
intent_fits done (intent.Fill file birth target) is = target_fits target is.1.1
intent_fits done (intent.Patch dir entry target) is = record {
  dir = is.0;
  child = record { place = fits_place entry.place is.1.1.0.place; flags = flags_fit entry.flags is.1.1.0.flags };
  target = target_fits target is.1.1.1;
}
intent_fits done (intent.Confirm dir child target) is = record { dir = is.0; target = target_fits target is.1.1 }
intent_fits done (intent.Leave file peer peer_birth) is = is.1.0

each_intent : (done is : List Intent) → Chain IsIntent with_intent done is → AllByRecursion FitsIntent is
each_intent done [] chain = tt
each_intent done (i ∷ is) chain = (intent_fits done i chain.0, each_intent (done ++ i ∷ []) is chain.1)

pub intents_fit : (is : List Intent) → AreIntents is → FitIntents is
intents_fit is are =
    let count = are.count in record { few = omega (arith, count); own_keys = own_keys [] is are.chain; each = each_intent [] is are.chain }

-- ---- wishes

abbrev wished : FileId × Wish → FileId
wished w = w.0

wishes_rows : (last : Option FileId) (ws : WishesValue) → Chain IsWish to_wished last ws → Rows file_cmp wished last ws
wishes_rows last [] chain = tt
wishes_rows last (w ∷ ws) chain = (chain.0.file.1, wishes_rows (Some w.0) ws chain.1)

each_wish : (last : Option FileId) (ws : WishesValue) → Chain IsWish to_wished last ws → AllByRecursion (λ (w : FileId × Wish). IsTarget w.1.target) ws
each_wish last [] chain = tt
each_wish last (w ∷ ws) chain = (target_fits w.1.target chain.0.target, each_wish (Some w.0) ws chain.1)

pub wishes_fit : (ws : WishesValue) → AreWishes ws → FitWishes ws
wishes_fit ws are =
    let count = are.count in
    record { few = omega (arith, count); by_id = sorted file_cmp file_total wished None ws (wishes_rows None ws are.chain); each = each_wish None ws are.chain }

-- ---- announced versions

abbrev noted : NoteKey × Announced → NoteKey
noted n = n.0

note_behind : (last : Option NoteKey) (n : NoteKey × Announced) → IsNote last n → is_behind key_cmp last n.0 ≡ true
note_behind last n is = subst (λ (s : Stamp). is_behind key_cmp last (key_at n.0.file s) ≡ true) (sym is.stamp) is.head.stamp.1

notes_rows : (last : Option NoteKey) (ns : NotesValue) → Chain IsNote to_noted last ns → Rows key_cmp noted last ns
notes_rows last [] chain = tt
notes_rows last (n ∷ ns) chain = (note_behind last n chain.0, notes_rows (Some n.0) ns chain.1)

note_fits : (last : Option NoteKey) (n : NoteKey × Announced) → IsNote last n → FitsNote n
note_fits last n is =
    let short = is.bytes.short in
    record {
      stamp = is.stamp;
      head = record { number = leb-true 1 n.1.head.number is.head.number.1; vector = fits_vector n.1.head.vector is.head.vector };
      vector = vector_is n.1.head.vector is.head.vector;
      source = target_fits n.1.source is.source;
      short = omega (arith, short);
    }

each_note : (last : Option NoteKey) (ns : NotesValue) → Chain IsNote to_noted last ns → AllByRecursion FitsNote ns
each_note last [] chain = tt
each_note last (n ∷ ns) chain = (note_fits last n chain.0, each_note (Some n.0) ns chain.1)

pub notes_fit : (ns : NotesValue) → AreNotes ns → FitNotes ns
notes_fit ns are =
    let count = are.count in
    record { few = omega (arith, count); by_version = sorted key_cmp key_total noted None ns (notes_rows None ns are.chain); each = each_note None ns are.chain }
