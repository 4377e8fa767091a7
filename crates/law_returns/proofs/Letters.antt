-- Messages are mindful of dead directories, along every run.
use Rattle.std.proofs.Common.{ℕ, ◌≡◌, ◌≤◌, ◌&&◌, not, Bool, true, false, cond, List, [], ◌∷◌, Option, None, Some, All, refl, sym, ap, subst, ◌∙◌, inl, inr, ◌⊎◌}
use Rattle.std.specs.Prelude.{Contains}
use Rattle.std.proofs.lemmas.Bool.{false≢true, or_left, or_right}
use Rattle.std.proofs.lemmas.List.Elements.{All-append, All-contains_itself, All-nil, All-weaker}
use Rattle.std.proofs.lemmas.Option.{none-some, same_Some}
use Rattle.pg_run.specs.pg_base.declared.id.FileId.{FileId}
use Rattle.pg_run.specs.pg_content.Content.{Among}
use Rattle.pg_run.specs.pg_entries.declared.cell.Cell.{Cell}
use Rattle.pg_run.specs.pg_entries.declared.entry.Entry.{Entry}
use Rattle.pg_run.specs.pg_entries.Entry.{is_listed}
use Rattle.pg_run.specs.pg_event.declared.event.Event.{Event}
use Rattle.pg_run.proofs.theory_flood.Flood.{after_itself}
use Rattle.pg_run.specs.pg_intent.declared.intent.Intent.{Intent}
use Rattle.pg_run.specs.pg_intent.declared.key.IntentKey.{IntentKey}
use Rattle.pg_run.specs.pg_intent.declared.key.IntentKey.TheVariants as intent_key
use Rattle.pg_run.specs.pg_intent.Intent.{key_of}
use Rattle.pg_run.specs.pg_intent.Intents.{has_key, intent_at, stands}
use Rattle.pg_run.proofs.pg_intent.SameKey.{is_same_key-refl}
use Rattle.pg_run.specs.pg_msg.declared.message.Ends.{Ends}
use Rattle.pg_run.specs.pg_msg.declared.message.Granted.{Granted}
use Rattle.pg_run.specs.pg_msg.declared.message.Message.{Message}
use Rattle.pg_run.specs.pg_msg.declared.message.Message.TheVariants as message
use Rattle.pg_run.specs.pg_msg.declared.message.Sent.{Sent}
use Rattle.pg_run.specs.pg_names.declared.attributes.Attributes.{Attributes}
use Rattle.pg_run.specs.pg_names.Names.{cell_at, is_dir}
use Rattle.pg_run.specs.pg_register.declared.place.Place.{Place}
use Rattle.pg_run.specs.pg_register.Place.{blank_place}
use Rattle.pg_run.specs.pg_replica.declared.replica.Replica.{Replica}
use Rattle.pg_run.specs.pg_store.declared.store.Store.{Store}
use Rattle.pg_run.specs.pg_repair.Fetching.{granted_from, place_to_grant}
use Rattle.pg_run.specs.pg_intentions.Intending.{pieces}
use Rattle.pg_run.specs.pg_intentions.Requests.{asks}
use Rattle.pg_run.specs.pg_server.declared.input.Input.{Input}
use Rattle.pg_run.specs.pg_server.Local.{effect, first_effect}
use Rattle.pg_run.specs.theory_flood_pieces.Whole.{IsWhole}
use Rattle.pg_run.specs.Intending.{ConfirmsStand, IntendsInOrder}
use Rattle.pg_run.specs.Journal.{mail}
use Rattle.pg_run.specs.Births.{StaysOrGoes}
use Rattle.pg_run.specs.Known.{WasMade}
use Rattle.pg_run.specs.Laws.{AtEach, TakesIn}
use Rattle.pg_run.specs.Run.{World, next, run, start, world_after}
use Rattle.pg_run.specs.Views.{IsInView}
use Rattle.pg_run.proofs.Lists.{contained_among}
use Rattle.law_full.proofs.Acting.{next_by, runs_keep}
use Rattle.law_full.proofs.Filling.{AckedIn, GrowIn, MoveIn}
use Rattle.law_full.proofs.Sends.{effect_sends}
use Rattle.law_full.proofs.Told.{all_cells, asks_are}
use Rattle.law_full.proofs.Works.{is_plain}
use Rattle.law_returns.specs.Gate.{EdgesAreKept, IsMindful, MessagesAreMindful}

-- ---- a world that a run comes to

-- no replica goes and begins again in an event
abbrev pub StayIn : ℕ → World → Type 0
StayIn n w = (event : Event) (s : ℕ) (asked : Input) → TakesIn n w event s asked
    → let a = w.stores s in StaysOrGoes a (first_effect a asked).store × StaysOrGoes a (effect a asked).store

-- what was made is past
abbrev pub IsPastIn : World → Type 0
IsPastIn w = (f : FileId) (p : Place) → WasMade w.journal f p → p.stamp.time ≤ (w.stores p.stamp.server).names.last

pub record StandsOn (n : ℕ) (w : World) : Type 0 where
  pub acked : AckedIn n w
  pub grow : GrowIn n w
  pub move : MoveIn n w
  pub stay : StayIn n w
  pub made : IsPastIn w
  pub whole : (s : ℕ) → IsWhole n s (w.stores s)
  pub intends : AtEach n (λ s. IntendsInOrder (w.stores s))
  pub views : AtEach n (λ s. IsInView w s (w.stores s))

pub stands_run : (n : ℕ) → EdgesAreKept n → (events : List Event) → StandsOn n (run n events)
stands_run n edges events = record {
  acked = edges.acknowledged events;
  grow = edges.grow events;
  move = edges.moves events;
  stay = edges.stay events;
  made = edges.made events;
  whole = edges.whole events;
  intends = edges.intentions events;
  views = edges.views events;
}

-- what is proved of it
pub record AreMindful (w : World) : Type 0 where
  pub said : All (λ (m : Sent). IsMindful m.packet.message) (mail w.journal)

-- ---- messages of other kinds say nothing

plain_mindful : (m : Message) → is_plain m ≡ true → IsMindful m
plain_mindful m plain = record {
  grant = λ ends g same dir. absurd (false≢true (sym (ap is_plain same) ∙ plain));
  confirm = λ dir e same. absurd (false≢true (sym (ap is_plain same) ∙ plain));
}

no_grant : (p q : Ends) (tag : ℕ) (c : Cell) (g : Granted) → message.Cell p tag c ≡ message.Grant q g → ⊥
no_grant p q tag c g h = cc

no_confirm : (p : Ends) (tag : ℕ) (c : Cell) (d : FileId) (e : Entry) → message.Cell p tag c ≡ message.Confirm d e → ⊥
no_confirm p tag c d e h = cc

cell_mindful : (ends : Ends) (tag : ℕ) (c : Cell) → IsMindful (message.Cell ends tag c)
cell_mindful ends tag c = record { grant = λ p g same. absurd (no_grant ends p tag c g same); confirm = λ d e same. absurd (no_confirm ends tag c d e same) }

full_grant : (p q : Ends) (g : Granted) → message.Full p ≡ message.Grant q g → ⊥
full_grant p q g h = cc

full_confirm : (p : Ends) (d : FileId) (e : Entry) → message.Full p ≡ message.Confirm d e → ⊥
full_confirm p d e h = cc

full_mindful : (ends : Ends) → IsMindful (message.Full ends)
full_mindful ends = record { grant = λ p g same. absurd (full_grant ends p g same); confirm = λ d e same. absurd (full_confirm ends d e same) }

-- ---- what is granted

same_grant_ends : (p q : Ends) (g h : Granted) → message.Grant p g ≡ message.Grant q h → p ≡ q
same_grant_ends p q g h e = cc

same_granted : (p q : Ends) (g h : Granted) → message.Grant p g ≡ message.Grant q h → g ≡ h
same_granted p q g h e = cc

grant_confirm : (p : Ends) (g : Granted) (d : FileId) (e : Entry) → message.Grant p g ≡ message.Confirm d e → ⊥
grant_confirm p g d e h = cc

live_by : (b l : Bool) → b ≡ true → (b && not l) ≡ false → l ≡ true
live_by true true h k = refl
live_by true false h k = absurd (false≢true (sym k))
live_by false l h k = absurd (false≢true h)

abbrev LiveOrBlank : FileId → Place → Type 0
LiveOrBlank f p = (p.live ≡ true) ⊎ (p ≡ blank_place f)

granted_by : (f : FileId) (p : Place) (t : Bool) → is_dir f ≡ true → (is_dir f && not p.live) ≡ t → LiveOrBlank f (cond t (blank_place f) p)
granted_by f p true dir e = inr refl
granted_by f p false dir e = inl (live_by (is_dir f) p.live dir e)

granted_mindful : (ends : Ends) (own : Attributes) (x : Replica) → IsMindful (message.Grant ends (granted_from ends.file own x))
granted_mindful ends own x = record {
  grant = λ p g same dir.
      (let file : ends.file ≡ p.file = ap (λ (z : Ends). z.file) (same_grant_ends ends p (granted_from ends.file own x) g same) in
      let place : place_to_grant ends.file own.place ≡ g.place = ap (λ (z : Granted). z.place) (same_granted ends p (granted_from ends.file own x) g same) in
      let there : LiveOrBlank ends.file (place_to_grant ends.file own.place) = granted_by ends.file own.place (is_dir ends.file && not own.place.live) (ap is_dir file ∙ dir) refl in
      subst (λ (f : FileId). LiveOrBlank f g.place) file (subst (LiveOrBlank ends.file) place there));
  confirm = λ d e same. absurd (grant_confirm ends (granted_from ends.file own x) d e same);
}

-- ---- what is to be confirmed

confirm_grant : (d : FileId) (e : Entry) (q : Ends) (g : Granted) → message.Confirm d e ≡ message.Grant q g → ⊥
confirm_grant d e q g h = cc

same_confirm_dir : (d f : FileId) (e c : Entry) → message.Confirm d e ≡ message.Confirm f c → d ≡ f
same_confirm_dir d f e c h = cc

same_confirm_entry : (d f : FileId) (e c : Entry) → message.Confirm d e ≡ message.Confirm f c → e ≡ c
same_confirm_entry d f e c h = cc

listed_mindful : (d : FileId) (e : Entry) → is_listed d e ≡ true → IsMindful (message.Confirm d e)
listed_mindful d e listed = record {
  grant = λ q g same. absurd (confirm_grant d e q g same);
  confirm = λ f c same.
      subst (λ (x : FileId). is_listed x c ≡ true) (same_confirm_dir d f e c same) (subst (λ (x : Entry). is_listed d x ≡ true) (same_confirm_entry d f e c same) listed);
}

-- an intention that is there stands
stands_of : (is : List Intent) (i : Intent) → Among i is → stands is (key_of i) ≡ true
stands_of [] i k = absurd k
stands_of (x ∷ xs) i (inl same) =
    or_left (has_key (key_of i) x) (stands xs (key_of i)) (ap (λ (y : Intent). has_key (key_of i) y) (sym same) ∙ is_same_key-refl (key_of i))
stands_of (x ∷ xs) i (inr later) = or_right (has_key (key_of i) x) (stands xs (key_of i)) (stands_of xs i later)

found_by : (k : IntentKey) (x : Intent) (xs : List Intent) (i : Intent) (t : Bool) → has_key k x ≡ t → cond t (Some x) (intent_at xs k) ≡ Some i
    → (intent_at xs k ≡ Some i → Among i xs) → Among i (x ∷ xs)
found_by k x xs i true e h later = inl (sym (same_Some x i h))
found_by k x xs i false e h later = inr (later h)

found_among : (k : IntentKey) (is : List Intent) (i : Intent) → intent_at is k ≡ Some i → Among i is
found_among k [] i h = absurd (none-some i h)
found_among k (x ∷ xs) i h = found_by k x xs i (has_key k x) refl h (found_among k xs i)

listed_cell : (d c : FileId) (e : Entry) (a : Store) → ConfirmsStand a → stands a.intents (intent_key.Confirm d c) ≡ true → cell_at a.names d c ≡ Some e → is_listed d e ≡ true
listed_cell d c e a confirms there is =
    let k = confirms d c there in
    subst (λ (x : Entry). is_listed d x ≡ true) (same_Some k.0 e (sym k.1 ∙ is)) k.2

-- ---- what is sent

abbrev Says : Sent → Type 0
Says m = IsMindful m.packet.message

plain_says : (x : Sent) → is_plain x.packet.message ≡ true → Says x
plain_says x plain = plain_mindful x.packet.message plain

asked_mindful : (a : Store) → ConfirmsStand a → (i : Intent) → Among i a.intents → All Says (asks a i)
asked_mindful a confirms i among =
    asks_are Says plain_says a i
    (λ d c target e is there to. listed_mindful d e (listed_cell d c e a confirms (ap (stands a.intents) (sym (ap key_of is)) ∙ stands_of a.intents i among) there))

begun_mindful : (a : Store) → ConfirmsStand a → (q : IntentKey) (o : Option Intent) → intent_at a.intents q ≡ o → All Says (pieces (asks a) o)
begun_mindful a confirms q None h = All-nil Says
begun_mindful a confirms q (Some i) h = asked_mindful a confirms i (found_among q a.intents i h)

-- AN EVENT
sent_mindful : (a : Store) (asked : Input) → ConfirmsStand a → ConfirmsStand (effect a asked).store → All Says (effect a asked).out.sent
sent_mindful a asked before behind =
    let e = (effect a asked).store in
    effect_sends Says a asked (record {
      plain = plain_says;
      replies = λ packet is. record {
        granted = λ b to ends own x. granted_mindful ends own x;
        full = λ file birth fetched holds clean. full_mindful _;
      };
      cells_before = λ wanted. all_cells Says plain_says a (λ ends x c tag. cell_mindful ends tag c) wanted;
      cells_behind = λ wanted. all_cells Says plain_says e (λ ends x c tag. cell_mindful ends tag c) wanted;
      asked_before = All-weaker (Contains a.intents) (λ (i : Intent). All Says (asks a i)) (λ i there. asked_mindful a before i (contained_among a.intents i there)) a.intents (All-contains_itself a.intents);
      asked_behind = λ q. begun_mindful e behind q (intent_at e.intents q) refl;
    })

mindful_next : (n : ℕ) (w : World) (e : Event) → StandsOn n w → StandsOn n (world_after w (next n w e)) → AreMindful w → AreMindful (world_after w (next n w e))
mindful_next n w e stands then k =
    next_by n w (λ (v : World). StandsOn n v → AreMindful v) (record {
      still = λ event cause after. record { said = k.said };
      acted = λ event s asked least most takes asks after.
          (let a = w.stores s in
          let end = (effect a asked).store in
          record {
            said = All-append Says (effect a asked).out.sent (mail w.journal)
                (sent_mindful a asked (stands.intends s least most).confirms
                (subst ConfirmsStand (after_itself w.stores s end) (after.intends s least most).confirms)) k.said;
          });
    }) e then

pub mindful_run : (n : ℕ) → EdgesAreKept n → (events : List Event) → AreMindful (run n events)
mindful_run n edges events =
    runs_keep n (StandsOn n) AreMindful (mindful_next n) (start n) events (stands_run n edges) (record { said = All-nil Says })

pub messages_are_mindful : (n : ℕ) → EdgesAreKept n → MessagesAreMindful n
messages_are_mindful n edges events = (mindful_run n edges events).said
