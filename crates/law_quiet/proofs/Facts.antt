-- What is known of a quiet world whose things are connected: each server, and that servers which
-- hold a thing hold the same of it.
use Rattle.std.proofs.Common.{ℕ, ◌≡◌, Bool, true, false, List, [], Option, None, Some, is_some, refl, sym, ap, subst, ◌∙◌, inl, inr}
use Rattle.std.proofs.lemmas.Bool.{false≢true}
use Rattle.pg_run.specs.pg_base.declared.id.FileId.{FileId}
use Rattle.pg_run.specs.pg_base.Id.{is_same_file}
use Rattle.pg_run.specs.pg_event.declared.event.Event.{Event}
use Rattle.pg_run.specs.pg_intent.declared.key.IntentKey.{IntentKey}
use Rattle.pg_run.specs.pg_intent.Intents.{stands}
use Rattle.pg_run.specs.pg_names.declared.attributes.Attributes.{Attributes}
use Rattle.pg_run.specs.pg_names.Names.{InodeValue, NamesValue, is_full_of, known, own_at, own_of}
use Rattle.pg_run.specs.pg_register.Place.{root}
use Rattle.pg_run.specs.pg_replica.declared.replica.Replica.{Replica}
use Rattle.pg_run.specs.pg_store.declared.store.Store.{Store}
use Rattle.pg_run.specs.pg_store.Store.{is_full, replica_at}
use Rattle.pg_run.specs.theory_flood_pieces.Whole.{IsWhole}
use Rattle.pg_run.specs.Graphs.{AreConnected, Holds}
use Rattle.pg_run.specs.Intending.{IntendsInOrder}
use Rattle.pg_run.specs.Laws.{AtLive, IsInOrder}
use Rattle.pg_run.specs.Quiet.{IsQuiet}
use Rattle.pg_run.specs.Run.{World, is_live, run}
use Rattle.pg_run.proofs.Frame.{live_is}
use Rattle.pg_run.specs.pg_intent.declared.key.IntentKey.TheVariants as intent_key
use Rattle.law_quiet.specs.Given.{AreNamedWell, ArePlaced, TreeIsGiven}
use Rattle.law_quiet.specs.Laws.{HoldTheSame}
use Rattle.law_quiet.proofs.Across.{nothing_intended}
use Rattle.law_quiet.proofs.Agreement.{joined_same, own_by}

pub record Facts (n : ℕ) (w : World) : Type 0 where
  pub quiet : IsQuiet n w
  pub order : AtLive n w (λ s. IsInOrder (w.stores s).names)
  pub intends : AtLive n w (λ s. IntendsInOrder (w.stores s))
  pub named : AtLive n w (λ s. AreNamedWell (w.stores s).names)
  pub placed : AtLive n w (λ s. ArePlaced (w.stores s))
  pub whole : AtLive n w (λ s. IsWhole n s (w.stores s))
  pub agreed : (file : FileId) → AtLive n w (λ s. AtLive n w (λ t. Holds w file s → Holds w file t
      → HoldTheSame (w.stores s) (w.stores t) file))

-- ---- in every run

itself : (w : World) (file : FileId) (s t : ℕ) → s ≡ t → HoldTheSame (w.stores s) (w.stores t) file
itself w file s t e =
    let P : ℕ → Type 0 = λ i. HoldTheSame (w.stores s) (w.stores i) file in
    subst P e (record { own = refl; entries = λ child. refl; content = refl })

pub facts_of : (n : ℕ) → TreeIsGiven n → (events : List Event) → IsQuiet n (run n events) → AreConnected n (run n events) → Facts n (run n events)
facts_of n g events quiet connected =
    let w = run n events in
    record {
      quiet = quiet;
      order = λ s live. (let i = live_is n w s live in g.order events s i.least i.most);
      intends = λ s live. (let i = live_is n w s live in g.intends events s i.least i.most);
      named = λ s live. (let i = live_is n w s live in g.names events s i.least i.most);
      placed = λ s live. (let i = live_is n w s live in g.placed events s i.least i.most);
      whole = λ s live. (let i = live_is n w s live in g.agree.whole events s i.least i.most);
      agreed = λ file s ls t lt a b. elim (connected file s t ls lt a b) [
        | inl same ↦ itself w file s t same
        | inr joined ↦ joined_same n g.agree events quiet file s t ls lt joined
      ];
    }

-- ---- what is held

-- what names hold has a replica
replica_by : (a : Store) (file : FileId) (own : Attributes) (o : Option Replica) → replica_at a file ≡ o → is_some o ≡ true
    → (x : Replica) × (replica_at a file ≡ Some x)
replica_by a file own None e h = absurd (false≢true h)
replica_by a file own (Some x) e h = (x, e)

held_by : (o : Option InodeValue) (own : Attributes) → own_of o ≡ Some own → is_some o ≡ true
held_by None own h = absurd (let z : None ≡ Some own = h in cc)
held_by (Some x) own h = refl

pub holds_of : (n s : ℕ) (w : World) (file : FileId) (own : Attributes) → IsWhole n s (w.stores s) → own_at (w.stores s).names file ≡ Some own
    → Holds w file s
holds_of n s w file own whole held =
    let a = w.stores s in
    let x = replica_by a file own (replica_at a file) refl (whole.together file ∙ held_by (known a.names file) own held) in
    record { replica = x.0; is = x.1 }

-- what is held has a place
pub own_held : (names : NamesValue) (file : FileId) → is_some (known names file) ≡ true → (own : Attributes) × (own_at names file ≡ Some own)
own_held names file h = let x = own_by (known names file) h in (x.0.own, ap own_of x.1)

module _ (n : ℕ) (w : World) (k : Facts n w) (s : ℕ) (live : is_live n w s ≡ true) where
  abbrev A : Store
  A = w.stores s

  pub no_intents : A.intents ≡ []
  no_intents = nothing_intended A (k.quiet.nothing s live)

  -- no intention stands
  pub none_stands : (key : IntentKey) → stands A.intents key ≡ true → ⊥
  none_stands key h = false≢true (sym (ap (λ is. stands is key) no_intents) ∙ h)

  -- so the parent in a live place is held
  pub parent_held : (file : FileId) (own : Attributes) → own_at A.names file ≡ Some own → is_same_file file root ≡ false → own.place.live ≡ true
      → (above : Attributes) × (own_at A.names own.place.parent ≡ Some above)
  parent_held file own held apart alive = elim ((k.intends s live).contained file own held apart alive) [
    | inl there ↦ own_held A.names own.place.parent there
    | inr fills ↦ absurd (none_stands (intent_key.Fill own.place.parent) fills)
  ]

  -- and all that is held is full
  full_by : (file : FileId) (o : Option InodeValue) (own : Attributes) → known A.names file ≡ o → own_of o ≡ Some own → (t : Bool) → is_full_of o ≡ t → t ≡ true
  full_by file None own e h t f = absurd (let z : None ≡ Some own = h in cc)
  full_by file (Some x) own e h true f = refl
  full_by file (Some x) own e h false f =
      absurd (none_stands (intent_key.Fill file) (((k.intends s live).fills file).1 (inl (x, e, f))))

  pub all_full : (file : FileId) (own : Attributes) → own_at A.names file ≡ Some own → is_full A file ≡ true
  all_full file own held = full_by file (known A.names file) own refl held (is_full A file) refl
