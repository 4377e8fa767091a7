-- Intentions that suit: of a Patch the entry is one that a directory may have, and directories are
-- named where there are children.
use Rattle.std.proofs.Common.{ℕ, ◌≡◌, Bool, true, false, cond, List, [], ◌∷◌, ◌++◌, Some, All, refl, sym, subst}
use Rattle.std.specs.List.{filter}
use Rattle.std.proofs.lemmas.Bool.{and_parts}
use Rattle.std.proofs.lemmas.List.Elements.{All-cons, All-head, All-push, All-tail}
use Rattle.std.proofs.lemmas.Option.{none-some, same_Some}
use Rattle.law_frame.specs.pg_run.pg_base.declared.id.FileId.{FileId}
use Rattle.law_frame.specs.pg_run.pg_base.declared.id.Kind.TheVariants.{Dir}
use Rattle.law_frame.specs.pg_run.pg_base.Id.{is_same_file}
use Rattle.law_frame.proofs.pg_run.pg_base.Orders.{is_same_file-true}
use Rattle.law_frame.specs.pg_run.pg_entries.declared.entry.Entry.{Entry}
use Rattle.law_frame.specs.pg_run.pg_entries.Entry.{joined}
use Rattle.law_frame.specs.pg_run.pg_intent.declared.intent.Intent.{Intent}
use Rattle.law_frame.specs.pg_run.pg_intent.declared.intent.Intent.TheVariants as intent
use Rattle.law_frame.specs.pg_run.pg_intent.declared.key.IntentKey.{IntentKey}
use Rattle.law_frame.specs.pg_run.pg_intent.Intent.{aimed_at, key_of, rejoined}
use Rattle.law_frame.specs.pg_run.pg_intent.Intents.{aimed, begun, changed, ended, has_key, intent_at, stands}
use Rattle.law_frame.proofs.pg_run.pg_house.Truths.{chosen}
use Rattle.law_printable.proofs.Places.{IsThingPlace, SuitsEntry, newer_thing}

abbrev pub SuitsIntent : Intent → Type 0
SuitsIntent (intent.Bye file birth peer peer_birth) = Unit {0}
SuitsIntent (intent.Seek file target) = Unit {0}
SuitsIntent (intent.Fill file birth target) = Unit {0}
SuitsIntent (intent.Patch dir entry target) = (dir.kind ≡ Dir) × SuitsEntry entry.child entry
SuitsIntent (intent.Confirm dir child target) = dir.kind ≡ Dir
SuitsIntent (intent.Leave file peer peer_birth) = Unit {0}

abbrev pub AllIntents : List Intent → Type 0
AllIntents is = All SuitsIntent is

-- ---- some end

kept_at : (p : Intent → Bool) (i : Intent) (is : List Intent) (t : Bool) → SuitsIntent i → AllIntents (filter p is)
    → AllIntents (cond t (i ∷ filter p is) (filter p is))
kept_at p i is true here rest = All-cons SuitsIntent i (filter p is) here rest
kept_at p i is false here rest = rest

pub kept_suit : (p : Intent → Bool) (is : List Intent) → AllIntents is → AllIntents (filter p is)
kept_suit p [] h = h
kept_suit p (i ∷ is) h = kept_at p i is (p i) (All-head SuitsIntent i is h) (kept_suit p is (All-tail SuitsIntent i is h))

pub ended_suit : (is : List Intent) (k : IntentKey) → AllIntents is → AllIntents (ended is k)
ended_suit is k h = kept_suit _ is h

-- ---- the one with a key changes

changed_at : (f : Intent → Intent) (k : IntentKey) (i : Intent) (is : List Intent) (t : Bool) → has_key k i ≡ t
    → (has_key k i ≡ true → SuitsIntent i → SuitsIntent (f i)) → AllIntents (i ∷ is) → AllIntents (changed f is k)
    → AllIntents (cond t (f i ∷ is) (i ∷ changed f is k))
changed_at f k i is true e each h rest =
    All-cons SuitsIntent (f i) is (each e (All-head SuitsIntent i is h)) (All-tail SuitsIntent i is h)
changed_at f k i is false e each h rest = All-cons SuitsIntent i (changed f is k) (All-head SuitsIntent i is h) rest

changed_suit : (f : Intent → Intent) (k : IntentKey) → ((i : Intent) → has_key k i ≡ true → SuitsIntent i → SuitsIntent (f i))
    → (is : List Intent) → AllIntents is → AllIntents (changed f is k)
changed_suit f k each [] h = h
changed_suit f k each (i ∷ is) h =
    changed_at f k i is (has_key k i) refl (each i) h (changed_suit f k each is (All-tail SuitsIntent i is h))

aimed_one : (to : ℕ) (i : Intent) → SuitsIntent i → SuitsIntent (aimed_at to i)
aimed_one to (intent.Bye file birth peer peer_birth) h = h
aimed_one to (intent.Seek file target) h = h
aimed_one to (intent.Fill file birth target) h = h
aimed_one to (intent.Patch dir entry target) h = h
aimed_one to (intent.Confirm dir child target) h = h
aimed_one to (intent.Leave file peer peer_birth) h = h

pub aimed_suit : (is : List Intent) (k : IntentKey) (to : ℕ) → AllIntents is → AllIntents (aimed is k to)
aimed_suit is k to h = changed_suit (aimed_at to) k (λ i e s. aimed_one to i s) is h

-- ---- one begins, or begins again

joined_suits : (a b : Entry) → a.child ≡ b.child → SuitsEntry a.child a → SuitsEntry b.child b → SuitsEntry a.child (joined a b)
joined_suits a b same h k = record {
  child = refl;
  inner = h.inner;
  place = newer_thing a.child a.place b.place h.place (subst (λ (c : FileId). IsThingPlace c b.place) (sym same) k.place);
}

again : (held i : Intent) → has_key (key_of i) held ≡ true → SuitsIntent held → SuitsIntent i → SuitsIntent (rejoined held i)
again (intent.Patch dir entry target) (intent.Patch d e t) same h k =
    let parts = and_parts (is_same_file d dir) (is_same_file e.child entry.child) same in
    (h.0, joined_suits entry e (sym (is_same_file-true e.child entry.child parts.1)) h.1 k.1)
again held i same h k = h

pub begun_suit : (is : List Intent) (i : Intent) → AllIntents is → SuitsIntent i → AllIntents (begun is i)
begun_suit is i h k =
    chosen AllIntents (stands is (key_of i)) (changed (λ held. rejoined held i) is (key_of i)) (is ++ i ∷ [])
    (changed_suit (λ held. rejoined held i) (key_of i) (λ held e s. again held i e s k) is h) (All-push SuitsIntent is i h k)

-- ---- the one with a key

found_at : (k : IntentKey) (i : Intent) (is : List Intent) (j : Intent) (t : Bool) → SuitsIntent i → (intent_at is k ≡ Some j → SuitsIntent j)
    → cond t (Some i) (intent_at is k) ≡ Some j → SuitsIntent j
found_at k i is j true here rest e = subst SuitsIntent (same_Some i j e) here
found_at k i is j false here rest e = rest e

pub found_suits : (is : List Intent) (k : IntentKey) (j : Intent) → AllIntents is → intent_at is k ≡ Some j → SuitsIntent j
found_suits [] k j h e = absurd (none-some j e)
found_suits (i ∷ is) k j h e =
    found_at k i is j (has_key k i) (All-head SuitsIntent i is h) (found_suits is k j (All-tail SuitsIntent i is h)) e
