-- Intentions that fit: of a Patch the entry is one that a directory may have, directories are named where there are children,
-- and whoever is asked is a server.
use Rattle.std.proofs.Common.{ℕ, ◌≡◌, Bool, true, false, cond, List, [], ◌∷◌, ◌++◌, Some, All, sym, subst, refl}
use Rattle.std.specs.List.{filter}
use Rattle.std.proofs.lemmas.Bool.{and_parts}
use Rattle.std.proofs.lemmas.List.Elements.{All-cons, All-filter, All-head, All-push, All-tail}
use Rattle.std.proofs.lemmas.Option.{none-some, same_Some}
use Rattle.pg_base.specs.declared.id.FileId.{FileId}
use Rattle.pg_base.specs.Id.{is_same_file}
use Rattle.pg_base.proofs.Orders.{is_same_file-true}
use Rattle.pg_entries.specs.declared.entry.Entry.{Entry}
use Rattle.pg_entries.specs.Entry.{joined}
use Rattle.pg_server.specs.pg_pieces.pg_intent.declared.intent.Intent.{Intent}
use Rattle.pg_server.specs.pg_pieces.pg_intent.declared.intent.Intent.TheVariants as intent
use Rattle.pg_server.specs.pg_pieces.pg_intent.declared.key.IntentKey.{IntentKey}
use Rattle.pg_server.specs.pg_pieces.pg_intent.Intent.{aimed_at, key_of, rejoined}
use Rattle.pg_server.specs.pg_pieces.pg_intent.Intents.{aimed, begun, changed, ended, has_key, intent_at, stands, turned, turned_each}
use Rattle.pg_server.specs.pg_pieces.pg_intent.Key.{is_for_peer}
use Rattle.pg_server.proofs.pg_pieces.pg_house.Truths.{chosen}
use Rattle.law_spelled.specs.Stores.{FitsIntent, FitsListed, FitsPlace, MayBeServer}
use Rattle.law_spelled.proofs.Flags.{many_more}
use Rattle.law_spelled.proofs.Places.{newer_fits}

abbrev pub FitIntents : List Intent → Type 0
FitIntents is = All FitsIntent is

-- ---- some end

pub kept_fit : (p : Intent → Bool) (is : List Intent) → FitIntents is → FitIntents (filter p is)
kept_fit p is h = All-filter p FitsIntent is h

pub ended_fit : (is : List Intent) (k : IntentKey) → FitIntents is → FitIntents (ended is k)
ended_fit is k h = kept_fit _ is h

-- ---- the one with a key changes

changed_at : (f : Intent → Intent) (k : IntentKey) (i : Intent) (is : List Intent) (t : Bool) → has_key k i ≡ t
    → (has_key k i ≡ true → FitsIntent i → FitsIntent (f i)) → FitIntents (i ∷ is) → FitIntents (changed f is k)
    → FitIntents (cond t (f i ∷ is) (i ∷ changed f is k))
changed_at f k i is true e each h rest =
    All-cons FitsIntent (f i) is (each e (All-head FitsIntent i is h)) (All-tail FitsIntent i is h)
changed_at f k i is false e each h rest = All-cons FitsIntent i (changed f is k) (All-head FitsIntent i is h) rest

changed_fit : (f : Intent → Intent) (k : IntentKey) → ((i : Intent) → has_key k i ≡ true → FitsIntent i → FitsIntent (f i))
    → (is : List Intent) → FitIntents is → FitIntents (changed f is k)
changed_fit f k each [] h = h
changed_fit f k each (i ∷ is) h =
    changed_at f k i is (has_key k i) refl (each i) h (changed_fit f k each is (All-tail FitsIntent i is h))

aimed_one : (to : ℕ) (i : Intent) → MayBeServer to → FitsIntent i → FitsIntent (aimed_at to i)
aimed_one to (intent.Bye file birth peer peer_birth) k h = h
aimed_one to (intent.Seek file target) k h = record { about = h.about; target = k }
aimed_one to (intent.Fill file birth target) k h = record { about = h.about; target = k }
aimed_one to (intent.Patch dir entry target) k h = record { about = h.about; target = k }
aimed_one to (intent.Confirm dir child target) k h = record { about = h.about; target = k }
aimed_one to (intent.Leave file peer peer_birth) k h = h

pub aimed_fit : (is : List Intent) (k : IntentKey) (to : ℕ) → MayBeServer to → FitIntents is → FitIntents (aimed is k to)
aimed_fit is k to may h = changed_fit (aimed_at to) k (λ i e s. aimed_one to i may s) is h

-- ---- a server is removed

turned_fit : (is : List Intent) (k : IntentKey) (to : ℕ) → MayBeServer to → FitIntents is → FitIntents (turned is k to)
turned_fit is k to may h = chosen FitIntents (is_for_peer k) (ended is k) (aimed is k to) (ended_fit is k h) (aimed_fit is k to may h)

pub turned_all : (ks : List IntentKey) (is : List Intent) (to : ℕ) → MayBeServer to → FitIntents is → FitIntents (turned_each is ks to)
turned_all [] is to may h = h
turned_all (k ∷ ks) is to may h = turned_all ks (turned is k to) to may (turned_fit is k to may h)

-- ---- one begins, or begins again

joined_fits : (a b : Entry) → a.child ≡ b.child → FitsListed a.child a → FitsListed b.child b → FitsListed a.child (joined a b)
joined_fits a b same h k = record {
  child = refl;
  place = newer_fits a.child a.place b.place h.place (subst (λ (c : FileId). FitsPlace c b.place) (sym same) k.place);
  flags = many_more a.flags b.flags k.flags.each h.flags;
}

again : (held i : Intent) → has_key (key_of i) held ≡ true → FitsIntent held → FitsIntent i → FitsIntent (rejoined held i)
again (intent.Patch dir entry target) (intent.Patch d e t) same h k =
    let parts = and_parts (is_same_file d dir) (is_same_file e.child entry.child) same in
    record {
      about = (h.about.0, joined_fits entry e (sym (is_same_file-true e.child entry.child parts.1)) h.about.1 k.about.1);
      target = h.target;
    }
again held i same h k = h

pub begun_fit : (is : List Intent) (i : Intent) → FitIntents is → FitsIntent i → FitIntents (begun is i)
begun_fit is i h k =
    chosen FitIntents (stands is (key_of i)) (changed (λ held. rejoined held i) is (key_of i)) (is ++ i ∷ [])
    (changed_fit (λ held. rejoined held i) (key_of i) (λ held e s. again held i e s k) is h) (All-push FitsIntent is i h k)

-- ---- the one with a key

found_at : (k : IntentKey) (i : Intent) (is : List Intent) (j : Intent) (t : Bool) → FitsIntent i → (intent_at is k ≡ Some j → FitsIntent j)
    → cond t (Some i) (intent_at is k) ≡ Some j → FitsIntent j
found_at k i is j true here rest e = subst FitsIntent (same_Some i j e) here
found_at k i is j false here rest e = rest e

pub found_fits : (is : List Intent) (k : IntentKey) (j : Intent) → FitIntents is → intent_at is k ≡ Some j → FitsIntent j
found_fits [] k j h e = absurd (none-some j e)
found_fits (i ∷ is) k j h e =
    found_at k i is j (has_key k i) (All-head FitsIntent i is h) (found_fits is k j (All-tail FitsIntent i is h)) e
