-- Each message that was ever sent has a letter, by what its sender held.
use Rattle.std.proofs.Common.{ℕ, ◌≡◌, Option, Some, List, [], ◌∷◌, ◌++◌, map, All, refl, sym, ap, subst, ◌∙◌, inl, inr}
use Rattle.std.proofs.lemmas.List.Elements.{All-append, All-weaker}
use Rattle.pg_run.specs.pg_base.declared.id.FileId.{FileId}
use Rattle.pg_run.specs.pg_base.declared.stamp.Stamp.{Stamp}
use Rattle.pg_run.specs.pg_content.Content.{Among as IsAmong}
use Rattle.pg_run.proofs.pg_content.Members.{all_among, among_all}
use Rattle.pg_run.specs.pg_event.declared.event.Event.{Event}
use Rattle.theory_listing.specs.World.{Among}
use Rattle.pg_run.specs.pg_msg.declared.message.Ends.{Ends}
use Rattle.pg_run.specs.pg_msg.declared.message.Message.TheVariants as message
use Rattle.pg_run.specs.pg_msg.declared.message.Sent.{Sent}
use Rattle.pg_run.specs.pg_names.declared.attributes.Attributes.{Attributes}
use Rattle.pg_run.specs.pg_names.Names.{or_blank, own_at}
use Rattle.pg_run.specs.pg_register.declared.place.Place.{Place}
use Rattle.pg_run.specs.pg_store.declared.store.Store.{Store}
use Rattle.pg_run.specs.Known.{IsPlaceOf}
use Rattle.pg_run.specs.Run.{Step, Taking, World, next, run, run_from, start, taking_in, world_after}
use Rattle.law_listings.specs.Laws.{HasLetter}
use Rattle.law_listings.specs.Letters.{Letter, letter, letters, letters_by, letters_from, place_of}
use Rattle.law_listings.proofs.Plain.{IsSentStamped, IsStamped}

-- ---- lists of letters

among_before : (x : Letter) (xs ys : List Letter) → Among x xs → Among x (xs ++ ys)
among_before x [] ys k = absurd k
among_before x (y ∷ xs) ys k = elim k [ inl same ↦ inl same | inr later ↦ inr (among_before x xs ys later) ]

among_behind : (x : Letter) (xs ys : List Letter) → Among x ys → Among x (xs ++ ys)
among_behind x [] ys k = k
among_behind x (y ∷ xs) ys k = inr (among_behind x xs ys k)

letter_by : (a : Store) (m : Sent) (xs : List Sent) → IsAmong m xs → Among (letter a m) (map (letter a) xs)
letter_by a m [] k = absurd k
letter_by a m (y ∷ ys) k = elim k [ inl same ↦ inl (ap (letter a) same) | inr later ↦ inr (letter_by a m ys later) ]

-- those of one event more
letters_more : (n : ℕ) (w : World) (ls : List Letter) (events : List Event) (event : Event)
    → letters_from n w ls (events ++ event ∷ []) ≡ letters_by (run_from n w events) (taking_in n (run_from n w events) event) ++ letters_from n w ls events
letters_more n w ls [] event = refl
letters_more n w ls (e ∷ events) event = letters_more n (world_after w (next n w e)) (letters_by w (taking_in n w e) ++ ls) events event

pub letters_then : (n : ℕ) (events : List Event) (event : Event) (o : Option Taking) → taking_in n (run n events) event ≡ o
    → letters n (events ++ event ∷ []) ≡ letters_by (run n events) o ++ letters n events
letters_then n events event o is =
    letters_more n (start n) [] events event ∙ ap (λ (t : Option Taking). letters_by (run n events) t ++ letters n events) is

-- ---- a step

module _ (w : World) (step : Step) where
  abbrev Next : World
  Next = world_after w step

  still_made : (f : FileId) (p : Place) → IsPlaceOf w f p → IsPlaceOf Next f p
  still_made f p (inl first) = inl first
  still_made f p (inr made) = inr (inr made)

  -- the letters of before are letters behind it
  pub letter_stays : (new ls : List Letter) (m : Sent) → HasLetter w ls m → HasLetter Next (new ++ ls) m
  letter_stays new ls m k = record {
    store = k.store;
    among = among_behind (letter k.store m) new ls k.among;
    place = λ ends stamp is. (let p = k.place ends stamp is in (p.0, still_made ends.file (place_of k.store ends.file) p.1));
  }

  module _ (a : Store) (ls : List Letter) (ms : List Sent) (known : (f : FileId) (own : Attributes) → own_at a.names f ≡ Some own → IsPlaceOf w f own.place)
      (stamped : All (IsSentStamped a) ms) where
    placed_by : (from : ℕ) (ends : Ends) (stamp : Stamp) → IsStamped a from (message.LeaveOk ends stamp)
        → ((place_of a ends.file).stamp ≡ stamp) × IsPlaceOf Next ends.file (place_of a ends.file)
    placed_by from ends stamp k =
        let own = k.1.0 in
        let is : place_of a ends.file ≡ own.place = ap (λ (o : Option Attributes). (or_blank ends.file o).place) k.1.1 in
        (ap (λ (p : Place). p.stamp) is ∙ k.1.2, still_made ends.file (place_of a ends.file) (subst (IsPlaceOf w ends.file) (sym is) (known ends.file own k.1.1)))

    has_letter : (m : Sent) → IsAmong m ms → HasLetter Next (map (letter a) ms ++ ls) m
    has_letter m is = record {
      store = a;
      among = among_before (letter a m) (map (letter a) ms) ls (letter_by a m ms is);
      place = λ ends stamp same. placed_by m.packet.from ends stamp (subst (IsStamped a m.packet.from) same (all_among (IsSentStamped a) ms m stamped is));
    }

    -- EACH MESSAGE that is sent has one, and each that was sent before
    pub letters_stay : (earlier : List Sent) → All (HasLetter w ls) earlier → All (HasLetter Next (map (letter a) ms ++ ls)) (ms ++ earlier)
    letters_stay earlier k =
        let P : Sent → Type 0 = HasLetter Next (map (letter a) ms ++ ls) in
        All-append P ms earlier (among_all P ms has_letter)
        (All-weaker (HasLetter w ls) P (λ m h. letter_stays (map (letter a) ms) ls m h) earlier k)
