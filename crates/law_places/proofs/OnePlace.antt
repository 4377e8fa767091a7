-- Of each stamp there is one place of a thing.
use Rattle.std.proofs.Common.{ℕ, ◌≡◌, Bool, true, false, cond, List, [], ◌∷◌, Option, Some, refl, sym, ap, subst, ◌∙◌, inl, inr, All, arith}
use Rattle.std.specs.Prelude.{Contains}
use Rattle.std.proofs.lemmas.Bool.{and_parts, false≢true}
use Rattle.std.proofs.lemmas.Option.{none-some, same_Some}
use Rattle.law_frame.specs.pg_run.pg_base.declared.id.FileId.{FileId}
use Rattle.law_frame.specs.pg_run.pg_base.declared.stamp.Stamp.{Stamp}
use Rattle.law_frame.specs.pg_run.pg_base.Id.{is_same_file}
use Rattle.law_frame.proofs.pg_run.pg_base.Orders.{is_same_file-true}
use Rattle.law_frame.specs.pg_run.pg_entries.declared.cell.Cell.{Cell}
use Rattle.law_frame.specs.pg_run.pg_entries.declared.cell.Cell.TheVariants as cells
use Rattle.law_frame.specs.pg_run.pg_entries.declared.entry.Entry.{Entry}
use Rattle.law_frame.specs.pg_run.pg_intent.declared.intent.Intent.{Intent}
use Rattle.law_frame.specs.pg_run.pg_intent.declared.intent.Intent.TheVariants as intent
use Rattle.law_frame.specs.pg_run.pg_intent.declared.key.IntentKey.{IntentKey}
use Rattle.law_frame.specs.pg_run.pg_intent.declared.key.IntentKey.TheVariants as intent_key
use Rattle.law_frame.specs.pg_run.pg_intent.Intents.{has_key, intent_at}
use Rattle.law_frame.specs.pg_run.pg_msg.declared.message.Message.{Message}
use Rattle.law_frame.specs.pg_run.pg_msg.declared.message.Message.TheVariants as message
use Rattle.law_frame.specs.pg_run.pg_msg.declared.message.Sent.{Sent}
use Rattle.law_frame.specs.pg_run.pg_register.declared.place.Place.{Place}
use Rattle.law_frame.specs.pg_run.pg_register.Place.{root}
use Rattle.law_frame.specs.pg_run.pg_store.declared.store.Store.{Store}
use Rattle.law_frame.specs.pg_run.Intending.{IntentionsAreInOrder}
use Rattle.law_frame.specs.pg_run.Journal.{mail}
use Rattle.law_frame.specs.pg_run.Run.{World, run}
use Rattle.law_frame.specs.pg_run.Known.{PlacesHaveOwnStamps, PlacesMadeArePast}
use Rattle.law_places.specs.Laws.{IsKnown, KnowsPlace, OneMadePlaceAStamp, OnePlaceAStamp, OwesPlace, PlacesWereMade, cell_tells, tells}
use Rattle.law_places.proofs.Origins.{IsFirstPlace, IsFrom, all_made, from_run, made_of, of_run}
use Rattle.law_places.proofs.Fine.{AreKnown}
use Rattle.law_places.proofs.Messages.{OfCell, OfMessage, OfSent}
use Rattle.law_places.proofs.Known.{found_is}
use Rattle.law_places.proofs.Worlds.{AllKnown, run_known}

-- ---- what is known comes from somewhere

-- an intention that is found has the key
key_by : (k : IntentKey) (j i : Intent) (t : Bool) (o : Option Intent) → has_key k j ≡ t → (o ≡ Some i → has_key k i ≡ true) → cond t (Some j) o ≡ Some i → has_key k i ≡ true
key_by k j i true o e rest h = subst (λ (x : Intent). has_key k x ≡ true) (same_Some j i h) e
key_by k j i false o e rest h = rest h

pub found_key : (is : List Intent) (k : IntentKey) (i : Intent) → intent_at is k ≡ Some i → has_key k i ≡ true
found_key [] k i h = absurd (none-some i h)
found_key (j ∷ js) k i h = key_by k j i (has_key k j) (intent_at js k) refl (λ g. found_key js k i g) h

module _ (P : FileId → Place → Type 0) where
  place_in : (a : Store) → AreKnown P a → (f : FileId) (p : Place) → KnowsPlace a.names f p → P f p
  place_in a k f p (inl own) = subst (P f) own.2 (k.names.own f own.0 own.1)
  place_in a k f p (inr cell) = subst (P f) cell.3 (k.names.cells cell.0 f cell.1 cell.2)

  owed_in : (a : Store) → AreKnown P a → (f : FileId) (p : Place) → OwesPlace a f p → P f p
  owed_in a k f p o =
      let of = found_is P a.intents (intent_key.Patch o.dir f) (intent.Patch o.dir o.entry o.target) k.intents o.owed in
      let has = found_key a.intents (intent_key.Patch o.dir f) (intent.Patch o.dir o.entry o.target) o.owed in
      let at : f ≡ o.entry.child = is_same_file-true f o.entry.child (and_parts (is_same_file o.dir o.dir) (is_same_file f o.entry.child) has).1 in
      subst (P f) o.is (subst (λ (g : FileId). P g o.entry.place) (sym at) of)

  moved : (f g : FileId) (p q : Place) → f ≡ g → p ≡ q → P f p → P g q
  moved f g p q e h k = subst (P g) h (subst (λ (x : FileId). P x p) e k)

  cell_in : (of : FileId) (c : Cell) → OfCell P of c → (f : FileId) (p : Place) → cell_tells of c f p → P f p
  cell_in of (cells.Place place) k f p t = moved of f place p t.0 t.1 k
  cell_in of (cells.Entry e sure) k f p t = moved e.child f e.place p t.0 t.1 k
  cell_in of (cells.Flag flag) k f p t = absurd t
  cell_in of (cells.Version v) k f p t = absurd t

  told_in : (m : Message) → OfMessage P m → (f : FileId) (p : Place) → tells m f p → P f p
  told_in (message.Cell ends tag c) k f p t = cell_in ends.file c k f p t
  told_in (message.Grant ends granted) k f p t =
      moved ends.file f granted.place p t.0 t.2 (k (ap (λ (x : FileId). is_same_file x root) t.0 ∙ t.1))
  told_in (message.Confirm dir e) k f p t = moved e.child f e.place p t.0 t.1 k
  told_in (message.PlaceIs dir e) k f p t = moved e.child f e.place p t.0 t.1 k
  told_in (message.Tell dir e) k f p t = moved e.child f e.place p t.0 t.1 k
  told_in m k f p t = absurd t

  mailed_in : (ms : List Sent) (m : Sent) → All (OfSent P) ms → Contains ms m → OfSent P m
  mailed_in ms m all there = subst (OfSent P) there.2 (all there.0 m there.1)

known_from : (w : World) → AllKnown w → (f : FileId) (p : Place) → IsKnown w f p → IsFrom (all_made w.journal) f p
known_from w k f p (inl at) = place_in (IsFrom (all_made w.journal)) (w.stores at.0) (k.known at.0) f p at.1
known_from w k f p (inr (inl at)) = owed_in (IsFrom (all_made w.journal)) (w.stores at.0) (k.known at.0) f p at.1
known_from w k f p (inr (inr was)) =
    let P : FileId → Place → Type 0 = IsFrom (all_made w.journal) in
    told_in P was.sent.packet.message (mailed_in P (mail w.journal) was.sent k.sent was.mailed) f p was.tells

pub places_were_made : (n : ℕ) → IntentionsAreInOrder n → PlacesWereMade n
places_were_made n order events f p known = of_run (run n events).journal f p (known_from (run n events) (run_known n order events) f p known)

pub one_made_place_a_stamp : (n : ℕ) → IntentionsAreInOrder n → OneMadePlaceAStamp n
one_made_place_a_stamp n order events f g p q a b e =
    let j = (run n events).journal in
    (run_known n order events).one f g p q (made_of j f p a) (made_of j g q b) e

-- ---- so two of one stamp are one

first_time : (f : FileId) (p : Place) → IsFirstPlace f p → p.stamp.time ≡ 0
first_time f p (inl first) = ap (λ (x : Place). x.stamp.time) first.1
first_time f p (inr first) = ap (λ (x : Place). x.stamp.time) first.1

one_by : (w : World) → AllKnown w → (f : FileId) (p q : Place) → IsFrom (all_made w.journal) f p → IsFrom (all_made w.journal) f q → p.stamp ≡ q.stamp → p ≡ q
one_by w k f p q (inl (inl a)) (inl (inl b)) e = a.1 ∙ sym b.1
one_by w k f p q (inl (inl a)) (inl (inr b)) e = absurd (false≢true (sym b.0 ∙ a.0))
one_by w k f p q (inl (inr a)) (inl (inl b)) e = absurd (false≢true (sym a.0 ∙ b.0))
one_by w k f p q (inl (inr a)) (inl (inr b)) e = a.1 ∙ sym b.1
one_by w k f p q (inl a) (inr b) e =
    let zero_is = first_time f p a in
    let some = (k.each f q b).0 in
    let t = ap (λ (x : Stamp). x.time) e in
    absurd (omega arith)
one_by w k f p q (inr a) (inl b) e =
    let zero_is = first_time f q b in
    let some = (k.each f p a).0 in
    let t = ap (λ (x : Stamp). x.time) e in
    absurd (omega arith)
one_by w k f p q (inr a) (inr b) e = (k.one f f p q a b e).1

pub one_place_a_stamp : (n : ℕ) → IntentionsAreInOrder n → OnePlaceAStamp n
one_place_a_stamp n order events f p q a b e =
    let k = run_known n order events in
    one_by (run n events) k f p q (known_from (run n events) k f p a) (known_from (run n events) k f q b) e

pub places_have_own_stamps : (n : ℕ) → IntentionsAreInOrder n → PlacesHaveOwnStamps n
places_have_own_stamps n order events f p q a b e =
    let w = run n events in
    one_by w (run_known n order events) f p q (from_run w.journal f p a) (from_run w.journal f q b) e

-- and the time of what was made is past at its maker
pub places_made_are_past : (n : ℕ) → IntentionsAreInOrder n → PlacesMadeArePast n
places_made_are_past n order events f p a = ((run_known n order events).each f p (made_of (run n events).journal f p a)).1
