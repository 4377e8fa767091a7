-- Each event is a step by the rule of listings.
use Rattle.std.proofs.Common.{ℕ, ◌≡◌, ◌≤◌, ◌<◌, Bool, true, false, List, [], ◌∷◌, ◌++◌, map, Option, Some, refl, sym, ap, subst, ◌∙◌, inl, inr, ◌⊎◌, All, arith}
use Rattle.std.specs.List.{flat_map}
use Rattle.std.proofs.lemmas.List.Elements.{All-append, All-cons, All-head, All-nil, All-tail, All-weaker}
use Rattle.std.proofs.lemmas.Bool.{false≢true}
use Rattle.std.proofs.lemmas.Option.{none-some, same_Some}
use Rattle.pg_run.specs.pg_base.declared.id.FileId.{FileId}
use Rattle.pg_run.specs.pg_base.Stamp.{is_before}
use Rattle.pg_run.specs.pg_call.declared.reply.Reply.{Reply}
use Rattle.pg_run.specs.pg_house.Holding.{waits}
use Rattle.pg_run.proofs.pg_house.Going.{HaveChildren}
use Rattle.theory_listing.specs.Protocol.{IsIn}
use Rattle.theory_listing.specs.Parts.{FirstPart, NoneLater, SecondPart}
use Rattle.theory_listing.specs.Rule.{HasCell, IsKnownAt, IsSettled, IsToldAt, MaySend, MayStep}
use Rattle.theory_listing.specs.World.Saying.{LeaveOk, Other, TellOk, Told}
use Rattle.theory_listing.specs.World.Way.{PlaceIs, SureCell, Tell}
use Rattle.theory_listing.proofs.Parts.{parts_are_steps, places_are_known}
use Rattle.pg_run.specs.pg_msg.declared.message.Sent.{Sent}
use Rattle.pg_run.specs.pg_msg.declared.work.Work.{Work}
use Rattle.pg_run.specs.pg_names.declared.attributes.Attributes.{Attributes}
use Rattle.pg_run.specs.pg_names.Names.{NamesValue, own_at}
use Rattle.pg_run.specs.pg_names.Names as names
use Rattle.pg_run.specs.pg_register.declared.place.Place.{Place}
use Rattle.pg_run.specs.Intending.{IntendsInOrder}
use Rattle.pg_run.proofs.Event.{nothing_last, nothing_sent}
use Rattle.pg_run.specs.pg_server.Local.{closed, intended, settled, sent_at_end}
use Rattle.theory_listing_house.specs.Listing.{cell_place, own_place}
use Rattle.pg_run.specs.pg_store.declared.store.Store.{Store}
use Rattle.pg_run.specs.pg_store.Births.{birth_of}
use Rattle.pg_run.specs.pg_store.Seen.{view_of}
use Rattle.pg_run.specs.pg_store.Store.{is_held}
use Rattle.pg_run.specs.pg_store.Together.{AreTogether, birth_at}
use Rattle.pg_run.specs.pg_pieces.Done.{Done}
use Rattle.pg_run.specs.pg_cells.Sending.{cells_where, is_chosen}
use Rattle.pg_run.specs.pg_intentions.Requests.{asks_by}
use Rattle.law_listings.specs.Laws.{MaySettle}
use Rattle.law_listings.specs.Letters.{Letter, Saying, of_stores, says}
use Rattle.law_listings.proofs.Alike.{Alike, alike_by, same_view}
use Rattle.law_listings.proofs.Behind.{births_behind, second_part}
use Rattle.law_listings.proofs.Births.{AreBirthsOf, go_on, go_on_same, held_born, not_over, same_birth}
use Rattle.law_listings.proofs.Heard.{IsFirst}
use Rattle.law_listings.proofs.PlacesAlone.{GoOn, with_births}
use Rattle.law_listings.proofs.Plain.{IsOther, IsSentStamped, Others, SendsOthers}
use Rattle.law_listings.proofs.Sends.{AllMay, MaySent, begun_may, cells_may}
use Rattle.law_listings.proofs.Views.{away_none, holds_held, none_away, ordered, told_earlier}

-- a place that is told is known in the end: it is the own one, and the directory has a cell for the
-- child, or none is known of it that is later and that it takes
abbrev pub IsToldWell : Store → FileId → FileId → Place → Type 0
IsToldWell m d c q = IsIn of_stores d c q → (of_stores.own m c ≡ Some q) × (HasCell of_stores m d c ⊎ NoneLater of_stores m c q)

-- what a handler may say, by what the server is behind it
abbrev pub MaySay : Store → Saying → Type 0
MaySay m (Told SureCell d c q) = ⊥
MaySay m (Told Tell d c q) = ⊥
MaySay m (Told PlaceIs d c q) = IsToldWell m d c q
MaySay m (TellOk d c t) = IsToldAt of_stores m d c t
MaySay m (LeaveOk f n q) = (birth_of m f ≡ n) × ((d : FileId) → IsToldWell m d f q)
MaySay m Other = Unit {0}

-- of a server that held a before the event
abbrev pub Says : Store → Store → Sent → Type 0
Says a m x = MaySay m (says a x.packet.message) × IsSentStamped a x

abbrev pub AllSay : Store → Store → List Sent → Type 0
AllSay a m ms = All (Says a m) ms

-- of all that is sent, and of what is sent last
abbrev pub WorkSays : Store → Store → Work → Type 0
WorkSays a m work = AllSay a m work.sent × AllSay a m work.tail

all_others_say : (a m : Store) (ms : List Sent) → Others ms → AllSay a m ms
all_others_say a m ms h = All-weaker IsOther (Says a m) (λ x other. (subst (MaySay m) (sym (other a x.packet.from).0) tt, (other a x.packet.from).1)) ms h

pub others_say : (a m : Store) (work : Work) → SendsOthers work → WorkSays a m work
others_say a m work h = (all_others_say a m work.sent h.0, all_others_say a m work.tail h.1)

said_of : (a b : Store) (ms : List Sent) → AllMay a b ms → All (MaySend of_stores b) (map (λ (x : Sent). says a x.packet.message) ms)
said_of a b [] h = All-nil (MaySend of_stores b)
said_of a b (m ∷ ms) h =
    All-cons (MaySend of_stores b) (says a m.packet.message) (map (λ (x : Sent). says a x.packet.message) ms) (All-head (MaySent a b) m ms h).0
    (said_of a b ms (All-tail (MaySent a b) m ms h))

-- each LeaveOk that is sent tells the stamp of the place that the server had
pub all_stamped : (a b : Store) (ms : List Sent) → AllMay a b ms → All (IsSentStamped a) ms
all_stamped a b ms h = All-weaker (MaySent a b) (IsSentStamped a) (λ x k. k.1) ms h

-- ---- an event that takes effect

module _ (least : ℕ) (a : Store) (heard : Letter) (d : Done) (k : IsFirst a heard d) (sound : MaySettle d.store.names) (order : IntendsInOrder (intended (settled d)).store)
    (children : HaveChildren (intended (settled d)).store.names) (births : AreBirthsOf a d.store (intended (settled d)).store) (says_well : WorkSays a d.store d.work) where
  abbrev B : Done
  B = intended (settled d)

  second : SecondPart of_stores a k.mid B.store
  second = second_part a heard d k sound order births.behind

  own_of : (f : FileId) → of_stores.own k.mid f ≡ of_stores.own d.store f
  own_of f = ap (λ (n : NamesValue). own_place (own_at n f)) k.names

  cell_of : (e f : FileId) → of_stores.cell k.mid e f ≡ of_stores.cell d.store e f
  cell_of e f = ap (λ (n : NamesValue). cell_place (names.cell_at n e f)) k.names

  -- births go on
  born_on : (f : FileId) → birth_at B.store f ≡ birth_at d.store f
  born_on f = births_behind a heard d k sound order births.behind f

  there_by : (f : FileId) (n : ℕ) (t : Bool) → is_held d.store f ≡ t → birth_at d.store f ≡ Some n → t ≡ true
  there_by f n true is h = refl
  there_by f n false is h =
      let none = second.gone f (own_of f ∙ away_none d.store f is) in
      absurd (false≢true (sym (none_away B.store f none) ∙ held_born B.store births.now f n (born_on f ∙ h)))

  first : FirstPart of_stores least a k.mid heard
  first = with_births least a k.mid heard
      (go_on_same a d.store k.mid k.births own_of (go_on a d.store births.was births.first births.into (λ f n h. there_by f n (is_held d.store f) refl h))) (k.first least)

  none_later_of : (c : FileId) (q : Place) → NoneLater of_stores d.store c q → NoneLater of_stores k.mid c q
  none_later_of c q none = λ e r cell low.
      let P : NamesValue → Type 0 = λ n. (own : Attributes) → own_at n c ≡ Some own → waits n.removed c own.place r ≡ true in
      subst P (sym k.names) (none e r (sym (cell_of e c) ∙ cell) low)

  either_of : (e c : FileId) (q : Place) → HasCell of_stores d.store e c ⊎ NoneLater of_stores d.store c q → HasCell of_stores k.mid e c ⊎ NoneLater of_stores k.mid c q
  either_of e c q (inl cell) = inl (cell.0, cell_of e c ∙ cell.1)
  either_of e c q (inr none) = inr (none_later_of c q none)

  -- what was told is known
  well_known : (e c : FileId) (q : Place) → IsToldWell d.store e c q → IsIn of_stores e c q → IsKnownAt of_stores B.store e c q
  well_known e c q h in_ =
      let r = h in_ in
      places_are_known of_stores ordered least a k.mid B.store heard first second e c q (own_of c ∙ r.0) in_ (either_of e c q r.1)

  -- so with each thing that it said
  still_says : (x : Saying) → MaySay d.store x → MaySend of_stores B.store x
  still_says (Told SureCell e c q) h = absurd h
  still_says (Told Tell e c q) h = absurd h
  still_says (Told PlaceIs e c q) h = well_known e c q h
  still_says (TellOk e c t) h =
      let more = second.cells_grow e c h.0 (cell_of e c ∙ h.1) in
      told_earlier B.store e c t h.0.stamp h.2 more
  still_says (LeaveOk f n q) h = (same_birth d.store B.store f (born_on f) ∙ h.0, λ e. well_known e f q (h.1 e))
  still_says Other h = tt

  -- what the handler said may be sent in the end
  still_may : (ms : List Sent) → AllSay a d.store ms → AllMay a B.store ms
  still_may ms h = All-weaker (Says a d.store) (MaySent a B.store) (λ x k. (still_says (says a x.packet.message) k.0, k.1)) ms h

  all_sent : AllMay a B.store ((sent_at_end B).sent ++ (sent_at_end B).tail)
  all_sent =
      let b = B.store in
      let wanted = is_chosen B.work.touched B.work.linked in
      let asks = flat_map (asks_by b) B.work.begun in
      All-append (MaySent a b) ((B.work.sent ++ cells_where b wanted) ++ asks) B.work.tail
      (All-append (MaySent a b) (B.work.sent ++ cells_where b wanted) asks
      (All-append (MaySent a b) B.work.sent (cells_where b wanted) (subst (AllMay a b) (sym (nothing_sent d)) (still_may d.work.sent says_well.0)) (cells_may a b children wanted))
      (begun_may a b B.work.begun))
      (subst (AllMay a b) (sym (nothing_last d)) (still_may d.work.tail says_well.1))

  -- A STEP
  pub closed_step : (r : Option Reply) → MayStep of_stores least a (closed r d).store heard (map (λ (x : Sent). says a x.packet.message) (closed r d).out.sent)
  closed_step r = parts_are_steps of_stores ordered least a k.mid B.store heard _ first second (said_of a B.store ((sent_at_end B).sent ++ (sent_at_end B).tail) all_sent)

  pub closed_stamped : (r : Option Reply) → All (IsSentStamped a) (closed r d).out.sent
  closed_stamped r = all_stamped a B.store ((sent_at_end B).sent ++ (sent_at_end B).tail) all_sent

-- ---- an event at which nothing changes

settled_on : (a b : Store) → Alike a b → AreTogether b → IsSettled of_stores a → IsSettled of_stores b
settled_on a b k both s = record {
  cells = λ d c q h. (let r = s.cells d c q (sym (k.cells d c) ∙ h) in (r.0, k.own d ∙ r.1));
  passing = λ d c q r other own cell. s.passing d c q r other (sym (k.own c) ∙ own) (sym (k.cells d c) ∙ cell);
  own_parent = λ d c q own in_ held. (let r = s.own_parent d c q (sym (k.own c) ∙ own) in_ (held.0, sym (k.own d) ∙ held.1) in (r.0, k.cells d c ∙ r.1));
  patch_of = λ d c q h in_. k.own c ∙ s.patch_of d c q (sym (k.patches d c) ∙ h) in_;
  not_past = λ f n h e past. not_over b both f n (holds_held b f h) e past;
}

never_same : (q r : Place) → q ≡ r → is_before q.stamp r.stamp ≡ true → ⊥
never_same q r e low = ordered.never q.stamp (subst (λ (x : Place). is_before q.stamp x.stamp ≡ true) (sym e) low)

-- what a server without anything heard does, where it stays as it is
pub still_step : (least : ℕ) (a b : Store) (heard : Letter) (ms : List Sent) → heard.says ≡ Other → heard.view ≡ view_of a → b.names ≡ a.names → b.intents ≡ a.intents
    → GoOn a b → AreTogether b → IsSettled of_stores a → AllMay a b ms → MayStep of_stores least a b heard (map (λ (x : Sent). says a x.packet.message) ms)
still_step least a b heard ms quiet view names intents go both settled sends =
    let k = alike_by a b names intents in
    let same = same_view a b k in
    record {
      settled = settled_on a b k both settled;
      views = subst (λ (v : ℕ). view_of a ≤ v) (sym same) (omega arith);
      hears = inr view;
      birth = go.same;
      past = go.past;
      own_grows = λ f q r was now. inl (same_Some q r (sym was ∙ sym (k.own f) ∙ now));
      cells_grow = λ d c q was held. (q, k.cells d c ∙ was, inl refl);
      taken = λ d c q r none held was in_ now low. absurd (none-some held.0 (sym none ∙ sym (k.own d) ∙ held.1));
      patch_begun = λ d c q r was in_ now low none. absurd (never_same q r (same_Some q r (sym was ∙ sym (k.own c) ∙ now)) low);
      patch_ends = λ d c q was. inl (q, k.patches d c ∙ was, inl refl);
      let_go = λ f q was none. absurd (none-some q (sym none ∙ k.own f ∙ was));
      confirm_ends = λ d c q asks l none. inl (k.confirms d c asks);
      listed_new = λ d c q l none. inl (sym (k.cells d c) ∙ l.cell);
      enters = λ low up. absurd (let h : least ≤ view_of a = subst (λ (v : ℕ). least ≤ v) same up in let g : view_of a < least = low in omega arith);
      sends = said_of a b ms sends;
    }
