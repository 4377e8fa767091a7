-- Where all places are of those that there are, and all flags of those, both are.
use Rattle.std.proofs.Common.{ℕ, ◌≡◌, Bool, true, false, cond, List, All, refl, sym, ap, subst, ◌∙◌, inl, inr}
use Rattle.pg_run.specs.pg_base.declared.id.FileId.{FileId}
use Rattle.pg_run.specs.pg_base.Id.{is_same_file}
use Rattle.pg_run.proofs.pg_content.Members.{all_among}
use Rattle.pg_run.specs.pg_register.declared.flag.Flag.{Flag}
use Rattle.pg_run.specs.pg_register.declared.place.Place.{Place}
use Rattle.pg_run.specs.pg_register.Flag.{IsByServer}
use Rattle.pg_run.specs.pg_register.Place.{blank_place, root, root_place}
use Rattle.pg_run.specs.pg_entries.declared.cell.Cell.{Cell}
use Rattle.pg_run.specs.pg_entries.declared.cell.Cell.TheVariants as cell
use Rattle.pg_run.specs.pg_entries.declared.entry.Entry.{Entry}
use Rattle.pg_run.specs.pg_intent.declared.intent.Intent.TheVariants as intent
use Rattle.pg_run.specs.pg_intent.Intents.{HaveOwnKeys}
use Rattle.pg_run.specs.pg_msg.declared.message.Message.{Message}
use Rattle.pg_run.specs.pg_msg.declared.message.Message.TheVariants as message
use Rattle.law_repair.specs.law_births.Flags.{AnyBye, SaysCell, SaysIntent, SaysMessage, SaysStore}
use Rattle.law_repair.specs.law_golds.Laws.{FlagsAreKnown}
use Rattle.pg_run.specs.Intending.{IntentionsAreInOrder}
use Rattle.pg_run.specs.Known.{AreTold, CarriedIsKnown, IsCellTold, IsFlagOf, IsMessageTold, IsPlaceOf, IsStoreTold, of_run}
use Rattle.pg_run.specs.Run.{World, run}
use Rattle.law_returns.proofs.law_names.Patched.{found_own}
use Rattle.law_intents.specs.law_order.Laws.{AllIsNamed, files_of}
use Rattle.law_intents.specs.law_order.Named.{naming}
use Rattle.law_intents.specs.law_order.Saying.{AreIntended, IsIntended, IsSaidOf, IsSaidOfCell, IsSaidOfMessage, Saying}
use Rattle.law_repair.specs.law_places.Laws.{IsKnown, PlacesWereMade, cell_tells, tells}

module _ (n : ℕ) (w : World) where
  -- what is said of names, and of flags
  abbrev P : Saying
  P = naming n (files_of w.stores)

  abbrev Q : FileId → Flag → Type 0
  Q = IsFlagOf n w

  joined : (f : FileId) (q : Place) (gs : List Flag) → IsPlaceOf w f q → All (Q f) gs → IsByServer gs → AreTold (of_run n w) f q gs
  joined f q gs place flags order = record { place_is = place; flags_are = λ g h. all_among (Q f) gs g flags h; sorted = order }

  -- ---- a message

  cell_joined : (f : FileId) (c : Cell) → ((g : FileId) (q : Place) → cell_tells f c g q → IsPlaceOf w g q) → IsSaidOfCell P f c → SaysCell Q f c → IsCellTold (of_run n w) f c
  cell_joined f (cell.Place q) places said flags = places f q (refl, refl)
  cell_joined f (cell.Flag g) places said flags = flags
  cell_joined f (cell.Entry e sure) places said flags = joined e.child e.place e.flags (places e.child e.place (refl, refl)) flags said.cell.order
  cell_joined f (cell.Version v) places said flags = tt

  -- the root is known by its own place
  granted_place : (f : FileId) (q : Place) (t : Bool) → is_same_file f root ≡ t → (is_same_file f root ≡ true → q ≡ root_place)
      → (is_same_file f root ≡ false → IsPlaceOf w f q) → IsPlaceOf w f q
  granted_place f q true e top other = inl (top e ∙ sym (ap (λ t. cond t root_place (blank_place f)) e))
  granted_place f q false e top other = other e

  entry_joined : (e : Entry) → ((f : FileId) (q : Place) → (e.child ≡ f) × (e.place ≡ q) → IsPlaceOf w f q) → All (Q e.child) e.flags → IsByServer e.flags
      → AreTold (of_run n w) e.child e.place e.flags
  entry_joined e places flags order = joined e.child e.place e.flags (places e.child e.place (refl, refl)) flags order

  message_joined : (m : Message) → ((f : FileId) (q : Place) → tells m f q → IsPlaceOf w f q) → IsSaidOfMessage P m → SaysMessage Q m → IsMessageTold (of_run n w) m
  message_joined (message.Cell ends tag c) places said flags = cell_joined ends.file c places said flags
  message_joined (message.Grant ends g) places said flags =
      joined ends.file g.place g.flags
      (granted_place ends.file g.place (is_same_file ends.file root) refl said.place.first (λ apart. places ends.file g.place (refl, apart, refl))) flags said.order
  message_joined (message.Confirm dir e) places said flags = (said.dir, entry_joined e places flags said.cell.order)
  message_joined (message.PlaceIs dir e) places said flags = (said.dir, entry_joined e places flags said.cell.order)
  message_joined (message.Tell dir e) places said flags = (said.dir, entry_joined e places flags said.cell.order)
  message_joined (message.Ack ends key tag) places said flags = tt
  message_joined (message.Harbinger ends tag head) places said flags = tt
  message_joined (message.Want ends wanted) places said flags = tt
  message_joined (message.Delta ends delta) places said flags = tt
  message_joined (message.Piece ends piece) places said flags = tt
  message_joined (message.Later ends stamp) places said flags = tt
  message_joined (message.Fetch file birth) places said flags = tt
  message_joined (message.NoGrant file birth) places said flags = tt
  message_joined (message.Full ends) places said flags = tt
  message_joined (message.Seek file birth) places said flags = tt
  message_joined (message.Greet ends why) places said flags = tt
  message_joined (message.NoneHere ask file child) places said flags = tt
  message_joined (message.Gone file birth) places said flags = tt
  message_joined (message.Bye ends) places said flags = tt
  message_joined (message.ByeOk file birth) places said flags = tt
  message_joined (message.TellOk dir child stamp) places said flags = tt
  message_joined (message.Leave ends stamp) places said flags = tt
  message_joined (message.LeaveOk ends stamp) places said flags = tt
  message_joined (message.Invite ends) places said flags = tt
  message_joined (message.Walk ends origin birth hops word) places said flags = tt

  -- ---- a server

  store_joined : (s : ℕ) → HaveOwnKeys (w.stores s).intents → ((f : FileId) (q : Place) → IsKnown w f q → IsPlaceOf w f q)
      → IsSaidOf P (w.stores s).names → AreIntended P (w.stores s).intents → SaysStore Q AnyBye s (w.stores s) → IsStoreTold (of_run n w) (w.stores s)
  store_joined s keys places said intended flags = record {
    own = λ f own h.
        joined f own.place own.flags (places f own.place (inl (s, inl (own, h, refl)))) (flags.names.own f own h) (said.own f own h).order;
    cells = λ dir child e h. (
        let old = flags.names.cells dir child e h in
        let told = joined child e.place e.flags (places child e.place (inl (s, inr (dir, e, h, refl)))) old.1 (said.cells dir child e h).order in
        let R : FileId → Type 0 = λ x. AreTold (of_run n w) x e.place e.flags in
        (old.0, subst R (sym old.0) told));
    patches = λ dir e target h. (
        let i = intent.Patch dir e target in
        let here : IsIntended P i = all_among (IsIntended P) (w.stores s).intents i intended h in
        let of : SaysIntent Q AnyBye i = all_among (SaysIntent Q AnyBye) (w.stores s).intents i flags.intents h in
        let owed = found_own (w.stores s).intents keys i h in
        let place : IsPlaceOf w e.child e.place =
        places e.child e.place (inr (inl (s, record { dir = dir; entry = e; target = target; owed = owed; is = refl }))) in
        (here.dir, joined e.child e.place e.flags place of here.cell.order));
  }

-- CARRIED IS KNOWN
pub carried_known : (n : ℕ) → IntentionsAreInOrder n → AllIsNamed n → PlacesWereMade n → FlagsAreKnown n → CarriedIsKnown n
carried_known n intends named made flags events =
    let w = run n events in
    let said = named events in
    let of = flags events in
    record {
      stores = λ s least most.
          store_joined n w s (intends events s least most).keys (made events) (said.names s least most) (said.intents s least most) (of.stores s least most);
      messages = λ m h. message_joined n w m.packet.message (λ f q says. made events f q (inr (inr (record { sent = m; mailed = h; tells = says }))))
          (said.mail m h) (of.messages m h);
    }
