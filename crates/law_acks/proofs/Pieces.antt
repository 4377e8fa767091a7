-- What each piece of an event leaves, where all before it kept the rule of the edges.
use Rattle.std.proofs.Common.{ℕ, ◌≡◌, ◌≤◌, Bool, true, false, cond, List, [], ◌∷◌, Option, None, Some, refl, sym, subst, All}
use Rattle.std.proofs.lemmas.List.Elements.{All-cons, All-nil, All-push}
use Rattle.pg_run.specs.pg_base.declared.id.FileId.{FileId}
use Rattle.pg_run.specs.pg_base.declared.policy.Policy.{Policy}
use Rattle.pg_run.specs.pg_base.Version.{VersionValue}
use Rattle.pg_run.specs.pg_entries.declared.entry.Entry.{Entry}
use Rattle.pg_run.specs.theory_flood.Promises.Saying.{Other}
use Rattle.pg_run.proofs.theory_flood.Steps.{AllMay, Steps, Steps-refl}
use Rattle.pg_run.specs.pg_msg.declared.message.Message.{Message}
use Rattle.pg_run.specs.pg_msg.declared.message.Message.TheVariants as message
use Rattle.pg_run.specs.pg_msg.declared.message.Sent.{Sent}
use Rattle.pg_run.specs.pg_msg.declared.update.Update.TheVariants as update
use Rattle.pg_run.specs.pg_msg.declared.work.Work.{Work}
use Rattle.pg_run.specs.pg_msg.Work.{new_work, with_made, with_sent, with_tail}
use Rattle.pg_run.specs.pg_names.declared.attributes.Attributes.{Attributes}
use Rattle.pg_run.specs.pg_names.Names.{fill, is_dir, is_flag_new, is_place_new, own_at}
use Rattle.pg_run.specs.pg_register.declared.flag.Flag.{Flag}
use Rattle.pg_run.specs.pg_register.declared.place.Place.{Place}
use Rattle.pg_run.specs.pg_register.Flag.{IsByServer}
use Rattle.pg_run.specs.pg_replica.declared.replica.Replica.{Replica}
use Rattle.pg_run.specs.pg_replica.Replicas.{takes_link}
use Rattle.pg_run.specs.pg_store.declared.store.Store.{Store}
use Rattle.pg_run.specs.pg_store.Beginning.{begin, let_go}
use Rattle.pg_run.specs.pg_store.Links.{link, put_link}
use Rattle.pg_run.specs.pg_store.Seen.{server_of}
use Rattle.pg_run.specs.pg_store.Store.{is_held, put_flag, put_place, replica_at, take_entry, take_flag, take_place, take_version, with_names}
use Rattle.pg_run.specs.pg_store.Together.{AreTogether, birth_at}
use Rattle.pg_run.specs.pg_pieces.Accepting.{link_peer}
use Rattle.pg_run.specs.pg_pieces.Done.{Done}
use Rattle.pg_run.specs.pg_pieces.Making.{make_flag, own_next, raise_flag}
use Rattle.pg_run.specs.pg_pieces.Posting.{post, sent_to}
use Rattle.pg_run.specs.pg_pieces.Taking.{take_entry_cell, take_entry_noted, take_flag_noted, take_flags_noted, take_place_noted, take_version_noted}
use Rattle.pg_run.specs.theory_flood_pieces.Laws.{AreAlike, StepsOn}
use Rattle.pg_run.specs.theory_flood_pieces.Seen.{Hearing, cells_in, saying, says, standing}
use Rattle.pg_run.specs.theory_flood_pieces.Whole.{IsOther, IsWhole, PatchesAreForDirs}
use Rattle.pg_run.proofs.theory_flood_pieces.Beginning.{begin_steps, entry_steps}
use Rattle.pg_run.proofs.theory_flood_pieces.Counting.{steps_on}
use Rattle.pg_run.proofs.theory_flood_pieces.Events.{IsUnderWay, begun, goes_on, sends_on}
use Rattle.pg_run.proofs.theory_flood_pieces.Leaving.{go_steps, whole_gone}
use Rattle.pg_run.proofs.theory_flood_pieces.Linking.{alike_steps, fill_steps, held_link_steps}
use Rattle.pg_run.proofs.theory_flood_pieces.Sending.{others_may}
use Rattle.pg_run.proofs.theory_flood_pieces.Taking.{flag_taken, place_taken, took_steps}
use Rattle.pg_run.proofs.theory_flood_pieces.Together.{held_of_replica}
use Rattle.pg_run.proofs.theory_flood_pieces.Whole.{whole_alike, whole_entry, whole_flag, whole_link, whole_place, whole_version}
use Rattle.pg_run.proofs.theory_flood_pieces.WholeBeginning.{whole_begun, whole_filled}
use Rattle.pg_run.proofs.Still.{SameMail, entry_cell_still, entry_still, flag_still, linked_still, place_still, version_still}

-- ---- steps, whatever is held

place_by : (a : Store) (f : FileId) (place : Place) (o : Option Attributes) → own_at a.names f ≡ o
    → Steps standing a (take_place a f place)
place_by a f place None is =
    subst (λ (o : Option Attributes). Steps standing a (cond (is_place_new o place) (put_place a f place) a))
    (sym is) (Steps-refl standing a)
place_by a f place (Some own) is =
    let t = place_taken a f own is place in took_steps t.keys a (take_place a f place) t.took

pub place_steps : (a : Store) (f : FileId) (place : Place) → Steps standing a (take_place a f place)
place_steps a f place = place_by a f place (own_at a.names f) refl

flag_by : (a : Store) (f : FileId) (flag : Flag) (o : Option Attributes) → own_at a.names f ≡ o
    → Steps standing a (take_flag a f flag)
flag_by a f flag None is =
    subst (λ (o : Option Attributes). Steps standing a (cond (is_flag_new o flag) (put_flag a f flag) a))
    (sym is) (Steps-refl standing a)
flag_by a f flag (Some own) is =
    let t = flag_taken a f own is flag in took_steps t.keys a (take_flag a f flag) t.took

pub flag_steps : (a : Store) (f : FileId) (flag : Flag) → Steps standing a (take_flag a f flag)
flag_steps a f flag = flag_by a f flag (own_at a.names f) refl

link_by : (a : Store) (f : FileId) (peer birth : ℕ) → AreTogether a → (o : Option Replica)
    → replica_at a f ≡ o → Steps standing a (link a f peer birth)
link_by a f peer birth both None is =
    subst (λ (o : Option Replica). Steps standing a (cond (takes_link o peer birth) (put_link a f peer birth) a))
    (sym is) (Steps-refl standing a)
link_by a f peer birth both (Some x) is =
    held_link_steps a f peer birth (held_of_replica a both f x is)

pub link_steps : (a : Store) (f : FileId) (peer birth : ℕ) → AreTogether a
    → Steps standing a (link a f peer birth)
link_steps a f peer birth both = link_by a f peer birth both (replica_at a f) refl

-- ---- Server s of n came from a, having heard this

-- the flags of a grant are by server, and the origin of a walk is one of n servers
abbrev pub IsWellSaid : ℕ → Message → Type 0
IsWellSaid n (message.Grant ends granted) = IsByServer granted.flags
IsWellSaid n (message.Walk ends origin birth hops word) = (1 ≤ origin) × (origin ≤ n)
IsWellSaid n _ = Unit {0}

abbrev pub AreWellSaid : ℕ → List Sent → Type 0
AreWellSaid n ms = All (λ m. IsWellSaid n m.packet.message) ms

-- what goes last the edges do not read
abbrev pub MayGoLast : ℕ → Sent → Type 0
MayGoLast n m = (says m ≡ Other) × IsWellSaid n m.packet.message

-- it came to b so far, by the rule, these are sent, and those last
pub record Goes (n s : ℕ) (a : Store) (heard : Hearing) (b : Store) (sent tail : List Sent) : Type 0 where
  pub way : IsUnderWay n s a heard b sent
  pub said : AreWellSaid n sent
  pub last : All (MayGoLast n) tail

module _ (n s : ℕ) (a : Store) (heard : Hearing) where
  abbrev pub Stands : Store → Work → Type 0
  Stands b work = Goes n s a heard b work.sent work.tail

  abbrev pub IsDone : Done → Type 0
  IsDone d = Stands d.store d.work

  pub same_done : (b : Store) (v w : Work) → SameMail v w → Stands b v → Stands b w
  same_done b v w same u =
      subst (λ (ms : List Sent). Goes n s a heard b ms w.tail) (sym same.sent)
      (subst (λ (ms : List Sent). Goes n s a heard b v.sent ms) (sym same.tail) u)

  -- nothing is done yet
  pub nothing_done : (moment from : ℕ) → IsWhole n s a → Stands a (new_work moment from)
  nothing_done moment from k = record {
    way = begun n s a heard k;
    said = All-nil (λ (m : Sent). IsWellSaid n m.packet.message);
    last = All-nil (MayGoLast n);
  }

  -- it goes on by steps, with what counts as over
  pub over_done : (b : Store) (work : Work) → Stands b work → (c : Store)
      → Steps (cells_in heard.along) b c → IsWhole n s c → Stands c work
  over_done b work u c steps whole =
      record { way = goes_on n s a heard b work.sent u.way c steps whole; said = u.said; last = u.last }

  -- and by steps in which no replica goes
  pub on_done : (b : Store) (work : Work) → Stands b work → (c : Store) → Steps standing b c
      → IsWhole n s c → Stands c work
  on_done b work u c steps whole = over_done b work u c (steps_on b c steps heard.along) whole

  -- one message more is sent
  pub sent_done : (b : Store) (work : Work) → Stands b work → (m : Sent)
      → ((c : Store) → Steps (cells_in heard.along) b c
      → AllMay (cells_in heard.along) s a c heard.said (m ∷ [])) → IsWellSaid n m.packet.message
      → Stands b (with_sent work m)
  sent_done b work u m may well = record {
    way = sends_on n s a heard b work.sent u.way (m ∷ []) may;
    said = All-push (λ (m : Sent). IsWellSaid n m.packet.message) work.sent m u.said well;
    last = u.last;
  }

  module _ (b : Store) (work : Work) (u : Stands b work) where
    -- A PLACE COMES
    pub place_done : (f : FileId) (place : Place) → IsDone (take_place_noted b f place work)
    place_done f place =
        same_done (take_place b f place) work (take_place_noted b f place work).work
        (place_still b f place work).mail
        (on_done b work u (take_place b f place) (place_steps b f place)
        (whole_place n s b u.way.whole f place))

    -- A FLAG
    pub flag_done : (f : FileId) (flag : Flag) → IsDone (take_flag_noted b f flag work)
    flag_done f flag =
        same_done (take_flag b f flag) work (take_flag_noted b f flag work).work
        (flag_still b f flag work).mail
        (on_done b work u (take_flag b f flag) (flag_steps b f flag)
        (whole_flag n s b u.way.whole f flag))

    -- AN ENTRY OF A DIRECTORY
    entry_stands : (d : FileId) (e : Entry) → is_dir d ≡ true → Stands (take_entry b d e) work
    entry_stands d e dir =
        on_done b work u (take_entry b d e) (entry_steps b d e)
        (whole_entry n s b u.way.whole d e dir)

    pub entry_done : (d : FileId) (e : Entry) → is_dir d ≡ true → IsDone (take_entry_noted b d e work)
    entry_done d e dir =
        same_done (take_entry b d e) work (take_entry_noted b d e work).work (entry_still b d e work).mail
        (entry_stands d e dir)

    pub entry_cell_done : (d : FileId) (e : Entry) (sure : Bool) → is_dir d ≡ true
        → IsDone (take_entry_cell b d e sure work)
    entry_cell_done d e sure dir =
        same_done (take_entry b d e) work (take_entry_cell b d e sure work).work
        (entry_cell_still b d e sure work).mail (entry_stands d e dir)

    -- A VERSION, where it goes by steps
    pub version_done : (f : FileId) (v : VersionValue) → StepsOn b (take_version b f v)
        → IsDone (take_version_noted b f v work)
    version_done f v steps =
        same_done (take_version b f v) work (take_version_noted b f v work).work
        (version_still b f v work).mail
        (over_done b work u (take_version b f v) (steps heard.along) (whole_version n s b u.way.whole f v))

    -- A LINK
    pub link_done : (f : FileId) (peer birth : ℕ) → IsOther n s peer
        → IsDone (link_peer b f peer birth work)
    link_done f peer birth other =
        same_done (link b f peer birth) work (link_peer b f peer birth work).work
        (linked_still b f peer birth work).mail
        (on_done b work u (link b f peer birth)
        (link_steps b f peer birth u.way.whole.together) (whole_link n s b u.way.whole f peer birth other))

    -- A REPLICA BEGINS
    pub begun_done : (f : FileId) (birth : ℕ) (policy : Policy) (own : Attributes) (full : Bool)
        → is_held b f ≡ false → IsByServer own.flags → Stands (begin b f birth policy own full) work
    begun_done f birth policy own full away sorted =
        on_done b work u (begin b f birth policy own full)
        (begin_steps b f birth policy own full u.way.whole.together away)
        (whole_begun n s b f birth policy own full away sorted u.way.whole)

    -- A REPLICA GOES, whose birth counts as over
    pub left_done : (f : FileId) (birth : ℕ) → birth_at b f ≡ Some birth → heard.along.over f birth ≡ true
        → Stands (let_go b f) work
    left_done f birth is counts =
        over_done b work u (let_go b f) (go_steps n s b f birth heard.along u.way.whole is counts)
        (whole_gone n s b f u.way.whole)

    -- IT IS FULL
    pub filled_done : (f : FileId) → Stands (with_names b (fill b.names f)) work
    filled_done f =
        on_done b work u (with_names b (fill b.names f)) (fill_steps b f)
        (whole_filled n s b f u.way.whole)

    -- WHAT STANDS BESIDE CHANGES
    pub beside_done : (c : Store) → AreAlike b c → PatchesAreForDirs c → Stands c work
    beside_done c alike patches =
        on_done b work u c (alike_steps b c alike)
        (whole_alike n s b u.way.whole c alike patches)

    -- WHAT THE EDGES DO NOT READ IS SENT
    pub posted : (to : ℕ) (m : Message) → ((from : ℕ) → saying from to m ≡ Other) → IsWellSaid n m
        → Stands b (post b to m work)
    posted to m other well =
        let sent = sent_to b to m in
        sent_done b work u sent
        (λ c f. others_may heard.along s a c heard.said (sent ∷ [])
        (All-cons (λ z. says z ≡ Other) sent [] (other (server_of b)) (All-nil (λ z. says z ≡ Other))))
        well

    -- AND GOES LAST
    pub posted_last : (to : ℕ) (m : Message) → ((from : ℕ) → saying from to m ≡ Other) → IsWellSaid n m
        → Stands b (with_tail work (sent_to b to m))
    posted_last to m other well = record {
      way = u.way;
      said = u.said;
      last = All-push (MayGoLast n) work.tail (sent_to b to m) u.last (other (server_of b), well);
    }

  -- ---- more of these

  pub flags_done : (fs : List Flag) (b : Store) (work : Work) (f : FileId) → Stands b work
      → IsDone (take_flags_noted b f fs work)
  flags_done [] b work f u = u
  flags_done (flag ∷ fs) b work f u =
      let d = take_flag_noted b f flag work in
      flags_done fs d.store d.work f (flag_done b work u f flag)

  pub made_flag_done : (b : Store) (work : Work) (f : FileId) (flag : Flag) → Stands b work
      → IsDone (make_flag b f flag work)
  made_flag_done b work f flag u = flag_done b (with_made work (update.Flag f flag)) u f flag

  pub raised_done : (b : Store) (work : Work) (f : FileId) → Stands b work
      → IsDone (raise_flag b f work)
  raised_done b work f u = made_flag_done b work f (own_next b f true) u
