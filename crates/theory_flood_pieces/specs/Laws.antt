-- What each piece of an event leaves of the promises of the edges.
use Rattle.std.specs.Prelude.{ℕ, ◌≡◌, Bool, true, false, All, Contains, List, [], Some}
use Rattle.pg_base.specs.declared.id.FileId.{FileId}
use Rattle.pg_base.specs.declared.policy.Policy.{Policy}
use Rattle.pg_base.specs.declared.stamp.Stamp.{Stamp}
use Rattle.pg_base.specs.Version.{VersionValue}
use Rattle.pg_patch.specs.Ranges.{RangesValue}
use Rattle.pg_edges.specs.declared.key.Key.{Key}
use Rattle.pg_content.specs.Content.{Among}
use Rattle.pg_content.specs.History.{Made, version_of}
use Rattle.theory_flood.specs.Promises.{Saying}
use Rattle.theory_flood.specs.Promises.Saying.{Other}
use Rattle.theory_flood.specs.Protocol.{IsSound, KeepsEdges}
use Rattle.theory_flood.specs.Server.{Holds, Slot}
use Rattle.theory_flood.proofs.Steps.{AllMay, HasSoundTags, Rule, Steps}
use Rattle.pg_entries.specs.declared.cell.Cell.{Cell}
use Rattle.pg_entries.specs.declared.cell.Cell.TheVariants as cell
use Rattle.pg_entries.specs.declared.entry.Entry.{Entry}
use Rattle.pg_cells.specs.pg_msg.declared.message.Ends.{Ends}
use Rattle.pg_cells.specs.pg_msg.declared.message.Message.TheVariants as message
use Rattle.pg_cells.specs.pg_msg.declared.message.Sent.{Sent}
use Rattle.pg_cells.specs.pg_msg.declared.work.Touched.{Touched}
use Rattle.pg_cells.specs.pg_msg.declared.work.Work.{Work}
use Rattle.pg_cells.specs.pg_names.declared.attributes.Attributes.{Attributes}
use Rattle.pg_cells.specs.pg_names.Names.{NamesValue, fill, is_dir}
use Rattle.pg_register.specs.declared.flag.Flag.{Flag}
use Rattle.pg_register.specs.declared.place.Place.{Place}
use Rattle.pg_register.specs.Flag.{IsByServer}
use Rattle.pg_cells.specs.pg_store.declared.store.Store.{Store}
use Rattle.pg_cells.specs.pg_store.Beginning.{begin, let_go}
use Rattle.pg_cells.specs.pg_store.Births.{is_over}
use Rattle.pg_cells.specs.pg_store.Together.{BirthsMove, birth_at}
use Rattle.pg_cells.specs.pg_store.Cells.{cell_at}
use Rattle.pg_cells.specs.pg_store.Links.{keys, link, unlink}
use Rattle.pg_cells.specs.pg_store.Seen.{server_of}
use Rattle.pg_cells.specs.pg_store.Store.{acknowledge, content_of, is_held, new_store, take_entry, take_flag, take_place, take_version, with_names, write}
use Rattle.pg_cells.specs.pg_store.Views.{enter}
use Rattle.pg_cells.specs.pg_pieces.Done.{link_of}
use Rattle.pg_cells.specs.Finish.{finish}
use Rattle.pg_cells.specs.Settling.{settle, touch_all}
use Rattle.pg_cells.specs.Ticks.{tick}
use Rattle.theory_flood_pieces.specs.Histories.{IsOfHistory}
use Rattle.theory_flood_pieces.specs.Names.{AreNamesUpTo, IsToldBy}
use Rattle.theory_flood_pieces.specs.Seen.{Along, answering, cells, cells_in, in_the_end, says, saying}
use Rattle.theory_flood_pieces.specs.UpTo.{IsUpTo}
use Rattle.theory_flood_pieces.specs.Whole.{IsOther, IsWhole, PatchesAreForDirs}

-- cells are up to themselves, and on through others; what is over is not held
abbrev pub CellsAreSound : Type 0
CellsAreSound = IsSound cells

-- a server goes on by the rule of the edges, whichever births count as over all along
abbrev pub StepsOn : Store → Store → Type 0
StepsOn a b = (along : Along) → Steps (cells_in along) a b

-- at the end of an event those count as over that are over then, if births moved one way; and this
-- may be answered late
abbrev pub EventsAreByTheRule : Type 0
EventsAreByTheRule =
    (s : ℕ) (a b : Store) (late : List (Saying Slot Cell)) (heard : Saying Slot Cell)
    (sent : List Sent) → BirthsMove a b → Rule (cells_in (in_the_end b late)) s a b heard sent
    → Rule (answering late) s a b heard sent

-- ---- what comes

-- a server goes on by the rule, and then holds a cell of the thing or more
abbrev pub IsTaken : Store → Store → FileId → Cell → Type 0
IsTaken before after file c = StepsOn before after × Holds IsUpTo (cell_at after file) c

-- of server s of n, and of a thing that it holds
abbrev pub WhereHeld : (Store → FileId → Type 0) → Type 0
WhereHeld P = (n s : ℕ) (a : Store) (file : FileId) → IsWhole n s a → is_held a file ≡ true
    → P a file

abbrev pub PlacesAreTaken : Type 0
PlacesAreTaken = WhereHeld (λ a file. (place : Place)
    → IsTaken a (take_place a file place) file (cell.Place place))

abbrev pub FlagsAreTaken : Type 0
FlagsAreTaken = WhereHeld (λ a file. (flag : Flag)
    → IsTaken a (take_flag a file flag) file (cell.Flag flag))

abbrev pub EntriesAreTaken : Type 0
EntriesAreTaken = WhereHeld (λ a dir. (e : Entry) (sure : Bool)
    → IsTaken a (take_entry a dir e) dir (cell.Entry e sure))

-- the version of a history, as a file with the policy has it
abbrev pub coming : Store → FileId → List Made → Made → VersionValue
coming a file h m = version_of (content_of a file).policy h m

abbrev pub VersionsAreTaken : Type 0
VersionsAreTaken = WhereHeld (λ a file. (h : List Made) (m : Made)
    → IsOfHistory h (content_of a file) → Among m h
    → IsTaken a (take_version a file (coming a file h m)) file
    (cell.Version (coming a file h m)))

-- ---- what a server does

abbrev pub VersionsAreMade : Type 0
VersionsAreMade = WhereHeld (λ a file. (h : List Made) (stamp : Stamp) (ranges : RangesValue)
    → IsOfHistory h (content_of a file) → StepsOn a (write a file stamp ranges))

abbrev pub KeysAreTouched : Type 0
KeysAreTouched = (a : Store) (ts : List Touched) → StepsOn a (touch_all a ts)

-- names grow, and the keys that tell of it are touched behind that, or before
abbrev pub NamesAreTold : Type 0
NamesAreTold = (a : Store) (names : NamesValue) (ts : List Touched)
    → names.server ≡ server_of a → AreNamesUpTo a.names names → IsToldBy ts a.names names
    → StepsOn a (touch_all (with_names a names) ts)
    × StepsOn a (with_names (touch_all a ts) names)

abbrev pub RulesAreSettled : Type 0
RulesAreSettled = (n s : ℕ) (a : Store) (work : Work) → IsWhole n s a
    → StepsOn a (settle a work).store

-- ---- edges and replicas that come and go

-- the keys of a replica are all that have a cell: so an edge that is made has each of them
abbrev pub KeysAreAll : Type 0
KeysAreAll = (a : Store) (file : FileId) (k : Key) (c : Cell) → is_held a file ≡ true
    → cell_at a file k ≡ Some c → Contains (keys a file) k

-- a birth of a peer is linked: along the new edge nothing is acknowledged yet
abbrev pub LinksAreSteps : Type 0
LinksAreSteps =
    WhereHeld (λ a file. (peer birth : ℕ) → StepsOn a (link a file peer birth))

abbrev pub UnlinksAreSteps : Type 0
UnlinksAreSteps = (a : Store) (file : FileId) (peer birth : ℕ)
    → StepsOn a (unlink a file peer birth)

-- a replica begins, of what was not held: it has no edge, whatever it begins with
abbrev pub BeginningsAreSteps : Type 0
BeginningsAreSteps = (n s : ℕ) (a : Store) (file : FileId) (birth : ℕ) (policy : Policy)
    (own : Attributes) (full : Bool) → IsWhole n s a → is_held a file ≡ false
    → StepsOn a (begin a file birth policy own full)

-- a replica goes, whose birth counts as over
abbrev pub GoingsAreSteps : Type 0
GoingsAreSteps = (n s : ℕ) (a : Store) (file : FileId) (birth : ℕ) (along : Along)
    → IsWhole n s a → birth_at a file ≡ Some birth → along.over file birth ≡ true
    → Steps (cells_in along) a (let_go a file)

-- what stands beside names, replicas and tags is not seen: intentions, wishes, births, numbers of
-- files
pub record AreAlike (a b : Store) : Type 0 where
  pub servers : b.servers ≡ a.servers
  pub tags : b.tags ≡ a.tags
  pub names : b.names ≡ a.names
  pub replicas : b.replicas ≡ a.replicas

abbrev pub WhatIsBesideIsUnseen : Type 0
WhatIsBesideIsUnseen = (a b : Store) → AreAlike a b → StepsOn a b

-- that a replica is full is not seen either
abbrev pub FillingIsUnseen : Type 0
FillingIsUnseen = (a : Store) (file : FileId)
    → StepsOn a (with_names a (fill a.names file))

-- nor which servers are removed: where a view is entered edges go, and intentions and wishes change
abbrev pub ViewsAreSteps : Type 0
ViewsAreSteps = (a : Store) (server : ℕ) → StepsOn a (enter a server)

-- ---- an answer

-- to whichever tag, along an edge or not
abbrev pub AnswersAreTaken : Type 0
AnswersAreTaken = (along : Along) (s : ℕ) (a : Store) (from : ℕ) (ends : Ends) (k : Key) (tag : ℕ)
    → Rule (cells_in along) s a (acknowledge a ends.file (link_of from ends) k tag)
    (saying from s (message.Ack ends k tag)) []

-- ---- what is sent

-- where what was sent before may be sent, so may what comes behind it
abbrev pub MaySendMore : (Store → Work → Work) → Type 0
MaySendMore sending =
    (along : Along) (n s : ℕ) (a b : Store) (heard : Saying Slot Cell) (work : Work)
    → IsWhole n s b → HasSoundTags (cells_in along) b
    → AllMay (cells_in along) s a b heard work.sent
    → AllMay (cells_in along) s a b heard (sending b work).sent

abbrev pub TicksMaySend : Type 0
TicksMaySend = MaySendMore tick

abbrev pub EndsMaySend : Type 0
EndsMaySend = MaySendMore finish

-- what the edges do not read may always be sent
abbrev pub OthersMayBeSent : Type 0
OthersMayBeSent = (along : Along) (s : ℕ) (a b : Store) (heard : Saying Slot Cell) (ms : List Sent)
    → All (λ m. says m ≡ Other) ms → AllMay (cells_in along) s a b heard ms

-- ---- whole servers

abbrev pub StaysWhole : (Store → Store) → Type 0
StaysWhole piece = (n s : ℕ) (a : Store) → IsWhole n s a → IsWhole n s (piece a)

abbrev pub PlacesLeaveWhole : Type 0
PlacesLeaveWhole = (file : FileId) (place : Place) → StaysWhole (λ a. take_place a file place)

abbrev pub FlagsLeaveWhole : Type 0
FlagsLeaveWhole = (file : FileId) (flag : Flag) → StaysWhole (λ a. take_flag a file flag)

abbrev pub EntriesLeaveWhole : Type 0
EntriesLeaveWhole =
    (dir : FileId) (e : Entry) → is_dir dir ≡ true → StaysWhole (λ a. take_entry a dir e)

abbrev pub VersionsLeaveWhole : Type 0
VersionsLeaveWhole = (file : FileId) (v : VersionValue) → StaysWhole (λ a. take_version a file v)

-- a version is made of a file that is held
abbrev pub WritesLeaveWhole : Type 0
WritesLeaveWhole = (file : FileId) (stamp : Stamp) (ranges : RangesValue) (n s : ℕ) (a : Store)
    → is_held a file ≡ true → IsWhole n s a → IsWhole n s (write a file stamp ranges)

abbrev pub AnswersLeaveWhole : Type 0
AnswersLeaveWhole = (from : ℕ) (ends : Ends) (k : Key) (tag : ℕ)
    → StaysWhole (λ a. acknowledge a ends.file (link_of from ends) k tag)

abbrev pub RulesLeaveWhole : Type 0
RulesLeaveWhole = (work : Work) → StaysWhole (λ a. (settle a work).store)

abbrev pub LinksLeaveWhole : Type 0
LinksLeaveWhole = (n s : ℕ) (a : Store) (file : FileId) (peer birth : ℕ) → IsOther n s peer
    → IsWhole n s a → IsWhole n s (link a file peer birth)

abbrev pub UnlinksLeaveWhole : Type 0
UnlinksLeaveWhole =
    (file : FileId) (peer birth : ℕ) → StaysWhole (λ a. unlink a file peer birth)

-- of what was not held, with flags that are by server
abbrev pub BeginningsLeaveWhole : Type 0
BeginningsLeaveWhole = (n s : ℕ) (a : Store) (file : FileId) (birth : ℕ) (policy : Policy)
    (own : Attributes) (full : Bool) → is_held a file ≡ false → IsByServer own.flags
    → IsWhole n s a → IsWhole n s (begin a file birth policy own full)

-- a replica goes
abbrev pub GoingsLeaveWhole : Type 0
GoingsLeaveWhole = (file : FileId) → StaysWhole (λ a. let_go a file)

-- where nothing changes but what stands beside, and Patches are for directories
abbrev pub WhatIsBesideLeavesWhole : Type 0
WhatIsBesideLeavesWhole = (n s : ℕ) (a b : Store) → AreAlike a b → PatchesAreForDirs b
    → IsWhole n s a → IsWhole n s b

abbrev pub FillingLeavesWhole : Type 0
FillingLeavesWhole = (file : FileId) → StaysWhole (λ a. with_names a (fill a.names file))

abbrev pub ViewsLeaveWhole : Type 0
ViewsLeaveWhole = (server : ℕ) → StaysWhole (λ a. enter a server)

-- ---- the start of a run of so many servers

abbrev pub StartsWhole : Type 0
StartsWhole = (n s : ℕ) → IsWhole n s (new_store n s) × HasSoundTags cells (new_store n s)

abbrev pub StartKeepsEdges : Type 0
StartKeepsEdges = (n : ℕ) → KeepsEdges cells (new_store n) []
