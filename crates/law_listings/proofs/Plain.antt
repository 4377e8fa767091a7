-- Messages that tell of no place, and works that send no other.
use Rattle.std.proofs.Common.{ℕ, ◌≡◌, List, [], ◌∷◌, Some, refl, All, ◌==◌, ◌/◌, ◌%◌, true, length, slice_get, Option, None}
use Rattle.std.proofs.lemmas.List.Elements.{All-append, All-cons, All-nil}
use Rattle.pg_run.specs.pg_base.declared.id.FileId.{FileId}
use Rattle.theory_listing.specs.World.Saying.{Other}
use Rattle.pg_run.specs.pg_msg.declared.message.Message.{Message}
use Rattle.pg_run.specs.pg_msg.declared.message.Message.TheVariants as message
use Rattle.pg_run.specs.pg_msg.declared.message.Sent.{Sent}
use Rattle.pg_run.specs.pg_msg.declared.work.Work.{Work}
use Rattle.pg_run.specs.pg_msg.Work.{new_work}
use Rattle.pg_run.specs.pg_edges.declared.edge.Edge.{Edge}
use Rattle.pg_run.specs.pg_names.declared.attributes.Attributes.{Attributes}
use Rattle.pg_run.specs.pg_names.Names.{own_at}
use Rattle.pg_run.proofs.theory_flood_pieces.Choices.{chosen}
use Rattle.pg_run.specs.pg_store.declared.store.Store.{Store}
use Rattle.pg_run.specs.pg_store.Births.{birth_of}
use Rattle.pg_run.specs.pg_store.Seen.{server_of}
use Rattle.pg_run.specs.pg_pieces.Posting.{sent_to}
use Rattle.law_listings.specs.Letters.{says}
use Rattle.pg_run.specs.pg_pieces.Accepting.{ends_to}
use Rattle.pg_run.specs.pg_graph.Walks.{edges_of, most_hops, walk_along, walk_from, walk_of, walk_of_tick, with_few_edges}
use Rattle.pg_run.proofs.Sends.{is_plain}
use Rattle.std.proofs.lemmas.Bool.{false≢true}

-- a LeaveOk is from the server that held this, and tells the stamp of the place that it had
abbrev pub IsStamped : Store → ℕ → Message → Type 0
IsStamped a from (message.LeaveOk ends stamp) =
    (from ≡ server_of a) × ((own : Attributes) × (own_at a.names ends.file ≡ Some own) × (own.place.stamp ≡ stamp))
IsStamped a from _ = Unit {0}

abbrev pub IsSentStamped : Store → Sent → Type 0
IsSentStamped a x = IsStamped a x.packet.from x.packet.message

-- a message tells of no place, whatever its sender held
abbrev pub IsPlain : Message → Type 0
IsPlain m = (a : Store) (from : ℕ) → (says a m ≡ Other) × IsStamped a from m

abbrev pub IsOther : Sent → Type 0
IsOther m = IsPlain m.packet.message

abbrev pub Others : List Sent → Type 0
Others ms = All IsOther ms

-- what is sent, and what is sent last
abbrev pub SendsOthers : Work → Type 0
SendsOthers work = Others work.sent × Others work.tail

pub none : SendsOthers (new_work 0 0)
none = (All-nil IsOther, All-nil IsOther)

-- what tells nothing of what is held tells of no place
plain_is : (m : Message) → is_plain m ≡ true → IsPlain m
plain_is (message.Later ends stamp) h = λ a from. (refl, tt)
plain_is (message.Fetch file birth) h = λ a from. (refl, tt)
plain_is (message.Grant ends granted) h = λ a from. (refl, tt)
plain_is (message.NoGrant file birth) h = λ a from. (refl, tt)
plain_is (message.Full ends) h = λ a from. (refl, tt)
plain_is (message.Greet ends why) h = λ a from. (refl, tt)
plain_is (message.NoneHere what file child) h = λ a from. (refl, tt)
plain_is (message.Gone file birth) h = λ a from. (refl, tt)
plain_is (message.Invite ends) h = λ a from. (refl, tt)
plain_is (message.Walk ends origin birth hops word) h = λ a from. (refl, tt)
plain_is m h = absurd (false≢true h)

pub other : (m : Sent) → is_plain m.packet.message ≡ true → IsOther m
other m h = plain_is m.packet.message h

-- ---- the walk of a tick

-- what is sent stays, and last goes at most such a message
abbrev pub LastOthers : Work → Work → Type 0
LastOthers v w = (w.sent ≡ v.sent) × (Others v.tail → Others w.tail)

along_last : (a : Store) (f : FileId) (origin birth hops word : ℕ) (work : Work) (o : Option Edge) → LastOthers work (walk_along a f origin birth hops word work o)
along_last a f origin birth hops word work None = (refl, λ k. k)
along_last a f origin birth hops word work (Some e) =
    let m = sent_to a e.peer (message.Walk (ends_to a f e.birth) origin birth hops word) in
    (refl, λ k. All-append IsOther work.tail (m ∷ []) k (All-cons IsOther m [] (λ b from. (refl, tt)) (All-nil IsOther)))

from_last : (a : Store) (word : ℕ) (work : Work) (o : Option FileId) → LastOthers work (walk_from a word work o)
from_last a word work None = (refl, λ k. k)
from_last a word work (Some f) =
    let edges = edges_of a f in
    along_last a f (server_of a) (birth_of a f) most_hops (word / length edges) work (slice_get edges (word % length edges))

-- of a tick
pub tick_last : (a : Store) (word : ℕ) (work : Work) → LastOthers work (walk_of_tick a word work)
tick_last a word work =
    let files = with_few_edges a in
    chosen (LastOthers work) (word == 0) work (walk_of a word files work) (refl, λ k. k)
    (from_last a (word / length files) work (slice_get files (word % length files)))
