-- What is said of a message that is sent.
use Rattle.std.proofs.Common.{ℕ, ◌≡◌, Option, Some, subst}
use Rattle.std.proofs.lemmas.Option.{none-some, same_Some}
use Rattle.pg_run.specs.pg_base.declared.id.FileId.{FileId}
use Rattle.pg_run.specs.pg_msg.declared.message.Ends.{Ends}
use Rattle.pg_run.specs.pg_msg.declared.message.Message.{Message}
use Rattle.pg_run.specs.pg_msg.declared.message.Message.TheVariants as message
use Rattle.pg_run.specs.pg_msg.declared.message.Sent.{Sent}
use Rattle.pg_run.specs.pg_register.declared.flag.Flag.{Flag}
use Rattle.pg_run.specs.Births.{AllNamed, ends_named}
use Rattle.law_order.proofs.law_frame.Keeps.{along, linking}
use Rattle.law_births.specs.Flags.{SaysMessage}

-- a flag of a birth of which this holds
abbrev pub OfBirths : (FileId → ℕ → ℕ → Type 0) → FileId → Flag → Type 0
OfBirths P f flag = P f flag.server flag.birth

-- of births that are gone this is said, and of flags what was said before
abbrev pub SaysAll : (FileId → Flag → Type 0) → (FileId → ℕ → Type 0) → Message → Type 0
SaysAll Q G (message.Gone file birth) = G file birth
SaysAll Q G (message.Bye ends) = G ends.file ends.sender
SaysAll Q G m = SaysMessage Q m

-- a Bye that is owed names births that were given out, and its own is gone
abbrev pub Owed : (FileId → ℕ → ℕ → Type 0) → (FileId → ℕ → Type 0) → ℕ → FileId → ℕ → ℕ → ℕ → Type 0
Owed P G s file birth peer peer_birth = (P file s birth × P file peer peer_birth) × G file birth

-- a message that was sent by server s
abbrev pub SaysSent : (FileId → ℕ → ℕ → Type 0) → (FileId → Flag → Type 0) → (FileId → ℕ → Type 0) → ℕ → Sent → Type 0
SaysSent P Q G s m = AllNamed P s m.to m.packet.message × (SaysAll Q G m.packet.message × (m.packet.from ≡ s))

-- so all is said that is said of flags
pub says_of : (Q : FileId → Flag → Type 0) (G : FileId → ℕ → Type 0) (m : Message) → SaysAll Q G m → SaysMessage Q m
says_of Q G (message.Gone file birth) says = tt
says_of Q G (message.Bye ends) says = tt
says_of Q G m says = says

-- and a message along an edge names the births at both ends
module _ (P : FileId → ℕ → ℕ → Type 0) (from to : ℕ) where
  same_ends : (x ends : Ends) → ◌≡◌ {A = Option Ends} (Some x) (Some ends) → ends_named P from to x → ends_named P from to ends
  same_ends x ends same named = subst (ends_named P from to) (same_Some x ends same) named

  pub along_named : (m : Message) → AllNamed P from to m → (ends : Ends) → along m ≡ Some ends → ends_named P from to ends
  along_named (message.Cell x tag c) named ends is = same_ends x ends is named
  along_named (message.Ack x q tag) named ends is = same_ends x ends is named
  along_named (message.Harbinger x tag head) named ends is = same_ends x ends is named
  along_named (message.Want x wanted) named ends is = same_ends x ends is named
  along_named (message.Delta x delta) named ends is = same_ends x ends is named
  along_named (message.Piece x piece) named ends is = same_ends x ends is named
  along_named (message.Later x stamp) named ends is = same_ends x ends is named
  along_named (message.Grant x g) named ends is = same_ends x ends is named
  along_named (message.Full x) named ends is = same_ends x ends is named
  along_named (message.Greet x why) named ends is = same_ends x ends is named
  along_named (message.Bye x) named ends is = same_ends x ends is named
  along_named (message.Leave x stamp) named ends is = same_ends x ends is named
  along_named (message.LeaveOk x stamp) named ends is = same_ends x ends is named
  along_named (message.Invite x) named ends is = same_ends x ends is named
  along_named (message.Walk x origin birth hops word) named ends is = same_ends x ends is named.0
  along_named m named ends is = absurd (none-some ends is)

  -- and one that links its sender the birth of that
  same_pair : (x y : FileId × ℕ) → ◌≡◌ {A = Option (FileId × ℕ)} (Some x) (Some y) → P x.0 from x.1 → P y.0 from y.1
  same_pair x y same named = subst (λ (z : FileId × ℕ). P z.0 from z.1) (same_Some x y same) named

  pub linking_named : (m : Message) → AllNamed P from to m → (x : FileId × ℕ) → linking m ≡ Some x → P x.0 from x.1
  linking_named (message.Cell e tag c) named x is = same_pair (e.file, e.sender) x is named.0
  linking_named (message.Harbinger e tag head) named x is = same_pair (e.file, e.sender) x is named.0
  linking_named (message.Grant e g) named x is = same_pair (e.file, e.sender) x is named.0
  linking_named (message.Greet e why) named x is = same_pair (e.file, e.sender) x is named.0
  linking_named (message.Leave e stamp) named x is = same_pair (e.file, e.sender) x is named.0
  linking_named (message.Fetch file birth) named x is = same_pair (file, birth) x is named
  linking_named (message.Seek file birth) named x is = same_pair (file, birth) x is named
  linking_named m named x is = absurd (none-some x is)
