-- Refusals are fields, kind by kind; each clause for a `k` stands for all kinds that are not named above it.
use Rattle.std.proofs.Common.{◌≡◌, ℕ, List, [], ◌++◌, Ok, Some, refl, sym, arith}
use Rattle.std.proofs.lemmas.List.{append-nil}
use Rattle.pg_base.specs.declared.id.FileId.{FileId}
use Rattle.pg_base.specs.declared.stamp.Stamp.{Stamp}
use Rattle.pg_call.specs.pg_intent.declared.kind.IntentKind.TheVariants as intent
use Rattle.pg_call.specs.declared.refusal.Refusal.{Refusal}
use Rattle.pg_call.specs.declared.refusal.Refusal.TheVariants as refusal
use Rattle.pg_call.specs.declared.refusal.Unsettled.{Unsettled}
use Rattle.pg_call.specs.declared.refusal.Unsettled.TheVariants as unsettled
use Rattle.pg_codec.specs.Laws.{Any, HasWidth, IsField}
use Rattle.pg_codec.specs.Reading.{Field, followed_by, seen_as, file_at, number_at, stamp_at}
use Rattle.pg_codec.specs.Spelling.{file_bytes, number_bytes, stamp_bytes}
use Rattle.pg_packet_write.specs.Calls.{refusal_bytes, unsettled_number}
use Rattle.pg_packet_fields.specs.Faults.{of_packet}
use Rattle.pg_packet_fields.specs.declared.error.PacketError.{PacketError}
use Rattle.pg_packet_fields.proofs.Joining.{chosen_is, then_is}
use Rattle.pg_packet_fields.proofs.EachKind.{of_kinds}
use Rattle.pg_packet_fields.proofs.Plain.{byte_is, file_is, narrow_is, stamp_is, wide_is}
use Rattle.pg_packet_read.specs.Numbered.{item_at, numbered}
use Rattle.pg_packet_read.specs.Refusals.{IsWholeRefusal, reason_at, refusal_at, refusal_kinds, unsettleds}
use Rattle.pg_call.specs.declared.refusal.RefusalKind.{RefusalKind}
use Rattle.pg_call.specs.declared.refusal.RefusalKind.TheVariants as kind
use Rattle.pg_packet_read.proofs.Items.{alone_is, item_is}

-- ---- numbers

abbrev refusal_number : RefusalKind → ℕ
refusal_number kind.BadPath = 1
refusal_number kind.ClockEnd = 2
refusal_number kind.NotYet = 3
refusal_number kind.NoName = 4
refusal_number kind.NotDir = 5
refusal_number kind.IsDir = 6
refusal_number kind.Root = 7
refusal_number kind.Exists = 8
refusal_number kind.DirFull = 9
refusal_number kind.NotEmpty = 10
refusal_number kind.Loop = 11
refusal_number kind.TooLong = 12
refusal_number kind.Behind = 13
refusal_number kind.IsGold = 14
refusal_number kind.LastGold = 15
refusal_number kind.HasChild = 16
refusal_number kind.Unsettled = 17
refusal_number kind.Held = 18
refusal_number kind.WrongView = 19
refusal_number kind.ManyActors = 20

there : (k : RefusalKind) → numbered refusal_kinds (refusal_number k) ≡ Some k
there kind.BadPath = refl
there k = refl

small : (k : RefusalKind) → HasWidth 1 (refusal_number k)
small kind.BadPath = omega arith
small k = omega arith

kind_field : IsField Any (λ k. number_bytes 1 (refusal_number k)) (item_at refusal_kinds)
kind_field = item_is refusal_kinds refusal_number refl there small

unsettled_there : (u : Unsettled) → numbered unsettleds (unsettled_number u) ≡ Some u
unsettled_there (unsettled.Intent intent.Bye) = refl
unsettled_there (unsettled.Intent k) = refl
unsettled_there unsettled.Cell = refl

unsettled_small : (u : Unsettled) → HasWidth 1 (unsettled_number u)
unsettled_small (unsettled.Intent intent.Bye) = omega arith
unsettled_small (unsettled.Intent k) = omega arith
unsettled_small unsettled.Cell = omega arith

unsettled_field : IsField Any (λ u. number_bytes 1 (unsettled_number u)) (item_at unsettleds)
unsettled_field = item_is unsettleds unsettled_number refl unsettled_there unsettled_small

-- ---- refusals

abbrev kind_of : Refusal → RefusalKind
kind_of (refusal.BadPath component) = kind.BadPath
kind_of refusal.ClockEnd = kind.ClockEnd
kind_of (refusal.NotYet id) = kind.NotYet
kind_of (refusal.NoName component) = kind.NoName
kind_of (refusal.NotDir component) = kind.NotDir
kind_of refusal.IsDir = kind.IsDir
kind_of refusal.Root = kind.Root
kind_of (refusal.Exists id) = kind.Exists
kind_of refusal.DirFull = kind.DirFull
kind_of (refusal.NotEmpty id) = kind.NotEmpty
kind_of refusal.Loop = kind.Loop
kind_of refusal.TooLong = kind.TooLong
kind_of (refusal.Behind stamp) = kind.Behind
kind_of refusal.IsGold = kind.IsGold
kind_of refusal.LastGold = kind.LastGold
kind_of (refusal.HasChild id) = kind.HasChild
kind_of (refusal.Unsettled what id peer) = kind.Unsettled
kind_of refusal.Held = kind.Held
kind_of (refusal.WrongView view) = kind.WrongView
kind_of refusal.ManyActors = kind.ManyActors

-- what stands behind the number
abbrev behind : Refusal → List ℕ
behind (refusal.BadPath component) = number_bytes 1 component
behind refusal.ClockEnd = []
behind (refusal.NotYet id) = file_bytes id
behind (refusal.NoName component) = number_bytes 1 component
behind (refusal.NotDir component) = number_bytes 1 component
behind refusal.IsDir = []
behind refusal.Root = []
behind (refusal.Exists id) = file_bytes id
behind refusal.DirFull = []
behind (refusal.NotEmpty id) = file_bytes id
behind refusal.Loop = []
behind refusal.TooLong = []
behind (refusal.Behind stamp) = stamp_bytes stamp
behind refusal.IsGold = []
behind refusal.LastGold = []
behind (refusal.HasChild id) = file_bytes id
behind (refusal.Unsettled what id peer) = number_bytes 1 (unsettled_number what) ++ (file_bytes id ++ number_bytes 4 peer)
behind refusal.Held = []
behind (refusal.WrongView view) = number_bytes 8 view
behind refusal.ManyActors = []

spelled : (r : Refusal) → refusal_bytes r ≡ number_bytes 1 (refusal_number (kind_of r)) ++ behind r
unfolding refusal_bytes
spelled refusal.ClockEnd = sym (append-nil (number_bytes 1 2))
spelled refusal.IsDir = sym (append-nil (number_bytes 1 6))
spelled refusal.Root = sym (append-nil (number_bytes 1 7))
spelled refusal.DirFull = sym (append-nil (number_bytes 1 9))
spelled refusal.Loop = sym (append-nil (number_bytes 1 11))
spelled refusal.TooLong = sym (append-nil (number_bytes 1 12))
spelled refusal.IsGold = sym (append-nil (number_bytes 1 14))
spelled refusal.LastGold = sym (append-nil (number_bytes 1 15))
spelled refusal.Held = sym (append-nil (number_bytes 1 18))
spelled refusal.ManyActors = sym (append-nil (number_bytes 1 20))
spelled r = refl

abbrev Parts : RefusalKind → Type 0
Parts kind.BadPath = ℕ
Parts kind.NotYet = FileId
Parts kind.NoName = ℕ
Parts kind.NotDir = ℕ
Parts kind.Exists = FileId
Parts kind.NotEmpty = FileId
Parts kind.Behind = Stamp
Parts kind.HasChild = FileId
Parts kind.Unsettled = Unsettled × (FileId × ℕ)
Parts kind.WrongView = ℕ
Parts k = Unit {0}

abbrev made : (k : RefusalKind) → Parts k → Refusal
made kind.BadPath x = refusal.BadPath x
made kind.ClockEnd x = refusal.ClockEnd
made kind.NotYet x = refusal.NotYet x
made kind.NoName x = refusal.NoName x
made kind.NotDir x = refusal.NotDir x
made kind.IsDir x = refusal.IsDir
made kind.Root x = refusal.Root
made kind.Exists x = refusal.Exists x
made kind.DirFull x = refusal.DirFull
made kind.NotEmpty x = refusal.NotEmpty x
made kind.Loop x = refusal.Loop
made kind.TooLong x = refusal.TooLong
made kind.Behind x = refusal.Behind x
made kind.IsGold x = refusal.IsGold
made kind.LastGold x = refusal.LastGold
made kind.HasChild x = refusal.HasChild x
made kind.Unsettled x = refusal.Unsettled x.0 x.1.0 x.1.1
made kind.Held x = refusal.Held
made kind.WrongView x = refusal.WrongView x
made kind.ManyActors x = refusal.ManyActors

abbrev parts_at : (k : RefusalKind) → Field PacketError (Parts k)
parts_at kind.BadPath = of_packet (number_at 1)
parts_at kind.NotYet = of_packet file_at
parts_at kind.NoName = of_packet (number_at 1)
parts_at kind.NotDir = of_packet (number_at 1)
parts_at kind.Exists = of_packet file_at
parts_at kind.NotEmpty = of_packet file_at
parts_at kind.Behind = of_packet stamp_at
parts_at kind.HasChild = of_packet file_at
parts_at kind.Unsettled = followed_by (item_at unsettleds) (λ what. followed_by (of_packet file_at) (λ id. of_packet (number_at 4)))
parts_at kind.WrongView = of_packet (number_at 8)
parts_at k = λ from. Ok (tt, from)

kind_made : (k : RefusalKind) (x : Parts k) → kind_of (made k x) ≡ k
kind_made kind.BadPath x = refl
kind_made k x = refl

parts_of : (r : Refusal) → (x : Parts (kind_of r)) × (made (kind_of r) x ≡ r)
parts_of (refusal.BadPath component) = (component, refl)
parts_of (refusal.NotYet id) = (id, refl)
parts_of (refusal.NoName component) = (component, refl)
parts_of (refusal.NotDir component) = (component, refl)
parts_of (refusal.Exists id) = (id, refl)
parts_of (refusal.NotEmpty id) = (id, refl)
parts_of (refusal.Behind stamp) = (stamp, refl)
parts_of (refusal.HasChild id) = (id, refl)
parts_of (refusal.Unsettled what id peer) = ((what, (id, peer)), refl)
parts_of (refusal.WrongView view) = (view, refl)
parts_of r = (tt, refl)

fields : (k : RefusalKind) → IsField (λ (x : Parts k). IsWholeRefusal (made k x)) (λ (x : Parts k). behind (made k x)) (parts_at k)
fields kind.BadPath = byte_is
fields kind.NotYet = file_is
fields kind.NoName = byte_is
fields kind.NotDir = byte_is
fields kind.Exists = file_is
fields kind.NotEmpty = file_is
fields kind.Behind = stamp_is
fields kind.HasChild = file_is
fields kind.Unsettled = then_is unsettled_field (then_is file_is narrow_is)
fields kind.WrongView = wide_is
fields k = alone_is

abbrev IsOf : RefusalKind → Refusal → Type 0
IsOf k r = IsWholeRefusal r × (kind_of r ≡ k)

each : (k : RefusalKind) → IsField (IsOf k) behind (seen_as (made k) (parts_at k))
each k = of_kinds kind_of IsWholeRefusal behind Parts made parts_at kind_made parts_of fields k

reason_is : (k : RefusalKind) → IsField (IsOf k) behind (reason_at k)
unfolding reason_at
reason_is kind.BadPath = each kind.BadPath
reason_is k = each k

pub refusal_field : IsField IsWholeRefusal refusal_bytes refusal_at
unfolding refusal_at
refusal_field = chosen_is kind_of Any (λ k. number_bytes 1 (refusal_number k)) (item_at refusal_kinds) IsWholeRefusal refusal_bytes behind (λ place. reason_at) kind_field
    (λ r fits. tt) spelled (λ place. reason_is)
