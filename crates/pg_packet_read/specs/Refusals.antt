-- What each refusal says.
use Rattle.std.specs.Prelude.{List, [], ◌∷◌, Ok}
use Rattle.pg_base.specs.Id.{Fits}
use Rattle.pg_call.specs.pg_intent.declared.kind.IntentKind.TheVariants as intent
use Rattle.pg_call.specs.declared.refusal.Refusal.{Refusal}
use Rattle.pg_call.specs.declared.refusal.Refusal.TheVariants as refusal
use Rattle.pg_call.specs.declared.refusal.Unsettled.{Unsettled}
use Rattle.pg_call.specs.declared.refusal.Unsettled.TheVariants as unsettled
use Rattle.pg_codec.specs.Laws.{Any, HasStampWidth, HasWidth}
use Rattle.pg_codec.specs.Reading.{Field, ◌>>=◌, followed_by, seen_as, file_at, number_at, stamp_at}
use Rattle.pg_packet_fields.specs.Faults.{of_packet}
use Rattle.pg_packet_fields.specs.declared.error.PacketError.{PacketError}
use Rattle.pg_packet_read.specs.Numbered.{item_at}
use Rattle.pg_call.specs.declared.refusal.RefusalKind.{RefusalKind}
use Rattle.pg_call.specs.declared.refusal.RefusalKind.TheVariants as kind

-- the kinds of refusals by number
abbrev pub refusal_kinds : List RefusalKind
refusal_kinds = kind.BadPath ∷ kind.ClockEnd ∷ kind.NotYet ∷ kind.NoName ∷ kind.NotDir ∷ kind.IsDir
    ∷ kind.Root ∷ kind.Exists ∷ kind.DirFull ∷ kind.NotEmpty ∷ kind.Loop ∷ kind.TooLong
    ∷ kind.Behind ∷ kind.IsGold ∷ kind.LastGold ∷ kind.HasChild ∷ kind.Unsettled ∷ kind.Held
    ∷ kind.WrongView ∷ kind.ManyActors ∷ []

-- what may be unsettled, by number
abbrev pub unsettleds : List Unsettled
unsettleds = unsettled.Intent intent.Bye ∷ unsettled.Intent intent.Seek
    ∷ unsettled.Intent intent.Fill ∷ unsettled.Intent intent.Patch
    ∷ unsettled.Intent intent.Confirm ∷ unsettled.Intent intent.Leave ∷ unsettled.Cell ∷ []

-- the values of the refusal in their order
unfoldable pub reason_at : RefusalKind → Field PacketError Refusal
reason_at kind.BadPath from = seen_as (λ x. refusal.BadPath x) (of_packet (number_at 1)) from
reason_at kind.ClockEnd from = Ok (refusal.ClockEnd, from)
reason_at kind.NotYet from = seen_as (λ x. refusal.NotYet x) (of_packet file_at) from
reason_at kind.NoName from = seen_as (λ x. refusal.NoName x) (of_packet (number_at 1)) from
reason_at kind.NotDir from = seen_as (λ x. refusal.NotDir x) (of_packet (number_at 1)) from
reason_at kind.IsDir from = Ok (refusal.IsDir, from)
reason_at kind.Root from = Ok (refusal.Root, from)
reason_at kind.Exists from = seen_as (λ x. refusal.Exists x) (of_packet file_at) from
reason_at kind.DirFull from = Ok (refusal.DirFull, from)
reason_at kind.NotEmpty from = seen_as (λ x. refusal.NotEmpty x) (of_packet file_at) from
reason_at kind.Loop from = Ok (refusal.Loop, from)
reason_at kind.TooLong from = Ok (refusal.TooLong, from)
reason_at kind.Behind from = seen_as (λ x. refusal.Behind x) (of_packet stamp_at) from
reason_at kind.IsGold from = Ok (refusal.IsGold, from)
reason_at kind.LastGold from = Ok (refusal.LastGold, from)
reason_at kind.HasChild from = seen_as (λ x. refusal.HasChild x) (of_packet file_at) from
reason_at kind.Unsettled from = seen_as (λ x. refusal.Unsettled x.0 x.1.0 x.1.1)
    (followed_by (item_at unsettleds)
    (λ what. followed_by (of_packet file_at) (λ id. of_packet (number_at 4)))) from
reason_at kind.Held from = Ok (refusal.Held, from)
reason_at kind.WrongView from = seen_as (λ x. refusal.WrongView x) (of_packet (number_at 8)) from
reason_at kind.ManyActors from = Ok (refusal.ManyActors, from)

-- the number of the refusal, and its values
unfoldable pub refusal_at : Field PacketError Refusal
refusal_at from = item_at refusal_kinds from >>= λ kind. reason_at kind.0 kind.1

-- what can be read
abbrev pub IsWholeRefusal : Refusal → Type 0
IsWholeRefusal (refusal.BadPath component) = HasWidth 1 component
IsWholeRefusal refusal.ClockEnd = Unit {0}
IsWholeRefusal (refusal.NotYet id) = Fits id
IsWholeRefusal (refusal.NoName component) = HasWidth 1 component
IsWholeRefusal (refusal.NotDir component) = HasWidth 1 component
IsWholeRefusal refusal.IsDir = Unit {0}
IsWholeRefusal refusal.Root = Unit {0}
IsWholeRefusal (refusal.Exists id) = Fits id
IsWholeRefusal refusal.DirFull = Unit {0}
IsWholeRefusal (refusal.NotEmpty id) = Fits id
IsWholeRefusal refusal.Loop = Unit {0}
IsWholeRefusal refusal.TooLong = Unit {0}
IsWholeRefusal (refusal.Behind stamp) = HasStampWidth stamp
IsWholeRefusal refusal.IsGold = Unit {0}
IsWholeRefusal refusal.LastGold = Unit {0}
IsWholeRefusal (refusal.HasChild id) = Fits id
IsWholeRefusal (refusal.Unsettled what id peer) = Any what × (Fits id × HasWidth 4 peer)
IsWholeRefusal refusal.Held = Unit {0}
IsWholeRefusal (refusal.WrongView view) = HasWidth 8 view
IsWholeRefusal refusal.ManyActors = Unit {0}
