-- Messages that hold no more than 1,024 bytes of a body: all but Deltas and Pieces.
use Rattle.std.proofs.Common.{ℕ, ◌≡◌, Bool, true, false, not, cond, List, [], ◌∷◌, Option, None, Some, refl, sym, ap, subst, ◌∙◌}
use Rattle.std.specs.Prelude.{nat_lt}
use Rattle.std.proofs.lemmas.Bool.{false≢true}
use Rattle.std.proofs.lemmas.Map.Views.{tells_apart}
use Rattle.std.proofs.lemmas.Option.{none-some, same_Some}
use Rattle.std.specs.Ordering.{eq_by_cmp}
use Rattle.pg_run.proofs.pg_base.Orders.{stamp_exact}
use Rattle.pg_run.specs.pg_base.declared.stamp.Stamp.{Stamp}
use Rattle.pg_run.specs.pg_base.Stamp.{stamp_cmp}
use Rattle.pg_run.specs.pg_base.Version.{VersionValue}
use Rattle.pg_run.specs.pg_content.Content.{head_at}
use Rattle.pg_run.specs.pg_entries.declared.cell.Cell.{Cell}
use Rattle.pg_run.specs.pg_entries.declared.cell.Cell.TheVariants as cell
use Rattle.pg_run.specs.pg_entries.declared.entry.Entry.{Entry}
use Rattle.pg_run.specs.pg_intent.declared.intent.Intent.{Intent}
use Rattle.pg_run.specs.pg_intent.declared.intent.Intent.TheVariants as intent
use Rattle.pg_run.specs.pg_msg.declared.message.Ends.{Ends}
use Rattle.pg_run.specs.pg_msg.declared.message.Message.{Message}
use Rattle.pg_run.specs.pg_msg.declared.message.Message.TheVariants as message
use Rattle.pg_run.specs.pg_base.declared.id.FileId.{FileId}
use Rattle.pg_run.specs.pg_names.declared.attributes.Attributes.{Attributes}
use Rattle.pg_run.specs.pg_names.Names.{cell_at, own_at}
use Rattle.pg_run.specs.pg_store.declared.store.Store.{Store}
use Rattle.pg_run.specs.pg_cells.Sending.{told_as}
use Rattle.pg_run.specs.pg_intentions.Requests.{confirm_message, leave_message, request}
use Rattle.pg_run.proofs.theory_flood_pieces.Choices.{decided}
use Rattle.pg_run.proofs.Sends.{is_plain}

-- a version that is told whole has at most 1,024 bytes; parts of bodies are none
abbrev pub is_short : Message → Bool
is_short (message.Cell ends tag (cell.Version v)) = not (nat_lt 1024 v.head.length)
is_short (message.Delta ends d) = false
is_short (message.Piece ends p) = false
is_short _ = true

abbrev pub IsShort : Message → Type 0
IsShort m = is_short m ≡ true

-- what tells nothing of what is held
pub plain_short : (m : Message) → is_plain m ≡ true → IsShort m
plain_short (message.Cell ends tag c) h = absurd (false≢true h)
plain_short (message.Delta ends d) h = absurd (false≢true h)
plain_short (message.Piece ends p) h = absurd (false≢true h)
plain_short m h = refl

-- what tells of a cell
pub told_short : (ends : Ends) (tag : ℕ) (c : Cell) → IsShort (told_as ends tag c)
told_short ends tag (cell.Version v) =
    decided IsShort (nat_lt 1024 v.head.length) (message.Harbinger ends tag v.head)
    (message.Cell ends tag (cell.Version v)) (λ long. refl) (λ short. ap not short)
told_short ends tag (cell.Place place) = refl
told_short ends tag (cell.Flag flag) = refl
told_short ends tag (cell.Entry entry sure) = refl

-- ---- what intentions ask

confirm_short : (dir : FileId) (o : Option Entry) (m : Message) → confirm_message dir o ≡ Some m
    → IsShort m
confirm_short dir None m h = absurd (none-some m h)
confirm_short dir (Some e) m h = subst IsShort (same_Some (message.Confirm dir e) m h) refl

leave_short : (b : Store) (file : FileId) (birth : ℕ) (o : Option Attributes) (m : Message)
    → leave_message b file birth o ≡ Some m
    → IsShort m
leave_short b file birth None m h = absurd (none-some m h)
leave_short b file birth (Some own) m h = subst IsShort (same_Some _ m h) refl

pub request_short : (b : Store) (i : Intent) (m : Message) → request b i ≡ Some m → IsShort m
request_short b (intent.Bye file birth peer other) m h = subst IsShort (same_Some _ m h) refl
request_short b (intent.Seek file target) m h = subst IsShort (same_Some _ m h) refl
request_short b (intent.Fill file birth target) m h = subst IsShort (same_Some _ m h) refl
request_short b (intent.Patch dir e target) m h = subst IsShort (same_Some (message.Tell dir e) m h) refl
request_short b (intent.Confirm dir child target) m h = confirm_short dir (cell_at b.names dir child) m h
request_short b (intent.Leave file peer other) m h = leave_short b file other (own_at b.names file) m h

-- ---- heads

-- the head that stands at a stamp has it
head_by : (t : Bool) (w v : VersionValue) (vs : List VersionValue) (stamp : Stamp)
    → eq_by_cmp stamp_cmp stamp w.head.stamp ≡ t
    → (head_at vs stamp ≡ Some v → v.head.stamp ≡ stamp)
    → cond t (Some w) (head_at vs stamp) ≡ Some v
    → v.head.stamp ≡ stamp
head_by true w v vs stamp is rest e =
    ap (λ (u : VersionValue). u.head.stamp) (sym (same_Some w v e))
    ∙ sym (tells_apart stamp_exact stamp w.head.stamp is)
head_by false w v vs stamp is rest e = rest e

pub head_of_stamp : (v : VersionValue) (vs : List VersionValue) (stamp : Stamp)
    → head_at vs stamp ≡ Some v
    → v.head.stamp ≡ stamp
head_of_stamp v [] stamp e = absurd (none-some v e)
head_of_stamp v (w ∷ vs) stamp e =
    head_by (eq_by_cmp stamp_cmp stamp w.head.stamp) w v vs stamp refl (head_of_stamp v vs stamp) e
