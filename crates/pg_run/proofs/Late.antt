-- What may be answered late a harbinger said; and what it tells is a version by its head.
use Rattle.std.proofs.Common.{ℕ, ◌≡◌, List, refl, sym, ap, subst, ◌∙◌, inl, inr}
use Rattle.std.specs.Prelude.{Contains}
use Rattle.pg_base.specs.declared.head.Head.{Head}
use Rattle.pg_content.specs.Content.{Among}
use Rattle.pg_entries.specs.declared.cell.Cell.{Cell}
use Rattle.theory_flood.specs.Noting.{SaidIn}
use Rattle.theory_flood.specs.Promises.{Saying}
use Rattle.theory_flood.specs.Promises.Saying.{CellFor, Other}
use Rattle.theory_flood.specs.Server.{Slot}
use Rattle.theory_flood_pieces.specs.Seen.{cells, head_cell, says, saying}
use Rattle.theory_flood_pieces.proofs.Sending.{harbinger_says}
use Rattle.pg_server.specs.pg_pieces.pg_msg.declared.message.Ends.{Ends}
use Rattle.pg_server.specs.pg_pieces.pg_msg.declared.message.Message.{Message}
use Rattle.pg_server.specs.pg_pieces.pg_msg.declared.message.Message.TheVariants as message
use Rattle.pg_server.specs.pg_pieces.pg_msg.declared.message.Sent.{Sent}
use Rattle.pg_run.specs.Ruled.{late_in, said_late}
use Rattle.pg_run.proofs.Lists.{among_contained, among_pieces, contained_among, pieces_among}

-- what such a message is
pub record IsHarbinger (m : Message) : Type 0 where
  pub ends : Ends
  pub tag : ℕ
  pub head : Head
  pub is : m ≡ message.Harbinger ends tag head

said_by : (m : Message) (said x : Saying Slot Cell) → Among x (said_late m said) → IsHarbinger m × (said ≡ x)
said_by (message.Harbinger ends tag head) said x h = elim h [
  | inl same ↦ (record { ends = ends; tag = tag; head = head; is = refl }, sym same)
  | inr none ↦ absurd none
]
said_by m said x h = absurd h

-- which message said it
pub late_said : (mail : List Sent) (x : Saying Slot Cell) → Contains (late_in mail) x
    → (m : Sent) × Contains mail m × IsHarbinger m.packet.message × (says m ≡ x)
late_said mail x h =
    let p = among_pieces (λ (m : Sent). said_late m.packet.message (says m)) x mail (contained_among (late_in mail) x h) in
    let q = said_by p.0.packet.message (says p.0) x p.2 in
    (p.0, among_contained mail p.0 p.1, q.0, q.1)

-- so it was said
pub late_in_mail : (mail : List Sent) (x : Saying Slot Cell) → Contains (late_in mail) x → SaidIn cells mail x
late_in_mail mail x h = let l = late_said mail x h in (l.0, l.1, l.3)

-- and what a harbinger said may be answered
pub said_is_late : (mail : List Sent) (m : Sent) (ends : Ends) (tag : ℕ) (head : Head) → Contains mail m
    → m.packet.message ≡ message.Harbinger ends tag head → Contains (late_in mail) (says m)
said_is_late mail m ends tag head k is =
    let said = says m in
    let P : List (Saying Slot Cell) → Type 0 = λ xs. Among said xs in
    among_contained (late_in mail) said
    (pieces_among (λ (z : Sent). said_late z.packet.message (says z)) said m mail (contained_among mail m k)
    (subst (λ (z : Message). P (said_late z said)) (sym is) (inl refl)))

-- it tells of a version by its head
abbrev cell_said : Cell → Saying Slot Cell → Cell
cell_said other (CellFor o q g c) = c
cell_said other _ = other

told_by : (from to : ℕ) (m : Message) (o : ℕ) (q : Slot) (g : ℕ) (c : Cell) → IsHarbinger m
    → saying from to m ≡ CellFor o q g c → (head : Head) × (head_cell head ≡ c)
told_by from to m o q g c k says_it =
    harbinger_says (λ z. z ≡ CellFor o q g c → (head : Head) × (head_cell head ≡ c)) from to k.ends k.head k.tag
    (λ same. (k.head, ap (cell_said c) same))
    (λ same. absurd (let x : ◌≡◌ {A = Saying Slot Cell} Other (CellFor o q g c) = same in cc))
    (sym (ap (saying from to) k.is) ∙ says_it)

pub late_told : (mail : List Sent) (o : ℕ) (q : Slot) (g : ℕ) (c : Cell)
    → Contains (late_in mail) (CellFor o q g c) → (head : Head) × (head_cell head ≡ c)
late_told mail o q g c h =
    let l = late_said mail (CellFor o q g c) h in
    told_by l.0.packet.from l.0.to l.0.packet.message o q g c l.2 l.3
