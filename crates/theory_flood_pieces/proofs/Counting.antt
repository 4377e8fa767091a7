-- Births that count as over for one event: what a server does without letting a replica go are
-- steps whichever do, and in the end it is what stores say of births.
use Rattle.std.proofs.Common.{ℕ, ◌≡◌, true, false, List, Option, None, Some, option_map, sym, ap, ◌∙◌, eq-eqb, inl, inr}
use Rattle.std.proofs.lemmas.Bool.{false≢true}
use Rattle.std.proofs.lemmas.List.Elements.{All-weaker}
use Rattle.std.proofs.lemmas.Option.{none-some, same_Some}
use Rattle.pg_base.specs.declared.id.FileId.{FileId}
use Rattle.theory_flood.specs.Promises.{Saying}
use Rattle.theory_flood.specs.Promises.Saying.{AckTo, CellFor, Other}
use Rattle.theory_flood.specs.Protocol.{Covers, IsSound}
use Rattle.theory_flood.specs.Server.{Replica as Seen, Slot}
use Rattle.theory_flood.proofs.Steps.{HasSoundTags, May, Steps}
use Rattle.pg_entries.specs.declared.cell.Cell.{Cell}
use Rattle.pg_cells.specs.pg_msg.declared.message.Sent.{Sent}
use Rattle.pg_cells.specs.pg_replica.declared.replica.Replica.{Replica}
use Rattle.pg_cells.specs.pg_replica.Replicas.{is_of_birth}
use Rattle.pg_cells.specs.pg_store.declared.store.Store.{Store}
use Rattle.pg_cells.specs.pg_store.Births.{is_over}
use Rattle.pg_cells.specs.pg_store.Store.{replica_at}
use Rattle.pg_cells.specs.pg_store.Together.{BirthsMove}
use Rattle.pg_cells.proofs.pg_store.Over.{over_stays, over_tested}
use Rattle.theory_flood_pieces.specs.Laws.{EventsAreByTheRule, StepsOn}
use Rattle.theory_flood_pieces.specs.Seen.{Along, answering, at_once, cells, cells_in, in_the_end, says, seen, standing}
use Rattle.theory_flood_pieces.proofs.UpTo.{cell_further, cell_itself}

-- ---- a birth that is over is not held

ends_by : (a : Store) (f : FileId) (o : Option Replica) (n : ℕ) (x : Seen Cell) → is_of_birth o n ≡ false
    → option_map (seen a f) o ≡ Some x → x.birth ≡ n → ⊥
ends_by a f None n x away is same = none-some x is
ends_by a f (Some y) n x away is same =
    let it : seen a f y ≡ x = same_Some (seen a f y) x is in
    false≢true (sym away ∙ eq-eqb y.birth n (ap (λ (z : Seen Cell). z.birth) it ∙ same))

pub is_sound : IsSound cells
is_sound = record {
  order = record { same = cell_itself; further = cell_further };
  ends = λ a f n c x over is. ends_by a f (replica_at a f) n x ((over_tested a f n).0 over).away is;
}

-- ---- tags are the same, whatever counts as over

abbrev none : Along
none = at_once (λ file birth. false)

pub tags_between : (p q : Along) (a : Store) → HasSoundTags (cells_in p) a → HasSoundTags (cells_in q) a
tags_between p q a k = record { below = k.below; single = k.single }

pub tags_in : (along : Along) (a : Store) → HasSoundTags cells a → HasSoundTags (cells_in along) a
tags_in along a k = record { below = k.below; single = k.single }

pub tags_out : (along : Along) (a : Store) → HasSoundTags (cells_in along) a → HasSoundTags cells a
tags_out along a k = record { below = k.below; single = k.single }

-- ---- steps in which no replica goes

covers_in : (along : Along) (a b : Store) → ((q : Slot) (c : Cell) → Covers standing a q c → Covers standing b q c)
    → (q : Slot) (c : Cell) → Covers (cells_in along) a q c → Covers (cells_in along) b q c
covers_in along a b f q c (inr o) = inr o
covers_in along a b f q c (inl h) = elim (f q c (inl h)) [ inl t ↦ inl t | inr counts ↦ absurd (false≢true counts) ]

pub steps_on : (a b : Store) → Steps standing a b → StepsOn a b
steps_on a b f along = record {
  moves = record {
    tags_up = f.moves.tags_up;
    covers = covers_in along a b f.moves.covers;
    slots = f.moves.slots;
  };
  tags = λ k. tags_between none along b (f.tags (tags_between along none a k));
}

-- ---- the end of an event

stays : (a b : Store) (file : FileId) (n : ℕ) → BirthsMove a b → is_over a file n ≡ true → is_over b file n ≡ true
stays a b file n move o = (over_tested b file n).1 (over_stays a b file n move ((over_tested a file n).0 o))

may_by : (s : ℕ) (a b : Store) (late : List (Saying Slot Cell)) (heard x : Saying Slot Cell)
    → May (cells_in (in_the_end b late)) s a b heard x → May (answering late) s a b heard x
may_by s a b late heard (CellFor owner q tag c) h = h
may_by s a b late heard (AckTo owner q tag) h = h
may_by s a b late heard Other h = tt

-- WHAT IS BY THE RULE, with all that is over in the end
pub by_the_rule : EventsAreByTheRule
by_the_rule s a b late heard sent move r = record {
  onward = record {
    tags_up = r.onward.tags_up;
    covers = λ q c h. elim h [ inl t ↦ r.onward.covers q c (inl t) | inr o ↦ inr (stays a b q.file q.birth move o) ];
    owed = r.onward.owed;
  };
  free = r.free;
  notes = λ x h. inl h;
  sends =
      All-weaker (λ (m : Sent). May (cells_in (in_the_end b late)) s a b heard (says m))
      (λ (m : Sent). May (answering late) s a b heard (says m)) (λ m h. may_by s a b late heard (says m) h) sent r.sends;
}
