-- An answer comes to a server.
use Rattle.std.proofs.Common.{ℕ, ◌≡◌, ◌==◌, [], Option, None, Some, option_map, refl, sym, ap, subst, ◌∙◌, inl}
use Rattle.std.proofs.lemmas.Bool.{eqb-true, and_parts}
use mathlib.Core.Path.{fun_ext}
use Rattle.pg_base.specs.declared.id.FileId.{FileId}
use Rattle.pg_edges.specs.declared.key.Key.{Key}
use Rattle.pg_edges.specs.Edges.{is_listed}
use Rattle.theory_flood.specs.Promises.{Saying}
use Rattle.theory_flood.specs.Promises.Saying.{AckTo}
use Rattle.theory_flood.specs.Server.{Replica as Seen, Slot, slot}
use Rattle.theory_flood.proofs.Answer.{Answers, answer_rule, answer_tags}
use Rattle.theory_flood.proofs.Sends.{none_sent}
use Rattle.theory_flood.proofs.Servers.{OthersStay}
use Rattle.theory_flood.proofs.Steps.{HasSoundTags, NotesFrom, Rule, by_steps}
use Rattle.pg_entries.specs.declared.cell.Cell.{Cell}
use Rattle.pg_cells.specs.pg_msg.declared.message.Ends.{Ends}
use Rattle.pg_cells.specs.pg_msg.declared.message.Message.TheVariants as message
use Rattle.pg_cells.specs.pg_replica.declared.replica.Replica.{Replica}
use Rattle.pg_cells.specs.pg_replica.Replica.{has_edge, with_ack}
use Rattle.pg_cells.specs.pg_replica.Replicas.{ByFile, or_nothing, put_replica, replicas_acked}
use Rattle.pg_cells.specs.pg_store.declared.store.Store.{Store}
use Rattle.pg_cells.specs.pg_store.Store.{acknowledge, content_of, replica_at}
use Rattle.pg_cells.specs.pg_pieces.Done.{link_of}
use Rattle.theory_flood_pieces.specs.Seen.{Along, cells_in, saying, see, seen}
use Rattle.theory_flood_pieces.proofs.Choices.{decided}
use Rattle.theory_flood_pieces.proofs.Counting.{steps_on}
use Rattle.theory_flood_pieces.proofs.Single.{SameSeen, same_steps}
use Rattle.theory_flood_pieces.proofs.Stores.{Changes, by_file, cell_same, plain_at, replica_elsewhere, replica_here}

pub none_noted : (along : Along) (a b : Store) (heard : Saying Slot Cell) → NotesFrom (cells_in along) a b heard
none_noted along a b heard x h = inl h

-- what an answer leaves
pub record IsAcked (along : Along) (s : ℕ) (a : Store) (heard : Saying Slot Cell) (b : Store) : Type 0 where
  pub rule : Rule (cells_in along) s a b heard []
  pub tags : HasSoundTags (cells_in along) a → HasSoundTags (cells_in along) b

abbrev with_replicas : Store → ByFile → Store
with_replicas a rs = record a { replicas = rs }

-- ---- nothing comes of it

module _ (along : Along) (s : ℕ) (a : Store) (heard : Saying Slot Cell) where
  abbrev Same : Store
  Same = with_replicas a a.replicas

  same_seen : SameSeen a Same
  same_seen = record {
    tags = refl;
    files = λ f. record { replica = refl; cells = cell_same a Same f (record { own = refl; entries = λ g. refl; content = refl }) };
  }

  nothing_acked : IsAcked along s a heard Same
  nothing_acked =
      let steps = steps_on a Same (same_steps a Same same_seen) along in
      record { rule = by_steps (cells_in along) s a Same heard [] steps (none_noted along a Same heard) (none_sent (cells_in along) s a Same heard); tags = steps.tags }

-- ---- the edge is there

module _ (along : Along) (s : ℕ) (a : Store) (file : FileId) (x : Replica) (there : replica_at a file ≡ Some x) (peer birth : ℕ) (k : Key) (g : ℕ) where
  abbrev Y : Replica
  Y = with_ack x peer birth k g

  abbrev Now : Store
  Now = with_replicas a (put_replica a.replicas file Y)

  ack_changes : Changes a Now file x Y
  ack_changes = record { old = there; replicas = refl }

  same_content : (f : FileId) → content_of Now f ≡ content_of a f
  same_content =
      by_file (λ f o. (or_nothing o).content ≡ content_of a f) a Now file x Y ack_changes
      (sym (ap (λ (o : Option Replica). (or_nothing o).content) there)) (λ f apart. refl)

  same_cells : (f : FileId) → plain_at Now f ≡ plain_at a f
  same_cells f = fun_ext (cell_same a Now f (record { own = refl; entries = λ h. refl; content = same_content f }))

  abbrev seen_with : Replica → (Key → Option Cell) → Seen Cell
  seen_with z cs = record { birth = z.birth; edges = z.edges; cells = cs }

  seen_same : (f : FileId) (o : Option Replica) → option_map (seen Now f) o ≡ option_map (seen a f) o
  seen_same f None = refl
  seen_same f (Some z) = ap (λ cs. Some (seen_with z cs)) (same_cells f)

  others : OthersStay (see a) (see Now) file
  others f apart = ap (option_map (seen Now f)) (replica_elsewhere a Now file x Y f ack_changes apart) ∙ seen_same f (replica_at a f)

  answers : Answers (cells_in along) a Now file (seen a file x) peer birth k g
  answers = record {
    old = ap (option_map (seen a file)) there;
    new = ap (option_map (seen Now file)) (replica_here a Now file x Y ack_changes) ∙ ap (λ cs. Some (seen_with Y cs)) (same_cells file);
    others = others;
    tags = refl;
    over = record { over = λ f n c h. h; taken = λ f n c h. tt };
  }

  edge_acked : (own : ℕ) → own ≡ x.birth → IsAcked along s a (AckTo s (slot file own peer birth k) g) Now
  edge_acked own same =
      let P : ℕ → Type 0 = λ n. Rule (cells_in along) s a Now (AckTo s (slot file n peer birth k) g) [] in
      record {
        rule = subst P (sym same) (answer_rule (cells_in along) s a Now file (seen a file x) peer birth k g answers (none_noted along a Now (AckTo s (slot file x.birth peer birth k) g)));
        tags = answer_tags (cells_in along) a Now file (seen a file x) peer birth k g answers;
      }

-- ---- either

module _ (along : Along) (s : ℕ) (a : Store) (from : ℕ) (ends : Ends) (k : Key) (g : ℕ) where
  abbrev Heard : Saying Slot Cell
  Heard = saying from s (message.Ack ends k g)

  acked_by : (o : Option Replica) → replica_at a ends.file ≡ o → IsAcked along s a Heard (with_replicas a (replicas_acked a.replicas ends.file (link_of from ends) k g o))
  acked_by None e = nothing_acked along s a Heard
  acked_by (Some x) e =
      decided (λ rs. IsAcked along s a Heard (with_replicas a rs)) (has_edge x (link_of from ends)) _ _
      (λ edge. edge_acked along s a ends.file x e from ends.sender k g ends.receiver
      (eqb-true ends.receiver x.birth (and_parts (ends.receiver == x.birth) (is_listed x.edges from ends.sender) edge).0))
      (λ none. nothing_acked along s a Heard)

  -- AN ANSWER, to whichever tag, along an edge or not
  pub acknowledged : IsAcked along s a Heard (acknowledge a ends.file (link_of from ends) k g)
  acknowledged = acked_by (replica_at a ends.file) refl
