-- A harbinger comes, a Want, a Delta, a Piece or a Later: at most a version is taken, which is
-- nothing to names.
use Rattle.std.proofs.Common.{ℕ, ◌≡◌, Bool, true, false, cond, List, [], ◌∷◌, ◌++◌, refl, ◌∙◌}
use Rattle.pg_run.specs.pg_base.declared.head.Head.{Head}
use Rattle.pg_run.specs.pg_base.declared.id.FileId.{FileId}
use Rattle.pg_run.specs.pg_base.declared.stamp.Stamp.{Stamp}
use Rattle.pg_run.specs.pg_entries.declared.cell.Cell.TheVariants as cell
use Rattle.pg_run.specs.pg_msg.declared.message.Delta.{Delta}
use Rattle.pg_run.specs.pg_msg.declared.message.Ends.{Ends}
use Rattle.pg_run.specs.pg_msg.declared.message.Piece.{Piece}
use Rattle.pg_run.specs.pg_msg.declared.message.Wanted.{Wanted}
use Rattle.pg_run.specs.pg_msg.declared.work.Work.{Work}
use Rattle.pg_run.specs.pg_msg.Work.{new_work}
use Rattle.pg_run.specs.pg_store.declared.store.Store.{Store}
use Rattle.pg_run.specs.pg_pieces.declared.accepting.EdgeUse.{EdgeUse}
use Rattle.pg_run.specs.pg_pieces.declared.accepting.EdgeUse.TheVariants as manner
use Rattle.pg_run.specs.pg_pieces.Accepting.{accept}
use Rattle.pg_run.specs.pg_pieces.Done.{Done, idle}
use Rattle.pg_run.specs.pg_server.pg_transfer.Delta.{delta}
use Rattle.pg_run.specs.pg_server.pg_transfer.Harbinger.{harbinger}
use Rattle.pg_run.specs.pg_server.pg_transfer.Later.{later}
use Rattle.pg_run.specs.pg_server.pg_transfer.Piece.{piece}
use Rattle.pg_run.specs.pg_server.pg_transfer.Want.{want}
use Rattle.pg_run.specs.Took.{Take}
use Rattle.pg_run.specs.Took.Take.{TookVersion}
use Rattle.pg_run.proofs.Transfers.{KeepsTransfers, delta_keeps, harbinger_keeps, later_keeps, piece_keeps, want_keeps}
use Rattle.law_names.specs.Goes.{Goes}
use Rattle.law_names.proofs.Going.{goes_noted, goes_on, goes_taken}
use Rattle.law_names.proofs.Notes.{accepted_still, taken_made}

module _ (removed : List ℕ) (a : Store) (now : List Take) (k : Goes removed a.names now) (from : ℕ) where
  abbrev W : Work
  W = new_work 0 from

  -- what the server knows of names is what its replicas took, and nothing is made
  abbrev pub Stays : Done → Type 0
  Stays d = Goes removed d.store.names now × (d.work.made ≡ [])

  steps_stay : (ends : Ends) → KeepsTransfers ends Stays
  steps_stay ends = record {
    notes = λ d ns h. h;
    keeps = λ d delta h. h;
    takes = λ d v h. (
      goes_taken removed d.store now h.0 ends.file v,
      taken_made d.store ends.file (cell.Version v) d.work ∙ h.1,
    );
    answers = λ d m is h. h;
    tells = λ d head e is h. h;
  }

  accepted_stays : (ends : Ends) (how : EdgeUse) → Stays (accept a ends how W)
  accepted_stays ends how =
      let s = accepted_still a ends how W in
      (goes_on removed a.names (accept a ends how W).store.names now s.0 k, s.1)

  idle_stays : Stays (idle a W)
  idle_stays = (k, refl)

  pub harbinger_stays : (ends : Ends) (tag : ℕ) (head : Head) → Stays (harbinger a ends tag head W)
  harbinger_stays ends tag head =
      harbinger_keeps ends Stays (steps_stay ends) a W idle_stays tag head (accepted_stays ends manner.Makes)

  pub want_stays : (ends : Ends) (wanted : Wanted) → Stays (want a ends wanted W)
  want_stays ends wanted = want_keeps ends Stays (steps_stay ends) a W idle_stays wanted (accepted_stays ends manner.Needs)

  pub delta_stays : (ends : Ends) (d : Delta) → Stays (delta a ends d W)
  delta_stays ends d = delta_keeps ends Stays (steps_stay ends) a W idle_stays d (accepted_stays ends manner.Answers)

  pub piece_stays : (ends : Ends) (p : Piece) → Stays (piece a ends p W)
  piece_stays ends p = piece_keeps ends Stays (steps_stay ends) a W idle_stays p (accepted_stays ends manner.Answers)

  pub later_stays : (ends : Ends) (stamp : Stamp) → Stays (later a ends stamp W)
  later_stays ends stamp = later_keeps ends Stays (steps_stay ends) a W idle_stays stamp (accepted_stays ends manner.Answers)

  -- nor is it that a version was taken
  pub with_version : (t : Bool) (f : FileId) (stamp : Stamp) (d : Done) → Stays d
      → Goes removed d.store.names (cond t (TookVersion f stamp ∷ []) [] ++ now) × (d.work.made ≡ [])
  with_version true f stamp d h = (goes_noted removed d.store.names now h.0 f stamp, h.1)
  with_version false f stamp d h = h
