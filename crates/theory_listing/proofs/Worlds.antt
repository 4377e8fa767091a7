-- Runs: what each event keeps.
use Rattle.std.proofs.Common.{ℕ, ◌≡◌, ◌<◌, List, [], ◌∷◌, All, None, Some, sym, subst, ◌∙◌, arith}
use Rattle.std.proofs.lemmas.List.Elements.{All-nil, All-weaker}
use Rattle.theory_listing.specs.Protocol.{Protocol, IsOrdered}
use Rattle.theory_listing.specs.World.{Message, World}
use Rattle.theory_listing.specs.Promises.{IsPromised, Kept}
use Rattle.theory_listing.specs.Runs.{Event, removed, entered, run, May, IsRun, IsStart}
use Rattle.theory_listing.specs.Runs.Event.{Step, Remove, Admit}
use Rattle.theory_listing.specs.Laws.{RunsKeep, RunsList}
use Rattle.theory_listing.proofs.Promises.{step_keeps}
use Rattle.theory_listing.proofs.Admits.{admit_keeps}
use Rattle.theory_listing.proofs.Quiet.{quiet_lists}

module _ {N F P S : Type 0} (p : Protocol N F P S) where
  -- A REMOVAL that nobody has entered: nobody is current, and no message is of such a view
  pub removal_keeps : (w : World N F P S) (s least : ℕ) → ((k : ℕ) → p.view (w.nodes k) < least) → Kept p w → Kept p (removed p w s least)
  removal_keeps w s least new kept = record {
    settled = kept.settled;
    listed = λ t d c q current l gone. absurd (let low = new t in let up = current.view in omega arith);
    promises = All-weaker (IsPromised p w) (IsPromised p (removed p w s least))
        (λ m h. record { view = h.view; says = λ up. absurd (let low = new m.sender in let far = h.view in omega arith) })
        w.messages kept.promises;
  }

  -- THE START
  pub start_keeps : (w : World N F P S) → IsStart p w → Kept p w
  start_keeps w z = record {
    settled = z.settled;
    listed = λ t d c q current l gone. absurd (let e : None ≡ Some q = sym (z.empty t d c) ∙ l.cell in cc);
    promises = let Q : List (Message F P S) → Type 0 = (λ ms. All (IsPromised p w) ms) in subst Q (sym z.silent) (All-nil (IsPromised p w));
  }

  event_keeps : IsOrdered p → (w : World N F P S) (e : Event N F P S) → May p w e → Kept p w → Kept p (entered p w e)
  event_keeps o w (Step s b heard sent) m kept = step_keeps p o w s b heard sent kept m
  event_keeps o w (Remove s least) m kept = removal_keeps w s least m kept
  event_keeps o w (Admit s b) m kept = admit_keeps p w s b m kept

  run_keeps : IsOrdered p → (w : World N F P S) (events : List (Event N F P S)) → Kept p w → IsRun p w events → Kept p (run p w events)
  run_keeps o w [] kept r = kept
  run_keeps o w (e ∷ es) kept r = run_keeps o (entered p w e) es (event_keeps o w e r.0 kept) r.1

  pub runs_keep : RunsKeep p
  runs_keep o w events z r = run_keeps o w events (start_keeps w z) r

  pub runs_list : RunsList p
  runs_list o w events z r quiet = quiet_lists p o (run p w events) (runs_keep o w events z r) quiet
