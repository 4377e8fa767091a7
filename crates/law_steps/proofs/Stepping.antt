-- A law of runs, read at the world behind one step.
use Rattle.std.proofs.Common.{◌≡◌, ℕ, sym, ap, subst, ◌∙◌}
use Rattle.law_refused.specs.Refusals.{AsksFor, RefusalLeaves, RefusalsChangeNothing}
use Rattle.pg_run.specs.pg_call.declared.refusal.Refusal.{Refusal}
use Rattle.pg_run.specs.pg_event.declared.event.Event.{Event}
use Rattle.pg_run.specs.pg_store.declared.store.Store.{Store}
use Rattle.pg_run.specs.Run.{World, next, start}
use Rattle.pg_run.proofs.Frame.{run_more}
use Rattle.pg_world.specs.Played.{Played, final, held, next_entry}
use Rattle.law_steps.specs.Refused.{RefusedStepLeaves, RefusedStepsChangeNothing, stepped}

module _ (p : Played) (event : Event) where
  -- what a server holds behind the step
  behind : (s : ℕ) → (next p.servers (final p) event).stores s ≡ held (stepped p event) s
  behind s = ap (λ (w : World). w.stores s) (sym (run_more p.servers (start p.servers) p.events event))

  leaves : (server : ℕ) (why : Refusal) → RefusalLeaves (final p) server why (next p.servers (final p) event)
      → RefusedStepLeaves p event server why
  leaves server why k = record {
    void = k.void;
    made = k.made;
    still = λ s apart. sym (behind s) ∙ k.still s apart;
    other = λ apart. let both = k.other apart in (sym (behind server) ∙ both.0, both.1);
    missing = λ file is. subst (λ (b : Store). AsksFor (held p server) b file (next_entry p event).sent)
        (behind server) (k.missing file is);
  }

pub refused_steps : ((n : ℕ) → RefusalsChangeNothing n) → RefusedStepsChangeNothing
refused_steps law p server moment call why told =
    leaves p _ server why (law p.servers p.events server moment call why told)
