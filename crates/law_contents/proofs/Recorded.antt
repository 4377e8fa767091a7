-- The history has the versions that entries tell of.
use Rattle.std.proofs.Common.{ℕ, ◌≡◌, List, [], ◌∷◌, ◌++◌, map, refl, ap, ◌∙◌}
use Rattle.std.proofs.lemmas.List.{map-append}
use Rattle.pg_run.specs.pg_event.declared.event.Event.{Event}
use Rattle.pg_run.specs.pg_msg.declared.update.MadeVersion.{MadeVersion}
use Rattle.pg_run.specs.Histories.{HistoryIsWhatWasMade}
use Rattle.pg_run.specs.Journal.{Born, born_at, made_versions, versions_in}
use Rattle.pg_run.proofs.Frame.{holds_in_runs, no_server_comes}
use Rattle.pg_run.specs.Run.{run, World, effect_step, world_after}
use Rattle.pg_run.specs.pg_server.declared.input.Input.{Input}
use Rattle.pg_run.specs.pg_server.Local.{effect}
use Rattle.pg_run.specs.pg_store.declared.store.Store.{Store}

abbrev made_by : Born → MadeVersion
made_by u = u.made

same_made : (store : Store) (vs : List MadeVersion) → map made_by (map (born_at store) vs) ≡ vs
same_made store [] = refl
same_made store (v ∷ vs) = ap (λ (ws : List MadeVersion). v ∷ ws) (same_made store vs)

abbrev IsRecorded : World → Type 0
IsRecorded w = map made_by w.history ≡ made_versions w.journal

-- a server makes these, or none does anything
acted : (w : World) (e : Event) (s : ℕ) (asked : Input) → IsRecorded w
    → IsRecorded (world_after w (effect_step w e s asked))
acted w e s asked k =
    let done = effect (w.stores s) asked in
    let vs = versions_in done.out.made in
    map-append made_by (map (born_at done.store) vs) w.history
    ∙ ap (λ (us : List MadeVersion). us ++ map made_by w.history) (same_made done.store vs)
    ∙ ap (λ (us : List MadeVersion). vs ++ us) k

pub history_is_what_was_made : (n : ℕ) → HistoryIsWhatWasMade n
history_is_what_was_made n events = holds_in_runs n IsRecorded (record {
  first = refl;
  idle = λ w e cause k. k;
  comes = λ past event server is k. absurd (no_server_comes event server is);
  acts = λ some e t taken acts k. acted (run n some) e t.server t.asked k;
}) events
