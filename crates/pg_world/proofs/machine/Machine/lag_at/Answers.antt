use Rattle.std.proofs.Common.{◌≡◌, None, Some, length, true, sym, ap, ◌∙◌, List, ℕ}
use Rattle.pg_event.specs.declared.quiet.Cause.TheVariants.{View}
use Rattle.pg_store.specs.declared.store.Store.{Store}
use Rattle.pg_store.specs.Seen.{view_of}
use Rattle.pg_run.specs.Quiet.{lag}
use Rattle.pg_world.proofs.Standing.{live_is_server}
use Rattle.pg_world.proofs.Waiting.{dead_gives, lags, lags_not, live_gives}
use Rattle.pg_world.proofs.machine.Machine.lag_at.Goals as goal

pub server_at-requires : goal.server_at-requires
server_at-requires c = live_is_server _ c.args.self.now.removed c.args.server (sym c.is_live.ensures ∙ c.if-not-is_live.false)

pub returns-then-not-is_live : goal.returns-then-not-is_live
returns-then-not-is_live c = λ w h.
    let m = c.args.self.now in
    dead_gives (length m.servers.items) w (lag w) m c.args.server h (sym c.is_live.ensures ∙ c.if-not-is_live.true)

pub returns-then-is_last_view : goal.returns-then-is_last_view
returns-then-is_last_view c = λ w h.
    let m = c.args.self.now in
    let view = c.view-view.result in
    let is : view ≡ view_of (w.stores c.args.server) =
    c.view-view.ensures ∙ ap (λ (s : Store). view_of s) (c.store.ensures ∙ c.server_at.ensures w h) in
    live_gives (length m.servers.items) w (lag w) m c.args.server None h (sym c.is_live.ensures ∙ c.if-not-is_live.false)
    (lags_not m w c.args.server view (length m.removed) h is (ap (λ (r : List ℕ). length r) h.removed)
    (sym c.is_last_view.ensures ∙ c.if-is_last_view.true))

pub returns : goal.returns
returns c = λ w h.
    let m = c.args.self.now in
    let view = c.view-view.result in
    let is : view ≡ view_of (w.stores c.args.server) =
    c.view-view.ensures ∙ ap (λ (s : Store). view_of s) (c.store.ensures ∙ c.server_at.ensures w h) in
    live_gives (length m.servers.items) w (lag w) m c.args.server (Some (View c.args.server view)) h
    (sym c.is_live.ensures ∙ c.if-not-is_live.false)
    (lags m w c.args.server view (length m.removed) h is (ap (λ (r : List ℕ). length r) h.removed)
    (sym c.is_last_view.ensures ∙ c.if-is_last_view.false))
