use Rattle.std.proofs.Common.{◌≡◌, None, Some, ap, subst, sym, ◌∙◌}
use Rattle.std.specs.List.{slice_get}
use Rattle.pg_event.specs.declared.quiet.Owing.TheVariants as owing
use Rattle.pg_calls.specs.pg_house.Holding.{held_back}
use Rattle.pg_calls.specs.pg_store.declared.store.Store.{Store}
use Rattle.pg_server.proofs.FirstOwed.{first_key, first_place, nothing_owed}
use Rattle.pg_server.proofs.owing.first_key_or_place.Goals as goal

pub returns-in-Some : goal.returns-in-Some
returns-in-Some c = sym (first_key c.args.store.now c.in-Some.key (sym c.in-Some.ensures))

pub returns-in-Some-first_held_back : goal.returns-in-Some-first_held_back
returns-in-Some-first_held_back c =
    ap (λ s. Some (owing.HeldBack s c.in-Some-first_held_back.id)) c.server.ensures
    ∙ sym (first_place c.args.store.now c.in-Some-first_held_back.id (sym c.in-None.ensures) (subst (λ (b : Store). slice_get (held_back b.names) 0 ≡ Some c.in-Some-first_held_back.id) c.store.view_is (sym c.in-Some-first_held_back.ensures)))

pub returns-in-None-first_held_back : goal.returns-in-None-first_held_back
returns-in-None-first_held_back c =
    sym (nothing_owed c.args.store.now (sym c.in-None.ensures) (subst (λ (b : Store). slice_get (held_back b.names) 0 ≡ None) c.store.view_is (sym c.in-None-first_held_back.ensures)))
