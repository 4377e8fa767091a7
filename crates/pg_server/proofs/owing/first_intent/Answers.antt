use Rattle.std.proofs.Common.{◌≡◌, ap, subst, sym, ◌∙◌, Some, None}
use Rattle.std.specs.List.{slice_get}
use Rattle.std.specs.Option.{option_map}
use Rattle.pg_calls.specs.pg_store.declared.store.Store.{Store}
use Rattle.pg_calls.specs.pg_store.Seen.{server_of}
use Rattle.pg_server.specs.Owing.{intent_owed}
use Rattle.pg_server.proofs.FirstIntent.{first_told}
use Rattle.pg_server.proofs.owing.first_intent.Goals as goal

pub returns-in-Some : goal.returns-in-Some
returns-in-Some c =
    let s = c.args.store.now in
    ap Some (c.intent_owed.ensures ∙ ap (λ s. intent_owed s c.in-Some.intent.now) c.server.ensures)
    ∙ ap (option_map (intent_owed (server_of s)))
    (subst (λ (b : Store). Some c.in-Some.intent.now ≡ slice_get b.intents 0) c.store.view_is c.in-Some.ensures.intent)
    ∙ sym (first_told (server_of s) s.intents)

pub returns-in-None : goal.returns-in-None
returns-in-None c =
    let s = c.args.store.now in
    ap (option_map (intent_owed (server_of s)))
    (subst (λ (b : Store). None ≡ slice_get b.intents 0) c.store.view_is c.in-None.ensures.intent)
    ∙ sym (first_told (server_of s) s.intents)
