-- What a forget may begin anew was given out: of a thing that is not held, what a held cell, a Fill
-- or a Patch names.
use Rattle.std.proofs.Common.{ℕ, ◌≡◌, true, false, List, is_some, sym, ap, subst, ◌∙◌, inl, inr, arith}
use Rattle.std.proofs.lemmas.Bool.{false≢true}
use Rattle.pg_run.specs.pg_base.declared.id.FileId.{FileId}
use Rattle.pg_run.specs.pg_event.declared.event.Event.{Event}
use Rattle.pg_run.specs.pg_intent.declared.key.IntentKey.TheVariants as intent_key
use Rattle.pg_run.proofs.pg_intent.Found.{stands_is}
use Rattle.pg_run.specs.pg_store.declared.store.Store.{Store}
use Rattle.pg_run.specs.pg_store.Store.{is_held}
use Rattle.pg_run.specs.pg_calls.Forgetting.{is_wanted}
use Rattle.law_order.specs.Laws.{AllIsNamed, files_of}
use Rattle.law_order.specs.Named.{IsMade, naming}
use Rattle.law_order.specs.Saying.{AreIntended, IsSaidOf, Saying}
use Rattle.law_order.proofs.Losing.{wanted_thing}
use Rattle.pg_run.specs.Intending.{IntendsInOrder, IntentionsAreInOrder, IsToFill}
use Rattle.pg_run.specs.Laws.{AtEach, store_after}
use Rattle.pg_run.specs.Run.{run}
use Rattle.law_contents.proofs.Worlds.{IsNamed}

module _ (n : ℕ) (stores : ℕ → Store) (a : Store) (said : IsSaidOf (naming n (files_of stores)) a.names)
    (intended : AreIntended (naming n (files_of stores)) a.intents) (order : IntendsInOrder a) (id : FileId)
    (away : is_held a id ≡ false) where
  abbrev P : Saying
  P = naming n (files_of stores)

  abbrev Made : FileId → Type 0
  Made f = IsMade n (files_of stores) f

  -- a Fill of it stands: it is the parent of what is held
  filled_made : IsToFill a id → Made id
  filled_made (inl filling) = absurd (false≢true (sym away ∙ ap is_some filling.1))
  filled_made (inr l) = subst Made l.parent (said.own l.child l.own l.held).place.parent

  wanted_made : is_wanted a id ≡ true → Made id
  wanted_made wanted =
      wanted_thing P a said id intended (λ fill. filled_made ((order.fills id).0 (stands_is a.intents (intent_key.Fill id) ∙ fill))) wanted

  pub wanted_named : is_wanted a id ≡ true → IsNamed stores id
  wanted_named h = by id (wanted_made h)
    where
      by : (f : FileId) → Made f → IsNamed stores f
      by f (inl first) = subst (IsNamed stores) (sym first) (omega arith)
      by f (inr born) = born.given

-- AFTER ANY EVENTS
pub wanted_run : (n : ℕ) → AllIsNamed n → IntentionsAreInOrder n → (events : List Event) → AtEach n (λ s. (id : FileId)
    → is_wanted (store_after n events s) id ≡ true → is_held (store_after n events s) id ≡ false → IsNamed (run n events).stores id)
wanted_run n named intends events s least most id h away =
    let all = named events in
    wanted_named n (run n events).stores (store_after n events s) (all.names s least most) (all.intents s least most)
    (intends events s least most) id away h
