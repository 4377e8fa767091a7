-- What is filling is asked for as its Fill asks, so no wish is kept for it.
use Rattle.std.proofs.Common.{◌≡◌, ◌||◌, ◌∙◌, Bool, true, false, cond, List, [], ◌∷◌, None, Some, refl, sym, ap, subst, inl, inr}
use Rattle.std.specs.Option.{option_or}
use Rattle.std.proofs.lemmas.Bool.{false≢true}
use Rattle.std.proofs.lemmas.Option.{none-some}
use Rattle.pg_base.specs.declared.id.FileId.{FileId}
use Rattle.pg_cells.specs.pg_intent.declared.intent.Intent.{Intent}
use Rattle.pg_cells.specs.pg_intent.declared.intent.Intent.TheVariants as intent
use Rattle.pg_cells.specs.pg_intent.declared.key.IntentKey.TheVariants as key
use Rattle.pg_cells.specs.pg_intent.Intent.{key_of}
use Rattle.pg_cells.specs.pg_intent.Intents.{has_key, intent_at, stands}
use Rattle.pg_cells.specs.pg_intent.Key.{is_same_key}
use Rattle.pg_cells.specs.pg_msg.declared.work.Work.{Work}
use Rattle.pg_cells.specs.pg_call.declared.call.Call.{Call}
use Rattle.pg_cells.specs.pg_call.declared.refusal.Refusal.TheVariants.{NotYet}
use Rattle.pg_cells.specs.pg_store.declared.store.Store.{Store}
use Rattle.pg_cells.specs.pg_store.declared.wishes.Wish.{Wish}
use Rattle.pg_cells.specs.pg_store.Births.{wish_at}
use Rattle.pg_checks.specs.Asking.{standing, wish_by}
use Rattle.pg_calls.specs.Refused.{FilledKeepsNoWish}
use Rattle.pg_calls.proofs.Refused.{refused_only_asks, same_file}

-- ---- a Fill that stands asks for something

one_asks : (file : FileId) (i : Intent) → is_same_key (key.Fill file) (key_of i) ≡ true → (wish : Wish) × (wish_by (Some i) ≡ Some wish)
one_asks file (intent.Fill f birth target) e = (record { birth = birth; target = target }, refl)
one_asks file (intent.Bye f birth peer peer_birth) e = absurd (false≢true e)
one_asks file (intent.Seek f target) e = absurd (false≢true e)
one_asks file (intent.Patch dir entry target) e = absurd (false≢true e)
one_asks file (intent.Confirm dir child target) e = absurd (false≢true e)
one_asks file (intent.Leave f peer peer_birth) e = absurd (false≢true e)

fill_asks : (is : List Intent) (file : FileId) → stands is (key.Fill file) ≡ true → (wish : Wish) × (wish_by (intent_at is (key.Fill file)) ≡ Some wish)
fill_asks [] file h = absurd (false≢true h)
fill_asks (i ∷ is) file h = by (has_key (key.Fill file) i) refl h (fill_asks is file)
  where
    by : (t : Bool) → has_key (key.Fill file) i ≡ t → (t || stands is (key.Fill file)) ≡ true
        → (stands is (key.Fill file) ≡ true → (wish : Wish) × (wish_by (intent_at is (key.Fill file)) ≡ Some wish))
        → (wish : Wish) × (wish_by (cond t (Some i) (intent_at is (key.Fill file))) ≡ Some wish)
    by true e k rest = one_asks file i e
    by false e k rest = rest k

-- so no wish is the first that stands for it
stands_for : (a : Store) (file : FileId) → stands a.intents (key.Fill file) ≡ true → standing a file ≡ None → ⊥
stands_for a file h none =
    let asks = fill_asks a.intents file h in
    let is : standing a file ≡ Some asks.0 = ap (λ o. option_or o (wish_at a file)) asks.1 in
    none-some asks.0 (sym none ∙ is)

pub filled_keeps_no_wish : (store : Store) (call : Call) (work : Work) (file : FileId) → FilledKeepsNoWish store call work file
filled_keeps_no_wish store call work file fill h =
    elim (refused_only_asks store call work (NotYet file) h).kept [
      | inl same ↦ same
      | inr wish ↦ (
          let P : FileId → Type 0 = λ f. standing store f ≡ None in
          absurd (stands_for store file fill (subst P (sym (same_file file wish.0 wish.2)) wish.3)))
    ]
