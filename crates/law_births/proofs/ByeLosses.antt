-- What stands at the key of a Bye where a server is removed: only a Bye to it ends.
use Rattle.std.proofs.Common.{ℕ, ◌≡◌, ◌==◌, ◌++◌, ◌||◌, ◌⊎◌, Bool, true, false, cond, List, [], ◌∷◌, Option, None, Some, inl, inr, refl, sym, ap, ◌∙◌}
use Rattle.std.specs.Map.{keys_of}
use Rattle.std.proofs.lemmas.Bool.{eqb-true, false≢true}
use Rattle.pg_run.specs.pg_base.declared.id.FileId.{FileId}
use Rattle.pg_run.specs.pg_intent.declared.intent.Intent.{Intent}
use Rattle.pg_run.specs.pg_intent.declared.intent.Intent.TheVariants as intent
use Rattle.pg_run.specs.pg_intent.declared.key.IntentKey.{IntentKey}
use Rattle.pg_run.specs.pg_intent.declared.key.IntentKey.TheVariants as intent_key
use Rattle.pg_run.specs.pg_intent.Intent.{key_of, target_of}
use Rattle.pg_run.specs.pg_intent.Intents.{intent_at, keys_to, turned_each}
use Rattle.pg_run.specs.pg_intent.Key.{is_same_key}
use Rattle.pg_run.proofs.pg_intent.SameKey.{is_same_key-true}
use Rattle.pg_run.proofs.pg_intent.Turned.{each_found, is_one_of}
use Rattle.pg_run.specs.pg_store.Servers.{next_target}
use Rattle.pg_run.specs.pg_store.Views.{cut, cut_born, cut_each, enter, listed_birth, with_removed}
use Rattle.pg_run.specs.pg_store.declared.store.Store.{Store}
use Rattle.law_births.proofs.ByeKeys.{ByeKey, Same, bye_in, unlink_same}

either_is : (b c : Bool) → (b || c) ≡ true → (b ≡ true) ⊎ (c ≡ true)
either_is true c h = inl refl
either_is false c h = inr h

-- an intention that has the key asks the server
abbrev AsksWith : ℕ → IntentKey → List Intent → Type 0
AsksWith server k is = (i : Intent) × (key_of i ≡ k) × (target_of i ≡ server)

asks_by : (server : ℕ) (k : IntentKey) (i : Intent) (is : List Intent) (t : Bool) → (target_of i == server) ≡ t
    → is_one_of k (cond t (key_of i ∷ []) [] ++ keys_to server is) ≡ true → (is_one_of k (keys_to server is) ≡ true → AsksWith server k is) → AsksWith server k (i ∷ is)
asks_by server k i is false other one rest = rest one
asks_by server k i is true same one rest =
    elim (either_is (is_same_key k (key_of i)) (is_one_of k (keys_to server is)) one) [
      | inl here ↦ (i, sym (is_same_key-true k (key_of i) here), eqb-true (target_of i) server same)
      | inr later ↦ rest later
    ]

asks_with : (server : ℕ) (k : IntentKey) (is : List Intent) → is_one_of k (keys_to server is) ≡ true → AsksWith server k is
asks_with server k [] one = absurd (false≢true one)
asks_with server k (i ∷ is) one = asks_by server k i is (target_of i == server) refl one (asks_with server k is)

module _ (file : FileId) (birth peer : ℕ) where
  -- whose key is a Bye's is one, to its peer
  target_is : (i : Intent) → key_of i ≡ ByeKey file birth peer → target_of i ≡ peer
  target_is (intent.Bye f n p m) same = (let z : intent_key.Bye f n p ≡ intent_key.Bye file birth peer = same in cc)
  target_is (intent.Seek f t) same = absurd (let z : intent_key.Seek f ≡ intent_key.Bye file birth peer = same in cc)
  target_is (intent.Fill f n t) same = absurd (let z : intent_key.Fill f ≡ intent_key.Bye file birth peer = same in cc)
  target_is (intent.Patch d e t) same = absurd (let z : intent_key.Patch d e.child ≡ intent_key.Bye file birth peer = same in cc)
  target_is (intent.Confirm d c t) same = absurd (let z : intent_key.Confirm d c ≡ intent_key.Bye file birth peer = same in cc)
  target_is (intent.Leave f p n) same = absurd (let z : intent_key.Leave f ≡ intent_key.Bye file birth peer = same in cc)

  cut_same : (server : ℕ) (a : Store) (f : FileId) (o : Option ℕ) → Same file birth peer a (cut_born server a f o)
  cut_same server a f None = refl
  cut_same server a f (Some n) = unlink_same file birth peer a f server n

  cuts_same : (server : ℕ) (files : List FileId) (a : Store) → Same file birth peer a (cut_each server a files)
  cuts_same server [] a = refl
  cuts_same server (f ∷ files) a = cuts_same server files (cut server a f) ∙ cut_same server a f (listed_birth a f server)

  -- what is found then was found before, or is the Bye to the server, which has ended
  turned_bye : (server to : ℕ) (is : List Intent) (t : Bool) → is_one_of (ByeKey file birth peer) (keys_to server is) ≡ t
      → (intent_at (turned_each is (keys_to server is) to) (ByeKey file birth peer) ≡ intent_at is (ByeKey file birth peer))
      ⊎ ((intent_at (turned_each is (keys_to server is) to) (ByeKey file birth peer) ≡ None) × (server ≡ peer))
  turned_bye server to is t one = by t one (each_found (keys_to server is) is to (ByeKey file birth peer))
    where
      by : (t : Bool) → is_one_of (ByeKey file birth peer) (keys_to server is) ≡ t
          → intent_at (turned_each is (keys_to server is) to) (ByeKey file birth peer)
          ≡ cond (is_one_of (ByeKey file birth peer) (keys_to server is)) None (intent_at is (ByeKey file birth peer))
          → (intent_at (turned_each is (keys_to server is) to) (ByeKey file birth peer) ≡ intent_at is (ByeKey file birth peer))
          ⊎ ((intent_at (turned_each is (keys_to server is) to) (ByeKey file birth peer) ≡ None) × (server ≡ peer))
      by true e found =
          let k = asks_with server (ByeKey file birth peer) is e in
          inr (found ∙ ap (λ u. cond u None (intent_at is (ByeKey file birth peer))) e, sym k.2 ∙ target_is k.0 k.1)
      by false e found = inl (found ∙ ap (λ u. cond u None (intent_at is (ByeKey file birth peer))) e)

  pub enter_bye : (a : Store) (server : ℕ) → Same file birth peer a (enter a server)
      ⊎ ((bye_in file birth peer (enter a server) ≡ None) × (server ≡ peer))
  enter_bye a server =
      let b = cut_each server (with_removed a server) (keys_of a.names.held) in
      let was : Same file birth peer a b = cuts_same server (keys_of a.names.held) (with_removed a server) in
      elim (turned_bye server (next_target b server) b.intents (is_one_of (ByeKey file birth peer) (keys_to server b.intents)) refl) [
        | inl same ↦ inl (same ∙ was)
        | inr ends ↦ inr ends
      ]
