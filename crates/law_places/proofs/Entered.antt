-- A server is given up: no place more is known, and none is told.
use Rattle.std.proofs.Common.{ℕ, ◌≡◌, List, [], ◌∷◌, Option, None, Some, refl, sym, ap, subst, ◌∙◌, All, arith}
use Rattle.std.specs.Map.{keys_of}
use Rattle.law_frame.specs.pg_run.pg_base.declared.id.FileId.{FileId}
use Rattle.law_frame.specs.pg_run.pg_edges.declared.edge.Edge.{Edge}
use Rattle.law_frame.specs.pg_run.pg_intent.declared.intent.Intent.{Intent}
use Rattle.law_frame.specs.pg_run.pg_intent.declared.key.IntentKey.{IntentKey}
use Rattle.law_frame.specs.pg_run.pg_intent.Intents.{aimed, ended, keys_to, turned, turned_each}
use Rattle.law_frame.specs.pg_run.pg_intent.Key.{is_for_peer}
use Rattle.law_frame.specs.pg_run.pg_msg.declared.work.Work.{Work}
use Rattle.law_frame.specs.pg_run.pg_msg.Work.{new_work}
use Rattle.law_frame.specs.pg_run.pg_names.Names.{NamesValue, remove_server}
use Rattle.law_frame.proofs.pg_run.theory_flood_pieces.Choices.{chosen}
use Rattle.law_frame.specs.pg_run.pg_register.declared.place.Place.{Place}
use Rattle.law_frame.specs.pg_run.pg_store.declared.store.Store.{Store}
use Rattle.law_frame.specs.pg_run.pg_store.Views.{enter}
use Rattle.law_frame.proofs.pg_run.pg_store.Entered.{enter_intents, enter_names}
use Rattle.law_frame.specs.pg_run.pg_pieces.Done.{Done, idle}
use Rattle.law_frame.specs.pg_run.pg_intentions.Inviting.{invite_along, invite_each, invite_of, invites, loose_edge}
use Rattle.law_frame.specs.pg_run.pg_calls.GivingUp.{doubt_all, enter_view}
use Rattle.law_places.proofs.Fine.{IsFine, same_drawn}
use Rattle.law_places.proofs.Known.{AreNames, OfAll, aimed_is, filter_is}
use Rattle.law_places.proofs.Messages.{OfSent}
use Rattle.law_places.proofs.Timed.{AreTimed, UpTo}

-- ---- invitations go last

abbrev IsAsWas : Work → Work → Type 0
IsAsWas v w = (w.sent ≡ v.sent) × (w.made ≡ v.made)

along_keeps : (b : Store) (f : FileId) (o : Option Edge) (w : Work) → IsAsWas w (invite_along b f o w)
along_keeps b f None w = (refl, refl)
along_keeps b f (Some e) w = (refl, refl)

invites_keep : (fs : List FileId) (b : Store) (w : Work) → IsAsWas w (invite_each b fs w)
invites_keep [] b w = (refl, refl)
invites_keep (f ∷ fs) b w =
    let one = invite_of b f w in
    let first = chosen (IsAsWas w) (invites b f) (invite_along b f (loose_edge b f) w) w (along_keeps b f (loose_edge b f) w) (refl, refl) in
    let rest = invites_keep fs b one in
    (rest.0 ∙ first.0, rest.1 ∙ first.1)

module _ (P : FileId → Place → Type 0) where
  -- ---- intentions end, or ask another server

  turned_is : (is : List Intent) (k : IntentKey) (to : ℕ) → OfAll P is → OfAll P (turned is k to)
  turned_is is k to h = chosen (OfAll P) (is_for_peer k) (ended is k) (aimed is k to) (filter_is P _ is h) (aimed_is P is k to h)

  turned_all : (ks : List IntentKey) (is : List Intent) (to : ℕ) → OfAll P is → OfAll P (turned_each is ks to)
  turned_all [] is to h = h
  turned_all (k ∷ ks) is to h = turned_all ks (turned is k to) to (turned_is is k to h)

  names_without : (a : NamesValue) (server : ℕ) → AreNames P a → AreNames P (remove_server a server)
  names_without a server k = record { own = k.own; child = k.child; cells = k.cells; top = k.top }

module _ (P : FileId → Place → Type 0) (s least : ℕ) (a : Store) (moment : ℕ) (k : IsFine P s least (idle a (new_work moment 0))) (server : ℕ) where
  abbrev W : Work
  W = new_work moment 0

  abbrev After : Store
  After = enter a server

  abbrev End : Done
  End = enter_view a server W

  worked : IsAsWas W End.work
  worked = invites_keep (keys_of After.names.held) After (doubt_all After W)

  -- A GIVEUP
  pub given_up : IsFine P s least End
  given_up =
      let same = enter_names a server in
      record {
        known = record {
          names = subst (AreNames P) (sym same) (names_without P a.names server k.known.names);
          intents = subst (OfAll P) (sym (enter_intents a server)) (turned_all P (keys_to server a.intents) a.intents _ k.known.intents);
        };
        timed = subst AreTimed (sym same) (names_without (UpTo a.names.last) a.names server k.timed);
        sent = subst (All (OfSent P)) (sym worked.0) k.sent;
        drawn =
            same_drawn P s least (idle a W) End (ap (λ (n : NamesValue). n.server) same)
            (let e = ap (λ (n : NamesValue). n.last) same in omega arith) worked.1 k;
      }
