-- A server is given up: what the server knows of names stays as it was, but for who is removed.
use Rattle.std.proofs.Common.{ℕ, ◌≡◌, List, [], ◌∷◌, ◌++◌, map, Option, None, Some, Result, Ok, Err, refl, sym, subst, ◌∙◌}
use Rattle.pg_run.specs.pg_base.declared.id.FileId.{FileId}
use Rattle.pg_run.specs.pg_base.declared.id.Kind.{Kind}
use Rattle.pg_run.specs.pg_edges.declared.edge.Edge.{Edge}
use Rattle.pg_run.specs.pg_msg.declared.update.Update.{Update}
use Rattle.pg_run.specs.pg_msg.declared.work.Work.{Work}
use Rattle.pg_run.specs.pg_msg.Work.{new_work}
use Rattle.pg_run.specs.pg_call.declared.reply.Reply.TheVariants as reply
use Rattle.pg_run.specs.pg_names.Names.{NamesValue, remove_server}
use Rattle.pg_run.proofs.theory_flood_pieces.Choices.{chosen}
use Rattle.pg_run.specs.pg_lookup.declared.paths.LookupError.{LookupError}
use Rattle.pg_run.specs.pg_store.declared.store.Store.{Store}
use Rattle.pg_run.specs.pg_store.Seen.{removed_of}
use Rattle.pg_run.specs.pg_store.Views.{enter}
use Rattle.pg_run.proofs.pg_store.Entered.{enter_names}
use Rattle.pg_run.specs.pg_intentions.Inviting.{invite_along, invite_each, invite_of, invites, loose_edge}
use Rattle.pg_run.specs.pg_checks.Answer.{Answer, answer, answered}
use Rattle.pg_run.specs.pg_calls.GivingUp.{doubt_all, enter_view}
use Rattle.pg_run.specs.pg_calls.Naming.{next_id}
use Rattle.std.specs.Map.{keys_of}
use Rattle.pg_run.specs.Carried.{begun_by}
use Rattle.pg_run.specs.Known.{Told}
use Rattle.pg_run.specs.Took.{Take, take_of}
use Rattle.law_names.specs.Goes.{Goes}
use Rattle.law_names.specs.Merged.{IsNewId}
use Rattle.law_names.proofs.Calls.{denied}
use Rattle.law_names.proofs.Going.{goes_itself}
use Rattle.law_names.proofs.Messages.{IsReady}

-- ---- invitations make nothing

along_made : (a : Store) (file : FileId) (o : Option Edge) (w : Work) → (invite_along a file o w).made ≡ w.made
along_made a file None w = refl
along_made a file (Some e) w = refl

pub invites_made : (files : List FileId) (a : Store) (w : Work) → (invite_each a files w).made ≡ w.made
invites_made [] a w = refl
invites_made (file ∷ files) a w =
    invites_made files a (invite_of a file w)
    ∙ chosen (λ (v : Work). v.made ≡ w.made) (invites a file) (invite_along a file (loose_edge a file) w) w (along_made a file (loose_edge a file) w) refl

-- ---- the view is entered

-- in its own view, one server more is removed
goes_without : (removed : List ℕ) (s : NamesValue) (now : List Take) (server : ℕ) → Goes removed s now
    → Goes (remove_server s server).removed (remove_server s server) now
goes_without removed s now server k = record {
  tells = record { held = k.tells.held; told = k.tells.told; place = k.tells.place; flags = k.tells.flags; none = k.tells.none; some = k.tells.some };
  dirs = k.dirs;
  last = record { own = k.last.own; cells = k.last.cells };
  same_removed = refl;
}

pub goes_entered : (removed : List ℕ) (a : Store) (now : List Take) (server : ℕ) → Goes removed a.names now
    → Goes (removed_of (enter a server)) (enter a server).names now
goes_entered removed a now server k =
    let P : NamesValue → Type 0 = λ s. Goes s.removed s now in
    subst P (sym (enter_names a server)) (goes_without removed a.names now server k)

module _ (removed : List ℕ) (p : Told) (a : Store) (now : List Take) (k : Goes removed a.names now) (ready : IsReady p a) (ids : (kind : Kind) → IsNewId a (next_id a kind)) (moment : ℕ) where
  abbrev W : Work
  W = new_work moment 0

  module _ (server : ℕ) where
    abbrev Asked : Result (Unit {0}) LookupError → Answer
    Asked o = answered a W o (λ found. answer (enter_view a server W) reply.Done)

    abbrev GoesAs : Answer → Type 0
    GoesAs x = Goes (removed_of x.store) x.store.names (map take_of x.work.made ++ (begun_by (Some x.reply) ++ now))

    entered_made : (enter_view a server W).work.made ≡ []
    entered_made = let b = enter a server in invites_made (keys_of b.names.held) b (doubt_all b W)

    -- A GIVEUP
    pub giveup_goes : (o : Result (Unit {0}) LookupError) → GoesAs (Asked o)
    giveup_goes (Err why) =
        let x = Asked (Err why) in
        goes_itself removed x.store.names (map take_of x.work.made ++ (begun_by (Some x.reply) ++ now)) (denied removed p a now k ready ids moment why)
    giveup_goes (Ok found) =
        let b = enter a server in
        let P : List Update → Type 0 = λ us. Goes (removed_of b) b.names (map take_of us ++ now) in
        subst P (sym entered_made) (goes_entered removed a now server k)
