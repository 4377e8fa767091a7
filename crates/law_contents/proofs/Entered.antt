-- A server is given up: no content changes, no version is made, and what is sent carries none.
use Rattle.std.proofs.Common.{ℕ, ◌≡◌, List, [], ◌∷◌, ◌++◌, map, Option, None, Some, inl, refl, sym, ap, ◌∙◌}
use Rattle.std.specs.Map.{keys_of}
use Rattle.pg_run.proofs.pg_announced.Sorted.{sorted_none}
use Rattle.pg_run.specs.pg_base.declared.id.FileId.{FileId}
use Rattle.pg_run.specs.pg_base.declared.policy.Policy.{Policy}
use Rattle.pg_run.specs.pg_base.declared.stamp.Stamp.{Stamp}
use Rattle.pg_run.specs.pg_edges.declared.edge.Edge.{Edge}
use Rattle.pg_run.specs.pg_intent.Intents.{keys_to, turned_each}
use Rattle.pg_run.specs.pg_msg.declared.message.Message.TheVariants as message
use Rattle.pg_run.specs.pg_msg.declared.work.Work.{Work}
use Rattle.pg_run.specs.pg_msg.Work.{new_work}
use Rattle.pg_run.proofs.theory_flood_pieces.Choices.{chosen}
use Rattle.pg_run.specs.Journal.{Born}
use Rattle.pg_run.specs.Took.{Take, take_of}
use Rattle.pg_run.specs.pg_store.declared.store.Store.{Store}
use Rattle.pg_run.specs.pg_store.Beginning.{with_intents}
use Rattle.pg_run.specs.pg_store.Servers.{next_target}
use Rattle.pg_run.specs.pg_store.Views.{cut, cut_born, cut_each, enter, listed_birth, turn, with_removed}
use Rattle.pg_run.specs.pg_store.Wishes.{aim_each, wished_of}
use Rattle.pg_run.specs.pg_pieces.Accepting.{ends_to}
use Rattle.pg_run.specs.pg_pieces.Done.{idle}
use Rattle.pg_run.specs.pg_intentions.Inviting.{invite_along, invite_each, invite_of, invites, loose_edge}
use Rattle.pg_run.specs.pg_calls.GivingUp.{doubt_all, enter_view}
use Rattle.law_contents.proofs.Arrivals.{Arrives, more_came}
use Rattle.law_contents.proofs.Changes.{Keeps, Keeps-refl, Keeps-trans}
use Rattle.law_contents.proofs.Pieces.{intents_keep, unlink_keeps, wishes_keep}
use Rattle.law_contents.proofs.Quiet.{Quiet, quiet_idle, quiet_last, quiet_silent, quiet_store, quiet_then}
use Rattle.law_contents.proofs.Sending.{none_carry}
use Rattle.law_contents.proofs.Servers.{Came, IsServer, Stands, stands_kept, stands_same}
use Rattle.law_contents.proofs.Takes.{HasNone, both_none}

-- ---- the view

module _ (server : ℕ) where
  born_keeps : (a : Store) (file : FileId) (o : Option ℕ) → Keeps a (cut_born server a file o)
  born_keeps a file None = Keeps-refl a
  born_keeps a file (Some birth) = unlink_keeps a file server birth

  cuts_keep : (files : List FileId) (a : Store) → Keeps a (cut_each server a files)
  cuts_keep [] a = Keeps-refl a
  cuts_keep (file ∷ files) a =
      Keeps-trans (born_keeps a file (listed_birth a file server)) (cuts_keep files (cut server a file))

  turn_keeps : (to : ℕ) (a : Store) → Keeps a (turn server to a)
  turn_keeps to a =
      let b = with_intents a (turned_each a.intents (keys_to server a.intents) to) in
      Keeps-trans (intents_keep a b.intents) (wishes_keep b (aim_each a.wishes (wished_of server a.wishes) to))

  -- from where the view is entered on
  pub enter_keeps : (a : Store) → Keeps (with_removed a server) (enter a server)
  enter_keeps a =
      let b = with_removed a server in
      let c = cut_each server b (keys_of a.names.held) in
      Keeps-trans (cuts_keep (keys_of a.names.held) b) (turn_keeps (next_target c server) c)

-- ---- invites go last

module _ (us : List Born) (p : FileId → Policy) (N : FileId → Type 0) where
  along_quiet : (b : Store) (file : FileId) (o : Option Edge) (w : Work)
      → Quiet us p N b w (idle b (invite_along b file o w))
  along_quiet b file None w = quiet_idle us p N b w
  along_quiet b file (Some e) w =
      quiet_last us p N b e.peer (message.Invite (ends_to b file e.birth)) w tt

  invites_quiet : (files : List FileId) (b : Store) (w : Work)
      → Quiet us p N b w (idle b (invite_each b files w))
  invites_quiet [] b w = quiet_idle us p N b w
  invites_quiet (file ∷ files) b w =
      let one = invite_of b file w in
      let first : Quiet us p N b w (idle b one) =
      chosen (λ (v : Work). Quiet us p N b w (idle b v)) (invites b file)
      (invite_along b file (loose_edge b file) w) w (along_quiet b file (loose_edge b file) w)
      (quiet_idle us p N b w) in
      quiet_then us p N first (invites_quiet files b one)

  pub entered_quiet : (a : Store) (server : ℕ) (w : Work)
      → Quiet us p N (with_removed a server) w (enter_view a server w)
  entered_quiet a server w =
      let b = enter a server in
      let doubted = doubt_all b w in
      quiet_then us p N (quiet_store us p N (with_removed a server) b w (enter_keeps server a))
      (quiet_then us p N (quiet_silent us p N b b w doubted (Keeps-refl b) (refl, refl, refl))
      (invites_quiet (keys_of b.names.held) b doubted))

  -- all that is done from there on
  pub entered_keeps : (a : Store) (server : ℕ) (w : Work)
      → Keeps (with_removed a server) (enter_view a server w).store
  entered_keeps a server w = (entered_quiet a server w).keeps

-- ---- a view is entered

module _ {s : ℕ} {a : Store} {us : List Born} {p : FileId → Policy} {N : FileId → Type 0}
    {came : Came} (k : IsServer s a us p N came) (now from : ℕ) (server : ℕ) where
  abbrev work : Work
  work = new_work now from

  -- nothing is noted then
  removed_stands : Stands s (with_removed a server) us p came
  removed_stands =
      let h = k.stands in record {
        files = h.files;
        policies = h.policies;
        known = h.known;
        upto = h.upto;
        kept = h.kept;
        ranges = h.ranges;
        sorted = sorted_none [] refl;
        notes = λ file stamp n e. absurd (let z : None ≡ Some n = e in cc);
      }

  rest : Quiet us p N (with_removed a server) work (enter_view a server work)
  rest = entered_quiet us p N a server work

  abbrev takes : List Take
  takes = map take_of (enter_view a server work).work.made ++ []

  pub entered_none : (q : FileId) → HasNone q takes
  entered_none q = both_none q (map take_of (enter_view a server work).work.made) [] (rest.takes q) refl

  -- A SERVER IS GIVEN UP
  pub entered_arrives : Arrives s a us p N came (enter_view a server work) takes
  entered_arrives = record {
    server = rest.keeps.server;
    last = rest.keeps.last;
    files = rest.keeps.files;
    order = rest.keeps.order;
    held = λ f c e. inl (k.held f c (sym (rest.keeps.each f) ∙ e));
    stands = stands_same (stands_kept removed_stands (enter_view a server work).store rest.keeps)
        (more_came takes came) (λ q. ap (λ (ts : List Stamp). ts ++ came q) (entered_none q));
    none = rest.none;
    sent = rest.sent (none_carry us p N);
    tail = rest.tail (none_carry us p N);
  }
