-- In the event in which a directory comes back its replica does not go: what it took of its
-- children is still there.
use Rattle.std.proofs.Common.{ℕ, ◌≡◌, ◌≤◌, ◌<◌, arith, ◌&&◌, Bool, true, false, cond, not, is_some, List, [], ◌∷◌, drop, length, Option, None, Some, refl, sym, ap, subst, ◌∙◌}
use Rattle.std.proofs.lemmas.Option.{none-some, same_Some}
use Rattle.pg_run.specs.pg_base.declared.id.FileId.{FileId}
use Rattle.pg_run.specs.pg_base.declared.stamp.Stamp.{Stamp}
use Rattle.pg_run.specs.pg_base.Id.{is_same_file}
use Rattle.pg_run.proofs.pg_base.Orders.{is_same_file-true}
use Rattle.pg_run.specs.pg_edges.declared.edge.Edge.{Edge}
use Rattle.pg_run.specs.pg_msg.declared.message.Ends.{Ends}
use Rattle.pg_run.specs.pg_msg.declared.message.Message.{Message}
use Rattle.pg_run.specs.pg_msg.declared.message.Message.TheVariants as message
use Rattle.pg_run.specs.pg_msg.declared.update.Update.{Update}
use Rattle.pg_run.specs.pg_msg.declared.work.Work.{Work}
use Rattle.pg_run.specs.pg_msg.Work.{new_work}
use Rattle.pg_run.specs.pg_names.Names.{InodeValue, NamesValue, let_go as let_go_names, or_blank, own_of}
use Rattle.pg_run.proofs.pg_names.Gone.{gone_same}
use Rattle.pg_run.specs.pg_register.declared.place.Place.{Place}
use Rattle.pg_run.specs.pg_register.Place.{blank_place}
use Rattle.pg_run.specs.pg_store.declared.store.Store.{Store}
use Rattle.pg_run.specs.pg_store.Beginning.{let_go}
use Rattle.pg_run.specs.pg_store.Births.{birth_of}
use Rattle.pg_run.specs.pg_store.Store.{replica_of}
use Rattle.pg_run.specs.pg_pieces.Done.{Done, idle}
use Rattle.pg_run.specs.pg_pieces.Parting.{stays_for}
use Rattle.pg_run.specs.pg_graph.Leaving.{goes, goes_now, leave_ok, may_leave, without_leave}
use Rattle.pg_run.proofs.pg_graph.LeaveOk.{byes_by}
use Rattle.pg_run.specs.pg_server.declared.input.Input.{Input}
use Rattle.pg_run.specs.pg_server.declared.input.Input.TheVariants as input
use Rattle.pg_run.specs.pg_server.Local.{closed, finished, first_effect, is_heard, receive, reply_to, takes_effect}
use Rattle.pg_run.specs.Carried.{gone_by, gone_in}
use Rattle.pg_run.specs.Run.{first_made, made_behind}
use Rattle.pg_run.specs.Took.{Take, places_taken, without_gone}
use Rattle.pg_run.specs.Took.Taker.{InDir}
use Rattle.pg_run.proofs.Bags.{All-every}
use Rattle.pg_run.proofs.Gone.{places_stay}
use Rattle.law_returns.specs.Gate.{place_at}

-- ---- where nothing takes effect no rule makes anything

drop_whole : (us : List Update) → drop (length us) us ≡ []
drop_whole [] = refl
drop_whole (u ∷ us) = drop_whole us

none_by : (a : Store) (asked : Input) (t : Bool) → t ≡ false
    → drop (length (first_made a asked)) (cond t (closed (reply_to a asked) (first_effect a asked)) (finished (reply_to a asked) (first_effect a asked))).out.made ≡ []
none_by a asked true e = absurd (let z : true ≡ false = e in cc)
none_by a asked false e = drop_whole (first_made a asked)

none_behind : (a : Store) (asked : Input) → takes_effect a asked ≡ false → made_behind a asked ≡ []
none_behind a asked e = none_by a asked (takes_effect a asked) e

nothing : (us : List Update) (i : ℕ) → us ≡ [] → i < length us → ⊥
nothing us i e h = let x = ap (λ (vs : List Update). length vs) e in omega arith

pub going_by : (a : Store) (asked : Input) (i : ℕ) → i < length (made_behind a asked) → (t : Bool) → takes_effect a asked ≡ t → t ≡ true
going_by a asked i lt true e = refl
going_by a asked i lt false e = absurd (nothing (made_behind a asked) i (none_behind a asked e) lt)

-- ---- names where leave is given

module _ (a : Store) (from : ℕ) (ends : Ends) (stamp : Stamp) where
  abbrev W : Work
  W = new_work 0 from

  abbrev Over : Store
  Over = without_leave a ends.file

  abbrev names_if : Bool → NamesValue
  names_if t = cond t (let_go_names a.names ends.file) a.names

  -- the Byes leave them as they are
  gone_names : (goes Over ends.file W).store.names ≡ names_if true
  gone_names =
      byes_by (λ (d : Done). d.store.names ≡ names_if true) (λ (e : Edge). Unit {0}) ends.file (birth_of Over ends.file) (λ d e any same. same)
      (replica_of Over ends.file).edges (All-every (λ (e : Edge). Unit {0}) (replica_of Over ends.file).edges (λ e. tt)) (idle (let_go Over ends.file) W) refl

  by_tests : (t u : Bool) → (cond t (cond u (idle Over W) (goes Over ends.file W)) (idle a W)).store.names ≡ names_if (t && not u)
  by_tests true true = refl
  by_tests true false = gone_names
  by_tests false u = refl

  left_names : (leave_ok a ends stamp W).store.names ≡ names_if (goes_now a ends stamp W)
  left_names = by_tests (may_leave a ends stamp W) (is_some (stays_for Over ends.file))

-- ---- what is held no longer has the blank place

module _ (a : Store) (dir : FileId) (removal : Place) (late : 1 ≤ removal.stamp.time) where
  no_place : place_at (let_go_names a.names dir) dir ≡ removal → ⊥
  no_place at =
      let blank : place_at (let_go_names a.names dir) dir ≡ blank_place dir =
      ap (λ (o : Option InodeValue). (or_blank dir (own_of o)).place) (gone_same a.names dir) in
      (let e : 0 ≡ removal.stamp.time = ap (λ (p : Place). p.stamp.time) (sym blank ∙ at) in omega (arith, e, late))

  left_apart : (from : ℕ) (ends : Ends) (stamp : Stamp) (g : FileId) (t : Bool) → goes_now a ends stamp (new_work 0 from) ≡ t → cond t (Some ends.file) None ≡ Some g
      → place_at (leave_ok a ends stamp (new_work 0 from)).store.names dir ≡ removal → dir ≡ g → ⊥
  left_apart from ends stamp g false e some at same = absurd (none-some g some)
  left_apart from ends stamp g true e some at same =
      let is : ends.file ≡ dir = same_Some ends.file g some ∙ sym same in
      let names : (leave_ok a ends stamp (new_work 0 from)).store.names ≡ let_go_names a.names ends.file =
      left_names a from ends stamp ∙ ap (names_if a from ends stamp) e in
      no_place (subst (λ (f : FileId). place_at (let_go_names a.names f) dir ≡ removal) is (ap (λ (s : NamesValue). place_at s dir) (sym names) ∙ at))

  told_apart : (from : ℕ) (m : Message) (g : FileId) → gone_by a from m ≡ Some g → place_at (receive a m (new_work 0 from)).store.names dir ≡ removal → dir ≡ g → ⊥
  told_apart from (message.LeaveOk ends stamp) g some at same = left_apart from ends stamp g (goes_now a ends stamp (new_work 0 from)) refl some at same
  told_apart from m g none at same = absurd (none-some g none)

  heard_at : (t : Bool) (d e : Done) → t ≡ true → place_at (cond t d e).store.names dir ≡ removal → place_at d.store.names dir ≡ removal
  heard_at true d e h at = at
  heard_at false d e h at = absurd (let z : false ≡ true = h in cc)

  -- IT IS ANOTHER THING THAT GOES, if one does
  gone_apart : (asked : Input) (g : FileId) → takes_effect a asked ≡ true → gone_in a asked ≡ Some g → place_at (first_effect a asked).store.names dir ≡ removal → dir ≡ g → ⊥
  gone_apart (input.Call moment c) g going none at same = absurd (none-some g none)
  gone_apart (input.Tick moment word) g going none at same = absurd (none-some g none)
  gone_apart (input.Arrival packet) g going some at same =
      told_apart packet.from packet.message g some
      (heard_at (is_heard a packet) (receive a packet.message (new_work 0 packet.from)) (idle a (new_work 0 packet.from)) going at) same
  gone_apart input.Restart g going none at same = absurd (none-some g none)

  -- so what the directory took is still there
  module _ (asked : Input) (going : takes_effect a asked ≡ true) (at : place_at (first_effect a asked).store.names dir ≡ removal) (child : FileId) (takes : List Take) where
    stay_apart : (g : FileId) (t : Bool) → is_same_file dir g ≡ t → gone_in a asked ≡ Some g
        → places_taken (InDir dir) child (without_gone (Some g) takes) ≡ places_taken (InDir dir) child takes
    stay_apart g false other is = places_stay g (InDir dir) child takes other
    stay_apart g true same is = absurd (gone_apart asked g going is at (is_same_file-true dir g same))

    stay_by : (o : Option FileId) → gone_in a asked ≡ o → places_taken (InDir dir) child (without_gone o takes) ≡ places_taken (InDir dir) child takes
    stay_by None is = refl
    stay_by (Some g) is = stay_apart g (is_same_file dir g) refl is

    pub places_still : places_taken (InDir dir) child (without_gone (gone_in a asked) takes) ≡ places_taken (InDir dir) child takes
    places_still = stay_by (gone_in a asked) refl
