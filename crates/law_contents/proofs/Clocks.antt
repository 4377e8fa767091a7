-- No server comes to the end of the numbers of its versions before its clock does.
use Rattle.std.proofs.Common.{ℕ, ◌≡◌, ◌<◌, ◌^◌, ◌&&◌, Bool, true, false, List, get_or, Some, option_map, not, refl, sym, ap, subst}
use Rattle.std.specs.Prelude.{nat_lt}
use Rattle.std.proofs.lemmas.Bool.{and_parts, ltb-true}
use Rattle.std.proofs.lemmas.List.Folds.{list_any_none}
use Rattle.pg_run.specs.pg_base.declared.id.FileId.{FileId}
use Rattle.pg_run.specs.pg_base.declared.policy.Policy.{Policy}
use Rattle.pg_run.specs.pg_base.Stamp.{clock_end}
use Rattle.pg_run.specs.pg_base.Version.{VersionValue}
use Rattle.pg_run.specs.pg_content.Content.{Among}
use Rattle.pg_run.proofs.pg_content.Members.{among_all}
use Rattle.pg_run.specs.pg_replica.declared.replica.Replica.{Replica}
use Rattle.pg_run.specs.pg_replica.Replica.{has_own_end, knows_own_end}
use Rattle.pg_run.specs.pg_replica.Replicas.{have_own_end}
use Rattle.pg_run.specs.Histories.{ClockEndsFirst}
use Rattle.pg_run.specs.Journal.{Born, made_for}
use Rattle.pg_run.specs.Run.{run}
use Rattle.pg_run.specs.pg_store.declared.store.Store.{Store}
use Rattle.pg_run.specs.pg_store.Seen.{server_of}
use Rattle.pg_run.specs.pg_store.Store.{has_time, have_own_flag_at_end, replica_at}
use Rattle.pg_run.proofs.theory_flood_pieces.Found.{entries_known}
use Rattle.law_contents.specs.Together.{StandOn}
use Rattle.law_contents.proofs.Changes.{IsOrdered, core_of}
use Rattle.law_contents.proofs.Histories.{AreMade}
use Rattle.law_contents.proofs.Runs.{run_sound}
use Rattle.law_contents.proofs.Servers.{Came, Stands, file_held}
use Rattle.law_contents.proofs.Times.{number_upto}
use Rattle.law_contents.proofs.Vectors.{IsSorted, none_at_end, sorted_vector}

-- ---- versions

module _ {s : ℕ} {a : Store} {us : List Born} {p : FileId → Policy} {came : Came}
    (made : AreMade us) (order : IsOrdered a.replicas) (k : Stands s a us p came)
    (time : a.names.last < 2 ^ 62) where
  head_ends_not : (server : ℕ) (file : FileId) (x : Replica) → replica_at a file ≡ Some x
      → (v : VersionValue) → Among v x.content.heads → has_own_end server v.head.vector ≡ false
  head_ends_not server file x is v l =
      let stood = (file_held k file (core_of x) (ap (option_map core_of) is)).stood in
      let r = stood.stands.heads v l in
      let sorted = subst IsSorted (sym (ap (λ (y : VersionValue). y.head.vector) r.version))
      (sorted_vector (made_for file us) r.made.stamp) in
      none_at_end server a.names.last v.head.vector sorted
      (number_upto us made a.names.last file (came file) (k.upto file) stood v l) time

  file_ends_not : (server : ℕ) (file : FileId) (x : Replica) → replica_at a file ≡ Some x
      → knows_own_end server x ≡ false
  file_ends_not server file x is =
      list_any_none (λ (v : VersionValue). has_own_end server v.head.vector) x.content.heads
      (among_all (λ (v : VersionValue). has_own_end server v.head.vector ≡ false)
      x.content.heads (head_ends_not server file x is))

  pub versions_end_not : (server : ℕ) → have_own_end a.replicas server ≡ false
  versions_end_not server =
      list_any_none (λ (r : FileId × Replica). knows_own_end server r.1) a.replicas
      (λ i d lt. file_ends_not server (get_or a.replicas i d).0 (get_or a.replicas i d).1
      (entries_known a order i d lt))

-- ---- clocks

no_end : (t b c : Bool) → (t ≡ true → b ≡ false) → (t && (not b && c)) ≡ (t && c)
no_end false b c h = refl
no_end true b c h = ap (λ x. not x && c) (h refl)

pub clock_ends_first : (n : ℕ) → n < 2 ^ 32 → StandOn n → ClockEndsFirst n
clock_ends_first n small both events s least most =
    let a = (run n events).stores s in
    let k = run_sound n small both events in
    no_end (has_time a.names.last a.tags a.files a.births)
    (have_own_end a.replicas (server_of a)) (not (have_own_flag_at_end a.names))
    (λ t. versions_end_not k.made (k.order s) (k.stands s)
    (ltb-true a.names.last clock_end (and_parts (nat_lt a.names.last clock_end) _ t).0)
    (server_of a))
