-- What comes to a server: it makes no version, and stands for what came.
use Rattle.std.proofs.Common.{ℕ, ◌≡◌, ◌≤◌, cond, List, [], ◌∷◌, ◌++◌, map, Some, option_map, refl, sym, ap, subst, ◌∙◌, inl}
use Rattle.pg_run.specs.pg_base.declared.id.FileId.{FileId}
use Rattle.pg_run.specs.pg_base.declared.policy.Policy.{Policy}
use Rattle.pg_run.specs.pg_base.declared.stamp.Stamp.{Stamp}
use Rattle.pg_run.specs.pg_base.Id.{is_same_file}
use Rattle.pg_run.specs.pg_base.Version.{VersionValue}
use Rattle.pg_run.specs.pg_content.Content.{joined_content}
use Rattle.pg_run.specs.pg_content.History.{IsMember}
use Rattle.pg_run.proofs.pg_content.Numbers.{member_of}
use Rattle.pg_run.specs.pg_entries.declared.entry.Entry.{Entry}
use Rattle.pg_run.specs.pg_house.Passing.{is_update}
use Rattle.pg_run.specs.pg_house.Returning.{is_root}
use Rattle.pg_run.specs.pg_intent.declared.intent.Intent.{Intent}
use Rattle.pg_run.specs.pg_intent.declared.intent.Intent.TheVariants as intent
use Rattle.pg_run.specs.pg_msg.declared.message.Granted.{Granted}
use Rattle.pg_run.specs.pg_msg.Work.{new_work}
use Rattle.pg_run.specs.pg_register.declared.place.Place.{Place}
use Rattle.pg_run.specs.pg_replica.declared.replica.Replica.{Replica}
use Rattle.pg_run.specs.Carried.{granted_takes, patch_taken, patches_taken}
use Rattle.pg_run.specs.theory_bodies.Book.{IsVersionOf}
use Rattle.pg_run.specs.Journal.{Born, made_for, versions_in}
use Rattle.pg_run.specs.Took.{Take, entry_takes, flags_of, places_of, stamps_taken, take_of}
use Rattle.pg_run.specs.Took.Take.{TookPlace}
use Rattle.pg_run.specs.Took.Taker.{InDir, Itself}
use Rattle.pg_run.specs.pg_store.declared.store.Store.{Store}
use Rattle.pg_run.specs.pg_store.Seen.{server_of}
use Rattle.pg_run.specs.pg_store.Store.{is_held, replica_at, take_version}
use Rattle.pg_run.specs.pg_pieces.Done.{Done}
use Rattle.pg_run.proofs.theory_flood_pieces.Choices.{chosen}
use Rattle.law_contents.proofs.Changes.{Core, IsOrdered, Keeps, by_altered, core_at, core_of}
use Rattle.law_contents.proofs.Files.{HoldsFile, covered_upto, file_came}
use Rattle.law_contents.proofs.Joining.{stands_came}
use Rattle.law_contents.proofs.Quiet.{Quiet}
use Rattle.law_contents.proofs.Sending.{AllCarry, none_carry}
use Rattle.law_contents.proofs.Servers.{Came, IsBy, IsNamedBy, IsServer, Stands, file_held, stands_kept, stands_same, with_came}
use Rattle.law_contents.proofs.Times.{head_upto}
use Rattle.law_contents.proofs.Takes.{HasNone, both_none, each_none, flags_none}
use Rattle.law_contents.proofs.Versions.{version_alters, version_last}

-- what came, and before that what else did
abbrev pub more_came : List Take → Came → Came
more_came more came q = stamps_taken q more ++ came q

-- server s holds this behind the first effect of an event that makes no version, and stands for
-- what was brought
pub record Arrives (s : ℕ) (a : Store) (us : List Born) (p : FileId → Policy)
    (N : FileId → Type 0) (came : Came) (d : Done) (more : List Take) : Type 0 where
  pub server : server_of d.store ≡ server_of a
  pub last : a.names.last ≤ d.store.names.last
  pub files : a.files ≤ d.store.files
  pub order : IsOrdered a.replicas → IsOrdered d.store.replicas
  pub held : (file : FileId) (k : Core) → core_at d.store file ≡ Some k
      → IsNamedBy s d.store N file
  pub stands : Stands s d.store us p (more_came more came)
  pub none : versions_in d.work.made ≡ []
  pub sent : AllCarry us p N d.work.sent
  pub tail : AllCarry us p N d.work.tail

-- ---- no version is among what comes

module _ (q : FileId) where
  pub entry_none : (dir : FileId) (e : Entry) → HasNone q (entry_takes dir e)
  entry_none dir e = flags_none q (InDir dir) e.child e.flags

  pub patch_none : (dir : FileId) (i : Intent) → HasNone q (patch_taken dir i)
  patch_none dir (intent.Bye file birth peer peer_birth) = refl
  patch_none dir (intent.Seek file target) = refl
  patch_none dir (intent.Fill file birth target) = refl
  patch_none dir (intent.Patch to entry target) =
      chosen (HasNone q) (is_same_file to dir) (entry_takes dir entry) [] (entry_none dir entry) refl
  patch_none dir (intent.Confirm to child target) = refl
  patch_none dir (intent.Leave file peer peer_birth) = refl

  place_none : (thing : FileId) (place : Place) → HasNone q (places_of Itself thing place)
  place_none thing place =
      chosen (HasNone q) (is_update place) (TookPlace Itself thing place ∷ []) [] refl refl

  pub granted_none : (store : Store) (file : FileId) (g : Granted)
      → HasNone q (granted_takes store file g)
  granted_none store file g =
      both_none q (places_of Itself file g.place)
      (flags_of Itself file g.flags ++ patches_taken store file) (place_none file g.place)
      (both_none q (flags_of Itself file g.flags) (patches_taken store file)
      (flags_none q Itself file g.flags)
      (each_none q (patch_taken file) (patch_none file) store.intents))

  pub told_none : (store : Store) (dir : FileId) (e : Entry)
      → HasNone q (cond (is_held store dir) (entry_takes dir e) [])
  told_none store dir e =
      chosen (HasNone q) (is_held store dir) (entry_takes dir e) [] (entry_none dir e) refl

  pub confirmed_none : (store : Store) (e : Entry) → HasNone q
      (cond (is_held store e.child)
      (cond (is_root e.child) [] (places_of Itself e.child e.place)
      ++ flags_of Itself e.child e.flags) [])
  confirmed_none store e =
      let places = cond (is_root e.child) [] (places_of Itself e.child e.place) in
      chosen (HasNone q) (is_held store e.child) (places ++ flags_of Itself e.child e.flags) []
      (both_none q places (flags_of Itself e.child e.flags)
      (chosen (HasNone q) (is_root e.child) [] (places_of Itself e.child e.place) refl
      (place_none e.child e.place))
      (flags_none q Itself e.child e.flags))
      refl

module _ {s : ℕ} {a : Store} {us : List Born} {p : FileId → Policy} {N : FileId → Type 0}
    {came : Came} (k : IsServer s a us p N came) where
  abbrev Comes : Done → List Take → Type 0
  Comes d more = Arrives s a us p N came d more

  -- ---- no content changes

  pub quiet_arrives : (now from : ℕ) (d : Done) → Quiet us p N a (new_work now from) d
      → (more : List Take) → ((q : FileId) → HasNone q more)
      → Comes d (map take_of d.work.made ++ more)
  quiet_arrives now from d h more none = record {
    server = h.keeps.server;
    last = h.keeps.last;
    files = h.keeps.files;
    order = h.keeps.order;
    held = λ f c e. inl (k.held f c (sym (h.keeps.each f) ∙ e));
    stands = stands_same (stands_kept k.stands d.store h.keeps)
        (more_came (map take_of d.work.made ++ more) came)
        (λ q. ap (λ (ts : List Stamp). ts ++ came q)
        (both_none q (map take_of d.work.made) more (h.takes q) (none q)));
    none = h.none;
    sent = h.sent (none_carry us p N);
    tail = h.tail (none_carry us p N);
  }

  -- ---- a version

  module _ (file : FileId) (v : VersionValue) (h : IsVersionOf (p file) (made_for file us) v)
      (b : Store) (before : Keeps a b) (x : Replica) (is : replica_at b file ≡ Some x) where
    then_stands : Stands s b us p came
    then_stands = stands_kept k.stands b before

    held_there
        : HoldsFile (IsBy s (Some (core_of x))) (p file) x.content (made_for file us) (came file)
    held_there = file_held then_stands file (core_of x) (ap (option_map core_of) is)

    abbrev end : Store
    end = take_version b file v

    abbrev JoinedCore : Core
    JoinedCore =
        record { birth = x.birth; content = joined_content x.content v; kept = x.kept }

    came_time : v.head.stamp.time ≤ end.names.last
    came_time = version_last b file x is v (λ covered.
        covered_upto held_there (then_stands.known file) (k.made.histories file) h.made h.among
        b.names.last (k.made.order file)
        (head_upto us k.made b.names.last file (came file) (then_stands.upto file) held_there.stood)
        v h.whole covered)

    came_member : IsMember (made_for file us) v.head.stamp
    came_member =
        subst (IsMember (made_for file us)) (sym (ap (λ (y : VersionValue). y.head.stamp) h.whole))
        (member_of (made_for file us) h.made h.among)

    pub version_stands : Stands s end us p (with_came file v.head.stamp came)
    version_stands =
        stands_came then_stands end file JoinedCore (version_alters b file x is v) v.head.stamp
        came_time
        (file_came held_there (then_stands.known file) (k.made.histories file) h.made h.among v
        h.whole)
        came_member (then_stands.kept file (core_of x) (ap (option_map core_of) is))
        (then_stands.ranges file (core_of x) (ap (option_map core_of) is))

    pub version_named : (f : FileId) (c : Core) → core_at end f ≡ Some c → N f
    version_named =
        by_altered (λ f o. (c : Core) → o ≡ Some c → N f) b end file (Some JoinedCore)
        (version_alters b file x is v)
        (λ c e. k.held file (core_of x) (sym (before.each file) ∙ ap (option_map core_of) is))
        (λ f apart c e. k.held f c (sym (before.each f) ∙ e))
