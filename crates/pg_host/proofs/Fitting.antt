-- What has a spelling as a state is what a server may hold.
use Rattle.std.proofs.Common.{◌≡◌, ℕ, zero, suc, ◌≤◌, ◌<◌, Bool, true, false, List, [], ◌∷◌, length, get_or, Option, Some, None, cond, refl, sym, ◌∙◌, ap, subst, arith}
use Rattle.std.specs.BTreeMap.{is_at}
use Rattle.std.specs.List.{All, AllByRecursion}
use Rattle.std.specs.List.Sorted.{IsStrictlySortedBy}
use Rattle.std.specs.Map.{keys_of, lookup}
use Rattle.std.proofs.lemmas.List.{length-map}
use Rattle.pg_base.specs.declared.id.FileId.{FileId}
use Rattle.pg_base.specs.declared.id.Kind.{Kind}
use Rattle.pg_base.specs.declared.id.Kind.TheVariants.{Dir, File}
use Rattle.pg_base.specs.Id.{file_cmp, is_same_file}
use Rattle.pg_base.specs.Version.{VersionValue}
use Rattle.pg_base.proofs.Entries.{lookup-place}
use Rattle.pg_base.proofs.Orders.{file_total, is_same_file-true}
use Rattle.pg_register.specs.declared.flag.Flag.{Flag}
use Rattle.pg_register.specs.declared.place.Place.{Place}
use Rattle.pg_entries.specs.declared.entry.Entry.{Entry}
use Rattle.pg_edges.specs.declared.edge.Edge.{Edge}
use Rattle.pg_announced.specs.declared.announced.Announced.{Announced}
use Rattle.pg_announced.specs.declared.announced.NoteKey.{NoteKey}
use Rattle.pg_intent.specs.declared.intent.Intent.{Intent}
use Rattle.pg_intent.specs.declared.intent.Intent.TheVariants as intent
use Rattle.pg_names.specs.Names.{InodeValue, blank_own}
use Rattle.pg_replica.specs.Replicas.{ByFile, replica_in}
use Rattle.pg_replica.specs.declared.replica.Replica.{Replica}
use Rattle.pg_words.specs.PlaceWords.{IsPlace}
use Rattle.pg_packet_write.specs.Fits.{FitsHead, IsServer}
use Rattle.pg_state.specs.Fits as state
use Rattle.pg_state.specs.Fits.{FitsState}
use Rattle.pg_store.specs.declared.store.Store.{Store}
use Rattle.pg_store.specs.declared.wishes.Wish.{Wish}
use Rattle.pg_node_input.specs.law_lengths.law_spelled.Stores as held
use Rattle.pg_node_input.specs.law_lengths.law_spelled.Stores.{FitsStore, MayBeServer}

-- ---- lists

at : {X : Type 0} (P : X → Type 0) (xs : List X) (i : ℕ) (d : X) → AllByRecursion P xs → i < length xs → P (get_or xs i d)
at P [] i d each within = absurd (omega (arith, within))
at P (x ∷ xs) zero d each within = each.0
at P (x ∷ xs) (suc i) d each within = at P xs i d each.1 (omega (arith, within))

each_of : {X : Type 0} (P Q : X → Type 0) → ((x : X) → P x → Q x) → (xs : List X) → AllByRecursion P xs → All Q xs
each_of P Q so xs each = λ i d within. so (get_or xs i d) (at P xs i d each within)

key_at_ : {X : Type 0} (es : List (FileId × X)) (i : ℕ) (d : FileId × X) → get_or (keys_of es) i d.0 ≡ (get_or es i d).0
key_at_ [] i d = refl
key_at_ (e ∷ es) zero d = refl
key_at_ (e ∷ es) (suc i) d = key_at_ es i d

-- ---- places, flags and entries

place_fits : (file : FileId) (place : Place) → IsPlace place → held.FitsPlace file place
place_fits file place is = record { parent = is.parent.kind; name = λ fits. is.name }

flags_fit : (flags : List Flag) → state.FitFlags flags → held.FitFlags flags
flags_fit flags fit = record { by_server = fit.by_server; each = each_of (λ (f : Flag). IsServer f.server) (λ (f : Flag). IsServer f.server) (λ f is. is) flags fit.golds.each }

entries_fit : (es : List (FileId × Entry)) → state.FitChildren es → held.FitEntries es
entries_fit es fit = λ i d within.
    let child : state.FitsChild (get_or es i d).1 = at (λ (e : FileId × Entry). state.FitsChild e.1) es i d fit.each within in
    let own : (get_or es i d).0 ≡ (get_or es i d).1.child = fit.by_child.own i d within in
    record { child = sym own; place = place_fits (get_or es i d).0 (get_or es i d).1.place child.place; flags = flags_fit (get_or es i d).1.flags child.flags }

-- ---- what is held

inside_entries : (kind : Kind) (held_ : InodeValue) (x : Replica) → state.FitsInside kind held_ x → held.FitEntries held_.entries
inside_entries Dir held_ x is = entries_fit held_.entries is.children
inside_entries File held_ x is = subst held.FitEntries (sym is.entries) (λ i d within. absurd (omega (arith, within)))

inside_heads : (kind : Kind) (held_ : InodeValue) (x : Replica) → state.FitsInside kind held_ x → All (λ (v : VersionValue). FitsHead v.head) x.content.heads
inside_heads Dir held_ x is = subst (All (λ (v : VersionValue). FitsHead v.head)) (sym is.heads) (λ i d within. absurd (omega (arith, within)))
inside_heads File held_ x is = each_of state.FitsWhole (λ (v : VersionValue). FitsHead v.head) (λ v whole. whole.head) x.content.heads is.heads.each

inode_fits : (file : FileId) (held_ : InodeValue) (x : Replica) → state.FitsReplica file held_ x → held.FitsInode file held_
inode_fits file held_ x is = record {
  own = record { place = place_fits file held_.own.place is.place; flags = flags_fit held_.own.flags is.flags };
  entries = inside_entries file.kind held_ x is.inside;
}

replica_fits : (file : FileId) (held_ : InodeValue) (x : Replica) → state.FitsReplica file held_ x → held.FitsReplica x
replica_fits file held_ x is = record {
  heads = inside_heads file.kind held_ x is.inside;
  edges = each_of state.FitsEdge (λ (e : Edge). MayBeServer e.peer) (λ e edge. edge.peer.most) x.edges is.edges.each;
}

inode_by : (file : FileId) (held_ : InodeValue) (o : Option Replica) → state.FitsBeside file held_ o → held.FitsInode file held_
inode_by file held_ None is = absurd is
inode_by file held_ (Some x) is = inode_fits file held_ x is

replica_by : (file : FileId) (held_ : InodeValue) (o : Option Replica) (x : Replica) → state.FitsBeside file held_ o → o ≡ Some x → held.FitsReplica x
replica_by file held_ None x is found = absurd is
replica_by file held_ (Some y) x is found = let e : Some y ≡ Some x = found in let same : y ≡ x = cc in subst held.FitsReplica same (replica_fits file held_ y is)

abbrev blank_inode : FileId → InodeValue
blank_inode file = record { full = false; own = blank_own file; entries = [] }

module _ (replicas : ByFile) where
  found_by : (file : FileId) (e : FileId × InodeValue) (es : List (FileId × InodeValue)) (x : InodeValue) (t : Bool) → is_same_file file e.0 ≡ t → state.FitsHeld replicas e
      → (lookup (is_at (file_cmp file)) es ≡ Some x → held.FitsInode file x) → cond t (Some e.1) (lookup (is_at (file_cmp file)) es) ≡ Some x → held.FitsInode file x
  found_by file e es x false is here rest found = rest found
  found_by file e es x true is here rest found =
      let e_is : Some e.1 ≡ Some x = found in
      let same : e.1 ≡ x = cc in
      subst (λ (k : FileId). held.FitsInode k x) (sym (is_same_file-true file e.0 is)) (subst (held.FitsInode e.0) same (inode_by e.0 e.1 (replica_in replicas e.0) here))

  names_fit : (es : List (FileId × InodeValue)) → AllByRecursion (state.FitsHeld replicas) es → (file : FileId) (x : InodeValue) → lookup (is_at (file_cmp file)) es ≡ Some x → held.FitsInode file x
  names_fit [] each file x found = absurd (let e : None ≡ Some x = found in cc)
  names_fit (e ∷ es) each file x found = found_by file e es x (is_same_file file e.0) refl each.0 (names_fit es each.1 file x) found

  replicas_fit : (held_ : List (FileId × InodeValue)) → state.FitReplicas held_ replicas → All (λ (r : FileId × Replica). held.FitsReplica r.1) replicas
  replicas_fit held_ fit = λ i d within.
      let r : FileId × Replica = get_or replicas i d in
      let e : FileId × InodeValue = get_or held_ i (d.0, blank_inode d.0) in
      let many : length (keys_of replicas) ≡ length (keys_of held_) = ap length fit.same in
      let size : length (keys_of replicas) ≡ length replicas = length-map replicas (λ (x : FileId × Replica). x.0) in
      let other : length (keys_of held_) ≡ length held_ = length-map held_ (λ (x : FileId × InodeValue). x.0) in
      let there : i < length held_ = omega (arith, within, many, size, other) in
      let key : r.0 ≡ e.0 = sym (key_at_ replicas i d) ∙ ap (λ (ks : List FileId). get_or ks i d.0) fit.same ∙ key_at_ held_ i (d.0, blank_inode d.0) in
      let sorted = subst (IsStrictlySortedBy file_cmp) (sym fit.same) fit.by_id in
      let found : replica_in replicas r.0 ≡ Some r.1 = lookup-place file_cmp file_total r.0 r.1 replicas i d sorted within refl in
      let fits : state.FitsBeside e.0 e.1 (replica_in replicas e.0) = at (state.FitsHeld replicas) held_ i (d.0, blank_inode d.0) fit.each there in
      replica_by e.0 e.1 (replica_in replicas e.0) r.1 fits (ap (replica_in replicas) (sym key) ∙ found)

-- ---- what is intended

about_fits : (i : Intent) → state.FitsIntent i → held.FitsIntent i
about_fits (intent.Bye file birth peer peer_birth) is = record { about = tt; target = is.most }
about_fits (intent.Seek file target) is = record { about = tt; target = is.most }
about_fits (intent.Fill file birth target) is = record { about = tt; target = is.most }
about_fits (intent.Patch dir entry target) is = record {
  about = (is.dir.kind, record { child = refl; place = place_fits entry.child entry.place is.child.place; flags = flags_fit entry.flags is.child.flags });
  target = is.target.most;
}
about_fits (intent.Confirm dir child target) is = record { about = is.dir.kind; target = is.target.most }
about_fits (intent.Leave file peer peer_birth) is = record { about = tt; target = is.most }

-- ---- all

pub state_fits : (s : Store) → FitsState s → FitsStore s
state_fits s fits = record {
  servers = fits.servers.most;
  names = record { server = fits.server; held = names_fit s.replicas s.names.held fits.replicas.each };
  replicas = replicas_fit s.replicas s.names.held fits.replicas;
  announced = each_of state.FitsNote held.FitsNote (λ n note. note.head) s.announced fits.announced.each;
  intents = each_of state.FitsIntent held.FitsIntent about_fits s.intents fits.intents.each;
  wishes = each_of (λ (w : FileId × Wish). state.IsTarget w.1.target) (λ (w : FileId × Wish). MayBeServer w.1.target) (λ w is. is.most) s.wishes fits.wishes.each;
}
