-- A replica begins, of what was not held: what edges promise is kept, and the server stays whole.
use Rattle.std.proofs.Common.{ℕ, ◌≡◌, Bool, true, false, cond, List, [], ◌∷◌, Option, None, Some, is_some, option_map, refl, ap, ◌∙◌}
use mathlib.Core.Path.{fun_ext}
use Rattle.pg_base.specs.declared.id.FileId.{FileId}
use Rattle.pg_base.specs.declared.policy.Policy.{Policy}
use Rattle.pg_base.specs.Id.{file_cmp, is_same_file}
use Rattle.pg_base.proofs.Maps.{lookup-insert_entry}
use Rattle.pg_base.proofs.Orders.{file_total, is_same_file-refl}
use Rattle.pg_edges.specs.declared.key.Key.{Key}
use Rattle.pg_edges.specs.declared.key.Key.TheVariants as key
use Rattle.theory_flood.specs.Server.{Replica as Seen}
use Rattle.theory_flood.proofs.Draws.{Draws-refl}
use Rattle.theory_flood.proofs.Made.{make_steps}
use Rattle.theory_flood.proofs.Servers.{OthersStay}
use Rattle.theory_flood.proofs.Steps.{Steps, Steps-refl, Steps-trans}
use Rattle.pg_entries.specs.declared.cell.Cell.{Cell}
use Rattle.pg_entries.specs.declared.entry.Entry.{Entry}
use Rattle.pg_cells.specs.pg_intent.declared.intent.Intent.{Intent}
use Rattle.pg_cells.specs.pg_intent.declared.intent.Intent.TheVariants as intent
use Rattle.pg_cells.specs.pg_intent.declared.key.IntentKey.{IntentKey}
use Rattle.pg_cells.specs.pg_intent.Intents.{ended, intent_at}
use Rattle.pg_cells.specs.pg_names.declared.attributes.Attributes.{Attributes}
use Rattle.pg_cells.specs.pg_names.Names.{InodeValue, is_entry_new, known, or_blank, own_of, raise}
use Rattle.pg_cells.specs.pg_names.Names as names
use Rattle.pg_cells.proofs.pg_names.Holding.{begun_cells, begun_other}
use Rattle.pg_cells.proofs.pg_names.Lookups.{update_frame}
use Rattle.pg_cells.specs.pg_replica.declared.replica.Replica.{Replica}
use Rattle.pg_cells.specs.pg_replica.Replica.{new_replica}
use Rattle.pg_cells.specs.pg_store.declared.store.Store.{Store}
use Rattle.pg_cells.specs.pg_store.Beginning.{begin, patches_of, put_new, take_patch, take_patches, take_told, take_told_in, with_intents}
use Rattle.pg_cells.specs.pg_store.Store.{is_held, is_newer_entry, put_entry, replica_at, take_entry}
use Rattle.pg_cells.specs.pg_store.Together.{AreTogether}
use Rattle.theory_flood_pieces.specs.Seen.{see, seen, standing}
use Rattle.theory_flood_pieces.proofs.Choices.{decided}
use Rattle.theory_flood_pieces.proofs.Growth.{entry_grows, entry_told}
use Rattle.theory_flood_pieces.proofs.Linking.{alike_steps}
use Rattle.theory_flood_pieces.proofs.Stores.{cell_same, content_same, over_stays, plain_at}
use Rattle.theory_flood_pieces.proofs.Taking.{grew_further, grew_raised, took_one, took_steps}
use Rattle.theory_flood_pieces.proofs.Together.{no_replica}

-- ---- it begins, with no edge

module _ (a : Store) (file : FileId) (birth : ℕ) (policy : Policy) (own : Attributes) (full : Bool) (none : known a.names file ≡ None) (no : replica_at a file ≡ None) where
  abbrev New : Store
  New = put_new a file birth policy own full

  abbrev Fresh : Replica
  Fresh = new_replica birth policy

  new_here : replica_at New file ≡ Some Fresh
  new_here =
      lookup-insert_entry file_cmp file_total file file Fresh a.replicas
      ∙ ap (λ t. cond t (Some Fresh) (replica_at a file)) (is_same_file-refl file)

  new_elsewhere : (f : FileId) → is_same_file f file ≡ false → replica_at New f ≡ replica_at a f
  new_elsewhere f apart =
      lookup-insert_entry file_cmp file_total f file Fresh a.replicas
      ∙ ap (λ t. cond t (Some Fresh) (replica_at a f)) apart

  other_cells : (f : FileId) → is_same_file f file ≡ false → plain_at New f ≡ plain_at a f
  other_cells f apart = fun_ext (cell_same a New f (record {
    own = ap (λ (o : Option InodeValue). or_blank f (own_of o)) (begun_other a.names file own full f apart);
    entries = λ g. begun_cells a.names file own full none f g;
    content = content_same a New f (new_elsewhere f apart);
  }))

  abbrev seen_with : Replica → (Key → Option Cell) → Seen Cell
  seen_with z cs = record { birth = z.birth; edges = z.edges; cells = cs }

  seen_same : (f : FileId) → is_same_file f file ≡ false → (o : Option Replica) → option_map (seen New f) o ≡ option_map (seen a f) o
  seen_same f apart None = refl
  seen_same f apart (Some z) = ap (λ cs. Some (seen_with z cs)) (other_cells f apart)

  others : OthersStay (see a) (see New) file
  others f apart = ap (option_map (seen New f)) (new_elsewhere f apart) ∙ seen_same f apart (replica_at a f)

  pub new_steps : Steps standing a New
  new_steps =
      make_steps standing a New file (seen New file Fresh) (seen New file Fresh)
      (ap (option_map (seen a file)) no) (ap (option_map (seen New file)) new_here) refl
      (Draws-refl a.tags (seen New file Fresh)) others (over_stays a New)

-- ---- and takes the entries of its Patches

entry_own : (o : Option InodeValue) (e : Entry) → is_entry_new o e ≡ true → (own : Attributes) × (own_of o ≡ Some own)
entry_own None e h = absurd (let z : false ≡ true = h in cc)
entry_own (Some x) e h = (x.own, refl)

-- an entry is taken, of whatever is held or not
pub entry_steps : (a : Store) (d : FileId) (e : Entry) → Steps standing a (take_entry a d e)
entry_steps a d e = decided (Steps standing a) (is_newer_entry a d e) (put_entry a d e) a (λ new.
    let own = entry_own (known a.names d) e new in
    let keys = record { file = d; key = key.Entry e.child } ∷ [] in
    let joined = names.join_entry a.names d e in
    let late = raise joined e.place.stamp.time in
    took_steps keys a (put_entry a d e)
    (took_one a late d (key.Entry e.child)
    (grew_further keys a.names joined late
    (record {
      server = (update_frame a.names d (names.with_joined e)).server;
      grow = entry_grows a.names d own.0 own.1 e;
      told = entry_told a.names d own.0 own.1 e;
    })
    (grew_raised keys joined e.place.stamp.time))))
    (λ old. Steps-refl standing a)

intents_steps : (a : Store) (is : List Intent) → Steps standing a (with_intents a is)
intents_steps a is = alike_steps a (with_intents a is) (record { servers = refl; tags = refl; names = refl; replicas = refl })

told_steps : (a : Store) (d : FileId) (i : Intent) → Steps standing a (take_told a d i)
told_steps a d (intent.Bye file birth peer peer_birth) = Steps-refl standing a
told_steps a d (intent.Seek file target) = Steps-refl standing a
told_steps a d (intent.Fill file birth target) = Steps-refl standing a
told_steps a d (intent.Patch to entry target) = entry_steps a d entry
told_steps a d (intent.Confirm to child target) = Steps-refl standing a
told_steps a d (intent.Leave file peer peer_birth) = Steps-refl standing a

told_in_steps : (a : Store) (d : FileId) (o : Option Intent) → Steps standing a (take_told_in a d o)
told_in_steps a d None = Steps-refl standing a
told_in_steps a d (Some i) = told_steps a d i

patch_steps : (a : Store) (d : FileId) (k : IntentKey) → Steps standing a (take_patch a d k)
patch_steps a d k =
    let rest = with_intents a (ended a.intents k) in
    Steps-trans standing (intents_steps a (ended a.intents k)) (told_in_steps rest d (intent_at a.intents k))

patches_steps : (a : Store) (d : FileId) (ks : List IntentKey) → Steps standing a (take_patches a d ks)
patches_steps a d [] = Steps-refl standing a
patches_steps a d (k ∷ ks) = Steps-trans standing (patch_steps a d k) (patches_steps (take_patch a d k) d ks)

pub none_known : (o : Option InodeValue) → is_some o ≡ false → o ≡ None
none_known None h = refl
none_known (Some x) h = absurd (let z : true ≡ false = h in cc)

-- A REPLICA BEGINS
pub begin_steps : (a : Store) (file : FileId) (birth : ℕ) (policy : Policy) (own : Attributes) (full : Bool) → AreTogether a → is_held a file ≡ false
    → Steps standing a (begin a file birth policy own full)
begin_steps a file birth policy own full both away =
    Steps-trans standing
    (new_steps a file birth policy own full (none_known (known a.names file) away) (no_replica a both file away))
    (patches_steps (put_new a file birth policy own full) file (patches_of file a.intents))
