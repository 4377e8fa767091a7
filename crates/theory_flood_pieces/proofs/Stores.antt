-- What is found in a server in which one replica changed, and the tags of its edges.
use Rattle.std.proofs.Common.{◌≡◌, ◌≤◌, Bool, true, false, cond, Option, None, Some, option_map, refl, sym, ap, subst, ◌∙◌, arith}
use Rattle.std.specs.BTreeMap.{is_at}
use Rattle.std.specs.Map.{lookup}
use Rattle.pg_base.specs.declared.id.FileId.{FileId}
use Rattle.pg_base.specs.declared.stamp.Stamp.{Stamp}
use Rattle.pg_base.specs.Id.{file_cmp, is_same_file}
use Rattle.pg_base.proofs.Maps.{lookup-insert_entry}
use Rattle.pg_base.proofs.Orders.{file_total, is_same_file-refl, is_same_file-true}
use Rattle.pg_edges.specs.declared.key.Key.{Key}
use Rattle.pg_edges.specs.declared.key.Key.TheVariants as key
use Rattle.theory_flood.specs.Protocol.{IsOrdered, Protocol}
use Rattle.theory_flood.specs.Server.{Replica as Seen, Slot, tag_on}
use Rattle.theory_flood.proofs.Draws.{Draws}
use Rattle.theory_flood.proofs.OneFile.{file_steps, idle_steps}
use Rattle.theory_flood.proofs.Steps.{HasSoundTags, OverStays}
use Rattle.pg_content.specs.Content.{ContentValue}
use Rattle.pg_entries.specs.declared.cell.Cell.{Cell}
use Rattle.pg_entries.specs.declared.cell.Cell.TheVariants as cell
use Rattle.pg_entries.specs.declared.entry.Entry.{Entry}
use Rattle.pg_cells.specs.pg_msg.declared.message.Sent.{Sent}
use Rattle.pg_cells.specs.pg_names.declared.attributes.Attributes.{Attributes}
use Rattle.pg_cells.specs.pg_names.Names.{cell_at as entry_at, own_or_blank}
use Rattle.pg_register.specs.Flag.{flag_of}
use Rattle.pg_cells.specs.pg_replica.declared.replica.Replica.{Replica}
use Rattle.pg_cells.specs.pg_replica.Replica.{cell_at as head_at}
use Rattle.pg_cells.specs.pg_replica.Replicas.{or_nothing, put_replica}
use Rattle.pg_cells.specs.pg_store.declared.store.Store.{Store}
use Rattle.pg_cells.specs.pg_store.Cells.{cell_at, entry_cell, flag_cell, is_sure, version_cell}
use Rattle.pg_cells.specs.pg_store.Store.{content_of, replica_at}
use Rattle.theory_flood_pieces.specs.Seen.{plain, says, seen, standing}
use Rattle.theory_flood_pieces.specs.UpTo.{IsUpTo}
use Rattle.theory_flood_pieces.proofs.UpTo.{cell_itself, cell_further}

-- ---- look-ups

-- a server in which one replica changed
pub record Changes (a b : Store) (file : FileId) (x y : Replica) : Type 0 where
  pub old : replica_at a file ≡ Some x
  pub replicas : b.replicas ≡ put_replica a.replicas file y

known_after : (a b : Store) (file : FileId) (x y : Replica) (f : FileId) → Changes a b file x y → replica_at b f ≡ cond (is_same_file f file) (Some y) (replica_at a f)
known_after a b file x y f k = ap (lookup (is_at (file_cmp f))) k.replicas ∙ lookup-insert_entry file_cmp file_total f file y a.replicas

pub replica_here : (a b : Store) (file : FileId) (x y : Replica) → Changes a b file x y → replica_at b file ≡ Some y
replica_here a b file x y k = known_after a b file x y file k ∙ ap (λ t. cond t (Some y) (replica_at a file)) (is_same_file-refl file)

pub replica_elsewhere : (a b : Store) (file : FileId) (x y : Replica) (f : FileId) → Changes a b file x y → is_same_file f file ≡ false → replica_at b f ≡ replica_at a f
replica_elsewhere a b file x y f k apart = known_after a b file x y f k ∙ ap (λ t. cond t (Some y) (replica_at a f)) apart

-- where no replica changed
pub replica_same : (a b : Store) (f : FileId) → b.replicas ≡ a.replicas → replica_at b f ≡ replica_at a f
replica_same a b f replicas = ap (lookup (is_at (file_cmp f))) replicas

pub content_same : (a b : Store) (f : FileId) → replica_at b f ≡ replica_at a f → content_of b f ≡ content_of a f
content_same a b f same = ap (λ (o : Option Replica). (or_nothing o).content) same

-- of each file: it is the one that changed, or what there is of it stayed
pub by_file : (P : FileId → Option Replica → Type 0) (a b : Store) (file : FileId) (x y : Replica) → Changes a b file x y → P file (Some y) → ((f : FileId) → is_same_file f file ≡ false → P f (replica_at a f)) → (f : FileId) → P f (replica_at b f)
by_file P a b file x y k here there f = at (is_same_file f file) refl
  where
    at : (t : Bool) → is_same_file f file ≡ t → P f (replica_at b f)
    at true e =
        let Q : FileId → Type 0 = λ g. P g (replica_at b g) in
        subst Q (sym (is_same_file-true f file e)) (subst (P file) (sym (replica_here a b file x y k)) here)
    at false e = subst (P f) (sym (replica_elsewhere a b file x y f k e)) (there f e)

pub content_by : (a b : Store) (f : FileId) (x y : Replica) → replica_at a f ≡ Some x → replica_at b f ≡ Some y → y.content ≡ x.content → content_of b f ≡ content_of a f
content_by a b f x y old new same =
    ap (λ (o : Option Replica). (or_nothing o).content) new ∙ same ∙ sym (ap (λ (o : Option Replica). (or_nothing o).content) old)

-- ---- cells

-- as the edges see them
abbrev pub plain_at : Store → FileId → Key → Option Cell
plain_at a f k = option_map plain (cell_at a f k)

-- the cell of an entry, whether or not the server is sure of it
abbrev pub plain_entry : Option Entry → Option Cell
plain_entry o = option_map (λ e. cell.Entry e true) o

entry_plain : (o : Option Entry) (sure : Bool) → option_map plain (entry_cell o sure) ≡ plain_entry o
entry_plain None sure = refl
entry_plain (Some e) sure = refl

pub entry_seen : (a : Store) (f child : FileId) → plain_at a f (key.Entry child) ≡ plain_entry (entry_at a.names f child)
entry_seen a f child = entry_plain (entry_at a.names f child) (is_sure a f child)

pub version_same : (a b : Store) (f : FileId) (stamp : Stamp) → content_of b f ≡ content_of a f → plain_at b f (key.Version stamp) ≡ plain_at a f (key.Version stamp)
version_same a b f stamp same = ap (λ (c : ContentValue). option_map plain (version_cell (head_at c.heads (key.Version stamp)))) same

-- of a file two servers have the same cells
pub record SameCells (a b : Store) (f : FileId) : Type 0 where
  pub own : own_or_blank b.names f ≡ own_or_blank a.names f
  pub entries : (child : FileId) → entry_at b.names f child ≡ entry_at a.names f child
  pub content : content_of b f ≡ content_of a f

pub cell_same : (a b : Store) (f : FileId) → SameCells a b f → (k : Key) → plain_at b f k ≡ plain_at a f k
cell_same a b f s key.Place = ap (λ (o : Attributes). Some (cell.Place o.place)) s.own
cell_same a b f s (key.Flag n) = ap (λ (o : Attributes). option_map plain (flag_cell (flag_of o.flags n))) s.own
cell_same a b f s (key.Entry child) = entry_seen b f child ∙ ap plain_entry (s.entries child) ∙ sym (entry_seen a f child)
cell_same a b f s (key.Version stamp) = version_same a b f stamp s.content

-- ---- the tags of edges, whatever their cells

abbrev pub bare_seen : Replica → Seen Cell
bare_seen x = record { birth = x.birth; edges = x.edges; cells = λ k. None }

abbrev pub bare : Protocol Store Sent Cell
bare = record {
  see = λ a. record { tags = a.tags; replicas = λ f. option_map bare_seen (replica_at a f) };
  IsUpTo = IsUpTo;
  IsOver = λ a f b c. ⊥;
  Took = λ a f b c. Unit {0};
  says = says;
  Noted = λ a x. ⊥;
}

bare_order : IsOrdered bare
bare_order = record { same = cell_itself; further = cell_further }

bare_stays : (a b : Store) → OverStays bare a b
bare_stays a b = record { over = λ f n c h. absurd h; taken = λ f n c h. tt }

-- what counts as over does so all along, and whatever is held counts as taken
pub over_stays : (a b : Store) → OverStays standing a b
over_stays a b = record { over = λ f n c h. h; taken = λ f n c h. tt }

-- tags are seen the same
tag_seen : (a : Store) (q : Slot) (o : Option Replica) → tag_on (option_map (seen a q.file) o) q ≡ tag_on (option_map bare_seen o) q
tag_seen a q None = refl
tag_seen a q (Some x) = refl

pub to_bare : (a : Store) → HasSoundTags standing a → HasSoundTags bare a
to_bare a k = record {
  below = λ q g h. k.below q g (tag_seen a q (replica_at a q.file) ∙ h);
  single = λ q r g h i. k.single q r g (tag_seen a q (replica_at a q.file) ∙ h) (tag_seen a r (replica_at a r.file) ∙ i);
}

pub from_bare : (a : Store) → HasSoundTags bare a → HasSoundTags standing a
from_bare a k = record {
  below = λ q g h. k.below q g (sym (tag_seen a q (replica_at a q.file)) ∙ h);
  single = λ q r g h i. k.single q r g (sym (tag_seen a q (replica_at a q.file)) ∙ h) (sym (tag_seen a r (replica_at a r.file)) ∙ i);
}

-- they stay sound where one replica draws tags
pub tags_drawn : (a b : Store) (file : FileId) (x y : Replica) → Changes a b file x y → Draws a.tags (bare_seen x) b.tags (bare_seen y) → HasSoundTags bare a → HasSoundTags bare b
tags_drawn a b file x y k d sound =
    (file_steps bare bare_order a b file (bare_seen x) (bare_seen y) (ap (option_map bare_seen) k.old) (ap (option_map bare_seen) (replica_here a b file x y k)) d
    (λ q c h. absurd (let z : None ≡ Some c = h in cc))
    (λ f apart. ap (option_map bare_seen) (replica_elsewhere a b file x y f k apart)) (bare_stays a b)).tags sound

-- and where none changes
pub tags_stay : (a b : Store) → b.tags ≡ a.tags → ((f : FileId) → replica_at b f ≡ replica_at a f) → HasSoundTags bare a → HasSoundTags bare b
tags_stay a b tags same sound =
    let le : a.tags ≤ b.tags = (let e = tags in omega arith) in
    (idle_steps bare a b (λ f. ap (option_map bare_seen) (same f)) le (bare_stays a b)).tags sound
