-- What the end of an event leaves as it is: intentions alone begin and end, births are given out,
-- and wishes end.
use Rattle.std.proofs.Common.{◌≡◌, ◌≤◌, Bool, true, false, cond, is_some, List, [], ◌∷◌, Option, None, Some, refl, ap, ◌∙◌, arith}
use Rattle.pg_base.specs.declared.id.FileId.{FileId}
use Rattle.pg_graph.specs.pg_intent.declared.intent.Intent.{Intent}
use Rattle.pg_graph.specs.pg_intent.declared.intent.Intent.TheVariants as intent
use Rattle.pg_graph.specs.pg_intent.declared.key.IntentKey.{IntentKey}
use Rattle.pg_graph.specs.pg_msg.declared.work.Linked.{Linked}
use Rattle.pg_graph.specs.pg_msg.declared.work.Slot.{Slot}
use Rattle.pg_graph.specs.pg_msg.declared.work.Work.{Work}
use Rattle.pg_graph.specs.pg_store.declared.store.Store.{Store}
use Rattle.pg_graph.specs.pg_store.declared.wishes.Wish.{Wish}
use Rattle.pg_graph.specs.pg_store.Beginning.{with_intents}
use Rattle.pg_graph.specs.pg_store.Births.{fill_at, wish_at}
use Rattle.pg_graph.specs.pg_store.Store.{is_held}
use Rattle.pg_graph.specs.pg_pieces.Done.{Done, idle}
use Rattle.pg_intentions.specs.Beginning.{begin_end, end_others}
use Rattle.pg_intentions.specs.Confirms.{begin_confirm, confirm_of, is_doubtful}
use Rattle.pg_intentions.specs.Fills.{begin_fill, begin_fills, fill_of, files_to_fill, to_fill, with_fill_birth, without_wished}
use Rattle.pg_intentions.specs.Intending.{begin_intent, each, in_order, with_begun_if}
use Rattle.pg_intentions.specs.Patches.{begin_patch, begin_patches, patch_of}
use Rattle.pg_intentions.specs.Seeks.{aim_seek, begin_seek, begin_seeks, has_seek, seek_again, seek_target, to_seek, was_linked}

-- the store's own things, and all of the work but which intentions began
pub record IsSteady (a : Store) (v : Work) (d : Done) : Type 0 where
  pub names : d.store.names ≡ a.names
  pub replicas : d.store.replicas ≡ a.replicas
  pub servers : d.store.servers ≡ a.servers
  pub tags : d.store.tags ≡ a.tags
  pub announced : d.store.announced ≡ a.announced
  pub files : d.store.files ≡ a.files
  pub births : a.births ≤ d.store.births
  pub now : d.work.now ≡ v.now
  pub from : d.work.from ≡ v.from
  pub made : d.work.made ≡ v.made
  pub sent : d.work.sent ≡ v.sent
  pub touched : d.work.touched ≡ v.touched
  pub linked : d.work.linked ≡ v.linked
  pub left : d.work.left ≡ v.left
  pub unsure : d.work.unsure ≡ v.unsure
  pub tail : d.work.tail ≡ v.tail

pub stays : (a : Store) (v : Work) → IsSteady a v (idle a v)
stays a v = record {
  names = refl;
  replicas = refl;
  servers = refl;
  tags = refl;
  announced = refl;
  files = refl;
  births = omega arith;
  now = refl;
  from = refl;
  made = refl;
  sent = refl;
  touched = refl;
  linked = refl;
  left = refl;
  unsure = refl;
  tail = refl;
}

pub stays_on : {a : Store} {v : Work} {d e : Done} → IsSteady a v d → IsSteady d.store d.work e → IsSteady a v e
stays_on one more = record {
  names = more.names ∙ one.names;
  replicas = more.replicas ∙ one.replicas;
  servers = more.servers ∙ one.servers;
  tags = more.tags ∙ one.tags;
  announced = more.announced ∙ one.announced;
  files = more.files ∙ one.files;
  births = omega (arith, one.births, more.births);
  now = more.now ∙ one.now;
  from = more.from ∙ one.from;
  made = more.made ∙ one.made;
  sent = more.sent ∙ one.sent;
  touched = more.touched ∙ one.touched;
  linked = more.linked ∙ one.linked;
  left = more.left ∙ one.left;
  unsure = more.unsure ∙ one.unsure;
  tail = more.tail ∙ one.tail;
}

-- one thing after another
pub each_stays : {A : Type 0} (step : Store → A → Work → Done) → ((s : Store) (x : A) (w : Work) → IsSteady s w (step s x w))
    → (xs : List A) (s : Store) (w : Work) → IsSteady s w (each step s xs w)
each_stays step one [] s w = stays s w
each_stays step one (x ∷ xs) s w = stays_on (one s x w) (each_stays step one xs (step s x w).store (step s x w).work)

-- ---- one intention

intends_by : (s : Store) (is : List Intent) (w : Work) (k : IntentKey) (news : Bool)
    → IsSteady s w (record { store = with_intents s is; work = with_begun_if news w k })
intends_by s is w k true = record {
  names = refl;
  replicas = refl;
  servers = refl;
  tags = refl;
  announced = refl;
  files = refl;
  births = omega arith;
  now = refl;
  from = refl;
  made = refl;
  sent = refl;
  touched = refl;
  linked = refl;
  left = refl;
  unsure = refl;
  tail = refl;
}
intends_by s is w k false = record {
  names = refl;
  replicas = refl;
  servers = refl;
  tags = refl;
  announced = refl;
  files = refl;
  births = omega arith;
  now = refl;
  from = refl;
  made = refl;
  sent = refl;
  touched = refl;
  linked = refl;
  left = refl;
  unsure = refl;
  tail = refl;
}

pub intends : (s : Store) (i : Intent) (w : Work) → IsSteady s w (begin_intent s i w)
intends s i w = intends_by s _ w _ _

-- some end
ended_stays : (s : Store) (is : List Intent) (w : Work) → IsSteady s w (idle (with_intents s is) w)
ended_stays s is w = record {
  names = refl;
  replicas = refl;
  servers = refl;
  tags = refl;
  announced = refl;
  files = refl;
  births = omega arith;
  now = refl;
  from = refl;
  made = refl;
  sent = refl;
  touched = refl;
  linked = refl;
  left = refl;
  unsure = refl;
  tail = refl;
}

-- of two
either : (s : Store) (w : Work) (t : Bool) (d e : Done) → IsSteady s w d → IsSteady s w e → IsSteady s w (cond t d e)
either s w true d e one other = one
either s w false d e one other = other

pub patch_stays : (s : Store) (slot : Slot) (w : Work) → IsSteady s w (begin_patch s slot w)
patch_stays s slot w =
    either s w (is_held s slot.dir) (idle s w) (begin_intent s (patch_of s slot w) w) (stays s w) (intends s (patch_of s slot w) w)

pub confirm_stays : (s : Store) (slot : Slot) (w : Work) → IsSteady s w (begin_confirm s slot w)
confirm_stays s slot w =
    either s w (is_doubtful s slot.dir slot.child) (begin_intent s (confirm_of s slot) w) (idle s w) (intends s (confirm_of s slot) w) (stays s w)

-- ---- a Fill gives out a birth, or ends a wish

wished_stays : (s : Store) (file : FileId) (w : Work) (o : Option Wish) → IsSteady s w (idle (without_wished s file o) w)
wished_stays s file w None = record {
  names = refl;
  replicas = refl;
  servers = refl;
  tags = refl;
  announced = refl;
  files = refl;
  births = omega arith;
  now = refl;
  from = refl;
  made = refl;
  sent = refl;
  touched = refl;
  linked = refl;
  left = refl;
  unsure = refl;
  tail = refl;
}
wished_stays s file w (Some wish) = record {
  names = refl;
  replicas = refl;
  servers = refl;
  tags = refl;
  announced = refl;
  files = refl;
  births = omega arith;
  now = refl;
  from = refl;
  made = refl;
  sent = refl;
  touched = refl;
  linked = refl;
  left = refl;
  unsure = refl;
  tail = refl;
}

birth_by : (s : Store) (file : FileId) (w : Work) (held : Bool) → IsSteady s w (idle (cond held s (without_wished s file (wish_at s file))) w)
birth_by s file w true = stays s w
birth_by s file w false = wished_stays s file w (wish_at s file)

pub fill_stays : (s : Store) (file : FileId) (w : Work) → IsSteady s w (begin_fill s file w)
fill_stays s file w =
    let b = with_fill_birth s file in
    let i = fill_of s file w in
    either s w (is_some (fill_at s file)) (idle s w) (begin_intent b i w) (stays s w)
    (stays_on (birth_by s file w (is_held s file)) (intends b i w))

-- ---- a Seek begins, or asks another server

again_by : (s : Store) (file : FileId) (w : Work) (t : Bool) → IsSteady s w (idle (cond t (aim_seek s file) s) w)
again_by s file w true = ended_stays s (aim_seek s file).intents w
again_by s file w false = stays s w

pub seek_stays : (s : Store) (file : FileId) (w : Work) → IsSteady s w (begin_seek s file w)
seek_stays s file w =
    let i = intent.Seek file (seek_target s file) in
    either s w (has_seek s file) (idle (seek_again s file w) w) (begin_intent s i w)
    (again_by s file w (was_linked w.linked file)) (intends s i w)

-- ---- all

pub begin_end_stays : (s : Store) (w : Work) → IsSteady s w (begin_end s w)
begin_end_stays s w =
    let a = end_others s (files_to_fill s.names) in
    let p = begin_patches a w in
    let f = begin_fills p.store (to_fill s.names) p.work in
    let g = begin_seeks f.store (to_seek s) f.work in
    let ended : IsSteady s w (idle a w) = ended_stays s a.intents w in
    stays_on (stays_on (stays_on (stays_on ended (each_stays begin_patch patch_stays (in_order w.left) a w))
    (each_stays begin_fill fill_stays (to_fill s.names) p.store p.work))
    (each_stays begin_seek seek_stays (to_seek s) f.store f.work))
    (each_stays begin_confirm confirm_stays (in_order g.work.unsure) g.store g.work)

-- ---- nothing is to do

one_idle : (s : Store) (w : Work) (d : Done) (t : Bool) → t ≡ true → cond t (idle s w) d ≡ idle s w
one_idle s w d t h = ap (λ (b : Bool). cond b (idle s w) d) h

-- Fills of all these stand
abbrev pub HaveFills : Store → List FileId → Type 0
HaveFills s [] = Unit {0}
HaveFills s (file ∷ files) = (is_some (fill_at s file) ≡ true) × HaveFills s files

pub fills_idle : (s : Store) (w : Work) (files : List FileId) → HaveFills s files → begin_fills s files w ≡ idle s w
fills_idle s w [] have = refl
fills_idle s w (file ∷ files) have =
    ap (λ (d : Done). each begin_fill d.store files d.work)
    (one_idle s w (begin_intent (with_fill_birth s file) (fill_of s file w) w) (is_some (fill_at s file)) have.0)
    ∙ fills_idle s w files have.1

-- Seeks of all these stand
abbrev pub HaveSeeks : Store → List FileId → Type 0
HaveSeeks s [] = Unit {0}
HaveSeeks s (file ∷ files) = (has_seek s file ≡ true) × HaveSeeks s files

seek_idle : (s : Store) (file : FileId) (w : Work) → has_seek s file ≡ true → w.linked ≡ [] → begin_seek s file w ≡ idle s w
seek_idle s file w there none =
    ap (λ (b : Bool). cond b (idle (seek_again s file w) w) (begin_intent s (intent.Seek file (seek_target s file)) w)) there
    ∙ ap (λ (ls : List Linked). idle (cond (was_linked ls file) (aim_seek s file) s) w) none

pub seeks_idle : (s : Store) (w : Work) (files : List FileId) → HaveSeeks s files → w.linked ≡ [] → begin_seeks s files w ≡ idle s w
seeks_idle s w [] have none = refl
seeks_idle s w (file ∷ files) have none =
    ap (λ (d : Done). each begin_seek d.store files d.work) (seek_idle s file w have.0 none)
    ∙ seeks_idle s w files have.1 none
