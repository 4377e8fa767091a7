-- Behind settling names are calm, and every full thing sees a live gold: settled again nothing
-- changes.
use Rattle.std.proofs.Common.{◌≡◌, Bool, true, false, if◌then◌else◌, List, [], ◌∷◌, drop, length, refl, sym, ap, ◌∙◌, subst, inl, inr}
use Rattle.std.specs.List.{filter}
use Rattle.std.specs.Map.{keys_of}
use Rattle.std.proofs.Math.Seq.{drop-length}
use Rattle.std.proofs.lemmas.Bool.{false≢true}
use Rattle.pg_base.specs.declared.id.FileId.{FileId}
use Rattle.pg_base.specs.Id.{is_same_file}
use Rattle.pg_base.proofs.Orders.{is_same_file-true}
use Rattle.pg_register.specs.Flag.{is_removed}
use Rattle.pg_pieces.specs.pg_msg.declared.work.Work.{Work}
use Rattle.pg_pieces.specs.pg_house.Work.{State, state_of}
use Rattle.pg_pieces.specs.pg_house.House.{house}
use Rattle.pg_pieces.specs.pg_house.Calm.{IsCalm}
use Rattle.pg_pieces.specs.pg_house.Facts.{AreByServer, AreOrdered, IsLast, IsOfDirs, is_among}
use Rattle.pg_pieces.proofs.pg_house.Truths.{bool_cases, or_cases}
use Rattle.pg_pieces.proofs.pg_house.Counting.{among_kept}
use Rattle.pg_pieces.proofs.pg_house.Ends.{key_of_held}
use Rattle.pg_pieces.proofs.pg_house.Settling.{calm_behind, calm_stays}
use Rattle.pg_pieces.proofs.pg_house.Keys.{rules_by}
use Rattle.pg_pieces.specs.pg_names.Names.{NamesValue, known}
use Rattle.pg_pieces.specs.pg_store.declared.store.Store.{Store}
use Rattle.pg_pieces.specs.pg_store.Births.{birth_of}
use Rattle.pg_pieces.specs.pg_store.Seen.{removed_of, server_of}
use Rattle.pg_pieces.specs.pg_store.Store.{with_names}
use Rattle.pg_pieces.specs.Done.{Done, idle}
use Rattle.pg_cells.proofs.Listed.{none_pass}
use Rattle.pg_pieces.specs.Golds.{goldless, is_goldless}
use Rattle.pg_pieces.specs.Making.{raise_flag}
use Rattle.pg_cells.specs.Raised.{DiffersByGolds}
use Rattle.pg_cells.specs.Settling.{raise_golds, ruled, rules, settle, touch_all, with_state}
use Rattle.pg_cells.proofs.Ruled.{golds_not, golds_then, raised_calm_again, raised_golds, touched_names}
use Rattle.pg_cells.proofs.Live.{goldless_parts, other_same, sees_itself}

-- ---- from one thing to the next

abbrev IsLive : Store → Type 0
IsLive store = is_removed (removed_of store) (server_of store) ≡ false

-- only these may see no live gold
abbrev OnlyThese : Store → List FileId → Type 0
OnlyThese store files = (q : FileId) → is_goldless store q ≡ true → is_among q files ≡ true

module _ (d : Done) (f : FileId) (fs : List FileId) (calm : IsCalm d.store.names) where
  abbrev Next : Bool → Done
  Next t = if t then ruled (raise_flag d.store f d.work) else d

  next_golds : (t : Bool) → DiffersByGolds d (Next t)
  next_golds true = raised_golds f d calm
  next_golds false = golds_not d

  next_calm : (t : Bool) → IsCalm (Next t).store.names
  next_calm true = raised_calm_again f d calm
  next_calm false = calm

  later : (q : FileId) → is_same_file f q ≡ false → is_among q (f ∷ fs) ≡ true → is_among q fs ≡ true
  later q apart among =
      elim (or_cases (is_same_file f q) (is_among q fs) among) [
        | inl same ↦ absurd (false≢true (sym apart ∙ same))
        | inr more ↦ more
      ]

  next_only : IsLive d.store → OnlyThese d.store (f ∷ fs) → (t : Bool) → is_goldless d.store f ≡ t → OnlyThese (Next t).store fs
  next_only live only true is q h =
      elim (bool_cases (is_same_file f q)) [
        | inl same ↦ absurd (false≢true (sym (sees_itself f d calm is live) ∙ ap (is_goldless (Next true).store) (is_same_file-true f q same) ∙ h))
        | inr apart ↦ later q apart (only q (sym (other_same f d calm q apart) ∙ h))
      ]
  next_only live only false is q h =
      elim (bool_cases (is_same_file f q)) [
        | inl same ↦ absurd (false≢true (sym is ∙ ap (is_goldless d.store) (is_same_file-true f q same) ∙ h))
        | inr apart ↦ later q apart (only q h)
      ]

pub each_golds : (files : List FileId) (d : Done) → IsCalm d.store.names → (DiffersByGolds d (raise_golds files d)) × IsCalm (raise_golds files d).store.names
each_golds [] d calm = (golds_not d, calm)
each_golds (f ∷ fs) d calm =
    let t = is_goldless d.store f in
    let next = Next d f fs calm t in
    let more = each_golds fs next (next_calm d f fs calm t) in
    (golds_then d next (raise_golds fs next) (next_golds d f fs calm t) more.0, more.1)

none_left : (files : List FileId) (d : Done) → IsCalm d.store.names → IsLive d.store → OnlyThese d.store files → (q : FileId) → is_goldless (raise_golds files d).store q ≡ false
none_left [] d calm live only q =
    elim (bool_cases (is_goldless d.store q)) [
      | inl is ↦ absurd (false≢true (only q is))
      | inr other ↦ other
    ]
none_left (f ∷ fs) d calm live only q =
    let t = is_goldless d.store f in
    let next = Next d f fs calm t in
    let k = next_golds d f fs calm t in
    let still : IsLive next.store = ap (λ r. is_removed r (server_of next.store)) k.removed ∙ ap (is_removed (removed_of d.store)) k.server ∙ live in
    none_left fs next (next_calm d f fs calm t) still (next_only d f fs calm live only t refl) q

-- ---- behind the first run of the rules

all_goldless : (store : Store) → OnlyThese store (goldless store)
all_goldless store q h =
    let own = goldless_parts (removed_of store) (server_of store) (birth_of store q) (known store.names q) h in
    among_kept (is_goldless store) (keys_of store.names.held) q (key_of_held store.names q own.0 own.1) h

module _ (store : Store) (work : Work) (of_dirs : IsOfDirs store.names) (sorted : AreByServer store.names) (last : IsLast store.names) (ordered : AreOrdered store.names) where
  abbrev Before : State
  Before = state_of store.names work

  abbrev Behind : Done
  Behind = rules store work

  names_behind : Behind.store.names ≡ (house work.now Before).names
  names_behind = touched_names (drop (length work.touched) (house work.now Before).work.touched) (with_names store (house work.now Before).names)

  pub rules_calm : IsCalm Behind.store.names
  rules_calm = subst IsCalm (sym names_behind) (calm_behind work.now Before of_dirs sorted last ordered)

  -- settling changes flags alone
  pub settle_golds : DiffersByGolds Behind (settle store work)
  settle_golds = (each_golds (goldless Behind.store) Behind rules_calm).0

  pub settle_calm : IsCalm (settle store work).store.names
  settle_calm = (each_golds (goldless Behind.store) Behind rules_calm).1

-- ---- and again

-- the rules change nothing where names are calm
pub calm_ruled : (store : Store) (work : Work) → IsCalm store.names → rules store work ≡ idle store work
calm_ruled store work calm =
    ap (with_state store work) (calm_stays work.now (state_of store.names work) calm)
    ∙ ap (λ ts. idle (touch_all store ts) work) (drop-length work.touched)

-- and nothing settles where every full thing sees a live gold
pub calm_settled : (store : Store) (work : Work) → IsCalm store.names → ((q : FileId) → is_goldless store q ≡ false) → settle store work ≡ idle store work
calm_settled store work calm none =
    ap (λ (d : Done). raise_golds (goldless d.store) d) (calm_ruled store work calm)
    ∙ ap (λ fs. raise_golds fs (idle store work)) (none_pass (is_goldless store) (keys_of store.names.held) none)

pub rules_again : (store : Store) (work next : Work) → IsOfDirs store.names → AreByServer store.names → IsLast store.names → AreOrdered store.names
    → rules (settle store work).store next ≡ idle (settle store work).store next
rules_again store work next of_dirs sorted last ordered = calm_ruled (settle store work).store next (settle_calm store work of_dirs sorted last ordered)

module _ (store : Store) (work : Work) (of_dirs : IsOfDirs store.names) (sorted : AreByServer store.names) (last : IsLast store.names) (ordered : AreOrdered store.names)
    (live : is_removed (removed_of store) (server_of store) ≡ false) where
  still_live : IsLive (rules store work).store
  still_live =
      let st = state_of store.names work in
      let names = names_behind store work of_dirs sorted last ordered in
      let by = rules_by work.now st in
      subst (λ (n : NamesValue). is_removed n.removed n.server ≡ false) (sym names)
      (ap (λ r. is_removed r (house work.now st).names.server) by.1 ∙ ap (is_removed (removed_of store)) by.0 ∙ live)

  pub none_goldless : (file : FileId) → is_goldless (settle store work).store file ≡ false
  none_goldless =
      let first = rules store work in
      none_left (goldless first.store) first (rules_calm store work of_dirs sorted last ordered) still_live (all_goldless first.store)

  pub settled_again : (next : Work) → settle (settle store work).store next ≡ idle (settle store work).store next
  settled_again next = calm_settled (settle store work).store next (settle_calm store work of_dirs sorted last ordered) none_goldless
