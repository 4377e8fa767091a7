-- The house rules at the end of an event.
use Rattle.std.proofs.Common.{ℕ, ◌≡◌, true, false, List, [], ◌∷◌, ◌++◌, drop, length, Option, None, Some, refl, sym, subst, ◌∙◌}
use Rattle.pg_base.specs.declared.id.FileId.{FileId}
use Rattle.pg_edges.specs.declared.key.Key.TheVariants as key
use Rattle.theory_flood.proofs.Steps.{Steps, Steps-refl, Steps-trans}
use Rattle.pg_cells.specs.pg_msg.declared.update.Update.{Update}
use Rattle.pg_cells.specs.pg_msg.declared.update.Update.TheVariants as update
use Rattle.pg_cells.specs.pg_msg.declared.work.Touched.{Touched}
use Rattle.pg_cells.specs.pg_msg.declared.work.Work.{Work}
use Rattle.pg_cells.specs.pg_names.declared.attributes.Attributes.{Attributes}
use Rattle.pg_cells.specs.pg_names.Names.{InodeValue, NamesValue, is_held, known, own_at, own_of}
use Rattle.pg_cells.specs.pg_house.House.{house}
use Rattle.pg_cells.proofs.pg_house.Ends as ends
use Rattle.pg_cells.proofs.pg_house.Keys.{rules_keys}
use Rattle.pg_cells.specs.pg_house.Work.{state_of}
use Rattle.pg_cells.specs.pg_store.declared.store.Store.{Store}
use Rattle.pg_cells.specs.pg_store.Births.{birth_of}
use Rattle.pg_cells.specs.pg_store.Seen.{removed_of, server_of}
use Rattle.pg_cells.specs.pg_store.Store.{is_newer_flag, with_names}
use Rattle.pg_cells.specs.pg_pieces.Golds.{is_goldless, is_goldless_held}
use Rattle.pg_cells.specs.pg_pieces.Making.{own_next, raise_flag}
use Rattle.pg_cells.specs.Settling.{rules, settle, touch_all}
use Rattle.pg_cells.proofs.Settled.{settle_keeps}
use Rattle.theory_flood_pieces.specs.Seen.{standing}
use Rattle.theory_flood_pieces.specs.Whole.{AreOrderly, IsWhole}
use Rattle.theory_flood_pieces.proofs.Choices.{chosen}
use Rattle.theory_flood_pieces.proofs.Growth.{SameNames-refl}
use Rattle.theory_flood_pieces.proofs.Front.{KeepsWork, house_told, house_work}
use Rattle.theory_flood_pieces.proofs.Rules.{Keeps, house_keeps}
use Rattle.theory_flood_pieces.proofs.Taking.{Grew, Took, flag_taken, grew_same, took_steps}
use Rattle.theory_flood_pieces.proofs.Touching.{all_touched, same_names, touched_before, touched_behind}
use Rattle.theory_flood_pieces.proofs.Together.{held_by_keys}
use Rattle.theory_flood_pieces.proofs.Whole.{whole_flag, whole_names, whole_touches}

-- names grew, and the keys that tell of it are touched after that
pub took_all : (a : Store) (names : NamesValue) (ts : List Touched) → Grew ts a.names names → Took ts a (touch_all (with_names a names) ts)
took_all a names ts g =
    let P : NamesValue → Type 0 = λ n. Grew ts a.names n in
    record {
      touched = touched_behind ts a (touch_all (with_names a names) ts) names (all_touched (with_names a names) ts);
      names = subst P (sym (same_names (with_names a names) ts)) g;
    }

-- names grew, and the keys that tell of it were touched before that
pub took_before : (a : Store) (names : NamesValue) (ts : List Touched) → Grew ts a.names names → Took ts a (with_names (touch_all a ts) names)
took_before a names ts g =
    record { touched = touched_before ts a (touch_all a ts) names (all_touched a ts); names = g }

-- keys are touched, and nothing else is done
pub touches_steps : (a : Store) (ts : List Touched) → Steps standing a (touch_all a ts)
touches_steps a ts =
    let P : NamesValue → Type 0 = λ n. Grew ts a.names n in
    took_steps ts a (touch_all a ts) (record { touched = all_touched a ts; names = subst P (sym (same_names a ts)) (grew_same ts a.names a.names refl (SameNames-refl a.names)) })

module _ (n s : ℕ) (a : Store) (work : Work) (k : IsWhole n s a) where
  abbrev Behind : NamesValue
  Behind = (house work.now (state_of a.names work)).names

  abbrev Keys : List Touched
  Keys = drop (length work.touched) (house work.now (state_of a.names work)).work.touched

  kept : Keeps a.names Behind
  kept = house_keeps work.now (state_of a.names work) k.names.dirs k.names.sorted k.names.last k.names.children

  behind_grew : Grew Keys a.names Behind
  behind_grew = record { server = kept.server; grow = kept.grow; told = house_told work.now a.names work }

  behind_orderly : AreOrderly Behind
  behind_orderly = record {
    dirs = ends.is_of_dirs work.now (state_of a.names work) k.names.dirs k.names.sorted;
    sorted = ends.by_server work.now (state_of a.names work) k.names.dirs k.names.sorted;
    last = ends.is_last work.now (state_of a.names work) k.names.dirs k.names.sorted k.names.last;
    children = kept.child;
  }

  -- THE HOUSE RULES RUN, and what they change is touched
  pub rules_steps : Steps standing a (rules a work).store
  rules_steps = took_steps Keys a (rules a work).store (took_all a Behind Keys behind_grew)

  -- they hold just what was held
  held_same : (f : FileId) → is_held Behind f ≡ is_held a.names f
  held_same f = held_by_keys Behind a.names f (rules_keys work.now (state_of a.names work))

  pub whole_rules : IsWhole n s (rules a work).store
  whole_rules = whole_touches n s (with_names a Behind) Keys (whole_names n s a k Behind kept.server behind_orderly held_same)

-- ---- a flag is raised

goldless_by : (removed : List ℕ) (server birth : ℕ) (o : Option InodeValue)
    → is_goldless_held removed server birth o ≡ true → (own : Attributes) × (own_of o ≡ Some own)
goldless_by removed server birth None h = absurd (let z : false ≡ true = h in cc)
goldless_by removed server birth (Some x) h = (x.own, refl)

-- what sees no gold is held
pub goldless_own : (a : Store) (f : FileId) → is_goldless a f ≡ true
    → (own : Attributes) × (own_at a.names f ≡ Some own)
goldless_own a f h =
    goldless_by (removed_of a) (server_of a) (birth_of a f) (known a.names f) h

pub raised_steps : (a : Store) (f : FileId) (work : Work) → is_goldless a f ≡ true
    → Steps standing a (raise_flag a f work).store
raised_steps a f work h =
    let own = goldless_own a f h in
    let t = flag_taken a f own.0 own.1 (own_next a f true) in
    took_steps t.keys a (raise_flag a f work).store t.took

pub whole_raised : (n s : ℕ) (a : Store) (f : FileId) (work : Work) → IsWhole n s a
    → IsWhole n s (raise_flag a f work).store
whole_raised n s a f work k = whole_flag n s a k f (own_next a f true)

-- ---- THE HOUSE RULES RUN, and what sees no gold becomes one

record Goes (n s : ℕ) (a b : Store) : Type 0 where
  pub steps : Steps standing a b
  pub whole : IsWhole n s b

module _ (n s : ℕ) (a : Store) where
  ruling : (b : Store) (work : Work) → Goes n s a b → Goes n s a (rules b work).store
  ruling b work g = record {
    steps = Steps-trans standing g.steps (rules_steps n s b work g.whole);
    whole = whole_rules n s b work g.whole;
  }

  raising : (b : Store) (f : FileId) (work : Work) → is_goldless b f ≡ true → Goes n s a b
      → Goes n s a (raise_flag b f work).store
  raising b f work h g = record {
    steps = Steps-trans standing g.steps (raised_steps b f work h);
    whole = whole_raised n s b f work g.whole;
  }

  settle_goes : (work : Work) → IsWhole n s a → Goes n s a (settle a work).store
  settle_goes work k =
      settle_keeps (λ b w. Goes n s a b) ruling raising a work
      (record { steps = Steps-refl standing a; whole = k })

  pub settle_steps : (work : Work) → IsWhole n s a → Steps standing a (settle a work).store
  settle_steps work k = (settle_goes work k).steps

  pub whole_settle : (work : Work) → IsWhole n s a → IsWhole n s (settle a work).store
  whole_settle work k = (settle_goes work k).whole

-- ---- what it leaves of the work

as_made : (w : Work) (made : List Update) (ts : List Touched)
    → KeepsWork w (record w { made = made; touched = ts })
as_made w made ts = record {
  now = refl;
  from = refl;
  sent = refl;
  linked = refl;
  unsure = refl;
  begun = refl;
  tail = refl;
}

work_further : (u v w : Work) → KeepsWork u v → KeepsWork v w → KeepsWork u w
work_further u v w one two = record {
  now = two.now ∙ one.now;
  from = two.from ∙ one.from;
  sent = two.sent ∙ one.sent;
  linked = two.linked ∙ one.linked;
  unsure = two.unsure ∙ one.unsure;
  begun = two.begun ∙ one.begun;
  tail = two.tail ∙ one.tail;
}

pub raised_work : (b : Store) (f : FileId) (w : Work) → KeepsWork w (raise_flag b f w).work
raised_work b f w =
    let flag = own_next b f true in
    let made = w.made ++ update.Flag f flag ∷ [] in
    let ts = w.touched ++ record { file = f; key = key.Flag flag.server } ∷ [] in
    chosen (KeepsWork w) (is_newer_flag b f flag) (record w { made = made; touched = ts })
    (record w { made = made }) (as_made w made ts) (as_made w made w.touched)

-- settling sends nothing
pub settle_work : (a : Store) (work : Work) → KeepsWork work (settle a work).work
settle_work a work =
    settle_keeps (λ b w. KeepsWork work w)
    (λ b w h. work_further work w (rules b w).work h (house_work w.now b.names w))
    (λ b f w is h. work_further work w (raise_flag b f w).work h (raised_work b f w)) a work
    (as_made work work.made work.touched)

pub settle_sent : (a : Store) (work : Work) → (settle a work).work.sent ≡ work.sent
settle_sent a work = (settle_work a work).sent

pub settle_tail : (a : Store) (work : Work) → (settle a work).work.tail ≡ work.tail
settle_tail a work = (settle_work a work).tail
