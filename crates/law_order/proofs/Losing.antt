-- What was lost is given up: it was made, where a cell, a Fill or a Patch names it; and a directory
-- that begins anew stands where it was known to be live, or in the root.
use Rattle.std.proofs.Common.{ℕ, ◌≡◌, ◌==◌, not, length, true, false, List, [], ◌∷◌, Option, None, Some, is_some, All, inl, inr, refl, sym, subst}
use Rattle.std.specs.List.{list_any}
use Rattle.std.specs.Map.{keys_of}
use Rattle.std.proofs.lemmas.Bool.{false≢true, or_cases}
use Rattle.std.proofs.lemmas.List.Elements.{All-head, All-nil, filter_passes}
use Rattle.law_frame.specs.pg_run.pg_base.declared.id.FileId.{FileId}
use Rattle.law_frame.specs.pg_run.pg_base.Id.{is_same_file}
use Rattle.law_frame.proofs.pg_run.pg_base.Orders.{is_same_file-true}
use Rattle.law_frame.proofs.pg_run.pg_content.Members.{all_among, any_found}
use Rattle.law_frame.specs.pg_run.pg_entries.declared.entry.Entry.{Entry}
use Rattle.law_frame.specs.pg_run.pg_intent.declared.intent.Intent.{Intent}
use Rattle.law_frame.specs.pg_run.pg_intent.declared.intent.Intent.TheVariants as intent
use Rattle.law_frame.specs.pg_run.pg_house.Facts.{IsOfDirs}
use Rattle.law_frame.specs.pg_run.pg_names.declared.attributes.Attributes.{Attributes}
use Rattle.law_frame.specs.pg_run.pg_names.Names.{cell_at}
use Rattle.law_frame.specs.pg_run.pg_register.declared.place.Place.{Place}
use Rattle.law_frame.specs.pg_run.pg_register.Place.{root}
use Rattle.law_frame.proofs.pg_run.pg_register.ByServer.{IsByServer-nil}
use Rattle.law_frame.specs.pg_run.pg_store.declared.store.Store.{Store}
use Rattle.law_frame.specs.pg_run.pg_store.Births.{fill_at}
use Rattle.law_frame.specs.pg_run.pg_calls.Forgetting.{bare_entry, dead_at, dead_by, dirs_of, has_cell_for, is_patch_to, is_wanted, last_place}
use Rattle.law_frame.proofs.pg_run.pg_calls.LastPlace.{cell_there, last_is}
use Rattle.law_frame.proofs.pg_run.pg_house.Greatest.{cell_held}
use Rattle.law_frame.proofs.KeepsCalls.{lost_own}
use Rattle.law_order.specs.Saying.{AreIntended, IsClosed, IsIntended, IsSaidOf, IsSaidOwn, IsSaidTold, Saying}

module _ (p : Saying) (a : Store) (said : IsSaidOf p a.names) (id : FileId) where
  abbrev HasCell : FileId → Type 0
  HasCell dir = has_cell_for a.names id dir ≡ true

  cell_in : (dir : FileId) → HasCell dir → (e : Entry) × (cell_at a.names dir id ≡ Some e)
  cell_in dir has = cell_there a.names id dir (cell_at a.names dir id) refl has

  -- ---- it was made, where a cell, a Fill or a Patch names it

  listed_thing : (dirs : List FileId) → All HasCell dirs → not (length dirs == 0) ≡ true → p.IsThing id
  listed_thing [] all some = absurd (false≢true some)
  listed_thing (dir ∷ dirs) all some = let e = cell_in dir (All-head HasCell dir dirs all) in (said.cells dir id e.0 e.1).thing

  patch_thing : (i : Intent) → IsIntended p i → is_patch_to id i ≡ true → p.IsThing id
  patch_thing (intent.Patch dir entry target) here same = subst p.IsThing (is_same_file-true dir id same) here.of
  patch_thing (intent.Bye file birth peer peer_birth) here same = absurd (false≢true same)
  patch_thing (intent.Seek file target) here same = absurd (false≢true same)
  patch_thing (intent.Fill file birth target) here same = absurd (false≢true same)
  patch_thing (intent.Confirm dir child target) here same = absurd (false≢true same)
  patch_thing (intent.Leave file peer peer_birth) here same = absurd (false≢true same)

  pub wanted_thing : AreIntended p a.intents → (is_some (fill_at a id) ≡ true → p.IsThing id) → is_wanted a id ≡ true → p.IsThing id
  wanted_thing intended filled wanted =
      let dirs = dirs_of a.names id in
      elim (or_cases (not (length dirs == 0)) _ wanted) [
        | inl listed ↦ listed_thing dirs (filter_passes (has_cell_for a.names id) (keys_of a.names.held)) listed
        | inr other ↦ elim (or_cases (is_some (fill_at a id)) (list_any (is_patch_to id) a.intents) other) [
          | inl fill ↦ filled fill
          | inr patch ↦ (let r = any_found (is_patch_to id) a.intents patch in patch_thing r.0 (all_among (IsIntended p) a.intents r.0 intended r.1) r.2)
        ]
      ]

  module _ (c : IsClosed p) (other : is_same_file id root ≡ false) where
    -- ---- a directory's cell for it takes a dead place

    dead_said : (now : ℕ) (dir : FileId) (o : Option Entry) → cell_at a.names dir id ≡ o → p.IsThing id → p.IsPlace id (dead_by a now o id)
    dead_said now dir None at thing = c.blank id other thing
    dead_said now dir (Some e) at thing = c.again id e.place (dead_by a now (Some e) id) other (said.cells dir id e at).place refl refl

    pub marked_said : IsOfDirs a.names → (now : ℕ) (dir to : FileId) → HasCell to → IsSaidTold p to (bare_entry id (dead_at a now id dir))
    marked_said of_dirs now dir to has =
        let e = cell_in to has in
        let was = said.cells to id e.0 e.1 in
        let own = cell_held a.names to id e.0 e.1 in
        record {
          dir = of_dirs to id e.0 e.1;
          of = (said.own to own.0 own.1).thing;
          cell = record {
            thing = was.thing;
            child = was.child;
            place = dead_said now dir (cell_at a.names dir id) refl was.thing;
            flags = All-nil p.IsFlag;
            order = IsByServer-nil;
          };
        }

    -- ---- a directory begins anew

    last_said : (o : Option Place) → last_place a.names id ≡ o → p.IsThing id → IsSaidOwn p id (lost_own id o)
    last_said None at thing = record { thing = thing; place = c.blank id other thing; flags = All-nil p.IsFlag; order = IsByServer-nil }
    last_said (Some place) at thing =
        let l = last_is a.names id place at in
        record {
          thing = thing;
          place = subst (p.IsPlace id) l.is (said.cells l.dir id l.cell l.there).place;
          flags = All-nil p.IsFlag;
          order = IsByServer-nil;
        }

    pub anew_said : (own : Attributes) → own ≡ lost_own id (last_place a.names id) → p.IsThing id → IsSaidOwn p id own
    anew_said own is thing = subst (IsSaidOwn p id) (sym is) (last_said (last_place a.names id) refl thing)
