-- What is said of all that a server knows of names is said of it again, whatever comes.
use Rattle.std.proofs.Common.{ℕ, ◌≡◌, Bool, true, false, cond, Option, None, Some, refl, sym, ap, subst, ◌∙◌, inl, inr}
use Rattle.std.proofs.lemmas.Option.{same_Some}
use Rattle.law_frame.specs.pg_run.pg_base.declared.id.FileId.{FileId}
use Rattle.law_frame.specs.pg_run.pg_base.Id.{is_same_file}
use Rattle.law_frame.specs.pg_run.pg_base.Stamp.{is_before}
use Rattle.law_frame.proofs.pg_run.pg_base.Orders.{is_same_file-true}
use Rattle.law_frame.specs.pg_run.pg_entries.declared.entry.Entry.{Entry}
use Rattle.law_frame.specs.pg_run.pg_entries.Entry.{joined_to}
use Rattle.law_frame.specs.pg_run.pg_names.declared.attributes.Attributes.{Attributes}
use Rattle.law_frame.specs.pg_run.pg_names.Names.{NamesValue, begin, cell_at, fill, join_entry, join_flag, join_place, known, new_held, own_at, own_of, raise, remove_server}
use Rattle.law_frame.proofs.pg_run.pg_names.Holding.{begun_cells, begun_known, fill_cells, fill_own}
use Rattle.law_frame.proofs.pg_run.pg_names.Lookups.{flag_cell, joined_own, joined_same, own_with_flag, own_with_place, place_cell}
use Rattle.law_frame.specs.pg_run.pg_register.declared.flag.Flag.{Flag}
use Rattle.law_frame.specs.pg_run.pg_register.declared.place.Place.{Place}
use Rattle.law_frame.proofs.pg_run.pg_register.ByServer.{IsByServer-join_flag, IsByServer-join_flags}
use Rattle.law_frame.proofs.pg_run.theory_flood_pieces.Choices.{chosen}
use Rattle.law_frame.proofs.pg_run.theory_flood_pieces.Growth.{entry_at_one, flag_one, place_one}
use Rattle.law_order.specs.Saying.{IsSaidCell, IsSaidOf, IsSaidOwn, Saying}
use Rattle.law_order.proofs.Changes.{one_own}
use Rattle.law_order.proofs.FlagsSay.{all_join, all_joined}

module _ (p : Saying) where
  -- ---- a place, a flag

  module _ (s : NamesValue) (f : FileId) (b : Attributes) (held : own_at s f ≡ Some b) (k : IsSaidOf p s) where
    pub said_place : (place : Place) → p.IsPlace f place → IsSaidOf p (raise (join_place s f place) place.stamp.time)
    said_place place here =
        let was = k.own f b held in
        record {
          own = one_own (λ q o. IsSaidOwn p q o) s (join_place s f place) f b (own_with_place place b) (place_one s f b held place)
              (record {
                thing = was.thing;
                place = chosen (p.IsPlace f) (is_before b.place.stamp place.stamp) place b.place here was.place;
                flags = was.flags;
                order = was.order;
              }) k.own;
          cells = λ d g e h. k.cells d g e (sym (place_cell s f place d g) ∙ h);
        }

    pub said_flag : (flag : Flag) → p.IsFlag flag → IsSaidOf p (join_flag s f flag)
    said_flag flag here =
        let was = k.own f b held in
        record {
          own = one_own (λ q o. IsSaidOwn p q o) s (join_flag s f flag) f b (own_with_flag flag b) (flag_one s f b held flag)
              (record {
                thing = was.thing;
                place = was.place;
                flags = all_join p.IsFlag b.flags flag here was.flags;
                order = IsByServer-join_flag flag b.flags was.order;
              }) k.own;
          cells = λ d g e h. k.cells d g e (sym (flag_cell s f flag d g) ∙ h);
        }

  -- ---- an entry

  joined_cell : (o : Option Entry) (e : Entry) → IsSaidCell p e.child e → ((held : Entry) → o ≡ Some held → IsSaidCell p e.child held) → IsSaidCell p e.child (joined_to o e)
  joined_cell None e here there = here
  joined_cell (Some held) e here there =
      let was = there held refl in
      record {
        thing = here.thing;
        child = here.child;
        place = chosen (p.IsPlace e.child) (is_before held.place.stamp e.place.stamp) e.place held.place here.place was.place;
        flags = all_joined p.IsFlag held.flags e.flags was.flags here.flags;
        order = IsByServer-join_flags held.flags e.flags was.order;
      }

  module _ (s : NamesValue) (d : FileId) (b : Attributes) (held : own_at s d ≡ Some b) (e : Entry) (here : IsSaidCell p e.child e) (k : IsSaidOf p s) where
    abbrev Then : NamesValue
    Then = join_entry s d e

    cell_joined : (q g : FileId) (x : Entry) → cell_at Then q g ≡ Some x → IsSaidCell p g x
    cell_joined q g x h = elim (entry_at_one s d b held e q g) [
      | inl same ↦ k.cells q g x (sym same ∙ h)
      | inr one ↦
          let at : cell_at Then d e.child ≡ Some x = ap (λ y. cell_at Then y e.child) (sym one.0) ∙ ap (cell_at Then q) (sym one.1) ∙ h in
          let is : joined_to (cell_at s d e.child) e ≡ x = same_Some (joined_to (cell_at s d e.child) e) x (sym (joined_same s d b e held) ∙ at) in
          let P : FileId → Type 0 = λ y. IsSaidCell p y x in
          let Q : Entry → Type 0 = λ y. IsSaidCell p e.child y in
          subst P (sym one.1) (subst Q is (joined_cell (cell_at s d e.child) e here (λ old i. k.cells d e.child old i)))
    ]

    pub said_entry : IsSaidOf p (raise Then e.place.stamp.time)
    said_entry = record {
      own = λ q o h. k.own q o (sym (joined_own s d e q) ∙ h);
      cells = cell_joined;
    }

  -- ---- a thing begins that was not held

  module _ (s : NamesValue) (f : FileId) (own : Attributes) (full : Bool) (none : known s f ≡ None) (here : IsSaidOwn p f own) (k : IsSaidOf p s) where
    own_by : (q : FileId) (o : Attributes) (t : Bool) → is_same_file q f ≡ t → own_of (cond t (Some (new_held own full)) (known s q)) ≡ Some o → IsSaidOwn p q o
    own_by q o true same h =
        let P : FileId → Type 0 = λ x. IsSaidOwn p x o in
        let Q : Attributes → Type 0 = λ x. IsSaidOwn p f x in
        subst P (sym (is_same_file-true q f same)) (subst Q (same_Some own o h) here)
    own_by q o false apart h = k.own q o h

    pub said_begun : (time : ℕ) → IsSaidOf p (raise (begin s f own full) time)
    said_begun time = record {
      own = λ q o h. own_by q o (is_same_file q f) refl (sym (ap own_of (begun_known s f own full q)) ∙ h);
      cells = λ d g e h. k.cells d g e (sym (begun_cells s f own full none d g) ∙ h);
    }

  -- ---- a thing is full, a stamp is taken, a server is removed

  pub said_filled : (s : NamesValue) (f : FileId) → IsSaidOf p s → IsSaidOf p (fill s f)
  said_filled s f k = record {
    own = λ q o h. k.own q o (sym (fill_own s f q) ∙ h);
    cells = λ d g e h. k.cells d g e (sym (fill_cells s f d g) ∙ h);
  }

  pub said_raised : (s : NamesValue) (time : ℕ) → IsSaidOf p s → IsSaidOf p (raise s time)
  said_raised s time k = record { own = k.own; cells = k.cells }

  -- a server is removed
  pub said_removed : (s : NamesValue) (server : ℕ) → IsSaidOf p s → IsSaidOf p (remove_server s server)
  said_removed s server k = record { own = k.own; cells = k.cells }
