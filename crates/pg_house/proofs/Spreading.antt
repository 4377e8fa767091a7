-- What the directories have after the greatest cell of a file was spread to them.
use Rattle.std.proofs.Common.{◌≡◌, Bool, true, false, ◌&&◌, ◌||◌, List, [], ◌∷◌, Option, None, Some, refl, sym, ap, ◌∙◌, subst, inl, inr, ◌⊎◌}
use Rattle.std.proofs.lemmas.Bool.{false≢true, and_right, and_from, not-false, or_left, or_right}
use Rattle.std.proofs.lemmas.Option.{same_Some}
use Rattle.pg_base.specs.declared.id.FileId.{FileId}
use Rattle.pg_base.specs.Id.{is_same_file}
use Rattle.pg_base.proofs.Orders.{is_same_file-true}
use Rattle.pg_entries.specs.declared.entry.Entry.{Entry}
use Rattle.pg_names.specs.declared.attributes.Attributes.{Attributes}
use Rattle.pg_names.specs.Names.{own_at, cell_at, with_entry}
use Rattle.pg_names.proofs.Lookups.{SameFrame, SameFrame-refl, SameFrame-trans, entry_own, entry_same, entry_other_dir, entry_other_child, update_frame}
use Rattle.pg_names.specs.Same.{is_same_entry}
use Rattle.pg_names.proofs.Alike.{entry-true}
use Rattle.pg_house.specs.Work.{State}
use Rattle.pg_house.specs.Passing.{cell_for, differs, gets, wants, is_cell, is_in, is_update, given, offered, spread}
use Rattle.pg_house.proofs.Truths.{chosen, chosen_false, chosen_true, bool_cases}
use Rattle.pg_house.specs.Facts.{is_among}

-- ---- one directory

pub offered_own : (st : State) (f : FileId) (own top : Attributes) (back : Bool) (d q : FileId) → own_at (offered st f own top back d).names q ≡ own_at st.names q
offered_own st f own top back d q = chosen (λ (s : State). own_at s.names q ≡ own_at st.names q) (gets st.names f own top back d) (given st f top d) st (entry_own st.names d (cell_for f top) q) refl

pub offered_frame : (st : State) (f : FileId) (own top : Attributes) (back : Bool) (d : FileId) → SameFrame (offered st f own top back d).names st.names
offered_frame st f own top back d = chosen (λ (s : State). SameFrame s.names st.names) (gets st.names f own top back d) (given st f top d) st (update_frame st.names d (with_entry (cell_for f top))) (SameFrame-refl st.names)

pub offered_child : (st : State) (f : FileId) (own top : Attributes) (back : Bool) (d q g : FileId) → is_same_file g f ≡ false → cell_at (offered st f own top back d).names q g ≡ cell_at st.names q g
offered_child st f own top back d q g apart = chosen (λ (s : State). cell_at s.names q g ≡ cell_at st.names q g) (gets st.names f own top back d) (given st f top d) st (entry_other_child st.names d (cell_for f top) q g apart) refl

pub offered_dir : (st : State) (f : FileId) (own top : Attributes) (back : Bool) (d q g : FileId) → is_same_file d q ≡ false → cell_at (offered st f own top back d).names q g ≡ cell_at st.names q g
offered_dir st f own top back d q g apart = chosen (λ (s : State). cell_at s.names q g ≡ cell_at st.names q g) (gets st.names f own top back d) (given st f top d) st (entry_other_dir st.names d (cell_for f top) q g apart) refl

-- a cell that is not another is the greatest
pub differs_not : (o : Option Entry) (c : Entry) → differs o c ≡ false → o ≡ Some c
differs_not None c h = absurd (false≢true (sym h))
differs_not (Some x) c h = ap Some (entry-true x c (not-false (is_same_entry x c) h))

gives_by : (st : State) (f : FileId) (own top : Attributes) (back : Bool) (d : FileId) (b : Attributes) → own_at st.names d ≡ Some b → wants st.names f own top back d ≡ true → (t : Bool) → differs (cell_at st.names d f) (cell_for f top) ≡ t → cell_at (offered st f own top back d).names d f ≡ Some (cell_for f top)
gives_by st f own top back d b held w true e =
    ap (λ (s : State). cell_at s.names d f) (chosen_true (gets st.names f own top back d) (given st f top d) st (and_from (wants st.names f own top back d) _ w e)) ∙ entry_same st.names d b (cell_for f top) held
gives_by st f own top back d b held w false e =
    ap (λ (s : State). cell_at s.names d f) (chosen_false (gets st.names f own top back d) (given st f top d) st (and_right (wants st.names f own top back d) _ e)) ∙ differs_not (cell_at st.names d f) (cell_for f top) e

offered_gives : (st : State) (f : FileId) (own top : Attributes) (back : Bool) (d : FileId) (b : Attributes) → own_at st.names d ≡ Some b → wants st.names f own top back d ≡ true → cell_at (offered st f own top back d).names d f ≡ Some (cell_for f top)
offered_gives st f own top back d b held w = gives_by st f own top back d b held w (differs (cell_at st.names d f) (cell_for f top)) refl

-- a cell that is the greatest stays so
given_keeps : (st : State) (f : FileId) (top : Attributes) (d q : FileId) (b : Attributes) (t : Bool) → is_same_file d q ≡ t → own_at st.names q ≡ Some b → cell_at st.names q f ≡ Some (cell_for f top) → cell_at (given st f top d).names q f ≡ Some (cell_for f top)
given_keeps st f top d q b true same held h = subst (λ k. cell_at (given st f top k).names q f ≡ Some (cell_for f top)) (sym (is_same_file-true d q same)) (entry_same st.names q b (cell_for f top) held)
given_keeps st f top d q b false apart held h = entry_other_dir st.names d (cell_for f top) q f apart ∙ h

offered_keeps : (st : State) (f : FileId) (own top : Attributes) (back : Bool) (d q : FileId) (b : Attributes) → own_at st.names q ≡ Some b → cell_at st.names q f ≡ Some (cell_for f top) → cell_at (offered st f own top back d).names q f ≡ Some (cell_for f top)
offered_keeps st f own top back d q b held h =
    chosen (λ (s : State). cell_at s.names q f ≡ Some (cell_for f top)) (gets st.names f own top back d) (given st f top d) st (given_keeps st f top d q b (is_same_file d q) refl held h) h

-- a cell that is there afterwards is the greatest, or it was there before
given_cell : (st : State) (f : FileId) (top : Attributes) (d q : FileId) (b : Attributes) (c : Entry) (t : Bool) → is_same_file d q ≡ t → own_at st.names q ≡ Some b → cell_at (given st f top d).names q f ≡ Some c → (c ≡ cell_for f top) ⊎ (cell_at st.names q f ≡ Some c)
given_cell st f top d q b c true same held h =
    inl (same_Some c (cell_for f top) (sym h ∙ subst (λ k. cell_at (given st f top k).names q f ≡ Some (cell_for f top)) (sym (is_same_file-true d q same)) (entry_same st.names q b (cell_for f top) held)))
given_cell st f top d q b c false apart held h = inr (sym (entry_other_dir st.names d (cell_for f top) q f apart) ∙ h)

pub offered_cell : (st : State) (f : FileId) (own top : Attributes) (back : Bool) (d q : FileId) (b : Attributes) (c : Entry) → own_at st.names q ≡ Some b → cell_at (offered st f own top back d).names q f ≡ Some c → (c ≡ cell_for f top) ⊎ (cell_at st.names q f ≡ Some c)
offered_cell st f own top back d q b c held =
    chosen (λ (s : State). cell_at s.names q f ≡ Some c → (c ≡ cell_for f top) ⊎ (cell_at st.names q f ≡ Some c)) (gets st.names f own top back d) (given st f top d) st
    (λ h. given_cell st f top d q b c (is_same_file d q) refl held h) (λ h. inr h)

-- ---- all directories

pub spread_own : (st : State) (f : FileId) (own top : Attributes) (back : Bool) (ds : List FileId) (q : FileId) → own_at (spread st f own top back ds).names q ≡ own_at st.names q
spread_own st f own top back [] q = refl
spread_own st f own top back (d ∷ ds) q = spread_own (offered st f own top back d) f own top back ds q ∙ offered_own st f own top back d q

pub spread_frame : (st : State) (f : FileId) (own top : Attributes) (back : Bool) (ds : List FileId) → SameFrame (spread st f own top back ds).names st.names
spread_frame st f own top back [] = SameFrame-refl st.names
spread_frame st f own top back (d ∷ ds) = SameFrame-trans (spread_frame (offered st f own top back d) f own top back ds) (offered_frame st f own top back d)

pub spread_child : (st : State) (f : FileId) (own top : Attributes) (back : Bool) (ds : List FileId) (q g : FileId) → is_same_file g f ≡ false → cell_at (spread st f own top back ds).names q g ≡ cell_at st.names q g
spread_child st f own top back [] q g apart = refl
spread_child st f own top back (d ∷ ds) q g apart = spread_child (offered st f own top back d) f own top back ds q g apart ∙ offered_child st f own top back d q g apart

spread_keeps : (st : State) (f : FileId) (own top : Attributes) (back : Bool) (ds : List FileId) (q : FileId) (b : Attributes) → own_at st.names q ≡ Some b → cell_at st.names q f ≡ Some (cell_for f top) → cell_at (spread st f own top back ds).names q f ≡ Some (cell_for f top)
spread_keeps st f own top back [] q b held h = h
spread_keeps st f own top back (d ∷ ds) q b held h =
    spread_keeps (offered st f own top back d) f own top back ds q b (offered_own st f own top back d q ∙ held) (offered_keeps st f own top back d q b held h)

pub spread_cell : (st : State) (f : FileId) (own top : Attributes) (back : Bool) (ds : List FileId) (q : FileId) (b : Attributes) (c : Entry) → own_at st.names q ≡ Some b → cell_at (spread st f own top back ds).names q f ≡ Some c → (c ≡ cell_for f top) ⊎ (cell_at st.names q f ≡ Some c)
spread_cell st f own top back [] q b c held h = inr h
spread_cell st f own top back (d ∷ ds) q b c held h =
    elim (spread_cell (offered st f own top back d) f own top back ds q b c (offered_own st f own top back d q ∙ held) h) [
      | inl same ↦ inl same
      | inr before ↦ offered_cell st f own top back d q b c held before
    ]

-- each directory that is to have a cell has the greatest
still_wants : (st : State) (f : FileId) (own top : Attributes) (back : Bool) (d q : FileId) → is_same_file d q ≡ false → wants st.names f own top back q ≡ true → wants (offered st f own top back d).names f own top back q ≡ true
still_wants st f own top back d q apart w =
    ap (λ o. is_cell o || ((is_update top.place && is_in q top.place) || (back && (own.place.live && is_in q own.place)))) (offered_dir st f own top back d q f apart) ∙ w

pub spread_gives : (st : State) (f : FileId) (own top : Attributes) (back : Bool) (ds : List FileId) (q : FileId) (b : Attributes) → own_at st.names q ≡ Some b → is_among q ds ≡ true → wants st.names f own top back q ≡ true → cell_at (spread st f own top back ds).names q f ≡ Some (cell_for f top)
spread_gives st f own top back [] q b held h w = absurd (false≢true h)
spread_gives st f own top back (d ∷ ds) q b held h w =
    let next = offered st f own top back d in
    let now = offered_own st f own top back d q ∙ held in
    elim (bool_cases (is_same_file d q)) [
      | inl same ↦ spread_keeps next f own top back ds q b now (subst (λ k. cell_at (offered st f own top back k).names q f ≡ Some (cell_for f top)) (sym (is_same_file-true d q same)) (offered_gives st f own top back q b held w))
      | inr apart ↦ spread_gives next f own top back ds q b now (sym (ap (λ t. t || is_among q ds) apart) ∙ h) (still_wants st f own top back d q apart w)
    ]

-- a directory with a cell is one of these, or had it before
pub spread_new : (st : State) (f : FileId) (own top : Attributes) (back : Bool) (ds : List FileId) (q : FileId) (c : Entry) → cell_at (spread st f own top back ds).names q f ≡ Some c → (is_among q ds ≡ true) ⊎ (cell_at st.names q f ≡ Some c)
spread_new st f own top back [] q c h = inr h
spread_new st f own top back (d ∷ ds) q c h =
    elim (bool_cases (is_same_file d q)) [
      | inl same ↦ inl (or_left (is_same_file d q) (is_among q ds) same)
      | inr apart ↦ elim (spread_new (offered st f own top back d) f own top back ds q c h) [
        | inl among ↦ inl (or_right (is_same_file d q) (is_among q ds) among)
        | inr old ↦ inr (sym (offered_dir st f own top back d q f apart) ∙ old)
      ]
    ]
