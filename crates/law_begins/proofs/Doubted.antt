-- What a cell leaves of whose place its sender is not sure: the child's cell is noted, where the
-- place is news.
use Rattle.std.proofs.Common.{ℕ, ◌≡◌, ◌&&◌, ◌++◌, ◌⊎◌, Bool, true, false, cond, not, List, [], ◌∷◌, Option, None, Some, inl, inr, refl, sym, ap, subst, ◌∙◌}
use Rattle.std.proofs.lemmas.Bool.{false≢true}
use Rattle.std.proofs.lemmas.Option.{none-some, same_Some}
use Rattle.law_frame.specs.pg_run.pg_base.declared.id.FileId.{FileId}
use Rattle.law_frame.specs.pg_run.pg_base.Stamp.{is_before}
use Rattle.law_frame.specs.pg_run.pg_entries.declared.cell.Cell.TheVariants as cells
use Rattle.law_frame.specs.pg_run.pg_entries.declared.entry.Entry.{Entry}
use Rattle.law_frame.specs.pg_run.pg_entries.Entry.{covers as covers_entry, entry_of}
use Rattle.law_frame.specs.pg_run.pg_intent.declared.key.IntentKey.{IntentKey}
use Rattle.law_frame.specs.pg_run.pg_intent.Intents.{intent_at}
use Rattle.law_frame.specs.pg_run.pg_msg.declared.message.Ends.{Ends}
use Rattle.law_frame.specs.pg_run.pg_msg.declared.work.Slot.{Slot}
use Rattle.law_frame.specs.pg_run.pg_msg.declared.work.Work.{Work}
use Rattle.law_frame.specs.pg_run.pg_msg.Work.{with_unsure}
use Rattle.law_frame.specs.pg_run.pg_names.Names.{InodeValue, NamesValue, entry_in, known}
use Rattle.law_frame.specs.pg_run.pg_cells.Cells.{cell, fits, taken_along}
use Rattle.law_frame.specs.pg_run.pg_pieces.declared.accepting.EdgeUse.TheVariants as manner
use Rattle.law_frame.specs.pg_run.pg_pieces.Accepting.{accept, is_accepted, link_peer, with_gone}
use Rattle.law_frame.specs.pg_run.pg_pieces.Done.{Done, idle}
use Rattle.law_frame.specs.pg_run.pg_pieces.Taking.{is_place_news, take_entry_noted}
use Rattle.law_frame.specs.pg_run.pg_store.declared.store.Store.{Store}
use Rattle.law_frame.specs.pg_run.pg_store.declared.taking.EntryNews.TheVariants as news
use Rattle.law_frame.specs.pg_run.pg_store.Births.{has_birth}
use Rattle.law_frame.specs.pg_run.pg_store.Links.{is_new_link, knows_later, put_link}
use Rattle.law_frame.specs.pg_run.pg_store.Store.{entry_news, news_beside, news_in}
use Rattle.law_frame.proofs.pg_run.theory_flood_pieces.Choices.{chosen}
use Rattle.law_begins.specs.Confirms.{IsLater}
use Rattle.law_begins.proofs.Pieces.{IsPlain, Rests, accept_makes, entry_none, entry_rests}

-- ---- news of a place is a later one

later_by : (old e : Entry) (t : Bool) → is_before old.place.stamp e.place.stamp ≡ t
    → is_place_news (cond t news.Place (cond (covers_entry old e) news.Nothing news.Flags)) ≡ true
    → t ≡ true
later_by old e true is h = refl
later_by old e false is h = absurd (false≢true (sym (none (covers_entry old e)) ∙ h))
  where
    none : (t : Bool) → is_place_news (cond t news.Nothing news.Flags) ≡ false
    none true = refl
    none false = refl

later_in : (o : Option InodeValue) (e old : Entry) → is_place_news (news_in o e) ≡ true → entry_in e.child o ≡ Some old
    → is_before old.place.stamp e.place.stamp ≡ true
later_in None e old h there = absurd (none-some old there)
later_in (Some x) e old h there = by (entry_of x.entries e.child) there h
  where
    by : (c : Option Entry) → c ≡ Some old → is_place_news (news_beside c e) ≡ true → is_before old.place.stamp e.place.stamp ≡ true
    by None none h = absurd (none-some old none)
    by (Some held) same h =
        ap (λ (z : Entry). is_before z.place.stamp e.place.stamp) (sym (same_Some held old same))
        ∙ later_by held e (is_before held.place.stamp e.place.stamp) refl h

-- ---- a message that is accepted leaves names

same_names : (a : Store) (x : Ends) (w : Work) → (accept a x manner.Makes w).store.names ≡ a.names
same_names a x w =
    let P : Done → Type 0 = λ d. d.store.names ≡ a.names in
    let late = knows_later a x.file w.from x.sender in
    let met = link_peer a x.file w.from x.sender w in
    chosen P (has_birth a x.file x.receiver) (cond late (idle a w) met) (idle a (with_gone a x manner.Makes w))
    (chosen P late (idle a w) met refl
    (chosen (λ (b : Store). b.names ≡ a.names) (is_new_link a x.file w.from x.sender) (put_link a x.file w.from x.sender) a refl refl))
    refl

abbrev slot_of : FileId → Entry → Slot
slot_of dir e = record { dir = dir; child = e.child }

module _ (k : IntentKey) (plain : IsPlain k) where
  -- none stands, and nothing is noted, or this, where its place is news
  pub record Doubted (a : Store) (dir : FileId) (e : Entry) (d : Done) : Type 0 where
    pub none : intent_at d.store.intents k ≡ None
    pub noted : (d.work.unsure ≡ []) ⊎ ((d.work.unsure ≡ slot_of dir e ∷ []) × IsLater a dir e)

  rested : (a : Store) (dir : FileId) (e : Entry) (d : Done) → Rests k plain d → Doubted a dir e d
  rested a dir e d h = record { none = h.0; noted = inl h.1 }

  module _ (a : Store) (x : Ends) (tag : ℕ) (e : Entry) (w : Work) (h : Rests k plain (idle a w)) where
    abbrev Met : Done
    Met = accept a x manner.Makes w

    abbrev Noted : Work
    Noted = (take_entry_noted Met.store x.file e Met.work).work

    ok : Rests k plain Met
    ok = accept_makes k plain a x w h

    is_later : is_place_news (entry_news Met.store x.file e) ≡ true → IsLater a x.file e
    is_later news old there =
        later_in (known a.names x.file) e old
        (subst (λ (n : NamesValue). is_place_news (news_in (known n x.file) e) ≡ true) (same_names a x w) news) there

    with_doubt_by : (t : Bool) → is_place_news (entry_news Met.store x.file e) ≡ t
        → ((cond (t && not false) (with_unsure Noted x.file e.child) Noted).unsure ≡ [])
        ⊎ (((cond (t && not false) (with_unsure Noted x.file e.child) Noted).unsure ≡ slot_of x.file e ∷ []) × IsLater a x.file e)
    with_doubt_by true news =
        inr (ap (λ (ss : List Slot). ss ++ slot_of x.file e ∷ []) (entry_rests k plain Met.store x.file e Met.work ok).1, is_later news)
    with_doubt_by false news = inl (entry_rests k plain Met.store x.file e Met.work ok).1

    taken_doubted : Doubted a x.file e (taken_along x tag (cells.Entry e false) Met)
    taken_doubted = record {
      none = entry_none k plain Met.store x.file e ok.0;
      noted = with_doubt_by (is_place_news (entry_news Met.store x.file e)) refl;
    }

    pub doubted : Doubted a x.file e (cell a x tag (cells.Entry e false) w)
    doubted =
        let P = Doubted a x.file e in
        let t = is_accepted a w.from manner.Makes x in
        let c = cells.Entry e false in
        chosen P (fits x.file c) (cond t (taken_along x tag c Met) Met) (idle a w)
        (chosen P t (taken_along x tag c Met) Met taken_doubted (rested a x.file e Met ok))
        (rested a x.file e (idle a w) h)
