-- A flag that the server makes, and the rules behind it: where names are calm nothing but flags
-- changes.
use Rattle.std.proofs.Common.{◌≡◌, Bool, true, false, List, [], ◌∷◌, ◌++◌, drop, length, Option, refl, sym, ap, ◌∙◌, subst, inl, inr, if◌then◌else◌, arith}
use Rattle.std.specs.List.{All}
use Rattle.std.specs.Map.{keys_of}
use Rattle.std.proofs.lemmas.List.{append-nil, append_assoc}
use Rattle.std.proofs.lemmas.List.Elements.{All-append, All-cons}
use Rattle.std.proofs.lemmas.Option.{same_Some}
use Rattle.pg_base.specs.declared.id.FileId.{FileId}
use Rattle.pg_base.specs.Id.{is_same_file}
use Rattle.pg_base.proofs.Orders.{is_same_file-true}
use Rattle.pg_edges.specs.declared.key.Key.TheVariants as key
use Rattle.pg_register.specs.declared.flag.Flag.{Flag}
use Rattle.pg_entries.specs.declared.entry.Entry.{Entry}
use Rattle.pg_pieces.specs.pg_msg.declared.update.Update.{Update}
use Rattle.pg_pieces.specs.pg_msg.declared.update.Update.TheVariants as update
use Rattle.pg_pieces.specs.pg_msg.declared.work.Touched.{Touched}
use Rattle.pg_pieces.specs.pg_msg.declared.work.Work.{Work}
use Rattle.pg_pieces.specs.pg_msg.Work.{with_made}
use Rattle.pg_pieces.specs.pg_names.Names.{NamesValue, cell_at, is_full, join_flag, own_at, with_flag}
use Rattle.pg_pieces.proofs.pg_names.Holding.{full_kept}
use Rattle.pg_pieces.proofs.pg_names.Lookups.{SameFrame, flag_cell, update_frame}
use Rattle.pg_pieces.specs.pg_house.Work.{State, state_of}
use Rattle.pg_pieces.specs.pg_house.House.{house}
use Rattle.pg_pieces.specs.pg_house.Calm.{DiffersByFlags, IsCalm, IsSameOrPlaced, held_place}
use Rattle.pg_pieces.proofs.pg_house.Flagging.{flagged_place}
use Rattle.pg_pieces.proofs.pg_house.Raised.{differs_not, raised_calm, raised_differs}
use Rattle.pg_pieces.proofs.pg_house.Settling.{calm_stays}
use Rattle.pg_pieces.specs.pg_store.declared.store.Store.{Store}
use Rattle.pg_pieces.specs.pg_store.Seen.{removed_of, server_of}
use Rattle.pg_pieces.specs.pg_store.Store.{is_newer_flag, put_flag, touch, with_names}
use Rattle.pg_pieces.specs.pg_store.Together.{birth_at}
use Rattle.pg_pieces.proofs.pg_store.Pairs.{touch_as_before}
use Rattle.pg_pieces.specs.Done.{Done}
use Rattle.pg_pieces.specs.Making.{own_next, raise_flag}
use Rattle.pg_cells.specs.Raised.{DiffersByGolds, IsFlagMade}
use Rattle.pg_cells.specs.Settling.{ruled, touch_all}
use Rattle.pg_pieces.specs.Taking.{with_news}

-- ---- keys are touched

pub touched_names : (ts : List Touched) (b : Store) → (touch_all b ts).names ≡ b.names
touched_names [] b = refl
touched_names (t ∷ ts) b = touched_names ts (touch b t.file t.key)

touched_births : (ts : List Touched) (b : Store) (q : FileId) → birth_at (touch_all b ts) q ≡ birth_at b q
touched_births [] b q = refl
touched_births (t ∷ ts) b q =
    let next = touch b t.file t.key in
    touched_births ts next q ∙ (touch_as_before b t.file t.key).births q

-- all but the tags drawn and the replicas
touched_rest : (ts : List Touched) (b : Store) → touch_all b ts ≡ record b { tags = (touch_all b ts).tags; replicas = (touch_all b ts).replicas }
touched_rest [] b = refl
touched_rest (t ∷ ts) b = touched_rest ts (touch b t.file t.key)

-- ---- from one to the next

pub golds_not : (d : Done) → DiffersByGolds d d
golds_not d = record {
  places = λ q. refl;
  cells = λ q g. inl refl;
  full = λ q. refl;
  keys = refl;
  births = λ q. refl;
  last = refl;
  server = refl;
  removed = refl;
  store = refl;
  made = ([], sym (append-nil d.work.made), λ k u lt. absurd (omega (arith, lt)));
  work = refl;
}

cell_then : (a b c : Option Entry) → IsSameOrPlaced a b → IsSameOrPlaced b c → IsSameOrPlaced a c
cell_then a b c (inl e) (inl g) = inl (g ∙ e)
cell_then a b c (inl e) (inr k) = inr (k.0, k.1, sym e ∙ k.2, k.3, k.4)
cell_then a b c (inr k) (inl g) = inr (k.0, k.1, k.2, g ∙ k.3, k.4)
cell_then a b c (inr k) (inr l) =
    let same : k.1 ≡ l.0 = same_Some k.1 l.0 (sym k.3 ∙ l.2) in
    inr (k.0, l.1, k.2, l.3, l.4 ∙ ap (λ (e : Entry). e.place) (sym same) ∙ k.4)

pub golds_then : (a b c : Done) → DiffersByGolds a b → DiffersByGolds b c → DiffersByGolds a c
golds_then a b c d e = record {
  places = λ q. e.places q ∙ d.places q;
  cells = λ q g. cell_then (cell_at a.store.names q g) (cell_at b.store.names q g) (cell_at c.store.names q g) (d.cells q g) (e.cells q g);
  full = λ q. e.full q ∙ d.full q;
  keys = e.keys ∙ d.keys;
  births = λ q. e.births q ∙ d.births q;
  last = e.last ∙ d.last;
  server = e.server ∙ d.server;
  removed = e.removed ∙ d.removed;
  store = e.store ∙ ap (λ (x : Store). let y : Store = record x { tags = c.store.tags; names = c.store.names; replicas = c.store.replicas } in y) d.store;
  made = (
    d.made.0 ++ e.made.0,
    e.made.1 ∙ ap (λ (us : List Update). us ++ e.made.0) d.made.1 ∙ append_assoc a.work.made d.made.0 e.made.0,
    All-append IsFlagMade d.made.0 e.made.0 d.made.2 e.made.2,
  );
  work = e.work ∙ ap (λ (x : Work). let y : Work = record x { made = c.work.made; touched = c.work.touched } in y) d.work;
}

-- ---- the rules run, and change the cells for a thing alone

module _ (f : FileId) (d : Done) where
  abbrev Before : State
  Before = state_of d.store.names d.work

  abbrev After : State
  After = house d.work.now Before

  abbrev Keys : List Touched
  Keys = drop (length d.work.touched) After.work.touched

  pub ruled_names : (ruled d).store.names ≡ After.names
  ruled_names = touched_names Keys (with_names d.store After.names)

  carried : (Q : NamesValue → Type 0) → Q After.names → Q (ruled d).store.names
  carried Q q = subst Q (sym ruled_names) q

  cell_by : DiffersByFlags f Before After → (q g : FileId) (t : Bool) → is_same_file f g ≡ t → IsSameOrPlaced (cell_at d.store.names q g) (cell_at After.names q g)
  cell_by k q g false apart = inl (k.others q g apart)
  cell_by k q g true same =
      subst (λ (x : FileId). IsSameOrPlaced (cell_at d.store.names q x) (cell_at After.names q x)) (is_same_file-true f g same) (k.cells q)

  ruled_golds : DiffersByFlags f Before After → DiffersByGolds d (ruled d)
  ruled_golds k =
      let made : After.work.made ≡ d.work.made = ap (λ (w : Work). w.made) k.work in
      record {
        places = λ q. carried (λ n. held_place (own_at n q) ≡ held_place (own_at d.store.names q)) (ap held_place (k.own q));
        cells = λ q g. carried (λ n. IsSameOrPlaced (cell_at d.store.names q g) (cell_at n q g)) (cell_by k q g (is_same_file f g) refl);
        full = λ q. carried (λ n. is_full n q ≡ is_full d.store.names q) (k.full q);
        keys = carried (λ n. keys_of n.held ≡ keys_of d.store.names.held) k.keys;
        births = λ q. touched_births Keys (with_names d.store After.names) q;
        last = carried (λ n. n.last ≡ d.store.names.last) k.last;
        server = carried (λ n. n.server ≡ server_of d.store) k.server;
        removed = carried (λ n. n.removed ≡ removed_of d.store) k.removed;
        store = touched_rest Keys (with_names d.store After.names)
            ∙ ap (λ (n : NamesValue). let y : Store = record d.store { tags = (ruled d).store.tags; names = n; replicas = (ruled d).store.replicas } in y) (sym ruled_names);
        made = ([], made ∙ sym (append-nil d.work.made), λ i u lt. absurd (omega (arith, lt)));
        work = k.work ∙ ap (λ (us : List Update). let y : Work = record d.work { made = us; touched = After.work.touched } in y) (sym made);
      }

-- ---- the server makes its flag, and the rules run

module _ (f : FileId) (d : Done) (calm : IsCalm d.store.names) where
  abbrev pub Made : Flag
  Made = own_next d.store f true

  one_made : All IsFlagMade (update.Flag f Made ∷ [])
  one_made = All-cons IsFlagMade (update.Flag f Made) [] (f, Made, refl) (λ k u lt. absurd (omega (arith, lt)))

  -- where it is news, and where it is not
  abbrev pub Raised : Bool → Done
  Raised news = record {
    store = if news then put_flag d.store f Made else d.store;
    work = with_news news (with_made d.work (update.Flag f Made)) f (key.Flag Made.server);
  }

  made_golds : (news : Bool) → DiffersByGolds d (Raised news)
  made_golds true =
      let frame : SameFrame (join_flag d.store.names f Made) d.store.names = update_frame d.store.names f (with_flag Made) in
      record {
        places = λ q. flagged_place d.store.names f Made q;
        cells = λ q g. inl (flag_cell d.store.names f Made q g);
        full = λ q. full_kept d.store.names f (with_flag Made) (λ x. refl) q;
        keys = frame.keys;
        births = λ q. (touch_as_before (with_names d.store (join_flag d.store.names f Made)) f (key.Flag Made.server)).births q;
        last = frame.last;
        server = frame.server;
        removed = frame.removed;
        store = refl;
        made = (update.Flag f Made ∷ [], refl, one_made);
        work = refl;
      }
  made_golds false = record {
    places = λ q. refl;
    cells = λ q g. inl refl;
    full = λ q. refl;
    keys = refl;
    births = λ q. refl;
    last = refl;
    server = refl;
    removed = refl;
    store = refl;
    made = (update.Flag f Made ∷ [], refl, one_made);
    work = refl;
  }

  abbrev Start : Bool → State
  Start news = state_of (Raised news).store.names (Raised news).work

  abbrev End : Bool → State
  End news = house (Raised news).work.now (Start news)

  flags_pass : (news : Bool) → (DiffersByFlags f (Start news) (End news)) × IsCalm (End news).names
  flags_pass true =
      let st = state_of d.store.names (Raised true).work in
      (raised_differs st.work.now st f Made calm, raised_calm st.work.now st f Made calm)
  flags_pass false =
      let st = Start false in
      let e : st ≡ End false = sym (calm_stays st.work.now st calm) in
      (subst (DiffersByFlags f st) e (differs_not f st), subst (λ (u : State). IsCalm u.names) e calm)

  abbrev News : Bool
  News = is_newer_flag d.store f Made

  abbrev pub Then : Done
  Then = ruled (raise_flag d.store f d.work)

  pub raised_golds : DiffersByGolds d Then
  raised_golds = golds_then d (Raised News) Then (made_golds News) (ruled_golds f (Raised News) (flags_pass News).0)

  pub raised_calm_again : IsCalm Then.store.names
  raised_calm_again = subst IsCalm (sym (ruled_names f (Raised News))) (flags_pass News).1

  -- the own places and flags are those with the flag
  pub raised_own : (q : FileId) → own_at Then.store.names q ≡ own_at (Raised News).store.names q
  raised_own q = ap (λ (n : NamesValue). own_at n q) (ruled_names f (Raised News)) ∙ (flags_pass News).0.own q
