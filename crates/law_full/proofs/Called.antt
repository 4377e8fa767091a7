-- What comes of a call: places and versions that are made, flags, and what asks for a replica or
-- for a gold.
use Rattle.std.proofs.Common.{ℕ, ◌≡◌, true, false, List, Option, None, Some, Ok, refl, sym, ap, subst, ◌∙◌, ◌⊎◌, inl, inr}
use Rattle.std.proofs.lemmas.Bool.{false≢true}
use Rattle.law_frame.specs.pg_run.pg_base.declared.id.FileId.{FileId}
use Rattle.law_frame.specs.pg_run.pg_base.declared.stamp.Stamp.{Stamp}
use Rattle.law_frame.specs.pg_run.pg_patch.Ranges.{RangesValue}
use Rattle.law_frame.specs.pg_run.pg_edges.declared.key.Key.TheVariants as key
use Rattle.law_frame.specs.pg_run.pg_register.declared.place.Place.{Place}
use Rattle.law_frame.specs.pg_run.pg_entries.declared.entry.Entry.{Entry}
use Rattle.law_frame.specs.pg_run.pg_msg.declared.message.Message.TheVariants as message
use Rattle.law_frame.specs.pg_run.pg_msg.declared.update.MadeVersion.{MadeVersion}
use Rattle.law_frame.specs.pg_run.pg_msg.declared.update.Update.TheVariants as update
use Rattle.law_frame.specs.pg_run.pg_msg.declared.work.Work.{Work}
use Rattle.law_frame.specs.pg_run.pg_msg.Work.{with_made}
use Rattle.law_frame.specs.pg_run.pg_call.declared.call.Call.{Call}
use Rattle.law_frame.specs.pg_run.pg_call.declared.call.Call.TheVariants as call
use Rattle.law_frame.specs.pg_run.pg_call.declared.refusal.Refusal.TheVariants.{IsDir}
use Rattle.law_frame.specs.pg_run.pg_names.Names.{cell_at, is_dir, known}
use Rattle.law_frame.specs.pg_run.pg_store.declared.store.Store.{Store}
use Rattle.law_frame.specs.pg_run.pg_store.Births.{draw_birth}
use Rattle.law_frame.specs.pg_run.pg_pieces.Done.{Done, idle}
use Rattle.law_frame.specs.pg_run.pg_pieces.Making.{own_next}
use Rattle.law_frame.specs.pg_run.pg_checks.Answer.{unless}
use Rattle.law_frame.specs.pg_run.pg_checks.Asking.{holder}
use Rattle.law_frame.specs.pg_run.pg_calls.Calls.{do_call}
use Rattle.law_frame.specs.pg_run.pg_checks.Checks.{empty_dir_at, file_at, first_child, thing_at, unless_child}
use Rattle.law_frame.specs.pg_run.pg_calls.Dropping.{leave_of}
use Rattle.law_frame.specs.pg_run.pg_calls.Forgetting.{bare_entry, dead_at, dead_by, lists_by, lists_in}
use Rattle.law_frame.specs.pg_run.pg_calls.Making.{drawn, make_version, version_of}
use Rattle.law_frame.proofs.pg_run.pg_calls.Checked.{behind, no_ok, same_ok, unless_ok}
use Rattle.law_frame.proofs.Called.{call_keeps}
use Rattle.law_frame.proofs.KeepsCalls.{KeepsCalls, MakesPlace}
use Rattle.law_full.proofs.Plain.{entered_sends, intent_sends, plain_sends}
use Rattle.law_full.proofs.Works.{IsClosed, entry_sends, made_sends, place_sends}

-- ---- a call

-- a thing goes: its dead place has the stamp that is drawn now, and a directory shows no child
pub record IsGoing (a : Store) (moment : ℕ) (f : FileId) (p : Place) : Type 0 where
  pub now : p.stamp ≡ drawn a moment
  pub empty : is_dir f ≡ true → first_child f (known a.names f) ≡ None

-- places that a call makes: live ones, and those of things that go; and versions
pub record MayMake (Q : Work → Type 0) (a : Store) (w : Work) : Type 0 where
  pub place : (v : Work) (f : FileId) (p : Place) → (p.live ≡ true) ⊎ IsGoing a w.now f p → Q v → Q (with_made v (update.Place f p))
  pub version : (v : Work) (u : MadeVersion) → Q v → Q (with_made v (update.Version u))

same_dir : (d g : FileId) (o : Option FileId) → unless_child d o ≡ Ok g → (d ≡ g) × (o ≡ None)
same_dir d g None is = (same_ok d g is, refl)
same_dir d g (Some child) is = absurd (no_ok _ g is)

-- a directory that goes shows no child
empty_is : (a : Store) (text : List ℕ) (g : FileId) → empty_dir_at a text ≡ Ok g → first_child g (known a.names g) ≡ None
empty_is a text g is =
    let last = behind _ (λ d. unless_child d (first_child d (known a.names d))) g is in
    let none = same_dir last.0 g (first_child last.0 (known a.names last.0)) last.2 in
    subst (λ (f : FileId). first_child f (known a.names f) ≡ None) none.0 none.1

-- what goes by its file is no directory
file_is : (a : Store) (text : List ℕ) (g : FileId) → file_at a text ≡ Ok g → is_dir g ≡ false
file_is a text g is =
    let last = behind (thing_at a false text) (λ f. unless (is_dir f) IsDir f) g is in
    let none = unless_ok (is_dir last.0) IsDir last.0 g last.2 in
    subst (λ (f : FileId). is_dir f ≡ false) none.1 none.0

-- what is struck out is listed by the directory that tells its place: its dead place has the stamp
-- that is drawn now
listing_is : (a : Store) (id dir : FileId) → lists_in a.names id dir ≡ true → (moment : ℕ) → (dead_at a moment id dir).stamp ≡ drawn a moment
listing_is a id dir lists moment = by (cell_at a.names dir id) refl
  where
    by : (o : Option Entry) → cell_at a.names dir id ≡ o → (dead_at a moment id dir).stamp ≡ drawn a moment
    by None is = absurd (false≢true (ap (lists_by dir) (sym is) ∙ lists))
    by (Some e) is = ap (λ (o : Option Entry). (dead_by a moment o id).stamp) is

-- of a call each place is of a live thing, or of one that goes
made_place : (a : Store) (w : Work) (c : Call) (b : Store) (f : FileId) (p : Place) → MakesPlace a w b c f p → (p.live ≡ true) ⊎ IsGoing a w.now f p
made_place a w (call.Mkdir path) b f p of = inl (ap (λ (q : Place). q.live) of.3)
made_place a w (call.Create path policy) b f p of = inl (ap (λ (q : Place). q.live) of.3)
made_place a w (call.Rename from to) b f p of = inl (ap (λ (q : Place). q.live) of.3)
made_place a w (call.Unlink path) b f p of =
    inr (record { now = ap (λ (q : Place). q.stamp) of.1; empty = λ dir. absurd (false≢true (sym (file_is a path f of.0) ∙ dir)) })
made_place a w (call.Rmdir path) b f p of = inr (record { now = ap (λ (q : Place). q.stamp) of.1; empty = λ dir. empty_is a path f of.0 })
made_place a w (call.Forget id) b f p of = inl (ap (λ (q : Place). q.live) of.1)
made_place a w c b f p of = absurd of

-- a call sends nothing but what asks for a replica, and invites
module _ (Q : Work → Type 0) (k : IsClosed Q) (a : Store) (w : Work) (make : MayMake Q a w) where
  abbrev ByDone : Done → Type 0
  ByDone d = Q d.work

  version_sends : (d : Done) (f : FileId) (stamp : Stamp) (ranges : RangesValue) → ByDone d → ByDone (make_version f stamp ranges d)
  version_sends d f stamp ranges h =
      let u = version_of d.store f stamp ranges in
      k.touched (with_made d.work (update.Version u)) f (key.Version stamp) (make.version d.work u h)

  keeps_sent : (c : Call) → KeepsCalls a w c ByDone ByDone
  keeps_sent c = record {
    wishes = λ found is h. plain_sends Q k a (holder a found) (message.Fetch found.file (draw_birth a)) w refl h;
    asks = λ file wish is some h. plain_sends Q k a wish.target (message.Fetch file wish.birth) w refl h;
    makes_new = λ kind policy path is new h. h;
    makes_place = λ d f p of h. place_sends Q k d.store f p (with_made d.work (update.Place f p)) (make.place d.work f p (made_place a w c d.store f p of) h);
    makes_flag = λ d f raised of h. made_sends Q k d.store f (own_next d.store f raised) d.work h;
    makes_version = λ d f ranges of h. version_sends d f (drawn d.store d.work.now) ranges h;
    begins_leave = λ f flag is h. intent_sends Q k (idle a w) (leave_of f flag) h;
    fills = λ d id is h. h;
    strikes = λ id dir is h. (
        let going : IsGoing a w.now id (dead_at a w.now id dir) = record {
          now = listing_is a id dir is.lists w.now;
          empty = λ d. absurd (false≢true (sym is.file ∙ d));
        } in
        make.place w id (dead_at a w.now id dir) (inr going) h);
    marks = λ d id dir to is h. entry_sends Q k d.store to (bare_entry id (dead_at a w.now id dir)) d.work h;
    begins_lost = λ id own is away h. h;
    enters = λ view server is found h. entered_sends Q k a server w h;
    leaves = λ d h. h;
  }

  pub call_sends : Q w → (c : Call) → Q (do_call a c w).work
  call_sends h c = call_keeps a w ByDone ByDone c (keeps_sent c) h
